use Rattle.std.proofs.Common.{rules, ◌≡◌, ◌+◌, ◌≤◌, length, take, drop, refl, ap, arith, length-append, length-take, length-drop}
use Rattle.std.proofs.lemmas.List.{drop_all}
use Rattle.icet_base.proofs.ReadBytes.{read_gives}
use Rattle.icet_base.proofs.memory.MemSourceSource.read.Goals as goal

pub returns-clause-reads : goal.returns-clause-reads
returns-clause-reads c =
    let within : c.self.inside.at + c.min-n.result ≤ length c.self.inside.bytes.items = search rules in
    let copied : c.copy_from_slice.new.self ≡ take c.min-n.result (drop c.self.inside.at c.self.inside.bytes.items) = grind rules in
    let ended : c.min-n.result ≡ 0 → length c.self.inside.bytes.items ≤ c.self.inside.at + c.min-n.result = λ none. search rules in
    record {
      count = omega (arith, length-append c.copy_from_slice.new.self (drop c.min-n.result c.args.buf.now), ap length copied, length-take c.min-n.result (drop c.self.inside.at c.self.inside.bytes.items), length-drop c.self.inside.at c.self.inside.bytes.items, within);
      bytes = (
        rw (← c.self.view_is) (read_gives c.self.inside.bytes.items c.copy_from_slice.new.self c.args.buf.now c.self.inside.at c.min-n.result within copied),
        λ none some. drop_all (c.self.inside.at + c.min-n.result) c.self.inside.bytes.items (ended none),
      );
      cause = rw (← c.self.view_is) (record { later = omega arith; well = refl; failed = tt });
    }
