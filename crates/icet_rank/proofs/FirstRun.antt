-- A machine at the start of its program.
use Rattle.std.proofs.Common.{◌≡◌, ℕ, ◌<◌, ◌^◌, Bool, true, false, cond, List, [], ◌∷◌, length, refl, ap, arith, Option, None}
use Rattle.std.specs.Prelude.{◌==◌}
use Rattle.std.specs.List.{AllByRecursion}
use mathlib.Core.Path.{fun_ext}
use Rattle.icet_model.specs.declared.names.Mode.{Mode}
use Rattle.icet_model.specs.declared.exchange.Op.{Op}
use Rattle.icet_model.specs.Pixel.{Pixel}
use Rattle.icet_model.specs.Run.{Piece}
use Rattle.icet_model.specs.Ports.{messages_to, at_list}
use Rattle.icet_rank.specs.Machine.{Names, IsRunning, IsReadyToRun}
use Rattle.icet_model.specs.Wires.{PortView}

none_yet : (ports : List (ℕ × PortView)) → AllByRecursion (λ e. e.1.messages ≡ []) ports → (q : ℕ) → messages_to ports q ≡ []
none_yet [] a q = refl
none_yet (e ∷ es) a q = go (e.0 == q) (none_yet es a.1 q)
  where
    go : (b : Bool) → messages_to es q ≡ [] → cond b e.1.messages (messages_to es q) ≡ []
    go true h = a.0
    go false h = h

pub starts : {number : ℕ} {mode : Mode} {ops : List Op} {images : List (Piece (List Pixel))} {inboxes outboxes : List (ℕ × PortView)} (r : IsReadyToRun number mode ops images inboxes outboxes) (slots : List (Option (Piece (List Pixel)))) → ((k : ℕ) → at_list slots k ≡ None) → AllByRecursion (Names (length slots)) ops → length ops < 2 ^ 32 → IsRunning (record { number = number; mode = mode; ops = ops; place = 0; counter = 0; images = images; slots = slots; kept = []; inboxes = inboxes; outboxes = outboxes })
starts {inboxes = inboxes} {outboxes = outboxes} r slots empty named short = record {
  runs = record {
    is_at = record {
      slots_are = fun_ext empty;
      kept_are = refl;
      sent_are = λ q. none_yet outboxes r.none_sent q;
      used_are = λ q. ap length (none_yet inboxes r.none_taken q);
    };
    within = omega arith;
    count = refl;
    in_ascend = r.in_ascend;
    out_ascend = r.out_ascend;
    in_rooms = r.in_rooms;
    out_rooms = r.out_rooms;
    fits = r.fits;
    named = named;
  };
  images = r.whole;
  short = short;
}
