-- A source read piece by piece.
use Rattle.std.proofs.Common.{◌≡◌, ℕ, ◌≤◌, List, [], ◌++◌, length, take, ◌∙◌, sym, subst, arith, length-append, length-take}
use Rattle.std.specs.Io.KnownBytes.{Consumes, Keeps}
use Rattle.std.proofs.KnownBytes.{Consumes-nil, Consumes-trans, Consumes-kept}
use Rattle.icet_model.specs.declared.limits.TheConstants.{MAX_READ, MAX_SCENE_BYTES}
use Rattle.icet_model.specs.Streams.{SourceView}
use Rattle.icet_cli.specs.SceneBytes.{HasRead, ReadsFew}

-- one piece more, where no more than a scene may have was read before
pub read_more : (a b c : SourceView) (all piece : List ℕ) (n : ℕ) → HasRead a b all → length all ≤ MAX_SCENE_BYTES → length piece ≡ MAX_READ → Consumes b.left c.left (take n piece) → c.faults ≡ b.faults → HasRead a c (all ++ take n piece)
read_more a b c all piece n read short full more well = record {
  consumed = Consumes-trans a.left b.left c.left all (take n piece) read.consumed more;
  few = omega (arith, length-append all (take n piece), length-take n piece, short, full);
  well = well ∙ read.well;
}

pub few_read : (a b : SourceView) (all : List ℕ) → HasRead a b all → ReadsFew a b
few_read a b all read = record { bytes = all; consumed = read.consumed; few = read.few }

-- a source that was left alone
pub nothing_read : (a b : SourceView) → b ≡ a → ReadsFew a b
nothing_read a b same = subst (ReadsFew a) (sym same) (record { bytes = []; consumed = Consumes-nil a.left; few = omega arith })

-- a read that failed behind these bytes
pub few_kept : (a b c : SourceView) (all : List ℕ) → HasRead a b all → Keeps b.left c.left → ReadsFew a c
few_kept a b c all read same = record { bytes = all; consumed = Consumes-kept a.left b.left c.left all read.consumed same; few = read.few }
