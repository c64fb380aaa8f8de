-- The text of a pair, put part by part.
use Rattle.std.proofs.Common.{◌≡◌, List, ◌++◌, ℕ, codes, Result, Ok, Err, refl}
use Rattle.icet_model.specs.declared.bracket.Bracket.{Bracket}
use Rattle.icet_model.specs.declared.bracket.Bracket.TheVariants.{Pair}
use Rattle.icet_model.specs.Streams.{SinkView}
use Rattle.icet_base.specs.PenText.{Puts}
use Rattle.icet_base.specs.declared.faults.WriteFault.{WriteFault}
use Rattle.icet_base.specs.declared.pen.Pen.{Pen}
use Rattle.icet_base.proofs.GrowingBytes.{puts_then, puts_failed}
use Rattle.icet_plan_text.specs.PlanTexts.{bracket_text}

-- five texts, one behind the other
abbrev pub five : (a b c d e : List ℕ) → List ℕ
five a b c d e = (((a ++ b) ++ c) ++ d) ++ e

pub pair_text : (front back : Bracket) → bracket_text (Pair front back) ≡ five (codes "(") (bracket_text front) (codes " ") (bracket_text back) (codes ")")
unfolding Rattle.icet_model.specs.declared.bracket.Bracket.TheBlock.hidden-the_row-Bracket-0 denote.Hole.Carrier.hidden
pair_text front back = refl

module _ {K : Type 0} (told : K → SinkView) (s t u v w : List ℕ) where
  pub first_failed : (a b : Pen K) (e : WriteFault) → Puts told a b (Err e) s → Puts told a b (Err e) (five s t u v w)
  first_failed a b e h = puts_failed told a b e (((s ++ t) ++ u) ++ v) w (puts_failed told a b e ((s ++ t) ++ u) v (puts_failed told a b e (s ++ t) u (puts_failed told a b e s t h)))

  pub second_failed : (a b c : Pen K) (e : WriteFault) → Puts told a b (Ok tt) s → Puts told b c (Err e) t → Puts told a c (Err e) (five s t u v w)
  second_failed a b c e f h = puts_failed told a c e (((s ++ t) ++ u) ++ v) w (puts_failed told a c e ((s ++ t) ++ u) v (puts_failed told a c e (s ++ t) u (puts_then told a b c (Err e) s t f h)))

  pub third_failed : (a b c d : Pen K) (e : WriteFault) → Puts told a b (Ok tt) s → Puts told b c (Ok tt) t → Puts told c d (Err e) u → Puts told a d (Err e) (five s t u v w)
  third_failed a b c d e f g h = puts_failed told a d e (((s ++ t) ++ u) ++ v) w (puts_failed told a d e ((s ++ t) ++ u) v (puts_then told a c d (Err e) (s ++ t) u (puts_then told a b c (Ok tt) s t f g) h))

  pub fourth_failed : (a b c d z : Pen K) (e : WriteFault) → Puts told a b (Ok tt) s → Puts told b c (Ok tt) t → Puts told c d (Ok tt) u → Puts told d z (Err e) v → Puts told a z (Err e) (five s t u v w)
  fourth_failed a b c d z e f g h i = puts_failed told a z e (((s ++ t) ++ u) ++ v) w (puts_then told a d z (Err e) ((s ++ t) ++ u) v (puts_then told a c d (Ok tt) (s ++ t) u (puts_then told a b c (Ok tt) s t f g) h) i)

  pub all_put : (a b c d y z : Pen K) (r : Result (Unit {0}) WriteFault) → Puts told a b (Ok tt) s → Puts told b c (Ok tt) t → Puts told c d (Ok tt) u → Puts told d y (Ok tt) v → Puts told y z r w → Puts told a z r (five s t u v w)
  all_put a b c d y z r f g h i j = puts_then told a y z r (((s ++ t) ++ u) ++ v) w (puts_then told a d y (Ok tt) ((s ++ t) ++ u) v (puts_then told a c d (Ok tt) (s ++ t) u (puts_then told a b c (Ok tt) s t f g) h) i) j
