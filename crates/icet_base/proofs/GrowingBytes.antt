-- Known bytes that grow: one piece after the other, and what stays at the front.
use Rattle.std.proofs.Common.{◌≡◌, ℕ, ◌+◌, ◌-◌, ◌≤◌, List, ◌++◌, length, take, drop, Option, Some, None, Result, Ok, Err, refl, sym, ap, ◌∙◌, subst, arith, append_assoc}
use Rattle.std.proofs.lemmas.List.{take-append-drop, take-take, length-take, length-drop, take_rest, take-append-le}
use Rattle.std.proofs.Math.Seq.{take-append_seam, take-length, take-add}
use Rattle.std.specs.Io.KnownBytes.{Appends, Keeps, append_known}
use Rattle.icet_model.specs.Bytes.{Extends, HasFront}
use Rattle.icet_model.specs.Faults.{HasCause}
use Rattle.icet_model.specs.Streams.{SinkView}
use Rattle.icet_base.specs.PenText.{Writing, Puts, text_of}
use Rattle.icet_base.specs.declared.faults.WriteFault.{WriteFault}
use Rattle.icet_base.specs.declared.pen.Pen.{Pen}

pub Extends-refl : (a : Option (List ℕ)) → Extends a a
Extends-refl None = tt
Extends-refl (Some x) = take-length x

shorter : (x y : List ℕ) → take (length x) y ≡ x → length x ≤ length y
shorter x y p = omega (arith, length-take (length x) y, ap length p)

pub Extends-trans : (a b c : Option (List ℕ)) → Extends a b → Extends b c → Extends a c
Extends-trans None b c p q = tt
Extends-trans (Some x) None c p q = absurd p
Extends-trans (Some x) (Some y) None p q = absurd q
Extends-trans (Some x) (Some y) (Some z) p q = sym (take-take (length x) (length y) z (shorter x y p)) ∙ ap (take (length x)) q ∙ p

pub Extends-appends : (a b : Option (List ℕ)) (bs : List ℕ) → Appends a b bs → Extends a b
Extends-appends None b bs p = tt
Extends-appends (Some x) None bs p = absurd p
Extends-appends (Some x) (Some y) bs p = ap (take (length x)) p ∙ take-append_seam x bs

pub Extends-keeps : (a b : Option (List ℕ)) → Keeps a b → Extends a b
Extends-keeps None b p = tt
Extends-keeps (Some x) None p = absurd p
Extends-keeps (Some x) (Some y) p = ap (take (length x)) p ∙ take-length x

-- what was written of a piece is a front of the whole
pub HasFront-appends : (a b : Option (List ℕ)) (bs : List ℕ) (at : ℕ) → Appends a b (take at bs) → HasFront (append_known a bs) b
HasFront-appends None b bs at p = tt
HasFront-appends (Some x) None bs at p = absurd p
HasFront-appends (Some x) (Some y) bs at p =
    let whole : x ++ bs ≡ y ++ drop at bs = ap (λ l. x ++ l) (sym (take-append-drop at bs)) ∙ sym (append_assoc x (take at bs) (drop at bs)) ∙ ap (λ l. l ++ drop at bs) (sym p) in
    ap (take (length y)) whole ∙ take-append_seam y (drop at bs)

pub Appends-trans : (a b c : Option (List ℕ)) (bs cs : List ℕ) → Appends a b bs → Appends b c cs → Appends a c (bs ++ cs)
Appends-trans None b c bs cs p q = tt
Appends-trans (Some x) None c bs cs p q = absurd p
Appends-trans (Some x) (Some y) None bs cs p q = absurd q
Appends-trans (Some x) (Some y) (Some z) bs cs p q = q ∙ ap (λ l. l ++ cs) p ∙ append_assoc x bs cs

-- one write more of a piece
pub appends_more : (a b c : Option (List ℕ)) (piece : List ℕ) (at n : ℕ) → Appends a b (take at piece) → Appends b c (take n (drop at piece)) → Appends a c (take (at + n) piece)
appends_more a b c piece at n p q = subst (Appends a c) (sym (take-add at n piece)) (Appends-trans a b c _ _ p q)

-- a call that went well, and then another
pub well_then : {T F : Type 0} (a b c : ℕ) (first : Result (Unit {0}) WriteFault) (r : Result T F) → first ≡ Ok tt → HasCause a b first → HasCause b c r → HasCause a c r
well_then a b c first r ok p q = subst (λ n. HasCause n c r) (rw ok at p.well) q

-- the step of a loop that writes a piece
pub writes_on : (a b c : SinkView) (piece : List ℕ) (at n : ℕ) → Writing a b piece at → n ≤ length (take (length piece - at) (drop at piece)) → Appends b.written c.written (take n (take (length piece - at) (drop at piece))) → c.faults ≡ b.faults → Writing a c piece (at + n)
writes_on a b c piece at n w within more well =
    record {
      within = omega (arith, length-drop at piece, ap length (take_rest piece at), w.within);
      grew = appends_more a.written b.written c.written piece at n w.grew (subst (λ l. Appends b.written c.written (take n l)) (take_rest piece at) more);
      well = well ∙ w.well;
    }

-- a call that failed in the first piece has failed in both
pub HasFront-more : (t w : Option (List ℕ)) (bs cs : List ℕ) → HasFront (append_known t bs) w → HasFront (append_known t (bs ++ cs)) w
HasFront-more None w bs cs p = tt
HasFront-more (Some x) None bs cs p = absurd p
HasFront-more (Some x) (Some y) bs cs p =
    let l : length y ≤ length (x ++ bs) = omega (arith, length-take (length y) (x ++ bs), ap length p) in
    ap (take (length y)) (sym (append_assoc x bs cs)) ∙ take-append-le (length y) (x ++ bs) cs l ∙ p

-- a call that failed in the second piece has failed in both
pub HasFront-behind : (t u w : Option (List ℕ)) (bs cs : List ℕ) → Appends t u bs → HasFront (append_known u cs) w → HasFront (append_known t (bs ++ cs)) w
HasFront-behind None u w bs cs p q = tt
HasFront-behind (Some x) None w bs cs p q = absurd p
HasFront-behind (Some x) (Some y) None bs cs p q = absurd q
HasFront-behind (Some x) (Some y) (Some z) bs cs p q = ap (take (length z)) (sym (append_assoc x bs cs) ∙ ap (λ l. l ++ cs) (sym p)) ∙ q

module _ {K : Type 0} (told : K → SinkView) where
  -- one piece put behind the other
  pub puts_then : (a b c : Pen K) (r : Result (Unit {0}) WriteFault) (bs cs : List ℕ) → Puts told a b (Ok tt) bs → Puts told b c r cs → Puts told a c r (bs ++ cs)
  puts_then a b c (Ok u) bs cs p q = record {
    grew = Appends-trans (text_of told a) (text_of told b) (text_of told c) bs cs p.grew q.grew;
    within = tt;
    extends = Extends-trans _ _ _ p.extends q.extends;
    cause = well_then _ _ _ (Ok tt) (Ok u) refl p.cause q.cause;
    failed = q.failed;
    same_reference = q.same_reference ∙ p.same_reference;
  }
  puts_then a b c (Err e) bs cs p q = record {
    grew = tt;
    within = HasFront-behind (text_of told a) (text_of told b) _ bs cs p.grew q.within;
    extends = Extends-trans _ _ _ p.extends q.extends;
    cause = well_then _ _ _ (Ok tt) (Err e) refl p.cause q.cause;
    failed = q.failed;
    same_reference = q.same_reference ∙ p.same_reference;
  }

  -- a piece that failed, and another that was to come behind it
  pub puts_failed : (a b : Pen K) (e : WriteFault) (bs cs : List ℕ) → Puts told a b (Err e) bs → Puts told a b (Err e) (bs ++ cs)
  puts_failed a b e bs cs p = record { grew = tt; within = HasFront-more (text_of told a) _ bs cs p.within; extends = p.extends; cause = p.cause; failed = p.failed; same_reference = p.same_reference }
