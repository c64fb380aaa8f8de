-- Calls at each element of a list, part by part.
use Rattle.std.proofs.Common.{◌≡◌, ℕ, ◌+◌, ◌-◌, ◌<◌, ◌≤◌, ◌⊎◌, ⊎_elim, List, ◌++◌, length, set, get_or, refl, sym, ◌∙◌, subst, arith, length-append, Result}
use Rattle.std.proofs.lemmas.List.{length-set, get_or-set_same, get_or-set_other, get_or_append_left, get_or-append_right}
use denote.Ref.{MutBor}
use denote.Param.Members.{Shared}
use Rattle.icet_workers.specs.Shares.{Does, DoneTo, EachDoes}
use Rattle.icet_model.proofs.Numbers.{same_or_not}

module _ {F T A E : Type 0} (g : Shared F (MutBor T × Unit {0}) (Result A E × (MutBor T × Unit {0}))) (f : F) where
  -- less has to be fine
  pub does_less : (fine other : Type 0) (x y : T) → (other → fine) → Does g f fine x y → Does g f other x y
  does_less fine other x y h d = record {
    argument = d.argument;
    argument_is = d.argument_is;
    answer = d.answer;
    after_call = d.after_call;
    call = d.call;
    left = d.left;
    answered = λ o. d.answered (h o);
  }

  pub each_does_less : (fine other : Type 0) (xs ys : List T) → (other → fine) → EachDoes (Does g f fine) xs ys → EachDoes (Does g f other) xs ys
  each_does_less fine other xs ys h e = record { count = e.count; each = λ k d l. does_less fine other (get_or xs k d) (get_or ys k d) h (e.each k d l) }

  pub done_more : (fine one other : Type 0) (at : ℕ) (xs ys : List T) (y : T) → (other → fine) → (other → one) → at < length ys
      → DoneTo (Does g f fine) at xs ys → ((d : T) → Does g f one (get_or ys at d) y) → DoneTo (Does g f other) (at + 1) xs (set ys at y)
  done_more fine one other at xs ys y h i l b p = record {
    count = length-set ys at y ∙ b.count;
    done = λ k d j. ⊎_elim
        (λ (e : k ≡ at). rw (e, get_or-set_same) (subst (λ x. Does g f other x y) (b.rest at d (omega arith)) (does_less one other (get_or ys at d) y i (p d))))
        (λ (n : k ≡ at → ⊥). rw get_or-set_other (does_less fine other (get_or xs k d) (get_or ys k d) h (b.done k d (omega arith))))
        (same_or_not k at);
    rest = λ k d j. let n : k ≡ at → ⊥ = λ e. omega arith in rw get_or-set_other (b.rest k d (omega arith));
  }

both_counts : (a b c d : ℕ) → c ≡ a → d ≡ b → c + d ≡ a + b
both_counts a b c d e f = omega arith

module _ {T : Type 0} (P : T → T → Type 0) where
  pub done_none : (xs : List T) → DoneTo P 0 xs xs
  done_none xs = record { count = refl; done = λ k d l. absurd (omega arith); rest = λ k d l. refl }

  pub done_all : (at : ℕ) (xs ys : List T) → length xs ≤ at → DoneTo P at xs ys → EachDoes P xs ys
  done_all at xs ys l b = record { count = b.count; each = λ k d j. b.done k d (omega arith) }

  -- two parts, one behind the other
  pub each_append : (a b c d : List T) → EachDoes P a c → EachDoes P b d → EachDoes P (a ++ b) (c ++ d)
  each_append a b c d e f = record {
    count = length-append c d ∙ (both_counts (length a) (length b) (length c) (length d) e.count f.count ∙ sym (length-append a b));
    each = λ k x l. ⊎_elim
        (λ (u : k < length a). rw (get_or_append_left a b x k u, get_or_append_left c d x k (omega (arith, e.count))) (e.each k x u))
        (λ (u : length a ≤ k). rw (get_or-append_right a b (length a) k x refl u, get_or-append_right c d (length a) k x e.count u) (f.each (k - length a) x (omega (arith, length-append a b))))
        (let h : (k < length a) ⊎ (length a ≤ k) = grind arith in h);
  }
