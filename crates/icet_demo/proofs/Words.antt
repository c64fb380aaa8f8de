-- The words of a generator, one after the other.
use Rattle.std.proofs.Common.{◌≡◌, ℕ, zero, suc, ◌+◌, ◌∙◌, ap, sym, refl}
use Rattle.std.proofs.Math.Nat.{zero-add, suc-add, add-zero}
use Rattle.rand_pcg.specs.Lcg.{Lcg, next, next_state, state_after}
use Rattle.rand_pcg.specs.Pcg.{multiplier_64, output_xsh_rr}
use Rattle.icet_demo.specs.Demonstration.{after, word}

state_more : (w m i n k s : ℕ) → state_after w m i (n + k) s ≡ state_after w m i k (state_after w m i n s)
unfolding state_after
state_more w m i zero k s = ap (λ n. state_after w m i n s) (zero-add k)
state_more w m i (suc n) k s = ap (λ n. state_after w m i n s) (suc-add n k) ∙ state_more w m i n k (next_state w m i s)

pub word_first : (g : Lcg) → word g 0 ≡ output_xsh_rr g.state
unfolding state_after
word_first g = refl

pub after_none : (g : Lcg) → after 0 g ≡ g
unfolding state_after
after_none g = refl

pub after_one : (g : Lcg) → after 1 g ≡ next 64 multiplier_64 g
unfolding state_after
after_one g = refl

-- so many words, and then some more
pub after_more : (n k : ℕ) (g : Lcg) → after k (after n g) ≡ after (n + k) g
after_more n k g = ap (λ s. record g { state = s }) (sym (state_more 64 multiplier_64 g.increment n k g.state))

pub word_more : (n k : ℕ) (g : Lcg) → word (after n g) k ≡ word g (n + k)
word_more n k g = ap (λ (h : Lcg). output_xsh_rr h.state) (after_more n k g)

-- the next word of a generator that has given so many
pub word_at : (n : ℕ) (g h : Lcg) → h ≡ after n g → word h 0 ≡ word g n
word_at n g h e = ap (λ (x : Lcg). word x 0) e ∙ (word_more n 0 g ∙ ap (word g) (add-zero n))

pub after_at : (n k : ℕ) (g h j : Lcg) → h ≡ after n g → j ≡ after k h → j ≡ after (n + k) g
after_at n k g h j e f = f ∙ (ap (after k) e ∙ after_more n k g)
