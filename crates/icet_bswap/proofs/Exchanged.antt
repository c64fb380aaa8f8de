-- The rounds' messages, in the words of the definition.
use Rattle.std.proofs.Common.{◌≡◌, ℕ, zero, suc, ◌+◌, ◌^◌, ◌<◌, ◌≤◌, Bool, true, false, cond, [], ◌∷◌, ◌++◌, refl, sym, ap, ◌∙◌, arith, eqb-true, Option, Some, None}
use Rattle.std.specs.Prelude.{◌==◌}
use Rattle.icet_model.specs.declared.bracket.Bracket.{Bracket}
use Rattle.icet_model.specs.Run.{MessageView}
use Rattle.icet_plan.specs.Each.{each}
use Rattle.icet_legs.specs.Team.{Team, by_pair}
use Rattle.icet_legs.specs.Group.{group_messages}
use Rattle.icet_legs.specs.Radix.{group_at, radix_messages}
use Rattle.icet_bswap.specs.Bswap.{side, partner, other, half, range, block, swap_messages}
use Rattle.icet_bswap.proofs.HalvingIsRadix.{twos, held, messages_are, partner_has}
use Rattle.icet_bswap.proofs.WholeBracket.{block_is}

module _ (g : Team) (m : ℕ) (count : g.n ≡ 2 ^ m) (q r : ℕ) where
  abbrev sent : ℕ → ℕ → ℕ → ℕ × ℕ → Bracket → MessageView Bracket
  sent i a b part content = record { round = g.first + i; from = g.who a; to = g.who b; piece = record { tile = g.tile; lo = part.0; hi = part.1; content = content } }

  -- the message of a round, in the words of the definition
  said : (i : ℕ) → i < m → (a b : ℕ) → group_messages g (group_at g twos i) a b ≡ swap_messages g i a b
  said i l a b = messages_are g m count i l a b ∙ go (partner i a == b) refl
    where
      go : (t : Bool) → (partner i a == b) ≡ t → cond t (sent i a b (half (other (side i a)) (range g.size i a)) (held g i a) ∷ []) [] ≡ cond t (sent i a b (range g.size (suc i) b) (block g i a) ∷ []) []
      go false h = refl
      go true h =
          let there : half (other (side i a)) (range g.size i a) ≡ range g.size (suc i) b = sym (partner_has g m count i a) ∙ ap (range g.size (suc i)) (eqb-true (partner i a) b h) in
          let bracket = block_is g m count i a in
          λ j. sent i a b (there j) (bracket j) ∷ []

  pub exchanged : (k : ℕ) → k ≤ m → (o u : Option ℕ) → g.pos q ≡ o → g.pos r ≡ u → radix_messages g twos k q r ≡ by_pair (λ a b. each (λ i. swap_messages g i a b) k) o u
  exchanged zero l None u e f = refl
  exchanged zero l (Some a) None e f = refl
  exchanged zero l (Some a) (Some b) e f = refl
  exchanged (suc k) l o u e f =
      ap (λ z. z ++ by_pair (group_messages g (group_at g twos k)) (g.pos q) (g.pos r)) (exchanged k (omega arith) o u e f)
      ∙ (ap (λ z. by_pair (λ a b. each (λ i. swap_messages g i a b) k) o u ++ by_pair (group_messages g (group_at g twos k)) z (g.pos r)) e
      ∙ (ap (λ z. by_pair (λ a b. each (λ i. swap_messages g i a b) k) o u ++ by_pair (group_messages g (group_at g twos k)) o z) f
      ∙ last o u))
    where
      last : (o u : Option ℕ) → by_pair (λ a b. each (λ i. swap_messages g i a b) k) o u ++ by_pair (group_messages g (group_at g twos k)) o u ≡ by_pair (λ a b. each (λ i. swap_messages g i a b) (suc k)) o u
      last None u = refl
      last (Some a) None = refl
      last (Some a) (Some b) = ap (λ z. each (λ i. swap_messages g i a b) k ++ z) (said k (omega arith) a b)
