-- Of what stands behind one another, rank by rank, the shapes of one rank are its own.
use Rattle.std.proofs.Common.{◌≡◌, ◌≢◌, ℕ, zero, suc, ◌+◌, ◌<◌, ◌≤◌, Bool, true, false, cond, List, [], ◌∷◌, ◌++◌, map, refl, sym, ap, ◌∙◌, arith, ne_eqb, eq-eqb, append-nil}
use Rattle.std.specs.Prelude.{◌==◌, All, filter}
use Rattle.std.specs.List.{flat_map, range_with_len}
use Rattle.std.proofs.lemmas.List.Elements.{All-head, All-tail, filter-append}
use Rattle.icet_scene_model.specs.Jobs.{shapes_of}
use Rattle.icet_scene_model.specs.Scene.{Placed}
use Rattle.icet_upgrade.proofs.Runs.{eq_true, eq_false}

abbrev of_rank : ℕ → List Placed → List Placed
of_rank rank shapes = filter (λ (placed : Placed). placed.rank == rank) shapes

own : (rank : ℕ) (shapes : List Placed) → All (λ (placed : Placed). placed.rank ≡ rank) shapes → of_rank rank shapes ≡ shapes
own rank [] h = refl
own rank (p ∷ ps) h =
    ap (λ b. cond b (p ∷ of_rank rank ps) (of_rank rank ps)) (eq-eqb p.rank rank (All-head (λ (placed : Placed). placed.rank ≡ rank) p ps h))
    ∙ ap (λ qs. p ∷ qs) (own rank ps (All-tail (λ (placed : Placed). placed.rank ≡ rank) p ps h))

others : (rank other : ℕ) (shapes : List Placed) → other ≢ rank → All (λ (placed : Placed). placed.rank ≡ other) shapes → of_rank rank shapes ≡ []
others rank other [] n h = refl
others rank other (p ∷ ps) n h =
    let e = All-head (λ (placed : Placed). placed.rank ≡ other) p ps h in
    let ne : p.rank ≢ rank = (λ q. n (let z : other ≡ rank = omega (arith, e, q) in z)) in
    ap (λ b. cond b (p ∷ of_rank rank ps) (of_rank rank ps)) (ne_eqb p.rank rank ne)
    ∙ others rank other ps n (All-tail (λ (placed : Placed). placed.rank ≡ other) p ps h)

module _ (f : ℕ → List Placed) (each : (r : ℕ) → All (λ (placed : Placed). placed.rank ≡ r) (f r)) where
  above : (a n rank : ℕ) → rank < a → of_rank rank (flat_map f (range_with_len a n)) ≡ []
  above a zero rank l = refl
  above a (suc n) rank l =
      let ne : a ≢ rank = omega (arith, l) in
      filter-append (λ (placed : Placed). placed.rank == rank) (f a) (flat_map f (range_with_len (a + 1) n))
      ∙ ap (λ ps. ps ++ of_rank rank (flat_map f (range_with_len (a + 1) n))) (others rank a (f a) ne (each a))
      ∙ above (a + 1) n rank (omega (arith, l))

  picked : (a n rank : ℕ) → a ≤ rank → rank < a + n → of_rank rank (flat_map f (range_with_len a n)) ≡ f rank
  picked a zero rank l m = absurd (omega (arith, l, m))
  picked a (suc n) rank l m =
      filter-append (λ (placed : Placed). placed.rank == rank) (f a) (flat_map f (range_with_len (a + 1) n))
      ∙ go (λ ne. picked (a + 1) n rank (omega (arith, l, ne)) (omega (arith, m))) (a == rank) refl
    where
      go : (a ≢ rank → of_rank rank (flat_map f (range_with_len (a + 1) n)) ≡ f rank) → (b : Bool) → (a == rank) ≡ b → of_rank rank (f a) ++ of_rank rank (flat_map f (range_with_len (a + 1) n)) ≡ f rank
      go later true e =
          let same = eq_true a rank e in
          ap (λ ps. of_rank rank (f a) ++ ps) (above (a + 1) n rank (omega (arith, same)))
          ∙ append-nil (of_rank rank (f a))
          ∙ ap (λ r. of_rank rank (f r)) same
          ∙ own rank (f rank) (each rank)
      go later false e =
          let ne = eq_false a rank e in
          ap (λ ps. ps ++ of_rank rank (flat_map f (range_with_len (a + 1) n))) (others rank a (f a) ne (each a))
          ∙ later ne

  pub shapes_picked : (n rank : ℕ) → rank < n → shapes_of (flat_map f (range_with_len 0 n)) rank ≡ map (λ (placed : Placed). placed.shape) (f rank)
  shapes_picked n rank l = ap (map (λ (placed : Placed). placed.shape)) (picked 0 n rank (omega arith) (omega (arith, l)))
