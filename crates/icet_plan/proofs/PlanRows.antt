-- Tiles one after another: the parts of a plan in a row.
use Rattle.std.proofs.Common.{◌≡◌, ℕ, zero, suc, ◌<◌, ◌≤◌, List, [], ◌∷◌, ◌++◌, refl, sym, ap, ◌∙◌, subst, arith, Option, Some, length, Bool, map, ⊎_elim}
use Rattle.std.proofs.lemmas.List.{append-nil, map-append}
use Rattle.std.specs.Prelude.{◌⊎◌}
use Rattle.std.specs.List.{filter}
use Rattle.icet_model.specs.declared.exchange.Exchange.{Exchange}
use Rattle.icet_model.specs.Exchange.{key, sends_to, takes_from, heading, IsRising}
use Rattle.icet_plan.proofs.Lists.{filter-append}
use Rattle.icet_plan.proofs.LocalRuns.{exchanges-append}
use Rattle.icet_model.specs.declared.exchange.Op.{Op}
use Rattle.icet_model.specs.declared.exchange.Op.TheVariants.{Load}
use Rattle.icet_model.specs.Exchange.{exchanges}
use Rattle.icet_model.specs.Run.{Carrier, Piece, MessageView, put, whole}
use Rattle.icet_model.specs.Fit.{Tiles}
use Rattle.icet_plan.specs.Each.{each}
use Rattle.icet_plan.proofs.Segments.{does_both, IsPart, parts_join, AreWithin, all_append}
use Rattle.icet_plan.proofs.SingleSteps.{Ran, ran_each, load_does}

-- what is matched alone and lies in rounds of its own is matched in a row
pub parts_row : (ops : ℕ → ℕ → List Op) (bounds : ℕ → ℕ) (k : ℕ) → ((t : ℕ) → t < k → IsPart (ops t) (bounds t) (bounds (suc t))) → IsPart (λ r. each (λ t. ops t r) k) (bounds 0) (bounds k)
parts_row ops bounds zero h = record { ordered = omega arith; matched = record { rising = λ r. tt; pairs = λ q r. refl }; within = λ r. tt }
parts_row ops bounds (suc k) h = parts_join (λ r. each (λ t. ops t r) k) (ops k) (bounds 0) (bounds k) (bounds (suc k)) (parts_row ops bounds k (λ t l. h t (omega arith))) (h k (omega arith))

module _ {T : Type 0} (c : Carrier T) (me : ℕ) (tiles : Tiles) where
  -- slots of which nothing is known
  abbrev pub Anyhow : (ℕ → Option (Piece T)) → Type 0
  Anyhow sl = Unit {0}

  -- parts that do what is said from any slots do so in a row
  pub does_row : (ops : ℕ → List Op) (F G : ℕ → ℕ → List (MessageView T)) (K : ℕ → List (Piece T)) (k : ℕ) → ((t : ℕ) → t < k → (sl : ℕ → Option (Piece T)) → Ran c me tiles Anyhow (ops t) (F t) sl (G t) (K t)) → (sl : ℕ → Option (Piece T)) → Ran c me tiles Anyhow (each ops k) (λ q. each (λ t. F t q) k) sl (λ q. each (λ t. G t q) k) (each K k)
  does_row ops F G K k h sl = ran_each c me tiles (λ t. Anyhow) ops F G K k (λ t s l i. h t l s) sl tt

  -- a leg that begins with its image in slot 0 begins with a load
  pub loaded : (t : ℕ) → t < length tiles.sizes → (ops : List Op) (F G : ℕ → List (MessageView T)) (K : List (Piece T)) → ((sl : ℕ → Option (Piece T)) → sl 0 ≡ Some (whole c t) → Ran c me tiles Anyhow ops F sl G K) → (sl : ℕ → Option (Piece T)) → Ran c me tiles Anyhow (Load t 0 ∷ ops) F sl G K
  loaded t l ops F G K h sl =
      let ran = h (put sl 0 (Some (whole c t))) refl in
      record { after = ran.after; does = does_both c me tiles (Load t 0 ∷ []) ops (λ q. []) F sl (put sl 0 (Some (whole c t))) ran.after (λ q. []) G [] K (load_does c me tiles t 0 sl l) ran.does; holds = tt }

-- parts at the same time, of which each rank has one at most
pub parts_beside : (xs ys : ℕ → List Op) (l u : ℕ) → IsPart xs l u → IsPart ys l u → ((r : ℕ) → (exchanges (xs r) ≡ []) ⊎ (exchanges (ys r) ≡ [])) → IsPart (λ r. xs r ++ ys r) l u
parts_beside xs ys l u f g apart = record {
  ordered = f.ordered;
  matched = record {
    rising = λ r. subst IsRising (sym (exchanges-append (xs r) (ys r))) (⊎_elim
        (λ (e : exchanges (xs r) ≡ []). subst (λ z. IsRising (z ++ exchanges (ys r))) (sym e) (g.matched.rising r))
        (λ (e : exchanges (ys r) ≡ []). subst (λ z. IsRising (exchanges (xs r) ++ z)) (sym e) (subst IsRising (sym (append-nil (exchanges (xs r)))) (f.matched.rising r)))
        (apart r));
    pairs = λ q r.
        faces (sends_to r) (xs q) (ys q)
        ∙ (ap (λ z. z ++ map heading (filter (sends_to r) (exchanges (ys q)))) (f.matched.pairs q r)
        ∙ (ap (λ z. map heading (filter (takes_from q) (exchanges (xs r))) ++ z) (g.matched.pairs q r)
        ∙ sym (faces (takes_from q) (xs r) (ys r))));
  };
  within = λ r. subst (AreWithin l u) (sym (exchanges-append (xs r) (ys r))) (all_append (λ e. (l ≤ key e) × (key e < u)) (exchanges (xs r)) (exchanges (ys r)) (f.within r) (g.within r));
}
  where
    faces : (p : Exchange → Bool) (us vs : List Op) → map heading (filter p (exchanges (us ++ vs))) ≡ map heading (filter p (exchanges us)) ++ map heading (filter p (exchanges vs))
    faces p us vs = ap (λ z. map heading (filter p z)) (exchanges-append us vs) ∙ (ap (map heading) (filter-append p (exchanges us) (exchanges vs)) ∙ map-append heading (filter p (exchanges us)) (filter p (exchanges vs)))
