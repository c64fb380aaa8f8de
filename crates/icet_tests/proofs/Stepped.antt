-- Machines that were stepped, by whoever, went on, and those that went on show what they would have shown.
use Rattle.std.proofs.Common.{◌≡◌, ℕ, ◌+◌, ◌<◌, ◌≤◌, ◌++◌, ◌∷◌, ◌⊎◌, List, length, set, take, drop, get_or, refl, sym, ap, ◌∙◌, subst, arith, ⊎_elim}
use Rattle.std.proofs.lemmas.List.{get_or_past, get_or_default, take-append-drop, length-set, get_or-set_same, get_or-set_other}
use mathlib.Core.Path.{fun_ext}
use Rattle.icet_model.proofs.Numbers.{within_or_past, same_or_not}
use Rattle.icet_rank.specs.Machine.{MachineView, content_at}
use Rattle.icet_rank.specs.declared.machine.Step.{Step}
use Rattle.icet_rank.specs.declared.machine.Step.TheVariants.{Moved, Pending, Done}
use Rattle.icet_rank.specs.Steps.{SameJob, SamePairings, Worked, Moves, Pends, Ends}
use Rattle.icet_model.specs.Traffic.{traffic}
use Rattle.icet_net.specs.Net.{HullView}
use Rattle.icet_net.specs.Closing.{pictures_of, traffic_of}
use Rattle.icet_net.specs.Ranks.{machine_at, no_machine, mode_of, images_of, AreHulls, EachRank, GoesOn, ComesOn}
use Rattle.icet_net.proofs.TurnSteps.{goes_on_refl, goes_on_trans}
use Rattle.icet_net.proofs.DriveKeeps.{drives_on}
use Rattle.icet_workers.specs.Shares.{DoneTo, EachDoes}
use Rattle.icet_workers.proofs.EachDone.{each_append}

module _ {a b : MachineView} (job : SameJob a b) (pairings : SamePairings a b) where
  -- whatever a step answers
  pub step_goes : (s : Step) → (s ≡ Moved → Moves a b) → (s ≡ Pending → Pends a b) → (s ≡ Done → Ends a b) → GoesOn a b
  step_goes Moved m w e = record { job = job; pairings = pairings; counter = let k = (m refl).counter in omega (arith, k) }
  step_goes Pending m w e = record { job = job; pairings = pairings; counter = let k = (w refl).counter in omega (arith, k) }
  step_goes Done m w e = record { job = job; pairings = pairings; counter = let k = (e refl).worked.counter in omega (arith, k) }

  pub work_goes : Worked a b → GoesOn a b
  work_goes w = record { job = job; pairings = pairings; counter = let k = w.counter in omega (arith, k) }

-- ranks that go on one after the other
module _ where
  -- one more went on
  pub goes_next : (at : ℕ) (xs ys : List MachineView) (y : MachineView) → at < length ys → ((d : MachineView) → GoesOn (get_or ys at d) y) → DoneTo GoesOn at xs ys → DoneTo GoesOn (at + 1) xs (set ys at y)
  goes_next at xs ys y l p b = record {
    count = length-set ys at y ∙ b.count;
    done = λ k d j. ⊎_elim
        (λ (e : k ≡ at). rw (e, get_or-set_same) (subst (λ x. GoesOn x y) (b.rest at d (omega arith)) (p d)))
        (λ (n : k ≡ at → ⊥). rw get_or-set_other (b.done k d (omega arith)))
        (same_or_not k at);
    rest = λ k d j. let n : k ≡ at → ⊥ = λ e. omega arith in rw get_or-set_other (b.rest k d (omega arith));
  }

  -- those behind are as before
  pub goes_so_far : (at : ℕ) (xs ys : List MachineView) → DoneTo GoesOn at xs ys → EachDoes GoesOn xs ys
  goes_so_far at xs ys b = record {
    count = b.count;
    each = λ k d l. ⊎_elim
        (λ (u : k < at). b.done k d u)
        (λ (u : at ≤ k). subst (λ y. GoesOn (get_or xs k d) y) (sym (b.rest k d u)) (goes_on_refl (get_or xs k d)))
        (within_or_past k at);
  }

  pub each_rank : (xs ys : List MachineView) → EachDoes GoesOn xs ys → EachRank GoesOn xs ys
  each_rank xs ys e = record { count = e.count; each = λ r l. e.each r no_machine l }

  -- two parts of the machines, of which each went on, put together again
  pub both_go : (at : ℕ) (xs front back new_front new_back ys : List MachineView) → front ≡ take at xs → back ≡ drop at xs → ys ≡ new_front ++ new_back → EachDoes GoesOn front new_front → EachDoes GoesOn back new_back → EachRank GoesOn xs ys
  both_go at xs front back new_front new_back ys f b n g h =
      let whole : front ++ back ≡ xs = ap (λ l. l ++ back) f ∙ ap (λ l. take at xs ++ l) b ∙ take-append-drop at xs in
      let parts = each_rank (front ++ back) (new_front ++ new_back) (each_append GoesOn front back new_front new_back g h) in
      subst (λ l. EachRank GoesOn l ys) whole (subst (λ l. EachRank GoesOn (front ++ back) l) (sym n) parts)

  pub each_goes_refl : (xs : List MachineView) → EachRank GoesOn xs xs
  each_goes_refl xs = record { count = refl; each = λ r l. goes_on_refl (machine_at xs r) }

  pub each_goes_trans : (xs ys zs : List MachineView) → EachRank GoesOn xs ys → EachRank GoesOn ys zs → EachRank GoesOn xs zs
  each_goes_trans xs ys zs g h = record {
    count = h.count ∙ g.count;
    each = λ r l. goes_on_trans (machine_at xs r) (machine_at ys r) (machine_at zs r) (g.each r l) (h.each r (let e = g.count in omega arith));
  }

-- machines that came on have the mode and the images that they had
module _ (xs ys : List MachineView) (on : EachRank ComesOn xs ys) where
  -- also a rank beyond the list
  same_job_at : (r : ℕ) → SameJob (machine_at xs r) (machine_at ys r)
  same_job_at r = ⊎_elim
      (λ (l : r < length xs). (on.each r l).job)
      (λ (l : length xs ≤ r).
      let x : machine_at xs r ≡ no_machine = get_or_past xs r no_machine l in
      let y : machine_at ys r ≡ no_machine = get_or_past ys r no_machine (let e = on.count in omega arith) in
      subst (λ m. SameJob (machine_at xs r) m) (x ∙ sym y) (record { number = refl; mode = refl; ops = refl; images = refl }))
      (within_or_past r (length xs))

  same_image_at : (r t : ℕ) → images_of ys r t ≡ images_of xs r t
  same_image_at r t = ⊎_elim
      (λ (l : r < length xs).
      let k : r < length ys = let e = on.count in omega arith in
      ap (λ (m : MachineView). content_at m.images t) (get_or_default ys r (machine_at ys 0) no_machine k)
      ∙ ap (λ is. content_at is t) (same_job_at r).images
      ∙ ap (λ (m : MachineView). content_at m.images t) (sym (get_or_default xs r (machine_at xs 0) no_machine l)))
      (λ (l : length xs ≤ r).
      let k : length ys ≤ r = let e = on.count in omega arith in
      ap (λ (m : MachineView). content_at m.images t) (get_or_past ys r (machine_at ys 0) k)
      ∙ ap (λ is. content_at is t) (same_job_at 0).images
      ∙ ap (λ (m : MachineView). content_at m.images t) (sym (get_or_past xs r (machine_at xs 0) l)))
      (within_or_past r (length xs))

  same_images : images_of ys ≡ images_of xs
  same_images = fun_ext (λ r. fun_ext (λ t. same_image_at r t))

  pub same_pictures : (hull : HullView) → pictures_of hull (mode_of ys) (images_of ys) ≡ pictures_of hull (mode_of xs) (images_of xs)
  same_pictures hull = ap (λ m. pictures_of hull m (images_of ys)) (same_job_at 0).mode ∙ ap (λ is. pictures_of hull (mode_of xs) is) same_images

  pub same_traffic : (hull : HullView) → traffic_of hull ys ≡ traffic_of hull xs
  same_traffic hull = ap (λ m. traffic m hull.plan (images_of ys)) (same_job_at 0).mode ∙ ap (λ is. traffic (mode_of xs) hull.plan is) same_images

-- and so do those of a hull that went on
pub comes_of_going : (hull : HullView) (xs ys : List MachineView) → AreHulls hull xs → EachRank GoesOn xs ys → EachRank ComesOn xs ys
comes_of_going hull xs ys h g = (drives_on hull xs ys h g).comes_on
