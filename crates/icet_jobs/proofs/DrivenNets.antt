-- A net that was opened and driven to its end still has the images and the mode that it was opened with.
use Rattle.std.proofs.Common.{◌≡◌, ℕ, zero, suc, ◌<◌, ◌≤◌, List, [], ◌∷◌, ◌++◌, length, take, drop, get_or, refl, sym, ap, ◌∙◌, arith, inl, inr}
use Rattle.std.proofs.lemmas.Bool.{cases_lt}
use mathlib.Core.Path.{fun_ext}
use Rattle.icet_model.specs.declared.names.Mode.{Mode}
use Rattle.icet_model.specs.Pixel.{Pixel}
use Rattle.icet_model.specs.Run.{Piece}
use Rattle.icet_rank.specs.Machine.{MachineView, content_at}
use Rattle.icet_net.specs.Ranks.{machine_at, mode_of, images_of, EachRank, ComesOn, AreOpenedWith}
use Rattle.icet_jobs.specs.Nets.{piece_images}
use Rattle.icet_model.proofs.Lists.{any_default}

-- a slice of the whole list is written back whole
pub written_back : {X : Type 0} (n : ℕ) (new old : List X) → n ≡ length old → length new ≡ length old → take n (new ++ drop (length new) old) ≡ new
written_back {X = X} n new old e f = ap (λ k. take k (new ++ drop (length new) old)) (e ∙ sym f) ∙ go new (drop (length new) old)
  where
    go : (xs ys : List X) → take (length xs) (xs ++ ys) ≡ xs
    go [] ys = refl
    go (x ∷ xs) ys = ap (λ zs. x ∷ zs) (go xs ys)

or_beyond : {X : Type 0} (xs : List X) (r : ℕ) (d : X) → length xs ≤ r → get_or xs r d ≡ d
or_beyond [] r d l = refl
or_beyond (x ∷ xs) zero d l = absurd (omega arith)
or_beyond (x ∷ xs) (suc r) d l = or_beyond xs r d (omega arith)

module _ (mode : Mode) (images : List (List (Piece (List Pixel)))) (olds news : List MachineView) (opened : AreOpenedWith mode images olds) (on : EachRank ComesOn olds news) where
  images_at : (r : ℕ) → r < length olds → (machine_at news r).images ≡ get_or images r []
  images_at r l = (on.each r l).job.images ∙ (opened.each r l).images_are

  pub driven_mode : 1 ≤ length images → mode_of news ≡ mode
  driven_mode some = let l : 0 < length olds = omega (arith, some, opened.count) in (on.each 0 l).job.mode ∙ (opened.each 0 l).mode_is

  same_at : 1 ≤ length images → (r t : ℕ) → images_of news r t ≡ piece_images images r t
  same_at some r t = elim (cases_lt r (length olds)) [
    | inl l ↦ (ap (λ m. content_at m.images t) (any_default news r (machine_at news 0) _ (omega (arith, l, on.count)))
        ∙ ap (λ xs. content_at xs t) (images_at r l)
        ∙ ap (λ xs. content_at xs t) (any_default images r [] (get_or images 0 []) (omega (arith, l, opened.count))))
    | inr l ↦ (ap (λ m. content_at m.images t) (or_beyond news r (machine_at news 0) (omega (arith, l, on.count)))
        ∙ ap (λ xs. content_at xs t) (images_at 0 (omega (arith, some, opened.count)))
        ∙ ap (λ xs. content_at xs t) (sym (or_beyond images r (get_or images 0 []) (omega (arith, l, opened.count)))))
  ]

  pub driven_images : 1 ≤ length images → images_of news ≡ piece_images images
  driven_images some = fun_ext (λ r. fun_ext (λ t. same_at some r t))
