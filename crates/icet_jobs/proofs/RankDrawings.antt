-- Ranks that were drawn by so many workers are as if they were drawn one after the other.
use Rattle.std.proofs.Common.{◌≡◌, ℕ, suc, ◌++◌, take, drop, List, [], ◌∷◌, length, map, Result, Ok, Err, IsOk, OnOk, refl, sym, ap, ◌∙◌, arith}
use Rattle.std.specs.List.{range_with_len}
use Rattle.std.proofs.lemmas.List.{length-map}
use denote.Ref.{MutBor}
use Rattle.icet_workers.specs.Shares.{EachDoes}
use Rattle.icet_scene_model.specs.Scene.{SceneView}
use Rattle.icet_jobs.specs.declared.drawing.Slot.{Slot}
use Rattle.icet_jobs.specs.Composites.{rank_image, rank_images}
use Rattle.icet_jobs.specs.Drawings.{drawn_slot, empty_slot, empty_slots, images_in}
use Rattle.icet_jobs.proofs.DrivenNets.{written_back}

-- what an Ok says, where it is one
at_ok : {A B P : Type 0} (r : Result A B) → IsOk r → OnOk r P → P
at_ok (Ok x) ok said = said
at_ok (Err e) ok said = absurd cc

-- an Ok says what follows from its being one
pub on_ok_by : {A B P : Type 0} (r : Result A B) → (IsOk r → P) → OnOk r P
on_ok_by (Ok x) follows = follows refl
on_ok_by (Err e) follows = tt

-- where each element is f of the one that stood at its place before, the list is f of each
pub each_mapped : {T : Type 0} (f : T → T) (old new : List T) → EachDoes (λ x y. y ≡ f x) old new → new ≡ map f old
each_mapped f [] [] e = refl
each_mapped f [] (y ∷ new) e = absurd (let c = e.count in omega (arith, c))
each_mapped f (x ∷ old) [] e = absurd (let c = e.count in omega (arith, c))
each_mapped f (x ∷ old) (y ∷ new) e =
    let rest : EachDoes (λ x y. y ≡ f x) old new = record { count = (let c = e.count in omega (arith, c)); each = λ k d l. e.each (suc k) d (omega (arith, l)) } in
    (λ j. e.each 0 x (omega arith) j ∷ each_mapped f old new rest j)

-- a call that was given x and leaves y, and says that it leaves f of what it was given where it answers Ok
pub left_by : {T A E : Type 0} (f : T → T) (x y : T) (argument after_call : MutBor T) (answer : Result A E)
    → argument.now ≡ x → after_call.now ≡ y → IsOk answer → OnOk answer (after_call.now ≡ f argument.now) → y ≡ f x
left_by f x y argument after_call answer is left ok said = sym left ∙ at_ok answer ok said ∙ ap f is

drawn_of : (strands : ℕ) (scene : SceneView) (ranks : List ℕ) → images_in (map (drawn_slot strands scene) (map empty_slot ranks)) ≡ map (rank_image strands scene) ranks
drawn_of strands scene [] = refl
drawn_of strands scene (rank ∷ ranks) = ap (λ images. rank_image strands scene rank ∷ images) (drawn_of strands scene ranks)

-- the slots of all ranks, given to the workers and written back once they are drawn, have each rank's images
pub all_drawn : (strands : ℕ) (scene : SceneView) (n : ℕ) (new given old : List Slot)
    → n ≡ length old → given ≡ old → old ≡ empty_slots scene.ranks → new ≡ map (drawn_slot strands scene) given
    → images_in (take n (new ++ drop (length new) old)) ≡ rank_images strands scene
all_drawn strands scene n new given old long is empty drawn =
    let each : new ≡ map (drawn_slot strands scene) old = drawn ∙ ap (map (drawn_slot strands scene)) is in
    let back = written_back n new old long (ap length each ∙ length-map old (drawn_slot strands scene)) in
    ap images_in (back ∙ each ∙ ap (map (drawn_slot strands scene)) empty) ∙ drawn_of strands scene (range_with_len 0 scene.ranks)
