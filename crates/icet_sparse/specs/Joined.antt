-- Fragments joined place by place.
use Rattle.std.specs.Prelude.{List, map}
use Rattle.std.specs.List.{zip}
use Rattle.icet_model.specs.declared.names.Mode.{Mode}
use Rattle.icet_model.specs.Pixel.{FragmentView, joined_fragments}

-- the fragments of two lists joined as far as both go
abbrev pub joined_places : Mode → List FragmentView → List FragmentView → List FragmentView
joined_places mode front back = map (λ p. joined_fragments mode p.0 p.1) (zip front back)
