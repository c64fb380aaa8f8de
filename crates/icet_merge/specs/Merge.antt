-- Lists of pixels joined place by place.
use Rattle.std.specs.Prelude.{List, map}
use Rattle.std.specs.List.{zip}
use Rattle.icet_model.specs.declared.names.Mode.{Mode}
use Rattle.icet_model.specs.Pixel.{Pixel, joined}

-- the pixels of two lists joined as far as both go
abbrev pub zip_joined : Mode → List Pixel → List Pixel → List Pixel
zip_joined mode front back = map (λ p. joined mode p.0 p.1) (zip front back)
