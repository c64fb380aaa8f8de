-- The picture of one triangle.
use Rattle.std.specs.Prelude.{◌+◌, ◌*◌, ◌/◌, ◌%◌, List, map}
use Rattle.std.specs.List.{range_with_len}
use Rattle.icet_model.specs.Pixel.{Pixel}
use Rattle.icet_model.specs.Tiles.{Area}
use Rattle.icet_scene_model.specs.Raster.{Tri, gives}
use Rattle.icet_scene_model.specs.Triangles.{Triangle}

-- at each pixel of the area, row by row from the top, what the triangle gives there
abbrev pub triangle_pixels : Triangle → Area → List Pixel
triangle_pixels triangle area = map (λ i. gives (Tri triangle) (area.x + i % area.w) (area.y + i / area.w)) (range_with_len 0 (area.w * area.h))
