-- The text of the plain composites of a scene.
use Rattle.std.proofs.Common.{◌≡◌}
use Rattle.std.specs.List.{zip}
use Rattle.std.proofs.lemmas.List.Folds.{flat_map-map}
use Rattle.icet_model.specs.Pixel.{DenseView}
use Rattle.icet_scene_model.specs.Picture.{picture_text}
use Rattle.icet_scene_model.specs.Scene.{SceneView}
use Rattle.icet_scene_model.specs.Jobs.{plain_picture, composite_text}
use Rattle.icet_multi.specs.declared.settings.Settings.{Settings}
use Rattle.icet_jobs.specs.Composites.{brackets_of, plain_pictures}
use Rattle.icet_jobs.specs.Texts.{texts_of}

-- the text of a scene's plain composites is that of the job `composite`
pub pictures_are : (settings : Settings) (scene : SceneView) → texts_of scene (plain_pictures settings scene) ≡ composite_text scene (brackets_of settings scene)
pictures_are settings scene = flat_map-map (λ (picture : DenseView). picture_text scene.wide scene.mode scene.background picture.w picture.h picture.pixels) (λ x. record { w = x.0.area.w; h = x.0.area.h; pixels = plain_picture scene x.0 x.1 }) (zip scene.tiles (brackets_of settings scene))
