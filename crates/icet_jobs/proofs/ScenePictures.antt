-- The brackets of a strategy's plan show the plain composite.
use Rattle.std.proofs.Common.{◌≡◌, ℕ, zero, suc, ◌+◌, ◌-◌, ◌*◌, ◌<◌, ◌≤◌, Bool, true, false, cond, List, [], ◌∷◌, map, length, get_or, replicate, filter, Some, None, refl, sym, ap, ◌∙◌, subst, arith, inl, inr}
use Rattle.std.specs.Prelude.{All, slice_get, ◌⊎◌}
use Rattle.std.specs.List.{AllByRecursion, range_with_len, zip}
use Rattle.std.proofs.lemmas.List.{length-map}
use Rattle.std.proofs.lemmas.List.Elements.{All-filter}
use mathlib.Core.Path.{fun_ext}
use Rattle.icet_model.specs.declared.names.Mode.{Mode}
use Rattle.icet_model.specs.declared.names.Mode.TheVariants.{Depth, Blend, WideBlend}
use Rattle.icet_model.specs.declared.bracket.Bracket.{Bracket}
use Rattle.icet_model.specs.declared.bracket.Bracket.TheVariants.{Empty}
use Rattle.icet_model.specs.Pixel.{DenseView, Pixel}
use Rattle.icet_scene_model.specs.Raster.{full_image}
use Rattle.icet_scene_model.specs.Boxes.{box, reaches_into, contributors}
use Rattle.icet_model.specs.Bracket.{Images, leaves, value}
use Rattle.icet_model.specs.Composite.{nearer, nearest, column, images_by_rank, plain_pixel, plain_composite}
use Rattle.icet_model.specs.Plan.{PlanView, values}
use Rattle.icet_model.specs.Tiles.{TileView as AreaTile}
use Rattle.icet_scene_model.specs.Scene.{SceneView}
use Rattle.icet_scene_model.specs.Jobs.{shapes_of, boxes_of, full_images, plain_picture}
use Rattle.icet_model.proofs.Lists.{all_in_turn}
use Rattle.icet_model.proofs.NearestLeaf.{value_nearest}
use Rattle.icet_raster.proofs.Outside.{blank_outside}
use Rattle.icet_multi.specs.declared.settings.Settings.{Settings}
use Rattle.icet_multi.specs.Direct.{AreTiles, TileView}
use Rattle.icet_multi.specs.Rules.{JoinsInOrder, rule_of}
use Rattle.icet_multi.specs.Strategies.{tile_ranks}
use Rattle.icet_multi.proofs.RulesJoin.{rules_join_in_order}
use Rattle.icet_tiles.specs.Contributors.{HasEachOnce}
use Rattle.icet_net.specs.Net.{HullView}
use Rattle.icet_net.specs.Opening.{sides_of}
use Rattle.icet_net.specs.Closing.{picture_of, pictures_of}
use Rattle.icet_jobs.specs.Composites.{IsPlanFor, brackets_of, scene_tiles, images_of, plain_pictures}
use Rattle.icet_jobs.proofs.SameValues.{same_value}
use Rattle.icet_interlace.specs.Interlace.{interlaced, place, restored}
use Rattle.icet_interlace.proofs.Strands.{interlaced_each, restored_of}
use Rattle.icet_jobs.proofs.SceneImages.{image_at, image_length, made_at, same_image}

front : (x y : Pixel) (xs ys : List Pixel) → x ≡ y → nearest xs ≡ nearest ys → nearest (x ∷ xs) ≡ nearest (y ∷ ys)
front x y xs ys e h = ap (λ p. nearest (p ∷ xs)) e ∙ go y
  where
    go : (p : Pixel) → nearest (p ∷ xs) ≡ nearest (p ∷ ys)
    go None = h
    go (Some f) = ap (λ q. Some (nearer f q)) h

-- ranks that a filter leaves out and that draw nothing may be put back
module _ (keeps : ℕ → Bool) (one other : ℕ → Pixel) (n : ℕ) (same : (r : ℕ) → r < n → one r ≡ other r) (blank : (r : ℕ) → r < n → keeps r ≡ false → other r ≡ None) where
  over : (first k : ℕ) → first + k ≤ n → nearest (map one (filter keeps (range_with_len first k))) ≡ nearest (map other (range_with_len first k))
  over first zero l = refl
  over first (suc k) l = go (keeps first) refl (over (first + 1) k (omega arith))
    where
      go : (b : Bool) → keeps first ≡ b → nearest (map one (filter keeps (range_with_len (first + 1) k))) ≡ nearest (map other (range_with_len (first + 1) k)) → nearest (map one (cond b (first ∷ filter keeps (range_with_len (first + 1) k)) (filter keeps (range_with_len (first + 1) k)))) ≡ nearest (other first ∷ map other (range_with_len (first + 1) k))
      go true e rest = front (one first) (other first) (map one (filter keeps (range_with_len (first + 1) k))) (map other (range_with_len (first + 1) k)) (same first (omega arith)) rest
      go false e rest = rest ∙ ap (λ p. nearest (p ∷ map other (range_with_len (first + 1) k))) (sym (blank first (omega arith) e))

  nearest_of_all : nearest (map one (filter keeps (range_with_len 0 n))) ≡ nearest (map other (range_with_len 0 n))
  nearest_of_all = over 0 n (omega arith)

abbrev blanks : ℕ → List Pixel
blanks n = replicate n None

no_pixel : (n i : ℕ) → get_or (blanks n) i None ≡ None
no_pixel zero i = refl
no_pixel (suc n) zero = refl
no_pixel (suc n) (suc i) = no_pixel n i

fuse : {X Y Z : Type 0} (f : X → Y) (g : Y → Z) (xs : List X) → map (λ x. g (f x)) xs ≡ map g (map f xs)
fuse f g [] = refl
fuse f g (x ∷ xs) = ap (λ ys. g (f x) ∷ ys) (fuse f g xs)

map_at : {X Y : Type 0} (f : X → Y) (xs : List X) (k : ℕ) (x : X) (d : Y) → slice_get xs k ≡ Some x → get_or (map f xs) k d ≡ f x
map_at f [] k x d e = absurd cc
map_at f (y ∷ xs) zero x d e = ap f (let h : y ≡ x = cc in h)
map_at f (y ∷ xs) (suc k) x d e = map_at f xs k x d e

map_places : {X Y : Type 0} (f : ℕ → Y) (g : X → Y) (xs : List X) (first : ℕ) → ((k : ℕ) (x : X) → slice_get xs k ≡ Some x → f (first + k) ≡ g x) → map f (range_with_len first (length xs)) ≡ map g xs
map_places f g [] first h = refl
map_places f g (x ∷ xs) first h =
    ap (λ y. y ∷ map f (range_with_len (first + 1) (length xs))) (ap f (let e : first ≡ first + 0 = omega arith in e) ∙ h 0 x refl)
    ∙ ap (λ ys. g x ∷ ys) (map_places f g xs (first + 1) (λ k y e. ap f (let z : first + 1 + k ≡ first + suc k = omega arith in z) ∙ h (suc k) y e))

abbrev tile_with : AreaTile → List ℕ → TileView
tile_with tile ranks = record { size = tile.area.w * tile.area.h; display = tile.display; contributors = ranks }

-- a tile of the layout with its contributors
tile_at : (f : AreaTile → List ℕ) (tiles : List AreaTile) (k : ℕ) (tile : AreaTile) → slice_get tiles k ≡ Some tile → slice_get (tile_ranks tiles (map f tiles)) k ≡ Some (tile_with tile (f tile))
tile_at f [] k tile e = absurd cc
tile_at f (x ∷ tiles) zero tile e = ap (λ t. Some (tile_with t (f t))) (let h : x ≡ tile = cc in h)
tile_at f (x ∷ tiles) (suc k) tile e = tile_at f tiles k tile e

all_pass : (xs : List ℕ) → filter (λ x. true) xs ≡ xs
all_pass [] = refl
all_pass (x ∷ xs) = ap (λ ys. x ∷ ys) (all_pass xs)

-- two lists of one length, side by side
both_at : {X Y : Type 0} (xs : List X) (ys : List Y) (k : ℕ) (x : X × Y) → slice_get (zip xs ys) k ≡ Some x → (slice_get xs k ≡ Some x.0) × (slice_get ys k ≡ Some x.1)
both_at [] ys k x e = absurd cc
both_at (a ∷ xs) [] k x e = absurd cc
both_at (a ∷ xs) (b ∷ ys) zero x e = let h : (a, b) ≡ x = cc in (ap (λ p. Some p.0) h, ap (λ p. Some p.1) h)
both_at (a ∷ xs) (b ∷ ys) (suc k) x e = both_at xs ys k x e

zip_count : {X Y : Type 0} (xs : List X) (ys : List Y) → length ys ≡ length xs → length (zip xs ys) ≡ length xs
zip_count [] ys e = refl
zip_count (x ∷ xs) [] e = absurd (omega (arith, e))
zip_count (x ∷ xs) (y ∷ ys) e = ap suc (zip_count xs ys (omega (arith, e)))

got : {X : Type 0} (xs : List X) (k : ℕ) (x d : X) → slice_get xs k ≡ Some x → get_or xs k d ≡ x
got [] k x d e = absurd cc
got (y ∷ xs) zero x d e = cc
got (y ∷ xs) (suc k) x d e = got xs k x d e

-- by depth the order is that of the ranks, and each rank stands in it once
pub record IsOrdered (scene : SceneView) : Type 0 where
  pub ascending : scene.mode ≡ Depth → scene.order ≡ range_with_len 0 scene.ranks
  pub once : HasEachOnce scene.ranks scene.order

same_below : (f g : ℕ → Pixel) (first n : ℕ) → ((i : ℕ) → i < first + n → f i ≡ g i) → map f (range_with_len first n) ≡ map g (range_with_len first n)
same_below f g first zero h = refl
same_below f g first (suc n) h = ap (λ x. x ∷ map f (range_with_len (first + 1) n)) (h first (omega arith)) ∙ ap (λ xs. g first ∷ xs) (same_below f g (first + 1) n (λ i l. h i (omega (arith, l))))

module _ (strands : ℕ) (some : 1 ≤ strands) (scene : SceneView) (ordered : IsOrdered scene) (t : ℕ) (tile : AreaTile) (at : slice_get scene.tiles t ≡ Some tile) where
  abbrev images : Images
  images = images_of strands scene

  abbrev size : ℕ
  size = tile.area.w * tile.area.h

  abbrev ranks_of_tile : List ℕ
  ranks_of_tile = contributors (boxes_of scene) scene.order tile.area

  abbrev drawn : ℕ → List Pixel
  drawn r = full_image scene.mode (shapes_of scene.shapes r) tile.area

  -- the leaves of a bracket are the order, without ranks that draw nothing in the tile
  record JoinsKept (bracket : Bracket) : Type 0 where
    keeps : ℕ → Bool
    is : leaves bracket ≡ filter keeps scene.order
    blank : (r : ℕ) → r < scene.ranks → keeps r ≡ false → full_image scene.mode (shapes_of scene.shapes r) tile.area ≡ blanks (tile.area.w * tile.area.h)

  out_of_box : (r : ℕ) → r < scene.ranks → reaches_into (get_or (boxes_of scene) r None) tile.area ≡ false → full_image scene.mode (shapes_of scene.shapes r) tile.area ≡ blanks (tile.area.w * tile.area.h)
  out_of_box r l e =
      blank_outside scene.mode (shapes_of scene.shapes r) tile.area
      (ap (λ b. reaches_into b tile.area) (sym (made_at (λ q. box (shapes_of scene.shapes q)) 0 scene.ranks r None l ∙ ap (λ q. box (shapes_of scene.shapes q)) (let z : 0 + r ≡ r = omega arith in z))) ∙ e)

  joins_kept : (bracket : Bracket) → (leaves bracket ≡ scene.order) ⊎ (leaves bracket ≡ ranks_of_tile) → JoinsKept bracket
  joins_kept bracket (inl e) = record { keeps = λ r. true; is = e ∙ sym (all_pass scene.order); blank = λ r l h. absurd (cc) }
  joins_kept bracket (inr e) = record { keeps = λ r. reaches_into (get_or (boxes_of scene) r None) tile.area; is = e; blank = out_of_box }

  -- the interlaced image has at its position what the full one has at the pixel
  full : (r i : ℕ) → r < scene.ranks → i < size → get_or (images r t) (place i size strands) None ≡ get_or (drawn r) i None
  full r i l h =
      let long = image_length scene.mode (shapes_of scene.shapes r) tile.area in
      ap (λ image. get_or image (place i size strands) None) (same_image strands scene r t l ∙ ap (image_at strands scene.mode (shapes_of scene.shapes r)) at)
      ∙ ap (λ n. get_or (interlaced strands (drawn r)) (place i n strands) None) (sym long)
      ∙ interlaced_each strands some (drawn r) i (omega (arith, h, long))

  module _ (bracket : Bracket) (kept : JoinsKept bracket) where
    pixel_is : scene.order ≡ range_with_len 0 scene.ranks → (i : ℕ) → i < size → value Depth images bracket t (place i size strands) ≡ nearest (column (full_images scene tile) i)
    pixel_is ascending i h =
        value_nearest images bracket t (place i size strands)
        ∙ ap (λ rs. nearest (map (λ r. get_or (images r t) (place i size strands) None) rs)) kept.is
        ∙ ap (λ o. nearest (map (λ r. get_or (images r t) (place i size strands) None) (filter kept.keeps o))) ascending
        ∙ nearest_of_all kept.keeps (λ r. get_or (images r t) (place i size strands) None) (λ r. get_or (drawn r) i None) scene.ranks
        (λ r l. full r i l h)
        (λ r l e. ap (λ image. get_or image i None) (kept.blank r l e) ∙ no_pixel (tile.area.w * tile.area.h) i)
        ∙ ap nearest (fuse (λ r. full_image scene.mode (shapes_of scene.shapes r) tile.area) (λ image. get_or image i None) (range_with_len 0 scene.ranks))

    -- the images of the net and the full images agree on the bracket's leaves
    agrees : (i : ℕ) → i < size → AllByRecursion (λ r. get_or (images r t) (place i size strands) None ≡ get_or (images_by_rank (full_images scene tile) r 0) i None) (leaves bracket)
    agrees i h =
        let P : ℕ → Type 0 = λ r. get_or (images r t) (place i size strands) None ≡ get_or (images_by_rank (full_images scene tile) r 0) i None in
        let here : (r : ℕ) → r < scene.ranks → P r = λ r m.
        full r i m h ∙ ap (λ image. get_or image i None) (ap drawn (let z : r ≡ 0 + r = omega arith in z) ∙ sym (made_at drawn 0 scene.ranks r [] m)) in
        let known : All P scene.order = λ k d l. here (get_or scene.order k d) (ordered.once.below k d l) in
        subst (AllByRecursion P) (sym kept.is) (all_in_turn P (filter kept.keeps scene.order) (All-filter kept.keeps P scene.order known))

    plain_is : (mode : Mode) → scene.mode ≡ mode → (i : ℕ) → i < size → value mode images bracket t (place i size strands) ≡ plain_pixel mode bracket (full_images scene tile) i
    plain_is Depth m i h = pixel_is (ordered.ascending m) i h
    plain_is Blend m i h = same_value Blend images (images_by_rank (full_images scene tile)) bracket t 0 (place i size strands) i (agrees i h)
    plain_is WideBlend m i h = same_value WideBlend images (images_by_rank (full_images scene tile)) bracket t 0 (place i size strands) i (agrees i h)

    pixels_are : restored (tile.area.w * tile.area.h) strands (values scene.mode images t 0 (tile.area.w * tile.area.h) bracket) ≡ plain_composite scene.mode bracket (full_images scene tile) (tile.area.w * tile.area.h)
    pixels_are =
        let joined_at : ℕ → Pixel = λ p. value scene.mode images bracket t p in
        ap (λ n. restored size strands (map joined_at (range_with_len 0 n))) (let z : size - 0 ≡ size = omega arith in z)
        ∙ restored_of joined_at size strands some
        ∙ same_below (λ i. joined_at (place i size strands)) (plain_pixel scene.mode bracket (full_images scene tile)) 0 size (λ i l. plain_is scene.mode refl i (omega (arith, l)))

tile_count : (f : AreaTile → List ℕ) (tiles : List AreaTile) → length (tile_ranks tiles (map f tiles)) ≡ length tiles
tile_count f [] = refl
tile_count f (x ∷ tiles) = ap suc (tile_count f tiles)

abbrev hull_of : SceneView → PlanView → ℕ → ℕ → List (ℕ × ℕ) → HullView
hull_of scene plan cap strands pairs = record { plan = plan; cap = cap; strands = strands; sides = map sides_of scene.tiles; pairs = pairs }

abbrev picture_by : SceneView → AreaTile × Bracket → DenseView
picture_by scene x = record { w = x.0.area.w; h = x.0.area.h; pixels = plain_picture scene x.0 x.1 }

-- what the close of the plan's net shows
pub shown : (settings : Settings) (scene : SceneView) (plan : PlanView) (cap strands : ℕ) (pairs : List (ℕ × ℕ)) → 1 ≤ strands → IsOrdered scene → AreTiles (length scene.order) (scene_tiles scene) → IsPlanFor settings scene plan
    → pictures_of (record { plan = plan; cap = cap; strands = strands; sides = map sides_of scene.tiles; pairs = pairs }) scene.mode (images_of strands scene) ≡ plain_pictures settings scene
shown settings scene plan cap strands pairs some ordered lawful is =
    let joins = rules_join_in_order settings scene.order (scene_tiles scene) lawful in
    let brackets = brackets_of settings scene in
    let f : ℕ → DenseView = picture_of (hull_of scene plan cap strands pairs) scene.mode (images_of strands scene) in
    let many : length brackets ≡ length scene.tiles = joins.count ∙ tile_count (λ x. contributors (boxes_of scene) scene.order x.area) scene.tiles in
    ap (λ n. map f (range_with_len 0 n)) (length-map scene.tiles sides_of ∙ sym (zip_count scene.tiles brackets many))
    ∙ map_places f (picture_by scene) (zip scene.tiles brackets) 0 (λ t x at. ap f (let z : 0 + t ≡ t = omega arith in z) ∙ each t x.0 x.1 (both_at scene.tiles brackets t x at).0 (both_at scene.tiles brackets t x at).1)
  where
    each : (t : ℕ) (tile : AreaTile) (bracket : Bracket) → slice_get scene.tiles t ≡ Some tile → slice_get (brackets_of settings scene) t ≡ Some bracket → picture_of (hull_of scene plan cap strands pairs) scene.mode (images_of strands scene) t ≡ picture_by scene (tile, bracket)
    each t tile bracket at bracket_at =
        let joins = rules_join_in_order settings scene.order (scene_tiles scene) lawful in
        let ranks = contributors (boxes_of scene) scene.order tile.area in
        let here = tile_at (λ x. contributors (boxes_of scene) scene.order x.area) scene.tiles t tile at in
        let side = map_at sides_of scene.tiles t tile (0, 0) at in
        let size = ap (λ ns. get_or ns t 0) is.sizes ∙ map_at (λ (x : TileView). x.size) (scene_tiles scene) t (tile_with tile ranks) 0 here in
        let shows = ap (λ bs. get_or bs t Empty) is.brackets ∙ got (brackets_of settings scene) t bracket Empty bracket_at in
        let kept = joins_kept strands some scene ordered t tile at bracket (joins.joined t (tile_with tile ranks) bracket here bracket_at) in
        ap (λ (s : ℕ × ℕ). record { w = s.0; h = s.1; pixels = restored (get_or plan.tiles.sizes t 0) strands (values scene.mode (images_of strands scene) t 0 (get_or plan.tiles.sizes t 0) (get_or plan.brackets t Empty)) }) side
        ∙ ap (λ n. record { w = tile.area.w; h = tile.area.h; pixels = restored n strands (values scene.mode (images_of strands scene) t 0 n (get_or plan.brackets t Empty)) }) size
        ∙ ap (λ b. record { w = tile.area.w; h = tile.area.h; pixels = restored (tile.area.w * tile.area.h) strands (values scene.mode (images_of strands scene) t 0 (tile.area.w * tile.area.h) b) }) shows
        ∙ ap (λ ps. record { w = tile.area.w; h = tile.area.h; pixels = ps }) (pixels_are strands some scene ordered t tile at bracket kept)
