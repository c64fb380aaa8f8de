-- Where the lines of a text end, and the steps of reading them.
use Rattle.std.proofs.Common.{◌≡◌, ◌≢◌, ℕ, zero, suc, ◌+◌, ◌*◌, ◌<◌, ◌≤◌, Bool, true, false, cond, List, [], ◌∷◌, map, length, drop, refl, sym, ap, ◌∙◌, subst, Some, None, arith}
use Rattle.std.specs.Prelude.{◌-◌, nat_lt, if◌then◌else◌, All, AllPairs}
use Rattle.std.specs.List.{range_with_len, sum_by}
use Rattle.std.proofs.lemmas.Bool.Decides.{nat_tests}
use Rattle.std.proofs.lemmas.List.Elements.{All-nil, All-cons, All-head, All-tail, All-map}
use Rattle.std.proofs.lemmas.List.Kept.{AllPairs-cons}
use Rattle.std.proofs.lemmas.List.FromFn.{length-range_with_len}
use Rattle.icet_model.specs.declared.limits.TheConstants.{MAX_RANK_PIXELS}
use Rattle.icet_text.specs.Lines.{lines_of}
use Rattle.icet_tiles.specs.Contributors.{HasEachOnce}
use Rattle.icet_tiles.specs.declared.layout.Tile.{Tile}
use Rattle.icet_model.specs.declared.names.Mode.TheVariants.{Depth}
use Rattle.icet_tiles.specs.Layouts.{tile_view}
use Rattle.icet_raster.specs.declared.shape.Shape.{Shape}
use Rattle.icet_raster.specs.Shapes.{drawing_of}
use Rattle.icet_scene_model.specs.Lawful.{is_blending, IsPainted}
use Rattle.icet_scene_model.specs.declared.fault.Want.{Want}
use Rattle.icet_scene_model.specs.declared.fault.LineFault.{LineFault}
use Rattle.icet_scene_model.specs.declared.fault.LineFault.TheVariants.{BadByte, BadLine, OutOfPlace, OutOfRange, NotPremultiplied, RankTaken, BadOrder, NoMemory}
use Rattle.icet_scene_model.specs.declared.fault.SceneFault.TheVariants.{Missing, TooLarge}
use Rattle.icet_scene_model.specs.declared.keyword.Place.{Place}
use Rattle.icet_scene_model.specs.declared.keyword.Place.TheVariants.{Start, BehindHead, BehindMode, BehindRanks, BehindMaxval, BehindBackground, BehindOrder, BehindTile, BehindShape, BehindEnd}
use Rattle.icet_scene_model.specs.Scene.{SceneView, Said, blends_in, scene_in, mode_of, is_wide, fault_at}
use Rattle.icet_scene_model.specs.SceneLines.{LineReading, Skipped, Says, Faulty, line_behind}
use Rattle.icet_scene_model.specs.Texts.{Text, SceneText, Refused, text_behind, ended, sized, wanted, opening, unless_wanted, go_on}
use Rattle.icet_scene.specs.declared.draft.Draft.{Draft}
use Rattle.icet_scene.specs.Drafts.{IsDraft, HasPlace, HasBody}
use Rattle.icet_scene.specs.Lines.{IsFaultOf, placed_of}
use Rattle.icet_scene.specs.Readings.{IsFaultOfText, HasReadTo, with_line, is_faulty}

pub ended_wants : (before : List Said) (d : Draft) (want : Want) → IsDraft before d → Some want ≡ wanted d.place d.blends → ended before ≡ Refused (Missing want)
ended_wants before d want i e =
    ap (λ p. unless_wanted (wanted p (blends_in before)) (scene_in before)) i.place
    ∙ ap (λ b. unless_wanted (wanted d.place b) (scene_in before)) i.blends
    ∙ ap (λ o. unless_wanted o (scene_in before)) (sym e)

pub ended_sized : (before : List Said) (d : Draft) → IsDraft before d → None ≡ wanted d.place d.blends → ended before ≡ sized (scene_in before)
ended_sized before d i e =
    ap (λ p. unless_wanted (wanted p (blends_in before)) (scene_in before)) i.place
    ∙ ap (λ b. unless_wanted (wanted d.place b) (scene_in before)) i.blends
    ∙ ap (λ o. unless_wanted o (scene_in before)) (sym e)

opened : (b : Bool) → None ≡ opening b → ⊥
opened true e = cc
opened false e = cc

body_at : (d : Draft) (p : Place) (b : Bool) → None ≡ wanted p b → HasPlace p d → HasBody d
body_at d Start b e h = absurd cc
body_at d BehindHead b e h = absurd cc
body_at d BehindMode b e h = absurd cc
body_at d BehindRanks b e h = absurd (opened b e)
body_at d BehindMaxval b e h = absurd (opened b e)
body_at d BehindBackground b e h = absurd (opened b e)
body_at d BehindOrder b e h = absurd cc
body_at d BehindTile b e h = absurd cc
body_at d BehindShape b e h = absurd cc
body_at d BehindEnd b e h = h

pub ended_body : (d : Draft) → None ≡ wanted d.place d.blends → HasPlace d.place d → HasBody d
ended_body d e h = body_at d d.place d.blends e h

-- the scene of a draft whose order is this
abbrev pub view_of : Draft → List ℕ → SceneView
view_of d order = record {
  mode = mode_of d.blends (is_wide d.maxval);
  wide = is_wide d.maxval;
  ranks = d.ranks;
  background = d.background;
  order = order;
  tiles = map tile_view d.tiles.items;
  shapes = map placed_of d.shapes.items;
}

pub scene_is : (before : List Said) (d : Draft) (order : List ℕ) → IsDraft before d → order ≡ (if d.blends then d.order.items else range_with_len 0 d.ranks) → scene_in before ≡ view_of d order
scene_is before d order i e = rw (i.blends, i.maxval, i.ranks, i.background, i.order, i.tiles, i.shapes, e) refl

pub sized_large : (scene : SceneView) (n : ℕ) → scene.ranks * sum_by (λ tile. tile.area.w * tile.area.h) scene.tiles ≡ n → MAX_RANK_PIXELS < n → sized scene ≡ Refused TooLarge
sized_large scene n e l = ap (λ k. cond (nat_lt MAX_RANK_PIXELS k) (Refused TooLarge) (SceneText scene)) e ∙ ap (λ b. cond b (Refused TooLarge) (SceneText scene)) (let t : nat_lt MAX_RANK_PIXELS n ≡ true = grind (arith, nat_tests, l) in t)

pub sized_small : (scene : SceneView) (n : ℕ) → scene.ranks * sum_by (λ tile. tile.area.w * tile.area.h) scene.tiles ≡ n → n ≤ MAX_RANK_PIXELS → sized scene ≡ SceneText scene
sized_small scene n e l = ap (λ k. cond (nat_lt MAX_RANK_PIXELS k) (Refused TooLarge) (SceneText scene)) e ∙ ap (λ b. cond b (Refused TooLarge) (SceneText scene)) (let t : nat_lt MAX_RANK_PIXELS n ≡ false = grind (arith, nat_tests, l) in t)

-- the first line, and those behind it
pub line_read : (before : List Said) (number : ℕ) (line : List ℕ) (text lines : List (List ℕ)) (reading : LineReading) → text ≡ line ∷ lines → line_behind before line ≡ reading → text_behind before number text ≡ go_on reading number before (λ said. text_behind said (number + 1) lines)
line_read before number line text lines reading t e = ap (text_behind before number) t ∙ ap (λ r. go_on r number before (λ said. text_behind said (number + 1) lines)) e

pub fault_read : (fault : LineFault) (number : ℕ) (text : Text) (reading : LineReading) → IsFaultOf fault reading → ((f : LineFault) → reading ≡ Faulty f → text ≡ Refused (fault_at number f)) → IsFaultOfText (fault_at number fault) text
fault_read BadByte number text reading h f = f BadByte h
fault_read BadLine number text reading h f = f BadLine h
fault_read OutOfPlace number text reading h f = f OutOfPlace h
fault_read OutOfRange number text reading h f = f OutOfRange h
fault_read NotPremultiplied number text reading h f = f NotPremultiplied h
fault_read RankTaken number text reading h f = f RankTaken h
fault_read BadOrder number text reading h f = f BadOrder h
fault_read NoMemory number text reading h f = tt

all_in : (P : ℕ → Type 0) (first n : ℕ) → ((r : ℕ) → first ≤ r → r < first + n → P r) → All P (range_with_len first n)
all_in P first zero h = All-nil P
all_in P first (suc n) h = All-cons P first (range_with_len (first + 1) n) (h first (omega arith) (omega arith)) (all_in P (first + 1) n (λ r a b. h r (omega (arith, a)) (omega (arith, b))))

no_pairs : (xs : List ℕ) → xs ≡ [] → AllPairs (λ one other. one ≢ other) xs
no_pairs xs e = λ i j d l m. absurd (let z : length xs ≡ 0 = ap length e in omega (arith, z, m))

all_apart : (first n : ℕ) → AllPairs (λ one other. one ≢ other) (range_with_len first n)
all_apart first zero = no_pairs (range_with_len first zero) refl
all_apart first (suc n) = AllPairs-cons (λ one other. one ≢ other) first (range_with_len (first + 1) n) (all_in (λ r. first ≢ r) (first + 1) n (λ r a b e. absurd (omega (arith, a, e)))) (all_apart (first + 1) n)

-- the ranks ascending are each rank once
pub each_ascending : (n : ℕ) → HasEachOnce n (range_with_len 0 n)
each_ascending n = record {
  count = length-range_with_len 0 n;
  below = all_in (λ r. r < n) 0 n (λ r a b. omega (arith, b));
  distinct = all_apart 0 n;
}

pub displayed : (ranks : ℕ) (tiles : List Tile) → 1 ≤ ranks → All (λ tile. tile.display ≤ ranks - 1) tiles → All (λ tile. tile.display < ranks) (map tile_view tiles)
displayed ranks [] some h = All-nil (λ tile. tile.display < ranks)
displayed ranks (tile ∷ tiles) some h =
    let first : tile.display < ranks = omega (arith, some, All-head (λ t. t.display ≤ ranks - 1) tile tiles h) in
    All-cons (λ t. t.display < ranks) (tile_view tile) (map tile_view tiles) first (displayed ranks tiles some (All-tail (λ t. t.display ≤ ranks - 1) tile tiles h))

pub drawn_by : (ranks : ℕ) (shapes : List (ℕ × Shape)) → 1 ≤ ranks → All (λ shape. shape.0 ≤ ranks - 1) shapes → All (λ placed. placed.rank < ranks) (map placed_of shapes)
drawn_by ranks shapes some h = All-map (λ placed. placed.rank < ranks) placed_of shapes (λ k e l. omega (arith, h k e l, some))

pub painted_by : (most greatest : ℕ) (shapes : List (ℕ × Shape)) → most ≡ greatest → All (λ shape. IsPainted most (drawing_of shape.1)) shapes → All (λ placed. IsPainted greatest placed.shape) (map placed_of shapes)
painted_by most greatest shapes e h = subst (λ m. All (λ placed. IsPainted m placed.shape) (map placed_of shapes)) e (All-map (λ placed. IsPainted most placed.shape) placed_of shapes h)

pub mode_again : (b w : Bool) → mode_of b w ≡ mode_of (is_blending (mode_of b w)) w
mode_again false w = refl
mode_again true false = refl
mode_again true true = refl

pub each_of : (b : Bool) (ranks : ℕ) (order read : List ℕ) → (b ≡ true → HasEachOnce ranks read) → order ≡ (if b then read else range_with_len 0 ranks) → HasEachOnce ranks order
each_of true ranks order read h e = subst (HasEachOnce ranks) (sym e) (h refl)
each_of false ranks order read h e = subst (HasEachOnce ranks) (sym e) (each_ascending ranks)

pub ascending_of : (b w : Bool) (ranks : ℕ) (order read : List ℕ) → order ≡ (if b then read else range_with_len 0 ranks) → mode_of b w ≡ Depth → order ≡ range_with_len 0 ranks
ascending_of true true ranks order read e m = absurd cc
ascending_of true false ranks order read e m = absurd cc
ascending_of false w ranks order read e m = e

goes_on : (reading : LineReading) (number : ℕ) (before : List Said) (next : List Said → Text) → is_faulty reading ≡ false → go_on reading number before next ≡ next (with_line reading before)
goes_on Skipped number before next e = refl
goes_on (Says said) number before next e = refl
goes_on (Faulty fault) number before next e = absurd cc

-- one more line is read
pub read_on : (bytes : List ℕ) (at next number : ℕ) (d e : Draft) (line : List ℕ) → HasReadTo bytes at number d → lines_of (drop at bytes) ≡ line ∷ lines_of (drop next bytes) → at < next → next ≤ length bytes
    → ((before : List Said) → IsDraft before d → IsDraft (with_line (line_behind before line) before) e) → ((before : List Said) → IsDraft before d → is_faulty (line_behind before line) ≡ false) → HasReadTo bytes next (number + 1) e
read_on bytes at next number d e line h lines later within grows well = record {
  within = within;
  few = omega (arith, h.few, later);
  before = with_line (line_behind h.before line) h.before;
  draft_is = grows h.before h.draft_is;
  rest = h.rest ∙ line_read h.before number line (lines_of (drop at bytes)) (lines_of (drop next bytes)) (line_behind h.before line) lines refl ∙ goes_on (line_behind h.before line) number h.before (λ said. text_behind said (number + 1) (lines_of (drop next bytes))) (well h.before h.draft_is);
}

-- a faulty line refuses the text
pub read_faulty : (bytes : List ℕ) (at next number : ℕ) (d : Draft) (line : List ℕ) (fault : LineFault) → HasReadTo bytes at number d → lines_of (drop at bytes) ≡ line ∷ lines_of (drop next bytes) → ((before : List Said) → IsDraft before d → IsFaultOf fault (line_behind before line)) → IsFaultOfText (fault_at number fault) (text_behind [] 1 (lines_of bytes))
read_faulty bytes at next number d line fault h lines refused =
    fault_read fault number (text_behind [] 1 (lines_of bytes)) (line_behind h.before line) (refused h.before h.draft_is)
    (λ f e. h.rest ∙ line_read h.before number line (lines_of (drop at bytes)) (lines_of (drop next bytes)) (Faulty f) lines e)
