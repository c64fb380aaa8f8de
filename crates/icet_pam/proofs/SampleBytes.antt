-- Samples and their bytes.
use Rattle.std.proofs.Common.{◌≡◌, ℕ, ◌*◌, ◌/◌, ◌%◌, ◌≤◌, Bool, true, false, List, [], ◌∷◌, ◌++◌, length, map, Some, None, refl, ap, ◌∙◌, arith, length-append}
use Rattle.std.specs.Prelude.{All, min}
use Rattle.std.specs.List.{flat_map}
use Rattle.std.proofs.lemmas.List.Concat.{flat_map-append}
use Rattle.std.proofs.lemmas.List.Elements.{All-nil, All-cons, All-head, All-tail, All-append}
use Rattle.icet_model.specs.declared.names.Mode.{Mode}
use Rattle.icet_model.specs.declared.names.Mode.TheVariants.{Depth, Blend, WideBlend}
use Rattle.icet_model.specs.Pixel.{FragmentView, Pixel, finished}
use Rattle.icet_scene_model.specs.Lawful.{greatest_channel}
use Rattle.icet_scene_model.specs.Picture.{pixel_bytes, pixels_bytes, sample_bytes}
use Rattle.icet_scene_model.specs.ReadPicture.{pixel_samples, samples_bytes}
use Rattle.icet_scene_model.specs.declared.limits.TheConstants.{NARROW_CHANNEL, WIDE_CHANNEL}
use Rattle.icet_pam.specs.Pictures.{sample_size}

pub length_samples : (wide : Bool) (samples : List ℕ) → length (samples_bytes wide samples) ≡ sample_size wide * length samples
length_samples false [] = refl
length_samples true [] = refl
length_samples false (s ∷ ss) = let e = length_samples false ss in omega (arith, e)
length_samples true (s ∷ ss) = let e = length_samples true ss in omega (arith, e)

-- samples with the same bytes are the same
pub samples_same : (wide : Bool) (xs ys : List ℕ) → All (λ s. s ≤ greatest_channel wide) xs → All (λ s. s ≤ greatest_channel wide) ys → samples_bytes wide xs ≡ samples_bytes wide ys → xs ≡ ys
samples_same wide [] [] h k e = refl
samples_same false [] (y ∷ ys) h k e = absurd cc
samples_same true [] (y ∷ ys) h k e = absurd cc
samples_same false (x ∷ xs) [] h k e = absurd cc
samples_same true (x ∷ xs) [] h k e = absurd cc
samples_same false (x ∷ xs) (y ∷ ys) h k e =
    let first : min x NARROW_CHANNEL ≡ min y NARROW_CHANNEL = cc in
    let rest : samples_bytes false xs ≡ samples_bytes false ys = cc in
    let small = All-head (λ s. s ≤ greatest_channel false) x xs h in
    let other = All-head (λ s. s ≤ greatest_channel false) y ys k in
    let same : x ≡ y = omega (arith, first, small, other) in
    let later = samples_same false xs ys (All-tail (λ s. s ≤ greatest_channel false) x xs h) (All-tail (λ s. s ≤ greatest_channel false) y ys k) rest in
    cc
samples_same true (x ∷ xs) (y ∷ ys) h k e =
    let upper : min x WIDE_CHANNEL / 256 ≡ min y WIDE_CHANNEL / 256 = cc in
    let lower : min x WIDE_CHANNEL % 256 ≡ min y WIDE_CHANNEL % 256 = cc in
    let rest : samples_bytes true xs ≡ samples_bytes true ys = cc in
    let small = All-head (λ s. s ≤ greatest_channel true) x xs h in
    let other = All-head (λ s. s ≤ greatest_channel true) y ys k in
    let same : x ≡ y = omega (arith, upper, lower, small, other) in
    let later = samples_same true xs ys (All-tail (λ s. s ≤ greatest_channel true) x xs h) (All-tail (λ s. s ≤ greatest_channel true) y ys k) rest in
    cc

-- a sample that is cut to the greatest has the same bytes
cut_bytes : (wide : Bool) (s : ℕ) → sample_bytes wide (min s (greatest_channel wide)) ≡ sample_bytes wide s
cut_bytes false s = ap (λ n. n ∷ []) (let e : min (min s NARROW_CHANNEL) NARROW_CHANNEL ≡ min s NARROW_CHANNEL = omega arith in e)
cut_bytes true s = ap (λ n. n / 256 ∷ n % 256 ∷ []) (let e : min (min s WIDE_CHANNEL) WIDE_CHANNEL ≡ min s WIDE_CHANNEL = omega arith in e)

abbrev cut : Bool → List ℕ → List ℕ
cut wide samples = map (λ s. min s (greatest_channel wide)) samples

all_cut_bytes : (wide : Bool) (samples : List ℕ) → samples_bytes wide (cut wide samples) ≡ samples_bytes wide samples
all_cut_bytes wide [] = refl
all_cut_bytes wide (s ∷ ss) = ap (λ bs. bs ++ samples_bytes wide (cut wide ss)) (cut_bytes wide s) ∙ ap (λ bs. sample_bytes wide s ++ bs) (all_cut_bytes wide ss)

all_cut : (wide : Bool) (samples : List ℕ) → All (λ s. s ≤ greatest_channel wide) (cut wide samples)
all_cut wide [] = All-nil (λ s. s ≤ greatest_channel wide)
all_cut wide (s ∷ ss) = All-cons (λ n. n ≤ greatest_channel wide) (min s (greatest_channel wide)) (cut wide ss) (omega arith) (all_cut wide ss)

four : (wide : Bool) (mode : Mode) (background : FragmentView) (pixel : Pixel) → length (pixel_samples wide mode background pixel) ≡ 4
four wide mode background None = refl
four wide Depth background (Some fragment) = refl
four wide Blend background (Some fragment) = refl
four wide WideBlend background (Some fragment) = refl

-- the samples of finished pixels have the bytes that are written
pub drawn_bytes : (wide : Bool) (mode : Mode) (background : FragmentView) (pixels : List Pixel) → samples_bytes wide (flat_map (pixel_samples wide mode background) pixels) ≡ pixels_bytes wide mode background pixels
drawn_bytes wide mode background [] = refl
drawn_bytes wide mode background (pixel ∷ pixels) =
    flat_map-append (sample_bytes wide) (pixel_samples wide mode background pixel) (flat_map (pixel_samples wide mode background) pixels)
    ∙ ap (λ bs. bs ++ samples_bytes wide (flat_map (pixel_samples wide mode background) pixels)) (all_cut_bytes wide (finished mode pixel background))
    ∙ ap (λ bs. pixel_bytes wide mode background pixel ++ bs) (drawn_bytes wide mode background pixels)

pub drawn_count : (wide : Bool) (mode : Mode) (background : FragmentView) (pixels : List Pixel) → length (flat_map (pixel_samples wide mode background) pixels) ≡ 4 * length pixels
drawn_count wide mode background [] = refl
drawn_count wide mode background (pixel ∷ pixels) =
    let both = length-append (pixel_samples wide mode background pixel) (flat_map (pixel_samples wide mode background) pixels) in
    omega (arith, both, four wide mode background pixel, drawn_count wide mode background pixels)

pub drawn_within : (wide : Bool) (mode : Mode) (background : FragmentView) (pixels : List Pixel) → All (λ s. s ≤ greatest_channel wide) (flat_map (pixel_samples wide mode background) pixels)
drawn_within wide mode background [] = All-nil (λ s. s ≤ greatest_channel wide)
drawn_within wide mode background (pixel ∷ pixels) =
    All-append (λ s. s ≤ greatest_channel wide) (pixel_samples wide mode background pixel) (flat_map (pixel_samples wide mode background) pixels)
    (all_cut wide (finished mode pixel background)) (drawn_within wide mode background pixels)
