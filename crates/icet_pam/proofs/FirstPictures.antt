-- Which bytes begin with a picture's text, and that one picture at most begins them.
use Rattle.std.proofs.Common.{◌≡◌, ℕ, ◌+◌, ◌-◌, ◌*◌, ◌<◌, ◌≤◌, Bool, true, false, List, ◌++◌, length, take, drop, Some, None, refl, sym, ap, ◌∙◌, subst, arith, append_assoc, take-append-drop, length-append}
use Rattle.std.specs.Prelude.{All}
use Rattle.std.proofs.Math.Seq.{take-append_seam, take-append-add}
use Rattle.std.proofs.lemmas.List.{length-take-le}
use Rattle.icet_scene_model.specs.Lawful.{greatest_channel}
use Rattle.icet_scene_model.specs.Picture.{header}
use Rattle.icet_scene_model.specs.ReadPicture.{PictureView, IsReadable, BeginsWith, BeginsWithNone, DrawnPicture, IsDrawn, drawn_picture, drawn_text, picture_bytes, samples_bytes}
use Rattle.icet_scene_model.specs.Scene.{is_wide}
use Rattle.icet_pam.specs.declared.heading.Shape.{Shape}
use Rattle.icet_pam.specs.Headings.{heading_in, HasHeader}
use Rattle.icet_pam.specs.Pictures.{sample_size, samples_size, AreSamplesOf}
use Rattle.icet_pam.proofs.Headers.{heading_again, some_pair}
use Rattle.icet_pam.proofs.SampleBytes.{drawn_bytes, drawn_count, drawn_within, length_samples, samples_same}

wide_again : (wide : Bool) → is_wide (greatest_channel wide) ≡ wide
wide_again true = refl
wide_again false = refl

abbrev shape_of : PictureView → Shape
shape_of p = record { w = p.w; h = p.h; wide = is_wide p.maxval }

-- what stands behind the header of the picture that begins the bytes
abbrev behind_header : List ℕ → PictureView → ℕ → List ℕ
behind_header bytes p count = samples_bytes (is_wide p.maxval) p.samples ++ drop count bytes

begun : (bytes : List ℕ) (p : PictureView) (count : ℕ) → BeginsWith bytes p count → heading_in bytes ≡ Some (shape_of p, behind_header bytes p count)
begun bytes p count b = heading_again (shape_of p) bytes (behind_header bytes p count) (record {
  width = b.readable.width;
  height = b.readable.height;
  text = sym (take-append-drop count bytes) ∙ ap (λ xs. xs ++ drop count bytes) b.text ∙ append_assoc (header (is_wide p.maxval) p.w p.h) (samples_bytes (is_wide p.maxval) p.samples) (drop count bytes);
})

pub no_header : (bytes : List ℕ) → None ≡ heading_in bytes → BeginsWithNone bytes
no_header bytes none p count b = absurd (let e : None ≡ Some (shape_of p, behind_header bytes p count) = none ∙ begun bytes p count b in cc)

-- the bytes of a picture's samples
samples_length : (p : PictureView) → IsReadable p → length (samples_bytes (is_wide p.maxval) p.samples) ≡ samples_size (shape_of p)
samples_length p r = length_samples (is_wide p.maxval) p.samples ∙ ap (λ n. sample_size (is_wide p.maxval) * n) r.count

pub too_short : (bytes rest : List ℕ) (shape : Shape) → HasHeader bytes shape rest → length rest < samples_size shape → BeginsWithNone bytes
too_short bytes rest shape h short p count b =
    let same = some_pair {A = Shape} {B = List ℕ} (shape, rest) (shape_of p, behind_header bytes p count) (sym (heading_again shape bytes rest h) ∙ begun bytes p count b) in
    let size : samples_size shape ≡ samples_size (shape_of p) = ap samples_size same.0 in
    let whole : length rest ≡ length (behind_header bytes p count) = ap length same.1 in
    let both = length-append (samples_bytes (is_wide p.maxval) p.samples) (drop count bytes) in
    absurd (omega (arith, short, size, whole, both, samples_length p b.readable))

same_factor : (wide : Bool) (m n : ℕ) → sample_size wide * m ≡ sample_size wide * n → m ≡ n
same_factor false m n e = omega (arith, e)
same_factor true m n e = omega (arith, e)

-- the picture of a header and samples
abbrev picture_of : Shape → List ℕ → PictureView
picture_of shape samples = record { w = shape.w; h = shape.h; maxval = greatest_channel shape.wide; samples = samples }

pub not_longer : (bytes rest : List ℕ) (shape : Shape) → HasHeader bytes shape rest → length rest ≤ length bytes
not_longer bytes rest shape h = let e = ap length h.text ∙ length-append (header shape.wide shape.w shape.h) rest in omega (arith, e)

pub begins : (bytes rest : List ℕ) (shape : Shape) (samples : List ℕ) → HasHeader bytes shape rest → samples_size shape ≤ length rest → AreSamplesOf shape.wide (take (samples_size shape) rest) samples
    → BeginsWith bytes (picture_of shape samples) (length bytes - length rest + samples_size shape)
begins bytes rest shape samples h within are =
    let front : List ℕ = header shape.wide shape.w shape.h in
    let size : ℕ = samples_size shape in
    let whole : length bytes ≡ length front + length rest = ap length h.text ∙ length-append front rest in
    let count : length bytes - length rest + size ≡ length front + size = omega (arith, whole) in
    let taken : length (take size rest) ≡ size = length-take-le size rest within in
    let said : sample_size shape.wide * length samples ≡ size = sym (length_samples shape.wide samples) ∙ ap length are.text ∙ taken in
    record {
      readable = record {
        width = h.width;
        height = h.height;
        maxval = ap greatest_channel (sym (wide_again shape.wide));
        count = same_factor shape.wide (length samples) (4 * (shape.w * shape.h)) said;
        within = are.within;
      };
      within = omega (arith, whole, count, within);
      text =
          ap (λ n. take n bytes) count
          ∙ ap (take (length front + size)) h.text
          ∙ take-append-add front rest size
          ∙ ap (λ xs. front ++ xs) (sym are.text)
          ∙ ap (λ b. header b shape.w shape.h ++ samples_bytes b samples) (sym (wide_again shape.wide));
    }

append_same : (a b x y : List ℕ) → length a ≡ length b → a ++ x ≡ b ++ y → a ≡ b
append_same a b x y l e = sym (take-append_seam a x) ∙ ap (take (length a)) e ∙ ap (λ n. take n (b ++ y)) l ∙ take-append_seam b y

view : ℕ → ℕ → ℕ → List ℕ → PictureView
view w h maxval samples = record { w = w; h = h; maxval = maxval; samples = samples }

pub one_picture : (bytes : List ℕ) (p q : PictureView) (m n : ℕ) → BeginsWith bytes p m → BeginsWith bytes q n → (p ≡ q) × (m ≡ n)
unfolding view
one_picture bytes p q m n a b =
    let same = some_pair {A = Shape} {B = List ℕ} (shape_of p, behind_header bytes p m) (shape_of q, behind_header bytes q n) (sym (begun bytes p m a) ∙ begun bytes q n b) in
    let w : p.w ≡ q.w = ap (λ (s : Shape). s.w) same.0 in
    let h : p.h ≡ q.h = ap (λ (s : Shape). s.h) same.0 in
    let wide : is_wide p.maxval ≡ is_wide q.maxval = ap (λ (s : Shape). s.wide) same.0 in
    let maxval : p.maxval ≡ q.maxval = a.readable.maxval ∙ ap greatest_channel wide ∙ sym b.readable.maxval in
    let long : length (samples_bytes (is_wide p.maxval) p.samples) ≡ length (samples_bytes (is_wide q.maxval) q.samples) = samples_length p a.readable ∙ ap samples_size same.0 ∙ sym (samples_length q b.readable) in
    let text = append_same (samples_bytes (is_wide p.maxval) p.samples) (samples_bytes (is_wide q.maxval) q.samples) (drop m bytes) (drop n bytes) long same.1 in
    let samples : p.samples ≡ q.samples = samples_same (is_wide p.maxval) p.samples q.samples
    (subst (λ g. All (λ s. s ≤ g) p.samples) a.readable.maxval a.readable.within)
    (subst (λ g. All (λ s. s ≤ g) q.samples) (sym maxval ∙ a.readable.maxval) b.readable.within)
    (text ∙ ap (λ b. samples_bytes b q.samples) (sym wide)) in
    let pictures : p ≡ q =
    ap (λ x. view x p.h p.maxval p.samples) w
    ∙ ap (λ x. view q.w x p.maxval p.samples) h
    ∙ ap (λ x. view q.w q.h x p.samples) maxval
    ∙ ap (view q.w q.h q.maxval) samples in
    (pictures, sym (length-take-le m bytes a.within) ∙ ap length (a.text ∙ ap picture_bytes pictures ∙ sym b.text) ∙ length-take-le n bytes b.within)

pub drawn_again : (d : DrawnPicture) (more : List ℕ) → IsDrawn d → BeginsWith (drawn_text d ++ more) (drawn_picture d) (length (drawn_text d))
drawn_again d more is =
    let whole = length-append (drawn_text d) more in
    record {
      readable = record {
        width = is.width;
        height = is.height;
        maxval = ap greatest_channel (sym (wide_again d.wide));
        count = drawn_count d.wide d.mode d.background d.pixels ∙ ap (λ n. 4 * n) is.count;
        within = drawn_within d.wide d.mode d.background d.pixels;
      };
      within = omega (arith, whole);
      text =
          take-append_seam (drawn_text d) more
          ∙ ap (λ xs. header d.wide d.w d.h ++ xs) (sym (drawn_bytes d.wide d.mode d.background d.pixels))
          ∙ ap (λ b. header b d.w d.h ++ samples_bytes b (drawn_picture d).samples) (sym (wide_again d.wide));
    }
