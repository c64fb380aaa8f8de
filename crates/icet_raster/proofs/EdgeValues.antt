-- The values of edges: their six products, turned round, summed up, and at means of two places.
use Rattle.std.proofs.Common.{◌≡◌, ℕ, ◌+◌, ℤ, pos, ◌+ℤ◌, ◌-ℤ◌, ◌*ℤ◌, neg_ℤ, ap, ◌∙◌, arith}
use Rattle.std.proofs.lemmas.Int.{ints}
use Rattle.icet_scene_model.specs.declared.spot.Spot.{Spot}
use Rattle.icet_scene_model.specs.Triangles.{edge_value}
use Rattle.icet_raster.proofs.SignedProducts.{mul-add, mul-sub, mul-swap, differences}

-- the value of an edge by its six products
pub edge-is : (a b p : Spot) → edge_value a b p ≡ ((b.x *ℤ p.y +ℤ b.y *ℤ a.x) +ℤ a.y *ℤ p.x) -ℤ ((b.x *ℤ a.y +ℤ a.x *ℤ p.y) +ℤ b.y *ℤ p.x)
unfolding edge_value
edge-is a b p =
    let f = differences b.x a.x p.y a.y in
    let g = differences b.y a.y p.x a.x in
    omega (arith, ints)

pub edge-turned : (a b p : Spot) → edge_value b a p ≡ neg_ℤ (edge_value a b p)
edge-turned a b p =
    let f = edge-is a b p in
    let g = edge-is b a p in
    omega (arith, ints)

pub area-round : (a b c : Spot) → edge_value b c a ≡ edge_value a b c
area-round a b c =
    let f = edge-is a b c in
    let g = edge-is b c a in
    omega (arith, ints)

pub area-turned : (a b c : Spot) → edge_value a c b ≡ neg_ℤ (edge_value a b c)
area-turned a b c =
    let f = edge-is a b c in
    let g = edge-is a c b in
    omega (arith, ints)

pub weights-sum : (a b c p : Spot) → (edge_value b c p +ℤ edge_value c a p) +ℤ edge_value a b p ≡ edge_value a b c
weights-sum a b c p =
    let f = edge-is b c p in
    let g = edge-is c a p in
    let h = edge-is a b p in
    let i = edge-is a b c in
    omega (arith, ints)

pub at-first : (a b : Spot) → edge_value a b a ≡ pos 0
at-first a b =
    let f = edge-is a b a in
    omega (arith, ints)

pub at-second : (a b : Spot) → edge_value a b b ≡ pos 0
at-second a b =
    let f = edge-is a b b in
    omega (arith, ints)

scaled : (j k : ℕ) (d m a p q : ℤ) → pos (j + k) *ℤ m ≡ pos j *ℤ p +ℤ pos k *ℤ q → pos (j + k) *ℤ (d *ℤ (m -ℤ a)) ≡ pos j *ℤ (d *ℤ (p -ℤ a)) +ℤ pos k *ℤ (d *ℤ (q -ℤ a))
scaled j k d m a p q e =
    let inner : pos (j + k) *ℤ (m -ℤ a) ≡ pos j *ℤ (p -ℤ a) +ℤ pos k *ℤ (q -ℤ a) =
    (let f = mul-sub (pos (j + k)) m a in
    let g = mul-sub (pos j) p a in
    let h = mul-sub (pos k) q a in
    omega (arith, ints)) in
    let f = mul-swap (pos (j + k)) d (m -ℤ a) in
    let g = mul-add d (pos j *ℤ (p -ℤ a)) (pos k *ℤ (q -ℤ a)) in
    let h = mul-swap d (pos j) (p -ℤ a) in
    let i = mul-swap d (pos k) (q -ℤ a) in
    let l = ap (λ t. d *ℤ t) inner in
    f ∙ l ∙ g ∙ ap (λ t. t +ℤ d *ℤ (pos k *ℤ (q -ℤ a))) h ∙ ap (λ t. pos j *ℤ (d *ℤ (p -ℤ a)) +ℤ t) i

mean-difference : (n j k s t a b c d : ℤ) → n *ℤ s ≡ j *ℤ a +ℤ k *ℤ b → n *ℤ t ≡ j *ℤ c +ℤ k *ℤ d → n *ℤ (s -ℤ t) ≡ j *ℤ (a -ℤ c) +ℤ k *ℤ (b -ℤ d)
mean-difference n j k s t a b c d e f =
    let g = mul-sub n s t in
    let h = mul-sub j a c in
    let i = mul-sub k b d in
    omega (arith, ints)

-- the value at a mean of two places is the mean of the values
pub edge-mean : (a b p q m : Spot) (j k : ℕ) → pos (j + k) *ℤ m.x ≡ pos j *ℤ p.x +ℤ pos k *ℤ q.x → pos (j + k) *ℤ m.y ≡ pos j *ℤ p.y +ℤ pos k *ℤ q.y
    → pos (j + k) *ℤ edge_value a b m ≡ pos j *ℤ edge_value a b p +ℤ pos k *ℤ edge_value a b q
unfolding edge_value
edge-mean a b p q m j k ex ey =
    mean-difference (pos (j + k)) (pos j) (pos k) ((b.x -ℤ a.x) *ℤ (m.y -ℤ a.y)) ((b.y -ℤ a.y) *ℤ (m.x -ℤ a.x))
    ((b.x -ℤ a.x) *ℤ (p.y -ℤ a.y)) ((b.x -ℤ a.x) *ℤ (q.y -ℤ a.y)) ((b.y -ℤ a.y) *ℤ (p.x -ℤ a.x)) ((b.y -ℤ a.y) *ℤ (q.x -ℤ a.x))
    (scaled j k (b.x -ℤ a.x) m.y a.y p.y q.y ey) (scaled j k (b.y -ℤ a.y) m.x a.x p.x q.x ex)
