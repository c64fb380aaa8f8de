-- Tests of equality on runs and on fragments.
use Rattle.std.proofs.Common.{◌≡◌, ℕ, ◌&&◌, eqb, Decides, ap}
use Rattle.std.proofs.lemmas.Bool.Decides.{Decides-and, Decides-eqb}
use Rattle.icet_model.specs.Pixel.{FragmentView}
use Rattle.icet_sparse.specs.declared.run.Run.{Run}
use Rattle.icet_sparse.proofs.Walking.{run}

same_run : (a b : Run) → a.blank ≡ b.blank → a.drawn ≡ b.drawn → run a.blank a.drawn ≡ run b.blank b.drawn
same_run a b p q = rw (p, q)

abbrev fragment : ℕ → ℕ → ℕ → ℕ → ℕ → FragmentView
fragment r g b a z = record { r = r; g = g; b = b; a = a; z = z }

same_fragment : (x y : FragmentView) → x.r ≡ y.r → x.g ≡ y.g → x.b ≡ y.b → x.a ≡ y.a → x.z ≡ y.z → fragment x.r x.g x.b x.a x.z ≡ fragment y.r y.g y.b y.a y.z
same_fragment x y p q s t u = rw (p, q, s, t, u)

pub run_decides : (a b : Run) → Decides (eqb a.blank b.blank && eqb a.drawn b.drawn) (a ≡ b)
run_decides a b =
    let each : Decides (eqb a.blank b.blank && eqb a.drawn b.drawn) ((a.blank ≡ b.blank) × (a.drawn ≡ b.drawn)) = Decides-and (eqb a.blank b.blank) (eqb a.drawn b.drawn) (Decides-eqb a.blank b.blank) (Decides-eqb a.drawn b.drawn) in
    (λ t. let e = each.0 t in same_run a b e.0 e.1, λ e. each.1 (ap (λ (x : Run). x.blank) e, ap (λ (x : Run). x.drawn) e))

pub fragment_decides : (x y : FragmentView) → Decides (eqb x.r y.r && (eqb x.g y.g && (eqb x.b y.b && (eqb x.a y.a && eqb x.z y.z)))) (x ≡ y)
fragment_decides x y =
    let az = Decides-and (eqb x.a y.a) (eqb x.z y.z) (Decides-eqb x.a y.a) (Decides-eqb x.z y.z) in
    let baz = Decides-and (eqb x.b y.b) (eqb x.a y.a && eqb x.z y.z) (Decides-eqb x.b y.b) az in
    let gbaz = Decides-and (eqb x.g y.g) (eqb x.b y.b && (eqb x.a y.a && eqb x.z y.z)) (Decides-eqb x.g y.g) baz in
    let each = Decides-and (eqb x.r y.r) (eqb x.g y.g && (eqb x.b y.b && (eqb x.a y.a && eqb x.z y.z))) (Decides-eqb x.r y.r) gbaz in
    (λ t. let e = each.0 t in same_fragment x y e.0 e.1.0 e.1.1.0 e.1.1.1.0 e.1.1.1.1, λ e. each.1 (ap (λ (f : FragmentView). f.r) e, (ap (λ (f : FragmentView). f.g) e, (ap (λ (f : FragmentView). f.b) e, (ap (λ (f : FragmentView). f.a) e, ap (λ (f : FragmentView). f.z) e)))))
