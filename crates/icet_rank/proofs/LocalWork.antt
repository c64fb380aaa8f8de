-- Local work: what it finds, and what it leaves.
use Rattle.std.proofs.Common.{◌≡◌, ℕ, zero, suc, ◌<◌, ◌≤◌, List, [], ◌∷◌, length, get_or, set, refl, sym, ap, ◌∙◌, subst, arith, add-one, Option, Some, None, ◌+◌, ◌++◌, take}
use Rattle.std.specs.Prelude.{option_map}
use Rattle.std.specs.List.{AllByRecursion, slice_get}
use Rattle.std.specs.Option.{ForSome}
use Rattle.std.proofs.lemmas.List.{length-set}
use Rattle.icet_model.specs.declared.names.Mode.{Mode}
use Rattle.icet_model.specs.Pixel.{Pixel}
use Rattle.icet_model.specs.Run.{Carrier, Piece, whole, put, lower, upper, cut_slots, joined_piece, join_slots}
use Rattle.icet_plan.proofs.SlotList.{list_set}
use Rattle.icet_model.specs.Fit.{FitsCut, FitsJoin, shape_of}
use Rattle.icet_model.specs.Ports.{at_list}
use Rattle.icet_rank.specs.Fits.{IsFilled}
use Rattle.icet_model.specs.declared.exchange.Op.{Op}
use Rattle.icet_model.specs.declared.exchange.Op.TheVariants.{Load, Blank, Cut, Join, Swap, Keep}
use Rattle.icet_rank.specs.Machine.{Names, AreImages, sizes_of, carrier_of, content_at}

module _ where
  pub hi_is : (images : List (Piece (List Pixel))) (t : ℕ) (p : Piece (List Pixel)) → slice_get images t ≡ Some p → p.hi ≡ get_or (sizes_of images) t 0
  hi_is [] t p h = absurd (cc)
  hi_is (q ∷ qs) zero p h = ap (λ (x : Piece (List Pixel)). x.hi) (let e : p ≡ q = cc in e)
  hi_is (q ∷ qs) (suc t) p h = hi_is qs t p h

  content_is : (images : List (Piece (List Pixel))) (t : ℕ) (p : Piece (List Pixel)) → slice_get images t ≡ Some p → p.content ≡ content_at images t
  content_is [] t p h = absurd (cc)
  content_is (q ∷ qs) zero p h = ap (λ (x : Piece (List Pixel)). x.content) (let e : p ≡ q = cc in e)
  content_is (q ∷ qs) (suc t) p h = content_is qs t p h

  -- a rank's image of a tile is what its run loads
  pub image_whole : (mode : Mode) (images : List (Piece (List Pixel))) (t : ℕ) (p : Piece (List Pixel)) → AreImages images → slice_get images t ≡ Some p → p ≡ whole (carrier_of mode images) t
  image_whole mode images t p a h =
      let e = a.each t p h in
      let u = hi_is images t p h in
      let k = content_is images t p h in
      λ i. record { tile = e.0 i; lo = e.1 i; hi = u i; content = k i }

  pub of_sizes : (images : List (Piece (List Pixel))) → length (sizes_of images) ≡ length images
  of_sizes [] = refl
  of_sizes (p ∷ ps) = ap suc (of_sizes ps)

pub list_at : {P : Type 0} (slots : List (Option P)) (slot : ℕ) (d : Option P) → slot < length slots → get_or slots slot d ≡ at_list slots slot
list_at [] slot d l = absurd (omega (arith, l))
list_at (x ∷ xs) zero d l = refl
list_at (x ∷ xs) (suc slot) d l = list_at xs slot d (omega (arith, l))

pub shape_filled : {T : Type 0} (o : Option (Piece T)) → IsFilled (option_map shape_of o) → IsFilled o
shape_filled None f = f
shape_filled (Some p) f = tt

pub list_put : {V : Type 0} (slots : List (Option V)) (i : ℕ) (v : Option V) → i < length slots → at_list (set slots i v) ≡ put (at_list slots) i v
list_put = list_set

pub fits_join : {T : Type 0} (o p : Option (Piece T)) → FitsJoin (option_map shape_of o) (option_map shape_of p) → IsFilled o × IsFilled p
fits_join None p f = absurd f
fits_join (Some x) None f = absurd f
fits_join (Some x) (Some y) f = (tt, tt)

pub list_at_none : {P : Type 0} (slots : List (Option P)) (slot : ℕ) (d : Option P) → slot < length slots → get_or slots slot d ≡ None → IsFilled (at_list slots slot) → ⊥
list_at_none slots slot d l e f = subst IsFilled (sym (list_at slots slot d l) ∙ e) f

pub three_puts : {V : Type 0} (slots : List (Option V)) (a b e : ℕ) (v : Option V) → a < length slots → b < length slots → e < length slots → at_list (set (set (set slots a None) b None) e v) ≡ put (put (put (at_list slots) a None) b None) e v
three_puts slots a b e v la lb le =
    let n = length-set slots a None in
    let m = length-set (set slots a None) b None in
    list_set (set (set slots a None) b None) e v (omega (arith, n, m, le))
    ∙ ap (λ f. put f e v) (list_set (set slots a None) b None (omega (arith, n, lb)) ∙ ap (λ f. put f b None) (list_set slots a None la))

pub joined_is : {T : Type 0} (c : Carrier T) (o p : Option (Piece T)) (x y f b : Piece T) → o ≡ Some x → p ≡ Some y → o ≡ Some f → p ≡ Some b → joined_piece c x y ≡ joined_piece c f b
joined_is c o p x y f b h k l m = let e : x ≡ f = cc in let d : y ≡ b = cc in λ i. joined_piece c (e i) (d i)

pub join_to : {T : Type 0} (c : Carrier T) (front back into : ℕ) (slots : ℕ → Option (Piece T)) (o p : Option (Piece T)) (q : Piece T) → IsFilled o → IsFilled p → ((x y : Piece T) → o ≡ Some x → p ≡ Some y → q ≡ joined_piece c x y) → put (put (put slots front None) back None) into (Some q) ≡ join_slots c front back into o p slots
join_to c front back into slots None p q f g h = absurd f
join_to c front back into slots (Some x) None q f g h = absurd g
join_to c front back into slots (Some x) (Some y) q f g h = ap (λ z. put (put (put slots front None) back None) into (Some z)) (h x y refl refl)

pub cut_filled : {T : Type 0} (at : ℕ) (o : Option (Piece T)) → FitsCut at (option_map shape_of o) → IsFilled o
cut_filled at None f = f
cut_filled at (Some p) f = tt

-- the two pieces of a join are alike
pub same_shape : {T : Type 0} (o p : Option (Piece T)) (x y : Piece T) → o ≡ Some x → p ≡ Some y → FitsJoin (option_map shape_of o) (option_map shape_of p) → shape_of x ≡ shape_of y
same_shape o p x y h k f = subst (λ z. FitsJoin (Some (shape_of x)) (option_map shape_of z)) k (subst (λ z. FitsJoin (option_map shape_of z) (option_map shape_of p)) h f)

pub cut_range : {T : Type 0} (at : ℕ) (o : Option (Piece T)) (x : Piece T) → o ≡ Some x → FitsCut at (option_map shape_of o) → (x.lo ≤ at) × (at ≤ x.hi)
cut_range at o x h f = subst (λ z. FitsCut at (option_map shape_of z)) h f

-- a piece that was cut, and both halves put into their slots
pub cut_is : (mode : Mode) (images : List (Piece (List Pixel))) (slots : List (Option (Piece (List Pixel)))) (slot at into : ℕ) (d half : Option (Piece (List Pixel))) (rest : Piece (List Pixel)) → slot < length slots → into < length slots → FitsCut at (option_map shape_of (at_list slots slot)) → ForSome (get_or slots slot d) (λ p. (mode : Mode) (images : List (Piece (List Pixel))) → (half ≡ Some (lower (carrier_of mode images) at p)) × (rest ≡ upper (carrier_of mode images) at p)) → at_list (set (set slots slot half) into (Some rest)) ≡ cut_slots (carrier_of mode images) slot at into (at_list slots slot) (at_list slots)
cut_is mode images slots slot at into d half rest ls li fits h =
    let n = length-set slots slot half in
    list_set (set slots slot half) into (Some rest) (omega (arith, n, li))
    ∙ (ap (λ f. put f into (Some rest)) (list_set slots slot half ls) ∙ go (at_list slots slot) refl fits)
  where
    go : (o : Option (Piece (List Pixel))) → at_list slots slot ≡ o → FitsCut at (option_map shape_of o) → put (put (at_list slots) slot half) into (Some rest) ≡ cut_slots (carrier_of mode images) slot at into o (at_list slots)
    go None e f = absurd f
    go (Some p) e f =
        let k = h p (list_at slots slot d ls ∙ e) mode images in
        ap (λ v. put (put (at_list slots) slot v) into (Some rest)) k.0 ∙ ap (λ v. put (put (at_list slots) slot (Some (lower (carrier_of mode images) at p))) into (Some v)) k.1

-- slots that are named stay named where there are more slots
named_more : (n m : ℕ) (op : Op) → n ≤ m → Names n op → Names m op
named_more n m (Load tile slot) l h = omega (arith, l, h)
named_more n m (Blank tile slot) l h = omega (arith, l, h)
named_more n m (Cut slot at into) l h = (let a = h.0 in omega (arith, l, a), let a = h.1 in omega (arith, l, a))
named_more n m (Join front back into) l h = (let a = h.0 in omega (arith, l, a), let a = h.1 in omega (arith, l, a), let a = h.2 in omega (arith, l, a))
named_more n m (Swap e slot) l h = omega (arith, l, h)
named_more n m (Keep slot) l h = omega (arith, l, h)

pub more_named : (ops : List Op) (i : ℕ) (op : Op) (old one new : ℕ) → slice_get ops i ≡ Some op → AllByRecursion (Names old) (take i ops) → Names one op → old ≤ new → one ≤ new → AllByRecursion (Names new) (take (i + 1) ops)
more_named ops i op old one new h a n l k = rw add-one (go ops i h a)
  where
    go : (ops : List Op) (i : ℕ) → slice_get ops i ≡ Some op → AllByRecursion (Names old) (take i ops) → AllByRecursion (Names new) (take (suc i) ops)
    go [] i h a = absurd (cc)
    go (o ∷ ops) zero h a = (subst (Names new) (let e : op ≡ o = cc in e) (named_more one new op k n), tt)
    go (o ∷ ops) (suc i) h a = (named_more old new o l a.0, go ops i h a.1)

-- what holds of the first i + 1 operations holds of the first i and of the one behind them
pub named_before : (ops : List Op) (i : ℕ) (op : Op) (n : ℕ) → slice_get ops i ≡ Some op → AllByRecursion (Names n) (take (i + 1) ops) → AllByRecursion (Names n) (take i ops) × Names n op
named_before ops i op n h a = go ops i h (rw add-one at a)
  where
    go : (ops : List Op) (i : ℕ) → slice_get ops i ≡ Some op → AllByRecursion (Names n) (take (suc i) ops) → AllByRecursion (Names n) (take i ops) × Names n op
    go [] i h a = absurd (cc)
    go (o ∷ ops) zero h a = (tt, subst (Names n) (let e : o ≡ op = cc in e) a.0)
    go (o ∷ ops) (suc i) h a = let r = go ops i h a.1 in ((a.0, r.0), r.1)

-- one empty slot more
pub empty_more : {V : Type 0} (slots : List (Option V)) → ((k : ℕ) → at_list slots k ≡ None) → (k : ℕ) → at_list (slots ++ None ∷ []) k ≡ None
empty_more [] h zero = refl
empty_more [] h (suc k) = refl
empty_more (x ∷ xs) h zero = h 0
empty_more (x ∷ xs) h (suc k) = empty_more xs (λ n. h (suc n)) k
