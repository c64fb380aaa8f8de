-- Orders: as many numbers as ranks, each below them, and none twice.
use Rattle.std.proofs.Common.{◌≡◌, ◌≢◌, ℕ, ◌≤◌, Bool, true, false, cond, List, [], ◌∷◌, length, refl, sym, ap, ◌∙◌, subst, Option, Some, None, arith, eq-eqb}
use Rattle.std.specs.Prelude.{option_map, ◌&&◌, ◌||◌, not, ◌==◌, All, AllPairs}
use Rattle.std.specs.Option.{is_some}
use Rattle.std.specs.List.{list_any, list_all}
use Rattle.std.proofs.lemmas.List.Elements.{All-nil, All-cons}
use Rattle.std.proofs.lemmas.List.Kept.{AllPairs-cons}
use Rattle.std.proofs.lemmas.Bool.Decides.{nat_tests}
use Rattle.icet_text.specs.Numerals.{is_numeral, number_in, takes, value_of}
use Rattle.icet_text.specs.Numbers.{with_number, sizes_in}
use Rattle.icet_text.specs.Words.{counted}
use Rattle.icet_text.specs.declared.field.Field.{Field}
use Rattle.icet_text.specs.declared.field.Number.{Number}
use Rattle.icet_tiles.specs.Contributors.{HasEachOnce}
use Rattle.icet_scene_model.specs.Scene.{Said, OrderIs, ranks_in}
use Rattle.icet_scene_model.specs.Fields.{rank_field}
use Rattle.icet_scene_model.specs.SceneLines.{Faulty, Says, ranged, said_in, is_each_once, all_differ, unless_broken}
use Rattle.icet_scene_model.specs.declared.keyword.Keyword.TheVariants.{Order}
use Rattle.icet_scene_model.specs.declared.fault.LineFault.TheVariants.{BadOrder}
use Rattle.icet_scene.specs.Lines.{counts_to}

record Numbered (word : List ℕ) (n : Number) (field : Field) : Type 0 where
  numeral : is_numeral word ≡ true
  taken : takes field n ≡ true

numbered : (field : Field) (word : List ℕ) (n : Number) → number_in field word ≡ Some n → Numbered word n field
numbered field word n e = outer (is_numeral word) refl e
  where
    inner : (b : Bool) → takes field (value_of word) ≡ b → cond b (Some (value_of word)) None ≡ Some n → takes field n ≡ true
    inner true is e = let same : value_of word ≡ n = cc in subst (λ m. takes field m ≡ true) same is
    inner false is e = absurd cc

    outer : (b : Bool) → is_numeral word ≡ b → cond b (cond (takes field (value_of word)) (Some (value_of word)) None) None ≡ Some n → Numbered word n field
    outer true is e = record { numeral = is; taken = inner (takes field (value_of word)) refl e }
    outer false is e = absurd cc

-- the sizes that were read are one for each word, and each word is a numeral
record Sized (field : Field) (words : List (List ℕ)) (ns : List ℕ) : Type 0 where
  numerals : list_all is_numeral words ≡ true
  count : length words ≡ length ns
  below : All (λ n. n ≤ field.greatest) ns

both : (a b : Bool) → a ≡ true → b ≡ true → (a && b) ≡ true
both true b e f = f
both false b e f = absurd cc

size_of : (field : Field) (n : Number) → takes field n ≡ true → n.size ≤ field.greatest
size_of field n e = grind (arith, nat_tests, e)

sized : (field : Field) (words : List (List ℕ)) (ns : List ℕ) → sizes_in field words ≡ Some ns → Sized field words ns
sized field [] ns e =
    let same : [] ≡ ns = cc in
    subst (λ xs. Sized field [] xs) same (record { numerals = refl; count = refl; below = All-nil (λ n. n ≤ field.greatest) })
sized field (word ∷ words) ns e = go (number_in field word) (sizes_in field words) refl (sized field words) e
  where
    go : (m : Option Number) (o : Option (List ℕ)) → number_in field word ≡ m → ((rest : List ℕ) → o ≡ Some rest → Sized field words rest) → with_number (option_map (λ x. x.size) m) o ≡ Some ns → Sized field (word ∷ words) ns
    go None o is rest e = absurd cc
    go (Some n) None is rest e = absurd cc
    go (Some n) (Some sizes) is rest e =
        let same : n.size ∷ sizes ≡ ns = cc in
        let s = rest sizes refl in
        let one = numbered field word n is in
        subst (λ xs. Sized field (word ∷ words) xs) same (record { numerals = both (is_numeral word) (list_all is_numeral words) one.numeral s.numerals; count = omega (arith, s.count); below = All-cons (λ n. n ≤ field.greatest) n.size sizes (size_of field n one.taken) s.below })

count_of : (field : Field) (words : List (List ℕ)) (ns : List ℕ) → sizes_in field words ≡ Some ns → counted words ≡ Some (length ns)
count_of field words ns e =
    let s = sized field words ns e in
    ap (λ b. cond b (Some (length words)) None) s.numerals ∙ ap Some s.count

is_counted : (field : Field) (words : List (List ℕ)) (ns : List ℕ) (ranks : ℕ) (b : Bool) → sizes_in field words ≡ Some ns → counts_to ranks (counted words) ≡ b → (length ns == ranks) ≡ b
is_counted field words ns ranks b e f = ap (counts_to ranks) (sym (count_of field words ns e)) ∙ f

spelled : (before : List Said) (ranks : ℕ) (words : List (List ℕ)) (ns : List ℕ) → ranks_in before ≡ ranks → sizes_in (rank_field ranks) words ≡ Some ns → ranged before (said_in before Order words) ≡ unless_broken (OrderIs ns) (cond (is_each_once ranks ns) None (Some BadOrder))
spelled before ranks words ns r e =
    ap (λ k. ranged before (option_map OrderIs (sizes_in (rank_field k) words))) r
    ∙ ap (λ o. ranged before (option_map OrderIs o)) e
    ∙ ap (λ k. unless_broken (OrderIs ns) (cond (is_each_once k ns) None (Some BadOrder))) r

broken : (ns : List ℕ) (b : Bool) → b ≡ false → unless_broken (OrderIs ns) (cond b None (Some BadOrder)) ≡ Faulty BadOrder
broken ns true e = absurd cc
broken ns false e = refl

kept : (ns : List ℕ) (b : Bool) → b ≡ true → unless_broken (OrderIs ns) (cond b None (Some BadOrder)) ≡ Says (OrderIs ns)
kept ns true e = refl
kept ns false e = absurd cc

first_false : (a b : Bool) → a ≡ false → (a && b) ≡ false
first_false true b e = absurd cc
first_false false b e = refl

second_false : (a b : Bool) → b ≡ false → (a && b) ≡ false
second_false true b e = e
second_false false b e = refl

-- another number of ranks
pub order_miscounted : (before : List Said) (ranks : ℕ) (words : List (List ℕ)) → is_some (sizes_in (rank_field ranks) words) ≡ true → counts_to ranks (counted words) ≡ false → ranks_in before ≡ ranks → ranged before (said_in before Order words) ≡ Faulty BadOrder
order_miscounted before ranks words there miscounted r = go (sizes_in (rank_field ranks) words) refl there
  where
    go : (o : Option (List ℕ)) → sizes_in (rank_field ranks) words ≡ o → is_some o ≡ true → ranged before (said_in before Order words) ≡ Faulty BadOrder
    go None e f = absurd cc
    go (Some ns) e f = spelled before ranks words ns r e ∙ broken ns (is_each_once ranks ns) (first_false (length ns == ranks) (all_differ ns) (is_counted (rank_field ranks) words ns ranks false e miscounted))

-- a rank twice
pub order_repeats : (before : List Said) (ranks : ℕ) (words : List (List ℕ)) (ns : List ℕ) → Some ns ≡ sizes_in (rank_field ranks) words → all_differ ns ≡ false → ranks_in before ≡ ranks → ranged before (said_in before Order words) ≡ Faulty BadOrder
order_repeats before ranks words ns e repeats r = spelled before ranks words ns r (sym e) ∙ broken ns (is_each_once ranks ns) (second_false (length ns == ranks) (all_differ ns) repeats)

pub order_says : (before : List Said) (ranks : ℕ) (words : List (List ℕ)) (ns : List ℕ) → Some ns ≡ sizes_in (rank_field ranks) words → counts_to ranks (counted words) ≡ true → all_differ ns ≡ true → ranks_in before ≡ ranks → ranged before (said_in before Order words) ≡ Says (OrderIs ns)
order_says before ranks words ns e counts differ r = spelled before ranks words ns r (sym e) ∙ kept ns (is_each_once ranks ns) (both (length ns == ranks) (all_differ ns) (is_counted (rank_field ranks) words ns ranks true (sym e) counts) differ)

no_other : (n : ℕ) (ns : List ℕ) → list_any (λ m. m == n) ns ≡ false → All (λ m. n ≢ m) ns
no_other n [] e = All-nil (λ m. n ≢ m)
no_other n (m ∷ ns) e = go (m == n) refl (no_other n ns) e
  where
    go : (b : Bool) → (m == n) ≡ b → (list_any (λ k. k == n) ns ≡ false → All (λ k. n ≢ k) ns) → list_any (λ k. k == n) (m ∷ ns) ≡ false → All (λ k. n ≢ k) (m ∷ ns)
    go true is rest e = absurd (let f : true ≡ false = ap (λ b. b || list_any (λ k. k == n) ns) (sym is) ∙ e in cc)
    go false is rest e =
        let later : list_any (λ k. k == n) ns ≡ false = ap (λ b. b || list_any (λ k. k == n) ns) (sym is) ∙ e in
        let apart : n ≢ m = λ same. absurd (let f : true ≡ false = sym (eq-eqb m n (sym same)) ∙ is in cc) in
        All-cons (λ k. n ≢ k) m ns apart (rest later)

parts : (a b : Bool) → (not a && b) ≡ true → (a ≡ false) × (b ≡ true)
parts true b e = absurd cc
parts false b e = (refl, e)

apart : (ns : List ℕ) → all_differ ns ≡ true → AllPairs (λ one other. one ≢ other) ns
apart [] e = λ i j d l m. absurd (omega arith)
apart (n ∷ ns) e =
    let h = parts (list_any (λ m. m == n) ns) (all_differ ns) e in
    AllPairs-cons (λ one other. one ≢ other) n ns (no_other n ns h.0) (apart ns h.1)

equal : (a b : ℕ) → (a == b) ≡ true → a ≡ b
equal a b e = grind (arith, nat_tests, e)

pub order_lawful : (ranks : ℕ) (words : List (List ℕ)) (ns : List ℕ) → 1 ≤ ranks → Some ns ≡ sizes_in (rank_field ranks) words → counts_to ranks (counted words) ≡ true → all_differ ns ≡ true → HasEachOnce ranks ns
order_lawful ranks words ns some e counts differ =
    let s = sized (rank_field ranks) words ns (sym e) in
    record {
      count = equal (length ns) ranks (is_counted (rank_field ranks) words ns ranks true (sym e) counts);
      below = λ k d l. omega (arith, s.below k d l, some);
      distinct = apart ns differ;
    }
