-- The places of a program's exchanges: as many as exchanges, and each leads to its exchange.
use Rattle.std.proofs.Common.{◌≡◌, ℕ, zero, suc, ◌+◌, ◌<◌, ◌≤◌, List, [], ◌∷◌, ◌++◌, map, length, take, Some, refl, sym, ap, ◌∙◌, arith, add-one}
use Rattle.std.specs.Prelude.{slice_get, slice_index_or}
use Rattle.std.proofs.lemmas.List.{append_assoc, append-nil}
use Rattle.icet_model.specs.declared.exchange.Exchange.{Exchange}
use Rattle.icet_model.specs.declared.exchange.Op.{Op}
use Rattle.icet_model.specs.declared.exchange.Op.TheVariants.{Load, Blank, Cut, Join, Swap, Keep}
use Rattle.icet_model.specs.Exchange.{exchanges, of_rank}
use Rattle.icet_plan.specs.Places.{place_of, places_from, places, swap_at}

-- a program has at most as many exchanges as operations
pub places_few : (first : ℕ) (ops : List Op) → length (places_from first ops) ≤ length ops
places_few first [] = omega arith
places_few first (Load t slot ∷ ops) = omega (arith, places_few (suc first) ops)
places_few first (Blank t slot ∷ ops) = omega (arith, places_few (suc first) ops)
places_few first (Cut slot at into ∷ ops) = omega (arith, places_few (suc first) ops)
places_few first (Join front back into ∷ ops) = omega (arith, places_few (suc first) ops)
places_few first (Swap e slot ∷ ops) = omega (arith, places_few (suc first) ops)
places_few first (Keep slot ∷ ops) = omega (arith, places_few (suc first) ops)

-- there is a place for each exchange
pub places_count : (first : ℕ) (ops : List Op) → length (places_from first ops) ≡ length (exchanges ops)
places_count first [] = refl
places_count first (Load t slot ∷ ops) = places_count (suc first) ops
places_count first (Blank t slot ∷ ops) = places_count (suc first) ops
places_count first (Cut slot at into ∷ ops) = places_count (suc first) ops
places_count first (Join front back into ∷ ops) = places_count (suc first) ops
places_count first (Swap e slot ∷ ops) = ap suc (places_count (suc first) ops)
places_count first (Keep slot ∷ ops) = places_count (suc first) ops

places_next : (first : ℕ) (ops : List Op) (i : ℕ) (here : Op) → slice_get ops i ≡ Some here → places_from first (take (suc i) ops) ≡ places_from first (take i ops) ++ place_of (first + i) here
places_next first [] i here h = absurd cc
places_next first (op ∷ ops) zero here h =
    append-nil (place_of first op)
    ∙ ap (place_of first) (let e : op ≡ here = cc in e)
    ∙ ap (λ n. place_of n here) (let e : first ≡ first + 0 = omega arith in e)
places_next first (op ∷ ops) (suc i) here h =
    ap (λ ps. place_of first op ++ ps) (places_next (suc first) ops i here h ∙ ap (λ n. places_from (suc first) (take i ops) ++ place_of n here) (let e : suc first + i ≡ first + suc i = omega arith in e))
    ∙ sym (append_assoc (place_of first op) (places_from (suc first) (take i ops)) (place_of (first + suc i) here))

-- one operation more
pub places_more : (ops : List Op) (i : ℕ) (here : Op) → slice_get ops i ≡ Some here → places (take (i + 1) ops) ≡ places (take i ops) ++ place_of i here
places_more ops i here h = rw add-one (places_next 0 ops i here h ∙ ap (λ n. places (take i ops) ++ place_of n here) (let e : 0 + i ≡ i = omega arith in e))

-- the place of exchange i has that exchange
record Leads (first : ℕ) (ops : List Op) (p : ℕ) (e : Exchange) : Type 0 where
  at : ℕ
  place : p ≡ first + at
  swap : swap_at ops at ≡ Some e

behind : (first : ℕ) (op : Op) (ops : List Op) (p : ℕ) (e : Exchange) → Leads (suc first) ops p e → Leads first (op ∷ ops) p e
behind first op ops p e l = record { at = suc l.at; place = omega (arith, l.place); swap = l.swap }

leads : (first : ℕ) (ops : List Op) (i p : ℕ) (e : Exchange) → slice_get (places_from first ops) i ≡ Some p → slice_get (exchanges ops) i ≡ Some e → Leads first ops p e
leads first [] i p e h k = absurd cc
leads first (Load t slot ∷ ops) i p e h k = behind first (Load t slot) ops p e (leads (suc first) ops i p e h k)
leads first (Blank t slot ∷ ops) i p e h k = behind first (Blank t slot) ops p e (leads (suc first) ops i p e h k)
leads first (Cut slot at into ∷ ops) i p e h k = behind first (Cut slot at into) ops p e (leads (suc first) ops i p e h k)
leads first (Join front back into ∷ ops) i p e h k = behind first (Join front back into) ops p e (leads (suc first) ops i p e h k)
leads first (Swap f slot ∷ ops) zero p e h k = record { at = 0; place = let q : first ≡ p = cc in omega (arith, q); swap = k }
leads first (Swap f slot ∷ ops) (suc i) p e h k = behind first (Swap f slot) ops p e (leads (suc first) ops i p e h k)
leads first (Keep slot ∷ ops) i p e h k = behind first (Keep slot) ops p e (leads (suc first) ops i p e h k)

pub swap_there : (ops : List Op) (i p : ℕ) (e : Exchange) → slice_get (places ops) i ≡ Some p → slice_get (exchanges ops) i ≡ Some e → swap_at ops p ≡ Some e
swap_there ops i p e h k = let l = leads 0 ops i p e h k in ap (swap_at ops) (let q : p ≡ l.at = omega (arith, l.place) in q) ∙ l.swap

-- the row of a rank's places, and that of its exchanges
pub row_of_places : (programs : List (List Op)) (r : ℕ) (ps : List ℕ) (ops : List Op) → r < length programs → ps ≡ slice_index_or (map places programs) r ps → ops ≡ slice_index_or programs r ops → ps ≡ places ops
row_of_places [] r ps ops l e f = absurd (omega arith)
row_of_places (program ∷ programs) zero ps ops l e f = e ∙ ap places (sym f)
row_of_places (program ∷ programs) (suc r) ps ops l e f = row_of_places programs r ps ops (omega arith) e f

pub row_of_exchanges : (programs : List (List Op)) (r : ℕ) (ops : List Op) → r < length programs → ops ≡ slice_index_or programs r ops → of_rank (map exchanges programs) r ≡ exchanges ops
row_of_exchanges [] r ops l f = absurd (omega arith)
row_of_exchanges (program ∷ programs) zero ops l f = ap exchanges (sym f)
row_of_exchanges (program ∷ programs) (suc r) ops l f = row_of_exchanges programs r ops (omega arith) f

pub row_count : (programs : List (List Op)) (r : ℕ) (ps : List ℕ) → r < length programs → ps ≡ slice_index_or (map places programs) r ps → length ps ≡ length (of_rank (map exchanges programs) r)
row_count [] r ps l e = absurd (omega arith)
row_count (program ∷ programs) zero ps l e = ap length e ∙ places_count 0 program
row_count (program ∷ programs) (suc r) ps l e = row_count programs r ps (omega arith) e

there_is : (es : List Exchange) (i : ℕ) → i < length es → (e : Exchange) × (slice_get es i ≡ Some e)
there_is [] i l = absurd (omega arith)
there_is (e ∷ es) zero l = (e, refl)
there_is (e ∷ es) (suc i) l = there_is es i (omega arith)

-- exchange i of a rank stands at its place
pub record IsFound (programs : List (List Op)) (r i p : ℕ) (ops : List Op) : Type 0 where
  pub exchange : Exchange
  pub listed : slice_get (of_rank (map exchanges programs) r) i ≡ Some exchange
  pub there : swap_at ops p ≡ Some exchange

pub found : (programs : List (List Op)) (r i p : ℕ) (ps : List ℕ) (ops : List Op) → r < length programs → ps ≡ slice_index_or (map places programs) r ps → ops ≡ slice_index_or programs r ops → slice_get ps i ≡ Some p → i < length (of_rank (map exchanges programs) r) → IsFound programs r i p ops
found programs r i p ps ops l e f h m =
    let row = row_of_exchanges programs r ops l f in
    let here = there_is (exchanges ops) i (let n = ap length row in omega (arith, m, n)) in
    record {
      exchange = here.0;
      listed = ap (λ es. slice_get es i) row ∙ here.1;
      there = swap_there ops i p here.0 (ap (λ xs. slice_get xs i) (sym (row_of_places programs r ps ops l e f)) ∙ h) here.1;
    }
