-- The entries of a schedule, one after the other.
use Rattle.std.proofs.Common.{◌≡◌, ℕ, ◌+◌, ◌<◌, ◌≤◌, ◌≢◌, List, [], ◌∷◌, ◌++◌, length, take, drop, refl, sym, ap, ◌∙◌, arith, Option, Some, None, cond, append_assoc, append-nil, length-append}
use Rattle.std.specs.Prelude.{option_map, ◌==◌, nat_le}
use Rattle.std.specs.List.{slice_split, position}
use Rattle.std.specs.Option.{option_and_then}
use Rattle.std.proofs.lemmas.Bool.Decides.{nat_tests}
use Rattle.std.proofs.lemmas.List.Splits.{slice_split_first, length-slice_split}
use Rattle.icet_text.specs.Numbers.{with_number}
use Rattle.icet_text.specs.Numerals.{natural_in}
use Rattle.icet_words.specs.Schedules.{entries_of, schedule_of}
use Rattle.icet_text.proofs.Splits.{position_some, position_none, split_whole}

-- the entries of a schedule with no comma
pub entries_none : (text : List ℕ) → position (λ b. b == 44) text ≡ None → slice_split (λ b. b == 44) text ≡ text ∷ []
entries_none text e = split_whole (λ b. b == 44) text (position_none (λ b. b == 44) text e)

-- the entries of a schedule whose first comma stands at this place
pub entries_some : (text : List ℕ) (at : ℕ) → position (λ b. b == 44) text ≡ Some at → slice_split (λ b. b == 44) text ≡ take at text ∷ slice_split (λ b. b == 44) (drop (at + 1) text)
entries_some text at e =
    let h = position_some (λ b. b == 44) text at e in
    slice_split_first (λ b. b == 44) text 0 h.1 ∙ ap (λ n. take n text ∷ slice_split (λ b. b == 44) (drop (n + 1) text)) h.0

-- these ranks are read, and the others are those of the words that are left
pub record HasEntries (all : List (List ℕ)) (ranks : List ℕ) (rest : List (List ℕ)) : Type 0 where
  pub same : entries_of all ≡ option_map (λ more. ranks ++ more) (entries_of rest)
  pub few : length ranks ≤ 65536

pub entries_start : (all : List (List ℕ)) → HasEntries all [] all
entries_start all = record { same = go (entries_of all); few = omega arith }
  where
    go : (o : Option (List ℕ)) → o ≡ option_map (λ more. [] ++ more) o
    go None = refl
    go (Some ns) = refl

-- a further word that is a rank
pub entries_more : (all : List (List ℕ)) (ranks : List ℕ) (word : List ℕ) (rest : List (List ℕ)) (n : ℕ) → length ranks ≢ 65536 → HasEntries all ranks (word ∷ rest) → natural_in (0, 255) word ≡ Some n → HasEntries all (ranks ++ n ∷ []) rest
entries_more all ranks word rest n room h number = record {
  same = h.same ∙ ap (λ m. option_map (λ more. ranks ++ more) (with_number m (entries_of rest))) number ∙ go (entries_of rest);
  few = omega (arith, length-append ranks (n ∷ []), h.few);
}
  where
    go : (o : Option (List ℕ)) → option_map (λ more. ranks ++ more) (with_number (Some n) o) ≡ option_map (λ more. (ranks ++ n ∷ []) ++ more) o
    go None = refl
    go (Some ns) = ap Some (sym (append_assoc ranks (n ∷ []) ns))

abbrev bounded : List ℕ → Option (List ℕ)
bounded entries = cond (nat_le (length entries) 65536) (Some entries) None

-- a word that is no rank
pub schedule_misfit : (text : List ℕ) (ranks : List ℕ) (word : List ℕ) (rest : List (List ℕ)) → HasEntries (slice_split (λ b. b == 44) text) ranks (word ∷ rest) → natural_in (0, 255) word ≡ None → schedule_of text ≡ None
schedule_misfit text ranks word rest h number =
    ap (option_and_then bounded) h.same
    ∙ ap (λ m. option_and_then bounded (option_map (λ more. ranks ++ more) (with_number m (entries_of rest)))) number

-- all words are ranks
pub schedule_whole : (text : List ℕ) (ranks : List ℕ) → HasEntries (slice_split (λ b. b == 44) text) ranks [] → schedule_of text ≡ Some ranks
schedule_whole text ranks h =
    ap (option_and_then bounded) (h.same ∙ ap Some (append-nil ranks))
    ∙ let few = h.few in grind (arith, nat_tests)

too_long : (ranks : List ℕ) (words : List (List ℕ)) → length ranks ≡ 65536 → 0 < length words → option_and_then bounded (option_map (λ more. ranks ++ more) (entries_of words)) ≡ None
too_long ranks [] full l = absurd (omega arith)
too_long ranks (word ∷ words) full l = go (natural_in (0, 255) word) (entries_of words)
  where
    longer : (n : ℕ) (ns : List ℕ) → bounded (ranks ++ n ∷ ns) ≡ None
    longer n ns = let more : 65536 < length (ranks ++ n ∷ ns) = omega (arith, length-append ranks (n ∷ ns)) in grind (arith, nat_tests)

    go : (m : Option ℕ) (o : Option (List ℕ)) → option_and_then bounded (option_map (λ more. ranks ++ more) (with_number m o)) ≡ None
    go None o = refl
    go (Some n) None = refl
    go (Some n) (Some ns) = longer n ns

-- as many ranks as there may be, and a further word
pub schedule_long : (text ranks rest : List ℕ) → length ranks ≡ 65536 → HasEntries (slice_split (λ b. b == 44) text) ranks (slice_split (λ b. b == 44) rest) → schedule_of text ≡ None
schedule_long text ranks rest full h =
    ap (option_and_then bounded) h.same
    ∙ too_long ranks (slice_split (λ b. b == 44) rest) full (omega (arith, length-slice_split (λ b. b == 44) rest))
