-- The direct programs' exchanges: which they are, and that sends and takes go together.
use Rattle.std.proofs.Common.{◌≡◌, ℕ, suc, ◌<◌, ◌≤◌, Bool, true, false, cond, List, [], ◌∷◌, ◌++◌, map, refl, sym, ap, ◌∙◌, subst, arith, eqb-true, eq-eqb, ne_eqb}
use Rattle.std.specs.Prelude.{◌==◌, ◌&&◌, ◌≢◌, not}
use Rattle.std.specs.List.{AllByRecursion, filter}
use Rattle.std.proofs.lemmas.List.{append-nil, map-append}
use Rattle.std.proofs.lemmas.Bool.{eqb-false}
use Rattle.std.proofs.Math.Bool.{and-true, and-false}
use Rattle.icet_model.specs.declared.exchange.Exchange.{Exchange}
use Rattle.icet_model.specs.declared.exchange.Op.TheVariants.{Load, Swap, Keep}
use Rattle.icet_model.specs.Exchange.{key, of_op, exchanges, sends_to, takes_from, Follows, IsRising, Heading, heading}
use Rattle.icet_model.specs.Matched.{HasPeerIn}
use Rattle.icet_plan.proofs.Lists.{filter-append, all_weaker}
use Rattle.icet_plan.proofs.LocalRuns.{exchanges-append}
use Rattle.icet_plan.proofs.Segments.{all_append, AreWithin, rising_append}
use Rattle.icet_plan.proofs.FlowIsOne.{AreMatched}
use Rattle.icet_multi.specs.Direct.{TileView, by_tile, has, hands_in, send_of, take_of, sends_for, sends_of, takes_in, takes_for, takes_of, direct_exchanges, sending, fetch, joins, folds, showing, sendings, showings, direct_program, IsTile}
use Rattle.icet_multi.proofs.ByTile.{always, all_by_tile, none_by_tile, image_by_tile}
use Rattle.icet_multi.proofs.Distinct.{Apart, EachOnce}
use Rattle.icet_multi.proofs.Picked.{entry, entries, picked}

-- the exchanges of the programs
pub sending_exchanges : (t : ℕ) (x : TileView) (r : ℕ) → exchanges (sending t x r) ≡ sends_for t x r
sending_exchanges t x r = go (hands_in x r)
  where
    go : (b : Bool) → exchanges (cond b (Load t 0 ∷ Swap (send_of t x) 0 ∷ []) []) ≡ cond b (send_of t x ∷ []) []
    go true = refl
    go false = refl

sendings_exchanges : (t : ℕ) (xs : List TileView) (r : ℕ) → exchanges (sendings t xs r) ≡ sends_of t xs r
sendings_exchanges t xs r = image_by_tile exchanges refl exchanges-append (λ n x. sending n x r) (λ n x. sends_for n x r) t xs (always (λ x. (n : ℕ) → exchanges (sending n x r) ≡ sends_for n x r) (λ x n. sending_exchanges n x r) xs)

fetch_exchanges : (t : ℕ) (x : TileView) (slot c : ℕ) → of_op (fetch t x slot c) ≡ cond (c == x.display) [] (take_of t x c ∷ [])
fetch_exchanges t x slot c = go (c == x.display)
  where
    go : (b : Bool) → of_op (cond b (Load t slot) (Swap (take_of t x c) slot)) ≡ cond b [] (take_of t x c ∷ [])
    go true = refl
    go false = refl

joins_exchanges : (t : ℕ) (x : TileView) (cs : List ℕ) → exchanges (joins t x cs) ≡ takes_in t x cs
joins_exchanges t x [] = refl
joins_exchanges t x (c ∷ cs) = ap (λ z. z ++ exchanges (joins t x cs)) (fetch_exchanges t x 1 c) ∙ ap (λ z. cond (c == x.display) [] (take_of t x c ∷ []) ++ z) (joins_exchanges t x cs)

pub folds_exchanges : (t : ℕ) (x : TileView) (cs : List ℕ) → exchanges (folds t x cs) ≡ takes_in t x cs
folds_exchanges t x [] = refl
folds_exchanges t x (c ∷ cs) = ap (λ z. z ++ exchanges (joins t x cs)) (fetch_exchanges t x 0 c) ∙ ap (λ z. cond (c == x.display) [] (take_of t x c ∷ []) ++ z) (joins_exchanges t x cs)

showing_exchanges : (t : ℕ) (x : TileView) (r : ℕ) → exchanges (showing t x r) ≡ takes_for t x r
showing_exchanges t x r = go (x.display == r)
  where
    go : (b : Bool) → exchanges (cond b (folds t x x.contributors ++ Keep 0 ∷ []) []) ≡ cond b (takes_in t x x.contributors) []
    go true = exchanges-append (folds t x x.contributors) (Keep 0 ∷ []) ∙ (append-nil (exchanges (folds t x x.contributors)) ∙ folds_exchanges t x x.contributors)
    go false = refl

showings_exchanges : (t : ℕ) (xs : List TileView) (r : ℕ) → exchanges (showings t xs r) ≡ takes_of t xs r
showings_exchanges t xs r = image_by_tile exchanges refl exchanges-append (λ n x. showing n x r) (λ n x. takes_for n x r) t xs (always (λ x. (n : ℕ) → exchanges (showing n x r) ≡ takes_for n x r) (λ x n. showing_exchanges n x r) xs)

pub program_exchanges : (xs : List TileView) (r : ℕ) → exchanges (direct_program xs r) ≡ direct_exchanges xs r
program_exchanges xs r = exchanges-append (sendings 0 xs r) (showings 0 xs r) ∙ (ap (λ z. z ++ exchanges (showings 0 xs r)) (sendings_exchanges 0 xs r) ∙ ap (λ z. sends_of 0 xs r ++ z) (showings_exchanges 0 xs r))

-- what holds of each send and of each take
all_sends : (P : Exchange → Type 0) (t : ℕ) (xs : List TileView) (r : ℕ) → AllByRecursion (λ x. (u : ℕ) → hands_in x r ≡ true → P (send_of u x)) xs → AllByRecursion P (sends_of t xs r)
all_sends P t xs r h = all_by_tile P (λ n x. sends_for n x r) t xs (all_weaker (λ x. (u : ℕ) → hands_in x r ≡ true → P (send_of u x)) (λ x. (n : ℕ) → AllByRecursion P (sends_for n x r)) (λ x f n. go n x (f n) (hands_in x r) refl) xs h)
  where
    go : (n : ℕ) (x : TileView) → (hands_in x r ≡ true → P (send_of n x)) → (b : Bool) → hands_in x r ≡ b → AllByRecursion P (cond b (send_of n x ∷ []) [])
    go n x f true e = (f e, tt)
    go n x f false e = tt

pub all_takes_in : (P : Exchange → Type 0) (t : ℕ) (x : TileView) (cs : List ℕ) → AllByRecursion (λ c. c ≢ x.display → P (take_of t x c)) cs → AllByRecursion P (takes_in t x cs)
all_takes_in P t x [] h = tt
all_takes_in P t x (c ∷ cs) h = all_append P (cond (c == x.display) [] (take_of t x c ∷ [])) (takes_in t x cs) (go (c == x.display) refl) (all_takes_in P t x cs h.1)
  where
    go : (b : Bool) → (c == x.display) ≡ b → AllByRecursion P (cond b [] (take_of t x c ∷ []))
    go true e = tt
    go false e = (h.0 (eqb-false c x.display e), tt)

all_takes : (P : Exchange → Type 0) (t : ℕ) (xs : List TileView) (r : ℕ) → AllByRecursion (λ x. (u : ℕ) → x.display ≡ r → AllByRecursion (λ c. c ≢ x.display → P (take_of u x c)) x.contributors) xs → AllByRecursion P (takes_of t xs r)
all_takes P t xs r h = all_by_tile P (λ n x. takes_for n x r) t xs (all_weaker (λ x. (u : ℕ) → x.display ≡ r → AllByRecursion (λ c. c ≢ x.display → P (take_of u x c)) x.contributors) (λ x. (n : ℕ) → AllByRecursion P (takes_for n x r)) (λ x f n. go n x (f n) (x.display == r) refl) xs h)
  where
    go : (n : ℕ) (x : TileView) → (x.display ≡ r → AllByRecursion (λ c. c ≢ x.display → P (take_of n x c)) x.contributors) → (b : Bool) → (x.display == r) ≡ b → AllByRecursion P (cond b (takes_in n x x.contributors) [])
    go n x f true e = all_takes_in P n x x.contributors (f (eqb-true x.display r e))
    go n x f false e = tt

-- exchanges of one key rise where all peers differ
sends_within : (t : ℕ) (xs : List TileView) (r : ℕ) → AreWithin 0 1 (sends_of t xs r)
sends_within t xs r = all_sends (λ e. (0 ≤ key e) × (key e < 1)) t xs r (always (λ x. (u : ℕ) → hands_in x r ≡ true → (0 ≤ key (send_of u x)) × (key (send_of u x) < 1)) (λ x u h. (omega arith, omega arith)) xs)

takes_in_within : (t : ℕ) (x : TileView) (cs : List ℕ) → AreWithin 1 2 (takes_in t x cs)
takes_in_within t x cs = all_takes_in (λ e. (1 ≤ key e) × (key e < 2)) t x cs (always (λ c. c ≢ x.display → (1 ≤ key (take_of t x c)) × (key (take_of t x c) < 2)) (λ c n. (omega arith, omega arith)) cs)

takes_within : (t : ℕ) (xs : List TileView) (r : ℕ) → AreWithin 1 2 (takes_of t xs r)
takes_within t xs r = all_takes (λ e. (1 ≤ key e) × (key e < 2)) t xs r (always (λ x. (u : ℕ) → x.display ≡ r → AllByRecursion (λ c. c ≢ x.display → (1 ≤ key (take_of u x c)) × (key (take_of u x c) < 2)) x.contributors) (λ x u m. always (λ c. c ≢ x.display → (1 ≤ key (take_of u x c)) × (key (take_of u x c) < 2)) (λ c n. (omega arith, omega arith)) x.contributors) xs)

rising_if : (b : Bool) (e : Exchange) (es : List Exchange) → AllByRecursion (Follows e) es → IsRising es → IsRising (cond b (e ∷ []) [] ++ es)
rising_if true e es h k = (h, k)
rising_if false e es h k = k

rising_unless : (b : Bool) (e : Exchange) (es : List Exchange) → AllByRecursion (Follows e) es → IsRising es → IsRising (cond b [] (e ∷ []) ++ es)
rising_unless true e es h k = k
rising_unless false e es h k = (h, k)

sends_rise : (t : ℕ) (xs : List TileView) (r : ℕ) → Apart (λ x y. x.display ≢ y.display) xs → IsRising (sends_of t xs r)
sends_rise t [] r h = tt
sends_rise t (x ∷ xs) r h =
    rising_if (hands_in x r) (send_of t x) (sends_of (suc t) xs r)
    (all_sends (Follows (send_of t x)) (suc t) xs r
    (all_weaker (λ y. x.display ≢ y.display) (λ y. (u : ℕ) → hands_in y r ≡ true → Follows (send_of t x) (send_of u y)) (λ y n u g. record { later = omega arith; apart = λ e. absurd (n e) }) xs h.0))
    (sends_rise (suc t) xs r h.1)

pub takes_in_rise : (t : ℕ) (x : TileView) (cs : List ℕ) → Apart (λ a b. a ≢ b) cs → IsRising (takes_in t x cs)
takes_in_rise t x [] h = tt
takes_in_rise t x (c ∷ cs) h =
    rising_unless (c == x.display) (take_of t x c) (takes_in t x cs)
    (all_takes_in (Follows (take_of t x c)) t x cs
    (all_weaker (λ a. c ≢ a) (λ a. a ≢ x.display → Follows (take_of t x c) (take_of t x a)) (λ a n g. record { later = omega arith; apart = λ e. absurd (n e) }) cs h.0))
    (takes_in_rise t x cs h.1)

-- a rank shows one tile at most
none_shown : (t : ℕ) (xs : List TileView) (r : ℕ) → AllByRecursion (λ y. r ≢ y.display) xs → takes_of t xs r ≡ []
none_shown t xs r h = none_by_tile (λ n x. takes_for n x r) t xs (all_weaker (λ y. r ≢ y.display) (λ y. (n : ℕ) → takes_for n y r ≡ []) (λ y other n. ap (λ b. cond b (takes_in n y y.contributors) []) (ne_eqb y.display r (λ e. other (sym e)))) xs h)

takes_rise : (t : ℕ) (xs : List TileView) (r : ℕ) → Apart (λ x y. x.display ≢ y.display) xs → EachOnce xs → IsRising (takes_of t xs r)
takes_rise t [] r h once = tt
takes_rise t (x ∷ xs) r h once = go (x.display == r) refl (takes_rise (suc t) xs r h.1 once.1)
  where
    go : (b : Bool) → (x.display == r) ≡ b → IsRising (takes_of (suc t) xs r) → IsRising (cond b (takes_in t x x.contributors) [] ++ takes_of (suc t) xs r)
    go true e rest =
        let none = none_shown (suc t) xs r (subst (λ d. AllByRecursion (λ y. d ≢ y.display) xs) (eqb-true x.display r e) h.0) in
        subst (λ z. IsRising (takes_in t x x.contributors ++ z)) (sym none)
        (subst IsRising (sym (append-nil (takes_in t x x.contributors))) (takes_in_rise t x x.contributors once.0))
    go false e rest = rest

direct_rise : (xs : List TileView) (r : ℕ) → Apart (λ x y. x.display ≢ y.display) xs → EachOnce xs → IsRising (direct_exchanges xs r)
direct_rise xs r h once = rising_append 1 0 2 (sends_of 0 xs r) (takes_of 0 xs r) (sends_rise 0 xs r h) (takes_rise 0 xs r h once) (sends_within 0 xs r) (takes_within 0 xs r)

-- what a pair's sends and takes have alike
abbrev pub heading_of : ℕ → TileView → Heading
heading_of t x = record { round = 0; tile = t; lo = 0; hi = x.size }

abbrev pub headings_for : ℕ → TileView → ℕ → ℕ → List Heading
headings_for t x q r = cond ((x.display == r) && hands_in x q) (heading_of t x ∷ []) []

abbrev headings : ℕ → List TileView → ℕ → ℕ → List Heading
headings t xs q r = by_tile (λ n x. headings_for n x q r) t xs

abbrev no_heading : ℕ → TileView → List Heading
no_heading n x = []

nothing : (t : ℕ) (xs : List TileView) → by_tile no_heading t xs ≡ []
nothing t xs = none_by_tile no_heading t xs (always (λ x. (n : ℕ) → no_heading n x ≡ []) (λ x n. refl) xs)

abbrev pub seen : (Exchange → Bool) → List Exchange → List Heading
seen p es = map heading (filter p es)

pub seen_append : (p : Exchange → Bool) (xs ys : List Exchange) → seen p (xs ++ ys) ≡ seen p xs ++ seen p ys
seen_append p xs ys = ap (map heading) (filter-append p xs ys) ∙ map-append heading (filter p xs) (filter p ys)

pub send_seen : (n : ℕ) (x : TileView) (q r : ℕ) → seen (sends_to r) (sends_for n x q) ≡ headings_for n x q r
send_seen n x q r = go n x (hands_in x q)
  where
    at : (n : ℕ) (x : TileView) (d : Bool) → map heading (cond d (send_of n x ∷ []) []) ≡ cond d (heading_of n x ∷ []) []
    at n x true = refl
    at n x false = refl

    go : (n : ℕ) (x : TileView) (b : Bool) → seen (sends_to r) (cond b (send_of n x ∷ []) []) ≡ cond ((x.display == r) && b) (heading_of n x ∷ []) []
    go n x true = at n x (x.display == r) ∙ ap (λ z. cond z (heading_of n x ∷ []) []) (sym (and-true (x.display == r)))
    go n x false = ap (λ z. cond z (heading_of n x ∷ []) []) (sym (and-false (x.display == r)))

sends_seen : (t : ℕ) (xs : List TileView) (q r : ℕ) → seen (sends_to r) (sends_of t xs q) ≡ headings t xs q r
sends_seen t xs q r = image_by_tile (seen (sends_to r)) refl (seen_append (sends_to r)) (λ n x. sends_for n x q) (λ n x. headings_for n x q r) t xs (always (λ x. (n : ℕ) → seen (sends_to r) (sends_for n x q) ≡ headings_for n x q r) (λ x n. send_seen n x q r) xs)

pub no_take : (n : ℕ) (x : TileView) (q r : ℕ) → seen (takes_from q) (sends_for n x r) ≡ []
no_take n x q r = go (hands_in x r)
  where
    go : (b : Bool) → seen (takes_from q) (cond b (send_of n x ∷ []) []) ≡ []
    go true = refl
    go false = refl

no_takes : (t : ℕ) (xs : List TileView) (q r : ℕ) → seen (takes_from q) (sends_of t xs r) ≡ []
no_takes t xs q r = image_by_tile (seen (takes_from q)) refl (seen_append (takes_from q)) (λ n x. sends_for n x r) no_heading t xs (always (λ x. (n : ℕ) → seen (takes_from q) (sends_for n x r) ≡ []) (λ x n. no_take n x q r) xs) ∙ nothing t xs

no_sends_in : (t : ℕ) (x : TileView) (cs : List ℕ) (r : ℕ) → seen (sends_to r) (takes_in t x cs) ≡ []
no_sends_in t x [] r = refl
no_sends_in t x (c ∷ cs) r = seen_append (sends_to r) (cond (c == x.display) [] (take_of t x c ∷ [])) (takes_in t x cs) ∙ (ap (λ z. z ++ seen (sends_to r) (takes_in t x cs)) (go (c == x.display)) ∙ no_sends_in t x cs r)
  where
    go : (b : Bool) → seen (sends_to r) (cond b [] (take_of t x c ∷ [])) ≡ []
    go true = refl
    go false = refl

pub no_send : (n : ℕ) (x : TileView) (q r : ℕ) → seen (sends_to r) (takes_for n x q) ≡ []
no_send n x q r = go (x.display == q)
  where
    go : (b : Bool) → seen (sends_to r) (cond b (takes_in n x x.contributors) []) ≡ []
    go true = no_sends_in n x x.contributors r
    go false = refl

no_sends : (t : ℕ) (xs : List TileView) (q r : ℕ) → seen (sends_to r) (takes_of t xs q) ≡ []
no_sends t xs q r = image_by_tile (seen (sends_to r)) refl (seen_append (sends_to r)) (λ n x. takes_for n x q) no_heading t xs (always (λ x. (n : ℕ) → seen (sends_to r) (takes_for n x q) ≡ []) (λ x n. no_send n x q r) xs) ∙ nothing t xs

takes_in_seen : (t : ℕ) (x : TileView) (cs : List ℕ) (q : ℕ) → seen (takes_from q) (takes_in t x cs) ≡ entries x.display (λ c. heading_of t x) q cs
takes_in_seen t x [] q = refl
takes_in_seen t x (c ∷ cs) q = seen_append (takes_from q) (cond (c == x.display) [] (take_of t x c ∷ [])) (takes_in t x cs) ∙ (ap (λ z. z ++ seen (takes_from q) (takes_in t x cs)) (go (c == x.display)) ∙ ap (λ z. entry x.display (λ c. heading_of t x) q c ++ z) (takes_in_seen t x cs q))
  where
    at : (d : Bool) → map heading (cond d (take_of t x c ∷ []) []) ≡ cond d (heading_of t x ∷ []) []
    at true = refl
    at false = refl

    go : (b : Bool) → seen (takes_from q) (cond b [] (take_of t x c ∷ [])) ≡ cond b [] (cond (c == q) (heading_of t x ∷ []) [])
    go true = refl
    go false = at (c == q)

pub take_seen : (n : ℕ) (x : TileView) (q r : ℕ) → Apart (λ a b. a ≢ b) x.contributors → seen (takes_from q) (takes_for n x r) ≡ headings_for n x q r
take_seen n x q r o = go (x.display == r)
  where
    go : (b : Bool) → seen (takes_from q) (cond b (takes_in n x x.contributors) []) ≡ cond (b && hands_in x q) (heading_of n x ∷ []) []
    go true = takes_in_seen n x x.contributors q ∙ picked x.display (λ c. heading_of n x) q x.contributors o
    go false = refl

takes_seen : (t : ℕ) (xs : List TileView) (q r : ℕ) → EachOnce xs → seen (takes_from q) (takes_of t xs r) ≡ headings t xs q r
takes_seen t xs q r once = image_by_tile (seen (takes_from q)) refl (seen_append (takes_from q)) (λ n x. takes_for n x r) (λ n x. headings_for n x q r) t xs (all_weaker (λ x. Apart (λ a b. a ≢ b) x.contributors) (λ x. (n : ℕ) → seen (takes_from q) (takes_for n x r) ≡ headings_for n x q r) (λ x o n. take_seen n x q r o) xs once)

direct_pairs : (xs : List TileView) (q r : ℕ) → EachOnce xs → seen (sends_to r) (direct_exchanges xs q) ≡ seen (takes_from q) (direct_exchanges xs r)
direct_pairs xs q r once =
    seen_append (sends_to r) (sends_of 0 xs q) (takes_of 0 xs q)
    ∙ (ap (λ z. seen (sends_to r) (sends_of 0 xs q) ++ z) (no_sends 0 xs q r)
    ∙ (append-nil (seen (sends_to r) (sends_of 0 xs q))
    ∙ (sends_seen 0 xs q r
    ∙ (sym (takes_seen 0 xs q r once)
    ∙ (ap (λ z. z ++ seen (takes_from q) (takes_of 0 xs r)) (sym (no_takes 0 xs q r))
    ∙ sym (seen_append (takes_from q) (sends_of 0 xs r) (takes_of 0 xs r)))))))

pub direct_matched : (xs : List TileView) → Apart (λ x y. x.display ≢ y.display) xs → EachOnce xs → AreMatched (direct_program xs)
direct_matched xs h once = record {
  rising = λ r. subst IsRising (sym (program_exchanges xs r)) (direct_rise xs r h once);
  pairs = λ q r. ap (seen (sends_to r)) (program_exchanges xs q) ∙ (direct_pairs xs q r once ∙ ap (seen (takes_from q)) (sym (program_exchanges xs r)));
}

-- each peer is another rank
pub not_display : (x : TileView) (r : ℕ) → hands_in x r ≡ true → x.display ≢ r
not_display x r h e = go (has r x.contributors) h
  where
    same : (r == x.display) ≡ true
    same = eq-eqb r x.display (sym e)

    go : (b : Bool) → (b && not (r == x.display)) ≡ true → ⊥
    go true k = let n = ap not same in absurd (cc)
    go false k = absurd (cc)

pub direct_peers : (n : ℕ) (xs : List TileView) → AllByRecursion (IsTile n) xs → (r : ℕ) → AllByRecursion (HasPeerIn n r) (exchanges (direct_program xs r))
direct_peers n xs h r = subst (AllByRecursion (HasPeerIn n r)) (sym (program_exchanges xs r))
    (all_append (HasPeerIn n r) (sends_of 0 xs r) (takes_of 0 xs r)
    (all_sends (HasPeerIn n r) 0 xs r (all_weaker (IsTile n) (λ x. (u : ℕ) → hands_in x r ≡ true → HasPeerIn n r (send_of u x)) (λ x i u g. record { within = i.display; other = not_display x r g }) xs h))
    (all_takes (HasPeerIn n r) 0 xs r (all_weaker (IsTile n) (λ x. (u : ℕ) → x.display ≡ r → AllByRecursion (λ c. c ≢ x.display → HasPeerIn n r (take_of u x c)) x.contributors)
    (λ x i u m. all_weaker (λ c. c < n) (λ c. c ≢ x.display → HasPeerIn n r (take_of u x c)) (λ c l o. record { within = l; other = λ e. o (e ∙ sym m) }) x.contributors i.contributors) xs h)))
