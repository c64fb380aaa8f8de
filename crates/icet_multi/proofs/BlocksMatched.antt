-- Round 0: the exchanges of its programs, and that sends and takes go together.
use Rattle.std.proofs.Common.{◌≡◌, ◌≢◌, ℕ, ◌<◌, ◌≤◌, Bool, true, false, cond, List, [], ◌∷◌, ◌++◌, length, get_or, refl, sym, ap, ◌∙◌, subst, arith, eqb-true}
use Rattle.std.proofs.lemmas.List.{append-nil}
use Rattle.std.specs.Prelude.{◌==◌}
use Rattle.std.specs.List.{AllByRecursion}
use Rattle.icet_model.specs.declared.exchange.Exchange.{Exchange}
use Rattle.icet_model.specs.Exchange.{Heading, IsRising, exchanges, key, sends_to, takes_from}
use Rattle.icet_model.specs.Matched.{HasPeerIn}
use Rattle.icet_plan.specs.Each.{each}
use Rattle.icet_plan.proofs.Lists.{all_weaker}
use Rattle.icet_plan.proofs.LocalRuns.{exchanges-append}
use Rattle.icet_plan.proofs.Segments.{AreWithin, IsPart, all_append, rising_append}
use Rattle.icet_groups.specs.Tiles.{TileView, has}
use Rattle.icet_legs.proofs.LegsInRow.{all_each}
use Rattle.icet_multi.specs.Direct.{folds, hands_in, send_of, sending, sends_for, take_of, takes_for, takes_in}
use Rattle.icet_multi.specs.Rules.{tile_of}
use Rattle.icet_multi.proofs.ByTile.{always}
use Rattle.icet_multi.proofs.DirectMatched.{all_takes_in, folds_exchanges, headings_for, no_send, no_take, not_display, seen, seen_append, send_seen, sending_exchanges, take_seen, takes_in_rise}
use Rattle.icet_multi.specs.Reduce.{block_tile, by_block}
use Rattle.icet_multi.specs.Reduced.{block_ops, folding}
use Rattle.icet_multi.proofs.EachOf.{each_image, each_none, rising_each}
use Rattle.icet_multi.proofs.GroupMembers.{AreSeats, block_apart, block_is, has_at, one_seat}

-- an image of lists that goes through appending goes through blocks
pub image_by_block : {A B : Type 0} (tiles : List TileView) (groups : List (List ℕ)) (g : List A → List B) → g [] ≡ [] → ((xs ys : List A) → g (xs ++ ys) ≡ g xs ++ g ys) → (f : ℕ → TileView → List A) (h : ℕ → TileView → List B) → ((t j : ℕ) → t < length tiles → j < length (get_or groups t []) → g (f t (block_tile (tile_of tiles t) (get_or groups t []) j)) ≡ h t (block_tile (tile_of tiles t) (get_or groups t []) j)) → g (by_block f tiles groups) ≡ by_block h tiles groups
image_by_block tiles groups g nil append f h same =
    each_image g nil append
    (λ t. each (λ j. f t (block_tile (tile_of tiles t) (get_or groups t []) j)) (length (get_or groups t [])))
    (λ t. each (λ j. h t (block_tile (tile_of tiles t) (get_or groups t []) j)) (length (get_or groups t [])))
    (length tiles)
    (λ t l. each_image g nil append (λ j. f t (block_tile (tile_of tiles t) (get_or groups t []) j)) (λ j. h t (block_tile (tile_of tiles t) (get_or groups t []) j)) (length (get_or groups t [])) (λ j m. same t j l m))

-- where no block gives anything
pub none_by_block : {A : Type 0} (tiles : List TileView) (groups : List (List ℕ)) (f : ℕ → TileView → List A) → ((t j : ℕ) → t < length tiles → j < length (get_or groups t []) → f t (block_tile (tile_of tiles t) (get_or groups t []) j) ≡ []) → by_block f tiles groups ≡ []
none_by_block tiles groups f none =
    each_none (λ t. each (λ j. f t (block_tile (tile_of tiles t) (get_or groups t []) j)) (length (get_or groups t []))) (length tiles)
    (λ t l. each_none (λ j. f t (block_tile (tile_of tiles t) (get_or groups t []) j)) (length (get_or groups t [])) (λ j m. none t j l m))

-- what holds of all that each block gives holds of all
pub all_by_block : {A : Type 0} (P : A → Type 0) (tiles : List TileView) (groups : List (List ℕ)) (f : ℕ → TileView → List A) → ((t j : ℕ) → t < length tiles → j < length (get_or groups t []) → AllByRecursion P (f t (block_tile (tile_of tiles t) (get_or groups t []) j))) → AllByRecursion P (by_block f tiles groups)
all_by_block P tiles groups f all =
    all_each P (λ t. each (λ j. f t (block_tile (tile_of tiles t) (get_or groups t []) j)) (length (get_or groups t []))) (length tiles)
    (λ t l. all_each P (λ j. f t (block_tile (tile_of tiles t) (get_or groups t []) j)) (length (get_or groups t [])) (λ j m. all t j l m))

folding_exchanges : (t : ℕ) (x : TileView) (r : ℕ) → exchanges (folding t x r) ≡ takes_for t x r
folding_exchanges t x r = go (x.display == r)
  where
    go : (b : Bool) → exchanges (cond b (folds t x x.contributors) []) ≡ cond b (takes_in t x x.contributors) []
    go true = folds_exchanges t x x.contributors
    go false = refl

-- what holds of a send, and of the takes of a block's member
send_all : (P : Exchange → Type 0) (n : ℕ) (x : TileView) (r : ℕ) → (hands_in x r ≡ true → P (send_of n x)) → AllByRecursion P (sends_for n x r)
send_all P n x r f = go (hands_in x r) refl
  where
    go : (b : Bool) → hands_in x r ≡ b → AllByRecursion P (cond b (send_of n x ∷ []) [])
    go true e = (f e, tt)
    go false e = tt

take_all : (P : Exchange → Type 0) (n : ℕ) (x : TileView) (r : ℕ) → (x.display ≡ r → AllByRecursion (λ c. c ≢ x.display → P (take_of n x c)) x.contributors) → AllByRecursion P (takes_for n x r)
take_all P n x r f = go (x.display == r) refl
  where
    go : (b : Bool) → (x.display == r) ≡ b → AllByRecursion P (cond b (takes_in n x x.contributors) [])
    go true e = all_takes_in P n x x.contributors (f (eqb-true x.display r e))
    go false e = tt

takes_are : (P : Exchange → Type 0) (n : ℕ) (x : TileView) (r : ℕ) → (x.display ≡ r → (c : ℕ) → P (take_of n x c)) → AllByRecursion P (takes_for n x r)
takes_are P n x r f = take_all P n x r (λ e. always (λ c. c ≢ x.display → P (take_of n x c)) (λ c o. f e c) x.contributors)

one_rises : (n : ℕ) (x : TileView) (r : ℕ) → IsRising (sends_for n x r)
one_rises n x r = go (hands_in x r)
  where
    go : (b : Bool) → IsRising (cond b (send_of n x ∷ []) [])
    go true = (tt, tt)
    go false = tt

takes_rise_for : (n : ℕ) (x : TileView) (r : ℕ) → IsRising (takes_in n x x.contributors) → IsRising (takes_for n x r)
takes_rise_for n x r h = go (x.display == r)
  where
    go : (b : Bool) → IsRising (cond b (takes_in n x x.contributors) [])
    go true = h
    go false = tt

module _ (ranks : ℕ) (tiles : List TileView) (groups : List (List ℕ)) (are : AreSeats ranks tiles groups) where
  abbrev group : ℕ → List ℕ
  group t = get_or groups t []

  abbrev block : ℕ → ℕ → TileView
  block t j = block_tile (tile_of tiles t) (group t) j

  abbrev sends : ℕ → List Exchange
  sends r = by_block (λ t x. sends_for t x r) tiles groups

  abbrev takes : ℕ → List Exchange
  takes r = by_block (λ t x. takes_for t x r) tiles groups

  pub block_exchanges : (r : ℕ) → exchanges (block_ops tiles groups r) ≡ sends r ++ takes r
  block_exchanges r =
      exchanges-append (by_block (λ t x. sending t x r) tiles groups) (by_block (λ t x. folding t x r) tiles groups)
      ∙ (ap (λ z. z ++ exchanges (by_block (λ t x. folding t x r) tiles groups)) (image_by_block tiles groups exchanges refl exchanges-append (λ t x. sending t x r) (λ t x. sends_for t x r) (λ t j l m. sending_exchanges t (block t j) r))
      ∙ ap (λ z. sends r ++ z) (image_by_block tiles groups exchanges refl exchanges-append (λ t x. folding t x r) (λ t x. takes_for t x r) (λ t j l m. folding_exchanges t (block t j) r)))

  -- the sends of a rank are to different members
  abbrev ToMember : ℕ → ℕ → Exchange → Type 0
  ToMember t j e = (key e ≡ 0) × (e.peer ≡ get_or (group t) j 0)

  abbrev ToGroup : ℕ → Exchange → Type 0
  ToGroup t e = (key e ≡ 0) × (has e.peer (group t) ≡ true)

  sends_to_member : (r t j : ℕ) → AllByRecursion (ToMember t j) (sends_for t (block t j) r)
  sends_to_member r t j = send_all (ToMember t j) t (block t j) r (λ h. (refl, refl))

  sends_to_group : (r t : ℕ) → AllByRecursion (ToGroup t) (each (λ j. sends_for t (block t j) r) (length (group t)))
  sends_to_group r t = all_each (ToGroup t) (λ j. sends_for t (block t j) r) (length (group t)) (λ j m. send_all (ToGroup t) t (block t j) r (λ h. (refl, has_at (group t) j m)))

  sends_rise : (r : ℕ) → IsRising (sends r)
  sends_rise r =
      rising_each ToGroup (λ t. each (λ j. sends_for t (block t j) r) (length (group t))) (length tiles)
      (λ t l. rising_each (ToMember t) (λ j. sends_for t (block t j) r) (length (group t)) (λ j m. one_rises t (block t j) r) (λ j m. sends_to_member r t j)
      (λ a b e x l m p q. record {
        later = let i = p.0 in let k = q.0 in omega (arith, i, k);
        apart = λ s. absurd (let z = one_seat ranks tiles groups are t t a b (omega (arith, l, m)) m (sym p.1 ∙ (s ∙ q.1)) in let y = z.1 in omega (arith, y, l));
      }))
      (λ t l. sends_to_group r t)
      (λ a b e x l m p q. record {
        later = let i = p.0 in let k = q.0 in omega (arith, i, k);
        apart = λ s. absurd (let z = are.apart a b x.peer (subst (λ v. has v (group a) ≡ true) s p.1) q.1 in omega (arith, z, l));
      })

  -- the takes of a rank are of one block
  abbrev OfMember : ℕ → ℕ → ℕ → Exchange → Type 0
  OfMember r t j e = (key e ≡ 1) × (get_or (group t) j 0 ≡ r)

  abbrev OfGroup : ℕ → ℕ → Exchange → Type 0
  OfGroup r t e = (key e ≡ 1) × (has r (group t) ≡ true)

  takes_rise : (r : ℕ) → IsRising (takes r)
  takes_rise r =
      rising_each (OfGroup r) (λ t. each (λ j. takes_for t (block t j) r) (length (group t))) (length tiles)
      (λ t l. rising_each (OfMember r t) (λ j. takes_for t (block t j) r) (length (group t))
      (λ j m. takes_rise_for t (block t j) r (takes_in_rise t (block t j) (block t j).contributors (block_apart ranks (tile_of tiles t) (group t) j (are.for.are t l).tile)))
      (λ j m. takes_are (OfMember r t j) t (block t j) r (λ e c. (refl, e)))
      (λ a b e x l m p q. absurd (let z = one_seat ranks tiles groups are t t a b (omega (arith, l, m)) m (p.1 ∙ sym q.1) in let y = z.1 in omega (arith, y, l))))
      (λ t l. all_each (OfGroup r t) (λ j. takes_for t (block t j) r) (length (group t)) (λ j m. takes_are (OfGroup r t) t (block t j) r (λ e c. (refl, subst (λ v. has v (group t) ≡ true) e (has_at (group t) j m)))))
      (λ a b e x l m p q. absurd (let z = are.apart a b r p.1 q.1 in omega (arith, z, l)))

  sends_within : (r : ℕ) → AreWithin 0 1 (sends r)
  sends_within r = all_by_block (λ e. (0 ≤ key e) × (key e < 1)) tiles groups (λ t x. sends_for t x r) (λ t j l m. send_all (λ e. (0 ≤ key e) × (key e < 1)) t (block t j) r (λ h. (omega arith, omega arith)))

  takes_within : (r : ℕ) → AreWithin 1 2 (takes r)
  takes_within r = all_by_block (λ e. (1 ≤ key e) × (key e < 2)) tiles groups (λ t x. takes_for t x r) (λ t j l m. takes_are (λ e. (1 ≤ key e) × (key e < 2)) t (block t j) r (λ h c. (omega arith, omega arith)))

  abbrev all_headings : ℕ → ℕ → List Heading
  all_headings q r = by_block (λ t x. headings_for t x q r) tiles groups

  pairs : (q r : ℕ) → seen (sends_to r) (sends q ++ takes q) ≡ seen (takes_from q) (sends r ++ takes r)
  pairs q r =
      seen_append (sends_to r) (sends q) (takes q)
      ∙ (ap (λ z. z ++ seen (sends_to r) (takes q)) (image_by_block tiles groups (seen (sends_to r)) refl (seen_append (sends_to r)) (λ t x. sends_for t x q) (λ t x. headings_for t x q r) (λ t j l m. send_seen t (block t j) q r))
      ∙ (ap (λ z. all_headings q r ++ z) (none_seen (sends_to r) (λ t x. takes_for t x q) (λ t x. no_send t x q r))
      ∙ (append-nil (all_headings q r)
      ∙ (sym (image_by_block tiles groups (seen (takes_from q)) refl (seen_append (takes_from q)) (λ t x. takes_for t x r) (λ t x. headings_for t x q r) (λ t j l m. take_seen t (block t j) q r (block_apart ranks (tile_of tiles t) (group t) j (are.for.are t l).tile)))
      ∙ (ap (λ z. z ++ seen (takes_from q) (takes r)) (sym (none_seen (takes_from q) (λ t x. sends_for t x r) (λ t x. no_take t x q r)))
      ∙ sym (seen_append (takes_from q) (sends r) (takes r)))))))
    where
      none_seen : (p : Exchange → Bool) (f : ℕ → TileView → List Exchange) → ((t : ℕ) (x : TileView) → seen p (f t x) ≡ []) → seen p (by_block f tiles groups) ≡ []
      none_seen p f none = image_by_block tiles groups (seen p) refl (seen_append p) f (λ t x. []) (λ t j l m. none t (block t j)) ∙ none_by_block tiles groups (λ t x. []) (λ t j l m. refl)

  -- round 0 is matched
  pub blocks_part : IsPart (block_ops tiles groups) 0 2
  blocks_part = record {
    ordered = omega arith;
    matched = record {
      rising = λ r. subst IsRising (sym (block_exchanges r)) (rising_append 1 0 2 (sends r) (takes r) (sends_rise r) (takes_rise r) (sends_within r) (takes_within r));
      pairs = λ q r. ap (seen (sends_to r)) (block_exchanges q) ∙ (pairs q r ∙ ap (seen (takes_from q)) (sym (block_exchanges r)));
    };
    within = λ r. subst (AreWithin 0 2) (sym (block_exchanges r))
        (all_append (λ e. (0 ≤ key e) × (key e < 2)) (sends r) (takes r)
        (all_weaker (λ e. (0 ≤ key e) × (key e < 1)) (λ e. (0 ≤ key e) × (key e < 2)) (λ e w. (w.0, let b = w.1 in omega (arith, b))) (sends r) (sends_within r))
        (all_weaker (λ e. (1 ≤ key e) × (key e < 2)) (λ e. (0 ≤ key e) × (key e < 2)) (λ e w. (omega arith, w.1)) (takes r) (takes_within r)));
  }

  -- each peer is another rank
  pub blocks_peers : (r : ℕ) → AllByRecursion (HasPeerIn ranks r) (exchanges (block_ops tiles groups r))
  blocks_peers r = subst (AllByRecursion (HasPeerIn ranks r)) (sym (block_exchanges r))
      (all_append (HasPeerIn ranks r) (sends r) (takes r)
      (all_by_block (HasPeerIn ranks r) tiles groups (λ t x. sends_for t x r) (λ t j l m. send_all (HasPeerIn ranks r) t (block t j) r (λ h. record { within = (block_is ranks (tile_of tiles t) (group t) (are.for.are t l) j m).display; other = not_display (block t j) r h })))
      (all_by_block (HasPeerIn ranks r) tiles groups (λ t x. takes_for t x r) (λ t j l m. take_all (HasPeerIn ranks r) t (block t j) r (λ e.
      all_weaker (λ c. c < ranks) (λ c. c ≢ (block t j).display → HasPeerIn ranks r (take_of t (block t j) c)) (λ c k o. record { within = k; other = λ s. o (s ∙ sym e) }) (block t j).contributors (block_is ranks (tile_of tiles t) (group t) (are.for.are t l) j m).contributors))))
