-- Machines of a hull at their end: each pair can be closed, all messages are the plan's, and what is kept fills each tile.
use Rattle.std.proofs.Common.{◌≡◌, ℕ, zero, suc, ◌+◌, ◌-◌, ◌*◌, ◌<◌, ◌≤◌, Bool, true, false, cond, List, [], ◌∷◌, ◌++◌, map, length, get_or, take, refl, sym, ap, ◌∙◌, subst, arith, Some, None, ⊎_elim}
use Rattle.std.specs.Prelude.{filter, ◌==◌}
use Rattle.std.specs.List.{AllByRecursion, range_with_len, slice_get}
use Rattle.std.proofs.lemmas.List.{get_or_past, length-map, take_all, append-nil, take-append-le}
use Rattle.std.proofs.lemmas.Simd.{map-map}
use Rattle.std.proofs.Math.ListN.{get_or-map}
use Rattle.std.proofs.lemmas.Bool.{cases_lt}
use Rattle.icet_model.specs.declared.bracket.Bracket.TheVariants.{Empty}
use Rattle.icet_model.specs.declared.exchange.Exchange.{Exchange}
use Rattle.icet_model.specs.Pixel.{Pixel, DenseView}
use Rattle.icet_model.specs.Exchange.{heading, sends_to, takes_from, exchanges, of_rank}
use Rattle.icet_model.specs.Run.{Piece}
use Rattle.icet_model.specs.Bracket.{value}
use Rattle.icet_model.specs.Core.{passed}
use Rattle.icet_model.specs.Fit.{Tiles}
use Rattle.icet_model.specs.Flow.{program}
use Rattle.icet_model.specs.Plan.{IsPlan, plan_exchanges, AreWhole, values}
use Rattle.icet_model.specs.Ports.{by_peer, messages_to, at_list}
use Rattle.icet_model.specs.Traffic.{pixel_messages, traffic}
use Rattle.icet_model.specs.Wires.{Pairing, PortView}
use Rattle.icet_collect.specs.Collect.{CanvasView, HasWanted, blank_canvas}
use Rattle.icet_interlace.specs.Interlace.{restored}
use Rattle.icet_rank.specs.Moves.{port_to}
use Rattle.icet_rank.specs.Machine.{MachineView, IsDone}
use Rattle.icet_plan.proofs.Headings.{sent_passed, used_passed}
use Rattle.icet_plan.proofs.MachineNets.{Front}
use Rattle.icet_plan.proofs.PlanFlows.{of_program, IsRight}
use Rattle.icet_plan.proofs.PlanNets.{pixels_of, all_carried, kept_are_values, kept_are_right, kept_are_once}
use Rattle.icet_net.specs.Net.{HullView, IsHull, messages_on, sides_at, blank_canvases, AreSides}
use Rattle.icet_net.specs.Opening.{ports_of}
use Rattle.icet_net.specs.Ranks.{machine_at, no_machine, mode_of, images_of, AreHulls, AreDone, sent_on, taken_on}
use Rattle.icet_net.specs.Syncs.{AreRunning}
use Rattle.icet_net.specs.Closing.{picture_of, pictures_of}
use Rattle.icet_net.specs.CloseSteps.{IsClosable, IsTaken, entry_of, AreOnce, AreWanted, kept_for, IsShowable, AreAllWanted, shown_on}
use Rattle.icet_net.proofs.Course.{sized, at, fronts}
use Rattle.icet_net.proofs.HullPairs.{hull_used}
use Rattle.icet_net.proofs.PairPlaces.{used_is, place_of_used}
use Rattle.icet_net.proofs.ClosePorts.{read_port}
use Rattle.icet_net.proofs.CloseTraffic.{log_is_traffic}
use Rattle.icet_net.proofs.CloseWithin.{IsWithin, kept_within}

pub all_done : (ms : List MachineView) → AreDone ms → AllByRecursion IsDone ms
all_done [] d = tt
all_done (m ∷ ms) d = (d.each 0 (omega arith), all_done ms (record { each = λ r l. d.each (suc r) (omega (arith, l)) }))

-- the port whose pairing can be read
port_of : {P C : Type 0} (f : P → C) (ports : List (ℕ × P)) (k : ℕ) (v : C) → by_peer (λ p. Some (f p)) None ports k ≡ Some v → (x : P) × (port_to ports k ≡ Some x) × (f x ≡ v)
port_of f [] k v h = absurd (cc)
port_of {P} {C} f (e ∷ es) k v h = go (e.0 == k) h (λ g. port_of f es k v g)
  where
    go : (b : Bool) → cond b (Some (f e.1)) (by_peer (λ p. Some (f p)) None es k) ≡ Some v → (by_peer (λ p. Some (f p)) None es k ≡ Some v → (x : P) × (port_to es k ≡ Some x) × (f x ≡ v)) → (x : P) × (cond b (Some e.1) (port_to es k) ≡ Some x) × (f x ≡ v)
    go true g r = (e.1, refl, cc)
    go false g r = r g

all_passed : (p : Exchange → Bool) (es fs : List Exchange) → fs ≡ es → passed p (length fs) es ≡ length (filter p es)
all_passed p es fs e = ap (λ n. length (filter p (take n es))) (ap length e) ∙ ap (λ xs. length (filter p xs)) (take_all (length es) es (omega arith))

weaker : {X : Type 0} (Q R : X → Type 0) (xs : List X) → ((x : X) → Q x → R x) → AllByRecursion Q xs → AllByRecursion R xs
weaker Q R [] f a = tt
weaker Q R (x ∷ xs) f a = (f x a.0, weaker Q R xs f a.1)

all_over : {X : Type 0} (Q : X → Type 0) (f : ℕ → X) (a n : ℕ) → ((k : ℕ) → k < a + n → Q (f k)) → AllByRecursion Q (map f (range_with_len a n))
all_over Q f a zero h = tt
all_over Q f a (suc n) h = (h a (omega arith), all_over Q f (a + 1) n (λ k l. h k (omega (arith, l))))

same_map : {X : Type 0} (f g : ℕ → X) (ks : List ℕ) → ((k : ℕ) → f k ≡ g k) → map f ks ≡ map g ks
same_map f g [] h = refl
same_map f g (k ∷ ks) h = (λ i. h k i ∷ same_map f g ks h i)

map_same : (a n : ℕ) → map (λ k. k) (range_with_len a n) ≡ range_with_len a n
map_same a zero = refl
map_same a (suc n) = ap (λ ks. a ∷ ks) (map_same (a + 1) n)

length_range : (a n : ℕ) → length (range_with_len a n) ≡ n
length_range a zero = refl
length_range a (suc n) = ap suc (length_range (a + 1) n)

pub blank_tiles : (sides : List (ℕ × ℕ)) (strands : ℕ) → map (λ (c : CanvasView). c.tile) (blank_canvases sides strands) ≡ range_with_len 0 (length (blank_canvases sides strands))
blank_tiles sides strands =
    let ks = range_with_len 0 (length sides) in
    map-map (λ (c : CanvasView). c.tile) (λ t. blank_canvas t (sides_at sides t).0 (sides_at sides t).1 strands) ks
    ∙ (map_same 0 (length sides)
    ∙ ap (range_with_len 0) (sym (length-map ks (λ t. blank_canvas t (sides_at sides t).0 (sides_at sides t).1 strands) ∙ length_range 0 (length sides))))

pub blank_count : (sides : List (ℕ × ℕ)) (strands : ℕ) → length (blank_canvases sides strands) ≡ length sides
blank_count sides strands = length-map (range_with_len 0 (length sides)) (λ t. blank_canvas t (sides_at sides t).0 (sides_at sides t).1 strands) ∙ length_range 0 (length sides)

size_of : (sizes : List ℕ) (sides : List (ℕ × ℕ)) → AreSides sizes sides → (t : ℕ) → (sides_at sides t).0 * (sides_at sides t).1 ≡ get_or sizes t 0
size_of sizes sides s t = sym (get_or-map (λ (x : ℕ × ℕ). x.0 * x.1) sides t (0, 0)) ∙ ap (λ ns. get_or ns t 0) s.products

module _ (hull : HullView) (ms : List MachineView) (hull_is : IsHull hull) (hulls : AreHulls hull ms) (running : AreRunning ms) (done : AreDone ms) where
  abbrev outs : List (List (ℕ × PortView))
  outs = map (λ m. m.outboxes) ms

  abbrev ins : List (List (ℕ × PortView))
  ins = map (λ m. m.inboxes) ms

  abbrev kepts : List (List (Piece (List Pixel)))
  kepts = map (λ m. m.kept) ms

  abbrev is : IsPlan hull.plan
  is = hull_is.plan

  abbrev big : AreWhole hull.plan.tiles (images_of ms)
  big = sized hull ms is hulls running

  outs_at : (q : ℕ) → ports_of outs q ≡ (machine_at ms q).outboxes
  outs_at q = get_or-map (λ (m : MachineView). m.outboxes) ms q no_machine

  ins_at : (r : ℕ) → ports_of ins r ≡ (machine_at ms r).inboxes
  ins_at r = get_or-map (λ (m : MachineView). m.inboxes) ms r no_machine

  ended : (r : ℕ) → (machine_at ms r).place ≡ length (program hull.plan.programs r)
  ended r =
      ⊎_elim
      (λ (h : r < length ms). done.each r h ∙ ap length (hulls.each r h).ops)
      (λ (h : length ms ≤ r). ap (λ (m : MachineView). m.place) (get_or_past ms r no_machine h) ∙ sym (ap length (get_or_past hull.plan.programs r [] (let e = hulls.count in omega (arith, e, h)))))
      (cases_lt r (length ms))

  taken_whole : (r : ℕ) → exchanges (take (machine_at ms r).place (program hull.plan.programs r)) ≡ exchanges (program hull.plan.programs r)
  taken_whole r = ap exchanges (take_all (machine_at ms r).place (program hull.plan.programs r) (let e = ended r in omega (arith, e)))

  sends_on : (q r : ℕ) → length (filter (sends_to r) (exchanges (program hull.plan.programs q))) ≡ messages_on hull.plan q r
  sends_on q r = ap (λ xs. length (filter (sends_to r) xs)) (sym (of_program hull.plan.programs q))

  takes_on : (q r : ℕ) → length (filter (takes_from q) (exchanges (program hull.plan.programs r))) ≡ messages_on hull.plan q r
  takes_on q r =
      let es = of_rank (plan_exchanges hull.plan) q in
      let fs = of_rank (plan_exchanges hull.plan) r in
      ap (λ xs. length (filter (takes_from q) xs)) (sym (of_program hull.plan.programs r)) ∙ (sym (length-map (filter (takes_from q) fs) heading) ∙ (ap length (sym (is.matched.pairs q r)) ∙ length-map (filter (sends_to r) es) heading))

  sent_long : (q r : ℕ) → length (sent_on ms q r) ≡ messages_on hull.plan q r
  sent_long q r =
      ap length ((at hull ms is hulls running q).sent_are r)
      ∙ (sent_passed (pixels_of (mode_of ms) hull.plan is (images_of ms) big q) q (λ p. taken_on ms p q) (program hull.plan.programs q) (machine_at ms q).place r
      ∙ (all_passed (sends_to r) (exchanges (program hull.plan.programs q)) (exchanges (take (machine_at ms q).place (program hull.plan.programs q))) (taken_whole q)
      ∙ sends_on q r))

  taken_long : (q r : ℕ) → length (taken_on ms q r) ≡ messages_on hull.plan q r
  taken_long q r =
      (at hull ms is hulls running r).used_are q
      ∙ (used_passed (pixels_of (mode_of ms) hull.plan is (images_of ms) big r) r (λ p. taken_on ms p r) (program hull.plan.programs r) (machine_at ms r).place q
      ∙ (all_passed (takes_from q) (exchanges (program hull.plan.programs r)) (exchanges (take (machine_at ms r).place (program hull.plan.programs r))) (taken_whole r)
      ∙ takes_on q r))

  -- each pair used can be closed
  closable : (q r : ℕ) → 0 < messages_on hull.plan q r → IsClosable outs ins q r
  closable q r l =
      let o = hulls.opened q r l in
      let u = used_is hull.plan is q r l in
      let x = port_of (λ (p : PortView). p.pairing) (machine_at ms q).outboxes r o.pairing o.out in
      let y = port_of (λ (p : PortView). p.pairing) (machine_at ms r).inboxes q o.pairing o.inbox in
      record {
        from_within = let a = u.from in let b = hulls.count in let d = length-map ms (λ (m : MachineView). m.outboxes) in omega (arith, a, b, d);
        to_within = let a = u.to in let b = hulls.count in let d = length-map ms (λ (m : MachineView). m.inboxes) in omega (arith, a, b, d);
        out = x.0;
        inbox = y.0;
        out_is = ap (λ ps. port_to ps r) (outs_at q) ∙ x.1;
        inbox_is = ap (λ ps. port_to ps q) (ins_at r) ∙ y.1;
        taken_pair = record {
          paired = x.2 ∙ sym y.2;
          from = ap (λ (p : Pairing). p.from) x.2 ∙ o.from_is;
          to = ap (λ (p : Pairing). p.to) x.2 ∙ o.to_is;
          all_taken = ap length (sym (read_port (λ (p : PortView). p.messages) [] (machine_at ms r).inboxes q y.0 y.1)) ∙ (taken_long q r ∙ (sym (sent_long q r) ∙ ap length (read_port (λ (p : PortView). p.messages) [] (machine_at ms q).outboxes r x.0 x.1)));
        };
      }

  pub hull_closable : (outs' : List (List (ℕ × PortView))) (ins' : List (List (ℕ × PortView))) (pairs : List (ℕ × ℕ)) → outs' ≡ outs → ins' ≡ ins → pairs ≡ hull.pairs → (i : ℕ) (p : ℕ × ℕ) → slice_get pairs i ≡ Some p → IsClosable outs' ins' p.0 p.1
  hull_closable outs' ins' pairs eo ei ep i p h =
      subst (λ xs. IsClosable xs ins' p.0 p.1) (sym eo)
      (subst (λ xs. IsClosable outs xs p.0 p.1) (sym ei)
      (closable p.0 p.1 (hull_used hull i p hull_is (ap (λ ps. slice_get ps i) (sym ep) ∙ h)).carries))

  -- once each pair used was taken from as much as was sent
  module _ (all : (i : ℕ) (p : ℕ × ℕ) → slice_get hull.pairs i ≡ Some p → IsTaken outs ins p) where
    same_here : (q r : ℕ) → 0 < messages_on hull.plan q r → taken_on ms q r ≡ sent_on ms q r
    same_here q r l =
        let place = place_of_used hull.plan is q r l in
        ap (λ ps. messages_to ps q) (sym (ins_at r))
        ∙ (all place.place (q, r) (ap (λ ps. slice_get ps place.place) hull_is.pairs ∙ place.is)
        ∙ ap (λ ps. messages_to ps r) (outs_at q))

    linked : (q r : ℕ) → Front (taken_on ms q r) (sent_on ms q r)
    linked = fronts hull ms is hulls running (λ q r l. record { more = []; is = sym (append-nil (taken_on ms q r) ∙ same_here q r l) })

    abbrev kept_at : ℕ → List (Piece (List Pixel))
    kept_at r = (machine_at ms r).kept

    carried : (q r : ℕ) → (sent_on ms q r ≡ pixel_messages (mode_of ms) hull.plan (images_of ms) q r) × (taken_on ms q r ≡ sent_on ms q r)
    carried = all_carried (mode_of ms) hull.plan is (images_of ms) big (λ r. (machine_at ms r).place) (taken_on ms) (λ r. at_list (machine_at ms r).slots) kept_at (sent_on ms) (at hull ms is hulls running) linked ended

    pub log_is : map (entry_of outs) hull.pairs ≡ traffic (mode_of ms) hull.plan (images_of ms)
    log_is =
        ap (map (entry_of outs)) hull_is.pairs
        ∙ log_is_traffic outs (mode_of ms) hull.plan (images_of ms)
        (λ q r. ap (λ ps. messages_to ps r) (outs_at q) ∙ (carried q r).0)
        (λ q r. ap length (sym (carried q r).0) ∙ sent_long q r)

    kept_for_is : (t : ℕ) → kept_for kepts hull.plan.tiles.displays t ≡ kept_at (get_or hull.plan.tiles.displays t 0)
    kept_for_is t = get_or-map (λ (m : MachineView). m.kept) ms (get_or hull.plan.tiles.displays t 0) no_machine

    once_at : (t : ℕ) → t < length hull.plan.tiles.sizes → AreOnce t ((sides_at hull.sides t).0 * (sides_at hull.sides t).1) (kept_for kepts hull.plan.tiles.displays t)
    once_at t l =
        let r = get_or hull.plan.tiles.displays t 0 in
        let size = size_of hull.plan.tiles.sizes hull.sides hull_is.sides t in
        let n = (sides_at hull.sides t).0 * (sides_at hull.sides t).1 in
        subst (AreOnce t n) (sym (kept_for_is t)) (record {
          once = λ i h. kept_are_once (mode_of ms) hull.plan is (images_of ms) big (λ r. (machine_at ms r).place) (taken_on ms) (λ r. at_list (machine_at ms r).slots) kept_at (sent_on ms) (at hull ms is hulls running) linked ended t i l (subst (λ x. i < x) size h);
          inside = subst (AllByRecursion (λ (p : Piece (List Pixel)). p.tile ≡ t → p.hi ≤ n)) (sym (kept_are_values (mode_of ms) hull.plan is (images_of ms) big (λ r. (machine_at ms r).place) (taken_on ms) (λ r. at_list (machine_at ms r).slots) kept_at (sent_on ms) (at hull ms is hulls running) linked ended r))
              (weaker (λ (p : Piece (List Pixel)). IsWithin hull.plan.tiles.sizes p) (λ (p : Piece (List Pixel)). p.tile ≡ t → p.hi ≤ n) _ (λ p h e. subst (λ x. p.hi ≤ x) (ap (λ k. get_or hull.plan.tiles.sizes k 0) e ∙ sym size) h) (kept_within hull.plan is (values (mode_of ms) (images_of ms)) r));
        })

    abbrev wanted : ℕ → ℕ → Pixel
    wanted t i = value (mode_of ms) (images_of ms) (get_or hull.plan.brackets t Empty) t i

    all_wanted : AreAllWanted kepts hull.plan.tiles wanted
    all_wanted t l =
        let r = get_or hull.plan.tiles.displays t 0 in
        subst (AreWanted t (wanted t)) (sym (kept_for_is t))
        (weaker (IsRight (mode_of ms) hull.plan (images_of ms) is.matched is.sound big) (λ (p : Piece (List Pixel)). p.tile ≡ t → HasWanted (wanted t) p) (kept_at r)
        (λ p h e i a b. subst (λ x. get_or p.content (i - p.lo) None ≡ value (mode_of ms) (images_of ms) (get_or hull.plan.brackets x Empty) x i) e (h i a b))
        (kept_are_right (mode_of ms) hull.plan is (images_of ms) big (λ r. (machine_at ms r).place) (taken_on ms) (λ r. at_list (machine_at ms r).slots) kept_at (sent_on ms) (at hull ms is hulls running) linked ended r))

    shows_pictures : map (shown_on wanted) (blank_canvases hull.sides hull.strands) ≡ pictures_of hull (mode_of ms) (images_of ms)
    shows_pictures =
        map-map (shown_on wanted) (λ t. blank_canvas t (sides_at hull.sides t).0 (sides_at hull.sides t).1 hull.strands) (range_with_len 0 (length hull.sides))
        ∙ same_map (λ t. shown_on wanted (blank_canvas t (sides_at hull.sides t).0 (sides_at hull.sides t).1 hull.strands)) (picture_of hull (mode_of ms) (images_of ms)) (range_with_len 0 (length hull.sides)) (λ t.
        ap (λ n. record { w = (sides_at hull.sides t).0; h = (sides_at hull.sides t).1; pixels = restored n hull.strands (map (wanted t) (range_with_len 0 n)) }) (size_of hull.plan.tiles.sizes hull.sides hull_is.sides t)
        ∙ ap (λ n. record { w = (sides_at hull.sides t).0; h = (sides_at hull.sides t).1; pixels = restored (get_or hull.plan.tiles.sizes t 0) hull.strands (map (wanted t) (range_with_len 0 n)) }) (let z : get_or hull.plan.tiles.sizes t 0 ≡ get_or hull.plan.tiles.sizes t 0 - 0 = omega arith in z))

    showable : AllByRecursion (IsShowable kepts hull.plan.tiles) (blank_canvases hull.sides hull.strands)
    showable = all_over (IsShowable kepts hull.plan.tiles) (λ t. blank_canvas t (sides_at hull.sides t).0 (sides_at hull.sides t).1 hull.strands) 0 (length hull.sides) (λ t l.
        let inside : t < length hull.plan.tiles.sizes = (let e = ap length hull_is.sides.products in let f = length-map hull.sides (λ (x : ℕ × ℕ). x.0 * x.1) in omega (arith, e, f, l)) in
        record { within = inside; blank = refl; once = once_at t inside })

    pub hull_showable : (kepts' : List (List (Piece (List Pixel)))) (canvases : List CanvasView) (tiles : Tiles) → kepts' ≡ kepts → canvases ≡ blank_canvases hull.sides hull.strands → tiles ≡ hull.plan.tiles → AllByRecursion (IsShowable kepts' tiles) canvases
    hull_showable kepts' canvases tiles ek ec et = rw (ek, ec, et) showable

    pub hull_pictures : (kepts' : List (List (Piece (List Pixel)))) (canvases : List CanvasView) (tiles : Tiles) (result : List DenseView) → kepts' ≡ kepts → canvases ≡ blank_canvases hull.sides hull.strands → tiles ≡ hull.plan.tiles → ((w : ℕ → ℕ → Pixel) → AreAllWanted kepts' tiles w → result ≡ map (shown_on w) canvases) → result ≡ pictures_of hull (mode_of ms) (images_of ms)
    hull_pictures kepts' canvases tiles result ek ec et h = h wanted (rw (ek, et) all_wanted) ∙ (ap (map (shown_on wanted)) ec ∙ shows_pictures)

-- what was taken on the pairs, in terms of the machines
pub taken_of : (outs outs' : List (List (ℕ × PortView))) (ins ins' : List (List (ℕ × PortView))) (pairs pairs' : List (ℕ × ℕ)) → outs' ≡ outs → ins' ≡ ins → pairs' ≡ pairs → ((i : ℕ) (p : ℕ × ℕ) → slice_get pairs' i ≡ Some p → IsTaken outs' ins' p) → (i : ℕ) (p : ℕ × ℕ) → slice_get pairs i ≡ Some p → IsTaken outs ins p
taken_of outs outs' ins ins' pairs pairs' eo ei ep h i p at = subst (λ xs. IsTaken xs ins p) eo (subst (λ xs. IsTaken outs' xs p) ei (h i p (ap (λ ps. slice_get ps i) ep ∙ at)))

-- what a loan of all elements leaves of the whole
pub write_back : {X : Type 0} (xs ys : List X) (n : ℕ) → n ≡ length xs → take n (xs ++ ys) ≡ xs
write_back xs ys n e = take-append-le n xs ys (omega (arith, e)) ∙ take_all n xs (omega (arith, e))
