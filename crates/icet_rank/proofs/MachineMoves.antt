-- What a running machine knows at its place, and what each move leaves running. A condition speaks
-- of what is seen of the machine, and the invariant of its fields, which is equal.
use Rattle.std.proofs.Common.{◌≡◌, ℕ, ◌+◌, ◌<◌, ◌≤◌, ◌^◌, List, [], ◌∷◌, ◌++◌, length, set, refl, sym, ap, ◌∙◌, subst, arith, Option, Some, None}
use Rattle.std.specs.Prelude.{option_map}
use Rattle.std.specs.List.{slice_get}
use Rattle.std.specs.Option.{ForSome}
use Rattle.std.proofs.lemmas.List.{length-set}
use Rattle.icet_model.specs.declared.exchange.Kind.TheVariants.{Send, Take}
use Rattle.icet_model.specs.declared.exchange.Exchange.{Exchange}
use Rattle.icet_model.specs.declared.exchange.Op.{Op}
use Rattle.icet_model.specs.declared.exchange.Op.TheVariants.{Load, Blank, Cut, Join, Swap, Keep}
use Rattle.icet_model.specs.Pixel.{Pixel}
use Rattle.icet_model.specs.Exchange.{exchanges, of_op}
use Rattle.icet_model.specs.Run.{Piece, MessageView, Local, put, blank_of, cut_slots, joined_piece, with_kept, message_of, received, step, message_for}
use Rattle.icet_model.specs.Wires.{PortView}
use Rattle.icet_model.specs.Fit.{FitsCut, FitsJoin, FitsSwap, shape_of}
use Rattle.icet_model.specs.Ports.{messages_to, room_to, AreAscending, at_list}
use Rattle.icet_plan.proofs.SlotList.{list_set}
use Rattle.icet_rank.specs.Fits.{IsFilled, undisplayed, FitsAnyDisplay}
use Rattle.icet_rank.specs.Moves.{HasPeer, Carried, Missed, Met}
use Rattle.icet_rank.specs.Machine.{Names, MachineView, IsRunning, sizes_of, carrier_of}
use Rattle.icet_rank.proofs.PortMoves.{has_peer}
use Rattle.icet_rank.proofs.RunsOn.{below, fits_now, names_now, filled_now, out_room_now, in_room_now, due_now, few, local_on, sent_on, taken_on, with_outboxes, with_inboxes, with_piece}
use Rattle.icet_rank.proofs.LocalWork.{hi_is, image_whole, of_sizes, shape_filled, fits_join, join_to}

module _ {m v : MachineView} (r : IsRunning m) (same : m ≡ v) where
  module _ {op : Op} (due : slice_get v.ops v.place ≡ Some op) where
    pub here : slice_get m.ops m.place ≡ Some op
    here = subst (λ (w : MachineView). slice_get w.ops w.place ≡ Some op) (sym same) due

    pub named : Names (length m.slots) op
    named = names_now _ _ _ _ _ _ _ _ _ _ r.runs op here

    pub fits : FitsAnyDisplay (sizes_of m.images) op (λ k. option_map shape_of (at_list m.slots k))
    fits = fits_now _ _ _ _ _ _ _ _ _ _ r.runs op here

    pub next_place : m.place + 1 < 2 ^ 32
    next_place = let b = below m.ops m.place op here in let s = r.short in omega (arith, b, s)

    pub next_counter : m.counter + 1 < 2 ^ 32
    next_counter = let b = below m.ops m.place op here in let s = r.short in let a = few m.ops m.place in let d = r.runs.count in omega (arith, b, s, a, d)

    -- local work
    worked : of_op op ≡ [] → ((t : ℕ → List (MessageView (List Pixel))) (u : ℕ → ℕ) → message_for t u op ≡ None) → ((s : Local (List Pixel)) → (step (carrier_of m.mode m.images) m.number None op s).sent ≡ s.sent) → ((s : Local (List Pixel)) → (step (carrier_of m.mode m.images) m.number None op s).used ≡ s.used) → (slots : List (Option (Piece (List Pixel)))) (kept : List (Piece (List Pixel))) → at_list slots ≡ (step (carrier_of m.mode m.images) m.number None op (record { slots = at_list m.slots; kept = m.kept; sent = messages_to m.outboxes; used = λ p. length (messages_to m.inboxes p) })).slots → kept ≡ (step (carrier_of m.mode m.images) m.number None op (record { slots = at_list m.slots; kept = m.kept; sent = messages_to m.outboxes; used = λ p. length (messages_to m.inboxes p) })).kept → length slots ≡ length m.slots → IsRunning (record m { place = m.place + 1; slots = slots; kept = kept })
    worked none quiet same_sent same_used slots kept s k l = record {
      runs = local_on _ _ _ _ _ _ _ _ _ _ r.runs op here none quiet same_sent same_used slots kept s k l;
      images = r.images;
      short = r.short;
    }

  pub tile_there : {tile slot : ℕ} → slice_get v.ops v.place ≡ Some (Load tile slot) → tile < length m.images
  tile_there due = let f = fits due in let n = of_sizes m.images in omega (arith, f, n)

  pub blank_there : {tile slot : ℕ} → slice_get v.ops v.place ≡ Some (Blank tile slot) → tile < length m.images
  blank_there due = let f = fits due in let n = of_sizes m.images in omega (arith, f, n)

  pub loaded : {tile slot : ℕ} → slice_get v.ops v.place ≡ Some (Load tile slot) → (p : Piece (List Pixel)) → slice_get m.images tile ≡ Some p → IsRunning (record m { place = m.place + 1; slots = set m.slots slot (Some p) })
  loaded {tile} {slot} due p h =
      worked due refl (λ t u. refl) (λ s. refl) (λ s. refl) (set m.slots slot (Some p)) m.kept
      (list_set m.slots slot (Some p) (named due) ∙ ap (λ q. put (at_list m.slots) slot (Some q)) (image_whole m.mode m.images tile p r.images h)) refl (length-set m.slots slot (Some p))

  pub blanked : {tile slot : ℕ} → slice_get v.ops v.place ≡ Some (Blank tile slot) → (p b : Piece (List Pixel)) → slice_get m.images tile ≡ Some p → b ≡ blank_of (carrier_of m.mode m.images) tile 0 p.hi → IsRunning (record m { place = m.place + 1; slots = set m.slots slot (Some b) })
  blanked {tile} {slot} due p b h k =
      worked due refl (λ t u. refl) (λ s. refl) (λ s. refl) (set m.slots slot (Some b)) m.kept
      (list_set m.slots slot (Some b) (named due) ∙ ap (λ q. put (at_list m.slots) slot (Some q)) (k ∙ ap (λ n. blank_of (carrier_of m.mode m.images) tile 0 n) (hi_is m.images tile p h))) refl (length-set m.slots slot (Some b))

  pub cut_fits : {slot at into : ℕ} → slice_get v.ops v.place ≡ Some (Cut slot at into) → FitsCut at (option_map shape_of (at_list m.slots slot))
  cut_fits due = (fits due).1

  pub cut_done : {slot at into : ℕ} → slice_get v.ops v.place ≡ Some (Cut slot at into) → (slots : List (Option (Piece (List Pixel)))) → at_list slots ≡ cut_slots (carrier_of m.mode m.images) slot at into (at_list m.slots slot) (at_list m.slots) → length slots ≡ length m.slots → IsRunning (record m { place = m.place + 1; slots = slots })
  cut_done due slots h l = worked due refl (λ t u. refl) (λ s. refl) (λ s. refl) slots m.kept h refl l

  pub join_fits : {front back into : ℕ} → slice_get v.ops v.place ≡ Some (Join front back into) → FitsJoin (option_map shape_of (at_list m.slots front)) (option_map shape_of (at_list m.slots back))
  join_fits due = (fits due).1

  pub join_done : {front back into : ℕ} → slice_get v.ops v.place ≡ Some (Join front back into) → (slots : List (Option (Piece (List Pixel)))) (p : Piece (List Pixel)) → at_list slots ≡ put (put (put (at_list m.slots) front None) back None) into (Some p) → length slots ≡ length m.slots → ForSome (at_list m.slots front) (λ f. ForSome (at_list m.slots back) (λ b. (images : List (Piece (List Pixel))) → p ≡ joined_piece (carrier_of m.mode images) f b)) → IsRunning (record m { place = m.place + 1; slots = slots })
  join_done {front} {back} {into} due slots p h l j =
      let full = fits_join (at_list m.slots front) (at_list m.slots back) (join_fits due) in
      worked due refl (λ t u. refl) (λ s. refl) (λ s. refl) slots m.kept
      (h ∙ join_to (carrier_of m.mode m.images) front back into (at_list m.slots) (at_list m.slots front) (at_list m.slots back) p full.0 full.1 (λ x y hx hy. j x hx y hy m.images)) refl l

  pub keep_filled : {slot : ℕ} → slice_get v.ops v.place ≡ Some (Keep slot) → IsFilled (at_list m.slots slot)
  keep_filled {slot} due = shape_filled (at_list m.slots slot) (fits due)

  pub keep_done : {slot : ℕ} → slice_get v.ops v.place ≡ Some (Keep slot) → (p : Piece (List Pixel)) → at_list m.slots slot ≡ Some p → IsRunning (record m { place = m.place + 1; kept = m.kept ++ p ∷ [] })
  keep_done {slot} due p h = worked due refl (λ t u. refl) (λ s. refl) (λ s. refl) m.slots (m.kept ++ p ∷ []) refl (ap (λ o. with_kept m.kept o) (sym h)) refl

  module _ {e : Exchange} {slot : ℕ} (due : slice_get v.ops v.place ≡ Some (Swap e slot)) where
    pub due_exchange : slice_get (exchanges v.ops) v.counter ≡ Some e
    due_exchange = subst (λ (w : MachineView). slice_get (exchanges w.ops) w.counter ≡ Some e) same (due_now _ _ _ _ _ _ _ _ _ _ r.runs e slot (here due))

    pub send_filled : e.kind ≡ Send → IsFilled (at_list m.slots slot)
    send_filled k = filled_now _ _ _ _ _ _ _ _ _ _ r.runs e slot (here due) k

    pub send_filled_seen : e.kind ≡ Send → IsFilled (at_list v.slots slot)
    send_filled_seen k = subst (λ (w : MachineView). IsFilled (at_list w.slots slot)) same (send_filled k)

    pub send_room : e.kind ≡ Send → 0 < room_to m.outboxes e.peer
    send_room k = out_room_now _ _ _ _ _ _ _ _ _ _ r.runs e slot (here due) k

    pub send_peer : e.kind ≡ Send → HasPeer e.peer m.outboxes
    send_peer k = has_peer e.peer m.outboxes (send_room k)

    pub take_room : e.kind ≡ Take → 0 < room_to m.inboxes e.peer
    take_room k = in_room_now _ _ _ _ _ _ _ _ _ _ r.runs e slot (here due) k

    pub take_peer : e.kind ≡ Take → HasPeer e.peer m.inboxes
    take_peer k = has_peer e.peer m.inboxes (take_room k)

    pub take_range : e.kind ≡ Take → e.lo ≤ e.hi
    take_range k = (subst (λ z. FitsSwap (undisplayed (sizes_of m.images)) z e (option_map shape_of (at_list m.slots slot))) k (fits due)).1

    pub send_done : e.kind ≡ Send → (slots : List (Option (Piece (List Pixel)))) (outboxes : List (ℕ × PortView)) → at_list slots ≡ put (at_list m.slots) slot None → length slots ≡ length m.slots → ForSome (at_list m.slots slot) (λ p. Carried e.peer (message_of e m.number p) m.outboxes outboxes) → IsRunning (record m { place = m.place + 1; counter = m.counter + 1; slots = slots; outboxes = outboxes })
    send_done k slots outboxes s l h = with_piece (at_list m.slots slot) (send_filled k) (λ p full. record {
      runs = sent_on _ _ _ _ _ _ _ _ _ _ r.runs e slot (here due) slots outboxes p k full s l (h p full);
      images = r.images;
      short = r.short;
    })

    pub take_done : e.kind ≡ Take → (inboxes : List (ℕ × PortView)) (message : MessageView (List Pixel)) (p : Piece (List Pixel)) → p ≡ received (carrier_of m.mode m.images) e (Some message) → Carried e.peer message m.inboxes inboxes → IsRunning (record m { place = m.place + 1; counter = m.counter + 1; slots = set m.slots slot (Some p); inboxes = inboxes })
    take_done k inboxes message p g h = record {
      runs = taken_on _ _ _ _ _ _ _ _ _ _ r.runs e slot (here due) (set m.slots slot (Some p)) inboxes message k
          (list_set m.slots slot (Some p) (named due) ∙ ap (λ q. put (at_list m.slots) slot (Some q)) g) (length-set m.slots slot (Some p)) h;
      images = r.images;
      short = r.short;
    }

module _ {m : MachineView} (r : IsRunning m) where
  on_outboxes : (outboxes : List (ℕ × PortView)) → messages_to outboxes ≡ messages_to m.outboxes → room_to outboxes ≡ room_to m.outboxes → AreAscending outboxes → IsRunning (record m { outboxes = outboxes })
  on_outboxes outboxes lists rooms ascend = record { runs = with_outboxes _ _ _ _ _ _ _ _ _ _ r.runs outboxes lists rooms ascend; images = r.images; short = r.short }

  on_inboxes : (inboxes : List (ℕ × PortView)) → messages_to inboxes ≡ messages_to m.inboxes → room_to inboxes ≡ room_to m.inboxes → AreAscending inboxes → IsRunning (record m { inboxes = inboxes })
  on_inboxes inboxes lists rooms ascend = record { runs = with_inboxes _ _ _ _ _ _ _ _ _ _ r.runs inboxes lists rooms ascend; images = r.images; short = r.short }

  pub send_waits : {peer : ℕ} (slots : List (Option (Piece (List Pixel)))) (outboxes : List (ℕ × PortView)) → slots ≡ m.slots → Missed peer m.outboxes outboxes → IsRunning (record m { slots = slots; outboxes = outboxes })
  send_waits slots outboxes s h = subst (λ z. IsRunning (record m { slots = z; outboxes = outboxes })) (sym s) (on_outboxes outboxes h.same_lists h.same_rooms h.beside.ascend)

  pub take_waits : {peer : ℕ} (inboxes : List (ℕ × PortView)) → Missed peer m.inboxes inboxes → IsRunning (record m { inboxes = inboxes })
  take_waits inboxes h = on_inboxes inboxes h.same_lists h.same_rooms h.beside.ascend

  pub outbox_met : {peer : ℕ} (outboxes : List (ℕ × PortView)) → Met peer m.outboxes outboxes → IsRunning (record m { outboxes = outboxes })
  outbox_met outboxes h = on_outboxes outboxes h.same_lists h.same_rooms h.beside.ascend

  pub inbox_met : {peer : ℕ} (inboxes : List (ℕ × PortView)) → Met peer m.inboxes inboxes → IsRunning (record m { inboxes = inboxes })
  inbox_met inboxes h = on_inboxes inboxes h.same_lists h.same_rooms h.beside.ascend
