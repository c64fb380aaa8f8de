-- Operations that load no image run the same whatever a rank's own images are.
use Rattle.std.proofs.Common.{◌≡◌, ℕ, zero, suc, ◌+◌, ◌-◌, Bool, true, false, cond, List, [], ◌∷◌, ◌++◌, get_or, refl, ap, ◌∙◌, Option, Some, None}
use Rattle.std.specs.Prelude.{◌==◌}
use Rattle.std.specs.List.{AllByRecursion}
use Rattle.icet_model.specs.declared.bracket.Bracket.{Bracket}
use Rattle.icet_model.specs.declared.bracket.Bracket.TheVariants.{Empty, Pair}
use Rattle.icet_model.specs.declared.exchange.Kind.{Kind}
use Rattle.icet_model.specs.declared.exchange.Kind.TheVariants.{Send, Take}
use Rattle.icet_model.specs.declared.exchange.Exchange.{Exchange}
use Rattle.icet_model.specs.declared.exchange.Op.{Op}
use Rattle.icet_model.specs.declared.exchange.Op.TheVariants.{Load, Blank, Cut, Join, Swap, Keep}
use Rattle.icet_model.specs.Run.{Carrier, Piece, MessageView, Local, cut_slots, given, join_slots, message_for, message_of, put, received, run, step, swapped}
use Rattle.icet_plan.specs.Each.{each}
use Rattle.icet_plan.proofs.Segments.{all_append}
use Rattle.icet_legs.specs.Team.{Team}
use Rattle.icet_legs.specs.Merge.{Merge, merge_gives, merge_ops, merge_swap}
use Rattle.icet_legs.specs.Group.{Group, digit, group_cuts, group_joins, group_ops, group_sends, group_swap, group_takes, member}
use Rattle.icet_legs.specs.Collect.{Final, fetch_ops, final_ops, final_swap, hands_in, own_ops}

abbrev pub LoadsNothing : Op → Type 0
LoadsNothing (Load tile slot) = ⊥
LoadsNothing (Blank tile slot) = Unit {0}
LoadsNothing (Cut slot at into) = Unit {0}
LoadsNothing (Join front back into) = Unit {0}
LoadsNothing (Swap exchange slot) = Unit {0}
LoadsNothing (Keep slot) = Unit {0}

abbrev pub LoadNothing : List Op → Type 0
LoadNothing ops = AllByRecursion LoadsNothing ops

pub nothing_both : (xs ys : List Op) → LoadNothing xs → LoadNothing ys → LoadNothing (xs ++ ys)
nothing_both xs ys f h = all_append LoadsNothing xs ys f h

pub nothing_each : (ops : ℕ → List Op) (k : ℕ) → ((b : ℕ) → LoadNothing (ops b)) → LoadNothing (each ops k)
nothing_each ops zero h = tt
nothing_each ops (suc k) h = nothing_both (each ops k) (ops k) (nothing_each ops k h) (h k)

pub nothing_merge : (g : Team) (u : Merge) (p : ℕ) → LoadNothing (merge_ops g u p)
nothing_merge g u p = go (merge_gives u p) (u.takes p)
  where
    go : (x y : Bool) → LoadNothing (cond x (Swap (merge_swap g u Send (p - u.w)) 0 ∷ []) (cond y (Swap (merge_swap g u Take (p + u.w)) 1 ∷ Join 0 1 0 ∷ []) []))
    go true y = (tt, tt)
    go false true = (tt, (tt, tt))
    go false false = tt

pub nothing_group : (g : Team) (u : Group) (p : ℕ) → LoadNothing (group_ops g u p)
nothing_group g u p =
    nothing_both (each (group_cuts u p) (u.k - 1) ++ each (group_sends g u p) u.k) (each (group_takes g u p) u.k ++ each group_joins (u.k - 1))
    (nothing_both (each (group_cuts u p) (u.k - 1)) (each (group_sends g u p) u.k) (nothing_each (group_cuts u p) (u.k - 1) (λ b. (tt, tt))) (nothing_each (group_sends g u p) u.k (λ h. one h (group_swap g u Send (member u.w u.k p h) p h) (h == digit u.w u.k p))))
    (nothing_both (each (group_takes g u p) u.k) (each group_joins (u.k - 1)) (nothing_each (group_takes g u p) u.k (λ h. one h (group_swap g u Take (member u.w u.k p h) p (digit u.w u.k p)) (h == digit u.w u.k p))) (nothing_each group_joins (u.k - 1) (λ b. (tt, tt))))
  where
    one : (h : ℕ) (e : Exchange) (t : Bool) → LoadNothing (cond t [] (Swap e h ∷ []))
    one h e true = tt
    one h e false = (tt, tt)

pub nothing_collect : (g : Team) (f : Final) (p : ℕ) → LoadNothing (final_ops g f p)
nothing_collect g f p = go (p == f.shows) (f.holds p)
  where
    own : (t : Bool) → LoadNothing (cond t (Keep 0 ∷ []) [])
    own true = (tt, tt)
    own false = tt

    fetch : (b : ℕ) (t : Bool) → LoadNothing (cond t (Swap (final_swap g f Take b b) 1 ∷ Keep 1 ∷ []) [])
    fetch b true = (tt, (tt, tt))
    fetch b false = tt

    go : (x y : Bool) → LoadNothing (cond x (own_ops f ++ each (fetch_ops g f) g.n) (cond y (Swap (final_swap g f Send f.shows p) 0 ∷ []) []))
    go true y = nothing_both (own_ops f) (each (fetch_ops g f) g.n) (own (f.holds f.shows)) (nothing_each (fetch_ops g f) g.n (λ b. fetch b (hands_in f b)))
    go false true = (tt, tt)
    go false false = tt

-- brackets as contents, with any images of a rank's own
abbrev pub carrier_with : List ℕ → (ℕ → Bracket) → Carrier Bracket
carrier_with sizes load = record {
  size = λ t. get_or sizes t 0;
  load = load;
  blank = λ t lo hi. Empty;
  front = λ n b. b;
  rest = λ n b. b;
  join = λ f b. Pair f b;
}

module _ (sizes : List ℕ) (f h : ℕ → Bracket) (me : ℕ) where
  abbrev c : Carrier Bracket
  c = carrier_with sizes f

  abbrev d : Carrier Bracket
  d = carrier_with sizes h

  cut_same : (slot at into : ℕ) (o : Option (Piece Bracket)) (slots : ℕ → Option (Piece Bracket)) → cut_slots c slot at into o slots ≡ cut_slots d slot at into o slots
  cut_same slot at into None slots = refl
  cut_same slot at into (Some p) slots = refl

  join_same : (front back into : ℕ) (o u : Option (Piece Bracket)) (slots : ℕ → Option (Piece Bracket)) → join_slots c front back into o u slots ≡ join_slots d front back into o u slots
  join_same front back into None u slots = refl
  join_same front back into (Some p) None slots = refl
  join_same front back into (Some p) (Some q) slots = refl

  given_same : (e : Exchange) (o : Option (Piece Bracket)) → given c e o ≡ given d e o
  given_same e None = refl
  given_same e (Some p) = refl

  received_same : (e : Exchange) (m : Option (MessageView Bracket)) → received c e m ≡ received d e m
  received_same e None = refl
  received_same e (Some m) = refl

  swap_same : (m : Option (MessageView Bracket)) (k : Kind) (e : Exchange) (slot : ℕ) (s : Local Bracket) → swapped c me m k e slot s ≡ swapped d me m k e slot s
  swap_same m Send e slot s = ap (λ p. record { slots = put s.slots slot None; kept = s.kept; sent = put s.sent e.peer (s.sent e.peer ++ message_of e me p ∷ []); used = s.used }) (given_same e (s.slots slot))
  swap_same m Take e slot s = ap (λ p. record { slots = put s.slots slot (Some p); kept = s.kept; sent = s.sent; used = put s.used e.peer (suc (s.used e.peer)) }) (received_same e m)

  step_same : (m : Option (MessageView Bracket)) (op : Op) → LoadsNothing op → (s : Local Bracket) → step c me m op s ≡ step d me m op s
  step_same m (Load tile slot) l s = absurd l
  step_same m (Blank tile slot) l s = refl
  step_same m (Cut slot at into) l s = ap (λ x. record { slots = x; kept = s.kept; sent = s.sent; used = s.used }) (cut_same slot at into (s.slots slot) s.slots)
  step_same m (Join front back into) l s = ap (λ x. record { slots = x; kept = s.kept; sent = s.sent; used = s.used }) (join_same front back into (s.slots front) (s.slots back) s.slots)
  step_same m (Swap e slot) l s = swap_same m e.kind e slot s
  step_same m (Keep slot) l s = refl

  pub run_same : (taken : ℕ → List (MessageView Bracket)) (ops : List Op) → LoadNothing ops → (s : Local Bracket) → run c me taken ops s ≡ run d me taken ops s
  run_same taken [] l s = refl
  run_same taken (op ∷ ops) l s = ap (run c me taken ops) (step_same (message_for taken s.used op) op l.0 s) ∙ run_same taken ops l.1 (step d me (message_for taken s.used op) op s)
