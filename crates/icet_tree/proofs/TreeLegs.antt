-- The whole leg of the tree strategy.
use Rattle.std.proofs.Common.{◌≡◌, ℕ, suc, ◌+◌, ◌*◌, ◌^◌, ◌%◌, ◌<◌, [], sym, ap, ◌∙◌, subst, arith, Option, Some, eqb-true}
use Rattle.std.proofs.Math.Nat.{zero-mod}
use Rattle.std.specs.List.{slice_get}
use Rattle.icet_legs.proofs.CollectMatched.{collect_part}
use Rattle.icet_legs.proofs.Collects.{IsFinal, collected}
use Rattle.icet_legs.proofs.Positions.{OnTiles}
use Rattle.icet_tree.proofs.TreeRounds.{rounds_part, tree_rounds}
use Rattle.icet_legs.specs.Collect.{collect_messages, collect_ops, final_kept, final_messages, final_ops}
use Rattle.icet_legs.specs.Team.{IsTeam, Team, by_pair, by_pos}
use Rattle.icet_tree.specs.Tree.{tree_final, tree_leg_ops, tree_leg_messages, rounds_messages, rounds_ops, tree_piece}
use Rattle.icet_model.specs.Fit.{Tiles}
use Rattle.icet_model.specs.Plan.{bracket_carrier}
use Rattle.icet_model.specs.Run.{Piece}
use Rattle.icet_model.specs.declared.bracket.Bracket.{Bracket}
use Rattle.icet_plan.proofs.Segments.{Does, IsPart, does_both, parts_join}

pub tree_leg_part : (g : Team) → IsTeam g → (m shows : ℕ) → shows < g.n → IsPart (tree_leg_ops g m shows) (2 * (g.first + 0)) (2 * suc (g.first + m))
tree_leg_part g team m shows l = parts_join (rounds_ops g m) (collect_ops g (tree_final g m shows)) (2 * (g.first + 0)) (2 * (g.first + m)) (2 * suc (g.first + m)) (rounds_part g team m) (collect_part g team (tree_final g m shows) l)

pub record LegDone (tiles : Tiles) (g : Team) (m shows r p : ℕ) (before : ℕ → Option (Piece Bracket)) : Type 0 where
  pub after : ℕ → Option (Piece Bracket)
  pub does : Does (bracket_carrier tiles.sizes r) r tiles (tree_leg_ops g m shows r) (λ q. tree_leg_messages g m shows q r) before after (λ q. tree_leg_messages g m shows r q) (final_kept g (tree_final g m shows) p)

pub tree_leg : (tiles : Tiles) (g : Team) → IsTeam g → OnTiles tiles g → (m shows : ℕ) → shows < g.n → slice_get tiles.displays g.tile ≡ Some (g.who shows) → (r p : ℕ) → g.pos r ≡ Some p → (before : ℕ → Option (Piece Bracket)) → before 0 ≡ Some (record { tile = g.tile; lo = 0; hi = g.size; content = g.leaf p }) → LegDone tiles g m shows r p before
tree_leg tiles g team on m shows l display r p e before h =
    let f = tree_final g m shows in
    let past = tree_rounds tiles g team on r m before (λ x k. let s : p ≡ x = cc in h ∙ ap (λ z. Some (record { tile = g.tile; lo = 0; hi = g.size; content = g.leaf z })) s) in
    let ok : IsFinal tiles g f = record { shown = l; display = display; tile = on.tile; ranges = λ a k. (omega arith, omega (arith, on.size)) } in
    let last = collected tiles g team f ok r p e past.after (λ k. let z = eqb-true p 0 k in past.holds p e (ap (λ x. x % 2 ^ m) z ∙ zero-mod (2 ^ m)) ∙ ap (λ x. Some (tree_piece g m x)) z) in
    record {
      after = last.after;
      does = does_both (bracket_carrier tiles.sizes r) r tiles (rounds_ops g m r) (collect_ops g f r) (λ q. rounds_messages g m q r) (λ q. collect_messages g f q r) before past.after last.after (λ q. rounds_messages g m r q) (λ q. collect_messages g f r q) [] (final_kept g f p) past.does
          (subst (λ o. Does (bracket_carrier tiles.sizes r) r tiles (by_pos [] (final_ops g f) o) (λ q. by_pair (final_messages g f) (g.pos q) o) past.after last.after (λ q. by_pair (final_messages g f) o (g.pos q)) (final_kept g f p)) (sym e) last.does);
    }
