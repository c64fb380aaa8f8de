-- What comes of a rank's try, by where its ring stands.
use Rattle.std.proofs.Common.{◌≡◌, ℕ, ◌<◌, ◌≤◌, Bool, true, false, cond, List, length, refl, ap, ◌∙◌, arith, Option, Some, None}
use Rattle.std.specs.Prelude.{nat_lt}
use Rattle.std.proofs.lemmas.Bool.Decides.{nat_tests}
use Rattle.icet_model.specs.declared.exchange.Kind.{Kind}
use Rattle.icet_model.specs.declared.exchange.Kind.TheVariants.{Send, Take}
use Rattle.icet_model.specs.declared.exchange.Exchange.{Exchange}
use Rattle.icet_model.specs.Core.{due, CanSwap, IsEnabled}
use Rattle.icet_model.specs.Replay.{Try, Moved, Stalled, Done, Absent, allows, try_of, outcome}

is_below : (a b : ℕ) → a < b → nat_lt a b ≡ true
is_below a b h = grind (arith, nat_tests)

below : (a b : ℕ) → nat_lt a b ≡ true → a < b
below a b h = grind (arith, nat_tests)

not_below : (a b : ℕ) → nat_lt a b ≡ false → b ≤ a
not_below a b h = grind (arith, nat_tests)

module _ (all : List (List Exchange)) (cap : ℕ) (done : List ℕ) (r : ℕ) where
  can : (kind : Kind) (peer : ℕ) → allows all cap done r kind peer ≡ true → CanSwap all cap done r kind peer
  can Send peer h = below _ _ h
  can Take peer h = below _ _ h

  allowed : (kind : Kind) (peer : ℕ) → CanSwap all cap done r kind peer → allows all cap done r kind peer ≡ true
  allowed Send peer h = is_below _ _ h
  allowed Take peer h = is_below _ _ h

  when_moved : (b : Bool) → cond b Moved Stalled ≡ Moved → b ≡ true
  when_moved true h = refl
  when_moved false h = absurd (cc)

  never_done : (b : Bool) → cond b Moved Stalled ≡ Done → ⊥
  never_done true h = absurd (cc)
  never_done false h = absurd (cc)

  never_absent : (b : Bool) → cond b Moved Stalled ≡ Absent → ⊥
  never_absent true h = absurd (cc)
  never_absent false h = absurd (cc)

  pub moved : outcome all cap done r ≡ Moved → IsEnabled all cap done r
  moved h = go (nat_lt r (length all)) (due all done r) refl h
    where
      go : (b : Bool) (o : Option Exchange) → due all done r ≡ o → cond b (try_of all cap done r o) Absent ≡ Moved → IsEnabled all cap done r
      go false o d h = absurd (cc)
      go true None d h = absurd (cc)
      go true (Some e) d h = record { exchange = e; is_due = d; free = can e.kind e.peer (when_moved (allows all cap done r e.kind e.peer) h) }

  of_enabled : IsEnabled all cap done r → try_of all cap done r (due all done r) ≡ Moved
  of_enabled e = ap (try_of all cap done r) e.is_due ∙ ap (λ b. cond b Moved Stalled) (allowed e.exchange.kind e.exchange.peer e.free)

  pub enabled : r < length all → IsEnabled all cap done r → outcome all cap done r ≡ Moved
  enabled l e = ap (λ b. cond b (try_of all cap done r (due all done r)) Absent) (is_below r (length all) l) ∙ of_enabled e

  pub stalled : outcome all cap done r ≡ Stalled → IsEnabled all cap done r → ⊥
  stalled h e = go (nat_lt r (length all)) (try_of all cap done r (due all done r)) (of_enabled e) h
    where
      go : (b : Bool) (t : Try) → t ≡ Moved → cond b t Absent ≡ Stalled → ⊥
      go false t m h = absurd (cc)
      go true t m h = absurd (cc)

  pub finished : outcome all cap done r ≡ Done → due all done r ≡ None
  finished h = go (nat_lt r (length all)) (due all done r) refl h
    where
      go : (b : Bool) (o : Option Exchange) → due all done r ≡ o → cond b (try_of all cap done r o) Absent ≡ Done → due all done r ≡ None
      go false o d h = absurd (cc)
      go true None d h = d
      go true (Some e) d h = absurd (never_done (allows all cap done r e.kind e.peer) h)

  pub absent : outcome all cap done r ≡ Absent → length all ≤ r
  absent h = go (nat_lt r (length all)) (due all done r) refl h
    where
      go : (b : Bool) (o : Option Exchange) → nat_lt r (length all) ≡ b → cond b (try_of all cap done r o) Absent ≡ Absent → length all ≤ r
      go false o d h = not_below r (length all) d
      go true None d h = absurd (cc)
      go true (Some e) d h = absurd (never_absent (allows all cap done r e.kind e.peer) h)

  not_in : (a b : ℕ) → b ≤ a → nat_lt a b ≡ false
  not_in a b h = grind (arith, nat_tests)

  pub none_left : r < length all → due all done r ≡ None → outcome all cap done r ≡ Done
  none_left l d = ap (λ b. cond b (try_of all cap done r (due all done r)) Absent) (is_below r (length all) l) ∙ ap (try_of all cap done r) d

  pub beyond : length all ≤ r → outcome all cap done r ≡ Absent
  beyond l = ap (λ b. cond b (try_of all cap done r (due all done r)) Absent) (not_in r (length all) l)
