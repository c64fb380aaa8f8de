-- One kind of content read as another: the run of the reading is the reading of the run.
use Rattle.std.specs.Prelude.{◌≡◌, ℕ, ◌-◌, ◌<◌, ◌≤◌, map, length, option_map}
use Rattle.icet_model.specs.Run.{Carrier, Piece, MessageView, Local}
use Rattle.icet_model.specs.Fit.{Tiles}

-- what a content of one kind is in another, given tile, lo and hi
abbrev pub Reading : Type 0 → Type 0 → Type 0
Reading A B = ℕ → ℕ → ℕ → A → B

abbrev pub read_piece : {A B : Type 0} → Reading A B → Piece A → Piece B
read_piece h p = record { tile = p.tile; lo = p.lo; hi = p.hi; content = h p.tile p.lo p.hi p.content }

abbrev pub read_message : {A B : Type 0} → Reading A B → MessageView A → MessageView B
read_message h m = record { round = m.round; from = m.from; to = m.to; piece = read_piece h m.piece }

abbrev pub read_local : {A B : Type 0} → Reading A B → Local A → Local B
read_local h s = record { slots = λ k. option_map (read_piece h) (s.slots k); kept = map (read_piece h) s.kept; sent = λ r. map (read_message h) (s.sent r); used = s.used }

-- a reading that goes with what the operations do
pub record Respects {A B : Type 0} (tiles : Tiles) (c : Carrier A) (d : Carrier B) (h : Reading A B) : Type 0 where
  pub size : (t : ℕ) → c.size t ≡ d.size t
  pub load : (t : ℕ) → t < length tiles.sizes → h t 0 (c.size t) (c.load t) ≡ d.load t
  pub blank : (t lo hi : ℕ) → h t lo hi (c.blank t lo hi) ≡ d.blank t lo hi
  pub front : (t lo at hi : ℕ) (x : A) → lo ≤ at → at ≤ hi → h t lo at (c.front (at - lo) x) ≡ d.front (at - lo) (h t lo hi x)
  pub rest : (t lo at hi : ℕ) (x : A) → lo ≤ at → at ≤ hi → h t at hi (c.rest (at - lo) x) ≡ d.rest (at - lo) (h t lo hi x)
  pub join : (t lo hi : ℕ) (x y : A) → h t lo hi (c.join x y) ≡ d.join (h t lo hi x) (h t lo hi y)
