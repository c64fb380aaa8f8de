-- What calls of a function at each element of a list leave, where each part of the list has a thread of its own.
use Rattle.std.specs.Prelude.{◌≡◌, ℕ, ◌*◌, ◌/◌, ◌<◌, ◌≤◌, List, length, get_or, Result, IsOk}
use denote.Ref.{MutBor}
use denote.Param.Members.{Shared}

-- the first place of a worker's share, where `count` places are shared out to `workers`
abbrev pub share_start : ℕ → ℕ → ℕ → ℕ
share_start count worker workers = count * worker / workers

module _ {F T A E : Type 0} (g : Shared F (MutBor T × Unit {0}) (Result A E × (MutBor T × Unit {0}))) (f : F) where
  -- a call of f with a `&mut` to x may leave y there, and answers Ok where all is fine
  pub record Does (fine : Type 0) (x y : T) : Type 0 where
    pub argument : MutBor T
    pub argument_is : argument.now ≡ x
    pub answer : Result A E
    pub after_call : MutBor T
    pub call : g.post f (argument, tt) (answer, (after_call, tt))
    pub left : after_call.now ≡ y
    pub answered : fine → IsOk answer

-- each element is related to the one that stood at its place before
pub record EachDoes {T : Type 0} (P : T → T → Type 0) (old new : List T) : Type 0 where
  pub count : length new ≡ length old
  pub each : (k : ℕ) (d : T) → k < length old → P (get_or old k d) (get_or new k d)

-- those before a place are, and the others are as before
pub record DoneTo {T : Type 0} (P : T → T → Type 0) (at : ℕ) (old new : List T) : Type 0 where
  pub count : length new ≡ length old
  pub done : (k : ℕ) (d : T) → k < at → P (get_or old k d) (get_or new k d)
  pub rest : (k : ℕ) (d : T) → at ≤ k → get_or new k d ≡ get_or old k d
