-- What a source in memory gives.
use Rattle.std.proofs.Common.{◌≡◌, ℕ, ◌+◌, ◌≤◌, List, ◌++◌, length, take, drop, sym, ap, ◌∙◌, arith, length-drop}
use Rattle.std.proofs.lemmas.List.{take-append-drop, drop-drop, length-take-le, take_at}

-- the front of the buffer, and then what is left
pub read_gives : (bytes copied buf : List ℕ) (at n : ℕ) → at + n ≤ length bytes → copied ≡ take n (drop at bytes) → drop at bytes ≡ take n (copied ++ drop n buf) ++ drop (at + n) bytes
read_gives bytes copied buf at n l e =
    let long : length (take n (drop at bytes)) ≡ n = length-take-le n (drop at bytes) (omega (arith, length-drop at bytes)) in
    let full : length copied ≡ n = ap length e ∙ long in
    sym (take-append-drop n (drop at bytes))
    ∙ ap (λ xs. take n (drop at bytes) ++ xs) (drop-drop n at bytes)
    ∙ ap (λ xs. xs ++ drop (at + n) bytes) (sym e ∙ sym (take_at copied (drop n buf) n full))
