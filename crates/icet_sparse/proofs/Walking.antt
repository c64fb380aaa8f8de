-- What a walk has passed, and what it has still to come.
use Rattle.std.proofs.Common.{◌≡◌, ℕ, zero, suc, ◌+◌, ◌<◌, List, ◌∷◌, ◌++◌, length, take, drop, map, replicate, Some, None, sym, ◌∙◌, ap, arith, append_assoc, length-append, zero-add, add-zero}
use Rattle.std.proofs.lemmas.List.{append-nil, map-append, replicate-append-replicate, drop-drop, length-replicate, length-map}
use Rattle.std.proofs.Math.Seq.{take-add, take-append-add, drop-append-add}
use Rattle.icet_model.specs.Pixel.{Pixel, FragmentView}
use Rattle.icet_sparse.specs.declared.run.Run.{Run}
use Rattle.icet_sparse.specs.Runs.{strip_pixels}

abbrev pub run : ℕ → ℕ → Run
run b n = record { blank = b; drawn = n }

-- the first b blank pixels of a run and n drawn ones, of which there are none where a blank one is left
pub walked : (b left n more behind : ℕ) (rs : List Run) (fs : List FragmentView) → (0 < n → left ≡ 0) → strip_pixels (run (b + left) (n + more) ∷ rs) fs behind ≡ replicate b None ++ map Some (take n fs) ++ strip_pixels (run left more ∷ rs) (drop n fs) behind
walked b left zero more behind rs fs h = rw (zero-add more, ← replicate-append-replicate {A = Pixel} b left None) (simp (append-nil, append_assoc))
walked b left (suc n) more behind rs fs h =
    let none : left ≡ 0 = h (omega arith) in
    rw (none, add-zero b, take-add (suc n) more fs, ← drop-drop more (suc n) fs, map-append) (simp append_assoc)

module _ (old new passed : List Pixel) (left now : ℕ) (e : old ≡ passed ++ new) (count : left ≡ length passed + now) where
  -- what is still to come after a stretch
  pub left_behind : drop now new ≡ drop left old
  left_behind = sym (ap (λ n. drop n old) count ∙ ap (drop (length passed + now)) e ∙ drop-append-add passed new now)

  -- what was put down, and what is still to be put
  pub put_down : (here there : List Pixel) → there ≡ here ++ passed → there ++ take now new ≡ here ++ take left old
  put_down here there p =
      let taken : take left old ≡ passed ++ take now new = ap (λ n. take n old) count ∙ ap (take (length passed + now)) e ∙ take-append-add passed new now in
      rw (p, taken) (append_assoc here passed (take now new))

-- how many pixels a stretch has
pub stretch_length : (b : ℕ) (fs : List FragmentView) → length (replicate {A = Pixel} b None ++ map Some fs) ≡ b + length fs
stretch_length b fs = omega (arith, length-append (replicate {A = Pixel} b None) (map Some fs), length-replicate {A = Pixel} b None, length-map fs (λ f. Some f))
