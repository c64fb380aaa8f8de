-- The alphas that are opaque.
use Rattle.std.specs.Prelude.{ℕ, ◌≡◌, ◌⊎◌}

-- 255, or 65,535 in wide pictures
abbrev pub IsOpaque : ℕ → Type 0
IsOpaque most = (most ≡ 255) ⊎ (most ≡ 65535)
