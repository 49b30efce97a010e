-- Numbers that stand several times, each with how often.
use Rattle.std.specs.Prelude.{ℕ, zero, suc, ◌==◌, if◌then◌else◌}

-- 1 for some, 0 for none
abbrev pub flag : ℕ → ℕ
flag zero = 0
flag (suc n) = 1

-- n where it is at the port, and else 0
abbrev pub where_at : ℕ → ℕ → ℕ → ℕ
where_at home port n = if home == port then n else 0
