-- A fact of each lane is one of every number below that of the lanes.
use Rattle.std.proofs.Common.{◌≡◌, ℕ, zero, suc, ◌<◌, subst, arith}
use Rattle.port_bank.specs.Lanes.{InEach}

pub in_lane : (n : ℕ) (P : ℕ → Type 0) → InEach n P → (l : ℕ) → l < n → P l
in_lane zero P each l low = each l low
in_lane (suc zero) P one l low = let first : 0 ≡ l = omega (arith, low) in subst P first one
in_lane (suc (suc n)) P each l low = each l low

pub in_each : (n : ℕ) (P : ℕ → Type 0) → ((l : ℕ) → l < n → P l) → InEach n P
in_each zero P each = each
in_each (suc zero) P each = each 0 (omega arith)
in_each (suc (suc n)) P each = each
