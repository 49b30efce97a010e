-- Lemmas on the codes of values.
use Rattle.std.proofs.Common.{◌≡◌, ◌<◌, refl, arith, ℕ, zero, suc, replicate}
use Rattle.std.proofs.lemmas.Bool.Decides.{nat_tests}
use Rattle.logic_four.specs.{declared.V4.V4, declared.V4.TheVariants.Undef, Values.code_of, Values.value_of, Values.value_at}

-- the value of a value's code is the value
pub value_of-code_of : (v : V4) → value_of (code_of v) ≡ v
value_of-code_of v = grind arith

pub code_of_small : (v : V4) → code_of v < 4
code_of_small v = grind arith

-- the code of a code's value is the code
pub code_of-value_of : (n : ℕ) → n < 4 → code_of (value_of n) ≡ n
code_of-value_of n h = grind (arith, nat_tests)

-- of undefined values each is undefined
pub undefined_at : (n k : ℕ) → value_at (replicate n Undef) k ≡ Undef
undefined_at zero k = refl
undefined_at (suc n) zero = refl
undefined_at (suc n) (suc k) = undefined_at n k
