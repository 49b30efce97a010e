use Rattle.std.proofs.Common.{◌≡◌, ◌<◌, ◌-◌, ◌^◌, ℕ, true, min, Option, Some, None, unwrap_or, refl, sym, ap, arith}
use Rattle.std.proofs.lemmas.{Bool.lt-ltb, Option.none-some}
use Rattle.std.specs.Option.{option_map}
use Rattle.image_lines.specs.Tokens.{capped, plain_number, number_token}
use Rattle.image_lines.proofs.tokens.number_token.Goals as goal

-- a number that is too large for a `u32` is capped, even where it is read as the greatest `u64`
large_is_capped : (number : Option ℕ) (value : ℕ) → Some value ≡ option_map (λ n. min n (2 ^ 64 - 1)) number → 2 ^ 32 - 1 < value
    → Some (2 ^ 32 - 1, true) ≡ option_map capped number
large_is_capped (Some n) value is large =
    let value_is : value ≡ min n (2 ^ 64 - 1) = ap (λ o. unwrap_or o 0) is in
    let greatest : min n (2 ^ 32 - 1) ≡ 2 ^ 32 - 1 = omega (arith, value_is, large) in
    rw (greatest, lt-ltb (2 ^ 32 - 1) n (omega (arith, value_is, large))) refl
large_is_capped None value is large = absurd (none-some value (sym is))

pub returns-in-Some-2 : goal.returns-in-Some-2
unfolding number_token
returns-in-Some-2 c =
    large_is_capped (plain_number c.args.token.now) c.in-Some-2._value c.in-Some-2.ensures
    (omega (arith, c.if-value-from.false, c.from.ensures, c.in-Some-2._value-is, c.in-Some.value-is))
