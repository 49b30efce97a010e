use Rattle.std.proofs.Common.{◌≡◌, ◌∙◌, ℕ, Option, Some, None, arith}
use Rattle.std.proofs.lemmas.List.{length-append}
use Rattle.std.specs.Option.{IfSome, SomeIff}
use Rattle.net_defs.specs.Trace.{header_line}
use Rattle.trace_text.proofs.line.header_length.Goals as goal

counted : (sum : Option ℕ) (P : Type 0) (n m : ℕ) → SomeIff sum P n → n ≡ m → IfSome sum (λ bytes. bytes ≡ m)
counted None P n m sum is = tt
counted (Some bytes) P n m sum is = sum.1 ∙ is

pub returns : goal.returns
unfolding header_line
returns c = counted c.checked_add.result _ _ _ c.checked_add.ensures (rw (c.in_ok-names_length.ensures, length-append) (omega arith))
