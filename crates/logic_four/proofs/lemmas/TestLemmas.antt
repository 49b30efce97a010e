-- Tests that each of the four values passes.
use Rattle.std.proofs.Common.{◌≡◌, ◌∙◌, Bool, true, ◌&&◌, eqb, eqb-true, sym, ap, arith}
use Rattle.logic_four.specs.declared.V4.TheVariants.{Zero, One, Undef, HighZ}
use Rattle.logic_four.specs.{declared.V4.V4, Values.code_of, Values.value_of}
use Rattle.logic_four.proofs.lemmas.CodeLemmas.{value_of-code_of}

abbrev pub same : V4 → V4 → Bool
same v w = eqb (code_of v) (code_of w)

-- values that pass the test are the same
pub same_true : (v w : V4) → same v w ≡ true → v ≡ w
same_true v w e = sym (value_of-code_of v) ∙ ap value_of (eqb-true (code_of v) (code_of w) e) ∙ value_of-code_of w

abbrev pub for_each : (V4 → Bool) → Bool
for_each test = test Zero && (test One && (test Undef && test HighZ))

-- what each passes this one passes
pub at_value : (test : V4 → Bool) (v : V4) → for_each test ≡ true → test v ≡ true
at_value test v e = grind arith
