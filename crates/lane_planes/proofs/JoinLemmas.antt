-- Operands joined one after the other make what the gate makes of all.
use Rattle.std.proofs.Common.{◌≡◌, ◌∙◌, ◌≤◌, ℕ, zero, suc, ◌+◌, ◌-◌, List, [], ◌∷◌, length, take, eqb-true, refl, ap, arith}
use Rattle.std.specs.{Prelude.IsTrue, List.fold}
use Rattle.logic_four.specs.declared.{V4.V4, Kind.Kind, Kind.TheVariants.Not, Kind.TheVariants.Buf, Kind.TheVariants.Tri}
use Rattle.logic_four.specs.{Gates.gate_value, Kinds.AllowsOperands, Folds.takes_many, Folds.base_kind}
use Rattle.logic_four.proofs.lemmas.{FoldLemmas.front, KindLemmas.some_operands}
use Rattle.lane_planes.specs.Joins.{first_of, join_of, answer_of, JoinsOneByOne}

-- a gate of one operand
alone : (kind : Kind) (a : V4) → IsTrue (takes_many kind) → gate_value kind (a ∷ []) ≡ answer_of kind (first_of kind a)
alone kind a many = grind arith

-- two operands joined are the first one and one more
two : (kind : Kind) (a b : V4) → IsTrue (takes_many kind)
    → first_of kind (gate_value (base_kind kind) (a ∷ b ∷ [])) ≡ join_of kind (first_of kind a) b
two kind a b many = grind arith

many_joined : (kind : Kind) (a : V4) (rest : List V4) → IsTrue (takes_many kind)
    → gate_value kind (a ∷ rest) ≡ answer_of kind (fold (join_of kind) (first_of kind a) rest)
many_joined kind a [] many = alone kind a many
many_joined kind a (b ∷ rest) many =
    front kind (a ∷ b ∷ []) rest many
    ∙ many_joined kind (gate_value (base_kind kind) (a ∷ b ∷ [])) rest many
    ∙ ap (λ v. answer_of kind (fold (join_of kind) v rest)) (two kind a b many)

-- a kind that takes one operand or two
one_joined : (kind : Kind) (a : V4) (rest : List V4) → length rest + 1 ≡ 1
    → gate_value kind (a ∷ []) ≡ answer_of kind (first_of kind a)
    → gate_value kind (a ∷ rest) ≡ answer_of kind (fold (join_of kind) (first_of kind a) rest)
one_joined kind a [] few is = is
one_joined kind a (b ∷ rest) few is = absurd (omega (arith, few))

two_joined : (a : V4) (rest : List V4) → length rest + 1 ≡ 2
    → gate_value Tri (a ∷ rest) ≡ answer_of Tri (fold (join_of Tri) (first_of Tri a) rest)
two_joined a [] few = absurd (omega (arith, few))
two_joined a (b ∷ []) few = refl
two_joined a (b ∷ c ∷ rest) few = absurd (omega (arith, few))

pub one_by_one : JoinsOneByOne
one_by_one Not a rest allowed = one_joined Not a rest (eqb-true (length rest + 1) 1 allowed) refl
one_by_one Buf a rest allowed = one_joined Buf a rest (eqb-true (length rest + 1) 1 allowed) refl
one_by_one Tri a rest allowed = two_joined a rest (eqb-true (length rest + 1) 2 allowed)
one_by_one kind a rest allowed = many_joined kind a rest refl

-- so many of four operands
pub four_joined : (kind : Kind) (n : ℕ) (a b c d : V4) → n ≤ 4 → AllowsOperands kind n
    → gate_value kind (take n (a ∷ b ∷ c ∷ d ∷ []))
    ≡ answer_of kind (fold (join_of kind) (first_of kind a) (take (n - 1) (b ∷ c ∷ d ∷ [])))
four_joined kind zero a b c d few allowed = absurd (omega (arith, some_operands kind 0 allowed))
four_joined kind (suc zero) a b c d few allowed = one_by_one kind a [] allowed
four_joined kind (suc (suc zero)) a b c d few allowed = one_by_one kind a (b ∷ []) allowed
four_joined kind (suc (suc (suc zero))) a b c d few allowed = one_by_one kind a (b ∷ c ∷ []) allowed
four_joined kind (suc (suc (suc (suc zero)))) a b c d few allowed = one_by_one kind a (b ∷ c ∷ d ∷ []) allowed
four_joined kind (suc (suc (suc (suc (suc n))))) a b c d few allowed = absurd (omega (arith, few))
