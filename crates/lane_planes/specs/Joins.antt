-- A gate's answer by its operands one after the other: the first one, each further one joined to
-- what stands so far, and what the kind makes of that at the end.
use Rattle.std.specs.Prelude.{◌≡◌, ◌+◌, List, [], ◌∷◌, length}
use Rattle.std.specs.List.{fold}
use Rattle.logic_four.specs.declared.Kind.TheVariants.{And, Nand, Or, Nor, Xor, Xnor, Not, Buf, Tri, Bus}
use Rattle.logic_four.specs.{declared.V4.V4, declared.Kind.Kind, Values.settled, Values.inverse, Gates.gate_value, Kinds.AllowsOperands, Folds.base_kind}

-- the first operand: TRI and BUS take it as it is, and all others settle it
abbrev pub first_of : Kind → V4 → V4
first_of And v = settled v
first_of Nand v = settled v
first_of Or v = settled v
first_of Nor v = settled v
first_of Xor v = settled v
first_of Xnor v = settled v
first_of Not v = settled v
first_of Buf v = settled v
first_of Tri v = v
first_of Bus v = v

-- what stands so far and one more operand
abbrev pub join_of : Kind → V4 → V4 → V4
join_of kind so_far v = gate_value (base_kind kind) (so_far ∷ v ∷ [])

-- the answer: NAND, NOR, XNOR and NOT inverse what was joined
abbrev pub answer_of : Kind → V4 → V4
answer_of And v = v
answer_of Nand v = inverse v
answer_of Or v = v
answer_of Nor v = inverse v
answer_of Xor v = v
answer_of Xnor v = inverse v
answer_of Not v = inverse v
answer_of Buf v = v
answer_of Tri v = v
answer_of Bus v = v

-- a gate of as many operands as its kind may have answers what joining them one by one makes
abbrev pub JoinsOneByOne : Type 0
JoinsOneByOne =
    (kind : Kind) (first : V4) (rest : List V4)
    → AllowsOperands kind (length rest + 1)
    → gate_value kind (first ∷ rest) ≡ answer_of kind (fold (join_of kind) (first_of kind first) rest)
