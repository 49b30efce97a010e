-- A gate of many operands as gates of few: AND, OR, XOR and BUS join the values of parts of their
-- operands, and NAND, NOR and XNOR are the inverses of such gates.
use Rattle.std.specs.Prelude.{◌≡◌, ◌∷◌, ◌++◌, Bool, true, false, List, [], map, IsTrue}
use Rattle.std.specs.List.{flat_map}
use Rattle.logic_four.specs.declared.Kind.TheVariants.{And, Nand, Or, Nor, Xor, Xnor, Not, Buf, Tri, Bus}
use Rattle.logic_four.specs.{declared.V4.V4, declared.Kind.Kind, Values.inverse, Gates.gate_value}

-- a gate of this kind may have any number of operands, as far as the profile goes
abbrev pub takes_many : Kind → Bool
takes_many And = true
takes_many Nand = true
takes_many Or = true
takes_many Nor = true
takes_many Xor = true
takes_many Xnor = true
takes_many Not = false
takes_many Buf = false
takes_many Tri = false
takes_many Bus = true

-- the kind that joins parts of the operands of this kind: without the inverse at the end
abbrev pub base_kind : Kind → Kind
base_kind And = And
base_kind Nand = And
base_kind Or = Or
base_kind Nor = Or
base_kind Xor = Xor
base_kind Xnor = Xor
base_kind Not = Buf
base_kind Buf = Buf
base_kind Tri = Tri
base_kind Bus = Bus

-- the kind that answers for an operand that stands twice what this kind answers for it alone
abbrev pub lone_kind : Kind → Kind
lone_kind And = Buf
lone_kind Nand = Not
lone_kind Or = Buf
lone_kind Nor = Not
lone_kind Xor = Buf
lone_kind Xnor = Not
lone_kind Not = Not
lone_kind Buf = Buf
lone_kind Tri = Tri
lone_kind Bus = Bus

-- the first two operands may be joined to one
abbrev pub JoinsTwo : Type 0
JoinsTwo =
    (kind : Kind) (a b : V4) (rest : List V4)
    → IsTrue (takes_many kind)
    → gate_value kind (a ∷ b ∷ rest) ≡ gate_value kind (gate_value (base_kind kind) (a ∷ b ∷ []) ∷ rest)

-- the first operands, however many, may be joined to one
abbrev pub JoinsFront : Type 0
JoinsFront =
    (kind : Kind) (front rest : List V4)
    → IsTrue (takes_many kind)
    → gate_value kind (front ++ rest) ≡ gate_value kind (gate_value (base_kind kind) front ∷ rest)

-- the first operands may be joined to one, and those after them to another
abbrev pub JoinsParts : Type 0
JoinsParts =
    (kind : Kind) (front back : List V4)
    → IsTrue (takes_many kind)
    → gate_value kind (front ++ back) ≡ gate_value kind (gate_value (base_kind kind) front ∷ gate_value (base_kind kind) back ∷ [])

-- the operands may be joined group by group
abbrev pub JoinsGroups : Type 0
JoinsGroups =
    (kind : Kind) (groups : List (List V4))
    → IsTrue (takes_many kind)
    → gate_value kind (flat_map (λ group. group) groups) ≡ gate_value kind (map (gate_value (base_kind kind)) groups)

-- a gate of one operand
abbrev pub AnswersOne : Type 0
AnswersOne =
    (kind : Kind) (a : V4)
    → IsTrue (takes_many kind)
    → gate_value kind (a ∷ []) ≡ gate_value (lone_kind kind) (a ∷ a ∷ [])

-- NOT and BUF look at their first operand alone
abbrev pub IgnoresMore : Type 0
IgnoresMore =
    (kind : Kind) (a : V4) (more : List V4)
    → IsTrue (takes_one kind)
    → gate_value kind (a ∷ more) ≡ gate_value kind (a ∷ []) where
      takes_one : Kind → Bool
      takes_one And = false
      takes_one Nand = false
      takes_one Or = false
      takes_one Nor = false
      takes_one Xor = false
      takes_one Xnor = false
      takes_one Not = true
      takes_one Buf = true
      takes_one Tri = false
      takes_one Bus = false

-- NAND, NOR, XNOR and NOT are the inverses of AND, OR, XOR and BUF
abbrev pub Inverts : Kind → Type 0
Inverts kind = (vs : List V4) → gate_value kind vs ≡ inverse (gate_value (base_kind kind) vs)
