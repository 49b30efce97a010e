-- Gates of two operands by one formula: AND or XOR of the operands, or of their inverses, and then
-- that or its inverse.
use Rattle.std.specs.Prelude.{◌^◌, ◌-◌, ℕ, Bool, true, false, if◌then◌else◌}
use Rattle.limits.specs.declared.TheConstants.{LANES}
use Rattle.logic_four.specs.declared.Kind.TheVariants.{And, Nand, Or, Nor, Xor, Xnor, Not, Buf, Tri, Bus}
use Rattle.logic_four.specs.declared.Kind.{Kind}

-- the kind inverts its operands
abbrev pub turns_operands : Kind → Bool
turns_operands And = false
turns_operands Nand = false
turns_operands Or = true
turns_operands Nor = true
turns_operands Xor = false
turns_operands Xnor = false
turns_operands Not = false
turns_operands Buf = false
turns_operands Tri = false
turns_operands Bus = false

-- it inverts the answer
abbrev pub turns_answer : Kind → Bool
turns_answer And = false
turns_answer Nand = true
turns_answer Or = true
turns_answer Nor = false
turns_answer Xor = false
turns_answer Xnor = true
turns_answer Not = false
turns_answer Buf = false
turns_answer Tri = false
turns_answer Bus = false

-- it is XOR of the operands
abbrev pub is_parity : Kind → Bool
is_parity And = false
is_parity Nand = false
is_parity Or = false
is_parity Nor = false
is_parity Xor = true
is_parity Xnor = true
is_parity Not = false
is_parity Buf = false
is_parity Tri = false
is_parity Bus = false

-- a mask of all lanes, or of none
abbrev pub mask_of : Bool → ℕ
mask_of all = if all then (2 ^ LANES - 1) else 0
