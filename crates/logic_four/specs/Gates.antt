-- What each kind of gate answers, said by what stands among its operands.
use Rattle.std.specs.Prelude.{◌%◌, ◌==◌, ◌||◌, Bool, true, false, if◌then◌else◌, List, count_by}
use Rattle.std.specs.List.{list_any, list_all}
use Rattle.logic_four.specs.declared.V4.TheVariants.{Zero, One, Undef, HighZ}
use Rattle.logic_four.specs.declared.Kind.TheVariants.{And, Nand, Or, Nor, Xor, Xnor, Not, Buf, Tri, Bus}
use Rattle.logic_four.specs.{declared.V4.V4, declared.Kind.Kind, Values.settled, Values.inverse, Values.value_at}

-- the value is 0
abbrev pub is_zero : V4 → Bool
is_zero Zero = true
is_zero One = false
is_zero Undef = false
is_zero HighZ = false

-- the value is 1
abbrev pub is_one : V4 → Bool
is_one Zero = false
is_one One = true
is_one Undef = false
is_one HighZ = false

-- the value is 0 or 1
abbrev pub is_known : V4 → Bool
is_known v = is_zero v || is_one v

-- the value is high impedance
abbrev pub is_high_z : V4 → Bool
is_high_z Zero = false
is_high_z One = false
is_high_z Undef = false
is_high_z HighZ = true

-- AND: 0 if some operand is 0; 1 if all are 1; else undefined
abbrev pub and_value : List V4 → V4
and_value vs = if list_any is_zero vs then Zero else if list_all is_one vs then One else Undef

-- OR: 1 if some operand is 1; 0 if all are 0; else undefined
abbrev pub or_value : List V4 → V4
or_value vs = if list_any is_one vs then One else if list_all is_zero vs then Zero else Undef

-- the number of ones is odd
abbrev pub is_odd_parity : List V4 → Bool
is_odd_parity vs = count_by is_one vs % 2 == 1

-- XOR: undefined unless all operands are 0 or 1; else 1 exactly where the number of ones is odd
abbrev pub xor_value : List V4 → V4
xor_value vs = if list_all is_known vs then (if is_odd_parity vs then One else Zero) else Undef

-- every operand that is not high impedance is 0
abbrev pub is_driven_zero : List V4 → Bool
is_driven_zero vs = list_all (λ v. is_zero v || is_high_z v) vs

-- every operand that is not high impedance is 1
abbrev pub is_driven_one : List V4 → Bool
is_driven_one vs = list_all (λ v. is_one v || is_high_z v) vs

-- BUS: high impedance if all operands are; 0 or 1 if those that are not all equal it; else undefined
abbrev pub bus_value : List V4 → V4
bus_value vs =
    if list_all is_high_z vs then HighZ else
    if is_driven_zero vs then Zero else
    if is_driven_one vs then One else
    Undef

-- TRI: high impedance if the enable is 0; the settled operand if it is 1; else undefined
abbrev pub tri_value : V4 → V4 → V4
tri_value Zero d = HighZ
tri_value One d = settled d
tri_value Undef d = Undef
tri_value HighZ d = Undef

-- what a gate of this kind answers for these operands, however many: NOT and BUF look at the first
-- alone and TRI at the first two, where one that is missing counts as undefined
abbrev pub gate_value : Kind → List V4 → V4
gate_value And vs = and_value vs
gate_value Nand vs = inverse (and_value vs)
gate_value Or vs = or_value vs
gate_value Nor vs = inverse (or_value vs)
gate_value Xor vs = xor_value vs
gate_value Xnor vs = inverse (xor_value vs)
gate_value Not vs = inverse (settled (value_at vs 0))
gate_value Buf vs = settled (value_at vs 0)
gate_value Tri vs = tri_value (value_at vs 0) (value_at vs 1)
gate_value Bus vs = bus_value vs
