-- A table that is known to be that of a gate.
use Rattle.std.specs.Prelude.{⊤, ◌≤◌}
use Rattle.logic_four.specs.Kinds.{AllowsOperands}
use Rattle.func_table.specs.{declared.table.Table.Table, Entries.IsTableOf}
use Rattle.lane_planes.specs.declared.tables.TableForm.{TableForm, TheVariants.Gate, TheVariants.Other}

-- a form says the gate whose table it is, or nothing
abbrev pub IsForm : Table → TableForm → Type 0
IsForm table (Gate kind operands) = (operands ≤ 4) × AllowsOperands kind operands × IsTableOf kind operands table
IsForm table Other = ⊤
