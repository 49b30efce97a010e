use Rattle.std.proofs.Common.{◌+◌, map, take}
use Rattle.logic_four.specs.{Gates.gate_value, Folds.base_kind}
use Rattle.net_defs.specs.Time.{value_at}
use Rattle.net_ops.specs.code.Sequences.{Adds}
use Rattle.net_ops.proofs.gate_list.push_wide.Given as goal

abbrev pub invariant-operands : goal.invariant-operands
invariant-operands g l = Adds g.W.Wire.answer g.W.Wire.is_form l.signals l.gate (λ row. gate_value (base_kind l.kind) (map (λ o. value_at row (l.base + o)) (take l.k l.operands))) l.fn.ops l.ops
