use Rattle.std.proofs.Common.{rules}
use Rattle.net_ops.proofs.gate_list.operand_base.Goals as goal

pub returns-else-is_late : goal.returns-else-is_late
returns-else-is_late c = search rules
