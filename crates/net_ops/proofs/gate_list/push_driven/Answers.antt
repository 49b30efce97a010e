use Rattle.std.proofs.{Common.sym, Common.subst, Common.arith, lemmas.Result.on_ok_weaker}
use Rattle.std.specs.List.{Contains}
use Rattle.net_defs.specs.{Steps.is_late, Loops.gate_operands}
use Rattle.net_ops.proofs.SequenceLemmas.{base_apart, gate_adds}
use Rattle.net_ops.proofs.gate_list.push_driven.Goals as goal

pub push_gate-requires-clause-apart : goal.push_gate-requires-clause-apart
push_gate-requires-clause-apart g c =
    (base_apart _ c.operand_base-base.result c.args.signal (is_late c.args.net.now c.args.timing.now c.args.signal) c.as_slice.result.now c.operand_base-base.ensures c.requires.signal
    (λ early o held. c.requires.apart early o (subst (λ d. Contains (gate_operands d) o) (sym c.in-Gate.is) (subst (λ xs. Contains xs o) c.as_slice.ensures held)))).1

pub returns-in-Gate : goal.returns-in-Gate
returns-in-Gate g c =
    on_ok_weaker c.push_gate.result (gate_adds g.W.Wire.answer g.W.Wire.is_form c.args.net.now c.args.timing.now c.args.signal _ _ c.args.driver.now c.in-Gate.kind _ _ _ _ c.in-Gate.is c.as_slice.ensures (omega arith) c.operand_base-base.ensures) c.push_gate.ensures
