use Rattle.std.proofs.{Common.arith, lemmas.Result.on_ok_weaker}
use Rattle.net_ops.proofs.OpLemmas.{one_does, both_do}
use Rattle.net_ops.proofs.gate_list.push_gate.Goals as goal

pub returns-in-1 : goal.returns-in-1
returns-in-1 g c =
    on_ok_weaker c.push_pair.result (one_does g.W.Wire.answer g.W.Wire.is_form c.args.signals c.args.base c.args.gate c.requires.gate c.requires.base c.lone.result c.lone.ensures.made _ _ c.args.kind c.args.operands.now c.requires.within (omega arith) c.requires.allowed (λ allowed. c.lone.ensures.answers)) c.push_pair.ensures

pub returns-in-2 : goal.returns-in-2
returns-in-2 g c =
    on_ok_weaker c.push_pair-in-2.result (both_do g.W.Wire.answer g.W.Wire.is_form c.args.signals c.args.base c.args.gate c.requires.gate c.requires.base c.form.result c.form.ensures.made _ _ c.args.kind c.args.operands.now c.requires.within (omega arith) c.form.ensures.answers) c.push_pair-in-2.ensures
