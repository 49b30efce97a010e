use Rattle.std.proofs.Common.{◌∙◌, ◌∷◌, [], ap, arith}
use Rattle.std.proofs.lemmas.Result.{on_ok_weaker}
use Rattle.logic_four.specs.{Gates.gate_value, Folds.base_kind}
use Rattle.net_ops.proofs.OpLemmas.{two_do, wide_joins, wide_last}
use Rattle.net_ops.proofs.gate_list.push_wide.Goals as goal

pub operands-init : goal.operands-init
operands-init g c =
    two_do g.W.Wire.answer g.W.Wire.is_form c.args.signals c.args.base c.args.gate c.requires.gate c.requires.base c.form-joining.result c.form-joining.ensures.made _ _ (base_kind c.args.kind) c.args.operands.now c.requires.within (omega (arith, c.requires.wide))
    (λ x y. c.form-joining.ensures.answers x y ∙ ap (λ j. gate_value j (x ∷ y ∷ [])) c.base_kind.ensures) c.in_ok-push_pair.ensures

pub operands-preserved : goal.operands-preserved
operands-preserved g c =
    wide_joins g.W.Wire.answer g.W.Wire.is_form c.args.signals c.args.base c.args.gate c.args.operands.now c.requires.gate c.requires.base c.requires.within c.requires.apart c.operands.k c.args.kind c.base_kind.result c.form-joining.result _ _ _
    c.base_kind.ensures c.requires.many (omega arith) c.form-joining.ensures.made c.form-joining.ensures.answers c.operands.invariant c.in_ok-push_pair-2.ensures

pub returns : goal.returns
returns g c =
    on_ok_weaker c.push_pair-2.result (λ grown.
    wide_last g.W.Wire.answer g.W.Wire.is_form c.args.signals c.args.base c.args.gate c.args.operands.now c.requires.gate c.requires.base c.requires.within c.requires.apart c.operands.k _ c.args.kind c.form.result _ _ _
    c.requires.many (omega arith) (omega arith) c.form.ensures.made c.form.ensures.answers c.operands.invariant grown) c.push_pair-2.ensures
