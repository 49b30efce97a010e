use Rattle.std.proofs.Common.{◌≡◌, ◌∙◌, ◌+◌, Some, [], ◌∷◌, ◌++◌, length, slice_get, ap, subst, sym, arith}
use Rattle.image_defs.specs.declared.image.PortImage.{PortImage}
use Rattle.event_defs.specs.{Sources.AreFirsts, code.Sources.CountsSends}
use Rattle.event_defs.proofs.SourceLemmas.{entry_there, outs_few, before_few, counted_none, counted_more}
use Rattle.event_defs.proofs.sources.first_sends.Goals as goal

pub ports-init : goal.ports-init
ports-init c = subst (CountsSends c.args.image.now 0 0) (sym (c.in_ok-push.ensures.ok ∙ ap (λ xs. xs ++ 0 ∷ []) c.new-firsts.ensures)) (counted_none c.args.image.now c.requires)

pub overflow_cast-sends : goal.overflow_cast-sends
overflow_cast-sends c =
    let at = subst (λ ports. slice_get ports c.ports.p ≡ Some c.index-ports-p.result) c.as_slice-ports.ensures (entry_there c.as_slice-ports.result.now c.ports.p c.index-ports-p.result c.ports-test.true c.index-ports-p.is) in
    let few = outs_few c.args.image.now c.requires c.ports.p c.index-ports-p.result at in
    let long = c.len.ensures ∙ ap (λ (port : PortImage). length port.outs) (sym c.index-ports-p.is) in
    omega arith

pub overflow_add-sends : goal.overflow_add-sends
overflow_add-sends c =
    let at = subst (λ ports. slice_get ports c.ports.p ≡ Some c.index-ports-p.result) c.as_slice-ports.ensures (entry_there c.as_slice-ports.result.now c.ports.p c.index-ports-p.result c.ports-test.true c.index-ports-p.is) in
    let few = outs_few c.args.image.now c.requires c.ports.p c.index-ports-p.result at in
    let long = c.len.ensures ∙ ap (λ (port : PortImage). length port.outs) (sym c.index-ports-p.is) in
    let before = before_few c.args.image.now c.requires c.ports.p in
    let are = c.ports.invariant.sends_are in
    let low = c.ports-test.true in
    let ports = ap length c.as_slice-ports.ensures in
    let most = c.requires.most_ports in
    omega arith

pub ports-preserved : goal.ports-preserved
ports-preserved c =
    let at = subst (λ ports. slice_get ports c.ports.p ≡ Some c.index-ports-p.result) c.as_slice-ports.ensures (entry_there c.as_slice-ports.result.now c.ports.p c.index-ports-p.result c.ports-test.true c.index-ports-p.is) in
    let long = c.len.ensures ∙ ap (λ (port : PortImage). length port.outs) (sym c.index-ports-p.is) in
    counted_more c.args.image.now c.requires c.ports.p c.ports.sends c.len.result c.index-ports-p.result c.ports.firsts c.push-in-ports.new.self at long c.ports.invariant c.in_ok-push-2.ensures.ok

pub returns : goal.returns
returns c =
    let end = c.ports-test.false in
    let upto = c.ports.auto.p-end in
    let ports = ap length c.as_slice-ports.ensures in
    let all : c.ports.p ≡ length c.args.image.now.ports = omega arith in
    subst (λ n. AreFirsts c.args.image.now (n + 1) c.ports.firsts) all c.ports.invariant.firsts_are
