use Rattle.std.proofs.Common.{◌+◌, ◌-◌, ◌/◌, ◌<◌, ◌≤◌, subst, sym, arith}
use Rattle.image_defs.specs.declared.image.LinkOut.{LinkOut}
use Rattle.event_defs.proofs.SourceLemmas.{entry_there, between_all, between_upper, between_lower, between_one}
use Rattle.event_defs.proofs.sources.link_at.Goals as goal

pub halves-init : goal.halves-init
halves-init c = between_all c.args.outs.now c.requires.rising c.args.slot c.requires.there.0 c.requires.there.1

pub overflow_add-low : goal.overflow_add-low
overflow_add-low c =
    let order = c.halves.invariant.order in
    let fits = c.halves.auto.high-fits in
    omega arith

pub bounds-outs-middle : goal.bounds-outs-middle
bounds-outs-middle c =
    let within = c.halves.invariant.within in
    let more = c.halves-test.true in
    omega arith

pub bounds-outs-middle-in-halves : goal.bounds-outs-middle-in-halves
bounds-outs-middle-in-halves c =
    let within = c.halves.invariant.within in
    let more = c.halves-test.true in
    omega arith

pub halves-preserved-then-outs-middle : goal.halves-preserved-then-outs-middle
halves-preserved-then-outs-middle c =
    let within = c.halves.invariant.within in
    let more = c.halves-test.true in
    between_upper c.args.outs.now c.requires.rising c.args.slot c.halves.low c.halves.high (c.halves.low + (c.halves.high - c.halves.low) / 2) c.index-outs-middle.result
    (entry_there c.args.outs.now (c.halves.low + (c.halves.high - c.halves.low) / 2) c.index-outs-middle.result (omega arith) c.index-outs-middle.is) (omega arith) (omega arith) c.halves.invariant (subst (λ (l : LinkOut). l.slot ≤ c.args.slot) (sym c.index-outs-middle.is) c.if-outs-middle.true)

pub halves-preserved : goal.halves-preserved
halves-preserved c =
    let within = c.halves.invariant.within in
    let more = c.halves-test.true in
    between_lower c.args.outs.now c.requires.rising c.args.slot c.halves.low c.halves.high (c.halves.low + (c.halves.high - c.halves.low) / 2) c.index-outs-middle.result
    (entry_there c.args.outs.now (c.halves.low + (c.halves.high - c.halves.low) / 2) c.index-outs-middle.result (omega arith) c.index-outs-middle.is) (omega arith) (omega arith) c.halves.invariant (subst (λ (l : LinkOut). c.args.slot < l.slot) (sym c.index-outs-middle.is) c.if-outs-middle.false)

pub returns : goal.returns
returns c = between_one c.args.outs.now c.requires.rising c.args.slot c.halves.low c.halves.high c.halves-test.false c.halves.invariant c.requires.there.0 c.requires.there.1
