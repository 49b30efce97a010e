use Rattle.std.proofs.{Common.◌∙◌, Common.◌<◌, Common.arith, lemmas.Option.slice_get_within}
use Rattle.net_ops.specs.Lanes.{lane_row}
use Rattle.net_ops.proofs.BaseLemmas.{sources_edge, sources_start}
use Rattle.net_ops.proofs.step.set_sources.Goals as goal

pub returns-in-Start-clause-sources : goal.returns-in-Start-clause-sources
returns-in-Start-clause-sources g c = λ l low.
    let few : l < g.W.Wire.lanes = omega (arith, low, c.requires.ready.few) in
    rw c.in-Start.is (sources_start c.args.net.now c.requires.valid c.args.timing.now (g.W.Wire.held c.args.forces.now l) c.args.inputs.now (lane_row g.W.Wire.lane l c.args.state.now.values) _ c.args.sources.now c.requires.sources _ (c.set_bases.ensures.bases l few))

pub returns-in-Edge-clause-sources : goal.returns-in-Edge-clause-sources
returns-in-Edge-clause-sources g c = λ l low.
    let few : l < g.W.Wire.lanes = omega (arith, low, c.requires.ready.few) in
    rw c.in-Edge.is (sources_edge c.args.net.now c.requires.valid c.args.timing.now (g.W.Wire.held c.args.forces.now l) c.args.inputs.now (lane_row g.W.Wire.lane l c.args.state.now.values) _ c.args.sources.now c.requires.sources _ _
    (c.edge_memories.ensures.each l low).answers (c.set_bases-in-Edge.ensures.bases l few))

pub returns-in-Edge-clause-words : goal.returns-in-Edge-clause-words
returns-in-Edge-clause-words g c = λ l low. record {
  memories = (c.edge_memories.ensures.each l low).written.memories ∙ (c.requires.ready.words l low).memories;
  each = λ m memory is. rw c.in-Edge.is ((c.edge_memories.ensures.each l low).written.written m memory (slice_get_within c.args.net.now.blocks m memory is) is);
}
