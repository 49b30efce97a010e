use Rattle.std.proofs.{Common.◌≤◌, Common.arith, lemmas.List.Sums.count_by-le-length}
use Rattle.limits.specs.declared.TheConstants.{MAX_SIGNALS}
use Rattle.net_defs.specs.Valid.{is_input}
use Rattle.node_defs.specs.WellFormed.{column_count}
use Rattle.yse_compile.proofs.RangeLemmas.{design_in_ranges}
use Rattle.yse_compile.proofs.matching.designs_are_in_range.Goals as goal

pub returns : goal.returns
returns c net machine timing compiled claims valid valid_machine is are =
    let formed = c.items_are_well_formed.ensures net timing compiled.nodes valid is.items.items in
    let inputs = c.same_inputs.ensures net timing compiled.nodes valid is.items.items in
    let few = count_by-le-length (λ signal. is_input signal.driver) net.signals in
    let most = valid.few_signals in
    let columns : column_count compiled.nodes ≤ MAX_SIGNALS = omega (arith, inputs, few, most) in
    design_in_ranges machine timing compiled claims valid_machine formed columns is.homes is.logic is.memories is.fits is.built are
