use Rattle.std.proofs.{Common.rules, Common.tests, Common.◌∙◌, lemmas.Iterator.YieldsList-from_slice}
use Rattle.std.proofs.lemmas.{Iterator.Consumers.YieldsList-from_filter, Iterator.Consumers.count_from_yields_List, List.Sums.length-filter}
use Rattle.stim_text.specs.Rows.{is_value_byte, width_of}
use Rattle.stim_text.proofs.row.width.Goals as goal

pub returns : goal.returns
unfolding width_of
returns c =
    let bytes = YieldsList-from_slice {s = c.filter.result.iter} c.args.values.now cc in
    count_from_yields_List c.filter.result c.count.result c.count.ensures.ran (YieldsList-from_filter _ (is_value_byte c.args.inputs) bytes c.filter.ensures.closure (λ x b q k. search (rules, tests)))
    ∙ length-filter (is_value_byte c.args.inputs) c.args.values.now
