use Rattle.std.proofs.Common.{◌∙◌, ◌*◌, ap}
use Rattle.std.specs.Prelude.{slice_get}
use Rattle.yse_compile.proofs.ShownLemmas.{cells_show}
use Rattle.yse_compile.proofs.matching.matching_images_show.Goals as goal

pub returns : goal.returns
returns c net timing nodes image claims valid are formed matches stimulus =
    cells_show net timing nodes image stimulus are
    (c.one_run.ensures net timing nodes are stimulus)
    (λ values valued. c.values_are_reference.ensures net timing nodes valid are stimulus values valued)
    (λ values valued k j x items here printed.
    (c.matched_values.ensures image claims nodes timing formed matches stimulus values valued).cells k j x items (ap (λ units. slice_get values (k * units)) matches.units ∙ here) printed)
