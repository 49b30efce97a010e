use Rattle.yse_commands.proofs.plan.report_of.Goals as goal

pub report-requires-clause-nodes : goal.report-requires-clause-nodes
report-requires-clause-nodes c =
    let planned = c.planned.inside in
    c.items_are_well_formed.ensures planned.net planned.timing planned.chosen.compiled.nodes c.planned.invariant.valid c.planned.invariant.is.design.items.items

pub returns : goal.returns
returns c =
    let planned = c.planned.inside in
    let is = c.planned.invariant.is in
    rw (← c.planned.view_is) (record {
      chosen = planned.chosen;
      items = is.design.items;
      plain = is.plain;
      picked = is.picked;
      used = is.used;
      first_fit = is.design.first_fit;
      fits = is.design.fits;
      report = c.in_ok-text.text;
      is = c.in_ok-text.ensures;
      told = c.in_ok-push_homes.ensures;
    })
