use Rattle.yse_compile.proofs.matching.designs_are_placed.Goals as goal

pub returns : goal.returns
returns c net machine timing compiled valid is = record {
  formed = c.items_are_well_formed.ensures net timing compiled.nodes valid is.items.items;
  housed = is.homes;
  first_fit = is.first_fit;
  routed = is.routed;
  timing = timing;
  built = is.built;
}
