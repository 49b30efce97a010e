use Rattle.home_pick.proofs.HomeLemmas.{homes_are}
use Rattle.yse_compile.proofs.lemmas.ChoiceLemmas.{compiled_design}
use Rattle.yse_compile.proofs.law.compiled_is_design.Goals as goal

pub returns : goal.returns
returns c net machine timing compiled valid machine_valid is =
    compiled_design net machine timing compiled (homes_are compiled.nodes machine compiled.homes (c.items_are_well_formed.ensures net timing compiled.nodes valid is.items.items) machine_valid is.picked) is
