use Rattle.event_defs.proofs.LinkLemmas as links
use Rattle.event_defs.proofs.law.links_decide.Goals as goal

pub returns : goal.returns
returns c one other stimulus stimulus_of_other banks until order answers answers_of_other state state_of_other fits fits_other linked some =
    links.links_decide one other linked fits banks until some stimulus stimulus_of_other fits_other order answers answers_of_other state state_of_other
