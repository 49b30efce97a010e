use Rattle.port_walk.proofs.readers.turns_wanted.Goals as goal

pub returns : goal.returns
returns c = c.saturating_sub.ensures
