use Rattle.port_walk.proofs.walk.next_of_send.Goals as goal

pub returns-in-Some : goal.returns-in-Some
returns-in-Some c = c.in-Some.ensures
