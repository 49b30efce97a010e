use Rattle.port_run.proofs.running.Running.until.Goals as goal

pub returns : goal.returns
returns c = rw (← c.self.view_is) c.until.ensures
