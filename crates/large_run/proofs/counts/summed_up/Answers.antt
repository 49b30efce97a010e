use Rattle.large_run.proofs.counts.summed_up.Goals as goal

pub returns : goal.returns
returns c = rw (← c.counted.ensures) c.summary_text.ensures
