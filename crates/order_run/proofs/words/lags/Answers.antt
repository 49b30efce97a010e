use Rattle.std.proofs.{Common.◌-◌, Common.lt-ltb, lemmas.Bool.ltb-true}
use Rattle.order_run.proofs.words.lags.Goals as goal

pub returns : goal.returns
returns c = rw c.saturating_sub.ensures (ltb-true c.args.finished (c.args.turn - c.args.banks), lt-ltb c.args.finished (c.args.turn - c.args.banks))
