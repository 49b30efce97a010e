use Rattle.std.proofs.{Common.◌/◌, Common.eq-eqb, lemmas.Bool.eqb-true}
use Rattle.order_run.proofs.words.is_of.Goals as goal

pub returns : goal.returns
returns c = (eqb-true (c.args.word / 4) c.args.turn, eq-eqb (c.args.word / 4) c.args.turn)
