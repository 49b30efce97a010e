use Rattle.std.proofs.{Common.set, Common.ap, lemmas.Option.get_or_from_slice_get}
use Rattle.order_run.proofs.CorePortLemmas.{taken_is}
use Rattle.order_run.proofs.core_ports.take.Goals as goal

pub returns : goal.returns
returns c core_port at j link receiving =
    ap (λ s. set c.args.core_ports.now c.args.p s) (taken_is _ core_port c.took.new.self (get_or_from_slice_get c.args.core_ports.now c.args.p core_port c.index-core_ports-p.result at) c.took.ensures j link receiving)
