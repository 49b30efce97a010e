use Rattle.std.proofs.{Common.set, Common.ap, lemmas.Option.get_or_from_slice_get}
use Rattle.order_run.proofs.CorePortLemmas.{put_is}
use Rattle.order_run.proofs.core_ports.put.Goals as goal

pub returns : goal.returns
returns c core_port at i link sending =
    ap (λ s. set c.args.core_ports.now c.args.p s) (put_is _ core_port c.put_done.new.self (get_or_from_slice_get c.args.core_ports.now c.args.p core_port c.index-core_ports-p.result at) c.put_done.ensures i link sending)
