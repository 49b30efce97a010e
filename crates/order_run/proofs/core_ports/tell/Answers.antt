use Rattle.std.proofs.Common.{set, ap, sym, subst, ◌<◌, mod-lt}
use Rattle.std.proofs.lemmas.Option.{get_or_from_slice_get, slice_get-get_or}
use Rattle.order_run.proofs.CorePortLemmas.{told_is}
use Rattle.order_run.proofs.core_ports.tell.Goals as goal

pub told-requires : goal.told-requires
told-requires c = c.requires.can _ (slice_get-get_or c.args.core_ports.now c.args.p c.index-core_ports-p.result c.requires.there)

pub next_bank-core_port-requires : goal.next_bank-core_port-requires
next_bank-core_port-requires c =
    let bank = c.requires.bank _ (slice_get-get_or c.args.core_ports.now c.args.p c.index-core_ports-p.result c.requires.there) in
    subst (λ b. b < c.args.banks) (sym bank) (mod-lt _ c.requires.some)

pub returns : goal.returns
returns c core_port at =
    let here = get_or_from_slice_get c.args.core_ports.now c.args.p core_port c.index-core_ports-p.result at in
    let bank = c.requires.bank _ (slice_get-get_or c.args.core_ports.now c.args.p c.index-core_ports-p.result c.requires.there) in
    ap (λ s. set c.args.core_ports.now c.args.p s) (told_is _ core_port c.told.new.self c.next_bank-core_port.result c.args.banks here c.told.ensures (c.next_bank-core_port.ensures _ bank))
