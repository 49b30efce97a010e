use Rattle.std.proofs.Common.{◌≡◌, ◌∙◌, length, ap, sym}
use Rattle.std.proofs.lemmas.List.{length-map}
use Rattle.list_laws.proofs.Members.{refill_whole}
use Rattle.ref_sim.proofs.PrintLemmas.{printed_is}
use Rattle.ref_sim.proofs.trace_rows.print_row.Goals as goal

pub returns : goal.returns
returns c =
    let is = c.gather.ensures ∙ printed_is c.args.net.now c.args.values.now _ c.as_slice.ensures in
    let long : length c.gather.new.list ≡ length c.args.row.now.cells = ap length is ∙ (length-map c.args.net.now.printed _ ∙ sym c.requires.wide) in
    ap (λ cells. record { cells = cells }) (refill_whole c.args.row.now.cells c.gather.new.list long ∙ is)
