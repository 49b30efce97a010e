use Rattle.std.proofs.Common.{◌∙◌, ap, subst, sym, length}
use Rattle.net_ops.specs.{Lanes.lane_row, code.Rams.act_over, code.Values.IsStagedTo, code.Values.Puts}
use Rattle.net_ops.proofs.ram.edge_memory.Goals as goal

pub returns-clause-outputs : goal.returns-clause-outputs
returns-clause-outputs g c f staged =
    let lane = g.W.Wire.lane in
    let block = c.args.block.now in
    let from = c.as_slice-3.ensures ∙ (c.answer.ensures.outputs ∙ ap (λ row. (act_over block c.args.base (lane_row lane c.args.l row) c.args.cells.now).outputs) c.as_slice.ensures) in
    subst (λ xs. Puts xs f (length xs) (lane_row lane c.args.l c.args.row.now) (lane_row lane c.args.l c.put_all.new.row)) c.as_slice-2.ensures
    (c.put_all.ensures.puts f (subst (λ xs. IsStagedTo xs f (length xs) c.as_slice-3.result.now) (sym c.as_slice-2.ensures) (subst (IsStagedTo block.outs f (length block.outs)) (sym from) staged)))
