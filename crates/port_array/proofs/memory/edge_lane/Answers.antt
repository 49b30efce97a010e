use Rattle.std.proofs.Common.{◌≡◌, ◌∙◌, [], length, get_or, sym, ap, refl, arith}
use Rattle.std.proofs.lemmas.List.{length-map, length-set, get_or-set_same, get_or-set_other}
use Rattle.logic_four.specs.Memory.{memory_act}
use Rattle.port_array.specs.{code.Acts.past_of, code.Acts.act_at, Lanes.lane_memory}
use Rattle.image_defs.specs.Ports.{lane_port}
use Rattle.port_array.proofs.LaneMemories.{lane_long, whole_after}
use Rattle.port_array.proofs.memory.edge_lane.Given as given
use Rattle.port_array.proofs.memory.edge_lane.Goals as goal

pub put_row-requires-clause-long : goal.put_row-requires-clause-long
put_row-requires-clause-long g c =
    let outs : length c.args.memory.now.outs ≡ length c.args.block.now.word = sym (lane_long g.W.Word 0 c.args.memory.now) ∙ (c.requires.whole.fits 0 g.met.W.Word.some).outs in
    outs ∙ sym c.requires.whole.answers ∙ sym c.edge_cells.ensures.long

-- the act of the lane is that of its sources
did : (g : given.Over) (c : goal.After-put_row g)
    → memory_act (get_or c.args.memory.now.cells c.args.k []) c.take_past-enable.result c.as_slice-3.result.now c.as_slice-4.result.now
    ≡ act_at (lane_port g.W.Word.stimulus c.args.k c.args.bank.now) c.args.block.now (lane_memory g.W.Word c.args.k c.args.memory.now).cells
did g c = rw (c.take_past-enable.ensures, c.as_slice-3.ensures, c.fill.ensures, c.as_slice.ensures, c.as_slice-4.ensures, c.fill-2.ensures, c.as_slice-2.ensures) refl

pub returns-clause-acted : goal.returns-clause-acted
returns-clause-acted g c = record {
  words = ap (λ cells. get_or cells c.args.k []) c.edge_cells.ensures.words
      ∙ get_or-set_same c.args.memory.now.cells c.args.k _ [] (omega (arith, c.requires.whole.lanes, c.requires.lane)) ∙ ap (λ act. act.words) (did g c);
  outputs = c.put_row.ensures.here ∙ c.edge_cells.ensures.outputs ∙ ap (λ act. act.outputs) (did g c);
}

pub returns-clause-others : goal.returns-clause-others
returns-clause-others g c l low other = record {
  words = ap (λ cells. get_or cells l []) c.edge_cells.ensures.words ∙ get_or-set_other c.args.memory.now.cells c.args.k l _ [] other;
  outputs = c.put_row.ensures.others l low other;
}

pub returns-clause-whole : goal.returns-clause-whole
returns-clause-whole g c =
    let address : length c.fill.new.room ≡ length c.args.block.now.address = ap length c.fill.ensures ∙ length-map c.as_slice.result.now (past_of (lane_port g.W.Word.stimulus c.args.k c.args.bank.now)) ∙ ap length c.as_slice.ensures in
    let word : length c.fill-2.new.room ≡ length c.args.block.now.word = ap length c.fill-2.ensures ∙ length-map c.as_slice-2.result.now (past_of (lane_port g.W.Word.stimulus c.args.k c.args.bank.now)) ∙ ap length c.as_slice-2.ensures in
    whole_after g.W.Word c.args.block.now c.args.k c.args.memory.now _ c.requires.whole
    (ap length c.edge_cells.ensures.words ∙ length-set c.args.memory.now.cells c.args.k _)
    address word (c.put_row.ensures.room ∙ c.edge_cells.ensures.long ∙ c.requires.whole.answers) c.put_row.ensures.long
    (rw (← address, ← word, ← c.as_slice-3.ensures, ← c.as_slice-4.ensures) c.edge_cells.ensures.shape)
    (λ l low other. ap (λ cells. get_or cells l []) c.edge_cells.ensures.words ∙ get_or-set_other c.args.memory.now.cells c.args.k l _ [] other)
