use Rattle.std.proofs.{Common.◌∙◌, Common.ap, Common.length, lemmas.List.length-replicate}
use Rattle.port_array.proofs.LaneMemories.{first_of}
use Rattle.port_array.proofs.memory.make_memory.Goals as goal

pub returns : goal.returns
returns g c =
    first_of g.W.Word c.args.v c.args.block.now _ c.in_ok-make_cells.ensures
    (ap length c.in_ok-filled.ensures ∙ length-replicate _ _ ∙ c.len.ensures)
    (ap length c.in_ok-filled-2.ensures ∙ length-replicate _ _ ∙ c.len-word_bits.ensures)
    (ap length c.in_ok-filled-3.ensures ∙ length-replicate _ _ ∙ c.len-word_bits.ensures)
    (ap length c.in_ok-filled-4.ensures ∙ length-replicate _ _ ∙ c.len-word_bits.ensures)
