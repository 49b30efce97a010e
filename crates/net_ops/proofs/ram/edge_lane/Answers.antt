use Rattle.std.proofs.Common.{◌∙◌, ap, get_or, refl, sym, arith}
use Rattle.net_ops.specs.{Lanes.lane_row, code.Places.last_row}
use Rattle.net_ops.proofs.AnswerLemmas.{reads_within, words_same, answers_none, answers_more}
use Rattle.net_ops.proofs.Memories.{memory_here, here, shape_here, wrote_more, wrote_none}
use Rattle.net_ops.proofs.{LaneLemmas.lane_long, RamLemmas.fits_here, RamLemmas.fits_more}
use Rattle.net_ops.proofs.ram.edge_lane.Goals as goal

pub memories-init : goal.memories-init
memories-init g c =
    let row = lane_row g.W.Wire.lane c.args.l c.args.row.now in
    record {
      long = refl;
      words = wrote_none c.args.net.now (last_row c.args.net.now row) c.args.words.now;
      answers = answers_none c.args.net.now (record { row = last_row c.args.net.now row; words = c.args.words.now }) row;
      others = λ k low apart. refl;
      ports = c.requires.ports;
    }

pub edge_memory-requires-clause-shape : goal.edge_memory-requires-clause-shape
edge_memory-requires-clause-shape g c =
    let is = c.index-as_slice-number.is ∙ ap (λ list. get_or list c.memories.number c.index-as_slice-number.result) c.as_slice.ensures in
    shape_here c.args.net.now (last_row c.args.net.now (lane_row g.W.Wire.lane c.args.l c.args.row.now)) _ _ _ _ _ _ c.requires.shaped c.memories.invariant.words c.as_mut_slice.ensures.value (omega arith) is

pub edge_memory-requires-clause-within : goal.edge_memory-requires-clause-within
edge_memory-requires-clause-within g c =
    let is = c.index-as_slice-number.is ∙ ap (λ list. get_or list c.memories.number c.index-as_slice-number.result) c.as_slice.ensures in
    reads_within c.args.net.now c.requires.valid _ _ _ _ (memory_here c.args.net.now c.memories.number c.index-as_slice-number.result (omega arith) is) c.len.ensures (c.memories.invariant.long ∙ c.requires.long)

pub edge_memory-requires-clause-fits : goal.edge_memory-requires-clause-fits
edge_memory-requires-clause-fits g c =
    let is = c.index-as_slice-number.is ∙ ap (λ list. get_or list c.memories.number c.index-as_slice-number.result) c.as_slice.ensures in
    fits_here c.args.net.now (last_row c.args.net.now (lane_row g.W.Wire.lane c.args.l c.args.row.now)) c.args.words.now c.memories.words _ _ _ _ _ c.memories.invariant.ports c.as_mut_slice-in-memories.ensures.value (omega arith) is

pub memories-preserved : goal.memories-preserved
memories-preserved g c =
    let net = c.args.net.now in
    let lane = g.W.Wire.lane in
    let values = lane_row lane c.args.l c.args.row.now in
    let row = last_row net values in
    let is = c.index-as_slice-number.is ∙ ap (λ list. get_or list c.memories.number c.index-as_slice-number.result) c.as_slice.ensures in
    let at = memory_here net c.memories.number c.index-as_slice-number.result (omega arith) is in
    let words = here net row _ _ _ _ _ c.index-as_mut_slice-number.result c.requires.shaped c.memories.invariant.words c.as_mut_slice.ensures.value (omega arith) is in
    record {
      long = c.edge_memory.ensures.signals ∙ c.memories.invariant.long;
      words =
          wrote_more net row _ _ _ _ _ c.index-as_mut_slice-number.result c.requires.shaped c.memories.invariant.words c.as_mut_slice.ensures.value (omega arith) is _
          (words_same net c.requires.valid (record { row = row; words = c.args.words.now }) values refl _ _ at _ c.memories.invariant.answers _ _ _ c.len.ensures c.edge_memory.ensures.words);
      answers =
          answers_more net c.requires.valid (record { row = row; words = c.args.words.now }) values refl _ _ at _ c.memories.invariant.answers _ _ _ c.len.ensures words (lane_long lane c.args.row.now c.args.l ∙ c.requires.long)
          (lane_long lane c.edge_memory.new.row c.args.l ∙ (c.edge_memory.ensures.signals ∙ sym (lane_long lane c.memories.row c.args.l))) c.edge_memory.ensures.outputs;
      others = λ k low apart. c.edge_memory.ensures.others k low apart ∙ c.memories.invariant.others k low apart;
      ports =
          fits_more net row c.args.words.now c.memories.words _ _ _ _ c.index-as_mut_slice-number-in-memories.result c.memories.invariant.ports c.as_mut_slice-in-memories.ensures.value (omega arith) is _ c.edge_memory.ensures.fits;
    }
