use Rattle.std.proofs.Common.{◌≡◌, get_or, slice_get, Some, arith}
use Rattle.std.proofs.lemmas.Option.{slice_get-get_or}
use Rattle.port_array.proofs.{MemoryLemmas.member_at, LaneMemories.whole_more, LaneMemories.have_more}
use Rattle.port_array.proofs.memory.edge_all.Goals as goal

pub edge-requires-clause-past : goal.edge-requires-clause-past
edge-requires-clause-past g c l low = c.requires.past l low c.all.b c.index-blocks-b.result (member_at c.args.blocks.now c.all.b c.index-blocks-b.result c.all-test.true c.index-blocks-b.is)

pub edge-requires-clause-whole : goal.edge-requires-clause-whole
edge-requires-clause-whole g c =
    let block = c.index-blocks-b.result in
    c.all.invariant.whole.each c.all.b block (get_or c.all.memories c.all.b c.index-memories-b.result) (member_at c.args.blocks.now c.all.b block c.all-test.true c.index-blocks-b.is)
    (slice_get-get_or c.all.memories c.all.b c.index-memories-b.result (omega (arith, c.all.invariant.whole.long)))

pub all-preserved : goal.all-preserved
all-preserved g c =
    let b = c.all.b in
    let block = c.index-blocks-b.result in
    let old = get_or c.all.memories b c.index-memories-b.result in
    let here : slice_get c.args.blocks.now b ≡ Some block = member_at c.args.blocks.now b block c.all-test.true c.index-blocks-b.is in
    record {
      acted = have_more g.W.Word c.args.blocks.now c.all.memories b block c.edge.new.memory here c.args.bank.now c.args.memories.now old c.all.invariant.acted
          (slice_get-get_or c.all.memories b c.index-memories-b.result (omega (arith, c.all.invariant.whole.long))) c.edge.ensures.acted;
      whole = whole_more g.W.Word c.args.blocks.now c.all.memories b block c.edge.new.memory here c.all.invariant.whole c.edge.ensures.whole;
    }
