use Rattle.std.proofs.Common.{◌∙◌, ◌+◌, ap, arith}
use Rattle.std.proofs.lemmas.List.{length_push}
use Rattle.port_array.proofs.{MemoryLemmas.member_at, LaneMemories.first_more}
use Rattle.port_array.proofs.memory.make_memories.Goals as goal

pub make_memory-requires : goal.make_memory-requires
make_memory-requires g c =
    c.requires c.each.block-index c.block-item.result (member_at c.args.blocks.now c.each.block-index c.block-item.result (omega arith) c.block-item.is)

pub each-preserved : goal.each-preserved
each-preserved g c =
    rw c.in_ok-push.ensures.ok (record {
      long = length_push c.each.memories _ ∙ ap (λ n. n + 1) c.each.invariant.long;
      first = first_more g.W.Word c.args.v c.args.blocks.now c.each.memories c.each.block-index c.block-item.result _ c.each.invariant.long
          (member_at c.args.blocks.now c.each.block-index c.block-item.result (omega arith) c.block-item.is) c.in_ok-make_memory.ensures c.each.invariant.first;
    })
