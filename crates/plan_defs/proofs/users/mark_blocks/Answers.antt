use Rattle.std.proofs.Common.{◌≡◌, get_or, length, Some, slice_get, refl, sym, ap, subst, arith}
use Rattle.std.proofs.lemmas.Option.{slice_get_read}
use Rattle.plan_defs.proofs.UserLemmas.{memory_place, memory_more, memory_all}
use Rattle.plan_defs.proofs.users.mark_blocks.Goals as goal

pub mark_block-requires : goal.mark_block-requires
mark_block-requires c =
    memory_place c.args.nodes.now c.args.homes.now _ _ _ c.memories.memory _ c.index-blocks-memory.result
    (subst (λ xs. slice_get xs c.memories.memory ≡ Some c.index-blocks-memory.result) c.as_slice-blocks.ensures (slice_get_read c.as_slice-blocks.result.now (length c.as_slice-blocks.result.now) c.memories.memory c.index-blocks-memory.result refl (omega arith) c.index-blocks-memory.is))
    (ap (λ xs. get_or xs c.memories.memory 0) (sym c.as_slice-ports.ensures)) c.memories.invariant.adds c.requires.places

pub memories-preserved : goal.memories-preserved
memories-preserved c = record {
  adds = memory_more c.args.nodes.now c.args.homes.now _ _ _ c.memories.memory _ c.index-blocks-memory.result
      (subst (λ xs. slice_get xs c.memories.memory ≡ Some c.index-blocks-memory.result) c.as_slice-blocks.ensures (slice_get_read c.as_slice-blocks.result.now (length c.as_slice-blocks.result.now) c.memories.memory c.index-blocks-memory.result refl (omega arith) c.index-blocks-memory.is))
      (ap (λ xs. get_or xs c.memories.memory 0) (sym c.as_slice-ports.ensures)) c.memories.invariant.adds c.mark_block.ensures;
  whole = c.as_slice-blocks.ensures;
  homes = c.as_slice-ports.ensures;
}

pub returns : goal.returns
returns c = memory_all c.args.nodes.now c.args.homes.now _ _ c.memories.memory (let whole = ap length c.as_slice-blocks.ensures in omega (arith, whole)) c.memories.invariant.adds
