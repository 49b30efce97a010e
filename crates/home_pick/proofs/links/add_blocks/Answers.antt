use Rattle.std.proofs.Common.{◌≡◌, length, get_or, Some, slice_get, refl, subst, arith}
use Rattle.std.proofs.lemmas.Option.{slice_get_read}
use Rattle.home_pick.specs.{Bags.where_at, Crossings.memory_uses, code.Uses.Gives}
use Rattle.home_pick.proofs.LinkLemmas.{gives_read}
use Rattle.home_pick.proofs.links.add_blocks.Goals as goal

pub add_block-requires-clause-memory : goal.add_block-requires-clause-memory
add_block-requires-clause-memory c =
    c.requires.nodes.memories c.memories.m c.index-blocks-m.result
    (subst (λ xs. slice_get xs c.memories.m ≡ Some c.index-blocks-m.result) c.as_slice-blocks.ensures (slice_get_read c.as_slice-blocks.result.now (length c.as_slice-blocks.result.now) c.memories.m c.index-blocks-m.result refl (omega arith) c.index-blocks-m.is))

pub memories-preserved : goal.memories-preserved
memories-preserved c = record {
  blocks = c.as_slice-blocks.ensures;
  ports = c.as_slice-ports.ensures;
  bags = c.in_ok-add_block.ensures.bags;
  gives = gives_read c.args.nodes.now c.args.homes.now c.args.uses.now c.memories.uses c.add_block.new.uses c.memories.m c.index-blocks-m.result
      (subst (λ xs. slice_get xs c.memories.m ≡ Some c.index-blocks-m.result) c.as_slice-blocks.ensures (slice_get_read c.as_slice-blocks.result.now (length c.as_slice-blocks.result.now) c.memories.m c.index-blocks-m.result refl (omega arith) c.index-blocks-m.is))
      c.memories.invariant.gives
      (subst (λ xs. Gives c.memories.uses c.add_block.new.uses (λ i p. where_at (get_or xs c.memories.m 0) p (memory_uses (Some c.index-blocks-m.result) i))) c.as_slice-ports.ensures c.in_ok-add_block.ensures.gives);
}
