use Rattle.std.proofs.Common.{◌≡◌, ◌∙◌, ◌<◌, List, ℕ, Some, slice_get, length, get_or, refl, sym, ap, subst, arith}
use Rattle.std.proofs.lemmas.Option.{slice_get_read}
use Rattle.node_defs.specs.declared.items.{NodeBlock.NodeBlock, NodeNet.NodeNet}
use Rattle.plan_defs.specs.Picks.{bits_of}
use Rattle.home_pick.specs.code.Rooms.{LacksBits, IsMostLeft}
use Rattle.home_pick.proofs.FillLemmas.{bits_read, none_found, some_bits}
use Rattle.home_pick.proofs.pick.place.Goals as goal

-- the memory that is read
there : (nodes : NodeNet) (b : ℕ) (block : NodeBlock) (blocks : List NodeBlock) → blocks ≡ nodes.blocks → b < length nodes.blocks → block ≡ get_or blocks b block → slice_get nodes.blocks b ≡ Some block
there nodes b block blocks same low is = subst (λ xs. slice_get xs b ≡ Some block) same (slice_get_read blocks (length blocks) b block refl (omega (arith, low, ap length same)) is)

pub block_bits-needed-requires-clause-word : goal.block_bits-needed-requires-clause-word
block_bits-needed-requires-clause-word c = (c.requires.nodes.memories c.args.block c.index-as_slice-block.result (there c.args.nodes.now c.args.block c.index-as_slice-block.result c.as_slice.result.now c.as_slice.ensures c.requires.block c.index-as_slice-block.is)).word.1

pub put-requires-clause-needed : goal.put-requires-clause-needed
put-requires-clause-needed c =
    subst (λ n. c.block_bits-needed.result ≡ bits_of c.args.nodes.now n) (sym c.requires.before.housed.memories)
    (c.block_bits-needed.ensures ∙ sym (bits_read c.args.nodes.now c.args.block c.index-as_slice-block.result (there c.args.nodes.now c.args.block c.index-as_slice-block.result c.as_slice.result.now c.as_slice.ensures c.requires.block c.index-as_slice-block.is)))

pub returns-in-None-clause-refused : goal.returns-in-None-clause-refused
returns-in-None-clause-refused c =
    none_found c.args.nodes.now c.args.machine.now c.args.filling.now c.args.block c.requires.before c.block_bits-needed.result c.most_left.result c.requires.block
    (c.block_bits-needed.ensures ∙ sym (bits_read c.args.nodes.now c.args.block c.index-as_slice-block.result (there c.args.nodes.now c.args.block c.index-as_slice-block.result c.as_slice.result.now c.as_slice.ensures c.requires.block c.index-as_slice-block.is)))
    (subst (λ (left : List ℕ). (a : ℕ) → a < length left → LacksBits left c.block_bits-needed.result a) c.as_slice-2.ensures (c.in-None.ensures.none refl))
    (subst (λ (left : List ℕ). IsMostLeft left (length left) c.most_left.result) c.as_slice-in-None.ensures c.most_left.ensures)
    (let memory = c.requires.nodes.memories c.args.block c.index-as_slice-block.result (there c.args.nodes.now c.args.block c.index-as_slice-block.result c.as_slice.result.now c.as_slice.ensures c.requires.block c.index-as_slice-block.is) in
    rw c.block_bits-needed.ensures (some_bits (length c.index-as_slice-block.result.address) (length c.index-as_slice-block.result.word) memory.word.0))
