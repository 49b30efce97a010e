use Rattle.std.proofs.Common.{◌≡◌, ◌∙◌, [], subst, arith}
use Rattle.std.proofs.lemmas.List.{get_or_default}
use Rattle.image_defs.specs.Matches.{claims_of}
use Rattle.image_build.specs.code.Layouts.{AreBlocks}
use Rattle.image_build.proofs.MemoryLemmas.{numbers_low}
use Rattle.image_build.proofs.array.array_work.Goals as goal

pub blocks_of-requires-clause-there : goal.blocks_of-requires-clause-there
blocks_of-requires-clause-there c = λ k m here.
    let is = rw c.as_slice.ensures at c.index-as_slice-port.is in
    let same : c.index-as_slice-port.result ≡ claims_of c.args.memories.now.lists c.args.port = is ∙ get_or_default c.args.memories.now.lists c.args.port c.index-as_slice-port.result [] (omega (arith, c.requires.array.1, c.requires.memories.ports)) in
    numbers_low c.args.nodes.now c.args.homes.now c.args.port (claims_of c.args.memories.now.lists c.args.port) k m (c.requires.memories.lists c.args.port (omega (arith, c.requires.array.1))) (rw (c.as_slice-numbers.ensures, same) at here)

pub returns : goal.returns
returns c =
    let is = rw c.as_slice.ensures at c.index-as_slice-port.is in
    let same : c.index-as_slice-port.result ≡ claims_of c.args.memories.now.lists c.args.port = is ∙ get_or_default c.args.memories.now.lists c.args.port c.index-as_slice-port.result [] (omega (arith, c.requires.array.1, c.requires.memories.ports)) in (
      c.requires.array.0,
      c.requires.array.1,
      claims_of c.args.memories.now.lists c.args.port,
      c.requires.memories.lists c.args.port (omega (arith, c.requires.array.1)),
      subst (λ numbers. AreBlocks c.args.nodes.now c.args.homes.now c.args.plan.now.slots c.args.port numbers c.in_ok-blocks.blocks) (c.as_slice-numbers.ensures ∙ same) c.in_ok-blocks.ensures,
      c.in_ok-outs.ensures,
    )
