use Rattle.std.proofs.Common.{◌≡◌, ◌<◌, ◌∙◌, get_or, Some, length, slice_get, ap, subst, sym, arith}
use Rattle.std.proofs.lemmas.{List.take_all, Option.slice_get-get_or, Result.err_from_is_err_and}
use Rattle.image_build.specs.code.Layouts.{AreBlocks}
use Rattle.image_build.proofs.MemoryLemmas.{blocks_more}
use Rattle.image_build.proofs.array.blocks_of.Goals as goal

pub block_of-requires-clause-taken : goal.block_of-requires-clause-taken
block_of-requires-clause-taken c = λ o takes.
    let number = c.requires.there c.numbers.k (get_or c.args.numbers.now c.numbers.k 0) (slice_get-get_or c.args.numbers.now c.numbers.k 0 c.numbers-test.true) in
    let is = rw c.as_slice-memories.ensures at c.index-memories-numbers.is in
    let there : slice_get c.args.nodes.now.blocks (get_or c.args.numbers.now c.numbers.k 0) ≡ Some c.index-memories-numbers.result = slice_get-get_or c.args.nodes.now.blocks (get_or c.args.numbers.now c.numbers.k 0) c.index-memories-numbers.result number ∙ ap Some (sym is) in
    let low = (c.requires.planned.formed.memories (get_or c.args.numbers.now c.numbers.k 0) c.index-memories-numbers.result there).taken o takes in
    omega (arith, low, c.requires.planned.first_fit.slots.items)

pub numbers-preserved : goal.numbers-preserved
numbers-preserved c =
    let number = c.requires.there c.numbers.k (get_or c.args.numbers.now c.numbers.k 0) (slice_get-get_or c.args.numbers.now c.numbers.k 0 c.numbers-test.true) in
    let is = rw c.as_slice-memories.ensures at c.index-memories-numbers.is in
    let there : slice_get c.args.nodes.now.blocks (get_or c.args.numbers.now c.numbers.k 0) ≡ Some c.index-memories-numbers.result = slice_get-get_or c.args.nodes.now.blocks (get_or c.args.numbers.now c.numbers.k 0) c.index-memories-numbers.result number ∙ ap Some (sym is) in
    rw (c.in_ok-push.ensures.ok, c.in_ok-block_of.ensures) (blocks_more c.args.nodes.now c.args.homes.now c.args.plan.now.slots c.args.port c.numbers.k 0 c.args.numbers.now c.numbers.blocks c.index-memories-numbers.result c.numbers-test.true c.numbers.invariant there)

pub returns-in_err-block_of : goal.returns-in_err-block_of
returns-in_err-block_of c = let p = err_from_is_err_and c.from_residual.result c.from_residual.ensures.1 in rw p.1 tt

pub returns-in_err-push : goal.returns-in_err-push
returns-in_err-push c = let p = err_from_is_err_and c.from_residual-in_err-push.result c.from_residual-in_err-push.ensures.1 in rw p.1 tt

pub bounds-memories-numbers : goal.bounds-memories-numbers
bounds-memories-numbers c =
    subst (λ memories. get_or c.args.numbers.now c.numbers.k 0 < length memories) (sym c.as_slice-memories.ensures)
    (c.requires.there c.numbers.k (get_or c.args.numbers.now c.numbers.k 0) (slice_get-get_or c.args.numbers.now c.numbers.k 0 c.numbers-test.true))

pub block_of-requires-clause-as_long : goal.block_of-requires-clause-as_long
block_of-requires-clause-as_long c = omega (arith, c.requires.planned.housed.items, c.requires.planned.first_fit.slots.items)

pub returns : goal.returns
returns c =
    subst (λ numbers. AreBlocks c.args.nodes.now c.args.homes.now c.args.plan.now.slots c.args.port numbers c.numbers.blocks)
    (take_all c.numbers.k c.args.numbers.now (omega arith)) c.numbers.invariant
