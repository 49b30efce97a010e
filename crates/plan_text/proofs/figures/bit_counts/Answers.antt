use Rattle.list_laws.proofs.Ranges.{replicate_read}
use Rattle.std.proofs.Common.{◌≡◌, ◌∙◌, ◌+◌, ◌-◌, ◌<◌, ◌≤◌, length, get_or, refl, sym, ap, arith, Some}
use Rattle.std.proofs.lemmas.List.{length-replicate, length-set}
use Rattle.plan_defs.specs.Picks.{bits_before, bits_of}
use Rattle.plan_defs.proofs.UserLemmas.{read_at}
use Rattle.home_pick.proofs.FillLemmas.{bits_read, bits_few}
use Rattle.plan_text.proofs.FigureLemmas.{bits_grown, bits_small}
use Rattle.plan_text.proofs.figures.bit_counts.Goals as goal

pub block_bits-requires : goal.block_bits-requires
block_bits-requires c =
    let is = read_at c.args.nodes.now.blocks c.as_slice-blocks.result.now c.memories.m c.index-blocks-m.result c.as_slice-blocks.ensures (omega arith) ∙ ap Some (sym c.index-blocks-m.is) in
    let memory = c.requires.nodes.memories c.memories.m c.index-blocks-m.result is in
    record { address = memory.address.1; word = memory.word.1 }

pub memories-preserved : goal.memories-preserved
memories-preserved c =
    let is = read_at c.args.nodes.now.blocks c.as_slice-blocks.result.now c.memories.m c.index-blocks-m.result c.as_slice-blocks.ensures (omega arith) ∙ ap Some (sym c.index-blocks-m.is) in
    let memory = c.requires.nodes.memories c.memories.m c.index-blocks-m.result is in
    let many = ap length c.as_slice-blocks.ensures in
    let at = c.requires.homes.memories c.memories.m (omega (arith, many)) in
    let from = at.0 in
    let below = at.1 in
    let a = get_or c.args.homes.now.blocks c.memories.m 0 - c.args.homes.now.logic in
    let port : get_or c.args.homes.now.blocks c.memories.m 0 ≡ c.args.homes.now.logic + a = omega (arith, from) in
    let shape = c.memories.invariant.shape in
    let low : a < length c.memories.counts = omega (arith, from, below, shape) in
    let bits : c.block_bits.result ≡ bits_of c.args.nodes.now c.memories.m = c.block_bits.ensures ∙ sym (bits_read c.args.nodes.now c.memories.m c.index-blocks-m.result is) in
    let few : c.block_bits.result ≤ 8388608 = rw c.block_bits.ensures (bits_few (length c.index-blocks-m.result.address) (length c.index-blocks-m.result.word) memory.address.1 memory.word.1) in
    let new = get_or c.memories.counts a 0 + c.block_bits.result in
    rw c.set.ensures (rw c.as_slice.ensures (rw c.as_slice-ports.ensures (record {
      shape = length-set c.memories.counts a new ∙ shape;
      counts = λ b inside. bits_grown c.args.nodes.now c.args.homes.now c.memories.counts c.memories.m a new low port (ap (λ n. get_or c.memories.counts a 0 + n) bits) c.memories.invariant.counts b (rw (← length-set c.memories.counts a new) inside);
      small = λ b inside. bits_small c.memories.counts c.memories.m a new low (omega (arith, few)) c.memories.invariant.small b (rw (← length-set c.memories.counts a new) inside);
      whole = c.as_slice-blocks.ensures;
      homes_whole = refl;
    })))

pub memories-init : goal.memories-init
memories-init c = record {
  shape = ap length c.in_ok-counts.ensures ∙ length-replicate c.args.homes.now.array 0;
  counts = λ a low. ap (λ counts. get_or counts a 0) c.in_ok-counts.ensures ∙ replicate_read c.args.homes.now.array a 0;
  small = λ a low.
      let none : get_or c.in_ok-counts.counts a 0 ≡ 0 = ap (λ counts. get_or counts a 0) c.in_ok-counts.ensures ∙ replicate_read c.args.homes.now.array a 0 in
      omega (arith, none);
  whole = c.as_slice-blocks.ensures;
  homes_whole = c.as_slice-ports.ensures;
}

pub bounds-ports-m : goal.bounds-ports-m
bounds-ports-m c = omega (arith, ap length c.as_slice-ports.ensures, ap length c.as_slice-blocks.ensures, c.requires.homes.blocks)

pub overflow_sub-a : goal.overflow_sub-a
overflow_sub-a c =
    let at = c.requires.homes.memories c.memories.m (omega (arith, ap length c.as_slice-blocks.ensures)) in
    rw c.as_slice-ports.ensures at.0

pub bounds-as_slice-a : goal.bounds-as_slice-a
bounds-as_slice-a c =
    let at = c.requires.homes.memories c.memories.m (omega (arith, ap length c.as_slice-blocks.ensures)) in
    rw (c.as_slice.ensures, c.as_slice-ports.ensures) (omega (arith, at.0, at.1, c.memories.invariant.shape))

pub returns : goal.returns
returns c =
    let all : c.memories.m ≡ length c.args.nodes.now.blocks = omega (arith, ap length c.as_slice-blocks.ensures) in
    record {
      shape = c.memories.invariant.shape;
      counts = λ a low. c.memories.invariant.counts a (rw c.memories.invariant.shape low)
          ∙ ap (λ m. bits_before c.args.nodes.now c.args.homes.now.blocks m (c.args.homes.now.logic + a)) all;
    }

pub overflow_add-bits : goal.overflow_add-bits
overflow_add-bits c =
    let is = read_at c.args.nodes.now.blocks c.as_slice-blocks.result.now c.memories.m c.index-blocks-m.result c.as_slice-blocks.ensures (omega arith) ∙ ap Some (sym c.index-blocks-m.is) in
    let memory = c.requires.nodes.memories c.memories.m c.index-blocks-m.result is in
    let few : c.block_bits.result ≤ 8388608 = rw c.block_bits.ensures (bits_few (length c.index-blocks-m.result.address) (length c.index-blocks-m.result.word) memory.address.1 memory.word.1) in
    let many = ap length c.as_slice-blocks.ensures in
    let at = c.requires.homes.memories c.memories.m (omega (arith, many)) in
    let a = get_or c.args.homes.now.blocks c.memories.m 0 - c.args.homes.now.logic in
    let low : a < length c.memories.counts = omega (arith, at.0, at.1, c.memories.invariant.shape) in
    let small = c.memories.invariant.small a low in
    rw (c.as_slice.ensures, c.as_slice-ports.ensures) (omega (arith, small, few, many, c.requires.nodes.few_memories))
