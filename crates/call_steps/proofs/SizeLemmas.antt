-- Sizes that are counted without passing the end of a number.
use Rattle.std.proofs.Common.{◌≡◌, ◌∙◌, refl, ap, ℕ, zero, suc, ◌+◌, ◌*◌, ◌^◌, ◌<◌, ◌≤◌, List, [], ◌∷◌, length, take, get_or, Some, slice_get, arith}
use Rattle.std.proofs.{Math.Nat.pow-le-pow_right, Math.Nat.mul-le-mul, lemmas.Option.slice_get_read}
use Rattle.std.proofs.lemmas.List.Sums.{sum_by-cons, sum_by_more_le}
use Rattle.std.specs.{Prelude.max, List.fold, List.sum_by}
use Rattle.limits.specs.declared.TheConstants.{MAX_ADDRESS_BITS, MAX_CYCLES, MAX_WORD_BITS}
use Rattle.net_defs.specs.{declared.netlist.Block.Block, declared.netlist.Netlist.Netlist, declared.stimulus.Stimulus.Stimulus, Time.cycle_count}
use Rattle.net_defs.specs.Valid.{IsValid, IsValidStimulus, memory_operand_count}
use Rattle.stim_text.specs.{declared.lanes.Lanes.Lanes, Lanes.longest}
use Rattle.call_steps.specs.Checks.{block_bits}

-- ---- the cycles of lanes

most_short : (lanes : List Stimulus) (most : ℕ) → most ≤ MAX_CYCLES → ((l : ℕ) (stimulus : Stimulus) → slice_get lanes l ≡ Some stimulus → cycle_count stimulus ≤ MAX_CYCLES)
    → fold (λ most stimulus. max most (cycle_count stimulus)) most lanes ≤ MAX_CYCLES
most_short [] most short each = short
most_short (stimulus ∷ lanes) most short each =
    let first : cycle_count stimulus ≤ MAX_CYCLES = each zero stimulus refl in
    most_short lanes (max most (cycle_count stimulus)) (omega (arith, short, first)) (λ l other at. each (suc l) other at)

-- no lane has more cycles than a stimulus may have
pub short_lanes : (lanes : Lanes) → ((l : ℕ) (stimulus : Stimulus) → slice_get lanes.lanes l ≡ Some stimulus → IsValidStimulus stimulus) → longest lanes ≤ MAX_CYCLES
unfolding longest
short_lanes lanes valid = most_short lanes.lanes 0 (omega arith) (λ l stimulus at. (valid l stimulus at).cycles)

-- ---- the bits of memories

-- a memory has at most 2^22 bits, and an operand at least
one_block : (memory : Block) → length memory.address ≤ MAX_ADDRESS_BITS → length memory.word ≤ MAX_WORD_BITS → block_bits memory ≤ 4194304 * memory_operand_count memory
one_block memory address word =
    let words : 2 ^ length memory.address ≤ 65536 = pow-le-pow_right (omega arith) address in
    let bits : 2 ^ length memory.address * length memory.word ≤ 65536 * 64 = mul-le-mul words word in
    omega (arith, bits)

few_bits : (blocks : List Block) → ((m : ℕ) (memory : Block) → slice_get blocks m ≡ Some memory → (length memory.address ≤ MAX_ADDRESS_BITS) × (length memory.word ≤ MAX_WORD_BITS))
    → sum_by block_bits blocks ≤ 4194304 * sum_by memory_operand_count blocks
few_bits [] each = omega arith
few_bits (memory ∷ blocks) each =
    let first = each zero memory refl in
    let here = one_block memory first.0 first.1 in
    let others = few_bits blocks (λ m other at. each (suc m) other at) in
    let one : sum_by block_bits (memory ∷ blocks) ≡ block_bits memory + sum_by block_bits blocks = sum_by-cons block_bits memory blocks in
    let two : sum_by memory_operand_count (memory ∷ blocks) ≡ memory_operand_count memory + sum_by memory_operand_count blocks = sum_by-cons memory_operand_count memory blocks in
    omega (arith, here, others, one, two)

-- the bits of all memories are fewer than 2^44, so those of the first memories and the next are
pub bits_small : (net : Netlist) → IsValid net → sum_by block_bits net.blocks ≤ 17592186044416
bits_small net valid =
    let few = few_bits net.blocks (λ m memory at. ((valid.memories m memory at).address_bits.1, (valid.memories m memory at).word_bits.1)) in
    omega (arith, few, valid.few_operands)

pub next_small : (net : Netlist) (m : ℕ) (other : Block) → IsValid net → m < length net.blocks → sum_by block_bits (take m net.blocks) + block_bits (get_or net.blocks m other) ≤ 17592186044416
next_small net m other valid within =
    let more = sum_by_more_le block_bits net.blocks m other within in
    let small = bits_small net valid in
    omega (arith, more, small)

-- a memory among them
memory_here : (net : Netlist) (blocks : List Block) → blocks ≡ net.blocks → (m : ℕ) (memory : Block) → m < length net.blocks → memory ≡ get_or blocks m memory → slice_get net.blocks m ≡ Some memory
memory_here net blocks same m memory within at = slice_get_read net.blocks (length net.blocks) m memory refl within (at ∙ ap (λ (bs : List Block). get_or bs m memory) same)

-- its words have few bits, and so have all memories up to it
pub word_few : (net : Netlist) (blocks : List Block) → blocks ≡ net.blocks → (m : ℕ) (memory : Block) → m < length net.blocks → memory ≡ get_or blocks m memory → IsValid net → length memory.word ≤ MAX_WORD_BITS
word_few net blocks same m memory within at valid = (valid.memories m memory (memory_here net blocks same m memory within at)).word_bits.1

pub sum_few : (net : Netlist) (blocks : List Block) → blocks ≡ net.blocks → (m : ℕ) (memory : Block) (bits : ℕ) → m < length net.blocks → memory ≡ get_or blocks m memory → IsValid net → bits ≡ sum_by block_bits (take m net.blocks) → bits + block_bits memory ≤ 17592186044416
sum_few net blocks same m memory bits within at valid sum =
    let next = next_small net m memory valid within in
    let here : block_bits memory ≡ block_bits (get_or net.blocks m memory) = ap block_bits (at ∙ ap (λ (bs : List Block). get_or bs m memory) same) in
    omega (arith, next, here, sum)
