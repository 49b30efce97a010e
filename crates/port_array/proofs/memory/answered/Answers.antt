use Rattle.std.proofs.Common.{◌≡◌, ◌∙◌, ◌<◌, length, get_or, slice_get, Some, sym, ap, arith}
use Rattle.std.proofs.lemmas.{List.length-map, List.get_or-map, Option.slice_get-get_or}
use Rattle.logic_four.specs.{declared.V4.TheVariants.Undef, Values.value_at}
use Rattle.image_defs.specs.Steps.{value_of_member}
use Rattle.port_array.specs.{declared.memory.MemoryState.MemoryState, Lanes.lane_memory}
use Rattle.port_array.proofs.LaneMemories.{lane_long, lane_there}
use Rattle.port_array.proofs.memory.answered.Goals as goal

pub bounds-as_slice-bit : goal.bounds-as_slice-bit
bounds-as_slice-bit g c =
    let memories = c.args.memories.now in
    let memory : MemoryState _ = get_or memories c.args.bit.block c.index-memories-bit.result in
    let few : c.args.bit.block < length memories = omega (arith, c.requires.memory, length-map memories (lane_memory g.W.Word 0)) in
    let there : slice_get memories c.args.bit.block ≡ Some memory = slice_get-get_or memories c.args.bit.block c.index-memories-bit.result few in
    rw c.as_slice.ensures (omega (arith, c.requires.within (lane_memory g.W.Word 0 memory) (lane_there g.W.Word 0 memories c.args.bit.block memory there), lane_long g.W.Word 0 memory))

pub offset_bounds-as_slice-bit : goal.offset_bounds-as_slice-bit
offset_bounds-as_slice-bit g c =
    let memories = c.args.memories.now in
    let memory : MemoryState _ = get_or memories c.args.bit.block c.index-memories-bit.result in
    let few : c.args.bit.block < length memories = omega (arith, c.requires.memory, length-map memories (lane_memory g.W.Word 0)) in
    let there : slice_get memories c.args.bit.block ≡ Some memory = slice_get-get_or memories c.args.bit.block c.index-memories-bit.result few in
    rw c.as_slice.ensures (omega (arith, c.requires.within (lane_memory g.W.Word 0 memory) (lane_there g.W.Word 0 memories c.args.bit.block memory there), lane_long g.W.Word 0 memory))

pub returns : goal.returns
returns g c l low =
    let memories = c.args.memories.now in
    let memory : MemoryState _ = get_or memories c.args.bit.block c.index-memories-bit.result in
    let few : c.args.bit.block < length memories = omega (arith, c.requires.memory, length-map memories (lane_memory g.W.Word 0)) in
    let there : slice_get memories c.args.bit.block ≡ Some memory = slice_get-get_or memories c.args.bit.block c.index-memories-bit.result few in
    let within : c.args.bit.bit < length memory.outs = omega (arith, c.requires.within (lane_memory g.W.Word 0 memory) (lane_there g.W.Word 0 memories c.args.bit.block memory there), lane_long g.W.Word 0 memory) in
    let result = c.index-as_slice-bit.result in
    ap (λ p. g.W.Word.lane p l) (c.index-as_slice-bit.is ∙ ap (λ outs. get_or outs c.args.bit.bit result) c.as_slice.ensures)
    ∙ sym (get_or-map (λ p. g.W.Word.lane p l) memory.outs c.args.bit.bit result Undef within)
    ∙ ap (value_of_member (λ m. value_at m.outs c.args.bit.bit)) (sym (lane_there g.W.Word l memories c.args.bit.block memory there))
