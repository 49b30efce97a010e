use Rattle.std.proofs.Common.{◌≡◌, ◌∙◌, [], length, get_or, ap, arith}
use Rattle.std.specs.List.{sum_by, range_with_len}
use Rattle.list_laws.proofs.Ranges.{sum_more}
use Rattle.plan_text.proofs.FigureLemmas.{readers_few, read_lists}
use Rattle.plan_text.proofs.crossing.crossings.Goals as goal

pub overflow_add-count : goal.overflow_add-count
overflow_add-count c =
    let lists = read_lists c.args.nodes.now c.args.homes.now c.in_ok-readers.readers c.in_ok-readers.ensures c.items.i (omega arith) in
    let few = readers_few c.args.nodes.now c.args.homes.now c.items.i _ c.requires.nodes c.requires.homes lists in
    let small = c.items.invariant.small in
    let many = c.requires.nodes.few in
    omega (arith, few, small, many)

pub items-preserved : goal.items-preserved
items-preserved c =
    let lists = read_lists c.args.nodes.now c.args.homes.now c.in_ok-readers.readers c.in_ok-readers.ensures c.items.i (omega arith) in
    let few = readers_few c.args.nodes.now c.args.homes.now c.items.i _ c.requires.nodes c.requires.homes lists in
    let more = sum_more (λ i. length (get_or c.in_ok-readers.readers.lists i [])) c.items.i in
    let so_far = c.items.invariant.so_far in
    let small = c.items.invariant.small in
    let count = c.reader_count.ensures in
    record { so_far = omega (arith, more, so_far, count); small = omega (arith, few, small, count) }

pub returns : goal.returns
returns c = let whole : c.items.i ≡ length c.args.nodes.now.items = omega arith in record {
  readers = λ i. get_or c.in_ok-readers.readers.lists i [];
  are = read_lists c.args.nodes.now c.args.homes.now c.in_ok-readers.readers c.in_ok-readers.ensures;
  is = c.items.invariant.so_far ∙ ap (λ n. sum_by (λ i. length (get_or c.in_ok-readers.readers.lists i [])) (range_with_len 0 n)) whole;
}
