use Rattle.std.proofs.Common.{append-nil, length, sym, ap, ◌∙◌, subst, refl, arith, length-append}
use Rattle.bench_read.proofs.Common.{lines_in, lines_at, AreOnce, length-map}
use Rattle.bench_read.proofs.MakingLemmas.{few_memories, making_more, uses_split, named}
use Rattle.bench_read.proofs.NumberLemmas.{names_length}
use Rattle.bench_read.specs.Netlists.{names_of, numbers, netlist_of, other_signals}
use Rattle.bench_read.specs.code.Making.{seen}
use Rattle.bench_read.proofs.netlist.add_lines.Goals as goal

pub lines-init : goal.lines-init
unfolding netlist_of
lines-init c =
    rw (c.into_iter-at-iterator.ensures.into_iter_gives, c.new-at-items.ensures, c.requires.signals, c.requires.printed, c.requires.memories)
    (record { made = record { whole = refl }; uses = c.requires.uses ∙ ap (numbers (names_of (lines_in c.args.draft.now))) (sym c.requires.whole.uses) })

pub split_at-requires : goal.split_at-requires
split_at-requires c =
    let so = rw c.in-Some.ensures.steps at c.lines.invariant in
    (uses_split (names_of (lines_in c.args.draft.now)) (seen c.in-Some.line) (lines_at c.next.new.self) c.lines.left.now _ c.used_count.ensures so.uses).2

pub add_line-requires-clause-signals : goal.add_line-requires-clause-signals
add_line-requires-clause-signals c =
    let so = rw c.in-Some.ensures.steps at c.lines.invariant in
    omega (arith, simp (length-append, length-map) at (ap length (named so.made)), names_length (lines_in c.args.draft.now), ap length c.requires.whole.drives, c.requires.whole.few_signals)

pub add_line-requires-clause-blocks : goal.add_line-requires-clause-blocks
add_line-requires-clause-blocks c = omega (arith, few_memories c.lines.invariant.made, c.requires.whole.few_operands)

pub lines-preserved : goal.lines-preserved
lines-preserved c =
    let so = rw c.in-Some.ensures.steps at c.lines.invariant in
    let uses = uses_split (names_of (lines_in c.args.draft.now)) (seen c.in-Some.line) (lines_at c.next.new.self) c.lines.left.now _ c.used_count.ensures so.uses in
    rw c.in_ok-add_line.ensures (record {
      made = making_more so.made _ (subst AreOnce (sym c.requires.whole.drives) c.requires.whole.once) (c.split_at.ensures.front ∙ uses.0);
      uses = c.split_at.ensures.back ∙ uses.1;
    })

pub returns : goal.returns
unfolding other_signals
returns c = let so = rw c.in-None.ensures.steps.0 at c.lines.invariant.made in simp append-nil at so.whole
