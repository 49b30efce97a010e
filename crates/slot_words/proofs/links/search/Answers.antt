use Rattle.std.proofs.{Common.arith, lemmas.Option.slice_get_within}
use Rattle.slot_words.proofs.LinkLemmas.{not_next, slot_here}
use Rattle.slot_words.proofs.links.search.Goals as goal

pub links-init : goal.links-init
links-init c = λ k less has. absurd (omega arith)

pub returns-then-links-k : goal.returns-then-links-k
returns-then-links-k c = slot_here c.args.links.now c.args.slot c.links.k _ c.links-test.true c.if-links-k.true

pub links-preserved : goal.links-preserved
links-preserved c = not_next c.args.links.now c.args.slot c.links.k _ c.links.invariant c.if-links-k.false

pub unreachable-requires : goal.unreachable-requires
unreachable-requires c =
    let inside = slice_get_within c.args.links.now c.requires.0 c.requires.1.link c.requires.1.is in
    let over = c.links-test.false in
    c.links.invariant c.requires.0 (omega arith) c.requires.1
