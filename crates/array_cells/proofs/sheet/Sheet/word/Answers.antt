use Rattle.std.proofs.Common.{arith}
use Rattle.array_cells.proofs.SheetLemmas.{kept_at, seen_word, unseen_word}
use Rattle.array_cells.proofs.sheet.Sheet.word.Goals as goal

pub index-requires : goal.index-requires
index-requires c =
    let kept = kept_at c.self.inside c.args.self.now c.args.k c.self.invariant c.self.view_is c.requires in
    omega (arith, kept.number, c.self.inside.seen.ok.0)

pub index-requires-then-index-self : goal.index-requires-then-index-self
index-requires-then-index-self c =
    let kept = kept_at c.self.inside c.args.self.now c.args.k c.self.invariant c.self.view_is c.requires in
    omega (arith, kept.word, c.self.inside.words.ok.0)

pub returns-then-index-self : goal.returns-then-index-self
returns-then-index-self c =
    let kept = kept_at c.self.inside c.args.self.now c.args.k c.self.invariant c.self.view_is c.requires in
    seen_word c.self.inside c.args.self.now c.args.k c.index.result.now c.index-then-index-self.result.now
    kept c.self.view_is c.index.ensures c.if-index-self.true c.index-then-index-self.ensures

pub returns-else-index-self : goal.returns-else-index-self
returns-else-index-self c =
    let kept = kept_at c.self.inside c.args.self.now c.args.k c.self.invariant c.self.view_is c.requires in
    unseen_word c.self.inside c.args.self.now c.args.k c.index.result.now kept c.self.view_is c.index.ensures c.if-index-self.false
