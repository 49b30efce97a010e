use Rattle.std.proofs.Common.{set, ap, ◌∙◌, arith}
use Rattle.array_cells.proofs.SheetLemmas.{kept_at, words_after-set}
use Rattle.array_cells.proofs.sheet.Sheet.set_word.Goals as goal

pub index_mut-requires : goal.index_mut-requires
index_mut-requires c =
    let kept = kept_at c.self.inside c.args.self.now c.args.k c.self.invariant c.self.view_is c.requires in
    omega (arith, kept.word, c.self.inside.words.ok.0)

pub index_mut-requires-2 : goal.index_mut-requires-2
index_mut-requires-2 c =
    let kept = kept_at c.self.inside c.args.self.now c.args.k c.self.invariant c.self.view_is c.requires in
    omega (arith, kept.number, c.self.inside.seen.ok.0)

pub returns : goal.returns
returns c =
    let kept = kept_at c.self.inside c.args.self.now c.args.k c.self.invariant c.self.view_is c.requires in
    words_after-set c.self.inside.words.items c.self.inside.seen.items c.self.inside.clearings
    c.args.k c.args.word c.self.invariant.count kept.word
    ∙ ap (λ words. set words c.args.k c.args.word) c.self.view_is
