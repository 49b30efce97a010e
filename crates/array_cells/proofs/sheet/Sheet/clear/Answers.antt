use Rattle.std.proofs.Common.{◌≡◌, length, replicate, rules, sym, ap, ◌∙◌}
use Rattle.std.proofs.lemmas.List.{length-replicate}
use Rattle.array_cells.specs.{code.Sheets.words_after, declared.sheet.TheConstants.BLANK}
use Rattle.array_cells.proofs.SheetLemmas.{as_many, words_after-cleared, words_after-seen}
use Rattle.array_cells.proofs.sheet.Sheet.clear.Goals as goal

pub returns-then-self : goal.returns-then-self
returns-then-self c =
    let words : c.fill.new.self.items ≡ replicate (length c.self.inside.words.items) BLANK = search rules in
    let seen : c.fill-then-self.new.self.items ≡ replicate (length c.self.inside.seen.items) 0 = search rules in
    let count : length c.fill.new.self.items ≡ length c.self.inside.seen.items =
    ap length words ∙ length-replicate (length c.self.inside.words.items) BLANK ∙ sym c.self.invariant.count in
    ap (λ numbers. words_after c.fill.new.self.items numbers 0) seen
    ∙ words_after-seen c.fill.new.self.items (length c.self.inside.seen.items) 0 count
    ∙ words
    ∙ ap (λ n. replicate n BLANK) (as_many c.self.inside c.args.self.now c.self.view_is)

pub returns-else-self : goal.returns-else-self
returns-else-self c =
    words_after-cleared c.self.inside.words.items c.self.inside.seen.items c.self.inside.clearings c.self.invariant
    ∙ ap (λ n. replicate n BLANK) (as_many c.self.inside c.args.self.now c.self.view_is)
