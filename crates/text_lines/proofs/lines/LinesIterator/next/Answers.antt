use Rattle.std.proofs.Common.{◌≡◌, ◌+◌, ◌∷◌, length, sym, ap, ◌∙◌, rules}
use Rattle.std.proofs.lemmas.List.{nil_from_length}
use Rattle.std.specs.List.{enumerate_from}
use Rattle.text_lines.specs.Lines.{parts_of}
use Rattle.text_lines.proofs.lemmas.LineLemmas.{parts_of-nil, parts_of_first}
use Rattle.text_lines.proofs.lines.LinesIterator.next.Goals as goal

pub returns-then-is_empty-clause-steps : goal.returns-then-is_empty-clause-steps
returns-then-is_empty-clause-steps c =
    let none = sym c.self.view_is ∙ ap (λ rest. enumerate_from (c.self.inside.passed + 1) (parts_of rest)) (nil_from_length _ (search rules)) ∙ ap (enumerate_from (c.self.inside.passed + 1)) parts_of-nil in
    (none, none)

first_line : (c : goal.After-before_comment) → c.args.self.now ≡ (c.self.inside.passed + 1, c.before_comment.result.now) ∷ enumerate_from (c.self.inside.passed + 1 + 1) (parts_of c.split_line.result.1.now)
first_line c =
    let passed = c.self.inside.passed in
    let rest = c.split_line.result.1.now in
    sym c.self.view_is
    ∙ ap (enumerate_from (passed + 1)) (parts_of_first c.self.inside.rest.now c.split_line.result.0.now rest c.split_line.ensures.lines)
    ∙ ap (λ part. (passed + 1, part) ∷ enumerate_from (passed + 1 + 1) (parts_of rest)) (sym c.before_comment.ensures)

pub returns-clause-steps : goal.returns-clause-steps
returns-clause-steps c = first_line c

pub returns-clause-goes : goal.returns-clause-goes
returns-clause-goes c =
    let shorter = ap length (first_line c) in
    search rules
