use Rattle.std.proofs.Common.{sym, ◌∙◌}
use Rattle.text_lines.specs.Bytes.{is_blank}
use Rattle.text_lines.proofs.WordLemmas.{before_first-none}
use Rattle.text_lines.proofs.words.split_at_blank.Goals as goal

pub returns-in-None-clause-before : goal.returns-in-None-clause-before
returns-in-None-clause-before c = before_first-none is_blank c.args.part.now (sym c.first_blank.ensures ∙ c.in-None.is)
