use Rattle.image_lines.proofs.lemmas.LawLemmas.{read_again, read_only}
use Rattle.image_lines.proofs.law.lines_read_back.Goals as goal

pub returns-clause-again : goal.returns-clause-again
returns-clause-again c = read_again

pub returns-clause-only : goal.returns-clause-only
returns-clause-only c = read_only
