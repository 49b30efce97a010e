use Rattle.image_lines.proofs.lemmas.LawLemmas.{line_lacks}
use Rattle.image_lines.proofs.law.lines_lack_line_feeds.Goals as goal

pub returns : goal.returns
returns c = line_lacks
