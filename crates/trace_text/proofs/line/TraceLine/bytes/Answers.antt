use Rattle.std.proofs.Common.{ap, ◌∙◌}
use Rattle.seen_list.specs.Filling.{Filling}
use Rattle.trace_text.proofs.line.TraceLine.bytes.Goals as goal

pub returns : goal.returns
returns c = c.as_bytes.ensures ∙ ap (λ (line : Filling). line.bytes) c.self.view_is
