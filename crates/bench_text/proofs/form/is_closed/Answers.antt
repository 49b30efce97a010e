use Rattle.std.proofs.Common.{ap, ◌∙◌}
use Rattle.bench_text.specs.Decoding.{option_no_more}
use Rattle.bench_text.proofs.form.is_closed.Goals as goal

pub returns-in-Some : goal.returns-in-Some
returns-in-Some c = c.no_more.ensures ∙ ap option_no_more c.in-Some.ensures
