use Rattle.std.proofs.Common.{ap, ◌∙◌}
use Rattle.std.specs.Option.{option_and_then}
use Rattle.limits.specs.declared.TheConstants.{MAX_REPEAT}
use Rattle.text_lines.specs.Numbers.{number_of, within}
use Rattle.stim_text.specs.Repeats.{number_in}
use Rattle.stim_text.proofs.repeat.repeat_in.Goals as goal

pub returns-in-Some : goal.returns-in-Some
unfolding number_in
returns-in-Some c = c.number_within.ensures ∙ ap (λ word. within 1 MAX_REPEAT (option_and_then number_of word)) c.in-Some.ensures
