use Rattle.std.proofs.Common.{◌≡◌, ◌++◌, take}
use Rattle.std.specs.List.{flat_map}
use Rattle.help_text.specs.Texts.{option_line}
use Rattle.help_text.proofs.text.push_options.Given as goal

abbrev pub invariant-names : goal.invariant-names
invariant-names l = l.text ≡ l.fn.text ++ flat_map (λ name. option_line name.now) (take l.name-index l.names)
