use Rattle.std.proofs.Common.{◌≡◌, ◌++◌, take}
use Rattle.std.specs.List.{flat_map}
use Rattle.help_text.specs.Texts.{entry}
use Rattle.help_text.proofs.text.push_entries.Given as goal

abbrev pub invariant-topics : goal.invariant-topics
invariant-topics l = l.text ≡ l.fn.text ++ flat_map entry (take l.topic-index l.topics)
