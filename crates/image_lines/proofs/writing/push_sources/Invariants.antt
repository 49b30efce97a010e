use Rattle.std.proofs.Common.{◌≡◌, ◌++◌, take}
use Rattle.std.specs.List.{flat_map}
use Rattle.image_lines.specs.{Words.source_word, code.Words.spaced}
use Rattle.image_lines.proofs.writing.push_sources.Given as goal

abbrev pub invariant-loop-source : goal.invariant-loop-source
invariant-loop-source l = l.text ≡ l.fn.text ++ flat_map (λ source. spaced (source_word source)) (take l.source-index l.sources)
