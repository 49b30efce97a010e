use Rattle.std.proofs.Common.{◌≡◌, ◌++◌, take}
use Rattle.std.specs.List.{flat_map}
use Rattle.image_lines.specs.Words.{line_text}
use Rattle.image_lines.specs.declared.line.Line.TheVariants as line
use Rattle.image_file.proofs.writing.push_prints.Given as goal

abbrev pub invariant-loop-source : goal.invariant-loop-source
invariant-loop-source l = l.text ≡ l.fn.text ++ flat_map (λ source. line_text (line.Print source)) (take l.source-index l.printed)
