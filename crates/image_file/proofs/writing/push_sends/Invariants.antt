use Rattle.std.proofs.Common.{◌≡◌, ◌++◌, take}
use Rattle.std.specs.List.{flat_map}
use Rattle.image_lines.specs.Words.{line_text}
use Rattle.image_lines.specs.declared.line.Line.TheVariants as line
use Rattle.image_file.proofs.writing.push_sends.Given as goal

abbrev pub invariant-loop-link : goal.invariant-loop-link
invariant-loop-link l = l.text ≡ l.fn.text ++ flat_map (λ link. line_text (line.Send link)) (take l.link-index l.outs)
