use Rattle.std.proofs.Common.{◌≡◌, ◌++◌, take}
use Rattle.std.specs.List.{flat_map}
use Rattle.image_lines.specs.Words.{line_text}
use Rattle.image_lines.specs.declared.line.Line.TheVariants as line
use Rattle.image_file.proofs.writing.push_blocks.Given as goal

abbrev pub invariant-loop-block : goal.invariant-loop-block
invariant-loop-block l = l.text ≡ l.fn.text ++ flat_map (λ block. line_text (line.Block block)) (take l.block-index l.blocks)
