use Rattle.std.proofs.Common.{◌≡◌, ◌++◌, take}
use Rattle.std.specs.List.{flat_map}
use Rattle.image_lines.specs.{Words.hex_digits, code.Words.spaced}
use Rattle.image_lines.proofs.writing.push_words.Given as goal

abbrev pub invariant-loop-word : goal.invariant-loop-word
invariant-loop-word l = l.text ≡ l.fn.text ++ flat_map (λ word. spaced (hex_digits 16 word)) (take l.word-index l.words)
