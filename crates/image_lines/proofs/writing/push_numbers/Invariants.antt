use Rattle.std.proofs.Common.{◌≡◌, ◌++◌, take, decimal}
use Rattle.std.specs.List.{flat_map}
use Rattle.image_lines.specs.code.Words.{spaced}
use Rattle.image_lines.proofs.writing.push_numbers.Given as goal

abbrev pub invariant-loop-number : goal.invariant-loop-number
invariant-loop-number l = l.text ≡ l.fn.text ++ flat_map (λ number. spaced (decimal number)) (take l.number-index l.numbers)
