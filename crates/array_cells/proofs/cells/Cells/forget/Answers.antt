use Rattle.std.proofs.Common.{◌≡◌, ◌*◌, ◌<◌, ℕ, length, map, ap, ◌∙◌}
use Rattle.logic_four.specs.{declared.V4.TheVariants.Undef, Memory.undefined_word, Packed.packed_value}
use Rattle.logic_four.proofs.lemmas.PackedLemmas.{codes_of_filled, value-replicate}
use Rattle.array_cells.specs.declared.sheet.TheConstants.{BLANK}
use Rattle.array_cells.proofs.WordLemmas.{words_of-forgotten}
use Rattle.array_cells.proofs.cells.Cells.forget.Goals as goal

pub returns : goal.returns
returns c =
    let all : (place : ℕ) → place < 32 * length c.self.inside.sheet → packed_value c.clear.new.self place ≡ Undef =
    λ place within. rw c.clear.ensures (value-replicate (length c.self.inside.sheet) BLANK place Undef (codes_of_filled Undef) within) in
    words_of-forgotten c.self.inside.sheet c.clear.new.self c.self.inside.words c.self.inside.word_bits c.self.invariant all
    ∙ ap (map (λ word. undefined_word (length word))) c.self.view_is
