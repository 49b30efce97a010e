use Rattle.std.proofs.Common.{◌≡◌, ◌≢◌, ◌/◌, ◌%◌, ◌<◌, ℕ, slice_index}
use Rattle.logic_four.specs.Packed.{code_in}
use Rattle.logic_four.proofs.lemmas.PackedLemmas.{value-set_same, value-set_other}
use Rattle.array_cells.proofs.sheet.Sheet.put.Goals as goal

pub returns-clause-here : goal.returns-clause-here
returns-clause-here c =
    rw c.set_word.ensures (value-set_same c.args.self.now c.args.place c.with_value.result c.args.v c.requires c.with_value.ensures.here)

pub returns-clause-others : goal.returns-clause-others
returns-clause-others c = λ other apart.
    let others : (k : ℕ) → k < 32 → k ≢ c.args.place % 32 → code_in c.with_value.result k ≡ code_in (slice_index c.args.self.now (c.args.place / 32)) k =
    rw c.word-word.ensures at c.with_value.ensures.others in
    rw c.set_word.ensures (value-set_other c.args.self.now c.args.place c.with_value.result other c.requires others apart)
