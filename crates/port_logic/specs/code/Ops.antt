-- Beside specs/Ops.antt, what only private functions and proofs cite.
use Rattle.std.specs.Prelude.{◌≡◌, ℕ, ◌*◌, ◌<◌, List, length, Some, slice_get}
use Rattle.func_table.specs.declared.table.Table.{Table}
use Rattle.image_defs.specs.declared.image.{Task.Task, Task.TheVariants.Eval, Task.TheVariants.Hold, Source.Source}
use Rattle.port_bank.specs.Flat.{operand_of, IsWithin}
use Rattle.port_logic.specs.{declared.op.Op.Op, declared.op.Op.TheVariants.Pair, declared.op.Op.TheVariants.Look, declared.op.Op.TheVariants.Keep, Ops.IsFormIn}

-- what each of the first n tables is known as
pub record AreFormsOf {F : Type 0} (is_form : Table → F → Type 0) (tables : List Table) (n : ℕ) (forms : List F) : Type 0 where
  pub long : length forms ≡ n
  pub each : (i : ℕ) (form : F) → slice_get forms i ≡ Some form → IsFormIn is_form (slice_get tables i) form

-- what each of the tables is known as
abbrev pub AreForms : {F : Type 0} → (Table → F → Type 0) → List Table → List F → Type 0
AreForms is_form tables forms = AreFormsOf is_form tables (length tables) forms

-- all four operands of a gate by this table, whatever the table is
abbrev pub IsLookOf : {P F : Type 0} → ℕ → F → ℕ → Source → Source → Source → Source → Op P F → Type 0
IsLookOf slots form table a b c d op = op ≡ Look form table (operand_of slots a) (operand_of slots b) (operand_of slots c) (operand_of slots d)

-- a task names only slots, and a table, that there are
abbrev pub IsTaskWithin : ℕ → Task → Type 0
IsTaskWithin slots (Eval slot table a b c d) = IsWithin slots a × IsWithin slots b × IsWithin slots c × IsWithin slots d
IsTaskWithin slots (Hold slot from) = IsWithin slots from

abbrev pub IsTabled : ℕ → Task → Type 0
IsTabled tables (Eval slot table a b c d) = table < tables
IsTabled tables (Hold slot from) = Unit {0}

-- it names only tables and places that there are, and its table is known as it says
abbrev pub FitsOp : {P F : Type 0} → (Table → F → Type 0) → List Table → ℕ → Op P F → Type 0
FitsOp is_form tables places (Pair pair a b) = (a.number < 2 * places) × (b.number < 2 * places)
FitsOp is_form tables places (Look form table a b c d) =
    (table < length tables) × IsFormIn is_form (slice_get tables table) form
    × (a.number < 2 * places) × (b.number < 2 * places) × (c.number < 2 * places) × (d.number < 2 * places)
FitsOp is_form tables places (Keep from) = from.number < 2 * places
