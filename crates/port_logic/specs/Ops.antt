-- Tasks laid flat. A gate whose third and fourth operands are constants may be known by less than its table, and any
-- other gate says what its table is known as. Who keeps values says what that is: `is_pair` and `is_form`.
use Rattle.std.specs.Prelude.{◌≡◌, ℕ, List, length, Option, Some, None, slice_get}
use Rattle.logic_four.specs.declared.V4.{V4}
use Rattle.func_table.specs.declared.table.Table.{Table}
use Rattle.image_defs.specs.declared.image.{Source.Source, Source.TheVariants.Const, Task.Task, Task.TheVariants.Eval, Task.TheVariants.Hold}
use Rattle.port_bank.specs.{Flat.operand_of, declared.steps.Operand.Operand}
use Rattle.port_logic.specs.declared.op.Op.{Op, TheVariants.Pair, TheVariants.Look, TheVariants.Keep}

-- it is what this table is known as, if there is one
abbrev pub IsFormIn : {F : Type 0} → (Table → F → Type 0) → Option Table → F → Type 0
IsFormIn is_form None form = Unit {0}
IsFormIn is_form (Some table) form = is_form table form

-- operands x and y are the first two of a gate by this table whose third and fourth are constants, and the gate is known
-- as this
pub record IsPairOf {P : Type 0} (is_pair : Table → V4 → V4 → P → Type 0) (slots : ℕ) (tables : List Table) (table : ℕ) (a b c d : Source) (pair : P) (x y : Operand) : Type 0 where
  pub third : V4
  pub fourth : V4
  pub c_is : c ≡ Const third
  pub d_is : d ≡ Const fourth
  pub read : Table
  pub there : slice_get tables table ≡ Some read
  pub known : is_pair read third fourth pair
  pub x_is : x ≡ operand_of slots a
  pub y_is : y ≡ operand_of slots b

-- a gate by places
abbrev pub IsGate : {P F : Type 0} → (Table → V4 → V4 → P → Type 0) → (Table → F → Type 0) → ℕ → List Table → ℕ → Source → Source → Source → Source → Op P F → Type 0
IsGate is_pair is_form slots tables table a b c d (Pair pair x y) = IsPairOf is_pair slots tables table a b c d pair x y
IsGate is_pair is_form slots tables table a b c d (Look form number x y z w) =
    IsFormIn is_form (slice_get tables table) form × (number ≡ table) × (x ≡ operand_of slots a) × (y ≡ operand_of slots b) × (z ≡ operand_of slots c) × (w ≡ operand_of slots d)
IsGate is_pair is_form slots tables table a b c d (Keep from) = ⊥

-- a register by places
abbrev pub IsRegister : {P F : Type 0} → ℕ → Source → Op P F → Type 0
IsRegister slots source (Pair pair x y) = ⊥
IsRegister slots source (Look form number x y z w) = ⊥
IsRegister slots source (Keep from) = from ≡ operand_of slots source

-- a task by places
abbrev pub IsOp : {P F : Type 0} → (Table → V4 → V4 → P → Type 0) → (Table → F → Type 0) → ℕ → List Table → Task → Op P F → Type 0
IsOp is_pair is_form slots tables (Eval slot table a b c d) op = IsGate is_pair is_form slots tables table a b c d op
IsOp is_pair is_form slots tables (Hold slot from) op = IsRegister slots from op

-- the first n tasks by places
pub record AreOpsOf {P F : Type 0} (is_pair : Table → V4 → V4 → P → Type 0) (is_form : Table → F → Type 0) (slots : ℕ) (tables : List Table) (tasks : List Task) (n : ℕ) (ops : List (Op P F)) : Type 0 where
  pub long : length ops ≡ n
  pub each : (i : ℕ) (task : Task) (op : Op P F) → slice_get tasks i ≡ Some task → slice_get ops i ≡ Some op → IsOp is_pair is_form slots tables task op

-- all tasks by places
abbrev pub AreOps : {P F : Type 0} → (Table → V4 → V4 → P → Type 0) → (Table → F → Type 0) → ℕ → List Table → List Task → List (Op P F) → Type 0
AreOps is_pair is_form slots tables tasks ops = AreOpsOf is_pair is_form slots tables tasks (length tasks) ops
