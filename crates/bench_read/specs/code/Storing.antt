-- How a draft stores lines.
use Rattle.std.specs.Prelude.{◌≡◌, ℕ, ◌+◌, List, [], ◌∷◌, ◌++◌, map, length, ◌==◌, codes, Option, Some, None, Result, Ok, Err, if◌then◌else◌}
use Rattle.logic_four.specs.{declared.Kind.Kind, Kinds.kind_of, Kinds.allows_operands}
use Rattle.bench_text.specs.{Rows.Row, declared.form.Head.Head}
use Rattle.bench_text.specs.declared.form.Head.TheVariants as head
use Rattle.bench_read.specs.Lines.{Line, driven, used, all_used, operand_count}
use Rattle.bench_read.specs.declared.refusal.BenchNo.{BenchNo, TheVariants.Syntax, TheVariants.UnknownKind, TheVariants.Arity}
use Rattle.bench_read.specs.declared.draft.{Act.Act, Statement.Statement, DrivenName.DrivenName, Draft.Draft}
use Rattle.bench_read.specs.{Saying.is_word, Saying.allows_memory, Saying.said, Placed.Placed, Placed.Named, Placed.drivers_of, code.Placed.lines_at}
use Rattle.bench_read.specs.code.Drafting.{used_names}
use Rattle.bench_read.specs.declared.draft.Act.TheVariants as act
use Rattle.bench_read.specs.Lines as lines

-- ---- what a line does

-- what a line of the form of inputs and outputs does, by its word
abbrev pub act_by_port : ℕ → List ℕ → Result Act BenchNo
act_by_port at word =
    if is_word (codes "INPUT") word then Ok act.Input
    else if is_word (codes "OUTPUT") word then Ok act.Output
    else Err (Syntax at)

-- what a line of the gate form does, by the kind that its word names and the number of the names that it uses
abbrev pub act_by_kind : ℕ → ℕ → Option Kind → Result Act BenchNo
act_by_kind at uses None = Err (UnknownKind at)
act_by_kind at uses (Some kind) = if allows_operands kind uses then Ok (act.Gate kind uses) else Err (Arity at)

abbrev pub act_by_gate : ℕ → List ℕ → ℕ → Result Act BenchNo
act_by_gate at word uses =
    if is_word (codes "DFF") word then (if uses == 1 then Ok act.Register else Err (Arity at))
    else act_by_kind at uses (kind_of word)

-- what a line of the memory form does, by the numbers of its names
abbrev pub act_by_memory : ℕ → List ℕ → ℕ → ℕ → ℕ → Result Act BenchNo
act_by_memory at word outs address words =
    if is_word (codes "RAM") word
    then (if allows_memory address words outs then Ok (act.Memory outs address words) else Err (Arity at))
    else Err (UnknownKind at)

-- what a line with this head does, or its fault
abbrev pub act_by_head : ℕ → Head → Result Act BenchNo
act_by_head at (head.Port word name) = act_by_port at word.now
act_by_head at (head.Gate name word uses) = act_by_gate at word.now uses
act_by_head at (head.Memory word outs address words) = act_by_memory at word.now outs address words

-- what a line does
abbrev pub act_of : Line → Act
act_of (lines.Input name) = act.Input
act_of (lines.Output name) = act.Output
act_of (lines.Gate name kind uses) = act.Gate kind (length uses)
act_of (lines.Register name use_) = act.Register
act_of (lines.Memory outs enable address words) = act.Memory (length outs) (length address) (length words)

-- the name of a port or gate
abbrev pub name_in : Head → List ℕ
name_in (head.Port word name) = name.now
name_in (head.Gate name word uses) = name.now
name_in (head.Memory word outs address words) = []

-- of its one name and the names in its square brackets, those that a line drives
abbrev pub driven_by : {X : Type 0} → Act → List X → List X → List X
driven_by act.Input one outs = one
driven_by act.Output one outs = []
driven_by (act.Gate kind uses) one outs = one
driven_by act.Register one outs = one
driven_by (act.Memory count address words) one outs = outs

-- the name that an output line uses
abbrev pub printed_by : Act → List ℕ → List (List ℕ)
printed_by act.Input name = []
printed_by act.Output name = name ∷ []
printed_by (act.Gate kind uses) name = []
printed_by act.Register name = []
printed_by (act.Memory count address words) name = []

-- how many operands a line has
abbrev pub operands_by : Act → ℕ
operands_by act.Input = 0
operands_by act.Output = 0
operands_by (act.Gate kind uses) = uses
operands_by act.Register = 1
operands_by (act.Memory outs address words) = 1 + (address + words)

-- a row says a line that does this, drives these names and uses those that were added to a list
pub record IsFound (row : Row) (act : Act) (driven_names old_uses new_uses : List (List ℕ)) : Type 0 where
  pub line : Line
  pub says : said row ≡ Ok line
  pub does : act ≡ act_of line
  pub drives : driven_names ≡ driven line
  pub uses : new_uses ≡ old_uses ++ used line

-- ---- drafts

abbrev pub named_by : DrivenName → Named
named_by driver = record { at = driver.at; name = driver.name.now }

abbrev pub names_by : List DrivenName → List (List ℕ)
names_by drivers = map (λ driver. driver.name.now) drivers

abbrev pub statement_of : Placed → Statement
statement_of placed = record { act = act_of placed.line; at = placed.at }

-- the draft stores these lines
pub record Stores (draft : Draft) (lines : List Placed) : Type 0 where
  pub statements : draft.statements ≡ map statement_of lines
  pub drivers : map named_by draft.drivers ≡ drivers_of lines
  pub uses : used_names draft ≡ all_used (lines_at lines)
  pub names : draft.names ≡ names_by draft.drivers
  pub operands : draft.operands ≡ operand_count (lines_at lines)
