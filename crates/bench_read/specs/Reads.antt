-- Which netlist a text reads as.
use Rattle.std.specs.Prelude.{◌≡◌, ℕ, ◌≤◌, true, List, length, None, All, count_by, bytes_eq}
use Rattle.std.specs.List.{list_any}
use Rattle.limits.specs.declared.TheConstants.{MAX_OPERANDS, MAX_SIGNALS}
use Rattle.bench_text.specs.{Tokens.first_fault as byte_fault, Rows.rows_of}
use Rattle.net_defs.specs.declared.netlist.Netlist.{Netlist}
use Rattle.bench_read.specs.Lines.{Line, all_driven, all_used, operand_count}
use Rattle.bench_read.specs.{Saying.Say, Netlists.netlist_of}

-- no name stands twice
abbrev pub AreOnce : List (List ℕ) → Type 0
AreOnce names = (name : List ℕ) → count_by (bytes_eq name) names ≤ 1

-- each of these names is one of those
abbrev pub AreAmong : List (List ℕ) → List (List ℕ) → Type 0
AreAmong those names = All (λ name. list_any (bytes_eq name) those ≡ true) names

-- lines that can make a netlist: no name is driven twice, each use is driven, and there are not too many
-- signals or operands
pub record AreSound (lines : List Line) : Type 0 where
  pub once : AreOnce (all_driven lines)
  pub few_signals : length (all_driven lines) ≤ MAX_SIGNALS
  pub few_operands : operand_count lines ≤ MAX_OPERANDS
  pub driven : AreAmong (all_driven lines) (all_used lines)

-- The text reads as the netlist: no byte is bad and no name too long, each row of it says a line, the
-- lines are sound, and the netlist is theirs.
pub record Reads (text : List ℕ) (net : Netlist) : Type 0 where
  pub lines : List Line
  pub bytes : byte_fault text ≡ None
  pub said : Say (rows_of text) lines
  pub sound : AreSound lines
  pub netlist : net ≡ netlist_of lines
