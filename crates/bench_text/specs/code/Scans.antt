-- Where a scan of a text stands just before a place, and what it finds there.
use Rattle.std.specs.Prelude.{◌≡◌, ℕ, zero, suc, ◌+◌, ◌<◌, ◌≤◌, Bool, false, ◌==◌, ◌||◌, List, length, slice_index, nat_lt, Option, Some, None, if◌then◌else◌}
use Rattle.limits.specs.declared.TheConstants.{MAX_NAME_BYTES}
use Rattle.text_lines.specs.Places.{stays_in_comment, is_comment, line_at, column_at}
use Rattle.text_lines.specs.{Bytes.is_line_feed, Names.is_name_byte}
use Rattle.bench_text.specs.declared.class.Class.TheVariants.{Name, Sign, Return, Bad}
use Rattle.bench_text.specs.declared.{scan.Scan.Scan, class.Class.Class, token.Token.Token, token.TextNo.TextNo}
use Rattle.bench_text.specs.declared.token.TextNo.TheVariants.{BadByte, LongName}
use Rattle.bench_text.specs.Tokens.{follows_name, name_length, fault_at}
use Rattle.bench_text.specs.declared.token.Mark.TheVariants as mark

-- whether the byte just before a place is inside a comment
abbrev pub follows_comment : List ℕ → ℕ → Bool
follows_comment text zero = false
follows_comment text (suc i) = is_comment text i

abbrev pub scan_at : List ℕ → ℕ → Scan
scan_at text i = record {
  line = line_at text i;
  column = column_at text i;
  in_comment = follows_comment text i;
  in_name = follows_name text i;
}

-- one byte on
abbrev pub scan_after : Scan → ℕ → Scan
scan_after scan byte = record {
  line = if is_line_feed byte then scan.line + 1 else scan.line;
  column = if is_line_feed byte then 1 else scan.column + 1;
  in_comment = stays_in_comment scan.in_comment byte;
  in_name = is_name_byte byte;
}

-- bytes of a text that have no fault, and where a scan stands behind them
pub record HasPassed (text : List ℕ) (i n : ℕ) (next : Scan) : Type 0 where
  pub some : 0 < n
  pub within : i + n ≤ length text
  pub no_fault : (k : ℕ) → i ≤ k → k < i + n → fault_at text k ≡ None
  pub next_is : next ≡ scan_at text (i + n)

-- whether LF or the end of the text comes just after a place
abbrev pub ends_line_after : List ℕ → ℕ → Bool
ends_line_after text i = length text == i + 1 || is_line_feed (slice_index text (i + 1))

-- the fault where a scan stands before so many bytes of a name
abbrev pub fault_of_name : Scan → ℕ → Option TextNo
fault_of_name scan length =
    if scan.in_name || scan.in_comment then None
    else if nat_lt MAX_NAME_BYTES length then Some (LongName scan.line)
    else None

-- the fault of a place, by the class of the byte there
abbrev pub fault_by : List ℕ → ℕ → Scan → Class → Option TextNo
fault_by text i scan Name = fault_of_name scan (name_length text i)
fault_by text i scan Return =
    if scan.in_comment then None else if ends_line_after text i then None else Some (BadByte scan.line scan.column)
fault_by text i scan Bad = if scan.in_comment then None else Some (BadByte scan.line scan.column)
fault_by text i scan class = None

-- the token that begins at a place outside comments, by the class of the byte there
abbrev pub token_outside : List ℕ → ℕ → Scan → Class → Option Token
token_outside text i scan Name =
    if scan.in_name then None
    else Some (record { mark = mark.Name; from = i; upto = i + name_length text i; line = scan.line })
token_outside text i scan (Sign mark) = Some (record { mark = mark; from = i; upto = i + 1; line = scan.line })
token_outside text i scan class = None

abbrev pub token_by : List ℕ → ℕ → Scan → Class → Option Token
token_by text i scan class = if scan.in_comment then None else token_outside text i scan class
