-- The draft of a text.
use Rattle.std.proofs.Common.{◌≡◌, ℕ, List, [], ◌∷◌, ◌++◌, append_assoc, append-nil, length, length-append, map, None, sym, ap, ◌∙◌, refl, arith, ◌+◌}
use Rattle.std.proofs.lemmas.List.{take_at, drop_at, length-map, map-append}
use Rattle.std.proofs.lemmas.List.Elements.{filter-append}
use Rattle.bench_read.proofs.Common.{Row, row_of, is_some, rows_of, rows_in, Placed, lines_at, placed_of, each_named, lines_by, option_or, flat_map-append, Act}
use Rattle.bench_read.proofs.RowLemmas.{names_driven, rows_none, drivers_push, operands_push, placed_push, rows_push}
use Rattle.bench_read.proofs.TwiceLemmas.{names_in, names_same}
use Rattle.bench_read.specs.Lines.{Line, Gate, Memory, driven, used, all_driven, all_used, operands}
use Rattle.bench_read.specs.Faults.{rows_fault, twice_fault, limit_fault, many_fault, line_fault}
use Rattle.bench_read.specs.code.Drafting.{driven_names, placed_in, IsDraftOf, used_names}
use Rattle.bench_read.specs.code.Storing.{act_of, statement_of, Stores, operands_by, named_by, names_by, IsFound}
use Rattle.bench_read.specs.declared.draft.{Draft.Draft, Statement.Statement}

operands_same : (line : Line) → operands_by (act_of line) ≡ length (operands line)
operands_same (Memory outs enable address words) = omega (arith, length-append address words)
operands_same line = refl

-- ---- a draft that stores one more row

module _ (rows : List Row) (row : Row) (none : rows_fault rows ≡ None) (old : Draft) (which : Act) (driven_names new_uses : List (List ℕ))
    (stores : Stores old (placed_of rows)) (found : IsFound row which driven_names (used_names old) new_uses) where
  -- a name is driven twice, or there are too many
  pub fault_is : rows_fault (rows ++ row ∷ []) ≡ option_or (twice_fault (map named_by old.drivers) (each_named row.at driven_names))
      (limit_fault row.at (length (map named_by old.drivers ++ each_named row.at driven_names)) (old.operands + operands_by which))
  unfolding line_fault many_fault
  fault_is =
      rw (rows_push, none, found.says, ← names_driven, length-map, drivers_push, operands_push)
      (rw (← stores.drivers, ← found.drives, ← stores.operands, ← operands_same found.line, ← found.does) refl)

  pub stores_more : (new : Draft) → map named_by new.drivers ≡ map named_by old.drivers ++ each_named row.at driven_names → new.operands ≡ old.operands + operands_by which
      → new.statements ≡ old.statements ++ record { act = which; at = row.at } ∷ [] → used_names new ≡ new_uses → new.names ≡ names_by new.drivers → Stores new (placed_of (rows ++ row ∷ []))
  unfolding all_used
  stores_more new drivers operands statements uses names = rw (placed_push rows row found.line found.says) (record {
    statements = rw (statements, stores.statements, found.does, map-append) refl;
    drivers = rw (drivers, stores.drivers, found.drives, drivers_push) refl;
    uses = rw (uses, found.uses, stores.uses) (simp (map-append, flat_map-append, append-nil) refl);
    names = names;
    operands = rw (operands, stores.operands, found.does, operands_same found.line, operands_push) refl;
  })

-- ---- what a draft stores is in it

-- a line by its act and its names, before the lines that follow
line_back : (at : ℕ) (line : Line) (statements : List Statement) (ds us : List (List ℕ)) (rest : List Placed) → lines_by statements ds us ≡ rest
    → lines_by (record { act = act_of line; at = at } ∷ statements) (driven line ++ ds) (used line ++ us) ≡ record { at = at; line = line } ∷ rest
unfolding lines_by
line_back at (Gate name kind uses) statements ds us rest is = rw (take_at uses us (length uses) refl, drop_at uses us (length uses) refl, is) refl
line_back at (Memory outs enable address words) statements ds us rest is =
    grind (arith, take_at, drop_at, append_assoc, length-append, is)
line_back at line statements ds us rest is = rw is refl

lines_back : (lines : List Placed) → lines_by (map statement_of lines) (all_driven (lines_at lines)) (all_used (lines_at lines)) ≡ lines
unfolding all_driven all_used lines_by
lines_back [] = refl
lines_back (placed ∷ lines) = line_back placed.at placed.line _ _ _ lines (lines_back lines)

-- ---- line by line

-- the lines but those that are left gave rows without a fault, which the draft stores
pub record HasRead (text : List ℕ) (left : List (ℕ × List ℕ)) (draft : Draft) : Type 0 where
  pub done : List Row
  pub rows : rows_of text ≡ done ++ rows_in left
  pub no_fault : rows_fault done ≡ None
  pub stores : Stores draft (placed_of done)

-- the rows with those of the next line
pub seam : (text : List ℕ) (now left : List (ℕ × List ℕ)) (draft : Draft) (line : ℕ × List ℕ) (read : HasRead text now draft) → now ≡ line ∷ left
    → rows_of text ≡ (read.done ++ rows_in (line ∷ [])) ++ rows_in left
seam text now left draft line read next = rw (read.rows, next, append_assoc, sym (filter-append is_some (row_of line ∷ []) (map row_of left))) refl

pub read_all : (text : List ℕ) (left : List (ℕ × List ℕ)) (draft : Draft) → HasRead text left draft → left ≡ [] → (rows_fault (rows_of text) ≡ None) × IsDraftOf (rows_of text) draft
read_all text left draft read over =
    let lines = placed_of read.done in
    let fine = ((rows_none read.done).0 read.no_fault).1 in
    let stores = read.stores in
    let driven : driven_names draft ≡ all_driven (lines_at lines) = sym (names_same draft.drivers) ∙ ap names_in stores.drivers ∙ names_driven lines in
    let placed : placed_in draft ≡ lines = rw (stores.statements, driven, stores.uses) (lines_back lines) in
    rw (read.rows, over, append-nil) (
      read.no_fault,
      record {
        whole = record {
          drives = rw (placed, driven) refl;
          uses = rw (placed, stores.uses) refl;
          names = stores.names;
          once = rw driven fine.0;
          few_signals = rw driven fine.1.0;
          few_operands = rw placed fine.1.1;
        };
        said = placed;
      },
    )
