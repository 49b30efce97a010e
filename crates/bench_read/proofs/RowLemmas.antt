-- Lines after one another, and the rows that say them.
use Rattle.std.proofs.Common.{◌≡◌, ℕ, ◌+◌, ◌≤◌, List, [], ◌∷◌, ◌++◌, append-nil, length, length-append, Some, None, Result, Ok, Err, ap, ◌∙◌, refl, arith}
use Rattle.std.proofs.lemmas.List.Elements.{All-nil, All-push, All-pop, filter_map-append}
use Rattle.std.proofs.lemmas.Bool.Decides.{nat_tests}
use Rattle.std.specs.{Prelude.◌↔◌, Prelude.All, Result.result_ok}
use Rattle.bench_read.proofs.Common.{flat_map, option_or, map-map, map-append, map-id, flat_map-append, sum_by_push, or_none, Row, BenchNo, Line, driven, used, operands, all_driven, all_used, operand_count, Says, said, twice_fault, many_fault, line_fault, said_fault, row_fault, rows_fault, AreOnce}
use Rattle.bench_read.proofs.{SaidLemmas.says_from_said, SaidLemmas.said_from_says, FirstLemmas.none_where, FirstLemmas.first_push, NameLemmas.once_front}
use Rattle.bench_read.proofs.TwiceLemmas.{names_in, twice_none}
use Rattle.limits.specs.declared.TheConstants.{MAX_OPERANDS, MAX_SIGNALS}
use Rattle.bench_read.specs.Placed.{Placed, said_at, placed_of, each_named, driven_in, drivers_of, uses_of}
use Rattle.bench_read.specs.code.Placed.{lines_at}

-- ---- lines

names_flat : (f : Line → List (List ℕ)) (placed : List Placed) → names_in (flat_map (λ p. each_named p.at (f p.line)) placed) ≡ flat_map f (lines_at placed)
names_flat f [] = refl
names_flat f (p ∷ placed) = simp (map-append, map-map, map-id, names_flat f placed) refl

-- the names of drivers and of uses
pub names_driven : (placed : List Placed) → names_in (drivers_of placed) ≡ all_driven (lines_at placed)
unfolding drivers_of all_driven
names_driven placed = names_flat driven placed

pub names_used : (placed : List Placed) → names_in (uses_of placed) ≡ all_used (lines_at placed)
unfolding uses_of all_used
names_used placed = names_flat used placed

-- the drivers with one more line
pub drivers_push : (earlier : List Placed) (placed : Placed) → drivers_of (earlier ++ placed ∷ []) ≡ drivers_of earlier ++ driven_in placed
unfolding drivers_of
drivers_push earlier placed = simp (flat_map-append, append-nil) refl

pub operands_push : (earlier : List Placed) (placed : Placed) → operand_count (lines_at (earlier ++ placed ∷ [])) ≡ operand_count (lines_at earlier) + length (operands placed.line)
unfolding operand_count
operands_push earlier placed = rw map-append (sum_by_push (λ (line : Line). length (operands line)) (lines_at earlier) placed.line)

-- lines that drive no name twice, with not too many signals or operands
abbrev pub AreFine : List Line → Type 0
AreFine lines = AreOnce (all_driven lines) × ((length (all_driven lines) ≤ MAX_SIGNALS) × (operand_count lines ≤ MAX_OPERANDS))

-- fine lines are fine with one more that has no fault after them
fine_push : (earlier : List Placed) (placed : Placed) → (AreFine (lines_at earlier) × (line_fault earlier placed ≡ None)) ↔ AreFine (lines_at (earlier ++ placed ∷ []))
unfolding line_fault many_fault
fine_push earlier placed =
    let lines = lines_at (earlier ++ placed ∷ []) in
    let front = drivers_of earlier in
    let mine = driven_in placed in
    let names : all_driven lines ≡ names_in (front ++ mine) = rw (← names_driven (earlier ++ placed ∷ []), drivers_push) refl in (
      λ old.
          let both = or_none (twice_fault front mine) _ old.1 in
          (rw names ((twice_none front mine (rw names_driven old.0.0)).0 both.0), (grind (arith, nat_tests, both.1), grind (arith, nat_tests, both.1))),
      λ fine.
          let split = names ∙ map-append (λ named. named.name) front mine in
          let once = once_front (names_in front) (names_in mine) (rw split at fine.0) in
          let signals : length (names_in front) ≤ MAX_SIGNALS = omega (arith, fine.1.0, ap length split, length-append (names_in front) (names_in mine)) in (
            rw (← names_driven earlier) (once, (signals, omega (arith, fine.1.1, operands_push earlier placed))),
            rw ((twice_none front mine once).1 (rw names at fine.0)) (grind (arith, nat_tests, fine.1.0, fine.1.1)),
          ),
    )

-- ---- rows

-- the lines with one more row that says one
pub placed_push : (rows : List Row) (row : Row) (line : Line) → said row ≡ Ok line → placed_of (rows ++ row ∷ []) ≡ placed_of rows ++ record { at = row.at; line = line } ∷ []
unfolding placed_of
placed_push rows row line says = rw (filter_map-append (λ r. result_ok (said_at r)) rows (row ∷ []), says) refl

pub rows_push : (rows : List Row) (row : Row) → rows_fault (rows ++ row ∷ []) ≡ option_or (rows_fault rows) (said_fault (placed_of rows) (said_at row))
unfolding rows_fault
rows_push rows row = first_push (λ front. row_fault (placed_of front)) rows row

abbrev pub SaysOne : Row → Type 0
SaysOne row = (line : Line) × Says row line

-- all rows say lines, and the lines are fine
abbrev pub AreSaid : List Row → Type 0
AreSaid rows = All SaysOne rows × AreFine (lines_at (placed_of rows))

none_said : AreSaid []
unfolding placed_of all_driven operand_count
none_said = (All-nil _, (λ name. omega arith, (omega arith, omega arith)))

-- rows have no fault where they say fine lines
pub rows_none : (rows : List Row) → rows_fault rows ≡ None ↔ AreSaid rows
unfolding rows_fault
rows_none = none_where (λ front. row_fault (placed_of front)) AreSaid none_said (λ rs row. more rs row (said row) refl) where
  more : (rs : List Row) (row : Row) (r : Result Line BenchNo) → said row ≡ r → (AreSaid rs × (said_fault (placed_of rs) (said_at row) ≡ None)) ↔ AreSaid (rs ++ row ∷ [])
  more rs row (Ok line) says =
      let push = fine_push (placed_of rs) (record { at = row.at; line = line }) in
      let placed = placed_push rs row line says in (
        λ old. (All-push SaysOne rs row old.0.0 (line, says_from_said row line says), rw placed (push.0 (old.0.1, rw says at old.1))),
        λ all. let old = push.1 (rw placed at all.1) in (((All-pop SaysOne _ rs (Some row) refl all.0).0, old.0), rw says old.1),
      )
  more rs row (Err fault) says = (λ old. cc old.1, λ all. let one = (All-pop SaysOne _ rs (Some row) refl all.0).1 in cc (said_from_says row one.0 one.1))
