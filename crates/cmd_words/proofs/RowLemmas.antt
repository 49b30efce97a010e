-- The end of a parse of `clap`: its faults, the rows that it finds, and what stands in them.
use Rattle.std.proofs.Common.{◌≡◌, ◌&&◌, ◌||◌, Bool, true, false, not, List, [], ◌∷◌, ◌++◌, map, Option, Some, None, is_some, option_map, refl, sym, ap, ◌∙◌, cond}
use Rattle.std.proofs.lemmas.{Bool.false_from_ne_true, Bool.or_parts, Bool.or_right, Slice.Eq.bytes_eq-Decides}
use Rattle.std.specs.Prelude.{bytes_eq, find, if◌then◌else◌, unwrap_or}
use Rattle.std.specs.List.{fold, list_any}
use Rattle.clap.specs.Faults.{built_fault, check_fault, defaults_fault, entered_fault, fault_of, settle_fault, walk_fault}
use Rattle.clap.specs.Simple.{App, entered, matches_of, names_of}
use Rattle.clap.specs.Walk.{Held, Row, all_of, finished, has_row, rows_after, nothing_held, settled, stronger, walk, walk_from, with_default, with_values, without}
use Rattle.clap.specs.{Kinds.Kinds, Kinds.or_else, Takes.is_given, declared.builder.value_parser.Reading.Reading}
use Rattle.clap.specs.declared.parser.matches.ValueSource.{ValueSource}
use Rattle.cmd_words.specs.{Arguments.Word, code.Parses.files_id, code.Parses.app_with}
use Rattle.cmd_words.proofs.AppLemmas.{app_built, option_built, rules_with, shape_with}
use Rattle.cmd_words.proofs.{TestLemmas.same_either, WalkLemmas.fine, WalkLemmas.gate, WalkLemmas.outcome}

-- ---- after the walk

defaults_kept : (names : List Word) (rows : List Row) → fold with_default rows (map option_built names) ≡ rows
defaults_kept [] rows = refl
defaults_kept (name ∷ names) rows = ap (λ (rows : List Row). fold with_default rows (map option_built names)) (same_either (has_row name rows) rows) ∙ defaults_kept names rows

finished_is : (names : List Word) (held : Held) → finished (rules_with names) held ≡ (settled (rules_with names) held).rows
finished_is names held =
    ap (λ (rows : List Row). fold with_default rows (map option_built names)) (same_either (has_row files_id (settled (rules_with names) held).rows) _)
    ∙ defaults_kept names (settled (rules_with names) held).rows

options_fault : (names : List Word) (rows : List Row) → defaults_fault rows (map option_built names) ≡ []
unfolding defaults_fault
options_fault [] rows = refl
options_fault (name ∷ names) rows =
    rw (or_right (has_row name rows) true refl) (ap (λ (rows : List Row). defaults_fault rows (map option_built names)) (same_either (has_row name rows) rows) ∙ options_fault names rows)

no_defaults : (names : List Word) (rows : List Row) → defaults_fault rows (rules_with names) ≡ []
unfolding defaults_fault
no_defaults names rows =
    rw (or_right (has_row files_id rows) true refl) (ap (λ (rows : List Row). defaults_fault rows (map option_built names)) (same_either (has_row files_id rows) rows) ∙ options_fault names rows)

none_required : (names : List Word) (rows : List Row) → list_any (λ rule. rule.required && not (is_given rule.id rows)) (map option_built names) ≡ false
none_required [] rows = refl
none_required (name ∷ names) rows = none_required names rows

no_check : (names : List Word) (rows : List Row) → check_fault (shape_with names) rows false ≡ []
no_check names rows = rw (none_required names rows) refl

never_entered : (names : List Word) (stop : Option (Word × List Word)) → entered (record { top = shape_with names; subs = [] }) stop ≡ None
never_entered names None = refl
never_entered names (Some stop) = refl

no_entered_fault : (names : List Word) (stop : Option (Word × List Word)) → entered_fault (record { top = shape_with names; subs = [] }) stop ≡ []
no_entered_fault names None = refl
no_entered_fault names (Some stop) = refl

fine_twice : (first next : Kinds) (rows : List Row) → fine (or_else first (or_else [] (or_else next (or_else [] [])))) ≡ is_some (gate (fine first) (gate (fine next) (Some rows)))
fine_twice [] [] rows = refl
fine_twice [] (kind ∷ kinds) rows = refl
fine_twice (kind ∷ kinds) next rows = refl

pub fault_is : (names words : List Word) → fine (fault_of (app_with names) words) ≡ is_some (outcome names (walk_from nothing_held) words)
unfolding outcome
fault_is names words =
    let shape = shape_with names in
    let app : App = record { top = shape_with names; subs = [] } in
    let stop : Option (Word × List Word) = (walk (rules_with names) [] nothing_held words).stopped in
    let end : Held = (walk (rules_with names) [] nothing_held words).held in
    ap (λ (app : App). fine (built_fault app nothing_held words)) (app_built names)
    ∙ rw (never_entered names stop, no_entered_fault names stop, no_defaults names (settled (rules_with names) end).rows, no_check names (finished (rules_with names) end))
    (fine_twice (walk_fault (shape_with names) [] (walk_from nothing_held) words) (settle_fault (rules_with names) false end) (settled (rules_with names) end).rows)

gated : (b c : Bool) (rows end : List Row) → gate b (gate c (Some rows)) ≡ Some end → rows ≡ end
gated true true rows end e = cc
gated true false rows end e = cc
gated false c rows end e = cc

pub matches_are : (names words : List Word) (rows : List Row) → outcome names (walk_from nothing_held) words ≡ Some rows → matches_of (app_with names) words ≡ rows
unfolding outcome
matches_are names words rows found =
    let end : Held = (walk (rules_with names) [] nothing_held words).held in
    ap (λ (app : App). rows_after app.top.rules (names_of app) words) (app_built names)
    ∙ finished_is names end ∙ gated _ _ (settled (rules_with names) end).rows rows found

-- ---- what stands in rows

abbrev new_row : Word → Reading → ValueSource → List Word → Row
new_row id how source values = record { id = id; values = values; count = None; source = Some source; reading = how }

pub row_values : (id m : Word) (how : Reading) (source : ValueSource) (values : List Word) (rows : List Row)
    → all_of m (with_values id how source values rows) ≡ (if bytes_eq id m then Some (unwrap_or (all_of id rows) [] ++ values) else all_of m rows)
row_values id m how source values [] = go (bytes_eq id m)
  where
    go : (same : Bool) → option_map (λ (row : Row). row.values) (cond same (Some (new_row id how source values)) None) ≡ (if same then Some values else None)
    go true = refl
    go false = refl
row_values id m how source values (row ∷ rows) = here (bytes_eq row.id id) refl (row_values id m how source values rows)
  where
    split : (same : Bool)
        → option_map (λ (row : Row). row.values) (cond same (Some (record row { values = row.values ++ values; source = Some (stronger row.source source) })) (find (λ (row : Row). bytes_eq row.id m) rows))
        ≡ (if same then Some (row.values ++ values) else option_map (λ (row : Row). row.values) (cond same (Some row) (find (λ (row : Row). bytes_eq row.id m) rows)))
    split true = refl
    split false = refl

    other : (same : Bool) → bytes_eq row.id m ≡ same → bytes_eq row.id id ≡ false
        → all_of m (with_values id how source values rows) ≡ (if bytes_eq id m then Some (unwrap_or (all_of id rows) [] ++ values) else all_of m rows)
        → option_map (λ (row : Row). row.values) (cond same (Some row) (find (λ (row : Row). bytes_eq row.id m) (with_values id how source values rows)))
        ≡ (if bytes_eq id m then Some (unwrap_or (all_of id rows) [] ++ values) else option_map (λ (row : Row). row.values) (cond same (Some row) (find (λ (row : Row). bytes_eq row.id m) rows)))
    other true here apart rest =
        let no : bytes_eq id m ≡ false = false_from_ne_true (bytes_eq id m) (λ same.
        let is : id ≡ m = (bytes_eq-Decides id m).0 same in
        let was : row.id ≡ m = (bytes_eq-Decides row.id m).0 here in
        let bad : bytes_eq row.id id ≡ true = (bytes_eq-Decides row.id id).1 (was ∙ sym is) in
        cc) in
        rw (no) refl
    other false here apart rest = rest

    here : (same : Bool) → bytes_eq row.id id ≡ same
        → all_of m (with_values id how source values rows) ≡ (if bytes_eq id m then Some (unwrap_or (all_of id rows) [] ++ values) else all_of m rows)
        → all_of m (with_values id how source values (row ∷ rows)) ≡ (if bytes_eq id m then Some (unwrap_or (all_of id (row ∷ rows)) [] ++ values) else all_of m (row ∷ rows))
    here true e rest = let is : row.id ≡ id = (bytes_eq-Decides row.id id).0 e in
        rw (e, ap (λ text. bytes_eq text m) is) (split (bytes_eq id m))
    here false e rest = rw (e) (other (bytes_eq row.id m) refl e rest)

pub row_is : (id : Word) (rows : List Row) → has_row id rows ≡ is_some (all_of id rows)
row_is id [] = refl
row_is id (row ∷ rows) = go (bytes_eq row.id id) (row_is id rows)
  where
    go : (same : Bool) → has_row id rows ≡ is_some (all_of id rows)
        → (same || has_row id rows) ≡ is_some (option_map (λ (row : Row). row.values) (cond same (Some row) (find (λ (row : Row). bytes_eq row.id id) rows)))
    go true rest = refl
    go false rest = rest

pub without_none : (id : Word) (rows : List Row) → has_row id rows ≡ false → without id rows ≡ rows
without_none id [] none = refl
without_none id (row ∷ rows) none =
    let parts = or_parts (bytes_eq row.id id) (has_row id rows) none in
    rw (parts.0) (ap (λ rows. row ∷ rows) (without_none id rows parts.1))
