-- The command of `clap`: how it is built, and what it finds by a name.
use Rattle.std.proofs.Common.{is_some, ◌≡◌, ◌+◌, ◌<◌, ℕ, Bool, true, false, List, [], ◌∷◌, map, length, take, Option, Some, None, refl, ap, sym, ◌∙◌, codes}
use Rattle.std.proofs.lemmas.{Bool.false_from_ne_true, List.map-append, List.take_more, Slice.Eq.bytes_eq-Decides}
use Rattle.std.specs.Prelude.{bytes_eq, count_by, find, slice_index_or, if◌then◌else◌}
use Rattle.std.specs.{List.list_all, List.list_any, Borrow.Bor}
use Rattle.clap.specs.Simple.{App, Shape, built, filled_from, is_simple, new_shape, with_rule}
use Rattle.clap.specs.Walk.{Rule, arg_by_id, arg_by_long, is_early_multiple}
use Rattle.clap.specs.{Faults.is_simple_and_free, declared.builder.range.ValueRange.ValueRange}
use Rattle.cmd_words.specs.code.Parses.{files_id, files_rule, option_rule, app_with, texts_in}
use Rattle.cmd_words.specs.Arguments.{Word, has_name}

abbrev one_value : Option ValueRange
one_value = Some (record { start_inclusive = 1; end_inclusive = 1 })

abbrev pub files_built : Rule
files_built = record files_rule { index = Some 1; range = one_value }

abbrev pub option_built : Word → Rule
option_built name = record (option_rule name) { range = one_value }

abbrev pub rules_with : List Word → List Rule
rules_with names = files_built ∷ map option_built names

abbrev pub shape_with : List Word → Shape
shape_with names = record (new_shape (codes "yse")) {
  rules = rules_with names;
  no_binary_name = true;
  disable_help_flag = true;
  disable_help_subcommand = true;
  is_built = true;
}

filled_options : (i : ℕ) (names : List Word) → filled_from i (map option_rule names) ≡ map option_built names
filled_options i [] = refl
filled_options i (name ∷ names) = ap (λ rules. option_built name ∷ rules) (filled_options i names)

pub app_built : (names : List Word) → built (app_with names) ≡ record { top = shape_with names; subs = [] }
app_built names = ap (λ (rules : List Rule). record { top = record (shape_with names) { rules = files_built ∷ rules }; subs = [] }) (filled_options 2 names)

-- ---- what the command is

all_simple : (names : List Word) → list_all (λ rule. rule.is_simple) (map option_built names) ≡ true
all_simple [] = refl
all_simple (name ∷ names) = all_simple names

all_plain : (names : List Word) → list_all (λ rule. rule.is_simple) (map option_rule names) ≡ true
all_plain [] = refl
all_plain (name ∷ names) = all_plain names

all_free : (names : List Word) → list_all (λ rule. rule.is_free) (map option_built names) ≡ true
all_free [] = refl
all_free (name ∷ names) = all_free names

one_index : (names : List Word) → count_by (λ rule. is_some rule.index) (rules_with names) ≡ 1
one_index [] = refl
one_index (name ∷ names) = one_index names

none_early : (n : ℕ) (names : List Word) → list_any (is_early_multiple n) (map option_built names) ≡ false
none_early n [] = refl
none_early n (name ∷ names) = none_early n names

pub simple_and_free : (names : List Word) → is_simple_and_free (app_with names) ≡ true
simple_and_free names = rw (filled_options 2 names, all_plain names, all_simple names, all_free names, one_index names, none_early (count_by (λ rule. is_some rule.index) (built (app_with names)).top.rules) names) refl

pub is_simple_app : (names : List Word) → is_simple (app_with names) ≡ true
is_simple_app names = rw (filled_options 2 names, all_plain names, all_simple names, one_index names, none_early (count_by (λ rule. is_some rule.index) (built (app_with names)).top.rules) names) refl

-- one more option
pub app_step : (options : List (Bor Word)) (i : ℕ) (x : Bor Word) → i < length options → (before : App) (rule : Rule)
    → before ≡ app_with (texts_in (take i options)) → rule ≡ option_rule (slice_index_or options i x).now
    → with_rule before rule ≡ app_with (texts_in (take (i + 1) options))
app_step options i x within before rule was is =
    rw (was, is) (sym (ap (λ (rules : List Rule). record (app_with []) { top = record (app_with []).top { rules = files_rule ∷ rules } })
    (ap (λ texts. map option_rule (texts_in texts)) (take_more options i x within)
    ∙ ap (map option_rule) (map-append (λ text. text.now) (take i options) (slice_index_or options i x ∷ []))
    ∙ map-append option_rule (texts_in (take i options)) ((slice_index_or options i x).now ∷ []))))

-- ---- names

pub same_name : (name : Word) → bytes_eq name name ≡ true
same_name name = (bytes_eq-Decides name name).1 refl

-- a name of the list is none that isn't
pub differs : (names : List Word) (name other : Word) → has_name names other ≡ false → has_name names name ≡ true → bytes_eq other name ≡ false
differs names name other lacks known = false_from_ne_true (bytes_eq other name) (λ same.
    let is : other ≡ name = (bytes_eq-Decides other name).0 same in
    let has : has_name names other ≡ true = rw (is) known in
    cc)

-- ---- what it finds

pub by_long : (names : List Word) (name : Word) → arg_by_long (rules_with names) name ≡ (if has_name names name then Some (option_built name) else None)
by_long [] name = refl
by_long (other ∷ names) name = go (bytes_eq other name) refl (by_long names name)
  where
    go : (same : Bool) → bytes_eq other name ≡ same
        → arg_by_long (rules_with names) name ≡ (if has_name names name then Some (option_built name) else None)
        → arg_by_long (rules_with (other ∷ names)) name ≡ (if has_name (other ∷ names) name then Some (option_built name) else None)
    go true e rest = let is : other ≡ name = (bytes_eq-Decides other name).0 e in rw (e) (ap (λ text. Some (option_built text)) is)
    go false e rest = rw (e) rest

pub by_id : (names : List Word) (name : Word) → has_name names files_id ≡ false → has_name names name ≡ true
    → arg_by_id (rules_with names) name ≡ Some (option_built name)
by_id names name lacks known = rw (differs names name files_id lacks known) (among names known)
  where
    among : (names : List Word) → has_name names name ≡ true → find (λ rule. bytes_eq rule.id name) (map option_built names) ≡ Some (option_built name)
    among [] known = cc
    among (other ∷ names) known = at (bytes_eq other name) refl known (among names)
      where
        at : (same : Bool) → bytes_eq other name ≡ same → has_name (other ∷ names) name ≡ true
            → (has_name names name ≡ true → find (λ rule. bytes_eq rule.id name) (map option_built names) ≡ Some (option_built name))
            → find (λ rule. bytes_eq rule.id name) (map option_built (other ∷ names)) ≡ Some (option_built name)
        at true e known rest = let is : other ≡ name = (bytes_eq-Decides other name).0 e in rw (e) (ap (λ text. Some (option_built text)) is)
        at false e known rest = let h : has_name names name ≡ true = rw (e) at known in rw (e) (rest h)
