-- What the parse of `clap` makes of words: the uses that they give, one after another.
use Rattle.std.proofs.Common.{◌≡◌, ◌==◌, ◌&&◌, Bool, true, false, not, List, [], ◌∷◌, map, Option, Some, None, option_map, refl, ap, ◌∙◌}
use Rattle.std.proofs.lemmas.Bool.{and_right}
use Rattle.std.specs.{Prelude.bytes_eq, Prelude.if◌then◌else◌, Prelude.option_and_then, List.cons_option, List.fold}
use Rattle.clap.specs.Faults.{settle_fault, turn_fault, use_fault, walk_fault}
use Rattle.clap.specs.Walk.{is_pending, nothing_held, walk_from, Held, Row, Rule, Waiting, idle, positional, option as waiting, Walk, has_row, settled, walked, with_values, without}
use Rattle.clap.specs.{Kinds.Kinds, Kinds.or_else, Lexer.long_of, Lexer.name_and_value, Lexer.short_of}
use Rattle.clap.specs.declared.{builder.value_parser.Reading.TheVariants.AsWritten, error.kind.ErrorKind.ErrorKind}
use Rattle.clap.specs.declared.parser.matches.ValueSource.TheVariants.{CommandLine}
use Rattle.cmd_words.specs.Arguments.{Word, dashes, begins_with_dash, has_name}
use Rattle.cmd_words.specs.Uses.{Use, argument, option, Look, the_end, an_option, a_dash, a_word, look, look_of, is_filled, read_word, read_value, reads, put_first}
use Rattle.cmd_words.specs.code.Parses.{files_id, has_no_short, is_short}
use Rattle.cmd_words.proofs.AppLemmas.{files_built, option_built, rules_with, shape_with, by_id, by_long, same_name}

-- ---- faults and rows in one

-- no fault
abbrev pub fine : Kinds → Bool
fine [] = true
fine (kind ∷ kinds) = false

abbrev pub gate : {X : Type 0} → Bool → Option X → Option X
gate true x = x
gate false x = None

gate_or_else : {X : Type 0} (first next : Kinds) (x : Option X) → gate (fine (or_else first next)) x ≡ gate (fine first) (gate (fine next) x)
gate_or_else [] next x = refl
gate_or_else (kind ∷ kinds) next x = refl

gate_none : {X : Type 0} (b : Bool) → gate {X = X} b None ≡ None
gate_none true = refl
gate_none false = refl

-- the rows at the end of a walk, where it has no fault
unfoldable pub outcome : List Word → Walk → List Word → Option (List Row)
outcome names walk words =
    let end = (fold (walked (rules_with names) []) walk words).held in
    gate (fine (walk_fault (shape_with names) [] walk words))
    (gate (fine (settle_fault (rules_with names) false end)) (Some (settled (rules_with names) end).rows))

outcome_step : (names : List Word) (walk : Walk) (word : Word) (words : List Word)
    → outcome names walk (word ∷ words) ≡ gate (fine (turn_fault (shape_with names) [] walk word)) (outcome names (walked (rules_with names) [] walk word) words)
unfolding outcome walk_fault
outcome_step names walk word words = gate_or_else (turn_fault (shape_with names) [] walk word) (walk_fault (shape_with names) [] (walked (rules_with names) [] walk word) words) _

outcome_ends : (names : List Word) (walk : Walk)
    → outcome names walk [] ≡ gate (fine (settle_fault (rules_with names) false walk.held)) (Some (settled (rules_with names) walk.held).rows)
unfolding outcome walk_fault
outcome_ends names walk = refl

-- ---- one use

abbrev pub use_fine : Use → List Row → Bool
use_fine (argument word) rows = is_filled word
use_fine (option name word) rows = not (has_row name rows) && is_filled word

abbrev pub after_use : Use → List Row → List Row
after_use (argument word) rows = with_values files_id AsWritten CommandLine (word ∷ []) rows
after_use (option name word) rows = with_values name AsWritten CommandLine (word ∷ []) (without name rows)

-- the rows after all the uses
abbrev pub apply : List Row → List Use → Option (List Row)
apply rows [] = Some rows
apply rows (first ∷ uses) = gate (use_fine first rows) (apply (after_use first rows) uses)

abbrev rule_of_use : Use → Rule
rule_of_use (argument word) = files_built
rule_of_use (option name word) = option_built name

abbrev words_used : Use → List Word
words_used (argument word) = word ∷ []
words_used (option name word) = word ∷ []

one_fault : (b : Bool) (kind : ErrorKind) → fine (or_else (if b then [] else kind ∷ []) []) ≡ b
one_fault true kind = refl
one_fault false kind = refl

two_faults : (b c : Bool) (kind other : ErrorKind) → fine (or_else (if b && true then kind ∷ [] else []) (or_else (if c then [] else other ∷ []) [])) ≡ (not b && c)
two_faults true c kind other = refl
two_faults false c kind other = one_fault c other

use_is_fine : (first : Use) (rows : List Row) → fine (use_fault false (rule_of_use first) (words_used first) rows) ≡ use_fine first rows
use_is_fine (argument word) rows = one_fault (is_filled word) _
use_is_fine (option name word) rows = two_faults (has_row name rows) (is_filled word) _ _

-- ---- where the walk stands

-- the use whose value the parser holds back until the next word
abbrev pub pending_of : Option Use → Option (Word × List Word)
pending_of None = None
pending_of (Some (argument word)) = Some (files_id, word ∷ [])
pending_of (Some (option name word)) = Some (name, word ∷ [])

abbrev waiting_after : Option Use → Waiting
waiting_after None = idle
waiting_after (Some (argument word)) = positional
waiting_after (Some (option name word)) = idle

abbrev held_at : List Row → Option (Word × List Word) → Held
held_at rows pending = record { rows = rows; pending = pending; skip = 0 }

-- before `--`, after a whole use
abbrev pub resting : List Row → Option Use → Walk
resting rows last = record {
  held = held_at rows (pending_of last);
  waiting = waiting_after last;
  position = 1;
  is_trailing = false;
  stopped = None;
}

-- before `--`, after an option that has no value yet
abbrev awaiting : List Row → Word → Walk
awaiting rows name = record {
  held = held_at rows (Some (name, []));
  waiting = waiting name;
  position = 1;
  is_trailing = false;
  stopped = None;
}

-- behind `--`
abbrev trailing : List Row → Option (Word × List Word) → Waiting → Walk
trailing rows pending w = record {
  held = held_at rows pending;
  waiting = w;
  position = 1;
  is_trailing = true;
  stopped = None;
}

abbrev pub IsKnown : List Word → Option Use → Type 0
IsKnown names (Some (option name word)) = has_name names name ≡ true
IsKnown names _ = Unit {0}

abbrev last_fine : Option Use → List Row → Bool
last_fine None rows = true
last_fine (Some last) rows = use_fine last rows

abbrev after_last : Option Use → List Row → List Row
after_last None rows = rows
after_last (Some last) rows = after_use last rows

or_nothing : (kinds : Kinds) → or_else kinds [] ≡ kinds
or_nothing [] = refl
or_nothing (kind ∷ kinds) = refl

module _ (names : List Word) (lacks : has_name names files_id ≡ false) where
  last_settles : (last : Option Use) → IsKnown names last → (rows : List Row)
      → fine (settle_fault (rules_with names) false (held_at rows (pending_of last))) ≡ last_fine last rows
  last_settles None known rows = refl
  last_settles (Some (argument word)) known rows = use_is_fine (argument word) rows
  last_settles (Some (option name word)) known rows = rw (by_id names name lacks known) (use_is_fine (option name word) rows)

  last_settled : (last : Option Use) → IsKnown names last → (rows : List Row)
      → (settled (rules_with names) (held_at rows (pending_of last))).rows ≡ after_last last rows
  last_settled None known rows = refl
  last_settled (Some (argument word)) known rows = refl
  last_settled (Some (option name word)) known rows = rw (by_id names name lacks known) refl

  -- an option without its value is a fault
  no_value : (name : Word) → has_name names name ≡ true → (rows : List Row)
      → fine (settle_fault (rules_with names) false (held_at rows (Some (name, [])))) ≡ false
  no_value name known rows = rw (by_id names name lacks known) refl

  -- ---- behind `--`

  trailing_turn : (rows : List Row) (pending : Option (Word × List Word)) (w : Waiting) (word : Word)
      → fine (turn_fault (shape_with names) [] (trailing rows pending w) word) ≡ fine (settle_fault (rules_with names) false (held_at rows pending))
  trailing_turn rows pending w word = rw (and_right (is_pending files_built pending) false refl) refl

  trailing_walked : (rows : List Row) (pending : Option (Word × List Word)) (w : Waiting) (word : Word)
      → walked (rules_with names) [] (trailing rows pending w) word
      ≡ trailing (settled (rules_with names) (held_at rows pending)).rows (Some (files_id, word ∷ [])) positional
  unfolding walked
  trailing_walked rows pending w word = rw (and_right (is_pending files_built pending) false refl) refl

  -- ---- the turns of a word before `--`

  end_turn : (rows : List Row) (last : Option Use) (word : Word) → bytes_eq word dashes ≡ true
      → fine (turn_fault (shape_with names) [] (resting rows last) word) ≡ true
  end_turn rows None word e = rw (e) refl
  end_turn rows (Some (argument before)) word e = rw (e) refl
  end_turn rows (Some (option name before)) word e = rw (e) refl

  end_walked : (rows : List Row) (last : Option Use) (word : Word) → bytes_eq word dashes ≡ true
      → walked (rules_with names) [] (resting rows last) word ≡ trailing rows (pending_of last) (waiting_after last)
  unfolding walked
  end_walked rows None word e = rw (e) refl
  end_walked rows (Some (argument before)) word e = rw (e) refl
  end_walked rows (Some (option name before)) word e = rw (e) refl

  word_turn : (rows : List Row) (last : Option Use) (word : Word) → bytes_eq word dashes ≡ false → long_of word ≡ None → short_of word ≡ None
      → fine (turn_fault (shape_with names) [] (resting rows last) word) ≡ fine (settle_fault (rules_with names) false (held_at rows (pending_of last)))
  word_turn rows None word e long short = rw (e, long, short) refl
  word_turn rows (Some (argument before)) word e long short = rw (e, long, short) refl
  word_turn rows (Some (option name before)) word e long short = rw (e, long, short, and_right (bytes_eq name files_id) false refl) refl

  word_walked : (rows : List Row) (last : Option Use) (word : Word) → bytes_eq word dashes ≡ false → long_of word ≡ None → short_of word ≡ None
      → walked (rules_with names) [] (resting rows last) word
      ≡ resting (settled (rules_with names) (held_at rows (pending_of last))).rows (Some (argument word))
  unfolding walked
  word_walked rows None word e long short = rw (e, long, short) refl
  word_walked rows (Some (argument before)) word e long short = rw (e, long, short) refl
  word_walked rows (Some (option name before)) word e long short = rw (e, long, short, and_right (bytes_eq name files_id) false refl) refl

  -- a name that the command doesn't have
  unknown_turn : (rows : List Row) (last : Option Use) (word name : Word) (given : Option Word) → bytes_eq word dashes ≡ false
      → long_of word ≡ Some (name, given) → has_name names name ≡ false → fine (turn_fault (shape_with names) [] (resting rows last) word) ≡ false
  unknown_turn rows None word name given e long other = rw (e, long, by_long names name, other) refl
  unknown_turn rows (Some (argument before)) word name given e long other = rw (e, long, by_long names name, other) refl
  unknown_turn rows (Some (option known before)) word name given e long other = rw (e, long, by_long names name, other) refl

  -- `--NAME`
  named_turn : (rows : List Row) (last : Option Use) (word name : Word) → bytes_eq word dashes ≡ false
      → long_of word ≡ Some (name, None) → has_name names name ≡ true
      → fine (turn_fault (shape_with names) [] (resting rows last) word) ≡ fine (settle_fault (rules_with names) false (held_at rows (pending_of last)))
  named_turn rows None word name e long known = rw (e, long, by_long names name, known) refl
  named_turn rows (Some (argument before)) word name e long known = rw (e, long, by_long names name, known, or_nothing) refl
  named_turn rows (Some (option other before)) word name e long known = rw (e, long, by_long names name, known, or_nothing) refl

  named_walked : (rows : List Row) (last : Option Use) (word name : Word) → bytes_eq word dashes ≡ false
      → long_of word ≡ Some (name, None) → has_name names name ≡ true
      → walked (rules_with names) [] (resting rows last) word
      ≡ awaiting (settled (rules_with names) (held_at rows (pending_of last))).rows name
  unfolding walked
  named_walked rows None word name e long known = rw (e, long, by_long names name, known) refl
  named_walked rows (Some (argument before)) word name e long known = rw (e, long, by_long names name, known) refl
  named_walked rows (Some (option other before)) word name e long known = rw (e, long, by_long names name, known) refl

  -- `--NAME=VALUE`
  joined_turn : (rows : List Row) (last : Option Use) (word name given : Word) → bytes_eq word dashes ≡ false
      → long_of word ≡ Some (name, Some given) → has_name names name ≡ true
      → fine (turn_fault (shape_with names) [] (resting rows last) word)
      ≡ fine (or_else (settle_fault (rules_with names) false (held_at rows (pending_of last)))
      (use_fault false (option_built name) (given ∷ []) (settled (rules_with names) (held_at rows (pending_of last))).rows))
  joined_turn rows None word name given e long known = rw (e, long, by_long names name, known, or_nothing) refl
  joined_turn rows (Some (argument before)) word name given e long known = rw (e, long, by_long names name, known, or_nothing) refl
  joined_turn rows (Some (option other before)) word name given e long known = rw (e, long, by_long names name, known, or_nothing) refl

  joined_walked : (rows : List Row) (last : Option Use) (word name given : Word) → bytes_eq word dashes ≡ false
      → long_of word ≡ Some (name, Some given) → has_name names name ≡ true
      → walked (rules_with names) [] (resting rows last) word
      ≡ resting (after_use (option name given) (settled (rules_with names) (held_at rows (pending_of last))).rows) None
  unfolding walked
  joined_walked rows None word name given e long known = rw (e, long, by_long names name, known) refl
  joined_walked rows (Some (argument before)) word name given e long known = rw (e, long, by_long names name, known) refl
  joined_walked rows (Some (option other before)) word name given e long known = rw (e, long, by_long names name, known) refl

  -- ---- the turns of a word that an option waits for

  missing_end_turn : (rows : List Row) (name word : Word) → bytes_eq word dashes ≡ true
      → fine (turn_fault (shape_with names) [] (awaiting rows name) word) ≡ true
  missing_end_turn rows name word e = rw (e) refl

  missing_end_walked : (rows : List Row) (name word : Word) → bytes_eq word dashes ≡ true
      → walked (rules_with names) [] (awaiting rows name) word ≡ trailing rows (Some (name, [])) (waiting name)
  unfolding walked
  missing_end_walked rows name word e = rw (e) refl

  missing_turn : (rows : List Row) (name word other : Word) (given : Option Word) → has_name names name ≡ true → bytes_eq word dashes ≡ false
      → long_of word ≡ Some (other, given) → fine (turn_fault (shape_with names) [] (awaiting rows name) word) ≡ false
  missing_turn rows name word other given known e long = go given (has_name names other) refl long
    where
      go : (given : Option Word) (has : Bool) → has_name names other ≡ has → long_of word ≡ Some (other, given)
          → fine (turn_fault (shape_with names) [] (awaiting rows name) word) ≡ false
      go None true has long = rw (e, long, by_long names other, has, by_id names name lacks known) refl
      go (Some text) true has long = rw (e, long, by_long names other, has, by_id names name lacks known) refl
      go given false has long = rw (e, long, by_long names other, has) refl

  value_turn : (rows : List Row) (name word : Word) → bytes_eq word dashes ≡ false → long_of word ≡ None → short_of word ≡ None
      → fine (turn_fault (shape_with names) [] (awaiting rows name) word) ≡ true
  value_turn rows name word e long short = rw (e, long, short) refl

  value_walked : (rows : List Row) (name word : Word) → has_name names name ≡ true → bytes_eq word dashes ≡ false → long_of word ≡ None → short_of word ≡ None
      → walked (rules_with names) [] (awaiting rows name) word ≡ resting rows (Some (option name word))
  unfolding walked
  value_walked rows name word known e long short = rw (e, long, short, by_id names name lacks known, same_name name) refl

-- ---- what a word looks like

abbrev pub IsLook : Word → Look → Type 0
IsLook word the_end = bytes_eq word dashes ≡ true
IsLook word (an_option name given) = (bytes_eq word dashes ≡ false) × (long_of word ≡ Some (name, given))
IsLook word a_dash = (bytes_eq word dashes ≡ false) × (long_of word ≡ None) × (begins_with_dash word ≡ true)
IsLook word a_word = (bytes_eq word dashes ≡ false) × (long_of word ≡ None) × (begins_with_dash word ≡ false)

pub looks : (word : Word) → IsLook word (look word)
unfolding look
looks word = at_end (bytes_eq word dashes) refl
  where
    at_dash : (dash : Bool) → begins_with_dash word ≡ dash → bytes_eq word dashes ≡ false → long_of word ≡ None → IsLook word (if dash then a_dash else a_word)
    at_dash true d e long = (e, long, d)
    at_dash false d e long = (e, long, d)

    at_long : (cut : Option (Word × Option Word)) → long_of word ≡ cut → bytes_eq word dashes ≡ false → IsLook word (look_of word cut)
    at_long None long e = at_dash (begins_with_dash word) refl e long
    at_long (Some cut) long e = (e, long)

    at_end : (same : Bool) → bytes_eq word dashes ≡ same → IsLook word (if same then the_end else look_of word (long_of word))
    at_end true e = e
    at_end false e = at_long (long_of word) refl e

not_short : (word : Word) → begins_with_dash word ≡ false → short_of word ≡ None
not_short [] plain = refl
not_short (first ∷ rest) plain = rw (plain) refl

-- a word that begins with `-` and is neither `--` nor an option is short
short_dash : (word : Word) → bytes_eq word dashes ≡ false → long_of word ≡ None → begins_with_dash word ≡ true → is_short word ≡ true
short_dash [] e long dash = cc
short_dash (first ∷ []) e long dash = dash
short_dash (first ∷ second ∷ rest) e long dash = go (second == 45) refl rest e long
  where
    go : (b : Bool) → (second == 45) ≡ b → (rest : Word) → bytes_eq (first ∷ second ∷ rest) dashes ≡ false → long_of (first ∷ second ∷ rest) ≡ None
        → is_short (first ∷ second ∷ rest) ≡ true
    go false s rest e long = rw (dash, s) refl
    go true s [] e long = let bad : true ≡ false = rw (dash, s) at e in cc
    go true s (third ∷ rest) e long = let bad : Some (name_and_value (third ∷ rest)) ≡ None = rw (dash, s) at long in cc

behind_long : (word : Word) (words : List Word) → has_no_short (word ∷ words) ≡ true → bytes_eq word dashes ≡ false → has_no_short words ≡ true
unfolding has_no_short
behind_long word words fair e = go (is_short word) (rw (e) at fair)
  where
    go : (short : Bool) → (if short then false else has_no_short words) ≡ true → has_no_short words ≡ true
    go true fair = cc
    go false fair = fair

-- ---- the whole walk

-- a use that is held back is used first
settle_then : (last : Option Use) (rows : List Row) (rest : Option (List Use))
    → gate (last_fine last rows) (option_and_then (apply (after_last last rows)) rest) ≡ option_and_then (apply rows) (option_map (cons_option last) rest)
settle_then None rows None = refl
settle_then None rows (Some uses) = refl
settle_then (Some last) rows None = gate_none (use_fine last rows)
settle_then (Some last) rows (Some uses) = refl

-- a use that is not held back
use_then : (first : Use) (rows : List Row) (rest : Option (List Use))
    → gate (use_fine first rows) (option_and_then (apply (after_use first rows)) (option_map (cons_option None) rest)) ≡ option_and_then (apply rows) (put_first first rest)
use_then first rows None = gate_none (use_fine first rows)
use_then first rows (Some uses) = refl

-- what the walk comes to from each place
pub record Claims (names words : List Word) : Type 0 where
  pub rests : (last : Option Use) → IsKnown names last → (rows : List Row)
      → outcome names (resting rows last) words ≡ option_and_then (apply rows) (option_map (cons_option last) (reads names words None))
  pub awaits : (name : Word) → has_name names name ≡ true → (rows : List Row)
      → outcome names (awaiting rows name) words ≡ option_and_then (apply rows) (reads names words (Some name))

module _ (names : List Word) (lacks : has_name names files_id ≡ false) where
  ends_fine : (last : Option Use) → IsKnown names last → (rows : List Row) (walk : Walk) → walk.held ≡ held_at rows (pending_of last)
      → outcome names walk [] ≡ gate (last_fine last rows) (Some (after_last last rows))
  ends_fine last known rows walk is =
      outcome_ends names walk ∙ ap (λ (held : Held). gate (fine (settle_fault (rules_with names) false held)) (Some (settled (rules_with names) held).rows)) is
      ∙ ap (λ b. gate b (Some (settled (rules_with names) (held_at rows (pending_of last))).rows)) (last_settles names lacks last known rows)
      ∙ ap (λ (end : List Row). gate (last_fine last rows) (Some end)) (last_settled names lacks last known rows)

  -- a turn that settles what is held back, and goes on from the rows after it
  settles_to : (last : Option Use) → IsKnown names last → (rows : List Row) (walk : Walk) (word : Word) (words : List Word) (next : List Row → Walk) (rest : Option (List Use))
      → fine (turn_fault (shape_with names) [] walk word) ≡ fine (settle_fault (rules_with names) false (held_at rows (pending_of last)))
      → walked (rules_with names) [] walk word ≡ next (settled (rules_with names) (held_at rows (pending_of last))).rows
      → outcome names (next (after_last last rows)) words ≡ option_and_then (apply (after_last last rows)) rest
      → outcome names walk (word ∷ words) ≡ option_and_then (apply rows) (option_map (cons_option last) rest)
  settles_to last known rows walk word words next rest turn step goes =
      outcome_step names walk word words
      ∙ ap (λ b. gate b (outcome names (walked (rules_with names) [] walk word) words)) (turn ∙ last_settles names lacks last known rows)
      ∙ ap (λ (walk : Walk). gate (last_fine last rows) (outcome names walk words)) (step ∙ ap next (last_settled names lacks last known rows))
      ∙ ap (gate (last_fine last rows)) goes
      ∙ settle_then last rows rest

  -- a turn with a fault
  fails : (walk : Walk) (word : Word) (words : List Word) → fine (turn_fault (shape_with names) [] walk word) ≡ false → outcome names walk (word ∷ words) ≡ None
  fails walk word words turn = outcome_step names walk word words ∙ ap (λ b. gate b (outcome names (walked (rules_with names) [] walk word) words)) turn

  -- a turn that only steps
  steps_to : (walk next : Walk) (word : Word) (words : List Word) → fine (turn_fault (shape_with names) [] walk word) ≡ true
      → walked (rules_with names) [] walk word ≡ next → outcome names walk (word ∷ words) ≡ outcome names next words
  steps_to walk next word words turn step =
      outcome_step names walk word words ∙ ap (λ b. gate b (outcome names (walked (rules_with names) [] walk word) words)) turn
      ∙ ap (λ (walk : Walk). outcome names walk words) step

  behind : (words : List Word) (last : Option Use) → IsKnown names last → (rows : List Row) (w : Waiting)
      → outcome names (trailing rows (pending_of last) w) words ≡ apply rows (cons_option last (map argument words))
  behind [] last known rows w = ends_fine last known rows (trailing rows (pending_of last) w) refl ∙ settle_then last rows (Some [])
  behind (word ∷ words) last known rows w =
      settles_to last known rows (trailing rows (pending_of last) w) word words (λ rows. trailing rows (Some (files_id, word ∷ [])) positional) (Some (map argument (word ∷ words)))
      (trailing_turn names lacks rows (pending_of last) w word) (trailing_walked names lacks rows (pending_of last) w word)
      (behind words (Some (argument word)) tt (after_last last rows) positional)

  behind_missing : (words : List Word) (name : Word) → has_name names name ≡ true → (rows : List Row) (w : Waiting)
      → outcome names (trailing rows (Some (name, [])) w) words ≡ None
  behind_missing [] name known rows w =
      outcome_ends names (trailing rows (Some (name, [])) w)
      ∙ ap (λ b. gate b (Some (settled (rules_with names) (held_at rows (Some (name, [])))).rows)) (no_value names lacks name known rows)
  behind_missing (word ∷ words) name known rows w =
      fails (trailing rows (Some (name, [])) w) word words (trailing_turn names lacks rows (Some (name, [])) w word ∙ no_value names lacks name known rows)

  -- at a word that looks so, where the words behind it keep their claims if they are asked
  rests_at : (word : Word) (words : List Word) (seen : Look) → IsLook word seen → (begins_with_dash word ≡ true → bytes_eq word dashes ≡ false → long_of word ≡ None → ⊥)
      → (bytes_eq word dashes ≡ false → Claims names words)
      → (last : Option Use) → IsKnown names last → (rows : List Row)
      → outcome names (resting rows last) (word ∷ words)
      ≡ option_and_then (apply rows) (option_map (cons_option last) (read_word names seen word words (reads names words)))
  rests_at word words the_end is short goes last known rows =
      steps_to (resting rows last) (trailing rows (pending_of last) (waiting_after last)) word words (end_turn names lacks rows last word is) (end_walked names lacks rows last word is)
      ∙ behind words last known rows (waiting_after last)
  rests_at word words a_dash is short goes last known rows = absurd (short is.2 is.0 is.1)
  rests_at word words a_word is short goes last known rows =
      settles_to last known rows (resting rows last) word words (λ rows. resting rows (Some (argument word))) (put_first (argument word) (reads names words None))
      (word_turn names lacks rows last word is.0 is.1 (not_short word is.2)) (word_walked names lacks rows last word is.0 is.1 (not_short word is.2))
      ((goes is.0).rests (Some (argument word)) tt (after_last last rows))
  rests_at word words (an_option name None) is short goes last known rows = at (has_name names name) refl
    where
      at : (has : Bool) → has_name names name ≡ has
          → outcome names (resting rows last) (word ∷ words)
          ≡ option_and_then (apply rows) (option_map (cons_option last) (if has then reads names words (Some name) else None))
      at true has =
          settles_to last known rows (resting rows last) word words (λ rows. awaiting rows name) (reads names words (Some name))
          (named_turn names lacks rows last word name is.0 is.1 has) (named_walked names lacks rows last word name is.0 is.1 has)
          ((goes is.0).awaits name has (after_last last rows))
      at false has = fails (resting rows last) word words (unknown_turn names lacks rows last word name None is.0 is.1 has)
  rests_at word words (an_option name (Some given)) is short goes last known rows = at (has_name names name) refl
    where
      at : (has : Bool) → has_name names name ≡ has
          → outcome names (resting rows last) (word ∷ words)
          ≡ option_and_then (apply rows) (option_map (cons_option last) (if has then put_first (option name given) (reads names words None) else None))
      at true has =
          let end : List Row = (settled (rules_with names) (held_at rows (pending_of last))).rows in
          let used : List Row → Kinds = use_fault false (option_built name) (given ∷ []) in
          let next : List Row → Walk = λ rows. resting (after_use (option name given) rows) None in
          outcome_step names (resting rows last) word words
          ∙ ap (λ b. gate b (outcome names (walked (rules_with names) [] (resting rows last) word) words)) (joined_turn names lacks rows last word name given is.0 is.1 has)
          ∙ ap (λ (walk : Walk). gate (fine (or_else (settle_fault (rules_with names) false (held_at rows (pending_of last))) (used end))) (outcome names walk words))
          (joined_walked names lacks rows last word name given is.0 is.1 has)
          ∙ gate_or_else (settle_fault (rules_with names) false (held_at rows (pending_of last))) (used end) (outcome names (next end) words)
          ∙ ap (λ b. gate b (gate (fine (used end)) (outcome names (next end) words))) (last_settles names lacks last known rows)
          ∙ ap (λ (rest : List Row). gate (last_fine last rows) (gate (fine (used rest)) (outcome names (next rest) words))) (last_settled names lacks last known rows)
          ∙ ap (λ b. gate (last_fine last rows) (gate b (outcome names (next (after_last last rows)) words))) (use_is_fine (option name given) (after_last last rows))
          ∙ ap (λ found. gate (last_fine last rows) (gate (use_fine (option name given) (after_last last rows)) found))
          ((goes is.0).rests None tt (after_use (option name given) (after_last last rows)))
          ∙ ap (gate (last_fine last rows)) (use_then (option name given) (after_last last rows) (reads names words None))
          ∙ settle_then last rows (put_first (option name given) (reads names words None))
      at false has = fails (resting rows last) word words (unknown_turn names lacks rows last word name (Some given) is.0 is.1 has)

  awaits_at : (word : Word) (words : List Word) (seen : Look) → IsLook word seen → (begins_with_dash word ≡ true → bytes_eq word dashes ≡ false → long_of word ≡ None → ⊥)
      → (bytes_eq word dashes ≡ false → Claims names words)
      → (name : Word) → has_name names name ≡ true → (rows : List Row)
      → outcome names (awaiting rows name) (word ∷ words) ≡ option_and_then (apply rows) (read_value name seen word (reads names words None))
  awaits_at word words the_end is short goes name known rows =
      steps_to (awaiting rows name) (trailing rows (Some (name, [])) (waiting name)) word words (missing_end_turn names lacks rows name word is) (missing_end_walked names lacks rows name word is)
      ∙ behind_missing words name known rows (waiting name)
  awaits_at word words a_dash is short goes name known rows = absurd (short is.2 is.0 is.1)
  awaits_at word words a_word is short goes name known rows =
      steps_to (awaiting rows name) (resting rows (Some (option name word))) word words
      (value_turn names lacks rows name word is.0 is.1 (not_short word is.2)) (value_walked names lacks rows name word known is.0 is.1 (not_short word is.2))
      ∙ (goes is.0).rests (Some (option name word)) known rows
  awaits_at word words (an_option other given) is short goes name known rows =
      fails (awaiting rows name) word words (missing_turn names lacks rows name word other given known is.0 is.1)

  all_words : (words : List Word) → has_no_short words ≡ true → Claims names words
  unfolding reads has_no_short
  all_words [] fair = record {
    rests = λ last known rows. ends_fine last known rows (resting rows last) refl ∙ settle_then last rows (Some []);
    awaits = λ name known rows.
        outcome_ends names (awaiting rows name)
        ∙ ap (λ b. gate b (Some (settled (rules_with names) (held_at rows (Some (name, [])))).rows)) (no_value names lacks name known rows);
  }
  all_words (word ∷ words) fair =
      let long_dash : begins_with_dash word ≡ true → bytes_eq word dashes ≡ false → long_of word ≡ None → ⊥ = λ dash e long.
      let short : is_short word ≡ true = short_dash word e long dash in
      let bad : false ≡ true = rw (e, short) at fair in
      cc in
      let goes : bytes_eq word dashes ≡ false → Claims names words = λ e. all_words words (behind_long word words fair e) in
      record {
        rests = rests_at word words (look word) (looks word) long_dash goes;
        awaits = awaits_at word words (look word) (looks word) long_dash goes;
      }

  pub parse_is : (words : List Word) → has_no_short words ≡ true → outcome names (walk_from nothing_held) words ≡ option_and_then (apply []) (reads names words None)
  parse_is words fair = (all_words words fair).rests None tt [] ∙ unmapped (reads names words None)
    where
      unmapped : (rest : Option (List Use)) → option_and_then (apply []) (option_map (cons_option None) rest) ≡ option_and_then (apply []) rest
      unmapped None = refl
      unmapped (Some uses) = refl
