-- The cursors of lanes stand at the row of the cycle, or behind all rows.
use Rattle.std.proofs.Common.{◌≡◌, ◌≢◌, ◌∙◌, ◌⊎◌, inl, inr, ℕ, zero, suc, ◌+◌, ◌<◌, ◌≤◌, List, [], ◌∷◌, ◌++◌, length, drop, set, Some, slice_get, sym, ap, subst, refl, arith}
use Rattle.std.proofs.lemmas.{Bool.cases_lt, List.drop-drop, List.length_push, Option.slice_get_within}
use Rattle.list_laws.proofs.{Places.at_front, Places.seam_at, Ranges.last_or}
use Rattle.net_defs.specs.{declared.stimulus.Stimulus.Stimulus, Time.cycle_rows, Valid.IsValidStimulus}
use Rattle.port_host.specs.{declared.cursor.RowCursor.RowCursor, Rows.IsAt, code.Rows.times_in}
use Rattle.port_host.proofs.CursorLemmas.{at_row, none_left, row_stays, row_over}
use Rattle.pack_walk.specs.code.Feeds.{AreAt, AreMoved}

-- behind all rows it stays
pub stays_behind : (stimulus : Stimulus) (n : ℕ) (cursor : RowCursor) → length stimulus.rows ≤ cursor.row → IsAt stimulus n cursor → IsAt stimulus (n + 1) cursor
stays_behind stimulus n cursor over at = record {
  left = sym (drop-drop 1 n (cycle_rows stimulus)) ∙ (ap (drop 1) (at.left ∙ none_left stimulus n cursor at over) ∙ sym (none_left stimulus n cursor at over));
  serves = at.serves;
  behind = at.behind;
}

-- ---- the cursors of all lanes

-- one lane more at the first cycle
pub one_more : (lanes : List Stimulus) (i n : ℕ) (stimulus : Stimulus) (first : RowCursor) (cursors : List RowCursor) → length cursors ≡ i → slice_get lanes i ≡ Some stimulus → IsAt stimulus n first
    → ((l : ℕ) (s : Stimulus) (c : RowCursor) → slice_get lanes l ≡ Some s → slice_get cursors l ≡ Some c → IsAt s n c)
    → (l : ℕ) (s : Stimulus) (c : RowCursor) → slice_get lanes l ≡ Some s → slice_get (cursors ++ first ∷ []) l ≡ Some c → IsAt s n c
one_more lanes i n stimulus first cursors count here at each l s c lane cursor = of_place (cases_lt l i) where
  of_place : (l < i) ⊎ (i ≤ l) → IsAt s n c
  of_place (inl before) = each l s c lane (sym (at_front cursors (first ∷ []) l (omega (arith, before, count))) ∙ cursor)
  of_place (inr after) =
      let within = slice_get_within (cursors ++ first ∷ []) l c cursor in
      let place : l ≡ length cursors = omega (arith, after, count, within, length_push cursors first) in
      let seam : slice_get (cursors ++ first ∷ []) l ≡ Some first = ap (slice_get (cursors ++ first ∷ [])) place ∙ seam_at cursors first [] in
      let same : Some first ≡ Some c = sym seam ∙ cursor in
      let lane_is : Some stimulus ≡ Some s = sym here ∙ (ap (slice_get lanes) (omega (arith, place, count)) ∙ lane) in
      let one : first ≡ c = cc in
      let other : stimulus ≡ s = cc in
      subst (λ x. IsAt s n x) one (subst (λ x. IsAt x n first) other at)

-- what stands in a list in which one member is replaced
pub at_set : {X : Type 0} (xs : List X) (j i : ℕ) (y z : X) → slice_get (set xs j y) i ≡ Some z → ((i ≡ j) × (y ≡ z)) ⊎ ((i ≢ j) × (slice_get xs i ≡ Some z))
at_set [] j i y z at = cc
at_set (x ∷ xs) zero zero y z at = inl (refl, cc)
at_set (x ∷ xs) zero (suc i) y z at = inr ((λ e. cc), at)
at_set (x ∷ xs) (suc j) zero y z at = inr ((λ e. cc), at)
at_set (x ∷ xs) (suc j) (suc i) y z at = elim (at_set xs j i y z at) [
  | inl h ↦ inl (ap suc h.0, h.1)
  | inr h ↦ inr ((λ e. h.0 (omega (arith, e))), h.1)
]

-- one lane more at the next cycle
pub moved_more : (lanes : List Stimulus) (n j : ℕ) (stimulus : Stimulus) (old new : RowCursor) (cursors : List RowCursor) → slice_get lanes j ≡ Some stimulus → slice_get cursors j ≡ Some old
    → (IsAt stimulus n old → IsAt stimulus (n + 1) new) → AreMoved lanes n j cursors → AreMoved lanes n (j + 1) (set cursors j new)
moved_more lanes n j stimulus old new cursors here there moves are = record {
  moved = λ l s c low lane cursor. elim (at_set cursors j l new c cursor) [
    | inl h ↦ now l s c lane h.0 h.1
    | inr h ↦ are.moved l s c (omega (arith, low, before l j low h.0)) lane h.1
  ];
  others = λ l s c high lane cursor. elim (at_set cursors j l new c cursor) [
    | inl h ↦ absurd (omega (arith, high, h.0))
    | inr h ↦ are.others l s c (omega (arith, high)) lane h.1
  ];
} where
  before : (l j : ℕ) → l < j + 1 → l ≢ j → l < j
  before l j low other = elim (last_or l j low) [ inl less ↦ less | inr same ↦ absurd (other same) ]

  now : (l : ℕ) (s : Stimulus) (c : RowCursor) → slice_get lanes l ≡ Some s → l ≡ j → new ≡ c → IsAt s (n + 1) c
  now l s c lane place same =
      let lane_is : Some stimulus ≡ Some s = sym here ∙ (ap (slice_get lanes) (sym place) ∙ lane) in
      let one : stimulus ≡ s = cc in
      subst (λ x. IsAt s (n + 1) x) same (subst (λ x. IsAt x (n + 1) new) one (moves (are.others j stimulus old (omega arith) here there)))

pub none_moved : (lanes : List Stimulus) (n : ℕ) (cursors : List RowCursor) → AreAt lanes n cursors → AreMoved lanes n 0 cursors
none_moved lanes n cursors are = record { moved = λ l s c low lane cursor. absurd (omega (arith, low)); others = λ l s c high lane cursor. are.each l s c lane cursor }

pub all_moved : (lanes : List Stimulus) (n : ℕ) (cursors : List RowCursor) → length cursors ≡ length lanes → AreMoved lanes n (length lanes) cursors → AreAt lanes (n + 1) cursors
all_moved lanes n cursors count are = record { count = count; each = λ l s c lane cursor. are.moved l s c (slice_get_within lanes l s lane) lane cursor }

-- ---- any cycle has a cursor

pub cursor_at : (stimulus : Stimulus) → IsValidStimulus stimulus → (n : ℕ) → (cursor : RowCursor) × IsAt stimulus n cursor
cursor_at stimulus valid zero = (record { row = 0; rest = times_in (slice_get stimulus.rows 0) }, at_row stimulus 0 0 (times_in (slice_get stimulus.rows 0)) valid refl refl)
cursor_at stimulus valid (suc n) = of_last (cursor_at stimulus valid n) where
  next_at : (cursor : RowCursor) → IsAt stimulus (n + 1) cursor → IsAt stimulus (suc n) cursor
  next_at cursor at = let same : n + 1 ≡ suc n = omega arith in subst (λ k. IsAt stimulus k cursor) same at

  of_rest : (cursor : RowCursor) → IsAt stimulus n cursor → cursor.row < length stimulus.rows → (1 < cursor.rest) ⊎ (cursor.rest ≤ 1) → (next : RowCursor) × IsAt stimulus (suc n) next
  of_rest cursor at within (inl more) = (_, next_at _ (row_stays stimulus n cursor.row cursor.rest more within at))
  of_rest cursor at within (inr last) = (_, next_at _ (row_over stimulus n cursor.row cursor.rest (times_in (slice_get stimulus.rows (cursor.row + 1))) valid last within refl at))

  of_last : (cursor : RowCursor) × IsAt stimulus n cursor → (next : RowCursor) × IsAt stimulus (suc n) next
  of_last (cursor, at) = elim (cases_lt cursor.row (length stimulus.rows)) [
    | inl within ↦ of_rest cursor at within (cases_lt 1 cursor.rest)
    | inr over ↦ (cursor, next_at cursor (stays_behind stimulus n cursor over at))
  ]
