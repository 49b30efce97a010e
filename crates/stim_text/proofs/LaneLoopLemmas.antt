-- The lines of a text of lanes pass one after another, and each lane grows at its end.
use Rattle.std.proofs.Common.{◌≡◌, ℕ, zero, suc, ◌+◌, ◌<◌, ◌≤◌, true, false, List, [], ◌∷◌, ◌++◌, length, take, drop, get_or, map, Option, Some, None, inl, inr, sym, ap, ◌∙◌, subst, refl, arith, add-one, append-nil, length-append}
use Rattle.std.proofs.lemmas.List.{take_more, take_all, map-append, length-map}
use Rattle.std.proofs.lemmas.Bool.{cond-true, cond-false, cases_Bool}
use Rattle.std.specs.List.{cons_option, enumerate_from}
use Rattle.limits.specs.declared.TheConstants.{MAX_CYCLES}
use Rattle.text_lines.specs.Answers.{first}
use Rattle.text_lines.proofs.lemmas.AnswerLemmas.{first-zero, first_none_more, first_some}
use Rattle.text_lines.proofs.lemmas.LineLemmas.{IsNextLine, next_line, no_next_line}
use Rattle.net_defs.specs.declared.stimulus.{StimRow.StimRow, Stimulus.Stimulus}
use Rattle.stim_text.specs.LaneTexts.{begins_lane, lane_lines, stimulus_of, lane_fault, lane_fault_at}
use Rattle.stim_text.specs.declared.lane_line.LaneLine.{LaneLine, TheVariants.Begins, TheVariants.Blank, TheVariants.Row}
use Rattle.stim_text.specs.{declared.refusal.LaneNo.LaneNo, declared.refusal.LaneNo.TheVariants.NoLane, Repeats.is_blank_part, Rows.row_of}
use Rattle.stim_text.specs.{Stimuli.rows_of, Stimuli.cycles_of, code.LaneTexts.lane_line_of, code.LaneTexts.row_line}
use Rattle.stim_text.proofs.CutLemmas.{IsCut, cut_none, cut_yes, cut_no}
use Rattle.stim_text.proofs.LaneTextLemmas.{asked, rows_more, cycles_append, none_if, fault_outside, lanes_cut}
use Rattle.stim_text.proofs.RowLemmas.{row_of-blank}

-- ---- what a line is

no_begin : (o : Option StimRow) → row_line o ≡ Begins → ⊥
no_begin None is = cc
no_begin (Some row) is = cc

blank_from : (o : Option StimRow) → row_line o ≡ Blank → o ≡ None
blank_from None is = refl
blank_from (Some row) is = cc

row_from : (o : Option StimRow) (row : StimRow) → row_line o ≡ Row row → o ≡ Some row
row_from None row is = cc
row_from (Some here) row is = let same : here ≡ row = cc in ap (λ (r : StimRow). Some r) same

line_begins : (part : List ℕ) → Begins ≡ lane_line_of part → begins_lane part ≡ true
unfolding lane_line_of
line_begins part is = elim (cases_Bool (begins_lane part)) [
  | inl cuts ↦ cuts
  | inr stays ↦ absurd (no_begin (row_of part) (sym (is ∙ cond-false _ _ _ stays)))
]

line_stays : (part : List ℕ) (line : LaneLine) → line ≡ lane_line_of part → (line ≡ Begins → ⊥) → (begins_lane part ≡ false) × (row_line (row_of part) ≡ line)
unfolding lane_line_of
line_stays part line is other = elim (cases_Bool (begins_lane part)) [
  | inl cuts ↦ absurd (other (is ∙ cond-true _ _ _ cuts))
  | inr stays ↦ (stays, sym (is ∙ cond-false _ _ _ stays))
]

not_begin : {row : StimRow} → Row row ≡ Begins → ⊥
not_begin is = cc

-- ---- the lines that have passed

-- k lines have passed, which had no fault and made these lanes, and these are ahead; the last lane has so many cycles
pub record HasLanes (inputs : ℕ) (parts : List (List ℕ)) (k : ℕ) (ahead : List (ℕ × List ℕ)) (cycles : ℕ) (lanes : List Stimulus) : Type 0 where
  pub within : k ≤ length parts
  pub left : ahead ≡ enumerate_from (k + 1) (drop k parts)
  pub front : List (List (List ℕ))
  pub since : List (List ℕ)
  pub cut : IsCut begins_lane (take k parts) front since
  pub lanes_are : lanes ≡ map (stimulus_of inputs) (drop 1 (front ++ since ∷ []))
  pub sum : cycles ≡ cycles_of (rows_of since)
  pub few : cycles ≤ MAX_CYCLES
  pub no_fault : first (lane_fault_at inputs parts) k ≡ None

pub has_none : (inputs : ℕ) {parts : List (List ℕ)} {ahead : List (ℕ × List ℕ)} → ahead ≡ enumerate_from 1 parts → HasLanes inputs parts 0 ahead 0 []
has_none inputs left = record {
  within = omega arith;
  left = left;
  front = [];
  since = [];
  cut = cut_none begins_lane;
  lanes_are = refl;
  sum = refl;
  few = omega arith;
  no_fault = first-zero _;
}

-- there are as many lanes as parts in front
count_front : (inputs : ℕ) (front : List (List (List ℕ))) (since : List (List ℕ)) → length (map (stimulus_of inputs) (drop 1 (front ++ since ∷ []))) ≡ length front
count_front inputs [] since = refl
count_front inputs (before ∷ front) since = length-map (front ++ since ∷ []) (stimulus_of inputs) ∙ omega (arith, length-append front (since ∷ []))

-- a line comes
module _ {inputs : ℕ} {parts : List (List ℕ)} {k cycles line : ℕ} {part : List ℕ} {ahead later : List (ℕ × List ℕ)} {lanes : List Stimulus} (had : HasLanes inputs parts k ahead cycles lanes) (comes : ahead ≡ (line, part) ∷ later) where
  next : IsNextLine parts k line part later
  next = next_line parts k line part later ahead had.left comes

  here : lane_fault_at inputs parts k ≡ lane_fault inputs (length lanes) cycles line part
  here =
      asked inputs parts k had.front had.since had.cut
      ∙ ap (λ n. lane_fault inputs n (cycles_of (rows_of had.since)) (k + 1) (get_or parts k [])) (sym (ap length had.lanes_are ∙ count_front inputs had.front had.since))
      ∙ ap (λ n. lane_fault inputs (length lanes) n (k + 1) (get_or parts k [])) (sym had.sum)
      ∙ ap (λ n. lane_fault inputs (length lanes) cycles n (get_or parts k [])) (sym next.number)
      ∙ ap (lane_fault inputs (length lanes) cycles line) (sym next.here)

  pub has_fault : (e : LaneNo) → lane_fault inputs (length lanes) cycles line part ≡ Some e → first (lane_fault_at inputs parts) (length parts) ≡ Some e
  has_fault e is = first_some (lane_fault_at inputs parts) k (length parts) e next.within had.no_fault (here ∙ is)

  none_more : lane_fault inputs (length lanes) cycles line part ≡ None → first (lane_fault_at inputs parts) (k + 1) ≡ None
  none_more none = rw add-one (first_none_more (lane_fault_at inputs parts) k had.no_fault (here ∙ none))

  grown : take k parts ++ part ∷ [] ≡ take (k + 1) parts
  grown = ap (λ p. take k parts ++ p ∷ []) next.here ∙ sym (take_more parts k [] next.within)

  -- a line that begins a lane
  pub has_begin : lane_fault inputs (length lanes) cycles line part ≡ None → Begins ≡ lane_line_of part → HasLanes inputs parts (k + 1) later 0 (lanes ++ record { columns = inputs; rows = [] } ∷ [])
  has_begin none is = record {
    within = omega (arith, next.within);
    left = next.rest;
    front = had.front ++ had.since ∷ [];
    since = [];
    cut = subst (λ xs. IsCut begins_lane xs (had.front ++ had.since ∷ []) []) grown (cut_yes begins_lane (take k parts) part had.front had.since (line_begins part is) had.cut);
    lanes_are = ap (λ xs. xs ++ stimulus_of inputs [] ∷ []) had.lanes_are ∙ one_more had.front;
    sum = refl;
    few = omega arith;
    no_fault = none_more none;
  } where
    one_more : (front : List (List (List ℕ))) → map (stimulus_of inputs) (drop 1 (front ++ had.since ∷ [])) ++ stimulus_of inputs [] ∷ [] ≡ map (stimulus_of inputs) (drop 1 ((front ++ had.since ∷ []) ++ [] ∷ []))
    one_more [] = refl
    one_more (before ∷ front) = sym (map-append (stimulus_of inputs) (front ++ had.since ∷ []) ([] ∷ []))

  stays_cut : begins_lane part ≡ false → IsCut begins_lane (take (k + 1) parts) had.front (had.since ++ part ∷ [])
  stays_cut stays = subst (λ xs. IsCut begins_lane xs had.front (had.since ++ part ∷ [])) grown (cut_no begins_lane (take k parts) part had.front had.since stays had.cut)

  -- one that is blank
  pub has_blank : lane_fault inputs (length lanes) cycles line part ≡ None → Blank ≡ lane_line_of part → HasLanes inputs parts (k + 1) later cycles lanes
  has_blank none is =
      let stays = line_stays part Blank is (λ e. cc) in
      let same : rows_of (had.since ++ part ∷ []) ≡ rows_of had.since = rows_more had.since part ∙ ap (λ o. rows_of had.since ++ cons_option o []) (blank_from (row_of part) stays.1) ∙ append-nil (rows_of had.since) in
      record {
        within = omega (arith, next.within);
        left = next.rest;
        front = had.front;
        since = had.since ++ part ∷ [];
        cut = stays_cut stays.0;
        lanes_are = had.lanes_are ∙ kept had.front (sym same);
        sum = had.sum ∙ ap cycles_of (sym same);
        few = had.few;
        no_fault = none_more none;
      }
    where
      kept : (front : List (List (List ℕ))) → rows_of had.since ≡ rows_of (had.since ++ part ∷ []) → map (stimulus_of inputs) (drop 1 (front ++ had.since ∷ [])) ≡ map (stimulus_of inputs) (drop 1 (front ++ (had.since ++ part ∷ []) ∷ []))
      kept [] same = refl
      kept (before ∷ front) same =
          map-append (stimulus_of inputs) front (had.since ∷ [])
          ∙ ap (λ rows. map (stimulus_of inputs) front ++ record { columns = inputs; rows = rows } ∷ []) same
          ∙ sym (map-append (stimulus_of inputs) front ((had.since ++ part ∷ []) ∷ []))

  -- one that is a row: a lane has begun, and its last one gets the row
  pub has_lane : (row : StimRow) → lane_fault inputs (length lanes) cycles line part ≡ None → Row row ≡ lane_line_of part → 0 < length lanes
  has_lane row none is = of_number (length lanes) refl where
    of_number : (n : ℕ) → length lanes ≡ n → 0 < length lanes
    of_number zero none_there =
        let stays = line_stays part (Row row) is not_begin in
        let passes = ap (λ n. lane_fault inputs n cycles line part) (sym none_there) ∙ none in
        let blank = none_if (is_blank_part part) (NoLane line) (sym (fault_outside inputs cycles line part stays.0) ∙ passes) in
        let none_read = sym (row_of-blank part blank) ∙ row_from (row_of part) row stays.1 in
        absurd (nothing none_read)
      where
        nothing : None ≡ Some row → ⊥
        nothing e = cc
    of_number (suc n) some = omega (arith, some)

  pub has_row : (row : StimRow) (now : List Stimulus) → lane_fault inputs (length lanes) cycles line part ≡ None → Row row ≡ lane_line_of part → cycles + row.times ≤ MAX_CYCLES
      → ((before : List Stimulus) (last : Stimulus) → lanes ≡ before ++ last ∷ [] → now ≡ before ++ record last { rows = last.rows ++ row ∷ [] } ∷ [])
      → HasLanes inputs parts (k + 1) later (cycles + row.times) now
  has_row row now none is fits added =
      let stays = line_stays part (Row row) is not_begin in
      let more : rows_of (had.since ++ part ∷ []) ≡ rows_of had.since ++ row ∷ [] = rows_more had.since part ∙ ap (λ o. rows_of had.since ++ cons_option o []) (row_from (row_of part) row stays.1) in
      record {
        within = omega (arith, next.within);
        left = next.rest;
        front = had.front;
        since = had.since ++ part ∷ [];
        cut = stays_cut stays.0;
        lanes_are = grows had.front had.lanes_are (sym more);
        sum = omega (arith, had.sum, ap cycles_of more, cycles_append (rows_of had.since) (row ∷ []));
        few = fits;
        no_fault = none_more none;
      }
    where
      grows : (front : List (List (List ℕ))) → lanes ≡ map (stimulus_of inputs) (drop 1 (front ++ had.since ∷ [])) → rows_of had.since ++ row ∷ [] ≡ rows_of (had.since ++ part ∷ []) → now ≡ map (stimulus_of inputs) (drop 1 (front ++ (had.since ++ part ∷ []) ∷ []))
      grows [] is_none more = absurd (omega (arith, has_lane row none is, ap length is_none))
      grows (before ∷ front) are more =
          added (map (stimulus_of inputs) front) (stimulus_of inputs had.since) (are ∙ map-append (stimulus_of inputs) front (had.since ∷ []))
          ∙ ap (λ rows. map (stimulus_of inputs) front ++ record { columns = inputs; rows = rows } ∷ []) more
          ∙ sym (map-append (stimulus_of inputs) front ((had.since ++ part ∷ []) ∷ []))

-- all lines have passed
pub has_all : {inputs : ℕ} {parts : List (List ℕ)} {k cycles : ℕ} {ahead : List (ℕ × List ℕ)} {lanes : List Stimulus} → HasLanes inputs parts k ahead cycles lanes → ahead ≡ [] → (first (lane_fault_at inputs parts) (length parts) ≡ None) × (lanes ≡ map (stimulus_of inputs) (lane_lines parts))
has_all {inputs = inputs} {parts = parts} {k = k} had none =
    let past : length parts ≤ k = no_next_line _ _ _ had.left none in
    let all : k ≡ length parts = omega (arith, past, had.within) in (
      subst (λ n. first (lane_fault_at inputs parts) n ≡ None) all had.no_fault,
      had.lanes_are ∙ ap (map (stimulus_of inputs)) (sym (lanes_cut (take k parts) had.front had.since had.cut) ∙ ap lane_lines (take_all k parts past)),
    )
