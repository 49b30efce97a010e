-- A text reads as lanes exactly where it has no fault.
use Rattle.std.proofs.Common.{◌≡◌, ◌⊎◌, ℕ, zero, suc, ◌+◌, ◌<◌, ◌≤◌, Bool, true, false, cond, ltb, List, [], ◌∷◌, ◌++◌, length, take, drop, get_or, map, Option, Some, None, inl, inr, sym, ap, ◌∙◌, subst, refl, arith, add-one, length-append}
use Rattle.std.proofs.lemmas.Bool.{cond-true, cond-false, cases_Bool, ne_eqb, ltb-true, lt-ltb}
use Rattle.std.proofs.lemmas.List.{take_more, take_all, take-append-drop, length-map, length-drop}
use Rattle.std.proofs.lemmas.List.Elements.{filter_map-append, All-nil, All-cons, All-head, All-tail, All-append}
use Rattle.std.proofs.lemmas.{List.Sums.sum_by-append, List.Sums.sum_by-cons, Option.slice_get-get_or}
use Rattle.std.proofs.lemmas.List.Splits.{slice_split-cons_no, length-slice_split}
use Rattle.std.specs.{Prelude.All, Prelude.slice_get, List.slice_split, List.onto_first, List.cons_option, Option.option_map}
use Rattle.list_laws.proofs.{Members.all_back, Places.drop_here}
use Rattle.limits.specs.declared.TheConstants.{LANES, MAX_CYCLES}
use Rattle.text_lines.specs.{Answers.first, Lines.parts_of}
use Rattle.text_lines.proofs.lemmas.AnswerLemmas.{first_none, none_below}
use Rattle.net_defs.specs.{declared.stimulus.StimRow.StimRow, declared.stimulus.Stimulus.Stimulus, Valid.IsValidStimulus}
use Rattle.stim_text.specs.LaneTexts.{begins_lane, lane_count, lines_before, lane_lines, stimulus_of, ReadsAsLanes, lane_fault, lane_fault_at, first_lanes_fault}
use Rattle.stim_text.specs.declared.{lanes.Lanes.Lanes, refusal.LaneNo.LaneNo}
use Rattle.stim_text.specs.declared.refusal.{LaneNo.TheVariants.NoLane, LaneNo.TheVariants.TooMany, LaneNo.TheVariants.Stim, StimNo.StimNo}
use Rattle.stim_text.specs.{Repeats.is_blank_part, Rows.IsAllowed, Rows.row_of, Rows.fault_of, Stimuli.LinesRead, Stimuli.rows_of, Stimuli.cycles_of}
use Rattle.stim_text.specs.Lanes.{AreLanes}
use Rattle.stim_text.proofs.CutLemmas.{some_parts, IsCut, cut_none, cut_yes, cut_no, cut_count, parts_append}
use Rattle.stim_text.proofs.{LawLemmas.valid_from_lines, ReadingLemmas.value_or_fault}
use Rattle.stim_text.proofs.RowLemmas.{allowed_from_none, none_from_allowed, fits_from_none}

-- ---- one line

fault_of_begin : (inputs lanes cycles line : ℕ) (part : List ℕ) → begins_lane part ≡ true → lane_fault inputs lanes cycles line part ≡ cond (ltb lanes LANES) None (Some (TooMany line))
unfolding lane_fault
fault_of_begin inputs lanes cycles line part begins = cond-true _ _ _ begins

pub fault_outside : (inputs cycles line : ℕ) (part : List ℕ) → begins_lane part ≡ false → lane_fault inputs 0 cycles line part ≡ cond (is_blank_part part) None (Some (NoLane line))
unfolding lane_fault
fault_outside inputs cycles line part stays = cond-false _ _ _ stays

fault_inside : (inputs lanes cycles line : ℕ) (part : List ℕ) → begins_lane part ≡ false → lane_fault inputs (suc lanes) cycles line part ≡ option_map Stim (fault_of inputs cycles line part)
unfolding lane_fault
fault_inside inputs lanes cycles line part stays = cond-false _ _ _ stays ∙ cond-false _ _ _ (ne_eqb (suc lanes) 0 (λ e. omega arith))

-- ---- lines of one lane

abbrev IsRead : ℕ → List (List ℕ) → Type 0
IsRead inputs parts = LinesRead inputs parts (stimulus_of inputs parts)

before_is : (parts before : List (List ℕ)) (rest : List (List (List ℕ))) → slice_split begins_lane parts ≡ before ∷ rest → lines_before parts ≡ before
before_is parts before rest is = ap (λ xs. get_or xs 0 []) is

abbrev IsBlank : List ℕ → Type 0
IsBlank part = is_blank_part part ≡ true

no_lines : (inputs : ℕ) → IsRead inputs []
no_lines inputs = record { columns = refl; lines = All-nil (IsAllowed inputs); rows = refl; cycles = omega arith }

pub rows_more : (parts : List (List ℕ)) (part : List ℕ) → rows_of (parts ++ part ∷ []) ≡ rows_of parts ++ cons_option (row_of part) []
rows_more parts part = filter_map-append row_of parts (part ∷ [])

pub cycles_append : (rows others : List StimRow) → cycles_of (rows ++ others) ≡ cycles_of rows + cycles_of others
cycles_append rows others = sum_by-append (λ (row : StimRow). row.times) rows others

-- a line without a fault after lines that are read
lines_more : (inputs line : ℕ) (parts : List (List ℕ)) (part : List ℕ) → IsRead inputs parts → fault_of inputs (cycles_of (rows_of parts)) line part ≡ None → IsRead inputs (parts ++ part ∷ [])
lines_more inputs line parts part read none = record {
  columns = refl;
  lines = All-append (IsAllowed inputs) parts (part ∷ []) read.lines (All-cons (IsAllowed inputs) part [] (allowed_from_none inputs _ line part none) (All-nil (IsAllowed inputs)));
  rows = refl;
  cycles = omega (arith, ap cycles_of (rows_more parts part), cycles_append (rows_of parts) (cons_option (row_of part) []), room (row_of part) refl);
} where
  room : (o : Option StimRow) → row_of part ≡ o → cycles_of (rows_of parts) + cycles_of (cons_option o []) ≤ MAX_CYCLES
  room None is = omega (arith, read.cycles)
  room (Some row) is = omega (arith, fits_from_none inputs _ line part row none is)

-- a line among those of a lane that are read has no fault
line_passes : (inputs line : ℕ) (parts others : List (List ℕ)) (part : List ℕ) → IsRead inputs (parts ++ part ∷ others) → fault_of inputs (cycles_of (rows_of parts)) line part ≡ None
line_passes inputs line parts others part read =
    none_from_allowed inputs (cycles_of (rows_of parts)) line part (All-head (IsAllowed inputs) part others (all_back (IsAllowed inputs) parts (part ∷ others) read.lines)) (λ row is.
    omega (
      arith,
      read.cycles,
      cycles_append (rows_of parts) (rows_of (part ∷ others)),
      ap cycles_of (filter_map-append row_of parts (part ∷ others)),
      cycles_append (cons_option (row_of part) []) (rows_of others),
      sum_by-cons (λ (row : StimRow). row.times) row (rows_of others),
      ap (λ o. cycles_of (cons_option o (rows_of others))) is,
    ))

-- ---- what the parts of a text are

-- the lines before the first lane are blank, the lines of each lane are read, and there are at most LANES lanes
AreRead : ℕ → List (List (List ℕ)) → List (List ℕ) → Type 0
AreRead inputs [] since = All IsBlank since
AreRead inputs (before ∷ front) since = All IsBlank before × All (IsRead inputs) front × IsRead inputs since × (length front < LANES)

pub none_if : (b : Bool) (e : LaneNo) → cond b None (Some e) ≡ None → b ≡ true
none_if true e is = refl
none_if false e is = cc

none_within : (o : Option StimNo) → option_map Stim o ≡ None → o ≡ None
none_within None is = refl
none_within (Some e) is = cc

module _ (inputs line : ℕ) (part : List ℕ) where
  -- a line without a fault
  begins : (front : List (List (List ℕ))) (since : List (List ℕ)) → begins_lane part ≡ true → lane_fault inputs (length front) (cycles_of (rows_of since)) line part ≡ None → AreRead inputs front since → AreRead inputs (front ++ since ∷ []) []
  unfolding AreRead
  begins [] since cuts none read = (read, All-nil (IsRead inputs), no_lines inputs, omega arith)
  begins (before ∷ front) since cuts none read =
      let room = ltb-true _ _ (none_if _ _ (sym (fault_of_begin inputs (length (before ∷ front)) (cycles_of (rows_of since)) line part cuts) ∙ none)) in
      (read.0, All-append (IsRead inputs) front (since ∷ []) read.1 (All-cons (IsRead inputs) since [] read.2 (All-nil (IsRead inputs))), no_lines inputs, omega (arith, room, length-append front (since ∷ [])))

  goes_on : (front : List (List (List ℕ))) (since : List (List ℕ)) → begins_lane part ≡ false → lane_fault inputs (length front) (cycles_of (rows_of since)) line part ≡ None → AreRead inputs front since → AreRead inputs front (since ++ part ∷ [])
  unfolding AreRead
  goes_on [] since stays none read =
      let blank = none_if _ _ (sym (fault_outside inputs (cycles_of (rows_of since)) line part stays) ∙ none) in
      All-append IsBlank since (part ∷ []) read (All-cons IsBlank part [] blank (All-nil IsBlank))
  goes_on (before ∷ front) since stays none read =
      let passes = none_within _ (sym (fault_inside inputs (length front) (cycles_of (rows_of since)) line part stays) ∙ none) in
      (read.0, read.1, lines_more inputs line since part read.2 passes, read.3)

-- the fault that the line after these is asked for, by how they are cut
pub asked : (inputs : ℕ) (parts : List (List ℕ)) (i : ℕ) (front : List (List (List ℕ))) (since : List (List ℕ)) → IsCut begins_lane (take i parts) front since → lane_fault_at inputs parts i ≡ lane_fault inputs (length front) (cycles_of (rows_of since)) (i + 1) (get_or parts i [])
asked inputs parts i front since cut = rw (cut_count begins_lane (take i parts) front since cut, cut.last) refl

record Cut (inputs : ℕ) (parts : List (List ℕ)) : Type 0 where
  pub front : List (List (List ℕ))
  pub since : List (List ℕ)
  pub cut : IsCut begins_lane parts front since
  pub read : AreRead inputs front since

cut_more : (inputs : ℕ) (parts : List (List ℕ)) (i : ℕ) → i < length parts → lane_fault_at inputs parts i ≡ None → Cut inputs (take i parts) → Cut inputs (take (i + 1) parts)
cut_more inputs parts i within none before =
    let part = get_or parts i [] in
    let passes = sym (asked inputs parts i before.front before.since before.cut) ∙ none in
    subst (Cut inputs) (sym (take_more parts i [] within)) (elim (cases_Bool (begins_lane part)) [
      | inl cuts ↦ record {
        front = before.front ++ before.since ∷ [];
        since = [];
        cut = cut_yes begins_lane (take i parts) part before.front before.since cuts before.cut;
        read = begins inputs (i + 1) part before.front before.since cuts passes before.read;
      }
      | inr stays ↦ record {
        front = before.front;
        since = before.since ++ part ∷ [];
        cut = cut_no begins_lane (take i parts) part before.front before.since stays before.cut;
        read = goes_on inputs (i + 1) part before.front before.since stays passes before.read;
      }
    ])

cut_to : (inputs : ℕ) (parts : List (List ℕ)) (k : ℕ) → k ≤ length parts → first (lane_fault_at inputs parts) (length parts) ≡ None → Cut inputs (take k parts)
unfolding AreRead
cut_to inputs parts zero within none = record { front = []; since = []; cut = cut_none begins_lane; read = All-nil IsBlank }
cut_to inputs parts (suc k) within none =
    rw (← add-one) (cut_more inputs parts k (omega arith) (none_below (lane_fault_at inputs parts) (length parts) none k (omega arith)) (cut_to inputs parts k (omega arith) none))

-- ---- no fault, so the text reads

pub lanes_cut : (parts : List (List ℕ)) (front : List (List (List ℕ))) (since : List (List ℕ)) → IsCut begins_lane parts front since → lane_lines parts ≡ drop 1 (front ++ since ∷ [])
unfolding lane_lines
lanes_cut parts front since cut = ap (drop 1) cut.parts

reads_from_cut : (inputs : ℕ) (text : List ℕ) (lanes : List Stimulus) (front : List (List (List ℕ))) (since : List (List ℕ)) → IsCut begins_lane (parts_of text) front since → AreRead inputs front since → lanes ≡ map (stimulus_of inputs) (lane_lines (parts_of text)) → ReadsAsLanes inputs text (record { lanes = lanes })
unfolding AreRead
reads_from_cut inputs text lanes [] since cut read is = record {
  before = subst (All IsBlank) (sym (before_is (parts_of text) since [] cut.parts)) read;
  lanes_are = is;
  each = subst (All (IsRead inputs)) (sym (lanes_cut (parts_of text) [] since cut)) (All-nil (IsRead inputs));
  few = omega (arith, cut_count begins_lane (parts_of text) [] since cut);
}
reads_from_cut inputs text lanes (before ∷ front) since cut read is = record {
  before = subst (All IsBlank) (sym (before_is (parts_of text) before (front ++ since ∷ []) cut.parts)) read.0;
  lanes_are = is;
  each = subst (All (IsRead inputs)) (sym (lanes_cut (parts_of text) (before ∷ front) since cut)) (All-append (IsRead inputs) front (since ∷ []) read.1 (All-cons (IsRead inputs) since [] read.2 (All-nil (IsRead inputs))));
  few = omega (arith, cut_count begins_lane (parts_of text) (before ∷ front) since cut, read.3);
}

pub lanes_from_none : (inputs : ℕ) (text : List ℕ) (lanes : List Stimulus) → first_lanes_fault inputs text ≡ None → lanes ≡ map (stimulus_of inputs) (lane_lines (parts_of text)) → ReadsAsLanes inputs text (record { lanes = lanes })
lanes_from_none inputs text lanes none is =
    let whole = subst (Cut inputs) (take_all (length (parts_of text)) (parts_of text) (omega arith)) (cut_to inputs (parts_of text) (length (parts_of text)) (omega arith) none) in
    reads_from_cut inputs text lanes whole.front whole.since whole.cut whole.read is

-- ---- the text reads, so it has no fault

some_cut : (parts : List (List ℕ)) (k : ℕ) → k ≤ length parts → (front : List (List (List ℕ))) × (since : List (List ℕ)) × IsCut begins_lane (take k parts) front since
some_cut parts zero within = ([], [], cut_none begins_lane)
some_cut parts (suc k) within =
    let before = some_cut parts k (omega arith) in
    let part = get_or parts k [] in
    subst (λ xs. (front : List (List (List ℕ))) × (since : List (List ℕ)) × IsCut begins_lane xs front since) (sym (take_more parts k [] (omega arith)) ∙ ap (λ n. take n parts) (add-one k)) (elim (cases_Bool (begins_lane part)) [
      | inl cuts ↦ (before.0 ++ before.1 ∷ [], [], cut_yes begins_lane (take k parts) part before.0 before.1 cuts before.2)
      | inr stays ↦ (before.0, before.1 ++ part ∷ [], cut_no begins_lane (take k parts) part before.0 before.1 stays before.2)
    ])

module _ (inputs line : ℕ) (parts before others : List (List ℕ)) (part : List ℕ) (whole : parts ≡ before ++ part ∷ others)
    (blank : All IsBlank (lines_before parts)) (read : All (IsRead inputs) (lane_lines parts)) (few : lane_count parts ≤ LANES) where
  begin_passes : (front : List (List (List ℕ))) (since : List (List ℕ)) → IsCut begins_lane before front since → begins_lane part ≡ true → lane_fault inputs (length front) (cycles_of (rows_of since)) line part ≡ None
  begin_passes front since cut cuts =
      fault_of_begin inputs (length front) (cycles_of (rows_of since)) line part cuts
      ∙ cond-true _ _ _ (lt-ltb (length front) LANES (omega (
        arith,
        few,
        ap lane_count whole,
        sum_by-append (λ p. cond (begins_lane p) 1 0) before (part ∷ others),
        sum_by-cons (λ p. cond (begins_lane p) 1 0) part others,
        ap (λ b. cond {A = ℕ} b 1 0) cuts,
        cut_count begins_lane before front since cut,
      )))

  stays_passes : (front : List (List (List ℕ))) (since first : List (List ℕ)) (rest : List (List (List ℕ))) → slice_split begins_lane parts ≡ front ++ (since ++ part ∷ first) ∷ rest → begins_lane part ≡ false → lane_fault inputs (length front) (cycles_of (rows_of since)) line part ≡ None
  unfolding lane_lines
  stays_passes [] since first rest split stays =
      let here = subst (All IsBlank) (before_is parts (since ++ part ∷ first) rest split) blank in
      fault_outside inputs (cycles_of (rows_of since)) line part stays ∙ cond-true _ _ _ (All-head IsBlank part first (all_back IsBlank since (part ∷ first) here))
  stays_passes (lines ∷ front) since first rest split stays =
      let all = subst (All (IsRead inputs)) (ap (drop 1) split) read in
      let here = All-head (IsRead inputs) (since ++ part ∷ first) rest (all_back (IsRead inputs) front ((since ++ part ∷ first) ∷ rest) all) in
      fault_inside inputs (length front) (cycles_of (rows_of since)) line part stays ∙ ap (option_map Stim) (line_passes inputs line since first part here)

  passes : (front : List (List (List ℕ))) (since : List (List ℕ)) → IsCut begins_lane before front since → lane_fault inputs (length front) (cycles_of (rows_of since)) line part ≡ None
  passes front since cut =
      elim (cases_Bool (begins_lane part)) [
        | inl cuts ↦ begin_passes front since cut cuts
        | inr stays ↦
            let behind = some_parts begins_lane others in
            let here = slice_split-cons_no begins_lane part others stays ∙ ap (onto_first part) behind.2 in
            stays_passes front since behind.0 behind.1 (ap (slice_split begins_lane) whole ∙ parts_append begins_lane (part ∷ others) (part ∷ behind.0) behind.1 here before front since cut.parts) stays
      ]

pub none_from_lanes : (inputs : ℕ) (text : List ℕ) (lanes : Lanes) → ReadsAsLanes inputs text lanes → first_lanes_fault inputs text ≡ None
none_from_lanes inputs text lanes reads = first_none (lane_fault_at inputs parts) (length parts) (λ i within.
    let cut = some_cut parts i (omega arith) in
    asked inputs parts i cut.0 cut.1 cut.2 ∙ passes inputs (i + 1) parts (take i parts) (drop (i + 1) parts) (get_or parts i []) (at i within) reads.before reads.each reads.few cut.0 cut.1 cut.2)
  where
    parts : List (List ℕ)
    parts = parts_of text

    at : (i : ℕ) → i < length (parts_of text) → parts_of text ≡ take i (parts_of text) ++ get_or (parts_of text) i [] ∷ drop (i + 1) (parts_of text)
    at i within = sym (take-append-drop i (parts_of text)) ∙ ap (λ rest. take i (parts_of text) ++ rest) (drop_here (parts_of text) i (get_or (parts_of text) i []) (slice_get-get_or (parts_of text) i [] within))

-- it reads as lanes in one way
pub one_lanes : (inputs : ℕ) (text : List ℕ) (lanes other : Lanes) → ReadsAsLanes inputs text lanes → ReadsAsLanes inputs text other → lanes ≡ other
one_lanes inputs text lanes other reads reads_other = rw (reads.lanes_are ∙ sym reads_other.lanes_are) refl

-- each text reads as lanes, or it has a first fault
pub lanes_or_fault : (inputs : ℕ) (text : List ℕ) → ((lanes : Lanes) × ReadsAsLanes inputs text lanes) ⊎ ((why : LaneNo) × (first_lanes_fault inputs text ≡ Some why))
lanes_or_fault inputs text =
    value_or_fault (ReadsAsLanes inputs text) (first_lanes_fault inputs text) (λ none.
    (record { lanes = map (stimulus_of inputs) (lane_lines (parts_of text)) }, lanes_from_none inputs text (map (stimulus_of inputs) (lane_lines (parts_of text))) none refl))

-- ---- what is read is lanes

-- what holds of the stimulus of each lane's lines
each_stimulus : (inputs : ℕ) (P : Stimulus → Type 0) (lines : List (List (List ℕ))) → All (IsRead inputs) lines → ((parts : List (List ℕ)) → IsRead inputs parts → P (stimulus_of inputs parts)) → (l : ℕ) (stimulus : Stimulus) → slice_get (map (stimulus_of inputs) lines) l ≡ Some stimulus → P stimulus
each_stimulus inputs P [] read holds l stimulus there = cc
each_stimulus inputs P (parts ∷ lines) read holds zero stimulus there =
    let same : stimulus_of inputs parts ≡ stimulus = cc in
    subst P same (holds parts (All-head (IsRead inputs) parts lines read))
each_stimulus inputs P (parts ∷ lines) read holds (suc l) stimulus there = each_stimulus inputs P lines (All-tail (IsRead inputs) parts lines read) holds l stimulus there

lanes_long : (inputs : ℕ) (parts : List (List ℕ)) → length (map (stimulus_of inputs) (lane_lines parts)) ≡ lane_count parts
unfolding lane_lines
lanes_long inputs parts = length-map (drop 1 (slice_split begins_lane parts)) (stimulus_of inputs) ∙ omega (arith, length-drop 1 (slice_split begins_lane parts), length-slice_split begins_lane parts)

pub lanes_from_reads : (inputs : ℕ) (text : List ℕ) (lanes : Lanes) → ReadsAsLanes inputs text lanes → AreLanes inputs lanes
lanes_from_reads inputs text lanes reads = record {
  few = omega (arith, ap length reads.lanes_are, lanes_long inputs (parts_of text), reads.few);
  valid = λ l stimulus there. each_stimulus inputs IsValidStimulus (lane_lines (parts_of text)) reads.each (λ parts read. valid_from_lines inputs parts (stimulus_of inputs parts) read) l stimulus (sym (ap (λ xs. slice_get xs l) reads.lanes_are) ∙ there);
  wide = λ l stimulus there. each_stimulus inputs (λ s. s.columns ≡ inputs) (lane_lines (parts_of text)) reads.each (λ parts read. refl) l stimulus (sym (ap (λ xs. slice_get xs l) reads.lanes_are) ∙ there);
}
