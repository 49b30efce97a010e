-- A text reads as a stimulus exactly where it has no fault.
use Rattle.std.proofs.Common.{◌≡◌, ◌⊎◌, ℕ, ◌≤◌, List, Some, None, sym, ap, ◌∙◌, subst, refl, arith, replicate}
use Rattle.std.proofs.lemmas.List.{length-replicate, Concat.length-flat_map}
use Rattle.std.specs.Prelude.{slice_get, All}
use Rattle.list_laws.proofs.Members.{each}
use Rattle.limits.specs.declared.TheConstants.{MAX_CYCLES}
use Rattle.text_lines.specs.Lines.{parts_of}
use Rattle.net_defs.specs.{declared.stimulus.StimRow.StimRow, declared.stimulus.Stimulus.Stimulus, Time.cycle_count, Valid.IsValidStimulus}
use Rattle.stim_text.specs.Stimuli.{LinesRead, Reads, rows_of, cycles_of, first_fault}
use Rattle.stim_text.specs.{declared.refusal.StimNo.StimNo, Rows.IsAllowed, Rows.row_of, Rows.fault_of}
use Rattle.stim_text.proofs.ReadingLemmas.{all_from_none, none_from_all, few_from_none, items_hold, value_or_fault}
use Rattle.stim_text.proofs.RowLemmas.{IsGood, allowed_from_none, none_from_allowed, good_from_allowed, fits_from_none}

-- no fault, so the text reads
pub reads_from_none : (inputs : ℕ) (text : List ℕ) (rows : List StimRow) → first_fault inputs text ≡ None → rows ≡ rows_of (parts_of text) → cycles_of rows ≤ MAX_CYCLES → Reads inputs text (record { columns = inputs; rows = rows })
reads_from_none inputs text rows none is few = record {
  columns = refl;
  lines = all_from_none row_of (λ row. row.times) (fault_of inputs) (parts_of text) (IsAllowed inputs) (allowed_from_none inputs) none;
  rows = is;
  cycles = few;
}

-- the text reads, so it has no fault
pub none_from_reads : (inputs : ℕ) (text : List ℕ) (stimulus : Stimulus) → Reads inputs text stimulus → first_fault inputs text ≡ None
none_from_reads inputs text stimulus reads =
    none_from_all row_of (λ row. row.times) (fault_of inputs) MAX_CYCLES (parts_of text) (IsAllowed inputs) (none_from_allowed inputs) reads.lines (omega (arith, ap cycles_of reads.rows, reads.cycles))

-- it reads as one stimulus: it has the columns that are asked and the rows of the text
pub one_stimulus : (inputs : ℕ) (text : List ℕ) (stimulus other : Stimulus) → Reads inputs text stimulus → Reads inputs text other → stimulus ≡ other
one_stimulus inputs text stimulus other reads reads_other =
    rw (reads.columns ∙ sym reads_other.columns) (rw (reads.rows ∙ sym reads_other.rows) refl)

cycle_count-sum : (stimulus : Stimulus) → cycle_count stimulus ≡ cycles_of stimulus.rows
cycle_count-sum stimulus = length-flat_map (λ (row : StimRow). replicate row.times row.values) stimulus.rows ∙ simp length-replicate

-- what lines read as is valid
pub valid_from_lines : (inputs : ℕ) (parts : List (List ℕ)) (stimulus : Stimulus) → LinesRead inputs parts stimulus → IsValidStimulus stimulus
valid_from_lines inputs parts stimulus reads = record {
  columns = λ r row is. (good r row is).values ∙ sym reads.columns;
  times = λ r row is. ((good r row is).some, (good r row is).few);
  cycles = omega (arith, cycle_count-sum stimulus, reads.cycles);
}
  where
    all : All (IsGood inputs) stimulus.rows
    all = subst (All (IsGood inputs)) (sym reads.rows) (items_hold row_of (IsAllowed inputs) (IsGood inputs) parts (good_from_allowed inputs) reads.lines)

    good : (r : ℕ) (row : StimRow) → slice_get stimulus.rows r ≡ Some row → IsGood inputs row
    good r row is = each (IsGood inputs) stimulus.rows r row all is

-- and so what a text reads as
pub valid_from_reads : (inputs : ℕ) (text : List ℕ) (stimulus : Stimulus) → Reads inputs text stimulus → IsValidStimulus stimulus
valid_from_reads inputs text stimulus reads = valid_from_lines inputs (parts_of text) stimulus reads

-- each text reads as a stimulus, or it has a first fault
pub reads_or_fault : (inputs : ℕ) (text : List ℕ) → ((stimulus : Stimulus) × Reads inputs text stimulus) ⊎ ((why : StimNo) × (first_fault inputs text ≡ Some why))
reads_or_fault inputs text =
    value_or_fault (Reads inputs text) (first_fault inputs text) (λ none.
    (record { columns = inputs; rows = rows_of (parts_of text) }, reads_from_none inputs text (rows_of (parts_of text)) none refl (few_from_none row_of (λ row. row.times) (fault_of inputs) MAX_CYCLES (parts_of text) (fits_from_none inputs) none)))
