-- The numbers of a command that words ask for are in their ranges.
use Rattle.std.proofs.Common.{◌≡◌, refl, sym, subst, ℕ, ◌≤◌, Bool, true, false, ◌&&◌, List, [], length, Option, None, Some, arith, codes}
use Rattle.std.proofs.lemmas.Bool.{leb-true}
use Rattle.std.specs.Prelude.{nat_le, if◌then◌else◌, IfOk, Result, Ok, Err}
use Rattle.limits.specs.declared.TheConstants.{MAX_LARGE_CYCLES, MAX_LARGE_GATES, MAX_UNITS, MAX_BANKS, MAX_WORKERS}
use Rattle.text_lines.specs.Numbers.{number_of, within}
use Rattle.net_defs.specs.declared.timing.{Timing.Timing, Mode.Mode, Mode.TheVariants.Rank, Mode.TheVariants.Unit, Mode.TheVariants.Mixed, Init.Init}
use Rattle.net_defs.specs.Valid.{IsValidTiming}
use Rattle.cmd_words.specs.declared.command.Command.TheVariants.{Run, Refer, Order, Plan, Compile, Exec, Pack, Fault, Cover, Show, Large, Help}
use Rattle.cmd_words.specs.Forms.{HasForm, IsInRange, IsLarge, IsLargeInRange, IsRun, IsRunInRange}
use Rattle.cmd_words.specs.Settings.{allows_units, allows_list, count_of, count_or, mode_of, init_of, timing_with}
use Rattle.cmd_words.specs.declared.command.{Command.Command, RunWords.RunWords, WordNo.WordNo}
use Rattle.cmd_words.specs.{Arguments.Word, Arguments.value_given, Asked.Values, Asked.Answers, Asked.asked}
use Rattle.cmd_words.proofs.FormLemmas.{form_from}

-- a number within limits
ranged : (least most : ℕ) (number : Option ℕ) (n : ℕ) → within least most number ≡ Some n → (least ≤ n) × (n ≤ most)
ranged least most None n is = cc
ranged least most (Some m) n is = by (nat_le least m) (nat_le m most) refl refl is
  where
    by : (a b : Bool) → nat_le least m ≡ a → nat_le m most ≡ b → (if a && b then Some m else None) ≡ Some n → (least ≤ n) × (n ≤ most)
    by true true p q e = let same : m ≡ n = cc in rw (sym same) (leb-true least m p, leb-true m most q)
    by true false p q e = cc
    by false b p q e = cc

-- a count
counted : (most : ℕ) (digits : Word) (n : ℕ) → count_of most digits ≡ Some n → (1 ≤ n) × (n ≤ most)
counted most digits n is = by (nat_le (length digits) 10) is
  where
    by : (b : Bool) → (if b then within 1 most (number_of digits) else None) ≡ Some n → (1 ≤ n) × (n ≤ most)
    by true e = ranged 1 most (number_of digits) n e
    by false e = cc

-- a count, or a number in range where none is given
counted_or : (most missing : ℕ) (value : Option Word) (n : ℕ) → 1 ≤ missing → missing ≤ most → count_or most missing value ≡ Some n → (1 ≤ n) × (n ≤ most)
counted_or most missing None n some few is = let same : missing ≡ n = cc in rw (sym same) (some, few)
counted_or most missing (Some digits) n some few is = counted most digits n is

-- in rank order a cycle is one turn
one_turn : (mode : Mode) (units : ℕ) → allows_units mode units ≡ true → mode ≡ Rank → units ≡ 1
one_turn Rank units allows is = by_test
  where
    by_test : units ≡ 1
    by_test = grind arith
one_turn Unit units allows is = cc
one_turn Mixed units allows is = cc

timed : (value file : Option Word) (mode : Option Mode) (units : Option ℕ) (init : Option Init) (timing : Timing) → count_or MAX_UNITS 1 value ≡ units
    → timing_with mode units init file ≡ Some timing → IsValidTiming timing × (timing ≡ record timing { listed = [] })
timed value file None units init timing are is = cc
timed value file (Some mode) None init timing are is = cc
timed value file (Some mode) (Some units) None timing are is = cc
timed value file (Some mode) (Some units) (Some init) timing are is = by (allows_units mode units) (allows_list mode file) refl is
  where
    by : (a b : Bool) → allows_units mode units ≡ a → (if a && b then Some (record { mode = mode; units = units; init = init; listed = [] }) else None) ≡ Some timing → IsValidTiming timing × (timing ≡ record timing { listed = [] })
    by true true allows e =
        let same : record { mode = mode; units = units; init = init; listed = [] } ≡ timing = cc in
        let range = counted_or MAX_UNITS 1 value units (omega arith) (omega arith) are in
        subst (λ (t : Timing). IsValidTiming t × (t ≡ record t { listed = [] })) same (record { some = range.0; few = range.1; rank = one_turn mode units allows; ascends = λ i j before within. absurd (omega arith) }, refl)
    by true false allows e = cc
    by false b allows e = cc

run_in_range : (name : Word) (options words arguments : List Word) (run : RunWords) → IsRun name options words arguments run → IsRunInRange run
run_in_range name options words arguments run form =
    let value : Values = value_given form.given in
    let banks = counted_or MAX_BANKS 1 (value (codes "banks")) run.banks (omega arith) (omega arith) form.banks in
    let workers = counted_or MAX_WORKERS 4 (value (codes "workers")) run.workers (omega arith) (omega arith) form.workers in
    let timing = timed (value (codes "units")) (value (codes "last")) (mode_of (value (codes "mode"))) (count_or MAX_UNITS 1 (value (codes "units"))) (init_of (value (codes "init"))) run.timing refl form.timing in
    record {
      timing = timing.0;
      unlisted = timing.1;
      banks_some = banks.0;
      banks_few = banks.1;
      workers_some = workers.0;
      workers_few = workers.1;
    }

large_in_range : (words : List Word) (gates cycles workers : ℕ) → IsLarge words gates cycles workers → IsLargeInRange gates cycles workers
large_in_range words gates cycles workers form =
    let gates_in = counted MAX_LARGE_GATES form.gates_word gates form.gates_are in
    let cycles_in = counted MAX_LARGE_CYCLES form.cycles_word cycles form.cycles_are in
    let workers_in = counted_or MAX_WORKERS 4 (value_given form.given (codes "workers")) workers (omega arith) (omega arith) form.workers_are in
    record {
      gates_some = gates_in.0;
      gates_few = gates_in.1;
      cycles_some = cycles_in.0;
      cycles_few = cycles_in.1;
      workers_some = workers_in.0;
      workers_few = workers_in.1;
    }

pub in_range : (words : List Word) (command : Command) → HasForm words command → IsInRange command
in_range words (Run run) form = run_in_range _ _ words _ run form
in_range words (Refer run) form = run_in_range _ _ words _ run form
in_range words (Order run) form = run_in_range _ _ words _ run form
in_range words (Plan run) form = run_in_range _ _ words _ run form.0
in_range words (Compile run) form = run_in_range _ _ words _ run form.0
in_range words (Exec run image) form = run_in_range _ _ words _ run form
in_range words (Pack run) form = run_in_range _ _ words _ run form
in_range words (Fault run) form = run_in_range _ _ words _ run form
in_range words (Cover run) form = run_in_range _ _ words _ run form
in_range words (Show netlist) form = tt
in_range words (Help topic) form = tt
in_range words (Large gates cycles workers) form = large_in_range words gates cycles workers form

pub read_in_range : (words : List Word) (result : Result Command WordNo) → Answers result (asked words) → IfOk result IsInRange
read_in_range words (Ok command) answers = in_range words command (form_from words command answers)
read_in_range words (Err refusal) answers = tt
