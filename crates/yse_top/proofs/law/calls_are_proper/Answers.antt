-- The call of each command, step by step.
use Rattle.std.proofs.Common.{◌≡◌, ◌∙◌, ◌↔◌, ◌⊎◌, inl, inr, ◌≢◌, ◌<◌, ◌≤◌, sym, ap, refl, subst, ℕ, List, [], ◌∷◌, ◌++◌, length, Option, Some, None, Ok, Err}
use Rattle.std.proofs.lemmas.List.{append-nil, append_assoc}
use Rattle.std.specs.{List.All, Option.option_to_list, Prelude.⊤}
use Rattle.limits.specs.declared.TheConstants.{MAX_CELLS, MAX_FAULT_SIGNALS, MAX_LARGE_GATES, MAX_PACK_BITS, MAX_TEXT_BYTES}
use Rattle.machine_text.specs.{declared.machine.Machine.Machine, Machines.IsValid as IsValidMachine, Machines.default_machine, Machines.ports_of}
use Rattle.machine_text.specs.Machines as machine_text
use Rattle.net_defs.specs.Valid.{Ascends, IsFault, IsValid, IsValidTiming, input_count}
use Rattle.net_defs.specs.declared.{faults.Fault.Fault, homes.HomeChoice.HomeChoice, netlist.Netlist.Netlist, stimulus.Stimulus.Stimulus, timing.Timing.Timing}
use Rattle.net_defs.specs.{Canonical.canonical_text, Loops.IsCircle, Loops.IsOrder, Loops.OrderOrLoop, Reference.HasOneSimulation, Time.turn_count}
use Rattle.net_defs.specs.Trace.{IsTrace}
use Rattle.yse_compile.specs.{Chosen.FitsBy, Designs.IsAcyclic}
use Rattle.yse_compile.proofs.lemmas.DesignExists.{HasDesign}
use Rattle.text_lines.specs.Answers.{IsReader}
use Rattle.image_defs.specs.{declared.image.Image.Image, WellFormed.IsWellFormed, Places.Each, Claimed.HasClaims, declared.file.ImageFile.ImageFile}
use Rattle.image_file.specs.Ranges as image_file
use Rattle.image_file.specs.Reading as image_faults
use Rattle.event_defs.specs.{Linked.AreLinkedAlike, Steps.AreFirstSteps, Steps.CoreState, declared.place.CoreStep.CoreStep}
use Rattle.stim_text.specs.{Orders.steps_of, declared.order.Order.Order, declared.lanes.Lanes.Lanes}
use Rattle.bench_read.specs.Faults as bench
use Rattle.bench_read.specs.GateLists as gate_lists
use Rattle.bench_read.specs.StuckLists as stuck_lists
use Rattle.bench_read.specs.Reads as bench_reads
use Rattle.stim_text.specs.Orders as orders
use Rattle.stim_text.specs.Stimuli as stim
use Rattle.cmd_words.specs.{declared.command.Command.Command, declared.command.RunWords.RunWords, Asked.asked, Forms.HasForm, Forms.IsInRange}
use Rattle.cmd_words.specs.declared.topic.Topic.{Topic}
use Rattle.cmd_words.specs.declared.command.Command.TheVariants as command
use Rattle.large_run.specs.Runs.{IsSummaryOf}
use Rattle.refusals.specs.declared.status.Status.TheVariants as status
use Rattle.stim_text.specs.LaneTexts as lane_texts
use Rattle.edge_io.specs.Writing.{joined}
use Rattle.cover_sim.specs.{Lines.cover_lines, Marks.HasOneCoverage, Marks.HaveOneCoverage}
use Rattle.fault_sim.specs.{Lines.fault_lines, Verdicts.AreAllFaults, Verdicts.HasOneList, Verdicts.HaveOneList}
use Rattle.call_steps.specs.Checks.{HasNoLoop, HasRoom, IsFaultListOf, IsLanesOf, IsListOf, IsMachineOf, IsNetlistOf, IsOrderOf, IsStimulusOf, IsWithin, Writes, WritesTold, cell_count, lane_cell_count, listing, memory_bits}
use Rattle.call_steps.specs.Outcome.{Outcome, Turns, done, out_of_memory, refusal, telling}
use Rattle.call_steps.specs.{declared.reading.Timed.Timed, Designs.Placed, Designs.Prepared, Readings.Reading, Images.IsAccepted, Images.IsImageFileOf}
use Rattle.call_steps.specs.FileSteps.{BuiltIn, DesignOf, FaultsFrom, ImageIn, LanesIn, MachineFrom, NetlistIn, OrderIn, PlacedOnMachine, ReadyOnMachine, RunnableIn, StimulusIn, TimingFrom}
use Rattle.call_steps.specs.Steps.{Checks, Ends}
use Rattle.refusals.specs.Lines.{usage_line, machine_line, netlist_line, stimulus_line, cells_line, bits_limit_line, signals_line, lanes_line, order_line, list_line, faults_line, image_line}
use Rattle.refusals.specs.declared.status.Status.{Status}
use Rattle.yse_commands.specs.commands.{Cover.Covers, Cover.IsCoverage, Fault.Faults, Fault.IsFaultList, Fault.listed_or_all, Pack.AreLaneTraces, Pack.Packs}
use Rattle.yse_commands.specs.commands.{Run.EndsByOrder, Run.Orders, Run.Refers, Run.Runs, Exec.Executes, Help.Helps, Large.RunsLarge, Compile.IsImageTextOf, Layout.IsSheetOf, Layout.LaysOut, Plan.IsReportOf, Show.Shows}
use Rattle.yse_commands.specs.{Expected.Asks, Expected.CallFor, Expected.CallOf, Expected.Expected, Told.lanes_turns, Told.large_turns, Told.run_turns, Orders.EndsInOrder}
use Rattle.yse_commands.specs.{Words.design_files, Words.files_of, Words.files_named, Words.machine_files, Words.ready_files, declared.layout.Sheet.Sheet}
use Rattle.help_text.specs.Texts.{text_of}
use Rattle.yse_commands.specs.declared.layout.Sheet.TheVariants as sheet
use Rattle.yse_top.proofs.OneLemmas.{alike, no_ok, same_err}
use Rattle.yse_top.proofs.OrderLemmas.{DecidesOrder, done_alike, order_ending, order_outcome}
use Rattle.yse_top.proofs.ProperLemmas.{IsAnswered, IsCheck, IsProper, IsSound, full_ending, law_of, memory_status, not_words, outcome_of, proper_checks, proper_ends, proper_file, proper_gives, proper_then, proper_writes, sound_checks, sound_then, writes_ending}
use Rattle.yse_top.proofs.CheckLemmas.{default_is_valid, reads_check, loop_check, IsRoomLaw, room_check, size_check, trace_only, trace_some}
use Rattle.yse_top.proofs.{AcceptedLemmas.accepted_check, TraceLemmas.traces_only, TraceLemmas.traces_some}
use Rattle.yse_top.proofs.TextLemmas.{HasOneImage, one_text, some_text}
use Rattle.yse_top.proofs.ChoiceLemmas.{HasHomes, has_homes}
use Rattle.yse_top.proofs.ReportLemmas.{AreOnce, one_report, some_report}
use Rattle.yse_top.proofs.law.calls_are_proper.Goals as goal

-- the laws of the layers below
record Laws : Type 0 where
  netlists : IsReader bench_reads.Reads bench.first_fault
  machines : IsReader machine_text.Reads machine_text.first_fault
  valid_machines : (text : List ℕ) (machine : Machine) → machine_text.Reads text machine → IsValidMachine machine
  default_valid : IsValidMachine default_machine
  valid_netlists : (text : List ℕ) (net : Netlist) → length text ≤ MAX_TEXT_BYTES → bench_reads.Reads text net → IsValid net
  room : (choice : HomeChoice) (net : Netlist) (machine : Machine) (timing : Timing) → IsValid net → IsValidMachine machine → ((circle : List ℕ) → IsCircle net timing circle → ⊥) → IsRoomLaw choice net machine timing
  stimuli : (inputs : ℕ) → IsReader (stim.Reads inputs) (stim.first_fault inputs)
  valid_orders : (ports : ℕ) (text : List ℕ) (order : Order) → orders.Reads ports text order → orders.IsValidOrder ports order
  orders : (ports : ℕ) → IsReader (orders.Reads ports) (orders.first_fault ports)
  lanes : (inputs : ℕ) → IsReader (lane_texts.ReadsAsLanes inputs) (lane_texts.first_lanes_fault inputs)
  coverages : HaveOneCoverage
  verdicts : HaveOneList
  all_faults : AreAllFaults
  faults_lists : (net : Netlist) → IsReader (stuck_lists.Reads net) (stuck_lists.first_fault net)
  stuck : (net : Netlist) (text : List ℕ) (faults : List Fault) → stuck_lists.Reads net text faults → All (IsFault net) faults
  lists : (net : Netlist) → IsReader (gate_lists.Reads net) (gate_lists.first_fault net)
  forms : (words : List (List ℕ)) (command : Command) → (asked words ≡ Some command) ↔ HasForm words command
  in_range : (words : List (List ℕ)) (command : Command) → HasForm words command → IsInRange command
  decides : (order : Order) (banks : ℕ) (choice : HomeChoice) (net : Netlist) (machine : Machine) (timing : Timing) (stimulus : Stimulus) → 1 ≤ banks → IsValid net → DecidesOrder order banks choice net machine timing stimulus
  summaries : (gates cycles : ℕ) → gates ≤ MAX_LARGE_GATES → (output : List ℕ) × IsSummaryOf gates cycles output
  one_summary : (gates cycles : ℕ) (one other : List ℕ) → gates ≤ MAX_LARGE_GATES → IsSummaryOf gates cycles one → IsSummaryOf gates cycles other → one ≡ other
  once : (choice : HomeChoice) (net : Netlist) (machine : Machine) (timing : Timing) → IsValid net → AreOnce choice net machine timing
  homes : (choice : HomeChoice) (net : Netlist) (machine : Machine) (timing : Timing) → IsValid net → IsValidMachine machine → FitsBy choice net machine timing → HasHomes choice net machine timing
  images : IsReader image_file.Reads image_faults.first_fault
  accepted : (net : Netlist) (timing : Timing) (file : ImageFile) → IsValid net → IsAcyclic net timing → HasClaims file → IsCheck (IsAccepted net timing file)
  designs : (choice : HomeChoice) (net : Netlist) (machine : Machine) (timing : Timing) → IsValid net → IsValidMachine machine → IsValidTiming timing → IsAcyclic net timing → FitsBy choice net machine timing → HasDesign choice net machine timing
  one_image : (choice : HomeChoice) (net : Netlist) (machine : Machine) (timing : Timing) → IsValid net → HasOneImage choice net machine timing
  ascending : (net : Netlist) (text listed : List ℕ) → gate_lists.Reads net text listed → Ascends listed
  steps : (image : Image) (stimulus : Stimulus) (banks until : ℕ) (order : List ℕ) → IsWellFormed image → 1 ≤ banks → Each (λ p. p < length image.ports) order
      → (answers : List CoreStep) × (state : CoreState) × AreFirstSteps image stimulus banks until order answers state
  order_or_loop : (net : Netlist) (timing : Timing) → OrderOrLoop net timing
  never_both : (net : Netlist) (timing : Timing) (order circle : List ℕ) → IsOrder net timing order → IsCircle net timing circle → ⊥
  one_simulation : (net : Netlist) (timing : Timing) (stimulus : Stimulus) → ((circle : List ℕ) → IsCircle net timing circle → ⊥) → HasOneSimulation net timing stimulus

-- a netlist and its timing
record IsSoundDesign (design : Timed) : Type 0 where
  valid : IsValid design.net
  timely : IsValidTiming design.timing

-- a design that fits its machine
record IsRight (design : Placed) : Type 0 where
  valid : IsValid design.net
  machine_valid : IsValidMachine design.machine
  timely : IsValidTiming design.timing
  acyclic : IsAcyclic design.net design.timing
  fits : FitsBy design.homes design.net design.machine design.timing

words_status : (o : Outcome) → o ≡ refusal status.Words usage_line → o.status ≡ status.Words
words_status o is = ap (λ (o : Outcome). o.status) is

not_memory : {s : Status} → s ≡ status.Words → s ≡ status.Memory → ⊥
not_memory a b = cc

not_read : {s : Status} → s ≡ status.Words → s ≡ status.ReadFault → ⊥
not_read a b = cc

not_written : {s : Status} → s ≡ status.Words → s ≡ status.WriteFault → ⊥
not_written a b = cc

none_some : {c : Command} → None ≡ Some c → ⊥
none_some e = cc

module _ (laws : Laws) where
  netlist_check : (text : List ℕ) → IsCheck (IsNetlistOf text)
  netlist_check text = reads_check bench_reads.Reads bench.first_fault laws.netlists text status.Netlist netlist_line tt

  machine_check : (text : List ℕ) → IsCheck (IsMachineOf text)
  machine_check text = reads_check machine_text.Reads machine_text.first_fault laws.machines text status.Machine machine_line tt

  stimulus_check : (text : List ℕ) (net : Netlist) → IsCheck (IsStimulusOf text net)
  stimulus_check text net =
      reads_check (stim.Reads (input_count net)) (stim.first_fault (input_count net)) (laws.stimuli (input_count net)) text status.Stimulus stimulus_line tt

  order_check : (text : List ℕ) (machine : Machine) → IsCheck (IsOrderOf text machine)
  order_check text machine =
      reads_check (orders.Reads (ports_of machine)) (orders.first_fault (ports_of machine)) (laws.orders (ports_of machine)) text status.OrderText order_line tt

  lanes_check : (text : List ℕ) (net : Netlist) → IsCheck (IsLanesOf text net)
  lanes_check text net =
      reads_check (lane_texts.ReadsAsLanes (input_count net)) (lane_texts.first_lanes_fault (input_count net)) (laws.lanes (input_count net)) text status.Stimulus lanes_line tt

  list_check : (text : List ℕ) (net : Netlist) → IsCheck (IsListOf text net)
  list_check text net = reads_check (gate_lists.Reads net) (gate_lists.first_fault net) (laws.lists net) text status.LastList list_line tt

  faults_check : (text : List ℕ) (net : Netlist) → IsCheck (IsFaultListOf text net)
  faults_check text net = reads_check (stuck_lists.Reads net) (stuck_lists.first_fault net) (laws.faults_lists net) text status.FaultList faults_line tt

  image_check : (text : List ℕ) → IsCheck (IsImageFileOf text)
  image_check text = reads_check image_file.Reads image_faults.first_fault laws.images text status.ImageText image_line tt

  -- ---- steps

  netlist_proper : (file : List ℕ) → IsProper (file ∷ []) IsValid (NetlistIn file)
  netlist_proper file = proper_file file IsNetlistOf IsValid netlist_check (λ text net short is. laws.valid_netlists text net short is)

  stimulus_proper : (file : List ℕ) (net : Netlist) → IsProper (file ∷ []) (λ stimulus. ⊤) (StimulusIn file net)
  stimulus_proper file net = proper_file file (λ text. IsStimulusOf text net) (λ stimulus. ⊤) (λ text. stimulus_check text net) (λ text stimulus short is. tt)

  lanes_proper : (file : List ℕ) (net : Netlist) → IsProper (file ∷ []) (λ lanes. ⊤) (LanesIn file net)
  lanes_proper file net = proper_file file (λ text. IsLanesOf text net) (λ lanes. ⊤) (λ text. lanes_check text net) (λ text lanes short is. tt)

  order_in_proper : (file : List ℕ) (machine : Machine) → IsProper (file ∷ []) (orders.IsValidOrder (ports_of machine)) (OrderIn file machine)
  order_in_proper file machine = proper_file file (λ text. IsOrderOf text machine) (orders.IsValidOrder (ports_of machine)) (λ text. order_check text machine) (λ text order short is. laws.valid_orders (ports_of machine) text order is)

  machine_proper : (file : Option (List ℕ)) → IsProper (option_to_list file) IsValidMachine (MachineFrom file)
  unfolding MachineFrom
  machine_proper None = proper_gives IsValidMachine default_machine laws.default_valid
  machine_proper (Some file) = proper_file file IsMachineOf IsValidMachine machine_check (λ text machine short is. laws.valid_machines text machine is)

  timing_proper : (last : Option (List ℕ)) (net : Netlist) (given : Timing) → IsValidTiming given → IsProper (option_to_list last) IsValidTiming (TimingFrom last net given)
  unfolding TimingFrom
  timing_proper None net given timely = proper_gives IsValidTiming given timely
  timing_proper (Some file) net given timely =
      proper_then (proper_file file (λ text. IsListOf text net) Ascends (λ text. list_check text net) (λ text listed short is. laws.ascending net text listed is)) (λ listed ascends.
      proper_gives IsValidTiming (listing given listed) (record { some = timely.some; few = timely.few; rank = timely.rank; ascends = ascends }))

  faults_proper : (file : Option (List ℕ)) (net : Netlist) → IsProper (option_to_list file) (λ listed. All (IsFault net) (listed_or_all net listed)) (FaultsFrom file net)
  unfolding FaultsFrom
  faults_proper None net = proper_gives (λ listed. All (IsFault net) (listed_or_all net listed)) None (laws.all_faults net)
  faults_proper (Some file) net =
      proper_then (proper_file file (λ text. IsFaultListOf text net) (All (IsFault net)) (λ text. faults_check text net) (λ text faults short is. laws.stuck net text faults is)) (λ faults are.
      proper_gives (λ listed. All (IsFault net) (listed_or_all net listed)) (Some faults) are)

  loop_proper : (net : Netlist) (timing : Timing) → IsProper [] (λ passed. IsAcyclic net timing) (Checks (HasNoLoop net timing))
  loop_proper net timing = proper_checks (HasNoLoop net timing) (loop_check net timing (laws.order_or_loop net timing) (laws.never_both net timing))

  size_proper : (most size : ℕ) (line : ℕ → List ℕ) → IsProper [] (λ passed. size ≤ most) (Checks (IsWithin most size line))
  size_proper most size line = proper_checks (IsWithin most size line) (size_check most size line)

  design_proper : (words : RunWords) → IsValidTiming words.timing → IsProper (design_files words) IsSoundDesign (DesignOf words)
  design_proper words timely = subst (λ files. IsProper (words.netlist ∷ files) IsSoundDesign (DesignOf words)) (append-nil (option_to_list words.last)) (
      proper_then (netlist_proper words.netlist) (λ net valid.
      proper_then (timing_proper words.last net words.timing timely) (λ timing valid_timing.
      proper_gives IsSoundDesign (record { net = net; timing = timing }) (record { valid = valid; timely = valid_timing }))))

  placed_proper : (words : RunWords) → IsValidTiming words.timing → IsProper (machine_files words) IsRight (PlacedOnMachine words)
  placed_proper words timely = subst (λ files. IsProper (option_to_list words.machine ++ files) IsRight (PlacedOnMachine words)) (append-nil (design_files words)) (
      proper_then (machine_proper words.machine) (λ machine machine_valid.
      proper_then (design_proper words timely) (λ design sound.
      proper_then (loop_proper design.net design.timing) (λ passed acyclic.
      proper_then (proper_checks (HasRoom words.homes design.net machine design.timing) (room_check words.homes design.net machine design.timing (laws.room words.homes design.net machine design.timing sound.valid machine_valid acyclic))) (λ fits has.
      proper_gives IsRight (record { homes = words.homes; machine = machine; timing = design.timing; net = design.net })
      (record { valid = sound.valid; machine_valid = machine_valid; timely = sound.timely; acyclic = acyclic; fits = has }))))))

  ready_proper : (words : RunWords) → IsValidTiming words.timing → IsProper (ready_files words) (λ ready. IsRight ready.placed) (ReadyOnMachine words)
  ready_proper words timely =
      proper_then (placed_proper words timely) (λ placed right.
      proper_then (stimulus_proper words.stimulus placed.net) (λ stimulus fed.
      proper_gives (λ ready. IsRight ready.placed) (record { placed = placed; stimulus = stimulus }) right))

  -- the image of a file, and a design with it
  image_proper : (name : List ℕ) (net : Netlist) (timing : Timing) → IsValid net → IsAcyclic net timing → IsProper (name ∷ []) (λ image. ⊤) (ImageIn name net timing)
  image_proper name net timing valid acyclic =
      proper_then (proper_file name IsImageFileOf HasClaims image_check (λ text file short is. is.ranges.claims)) (λ file claims.
      proper_then (proper_checks (IsAccepted net timing file) (laws.accepted net timing file valid acyclic claims)) (λ accepted matches.
      proper_gives (λ image. ⊤) file.image tt))

  runnable_proper : (words : RunWords) (name : List ℕ) → IsValidTiming words.timing → IsProper (design_files words ++ (name ∷ [])) (λ run. IsAcyclic run.net run.timing) (RunnableIn words name)
  runnable_proper words name timely =
      proper_then (design_proper words timely) (λ design sound.
      proper_then (built design sound.valid) (λ made is.
      proper_gives (λ run. IsAcyclic run.net run.timing) (record { timing = design.timing; net = made.net; image = made.image }) is))
    where
      built : (design : Timed) → IsValid design.net → IsProper (name ∷ []) (λ made. IsAcyclic made.net design.timing) (BuiltIn name design.net design.timing)
      built design valid =
          proper_then (loop_proper design.net design.timing) (λ passed acyclic.
          proper_then (image_proper name design.net design.timing valid acyclic) (λ image is.
          proper_gives (λ made. IsAcyclic made.net design.timing) (record { net = design.net; image = image }) acyclic))

  -- ---- ends

  trace_proper : (told : Option Turns) (net : Netlist) (timing : Timing) (stimulus : Stimulus) → IsAcyclic net timing → IsProper [] (λ never. ⊥) (Ends (WritesTold told (IsTrace net timing stimulus)))
  trace_proper told net timing stimulus acyclic =
      let simulation = laws.one_simulation net timing stimulus acyclic in
      proper_writes told (IsTrace net timing stimulus) (trace_only net timing stimulus simulation) (trace_some net timing stimulus simulation)

  verdicts_proper : (net : Netlist) (timing : Timing) (stimulus : Stimulus) (faults : List Fault) → HasOneList net timing stimulus faults → IsProper [] (λ never. ⊥) (Ends (Writes (IsFaultList net timing stimulus faults)))
  verdicts_proper net timing stimulus faults one =
      proper_writes None (IsFaultList net timing stimulus faults) only (joined (fault_lines net faults one.verdicts), record { verdicts = one.verdicts; are = one.exists; printed = refl })
    where
      only : (s t : List ℕ) → IsFaultList net timing stimulus faults s → IsFaultList net timing stimulus faults t → s ≡ t
      only s t is is_too = is.printed ∙ ap (λ verdicts. joined (fault_lines net faults verdicts)) (one.only is.verdicts is.are ∙ sym (one.only is_too.verdicts is_too.are)) ∙ sym is_too.printed

  marks_proper : (net : Netlist) (timing : Timing) (stimulus : Stimulus) → HasOneCoverage net timing stimulus → IsProper [] (λ never. ⊥) (Ends (Writes (IsCoverage net timing stimulus)))
  marks_proper net timing stimulus one =
      proper_writes None (IsCoverage net timing stimulus) only (joined (cover_lines net one.marks), record { marks = one.marks; are = one.exists; printed = refl })
    where
      only : (s t : List ℕ) → IsCoverage net timing stimulus s → IsCoverage net timing stimulus t → s ≡ t
      only s t is is_too = is.printed ∙ ap (λ marks. joined (cover_lines net marks)) (one.only is.marks is.are ∙ sym (one.only is_too.marks is_too.are)) ∙ sym is_too.printed

  sheet_proper : (asked : Sheet) (design : Placed) → IsValid design.net → IsValidMachine design.machine → IsValidTiming design.timing → IsAcyclic design.net design.timing → FitsBy design.homes design.net design.machine design.timing
      → IsProper [] (λ never. ⊥) (Ends (Writes (IsSheetOf asked design.homes design.net design.machine design.timing)))
  sheet_proper sheet.Report design valid machine_valid timely acyclic fits =
      let once = laws.once design.homes design.net design.machine design.timing valid in
      proper_writes None (IsReportOf design.homes design.net design.machine design.timing) (one_report design.homes design.net design.machine design.timing once)
      (some_report design.homes design.net design.machine design.timing once (laws.homes design.homes design.net design.machine design.timing valid machine_valid fits))
  sheet_proper sheet.Image design valid machine_valid timely acyclic fits =
      proper_writes None (IsImageTextOf design.homes design.net design.machine design.timing) (one_text design.homes design.net design.machine design.timing (laws.one_image design.homes design.net design.machine design.timing valid))
      (some_text design.homes design.net design.machine design.timing (laws.designs design.homes design.net design.machine design.timing valid machine_valid timely acyclic fits))

  -- with an order file the state after the steps of the order tells the outcome
  ends_proper : (file : Option (List ℕ)) (words : RunWords) (ready : Prepared) → 1 ≤ words.banks → IsRight ready.placed → IsProper (option_to_list file) (λ never. ⊥) (EndsByOrder file words ready)
  unfolding EndsByOrder
  ends_proper None words ready banks right = trace_proper None ready.placed.net ready.placed.timing ready.stimulus right.acyclic
  ends_proper (Some file) words ready banks right =
      let homes = ready.placed.homes in
      let net = ready.placed.net in
      let machine = ready.placed.machine in
      let timing = ready.placed.timing in
      let stimulus = ready.stimulus in
      let simulation = laws.one_simulation net timing stimulus right.acyclic in
      proper_then (order_in_proper file machine) (λ order order_valid.
      proper_ends (EndsInOrder order words.banks homes net machine timing stimulus)
      (order_ending net timing stimulus order words.banks homes machine simulation (laws.decides order words.banks homes net machine timing stimulus banks right.valid))
      (order_outcome net timing stimulus order words.banks homes machine simulation (laws.designs homes net machine timing right.valid right.machine_valid right.timely right.acyclic right.fits)
      order_valid (λ image well within. laws.steps image stimulus words.banks (turn_count timing stimulus) (steps_of order) well banks within)))

  -- ---- commands

  run_proper : (words : RunWords) → IsValidTiming words.timing → IsProper (ready_files words) (λ never. ⊥) (Runs words)
  run_proper words timely = subst (λ files. IsProper files (λ never. ⊥) (Runs words)) (append-nil (ready_files words)) (
      proper_then (ready_proper words timely) (λ ready right.
      trace_proper (Some (run_turns (ports_of ready.placed.machine) words ready.placed.timing ready.placed.net ready.stimulus)) ready.placed.net ready.placed.timing ready.stimulus right.acyclic))

  refer_proper : (words : RunWords) → IsValidTiming words.timing → IsProper (design_files words ++ (words.stimulus ∷ [])) (λ never. ⊥) (Refers words)
  refer_proper words timely =
      proper_then (design_proper words timely) (λ design sound.
      proper_then (loop_proper design.net design.timing) (λ passed acyclic.
      proper_then (stimulus_proper words.stimulus design.net) (λ stimulus fed.
      proper_then (size_proper MAX_CELLS (cell_count design.net stimulus) cells_line) (λ few cells.
      trace_proper None design.net design.timing stimulus acyclic))))

  order_proper : (words : RunWords) → 1 ≤ words.banks → IsValidTiming words.timing → IsProper (ready_files words ++ option_to_list words.order) (λ never. ⊥) (Orders words)
  order_proper words banks timely =
      proper_then (ready_proper words timely) (λ ready right.
      proper_then (size_proper MAX_CELLS (cell_count ready.placed.net ready.stimulus) cells_line) (λ few cells.
      ends_proper words.order words ready banks right))

  layout_proper : (asked : Sheet) (words : RunWords) → IsValidTiming words.timing → IsProper (machine_files words) (λ never. ⊥) (LaysOut asked words)
  layout_proper asked words timely = subst (λ files. IsProper files (λ never. ⊥) (LaysOut asked words)) (append-nil (machine_files words)) (
      proper_then (placed_proper words timely) (λ design right.
      sheet_proper asked design right.valid right.machine_valid right.timely right.acyclic right.fits))

  exec_proper : (words : RunWords) (name : List ℕ) → IsValidTiming words.timing → IsProper (design_files words ++ (name ∷ words.stimulus ∷ [])) (λ never. ⊥) (Executes words name)
  exec_proper words name timely = subst (λ files. IsProper files (λ never. ⊥) (Executes words name)) (append_assoc (design_files words) (name ∷ []) (words.stimulus ∷ [])) (
      proper_then (runnable_proper words name timely) (λ run acyclic.
      proper_then (stimulus_proper words.stimulus run.net) (λ stimulus fed.
      trace_proper (Some (run_turns (length run.image.ports) words run.timing run.net stimulus)) run.net run.timing stimulus acyclic)))

  pack_proper : (words : RunWords) → IsValidTiming words.timing → IsProper (ready_files words) (λ never. ⊥) (Packs words)
  pack_proper words timely =
      proper_then (placed_proper words timely) (λ design right.
      proper_then (size_proper MAX_PACK_BITS (memory_bits design.net) bits_limit_line) (λ few bits.
      proper_then (lanes_proper words.stimulus design.net) (λ lanes fed.
      proper_then (size_proper MAX_CELLS (lane_cell_count design.net lanes) cells_line) (λ fewer cells.
      let one : (stimulus : Stimulus) → HasOneSimulation design.net design.timing stimulus = λ stimulus. laws.one_simulation design.net design.timing stimulus right.acyclic in
      proper_writes (Some (lanes_turns words design lanes)) (AreLaneTraces design.net design.timing lanes) (traces_only design.net design.timing one 0 lanes.lanes) (traces_some design.net design.timing one 0 lanes.lanes)))))

  fault_proper : (words : RunWords) → IsValidTiming words.timing → IsProper (design_files words ++ (option_to_list words.faults ++ (words.stimulus ∷ []))) (λ never. ⊥) (Faults words)
  fault_proper words timely =
      proper_then (design_proper words timely) (λ design sound.
      proper_then (loop_proper design.net design.timing) (λ passed acyclic.
      proper_then (size_proper MAX_FAULT_SIGNALS (length design.net.signals) signals_line) (λ few signals.
      proper_then (faults_proper words.faults design.net) (λ listed are.
      proper_then (stimulus_proper words.stimulus design.net) (λ stimulus fed.
      verdicts_proper design.net design.timing stimulus (listed_or_all design.net listed) (laws.verdicts design.net design.timing stimulus (listed_or_all design.net listed) acyclic are))))))

  cover_proper : (words : RunWords) → IsValidTiming words.timing → IsProper (design_files words ++ (words.stimulus ∷ [])) (λ never. ⊥) (Covers words)
  cover_proper words timely =
      proper_then (design_proper words timely) (λ design sound.
      proper_then (loop_proper design.net design.timing) (λ passed acyclic.
      proper_then (stimulus_proper words.stimulus design.net) (λ stimulus fed.
      marks_proper design.net design.timing stimulus (laws.coverages design.net design.timing stimulus acyclic))))

  show_proper : (file : List ℕ) → IsProper (file ∷ []) (λ never. ⊥) (Shows file)
  show_proper file =
      proper_then (netlist_proper file) (λ net valid.
      proper_writes None (λ output. output ≡ canonical_text net) (λ s t e f. e ∙ sym f) (canonical_text net, refl))

  large_proper : (gates cycles workers : ℕ) → gates ≤ MAX_LARGE_GATES → IsProper [] (λ never. ⊥) (RunsLarge gates cycles workers)
  large_proper gates cycles workers few =
      let told = Some (large_turns cycles workers) in
      let summary = laws.summaries gates cycles few in
      proper_ends (λ o. WritesTold told (IsSummaryOf gates cycles) o ⊎ (o ≡ telling told out_of_memory))
      (full_ending told (WritesTold told (IsSummaryOf gates cycles)) (writes_ending told (IsSummaryOf gates cycles) (λ s t is is_too. laws.one_summary gates cycles s t few is is_too)))
      (telling told (done summary.0), inl (summary.0, summary.1, refl), λ e. cc)

  help_proper : (topic : Option Topic) → IsProper [] (λ never. ⊥) (Helps topic)
  help_proper topic = proper_writes None (λ output. output ≡ text_of topic) (λ s t e f. e ∙ sym f) (text_of topic, refl)

  command_proper : (asked : Command) → IsInRange asked → IsProper (files_of asked) (λ never. ⊥) (CallOf asked)
  command_proper (command.Run words) range = run_proper words range.timing
  command_proper (command.Refer words) range = refer_proper words range.timing
  command_proper (command.Order words) range = order_proper words range.banks_some range.timing
  command_proper (command.Plan words) range = layout_proper sheet.Report words range.timing
  command_proper (command.Compile words) range = layout_proper sheet.Image words range.timing
  command_proper (command.Exec words image) range = exec_proper words image range.timing
  command_proper (command.Pack words) range = pack_proper words range.timing
  command_proper (command.Fault words) range = fault_proper words range.timing
  command_proper (command.Cover words) range = cover_proper words range.timing
  command_proper (command.Show file) range = show_proper file
  command_proper (command.Large gates cycles workers) range = large_proper gates cycles workers range.gates_few
  command_proper (command.Help topic) range = help_proper topic

  -- ---- words

  asked_as : (words : List (List ℕ)) (one : Command) → HasForm words one → asked words ≡ Some one
  asked_as words one has = (laws.forms words one).1 has

  words_check : (words : List (List ℕ)) → IsAnswered (Asks words)
  words_check words = record {
    once = record {
      values = λ x y has has_too. same x y (sym (asked_as words x has) ∙ asked_as words y has_too);
      either = λ x o has refused. refused.0 x has;
      refusals = λ o p refused refused_too. alike o p (refused.1 ∙ sym refused_too.1);
    };
    not_memory = λ o refused memory. not_memory (words_status o refused.1) memory;
    not_read = λ o refused read. not_read (words_status o refused.1) read;
    not_written = λ o refused written. not_written (words_status o refused.1) written;
    some = some (asked words) refl;
  }
    where
      same : (x y : Command) → Some x ≡ Some y → x ≡ y
      same x y e = cc

      some : (o : Option Command) → asked words ≡ o → ((x : Command) × Asks words (Ok x)) ⊎ ((o : Outcome) × Asks words (Err o))
      some None is = inr (refusal status.Words usage_line, ((λ command has. none_some (sym is ∙ asked_as words command has)), refl))
      some (Some command) is = inl (command, (laws.forms words command).0 is)

  call_sound : (words : List (List ℕ)) → IsSound (files_named (asked words)) (λ never. ⊥) (CallFor words)
  call_sound words =
      sound_then (sound_checks (Asks words) (words_check words)) (λ command has.
      subst (λ a. IsSound (files_named a) (λ never. ⊥) (CallOf command)) (sym (asked_as words command has)) (command_proper command (laws.in_range words command has)).sound)

  asked_words : (words : List (List ℕ)) (readings : List Reading) (outcome : Outcome) → CallFor words readings (Err outcome) → outcome.status ≢ status.Memory → (outcome.status ≡ status.Words) ↔ (asked words ≡ None)
  asked_words words readings outcome (inl (taken, left, e, command, (none, inl has), next)) other =
      (λ s. absurd (not_words outcome.status ((command_proper command (laws.in_range words command has)).statuses left outcome next) s), λ none. absurd (none_some (sym none ∙ asked_as words command has)))
  asked_words words readings outcome (inl (taken, left, e, command, (none, inr never), next)) other = absurd (no_ok command _ never)
  asked_words words readings outcome (inr (none, inl refused)) other = (λ s. no_command (asked words) refl, λ n. words_status outcome refused.1)
    where
      no_command : (o : Option Command) → asked words ≡ o → asked words ≡ None
      no_command None is = is
      no_command (Some command) is = absurd (refused.0 command ((laws.forms words command).0 is))
  asked_words words readings outcome (inr (none, inr memory)) other = absurd (other (memory_status outcome (same_err {X = Command} outcome out_of_memory memory)))

pub returns : goal.returns
unfolding Expected
returns c =
    let laws : Laws = record {
      netlists = c.reads_or_faults.ensures.reader;
      stimuli = c.reads_or_faults-2.ensures.reader;
      machines = c.reads_or_faults-3.ensures.reader;
      orders = c.reads_or_faults-4.ensures.reader;
      lists = c.reads_or_faults-5.ensures.reader;
      forms = c.forms_are_asked.ensures;
      in_range = c.forms_are_in_range.ensures;
      decides = λ order banks choice net machine timing stimulus some valid image other one two made made_too after after_too.
          let linked = subst (λ i. AreLinkedAlike i other) made.image_is (subst (AreLinkedAlike made.chosen.compiled.image) made_too.image_is
          (c.one_linking_chosen.ensures choice net machine timing made.chosen made_too.chosen valid made.is made_too.is)) in
          let same =
          c.links_decide.ensures image other stimulus stimulus banks (turn_count timing stimulus) (steps_of order) after.answers after_too.answers one two
          (subst IsWellFormed made.image_is made.is.design.built.fits) (subst IsWellFormed made_too.image_is made_too.is.design.built.fits) linked some after.steps after_too.steps in
          done_alike (turn_count timing stimulus) image other one two linked same.1 same.2;
      images = c.reads_or_faults-6.ensures.reader;
      lanes = c.reads_or_faults-7.ensures.reader;
      coverages = c.one_coverage.ensures;
      verdicts = c.one_list-2.ensures.one;
      all_faults = c.one_list-2.ensures.all;
      faults_lists = c.reads_or_faults-8.ensures.reader;
      stuck = c.reads_as_faults.ensures;
      accepted = λ net timing file valid acyclic has. accepted_check net timing file (c.one_list.ensures.one net timing)
          (λ nodes. c.matches_or_not.ensures.one file nodes timing)
          (elim (c.order_or_loop.ensures.one net timing) [
            | inl (order, is) ↦ (let items = c.items_exist.ensures net timing order valid is in record { nodes = items.0; items = items.1; answer = c.matches_or_not.ensures.some file items.0 timing has })
            | inr (loop, is) ↦ absurd (acyclic loop is.circle)
          ]);
      designs = λ choice net machine timing valid machine_valid timely acyclic fits. elim (c.order_or_loop.ensures.one net timing) [
        | inl (order, is) ↦ (
            let items = c.items_exist.ensures net timing order valid is in
            let made = c.designs_exist.ensures choice net machine timing items.0 valid machine_valid timely items.1 items.2 fits in
            record { chosen = made.0; claims = made.1; is = made.2; are = made.3 })
        | inr (loop, is) ↦ absurd (acyclic loop is.circle)
      ];
      one_image = λ choice net machine timing valid one other claims claims_too is is_too are are_too. c.one_image.ensures choice net machine timing one other claims claims_too valid is is_too are are_too;
      valid_orders = c.reads_as_valid-2.ensures.valid;
      ascending = c.reads_as_ascending.ensures;
      steps = c.steps_exist.ensures;
      valid_machines = c.reads_as_valid.ensures;
      default_valid = default_is_valid;
      valid_netlists = c.texts_read_as_valid.ensures;
      room = λ choice net machine timing valid machine_valid acyclic. record {
        some = elim (c.order_or_loop.ensures.one net timing) [
          | inl (order, is) ↦
              let items = c.items_exist.ensures net timing order valid is in
              c.fits_by_or_refused.ensures choice net machine timing items.0 valid machine_valid acyclic items.1
          | inr (loop, is) ↦ absurd (acyclic loop is.circle)
        ];
        one = λ why other is is_too right right_too. c.one_refusal.ensures net machine timing valid why other right right_too is is_too;
      };
      summaries = c.one_summary.ensures.some;
      one_summary = c.one_summary.ensures.one;
      once = λ choice net machine timing valid. record {
        formed = λ nodes items. c.items_are_well_formed.ensures net timing nodes valid items.items;
        items = c.one_list.ensures.one net timing;
        one = λ a b plain other items items_too picked picked_too used used_too fit fit_too.
            c.one_use.ensures choice net machine timing a b plain other valid items items_too picked picked_too used used_too fit fit_too;
      };
      homes = λ choice net machine timing valid machine_valid fits.
          has_homes net machine timing machine_valid (λ nodes items. c.items_are_well_formed.ensures net timing nodes valid items.items)
          (λ nodes start. c.some_better.ensures nodes machine start) (λ nodes start. c.one_better.ensures nodes machine start)
          (λ nodes homes formed housed. elim (c.planned_or_refused.ensures.some nodes machine homes formed housed) [
            | inl fit ↦ inl fit
            | inr none ↦ inr (λ fit. elim none [
              | inl long ↦ c.planned_or_refused.ensures.slots nodes machine homes formed fit long.0 long.1 long.2
              | inr crowded ↦ c.planned_or_refused.ensures.functions nodes machine homes fit crowded.0 crowded.1 crowded.2 crowded.3
            ])
          ]) choice fits;
      order_or_loop = c.order_or_loop.ensures.one;
      never_both = c.order_or_loop.ensures.never_both;
      one_simulation = c.one_simulation.ensures.without_loop;
    } in
    record {
      proper = λ words. law_of (files_named (asked words)) (CallFor words) (call_sound laws words);
      outcomes = λ words. outcome_of (files_named (asked words)) (CallFor words) (call_sound laws words);
      words = record {
        refused = asked_words laws;
        forms = c.forms_are_asked.ensures;
      };
    }
