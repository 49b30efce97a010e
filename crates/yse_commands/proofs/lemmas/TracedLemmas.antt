-- What the files of a call say of its outcome: the output of a simulation is the trace of what they read as, and the gates
-- are told of its turns.
use Rattle.std.proofs.Common.{◌≡◌, ◌∙◌, sym, ap, refl, subst, inl, inr, ℕ, List, length, Option, Some, None, Ok, Err}
use Rattle.std.proofs.lemmas.Option.{none-some}
use Rattle.cmd_words.specs.declared.{command.Command.Command, command.RunWords.RunWords, topic.Topic.Topic}
use Rattle.cmd_words.specs.declared.command.Command.TheVariants as command
use Rattle.help_text.specs.Texts.{text_of as help_of}
use Rattle.machine_text.specs.{declared.machine.Machine.Machine, Machines.default_machine, Machines.ports_of}
use Rattle.net_defs.specs.declared.{homes.HomeChoice.HomeChoice, faults.Fault.Fault, netlist.Netlist.Netlist, stimulus.Stimulus.Stimulus, timing.Timing.Timing}
use Rattle.event_defs.specs.Steps.{CoreState}
use Rattle.net_defs.specs.{Canonical.canonical_text, Reference.IsSimulation, Steps.State, Trace.IsTrace}
use Rattle.image_defs.specs.declared.{file.ImageFile.ImageFile, image.Image.Image}
use Rattle.stim_text.specs.declared.{lanes.Lanes.Lanes, order.Order.Order}
use Rattle.refusals.specs.{declared.status.Status.Status, Lines.bits_limit_line, Lines.cells_line, Lines.signals_line}
use Rattle.refusals.specs.declared.status.Status.TheVariants as status
use Rattle.call_steps.specs.Checks.{HasFewBits, HasFewCells, HasFewLaneCells, HasFewSignals, HasNoLoop, HasRoom, IsFaultListOf, IsLanesOf, IsListOf, IsMachineOf, IsNetlistOf, IsOrderOf, IsStimulusOf, IsWithin, listing}
use Rattle.call_steps.specs.{declared.checks.Built.Built, declared.designs.Runnable.Runnable, declared.reading.Timed.Timed, Designs.Placed, Designs.Prepared, Images.IsAccepted, Images.IsImageFileOf}
use Rattle.call_steps.specs.FileSteps.{BuiltIn, DesignOf, FaultsFrom, ImageIn, LanesIn, MachineFrom, NetlistIn, OrderIn, PlacedOnMachine, ReadyOnMachine, RunnableIn, StimulusIn, TimingFrom}
use Rattle.call_steps.specs.{Outcome.Outcome, Outcome.Turns, Readings.Reading, Steps.Call, Steps.Checks}
use Rattle.yse_commands.specs.Traced.{AreFaultsOfFile, AreLanesOfFiles, AreOfFiles, AreTracesOfFiles, IsCoverageOfFiles, IsFaultListOfFiles, IsOutputOfFiles, IsTimingOfFile, IsTraceOfFiles}
use Rattle.yse_commands.specs.Visited.{AreTold as AreToldOf, AreTurnsOf, AreTurnsOfFiles, AreTurnsOfImage, AreTurnsOfLanes, IsImageOfFile, IsMachineOfFile}
use Rattle.yse_commands.specs.commands.{Cover.Covers, Cover.IsCoverage, Exec.Executes, Fault.Faults, Fault.IsFaultList, Fault.listed_or_all, Help.Helps, Large.RunsLarge, Layout.IsSheetOf, Layout.LaysOut}
use Rattle.yse_commands.specs.commands.{Pack.AreLaneTraces, Pack.Packs, Run.EndsByOrder, Run.Orders, Run.Refers, Run.Runs, Show.Shows}
use Rattle.yse_commands.specs.{declared.layout.Sheet.Sheet, Ends.MayWrite, Expected.CallOf, Orders.EndsIn, Orders.EndsInOrder, Told.lanes_turns, Told.run_turns}
use Rattle.yse_commands.specs.declared.layout.Sheet.TheVariants as sheet
use Rattle.yse_commands.proofs.lemmas.ReachLemmas.{AreAsTold, AreTold, Concludes, Goes, IsOfFile, Reaches, all_told, never, reaches_check, reaches_file, reaches_gives, reaches_then, says, says_ends, says_writes}

-- a list changes no turn
pub same_units : (bytes : Option (List ℕ → List ℕ)) (last : Option (List ℕ)) (net : Netlist) (given timing : Timing) → IsTimingOfFile bytes last net given timing → timing.units ≡ given.units
same_units bytes None net given timing is = ap (λ (t : Timing). t.units) is
same_units bytes (Some file) net given timing (text, listed, told, reads, is) = ap (λ (t : Timing). t.units) is

-- turns with so many units
abbrev with_units : ℕ → Turns → Turns
with_units u turns = record turns { units = u }

module _ (bytes : Option (List ℕ → List ℕ)) where
  -- ---- the steps

  no_loop : (net : Netlist) (timing : Timing) → Reaches bytes (Checks (HasNoLoop net timing)) (λ passed. HasNoLoop net timing (Ok passed))
  no_loop net timing = reaches_check bytes (HasNoLoop net timing) (λ o e. never status.Loop _ o e.2 (λ w. w))

  has_room : (choice : HomeChoice) (net : Netlist) (machine : Machine) (timing : Timing) → Reaches bytes (Checks (HasRoom choice net machine timing)) (λ passed. HasRoom choice net machine timing (Ok passed))
  has_room choice net machine timing = reaches_check bytes (HasRoom choice net machine timing) (λ o e. never status.Overfull _ o e.4 (λ w. w))

  within : (most size : ℕ) (line : ℕ → List ℕ) → Reaches bytes (Checks (IsWithin most size line)) (λ passed. IsWithin most size line (Ok passed))
  within most size line = reaches_check bytes (IsWithin most size line) (λ o e. never status.Limit _ o e.1 (λ w. w))

  abbrev IsNetlistIn : List ℕ → Netlist → Type 0
  IsNetlistIn file = IsOfFile bytes file IsNetlistOf

  netlist_in : (file : List ℕ) → Reaches bytes (NetlistIn file) (IsNetlistIn file)
  netlist_in file = reaches_file bytes file IsNetlistOf (λ text o e. never status.Netlist _ o e.2 (λ w. w))

  abbrev IsStimulusIn : List ℕ → Netlist → Stimulus → Type 0
  IsStimulusIn file net = IsOfFile bytes file (λ text. IsStimulusOf text net)

  pub stimulus_in : (file : List ℕ) (net : Netlist) → Reaches bytes (StimulusIn file net) (IsStimulusIn file net)
  stimulus_in file net = reaches_file bytes file (λ text. IsStimulusOf text net) (λ text o e. never status.Stimulus _ o e.2 (λ w. w))

  lanes_in : (file : List ℕ) (net : Netlist) → Reaches bytes (LanesIn file net) (IsOfFile bytes file (λ text. IsLanesOf text net))
  lanes_in file net = reaches_file bytes file (λ text. IsLanesOf text net) (λ text o e. never status.Stimulus _ o e.2 (λ w. w))

  order_in : (file : List ℕ) (machine : Machine) → Reaches bytes (OrderIn file machine) (IsOfFile bytes file (λ text. IsOrderOf text machine))
  order_in file machine = reaches_file bytes file (λ text. IsOrderOf text machine) (λ text o e. never status.OrderText _ o e.2 (λ w. w))

  pub machine_from : (file : Option (List ℕ)) → Reaches bytes (MachineFrom file) (IsMachineOfFile bytes file)
  unfolding MachineFrom
  machine_from None = reaches_gives bytes default_machine (IsMachineOfFile bytes None) refl
  machine_from (Some file) = reaches_file bytes file IsMachineOf (λ text o e. never status.Machine _ o e.2 (λ w. w))

  timing_from : (last : Option (List ℕ)) (net : Netlist) (given : Timing) → Reaches bytes (TimingFrom last net given) (IsTimingOfFile bytes last net given)
  unfolding TimingFrom
  timing_from None net given = reaches_gives bytes given (IsTimingOfFile bytes None net given) refl
  timing_from (Some file) net given =
      reaches_then bytes (reaches_file bytes file (λ text. IsListOf text net) (λ text o e. never status.LastList _ o e.2 (λ w. w))) (λ listed.
      reaches_gives bytes (listing given listed) (λ timing. IsOfFile bytes file (λ text. IsListOf text net) listed → IsTimingOfFile bytes (Some file) net given timing) (λ is. (is.0, listed, is.1, is.2, refl)))

  faults_from : (file : Option (List ℕ)) (net : Netlist) → Reaches bytes (FaultsFrom file net) (λ listed. AreFaultsOfFile bytes file net (listed_or_all net listed))
  unfolding FaultsFrom
  faults_from None net = reaches_gives bytes None (λ listed. AreFaultsOfFile bytes None net (listed_or_all net listed)) refl
  faults_from (Some file) net =
      reaches_then bytes (reaches_file bytes file (λ text. IsFaultListOf text net) (λ text o e. never status.FaultList _ o e.2 (λ w. w))) (λ faults.
      reaches_gives bytes (Some faults) (λ listed. IsOfFile bytes file (λ text. IsFaultListOf text net) faults → AreFaultsOfFile bytes (Some file) net (listed_or_all net listed)) (λ is. is))

  -- the netlist and its timing
  abbrev IsTimedIn : RunWords → Timed → Type 0
  IsTimedIn words design = IsNetlistIn words.netlist design.net × IsTimingOfFile bytes words.last design.net words.timing design.timing

  pub design_of : (words : RunWords) → Reaches bytes (DesignOf words) (IsTimedIn words)
  design_of words =
      reaches_then bytes (netlist_in words.netlist) (λ net.
      reaches_then bytes (timing_from words.last net words.timing) (λ timing.
      reaches_gives bytes (record { net = net; timing = timing }) (λ design. IsTimingOfFile bytes words.last net words.timing timing → IsNetlistIn words.netlist net → IsTimedIn words design) (λ is of. (of, is))))

  -- a design on the machine of the files
  abbrev IsPlacedIn : RunWords → Placed → Type 0
  IsPlacedIn words placed = IsMachineOfFile bytes words.machine placed.machine × IsTimedIn words (record { net = placed.net; timing = placed.timing })

  pub placed_on : (words : RunWords) → Reaches bytes (PlacedOnMachine words) (IsPlacedIn words)
  placed_on words =
      reaches_then bytes (machine_from words.machine) (λ machine.
      reaches_then bytes (design_of words) (λ design.
      reaches_then bytes (no_loop design.net design.timing) (λ passed.
      reaches_then bytes (has_room words.homes design.net machine design.timing) (λ fits.
      reaches_gives bytes (record { homes = words.homes; machine = machine; timing = design.timing; net = design.net })
      (λ placed. HasRoom words.homes design.net machine design.timing (Ok fits) → HasNoLoop design.net design.timing (Ok passed) → IsTimedIn words design → IsMachineOfFile bytes words.machine machine → IsPlacedIn words placed)
      (λ room loop on of. (of, on))))))

  -- and its stimulus
  abbrev IsReadyIn : RunWords → Prepared → Type 0
  IsReadyIn words ready = IsPlacedIn words ready.placed × IsStimulusIn words.stimulus ready.placed.net ready.stimulus

  pub ready_on : (words : RunWords) → Reaches bytes (ReadyOnMachine words) (IsReadyIn words)
  ready_on words =
      reaches_then bytes (placed_on words) (λ placed.
      reaches_then bytes (stimulus_in words.stimulus placed.net) (λ stimulus.
      reaches_gives bytes (record { placed = placed; stimulus = stimulus }) (λ ready. IsStimulusIn words.stimulus placed.net stimulus → IsPlacedIn words placed → IsReadyIn words ready) (λ fed on. (on, fed))))

  -- a design and an image of a file, which it accepts
  abbrev IsImageIn : List ℕ → Image → Type 0
  IsImageIn name image = (file : ImageFile) × IsImageOfFile bytes name file × (file.image ≡ image)

  image_in : (name : List ℕ) (net : Netlist) (timing : Timing) → Reaches bytes (ImageIn name net timing) (IsImageIn name)
  image_in name net timing =
      reaches_then bytes (reaches_file bytes name IsImageFileOf (λ text o e. never status.ImageText _ o e.2 (λ w. w))) (λ file.
      reaches_then bytes (reaches_check bytes (IsAccepted net timing file) (λ o e. never status.ImageMatch _ o e.5 (λ w. w))) (λ accepted.
      reaches_gives bytes file.image (λ image. IsAccepted net timing file (Ok accepted) → IsOfFile bytes name IsImageFileOf file → IsImageIn name image) (λ is of. (file, of, refl))))

  abbrev IsRunnableIn : RunWords → List ℕ → Runnable → Type 0
  IsRunnableIn words name run = IsTimedIn words (record { net = run.net; timing = run.timing }) × IsImageIn name run.image

  runnable_in : (words : RunWords) (name : List ℕ) → Reaches bytes (RunnableIn words name) (IsRunnableIn words name)
  runnable_in words name =
      reaches_then bytes (design_of words) (λ design.
      reaches_then bytes (built design) (λ made.
      reaches_gives bytes (record { timing = design.timing; net = made.net; image = made.image }) (λ run. (made.net ≡ design.net) × IsImageIn name made.image → IsTimedIn words design → IsRunnableIn words name run)
      (λ is on. (subst (λ net. IsTimedIn words (record { net = net; timing = design.timing })) (sym is.0) on, is.1))))
    where
      built : (design : Timed) → Reaches bytes (BuiltIn name design.net design.timing) (λ made. (made.net ≡ design.net) × IsImageIn name made.image)
      built design =
          reaches_then bytes (no_loop design.net design.timing) (λ passed.
          reaches_then bytes (image_in name design.net design.timing) (λ image.
          reaches_gives bytes (record { net = design.net; image = image }) (λ made. IsImageIn name image → HasNoLoop design.net design.timing (Ok passed) → (made.net ≡ design.net) × IsImageIn name made.image) (λ is loop. (refl, is))))

  -- ---- what the outcome says

  of_files : (words : RunWords) (net : Netlist) (stimulus : Stimulus) → IsNetlistIn words.netlist net → IsStimulusIn words.stimulus net stimulus → AreOfFiles bytes words net stimulus
  of_files words net stimulus one other = record {
    netlist_text = one.0;
    netlist_told = one.1;
    netlist_reads = one.2;
    stimulus_text = other.0;
    stimulus_told = other.1;
    stimulus_reads = other.2;
  }

  abbrev IsRun : RunWords → (Option Turns → Type 0) → Outcome → Type 0
  IsRun words AreTurns o = IsTraceOfFiles bytes o.output words × AreTurns o.told × (o.status ≡ status.Done)

  run_says : (words : RunWords) → Concludes bytes (Runs words) (IsRun words (AreTurnsOfFiles bytes words))
  run_says words =
      says bytes (ready_on words) (λ ready is.
      let design = ready.placed in
      let stimulus = ready.stimulus in
      let ((machine_is, (netlist_is, timing_is)), fed) = is in
      let files = of_files words design.net stimulus netlist_is fed in
      let turns : ℕ → Turns = λ units. with_units units (run_turns (ports_of design.machine) words design.timing design.net stimulus) in
      says_writes bytes (Some (turns design.timing.units)) (IsTrace design.net design.timing stimulus) (IsRun words (AreTurnsOfFiles bytes words)) (λ o wrote told done. (
        record { net = design.net; stimulus = stimulus; are = files; timing = design.timing; timing_is = timing_is; trace = wrote },
        record {
          machine = design.machine;
          machine_is = machine_is;
          net = design.net;
          stimulus = stimulus;
          are = files;
          turns = told ∙ ap (λ u. Some (turns u)) (same_units bytes words.last design.net words.timing design.timing timing_is);
        },
        done,
      )))

  exec_says : (words : RunWords) (name : List ℕ) → Concludes bytes (Executes words name) (IsRun words (AreTurnsOfImage bytes words name))
  exec_says words name =
      says bytes (runnable_in words name) (λ run is.
      says bytes (stimulus_in words.stimulus run.net) (λ stimulus fed.
      let ((netlist_is, timing_is), (file, image_is, same)) = is in
      let files = of_files words run.net stimulus netlist_is fed in
      let turns : ℕ → Image → Turns = λ units image. with_units units (run_turns (length image.ports) words run.timing run.net stimulus) in
      says_writes bytes (Some (turns run.timing.units run.image)) (IsTrace run.net run.timing stimulus) (IsRun words (AreTurnsOfImage bytes words name)) (λ o wrote told done. (
        record { net = run.net; stimulus = stimulus; are = files; timing = run.timing; timing_is = timing_is; trace = wrote },
        record {
          image = file;
          image_is = image_is;
          net = run.net;
          stimulus = stimulus;
          are = files;
          turns = told ∙ ap (λ u. Some (turns u run.image)) (same_units bytes words.last run.net words.timing run.timing timing_is) ∙ ap (λ i. Some (turns words.timing.units i)) (sym same);
        },
        done,
      ))))

  abbrev IsPacked : RunWords → Outcome → Type 0
  IsPacked words o = AreTracesOfFiles bytes o.output words × AreTurnsOfLanes bytes words o.told × (o.status ≡ status.Done)

  pack_says : (words : RunWords) → Concludes bytes (Packs words) (IsPacked words)
  pack_says words =
      says bytes (placed_on words) (λ design is.
      says bytes (within _ _ bits_limit_line) (λ few bits.
      says bytes (lanes_in words.stimulus design.net) (λ lanes fed.
      says bytes (within _ _ cells_line) (λ fewer cells.
      let (machine_is, (netlist_is, timing_is)) = is in
      let files : AreLanesOfFiles bytes words design.net lanes = record {
        netlist_text = netlist_is.0;
        netlist_told = netlist_is.1;
        netlist_reads = netlist_is.2;
        lanes_text = fed.0;
        lanes_told = fed.1;
        lanes_read = fed.2;
      } in
      let turns : ℕ → Turns = λ units. with_units units (lanes_turns words design lanes) in
      says_writes bytes (Some (turns design.timing.units)) (AreLaneTraces design.net design.timing lanes) (IsPacked words) (λ o wrote told done. (
        record { net = design.net; lanes = lanes; are = files; timing = design.timing; timing_is = timing_is; traces = wrote },
        record {
          machine = design.machine;
          machine_is = machine_is;
          net = design.net;
          lanes = lanes;
          are = files;
          turns = told ∙ ap (λ u. Some (turns u)) (same_units bytes words.last design.net words.timing design.timing timing_is);
        },
        done,
      ))))))

  -- commands that tell no gate anything
  abbrev IsSilent : (Outcome → Type 0) → Outcome → Type 0
  IsSilent Is o = Is o × (o.told ≡ None)

  refer_says : (words : RunWords) → Concludes bytes (Refers words) (IsSilent (λ o. IsTraceOfFiles bytes o.output words))
  refer_says words =
      says bytes (design_of words) (λ design on.
      says bytes (no_loop design.net design.timing) (λ passed acyclic.
      says bytes (stimulus_in words.stimulus design.net) (λ stimulus fed.
      says bytes (within _ _ cells_line) (λ few cells.
      says_writes bytes None (IsTrace design.net design.timing stimulus) (IsSilent (λ o. IsTraceOfFiles bytes o.output words)) (λ o wrote told done.
      (record { net = design.net; stimulus = stimulus; are = of_files words design.net stimulus on.0 fed; timing = design.timing; timing_is = on.1; trace = wrote }, told))))))

  fault_says : (words : RunWords) → Concludes bytes (Faults words) (IsSilent (λ o. IsFaultListOfFiles bytes o.output words))
  fault_says words =
      says bytes (design_of words) (λ design on.
      says bytes (no_loop design.net design.timing) (λ passed acyclic.
      says bytes (within _ _ signals_line) (λ few signals.
      says bytes (faults_from words.faults design.net) (λ listed are.
      says bytes (stimulus_in words.stimulus design.net) (λ stimulus fed.
      let faults = listed_or_all design.net listed in
      says_writes bytes None (IsFaultList design.net design.timing stimulus faults) (IsSilent (λ o. IsFaultListOfFiles bytes o.output words)) (λ o wrote told done. (
        record {
          net = design.net;
          stimulus = stimulus;
          are = of_files words design.net stimulus on.0 fed;
          timing = design.timing;
          timing_is = on.1;
          faults = faults;
          faults_are = are;
          list = wrote;
        },
        told,
      )))))))

  cover_says : (words : RunWords) → Concludes bytes (Covers words) (IsSilent (λ o. IsCoverageOfFiles bytes o.output words))
  cover_says words =
      says bytes (design_of words) (λ design on.
      says bytes (no_loop design.net design.timing) (λ passed acyclic.
      says bytes (stimulus_in words.stimulus design.net) (λ stimulus fed.
      says_writes bytes None (IsCoverage design.net design.timing stimulus) (IsSilent (λ o. IsCoverageOfFiles bytes o.output words)) (λ o wrote told done.
      (record { net = design.net; stimulus = stimulus; are = of_files words design.net stimulus on.0 fed; timing = design.timing; timing_is = on.1; coverage = wrote }, told)))))

  -- an order that ended early writes no whole trace
  abbrev IsOrdered : Prepared → Outcome → Type 0
  IsOrdered ready = IsSilent (λ o. o.status ≡ status.Done → IsTrace ready.placed.net ready.placed.timing ready.stimulus o.output)

  ordered : (ready : Prepared) (o : Outcome) (states : List State) (simulation : IsSimulation ready.placed.net ready.placed.timing ready.stimulus states) (image : Image) (state : CoreState) → EndsIn ready.placed.net ready.placed.timing ready.stimulus states image state o → IsOrdered ready o
  ordered ready o states simulation image state (inl (all, same)) = ((λ well. record { states = states; simulation = simulation; printed = ap (λ (p : Outcome). p.output) same }), ap (λ (p : Outcome). p.told) same)
  ordered ready o states simulation image state (inr (some, same)) = ((λ well. absurd (unfinished (sym (ap (λ (p : Outcome). p.status) same) ∙ well))), ap (λ (p : Outcome). p.told) same)
    where
      unfinished : status.Unfinished ≡ status.Done → ⊥
      unfinished e = cc

  ends_say : (file : Option (List ℕ)) (words : RunWords) (ready : Prepared) → Concludes bytes (EndsByOrder file words ready) (IsOrdered ready)
  unfolding EndsByOrder
  ends_say None words ready = says_writes bytes None (IsTrace ready.placed.net ready.placed.timing ready.stimulus) (IsOrdered ready) (λ o wrote told done. ((λ well. wrote), told))
  ends_say (Some file) words ready =
      says bytes (order_in file ready.placed.machine) (λ order is.
      says_ends bytes (EndsInOrder order words.banks ready.placed.homes ready.placed.net ready.placed.machine ready.placed.timing ready.stimulus) (IsOrdered ready) (λ o end.
      ordered ready o end.states end.simulation end.image end.state end.ends))

  order_says : (words : RunWords) → Concludes bytes (Orders words) (IsSilent (λ o. o.status ≡ status.Done → IsTraceOfFiles bytes o.output words))
  order_says words =
      says bytes (ready_on words) (λ ready is.
      says bytes (within _ _ cells_line) (λ few cells.
      let end = ends_say words.order words ready in
      record {
        says = λ readings o are step goes.
            let said = end.says readings o are step goes in
            ((λ well. record { net = ready.placed.net; stimulus = ready.stimulus; are = of_files words ready.placed.net ready.stimulus is.0.1.0 is.1; timing = ready.placed.timing; timing_is = is.0.1.1; trace = said.0 well }), said.1);
      }))

  layout_says : (asked : Sheet) (words : RunWords) → Concludes bytes (LaysOut asked words) (λ o. o.told ≡ None)
  layout_says asked words =
      says bytes (placed_on words) (λ design is.
      says_writes bytes None (IsSheetOf asked design.homes design.net design.machine design.timing) (λ o. o.told ≡ None) (λ o wrote told done. told))

  show_says : (file : List ℕ) → Concludes bytes (Shows file) (λ o. o.told ≡ None)
  show_says file =
      says bytes (netlist_in file) (λ net is.
      says_writes bytes None (λ output. output ≡ canonical_text net) (λ o. o.told ≡ None) (λ o wrote told done. told))

  help_says : (topic : Option Topic) → Concludes bytes (Helps topic) (IsSilent (λ o. o.output ≡ help_of topic))
  help_says topic = says_writes bytes None (λ output. output ≡ help_of topic) (IsSilent (λ o. o.output ≡ help_of topic)) (λ o wrote told done. (wrote, told))

  module _ (o : Outcome) (readings : List Reading) (are : AreAsTold bytes readings) where
    pub command_traced : (asked : Command) → o.status ≡ status.Done → CallOf asked readings (Err o) → IsOutputOfFiles bytes o.output (Some asked)
    command_traced asked well step = by asked step
      where
        goes : Goes o
        goes none = subst MayWrite (sym well) tt

        told : AreTold bytes readings
        told = all_told bytes readings are

        by : (asked : Command) → CallOf asked readings (Err o) → IsOutputOfFiles bytes o.output (Some asked)
        by (command.Run words) step = ((run_says words).says readings o told step goes).0
        by (command.Refer words) step = ((refer_says words).says readings o told step goes).0
        by (command.Order words) step = ((order_says words).says readings o told step goes).0 well
        by (command.Exec words image) step = ((exec_says words image).says readings o told step goes).0
        by (command.Pack words) step = ((pack_says words).says readings o told step goes).0
        by (command.Fault words) step = ((fault_says words).says readings o told step goes).0
        by (command.Cover words) step = ((cover_says words).says readings o told step goes).0
        by (command.Help topic) step = ((help_says topic).says readings o told step goes).0
        by _ step = tt

    -- nothing is told where an outcome that isn't refused tells nothing
    silent : (Goes o → o.told ≡ None) → o.told ≡ None
    silent says = by o.told refl
      where
        by : (told : Option Turns) → o.told ≡ told → o.told ≡ None
        by None is = is
        by (Some turns) is = says (λ none. absurd (none-some turns (sym none ∙ is)))

    told_so : {Output Written : Type 0} → (Goes o → Output × Written × (o.status ≡ status.Done)) → AreToldOf o.status Written (o.told ≡ None)
    told_so says = record {
      written = λ may. (says (λ none. may)).1;
      left = λ never. silent (λ goes. absurd (never (subst MayWrite (sym (says goes).2) tt)));
    }

    large_told : (gates cycles workers : ℕ) → RunsLarge gates cycles workers readings (Err o) → AreTurnsOf bytes o.status (Some (command.Large gates cycles workers)) o.told
    large_told gates cycles workers (none, inl (inl (text, is, same))) = record { written = λ may. ap (λ (p : Outcome). p.told) same; left = λ never. inr (ap (λ (p : Outcome). p.told) same) }
    large_told gates cycles workers (none, inl (inr full)) = record { written = λ may. ap (λ (p : Outcome). p.told) full; left = λ never. inr (ap (λ (p : Outcome). p.told) full) }
    large_told gates cycles workers (none, inr memory) = record { written = λ may. absurd (subst MayWrite (ap (λ (p : Outcome). p.status) memory) may); left = λ never. inl (ap (λ (p : Outcome). p.told) memory) }

    pub command_told : (asked : Command) → CallOf asked readings (Err o) → AreTurnsOf bytes o.status (Some asked) o.told
    command_told asked step = by asked step
      where
        told : AreTold bytes readings
        told = all_told bytes readings are

        by : (asked : Command) → CallOf asked readings (Err o) → AreTurnsOf bytes o.status (Some asked) o.told
        by (command.Run words) step = told_so ((run_says words).says readings o told step)
        by (command.Exec words image) step = told_so ((exec_says words image).says readings o told step)
        by (command.Pack words) step = told_so ((pack_says words).says readings o told step)
        by (command.Large gates cycles workers) step = large_told gates cycles workers step
        by (command.Refer words) step = silent (λ goes. ((refer_says words).says readings o told step goes).1)
        by (command.Order words) step = silent (λ goes. ((order_says words).says readings o told step goes).1)
        by (command.Plan words) step = silent ((layout_says sheet.Report words).says readings o told step)
        by (command.Compile words) step = silent ((layout_says sheet.Image words).says readings o told step)
        by (command.Fault words) step = silent (λ goes. ((fault_says words).says readings o told step goes).1)
        by (command.Cover words) step = silent (λ goes. ((cover_says words).says readings o told step goes).1)
        by (command.Show file) step = silent ((show_says file).says readings o told step)
        by (command.Help topic) step = silent (λ goes. ((help_says topic).says readings o told step goes).1)
