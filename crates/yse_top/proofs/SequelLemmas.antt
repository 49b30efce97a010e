-- A compiled image that was written is run as the design itself: what the calls that ended well read is read again.
use Rattle.std.proofs.Common.{◌≡◌, ◌∙◌, ◌⊎◌, sym, ap, refl, subst, inl, inr, ℕ, zero, suc, ◌≤◌, List, [], ◌∷◌, ◌++◌, length, Option, Some, None, Result, Ok, Err}
use Rattle.std.specs.Prelude.{IfSome, slice_get}
use Rattle.limits.specs.declared.TheConstants.{MAX_TEXT_BYTES}
use Rattle.bench_read.specs.Faults as bench_faults
use Rattle.bench_read.specs.GateLists as gate_lists
use Rattle.bench_read.specs.Reads as bench
use Rattle.cmd_words.specs.declared.command.RunWords.{RunWords}
use Rattle.image_defs.specs.declared.{file.ImageFile.ImageFile, image.Image.Image, file.Claims.Claims}
use Rattle.image_file.specs.Files.{image_text}
use Rattle.machine_text.specs.{declared.machine.Machine.Machine, Machines.default_machine, Machines.IsValid as IsValidMachine, Machines.ports_of}
use Rattle.machine_text.specs.Machines as machine_text
use Rattle.net_defs.specs.declared.{homes.HomeChoice.HomeChoice, netlist.Netlist.Netlist, stimulus.Stimulus.Stimulus, timing.Timing.Timing}
use Rattle.net_defs.specs.{Reference.HasOneSimulation, Trace.IsTrace, Valid.IsValid, Valid.input_count}
use Rattle.stim_text.specs.Stimuli as stim
use Rattle.text_lines.specs.Answers.{IsReader}
use Rattle.yse_compile.specs.{declared.compiler.Compiled.Compiled, Chosen.IsDesign, Claims.AreClaimsOf, Designs.IsAcyclic}
use Rattle.refusals.specs.declared.status.Status.{Status}
use Rattle.refusals.specs.declared.status.Status.TheVariants as status
use Rattle.call_steps.specs.Checks.{HasNoLoop, HasRoom, IsListOf, IsMachineOf, IsNetlistOf, IsStimulusOf, WritesTold, listing, read_fault, text_of}
use Rattle.call_steps.specs.{declared.checks.Built.Built, declared.reading.Timed.Timed, Designs.Placed, Designs.Prepared, Outcome.Outcome, Outcome.Turns, Outcome.out_of_memory, Readings.Reading}
use Rattle.call_steps.specs.FileSteps.{BuiltIn, DesignFrom, DesignOf, FileAs, ImageIn, MachineFrom, NetlistIn, PlacedOnMachine, ReadyOnMachine, RunnableIn, StimulusIn, TimingFrom}
use Rattle.call_steps.specs.Steps.{◌>>=◌, ◌>>◌, Checks, Ends, Gives, Step}
use Rattle.yse_commands.specs.{Ends.MayWrite, Told.run_turns, Visited.IsMachineOfFile, commands.Compile.IsImageTextOf, commands.Exec.Executes, commands.Layout.IsSheetOf, commands.Layout.LaysOut, commands.Run.Runs, commands.Run.RunsTo}
use Rattle.yse_commands.specs.declared.layout.Sheet.TheVariants as sheet
use Rattle.yse_commands.proofs.lemmas.ReachLemmas.{AreTold, Concludes, Found, Goes, all_told, found, found_then, says, says_writes, told_back, told_front}
use Rattle.yse_commands.proofs.lemmas.TracedLemmas.{machine_from, placed_on, ready_on}
use Rattle.yse_top.specs.Sequel.{AreHeld, AreOfOneDesign, HasUnread, IsOrFails, IsTaken, Leaves}
use Rattle.yse_top.proofs.AgainLemmas.{IsAgain, again_checks, again_file, again_gives, again_then, found_check, found_file, found_gives}
use Rattle.yse_top.proofs.{CheckLemmas.reads_once, CheckLemmas.trace_only, OneLemmas.no_ok, OneLemmas.same_err, ProperLemmas.IsShort, ProperLemmas.passed_short}

-- the laws of the layers below
pub record Laws : Type 0 where
  pub netlists : IsReader bench.Reads bench_faults.first_fault
  pub valid_netlists : (text : List ℕ) (net : Netlist) → length text ≤ MAX_TEXT_BYTES → bench.Reads text net → IsValid net
  pub lists : (net : Netlist) → IsReader (gate_lists.Reads net) (gate_lists.first_fault net)
  pub stimuli : (inputs : ℕ) → IsReader (stim.Reads inputs) (stim.first_fault inputs)
  pub valid_machines : (text : List ℕ) (machine : Machine) → machine_text.Reads text machine → IsValidMachine machine
  pub default_valid : IsValidMachine default_machine
  pub one_simulation : (net : Netlist) (timing : Timing) (stimulus : Stimulus) → IsAcyclic net timing → HasOneSimulation net timing stimulus
  pub taken : (net : Netlist) (machine : Machine) (timing : Timing) (compiled : Compiled) (claims : Claims) → IsValid net → IsValidMachine machine → IsDesign net machine timing compiled
      → AreClaimsOf compiled claims → IsTaken net timing (record { image = compiled.image; claims = claims })

-- an end with this output, for want of memory, or at a file that could not be read
abbrev pub IsEndOf : List ℕ → Outcome → Type 0
IsEndOf output o = ((o.status ≡ status.Done) × (o.output ≡ output)) ⊎ (o.status ≡ status.Memory) ⊎ (o.status ≡ status.ReadFault)

held_at : (held : List ℕ → List ℕ) (readings : List Reading) → AreTold (Some held) readings → AreHeld held readings
held_at held [] are place reading at = cc
held_at held (one ∷ readings) (here, are) zero reading at = let same : one ≡ reading = cc in subst (λ (r : Reading). IfSome r.bytes (λ bytes. bytes ≡ held r.file)) same here
held_at held (one ∷ readings) (here, are) (suc place) reading at = held_at held readings are place reading at

-- ---- what the calls that ended well came to

module _ (laws : Laws) (held : List ℕ → List ℕ) where
  abbrev pub Had : {X : Type 0} → Step X → X → Type 0
  Had S x = Found (Some held) S x

  -- a design that fits its machine
  pub record PlacedWell (words : RunWords) (placed : Placed) : Type 0 where
    pub valid : IsValidMachine placed.machine
    pub design : Had (DesignOf words) (record { net = placed.net; timing = placed.timing })
    pub acyclic : IsAcyclic placed.net placed.timing

  valid_machine : (file : Option (List ℕ)) (machine : Machine) → IsMachineOfFile (Some held) file machine → IsValidMachine machine
  valid_machine None machine is = subst IsValidMachine (sym is) laws.default_valid
  valid_machine (Some file) machine (text, told, reads) = laws.valid_machines text machine reads

  placed_well : (words : RunWords) (placed : Placed) → Had (PlacedOnMachine words) placed → PlacedWell words placed
  placed_well words placed had = by placed (found_gives held _ placed gave)
    where
      on : (machine : Machine) → Timed → Step Placed
      on machine design = Gives (record { homes = words.homes; machine = machine; timing = design.timing; net = design.net })

      fits : (machine : Machine) → Timed → Step Placed
      fits machine design = Checks (HasRoom words.homes design.net machine design.timing) >> on machine design

      rest : (machine : Machine) → Timed → Step Placed
      rest machine design = Checks (HasNoLoop design.net design.timing) >> fits machine design

      first : (machine : Machine) × Had (MachineFrom words.machine) machine × Had (DesignOf words >>= rest machine) placed
      first = found_then (Some held) (MachineFrom words.machine) (λ machine. DesignOf words >>= rest machine) placed had

      second : (design : Timed) × Had (DesignOf words) design × Had (rest first.0 design) placed
      second = found_then (Some held) (DesignOf words) (rest first.0) placed first.2

      third : (passed : Unit {0}) × Had (Checks (HasNoLoop second.0.net second.0.timing)) passed × Had (fits first.0 second.0) placed
      third = found_then (Some held) (Checks (HasNoLoop second.0.net second.0.timing)) (λ passed. fits first.0 second.0) placed second.2

      gave : Had (on first.0 second.0) placed
      gave = (found_then (Some held) (Checks (HasRoom words.homes second.0.net first.0 second.0.timing)) (λ passed. on first.0 second.0) placed third.2).2

      by : (placed : Placed) → placed ≡ record { homes = words.homes; machine = first.0; timing = second.0.timing; net = second.0.net } → PlacedWell words placed
      by placed same = subst (PlacedWell words) (sym same) (record {
        valid = valid_machine words.machine first.0 ((machine_from (Some held) words.machine).tells first.1.0 first.0 first.1.1 first.1.2);
        design = second.1;
        acyclic = found_check held (HasNoLoop second.0.net second.0.timing) third.0 third.1;
      })

  -- the text of the image of a design
  pub record CompiledWell (words : RunWords) (o : Outcome) : Type 0 where
    pub placed : Placed
    pub well : PlacedWell words placed
    pub text : IsImageTextOf placed.homes placed.net placed.machine placed.timing o.output

  compiled_well : (words : RunWords) → Concludes (Some held) (LaysOut sheet.Image words) (CompiledWell words)
  compiled_well words =
      says (Some held) (found (Some held) (placed_on (Some held) words)) (λ placed had.
      says_writes (Some held) None (IsSheetOf sheet.Image placed.homes placed.net placed.machine placed.timing) (CompiledWell words) (λ o wrote told done.
      record { placed = placed; well = placed_well words placed had; text = wrote }))

  -- the trace of a design and a stimulus
  pub record RanWell (words : RunWords) (o : Outcome) : Type 0 where
    pub placed : Placed
    pub well : PlacedWell words placed
    pub stimulus : Stimulus
    pub fed : Had (StimulusIn words.stimulus placed.net) stimulus
    pub trace : IsTrace placed.net placed.timing stimulus o.output

  ran_well : (words : RunWords) → Concludes (Some held) (Runs words) (RanWell words)
  ran_well words =
      says (Some held) (found (Some held) (ready_on (Some held) words)) (λ ready had.
      says_writes (Some held) (Some (run_turns (ports_of ready.placed.machine) words ready.placed.timing ready.placed.net ready.stimulus)) (IsTrace ready.placed.net ready.placed.timing ready.stimulus) (RanWell words) (λ o wrote told done.
      ready_well ready had o wrote))
    where
      given : Placed → Stimulus → Step Prepared
      given placed stimulus = Gives (record { placed = placed; stimulus = stimulus })

      ready_well : (ready : Prepared) → Had (ReadyOnMachine words) ready → (o : Outcome) → IsTrace ready.placed.net ready.placed.timing ready.stimulus o.output → RanWell words o
      ready_well ready had o wrote =
          let (placed, on, rest) = found_then (Some held) (PlacedOnMachine words) (λ placed. StimulusIn words.stimulus placed.net >>= given placed) ready had in
          let (stimulus, fed, gave) = found_then (Some held) (StimulusIn words.stimulus placed.net) (given placed) ready rest in
          let same : ready ≡ record { placed = placed; stimulus = stimulus } = found_gives held _ ready gave in
          record { placed = placed; well = placed_well words placed on; stimulus = stimulus; fed = fed; trace = subst (λ (r : Prepared). IsTrace r.placed.net r.placed.timing r.stimulus o.output) same wrote }

-- ---- what is handed on again

module _ (laws : Laws) (before after : List ℕ → List ℕ) where
  timing_again : (last : Option (List ℕ)) (net : Netlist) (given timing : Timing) → IfSome last (λ file. after file ≡ before file) → Found (Some before) (TimingFrom last net given) timing → IsAgain after (TimingFrom last net given) timing
  unfolding TimingFrom
  timing_again None net given timing same had = subst (IsAgain after (Gives given)) (sym (found_gives before given timing had)) (again_gives after given)
  timing_again (Some file) net given timing same had =
      let (listed, list, gave) = found_then (Some before) (FileAs file (λ text. IsListOf text net)) (λ listed. Gives (listing given listed)) timing had in
      let (text, passes, reads) = found_file before file (λ text. IsListOf text net) listed list in
      let once = reads_once (gate_lists.Reads net) (gate_lists.first_fault net) (laws.lists net) text listed reads in
      subst (IsAgain after (FileAs file (λ text. IsListOf text net) >>= λ listed. Gives (listing given listed))) (sym (found_gives before (listing given listed) timing gave))
      (again_then after (again_file after file (λ text. IsListOf text net) text listed (ap (text_of file) same ∙ passes) once.0 (λ o refused. once.1 refused.0 refused.1)) (again_gives after (listing given listed)))

  design_again : (netlist : List ℕ) (last : Option (List ℕ)) (given : Timing) (design : Timed) → after netlist ≡ before netlist → IfSome last (λ file. after file ≡ before file) → Found (Some before) (DesignFrom netlist last given) design
      → IsAgain after (DesignFrom netlist last given) design × IsValid design.net
  design_again netlist last given design same same_last had =
      let timed : Netlist → Timing → Step Timed = λ net timing. Gives (record { net = net; timing = timing }) in
      let (net, of_net, rest) = found_then (Some before) (NetlistIn netlist) (λ net. TimingFrom last net given >>= timed net) design had in
      let (timing, of_timing, gave) = found_then (Some before) (TimingFrom last net given) (timed net) design rest in
      let (text, passes, reads) = found_file before netlist IsNetlistOf net of_net in
      let once = reads_once bench.Reads bench_faults.first_fault laws.netlists text net reads in
      let is : design ≡ record { net = net; timing = timing } = found_gives before _ design gave in (
        subst (IsAgain after (DesignFrom netlist last given)) (sym is)
            (again_then after (again_file after netlist IsNetlistOf text net (ap (text_of netlist) same ∙ passes) once.0 (λ o refused. once.1 refused.0 refused.1))
            (again_then after (timing_again last net given timing same_last of_timing) (again_gives after (record { net = net; timing = timing })))),
        subst (λ (d : Timed). IsValid d.net) (sym is) (laws.valid_netlists text net (passed_short netlist (before netlist) text passes) reads),
      )

same_last : (held : List ℕ → List ℕ) (last : Option (List ℕ)) → IfSome last (λ file. held file ≡ held file)
same_last held None = tt
same_last held (Some file) = refl

-- a design that is had under the names of other words
renamed : (held : List ℕ → List ℕ) (words other : RunWords) (design : Timed) → AreOfOneDesign words other → Found (Some held) (DesignOf words) design → Found (Some held) (DesignOf other) design
renamed held words other design same had =
    subst (λ (t : Timing). Found (Some held) (DesignFrom other.netlist other.last t) design) same.timing
    (subst (λ (l : Option (List ℕ)). Found (Some held) (DesignFrom other.netlist l words.timing) design) same.last
    (subst (λ (n : List ℕ). Found (Some held) (DesignFrom n words.last words.timing) design) same.netlist had))

-- ---- the three calls

module _ (laws : Laws) (before after : List ℕ → List ℕ) (compile run exec : RunWords) (image : List ℕ) (compiled ran : Outcome) (design : AreOfOneDesign compile exec) (same : AreOfOneDesign run exec) (stimulus_same : run.stimulus ≡ exec.stimulus)
    (leaves : Leaves before after exec image compiled.output) (short : length compiled.output ≤ MAX_TEXT_BYTES) (first : CompiledWell laws before compile compiled) (second : RanWell laws after run ran) where
  abbrev net : Netlist
  net = second.placed.net

  abbrev timing : Timing
  timing = second.placed.timing

  abbrev file : ImageFile
  file = first.text.file

  abbrev timed : Timed
  timed = record { net = net; timing = timing }

  had : Found (Some after) (DesignOf exec) timed
  had = renamed after run exec timed same second.well.design

  design_once : IsAgain after (DesignOf exec) timed
  design_once = (design_again laws after after exec.netlist exec.last exec.timing timed refl (same_last after exec.last) had).0

  -- the design that was compiled is the one that was run
  abbrev compiled_one : Timed
  compiled_one = record { net = first.placed.net; timing = first.placed.timing }

  from_compile : IsAgain after (DesignOf exec) compiled_one × IsValid first.placed.net
  from_compile = design_again laws before after exec.netlist exec.last exec.timing compiled_one leaves.netlist leaves.last (renamed before compile exec compiled_one design first.well.design)

  one_design : timed ≡ compiled_one
  one_design = from_compile.0.again had.0 (Ok timed) had.1 had.2

  taken : IsTaken net timing file
  taken =
      subst (λ (d : Timed). IsTaken d.net d.timing file) (sym one_design)
      (subst (λ (i : Image). IsTaken first.placed.net first.placed.timing (record { image = i; claims = file.claims })) (sym first.text.image)
      (laws.taken first.placed.net first.placed.machine first.placed.timing first.text.chosen.compiled file.claims from_compile.1 first.well.valid first.text.is.design first.text.claims))

  image_once : IsAgain after (ImageIn image net timing) file.image
  image_once = record {
    again = λ readings r are step. taken after image readings r (leaves.image ∙ first.text.text) (subst (λ (s : List ℕ). length s ≤ MAX_TEXT_BYTES) first.text.text short) (held_at after readings are) step;
  }

  stimulus_once : IsAgain after (StimulusIn exec.stimulus net) second.stimulus
  stimulus_once =
      let (text, passes, reads) = found_file after exec.stimulus (λ text. IsStimulusOf text net) second.stimulus (subst (λ (s : List ℕ). Found (Some after) (StimulusIn s net) second.stimulus) stimulus_same second.fed) in
      let once = reads_once (stim.Reads (input_count net)) (stim.first_fault (input_count net)) (laws.stimuli (input_count net)) text second.stimulus reads in
      again_file after exec.stimulus (λ text. IsStimulusOf text net) text second.stimulus passes once.0 (λ o refused. once.1 refused.0 refused.1)

  ends_as : (ports : ℕ) (readings : List Reading) (o : Outcome) → RunsTo ports exec timing net second.stimulus readings (Err o) → IsEndOf ran.output o
  ends_as ports readings o (none, inl (text, is, done)) =
      inl (ap (λ (p : Outcome). p.status) done, ap (λ (p : Outcome). p.output) done ∙ trace_only net timing second.stimulus (laws.one_simulation net timing second.stimulus second.well.acyclic) text ran.output is second.trace)
  ends_as ports readings o (none, inr memory) = inr (inl (ap (λ (p : Outcome). p.status) memory))

  fails : (readings : List Reading) (o : Outcome) → IsOrFails file.image readings (Err o) → IsEndOf ran.output o
  fails readings o (inl memory) = inr (inl (ap (λ (p : Outcome). p.status) memory))
  fails readings o (inr (name, fault, has)) = inr (inr (ap (λ (p : Outcome). p.status) fault))

  abbrev built : Image → Built
  built picture = record { net = net; image = picture }

  built_once : IsAgain after (BuiltIn image net timing) (built file.image)
  built_once =
      again_then after {Next = λ passed. ImageIn image net timing >>= λ picture. Gives (built picture)} (again_checks after (HasNoLoop net timing) tt (λ passed acyclic. refl) (λ o refused. second.well.acyclic refused.0 refused.1.circle))
      (again_then after {Next = λ picture. Gives (built picture)} image_once (again_gives after (built file.image)))

  run_once : IsAgain after (RunnableIn exec image) (record { timing = timing; net = net; image = file.image })
  run_once = again_then after design_once (again_then after built_once (again_gives after (record { timing = timing; net = net; image = file.image })))

  ends_on : {X : Type 0} (First : Step X) (Next : X → Step ⊥) (x : X) (o : Outcome) → IsAgain after First x → ((others : List Reading) → AreTold (Some after) others → Next x others (Err o) → IsEndOf ran.output o)
      → (readings : List Reading) → AreTold (Some after) readings → (First >>= Next) readings (Err o) → IsEndOf ran.output o
  ends_on First Next x o once on readings are (inl (a, b, e, y, f, n)) =
      let all : AreTold (Some after) (a ++ b) = subst (AreTold (Some after)) e are in
      on b (told_back (Some after) a b all) (subst (λ v. Next v b (Err o)) (once.again a (Ok y) (told_front (Some after) a b all) f) n)
  ends_on First Next x o once on readings are (inr stops) = fails readings o (once.again readings (Err o) are stops)

  pub exec_ends : (third : List Reading) (o : Outcome) → AreTold (Some after) third → Executes exec image third (Err o) → IsEndOf ran.output o
  exec_ends third o are step =
      ends_on (RunnableIn exec image) (λ run. StimulusIn exec.stimulus run.net >>= λ stimulus. RunsTo (length run.image.ports) exec run.timing run.net stimulus) (record { timing = timing; net = net; image = file.image }) o run_once (λ others told fed.
      ends_on (StimulusIn exec.stimulus net) (RunsTo (length file.image.ports) exec timing net) second.stimulus o stimulus_once (λ rest last ends. ends_as (length file.image.ports) rest o ends) others told fed) third are step

pub sequel_ends : (laws : Laws) (before after : List ℕ → List ℕ) (compile run exec : RunWords) (image : List ℕ) (compiled ran outcome : Outcome) → AreOfOneDesign compile exec → AreOfOneDesign run exec → run.stimulus ≡ exec.stimulus
    → Leaves before after exec image compiled.output → length compiled.output ≤ MAX_TEXT_BYTES → (first second third : List Reading)
    → LaysOut sheet.Image compile first (Err compiled) → AreHeld before first → compiled.status ≡ status.Done → Runs run second (Err ran) → AreHeld after second → ran.status ≡ status.Done
    → AreHeld after third → Executes exec image third (Err outcome) → IsEndOf ran.output outcome
sequel_ends laws before after compile run exec image compiled ran outcome design same stimulus_same leaves short first second third compiles held_first well runs held_second well_too held_third executes =
    exec_ends laws before after compile run exec image compiled ran design same stimulus_same leaves short
    ((compiled_well laws before compile).says first compiled (all_told (Some before) first held_first) compiles (goes compiled well))
    ((ran_well laws after run).says second ran (all_told (Some after) second held_second) runs (goes ran well_too))
    third outcome (all_told (Some after) third held_third) executes
  where
    goes : (o : Outcome) → o.status ≡ status.Done → Goes o
    goes o well none = subst MayWrite (sym well) tt
