-- The turns of a run on the machine are those of its image.
use Rattle.machine_text.specs.{Machines.ports_of, declared.machine.Machine.Machine}
use Rattle.std.proofs.Common.{◌≡◌, ◌∙◌, sym, ap, refl, subst, inr, ℕ, ◌+◌, ◌*◌, List, length, Option, Some, Result, Ok, Err, arith}
use Rattle.std.specs.Prelude.{min}
use Rattle.machine_run.specs.Blocks.{AreVisitsOfRun, block_cycles, cycles_of_blocks, window_of}
use Rattle.machine_run.specs.Visits.{AreVisitsOf}
use Rattle.crew_run.specs.declared.gate.Gate as gate
use Rattle.large_run.specs.Setting.{large_machine}
use Rattle.cmd_words.specs.declared.command.RunWords.{RunWords}
use Rattle.edge_io.specs.declared.writing.WriteNo.{WriteNo}
use Rattle.image_defs.specs.declared.image.Image.{Image}
use Rattle.net_defs.specs.declared.{homes.HomeChoice.HomeChoice, netlist.Netlist.Netlist, stimulus.Stimulus.Stimulus, timing.Timing.Timing}
use Rattle.net_defs.specs.{Time.cycle_count, Valid.input_count}
use Rattle.port_host.specs.Rows.{printed_sources}
use Rattle.call_steps.specs.Images.{IsImageOf, IsMachineImage}
use Rattle.yse_commands.specs.Told.{TellsTurns, block_of, large_turns, run_turns}

-- the image of a machine has the machine's ports
pub machine_ports : (choice : HomeChoice) (net : Netlist) (machine : Machine) (timing : Timing) (image : Image) → IsMachineImage choice net machine timing image → length image.ports ≡ ports_of machine
machine_ports choice net machine timing image made =
    let design = made.is.design in
    ap (λ (i : Image). length i.ports) (sym made.image_is) ∙ sym design.built.matches.ports ∙ design.built.planned.ports
    ∙ ap (λ n. n + made.chosen.compiled.homes.array + 1) design.logic ∙ ap (λ n. machine.logic + n + 1) design.array

-- a block of a run of the image is one of the netlist
same_block : (net : Netlist) (timing : Timing) (image : Image) → IsImageOf net timing image → window_of image ≡ block_of net
same_block net timing image of =
    ap (λ n. block_cycles (n + length (printed_sources image))) of.columns ∙ ap (λ n. block_cycles (input_count net + n)) of.printed

module _ {G : Type 0} (p : gate.Ghosts G) (words : RunWords) (net : Netlist) (timing : Timing) (stimulus : Stimulus) (image : Image) (of : IsImageOf net timing image) (gates gates' : List (Option G)) where
  in_units : (cycles : ℕ) → AreVisitsOf p (length image.ports) (image.units * cycles) words.workers gates gates' → AreVisitsOf p (length image.ports) (timing.units * cycles) words.workers gates gates'
  in_units cycles = subst (λ u. AreVisitsOf p (length image.ports) (u * cycles) words.workers gates gates') of.units

  -- what a run of the image tells are the netlist's turns in the timing
  pub image_turns : (wrote : Result (Unit {0}) WriteNo) → AreVisitsOfRun p image stimulus words.workers gates gates' wrote → TellsTurns p gates gates' wrote (Some (run_turns (length image.ports) words timing net stimulus))
  image_turns (Ok written) visits = (cycle_count stimulus, refl, in_units (cycle_count stimulus) visits)
  image_turns (Err why) visits = (
    cycles_of_blocks image stimulus visits.blocks,
    inr (visits.blocks, ap (λ w. min (visits.blocks * w) (cycle_count stimulus)) (same_block net timing image of)),
    in_units (cycles_of_blocks image stimulus visits.blocks) visits.visits,
  )

-- the turns of `large`, of which a cycle has one
pub large_visits : {G : Type 0} (p : gate.Ghosts G) (cycles workers : ℕ) (gates gates' : List (Option G)) → AreVisitsOf p (ports_of large_machine) cycles workers gates gates' → TellsTurns p gates gates' (Ok tt) (Some (large_turns cycles workers))
large_visits p cycles workers gates gates' visits = (cycles, refl, subst (λ n. AreVisitsOf p (ports_of large_machine) n workers gates gates') (once cycles) visits)
  where
    once : (n : ℕ) → n ≡ 1 * n
    once n = omega arith
