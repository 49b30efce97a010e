-- The blocks of a run: so many cycles each, the last one as many as are left.
use Rattle.std.specs.Prelude.{List, Option, Result, Ok, Err, length, max, min, ℕ, zero, suc, ◌*◌, ◌+◌, ◌/◌}
use Rattle.crew_run.specs.declared.gate.Gate as gate
use Rattle.edge_io.specs.declared.writing.WriteNo.{WriteNo}
use Rattle.image_defs.specs.declared.image.Image.{Image}
use Rattle.limits.specs.declared.TheConstants.{MAX_BLOCK, MAX_CELLS}
use Rattle.machine_run.specs.Visits.{AreVisitsOf}
use Rattle.net_defs.specs.{Time.cycle_count, declared.stimulus.Stimulus.Stimulus}
use Rattle.port_host.specs.Rows.{printed_sources}
use Rattle.slot_words.specs.plain.Words.{turns_of}

-- the cycles of a block in which each cycle has so many cells
abbrev pub block_cycles : ℕ → ℕ
block_cycles zero = MAX_BLOCK
block_cycles (suc n) = max 1 (min MAX_BLOCK (MAX_CELLS / suc n))

-- the cycles of a block of the image, by its inputs and its printed columns
abbrev pub window_of : Image → ℕ
window_of image = block_cycles (image.columns + length (printed_sources image))

-- the cycles of so many blocks, or all cycles if there are fewer
abbrev pub cycles_of_blocks : Image → Stimulus → ℕ → ℕ
cycles_of_blocks image stimulus blocks = min (blocks * window_of image) (cycle_count stimulus)

-- the turns of these cycles
abbrev pub turns_of_blocks : Image → Stimulus → ℕ → ℕ
turns_of_blocks image stimulus blocks = image.units * cycles_of_blocks image stimulus blocks

module _ {G : Type 0} (p : gate.Ghosts G) (image : Image) (stimulus : Stimulus) (workers : ℕ) (gates gates' : List (Option G)) where
  -- the visits of all ports in all turns of a whole number of blocks
  pub record AreVisitsOfBlocks : Type 0 where
    pub blocks : ℕ
    pub visits : AreVisitsOf p (length image.ports) (turns_of_blocks image stimulus blocks) workers gates gates'

  -- the visits of a run: those of all turns where all was written, and else those of a whole number of blocks
  abbrev pub AreVisitsOfRun : Result (Unit {0}) WriteNo → Type 0
  AreVisitsOfRun (Ok written) = AreVisitsOf p (length image.ports) (turns_of image stimulus) workers gates gates'
  AreVisitsOfRun (Err why) = AreVisitsOfBlocks
