-- Where a run stops at a fault of writing.
use Rattle.std.specs.Prelude.{List, Option, [], length, ℕ, zero, suc}
use Rattle.std.specs.Io.KnownBytes.{append_known}
use Rattle.crew_run.specs.declared.gate.Gate as gate
use Rattle.edge_io.specs.Writing.{TakesProperPrefix}
use Rattle.image_defs.specs.declared.image.Image.{Image}
use Rattle.machine_run.specs.{Visits.AreVisitsOf, Blocks.cycles_of_blocks, Blocks.turns_of_blocks, Lines.cells_shown, Lines.lines_between, Lines.written_to}
use Rattle.net_defs.specs.{Trace.header_line, declared.netlist.Netlist.Netlist, declared.stimulus.Stimulus.Stimulus}

module _ (net : Netlist) (image : Image) (stimulus : Stimulus) where
  -- what is written once so many blocks are run: the lines of the last of them, and the header before the first
  abbrev pub block_lines : ℕ → List ℕ
  block_lines zero = header_line net
  block_lines (suc before) = lines_between (cells_shown image stimulus) (cycles_of_blocks image stimulus before) (cycles_of_blocks image stimulus (suc before))

  -- what is written before that
  abbrev pub before_block : ℕ → List ℕ
  before_block zero = []
  before_block (suc before) = written_to net image stimulus (cycles_of_blocks image stimulus before)

  module _ {G : Type 0} (p : gate.Ghosts G) (workers : ℕ) (gates gates' : List (Option G)) (old new : Option (List ℕ)) where
    -- so many blocks were run, and no more: what is written before the lines of the last one was taken whole, and of
    -- these lines a proper prefix
    pub record StopsInBlock : Type 0 where
      pub blocks : ℕ
      pub visits : AreVisitsOf p (length image.ports) (turns_of_blocks image stimulus blocks) workers gates gates'
      pub taken : TakesProperPrefix (append_known old (before_block blocks)) new (block_lines blocks)
