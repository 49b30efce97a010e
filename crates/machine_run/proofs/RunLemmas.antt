-- A run from block to block.
use Rattle.std.proofs.Common.{Err, List, Ok, Option, Result, ap, arith, length, min, subst, sym, suc-mul, zero-mul, ℕ, suc, ◌*◌, ◌+◌, ◌++◌, ◌<◌, ◌∙◌, ◌≡◌, ◌≢◌, ◌≤◌}
use Rattle.std.proofs.Math.Nat.{mul-le-mul_left, mul-zero}
use Rattle.std.specs.Io.KnownBytes.{append_known}
use Rattle.crew_run.specs.declared.gate.Gate as gate
use Rattle.edge_io.proofs.lemmas.{Taking.append_known-append, WritingLemmas.append_known-nil}
use Rattle.edge_io.specs.{Writing.Takes, Writing.TakesProperPrefix, declared.writing.WriteNo.WriteNo}
use Rattle.image_defs.specs.declared.image.Image.{Image}
use Rattle.machine_run.proofs.lemmas.TurnLemmas.{in_place_none, in_place_on, visits_none, visits_on}
use Rattle.machine_run.specs.Crews.{CrewView, at_block_end, at_first, in_next_block, rows_at_end, turns_left, turns_made}
use Rattle.machine_run.specs.Visits.{AllCanTellTurns, AreInPlace, AreVisitsBetween, AreVisitsOf}
use Rattle.machine_run.specs.{Blocks.cycles_of_blocks, Blocks.turns_of_blocks, Blocks.window_of, Lines.cells_shown, Lines.lines_between}
use Rattle.machine_run.specs.Stops.{before_block, block_lines}
use Rattle.net_defs.specs.{Time.cycle_count, Trace.header_line, declared.netlist.Netlist.Netlist, declared.stimulus.Stimulus.Stimulus}
use Rattle.slot_words.specs.plain.Words.{turns_of}

-- a crew that has made the turns of so many cycles, and is before the block that comes after them
abbrev pub after_cycles : Image → Stimulus → ℕ → ℕ → CrewView
after_cycles image stimulus workers rows = record { image = image; stimulus = stimulus; workers = workers; window = window_of image; first_row = rows; rows = rows }

module _ {G : Type 0} (p : gate.Ghosts G) (image : Image) (stimulus : Stimulus) (workers : ℕ) (gates : List (Option G)) where
  -- k blocks are over, and the gates were told of their turns
  pub record AreOver (k : ℕ) (crew : CrewView) (now : List (Option G)) : Type 0 where
    pub crew_is : crew ≡ after_cycles image stimulus workers (k * window_of image)
    pub within : k * window_of image ≤ cycle_count stimulus
    pub visits : AreVisitsOf p (length image.ports) (image.units * (k * window_of image)) workers gates now
    pub tell : AllCanTellTurns p (turns_left (after_cycles image stimulus workers (k * window_of image))) workers now
    pub kept : AreInPlace gates now

  -- no block is over
  none_over : 0 * window_of image ≡ 0
  none_over = zero-mul (window_of image)

  pub no_cycle : cycles_of_blocks image stimulus 0 ≡ 0
  no_cycle = omega (arith, none_over)

  no_turn : image.units * cycles_of_blocks image stimulus 0 ≡ 0
  no_turn = ap (λ n. image.units * n) no_cycle ∙ mul-zero image.units

  pub visits_begin : AreVisitsOf p (length image.ports) (turns_of_blocks image stimulus 0) workers gates gates
  visits_begin = subst (λ n. AreVisitsOf p (length image.ports) n workers gates gates) (sym no_turn) (visits_none p (length image.ports) workers 0 gates)

  pub over_first : (crew : CrewView) → crew ≡ at_first image stimulus workers (window_of image) → AllCanTellTurns p (turns_left crew) workers gates → AreOver 0 crew gates
  over_first crew is tell = record {
    crew_is = begins;
    within = omega (arith, none_over);
    visits = subst (λ n. AreVisitsOf p (length image.ports) (image.units * n) workers gates gates) (no_cycle ∙ sym none_over) visits_begin;
    tell = subst (λ (v : CrewView). AllCanTellTurns p (turns_left v) workers gates) begins tell;
    kept = in_place_none gates;
  } where
    begins : crew ≡ after_cycles image stimulus workers (0 * window_of image)
    begins = is ∙ ap (after_cycles image stimulus workers) (sym none_over)

  module _ (k : ℕ) (crew crew' : CrewView) (now now' : List (Option G)) (over : AreOver k crew now) (ran : crew' ≡ at_block_end crew) where
    -- the cycles that are over at the end of the next block
    pub rows_are : crew'.rows ≡ cycles_of_blocks image stimulus (suc k)
    rows_are = ap (λ (v : CrewView). v.rows) ran ∙ (ap rows_at_end over.crew_is ∙ ap (λ n. min n (cycle_count stimulus)) (sym (suc-mul k (window_of image))))

    -- its lines
    pub block_taken : (old new : Option (List ℕ)) (f g : ℕ) (r : Result (Unit {0}) WriteNo) → Takes old new f g r (lines_between (cells_shown crew.image crew.stimulus) crew.first_row (rows_at_end crew))
        → Takes old new f g r (lines_between (cells_shown image stimulus) (cycles_of_blocks image stimulus k) (cycles_of_blocks image stimulus (suc k)))
    block_taken old new f g r taken =
        let start : k * window_of image ≡ cycles_of_blocks image stimulus k = omega (arith, over.within) in
        let end : rows_at_end (after_cycles image stimulus workers (k * window_of image)) ≡ cycles_of_blocks image stimulus (suc k) = ap (λ n. min n (cycle_count stimulus)) (sym (suc-mul k (window_of image))) in
        let here : Takes old new f g r (lines_between (cells_shown image stimulus) (k * window_of image) (rows_at_end (after_cycles image stimulus workers (k * window_of image)))) = subst (λ (v : CrewView). Takes old new f g r (lines_between (cells_shown v.image v.stimulus) v.first_row (rows_at_end v))) over.crew_is taken in
        subst (λ n. Takes old new f g r (lines_between (cells_shown image stimulus) (cycles_of_blocks image stimulus k) n)) end (subst (λ n. Takes old new f g r (lines_between (cells_shown image stimulus) n (rows_at_end (after_cycles image stimulus workers (k * window_of image))))) start here)

    -- no fewer than at its start, and no more than all
    pub later : cycles_of_blocks image stimulus k ≤ cycles_of_blocks image stimulus (suc k)
    later = omega (arith, suc-mul k (window_of image))

    module _ (visits : AreVisitsBetween p (length crew.image.ports) (turns_made crew) (turns_made crew') crew.workers now now') where
      -- the visits of one block more
      pub visits_more : AreVisitsOf p (length image.ports) (turns_of_blocks image stimulus (suc k)) workers gates now'
      visits_more =
          let end : k * window_of image + window_of image ≡ suc k * window_of image = sym (suc-mul k (window_of image)) in
          let on : k * window_of image ≤ min (k * window_of image + window_of image) (cycle_count stimulus) = omega (arith, over.within) in
          let ended : AreVisitsBetween p (length crew.image.ports) (turns_made crew) (turns_made (at_block_end crew)) crew.workers now now' = subst (λ (v : CrewView). AreVisitsBetween p (length crew.image.ports) (turns_made crew) (turns_made v) crew.workers now now') ran visits in
          let step : AreVisitsBetween p (length image.ports) (image.units * (k * window_of image)) (image.units * min (k * window_of image + window_of image) (cycle_count stimulus)) workers now now' = subst (λ (v : CrewView). AreVisitsBetween p (length v.image.ports) (turns_made v) (turns_made (at_block_end v)) v.workers now now') over.crew_is ended in
          let all : AreVisitsOf p (length image.ports) (image.units * min (k * window_of image + window_of image) (cycle_count stimulus)) workers gates now' = visits_on p (length image.ports) workers 0 (image.units * (k * window_of image)) (image.units * min (k * window_of image + window_of image) (cycle_count stimulus)) (omega arith) (mul-le-mul_left image.units on) gates now now' over.visits step in
          subst (λ n. AreVisitsOf p (length image.ports) (image.units * min n (cycle_count stimulus)) workers gates now') end all

      -- at the end of all cycles they are those of all turns
      pub visits_all : crew'.rows ≡ cycle_count stimulus → AreVisitsOf p (length image.ports) (turns_of image stimulus) workers gates now'
      visits_all all = subst (λ n. AreVisitsOf p (length image.ports) (image.units * n) workers gates now') (sym rows_are ∙ all) visits_more

      module _ (tell : AllCanTellTurns p (turns_left crew') crew.workers now') (kept : AreInPlace now now') (more : crew'.rows ≢ cycle_count stimulus) where
        whole : suc k * window_of image ≤ cycle_count stimulus
        whole = omega (arith, rows_are, more)

        rows_whole : crew'.rows ≡ suc k * window_of image
        rows_whole = omega (arith, rows_are, whole)

        crew_is' : crew' ≡ record (after_cycles image stimulus workers (k * window_of image)) { rows = suc k * window_of image }
        crew_is' =
            let end : min (k * window_of image + window_of image) (cycle_count stimulus) ≡ suc k * window_of image = omega (arith, suc-mul k (window_of image), whole) in
            ran ∙ (ap at_block_end over.crew_is ∙ ap (λ n. record (after_cycles image stimulus workers (k * window_of image)) { rows = n }) end)

        -- the crew can go on
        pub at_end : crew'.rows ≡ rows_at_end crew'
        at_end = subst (λ (v : CrewView). v.rows ≡ rows_at_end v) (sym crew_is') (omega (arith, suc-mul k (window_of image), whole))

        pub rows_left : crew'.rows < cycle_count crew'.stimulus
        rows_left = subst (λ s. crew'.rows < cycle_count s) (sym (ap (λ (v : CrewView). v.stimulus) crew_is')) (omega (arith, rows_whole, whole, more))

        -- and then one block more is over
        pub over_more : (crew'' : CrewView) → crew'' ≡ in_next_block crew' → AreOver (suc k) crew'' now'
        over_more crew'' next = record {
          crew_is = next ∙ ap in_next_block crew_is';
          within = whole;
          visits = subst (λ n. AreVisitsOf p (length image.ports) (image.units * n) workers gates now') (sym rows_are ∙ rows_whole) visits_more;
          tell = subst (λ (v : CrewView). AllCanTellTurns p (turns_left v) workers now') crew_is' (subst (λ n. AllCanTellTurns p (turns_left crew') n now') (ap (λ (v : CrewView). v.workers) over.crew_is) tell);
          kept = in_place_on gates now now' over.kept kept;
        }

-- ---- where a run stops

module _ (net : Netlist) (image : Image) (stimulus : Stimulus) where
  -- at the header
  pub stops_first : (old new : Option (List ℕ)) (f g : ℕ) (r : Result (Unit {0}) WriteNo) (e : WriteNo) (piece : List ℕ) → r ≡ Err e → piece ≡ header_line net → Takes old new f g r piece
      → TakesProperPrefix (append_known old (before_block net image stimulus 0)) new (block_lines net image stimulus 0)
  stops_first old new f g r e piece is same taken =
      let here : Takes old new f g (Err e) (header_line net) = subst (λ q. Takes old new f g q (header_line net)) is (subst (Takes old new f g r) same taken) in
      subst (λ o. TakesProperPrefix o new (header_line net)) (sym (append_known-nil old)) here.prefix

  -- in a block
  pub stops_in : (k : ℕ) (before old mid new : Option (List ℕ)) (f g h : ℕ) (r : Result (Unit {0}) WriteNo) (e : WriteNo) → old ≡ append_known before (header_line net)
      → Takes old mid f g (Ok tt) (lines_between (cells_shown image stimulus) 0 (cycles_of_blocks image stimulus k)) → r ≡ Err e
      → Takes mid new g h r (lines_between (cells_shown image stimulus) (cycles_of_blocks image stimulus k) (cycles_of_blocks image stimulus (suc k)))
      → TakesProperPrefix (append_known before (before_block net image stimulus (suc k))) new (block_lines net image stimulus (suc k))
  stops_in k before old mid new f g h r e begun first is taken =
      let lines = lines_between (cells_shown image stimulus) 0 (cycles_of_blocks image stimulus k) in
      let here : Takes mid new g h (Err e) (block_lines net image stimulus (suc k)) = subst (λ q. Takes mid new g h q (block_lines net image stimulus (suc k))) is taken in
      let told : mid ≡ append_known before (header_line net ++ lines) = first.whole ∙ (ap (λ o. append_known o lines) begun ∙ append_known-append before (header_line net) lines) in
      subst (λ o. TakesProperPrefix o new (block_lines net image stimulus (suc k))) told here.prefix
