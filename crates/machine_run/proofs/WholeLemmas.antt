-- A crew whose block has all cycles.
use Rattle.std.proofs.Common.{List, Option, ap, arith, length, subst, sym, ℕ, ◌∙◌, ◌≡◌, ◌≤◌}
use Rattle.crew_run.specs.declared.gate.Gate as gate
use Rattle.image_defs.specs.declared.image.Image.{Image}
use Rattle.net_defs.specs.{Time.cycle_count, declared.stimulus.Stimulus.Stimulus, declared.trace.CellRow.CellRow}
use Rattle.port_host.specs.Rows.{HostView, printed_sources, rows_done}
use Rattle.slot_words.specs.plain.Words.{turns_of}
use Rattle.machine_run.specs.Crews.{CrewView, IsHostOfCrew, at_block_end, at_first, rows_at_end, turns_made}
use Rattle.machine_run.specs.{Shown.AreShown, code.Shown.AreWide, Visits.AreVisitsBetween, Visits.AreVisitsOf}
use Rattle.machine_run.proofs.CrewLemmas.{none_made}

module _ (image : Image) (stimulus : Stimulus) (workers window : ℕ) (crew crew' : CrewView) (first : crew ≡ at_first image stimulus workers window) (whole : cycle_count stimulus ≤ window) (run : crew' ≡ at_block_end crew) where
  after : crew' ≡ record (at_first image stimulus workers window) { rows = cycle_count stimulus }
  after = run ∙ (ap at_block_end first ∙ ap (λ r. record (at_first image stimulus workers window) { rows = r }) (let all : rows_at_end (at_first image stimulus workers window) ≡ cycle_count stimulus = omega (arith, whole) in all))

  module _ (host : HostView) (of : IsHostOfCrew crew' host) where
    image_is : host.port.image ≡ image
    image_is = of.image ∙ ap (λ (c : CrewView). c.image) after

    stimulus_is : host.port.stimulus ≡ stimulus
    stimulus_is = of.stimulus ∙ ap (λ (c : CrewView). c.stimulus) after

    cycles_are : rows_done host.port ≡ cycle_count stimulus
    cycles_are = of.rows ∙ ap (λ (c : CrewView). c.rows) after

    -- rows with room for those of the run have room for the host's
    pub rows_wide : (rows : List CellRow) → AreWide (cycle_count stimulus) (length (printed_sources image)) rows → AreWide (rows_done host.port) (length (printed_sources host.port.image)) rows
    rows_wide rows wide = record {
      cycles_are = wide.cycles_are ∙ sym cycles_are;
      width = λ c row at. wide.width c row at ∙ sym (ap (λ i. length (printed_sources i)) image_is);
    }

    -- and the host's rows are those of the run
    pub rows_shown : (rows : List CellRow) → AreShown host.port.image host.port.stimulus (rows_done host.port) rows → AreShown image stimulus (cycle_count stimulus) rows
    rows_shown rows shown =
        subst (λ i. AreShown i stimulus (cycle_count stimulus) rows) image_is
        (subst (λ s. AreShown host.port.image s (cycle_count stimulus) rows) stimulus_is
        (subst (λ n. AreShown host.port.image host.port.stimulus n rows) cycles_are shown))

  -- the visits of its block are those of all turns
  pub visits_whole : {G : Type 0} (p : gate.Ghosts G) (gates gates' : List (Option G)) → AreVisitsBetween p (length crew.image.ports) (turns_made crew) (turns_made crew') crew.workers gates gates' → AreVisitsOf p (length image.ports) (turns_of image stimulus) workers gates gates'
  visits_whole p gates gates' visits =
      subst (λ n. AreVisitsBetween p (length image.ports) n (turns_of image stimulus) workers gates gates') (none_made image stimulus workers window)
      (subst (λ (c : CrewView). AreVisitsBetween p (length c.image.ports) (turns_made c) (turns_of image stimulus) c.workers gates gates') first
      (subst (λ n. AreVisitsBetween p (length crew.image.ports) (turns_made crew) n crew.workers gates gates') (ap turns_made after) visits))
