-- Gates that can be told of the turns that are left.
use Rattle.std.proofs.Common.{List, Option, Some, arith, inl, inr, length, slice_get, slice_index, subst, sym, ℕ, ◌+◌, ◌-◌, ◌<◌, ◌^◌, ◌∙◌, ◌≡◌, ◌≤◌}
use Rattle.crew_run.proofs.lemmas.Places.{beside, one_some, read_below}
use Rattle.crew_run.specs.Crews.{CanTell}
use Rattle.crew_run.specs.declared.gate.Gate as gate
use Rattle.image_defs.specs.{WellFormed.IsWellFormed, declared.image.Image.Image}
use Rattle.net_defs.specs.{Valid.IsValidStimulus, declared.stimulus.Stimulus.Stimulus}
use Rattle.machine_run.specs.{Crews.at_first, Crews.turns_left, Visits.AllCanTellTurns, Visits.AreVisitsBetween, Visits.HasVisits}
use Rattle.machine_run.proofs.{CrewLemmas.all_left, CrewLemmas.turns_few, lemmas.TurnLemmas.whose}

module _ {G : Type 0} (p : gate.Ghosts G) where
  -- gates that can be told of 2 ^ 62 turns can be told of fewer
  pub can_tell_few : (turns workers : ℕ) (gates : List (Option G)) → turns ≤ 2 ^ 62 → ((i : ℕ) (gate : Option G) → i < workers → slice_get gates i ≡ Some gate → CanTell p gate) → AllCanTellTurns p turns workers gates
  can_tell_few turns workers gates few tell i gate low there =
      let can = tell i gate low there in
      record { told = can.told; is = can.is; times = λ q. omega (arith, read_below (p.times can.told) q (2 ^ 62) can.times, few) }

  -- at first these are all turns
  pub can_tell_at_first : (image : Image) (stimulus : Stimulus) (workers window : ℕ) (gates : List (Option G)) → IsWellFormed image → IsValidStimulus stimulus
      → ((i : ℕ) (gate : Option G) → i < workers → slice_get gates i ≡ Some gate → CanTell p gate) → AllCanTellTurns p (turns_left (at_first image stimulus workers window)) workers gates
  can_tell_at_first image stimulus workers window gates fits valid = can_tell_few (turns_left (at_first image stimulus workers window)) workers gates (omega (arith, all_left image stimulus workers window, turns_few image stimulus fits valid))

  module _ (ports n from to all : ℕ) (low : from ≤ to) (high : to ≤ all) where
    can_more : (w : ℕ) (g g' : G) → HasVisits p ports from to n w g g' → (q : ℕ) → slice_index (p.times g) q + (all - from) ≤ 2 ^ 63 → slice_index (p.times g') q + (all - to) ≤ 2 ^ 63
    can_more w g g' visits q room = elim (whose p ports n w q) [
      | inl its ↦ omega (arith, visits.times q its, room, low, high)
      | inr not ↦ omega (arith, (visits.elsewhere q not).times, room, low, high)
    ]

    -- after the visits of some turns the others are left
    pub can_tell_on : (gates gates' : List (Option G)) → length gates' ≡ length gates → AreVisitsBetween p ports from to n gates gates' → AllCanTellTurns p (all - from) n gates → AllCanTellTurns p (all - to) n gates'
    can_tell_on gates gates' long visits tell i gate' within there' =
        let (gate, there) = beside gates' gates i gate' (sym long) there' in
        let can = tell i gate within there in
        let (g', at', has) = visits.told i can.told within (subst (λ x. slice_get gates i ≡ Some x) can.is there) in
        record {
          told = g';
          is = one_some gate' (Some g') (sym there' ∙ at');
          times = λ q. can_more i can.told g' has q (can.times q);
        }
