use Rattle.slot_plan.specs.code.Plannings.{IsPlannedTo}
use Rattle.slot_plan.proofs.planning.Planning.place_all.Given as goal

abbrev pub invariant-items : goal.invariant-items
invariant-items l = record {
  planned : IsPlannedTo l.nodes l.homes l.item l.self;
}
