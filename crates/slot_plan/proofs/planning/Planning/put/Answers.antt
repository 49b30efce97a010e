use Rattle.std.proofs.Common.{◌<◌, ◌≤◌, ℕ, subst, arith}
use Rattle.std.specs.List.{Contains}
use Rattle.node_defs.specs.Takes.{Awaits}
use Rattle.slot_plan.specs.code.Early.{IsFrom}
use Rattle.slot_plan.proofs.PlaceLemmas.{home_low, reader_low, from_low, slot_low, planned_more}
use Rattle.slot_plan.proofs.planning.Planning.put.Goals.{After-first_slot-from, After-first_free-slot}
use Rattle.slot_plan.proofs.planning.Planning.put.Goals as goal

is_from : (c : After-first_slot-from) → IsFrom (Awaits c.args.found.now) c.args.self.now.slots c.first_slot-from.result
is_from c = subst (λ slots. IsFrom (Awaits c.args.found.now) slots c.first_slot-from.result) c.as_slice.ensures c.first_slot-from.ensures

home_within : (c : After-first_slot-from) → c.args.home < c.args.self.now.board.ports
home_within c = home_low c.args.nodes.now c.args.homes.now c.args.item c.args.self.now c.requires.nodes c.requires.homes c.requires.before c.requires.item c.args.found.now c.requires.found c.args.home c.requires.home c.args.heard.now c.requires.heard c.first_slot-from.result (is_from c)

readers_within : (c : After-first_slot-from) (r : ℕ) → Contains c.args.heard.now r → r < c.args.self.now.board.ports
readers_within c = reader_low c.args.nodes.now c.args.homes.now c.args.item c.args.self.now c.requires.nodes c.requires.homes c.requires.before c.requires.item c.args.found.now c.requires.found c.args.home c.requires.home c.args.heard.now c.requires.heard c.first_slot-from.result (is_from c)

pub first_free-slot-requires : goal.first_free-slot-requires
first_free-slot-requires c =
    let at = (goal.at.first_free-slot-requires c).After-first_slot-from in
    let before = c.requires.before in
    let low = from_low c.args.nodes.now c.args.homes.now c.args.item c.args.self.now c.requires.nodes before c.args.found.now c.first_slot-from.result c.requires.found (is_from at) in
    record {
      board = before.board;
      home = home_within at;
      readers = readers_within at;
      from = omega (arith, low, before.most, before.room, c.requires.item);
    }

slot_within : (c : After-first_free-slot) → c.first_free-slot.result ≤ c.args.item
slot_within c =
    slot_low c.args.nodes.now c.args.homes.now c.args.item c.args.self.now c.requires.nodes c.requires.homes c.requires.before c.requires.item c.args.found.now c.requires.found c.args.home c.requires.home c.args.heard.now c.requires.heard c.first_slot-from.result
    (subst (λ slots. IsFrom (Awaits c.args.found.now) slots c.first_slot-from.result) c.as_slice.ensures c.first_slot-from.ensures) c.first_free-slot.result c.first_free-slot.ensures

pub take-requires : goal.take-requires
take-requires c =
    let at = (goal.at.take-requires c).After-first_slot-from in
    let low = slot_within (goal.at.take-requires c).After-first_free-slot in
    record {
      board = c.requires.before.board;
      home = home_within at;
      readers = readers_within at;
      within = omega (arith, low, c.requires.before.room, c.requires.item);
    }

pub overflow_cast-slot : goal.overflow_cast-slot
overflow_cast-slot c = omega (arith, slot_within (goal.at.overflow_cast-slot c).After-first_free-slot, c.requires.nodes.few, c.requires.item)

pub overflow_cast-slot-2 : goal.overflow_cast-slot-2
overflow_cast-slot-2 c = omega (arith, slot_within (goal.at.overflow_cast-slot-2 c).After-first_free-slot, c.requires.nodes.few, c.requires.item)

pub overflow_add-slot : goal.overflow_add-slot
overflow_add-slot c = omega (arith, slot_within (goal.at.overflow_add-slot c).After-first_free-slot, c.requires.nodes.few, c.requires.item)

pub returns : goal.returns
returns c =
    rw c.in_ok-push.ensures.ok (rw c.max-self.ensures (planned_more c.args.nodes.now c.args.homes.now c.args.item c.args.self.now c.requires.nodes c.requires.homes c.requires.before c.requires.item c.args.found.now c.requires.found c.args.home c.requires.home c.args.heard.now c.requires.heard c.first_slot-from.result (is_from (goal.at.returns c).After-first_slot-from)
    c.first_free-slot.result c.take.new.self c.first_free-slot.ensures c.take.ensures.board c.take.ensures.ports c.take.ensures.adds))
