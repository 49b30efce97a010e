use Rattle.std.proofs.Common.{◌≡◌, ◌+◌, ◌-◌, ◌<◌, inl, inr, length, get_or, [], ◌∷◌, ◌++◌, sym, subst, arith}
use Rattle.node_defs.specs.WellFormed.{NamesParts, IsComputed}
use Rattle.home_pick.specs.code.Rooms.{AreTurned}
use Rattle.home_pick.proofs.{HomeLemmas.computed_last, HomeLemmas.node_room_left, HomeLemmas.source_first, TurnLemmas.turned_before}
use Rattle.home_pick.proofs.pick.item_port.Goals.{In-Node}
use Rattle.home_pick.proofs.pick.item_port.Goals as goal

is_computed : (c : In-Node) → IsComputed c.args.item.now
is_computed c = elim c.in-Node.is [ inl node ↦ subst IsComputed (sym node.2) tt | inr latch ↦ subst IsComputed (sym latch.1) tt ]

pub overflow_sub-i : goal.overflow_sub-i
overflow_sub-i c = computed_last c.args.nodes.now c.args.i c.args.item.now c.requires.nodes c.requires.item (is_computed (goal.at.overflow_sub-i c).In-Node)

pub turn_port-requires : goal.turn_port-requires
turn_port-requires c =
    let computed = is_computed (goal.at.turn_port-requires c).In-Node in
    let from = computed_last c.args.nodes.now c.args.i c.args.item.now c.requires.nodes c.requires.item computed in
    record {
      machine = c.requires.machine;
      next = omega (arith, from, c.requires.next);
      before = c.requires.before;
      room = node_room_left c.args.nodes.now c.args.machine.now c.args.i c.args.item.now c.requires.nodes c.requires.item computed c.requires.few;
    }

pub bounds-blocks-block : goal.bounds-blocks-block
bounds-blocks-block c =
    let within : c.in-BlockBit.block < length c.args.nodes.now.blocks = subst (NamesParts c.args.nodes.now) c.in-BlockBit.is (c.requires.nodes.parts c.args.i c.args.item.now c.requires.item) in
    let same = c.requires.blocks in
    omega (arith, within, same)

pub returns-in-Input-clause-turned : goal.returns-in-Input-clause-turned
returns-in-Input-clause-turned c =
    turned_before c.args.nodes.now c.args.machine.now c.args.turns.now.ports (c.args.turns.now.ports ++ (c.args.machine.now.logic + c.args.machine.now.array) ∷ []) c.args.i c.args.turns.now.left c.args.turns.now.skips
    (source_first c.args.nodes.now c.args.i c.args.item.now c.requires.nodes c.requires.item (λ is. subst IsComputed c.in-Input.is is)) c.requires.before

pub returns-in-BlockBit-clause-turned : goal.returns-in-BlockBit-clause-turned
returns-in-BlockBit-clause-turned c =
    turned_before c.args.nodes.now c.args.machine.now c.args.turns.now.ports (c.args.turns.now.ports ++ get_or c.args.blocks.now c.in-BlockBit.block 0 ∷ []) c.args.i c.args.turns.now.left c.args.turns.now.skips
    (source_first c.args.nodes.now c.args.i c.args.item.now c.requires.nodes c.requires.item (λ is. subst IsComputed c.in-BlockBit.is is)) c.requires.before

pub returns-in-Node-clause-turned : goal.returns-in-Node-clause-turned
returns-in-Node-clause-turned c =
    let from = computed_last c.args.nodes.now c.args.i c.args.item.now c.requires.nodes c.requires.item (is_computed (goal.at.returns-in-Node-clause-turned c).In-Node) in
    let more : c.args.i - c.args.nodes.now.first_node + 1 ≡ c.args.i + 1 - c.args.nodes.now.first_node = omega (arith, from) in
    subst (λ n. AreTurned c.args.nodes.now c.args.machine.now (c.args.turns.now.ports ++ c.turn_port.result ∷ []) n c.turn_port.new.self.left c.turn_port.new.self.skips) more c.turn_port.ensures.turned
