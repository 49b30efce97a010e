use Rattle.std.proofs.Common.{◌+◌, ◌*◌, ◌/◌, ◌≤◌, arith}
use Rattle.std.proofs.Math.Nat.{mul-le-mul_right}
use Rattle.slot_plan.proofs.TableLemmas.{used_place, used_are}
use Rattle.slot_plan.proofs.tables.used.Goals as goal

pub new-requires : goal.new-requires
new-requires c =
    let logic = c.requires.homes.logic in
    let few = c.requires.nodes.few_tables in
    let bound : c.args.homes.now.logic * (c.len.result / 64 + 1) ≤ 254 * (c.len.result / 64 + 1) = mul-le-mul_right (c.len.result / 64 + 1) logic.1 in
    omega (arith, bound, few)

pub mark_tables-requires-clause-places : goal.mark_tables-requires-clause-places
mark_tables-requires-clause-places c = λ port table uses.
    used_place _ _ _ _ port table c.requires.nodes c.requires.homes c.in_ok-rows.ensures.shape (omega arith) uses

pub returns : goal.returns
returns c = used_are _ _ _ _ _ c.in_ok-rows.ensures.shape c.in_ok-rows.ensures.none c.mark_tables.ensures
