use Rattle.std.proofs.Common.{◌∙◌, subst, sym, arith}
use Rattle.port_walk.specs.Walks.{CanTakeValue}
use Rattle.port_walk.proofs.MoveLemmas.{take_within, take_receives, take_runs, take_last, take_kept, take_made}
use Rattle.port_walk.proofs.walk.Walk.took.Goals as goal

pub bounds-stops-self-inside-2 : goal.bounds-stops-self-inside-2
bounds-stops-self-inside-2 g c =
    let can = subst (λ view. CanTakeValue g.W.Word view c.args.v) (sym c.self.view_is) c.requires in
    take_within g.W.Word c.self.invariant c.as_slice-stops.result.now c.as_slice-stops.ensures c.args.v can

pub receive-requires : goal.receive-requires
receive-requires g c =
    let can = subst (λ view. CanTakeValue g.W.Word view c.args.v) (sym c.self.view_is) c.requires in
    take_receives g.W.Word c.self.invariant c.as_slice-stops.result.now c.as_slice-stops.ensures c.args.v can

pub run_on-self-inside-requires-clause-can : goal.run_on-self-inside-requires-clause-can
run_on-self-inside-requires-clause-can g c =
    let can = subst (λ view. CanTakeValue g.W.Word view c.args.v) (sym c.self.view_is) c.requires in
    take_runs g.W.Word c.self.invariant c.as_slice-stops.result.now c.as_slice-stops.ensures c.args.v can _ c.receive.ensures.view c.as_slice.result.now c.as_slice.ensures

pub run_on-self-inside-requires-clause-last : goal.run_on-self-inside-requires-clause-last
run_on-self-inside-requires-clause-last g c =
    let can = subst (λ view. CanTakeValue g.W.Word view c.args.v) (sym c.self.view_is) c.requires in
    take_last g.W.Word c.self.invariant c.as_slice-stops.result.now c.as_slice-stops.ensures c.args.v can _ c.receive.ensures.view

pub invariant_of-self : goal.invariant_of-self
invariant_of-self g c =
    let can = subst (λ view. CanTakeValue g.W.Word view c.args.v) (sym c.self.view_is) c.requires in
    take_kept g.W.Word c.self.invariant c.as_slice-stops.result.now c.as_slice-stops.ensures c.args.v can _ c.receive.ensures.view _ _ _ c.run_on-self-inside.ensures.run c.run_on-self-inside.ensures.last

pub returns : goal.returns
returns g c =
    let can = subst (λ view. CanTakeValue g.W.Word view c.args.v) (sym c.self.view_is) c.requires in
    take_made g.W.Word c.self.invariant c.as_slice-stops.result.now c.as_slice-stops.ensures c.args.v can _ c.receive.ensures.view _ (g.P.Port.rows c.run_on-self-inside.new.port) c.run_on-self-inside.result c.run_on-self-inside.ensures.run (c.run_on-self-inside.ensures.rows ∙ c.receive.ensures.rows) _ c.self.view_is

pub offset_bounds-stops-self-inside : goal.offset_bounds-stops-self-inside
offset_bounds-stops-self-inside g c =
    let can = subst (λ view. CanTakeValue g.W.Word view c.args.v) (sym c.self.view_is) c.requires in
    let within = take_within g.W.Word c.self.invariant c.as_slice-stops.result.now c.as_slice-stops.ensures c.args.v can in
    omega (arith, within, c.as_slice-stops.type_inv.1)

pub bounds-stops-self-inside : goal.bounds-stops-self-inside
bounds-stops-self-inside g c =
    let can = subst (λ view. CanTakeValue g.W.Word view c.args.v) (sym c.self.view_is) c.requires in
    let within = take_within g.W.Word c.self.invariant c.as_slice-stops.result.now c.as_slice-stops.ensures c.args.v can in
    omega (arith, within)

pub overflow_add-to : goal.overflow_add-to
overflow_add-to g c =
    let can = subst (λ view. CanTakeValue g.W.Word view c.args.v) (sym c.self.view_is) c.requires in
    let within = take_within g.W.Word c.self.invariant c.as_slice-stops.result.now c.as_slice-stops.ensures c.args.v can in
    omega (arith, within, c.as_slice-stops.type_inv.0)

pub offset_bounds-stops-self-inside-2 : goal.offset_bounds-stops-self-inside-2
offset_bounds-stops-self-inside-2 g c =
    let can = subst (λ view. CanTakeValue g.W.Word view c.args.v) (sym c.self.view_is) c.requires in
    let within = take_within g.W.Word c.self.invariant c.as_slice-stops.result.now c.as_slice-stops.ensures c.args.v can in
    omega (arith, within, c.as_slice-stops.type_inv.1)

pub overflow_add-self : goal.overflow_add-self
overflow_add-self g c =
    let can = subst (λ view. CanTakeValue g.W.Word view c.args.v) (sym c.self.view_is) c.requires in
    let within = take_within g.W.Word c.self.invariant c.as_slice-stops.result.now c.as_slice-stops.ensures c.args.v can in
    omega (arith, within, c.as_slice-stops.type_inv.0)

pub overflow_add-self-2 : goal.overflow_add-self-2
overflow_add-self-2 g c =
    let can = subst (λ view. CanTakeValue g.W.Word view c.args.v) (sym c.self.view_is) c.requires in
    let within = take_within g.W.Word c.self.invariant c.as_slice-stops.result.now c.as_slice-stops.ensures c.args.v can in
    omega (arith, within, c.self.invariant.at, c.as_slice-stops.type_inv.0)
