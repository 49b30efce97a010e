use Rattle.std.proofs.Common.{subst, sym, arith}
use Rattle.port_walk.specs.{Stands.CanPut, Walks.Walked}
use Rattle.port_walk.proofs.MoveLemmas.{put_within, put_runs, put_kept, put_made}
use Rattle.port_walk.proofs.walk.Walk.put_done.Goals as goal

pub bounds-stops-self-inside-2 : goal.bounds-stops-self-inside-2
bounds-stops-self-inside-2 g c =
    let can = subst (λ (view : Walked _). CanPut view.stand) (sym c.self.view_is) c.requires in
    put_within g.W.Word c.self.invariant c.as_slice-stops.result.now c.as_slice-stops.ensures can

pub run_on-self-inside-requires-clause-can : goal.run_on-self-inside-requires-clause-can
run_on-self-inside-requires-clause-can g c =
    let can = subst (λ (view : Walked _). CanPut view.stand) (sym c.self.view_is) c.requires in
    put_runs g.W.Word c.self.invariant c.as_slice-stops.result.now c.as_slice-stops.ensures can c.as_slice.result.now c.as_slice.ensures

pub invariant_of-self : goal.invariant_of-self
invariant_of-self g c =
    let can = subst (λ (view : Walked _). CanPut view.stand) (sym c.self.view_is) c.requires in
    put_kept g.W.Word c.self.invariant c.as_slice-stops.result.now c.as_slice-stops.ensures can _ _ _ c.run_on-self-inside.ensures.run c.run_on-self-inside.ensures.last

pub returns : goal.returns
returns g c =
    let can = subst (λ (view : Walked _). CanPut view.stand) (sym c.self.view_is) c.requires in
    put_made g.W.Word c.self.invariant c.as_slice-stops.result.now c.as_slice-stops.ensures can _ (g.P.Port.rows c.run_on-self-inside.new.port) c.run_on-self-inside.result c.run_on-self-inside.ensures.run c.run_on-self-inside.ensures.rows _ c.self.view_is

pub offset_bounds-stops-self-inside : goal.offset_bounds-stops-self-inside
offset_bounds-stops-self-inside g c =
    let can = subst (λ (view : Walked _). CanPut view.stand) (sym c.self.view_is) c.requires in
    let within = put_within g.W.Word c.self.invariant c.as_slice-stops.result.now c.as_slice-stops.ensures can in
    omega (arith, within, c.as_slice-stops.type_inv.1)

pub bounds-stops-self-inside : goal.bounds-stops-self-inside
bounds-stops-self-inside g c =
    let can = subst (λ (view : Walked _). CanPut view.stand) (sym c.self.view_is) c.requires in
    let within = put_within g.W.Word c.self.invariant c.as_slice-stops.result.now c.as_slice-stops.ensures can in
    omega (arith, within)

pub overflow_add-to : goal.overflow_add-to
overflow_add-to g c =
    let can = subst (λ (view : Walked _). CanPut view.stand) (sym c.self.view_is) c.requires in
    let within = put_within g.W.Word c.self.invariant c.as_slice-stops.result.now c.as_slice-stops.ensures can in
    omega (arith, within, c.as_slice-stops.type_inv.0)

pub offset_bounds-stops-self-inside-2 : goal.offset_bounds-stops-self-inside-2
offset_bounds-stops-self-inside-2 g c =
    let can = subst (λ (view : Walked _). CanPut view.stand) (sym c.self.view_is) c.requires in
    let within = put_within g.W.Word c.self.invariant c.as_slice-stops.result.now c.as_slice-stops.ensures can in
    omega (arith, within, c.as_slice-stops.type_inv.1)

pub overflow_add-self : goal.overflow_add-self
overflow_add-self g c =
    let can = subst (λ (view : Walked _). CanPut view.stand) (sym c.self.view_is) c.requires in
    let within = put_within g.W.Word c.self.invariant c.as_slice-stops.result.now c.as_slice-stops.ensures can in
    omega (arith, within, c.as_slice-stops.type_inv.0)

pub overflow_add-self-2 : goal.overflow_add-self-2
overflow_add-self-2 g c =
    let can = subst (λ (view : Walked _). CanPut view.stand) (sym c.self.view_is) c.requires in
    let within = put_within g.W.Word c.self.invariant c.as_slice-stops.result.now c.as_slice-stops.ensures can in
    omega (arith, within, c.self.invariant.at, c.as_slice-stops.type_inv.0)
