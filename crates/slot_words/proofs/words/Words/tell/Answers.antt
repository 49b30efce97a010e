use Rattle.std.proofs.Common.{arith, subst, sym}
use Rattle.slot_words.proofs.{HeldLemmas.own_fields, HeldLemmas.progress_room, AllowLemmas.tell_allowed}
use Rattle.slot_words.specs.Passes.{CanTell, IsRunning}
use Rattle.slot_words.proofs.words.Words.tell.Goals as goal

pub tell-requires-clause-own : goal.tell-requires-clause-own
tell-requires-clause-own g c = (own_fields c.self.inside c.pass.inside c.args.self.now c.args.pass.now c.self.view_is c.pass.view_is c.requires.own).table

pub tell-requires-clause-inside : goal.tell-requires-clause-inside
tell-requires-clause-inside g c =
    let b = c.self.inside in
    let a = c.pass.inside in
    let own = own_fields b a c.args.self.now c.args.pass.now c.self.view_is c.pass.view_is c.requires.own in
    progress_room g.F.Feed b a c.self.invariant own a.port c.pass.invariant.inside

pub tell-requires-clause-may : goal.tell-requires-clause-may
tell-requires-clause-may g c =
    let b = c.self.inside in
    let a = c.pass.inside in
    let can = subst CanTell (sym c.pass.view_is) c.requires.can in
    let running = subst (IsRunning g.F.Feed) (sym c.pass.view_is) c.requires.running in
    tell_allowed g.F.Feed b.table.shared.key b.table.shared.table_id.slots a.seat.id a.seat.me g.met.F.Feed.few a.port a.turn c.pass.invariant.port c.pass.invariant.turn can.each running

pub overflow_add-pass : goal.overflow_add-pass
overflow_add-pass g c =
    let a = c.pass.inside in
    let running = subst (IsRunning g.F.Feed) (sym c.pass.view_is) c.requires.running in
    let short = g.met.F.Feed.few.short a.seat.me.0.image a.seat.me.0.feed c.pass.invariant.runs.image_fits c.pass.invariant.runs.feed_fits in
    let turn = c.pass.invariant.turn in
    omega arith
