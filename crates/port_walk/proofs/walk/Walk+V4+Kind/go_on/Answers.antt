use Rattle.std.proofs.Common.{◌≡◌, ◌+◌, ◌≤◌, subst, sym}
use Rattle.net_defs.specs.Time.{turn_count}
use Rattle.image_defs.specs.Steps.{timing_of}
use Rattle.port_walk.specs.Walks.{Walked}
use Rattle.port_walk.proofs.MoveLemmas.{gone_enters, gone_kept}
use Rattle.port_walk.proofs.walk.Walk+V4+Kind.go_on.Goals as goal

pub enter-self-inside-requires : goal.enter-self-inside-requires
enter-self-inside-requires c =
    let is = sym c.self.view_is in
    gone_enters _ c.self.invariant c.as_slice.result.now c.as_slice.ensures c.args.until (subst (λ (view : Walked _). c.args.until ≤ turn_count (timing_of view.stand.image) view.stimulus) is c.requires.until)
    (subst (λ (view : Walked _). view.stand.turn ≡ view.stand.until + 1) is c.requires.rests) (subst (λ (view : Walked _). view.stand.turn ≤ c.args.until) is c.requires.more) _ c.give_up.ensures.view
    c.as_slice-2.result.now c.as_slice-2.ensures

pub invariant_of-self : goal.invariant_of-self
invariant_of-self c =
    let is = sym c.self.view_is in
    gone_kept _ c.self.invariant c.as_slice.result.now c.as_slice.ensures c.args.until (subst (λ (view : Walked _). c.args.until ≤ turn_count (timing_of view.stand.image) view.stimulus) is c.requires.until)
    (subst (λ (view : Walked _). view.stand.turn ≡ view.stand.until + 1) is c.requires.rests) (subst (λ (view : Walked _). view.stand.turn ≤ c.args.until) is c.requires.more) _ c.give_up.ensures.view
    _ _ _ c.enter-self-inside.ensures.entered c.enter-self-inside.ensures.last
