use Rattle.std.proofs.Common.{ap, length, subst, sym, ℕ, ◌∙◌}
use Rattle.machine_run.specs.{Crews.in_next_block, Kept.IsKept, Kept.view_of, code.Moves.AreMoved, code.Moves.HasGoneOn}
use Rattle.machine_run.proofs.KeptLemmas.{back, can_go_on_all, kept_in_next}
use Rattle.machine_run.proofs.crew.Crew.go_on.Goals as goal

pub go_on_all-requires : goal.go_on_all-requires
go_on_all-requires g c = rw c.as_mut_slice.ensures.value (can_go_on_all c.self.inside c.self.invariant c.args.self.now c.self.view_is c.requires.done c.requires.more)

pub invariant_of-self : goal.invariant_of-self
invariant_of-self g c =
    let moved = subst (λ ws. AreMoved HasGoneOn ws c.go_on_all.new.workers) c.as_mut_slice.ensures.value c.go_on_all.ensures in
    subst (λ ws. IsKept (record c.self.inside { workers = ws; first_row = c.self.inside.rows })) (sym (back c.self.inside.workers c.go_on_all.new.workers moved.0))
    (kept_in_next c.self.inside c.self.invariant c.args.self.now c.self.view_is c.requires.done c.requires.more c.go_on_all.new.workers moved)

pub returns : goal.returns
returns g c =
    let moved = subst (λ ws. AreMoved HasGoneOn ws c.go_on_all.new.workers) c.as_mut_slice.ensures.value c.go_on_all.ensures in
    let a = c.self.inside in
    ap (λ (n : ℕ). record (view_of a) { workers = n; first_row = a.rows }) (ap length (back a.workers c.go_on_all.new.workers moved.0) ∙ moved.0)
    ∙ ap in_next_block c.self.view_is
