use Rattle.std.proofs.Common.{ap, ap₂, length, min, subst, sym, ℕ, ◌+◌, ◌∙◌}
use Rattle.crew_run.specs.Lending.{AllCanRunWith, AllHaveRunWith}
use Rattle.port_run.specs.contracts.seated.SeatedStepper.TheImpl as seated
use Rattle.machine_run.specs.{Crews.at_block_end, Kept.IsKept, Kept.view_of}
use Rattle.machine_run.proofs.KeptLemmas.{back, can_run_block, can_tell_at_end, in_place_at_end, kept_at_end, visits_at_end}
use Rattle.machine_run.proofs.crew.Crew.run_block.Goals as goal

pub run_with-requires-after_bounds : goal.run_with-requires-after_bounds
run_with-requires-after_bounds g c κs within =
    subst (λ ws. AllCanRunWith seated.ghosts g.G.Gate ws c.args.gates.now) (sym c.as_mut_slice.ensures.value)
    (can_run_block c.self.inside c.self.invariant g.G.Gate c.args.gates.now c.args.self.now c.self.view_is c.requires.enough c.requires.tell)

pub invariant_of-self : goal.invariant_of-self
invariant_of-self g c =
    let run = subst (λ ws. AllHaveRunWith seated.ghosts g.G.Gate ws c.args.gates.now c.run_with.new.workers c.run_with.new.gates) c.as_mut_slice.ensures.value c.run_with.ensures in
    subst (λ ws. IsKept (record c.self.inside { workers = ws; rows = c.block_end-self-inside.result })) (sym (back c.self.inside.workers c.run_with.new.workers run.worker_count))
    (kept_at_end c.self.inside c.self.invariant g.G.Gate c.args.gates.now c.args.self.now c.self.view_is c.requires.enough c.run_with.new.workers c.run_with.new.gates run c.block_end-self-inside.result c.block_end-self-inside.ensures)

pub returns : goal.returns
returns g c =
    let run = subst (λ ws. AllHaveRunWith seated.ghosts g.G.Gate ws c.args.gates.now c.run_with.new.workers c.run_with.new.gates) c.as_mut_slice.ensures.value c.run_with.ensures in
    record {
      run = ◌∙◌ {b = at_block_end (view_of c.self.inside)}
          (ap₂ (λ (n r : ℕ). record (view_of c.self.inside) { workers = n; rows = r }) (ap length (back c.self.inside.workers c.run_with.new.workers run.worker_count) ∙ run.worker_count)
          (c.block_end-self-inside.ensures ∙ ap (min (c.self.inside.first_row + c.self.inside.window)) c.self.invariant.cycles)) (ap at_block_end c.self.view_is);
      visits = visits_at_end c.self.inside c.self.invariant g.G.Gate c.args.gates.now c.args.self.now c.self.view_is c.requires.enough c.run_with.new.workers c.run_with.new.gates run c.block_end-self-inside.result c.block_end-self-inside.ensures;
      tell = can_tell_at_end c.self.inside c.self.invariant g.G.Gate c.args.gates.now c.args.self.now c.self.view_is c.requires.enough c.run_with.new.workers c.run_with.new.gates run c.block_end-self-inside.result c.block_end-self-inside.ensures c.requires.tell;
      kept = in_place_at_end c.self.inside c.self.invariant g.G.Gate c.args.gates.now c.args.self.now c.self.view_is c.requires.enough c.run_with.new.workers c.run_with.new.gates run c.block_end-self-inside.result c.block_end-self-inside.ensures;
    }
