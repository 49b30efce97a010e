use Rattle.std.proofs.{Common.subst, Common.sym, lemmas.Result.on_ok_weaker}
use Rattle.list_laws.proofs.Members.{each_push}
use Rattle.crew_run.specs.{Crews.AllCanRun, Crews.AreReady, Crews.CanRun, Lending.AllAreReady}
use Rattle.crew_run.proofs.lend.add.Goals as goal

pub returns-clause-can : goal.returns-clause-can
returns-clause-can g c = λ before one. on_ok_weaker c.push.result (λ e. subst (AllCanRun g.S.Stepper g.G.Gate) (sym e) (each_push (CanRun g.S.Stepper g.G.Gate) c.args.workers.now c.args.worker before one)) c.push.ensures.ok

pub returns-clause-added : goal.returns-clause-added
returns-clause-added g c = c.push.ensures.ok

pub returns-clause-refused : goal.returns-clause-refused
returns-clause-refused g c = c.push.ensures.err

pub returns-clause-ready : goal.returns-clause-ready
returns-clause-ready g c = λ before one. on_ok_weaker c.push.result (λ e. subst (AllAreReady g.S.Stepper) (sym e) (each_push (λ w. AreReady g.S.Stepper w.members) c.args.workers.now c.args.worker before one)) c.push.ensures.ok
