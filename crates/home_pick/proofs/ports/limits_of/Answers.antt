use Rattle.std.proofs.Common.{◌∙◌, ◌∷◌, [], ◌++◌, sym, ap}
use Rattle.home_pick.specs.code.Rooms.{limits_of}
use Rattle.home_pick.proofs.FillLemmas.{limits_none, limits_more}
use Rattle.home_pick.proofs.ports.limits_of.Goals as goal

pub ports-init : goal.ports-init
ports-init c = c.new-limits.ensures ∙ sym (limits_none c.args.machine.now c.args.what)

pub ports-preserved : goal.ports-preserved
ports-preserved c =
    rw c.in_ok-push.ensures.ok
    (ap (λ limits. limits ++ c.limit_at.result ∷ []) c.ports.invariant
    ∙ (ap (λ limit. limits_of c.args.machine.now c.args.what c.ports.port ++ limit ∷ []) c.limit_at.ensures ∙ sym (limits_more c.args.machine.now c.args.what c.ports.port)))
