use Rattle.std.proofs.Common.{◌↔◌, ◌≤◌, IsTrue, subst}
use Rattle.image_defs.specs.Places.{Each}
use Rattle.order_run.specs.Core.{AreDone, CoreView}
use Rattle.order_run.proofs.RoundLemmas.{done_tells}
use Rattle.order_run.proofs.core_run.Core.all_done.Goals as goal

pub returns : goal.returns
returns c =
    let tells = done_tells c.self.inside c.self.invariant in
    let has = subst (λ finished. IsTrue c.have_finished.result ↔ Each (λ n. c.self.inside.until ≤ n) finished) c.as_slice.ensures c.have_finished.ensures in
    subst (λ (v : CoreView). IsTrue c.have_finished.result ↔ AreDone v) c.self.view_is
    ((λ t. tells.0 (has.0 t)), (λ d. has.1 (tells.1 d)))
