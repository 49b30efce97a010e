use Rattle.std.proofs.Common.{subst}
use Rattle.yse_compile.specs.Chosen.{HomesFit, IsUsed}
use Rattle.yse_compile.proofs.{FitLemmas.moved, lemmas.ChoiceLemmas.used_alike}
use Rattle.yse_compile.proofs.law.one_use.Goals as goal

pub returns : goal.returns
returns c choice net machine timing one other plain plain_too valid items items_too picked picked_too used used_too fit fit_too =
    let others = other.compiled.nodes in
    let nodes = c.one_list.ensures.one net timing one.compiled.nodes others items items_too in
    let homes = c.one_homes.ensures net machine timing one.compiled.nodes others items items_too plain plain_too picked picked_too in
    used_alike choice others machine plain_too one other (c.one_better.ensures others machine plain_too)
    (moved (λ n h. IsUsed choice n machine h one) nodes homes used) used_too (subst (λ n. HomesFit n machine one.compiled.homes) nodes fit) fit_too
