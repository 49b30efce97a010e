use Rattle.std.proofs.Common.{inl, inr}
use Rattle.home_pick.specs.Better.{IsBetter}
use Rattle.yse_compile.specs.Chosen.{HomesFit}
use Rattle.yse_compile.proofs.{FitLemmas.moved, lemmas.ChoiceLemmas.plain_either}
use Rattle.yse_compile.proofs.law.either_fits.Goals as goal

pub returns-clause-plain : goal.returns-clause-plain
returns-clause-plain c net machine timing fits = plain_either net machine timing fits

pub returns-clause-bits : goal.returns-clause-bits
returns-clause-bits c net machine timing fits block needed left lacks = c.bits_first.ensures net machine timing fits.nodes fits.plain fits.items fits.picked block needed left lacks

pub returns-clause-nodes : goal.returns-clause-nodes
returns-clause-nodes c net machine timing fits needed limit lacks = c.nodes_first.ensures net machine timing fits.nodes fits.plain fits.items fits.picked needed limit lacks

pub returns-clause-fit : goal.returns-clause-fit
returns-clause-fit c net machine timing nodes plain best valid items picked is fits =
    let same = c.one_list.ensures.one net timing fits.nodes nodes fits.items items in
    let homes = c.one_homes.ensures net machine timing fits.nodes nodes fits.items items fits.plain plain fits.picked picked in
    elim fits.fit [
      | inl here ↦ inl (moved (λ n h. HomesFit n machine h) same homes here)
      | inr there ↦
          let better = c.one_better.ensures nodes machine plain there.0 best (moved (λ n h. IsBetter n machine h there.0) same homes there.1) is in
          inr (moved (λ n h. HomesFit n machine h) same better there.2)
    ]
