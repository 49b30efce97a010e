use Rattle.yse_compile.proofs.law.one_choice.Goals as goal

pub returns : goal.returns
returns c choice net machine timing one other valid is is_too =
    c.one_use.ensures choice net machine timing one other is.plain is_too.plain valid is.design.items is_too.design.items is.picked is_too.picked is.used is_too.used
    (record { plan = one.compiled.plan; first_fit = is.design.first_fit; fits = is.design.fits })
    (record { plan = other.compiled.plan; first_fit = is_too.design.first_fit; fits = is_too.design.fits })
