use Rattle.yse_compile.proofs.matching.designs_are_accepted.Goals as goal

pub returns : goal.returns
returns c net machine timing compiled claims is are = (is.built.fits, are.matches timing is.built)
