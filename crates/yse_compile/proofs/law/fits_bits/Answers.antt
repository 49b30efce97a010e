use Rattle.yse_compile.proofs.law.fits_bits.Goals as goal

pub returns : goal.returns
returns c net machine timing fits block needed left lacks =
    c.bits_first.ensures net machine timing fits.nodes fits.homes fits.items fits.picked block needed left lacks
