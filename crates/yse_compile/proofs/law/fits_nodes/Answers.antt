use Rattle.yse_compile.proofs.law.fits_nodes.Goals as goal

pub returns : goal.returns
returns c net machine timing fits needed limit lacks =
    c.nodes_first.ensures net machine timing fits.nodes fits.homes fits.items fits.picked needed limit lacks
