use Rattle.std.proofs.lemmas.Bool.{le-leb, leb-true}
use Rattle.limits.specs.declared.TheConstants.{MAX_TEXT_BYTES}
use Rattle.limits.proofs.fits_text.Goals as goal

pub returns : goal.returns
returns c = (leb-true c.args.bytes MAX_TEXT_BYTES, le-leb c.args.bytes MAX_TEXT_BYTES)
