use Rattle.plan_defs.proofs.PutLemmas.{put_adds}
use Rattle.plan_defs.proofs.bit_rows.BitRows.put.Goals as goal

pub returns : goal.returns
returns c =
    rw c.set.ensures (rw c.place-place.ensures (rw c.as_slice-2.ensures (put_adds c.args.self.now c.args.row c.args.bit c.requires.within c.requires.room)))
