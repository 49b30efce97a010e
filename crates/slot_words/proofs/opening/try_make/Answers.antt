use Rattle.std.proofs.Common.{arith, length, refl, sym}
use Rattle.std.proofs.lemmas.Option.{get_or_from_slice_get}
use Rattle.event_defs.specs.Row.{send_count}
use Rattle.slot_words.proofs.opening.try_make.Goals as goal

pub bounds-firsts-len : goal.bounds-firsts-len
bounds-firsts-len g c = omega (arith, c.len.ensures, c.requires.firsts.long)

pub open-requires-clause-runs : goal.open-requires-clause-runs
open-requires-clause-runs g c = c.requires.runs

pub open-requires-clause-sends : goal.open-requires-clause-sends
open-requires-clause-sends g c =
    let n = length c.args.image.now.ports in
    rw c.len.ensures (get_or_from_slice_get c.args.firsts.now n (send_count c.args.image.now) 0 (c.requires.firsts.each n (omega arith)))

pub deal-requires-clause-fits : goal.deal-requires-clause-fits
deal-requires-clause-fits g c = c.requires.runs.image_fits

pub deal-requires-clause-image : goal.deal-requires-clause-image
deal-requires-clause-image g c = sym c.in_ok-bar.ensures.image_is

pub deal-requires-clause-firsts : goal.deal-requires-clause-firsts
deal-requires-clause-firsts g c = c.requires.firsts

pub deal-requires-clause-template : goal.deal-requires-clause-template
deal-requires-clause-template g c = c.in_ok-bar.ensures.template

pub same-bar : goal.same-bar
same-bar g c = refl
