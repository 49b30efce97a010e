use Rattle.std.proofs.Common.{◌∙◌, length, sym, ap, subst}
use Rattle.list_laws.proofs.Members.{refill_whole}
use Rattle.cover_sim.specs.code.Watching.{AreMarkedTo}
use Rattle.cover_sim.proofs.WatchLemmas.{marks_more}
use Rattle.cover_sim.proofs.watching.WatchingObserverV4.look.Goals as goal

pub returns-clause-seen : goal.returns-clause-seen
returns-clause-seen c seen more before =
    let net = c.args.net.now in
    let marks = c.args.self.now.marks in
    let last = c.args.self.now.last in
    let row = c.args.row.now in
    let new = c.mark.new.marks in
    let marked : AreMarkedTo (length marks) last row marks new =
    subst (λ m. AreMarkedTo (length m) last row m new) c.as_mut_slice.ensures.value
    (subst (λ l. AreMarkedTo (length c.as_mut_slice.result.now) l row c.as_mut_slice.result.now new) c.as_slice.ensures c.mark.ensures) in
    let kept = refill_whole last c.copy_from_slice.new.self (ap length c.copy_from_slice.ensures.after ∙ (c.requires.row ∙ sym before.values)) ∙ c.copy_from_slice.ensures.after in
    marks_more net marks new _ last row _ seen c.requires.row kept (refill_whole marks new marked.long) marked before
