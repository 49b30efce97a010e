use Rattle.std.proofs.Common.{ap, arith, length, subst, sym, ◌<◌, ◌∙◌}
use Rattle.slot_words.proofs.{OpeningLemmas.claim_room, OpeningLemmas.no_port, AllowLemmas.claim_allowed, AllowLemmas.split_allowed}
use Rattle.slot_words.specs.{code.Opening.IsTemplate, Passes.WordsView, declared.rule.View.View}
use Rattle.slot_words.proofs.opening.claim.Goals as goal

pub split_seat-seat-requires : goal.split_seat-seat-requires
split_seat-seat-requires g c =
    let b = c.bar.inside in
    let template = subst (λ (x : WordsView g.row.D.Denot). IsTemplate g.F.Feed x c.args.template.now) (sym c.bar.view_is) c.requires.template in
    let there = subst (λ (x : WordsView g.row.D.Denot). c.args.p < length x.image.ports) (sym c.bar.view_is) c.requires.there in
    let room = claim_room g.F.Feed b c.bar.invariant c.args.p there in
    (template.table, omega arith, split_allowed g.F.Feed b.table.shared.key 0 c.args.template.now.id c.args.template.now.me (no_port c.args.template.now.me.0 _ _ _ template.view))

pub compare_exchange-found-requires : goal.compare_exchange-found-requires
compare_exchange-found-requires g c =
    let b = c.bar.inside in
    let template = subst (λ (x : WordsView g.row.D.Denot). IsTemplate g.F.Feed x c.args.template.now) (sym c.bar.view_is) c.requires.template in
    let there = subst (λ (x : WordsView g.row.D.Denot). c.args.p < length x.image.ports) (sym c.bar.view_is) c.requires.there in
    let seat = c.split_seat-seat.result in
    let view_is = ap (λ m. m.0) c.split_seat-seat.ensures.4 ∙ template.view in (
      c.split_seat-seat.ensures.3 ∙ template.table,
      claim_room g.F.Feed b c.bar.invariant c.args.p there,
      claim_allowed g.F.Feed b.table.shared.key b.table.shared.table_id.slots seat.id seat.me c.args.p (no_port seat.me.0 _ _ _ view_is)
          (subst (λ (v : View g.row.D.Denot). c.args.p < length v.image.ports) (sym view_is) there),
    )
