use Rattle.std.proofs.Common.{ap, arith, length, refl, sym, subst, ◌∙◌}
use Rattle.std.proofs.lemmas.List.{length-replicate}
use Rattle.image_defs.specs.{WellFormed.IsWellFormed, declared.image.Image.Image}
use Rattle.slot_words.specs.{Passes.WordsView, declared.rule.View.View}
use Rattle.slot_words.proofs.opening.pass_of.Goals as goal

pub send_links-requires-clause-image : goal.send_links-requires-clause-image
send_links-requires-clause-image g c = subst IsWellFormed (ap (λ (bar : WordsView g.row.D.Denot). bar.image) c.bar.view_is ∙ sym c.requires.image) c.bar.invariant.runs.image_fits

pub send_links-requires-clause-firsts : goal.send_links-requires-clause-firsts
send_links-requires-clause-firsts g c = c.requires.firsts

pub send_links-requires-clause-banks : goal.send_links-requires-clause-banks
send_links-requires-clause-banks g c =
    let most = g.met.F.Feed.few.banks in
    let few = c.bar.invariant.runs.few in
    let banks = c.bar.invariant.banks in
    omega arith

pub send_links-requires-clause-there : goal.send_links-requires-clause-there
send_links-requires-clause-there g c = c.requires.there

pub receipt_links-requires-clause-image : goal.receipt_links-requires-clause-image
receipt_links-requires-clause-image g c = subst IsWellFormed (ap (λ (bar : WordsView g.row.D.Denot). bar.image) c.bar.view_is ∙ sym c.requires.image) c.bar.invariant.runs.image_fits

pub receipt_links-requires-clause-firsts : goal.receipt_links-requires-clause-firsts
receipt_links-requires-clause-firsts g c = c.requires.firsts

pub receipt_links-requires-clause-banks : goal.receipt_links-requires-clause-banks
receipt_links-requires-clause-banks g c =
    let most = g.met.F.Feed.few.banks in
    let few = c.bar.invariant.runs.few in
    let banks = c.bar.invariant.banks in
    omega arith

pub receipt_links-requires-clause-there : goal.receipt_links-requires-clause-there
receipt_links-requires-clause-there g c = c.requires.there

pub invariant_of-result : goal.invariant_of-result
invariant_of-result g c =
    let view = c.requires.seat.view in
    let banks_are = c.bar.invariant.banks ∙ ap (λ (bar : WordsView g.row.D.Denot). bar.banks) c.bar.view_is in
    record {
      runs = rw view (rw (sym c.bar.view_is) c.bar.invariant.runs);
      inside = rw view (rw (sym c.requires.image) c.requires.there);
      port = ap (λ (v : View g.row.D.Denot). v.port) view;
      banks = rw view banks_are;
      turn = rw view refl;
      known = rw view (rw c.in_ok-filled.ensures (rw c.len.ensures (rw c.requires.image refl)));
      wide = rw view (rw c.in_ok-filled.ensures (length-replicate c.len.result 0 ∙ c.len.ensures ∙ ap (λ (image : Image). length image.ports) c.requires.image));
      sends = rw view (rw (sym banks_are) (rw (sym c.requires.image) c.in_ok-send_links.ensures));
      receipts = rw view (rw (sym banks_are) (rw (sym c.requires.image) c.in_ok-receipt_links.ensures));
    }

pub returns : goal.returns
returns g c =
    let view = c.requires.seat.view in
    record {
      of = record {
        table = c.requires.seat.table;
        image = ap (λ (v : View g.row.D.Denot). v.image) view;
        feed = ap (λ (v : View g.row.D.Denot). v.feed) view;
        banks = ap (λ (v : View g.row.D.Denot). v.banks) view;
      };
      port_is = refl;
      place_is = ap (λ (v : View g.row.D.Denot). v.place) view;
      steps_none = ap (λ (v : View g.row.D.Denot). v.steps) view;
    }
