use Rattle.std.proofs.Common.{ap, false, length, subst, sym, ◌%◌, ◌<◌, ◌∙◌, ◌≡◌}
use Rattle.std.proofs.lemmas.Option.{slice_get_within}
use Rattle.event_defs.proofs.lemmas.PaceLemmas.{source}
use Rattle.event_defs.specs.Places.{is_in}
use Rattle.slot_words.proofs.HeldLemmas.{gives, held_found, own_fields, reseated, take_finds, take_word, word_room}
use Rattle.slot_words.proofs.AllowLemmas.{take_allowed}
use Rattle.slot_words.specs.Passes.{CanTake, HasTaken, IsNumber, IsRunning, PassView}
use Rattle.slot_words.specs.{Held.pass_of, Layout.send_word}
use Rattle.slot_words.proofs.words.Words.take.Goals as goal

pub take-number-requires-clause-own : goal.take-number-requires-clause-own
take-number-requires-clause-own g c = (own_fields c.self.inside c.pass.inside c.args.self.now c.args.pass.now c.self.view_is c.pass.view_is c.requires.own).table

pub take-number-requires-clause-inside : goal.take-number-requires-clause-inside
take-number-requires-clause-inside g c =
    let b = c.self.inside in
    let a = c.pass.inside in
    let held = c.pass.invariant in
    let own = own_fields b a c.args.self.now c.args.pass.now c.self.view_is c.pass.view_is c.requires.own in
    let can : CanTake (pass_of a) c.args.slot = subst (λ (o : PassView g.row.D.Denot). CanTake o c.args.slot) (sym c.pass.view_is) c.requires.can in
    let from = source a.seat.me.0.image held.runs.image_fits a.port can.port can.j can.link can.is can.receives in
    let word = take_word g.F.Feed a held c.as_slice.result.now c.as_slice-2.result.now c.find-k.result c.args.slot c.word_in_turn-word.result c.find-k.ensures c.word_in_turn-word.ensures c.as_slice.ensures c.as_slice-2.ensures
    can.port can.j from.0 can.link from.1 can.is can.receives can.slot_is from.2 (from.3 ∙ can.slot_is) in
    word_room g.F.Feed b a c.self.invariant own held can.link.sender from.0 from.1 from.2 _ word

pub take-number-requires-clause-may : goal.take-number-requires-clause-may
take-number-requires-clause-may g c =
    let b = c.self.inside in
    let a = c.pass.inside in
    let v = a.seat.me.0 in
    let held = c.pass.invariant in
    let can : CanTake (pass_of a) c.args.slot = subst (λ (o : PassView g.row.D.Denot). CanTake o c.args.slot) (sym c.pass.view_is) c.requires.can in
    let running = subst (IsRunning g.F.Feed) (sym c.pass.view_is) c.requires.running in
    let from = source v.image held.runs.image_fits a.port can.port can.j can.link can.is can.receives in
    let word = take_word g.F.Feed a held c.as_slice.result.now c.as_slice-2.result.now c.find-k.result c.args.slot c.word_in_turn-word.result c.find-k.ensures c.word_in_turn-word.ensures c.as_slice.ensures c.as_slice-2.ensures
    can.port can.j from.0 can.link from.1 can.is can.receives can.slot_is from.2 (from.3 ∙ can.slot_is) in
    let missing : is_in can.link.slot v.place.takes ≡ false = ap (λ s. is_in s v.place.takes) can.slot_is ∙ can.missing in
    take_allowed g.F.Feed b.table.shared.key b.table.shared.table_id.slots a.seat.id a.seat.me g.met.F.Feed.tells a.port can.port can.j from.0 can.link from.1 held.port can.is can.receives from.2 from.3 missing running c.word_in_turn-word.result word

pub invariant_of-pass : goal.invariant_of-pass
invariant_of-pass g c =
    let a = c.pass.inside in
    let held = c.pass.invariant in
    let can : CanTake (pass_of a) c.args.slot = subst (λ (o : PassView g.row.D.Denot). CanTake o c.args.slot) (sym c.pass.view_is) c.requires.can in
    let from = source a.seat.me.0.image held.runs.image_fits a.port can.port can.j can.link can.is can.receives in
    held_found g.F.Feed a held c.take-number.new.seat can.link.sender c.args.slot c.word_in_turn-word.result c.take-number.result a.last_send c.next_hint-pass-inside.result (take_finds g.F.Feed a held c.as_slice.result.now c.as_slice-2.result.now c.find-k.result c.args.slot c.word_in_turn-word.result _ c.take-number.result c.take-number.new.seat.me c.find-k.ensures c.word_in_turn-word.ensures c.as_slice.ensures c.as_slice-2.ensures c.take-number.ensures.reads can.port can.j from.0 can.link from.1 can.is can.receives can.slot_is from.2 (from.3 ∙ can.slot_is)).1

pub returns-clause-taken : goal.returns-clause-taken
returns-clause-taken g c =
    let a = c.pass.inside in
    let v = a.seat.me.0 in
    let held = c.pass.invariant in
    let new = reseated a c.take-number.new.seat a.last_send c.next_hint-pass-inside.result in
    subst (λ (o : PassView g.row.D.Denot). HasTaken g.F.Feed o c.args.slot c.taken.result (pass_of new)) c.pass.view_is (record {
      each = λ port j link is at slot_is.
          let from = source v.image held.runs.image_fits a.port port j link is at in
          let found = take_finds g.F.Feed a held c.as_slice.result.now c.as_slice-2.result.now c.find-k.result c.args.slot c.word_in_turn-word.result _ c.take-number.result c.take-number.new.seat.me c.find-k.ensures c.word_in_turn-word.ensures c.as_slice.ensures c.as_slice-2.ensures c.take-number.ensures.reads port j from.0 link from.1 is at slot_is from.2 (from.3 ∙ slot_is) in
          let at_word = send_word v.image v.banks link.sender from.0 (v.place.turn % v.banks) in
          record {
            i = from.0;
            sent = from.1;
            send = from.2;
            same_slot = from.3;
            found = subst (λ s. IsNumber g.F.Feed (pass_of a) link.sender s at_word (pass_of new).last.number c.taken.result (pass_of new)) (sym slot_is)
                (gives g.F.Feed a held c.take-number.new.seat link.sender c.args.slot c.word_in_turn-word.result c.take-number.result a.last_send c.next_hint-pass-inside.result found.1 at_word found.0 c.take-number.ensures.table c.is_of-now.result c.taken.result c.is_of-now.ensures c.taken.ensures);
          };
    })

pub find-k-requires : goal.find-k-requires
find-k-requires g c =
    let a = c.pass.inside in
    let can : CanTake (pass_of a) c.args.slot = subst (λ (o : PassView g.row.D.Denot). CanTake o c.args.slot) (sym c.pass.view_is) c.requires.can in
    let within = slice_get_within can.port.ins can.j can.link can.receives in
    let at = (c.pass.invariant.receipts can.port can.is).each can.j can.link within can.receives in
    (can.j, record { link = record { slot = can.link.slot; word = at.0 }; is = rw c.as_slice.ensures at.1; slot_is = can.slot_is })

pub bounds-as_slice-k : goal.bounds-as_slice-k
bounds-as_slice-k g c =
    let k = c.find-k.result in
    subst (λ xs. k < length xs) (c.as_slice.ensures ∙ sym c.as_slice-2.ensures) (slice_get_within c.as_slice.result.now k c.find-k.ensures.link c.find-k.ensures.is)

pub word_in_turn-word-requires : goal.word_in_turn-word-requires
word_in_turn-word-requires g c = record { some = rw c.pass.invariant.banks c.pass.invariant.runs.some }
