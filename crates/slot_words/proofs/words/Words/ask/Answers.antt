use Rattle.std.proofs.Common.{arith, length, subst, sym, ℕ, ◌<◌, ◌≡◌, rules}
use Rattle.image_defs.specs.declared.image.Image.{Image}
use Rattle.slot_words.proofs.{HeldLemmas.own_fields, HeldLemmas.progress_room, AllowLemmas.ask_allowed}
use Rattle.slot_words.specs.declared.words.Words.TheInside as bar
use Rattle.slot_words.specs.{declared.pass.Pass.TheInside.Inside, Held.pass_of, Held.words_of, Passes.IsOf, Passes.WordsView}
use Rattle.slot_words.proofs.words.Words.ask.Goals as goal

pub ask-requires-clause-own : goal.ask-requires-clause-own
ask-requires-clause-own g c = (own_fields c.self.inside c.pass.inside c.args.self.now c.args.pass.now c.self.view_is c.pass.view_is c.requires.own).table

-- the reader is a port of the pass's image
reader_in : {D F : Type 0} (b : bar.Inside D F) (a : Inside D F) (bar_is : WordsView D) (r : ℕ) → words_of b ≡ bar_is → IsOf (words_of b) (pass_of a) → r < length bar_is.image.ports → r < length a.seat.me.0.image.ports
reader_in {D = D} b a bar_is r view_is own inside =
    subst (λ (i : Image). r < length i.ports) (sym own.image) (subst (λ (x : WordsView D). r < length x.image.ports) (sym view_is) inside)

pub ask-requires-clause-inside : goal.ask-requires-clause-inside
ask-requires-clause-inside g c =
    let b = c.self.inside in
    let a = c.pass.inside in
    let own = own_fields b a c.args.self.now c.args.pass.now c.self.view_is c.pass.view_is c.requires.own in
    let low = reader_in b a c.args.self.now c.args.reader c.self.view_is own c.requires.reader in
    progress_room g.F.Feed b a c.self.invariant own _ (omega arith)

pub ask-requires-clause-may : goal.ask-requires-clause-may
ask-requires-clause-may g c =
    let b = c.self.inside in
    let a = c.pass.inside in
    let own = own_fields b a c.args.self.now c.args.pass.now c.self.view_is c.pass.view_is c.requires.own in
    let low = reader_in b a c.args.self.now c.args.reader c.self.view_is own c.requires.reader in
    ask_allowed g.F.Feed b.table.shared.key b.table.shared.table_id.slots a.seat.id a.seat.me a.port _ c.pass.invariant.port (omega arith)

pub invariant_of-pass : goal.invariant_of-pass
invariant_of-pass g c = search rules
