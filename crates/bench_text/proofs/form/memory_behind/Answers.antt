use Rattle.std.proofs.Common.{sym, ◌∙◌, append_assoc, refl}
use Rattle.std.proofs.lemmas.List.{map-append}
use Rattle.bench_text.specs.{Rows.pieces_of, Forms.Memory}
use Rattle.bench_text.proofs.lemmas.SpellingLemmas.{memory_read}
use Rattle.bench_text.proofs.form.memory_behind.Goals as goal

pub returns-then-is_closed : goal.returns-then-is_closed
returns-then-is_closed c =
    let outs = rw c.in-Some.is at c.in_ok-rest.ensures in
    let address = rw c.in-Some-2.is at c.in_ok-rest-2.ensures in
    let words = rw c.in-Some-3.is at c.in_ok-rest-3.ensures in (
      Memory outs.0 c.in-Some-take_head.word.now c.in-Some-take_head.enable.now address.0 words.0,
      memory_read (pieces_of c.args.part.now) outs.1 c.in-Some-take_head.ensures address.1 c.in-Some-take_sign.ensures words.1 (sym c.is_closed.ensures ∙ c.if-is_closed.true),
      (
        outs.0,
        c.in-Some-take_head.enable.now,
        address.0,
        words.0,
        refl,
        outs.2,
        address.2.counted,
        words.2.counted,
        λ few most.
            words.2.added most ∙ rw (address.2.added few, c.in_ok-push.ensures.ok) (simp (map-append, append_assoc)),
      ),
    )
