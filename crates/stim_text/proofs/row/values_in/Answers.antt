use Rattle.std.proofs.Common.{◌≡◌, ℕ, ◌+◌, ◌<◌, List, [], ◌∷◌, ◌++◌, length, take, get_or, Option, sym, ap, ◌∙◌, append-nil}
use Rattle.std.proofs.lemmas.List.{take_more, Elements.filter_map-append}
use Rattle.std.specs.List.{filter_map, cons_option}
use Rattle.logic_four.specs.{declared.V4.V4, Values.char_value}
use Rattle.stim_text.proofs.row.values_in.Goals as goal
use Rattle.stim_text.proofs.row.values_in.Goals.{in-Some+in_ok-push, in_default}

more : (bytes : List ℕ) (i : ℕ) (o : Option V4) → i < length bytes → o ≡ char_value (get_or bytes i 0) → filter_map char_value (take (i + 1) bytes) ≡ filter_map char_value (take i bytes) ++ cons_option o []
more bytes i o within is =
    ap (filter_map char_value) (take_more bytes i 0 within)
    ∙ filter_map-append char_value (take i bytes) (get_or bytes i 0 ∷ [])
    ∙ ap (λ v. filter_map char_value (take i bytes) ++ cons_option v []) (sym is)

pub loop-byte-preserved : goal.loop-byte-preserved
loop-byte-preserved c =
    let next = more c.args.bytes.now c.loop-byte.byte-index c.of_char.result c.loop-byte-test.true c.of_char.ensures in
    let before : List V4 = filter_map char_value (take c.loop-byte.byte-index c.args.bytes.now) in
    elim c.match-of_char.branch [
      | in-Some+in_ok-push w ↦
          w.values-is
          ∙ w.in_ok-push.ensures.ok
          ∙ ap (λ (xs : List V4). xs ++ w.in-Some.value ∷ []) c.loop-byte.invariant
          ∙ ap (λ o. before ++ cons_option o []) (sym w.in-Some.is)
          ∙ sym next
      | in_default w ↦
          w.values-is
          ∙ c.loop-byte.invariant
          ∙ sym (append-nil before)
          ∙ ap (λ o. before ++ cons_option o []) (sym w.in_default.is)
          ∙ sym next
    ]
