use Rattle.std.proofs.Common.{map, ap, ◌∙◌, ◌∷◌, [], arith}
use Rattle.std.proofs.lemmas.List.{map-append}
use Rattle.bench_text.proofs.{PartLemmas.pieces_fit, lemmas.SpellingLemmas.taken_first, lemmas.SpellingLemmas.taken_one}
use Rattle.bench_text.proofs.taking.take_names.Goals as goal

pub commas-init : goal.commas-init
commas-init c =
    let grown = ap (map (λ name. name.now)) c.in_ok-push.ensures.ok ∙ map-append (λ name. name.now) c.args.names.now (c.in-Some.first ∷ []) in
    rw grown (taken_first c.in-Some.ensures)

pub overflow_add-count : goal.overflow_add-count
overflow_add-count c = omega (arith, c.commas.invariant.fits, pieces_fit c.args.part.now)

pub commas-preserved : goal.commas-preserved
commas-preserved c = taken_one c.commas.invariant c.in-Some-take_sign.ensures c.in-Some-take_word.ensures c.in_ok-add_name.ensures
