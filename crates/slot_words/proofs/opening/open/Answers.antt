use Rattle.std.proofs.Common.{arith, [], ap, subst, sym, ◌*◌, ◌<◌, ◌^◌, ◌∙◌, ◌∷◌}
use Rattle.slot_words.proofs.OpeningLemmas.{few_words, opened_kept}
use Rattle.slot_words.specs.Rule.{IsKept, unseated}
use Rattle.slot_words.proofs.opening.open.Goals as goal

pub first_words-requires : goal.first_words-requires
first_words-requires g c =
    let ports = c.len.ensures in
    let fits = c.requires.runs.image_fits in
    let most = fits.most_ports in
    let few = g.met.F.Feed.few.banks in
    let banks = c.requires.runs.few in
    (omega arith, subst (λ n. n * c.args.banks < 2 ^ 32) (sym c.requires.sends) (few_words c.args.image.now c.args.banks fits (omega arith)))

pub of_words-requires : goal.of_words-requires
of_words-requires g c =
    let words = c.as_slice.result.now in
    subst (λ i. IsKept g.F.Feed i c.of-2.result.value c.args.banks words (unseated i c.of-2.result.value c.args.banks ∷ [])) (sym c.of.ensures)
    (subst (λ m. IsKept g.F.Feed c.args.image.now m c.args.banks words (unseated c.args.image.now m c.args.banks ∷ [])) (sym c.of-2.ensures)
    (opened_kept g.F.Feed c.args.image.now c.args.feed.now c.args.banks c.requires.runs
    c.len.result (c.args.sends * c.args.banks) words c.len.ensures (ap (λ n. n * c.args.banks) c.requires.sends) (c.as_slice.ensures.value ∙ c.in-Ok.ensures)))
