use Rattle.std.proofs.Common.{◌≡◌, ◌<◌, ◌≤◌, ℕ, List, Bor, [], map, take, length, get_or, sym, ap, ◌∙◌, refl, inl, inr, ⊎_elim, arith}
use Rattle.std.proofs.lemmas.List.{take_all, map_push, take_more, get_or-map, length-map, length-take-le}
use Rattle.bench_read.proofs.Common.{position, placed_in, lines_in, driven_names, used_names}
use Rattle.bench_read.proofs.{NumberLemmas.found, NumberLemmas.lost, UseLemmas.first_undriven, UseLemmas.driven_more, UseLemmas.none_undriven}
use Rattle.bench_read.specs.Netlists.{names_of, number, numbers}
use Rattle.bench_read.proofs.numbers.number_uses.Goals as goal

-- a name of the draft
name_at : (uses items : List (Bor (List ℕ))) (i : ℕ) (d : Bor (List ℕ)) → items ≡ uses → i < length items → get_or (map (λ name. name.now) uses) i [] ≡ (get_or items i d).now
name_at uses items i d is within = ap (λ us. get_or (map (λ name. name.now) us) i []) (sym is) ∙ get_or-map (λ name. name.now) items i d [] within

pub returns-in-None : goal.returns-in-None
returns-in-None c =
    let draft = c.args.draft.now in
    let uses = used_names draft in
    let i = c.uses.name-index in
    let within : i < length uses = omega (arith, ap length c.as_slice-name-items.ensures, length-map draft.uses (λ name. name.now)) in
    let none = lost _ (driven_names draft) (ap (position _) (sym c.requires.whole.names) ∙ sym c.in-None.ensures) in
    let place : c.len.result ≡ i =
    omega (arith, c.len.ensures, ap length c.uses.invariant.so_far, length-map (take i uses) (number (names_of (lines_in draft))), length-take-le i uses (omega (arith, within))) in
    let here = name_at draft.uses c.as_slice-name-items.result.now i _ c.as_slice-name-items.ensures (omega arith) in
    ⊎_elim inl
    (λ refused. inr (first_undriven (placed_in draft) (driven_names draft) uses c.requires.whole.drives c.requires.whole.uses i _ within here c.uses.invariant.driven none place refused))
    c.undriven.ensures

pub uses-preserved : goal.uses-preserved
uses-preserved c =
    let draft = c.args.draft.now in
    let uses = used_names draft in
    let all = names_of (lines_in draft) in
    let i = c.uses.name-index in
    let within : i < length uses = omega (arith, ap length c.as_slice-name-items.ensures, length-map draft.uses (λ name. name.now)) in
    let here = name_at draft.uses c.as_slice-name-items.result.now i _ c.as_slice-name-items.ensures (omega arith) in
    let is = found (driven_names draft) all _ c.in-Some.driver (ap (position _) (sym c.requires.whole.names) ∙ sym c.in-Some.ensures) in
    record {
      so_far = rw (c.in_ok-push-in-Some.ensures.ok, c.uses.invariant.so_far, take_more uses i [] within, map_push (number all) (take i uses) (get_or uses i []), here, c.requires.order, is.1) refl;
      driven = driven_more (placed_in draft) (driven_names draft) uses c.requires.whole.drives c.requires.whole.uses i _ within here c.uses.invariant.driven is.0;
    }

pub returns : goal.returns
returns c =
    let draft = c.args.draft.now in
    let past : length (used_names draft) ≤ c.uses.name-index = omega (arith, ap length c.as_slice-name-items.ensures, length-map draft.uses (λ name. name.now)) in (
      none_undriven (placed_in draft) (driven_names draft) (used_names draft) c.requires.whole.drives c.requires.whole.uses c.uses.name-index past c.uses.invariant.driven,
      c.uses.invariant.so_far ∙ ap (numbers (names_of (lines_in draft))) (take_all c.uses.name-index (used_names draft) past),
    )
