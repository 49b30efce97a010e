use Rattle.std.proofs.Common.{rules, tests, Some, sym, ap, ◌∙◌, inl, inr, ⊎_elim, bytes_eq}
use Rattle.std.proofs.lemmas.Iterator.{YieldsList-from_slice, Search.find_from_yields_List}
use Rattle.bench_read.proofs.{Common.option_map, Common.DrivenName, TwiceLemmas.repeat_some}
use Rattle.list_laws.proofs.Tests.{list_any-map, found_some}
use Rattle.bench_read.proofs.drivers.repeated.Goals as goal

pub unreachable-requires : goal.unreachable-requires
unreachable-requires c =
    let same : DrivenName → _ = λ d. bytes_eq c.args.name.now d.name.now in
    let found = find_from_yields_List same _ _ c.find.result c.find.ensures.ran (YieldsList-from_slice c.args.drivers.now cc) (λ x b q k. search (rules, tests)) in
    found_some same c.args.drivers.now
    (sym (list_any-map (bytes_eq c.args.name.now) (λ (d : DrivenName). d.name.now) c.args.drivers.now) ∙ c.requires)
    (sym found ∙ ap (option_map (λ x. x.now)) c.in-None.is)

pub returns : goal.returns
returns c =
    let same : DrivenName → _ = λ d. bytes_eq c.args.name.now d.name.now in
    let found = find_from_yields_List same _ _ c.find.result c.find.ensures.ran (YieldsList-from_slice c.args.drivers.now cc) (λ x b q k. search (rules, tests)) in
    ⊎_elim inl
    (λ is. inr (repeat_some c.args.drivers.now (record { at = c.args.at; name = c.args.name.now }) c.in-Some.first.now (sym found ∙ ap (option_map (λ x. x.now)) c.in-Some.is) ∙ ap Some (sym is)))
    c.twice.ensures
