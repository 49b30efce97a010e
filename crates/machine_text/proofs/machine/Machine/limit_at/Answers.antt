use Rattle.std.proofs.Common.{refl, rules, tests, sym, ap, ◌∙◌}
use Rattle.std.proofs.lemmas.Iterator.{YieldsList-from_slice, Search.find_from_yields_List}
use Rattle.std.specs.Option.{option_map}
use Rattle.machine_text.specs.Limits.{is_at}
use Rattle.machine_text.proofs.machine.Machine.limit_at.Goals as goal

pub returns-in-Some : goal.returns-in-Some
returns-in-Some c =
    let found = find_from_yields_List (is_at c.args.what c.args.port) _ _ c.find.result c.find.ensures.ran (YieldsList-from_slice c.args.self.now.own cc) (λ x b q k. search (rules, tests)) in
    rw (sym found ∙ ap (option_map (λ own. own.now)) c.in-Some.is) refl
