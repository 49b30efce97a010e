use Rattle.std.proofs.{Common.ap, Common.refl, lemmas.Result.err_from_is_err_and}
use Rattle.yse_compile.proofs.lemmas.ChoiceLemmas.{used_fits}
use Rattle.yse_compile.proofs.compiler.compile_with.Goals as goal

pub returns-in_err-nodes : goal.returns-in_err-nodes
returns-in_err-nodes c =
    let p = err_from_is_err_and c.from_residual.result c.from_residual.ensures.1 in
    rw (p.1, p.2) (record {
      shown = tt;
      chosen = tt;
      refused = c.in_err-nodes.ensures.refused c.args.machine.now;
      fits = λ fits. c.in_err-nodes.ensures.either c.args.machine.now (c.refusals_are_right.ensures.either c.args.choice c.args.net.now c.args.machine.now c.args.timing.now fits);
      fitted = tt;
    })

pub returns-in_err-housed : goal.returns-in_err-housed
returns-in_err-housed c =
    let p = err_from_is_err_and c.from_residual-in_err-housed.result c.from_residual-in_err-housed.ensures.1 in
    let right = c.refusals_are_right.ensures.homes c.args.net.now c.args.machine.now c.args.timing.now c.in_ok-nodes.nodes c.in_ok-nodes.ensures.acyclic c.in_ok-nodes.ensures.items _ c.in_err-housed.ensures.refused in
    rw (p.1, p.2) (record {
      shown = tt;
      chosen = tt;
      refused = right.0;
      fits = λ fits. right.1 (c.refusals_are_right.ensures.either c.args.choice c.args.net.now c.args.machine.now c.args.timing.now fits);
      fitted = tt;
    })

pub returns-in_err-fitted : goal.returns-in_err-fitted
returns-in_err-fitted c =
    let p = err_from_is_err_and c.from_residual-in_err-fitted.result c.from_residual-in_err-fitted.ensures.1 in
    let right = c.refusals_are_right.ensures.plan c.args.choice c.args.net.now c.args.machine.now c.args.timing.now c.in_ok-housed.housed.nodes c.in_ok-housed.housed.homes c.requires.net
    c.in_ok-nodes.ensures.acyclic (rw c.in_ok-housed.ensures.same c.in_ok-nodes.ensures.items) c.in_ok-housed.ensures.housed.picked _ c.in_err-fitted.ensures.refused c.in_err-fitted.ensures.unfit in
    rw (p.1, p.2) (record { shown = tt; chosen = tt; refused = right.0; fits = right.1; fitted = tt })

pub fit-requires-clause-housed : goal.fit-requires-clause-housed
fit-requires-clause-housed c = c.in_ok-housed.ensures.housed

pub route-requires : goal.route-requires
route-requires c = c.in_ok-fitted.ensures.fitted.planned

pub image_of-requires : goal.image_of-requires
image_of-requires c = rw c.in_ok-routed.ensures.same (record { timing = c.requires.timing; planned = c.in_ok-fitted.ensures.fitted.planned; switch = c.in_ok-routed.ensures.switch })

pub returns-clause-chosen : goal.returns-clause-chosen
returns-clause-chosen c =
    let fitted = c.in_ok-fitted.ensures.fitted in
    let same = rw (c.in_ok-routed.ensures.same, fitted.same) at c.in_ok-compiled.ensures.same in
    rw same (record {
      plain = c.in_ok-housed.housed.homes;
      picked = c.in_ok-housed.ensures.housed.picked;
      design = record {
        acyclic = c.in_ok-nodes.ensures.acyclic;
        items = rw c.in_ok-housed.ensures.same c.in_ok-nodes.ensures.items;
        logic = fitted.on.logic;
        array = fitted.on.array;
        homes = fitted.on.are;
        memories = fitted.on.memories;
        first_fit = rw fitted.same at fitted.planned.first_fit;
        fits = fitted.fits;
        routed = rw fitted.same at c.in_ok-routed.ensures.switch;
        built = rw same at c.in_ok-compiled.ensures.built;
      };
      used = fitted.used _ refl;
    })

pub returns-clause-fitted : goal.returns-clause-fitted
returns-clause-fitted c =
    let fitted = c.in_ok-fitted.ensures.fitted in
    let compiled = c.in_ok-compiled.compiled in
    let same = rw c.in_ok-routed.ensures.same at c.in_ok-compiled.ensures.same in
    used_fits c.args.net.now c.args.machine.now c.args.timing.now c.in_ok-housed.housed.nodes c.in_ok-housed.housed.homes c.args.choice _ c.in_ok-nodes.ensures.acyclic
    (rw c.in_ok-housed.ensures.same c.in_ok-nodes.ensures.items) c.in_ok-housed.ensures.housed.picked
    (rw (ap (λ made. made.homes) same) (record { plan = c.in_ok-fitted.fitted.planned.plan; first_fit = rw fitted.same at fitted.planned.first_fit; fits = fitted.fits }))
    (fitted.used compiled (ap (λ made. made.homes) same))

pub returns-clause-shown : goal.returns-clause-shown
returns-clause-shown c =
    let fitted = c.in_ok-fitted.ensures.fitted in
    let same = rw (c.in_ok-routed.ensures.same, fitted.same) at c.in_ok-compiled.ensures.same in
    let built = c.in_ok-compiled.ensures.built in
    c.matching_images_show.ensures c.args.net.now c.args.timing.now c.in_ok-compiled.compiled.nodes c.in_ok-compiled.compiled.image built.claims c.requires.net
    (rw (ap (λ made. made.nodes) same, c.in_ok-housed.ensures.same) c.in_ok-nodes.ensures.items.items) built.fits built.matches
