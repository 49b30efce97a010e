use Rattle.std.proofs.{Common.ap, Common.inr, lemmas.Result.err_from_is_err_and}
use Rattle.net_defs.specs.declared.homes.HomeChoice.TheVariants.{Plain}
use Rattle.yse_compile.proofs.compiler.compile.Goals as goal

pub returns-in_err-nodes : goal.returns-in_err-nodes
returns-in_err-nodes c =
    let p = err_from_is_err_and c.from_residual.result c.from_residual.ensures.1 in
    rw (p.1, p.2) (record {
      shown = tt;
      compiled = tt;
      refused = c.in_err-nodes.ensures.refused c.args.machine.now;
      fits = λ fits. c.in_err-nodes.ensures.either c.args.machine.now (c.refusals_are_right.ensures.either Plain c.args.net.now c.args.machine.now c.args.timing.now fits);
    })

pub returns-in_err-housed : goal.returns-in_err-housed
returns-in_err-housed c =
    let p = err_from_is_err_and c.from_residual-in_err-housed.result c.from_residual-in_err-housed.ensures.1 in
    let right = c.refusals_are_right.ensures.homes c.args.net.now c.args.machine.now c.args.timing.now c.in_ok-nodes.nodes c.in_ok-nodes.ensures.acyclic c.in_ok-nodes.ensures.items _ c.in_err-housed.ensures.refused in
    rw (p.1, p.2) (record {
      shown = tt;
      compiled = tt;
      refused = right.0;
      fits = λ fits. right.1 (c.refusals_are_right.ensures.either Plain c.args.net.now c.args.machine.now c.args.timing.now fits);
    })

pub returns-in_err-planned : goal.returns-in_err-planned
returns-in_err-planned c =
    let p = err_from_is_err_and c.from_residual-in_err-planned.result c.from_residual-in_err-planned.ensures.1 in
    let right = c.refusals_are_right.ensures.plan Plain c.args.net.now c.args.machine.now c.args.timing.now c.in_ok-housed.housed.nodes c.in_ok-housed.housed.homes c.requires.net
    c.in_ok-nodes.ensures.acyclic (rw c.in_ok-housed.ensures.same c.in_ok-nodes.ensures.items) c.in_ok-housed.ensures.housed.picked _ c.in_err-planned.ensures.refused (inr tt) in
    rw (p.1, p.2) (record { shown = tt; compiled = tt; refused = right.0; fits = right.1 })

pub plan-requires-clause-housed : goal.plan-requires-clause-housed
plan-requires-clause-housed c = c.in_ok-housed.ensures.housed

pub route-requires : goal.route-requires
route-requires c = c.in_ok-planned.ensures.planned

pub image_of-requires : goal.image_of-requires
image_of-requires c = rw c.in_ok-routed.ensures.same (record { timing = c.requires.timing; planned = c.in_ok-planned.ensures.planned; switch = c.in_ok-routed.ensures.switch })

pub returns-clause-compiled : goal.returns-clause-compiled
returns-clause-compiled c =
    let same = rw (c.in_ok-routed.ensures.same, c.in_ok-planned.ensures.same) at c.in_ok-compiled.ensures.same in
    rw same (record {
      acyclic = c.in_ok-nodes.ensures.acyclic;
      items = rw c.in_ok-housed.ensures.same c.in_ok-nodes.ensures.items;
      picked = c.in_ok-housed.ensures.housed.picked;
      first_fit = rw c.in_ok-planned.ensures.same at c.in_ok-planned.ensures.planned.first_fit;
      fits = c.in_ok-planned.ensures.fits;
      routed = rw c.in_ok-planned.ensures.same at c.in_ok-routed.ensures.switch;
      built = rw same at c.in_ok-compiled.ensures.built;
    })

pub returns-clause-shown : goal.returns-clause-shown
returns-clause-shown c =
    let same = rw (c.in_ok-routed.ensures.same, c.in_ok-planned.ensures.same) at c.in_ok-compiled.ensures.same in
    let built = c.in_ok-compiled.ensures.built in
    c.matching_images_show.ensures c.args.net.now c.args.timing.now c.in_ok-compiled.compiled.nodes c.in_ok-compiled.compiled.image built.claims c.requires.net
    (rw (ap (λ made. made.nodes) same, c.in_ok-housed.ensures.same) c.in_ok-nodes.ensures.items.items) built.fits built.matches
