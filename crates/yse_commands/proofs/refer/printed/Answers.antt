-- The rows are those of the one simulation, and fit the line's room.
use Rattle.std.proofs.Common.{◌∙◌, ap, length, refl, subst, sym, ◌≤◌}
use Rattle.std.proofs.lemmas.List.{length-map}
use Rattle.limits.specs.declared.TheConstants.{MAX_CYCLES}
use Rattle.yse_commands.proofs.refer.printed.Goals as goal

pub returns-clause-printed : goal.returns-clause-printed
returns-clause-printed c =
    let one = c.in_ok-rows.ensures.simulated in
    (refl, record { states = one.states; simulation = one.exists; cells = c.in_ok-rows.ensures.rows one.states one.exists })

pub returns-clause-writable : goal.returns-clause-writable
returns-clause-writable c =
    let one = c.in_ok-rows.ensures.simulated in
    let are = c.in_ok-rows.ensures.rows one.states one.exists in
    record {
      room = c.in_ok-line.ensures.room;
      cells = λ k row at. ap length (are.cells k row at) ∙ length-map c.args.design.net.printed _;
      cycles = subst (λ n. n ≤ MAX_CYCLES) (sym are.cycles) c.requires.stimulus.cycles;
    }
