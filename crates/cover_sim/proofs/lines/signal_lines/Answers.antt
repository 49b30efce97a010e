-- Each line is that of its signal.
use Rattle.std.proofs.Common.{◌≡◌, ◌∙◌, ap, ap₂, get_or, false, arith, ◌++◌, ◌∷◌, []}
use Rattle.net_defs.specs.declared.netlist.Signal.{Signal}
use Rattle.cover_sim.specs.{declared.marks.Marks.Marks, Lines.signal_line}
use Rattle.cover_sim.proofs.LineLemmas.{one_more, all_made}
use Rattle.cover_sim.proofs.lines.signal_lines.Goals as goal

pub signals-preserved : goal.signals-preserved
signals-preserved c =
    let none : Marks = record { zero = false; one = false; rise = false; fall = false } in
    let signal = c.index-signals-s.result in
    let found : signal ≡ get_or c.args.net.now.signals c.signals.s signal = c.index-signals-s.is ∙ ap (λ signals. get_or signals c.signals.s signal) c.as_slice-signals.ensures in
    record {
      lines =
          c.in_ok-push.ensures.ok
          ∙ ap₂ (λ lines line. lines ++ line ∷ []) c.signals.invariant.lines
          (c.in_ok-signal_line.ensures ∙ ap (λ (s : Signal). signal_line s.name (get_or c.args.marks.now c.signals.s none)) found)
          ∙ one_more (λ p. signal_line p.0.name p.1) c.args.net.now.signals c.args.marks.now c.signals.s c.requires.count signal none c.signals-test.true;
    }

pub returns : goal.returns
returns c = c.signals.invariant.lines ∙ all_made (λ p. signal_line p.0.name p.1) c.args.net.now.signals c.args.marks.now c.signals.s c.requires.count (omega (arith, c.signals-test.false))
