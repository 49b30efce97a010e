use Rattle.std.proofs.Common.{◌∙◌, ◌*◌, length, get_or, replicate, ap, arith}
use Rattle.std.proofs.lemmas.Option.{get_or_from_slice_get}
use Rattle.event_defs.specs.Row.{send_count}
use Rattle.order_run.proofs.StartLemmas.{Begins, is_start, start_kept, start_sound}
use Rattle.order_run.proofs.core_run.Core.begin.Goals.{In_ok-core_ports}
use Rattle.order_run.specs.declared.core_run.Core.TheInside.{Inside}
use Rattle.order_run.proofs.core_run.Core.begin.Goals as goal

-- the core that is made
abbrev made : In_ok-core_ports → Inside
made c = record { image = c.args.image; stim = c.args.stim; banks = c.args.banks; until = c.args.image.now.units * c.cycles-cycles.result; core_ports = c.in_ok-core_ports.core_ports; finished = c.in_ok-finished.finished; words = c.in_ok-words.words }

begins : (c : In_ok-core_ports) → Begins (made c)
begins c = record {
  fits = c.requires.image;
  valid = c.requires.stimulus;
  some = c.requires.some;
  until = ap (λ n. c.args.image.now.units * n) c.cycles-cycles.ensures;
  core_ports = c.in_ok-core_ports.ensures;
  finished = c.in_ok-finished.ensures ∙ ap (λ n. replicate n 0) c.len-ports.ensures;
  words = c.in_ok-words.ensures ∙ ap (λ n. replicate (n * c.args.banks) 0) (ap (λ k. get_or c.args.firsts.now k 0) c.len-ports.ensures ∙ get_or_from_slice_get c.args.firsts.now (length c.args.image.now.ports) (send_count c.args.image.now) 0 (c.requires.firsts.each (length c.args.image.now.ports) (omega arith)));
}

pub invariant_of-result : goal.invariant_of-result
invariant_of-result c = start_kept _ (begins (goal.at.invariant_of-result c).In_ok-core_ports)

pub returns : goal.returns
returns c = let new = begins (goal.at.returns c).In_ok-core_ports in record { start = is_start _ new; sound = start_sound _ new }

pub make-requires : goal.make-requires
make-requires c =
    record {
      image = c.requires.image;
      stimulus = c.requires.stimulus;
      columns = c.requires.columns;
      some = c.requires.some;
      firsts = c.requires.firsts;
      window = omega (arith, c.max.ensures, c.cycles-cycles.ensures);
    }

pub bounds-firsts-ports : goal.bounds-firsts-ports
bounds-firsts-ports c = omega (arith, c.requires.firsts.long, c.len-ports.ensures)

pub cycles-cycles-requires : goal.cycles-cycles-requires
cycles-cycles-requires c = c.requires.stimulus
