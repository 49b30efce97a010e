use Rattle.std.proofs.Common.{ap, arith, subst, sym}
use Rattle.std.proofs.lemmas.Option.{slice_get_within}
use Rattle.slot_words.specs.plain.Passes.{IsFirstPass}
use Rattle.machine_run.specs.{Crews.at_first, Dealt.AreDealt}
use Rattle.machine_run.proofs.crew.Crew.new.Goals as goal

pub workers_of-requires-clause-passes : goal.workers_of-requires-clause-passes
workers_of-requires-clause-passes g c = record {
  long = c.requires.passes.long;
  each = λ p pass at.
      let first = c.requires.passes.each p pass at in (
        first.port_is,
        record {
          fits = c.requires.fits;
          valid = c.requires.valid;
          columns = c.requires.columns;
          image_is = c.requires.image;
          feed_is = c.requires.stimulus;
          some_cycles = c.requires.some_cycles;
          first = subst (λ q. IsFirstPass c.args.bar.now q pass) (sym first.port_is) first;
          there = (let low = slice_get_within c.args.passes p pass at in omega (arith, low, first.port_is, c.requires.passes.long));
        },
      );
}

pub invariant_of-result : goal.invariant_of-result
invariant_of-result g c = record {
  fits = c.requires.fits;
  valid = c.requires.valid;
  cycles = c.cycles.ensures;
  some_cycles = c.requires.some_cycles;
  some_workers = omega (arith, c.in_ok-workers.ensures.count, c.requires.some);
  given = omega arith;
  few = omega arith;
  dealt = subst (λ n. AreDealt (at_first c.args.image.now c.args.stim.now n c.args.window) 0 c.in_ok-workers.workers)
      (sym c.in_ok-workers.ensures.count) c.in_ok-workers.ensures;
}

pub returns : goal.returns
returns g c = ap (λ n. at_first c.args.image.now c.args.stim.now n c.args.window) c.in_ok-workers.ensures.count
