use Rattle.std.proofs.Common.{◌≡◌, ◌≢◌, ◌+◌, ◌*◌, subst, refl, arith}
use Rattle.plan_defs.specs.{Bits.HasBit, code.Lists.ListsBelow}
use Rattle.plan_defs.proofs.WordLemmas.{bit_added, bits_done}
use Rattle.plan_defs.proofs.readers.push_word.Goals as goal

pub bits-init : goal.bits-init
bits-init c =
    let none : 64 * c.args.w ≡ 64 * c.args.w + 0 = omega arith in record {
      listed = subst (λ n. ListsBelow (λ port. HasBit c.args.rows.now c.args.item port × (port ≢ c.args.home)) n c.args.ports.now) none c.requires.before;
      from = omega arith;
    }

pub bits-preserved : goal.bits-preserved
bits-preserved c =
    let low = c.in-Some.ensures.some.within in record {
      listed =
          bit_added c.args.rows.now c.args.item c.args.w c.word-word.result c.args.home c.word-word.ensures c.bits.from c.in-Some.bit c.bits.ports c.push_other.new.ports
          c.bits.invariant.listed c.in-Some.ensures.some c.in_ok-push_other.ensures.away c.in_ok-push_other.ensures.home;
      from = omega (arith, low);
    }

pub returns : goal.returns
returns c =
    bits_done c.args.rows.now c.args.item c.args.w c.word-word.result c.args.home c.word-word.ensures c.bits.from c.bits.ports c.bits.invariant.listed c.bits.invariant.from (c.in_default.ensures.none refl)
