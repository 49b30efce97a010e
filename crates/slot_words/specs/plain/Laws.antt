-- Plain words are few, and tell their turns.
use Rattle.std.proofs.Common.{ap, arith, mul-le-mul, ne_eqb, ◌*◌, ◌∙◌, ◌≡◌, ◌≤◌}
use Rattle.std.proofs.lemmas.Bool.{eq-eqb}
use Rattle.limits.specs.declared.TheConstants.{MAX_BANKS}
use Rattle.net_defs.specs.Time.{cycle_count}
use Rattle.image_defs.specs.Frames.{image_value}
use Rattle.event_defs.proofs.lemmas.WordLemmas.{stamp_in}
use Rattle.event_defs.specs.Steps.{stamp_of}
use Rattle.slot_words.specs.plain.Words.{Fits, IsSent, is_of, turns_of}
use Rattle.slot_words.specs.Feeds.{AreFew, TellsTurns}

pub plain_few : AreFew Fits turns_of MAX_BANKS
plain_few = record {
  short = λ image stimulus fits valid. let most : image.units * cycle_count stimulus ≤ 4096 * 1000000 = mul-le-mul fits.units.1 valid.cycles in omega arith;
  banks = omega arith;
}

pub plain_tells : TellsTurns IsSent is_of MAX_BANKS
plain_tells = record {
  own = λ image stimulus p slot k n is. eq-eqb (stamp_of n) k (ap stamp_of is ∙ stamp_in k (image_value image stimulus k p slot));
  apart = λ image stimulus p slot j k n less near is.
      let stamp : stamp_of n ≡ j = ap stamp_of is ∙ stamp_in j (image_value image stimulus j p slot) in
      ne_eqb (stamp_of n) k (λ same. omega (arith, stamp, same, less));
  fresh = λ k first near. ne_eqb 0 k (λ same. omega (arith, same, first));
}
