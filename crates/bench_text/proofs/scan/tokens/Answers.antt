use Rattle.std.proofs.Common.{◌≡◌, refl, ap, inr, ◌∙◌, length, arith, add-one}
use Rattle.std.proofs.lemmas.Result.{err_from_is_err_and}
use Rattle.bench_text.specs.Tokens.{tokens_before}
use Rattle.bench_text.proofs.PlaceLemmas.{place_is, scanned_none, scanned_fault, scanned_all}
use Rattle.bench_text.proofs.lemmas.SpanLemmas.{list_read}
use Rattle.bench_text.proofs.scan.tokens.Goals as goal

pub loop-i-init : goal.loop-i-init
unfolding tokens_before
loop-i-init c = record { scanned = scanned_none c.args.bytes.now; so_far = c.new-list.ensures }

pub loop-i-preserved : goal.loop-i-preserved
unfolding tokens_before
loop-i-preserved c = record {
  scanned = record { at = c.in_ok-next.ensures.next_is; no_fault = λ k below. grind (arith, c.in_ok-next.ensures.no_fault k, c.loop-i.invariant.scanned.no_fault k) };
  so_far =
      c.in_ok-add_token.ensures
      ∙ rw (c.loop-i.invariant.so_far, c.token_at_place.ensures, (place_is c.args.bytes.now c.loop-i.i c.loop-i.scan c.loop-i.invariant.scanned.at).1, add-one) refl;
}

pub returns-in_err-next-clause-answers : goal.returns-in_err-next-clause-answers
returns-in_err-next-clause-answers c =
    let p = err_from_is_err_and c.from_residual.result c.from_residual.ensures.1 in
    rw (p.1, p.2) (inr (scanned_fault c.loop-i.invariant.scanned c.loop-i-test.true c.in_err-next.ensures))

pub returns : goal.returns
returns c =
    let all : c.loop-i.i ≡ length c.args.bytes.now = omega arith in
    let list = list_read c.args.bytes.now c.loop-i.i c.loop-i.list c.loop-i.invariant.scanned.no_fault c.loop-i.invariant.so_far all in record {
      answers = (scanned_all c.loop-i.invariant.scanned c.loop-i-test.false, c.loop-i.invariant.so_far ∙ ap (tokens_before c.args.bytes.now) all);
      spans = list.spans;
      order = list.order;
      covers = list.covers;
    }
