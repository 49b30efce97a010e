use Rattle.std.proofs.Common.{◌≡◌, ◌∙◌, refl, sym, arith, ℕ, ◌+◌, ◌++◌, length, take, drop, false, Ok, Err, Result}
use Rattle.std.proofs.{KnownBytes.Consumes-nil, KnownBytes.Consumes-whole, lemmas.List.length-take}
use Rattle.std.specs.Result.{OnOk, is_err}
use Rattle.edge_io.proofs.ReadingLemmas.{counts_none, counts_more, counts_whole, counts_failed, counts_unkept, counts_too_long, gone_more, grown_length, past_limit}
use Rattle.edge_io.proofs.reading.read_rest.Goals as goal

-- what a call that didn't fail says
said : {T E : Type 0} (r : Result T E) (P : Type 0) → is_err r ≡ false → OnOk r P → P
said (Ok x) P is p = p
said (Err e) P is p = absurd (cc)

pub chunks-init : goal.chunks-init
chunks-init g c = record {
  same_names = refl;
  same_bytes = refl;
  gone = rw c.new-bytes.ensures (Consumes-nil _);
  counts = rw c.new-bytes.ensures (counts_none _);
  within = rw c.new-bytes.ensures (omega arith);
}

pub chunks-preserved : goal.chunks-preserved
chunks-preserved g c =
    let grew : c.extend_from_slice.new.self ≡ c.chunks.bytes ++ take c.in-Ok.n (c.read.new.buf ++ drop c.min-room.result c.chunks.buffer) =
    said _ _ (sym c.is_err.ensures.value ∙ c.if-is_err.false) c.extend_from_slice.ensures.ok in
    let long : length c.extend_from_slice.new.self ≡ length c.chunks.bytes + c.in-Ok.n = grown_length _ _ _ _ _ c.in-Ok.ensures.bound grew in
    record {
      same_names = c.in-Ok.ensures.same_names ∙ c.chunks.invariant.same_names;
      same_bytes = c.in-Ok.ensures.same_bytes ∙ c.chunks.invariant.same_bytes;
      gone = gone_more _ _ _ _ _ _ _ _ c.in-Ok.ensures.bound grew c.chunks.invariant.gone c.in-Ok.ensures.gives.next;
      counts = rw long (counts_more _ c.in-Ok.n _ _ _ (omega arith) c.chunks.invariant.counts c.in-Ok.ensures.faults c.in-Ok.ensures.counted);
      within = omega (arith, c.in-Ok.ensures.bound, c.read.auto.buf, length-take {A = ℕ});
    }

pub returns-in-Err-clause-counted : goal.returns-in-Err-clause-counted
returns-in-Err-clause-counted g c =
    counts_failed c.args.limit (length c.chunks.bytes) _ _ _ (omega arith) c.chunks.invariant.counts c.in-Err.ensures.faults c.in-Err.ensures.counted

pub returns-in-Ok-eq0-clause-counted : goal.returns-in-Ok-eq0-clause-counted
returns-in-Ok-eq0-clause-counted g c =
    counts_whole c.args.limit c.chunks.bytes _ _ _ (omega arith) c.chunks.invariant.counts c.in-Ok-eq0.ensures.faults (rw c.in-Ok-eq0.field-0-test at c.in-Ok-eq0.ensures.counted)

pub returns-then-is_err-clause-counted : goal.returns-then-is_err-clause-counted
returns-then-is_err-clause-counted g c =
    counts_unkept c.args.limit (length c.chunks.bytes) c.in-Ok.n _ _ _ (omega arith) (omega (arith, c.in-Ok.ensures.bound, c.read.auto.buf, length-take {A = ℕ})) c.chunks.invariant.counts c.in-Ok.ensures.faults c.in-Ok.ensures.counted

pub returns-clause-counted : goal.returns-clause-counted
returns-clause-counted g c = counts_too_long c.args.limit (length c.chunks.bytes) _ _ (omega arith) c.chunks.invariant.counts

pub returns-in-Ok-eq0-clause-whole : goal.returns-in-Ok-eq0-clause-whole
returns-in-Ok-eq0-clause-whole g c =
    Consumes-whole _ _ c.chunks.bytes (λ left. c.chunks.bytes ≡ left) c.chunks.invariant.gone
    (c.in-Ok-eq0.ensures.gives.end c.in-Ok-eq0.field-0-test (omega (arith, c.min-room.ensures, c.read.auto.buf, length-take {A = ℕ}))) refl

pub returns-clause-too_long : goal.returns-clause-too_long
returns-clause-too_long g c = λ _. past_limit _ _ c.chunks.bytes c.args.limit c.chunks.invariant.gone (rw c.len.ensures at c.chunks-test.false)
