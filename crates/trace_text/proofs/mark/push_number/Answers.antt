-- A number of 32 bits has at most ten digits.
use Rattle.std.proofs.Common.{length, ap, ◌∙◌, arith, length-append}
use Rattle.std.proofs.lemmas.Fmt.{length-decimal-le}
use Rattle.seen_list.specs.Filling.{Filling}
use Rattle.trace_text.proofs.mark.push_number.Goals as goal

pub push_bytes-requires : goal.push_bytes-requires
push_bytes-requires c =
    let short = length-decimal-le 10 c.args.number (omega arith) (omega arith) (omega arith) in
    omega (arith, short, ap length (c.as_bytes.ensures.value ∙ c.format.ensures.text))

pub returns-clause-len : goal.returns-clause-len
returns-clause-len c =
    let short = length-decimal-le 10 c.args.number (omega arith) (omega arith) (omega arith) in
    omega (arith, short, ap length (c.as_bytes.ensures.value ∙ c.format.ensures.text), ap (λ (l : Filling). length l.bytes) c.push_bytes.ensures, length-append c.args.line.now.bytes c.as_bytes.result.now)
