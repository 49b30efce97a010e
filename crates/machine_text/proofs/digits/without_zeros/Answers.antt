use Rattle.std.proofs.Common.{sym, ap, ◌∙◌, drop, arith}
use Rattle.std.proofs.lemmas.List.{take_rest, Quantifiers.position-Some, Sums.position_or_len_is}
use Rattle.machine_text.specs.code.Digits.{is_nonzero}
use Rattle.machine_text.proofs.digits.without_zeros.Goals as goal

pub returns-in-Some : goal.returns-in-Some
returns-in-Some c =
    let first = position-Some is_nonzero c.args.bytes.now _ 0 (sym c.in-Some.ensures) in
    take_rest c.args.bytes.now _
    ∙ ap (λ i. drop i c.args.bytes.now) (sym (position_or_len_is is_nonzero c.args.bytes.now _ 0 (omega (arith, first.0)) first.2 (λ _. first.1)))
