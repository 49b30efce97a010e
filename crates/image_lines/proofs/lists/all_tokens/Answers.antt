use Rattle.std.proofs.Common.{sym, ap, ◌∙◌, Some}
use Rattle.image_lines.specs.Tokens.{Left}
use Rattle.image_lines.proofs.FieldLemmas.{starts, ends, fails, goes_on}
use Rattle.image_lines.proofs.lists.all_tokens.Goals as goal

pub tokens-init : goal.tokens-init
tokens-init g c = rw c.new-values.ensures (starts g.T.Token.read _)

pub returns-in_default-read : goal.returns-in_default-read
returns-in_default-read g c =
    sym c.tokens.invariant
    ∙ fails g.T.Token.read c.tokens.fields c.tokens.values c.in-Some.token.now c.next.new.self.0 c.next.new.self.1 c.in-Some.ensures (sym c.in_default-read.ensures)

pub tokens-preserved : goal.tokens-preserved
tokens-preserved g c =
    rw (c.note.ensures, c.in_ok-push.ensures.ok)
    (goes_on g.T.Token.read c.tokens.fields c.tokens.values c.in-Some.token.now c.next.new.self.0 c.next.new.self.1 c.in-Some-read.value c.in-Some-read.large c.in-Some.ensures (sym c.in-Some-read.ensures) ∙ c.tokens.invariant)

pub returns : goal.returns
returns g c = (
  sym c.tokens.invariant
      ∙ ends g.T.Token.read c.tokens.fields c.tokens.values c.in_default.ensures.0
      ∙ ap (λ (left : Left). Some (c.tokens.values, left.1)) (sym c.in_default.ensures.1),
  ap (λ (left : Left). left.0) c.in_default.ensures.1 ∙ c.in_default.ensures.0,
)
