use Rattle.std.proofs.Common.{◌≡◌, length}
use Rattle.std.specs.Option.{option_map}
use Rattle.image_lines.specs.Tokens.{all_of}
use Rattle.image_lines.proofs.FieldLemmas.{before}
use Rattle.image_lines.proofs.lists.all_tokens.Given as goal

abbrev pub invariant-tokens : goal.invariant-tokens
invariant-tokens g l = option_map (before l.values) (all_of g.T.Token.read l.fields.0 l.fields.1) ≡ all_of g.T.Token.read l.fn.fields.0 l.fn.fields.1

abbrev pub decreases-tokens : goal.decreases-tokens
decreases-tokens g l = length l.fields.0
