use Rattle.std.proofs.Common.{◌≡◌, ◌++◌, map, drop}
use Rattle.help_text.specs.Forms.{bracketed, filled}
use Rattle.help_text.proofs.forms.fill.Given as goal

abbrev pub invariant-names : goal.invariant-names
invariant-names l =
    l.form ++ filled l.left (map (λ name. bracketed name.now) (drop l.name-index l.names))
    ≡ l.fn.form ++ filled l.fn.left (map (λ name. bracketed name.now) l.names)
