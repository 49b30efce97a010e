-- The last of the first passes is that of the next port.
use Rattle.std.proofs.Common.{List, ap, arith, length, slice_get, subst, sym, ℕ, ◌++◌, ◌+◌, ◌∙◌, ◌∷◌, [], ◌≡◌}
use Rattle.std.proofs.lemmas.{List.length_push, Option.slice_get_within}
use Rattle.list_laws.proofs.Places.{at_front, seam_at}
use Rattle.slot_words.specs.plain.Passes.{AreFirstPasses, CrossbarView, IsFirstPass, PassView}
use Rattle.yse.proofs.tests.below.of_slot_words.all_ports.Goals as goal

-- the last of the passes
last_pass : (made : CrossbarView) (n : ℕ) (passes rest : List PassView) (one : PassView) → AreFirstPasses made (n + 1) passes → passes ≡ rest ++ one ∷ [] → IsFirstPass made n one × AreFirstPasses made n rest
last_pass made n passes rest one are popped = (
  are.each n one (ap (λ xs. slice_get xs n) popped ∙ (ap (λ k. slice_get (rest ++ one ∷ []) k) (sym long) ∙ seam_at rest one [])),
  record {
    long = long;
    each = λ p pass at. are.each p pass (ap (λ xs. slice_get xs p) popped ∙ (at_front rest (one ∷ []) p (slice_get_within rest p pass at) ∙ at));
  },
) where
  long : length rest ≡ n
  long = let all = are.long in let grown = ap length popped ∙ length_push rest one in omega arith

-- where all passes that there are are the first ones: the last of them, and the others
record IsPopped (made : CrossbarView) (passes rest : List PassView) (one : PassView) : Type 0 where
  pub first : IsFirstPass made one.port one
  pub others : AreFirstPasses made (length rest) rest
  pub count : length passes ≡ length rest + 1
  pub port : one.port ≡ length rest

popped : (made : CrossbarView) (passes rest : List PassView) (one : PassView) → AreFirstPasses made (length passes) passes → passes ≡ rest ++ one ∷ [] → IsPopped made passes rest one
popped made passes rest one are last =
    let count = ap length last ∙ length_push rest one in
    let less = last_pass made (length rest) passes rest one (subst (λ n. AreFirstPasses made n passes) count are) last in
    record { first = subst (λ q. IsFirstPass made q one) (sym less.0.port_is) less.0; others = less.1; count = count; port = less.0.port_is }

pub push_port-pushed-requires-clause-first : goal.push_port-pushed-requires-clause-first
push_port-pushed-requires-clause-first c = (popped c.args.bar.now _ _ c.in-Some.pass c.passes.invariant.passes c.in-Some.ensures.last).first

pub push_port-pushed-requires-clause-there : goal.push_port-pushed-requires-clause-there
push_port-pushed-requires-clause-there c =
    let last = popped c.args.bar.now _ _ c.in-Some.pass c.passes.invariant.passes c.in-Some.ensures.last in
    omega (arith, last.count, last.port, c.passes.invariant.few, ap (λ image. length image.ports) c.requires.image)

pub passes-preserved : goal.passes-preserved
passes-preserved c =
    let last = popped c.args.bar.now _ _ c.in-Some.pass c.passes.invariant.passes c.in-Some.ensures.last in
    record { passes = last.others; few = omega (arith, last.count, c.passes.invariant.few) }
