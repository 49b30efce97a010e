-- The rule holds before the first step.
use Rattle.std.proofs.Common.{List, None, Some, [], ap, ap₂, arith, drop, inl, inr, length, length-append, mul-le-mul, replicate, slice_get, subst, sym, ℕ, ◌*◌, ◌++◌, ◌+◌, ◌<◌, ◌^◌, ◌∙◌, ◌∷◌, ◌≡◌, ◌≤◌}
use Rattle.std.proofs.lemmas.List.{get_or-replicate, get_or_append_left, length-replicate, length_push}
use Rattle.std.proofs.{lemmas.Bool.cases_lt, lemmas.Option.slice_get_within, Math.Seq.drop-append_seam}
use Rattle.list_laws.proofs.Places.{at_front, seam_at}
use Rattle.image_defs.specs.{WellFormed.IsWellFormed, declared.image.Image.Image}
use Rattle.event_defs.proofs.{lemmas.PaceLemmas.starts, lemmas.RowLemmas.words_zero, SourceLemmas.before_few}
use Rattle.event_defs.specs.{Places.start, Row.send_count, Row.word_in}
use Rattle.slot_words.proofs.{LookLemmas.looks_first, OwnLemmas.owned_first, SentLemmas.starts_sent, lemmas.TimeLemmas.progress_within}
use Rattle.slot_words.specs.Passes.{AreFirstPasses, IsFirstPass, PassView, WordsView}
use Rattle.slot_words.specs.Rule.{AreSent, IsKept, IsRunnable, unseated}
use Rattle.slot_words.specs.{declared.feed.Feed.Ghosts, declared.rule.TheConstants.UNCLAIMED, declared.rule.View.View, Held.HasWords, Held.words_of}
use Rattle.slot_words.specs.Layout.{progress_in, sent_in, word_count}
use Rattle.slot_words.specs.declared.words.Words.TheInside as bar

-- words of sends are few
pub few_words : (image : Image) (banks : ℕ) → IsWellFormed image → banks ≤ 8 → send_count image * banks < 2 ^ 32
few_words image banks fits few =
    let sends = before_few image fits (length image.ports) in
    let most = fits.most_ports in
    let low : send_count image ≤ 16777216 = omega arith in
    let product : send_count image * banks ≤ 16777216 * 8 = mul-le-mul low few in
    omega arith

-- ---- the first words

module _ (image : Image) (banks : ℕ) where
  abbrev pub first_words : List ℕ
  first_words = replicate (length image.ports) UNCLAIMED ++ replicate (send_count image * banks) 0

  pub first_long : length first_words ≡ word_count image banks
  first_long = length-append (replicate (length image.ports) UNCLAIMED) (replicate (send_count image * banks) 0) ∙ ap₂ (λ x y. x + y) (length-replicate (length image.ports) UNCLAIMED) (length-replicate (send_count image * banks) 0)

  pub first_free : (p : ℕ) → p < length image.ports → progress_in first_words p ≡ UNCLAIMED
  first_free p inside =
      get_or_append_left (replicate (length image.ports) UNCLAIMED) (replicate (send_count image * banks) 0) 0 p (let e = length-replicate (length image.ports) UNCLAIMED in omega arith)
      ∙ get_or-replicate (length image.ports) p UNCLAIMED 0 inside

  pub none_sent : sent_in image banks first_words ≡ (λ p i b. 0)
  none_sent =
      let ports = replicate (length image.ports) UNCLAIMED in
      let row = replicate (send_count image * banks) 0 in
      let seam : drop (length image.ports) (ports ++ row) ≡ row = ap (λ n. drop n (ports ++ row)) (sym (length-replicate (length image.ports) UNCLAIMED)) ∙ drop-append_seam ports row in
      ap (word_in image banks) seam ∙ words_zero image banks (send_count image * banks)

  pub first_made : (ports sent : ℕ) (words : List ℕ) → ports ≡ length image.ports → sent ≡ send_count image * banks → words ≡ replicate ports UNCLAIMED ++ replicate sent 0 → words ≡ first_words
  first_made ports sent words ports_are sent_is words_are = words_are ∙ ap₂ (λ n m. replicate n UNCLAIMED ++ replicate {A = ℕ} m 0) ports_are sent_is

module _ {F D : Type 0} (g : Ghosts F D) (image : Image) (feed : D) (banks : ℕ) (runs : IsRunnable g image feed banks) where
  first_kept : IsKept g image feed banks (first_words image banks) (unseated image feed banks ∷ [])
  first_kept = record {
    place = λ p. start (length image.ports);
    owner = λ p. 0;
    runs = runs;
    long = first_long image banks;
    owned = owned_first image feed banks (first_words image banks) (first_free image banks);
    timed = record {
      progress = λ p inside claimed. absurd (claimed (first_free image banks p inside));
      paced = starts image runs.image_fits banks (g.turns image feed) runs.some;
    };
    sent = subst (AreSent g image feed banks (λ p. start (length image.ports))) (sym (none_sent image banks)) (starts_sent g image feed banks);
    looks = looks_first image feed banks (first_words image banks);
  }

  pub opened_kept : (ports sent : ℕ) (words : List ℕ) → ports ≡ length image.ports → sent ≡ send_count image * banks → words ≡ replicate ports UNCLAIMED ++ replicate sent 0
      → IsKept g image feed banks words (unseated image feed banks ∷ [])
  opened_kept ports sent words ports_are sent_is words_are =
      subst (λ ws. IsKept g image feed banks ws (unseated image feed banks ∷ [])) (sym (first_made image banks ports sent words ports_are sent_is words_are)) first_kept

-- the progress words are some of the crossbar's
pub claim_room : {D F : Type 0} (g : Ghosts F D) (b : bar.Inside D F) → HasWords g b → (p : ℕ) → p < length (words_of b).image.ports → p < b.table.shared.table_id.words
claim_room g b has p inside = progress_within b.table.shared.key.image.value b.table.shared.key.banks b.table.shared.table_id.words p has.words inside

pub no_port : {D : Type 0} (v : View D) (image : Image) (feed : D) (banks : ℕ) → v ≡ unseated image feed banks → v.port ≡ None
no_port {D = D} v image feed banks e = ap (λ (u : View D). u.port) e

-- a list with one more
pub each_more : {X : Type 0} (Holds : ℕ → X → Type 0) (n : ℕ) (xs next : List X) (one : X) → length xs ≡ n → ((p : ℕ) (x : X) → slice_get xs p ≡ Some x → Holds p x) → Holds n one → next ≡ xs ++ one ∷ []
    → (length next ≡ n + 1) × ((p : ℕ) (x : X) → slice_get next p ≡ Some x → Holds p x)
each_more Holds n xs next one long each is pushed = (
  grown,
  λ p x at. elim (cases_lt p n) [
    | inl before ↦ each p x (sym (at_front xs (one ∷ []) p (omega (arith, long))) ∙ (sym (ap (λ ys. slice_get ys p) pushed) ∙ at))
    | inr last ↦
        let low = slice_get_within next p x at in
        let here : p ≡ n = omega (arith, grown) in
        let seam : p ≡ length xs = omega (arith, long) in
        let twice : Some one ≡ Some x = sym (seam_at xs one []) ∙ (ap (λ k. slice_get (xs ++ one ∷ []) k) (sym seam) ∙ (sym (ap (λ ys. slice_get ys p) pushed) ∙ at)) in
        let x_is : one ≡ x = cc in
        subst (λ k. Holds k x) (sym here) (subst (Holds n) x_is is)
  ],
) where
  grown : length next ≡ n + 1
  grown = ap length pushed ∙ (length_push xs one ∙ omega (arith, long))

-- one more pass
pub passes_more : {D : Type 0} (made : WordsView D) (n : ℕ) (passes next : List (PassView D)) (one : PassView D) → AreFirstPasses made n passes → IsFirstPass made n one → next ≡ passes ++ one ∷ [] → AreFirstPasses made (n + 1) next
passes_more made n passes next one are is pushed = let more = each_more (IsFirstPass made) n passes next one are.long are.each is pushed in record { long = more.0; each = more.1 }
