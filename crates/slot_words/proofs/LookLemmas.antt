-- What passes saw at their last steps: each kind of step keeps it.
use Rattle.std.proofs.Common.{Bool, List, None, Some, [], ap, arith, get_or, get_or-set_other, get_or-set_same, if◌then◌else◌, inl, inr, length, lt-ltb, nat_lt, refl, set, subst, suc, sym, zero, ℕ, ◌++◌, ◌+◌, ◌<◌, ◌∙◌, ◌∷◌, ◌≡◌, ◌≤◌}
use Rattle.std.proofs.lemmas.{Bool.cases_eq, Bool.le-ltb, List.Sums.sum_by-set, List.Sums.sum_by_push}
use mathlib.Core.Option.{some, some-injective, some-ne-none}
use lib.ListN.{get_elem?}
use Rattle.atomic_table.proofs.Lists.{at_longer, at_set, at_snoc, set_else, set_here}
use Rattle.image_defs.specs.declared.image.Image.{Image}
use Rattle.event_defs.specs.{Row.send_number, Row.word_place, declared.place.Place.Place}
use Rattle.slot_words.proofs.{OwnLemmas.only_one, OwnLemmas.within, lemmas.SoundLemmas.told_none}
use Rattle.slot_words.specs.Layout.{progress_in, send_word, told_in, turns_told}
use Rattle.slot_words.specs.Rule.{AreLooks, HasLast, steps_in, unseated}
use Rattle.slot_words.specs.{declared.rule.TheConstants.UNCLAIMED, declared.rule.View.View, code.Plays.after_step, code.Plays.claimed_by}

-- ---- what words tell

pub told_progress : (image : Image) (words : List ℕ) (p : ℕ) → p < length image.ports → told_in image words p ≡ turns_told (progress_in words p)
told_progress image words p inside = ap {A = Bool} {B = ℕ} (λ b. if b then turns_told (progress_in words p) else get_or words p 0) (lt-ltb p (length image.ports) inside)

pub told_sent : (image : Image) (banks : ℕ) (words : List ℕ) (p i b : ℕ) → told_in image words (send_word image banks p i b) ≡ get_or words (send_word image banks p i b) 0
told_sent image banks words p i b =
    let at : ℕ = send_word image banks p i b in
    let row : ℕ = word_place banks (send_number image p i) b in
    let at_is : at ≡ length image.ports + row = refl in
    ap {A = Bool} {B = ℕ} (λ t. if t then turns_told (progress_in words at) else get_or words at 0) (le-ltb at (length image.ports) (omega arith))

-- ---- the steps of all passes

at_index : {A : Type 0} (l : List A) (i : ℕ) (a d : A) → get_elem? l i ≡ some a → get_or l i d ≡ a
at_index [] i a d at = absurd (some-ne-none a (sym at))
at_index (x ∷ xs) zero a d at = some-injective x a at
at_index (x ∷ xs) (suc i) a d at = at_index xs i a d at

steps_set : {D : Type 0} (views : List (View D)) (id : ℕ) (v w : View D) → get_elem? views id ≡ some v → steps_in (set views id w) + v.steps ≡ steps_in views + w.steps
steps_set {D = D} views id v w at = subst (λ (u : View D). steps_in (set views id w) + u.steps ≡ steps_in views + w.steps) (at_index views id v v at) (sum_by-set (λ (u : View D). u.steps) views id w v (within views id v at))

no_port : {A D : Type 0} (p : ℕ) (v : View D) → v.port ≡ Some p → v.port ≡ None → A
no_port p v some_port none = let e : None ≡ Some p = sym none ∙ some_port in absurd (cc)

module _ {D : Type 0} (image : Image) where
  -- a port's own step: what it saw is in the word that it names
  pub looks_stepped : (words now : List ℕ) (views : List (View D)) (id : ℕ) (v : View D) (x : Place) (word number : ℕ) → AreLooks image words views → get_elem? views id ≡ some v → (p : ℕ) → v.port ≡ Some p → told_in image now word ≡ number
      → AreLooks image now (set views id (after_step v (steps_in views + 1) x word number))
  looks_stepped words now views id v x word number looks at p port_is told = record {
    past = λ j u here. elim (at_set views id j w u here) [
      | inl t ↦ let at_is : steps_in views + 1 ≡ u.at = ap (λ (u : View D). u.at) t.1 in omega (arith, grown)
      | inr t ↦ let before = looks.past j u t.1 in omega (arith, grown)
    ];
    idle = λ j u here none. elim (at_set views id j w u here) [
      | inl t ↦ no_port p w port_is (ap (λ (u : View D). u.port) t.1 ∙ none)
      | inr t ↦ looks.idle j u t.1 none
    ];
    last = λ some_step. record { id = id; view = w; there = set_here views id w (within views id v at); last = sym grown };
    seen = λ j u here some_step is_last. elim (at_set views id j w u here) [
      | inl t ↦ subst (λ (u : View D). told_in image now u.last.word ≡ u.last.number) t.1 told
      | inr t ↦ let before = looks.past j u t.1 in absurd (omega (arith, grown))
    ];
  } where
    w : View D
    w = after_step v (steps_in views + 1) x word number

    grown : steps_in (set views id w) ≡ steps_in views + 1
    grown = let sum : steps_in (set views id w) + v.steps ≡ steps_in views + (v.steps + 1) = steps_set views id v w at in omega arith

  -- Name: an unclaimed word tells of no turns, and so it does when it is claimed
  pub looks_claimed : (words : List ℕ) (views : List (View D)) (id p : ℕ) (v : View D) → AreLooks image words views → get_elem? views id ≡ some v → p < length image.ports → p < length words → progress_in words p ≡ UNCLAIMED
      → AreLooks image (set words p 0) (set views id (claimed_by v p))
  looks_claimed words views id p v looks at inside room free = record {
    past = λ j u here. elim (at_set views id j w u here) [
      | inl t ↦ let before = looks.past id v at in let at_is : v.at ≡ u.at = ap (λ (u : View D). u.at) t.1 in omega (arith, same)
      | inr t ↦ let before = looks.past j u t.1 in omega (arith, same)
    ];
    idle = λ j u here none. elim (at_set views id j w u here) [
      | inl t ↦ no_port p w refl (ap (λ (u : View D). u.port) t.1 ∙ none)
      | inr t ↦ looks.idle j u t.1 none
    ];
    last = λ some_step. last (looks.last (omega (arith, same)));
    seen = λ j u here some_step is_last. elim (at_set views id j w u here) [
      | inl t ↦ subst (λ (u : View D). told_in image (set words p 0) u.last.word ≡ u.last.number) t.1 (tells v.last.word ∙ looks.seen id v at (omega (arith, same)) (let at_is : v.at ≡ u.at = ap (λ (u : View D). u.at) t.1 in omega (arith, same)))
      | inr t ↦ tells u.last.word ∙ looks.seen j u t.1 (omega (arith, same)) (omega (arith, same))
    ];
  } where
    w : View D
    w = claimed_by v p

    same : steps_in (set views id w) ≡ steps_in views
    same = let sum : steps_in (set views id w) + v.steps ≡ steps_in views + v.steps = steps_set views id v w at in omega arith

    tells : (k : ℕ) → told_in image (set words p 0) k ≡ told_in image words k
    tells k = elim (cases_eq k p) [
      | inl here ↦ subst (λ k. told_in image (set words p 0) k ≡ told_in image words k) (sym here)
          (told_progress image (set words p 0) p inside ∙ (ap turns_told (get_or-set_same words p 0 0 room) ∙ sym (told_progress image words p inside ∙ told_none (progress_in words p) free)))
      | inr away ↦ ap {A = ℕ} {B = ℕ} (λ n. if nat_lt k (length image.ports) then turns_told n else n) (get_or-set_other words p k 0 0 away)
    ]

    last : HasLast views → HasLast (set views id w)
    last has = elim (cases_eq has.id id) [
      | inl here ↦
          let v_is : v ≡ has.view = some-injective v has.view (sym at ∙ (ap (get_elem? views) (sym here) ∙ has.there)) in
          record { id = id; view = w; there = set_here views id w (within views id v at); last = ap (λ (u : View D). u.at) v_is ∙ (has.last ∙ sym same) }
      | inr away ↦ record { id = has.id; view = has.view; there = set_else views id has.id w away ∙ has.there; last = has.last ∙ sym same }
    ]

  -- Split: the second seat has made no step
  pub looks_split : (words : List ℕ) (views : List (View D)) (id : ℕ) (v : View D) → AreLooks image words views → get_elem? views id ≡ some v → v.port ≡ None → AreLooks image words (views ++ v ∷ [])
  looks_split words views id v looks at none = record {
    past = λ j u here. elim (at_snoc views v u j here) [
      | inl old ↦ let before = looks.past j u old in omega (arith, same)
      | inr new ↦ let before = looks.past id v at in let at_is : v.at ≡ u.at = ap (λ (u : View D). u.at) new in omega (arith, same)
    ];
    idle = λ j u here free. elim (at_snoc views v u j here) [
      | inl old ↦ looks.idle j u old free
      | inr new ↦ subst (λ (u : View D). u.steps ≡ 0) new (looks.idle id v at none)
    ];
    last = λ some_step. let has = looks.last (omega (arith, same)) in record { id = has.id; view = has.view; there = at_longer views (v ∷ []) has.id has.view has.there; last = has.last ∙ sym same };
    seen = λ j u here some_step is_last. elim (at_snoc views v u j here) [
      | inl old ↦ looks.seen j u old (omega (arith, same)) (omega (arith, same))
      | inr new ↦ subst (λ (u : View D). told_in image words u.last.word ≡ u.last.number) new (looks.seen id v at (omega (arith, same)) (let at_is : v.at ≡ u.at = ap (λ (u : View D). u.at) new in omega (arith, same)))
    ];
  } where
    same : steps_in (views ++ v ∷ []) ≡ steps_in views
    same = let sum = sum_by_push (λ (u : View D). u.steps) views v in let sum' : steps_in (views ++ v ∷ []) ≡ steps_in views + v.steps = sum in let no_step = looks.idle id v at none in omega arith

  -- before the first step
  pub looks_first : (feed : D) (banks : ℕ) (words : List ℕ) → AreLooks image words (unseated image feed banks ∷ [])
  looks_first feed banks words = record {
    past = λ j u here. subst (λ (u : View D). u.at ≤ 0) (only_one (unseated image feed banks) j u here) (omega arith);
    idle = λ j u here free. subst (λ (u : View D). u.steps ≡ 0) (only_one (unseated image feed banks) j u here) refl;
    last = λ some_step. absurd (omega arith);
    seen = λ j u here some_step is_last. absurd (omega arith);
  }

-- ---- a step that is counted

-- the seat made the last step of all, since all others made theirs before
pub counted_look : {D : Type 0} (image : Image) (words now : List ℕ) (views : List (View D)) (id : ℕ) (v w : View D) → AreLooks image words views → get_elem? views id ≡ some v → w.steps ≡ v.steps + 1 → AreLooks image now (set views id w)
    → told_in image now w.last.word ≡ w.last.number
counted_look {D = D} image words now views id v w looks at counted after = elim (at_set views id has.id w has.view has.there) [
  | inl t ↦ after.seen id w (set_here views id w (within views id v at)) (omega (arith, grown)) (ap (λ (u : View D). u.at) t.1 ∙ has.last)
  | inr t ↦ let before = looks.past has.id has.view t.1 in let is = has.last in absurd (omega (arith, grown))
] where
  grown : steps_in (set views id w) ≡ steps_in views + 1
  grown = let sum = steps_set views id v w at in omega arith

  has : HasLast (set views id w)
  has = after.last (omega (arith, grown))
