-- Which seat has which port: each kind of step keeps it.
use Rattle.std.proofs.Common.{List, None, Option, Some, [], ap, arith, get_or-set_other, get_or-set_same, inl, inr, length, refl, set, subst, suc, sym, zero, ℕ, ◌++◌, ◌<◌, ◌∙◌, ◌∷◌, ◌≡◌, ◌≢◌}
use Rattle.std.proofs.lemmas.Bool.{cases_eq}
use mathlib.Core.Option.{some, some-injective, some-ne-none}
use lib.ListN.{get_elem?}
use Rattle.atomic_table.proofs.Lists.{at_longer, at_set, at_snoc, set_else, set_here}
use Rattle.image_defs.specs.declared.image.Image.{Image}
use Rattle.event_defs.proofs.lemmas.SlotLemmas.{updated_here, updated_there}
use Rattle.event_defs.specs.{Places.start, Steps.updated, declared.place.Place.Place}
use Rattle.slot_words.specs.Rule.{AreOwned, IsPassOf, IsSeatOf, unseated}
use Rattle.slot_words.specs.{declared.rule.TheConstants.UNCLAIMED, declared.rule.View.View, Layout.progress_in, code.Plays.after_step, code.Plays.claimed_by}

pub within : {A : Type 0} (l : List A) (i : ℕ) (a : A) → get_elem? l i ≡ some a → i < length l
within [] i a at = absurd (some-ne-none a (sym at))
within (x ∷ xs) zero a at = omega arith
within (x ∷ xs) (suc i) a at = let rest = within xs i a at in omega arith

-- one seat alone
pub only_one : {A : Type 0} (a : A) (i : ℕ) (b : A) → get_elem? (a ∷ []) i ≡ some b → a ≡ b
only_one a zero b here = some-injective a b here
only_one a (suc i) b here = absurd (some-ne-none b (sym here))

pub same_some : {A : Type 0} (a b : A) (o : Option A) → o ≡ Some a → o ≡ Some b → a ≡ b
same_some a b o one other = let e : Some a ≡ Some b = sym one ∙ other in cc

not_both : (p : ℕ) (o : Option ℕ) → o ≡ None → o ≡ Some p → ⊥
not_both p o one other = let e : None ≡ Some p = sym one ∙ other in cc

-- the same ports are claimed
abbrev pub SameClaims : Image → List ℕ → List ℕ → Type 0
SameClaims image words now = (q : ℕ) → q < length image.ports
    → (progress_in now q ≡ UNCLAIMED → progress_in words q ≡ UNCLAIMED) × (progress_in words q ≡ UNCLAIMED → progress_in now q ≡ UNCLAIMED)

module _ {D : Type 0} (image : Image) (feed : D) (banks : ℕ) where
  module _ (words : List ℕ) (views : List (View D)) (place : ℕ → Place) (owner : ℕ → ℕ) (owned : AreOwned image feed banks words views place owner) where
    -- the seat at this number has this view alone
    one_view : (id : ℕ) (v w : View D) → get_elem? views id ≡ some v → get_elem? views id ≡ some w → v ≡ w
    one_view id v w one other = some-injective v w (sym one ∙ other)

    -- a port's own step: Ask, Put, Take or Tell
    pub owned_stepped : (now : List ℕ) (id p : ℕ) (v : View D) (stamp : ℕ) (x : Place) (word number : ℕ) → get_elem? views id ≡ some v → v.port ≡ Some p → SameClaims image words now
        → AreOwned image feed banks now (set views id (after_step v stamp x word number)) (updated place p x) owner
    owned_stepped now id p v stamp x word number at port_is claims = record {
      same = λ j u here. elim (at_set views id j w u here) [
        | inl t ↦ subst (IsSeatOf image feed banks) t.1 (owned.same id v at)
        | inr t ↦ owned.same j u t.1
      ];
      mine = λ j q u here port_u. elim (at_set views id j w u here) [
        | inl t ↦
            let port_w : w.port ≡ Some q = ap (λ (u : View D). u.port) t.1 ∙ port_u in
            let q_is : q ≡ p = same_some q p v.port port_w port_is in
            subst (λ q. IsPassOf image now (updated place p x) owner j q u) (sym q_is)
            (subst (λ j. IsPassOf image now (updated place p x) owner j p u) (sym t.0)
            (subst (λ u. IsPassOf image now (updated place p x) owner id p u) t.1 (record {
              inside = m.inside;
              owner_is = m.owner_is;
              place_is = sym (updated_here place p x);
              claimed = λ e. m.claimed ((claims p m.inside).0 e);
            })))
        | inr t ↦
            let n = owned.mine j q u t.1 port_u in
            let away : q ≢ p = λ e. t.0 (n.owner_is ∙ (ap owner e ∙ sym m.owner_is)) in
            record {
              inside = n.inside;
              owner_is = n.owner_is;
              place_is = n.place_is ∙ sym (updated_there place p q x away);
              claimed = λ e. n.claimed ((claims q n.inside).0 e);
            }
      ];
      seen = λ q inside claimed.
          let s = owned.seen q inside (λ e. claimed ((claims q inside).1 e)) in
          elim (cases_eq (owner q) id) [
            | inl here ↦
                let same : v ≡ s.view = one_view id v s.view at (ap (get_elem? views) (sym here) ∙ s.at) in
                record {
                  view = w;
                  at = ap (get_elem? (set views id w)) here ∙ set_here views id w (within views id v at);
                  port_is = ap (λ (u : View D). u.port) same ∙ s.port_is;
                }
            | inr away ↦ record { view = s.view; at = set_else views id (owner q) w away ∙ s.at; port_is = s.port_is }
          ];
      fresh = λ q inside free.
          let was = (claims q inside).0 free in
          let away : q ≢ p = λ e. m.claimed (subst (λ q. progress_in words q ≡ UNCLAIMED) e was) in
          updated_there place p q x away ∙ owned.fresh q inside was;
    } where
      w : View D
      w = after_step v stamp x word number

      m : IsPassOf image words place owner id p v
      m = owned.mine id p v at port_is

    -- a seat claims a port that no seat has: Name
    pub owned_claimed : (id p : ℕ) (v : View D) → get_elem? views id ≡ some v → v.port ≡ None → p < length image.ports → p < length words → progress_in words p ≡ UNCLAIMED
        → AreOwned image feed banks (set words p 0) (set views id (claimed_by v p)) place (updated owner p id)
    owned_claimed id p v at none p_in room free = record {
      same = λ j u here. elim (at_set views id j w u here) [
        | inl t ↦ subst (IsSeatOf image feed banks) t.1 (owned.same id v at)
        | inr t ↦ owned.same j u t.1
      ];
      mine = λ j q u here port_u. elim (at_set views id j w u here) [
        | inl t ↦
            let port_w : w.port ≡ Some q = ap (λ (u : View D). u.port) t.1 ∙ port_u in
            let q_is : q ≡ p = same_some q p w.port port_w refl in
            subst (λ q. IsPassOf image (set words p 0) place (updated owner p id) j q u) (sym q_is)
            (subst (λ j. IsPassOf image (set words p 0) place (updated owner p id) j p u) (sym t.0)
            (subst (λ u. IsPassOf image (set words p 0) place (updated owner p id) id p u) t.1 (record {
              inside = p_in;
              owner_is = sym (updated_here owner p id);
              place_is = ap (λ (i : Image). start (length i.ports)) (owned.same id v at).0 ∙ sym (owned.fresh p p_in free);
              claimed = claimed_now;
            })))
        | inr t ↦
            let n = owned.mine j q u t.1 port_u in
            let away : q ≢ p = λ e. n.claimed (subst (λ q. progress_in words q ≡ UNCLAIMED) (sym e) free) in
            record {
              inside = n.inside;
              owner_is = n.owner_is ∙ sym (updated_there owner p q id away);
              place_is = n.place_is;
              claimed = λ e. n.claimed (sym (get_or-set_other words p q 0 0 away) ∙ e);
            }
      ];
      seen = λ q inside claimed. elim (cases_eq q p) [
        | inl here ↦ record {
          view = w;
          at = ap (get_elem? (set views id w)) (ap (updated owner p id) here ∙ updated_here owner p id) ∙ set_here views id w (within views id v at);
          port_is = ap Some (sym here);
        }
        | inr away ↦
            let s = owned.seen q inside (λ e. claimed (get_or-set_other words p q 0 0 away ∙ e)) in
            let other : owner q ≢ id = λ e. not_both q v.port none (ap (λ (u : View D). u.port) (one_view id v s.view at (ap (get_elem? views) (sym e) ∙ s.at)) ∙ s.port_is) in
            record {
              view = s.view;
              at = ap (get_elem? (set views id w)) (updated_there owner p q id away) ∙ (set_else views id (owner q) w other ∙ s.at);
              port_is = s.port_is;
            }
      ];
      fresh = λ q inside free_now. elim (cases_eq q p) [
        | inl here ↦ absurd (claimed_now (subst (λ q. progress_in (set words p 0) q ≡ UNCLAIMED) here free_now))
        | inr away ↦ owned.fresh q inside (sym (get_or-set_other words p q 0 0 away) ∙ free_now)
      ];
    } where
      w : View D
      w = claimed_by v p

      claimed_now : progress_in (set words p 0) p ≢ UNCLAIMED
      claimed_now e = let zero_is = get_or-set_same words p 0 0 room in let wrong : 0 ≡ UNCLAIMED = sym zero_is ∙ e in absurd (omega arith)

    -- a second seat that is no port's: Split
    pub owned_split : (id : ℕ) (v : View D) → get_elem? views id ≡ some v → v.port ≡ None → AreOwned image feed banks words (views ++ v ∷ []) place owner
    owned_split id v at none = record {
      same = λ j u here. elim (at_snoc views v u j here) [
        | inl old ↦ owned.same j u old
        | inr new ↦ subst (IsSeatOf image feed banks) new (owned.same id v at)
      ];
      mine = λ j q u here port_u. elim (at_snoc views v u j here) [
        | inl old ↦ owned.mine j q u old port_u
        | inr new ↦ absurd (not_both q v.port none (ap (λ (u : View D). u.port) new ∙ port_u))
      ];
      seen = λ q inside claimed. let s = owned.seen q inside claimed in record { view = s.view; at = at_longer views (v ∷ []) (owner q) s.view s.at; port_is = s.port_is };
      fresh = owned.fresh;
    }

  -- before the first step
  pub owned_first : (words : List ℕ) → ((p : ℕ) → p < length image.ports → progress_in words p ≡ UNCLAIMED)
      → AreOwned image feed banks words (unseated image feed banks ∷ []) (λ p. start (length image.ports)) (λ p. 0)
  owned_first words free = record {
    same = λ j u here. subst (IsSeatOf image feed banks) (only_one (unseated image feed banks) j u here) (refl, refl, refl);
    mine = λ j q u here port_u. absurd (not_both q None refl (ap (λ (u : View D). u.port) (only_one (unseated image feed banks) j u here) ∙ port_u));
    seen = λ q inside claimed. absurd (claimed (free q inside));
    fresh = λ q inside free_now. refl;
  }
