-- Each event that moves leaves fewer events, so a run has no more than its number.
use Rattle.std.proofs.Common.{Bool, List, Some, [], add-one, ap, arith, false, get_or-set_other, get_or-set_same, if◌then◌else◌, inl, inr, le-leb, length, nat_le, slice_get, subst, suc-mul, sym, true, zero-mul, ℕ, ◌*◌, ◌++◌, ◌+◌, ◌-◌, ◌<◌, ◌∙◌, ◌∷◌, ◌≡◌, ◌≤◌}
use Rattle.std.proofs.lemmas.{Bool.cases_lt, Bool.lt-leb, List.length-map}
use Rattle.image_defs.proofs.lemmas.PlaceLemmas.{Rises, at_map}
use Rattle.image_defs.specs.{Places.in_slots, Places.out_slots, declared.image.LinkIn.LinkIn, declared.image.LinkOut.LinkOut}
use Rattle.image_defs.specs.declared.image.PortImage.{PortImage}
use Rattle.event_defs.proofs.SumLemmas.{all_missing, missing_falls, none_missing, sum_falls}
use Rattle.event_defs.proofs.lemmas.SlotLemmas.{to_map}
use Rattle.event_defs.specs.Counts.{asks_left, is_read_by, missing, port_left, work_left, work_of}
use Rattle.event_defs.specs.Places.{after_ask, after_put, after_take, after_tell, is_in, known_of}
use Rattle.event_defs.specs.{Next.EndsNext, declared.place.Place.Place}

pub from_test : (b : Bool) (x y : ℕ) → b ≡ true → (if b then x else y) ≡ x
from_test b x y e = ap {A = Bool} {B = ℕ} (λ c. if c then x else y) e

pub from_other : (b : Bool) (x y : ℕ) → b ≡ false → (if b then x else y) ≡ y
from_other b x y e = ap {A = Bool} {B = ℕ} (λ c. if c then x else y) e

pub product : (m n w : ℕ) → n ≡ m + 1 → n * w ≡ m * w + w
product m n w e = ap (λ k. k * w) (e ∙ add-one m) ∙ suc-mul m w

-- what is left of one port's events
module _ (ports banks until : ℕ) (port : PortImage) (place : Place) (early : place.turn ≤ until) where
  runs : (x y : ℕ) → (if nat_le place.turn until then x else y) ≡ x
  runs x y = from_test (nat_le place.turn until) x y (le-leb place.turn until early)

  -- where one less is missing, one event less is left
  falls : (puts takes : List ℕ) → missing puts (out_slots port.outs) + missing takes (in_slots port.ins) + 1 ≡ missing place.puts (out_slots port.outs) + missing place.takes (in_slots port.ins)
      → (if nat_le place.turn until then (until - place.turn) * work_of port + missing puts (out_slots port.outs) + missing takes (in_slots port.ins) + 1 else 0) + asks_left ports banks until port place + 1 ≡ port_left ports banks until place port
  falls puts takes less =
      let now = runs ((until - place.turn) * work_of port + missing puts (out_slots port.outs) + missing takes (in_slots port.ins) + 1) 0 in
      let was = runs ((until - place.turn) * work_of port + missing place.puts (out_slots port.outs) + missing place.takes (in_slots port.ins) + 1) 0 in
      let w : ℕ = (until - place.turn) * work_of port in
      let a : ℕ = asks_left ports banks until port place in
      let u : ℕ = missing puts (out_slots port.outs) in
      let v : ℕ = missing takes (in_slots port.ins) in
      let x : ℕ = missing place.puts (out_slots port.outs) in
      let y : ℕ = missing place.takes (in_slots port.ins) in
      let sums : w + u + v + 1 + a + 1 ≡ w + x + y + 1 + a = let f : u + v + 1 ≡ x + y = less in omega arith in
      ap (λ n. n + a + 1) now ∙ (sums ∙ ap (λ n. n + a) (sym was))

  pub put_falls : Rises (out_slots port.outs) → (i : ℕ) (link : LinkOut) → slice_get port.outs i ≡ Some link → is_in link.slot place.puts ≡ false
      → port_left ports banks until (after_put place link.slot) port + 1 ≡ port_left ports banks until place port
  put_falls up i link at not_put =
      let less = missing_falls place.puts (out_slots port.outs) i link.slot up (to_map (λ (l : LinkOut). l.slot) port.outs i link at) not_put in
      falls (place.puts ++ link.slot ∷ []) place.takes (omega (arith, less))

  pub take_falls : Rises (in_slots port.ins) → (j : ℕ) (link : LinkIn) → slice_get port.ins j ≡ Some link → is_in link.slot place.takes ≡ false
      → port_left ports banks until (after_take place link.slot) port + 1 ≡ port_left ports banks until place port
  take_falls up j link at not_taken =
      let less = missing_falls place.takes (in_slots port.ins) j link.slot up (to_map (λ (l : LinkIn). l.slot) port.ins j link at) not_taken in
      falls place.puts (place.takes ++ link.slot ∷ []) (omega (arith, less))

  all_done_slots : EndsNext port place.puts place.takes → (missing place.puts (out_slots port.outs) ≡ 0) × (missing place.takes (in_slots port.ins) ≡ 0)
  all_done_slots next = (
    none_missing place.puts (out_slots port.outs) (λ i s at. let l = at_map (λ (l : LinkOut). l.slot) port.outs i s at in subst (λ t. is_in t place.puts ≡ true) l.2 (next.all_put i l.0 l.1)),
    none_missing place.takes (in_slots port.ins) (λ i s at. let l = at_map (λ (l : LinkIn). l.slot) port.ins i s at in subst (λ t. is_in t place.takes ≡ true) l.2 (next.all_taken i l.0 l.1)),
  )

  pub tell_falls : EndsNext port place.puts place.takes → port_left ports banks until (after_tell place) port + 1 ≡ port_left ports banks until place port
  tell_falls next =
      let none = all_done_slots next in
      let was = runs ((until - place.turn) * work_of port + missing place.puts (out_slots port.outs) + missing place.takes (in_slots port.ins) + 1) 0 in
      let outs : missing [] (out_slots port.outs) ≡ length port.outs = all_missing (out_slots port.outs) ∙ length-map port.outs (λ (l : LinkOut). l.slot) in
      let ins : missing [] (in_slots port.ins) ≡ length port.ins = all_missing (in_slots port.ins) ∙ length-map port.ins (λ (l : LinkIn). l.slot) in
      let a : ℕ = asks_left ports banks until port place in
      let x : ℕ = missing place.puts (out_slots port.outs) in
      let z : ℕ = missing place.takes (in_slots port.ins) in
      let u : ℕ = missing [] (out_slots port.outs) in
      let v : ℕ = missing [] (in_slots port.ins) in
      let w : ℕ = (until - place.turn) * work_of port in
      let gone : (x ≡ 0) × (z ≡ 0) = none in
      elim (cases_lt place.turn until) [
        | inl more ↦
            let now = from_test (nat_le (place.turn + 1) until) ((until - (place.turn + 1)) * work_of port + u + v + 1) 0 (le-leb (place.turn + 1) until (omega arith)) in
            let m : ℕ = (until - (place.turn + 1)) * work_of port in
            let p : w ≡ m + work_of port = product (until - (place.turn + 1)) (until - place.turn) (work_of port) (omega arith) in
            let o : u ≡ length port.outs = outs in
            let i : v ≡ length port.ins = ins in
            let x0 = gone.0 in
            let z0 = gone.1 in
            let sums : m + u + v + 1 + a + 1 ≡ w + x + z + 1 + a = omega arith in
            ap (λ n. n + a + 1) now ∙ (sums ∙ ap (λ n. n + a) (sym was))
        | inr last ↦
            let now = from_other (nat_le (place.turn + 1) until) ((until - (place.turn + 1)) * work_of port + u + v + 1) 0 (lt-leb (place.turn + 1) until (omega arith)) in
            let none_left : until - place.turn ≡ 0 = omega arith in
            let p : w ≡ 0 = ap (λ n. n * work_of port) none_left ∙ zero-mul (work_of port) in
            let x0 = gone.0 in
            let z0 = gone.1 in
            let sums : 0 + a + 1 ≡ w + x + z + 1 + a = omega arith in
            ap (λ n. n + a + 1) now ∙ (sums ∙ ap (λ n. n + a) (sym was))
      ]

  pub ask_falls : (r n : ℕ) → r < ports → r < length place.known → is_read_by port r ≡ true → known_of place r ≤ n
      → port_left ports banks until (after_ask place r n) port + ((until - banks - known_of place r) - (until - banks - n)) ≡ port_left ports banks until place port
  ask_falls r n r_in room reads more =
      let k : ℕ = until - banks - known_of place r in
      let m : ℕ = until - banks - n in
      let w : ℕ = work_left ports banks until port place in
      let same_known : known_of (after_ask place r n) r ≡ n = get_or-set_same place.known r n 0 room in
      let now : (if is_read_by port r then until - banks - known_of (after_ask place r n) r else 0) ≡ until - banks - n = from_test (is_read_by port r) (until - banks - known_of (after_ask place r n) r) 0 reads ∙ ap (λ x. until - banks - x) same_known in
      let was : (if is_read_by port r then until - banks - known_of place r else 0) ≡ until - banks - known_of place r = from_test (is_read_by port r) (until - banks - known_of place r) 0 reads in
      let falls : (if is_read_by port r then until - banks - known_of (after_ask place r n) r else 0) + (k - m) ≡ (if is_read_by port r then until - banks - known_of place r else 0) =
      ap (λ x. x + (k - m)) now ∙ ((let e : m + (k - m) ≡ k = omega arith in e) ∙ sym was) in
      let sums = sum_falls ports r (k - m)
      (λ q. if is_read_by port q then until - banks - known_of place q else 0)
      (λ q. if is_read_by port q then until - banks - known_of (after_ask place r n) q else 0) r_in
      (λ q _ other. ap (λ x. if is_read_by port q then until - banks - x else 0) (sym (get_or-set_other place.known r q n 0 other))) falls in
      let b : ℕ = asks_left ports banks until port (after_ask place r n) in
      let a : ℕ = asks_left ports banks until port place in
      let sums' : b + (k - m) ≡ a = sums in
      let e : w + b + (k - m) ≡ w + a = omega arith in
      e
