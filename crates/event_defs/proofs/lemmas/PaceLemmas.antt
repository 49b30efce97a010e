-- Each event keeps the places of all ports in pace. No value and no word stands here.
use Rattle.std.proofs.Common.{List, Some, [], ap, arith, false, get_or, get_or-set_other, get_or-set_same, if◌then◌else◌, inl, inr, length, length-set, refl, replicate, slice_get, subst, sym, true, ℕ, ◌+◌, ◌-◌, ◌<◌, ◌∙◌, ◌≡◌, ◌≢◌, ◌≤◌}
use Rattle.std.proofs.lemmas.{Bool.cases_eq, Bool.false≢true, List.get_or-replicate, List.length-replicate, Option.slice_get_within}
use Rattle.logic_four.specs.Gates.{is_one}
use Rattle.image_defs.proofs.lemmas.PlaceLemmas.{rises}
use Rattle.image_defs.specs.Places.{IsPort, Stands, in_slots, out_slots}
use Rattle.image_defs.specs.{WellFormed.IsLinkIn, WellFormed.IsLinkOut, WellFormed.IsWellFormed, declared.image.Image.Image, declared.image.LinkIn.LinkIn}
use Rattle.image_defs.specs.declared.image.{LinkOut.LinkOut, PortImage.PortImage}
use Rattle.event_defs.proofs.lemmas.SlotLemmas.{each_more, each_updated, in_last, in_other, once_more, same_index, to_map, updated_there}
use Rattle.event_defs.specs.Places.{IsSend, after_ask, after_put, after_take, after_tell, is_in, known_of, latest, start}
use Rattle.event_defs.specs.{Next.EndsNext, Sound.ArePaced, Sound.IsPlaceOf, Sound.KeepsPace, Steps.updated, declared.place.Place.Place}

-- a place that has put and taken nothing in its turn
begins : (port : PortImage) (until turn : ℕ) (known : List ℕ) → 1 ≤ turn → turn ≤ until + 1 → IsPlaceOf port until (record { turn = turn; puts = []; takes = []; known = known })
begins port until turn known some few = record {
  begun = some;
  ends = few;
  puts_sent = λ i s at. cc;
  takes_received = λ i s at. cc;
  puts_once = λ i j d less within. absurd (omega arith);
  takes_once = λ i j d less within. absurd (omega arith);
  rests = λ last. (refl, refl);
}

-- how a Put changes the latest turn of a slot
pub latest_here : (a : Place) (slot : ℕ) → latest (after_put a slot) slot ≡ a.turn
latest_here a slot = ap (λ b. if b then a.turn else a.turn - 1) (in_last slot a.puts)

pub latest_there : (a : Place) (slot s : ℕ) → s ≢ slot → latest (after_put a slot) s ≡ latest a s
latest_there a slot s other = ap (λ b. if b then a.turn else a.turn - 1) (in_other s slot a.puts other)

pub latest_missing : (a : Place) (slot : ℕ) → is_in slot a.puts ≡ false → latest a slot ≡ a.turn - 1
latest_missing a slot missing = ap (λ b. if b then a.turn else a.turn - 1) missing

pub latest_put : (a : Place) (slot : ℕ) → is_in slot a.puts ≡ true → latest a slot ≡ a.turn
latest_put a slot there = ap (λ b. if b then a.turn else a.turn - 1) there

pub same_port : (image : Image) (p : ℕ) (one other : PortImage) → IsPort image p one → IsPort image p other → one ≡ other
same_port image p one other is_one is_other = let e : Some one ≡ Some other = sym is_one ∙ is_other in cc

-- a send stands among those of its port
pub send_at : (image : Image) (p i : ℕ) (link : LinkOut) (port : PortImage) → IsSend image p i link → IsPort image p port → slice_get port.outs i ≡ Some link
send_at image p i link port send is = subst (λ (q : PortImage). slice_get q.outs i ≡ Some link) (same_port image p send.port port send.is is) send.link_is

-- a number is that of one send
pub one_send : (image : Image) (p i j : ℕ) (one other : LinkOut) → IsSend image p i one → IsSend image p j other → i ≡ j → one ≡ other
one_send image p i j one other is_one is_other index =
    let twice : Some one ≡ Some other = sym is_one.link_is ∙ (ap (slice_get is_one.port.outs) index ∙ send_at image p j other is_one.port is_other is_one.is) in
    cc

module _ (image : Image) (fits : IsWellFormed image) where
  -- a port sends once in a slot
  pub same_send : (p i j : ℕ) (one other : LinkOut) → IsSend image p i one → IsSend image p j other → one.slot ≡ other.slot → (i ≡ j) × (one ≡ other)
  same_send p i j one other is_one is_other slot_same =
      let at_other = send_at image p j other is_one.port is_other is_one.is in
      let at_i : slice_get (out_slots is_one.port.outs) i ≡ Some one.slot = to_map (λ (l : LinkOut). l.slot) is_one.port.outs i one is_one.link_is in
      let at_j : slice_get (out_slots is_one.port.outs) j ≡ Some one.slot = to_map (λ (l : LinkOut). l.slot) is_one.port.outs j other at_other ∙ ap Some (sym slot_same) in
      let index : i ≡ j = same_index (out_slots is_one.port.outs) i j one.slot (rises (out_slots is_one.port.outs) (fits.ports p is_one.port is_one.is).outs) at_i at_j in
      let twice : Some one ≡ Some other = sym is_one.link_is ∙ (ap (slice_get is_one.port.outs) index ∙ at_other) in
      (index, cc)

  pub link_out : (p i : ℕ) (link : LinkOut) (s : IsSend image p i link) → IsLinkOut image p s.port link
  link_out p i link s = (fits.ports p s.port s.is).sends i link s.link_is

  -- no port reads what it sends
  pub reader_other : (p i r : ℕ) (link : LinkOut) → IsSend image p i link → Stands link.readers r → r ≢ p
  reader_other p i r link s (k, at) = (link_out p i link s).other k r at

  -- a reader receives it
  pub receipt : (p i r : ℕ) (link : LinkOut) (port : PortImage) → IsSend image p i link → Stands link.readers r → IsPort image r port → Stands port.ins (record { slot = link.slot; sender = p })
  receipt p i r link port s (k, at) is =
      let got = (link_out p i link s).received k r at in
      subst (λ (q : PortImage). Stands q.ins (record { slot = link.slot; sender = p })) (same_port image r got.port port got.is is) got.receives

  -- a reader is a port
  pub reader_port : (p i r : ℕ) (link : LinkOut) → IsSend image p i link → Stands link.readers r → (port : PortImage) × IsPort image r port
  reader_port p i r link s (k, at) = let got = (link_out p i link s).received k r at in (got.port, got.is)

  pub reader_in : (p i r : ℕ) (link : LinkOut) → IsSend image p i link → Stands link.readers r → r < length image.ports
  reader_in p i r link s reads = let got = reader_port p i r link s reads in slice_get_within image.ports r got.0 got.1

  -- a port receives once in a slot
  pub same_receipt : (r : ℕ) (port : PortImage) (j k : ℕ) (one other : LinkIn) → IsPort image r port → slice_get port.ins j ≡ Some one → slice_get port.ins k ≡ Some other → one.slot ≡ other.slot → (j ≡ k) × (one ≡ other)
  same_receipt r port j k one other is at_one at_other slot_same =
      let at_j : slice_get (in_slots port.ins) j ≡ Some one.slot = to_map (λ (l : LinkIn). l.slot) port.ins j one at_one in
      let at_k : slice_get (in_slots port.ins) k ≡ Some one.slot = to_map (λ (l : LinkIn). l.slot) port.ins k other at_other ∙ ap Some (sym slot_same) in
      let index : j ≡ k = same_index (in_slots port.ins) j k one.slot (rises (in_slots port.ins) (fits.ports r port is).ins) at_j at_k in
      let twice : Some one ≡ Some other = sym at_one ∙ (ap (slice_get port.ins) index ∙ at_other) in
      (index, cc)

  -- the send that a port receives from
  pub source : (r : ℕ) (port : PortImage) (j : ℕ) (link : LinkIn) → IsPort image r port → slice_get port.ins j ≡ Some link → (i : ℕ) × (sent : LinkOut) × IsSend image link.sender i sent × (sent.slot ≡ link.slot) × Stands sent.readers r
  source r port j link is at =
      let got : IsLinkIn image r link = (fits.ports r port is).receives j link at in
      (got.sends.0, got.sent, record { port = got.sender; is = got.is; link_is = got.sends.1 }, got.slot, got.reads)

  -- what stands at the places, where one port has another place
  module _ (banks until : ℕ) (place : ℕ → Place) (paced : ArePaced image banks until place) (p : ℕ) (port : PortImage) (is : IsPort image p port) where
    pub inside : p < length image.ports
    inside = slice_get_within image.ports p port is

    -- what a new place of port p owes
    pub record CanStand (x : Place) : Type 0 where
      pub later : (place p).turn ≤ x.turn
      pub own : IsPlaceOf port until x
      pub wide : length x.known ≡ length image.ports
      pub known : (q : ℕ) → q < length image.ports → known_of x q + 1 ≤ (place q).turn
      pub sends : (i r : ℕ) (link : LinkOut) → IsSend image p i link → Stands link.readers r → KeepsPace banks link.slot x (place r)
      pub reads : (q i : ℕ) (link : LinkOut) → IsSend image q i link → Stands link.readers p → KeepsPace banks link.slot (place q) x

    pub stands : (x : Place) → CanStand x → ArePaced image banks until (updated place p x)
    stands x can = record {
      places = λ q port_image is_seat. each_updated (λ q (a : Place). IsPort image q port_image → IsPlaceOf port_image until a) place p x (λ is_p. subst (λ (s : PortImage). IsPlaceOf s until x) (same_port image p port port_image is is_p) can.own) (λ q _. paced.places q port_image) q is_seat;
      wide = each_updated (λ q (a : Place). q < length image.ports → length a.known ≡ length image.ports) place p x (λ _. can.wide) (λ q _. paced.wide q);
      known = λ o q o_in q_in. le_turn q (known_of (updated place p x o) q) (each_updated (λ o (a : Place). o < length image.ports → known_of a q + 1 ≤ (place q).turn) place p x (λ _. can.known q q_in) (λ o _ in_o. paced.known o q in_o q_in) o o_in);
      pace = λ q i r link send reads. each_updated (λ q (a : Place). IsSend image q i link → KeepsPace banks link.slot a (updated place p x r)) place p x
          (λ s. subst (KeepsPace banks link.slot x) (sym (updated_there place p r x (reader_other p i r link s reads))) (can.sends i r link s reads))
          (λ q other s. each_updated (λ r (b : Place). Stands link.readers r → KeepsPace banks link.slot (place q) b) place p x (λ here. can.reads q i link s here) (λ r _ here. paced.pace q i r link s here) r reads) q send;
    } where
      le_turn : (q n : ℕ) → n + 1 ≤ (place q).turn → n + 1 ≤ (updated place p x q).turn
      le_turn q n = each_updated (λ q (a : Place). n + 1 ≤ (place q).turn → n + 1 ≤ a.turn) place p x (λ h. let later = can.later in omega arith) (λ q _ h. h) q

    here : IsPlaceOf port until (place p)
    here = paced.places p port is

    pub asks : (r n : ℕ) → r < length image.ports → n + 1 ≤ (place r).turn → CanStand (after_ask (place p) r n)
    asks r n r_in fresh = record {
      later = omega arith;
      own = record { begun = here.begun; ends = here.ends; puts_sent = here.puts_sent; takes_received = here.takes_received; puts_once = here.puts_once; takes_once = here.takes_once; rests = here.rests };
      wide = length-set (place p).known r n ∙ paced.wide p inside;
      known = λ q q_in. elim (cases_eq q r) [
        | inl same ↦ let wide = paced.wide p inside in let e = get_or-set_same (place p).known r n 0 (omega arith) in rw (same, e) fresh
        | inr other ↦ let e = get_or-set_other (place p).known r q n 0 other in rw e (paced.known p q inside q_in)
      ];
      sends = λ i o link s reads. let k = paced.pace p i o link s reads in record { behind = k.behind; ahead = k.ahead; took = k.took };
      reads = λ q i link s here. let k = paced.pace q i p link s here in record { behind = k.behind; ahead = k.ahead; took = k.took };
    }

    -- a Put needs no more than a link whose slot wasn't put, and readers that are known to be near enough
    pub puts : (i : ℕ) (link : LinkOut) → slice_get port.outs i ≡ Some link → is_in link.slot (place p).puts ≡ false → (place p).turn ≤ until → ((r : ℕ) → Stands link.readers r → (place p).turn ≤ known_of (place p) r + banks) → CanStand (after_put (place p) link.slot)
    puts i link at missing early ready = record {
      later = omega arith;
      own = record {
        begun = here.begun;
        ends = here.ends;
        puts_sent = each_more (Stands (out_slots port.outs)) (place p).puts link.slot here.puts_sent (i, to_map (λ (l : LinkOut). l.slot) port.outs i link at);
        takes_received = here.takes_received;
        puts_once = once_more link.slot (place p).puts here.puts_once missing;
        takes_once = here.takes_once;
        rests = λ last. absurd (omega arith);
      };
      wide = paced.wide p inside;
      known = λ q. paced.known p q inside;
      sends = λ j r other send reads. elim (cases_eq other.slot link.slot) [
        | inl same ↦
            let found = same_send p j i other link send (record { port = port; is = is; link_is = at }) same in
            let reads_link : Stands link.readers r = subst (λ (l : LinkOut). Stands l.readers r) found.1 reads in
            let k = paced.pace p j r other send reads in
            let was : latest (place p) other.slot ≡ (place p).turn - 1 = latest_missing (place p) other.slot (ap (λ s. is_in s (place p).puts) same ∙ missing) in
            let now : latest (after_put (place p) link.slot) other.slot ≡ (place p).turn = ap (latest (after_put (place p) link.slot)) same ∙ latest_here (place p) link.slot in
            let knows = paced.known p r inside (reader_in p j r other send reads) in
            let enough = ready r reads_link in
            let behind = k.behind in
            record { behind = omega arith; ahead = omega arith; took = λ t. let h = k.took t in omega arith }
        | inr differs ↦
            let k = paced.pace p j r other send reads in
            let now : latest (after_put (place p) link.slot) other.slot ≡ latest (place p) other.slot = latest_there (place p) link.slot other.slot differs in
            record { behind = rw now k.behind; ahead = rw now k.ahead; took = λ t. rw now (k.took t) }
      ];
      reads = λ q i link s here. let k = paced.pace q i p link s here in record { behind = k.behind; ahead = k.ahead; took = k.took };
    }

    -- a Take needs no more than a link whose slot wasn't taken, and a sender that has put this turn's value
    pub takes : (j : ℕ) (link : LinkIn) → slice_get port.ins j ≡ Some link → is_in link.slot (place p).takes ≡ false → (place p).turn ≤ until → (place p).turn ≤ latest (place link.sender) link.slot → CanStand (after_take (place p) link.slot)
    takes j link at missing early fresh = record {
      later = omega arith;
      own = record {
        begun = here.begun;
        ends = here.ends;
        puts_sent = here.puts_sent;
        takes_received = each_more (Stands (in_slots port.ins)) (place p).takes link.slot here.takes_received (j, to_map (λ (l : LinkIn). l.slot) port.ins j link at);
        puts_once = here.puts_once;
        takes_once = once_more link.slot (place p).takes here.takes_once missing;
        rests = λ last. absurd (omega arith);
      };
      wide = paced.wide p inside;
      known = λ o. paced.known p o inside;
      sends = λ i r other s reads. let k = paced.pace p i r other s reads in record { behind = k.behind; ahead = k.ahead; took = k.took };
      reads = λ o m other s here. elim (cases_eq other.slot link.slot) [
        | inl same ↦
            let got = receipt o m p other port s here is in
            let link_is : record { slot = other.slot; sender = o } ≡ link = (same_receipt p port got.0 j (record { slot = other.slot; sender = o }) link is got.1 at same).1 in
            let put_there : (place p).turn ≤ latest (place o) other.slot = subst (λ (l : LinkIn). (place p).turn ≤ latest (place l.sender) l.slot) (sym link_is) fresh in
            let k = paced.pace o m p other s here in
            record { behind = k.behind; ahead = k.ahead; took = λ _. put_there }
        | inr differs ↦
            let k = paced.pace o m p other s here in
            record { behind = k.behind; ahead = k.ahead; took = λ t. k.took (sym (in_other other.slot link.slot (place p).takes differs) ∙ t) }
      ];
    }

    pub tells : EndsNext port (place p).puts (place p).takes → (place p).turn ≤ until → CanStand (after_tell (place p))
    tells next early = record {
      later = omega arith;
      own = begins port until ((place p).turn + 1) (place p).known (omega arith) (omega arith);
      wide = paced.wide p inside;
      known = λ q. paced.known p q inside;
      sends = λ i r link s reads.
          let k = paced.pace p i r link s reads in
          let was : latest (place p) link.slot ≡ (place p).turn = latest_put (place p) link.slot (next.all_put i link (send_at image p i link port s is)) in
          let now : latest (after_tell (place p)) link.slot ≡ (place p).turn + 1 - 1 = refl in
          let behind = k.behind in
          let ahead = k.ahead in
          record { behind = omega arith; ahead = omega arith; took = λ t. let h = k.took t in omega arith };
      reads = λ q i link s here.
          let k = paced.pace q i p link s here in
          let got = receipt q i p link port s here is in
          let took = k.took (next.all_taken got.0 (record { slot = link.slot; sender = q }) got.1) in
          let ahead = k.ahead in
          record { behind = omega arith; ahead = omega arith; took = λ t. absurd (false≢true t) };
    }

  pub starts : (banks until : ℕ) → 1 ≤ banks → ArePaced image banks until (λ p. start (length image.ports))
  starts banks until some = record {
    places = λ p port is. begins port until 1 (replicate (length image.ports) 0) (omega arith) (omega arith);
    wide = λ p inside. length-replicate (length image.ports) 0;
    known = λ p q inside q_in. let e : get_or {A = ℕ} (replicate (length image.ports) 0) q 0 ≡ 0 = get_or-replicate (length image.ports) q 0 0 q_in in omega arith;
    pace = λ p i r link s reads. record { behind = omega arith; ahead = omega arith; took = λ t. absurd (false≢true t) };
  }
