-- The numbers of sends and of sources.
use Rattle.std.proofs.Common.{List, None, Option, Some, [], add-one, ap, ap₂, arith, eqb, eqb-true, inl, inr, length, refl, slice_get, slice_index_or, subst, sym, true, ℕ, ◌*◌, ◌++◌, ◌+◌, ◌<◌, ◌^◌, ◌∙◌, ◌∷◌, ◌≡◌, ◌≤◌}
use Rattle.std.proofs.lemmas.{Bool.cases_lt, Bool.cases_order, Bool.Decides.Decides-eqb, List.length-map, List.length_push, List.Kept.AllPairs-from_increasing}
use Rattle.std.proofs.lemmas.Map.{Made.IsDistinct-from_AllPairs, Steps.length-le_from_distinct_below}
use Rattle.std.proofs.lemmas.Option.{get_or_from_slice_get, slice_get-get_or, slice_get_within}
use Rattle.std.specs.List.{list_any, Sorted.IsStrictlyIncreasing}
use Rattle.list_laws.proofs.Places.{at_front, seam_at}
use Rattle.image_defs.proofs.lemmas.PlaceLemmas.{at_map, rises}
use Rattle.image_defs.specs.{Places.IsPort, Places.out_slots, WellFormed.IsLinkIn, WellFormed.IsWellFormed, declared.image.Image.Image}
use Rattle.image_defs.specs.declared.image.{LinkIn.LinkIn, LinkOut.LinkOut, PortImage.PortImage}
use Rattle.event_defs.proofs.lemmas.{PaceLemmas.same_port, PaceLemmas.source, RowLemmas.sends_are, RowLemmas.sum_small, SlotLemmas.any_at, SlotLemmas.to_map}
use Rattle.event_defs.specs.{Counts.of_port, Counts.sum_to, Row.sends_before, Row.sends_of, Sources.AreFirsts, Sources.AreSources, Sources.IsSource}
use Rattle.event_defs.specs.code.Sources.{CountsSends, IsLinkAt, StandsBetween}

-- a member that was read within the list
pub entry_there : {X : Type 0} (xs : List X) (i : ℕ) (read : X) → i < length xs → read ≡ slice_index_or xs i read → slice_get xs i ≡ Some read
entry_there xs i read inside is = slice_get-get_or xs i read inside ∙ ap Some (sym is)

-- ---- links by their slots

module _ (outs : List LinkOut) (up : IsStrictlyIncreasing (out_slots outs)) (slot : ℕ) where
  slot_at : (i : ℕ) (link : LinkOut) → slice_get outs i ≡ Some link → slice_get (out_slots outs) i ≡ Some link.slot
  slot_at i link at = to_map (λ (l : LinkOut). l.slot) outs i link at

  pub between_all : (i : ℕ) → IsLinkAt outs slot i → StandsBetween outs slot 0 (length outs)
  between_all i there = record {
    order = let low = slice_get_within outs i there.link there.is in omega arith;
    within = omega arith;
    each = λ j link at same. (omega arith, slice_get_within outs j link at);
  }

  module _ (low high middle : ℕ) (link : LinkOut) (at : slice_get outs middle ≡ Some link) (more : low < middle) (less : middle < high) (between : StandsBetween outs slot low high) where
    pub between_upper : link.slot ≤ slot → StandsBetween outs slot middle high
    between_upper before = record {
      order = less;
      within = between.within;
      each = λ i other at_i same. (
        elim (cases_lt i middle) [
          | inr after ↦ after
          | inl earlier ↦ let rise = rises (out_slots outs) up i middle other.slot link.slot earlier (slot_at i other at_i) (slot_at middle link at) in absurd (omega arith)
        ],
        (between.each i other at_i same).1,
      );
    }

    pub between_lower : slot < link.slot → StandsBetween outs slot low middle
    between_lower after = record {
      order = more;
      within = let all = between.within in omega arith;
      each = λ i other at_i same. (
        (between.each i other at_i same).0,
        elim (cases_order i middle) [
          | inl equal ↦
              let twice : Some other ≡ Some link = sym at_i ∙ (ap (slice_get outs) equal ∙ at) in
              let slots : other.slot ≡ link.slot = cc in
              absurd (omega arith)
          | inr h ↦ elim h [
            | inl earlier ↦ earlier
            | inr later ↦ let rise = rises (out_slots outs) up middle i link.slot other.slot later (slot_at middle link at) (slot_at i other at_i) in absurd (omega arith)
          ]
        ],
      );
    }

  pub between_one : (low high : ℕ) → high ≤ low + 1 → StandsBetween outs slot low high → (i : ℕ) → IsLinkAt outs slot i → IsLinkAt outs slot low
  between_one low high near between i there =
      let in_between = between.each i there.link there.is there.slot_is in
      let least = in_between.0 in
      let most = in_between.1 in
      let same : i ≡ low = omega arith in
      subst (IsLinkAt outs slot) same there

-- ---- sends are few

module _ (image : Image) (fits : IsWellFormed image) where
  pub outs_few : (p : ℕ) (port : PortImage) → IsPort image p port → length port.outs ≤ 65536
  outs_few p port is =
      let port_fits = fits.ports p port is in
      let slots = out_slots port.outs in
      let long : length (out_slots port.outs) ≡ length port.outs = length-map port.outs (λ (l : LinkOut). l.slot) in
      let differ = IsDistinct-from_AllPairs Decides-eqb (out_slots port.outs) (λ i j d before within same. let rise = AllPairs-from_increasing (out_slots port.outs) port_fits.outs i j d before within in absurd (omega arith)) in
      let few = length-le_from_distinct_below (out_slots port.outs) image.slots differ (λ q found. low p port is q found) in
      let most = fits.slots in
      omega arith
    where
      low : (p : ℕ) (port : PortImage) → IsPort image p port → (q : ℕ) → list_any (eqb q) (out_slots port.outs) ≡ true → q < image.slots
      low p port is q found =
          let at = any_at (eqb q) (out_slots port.outs) found in
          let link = at_map (λ (l : LinkOut). l.slot) port.outs at.0 at.1 at.2 in
          let item = ((fits.ports p port is).sends at.0 link.0 link.1).item in
          let below = (fits.ports p port is).item_slots_within item.0 link.0.slot item.1 in
          let same : q ≡ at.1 = eqb-true q at.1 at.3 in
          let slot_is = link.2 in
          omega arith

  pub sends_few : (p : ℕ) → sends_of image p ≤ 65536
  sends_few p = by_port (slice_get image.ports p) refl where
    by_port : (o : Option PortImage) → slice_get image.ports p ≡ o → of_port (λ port. length port.outs) o ≤ 65536
    by_port None is = omega arith
    by_port (Some port) is = outs_few p port is

  pub before_few : (p : ℕ) → sends_before image p ≤ p * 65536
  before_few p = sum_small p 65536 (sends_of image) (λ q less. sends_few q)

  pub before_more : (p : ℕ) (port : PortImage) → IsPort image p port → sends_before image (p + 1) ≡ sends_before image p + length port.outs
  unfolding sum_to
  before_more p port is = rw (add-one p) (ap (λ n. sum_to p (sends_of image) + n) (sends_are image p port is))

  -- ---- the first sends of ports

  pub counted_none : CountsSends image 0 0 (0 ∷ [])
  unfolding sum_to
  counted_none = record {
    firsts_are = record { long = refl; each = λ p low. let none : p ≡ 0 = omega arith in subst (λ q. slice_get (0 ∷ []) q ≡ Some (sends_before image q)) (sym none) refl };
    sends_are = refl;
  }

  pub counted_more : (p sends more : ℕ) (port : PortImage) (firsts next : List ℕ) → IsPort image p port → more ≡ length port.outs → CountsSends image p sends firsts → next ≡ firsts ++ (sends + more) ∷ [] → CountsSends image (p + 1) (sends + more) next
  counted_more p sends more port firsts next is count counts pushed =
      let now : sends + more ≡ sends_before image (p + 1) = ap₂ (λ x y. x + y) counts.sends_are count ∙ sym (before_more p port is) in
      let were = counts.firsts_are in
      let long : length next ≡ p + 1 + 1 = ap length pushed ∙ (length_push firsts (sends + more) ∙ (let e = were.long in omega arith)) in
      record {
        firsts_are = record {
          long = long;
          each = λ q low. elim (cases_lt q (p + 1)) [
            | inl before ↦ ap (λ xs. slice_get xs q) pushed ∙ (at_front firsts ((sends + more) ∷ []) q (let e = were.long in omega arith) ∙ were.each q before)
            | inr last ↦
                let e = were.long in
                let same : q ≡ length firsts = omega arith in
                let here : q ≡ p + 1 = omega arith in
                ap (λ xs. slice_get xs q) pushed ∙ (ap (λ k. slice_get (firsts ++ (sends + more) ∷ []) k) same ∙ (seam_at firsts (sends + more) [] ∙ ap Some (now ∙ ap (sends_before image) (sym here))))
          ];
        };
        sends_are = now;
      }

  -- ---- sources

  module _ (link : LinkIn) (there : (p : ℕ) × IsLinkIn image p link) (firsts : List ℕ) (firsts_are : AreFirsts image (length image.ports + 1) firsts)
      (ports : List PortImage) (ports_are : ports ≡ image.ports) (read : PortImage) (outs : List LinkOut) (outs_are : outs ≡ (slice_index_or ports link.sender read).outs) where
    sender_low : link.sender < length image.ports
    sender_low = slice_get_within image.ports link.sender there.1.sender there.1.is

    pub sender_outs : outs ≡ there.1.sender.outs
    sender_outs = outs_are ∙ ap (λ (port : PortImage). port.outs) (get_or_from_slice_get ports link.sender there.1.sender read (ap (λ xs. slice_get xs link.sender) ports_are ∙ there.1.is))

    first_is : slice_index_or firsts link.sender 0 ≡ sends_before image link.sender
    first_is = get_or_from_slice_get firsts link.sender (sends_before image link.sender) 0 (firsts_are.each link.sender (let low = sender_low in omega arith))

    module _ (n : ℕ) (found : IsLinkAt outs link.slot n) where
      number_low : n < length there.1.sender.outs
      number_low = subst (λ xs. n < length xs) sender_outs (slice_get_within outs n found.link found.is)

      pub number_small : n < 65536
      number_small = let few = outs_few link.sender there.1.sender there.1.is in let low = number_low in omega arith

      pub source_small : slice_index_or firsts link.sender 0 + n < 2 ^ 32
      source_small =
          let few = before_few link.sender in
          let is = first_is in
          let low = sender_low in
          let most = fits.most_ports in
          let small = number_small in
          omega arith

      pub source_made : IsSource image link (slice_index_or firsts link.sender 0 + n)
      source_made = record {
        i = n;
        sent = found.link;
        send = record { port = there.1.sender; is = there.1.is; link_is = subst (λ xs. slice_get xs n ≡ Some found.link) sender_outs found.is };
        same_slot = found.slot_is;
        number = ap (λ first. first + n) first_is;
      }

  -- one more source
  pub sources_more : (ins : List LinkIn) (j s : ℕ) (link : LinkIn) (sources next : List ℕ) → slice_get ins j ≡ Some link → IsSource image link s → AreSources image ins j sources → next ≡ sources ++ s ∷ [] → AreSources image ins (j + 1) next
  sources_more ins j s link sources next at source are pushed = record {
    long = ap length pushed ∙ (length_push sources s ∙ (let e = are.long in omega arith));
    each = λ k other low at_k. elim (cases_lt k j) [
      | inl before ↦
          let found = are.each k other before at_k in
          (found.0, ap (λ xs. slice_get xs k) pushed ∙ (at_front sources (s ∷ []) k (let e = are.long in omega arith) ∙ found.1), found.2)
      | inr last ↦
          let e = are.long in
          let same : k ≡ j = omega arith in
          let place : k ≡ length sources = omega arith in
          let twice : Some link ≡ Some other = sym at ∙ (ap (slice_get ins) (sym same) ∙ at_k) in
          let link_is : link ≡ other = cc in
          (s, ap (λ xs. slice_get xs k) pushed ∙ (ap (λ i. slice_get (sources ++ s ∷ []) i) place ∙ seam_at sources s []), subst (λ (l : LinkIn). IsSource image l s) link_is source)
    ];
  }

  -- ---- the links in of a port

  module _ (ports : List PortImage) (ports_are : ports ≡ image.ports) (p : ℕ) (low : p < length image.ports) (read : PortImage) (is : read ≡ slice_index_or ports p read)
      (ins : List LinkIn) (ins_are : ins ≡ (slice_index_or ports p read).ins) where
    port_read : IsPort image p read
    port_read = ap (λ xs. slice_get xs p) (sym ports_are) ∙ entry_there ports p read (let long = ap length ports_are in omega arith) is

    ins_read : ins ≡ read.ins
    ins_read = ins_are ∙ ap (λ (port : PortImage). port.ins) (sym is)

    pub link_in : (j : ℕ) (d : LinkIn) → j < length ins → (q : ℕ) × IsLinkIn image q (slice_index_or ins j d)
    link_in j d within = (p, (fits.ports p read port_read).receives j (slice_index_or ins j d) (subst (λ xs. slice_get xs j ≡ Some (slice_index_or ins j d)) ins_read (slice_get-get_or ins j d within)))

    pub ins_of : (port : PortImage) → IsPort image p port → ins ≡ port.ins
    ins_of port is_port = ins_read ∙ ap (λ (s : PortImage). s.ins) (same_port image p read port port_read is_port)
