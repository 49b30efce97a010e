-- The links of a port, made one by one.
use Rattle.std.proofs.Common.{List, Some, [], ap, ap₂, arith, inl, inr, length, slice_get, slice_index_or, subst, sym, ℕ, ◌*◌, ◌++◌, ◌+◌, ◌<◌, ◌^◌, ◌∙◌, ◌∷◌, ◌≡◌}
use Rattle.std.proofs.lemmas.{Bool.cases_lt, List.length_push, Option.get_or_from_slice_get, Option.slice_get_within}
use Rattle.list_laws.proofs.Places.{at_front, seam_at}
use Rattle.image_defs.specs.{Places.IsPort, WellFormed.IsWellFormed, declared.image.Image.Image, declared.image.LinkIn.LinkIn, declared.image.LinkOut.LinkOut}
use Rattle.image_defs.specs.declared.image.PortImage.{PortImage}
use Rattle.event_defs.proofs.lemmas.{PaceLemmas.same_port, RowLemmas.number_within, RowLemmas.send_within}
use Rattle.event_defs.proofs.SourceLemmas.{before_few, entry_there, outs_few}
use Rattle.event_defs.specs.{Row.sends_before, Sources.AreFirsts, Sources.IsSource}
use Rattle.slot_words.specs.{declared.links.Link.Link, Layout.send_word, Links.AreReceiptLinks, Links.AreSendLinks, Links.IsSourceWord}

-- where a list that is one longer has its old members and the new one
longer : (links next : List Link) (one : Link) (n k : ℕ) → length links ≡ n → next ≡ links ++ one ∷ [] → k < n → slice_get next k ≡ slice_get links k
longer links next one n k long pushed low = ap (λ xs. slice_get xs k) pushed ∙ at_front links (one ∷ []) k (omega arith)

newest : (links next : List Link) (one : Link) (n k : ℕ) → length links ≡ n → next ≡ links ++ one ∷ [] → k ≡ n → slice_get next k ≡ Some one
newest links next one n k long pushed here =
    let at : k ≡ length links = here ∙ sym long in
    ap (λ xs. slice_get xs k) pushed ∙ (ap (λ i. slice_get (links ++ one ∷ []) i) at ∙ seam_at links one [])

grown : (links next : List Link) (one : Link) (n : ℕ) → length links ≡ n → next ≡ links ++ one ∷ [] → length next ≡ n + 1
grown links next one n long pushed = ap length pushed ∙ (length_push links one ∙ omega arith)

module _ (image : Image) (banks : ℕ) where
  pub sends_more : (p : ℕ) (outs : List LinkOut) (i word : ℕ) (link : LinkOut) (links next : List Link) → slice_get outs i ≡ Some link → word ≡ send_word image banks p i 0
      → AreSendLinks image banks p outs i links → next ≡ links ++ record { slot = link.slot; word = word } ∷ [] → AreSendLinks image banks p outs (i + 1) next
  sends_more p outs i word link links next at word_is are pushed = record {
    long = grown links next (record { slot = link.slot; word = word }) i are.long pushed;
    each = λ k other low at_k. elim (cases_lt k i) [
      | inl before ↦ longer links next (record { slot = link.slot; word = word }) i k are.long pushed before ∙ are.each k other before at_k
      | inr last ↦
          let here : k ≡ i = omega arith in
          let twice : Some link ≡ Some other = sym at ∙ (ap (slice_get outs) (sym here) ∙ at_k) in
          let link_is : link ≡ other = cc in
          newest links next (record { slot = link.slot; word = word }) i k are.long pushed here
          ∙ ap₂ (λ s w. Some (record { slot = s; word = w })) (ap (λ (l : LinkOut). l.slot) link_is) (word_is ∙ ap (λ n. send_word image banks p n 0) (sym here))
    ];
  }

  pub receipts_more : (ins : List LinkIn) (j word : ℕ) (link : LinkIn) (links next : List Link) → slice_get ins j ≡ Some link → IsSourceWord image banks link word
      → AreReceiptLinks image banks ins j links → next ≡ links ++ record { slot = link.slot; word = word } ∷ [] → AreReceiptLinks image banks ins (j + 1) next
  receipts_more ins j word link links next at source are pushed = record {
    long = grown links next (record { slot = link.slot; word = word }) j are.long pushed;
    each = λ k other low at_k. elim (cases_lt k j) [
      | inl before ↦
          let was = are.each k other before at_k in
          (was.0, longer links next (record { slot = link.slot; word = word }) j k are.long pushed before ∙ was.1, was.2)
      | inr last ↦
          let here : k ≡ j = omega arith in
          let twice : Some link ≡ Some other = sym at ∙ (ap (slice_get ins) (sym here) ∙ at_k) in
          let link_is : link ≡ other = cc in (
            word,
            newest links next (record { slot = link.slot; word = word }) j k are.long pushed here ∙ ap (λ (l : LinkIn). Some (record { slot = l.slot; word = word })) link_is,
            subst (λ (l : LinkIn). IsSourceWord image banks l word) link_is source,
          )
    ];
  }

  -- the word by the number of the send
  pub source_word : (link : LinkIn) (n word ports : ℕ) → IsSource image link n → ports ≡ length image.ports → word ≡ ports + n * banks → IsSourceWord image banks link word
  source_word link n word ports source ports_are word_is = record {
    i = source.i;
    sent = source.sent;
    send = source.send;
    same_slot = source.same_slot;
    is =
        let row : ℕ = n * banks in
        let zero_more : ports + row ≡ length image.ports + (row + 0) = omega arith in
        word_is ∙ (zero_more ∙ ap (λ m. length image.ports + (m * banks + 0)) source.number);
  }

module _ (image : Image) (fits : IsWellFormed image) where
  pub source_small : (link : LinkIn) (n : ℕ) → IsSource image link n → n < 2 ^ 25
  source_small link n source =
      let is = source.number in
      let low = number_within image link.sender source.i (slice_get_within image.ports link.sender source.send.port source.send.is) (send_within image link.sender source.i source.sent source.send) in
      let few = before_few image fits (length image.ports) in
      let most = fits.most_ports in
      omega arith

  -- a port that was read
  module _ (ports : List PortImage) (ports_are : ports ≡ image.ports) (p : ℕ) (low : p < length image.ports) (read : PortImage) (is : read ≡ slice_index_or ports p read) where
    pub port_read : IsPort image p read
    port_read = ap (λ xs. slice_get xs p) (sym ports_are) ∙ entry_there ports p read (let long = ap length ports_are in omega arith) is

    pub outs_of : (outs : List LinkOut) → outs ≡ (slice_index_or ports p read).outs → (port : PortImage) → IsPort image p port → outs ≡ port.outs
    outs_of outs outs_are port is_port = outs_are ∙ (ap (λ (s : PortImage). s.outs) (sym is) ∙ ap (λ (s : PortImage). s.outs) (same_port image p read port port_read is_port))

    module _ (outs : List LinkOut) (outs_are : outs ≡ (slice_index_or ports p read).outs) (firsts : List ℕ) (firsts_are : AreFirsts image (length image.ports + 1) firsts) (i : ℕ) (i_low : i < length outs) where
      first_is : slice_index_or firsts p 0 ≡ sends_before image p
      first_is = get_or_from_slice_get firsts p (sends_before image p) 0 (firsts_are.each p (omega arith))

      pub send_low : i < 65536
      send_low =
          let few = outs_few image fits p read port_read in
          let long = ap length (outs_of outs outs_are read port_read) in
          omega arith

      pub send_small : slice_index_or firsts p 0 + i < 2 ^ 25
      send_small =
          let few = before_few image fits p in
          let first = first_is in
          let less = send_low in
          let most = fits.most_ports in
          omega arith

      pub word_made : (banks word count : ℕ) → count ≡ length ports → word ≡ count + (slice_index_or firsts p 0 + i) * banks → word ≡ send_word image banks p i 0
      word_made banks word count count_is word_is =
          let row : ℕ = (slice_index_or firsts p 0 + i) * banks in
          let long = ap length ports_are in
          let zero_more : count + row ≡ length image.ports + (row + 0) = omega arith in
          word_is ∙ (zero_more ∙ ap (λ n. length image.ports + ((n + i) * banks + 0)) first_is)
