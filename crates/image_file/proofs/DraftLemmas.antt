-- What a line adds to a text so far, a port and then the whole.
use Rattle.std.proofs.Common.{◌≡◌, ℕ, ◌+◌, ◌≤◌, ◌<◌, ◌==◌, ◌-◌, ◌&&◌, Bool, true, List, [], ◌∷◌, ◌++◌, length, map, refl, sym, ap, ◌∙◌, arith, cond, append-nil, append_assoc, length-append}
use Rattle.std.proofs.lemmas.{List.Sums.sum_by-append, Bool.and_parts}
use Rattle.std.specs.List.{count_by}
use Rattle.limits.specs.declared.TheConstants.{MAX_FUNCTIONS, MAX_ARRAY_BITS, MAX_ARRAY}
use Rattle.image_defs.specs.{declared.image.Work.Work, declared.image.Work.TheVariants.Logic, declared.image.PortImage.PortImage, Places.item_slots}
use Rattle.image_defs.specs.declared.file.PortClaims.{PortClaims}
use Rattle.image_lines.specs.{declared.line.PortKind.PortKind, declared.line.Sizes.Sizes, declared.line.Line.Line, Forms.is_within}
use Rattle.image_lines.specs.declared.line.PortKind.TheVariants as kinds
use Rattle.image_lines.specs.declared.line.Line.TheVariants as line
use Rattle.image_file.specs.declared.draft.Draft.TheVariants.{Blank, Titled, Sized, Within, Ended}
use Rattle.image_file.specs.Files.{work_lines, port_lines, all_port_lines, kind_of, file_lines, sizes_of}
use Rattle.image_file.specs.Drafts.{work_allows, port_allows, body_allows, may_stand, work_holds, body_holds, has_room, array_count, work_with, items_with, bits_with, open_with, body_with, draft_with, opened, work_begun, ports_of, claims_of, file_of}
use Rattle.image_file.specs.declared.draft.{OpenPort.OpenPort, Body.Body, Draft.Draft}
use Rattle.image_file.specs.Ranges.{is_array, tables_of, bits_of}
use Rattle.image_file.proofs.WorkLemmas.{nil_of, pushed, ports_more, IsHeld, work_step}

-- ---- a port

pub record PortStep (before after : OpenPort) (said : Line) : Type 0 where
  pub lines : port_lines after.port after.items ≡ port_lines before.port before.items ++ said ∷ []
  pub held : IsHeld after.port.work after.items after.bits
  pub kind : kind_of after.port.work ≡ kind_of before.port.work

second : (a b : List Line) (x : Line) → a ++ (b ++ x ∷ []) ++ [] ≡ a ++ b ++ [] ++ x ∷ []
second a b x =
    append-nil (a ++ (b ++ x ∷ [])) ∙ sym (append_assoc a b (x ∷ [])) ∙ ap (λ (ls : List Line). ls ++ x ∷ []) (sym (append-nil (a ++ b)))

bare : (a : List Line) → a ++ [] ++ [] ≡ a
bare a = append-nil (a ++ []) ∙ append-nil a

by_work : (o : OpenPort) (said : Line) → IsHeld o.port.work o.items o.bits
    → (length o.port.ins == 0 && length o.port.outs == 0 && work_allows o.port.work said) ≡ true → work_holds o.port.work o.bits said ≡ true
    → PortStep o (record { port = record o.port { work = work_with o.port.work said }; items = items_with o.items said; bits = bits_with o.bits said }) said
by_work o said held may room =
    let all = and_parts (length o.port.ins == 0 && length o.port.outs == 0) (work_allows o.port.work said) may in
    let links = and_parts (length o.port.ins == 0) (length o.port.outs == 0) all.0 in
    let step = work_step o.port.work o.items o.bits said held all.1 room in
    let no_ins = nil_of o.port.ins links.0 in
    let no_outs = nil_of o.port.outs links.1 in record {
      lines =
          rw (no_ins, no_outs, step.kind, step.lines)
          (ap (λ (ls : List Line). line.Port (kind_of o.port.work) ∷ ls)
          (bare (work_lines o.port.work o.items ++ said ∷ []) ∙ ap (λ (ls : List Line). ls ++ said ∷ []) (sym (bare (work_lines o.port.work o.items)))));
      held = step.held;
      kind = step.kind;
    }

pub port_step : (o : OpenPort) (said : Line) → IsHeld o.port.work o.items o.bits → port_allows o.port said ≡ true → work_holds o.port.work o.bits said ≡ true
    → PortStep o (open_with o said) said
port_step o (line.Send link) held may room =
    let none = nil_of o.port.ins may in record {
      lines =
          rw none
          (ap (λ (ls : List Line). line.Port (kind_of o.port.work) ∷ (work_lines o.port.work o.items ++ ls ++ [])) (pushed line.Send o.port.outs link)
          ∙ ap (λ (ls : List Line). line.Port (kind_of o.port.work) ∷ ls) (second (work_lines o.port.work o.items) (map line.Send o.port.outs) (line.Send link)));
      held = held;
      kind = refl;
    }
port_step o (line.Take link) held may room = record {
  lines =
      ap (λ (ls : List Line). line.Port (kind_of o.port.work) ∷ work_lines o.port.work o.items ++ map line.Send o.port.outs ++ ls) (pushed line.Take o.port.ins link)
      ∙ ap (λ (ls : List Line). line.Port (kind_of o.port.work) ∷ ls) (sym (append_assoc (work_lines o.port.work o.items ++ map line.Send o.port.outs) (map line.Take o.port.ins) (line.Take link ∷ [])));
  held = held;
  kind = refl;
}
port_step o said held may room = by_work o said held may room

-- ---- the whole

-- a port that has been read to its end
pub record IsClosed (port : PortImage) (claims : PortClaims) : Type 0 where
  pub items : length claims.items ≡ length (item_slots port.work)
  pub tables : length (tables_of port.work) ≤ MAX_FUNCTIONS
  pub bits : bits_of port.work ≤ MAX_ARRAY_BITS

abbrev pub AreClosed : List PortImage → List PortClaims → Type 0
AreClosed [] [] = Unit {0}
AreClosed [] (claim ∷ claims) = ⊥
AreClosed (port ∷ ports) [] = ⊥
AreClosed (port ∷ ports) (claim ∷ claims) = IsClosed port claim × AreClosed ports claims

pub closed_lengths : (ports : List PortImage) (claims : List PortClaims) → AreClosed ports claims → length claims ≡ length ports
closed_lengths [] [] closed = refl
closed_lengths [] (claim ∷ claims) closed = absurd closed
closed_lengths (port ∷ ports) [] closed = absurd closed
closed_lengths (port ∷ ports) (claim ∷ claims) closed = omega (arith, closed_lengths ports claims closed.1)

closed_more : (ports : List PortImage) (claims : List PortClaims) (port : PortImage) (claim : PortClaims) → AreClosed ports claims → IsClosed port claim
    → AreClosed (ports ++ port ∷ []) (claims ++ claim ∷ [])
closed_more [] [] port claim closed own = (own, tt)
closed_more [] (other ∷ claims) port claim closed own = absurd closed
closed_more (other ∷ ports) [] port claim closed own = absurd closed
closed_more (first ∷ ports) (other ∷ claims) port claim closed own = (closed.0, closed_more ports claims port claim closed.1 own)

abbrev pub arrays_in : List PortImage → ℕ
arrays_in ports = count_by (λ port. is_array port.work) ports

pub arrays_more : (ports : List PortImage) (port : PortImage) → arrays_in (ports ++ port ∷ []) ≡ arrays_in ports + arrays_in (port ∷ [])
arrays_more ports port = sum_by-append (λ (p : PortImage). cond (is_array p.work) 1 0) ports (port ∷ [])

pub record IsGoodBody (body : Body) : Type 0 where
  pub closed : AreClosed body.ports body.claims
  pub current : IsHeld body.current.port.work body.current.items body.current.bits
  pub arrays : array_count body ≤ MAX_ARRAY
  pub some_ports : 1 ≤ body.sizes.ports

-- what is known of a text so far, beside its lines
abbrev pub IsGood : Draft → Type 0
IsGood Blank = Unit {0}
IsGood Titled = Unit {0}
IsGood (Sized sizes) = 1 ≤ sizes.ports
IsGood (Within body) = IsGoodBody body
IsGood (Ended file) = AreClosed file.image.ports file.claims.ports × (arrays_in file.image.ports ≤ MAX_ARRAY)

-- the lines of a text so far
abbrev pub draft_lines : Draft → List Line
draft_lines Blank = []
draft_lines Titled = line.Version ∷ []
draft_lines (Sized sizes) = line.Version ∷ line.Head sizes ∷ []
draft_lines (Within body) =
    line.Version ∷ line.Head body.sizes ∷ all_port_lines body.ports body.claims ++ port_lines body.current.port body.current.items
draft_lines (Ended file) = file_lines file

pub record DraftStep (draft after : Draft) (said : Line) : Type 0 where
  pub lines : draft_lines after ≡ draft_lines draft ++ said ∷ []
  pub good : IsGood after

opened_lines : (kind : PortKind) → port_lines (opened kind).port (opened kind).items ≡ line.Port kind ∷ []
opened_lines kinds.Logic = refl
opened_lines other = refl

opened_held : (kind : PortKind) → IsHeld (opened kind).port.work (opened kind).items (opened kind).bits
opened_held kinds.Logic = record { claims = refl; bits_are = refl; few_bits = omega arith; few_tables = omega arith }
opened_held other = record { claims = refl; bits_are = refl; few_bits = omega arith; few_tables = omega arith }

-- the port that is being read has all its lines
all_closed : (body : Body) → IsGoodBody body → AreClosed (ports_of body) (claims_of body)
all_closed body good =
    closed_more body.ports body.claims body.current.port (record { items = body.current.items }) good.closed
    (record { items = good.current.claims; tables = good.current.few_tables; bits = rw (sym good.current.bits_are) good.current.few_bits })

all_lines : (body : Body) → IsGoodBody body → all_port_lines (ports_of body) (claims_of body) ≡ all_port_lines body.ports body.claims ++ port_lines body.current.port body.current.items
all_lines body good = ports_more body.ports body.claims body.current.port (record { items = body.current.items }) (closed_lengths body.ports body.claims good.closed)

-- the head of a port leaves room for it
opened_arrays : (ports : List PortImage) (kind : PortKind) → arrays_in ports ≤ MAX_ARRAY → (kind ≡ kinds.Array → arrays_in ports < MAX_ARRAY)
    → arrays_in (ports ++ (opened kind).port ∷ []) ≤ MAX_ARRAY
opened_arrays ports kinds.Logic few room = omega (arith, few, arrays_more ports (opened kinds.Logic).port)
opened_arrays ports kinds.Array few room = omega (arith, room refl, arrays_more ports (opened kinds.Array).port)
opened_arrays ports kinds.Host few room = omega (arith, few, arrays_more ports (opened kinds.Host).port)

room_for : (body : Body) (kind : PortKind) → body_holds body (line.Port kind) ≡ true → kind ≡ kinds.Array → arrays_in (ports_of body) < MAX_ARRAY
room_for body kinds.Logic room is = cc
room_for body kinds.Array room is = grind (arith, room)
room_for body kinds.Host room is = cc

next_port : (body : Body) (kind : PortKind) → IsGoodBody body → body_holds body (line.Port kind) ≡ true → DraftStep (Within body) (body_with body (line.Port kind)) (line.Port kind)
next_port body kind good room = record {
  lines =
      ap (λ (ls : List Line). line.Version ∷ line.Head body.sizes ∷ ls)
      (ap (λ (ls : List Line). all_port_lines (ports_of body) (claims_of body) ++ ls) (opened_lines kind)
      ∙ ap (λ (ls : List Line). ls ++ line.Port kind ∷ []) (all_lines body good));
  good = record {
    closed = all_closed body good;
    current = opened_held kind;
    arrays = opened_arrays (ports_of body) kind good.arrays (room_for body kind room);
    some_ports = good.some_ports;
  };
}

same_sizes : (body : Body) → IsGoodBody body → body_allows body line.End ≡ true → sizes_of (file_of body).image ≡ body.sizes
same_sizes body good may =
    let last : length body.ports ≡ body.sizes.ports - 1 = grind (arith, may) in
    let many : length (ports_of body) ≡ body.sizes.ports = omega (arith, last, length-append body.ports (body.current.port ∷ []), good.some_ports) in
    ap (λ (n : ℕ). record body.sizes { ports = n }) many

ended : (body : Body) → IsGoodBody body → body_allows body line.End ≡ true → DraftStep (Within body) (body_with body line.End) line.End
ended body good may = record {
  lines =
      rw (same_sizes body good may, all_lines body good) refl;
  good = (all_closed body good, good.arrays);
}

array_kind : (work : Work) → is_array work ≡ is_array (work_begun (kind_of work))
array_kind (Logic tables tasks) = refl
array_kind other = refl

same_port : (body : Body) (after : OpenPort) (said : Line) → IsGoodBody body → PortStep body.current after said
    → DraftStep (Within body) (Within (record body { current = after })) said
same_port body after said good step = record {
  lines =
      ap (λ (ls : List Line). line.Version ∷ line.Head body.sizes ∷ ls)
      (ap (λ (ls : List Line). all_port_lines body.ports body.claims ++ ls) step.lines
      ∙ sym (append_assoc (all_port_lines body.ports body.claims) (port_lines body.current.port body.current.items) (said ∷ [])));
  good = record {
    closed = good.closed;
    current = step.held;
    arrays =
        let same : is_array after.port.work ≡ is_array body.current.port.work = array_kind after.port.work ∙ ap (λ k. is_array (work_begun k)) step.kind ∙ sym (array_kind body.current.port.work) in
        let one : arrays_in (after.port ∷ []) ≡ arrays_in (body.current.port ∷ []) = ap (λ (b : Bool). 0 + cond {A = ℕ} b 1 0) same in
        omega (arith, good.arrays, arrays_more body.ports after.port, arrays_more body.ports body.current.port, one);
    some_ports = good.some_ports;
  };
}

body_step : (body : Body) (said : Line) → IsGoodBody body → body_allows body said ≡ true → body_holds body said ≡ true → DraftStep (Within body) (body_with body said) said
body_step body (line.Port kind) good may room = next_port body kind good room
body_step body line.End good may room = ended body good may
body_step body said good may room = same_port body (open_with body.current said) said good (port_step body.current said good.current may room)

some_ports : (sizes : Sizes) → is_within (line.Head sizes) ≡ true → 1 ≤ sizes.ports
some_ports sizes within = grind (arith, within)

pub draft_step : (draft : Draft) (said : Line) → IsGood draft → is_within said ≡ true → may_stand draft said ≡ true → has_room draft said ≡ true
    → DraftStep draft (draft_with draft said) said
draft_step Blank line.Version good within may room = record { lines = refl; good = tt }
draft_step Blank said good within may room = cc
draft_step Titled (line.Head sizes) good within may room = record { lines = refl; good = some_ports sizes within }
draft_step Titled said good within may room = cc
draft_step (Sized own) (line.Port kind) good within may room = record {
  lines = ap (λ (ls : List Line). line.Version ∷ line.Head own ∷ ls) (opened_lines kind);
  good = record {
    closed = tt;
    current = opened_held kind;
    arrays = opened_arrays [] kind (omega arith) (λ is. omega arith);
    some_ports = good;
  };
}
draft_step (Sized own) said good within may room = cc
draft_step (Within body) said good within may room = body_step body said good may room
draft_step (Ended file) said good within may room = cc
