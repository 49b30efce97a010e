-- An image text as far as it has been read: which lines may stand there, which of them are within the
-- limits, and what each adds.
use Rattle.std.specs.Prelude.{ℕ, ◌+◌, ◌-◌, ◌==◌, ◌&&◌, Bool, true, false, List, [], ◌∷◌, ◌++◌, length, nat_lt, nat_le}
use Rattle.std.specs.List.{count_by}
use Rattle.limits.specs.declared.TheConstants.{MAX_ARRAY, MAX_FUNCTIONS, MAX_ARRAY_BITS}
use Rattle.image_defs.specs.declared.image.{Work.Work, Work.TheVariants.Logic, Work.TheVariants.Array, Work.TheVariants.Host, PortImage.PortImage}
use Rattle.image_defs.specs.declared.file.{PortClaims.PortClaims, ImageFile.ImageFile}
use Rattle.image_lines.specs.declared.line.{PortKind.PortKind, Line.Line}
use Rattle.image_lines.specs.declared.line.PortKind.TheVariants as kinds
use Rattle.image_lines.specs.declared.line.Line.TheVariants as line
use Rattle.image_file.specs.declared.draft.Draft.TheVariants.{Blank, Titled, Sized, Within, Ended}
use Rattle.image_file.specs.declared.draft.{OpenPort.OpenPort, Body.Body, Draft.Draft}
use Rattle.image_file.specs.Ranges.{is_array_port, tables_of, block_bits}

-- ---- which lines may stand there

-- what a port does: its tables before its tasks, its memories before its output bits, its inputs before
-- what it prints
abbrev pub work_allows : Work → Line → Bool
work_allows (Logic tables tasks) (line.Table table) = length tasks == 0
work_allows (Logic tables tasks) (line.Work task item) = true
work_allows (Array blocks outs) (line.Block block) = length outs == 0
work_allows (Array blocks outs) (line.Bit bit item) = true
work_allows (Host inputs printed) (line.Input input item) = length printed == 0
work_allows (Host inputs printed) (line.Print source) = true
work_allows work other = false

-- what a port does stands before what it sends, and that before what it receives
abbrev pub port_allows : PortImage → Line → Bool
port_allows port (line.Take link) = true
port_allows port (line.Send link) = length port.ins == 0
port_allows port other = length port.ins == 0 && length port.outs == 0 && work_allows port.work other

-- a port follows where not as many have come as were announced, and the end where they have
abbrev pub body_allows : Body → Line → Bool
body_allows body (line.Port kind) = nat_lt (length body.ports) (body.sizes.ports - 1)
body_allows body line.End = length body.ports == body.sizes.ports - 1
body_allows body other = port_allows body.current.port other

abbrev pub may_stand : Draft → Line → Bool
may_stand Blank line.Version = true
may_stand Titled (line.Head sizes) = true
may_stand (Sized sizes) (line.Port kind) = true
may_stand (Within body) other = body_allows body other
may_stand draft other = false

-- ---- which lines are within the limits

-- the ports so far, with the one whose lines are being read
abbrev pub ports_of : Body → List PortImage
ports_of body = body.ports ++ body.current.port ∷ []

abbrev pub array_count : Body → ℕ
array_count body = count_by is_array_port (ports_of body)

abbrev pub work_holds : Work → ℕ → Line → Bool
work_holds work bits (line.Table table) = nat_lt (length (tables_of work)) MAX_FUNCTIONS
work_holds work bits (line.Block block) = nat_le (bits + block_bits block) MAX_ARRAY_BITS
work_holds work bits other = true

abbrev pub body_holds : Body → Line → Bool
body_holds body (line.Port kinds.Array) = nat_lt (array_count body) MAX_ARRAY
body_holds body other = work_holds body.current.port.work body.current.bits other

-- whether the limits on array ports, on the tables of a port and on its memories leave room for the line
abbrev pub has_room : Draft → Line → Bool
has_room (Within body) other = body_holds body other
has_room draft other = true

-- ---- what a line adds

abbrev pub work_with : Work → Line → Work
work_with (Logic tables tasks) (line.Table table) = Logic (tables ++ table ∷ []) tasks
work_with (Logic tables tasks) (line.Work task item) = Logic tables (tasks ++ task ∷ [])
work_with (Array blocks outs) (line.Block block) = Array (blocks ++ block ∷ []) outs
work_with (Array blocks outs) (line.Bit bit item) = Array blocks (outs ++ bit ∷ [])
work_with (Host inputs printed) (line.Input input item) = Host (inputs ++ input ∷ []) printed
work_with (Host inputs printed) (line.Print source) = Host inputs (printed ++ source ∷ [])
work_with work other = work

-- the claim of an item, and the bits of a memory
abbrev pub items_with : List ℕ → Line → List ℕ
items_with items (line.Work task item) = items ++ item ∷ []
items_with items (line.Bit bit item) = items ++ item ∷ []
items_with items (line.Input input item) = items ++ item ∷ []
items_with items other = items

abbrev pub bits_with : ℕ → Line → ℕ
bits_with bits (line.Block block) = bits + block_bits block
bits_with bits other = bits

abbrev pub port_with : PortImage → Line → PortImage
port_with port (line.Send link) = record port { outs = port.outs ++ link ∷ [] }
port_with port (line.Take link) = record port { ins = port.ins ++ link ∷ [] }
port_with port other = record port { work = work_with port.work other }

abbrev pub open_with : OpenPort → Line → OpenPort
open_with open_port other = record {
  port = port_with open_port.port other;
  items = items_with open_port.items other;
  bits = bits_with open_port.bits other;
}

-- a port of which only the head has been read
abbrev pub work_begun : PortKind → Work
work_begun kinds.Logic = Logic [] []
work_begun kinds.Array = Array [] []
work_begun kinds.Host = Host [] []

abbrev pub opened : PortKind → OpenPort
opened kind = record { port = record { work = work_begun kind; outs = []; ins = [] }; items = []; bits = 0 }

-- their claims
abbrev pub claims_of : Body → List PortClaims
claims_of body = body.claims ++ record { items = body.current.items } ∷ []

abbrev pub file_of : Body → ImageFile
file_of body = record {
  image = record { slots = body.sizes.slots; units = body.sizes.units; init = body.sizes.init; columns = body.sizes.columns; ports = ports_of body };
  claims = record { ports = claims_of body };
}

abbrev pub body_with : Body → Line → Draft
body_with body (line.Port kind) = Within (record { sizes = body.sizes; ports = ports_of body; claims = claims_of body; current = opened kind })
body_with body line.End = Ended (file_of body)
body_with body other = Within (record body { current = open_with body.current other })

abbrev pub draft_with : Draft → Line → Draft
draft_with Blank line.Version = Titled
draft_with Titled (line.Head sizes) = Sized sizes
draft_with (Sized sizes) (line.Port kind) = Within (record { sizes = sizes; ports = []; claims = []; current = opened kind })
draft_with (Within body) other = body_with body other
draft_with draft other = draft
