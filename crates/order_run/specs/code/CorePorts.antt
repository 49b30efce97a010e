-- Beside specs/CorePorts.antt, what only private functions and proofs cite.
use Rattle.std.specs.Prelude.{List, Some, [], length, slice_get, slice_index_or, slice_set, ℕ, ◌*◌, ◌++◌, ◌+◌, ◌-◌, ◌/◌, ◌<◌, ◌∷◌, ◌≡◌}
use Rattle.logic_four.specs.{Values.code_of, Values.value_at, declared.V4.V4}
use Rattle.image_defs.specs.{Frames.shown, Places.host_of, declared.image.LinkIn.LinkIn, declared.image.LinkOut.LinkOut}
use Rattle.event_defs.specs.{Row.word_place, declared.place.Action.Action}
use Rattle.port_host.specs.Rows.{printed_sources}
use Rattle.port_walk.specs.Placed.{IsNextOf, IsReceiving, IsSending, in_next_turn}
use Rattle.order_run.specs.declared.core_ports.CorePort.{CorePort}

-- a claim on core_port number p
abbrev pub AtCorePort : List CorePort → ℕ → (CorePort → Type 0) → Type 0
AtCorePort core_ports p Claim = (core_port : CorePort) → slice_get core_ports p ≡ Some core_port → Claim core_port

-- this is the next event of the core_port's port
pub record IsNextIn (core_port : CorePort) (banks : ℕ) (action : Action) : Type 0 where
  pub next : IsNextOf core_port.port core_port.known banks action

-- there is room for the word that its next Put writes
pub record HasPutRoom (core_port : CorePort) (banks words : ℕ) : Type 0 where
  pub each : (i : ℕ) (link : LinkOut) → IsSending core_port.port i link → word_place banks (core_port.first + i) core_port.bank < words

-- that word has its turn and the code of the value
pub record HasWritten (core_port : CorePort) (banks : ℕ) (value : V4) (old new : List ℕ) : Type 0 where
  pub each : (i : ℕ) (link : LinkOut) → IsSending core_port.port i link
      → new ≡ slice_set old (word_place banks (core_port.first + i) core_port.bank) (4 * core_port.port.turn + code_of value)

-- there is a word that its next Take reads
pub record HasTakeRoom (core_port : CorePort) (banks words : ℕ) : Type 0 where
  pub there : (j : ℕ) (link : LinkIn) → IsReceiving core_port.port j link → j < length core_port.sources
  pub each : (j n : ℕ) (link : LinkIn) → IsReceiving core_port.port j link → slice_get core_port.sources j ≡ Some n → word_place banks n core_port.bank < words

-- it is this one
pub record IsWordRead (core_port : CorePort) (banks : ℕ) (words : List ℕ) (word : ℕ) : Type 0 where
  pub each : (j n : ℕ) (link : LinkIn) → IsReceiving core_port.port j link → slice_get core_port.sources j ≡ Some n
      → word ≡ slice_index_or words (word_place banks n core_port.bank) 0

abbrev pub core_port_asked : CorePort → ℕ → ℕ → CorePort
core_port_asked core_port reader finished = record core_port { known = slice_set core_port.known reader finished }

abbrev pub core_port_put : CorePort → ℕ → CorePort
core_port_put core_port slot = record core_port { port = record core_port.port { puts = core_port.port.puts ++ slot ∷ [] } }

abbrev pub core_port_taken : CorePort → ℕ → CorePort
core_port_taken core_port slot = record core_port { port = record core_port.port { takes = core_port.port.takes ++ slot ∷ [] } }

abbrev pub core_port_told : CorePort → ℕ → CorePort
core_port_told core_port bank = record core_port { port = in_next_turn core_port.port; bank = bank }

-- its port is the host
abbrev pub IsHostCorePort : CorePort → Type 0
IsHostCorePort core_port = core_port.port.port ≡ host_of core_port.port.image

-- the cycles that are over before its turn
abbrev pub host_rows : CorePort → ℕ
host_rows core_port = (core_port.port.turn - 1) / core_port.port.image.units

-- these are what the image shows for a cycle
pub record IsRowOf (core_port : CorePort) (cycle : ℕ) (cells : List V4) : Type 0 where
  pub long : length cells ≡ length (printed_sources core_port.port.image)
  pub shows : (j : ℕ) → j < length cells → value_at cells j ≡ shown core_port.port.image core_port.port.stimulus cycle j
