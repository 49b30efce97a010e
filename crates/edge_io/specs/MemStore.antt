-- A store of files in memory.
use Rattle.std.specs.Prelude.{ℕ, List, [], length, drop, min, Bool, not, ◌||◌, if◌then◌else◌, Option, None, Some, is_some, position, slice_get, bytes_eq}
use Rattle.std.specs.Option.{option_map_or}
use Rattle.edge_io.specs.FileCounts.{no_calls, after_start, after_read, after_failed_read}
use Rattle.edge_io.specs.declared.{counts.FileCounts.FileCounts, script.Script.Script, mem_files.NamedBytes.NamedBytes}
use Rattle.edge_io.specs.Script.{next_fails, called}

-- the files, the calls that fail, the most bytes that one read gives (where there is such a number), what is left
-- of the file begun, and the counts
pub record MemStore : Type 0 where
  pub files : List NamedBytes
  pub script : Script
  pub most : Option ℕ
  pub left : List ℕ
  pub counts : FileCounts

-- a store before its first call
abbrev pub unread : List NamedBytes → List ℕ → Option ℕ → MemStore
unread files fails most = record { files = files; script = record { fails = fails; calls = 0 }; most = most; left = []; counts = no_calls }

-- the bytes of the file at a place, or none
abbrev pub bytes_at : List NamedBytes → Option ℕ → List ℕ
bytes_at files None = []
bytes_at files (Some i) = option_map_or (λ (f : NamedBytes). f.bytes) (slice_get files i) []

-- the place of the first file with this name
abbrev pub place_named : List NamedBytes → List ℕ → Option ℕ
place_named files name = position (λ f. bytes_eq f.name name) files

-- whether a file has this name
abbrev pub has_name : List NamedBytes → List ℕ → Bool
has_name files name = is_some (place_named files name)

-- the bytes of the first file with this name
abbrev pub bytes_named : List NamedBytes → List ℕ → List ℕ
bytes_named files name = bytes_at files (place_named files name)

-- a `start` fails where its number says so, and where no file has the name
abbrev pub start_fails : MemStore → List ℕ → Bool
start_fails s name = next_fails s.script || not (has_name s.files name)

-- after a `start`: the whole file is left, or nothing where it failed
abbrev pub started : MemStore → List ℕ → MemStore
started s name = record s {
  script = called s.script;
  left = if start_fails s name then [] else bytes_named s.files name;
  counts = after_start s.counts (not (has_name s.files name)) (start_fails s name);
}

-- a number, or the most that there may be
abbrev pub at_most : Option ℕ → ℕ → ℕ
at_most None n = n
at_most (Some most) n = min n most

-- how many bytes one `read` gives into a buffer with so much room
abbrev pub share : MemStore → ℕ → ℕ
share s room = min room (at_most s.most (length s.left))

-- after a `read` of the next n bytes
abbrev pub read_past : MemStore → ℕ → MemStore
read_past s n = record s { script = called s.script; left = drop n s.left; counts = after_read s.counts n }

-- after a `read` that failed
abbrev pub read_failed : MemStore → MemStore
read_failed s = record s { script = called s.script; counts = after_failed_read s.counts }
