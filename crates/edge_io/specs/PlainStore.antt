-- A store of files in memory in which every name is there.
use Rattle.std.specs.Prelude.{ℕ, List, [], drop, Bool, true, false}
use Rattle.edge_io.specs.declared.{counts.FileCounts.FileCounts, mem_files.NamedBytes.NamedBytes}
use Rattle.edge_io.specs.{FileCounts.no_calls, FileCounts.after_start, FileCounts.after_read, MemStore.bytes_named}

-- the files, what is left of the file begun, and the counts
pub record PlainStore : Type 0 where
  pub files : List NamedBytes
  pub left : List ℕ
  pub counts : FileCounts

-- a store before its first call
abbrev pub unread : List NamedBytes → PlainStore
unread files = record { files = files; left = []; counts = no_calls }

-- the names that are there: each one
abbrev pub has_name : List ℕ → Bool
has_name name = true

-- after a `start`: the whole file is left
abbrev pub started : PlainStore → List ℕ → PlainStore
started s name = record s { left = bytes_named s.files name; counts = after_start s.counts false false }

-- after a `read` of the next n bytes
abbrev pub read_past : PlainStore → ℕ → PlainStore
read_past s n = record s { left = drop n s.left; counts = after_read s.counts n }
