-- Which files are in range, and which text reads as which file.
use Rattle.std.specs.Prelude.{◌≡◌, ℕ, ◌*◌, ◌^◌, ◌≤◌, Bool, true, false, List, [], length, All}
use Rattle.std.specs.List.{count_by, sum_by}
use Rattle.limits.specs.declared.TheConstants.{MAX_ARRAY, MAX_FUNCTIONS, MAX_ARRAY_BITS}
use Rattle.func_table.specs.declared.Table.{Table}
use Rattle.image_defs.specs.declared.image.{BlockWork.BlockWork, Work.Work, Work.TheVariants.Logic, Work.TheVariants.Array, Work.TheVariants.Host}
use Rattle.image_defs.specs.{declared.image.PortImage.PortImage, Places.blocks_of, declared.file.ImageFile.ImageFile, Claimed.HasClaims}
use Rattle.image_lines.specs.Ranges.{IsInRange}
use Rattle.image_file.specs.Files.{file_lines, image_text}

abbrev pub is_array : Work → Bool
is_array (Logic tables tasks) = false
is_array (Array blocks outs) = true
is_array (Host inputs printed) = false

abbrev pub is_array_port : PortImage → Bool
is_array_port port = is_array port.work

-- the tables of a port; only a logic port has any
abbrev pub tables_of : Work → List Table
tables_of (Logic tables tasks) = tables
tables_of (Array blocks outs) = []
tables_of (Host inputs printed) = []

-- the bits of a memory, and those of all memories of a port
abbrev pub block_bits : BlockWork → ℕ
block_bits block = length block.word * 2 ^ length block.address

abbrev pub bits_of : Work → ℕ
bits_of work = sum_by block_bits (blocks_of work)

-- a file in range: each item has its claim, each line is in its ranges, there are at most 64 array
-- ports, a port has at most 4,096 tables, and memories of at most 16,777,216 bits
pub record IsInRanges (file : ImageFile) : Type 0 where
  pub claims : HasClaims file
  pub lines : All IsInRange (file_lines file)
  pub arrays : count_by is_array_port file.image.ports ≤ MAX_ARRAY
  pub tables : All (λ port. length (tables_of port.work) ≤ MAX_FUNCTIONS) file.image.ports
  pub bits : All (λ port. bits_of port.work ≤ MAX_ARRAY_BITS) file.image.ports

-- the text reads as the file: it is the file's text, and the file is in range
pub record Reads (text : List ℕ) (file : ImageFile) : Type 0 where
  pub is : text ≡ image_text file
  pub ranges : IsInRanges file
