-- The text of a file: the lines that it has, in their order.
use Rattle.std.specs.Prelude.{ℕ, List, [], ◌∷◌, ◌++◌, length, map}
use Rattle.std.specs.List.{flat_map, zip}
use Rattle.image_defs.specs.declared.image.{Work.Work, Work.TheVariants.Logic, Work.TheVariants.Array, Work.TheVariants.Host, PortImage.PortImage, Image.Image}
use Rattle.image_defs.specs.declared.file.{PortClaims.PortClaims, ImageFile.ImageFile}
use Rattle.image_lines.specs.{declared.line.PortKind.PortKind, declared.line.Sizes.Sizes, declared.line.Line.Line, Words.line_text}
use Rattle.image_lines.specs.declared.line.PortKind.TheVariants as kinds
use Rattle.image_lines.specs.declared.line.Line.TheVariants as line

-- what the second line says
abbrev pub sizes_of : Image → Sizes
sizes_of image = record { slots = image.slots; units = image.units; init = image.init; columns = image.columns; ports = length image.ports }

abbrev pub kind_of : Work → PortKind
kind_of (Logic tables tasks) = kinds.Logic
kind_of (Array blocks outs) = kinds.Array
kind_of (Host inputs printed) = kinds.Host

-- a line for each item, with its claim
abbrev pub claimed : {X : Type 0} → (X → ℕ → Line) → List X → List ℕ → List Line
claimed make xs items = map (λ x. make x.0 x.1) (zip xs items)

-- what a port does, with the claims of its items
abbrev pub work_lines : Work → List ℕ → List Line
work_lines (Logic tables tasks) items = map line.Table tables ++ claimed line.Work tasks items
work_lines (Array blocks outs) items = map line.Block blocks ++ claimed line.Bit outs items
work_lines (Host inputs printed) items = claimed line.Input inputs items ++ map line.Print printed

-- a port: its head, what it does, what it sends and what it receives
abbrev pub port_lines : PortImage → List ℕ → List Line
port_lines port items = line.Port (kind_of port.work) ∷ work_lines port.work items ++ map line.Send port.outs ++ map line.Take port.ins

abbrev pub all_port_lines : List PortImage → List PortClaims → List Line
all_port_lines ports claims = flat_map (λ port. port_lines port.0 port.1.items) (zip ports claims)

abbrev pub file_lines : ImageFile → List Line
file_lines file =
    line.Version ∷ line.Head (sizes_of file.image) ∷ all_port_lines file.image.ports file.claims.ports ++ line.End ∷ []

-- the text of a file
unfoldable pub image_text : ImageFile → List ℕ
image_text file = flat_map line_text (file_lines file)
