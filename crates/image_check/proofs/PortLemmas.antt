-- Ports and images that are well formed, by the parts that are looked at one after another.
use Rattle.std.proofs.Common.{◌≡◌, ◌↔◌, IsTrue, Bool, ℕ, ◌<◌, List, sym, subst}
use Rattle.image_defs.specs.Places.{Each, IsPort, item_slots, in_slots}
use Rattle.image_defs.specs.WellFormed.{IsWork, IsLinkOut, IsLinkIn, IsPortImage, IsWellFormed}
use Rattle.image_defs.specs.declared.image.{LinkIn.LinkIn, LinkOut.LinkOut, PortImage.PortImage, Image.Image}
use Rattle.image_check.specs.code.{Forms.HasNumbers, Forms.IsHostLast, Shapes.IsRising, Shapes.AreRising}

-- a port whose other parts are right is right where its links in are
pub port_by_links : (image : Image) (p : ℕ) (port : PortImage) (items ins : List ℕ) (outs : List LinkOut) (links : List LinkIn) (r : Bool) → items ≡ item_slots port.work → ins ≡ in_slots port.ins → outs ≡ port.outs → links ≡ port.ins → IsRising port
    → Each (λ n. n < image.slots) items → Each (λ n. n < image.slots) ins → IsWork image.columns port port.work → Each (IsLinkOut image p port) outs → IsTrue r ↔ Each (IsLinkIn image p) links → IsTrue r ↔ IsPortImage image p port
port_by_links image p port items ins outs links r items-are ins-are outs-are links-are rising low_items low_ins work sends said = (whole, λ w. said.1 (subst (Each (IsLinkIn image p)) (sym links-are) w.receives)) where
  whole : IsTrue r → IsPortImage image p port
  whole is = record {
    items = rising.items;
    item_slots_within = subst (Each (λ n. n < image.slots)) items-are low_items;
    work = work;
    outs = rising.outs;
    sends = subst (Each (IsLinkOut image p port)) outs-are sends;
    ins = rising.ins;
    in_slots_within = subst (Each (λ n. n < image.slots)) ins-are low_ins;
    receives = subst (Each (IsLinkIn image p)) links-are (said.0 is);
  }

-- the slots of a well-formed image rise
pub rising_of : (image : Image) → IsWellFormed image → AreRising image.ports
rising_of image well p port is = let w = well.ports p port is in record {
  items = w.items;
  outs = w.outs;
  ins = w.ins;
  readers = λ i link here. (w.sends i link here).rising;
}

-- an image whose other parts are right is well formed where its ports are right
pub image_by_ports : (image : Image) (ports : List PortImage) (r : Bool) → ports ≡ image.ports → HasNumbers image → IsHostLast ports → IsTrue r ↔ ((p : ℕ) (port : PortImage) → IsPort image p port → IsPortImage image p port) → IsTrue r ↔ IsWellFormed image
image_by_ports image ports r same numbers host said = (whole, λ w. said.1 w.ports) where
  whole : IsTrue r → IsWellFormed image
  whole is = record {
    slots = numbers.slots;
    units = numbers.units;
    some_ports = numbers.some_ports;
    most_ports = numbers.most_ports;
    ports = said.0 is;
    host = subst IsHostLast same host;
  }
