-- What a port does names only what is there.
use Rattle.std.proofs.Common.{◌≡◌, ◌↔◌, IsTrue, Bool, false, ℕ, ◌<◌, ◌≤◌, List, length, sym, subst}
use Rattle.limits.specs.declared.TheConstants.{MAX_ADDRESS_BITS, MAX_WORD_BITS}
use Rattle.image_defs.specs.WellFormed.{IsPast, IsPresent, IsBlock, IsBit, IsWork}
use Rattle.image_defs.specs.declared.image.{Source.Source, BlockWork.BlockWork, OutBit.OutBit, InColumn.InColumn, Work.Work}
use Rattle.image_defs.specs.{declared.image.Work.TheVariants.Array, declared.image.Work.TheVariants.Host, declared.image.PortImage.PortImage, Places.Each}

-- a memory whose address or word takes what it may not
pub no_address : (port : PortImage) (block : BlockWork) (address : List Source) → address ≡ block.address → IsTrue false ↔ Each (IsPast port) address → IsTrue false ↔ IsBlock port block
no_address port block address same is = (λ f. cc, λ b. is.1 (subst (Each (IsPast port)) (sym same) b.address))

-- a memory all of whose other parts are right is right where its word is
pub block_by_word : (port : PortImage) (block : BlockWork) (a w : ℕ) (address word : List Source) (r : Bool) → a ≡ length block.address → w ≡ length block.word → address ≡ block.address → word ≡ block.word
    → (1 ≤ a) × (a ≤ MAX_ADDRESS_BITS) → (1 ≤ w) × (w ≤ MAX_WORD_BITS) → IsPast port block.we → Each (IsPast port) address → IsTrue r ↔ Each (IsPast port) word → IsTrue r ↔ IsBlock port block
block_by_word port block a w address word r a-is w-is address-is word-is a-few w-few we addresses words = (whole, λ b. words.1 (subst (Each (IsPast port)) (sym word-is) b.word)) where
  whole : IsTrue r → IsBlock port block
  whole yes_ = record {
    we = we;
    address = subst (Each (IsPast port)) address-is addresses;
    address_bits = subst (λ n. (1 ≤ n) × (n ≤ MAX_ADDRESS_BITS)) a-is a-few;
    word = subst (Each (IsPast port)) word-is (words.0 yes_);
    word_bits = subst (λ n. (1 ≤ n) × (n ≤ MAX_WORD_BITS)) w-is w-few;
  }

-- an array processor and the host, by their lists
pub work_array : (columns : ℕ) (port : PortImage) (work : Work) (blocks bs : List BlockWork) (outs os : List OutBit) (r : Bool) → work ≡ Array blocks outs → bs ≡ blocks → os ≡ outs
    → IsTrue r ↔ (Each (IsBlock port) bs × Each (IsBit bs) os) → IsTrue r ↔ IsWork columns port work
work_array columns port work blocks bs outs os r is bs-are os-are said =
    subst (λ w. IsTrue r ↔ IsWork columns port w) (sym is)
    (subst (λ xs. IsTrue r ↔ (Each (IsBlock port) xs × Each (IsBit xs) outs)) bs-are (subst (λ xs. IsTrue r ↔ (Each (IsBlock port) bs × Each (IsBit bs) xs)) os-are said))

pub work_host : (columns : ℕ) (port : PortImage) (work : Work) (inputs is : List InColumn) (printed ps : List Source) (r : Bool) → work ≡ Host inputs printed → is ≡ inputs → ps ≡ printed
    → IsTrue r ↔ (Each (λ input. input.column < columns) is × Each (IsPresent port) ps) → IsTrue r ↔ IsWork columns port work
work_host columns port work inputs is printed ps r e is-are ps-are said =
    subst (λ w. IsTrue r ↔ IsWork columns port w) (sym e)
    (subst (λ xs. IsTrue r ↔ (Each (λ (input : InColumn). input.column < columns) xs × Each (IsPresent port) printed)) is-are (subst (λ xs. IsTrue r ↔ (Each (λ (input : InColumn). input.column < columns) is × Each (IsPresent port) xs)) ps-are said))
