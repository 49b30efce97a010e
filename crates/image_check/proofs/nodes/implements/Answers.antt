use Rattle.std.proofs.Common.{Bool, IfSome, List, None, Some, false, slice_get, subst, sym, ℕ, ◌↔◌, ◌≡◌}
use Rattle.std.specs.Bool.{IsTrue}
use Rattle.image_defs.specs.{Places.blocks_of, declared.image.Work.Work, Matches.BitImplements, Matches.InputImplements, Matches.TaskImplements}
use Rattle.image_defs.specs.Claimed.{lists_of}
use Rattle.image_check.specs.code.Memories.{AreSameMemories}
use Rattle.image_check.proofs.nodes.implements.Goals as goal

pub task_implements-requires : goal.task_implements-requires
task_implements-requires c = c.requires.one

pub bit_implements-requires-clause-one : goal.bit_implements-requires-clause-one
bit_implements-requires-clause-one c = c.requires.one

pub bit_implements-requires-clause-known : goal.bit_implements-requires-clause-known
bit_implements-requires-clause-known c =
    subst (λ (work : Work). IfSome c.args.known (AreSameMemories c.args.one.now (blocks_of work) c.args.nodes.now.blocks)) c.in-Array.is
    c.requires.known

-- what stands at a place of a list has the property, or nothing stands there
found : {X : Type 0} (Q : X → Type 0) (xs : List X) (k : ℕ) (x : X) (r : Bool) → Some x ≡ slice_get xs k → IsTrue r ↔ Q x → IsTrue r ↔ ((y : X) × (slice_get xs k ≡ Some y) × Q y)
found Q xs k x r there same = (
  λ yes. (x, sym there, same.0 yes),
  λ is. (let (y, at, has) = is in let one : y ≡ x = cc in same.1 (subst Q one has)),
)

missing : {X : Type 0} (Q : X → Type 0) (xs : List X) (k : ℕ) → None ≡ slice_get xs k → IsTrue false ↔ ((y : X) × (slice_get xs k ≡ Some y) × Q y)
missing Q xs k none = (λ yes. absurd (cc), λ is. absurd (let (y, at, has) = is in cc))

pub returns-in-Some : goal.returns-in-Some
returns-in-Some c =
    rw c.in-Logic.is (found (λ task. TaskImplements c.args.one.now.file.now.image (lists_of c.args.one.now.file.now.claims)
    c.args.nodes.now c.args.one.now.number c.args.one.now.port.now.ins c.in-Logic.tables task c.args.item.now) c.in-Logic.tasks c.args.k
    c.in-Some.task.now c.task_implements.result c.in-Some.ensures c.task_implements.ensures)

pub returns-in-None : goal.returns-in-None
returns-in-None c =
    rw c.in-Logic.is (missing (λ task. TaskImplements c.args.one.now.file.now.image (lists_of c.args.one.now.file.now.claims)
    c.args.nodes.now c.args.one.now.number c.args.one.now.port.now.ins c.in-Logic.tables task c.args.item.now) c.in-Logic.tasks c.args.k c.in-None.ensures)

pub returns-in-Some-get : goal.returns-in-Some-get
returns-in-Some-get c =
    rw c.in-Array.is (found (λ out. BitImplements c.args.one.now.file.now.image (lists_of c.args.one.now.file.now.claims)
    c.args.nodes.now c.args.one.now.number c.args.one.now.port.now.ins c.in-Array.blocks out c.args.item.now) c.in-Array.outs c.args.k
    c.in-Some-get.out.now c.bit_implements.result c.in-Some-get.ensures c.bit_implements.ensures)

pub returns-in-None-get : goal.returns-in-None-get
returns-in-None-get c =
    rw c.in-Array.is (missing (λ out. BitImplements c.args.one.now.file.now.image (lists_of c.args.one.now.file.now.claims)
    c.args.nodes.now c.args.one.now.number c.args.one.now.port.now.ins c.in-Array.blocks out c.args.item.now) c.in-Array.outs c.args.k c.in-None-get.ensures)

pub returns-in-Some-get-2 : goal.returns-in-Some-get-2
returns-in-Some-get-2 c =
    rw c.in-Host.is (found (λ input. InputImplements input c.args.item.now) c.in-Host.inputs c.args.k
    c.in-Some-get-2.input.now c.input_implements.result c.in-Some-get-2.ensures c.input_implements.ensures)

pub returns-in-None-get-2 : goal.returns-in-None-get-2
returns-in-None-get-2 c =
    rw c.in-Host.is (missing (λ input. InputImplements input c.args.item.now) c.in-Host.inputs c.args.k c.in-None-get-2.ensures)
