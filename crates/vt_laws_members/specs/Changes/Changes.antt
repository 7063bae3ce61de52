-- Calls of tasks of a sealed set, in the world and in the part of the set (profile).
use Rattle.std.specs.Prelude.{Bool, List, Ok, Option, Result, Some, [], false, filter, is_ok, not, true, ℕ, nat_eq, ◌≡◌, ◌∷◌}
use Rattle.vt_spec.specs.declared.errors.Deny.{Deny}
use Rattle.vt_spec.specs.Language.Answers.{Answer}
use Rattle.vt_spec.specs.Language.Answers.Answer.{Child, Done}
use Rattle.vt_spec.specs.Language.Calls.{Access, Call, CapabilityWord, Creation, ForkWords, TaskName, same_name}
use Rattle.vt_spec.specs.Language.Calls.Call.{Chmod, Chown, Drop, Exit, Fork, Opaque, OpenFile, Pwrite, Rename, Setns, Umask, Write}
use Rattle.vt_spec.specs.Language.Changes.{Change}
use Rattle.vt_spec.specs.Lists.{Fresh, is_among}
use Rattle.vt_spec.specs.Machine.Descriptors.{is_copied_up}
use Rattle.vt_spec.specs.Machine.Invariants.{IsWorld}
use Rattle.vt_spec.specs.Machine.Judge.{judge_in}
use Rattle.vt_spec.specs.Machine.Mounts.{Location}
use Rattle.vt_spec.specs.Machine.Permits.Permit.{Allowed, ToChange, ToFork, ToOpen, ToWritePart}
use Rattle.vt_spec.specs.Machine.Outcomes.{Outcome}
use Rattle.vt_spec.specs.Machine.Policy.{only_looks, policy}
use Rattle.vt_spec.specs.Machine.Sealed.{part_of, sealed}
use Rattle.vt_spec.specs.Rights.{Credentials}
use Rattle.vt_spec.specs.Machine.World.{Task, World, filesystem_at, is_overlay, task_called}

-- a call in the name of a task of a sealed set, which enters no namespace but one of theirs
pub record IsCallOfTheirs (world : World ℕ) (names : List TaskName) (name : TaskName) (call : Call) : Type 0 where
  pub is : IsWorld nat_eq world
  pub sealed_off : sealed nat_eq world names ≡ true
  pub theirs : is_among same_name name names ≡ true
  pub among_them : (member : TaskName) → call ≡ Setns member → is_among same_name member names ≡ true

-- the set without a task that ends
abbrev pub left : List TaskName → TaskName → Call → List TaskName
left names name Exit = filter (λ member. not (same_name name member)) names
left names name call = names

-- the set after a call, by its answer: with the child that it makes, without a task that ends
abbrev pub grown : List TaskName → TaskName → Call → Result Answer Deny → List TaskName
grown names name call (Ok (Child child)) = child ∷ names
grown names name call (Ok Done) = left names name call
grown names name call answer = names

-- two outcomes have one answer, and leave one part of a set
pub record EndAlike (names : List TaskName) (one other : Outcome ℕ) : Type 0 where
  pub answer : one.answer ≡ other.answer
  pub part : part_of nat_eq one.world names ≡ part_of nat_eq other.world names

-- So the call does in the world and in the part of the set, by these numbers.
abbrev pub EndsAlike : World ℕ → List TaskName → TaskName → Call → Fresh ℕ → Fresh ℕ → Type 0
EndsAlike world names name call fresh other =
    EndAlike (grown names name call (policy nat_eq fresh world name call).answer)
    (policy nat_eq fresh world name call) (policy nat_eq other (part_of nat_eq world names) name call)

-- Each call that only looks does, whatever numbers are handed in.
abbrev pub LooksEndAlike : Type 0
LooksEndAlike =
    (world : World ℕ) (names : List TaskName) (name : TaskName) (call : Call) → IsCallOfTheirs world names name call
    → only_looks call ≡ true → (fresh other : Fresh ℕ) → EndsAlike world names name call fresh other

-- Each call that is refused in the world does, and so does each one in the name of no task.
abbrev pub DenialsEndAlike : Type 0
DenialsEndAlike =
    (world : World ℕ) (names : List TaskName) (name : TaskName) (call : Call) → IsCallOfTheirs world names name call
    → (fresh other : Fresh ℕ) → is_ok (policy nat_eq fresh world name call).answer ≡ false
    → EndsAlike world names name call fresh other

-- So does each call of umask(2),
abbrev pub UmasksEndAlike : Type 0
UmasksEndAlike =
    (world : World ℕ) (names : List TaskName) (name : TaskName) (mode : ℕ)
    → IsCallOfTheirs world names name (Umask mode) → (fresh other : Fresh ℕ)
    → EndsAlike world names name (Umask mode) fresh other

-- and each of capset(2).
abbrev pub DropsEndAlike : Type 0
DropsEndAlike =
    (world : World ℕ) (names : List TaskName) (name : TaskName) (which : CapabilityWord)
    → IsCallOfTheirs world names name (Drop which) → (fresh other : Fresh ℕ)
    → EndsAlike world names name (Drop which) fresh other

-- So does a rename of two names of one object, which is granted and does nothing,
abbrev pub RenamesOfOneEndAlike : Type 0
RenamesOfOneEndAlike =
    (world : World ℕ) (names : List TaskName) (name : TaskName) (old new : List ℕ)
    → IsCallOfTheirs world names name (Rename old new) → (task : Task ℕ) → task_called world name ≡ Some task
    → (fresh other : Fresh ℕ) → judge_in nat_eq fresh world task (Rename old new) ≡ Ok Allowed
    → EndsAlike world names name (Rename old new) fresh other

-- and a write of no bytes at an offset of an open file.
abbrev pub EmptyWritesEndAlike : Type 0
EmptyWritesEndAlike =
    (world : World ℕ) (names : List TaskName) (name : TaskName) (descriptor offset : ℕ)
    → IsCallOfTheirs world names name (Pwrite descriptor offset []) → (task : Task ℕ)
    → task_called world name ≡ Some task → (fresh other : Fresh ℕ) (file : Location ℕ) (at : ℕ)
    → judge_in nat_eq fresh world task (Pwrite descriptor offset []) ≡ Ok (ToWritePart file at [])
    → EndsAlike world names name (Pwrite descriptor offset []) fresh other

-- So does an open of a file that is there and is not copied up.
abbrev pub OpensEndAlike : Type 0
OpensEndAlike =
    (world : World ℕ) (names : List TaskName) (name : TaskName) (path : List ℕ) (access : Access) (how : Creation)
    → IsCallOfTheirs world names name (OpenFile path access how) → (task : Task ℕ) → task_called world name ≡ Some task
    → (fresh other : Fresh ℕ) (file : Location ℕ) (wanted : Access)
    → judge_in nat_eq fresh world task (OpenFile path access how) ≡ Ok (ToOpen file wanted)
    → is_copied_up nat_eq world file wanted ≡ false
    → EndsAlike world names name (OpenFile path access how) fresh other

-- So does a fork that is granted, of the set with the child.
abbrev pub ForksEndAlike : Type 0
ForksEndAlike =
    (world : World ℕ) (names : List TaskName) (name : TaskName) (words : Option ForkWords)
    → IsCallOfTheirs world names name (Fork words) → (task : Task ℕ) → task_called world name ≡ Some task
    → (fresh other : Fresh ℕ) (credentials : Credentials)
    → judge_in nat_eq fresh world task (Fork words) ≡ Ok (ToFork credentials)
    → EndsAlike world names name (Fork words) fresh other

-- a granted call that changes a plain filesystem at a location ends alike
abbrev pub PlainChangeEndsAlike : World ℕ → List TaskName → TaskName → Call → Type 0
PlainChangeEndsAlike world names name call =
    IsCallOfTheirs world names name call → (task : Task ℕ) → task_called world name ≡ Some task
    → (fresh other : Fresh ℕ) (location : Location ℕ) (change : Change ℕ)
    → judge_in nat_eq fresh world task call ≡ Ok (ToChange location change)
    → is_overlay (filesystem_at nat_eq world location) ≡ false → EndsAlike world names name call fresh other

-- On a plain filesystem a write to a file that is there does,
abbrev pub WritesEndAlike : Type 0
WritesEndAlike =
    (world : World ℕ) (names : List TaskName) (name : TaskName) (path bytes : List ℕ)
    → PlainChangeEndsAlike world names name (Write path bytes)

-- and so do chmod(2),
abbrev pub ChmodsEndAlike : Type 0
ChmodsEndAlike =
    (world : World ℕ) (names : List TaskName) (name : TaskName) (path : List ℕ) (mode : ℕ)
    → PlainChangeEndsAlike world names name (Chmod path mode)

-- chown(2),
abbrev pub ChownsEndAlike : Type 0
ChownsEndAlike =
    (world : World ℕ) (names : List TaskName) (name : TaskName) (path : List ℕ) (uid gid : Option ℕ)
    → PlainChangeEndsAlike world names name (Chown path uid gid)

-- setxattr(2) of the opaque mark,
abbrev pub OpaquesEndAlike : Type 0
OpaquesEndAlike =
    (world : World ℕ) (names : List TaskName) (name : TaskName) (path : List ℕ) (mark : Bool)
    → PlainChangeEndsAlike world names name (Opaque path mark)

-- and a write of bytes at an offset of an open file.
abbrev pub PartWritesEndAlike : Type 0
PartWritesEndAlike =
    (world : World ℕ) (names : List TaskName) (name : TaskName) (descriptor offset byte : ℕ) (bytes : List ℕ)
    → IsCallOfTheirs world names name (Pwrite descriptor offset (byte ∷ bytes)) → (task : Task ℕ)
    → task_called world name ≡ Some task → (fresh other : Fresh ℕ) (file : Location ℕ) (at : ℕ) (written : List ℕ)
    → judge_in nat_eq fresh world task (Pwrite descriptor offset (byte ∷ bytes)) ≡ Ok (ToWritePart file at written)
    → is_overlay (filesystem_at nat_eq world file) ≡ false
    → EndsAlike world names name (Pwrite descriptor offset (byte ∷ bytes)) fresh other
