-- What a permit asks of an overlay can be done: what the laws of letting go ask for (`CanChange`) holds of it.
use Rattle.std.specs.Prelude.{List, None, Ok, Some, nat_eq, ℕ, ◌≡◌}
use Rattle.vt_spec.specs.Language.Calls.{Call}
use Rattle.vt_spec.specs.Language.Changes.{Change}
use Rattle.vt_spec.specs.Lists.{Fresh, odds}
use Rattle.vt_spec.specs.Machine.Filesystems.{merge_of, stack_of}
use Rattle.vt_spec.specs.Machine.Invariants.{IsWorld}
use Rattle.vt_spec.specs.Machine.Judge.{judge_in}
use Rattle.vt_spec.specs.Machine.Mounts.{Location}
use Rattle.vt_spec.specs.Machine.Permits.{Permit}
use Rattle.vt_spec.specs.Machine.Permits.Permit.{ToMake, ToOpenNew}
use Rattle.vt_spec.specs.Machine.Policy.{call_outcome}
use Rattle.vt_spec.specs.Machine.Run.{Serves}
use Rattle.vt_spec.specs.Machine.World.{Layer, Overlay, Task, World, filesystem_at, filesystem_numbered, task_called}
use Rattle.vt_laws_trees.specs.Overlays.WholeChanges.{IsAskedWell}
use Rattle.vt_laws_worlds.specs.OverlaysLetGo.OverlayChanges.{CanChange}
use Rattle.vt_laws_worlds.specs.Merging.UpperChanges.{seen_below}
use Rattle.vt_laws_worlds.specs.Merging.UpperCalls.{Asks, ChangeAt, changed_above}
use Rattle.vt_laws_worlds.specs.Merging.BelowChanges.{IsEnded, LiesUnder}
use Rattle.vt_laws_worlds.specs.OverlayPermits.Asked.{change_asked}
use Rattle.vt_laws_trees.specs.Trees.Settling.{inode_in}

-- The change of an overlay that asks for what it may leaves both trees trees.
abbrev pub AskedChangesCanBeMade : Type 0
AskedChangesCanBeMade =
    (fresh : Fresh ℕ) (world : World ℕ) (location : Location ℕ) (change : Change ℕ) (overlay : Overlay ℕ)
    (upper : Layer ℕ)
    → IsWorld nat_eq world → (filesystem_at nat_eq world location).overlay ≡ Some overlay → overlay.upper ≡ Some upper
    → ((j k : ℕ) → fresh j ≡ fresh k → j ≡ k) → ((k : ℕ) → inode_in world upper.filesystem (fresh k) ≡ None)
    → IsAskedWell (stack_of nat_eq world overlay upper)
    (merge_of nat_eq world (filesystem_at nat_eq world location) overlay upper) change
    → CanChange fresh world location change overlay upper

-- the numbers that are left for copies and whiteouts: a new inode has one of the others
abbrev pub numbers_left : Fresh ℕ → Permit ℕ → Fresh ℕ
numbers_left fresh (ToMake directory name node) = odds fresh
numbers_left fresh (ToOpenNew directory name node access) = odds fresh
numbers_left fresh permit = fresh

-- So does the change that a permit asks for.
abbrev pub PermitsCanChange : Type 0
PermitsCanChange =
    (world : World ℕ) (fresh : Fresh ℕ) (task : Task ℕ) (call : Call) (permit : Permit ℕ) (location : Location ℕ)
    (change : Change ℕ)
    (overlay : Overlay ℕ) (upper : Layer ℕ)
    → IsWorld nat_eq world → Serves nat_eq world fresh → task_called world task.name ≡ Some task
    → judge_in nat_eq fresh world task call ≡ Ok permit → change_asked fresh world permit ≡ Some (location, change)
    → (filesystem_at nat_eq world location).overlay ≡ Some overlay → overlay.upper ≡ Some upper
    → CanChange (numbers_left fresh permit) world location change overlay upper

-- The places at which it changes the overlay, and the upper layer's files after the call, by layers alone (before what
-- nothing uses is gone).
pub record IsByLayers (fresh : Fresh ℕ) (world later : World ℕ) (location : Location ℕ) (change : Change ℕ)
    (overlay : Overlay ℕ) (upper : Layer ℕ) : Type 0 where
  pub at : ChangeAt
  pub asks : Asks (merge_of nat_eq world (filesystem_at nat_eq world location) overlay upper) change at
  pub files : (filesystem_numbered nat_eq later upper.filesystem).files
      ≡ changed_above fresh (stack_of nat_eq world overlay upper)
      (filesystem_numbered nat_eq world upper.filesystem).files at

-- So the upper layer changes in each granted call through an overlay.
abbrev pub GrantedCallsAreByLayers : Type 0
GrantedCallsAreByLayers =
    (world : World ℕ) (fresh : Fresh ℕ) (task : Task ℕ) (call : Call) (permit : Permit ℕ) (location : Location ℕ)
    (change : Change ℕ)
    (overlay : Overlay ℕ) (upper : Layer ℕ)
    → IsWorld nat_eq world → Serves nat_eq world fresh → task_called world task.name ≡ Some task
    → judge_in nat_eq fresh world task call ≡ Ok permit → change_asked fresh world permit ≡ Some (location, change)
    → (filesystem_at nat_eq world location).overlay ≡ Some overlay → overlay.upper ≡ Some upper
    → IsByLayers (numbers_left fresh permit) world (call_outcome nat_eq fresh world task call).world location change
    overlay upper

-- Such a call leaves what the overlay's lower layers show, but under names that it ends: before what nothing uses is
-- gone.
abbrev pub GrantedCallsLeaveBelow : Type 0
GrantedCallsLeaveBelow =
    (world : World ℕ) (fresh : Fresh ℕ) (task : Task ℕ) (call : Call) (permit : Permit ℕ) (location : Location ℕ)
    (change : Change ℕ)
    (overlay : Overlay ℕ) (upper : Layer ℕ) (at : ChangeAt) (path : List (List ℕ))
    → IsWorld nat_eq world → Serves nat_eq world fresh → task_called world task.name ≡ Some task
    → judge_in nat_eq fresh world task call ≡ Ok permit → change_asked fresh world permit ≡ Some (location, change)
    → (filesystem_at nat_eq world location).overlay ≡ Some overlay → overlay.upper ≡ Some upper
    → Asks (merge_of nat_eq world (filesystem_at nat_eq world location) overlay upper) change at
    → (((top : List (List ℕ)) → IsEnded at top → ¬ (LiesUnder top path))
    → seen_below (stack_of nat_eq world overlay upper)
    (filesystem_numbered nat_eq (call_outcome nat_eq fresh world task call).world upper.filesystem).files path
    ≡ seen_below (stack_of nat_eq world overlay upper)
    (filesystem_numbered nat_eq world upper.filesystem).files path)
    × ((top : List (List ℕ)) → IsEnded at top → LiesUnder top path
    → seen_below (stack_of nat_eq world overlay upper)
    (filesystem_numbered nat_eq (call_outcome nat_eq fresh world task call).world upper.filesystem).files path
    ≡ None)
