-- What change numbers tell that are what they were: what each call of another task left as it was (profile).
use Rattle.std.specs.Prelude.{None, Option, Some, false, nat_eq, ℕ, ⊤, ◌≡◌, ◌≢◌, ◌⊎◌}
use Rattle.vt_spec.specs.Language.Calls.{Call, TaskName}
use Rattle.vt_spec.specs.Lists.{Fresh}
use Rattle.vt_spec.specs.Machine.Invariants.{IsWorld}
use Rattle.vt_spec.specs.Machine.Policy.{policy}
use Rattle.vt_spec.specs.Machine.Run.{Serves}
use Rattle.vt_spec.specs.Machine.Turns.{filesystem_change_of, is_stale, namespace_change_of}
use Rattle.vt_spec.specs.Machine.World.{Filesystem, Overlay, Task, World, filesystem_numbered, mounts_of, task_called}

-- a call in a world with all invariants, by numbers that are not in use
pub record IsCallIn (world : World ℕ) (fresh : Fresh ℕ) : Type 0 where
  pub is : IsWorld nat_eq world
  pub serves : Serves nat_eq world fresh

-- the change number of a namespace is what it was, and may rise further
abbrev pub IsNamespaceUnraised : World ℕ → World ℕ → ℕ → Type 0
IsNamespaceUnraised world later number =
    is_stale (namespace_change_of nat_eq world number) (namespace_change_of nat_eq later number) ≡ false

-- Such a namespace has the mounts that it had, each the same record.
abbrev pub UnraisedNamespacesKeepMounts : Type 0
UnraisedNamespacesKeepMounts =
    (world : World ℕ) (fresh : Fresh ℕ) (name : TaskName) (call : Call) (number : ℕ) → IsCallIn world fresh
    → IsNamespaceUnraised world (policy nat_eq fresh world name call).world number
    → mounts_of nat_eq (policy nat_eq fresh world name call).world number ≡ mounts_of nat_eq world number

-- A task of such a namespace, but the caller, is what it was: a pivot of its namespace raises the number of that.
abbrev pub OtherTasksOfUnraisedNamespacesStay : Type 0
OtherTasksOfUnraisedNamespacesStay =
    (world : World ℕ) (fresh : Fresh ℕ) (name : TaskName) (call : Call) (other : TaskName) (task : Task ℕ)
    → IsCallIn world fresh → other ≢ name → task_called world other ≡ Some task
    → IsNamespaceUnraised world (policy nat_eq fresh world name call).world task.namespace
    → task_called (policy nat_eq fresh world name call).world other ≡ Some task

-- something is gone, or is what it was
abbrev pub IsLeftOrGone : {A : Type 0} → Option A → Option A → Type 0
IsLeftOrGone before later = (later ≡ None) ⊎ (later ≡ before)

-- an overlay has the layers and the mounter that it had, and each real object that is left is what it was
abbrev pub KeepsOverlay : Option (Overlay ℕ) → Option (Overlay ℕ) → Type 0
KeepsOverlay None None = ⊤
KeepsOverlay None (Some later) = ⊥
KeepsOverlay (Some before) None = ⊥
KeepsOverlay (Some before) (Some later) =
    (later ≡ record before { real = later.real })
    × ((inode : ℕ) → IsLeftOrGone (before.real inode) (later.real inode))

-- a filesystem has the root that it had, is the overlay that it was, and each inode that is left is what it was
pub record KeepsFilesystem (before later : Filesystem ℕ) : Type 0 where
  pub root : later.files.tree.root ≡ before.files.tree.root
  pub overlay : KeepsOverlay before.overlay later.overlay
  pub inodes : (inode : ℕ) → IsLeftOrGone (before.files.tree.node inode) (later.files.tree.node inode)

-- the change number of a filesystem is what it was, and may rise further
abbrev pub IsFilesystemUnraised : World ℕ → World ℕ → ℕ → Type 0
IsFilesystemUnraised world later number =
    is_stale (filesystem_change_of nat_eq world number) (filesystem_change_of nat_eq later number) ≡ false

-- Such a filesystem is what it was, but for what nothing uses any longer.
abbrev pub UnraisedFilesystemsStay : Type 0
UnraisedFilesystemsStay =
    (world : World ℕ) (fresh : Fresh ℕ) (name : TaskName) (call : Call) (number : ℕ) → IsCallIn world fresh
    → IsFilesystemUnraised world (policy nat_eq fresh world name call).world number
    → KeepsFilesystem (filesystem_numbered nat_eq world number)
    (filesystem_numbered nat_eq (policy nat_eq fresh world name call).world number)
