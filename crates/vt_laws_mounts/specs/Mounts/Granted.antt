-- What a granted call makes of the mounts: umount(2), mount(2), pivot_root(2), rmdir(2), rename(2), _exit(2),
-- unshare(2), setns(2).
use Rattle.std.specs.Prelude.{Bool, List, Ok, Some, ℕ, nat_eq, ◌≡◌}
use Rattle.vt_spec.specs.Language.Calls.{Call, MountFlags, OverlayWords, TaskName, TypeWord}
use Rattle.vt_spec.specs.Language.Calls.Call.{Bind, Exit, Lazy, MountOverlay, MountPlain, MoveMount, PivotRoot, Remount, Rmdir, SetType, Setns, Unshare, Rename}
use Rattle.vt_spec.specs.Machine.Detach.{lazily_unmounted, without_mounts_on, without_replaced}
use Rattle.vt_spec.specs.Lists.{Fresh, evens, odds}
use Rattle.vt_spec.specs.Machine.Namespaces.{namespace_entered, namespaces_ended, pivoted, unshared}
use Rattle.vt_spec.specs.Machine.Looks.{looks_of}
use Rattle.vt_spec.specs.Machine.Rules.Mounting.{LayerLocations, destination_walk, layers_walked, overlay_at, source_walk}
use Rattle.vt_spec.specs.Machine.Attach.{bound_at, moved_to}
use Rattle.vt_spec.specs.Machine.NewMounts.{mounted, overlay_filesystem, plain_filesystem}
use Rattle.vt_spec.specs.Machine.World.{Task, World, mount_at, task_called, with_flags, without_task}
use Rattle.vt_spec.specs.Machine.Rules.Removing.{object_there, is_one_object, rename_new_walk}
use Rattle.vt_spec.specs.Language.Answers.Answer.{Done}
use Rattle.vt_spec.specs.Machine.Policy.{policy}
use Rattle.vt_spec.specs.Machine.Types.{with_type}
use Rattle.vt_spec.specs.Machine.Walking.{Here, Place, directory_walk, old_walk, walk_end, is_directory_there, old_leaf_walk}
use Rattle.vt_laws_mounts.specs.Mounts.FileCalls.{HasLiving}
use Rattle.std.proofs.Common.{false, true}

-- a call of a task that is granted leaves these mounts
abbrev pub Leaves : Fresh ℕ → World ℕ → TaskName → Task ℕ → Call → World ℕ → Type 0
Leaves fresh world name task call left =
    task_called world name ≡ Some task → (policy nat_eq fresh world name call).answer ≡ Ok Done
    → HasLiving (policy nat_eq fresh world name call).world left.mounts

abbrev pub BindBinds : Type 0
BindBinds =
    (fresh : Fresh ℕ) (world : World ℕ) (name : TaskName) (task : Task ℕ) (source path : List ℕ) (recursive : Bool)
    (from here : Here ℕ)
    → walk_end (source_walk nat_eq (looks_of nat_eq world) task source) ≡ Ok from
    → walk_end (destination_walk nat_eq (looks_of nat_eq world) task path) ≡ Ok here
    → Leaves fresh world name task (Bind source path recursive)
    (bound_at nat_eq fresh world from.location here.location recursive)

abbrev pub MoveMoves : Type 0
MoveMoves =
    (fresh : Fresh ℕ) (world : World ℕ) (name : TaskName) (task : Task ℕ) (source path : List ℕ) (from here : Here ℕ)
    → walk_end (source_walk nat_eq (looks_of nat_eq world) task source) ≡ Ok from
    → walk_end (destination_walk nat_eq (looks_of nat_eq world) task path) ≡ Ok here
    → Leaves fresh world name task (MoveMount source path)
    (moved_to nat_eq fresh world from.location.mount here.location)

abbrev pub MountMounts : Type 0
MountMounts =
    (fresh : Fresh ℕ) (world : World ℕ) (name : TaskName) (task : Task ℕ) (path : List ℕ) (flags : MountFlags)
    (here : Here ℕ)
    → walk_end (destination_walk nat_eq (looks_of nat_eq world) task path) ≡ Ok here
    → Leaves fresh world name task (MountPlain path flags)
    (mounted nat_eq (odds fresh) world here.location (plain_filesystem nat_eq fresh) flags)

abbrev pub OverlayMounts : Type 0
OverlayMounts =
    (fresh : Fresh ℕ) (world : World ℕ) (name : TaskName) (task : Task ℕ) (path : List ℕ) (words : OverlayWords)
    (flags : MountFlags) (here : Here ℕ) (places : LayerLocations ℕ)
    → walk_end (destination_walk nat_eq (looks_of nat_eq world) task path) ≡ Ok here
    → layers_walked nat_eq (looks_of nat_eq world) task words ≡ Ok places
    → Leaves fresh world name task (MountOverlay path (Some words) flags)
    (mounted nat_eq (odds fresh) world here.location
    (overlay_filesystem nat_eq (evens fresh) world (overlay_at (looks_of nat_eq world) task places)) flags)

abbrev pub LazyUnmounts : Type 0
LazyUnmounts =
    (fresh : Fresh ℕ) (world : World ℕ) (name : TaskName) (task : Task ℕ) (path : List ℕ) (here : Here ℕ)
    → walk_end (directory_walk nat_eq (looks_of nat_eq world) task path) ≡ Ok here
    → Leaves fresh world name task (Lazy path) (lazily_unmounted nat_eq world here.location.mount)

abbrev pub RemountSetsFlags : Type 0
RemountSetsFlags =
    (fresh : Fresh ℕ) (world : World ℕ) (name : TaskName) (task : Task ℕ) (path : List ℕ) (flags : MountFlags)
    (here : Here ℕ)
    → walk_end (directory_walk nat_eq (looks_of nat_eq world) task path) ≡ Ok here
    → Leaves fresh world name task (Remount path flags) (with_flags nat_eq world here.location.mount flags)

abbrev pub TypeIsSet : Type 0
TypeIsSet =
    (fresh : Fresh ℕ) (world : World ℕ) (name : TaskName) (task : Task ℕ) (path : List ℕ) (word : TypeWord)
    (recursive : Bool) (here : Here ℕ)
    → walk_end (directory_walk nat_eq (looks_of nat_eq world) task path) ≡ Ok here
    → Leaves fresh world name task (SetType path word recursive)
    (with_type nat_eq fresh world here.location.mount word recursive)

abbrev pub PivotPivots : Type 0
PivotPivots =
    (fresh : Fresh ℕ) (world : World ℕ) (name : TaskName) (task : Task ℕ) (new put : List ℕ) (root here : Here ℕ)
    → walk_end (source_walk nat_eq (looks_of nat_eq world) task new) ≡ Ok root
    → walk_end (destination_walk nat_eq (looks_of nat_eq world) task put) ≡ Ok here
    → Leaves fresh world name task (PivotRoot new put)
    (pivoted nat_eq world task.namespace (mount_at nat_eq world task.root)
    (mount_at nat_eq world root.location) here.location)

-- A removed directory takes the mounts on it away, with all their descendants.
abbrev pub RmdirTakesMounts : Type 0
RmdirTakesMounts =
    (fresh : Fresh ℕ) (world : World ℕ) (name : TaskName) (task : Task ℕ) (path : List ℕ) (place : Place ℕ)
    → walk_end (old_walk nat_eq (looks_of nat_eq world) task path) ≡ Ok place
    → Leaves fresh world name task (Rmdir path) (without_mounts_on nat_eq world (object_there place))

-- A namespace ends with its last task, which exits, or enters another one.
abbrev pub ExitEnds : Type 0
ExitEnds =
    (fresh : Fresh ℕ) (world : World ℕ) (name : TaskName) (task : Task ℕ)
    → Leaves fresh world name task Exit (namespaces_ended nat_eq (without_task world task.name))

abbrev pub UnshareCopies : Type 0
UnshareCopies =
    (fresh : Fresh ℕ) (world : World ℕ) (name : TaskName) (task : Task ℕ)
    → Leaves fresh world name task Unshare (namespaces_ended nat_eq (unshared nat_eq world fresh task))

abbrev pub SetnsEnters : Type 0
SetnsEnters =
    (fresh : Fresh ℕ) (world : World ℕ) (name target : TaskName) (task other : Task ℕ)
    → task_called world target ≡ Some other
    → Leaves fresh world name task (Setns target)
    (namespaces_ended nat_eq (namespace_entered nat_eq world task other.namespace))

-- So does one that a renamed directory replaces; where both names lead to one object, nothing is done.
abbrev pub RenameReplaces : Type 0
RenameReplaces =
    (fresh : Fresh ℕ) (world : World ℕ) (name : TaskName) (task : Task ℕ) (old new : List ℕ) (from to : Place ℕ)
    → walk_end (old_leaf_walk nat_eq (looks_of nat_eq world) task old) ≡ Ok from
    → walk_end (rename_new_walk nat_eq (looks_of nat_eq world) task new
    (is_directory_there nat_eq (looks_of nat_eq world) from)) ≡ Ok to
    → is_one_object nat_eq (looks_of nat_eq world) (object_there from) to.object ≡ false
    → Leaves fresh world name task (Rename old new) (without_replaced nat_eq world to.object)

abbrev pub RenameOfOneObject : Type 0
RenameOfOneObject =
    (fresh : Fresh ℕ) (world : World ℕ) (name : TaskName) (task : Task ℕ) (old new : List ℕ) (from to : Place ℕ)
    → walk_end (old_leaf_walk nat_eq (looks_of nat_eq world) task old) ≡ Ok from
    → walk_end (rename_new_walk nat_eq (looks_of nat_eq world) task new
    (is_directory_there nat_eq (looks_of nat_eq world) from)) ≡ Ok to
    → is_one_object nat_eq (looks_of nat_eq world) (object_there from) to.object ≡ true
    → Leaves fresh world name task (Rename old new) world
