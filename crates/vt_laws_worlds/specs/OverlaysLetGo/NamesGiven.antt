-- What goes when a new object, or an object beside its own name, gets a name of an overlay: at the most what the upper
-- layer had there. mkdir(2), symlink(2), open(2) with O_CREAT, link(2); the kernel's overlayfs document, "whiteouts and
-- opaque directories".
use Rattle.std.specs.Prelude.{Bool, Contains, List, None, Option, Some, false, map, nat_eq, option_to_list, true, ℕ, ◌≡◌}
use Rattle.vt_spec.specs.Language.Calls.{Access}
use Rattle.vt_spec.specs.Language.Changes.{Change}
use Rattle.vt_spec.specs.Language.Changes.Change.{AddName, Make, Move, Remove}
use Rattle.vt_spec.specs.Lists.{Fresh, evens, odds, then_some}
use Rattle.vt_spec.specs.Machine.Apply.{apply}
use Rattle.vt_spec.specs.Machine.Filesystems.{with_change}
use Rattle.vt_spec.specs.Machine.Invariants.{IsWorld}
use Rattle.vt_spec.specs.Machine.Mounts.{Location}
use Rattle.vt_spec.specs.Machine.Permits.Permit.{ToOpenNew}
use Rattle.vt_spec.specs.Machine.Settled.{settled}
use Rattle.vt_spec.specs.Machine.World.{Layer, Overlay, Task, World, files_at, filesystem_numbered, upper_object}
use Rattle.vt_spec.specs.Tree.{Node}
use Rattle.vt_spec.specs.TreeInvariant.{entry_at}
use Rattle.vt_laws_trees.specs.Trees.{IsProper}
use Rattle.vt_laws_mounts.specs.LettingGo.OneByOne.{Inode}
use Rattle.vt_laws_mounts.specs.LettingGo.Overlays.{let_go_plain}
use Rattle.vt_laws_worlds.specs.OverlaysLetGo.OverlayCalls.{is_on_mount}
use Rattle.vt_laws_worlds.specs.OverlaysLetGo.OverlayChanges.{CanChange}

-- a change that removes a name, or moves an object from one: unlink(2), rmdir(2), rename(2)
abbrev pub takes_a_name : Change ℕ → Bool
takes_a_name (Remove directory name object) = true
takes_a_name (Move from old to new object) = true
takes_a_name change = false

-- the directory and the name that any other change gives, if it gives one
abbrev pub name_given : Change ℕ → Option (ℕ × List ℕ)
name_given (Make directory name number node) = Some (directory, name)
name_given (AddName directory name object) = Some (directory, name)
name_given change = None

-- what the upper layer has at a name of an overlay, if it has the directory
abbrev pub upper_at_name : World ℕ → Overlay ℕ → Layer ℕ → ℕ × List ℕ → Option ℕ
upper_at_name world overlay upper name =
    then_some (upper_object (overlay.real name.0)) (λ directory.
    entry_at (filesystem_numbered nat_eq world upper.filesystem).files.tree directory name.1)

-- what the upper layer has at the name that a change gives
abbrev pub replaced_in_upper : World ℕ → Overlay ℕ → Layer ℕ → Change ℕ → List Inode
replaced_in_upper world overlay upper change =
    map (λ number. (upper.filesystem, number))
    (option_to_list (then_some (name_given change) (upper_at_name world overlay upper)))

-- After a change of an overlay that takes no name away, that is looked at, and nothing else goes.
abbrev pub GivenNamesLetGo : Type 0
GivenNamesLetGo =
    (fresh : Fresh ℕ) (world : World ℕ) (location : Location ℕ) (change : Change ℕ) (overlay : Overlay ℕ)
    (upper : Layer ℕ)
    → IsWorld nat_eq world → CanChange fresh world location change overlay upper
    → IsProper (files_at nat_eq world location).tree change → takes_a_name change ≡ false
    → settled nat_eq (with_change nat_eq fresh world location change)
    ≡ let_go_plain (with_change nat_eq fresh world location change) (replaced_in_upper world overlay upper change)

-- So it is after open(2) of a new file, by a task of the world, on a mount that is there.
abbrev pub OpenedNamesLetGo : Type 0
OpenedNamesLetGo =
    (fresh : Fresh ℕ) (world : World ℕ) (task : Task ℕ) (directory : Location ℕ) (name : List ℕ) (node : Node ℕ)
    (access : Access) (overlay : Overlay ℕ) (upper : Layer ℕ) → IsWorld nat_eq world → Contains world.tasks task
    → is_on_mount world directory ≡ true
    → CanChange (odds fresh) world directory (Make directory.node name (evens fresh 0) node) overlay upper
    → IsProper (files_at nat_eq world directory).tree (Make directory.node name (evens fresh 0) node)
    → settled nat_eq (apply nat_eq fresh world task (ToOpenNew directory name node access)).world
    ≡ let_go_plain (apply nat_eq fresh world task (ToOpenNew directory name node access)).world
    (replaced_in_upper world overlay upper (Make directory.node name (evens fresh 0) node))
