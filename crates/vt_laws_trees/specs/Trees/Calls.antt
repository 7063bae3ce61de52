-- Calls on files, in worlds of plain filesystems.
use Rattle.std.specs.Prelude.{All, Bool, List, None, Option, Some, false, nat_eq, true, ℕ, ◌≡◌}
use Rattle.vt_spec.specs.Language.Calls.{Call, TaskName}
use Rattle.vt_spec.specs.Language.Calls.Call.{MountOverlay}
use Rattle.vt_spec.specs.Language.Script.{Grammar, Request, request_of}
use Rattle.vt_spec.specs.Language.Script.Request.{Asking, Calling}
use Rattle.vt_spec.specs.Lists.{Fresh}
use Rattle.vt_spec.specs.Machine.Mounts.{Location, root_of}
use Rattle.vt_spec.specs.Machine.Policy.{policy}
use Rattle.vt_spec.specs.Machine.World.{World, is_directory_at, is_overlay, opening}
use Rattle.vt_spec.specs.Machine.Invariants.{IsWorld}
use Rattle.vt_laws_trees.specs.Trees.Settling.{HasFileTrees}

-- a world without overlays, whose filesystems are trees
pub record IsWorldOfTrees (world : World ℕ) : Type 0 where
  pub plain : All (λ filesystem. is_overlay filesystem ≡ false) world.filesystems
  pub trees : HasFileTrees world

-- the root of each mount, and the place that it stands at, are directories
pub record IsStanding (world : World ℕ) : Type 0 where
  pub roots : All (λ mount. is_directory_at nat_eq world (root_of mount) ≡ true) world.mounts
  pub places : All (λ mount. (place : Location ℕ) → mount.mount_point ≡ Some place → is_directory_at nat_eq world place ≡ true) world.mounts

-- In each world that has the invariants of worlds they are.
abbrev pub WorldsAreStanding : Type 0
WorldsAreStanding = (world : World ℕ) → IsWorld nat_eq world → IsStanding world

-- the numbers handed in are numbers of no inode
abbrev pub AreNew : Fresh ℕ → World ℕ → Type 0
AreNew fresh world = All (λ filesystem. (k : ℕ) → filesystem.files.tree.node (fresh k) ≡ None) world.filesystems

-- the one call that makes an overlay
abbrev pub mounts_overlay : Call → Bool
mounts_overlay (MountOverlay path options flags) = true
mounts_overlay call = false

-- a line asks for the mount of an overlay
abbrev pub asks_for_overlay : Option Request → Bool
asks_for_overlay None = false
asks_for_overlay (Some (Calling task call)) = mounts_overlay call
asks_for_overlay (Some (Asking directive)) = false

-- and no line of a script does
abbrev pub HasNoOverlays : Grammar → List (List ℕ) → Type 0
HasNoOverlays grammar lines = All (λ line. asks_for_overlay (request_of grammar line) ≡ false) lines

-- The opening world has trees.
abbrev pub OpeningHasTrees : Type 0
OpeningHasTrees = (fresh : Fresh ℕ) → IsWorldOfTrees (opening nat_eq fresh) × IsStanding (opening nat_eq fresh)

-- Every call but the mount of an overlay leaves trees, whether it is granted or refused: mkdir(2), symlink(2),
-- mknod(2), link(2), unlink(2), rmdir(2), rename(2), chmod(2), chown(2), setxattr(2), open(2), write(2), pwrite(2), and
-- those on tasks, namespaces and mounts.
abbrev pub CallsKeepTrees : Type 0
CallsKeepTrees =
    (world : World ℕ) (fresh : Fresh ℕ) (name : TaskName) (call : Call)
    → IsWorldOfTrees world → IsStanding world → AreNew fresh world → mounts_overlay call ≡ false
    → IsWorldOfTrees (policy nat_eq fresh world name call).world
