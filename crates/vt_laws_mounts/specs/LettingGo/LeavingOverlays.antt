-- What goes when tasks leave places, in worlds with overlays: close(2), chdir(2), chroot(2), setns(2), _exit(2).
use Rattle.std.specs.Prelude.{List, [], flat_map, if◌then◌else◌, map, nat_eq, true, ℕ, ◌++◌, ◌∷◌, ◌≡◌}
use Rattle.vt_spec.specs.Lists.{folded}
use Rattle.vt_spec.specs.Machine.Locked.{of_overlay}
use Rattle.vt_spec.specs.Machine.Mounts.{Location}
use Rattle.vt_spec.specs.Machine.Settled.{settled}
use Rattle.vt_spec.specs.Machine.World.{Task, World, layers_of, mount_at}
use Rattle.vt_laws_mounts.specs.LettingGo.InUse.{AllInUse, HasTrees, UppersArePlain}
use Rattle.vt_laws_mounts.specs.LettingGo.Leaving.{MountsStand, comes_nowhere, each_comes_nowhere, inodes_of_location, only_these_are_left, with_sweeps, with_tasks}
use Rattle.vt_laws_mounts.specs.LettingGo.OneByOne.{Losers}
use Rattle.vt_laws_mounts.specs.LettingGo.Overlays.{RealsAreThere, let_go_all, used_by_filesystems}

-- a world in which all is in use, overlays or not
pub record IsSettled (world : World ℕ) : Type 0 where
  pub in_use : AllInUse world
  pub trees : HasTrees world
  pub uppers : UppersArePlain world
  pub reals : RealsAreThere world
  pub mounts : MountsStand world

-- the filesystems that the layers of an overlay are in
abbrev pub filesystems_of_layers : World ℕ → ℕ → List ℕ
filesystems_of_layers world number =
    flat_map (λ filesystem.
    if nat_eq filesystem.number number then map (λ layer. layer.filesystem) (of_overlay [] layers_of filesystem)
    else [])
    world.filesystems

abbrev pub filesystems_of_location : World ℕ → Location ℕ → List ℕ
filesystems_of_location world location =
    (mount_at nat_eq world location).filesystem
    ∷ filesystems_of_layers world (mount_at nat_eq world location).filesystem

-- what the locations that were left used, and what overlays among that used
abbrev pub used_with_layers : World ℕ → List (Location ℕ) → Losers
used_with_layers world left = record {
  mounts = map (λ location. location.mount) left;
  filesystems = flat_map (filesystems_of_location world) left;
  inodes = flat_map (inodes_of_location world) left
      ++ used_by_filesystems world (flat_map (filesystems_of_location world) left);
  groups = [];
}

-- A change of tasks: of what the locations that were left used, that goes which nothing uses any more, and nothing
-- else.
abbrev pub LeavingOverlaysLetsGo : Type 0
LeavingOverlaysLetsGo =
    (world : World ℕ) (tasks : List (Task ℕ)) (left : List (Location ℕ)) → IsSettled world
    → only_these_are_left world tasks left ≡ true
    → settled nat_eq (with_tasks world tasks) ≡ let_go_all (with_tasks world tasks) (used_with_layers world left)

-- Where no place was left, nothing goes.
abbrev pub StayingKeepsOverlays : Type 0
StayingKeepsOverlays =
    (world : World ℕ) (tasks : List (Task ℕ)) → IsSettled world → only_these_are_left world tasks [] ≡ true
    → settled nat_eq (with_tasks world tasks) ≡ with_tasks world tasks

-- Where tasks only leave locations, a sweep before that makes no difference after the sweep that follows.
abbrev pub OneSweepForSeveralWithOverlays : Type 0
OneSweepForSeveralWithOverlays =
    (world : World ℕ) (tasks : List (Task ℕ)) → HasTrees world → UppersArePlain world → RealsAreThere world
    → MountsStand world → comes_nowhere world tasks ≡ true
    → settled nat_eq (with_tasks (settled nat_eq world) tasks) ≡ settled nat_eq (with_tasks world tasks)

-- So for any number of changes.
abbrev pub OneSweepForAllWithOverlays : Type 0
OneSweepForAllWithOverlays =
    (world : World ℕ) (changes : List (List (Task ℕ))) → HasTrees world → UppersArePlain world → RealsAreThere world
    → MountsStand world → each_comes_nowhere world changes ≡ true
    → with_sweeps with_tasks (settled nat_eq world) changes ≡ settled nat_eq (folded with_tasks world changes)
