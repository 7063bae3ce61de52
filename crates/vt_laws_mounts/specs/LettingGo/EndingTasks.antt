-- What goes when tasks leave locations and namespaces at once: _exit(2), setns(2), unshare(2) with CLONE_NEWNS.
use Rattle.std.specs.Prelude.{List, filter, flat_map, map, nat_eq, true, ℕ, ◌++◌, ◌≡◌}
use Rattle.vt_spec.specs.Language.Calls.{TaskName, same_name}
use Rattle.vt_spec.specs.Lists.{Fresh}
use Rattle.vt_spec.specs.Machine.Apply.{apply}
use Rattle.vt_spec.specs.Machine.Mounts.{Location}
use Rattle.vt_spec.specs.Machine.Namespaces.{namespace_entered, namespaces_ended, unshared}
use Rattle.vt_spec.specs.Machine.Permits.Permit.{ToEnterNamespace, ToExit, ToUnshare}
use Rattle.vt_spec.specs.Machine.Settled.{settled}
use Rattle.vt_spec.specs.Machine.World.{Task, World, locations_of, without_task}
use Rattle.vt_laws_mounts.specs.LettingGo.Keeping.{LocationsStand}
use Rattle.vt_laws_mounts.specs.LettingGo.Unmounting.{groups_of_mounts}
use Rattle.vt_laws_mounts.specs.LettingGo.Leaving.{IsSettledPlain, only_these_are_left, with_tasks}
use Rattle.vt_laws_mounts.specs.LettingGo.LeavingOverlays.{IsSettled}
use Rattle.vt_laws_mounts.specs.LettingGo.Mounting.{ended_mounts, places_lost, used_by_mounts}
use Rattle.vt_laws_mounts.specs.LettingGo.MountingOverlays.{used_by_mounts_with_layers}
use Rattle.vt_laws_mounts.specs.LettingGo.OneByOne.{Losers, let_go}
use Rattle.vt_laws_mounts.specs.LettingGo.Overlays.{let_go_all}

-- the mounts of locations that were left, and those of the namespaces that have no task in another world
abbrev pub gone_with : List (Location ℕ) → World ℕ → List ℕ
gone_with left ending = map (λ location. location.mount) left ++ ended_mounts ending

-- What they used, with the locations themselves, and the mount points of mounts of ended namespaces and of mounts on
-- them
abbrev pub used_by_ended : World ℕ → List (Location ℕ) → World ℕ → Losers
used_by_ended world left ending =
    used_by_mounts world (gone_with left ending) (places_lost world (ended_mounts ending) ++ left)
    (groups_of_mounts ending (ended_mounts ending))

abbrev pub used_by_ended_with_layers : World ℕ → List (Location ℕ) → World ℕ → Losers
used_by_ended_with_layers world left ending =
    used_by_mounts_with_layers world (gone_with left ending) (places_lost world (ended_mounts ending) ++ left)
    (groups_of_mounts ending (ended_mounts ending))

-- Where tasks leave locations, and namespaces end that have no task then: of what these used, that goes which nothing
-- uses any more, and nothing else.
abbrev pub LeavingNamespacesLetsGo : Type 0
LeavingNamespacesLetsGo =
    (world : World ℕ) (tasks : List (Task ℕ)) (left : List (Location ℕ)) → IsSettledPlain world
    → only_these_are_left world tasks left ≡ true
    → settled nat_eq (namespaces_ended nat_eq (with_tasks world tasks))
    ≡ let_go (namespaces_ended nat_eq (with_tasks world tasks)) (used_by_ended world left (with_tasks world tasks))

abbrev pub LeavingNamespacesWithOverlaysLetsGo : Type 0
LeavingNamespacesWithOverlaysLetsGo =
    (world : World ℕ) (tasks : List (Task ℕ)) (left : List (Location ℕ)) → IsSettled world
    → only_these_are_left world tasks left ≡ true
    → settled nat_eq (namespaces_ended nat_eq (with_tasks world tasks))
    ≡ let_go_all (namespaces_ended nat_eq (with_tasks world tasks))
    (used_by_ended_with_layers world left (with_tasks world tasks))

-- the locations of the task of a name
abbrev pub locations_of_named : World ℕ → TaskName → List (Location ℕ)
locations_of_named world name = flat_map locations_of (filter (λ task. same_name name task.name) world.tasks)

-- A task that ends leaves its locations, and its namespace if it was the last one there.
abbrev pub ExitsLetGo : Type 0
ExitsLetGo =
    (fresh : Fresh ℕ) (world : World ℕ) (task : Task ℕ) → IsSettledPlain world
    → settled nat_eq (apply nat_eq fresh world task ToExit).world
    ≡ let_go (apply nat_eq fresh world task ToExit).world
    (used_by_ended world (locations_of_named world task.name) (without_task world task.name))

abbrev pub ExitsWithOverlaysLetGo : Type 0
ExitsWithOverlaysLetGo =
    (fresh : Fresh ℕ) (world : World ℕ) (task : Task ℕ) → IsSettled world
    → settled nat_eq (apply nat_eq fresh world task ToExit).world
    ≡ let_go_all (apply nat_eq fresh world task ToExit).world
    (used_by_ended_with_layers world (locations_of_named world task.name) (without_task world task.name))

-- One that enters a namespace leaves its root and working directory, and its namespace.
abbrev pub EntersLetGo : Type 0
EntersLetGo =
    (fresh : Fresh ℕ) (world : World ℕ) (task : Task ℕ) (namespace : ℕ) → IsSettledPlain world
    → settled nat_eq (apply nat_eq fresh world task (ToEnterNamespace namespace)).world
    ≡ let_go (apply nat_eq fresh world task (ToEnterNamespace namespace)).world
    (used_by_ended world (locations_of_named world task.name) (namespace_entered nat_eq world task namespace))

abbrev pub EntersWithOverlaysLetGo : Type 0
EntersWithOverlaysLetGo =
    (fresh : Fresh ℕ) (world : World ℕ) (task : Task ℕ) (namespace : ℕ) → IsSettled world
    → settled nat_eq (apply nat_eq fresh world task (ToEnterNamespace namespace)).world
    ≡ let_go_all (apply nat_eq fresh world task (ToEnterNamespace namespace)).world
    (used_by_ended_with_layers world (locations_of_named world task.name)
    (namespace_entered nat_eq world task namespace))

-- One that gets copies of its mounts in a namespace of its own leaves the same; the copies take nothing away.
abbrev pub UnsharesLetGo : Type 0
UnsharesLetGo =
    (fresh : Fresh ℕ) (world : World ℕ) (task : Task ℕ) → IsSettledPlain world → LocationsStand world
    → settled nat_eq (apply nat_eq fresh world task ToUnshare).world
    ≡ let_go (apply nat_eq fresh world task ToUnshare).world
    (used_by_ended world (locations_of_named world task.name) (unshared nat_eq world fresh task))

abbrev pub UnsharesWithOverlaysLetGo : Type 0
UnsharesWithOverlaysLetGo =
    (fresh : Fresh ℕ) (world : World ℕ) (task : Task ℕ) → IsSettled world → LocationsStand world
    → settled nat_eq (apply nat_eq fresh world task ToUnshare).world
    ≡ let_go_all (apply nat_eq fresh world task ToUnshare).world
    (used_by_ended_with_layers world (locations_of_named world task.name) (unshared nat_eq world fresh task))
