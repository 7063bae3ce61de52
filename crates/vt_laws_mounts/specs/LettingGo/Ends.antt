-- A namespace ends with its last task, and how many mounts a namespace has: mount_namespaces(7), proc(5).
use Rattle.std.specs.Prelude.{Bool, List, false, filter, length, map, nat_eq, nat_lt, not, option_to_list, true, ℕ, ◌+◌, ◌++◌, ◌||◌, ◌≡◌, ◌≤◌}
use Rattle.std.specs.List.{list_all, list_any}
use Rattle.vt_spec.specs.Machine.Attach.{has_too_many}
use Rattle.vt_spec.specs.Language.Limits.{most_mounts}
use Rattle.vt_spec.specs.Machine.Detach.{taken_away}
use Rattle.vt_spec.specs.Lists.{holds_of, is_among}
use Rattle.vt_spec.specs.Machine.Mounts.{Mount}
use Rattle.vt_spec.specs.Machine.Namespaces.{has_tasks, namespaces_ended}
use Rattle.vt_spec.specs.Machine.Receives.{regrouped}
use Rattle.vt_spec.specs.Machine.World.{World, mounts_of, with_mounts}
use Rattle.vt_spec.specs.Machine.Invariants.{is_listed}
use Rattle.vt_laws_mounts.specs.Mounts.Ending.{is_in, mount_count}

-- the namespace of each mount is there
abbrev pub MountsAreListed : World ℕ → Type 0
MountsAreListed world =
    list_all (λ mount. list_all (is_listed nat_eq world) (option_to_list mount.namespace)) world.mounts ≡ true

-- While each namespace has a task, none ends.
abbrev pub NoNamespaceEnds : Type 0
NoNamespaceEnds =
    (world : World ℕ) → MountsAreListed world → list_all (has_tasks nat_eq world) world.namespaces ≡ true
    → namespaces_ended nat_eq world ≡ regrouped nat_eq world

-- the namespace goes, and its mounts are taken away, without propagation
abbrev pub without_namespace : World ℕ → ℕ → World ℕ
without_namespace world number =
    record (taken_away nat_eq world (map (λ mount. mount.number) (mounts_of nat_eq world number))) {
      namespaces = filter (λ namespace. not (nat_eq number namespace.number)) world.namespaces;
    }

-- Where one namespace has no task, that one ends, and no other.
abbrev pub OneNamespaceEnds : Type 0
OneNamespaceEnds =
    (world : World ℕ) (number : ℕ) → MountsAreListed world
    → list_any (λ task. nat_eq number task.namespace) world.tasks ≡ false
    → list_all (λ namespace. nat_eq number namespace.number || has_tasks nat_eq world namespace) world.namespaces ≡ true
    → namespaces_ended nat_eq world ≡ without_namespace world number

-- Mounts that are added to one namespace count there,
abbrev pub AddedMountsCount : Type 0
AddedMountsCount =
    (world : World ℕ) (added : List (Mount ℕ)) (namespace : ℕ)
    → list_all (is_in namespace) added ≡ true
    → mount_count (with_mounts world (world.mounts ++ added)) namespace ≡ mount_count world namespace + length added

-- and in no other.
abbrev pub AddedMountsCountInNoOther : Type 0
AddedMountsCountInNoOther =
    (world : World ℕ) (added : List (Mount ℕ)) (namespace other : ℕ) → list_all (is_in namespace) added ≡ true
    → nat_eq other namespace ≡ false
    → mount_count (with_mounts world (world.mounts ++ added)) other ≡ mount_count world other

-- Of mounts that are added to several namespaces, as at receivers, each counts in its own.
abbrev pub AddedMountsCountInTheirOwn : Type 0
AddedMountsCountInTheirOwn =
    (world : World ℕ) (added : List (Mount ℕ)) (namespace : ℕ)
    → mount_count (with_mounts world (world.mounts ++ added)) namespace
    ≡ mount_count world namespace + length (filter (is_in namespace) added)

-- Where no other namespace got more mounts, there are too many just if there are in this one.
abbrev pub TooManyIsOfOne : Type 0
TooManyIsOfOne =
    (world after : World ℕ) (namespace : ℕ) → has_too_many nat_eq world ≡ false → after.namespaces ≡ world.namespaces
    → is_listed nat_eq world namespace ≡ true
    → ((other : ℕ) → nat_eq other namespace ≡ false → mount_count after other ≤ mount_count world other)
    → has_too_many nat_eq after ≡ nat_lt most_mounts (mount_count after namespace)

-- So of several namespaces: propagation adds mounts to each that has a receiver.
abbrev pub TooManyIsOfSome : Type 0
TooManyIsOfSome =
    (world after : World ℕ) (namespaces : List ℕ) → has_too_many nat_eq world ≡ false
    → after.namespaces ≡ world.namespaces → list_all (is_listed nat_eq world) namespaces ≡ true
    → ((other : ℕ) → is_among nat_eq other namespaces ≡ false → mount_count after other ≤ mount_count world other)
    → has_too_many nat_eq after ≡ list_any (λ namespace. nat_lt most_mounts (mount_count after namespace)) namespaces
