-- What goes when types of mounts change: mount(2) with MS_SHARED, MS_SLAVE, MS_PRIVATE, MS_UNBINDABLE, also with
-- MS_REC.
use Rattle.std.specs.Prelude.{Bool, List, map, nat_eq, true, ℕ, ◌++◌, ◌≡◌}
use Rattle.vt_spec.specs.Language.Calls.{TypeWord}
use Rattle.vt_spec.specs.Lists.{Fresh}
use Rattle.vt_spec.specs.Machine.Apply.{apply}
use Rattle.vt_spec.specs.Machine.Mounts.{numbers_by}
use Rattle.vt_spec.specs.Machine.Permits.Permit.{ToSetType}
use Rattle.vt_spec.specs.Machine.Settled.{settled}
use Rattle.vt_spec.specs.Machine.Types.{named_mounts}
use Rattle.vt_spec.specs.Machine.World.{Task, World}
use Rattle.vt_laws_mounts.specs.LettingGo.Attaching.{is_attached}
use Rattle.vt_laws_mounts.specs.LettingGo.InUse.{AllInUse}
use Rattle.vt_laws_mounts.specs.LettingGo.Unmounting.{groups_of_mounts}
use Rattle.vt_laws_mounts.specs.LettingGo.Leaving.{MountsStand}
use Rattle.vt_laws_mounts.specs.LettingGo.OneByOne.{let_go_groups}

-- The groups that a change of types may leave without members: those of the mounts, and the new ones, which get members
-- only where mounts become shared
abbrev pub groups_of_types : Fresh ℕ → World ℕ → ℕ → Bool → List ℕ
groups_of_types fresh world number recursive =
    groups_of_mounts world (map (λ mount. mount.number) (named_mounts nat_eq world number recursive))
    ++ map (λ mount. numbers_by nat_eq fresh (named_mounts nat_eq world number recursive) mount.number)
    (named_mounts nat_eq world number recursive)

-- A change of the type of a mount in a namespace, or of all below it too, leaves all mounts, filesystems and inodes, in
-- any world in which all was in use. Of these groups those without members have no master any more.
abbrev pub SetTypesLetGo : Type 0
SetTypesLetGo =
    (fresh : Fresh ℕ) (world : World ℕ) (task : Task ℕ) (number : ℕ) (word : TypeWord) (recursive : Bool)
    → AllInUse world → MountsStand world → is_attached world number ≡ true
    → settled nat_eq (apply nat_eq fresh world task (ToSetType number word recursive)).world
    ≡ let_go_groups (apply nat_eq fresh world task (ToSetType number word recursive)).world
    (groups_of_types fresh world number recursive)
