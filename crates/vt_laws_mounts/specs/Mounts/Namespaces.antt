-- Mounts of namespaces: mount_namespaces(7), unshare(2), pivot_root(2).
use Rattle.std.specs.List.{list_all}
use Rattle.std.specs.Prelude.{Bool, None, [], false, filter, is_some, length, map, Some, option_to_list, true, ℕ, nat_eq, ◌≡◌}
use Rattle.vt_spec.specs.Language.Calls.{MountFlags, TypeWord}
use Rattle.vt_spec.specs.Lists.{Fresh, evens, odds}
use Rattle.vt_spec.specs.Machine.Looks.{looks_of}
use Rattle.vt_spec.specs.Machine.Mounts.{Location, Mount, child_at, numbers_by, root_of, topmost}
use Rattle.vt_spec.specs.Machine.Namespaces.{copied_mount, pivoted, unshared}
use Rattle.vt_spec.specs.Machine.World.{Task, World, mount_at, mount_numbered, mounts_of, with_flags}
use Rattle.vt_spec.specs.Machine.Rules.Mounting.{is_on_descendant, lies_under_location}
use Rattle.vt_spec.specs.Machine.Run.{Serves}
use Rattle.vt_spec.specs.Machine.Types.{with_type}
use Rattle.vt_spec.specs.Machine.Invariants.{MountInvariants, is_listed, is_root_mount}
use Rattle.vt_laws_mounts.specs.Mounts.Invariants.{OneNumberEach}

-- Where mounts have their invariants, no mount stands over the topmost one over a location.
abbrev pub TopmostIsFree : Type 0
TopmostIsFree =
    (world : World ℕ) (location : Location ℕ) → MountInvariants nat_eq world
    → child_at nat_eq world.mounts (topmost nat_eq world.mounts location) ≡ None

-- a namespace of a world has as many mounts, and as many root mounts, as one of another world
pub record HasAsMany (world : World ℕ) (namespace : ℕ) (after : World ℕ) (later : ℕ) : Type 0 where
  pub mounts : length (mounts_of nat_eq after later) ≡ length (mounts_of nat_eq world namespace)
  pub roots : length (filter (is_root_mount nat_eq) (mounts_of nat_eq after later))
      ≡ length (filter (is_root_mount nat_eq) (mounts_of nat_eq world namespace))

-- Unsharing

-- An unshare keeps the invariants of mounts: the copies of a namespace's mounts stand on copies.
abbrev pub UnshareKeepsMounts : Type 0
UnshareKeepsMounts =
    (world : World ℕ) (fresh : Fresh ℕ) (task : Task ℕ) → Serves nat_eq world fresh → MountInvariants nat_eq world
    → MountInvariants nat_eq (unshared nat_eq world fresh task)

-- Every namespace but the new one has the mounts that it had.
abbrev pub UnshareLeavesNamespaces : Type 0
UnshareLeavesNamespaces =
    (world : World ℕ) (fresh : Fresh ℕ) (task : Task ℕ) (namespace : ℕ) → nat_eq namespace (evens fresh 0) ≡ false
    → mounts_of nat_eq (unshared nat_eq world fresh task) namespace ≡ mounts_of nat_eq world namespace

-- The new one has no mount before, where the namespaces of mounts are listed,
abbrev pub NewNamespaceIsEmpty : Type 0
NewNamespaceIsEmpty =
    (world : World ℕ) (fresh : Fresh ℕ) → Serves nat_eq world fresh
    → list_all (λ mount. list_all (is_listed nat_eq world) (option_to_list mount.namespace)) world.mounts ≡ true
    → mounts_of nat_eq world (evens fresh 0) ≡ []

-- and has the copies after.
abbrev pub UnshareCopiesMounts : Type 0
UnshareCopiesMounts =
    (world : World ℕ) (fresh : Fresh ℕ) (task : Task ℕ) → mounts_of nat_eq world (evens fresh 0) ≡ []
    → mounts_of nat_eq (unshared nat_eq world fresh task) (evens fresh 0)
    ≡ map (copied_mount (numbers_by nat_eq (odds fresh) (mounts_of nat_eq world task.namespace)) (evens fresh 0))
    (mounts_of nat_eq world task.namespace)

abbrev pub UnshareKeepsCounts : Type 0
UnshareKeepsCounts =
    (world : World ℕ) (fresh : Fresh ℕ) (task : Task ℕ) → mounts_of nat_eq world (evens fresh 0) ≡ []
    → HasAsMany world task.namespace (unshared nat_eq world fresh task) (evens fresh 0)

-- Types and flags

-- A change of type keeps the invariants of mounts, where the named mount is in a namespace: one that is in none stays
-- private.
abbrev pub SetTypeKeepsMounts : Type 0
SetTypeKeepsMounts =
    (world : World ℕ) (fresh : Fresh ℕ) (one : ℕ) (word : TypeWord) (recursive : Bool) → Serves nat_eq world fresh
    → is_some (mount_numbered nat_eq world one).namespace ≡ true → MountInvariants nat_eq world
    → MountInvariants nat_eq (with_type nat_eq fresh world one word recursive)

abbrev pub SetTypeKeepsCounts : Type 0
SetTypeKeepsCounts =
    (world : World ℕ) (fresh : Fresh ℕ) (one : ℕ) (word : TypeWord) (recursive : Bool) (namespace : ℕ)
    → HasAsMany world namespace (with_type nat_eq fresh world one word recursive) namespace

-- So does a change of flags.
abbrev pub SetFlagsKeepMounts : Type 0
SetFlagsKeepMounts =
    (world : World ℕ) (here : Location ℕ) (flags : MountFlags) → MountInvariants nat_eq world
    → MountInvariants nat_eq (with_flags nat_eq world here.mount flags)

abbrev pub SetFlagsKeepCounts : Type 0
SetFlagsKeepCounts =
    (world : World ℕ) (here : Location ℕ) (flags : MountFlags) (namespace : ℕ) → OneNumberEach world
    → HasAsMany world namespace (with_flags nat_eq world here.mount flags) namespace

-- Pivoting

-- the mount of this number is in a namespace
abbrev pub IsIn : World ℕ → ℕ → ℕ → Type 0
IsIn world namespace mount = (mount_numbered nat_eq world mount).namespace ≡ Some namespace

-- What of pivot_root(2)'s conditions keeps the invariants: the old root mount, the new one and the mount of `put` are
-- in one namespace; the new root mount is a descendant of the old one, `put` is at or under the new root, and no mount
-- is attached there.
pub record CanPivot (world : World ℕ) (namespace : ℕ) (root new : Mount ℕ) (put : Location ℕ) : Type 0 where
  pub root_there : mount_numbered nat_eq world root.number ≡ root
  pub new_there : mount_numbered nat_eq world new.number ≡ new
  pub root_inside : root.namespace ≡ Some namespace
  pub new_inside : new.namespace ≡ Some namespace
  pub put_inside : (mount_at nat_eq world put).namespace ≡ Some namespace
  pub new_over : is_on_descendant nat_eq (looks_of nat_eq world) root.number (root_of new) ≡ true
  pub put_over : lies_under_location nat_eq (looks_of nat_eq world) (root_of new) put ≡ true
  pub put_free : child_at nat_eq world.mounts put ≡ None

-- Then a pivot keeps the invariants of mounts,
abbrev pub PivotKeepsMounts : Type 0
PivotKeepsMounts =
    (world : World ℕ) (namespace : ℕ) (root new : Mount ℕ) (put : Location ℕ) → CanPivot world namespace root new put
    → MountInvariants nat_eq world → MountInvariants nat_eq (pivoted nat_eq world namespace root new put)

-- and leaves each namespace as many mounts and as many root mounts.
abbrev pub PivotKeepsCounts : Type 0
PivotKeepsCounts =
    (world : World ℕ) (namespace : ℕ) (root new : Mount ℕ) (put : Location ℕ) → CanPivot world namespace root new put
    → MountInvariants nat_eq world → (other : ℕ)
    → HasAsMany world other (pivoted nat_eq world namespace root new put) other

-- What it asks for, of mounts that are given by their numbers
abbrev pub NumberedMountsCanPivot : Type 0
NumberedMountsCanPivot =
    (world : World ℕ) (namespace root : ℕ) (new put : Location ℕ) → IsIn world namespace root
    → IsIn world namespace new.mount → IsIn world namespace put.mount
    → new.node ≡ (mount_at nat_eq world new).root
    → is_on_descendant nat_eq (looks_of nat_eq world) root new ≡ true
    → lies_under_location nat_eq (looks_of nat_eq world) new put ≡ true → child_at nat_eq world.mounts put ≡ None
    → CanPivot world namespace (mount_numbered nat_eq world root) (mount_at nat_eq world new) put
