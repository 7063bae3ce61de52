-- Namespaces that end: their mounts are detached one after the other, with a sweep after each, or all at once.
-- mount_namespaces(7), umount(2).
use Rattle.std.specs.Prelude.{List, [], false, filter, map, nat_eq, ⊤, ℕ, ◌∷◌, ◌≡◌}
use Rattle.vt_spec.specs.Lists.{is_among}
use Rattle.vt_spec.specs.Machine.Detach.{deepest_first, has_child, taken_away}
use Rattle.vt_spec.specs.Machine.Invariants.{MountInvariants}
use Rattle.vt_spec.specs.Machine.Namespaces.{has_tasks, is_in_ended, namespaces_ended}
use Rattle.vt_spec.specs.Machine.Settled.{settled}
use Rattle.vt_spec.specs.Machine.World.{Namespace, World}
use Rattle.vt_laws_mounts.specs.LettingGo.InUse.{HasTrees, UppersArePlain}
use Rattle.vt_laws_mounts.specs.LettingGo.Leaving.{with_sweeps}
use Rattle.vt_laws_mounts.specs.LettingGo.Mounting.{ended_mounts}
use Rattle.vt_laws_mounts.specs.LettingGo.Overlays.{RealsAreThere}

-- the world with one mount detached, alone
abbrev pub without_one : World ℕ → ℕ → World ℕ
without_one world number = taken_away nat_eq world (number ∷ [])

-- each of these mounts has no child when its turn comes
abbrev pub GoInTurn : World ℕ → List ℕ → Type 0
GoInTurn world [] = ⊤
GoInTurn world (number ∷ rest) = (has_child nat_eq world number ≡ false) × GoInTurn (without_one world number) rest

-- these are the mounts of namespaces without tasks, in whichever order
abbrev pub AreEnded : World ℕ → List ℕ → Type 0
AreEnded world numbers = (number : ℕ)
    → is_among nat_eq number numbers ≡ is_among nat_eq number (ended_mounts world)

-- Mounts that are detached one by one, each without a child then: with a sweep after each, or all at once with one
-- sweep, the same world is left.
abbrev pub OneByOneAreSweptOnce : Type 0
OneByOneAreSweptOnce =
    (world : World ℕ) (numbers : List ℕ) → HasTrees world → UppersArePlain world → RealsAreThere world
    → MountInvariants nat_eq world → GoInTurn world numbers
    → with_sweeps without_one (settled nat_eq world) numbers ≡ settled nat_eq (taken_away nat_eq world numbers)

-- So the mounts of namespaces without tasks: what is left, once these namespaces are no longer listed, is what the end
-- of the namespaces and one sweep leave.
abbrev pub NamespacesEndInTurn : Type 0
NamespacesEndInTurn =
    (world : World ℕ) (numbers : List ℕ) → HasTrees world → UppersArePlain world → RealsAreThere world
    → MountInvariants nat_eq world → GoInTurn world numbers → AreEnded world numbers
    → record (with_sweeps without_one (settled nat_eq world) numbers) {
      namespaces = filter (has_tasks nat_eq world) world.namespaces;
    } ≡ settled nat_eq (namespaces_ended nat_eq world)

-- the world with these namespaces listed
abbrev pub with_namespaces : World ℕ → List (Namespace ℕ) → World ℕ
with_namespaces world namespaces = record world { namespaces = namespaces }

-- Namespaces without tasks are taken off the list first, and then their mounts are detached one by one, none of which
-- has a child when its turn comes, with a sweep after each: what is left is what their end and one sweep leave.
abbrev pub UnlistedNamespacesEndInTurn : Type 0
UnlistedNamespacesEndInTurn =
    (world : World ℕ) (numbers : List ℕ) → HasTrees world → UppersArePlain world → RealsAreThere world
    → MountInvariants nat_eq world → GoInTurn world numbers → AreEnded world numbers
    → with_sweeps without_one
    (settled nat_eq (with_namespaces world (filter (has_tasks nat_eq world) world.namespaces))) numbers
    ≡ settled nat_eq (namespaces_ended nat_eq world)

-- the mounts of namespaces without tasks, the deepest first
abbrev pub ended_in_turn : World ℕ → List ℕ
ended_in_turn world =
    map (λ mount. mount.number) (deepest_first nat_eq world (filter (is_in_ended nat_eq world) world.mounts))

-- There is such an order: the deepest first.
abbrev pub EndedGoInTurn : Type 0
EndedGoInTurn =
    (world : World ℕ) → MountInvariants nat_eq world
    → GoInTurn world (ended_in_turn world) × AreEnded world (ended_in_turn world)

-- So the mounts of namespaces that end may go with a sweep after each, the deepest first.
abbrev pub NamespacesEndDeepestFirst : Type 0
NamespacesEndDeepestFirst =
    (world : World ℕ) → HasTrees world → UppersArePlain world → RealsAreThere world → MountInvariants nat_eq world
    → record (with_sweeps without_one (settled nat_eq world) (ended_in_turn world)) {
      namespaces = filter (has_tasks nat_eq world) world.namespaces;
    } ≡ settled nat_eq (namespaces_ended nat_eq world)

-- each of these mounts has no child when its turn comes, where the world is swept after each
abbrev pub GoInTurnSwept : World ℕ → List ℕ → Type 0
GoInTurnSwept world [] = ⊤
GoInTurnSwept world (number ∷ rest) =
    (has_child nat_eq world number ≡ false) × GoInTurnSwept (settled nat_eq (without_one world number)) rest

-- Sweeps make no difference to that: it is enough to look for children in the worlds that are swept.
abbrev pub TurnsAreSeenSwept : Type 0
TurnsAreSeenSwept =
    (world : World ℕ) (numbers : List ℕ) → HasTrees world → UppersArePlain world → RealsAreThere world
    → MountInvariants nat_eq world → GoInTurnSwept (settled nat_eq world) numbers → GoInTurn world numbers
