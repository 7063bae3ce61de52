-- Overlays without an upper layer are read-only: the kernel's overlayfs document, "multiple lower layers". Rule F2
-- refuses what would change one, but is not asked by pwrite(2): open(2) has asked it, and no later call takes an upper
-- layer from an overlay, or puts another filesystem under a descriptor.
use Rattle.std.specs.List.{list_all}
use Rattle.std.specs.Prelude.{Bool, List, Some, false, nat_eq, not, true, ℕ, ◌&&◌, ◌≡◌}
use Rattle.vt_laws_trees.specs.Calls.Inodes.{change_of}
use Rattle.vt_laws_mounts.specs.Counts.BesideOverlays.{OverlaysHaveNoUpper}
use Rattle.vt_laws_worlds.specs.Given.LeftWorlds.{IsGivenToTask}
use Rattle.vt_laws_worlds.specs.OverlayPermits.Asked.{change_asked}
use Rattle.vt_laws_worlds.specs.Permits.Left.{IsGiven, left_by}
use Rattle.vt_laws_rules.specs.Plain.{IsPlain}
use Rattle.vt_laws_trees.specs.Trees.Limits.{names_few_groups}
use Rattle.vt_laws_worlds.specs.Worlds.Calls.{LeadsTo}
use Rattle.vt_spec.specs.Language.Calls.{Access, Call, TaskName}
use Rattle.vt_spec.specs.Language.Changes.{Change}
use Rattle.vt_spec.specs.Language.Script.{Grammar}
use Rattle.vt_spec.specs.Lists.{Fresh}
use Rattle.vt_spec.specs.Machine.Apply.{apply}
use Rattle.vt_spec.specs.Machine.Descriptors.{is_copied_up}
use Rattle.vt_spec.specs.Machine.Invariants.{IsWorld}
use Rattle.vt_spec.specs.Machine.Looks.{looks_of}
use Rattle.vt_spec.specs.Machine.Mounts.{Location}
use Rattle.vt_spec.specs.Machine.Permits.{Permit}
use Rattle.vt_spec.specs.Machine.Permits.Permit.{ToOpen}
use Rattle.vt_spec.specs.Machine.Policy.{policy}
use Rattle.vt_spec.specs.Machine.Rules.Conditions.{has_no_upper}
use Rattle.vt_spec.specs.Machine.Run.{Serves}
use Rattle.vt_spec.specs.Machine.SameWorlds.{SameWorlds}
use Rattle.vt_spec.specs.Machine.Settled.{settled}
use Rattle.vt_spec.specs.Machine.World.{Descriptor, Task, World, filesystem_at, is_overlay, opening}

-- a descriptor that is open for writing is on a plain tree, or on an overlay with an upper layer
abbrev pub writes_to_a_layer : World ℕ → Descriptor ℕ → Bool
writes_to_a_layer world descriptor =
    not (descriptor.writes && has_no_upper (looks_of nat_eq world) descriptor.location)

-- so are those of all tasks
abbrev pub WritersHaveLayers : World ℕ → Type 0
WritersHaveLayers world = list_all (λ task. list_all (writes_to_a_layer world) task.descriptors) world.tasks ≡ true

-- Then no permit changes an overlay without an upper layer: what it changes is another filesystem.
abbrev pub ChangesHaveLayers : Type 0
ChangesHaveLayers =
    (world : World ℕ) (fresh : Fresh ℕ) (task : Task ℕ) (permit : Permit ℕ) (location : Location ℕ) (change : Change ℕ)
    → WritersHaveLayers world → IsGivenToTask fresh world task permit
    → change_asked fresh world permit ≡ Some (location, change) → has_no_upper (looks_of nat_eq world) location ≡ false

-- So where no overlay has an upper layer, a permit changes plain trees alone,
abbrev pub PlainOnesAreChanged : Type 0
PlainOnesAreChanged =
    (world : World ℕ) (fresh : Fresh ℕ) (task : Task ℕ) (permit : Permit ℕ) (location : Location ℕ) (change : Change ℕ)
    → OverlaysHaveNoUpper world → WritersHaveLayers world → IsGiven fresh world task permit
    → change_of fresh world permit ≡ Some (location, change)
    → is_overlay (filesystem_at nat_eq world location) ≡ false

-- and an open(2) copies nothing up.
abbrev pub OpensCopyNothing : Type 0
OpensCopyNothing =
    (world : World ℕ) (fresh : Fresh ℕ) (task : Task ℕ) (file : Location ℕ) (access : Access)
    → OverlaysHaveNoUpper world → WritersHaveLayers world → IsGiven fresh world task (ToOpen file access)
    → is_copied_up nat_eq world file access ≡ false

-- A permit keeps this, the mount of an overlay among them, before what nothing uses is gone and after it,
abbrev pub PermitsKeepWriters : Type 0
PermitsKeepWriters =
    (world : World ℕ) (fresh : Fresh ℕ) (task : Task ℕ) (permit : Permit ℕ) → IsWorld nat_eq world
    → WritersHaveLayers world → IsGivenToTask fresh world task permit
    → WritersHaveLayers (apply nat_eq fresh world task permit).world
    × WritersHaveLayers (left_by fresh world task permit)

-- as the sweep does in every world.
abbrev pub SweepsKeepWriters : Type 0
SweepsKeepWriters = (world : World ℕ) → WritersHaveLayers world → WritersHaveLayers (settled nat_eq world)

-- It is so in worlds of plain filesystems,
abbrev pub PlainWorldsHaveLayers : Type 0
PlainWorldsHaveLayers = (world : World ℕ) → IsPlain world → WritersHaveLayers world

-- and in a world that is the same but for change numbers and the order of the numbers beside trees.
abbrev pub SameWorldsHaveLayersAlike : Type 0
SameWorldsHaveLayersAlike =
    (one other : World ℕ) → SameWorlds one other → WritersHaveLayers one → WritersHaveLayers other

-- So every call of every task keeps it, granted or refused.
abbrev pub EveryCallKeepsWriters : Type 0
EveryCallKeepsWriters =
    (world : World ℕ) (fresh : Fresh ℕ) (name : TaskName) (call : Call) → IsWorld nat_eq world
    → Serves nat_eq world fresh → names_few_groups call ≡ true → WritersHaveLayers world
    → WritersHaveLayers (policy nat_eq fresh world name call).world

-- It is so in every world that a script leads to,
abbrev pub ScriptsKeepWriters : Type 0
ScriptsKeepWriters =
    (grammar : Grammar) (lines : List (List ℕ)) (refused : List Bool) (supply : Fresh ℕ) (world : World ℕ)
    → ((j k : ℕ) → supply j ≡ supply k → j ≡ k) → LeadsTo grammar (opening nat_eq supply) lines refused world
    → WritersHaveLayers world

-- so there no permit changes an overlay without an upper layer.
abbrev pub ScriptsChangeNone : Type 0
ScriptsChangeNone =
    (grammar : Grammar) (lines : List (List ℕ)) (refused : List Bool) (supply : Fresh ℕ) (world : World ℕ)
    (fresh : Fresh ℕ) (task : Task ℕ) (permit : Permit ℕ) (location : Location ℕ) (change : Change ℕ)
    → ((j k : ℕ) → supply j ≡ supply k → j ≡ k) → LeadsTo grammar (opening nat_eq supply) lines refused world
    → IsGivenToTask fresh world task permit → change_asked fresh world permit ≡ Some (location, change)
    → has_no_upper (looks_of nat_eq world) location ≡ false
