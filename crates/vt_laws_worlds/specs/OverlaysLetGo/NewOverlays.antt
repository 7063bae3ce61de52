-- What goes when an overlay is mounted: mount(2), and the kernel's overlayfs document, "upper and lower".
use Rattle.std.specs.Prelude.{nat_eq, true, ℕ, ◌≡◌}
use Rattle.vt_spec.specs.Language.Calls.{MountFlags}
use Rattle.vt_spec.specs.Lists.{Fresh}
use Rattle.vt_spec.specs.Machine.Apply.{apply}
use Rattle.vt_spec.specs.Machine.Mounts.{Location}
use Rattle.vt_spec.specs.Machine.Permits.Permit.{ToMountOverlay}
use Rattle.vt_spec.specs.Machine.Settled.{settled}
use Rattle.vt_spec.specs.Machine.World.{Overlay, Task, World}
use Rattle.vt_spec.specs.Machine.Invariants.{IsWorld}
use Rattle.vt_laws_trees.specs.Layers.Layers.Mounted.{AreLayers}
use Rattle.vt_laws_trees.specs.Layers.Layers.NewOverlays.{OfNewOverlays}
use Rattle.vt_laws_mounts.specs.LettingGo.Attaching.{is_attached}
use Rattle.vt_laws_mounts.specs.LettingGo.Keeping.{has_only_named}

-- Each inode of an overlay that is made of layers is the root or has a name,
abbrev pub NewOverlaysAreNamed : Type 0
NewOverlaysAreNamed = OfNewOverlays (λ world filesystem. has_only_named filesystem ≡ true)

-- so a mount of one takes nothing away.
abbrev pub NewMountsOfOverlaysKeepAll : Type 0
NewMountsOfOverlaysKeepAll =
    (fresh : Fresh ℕ) (world : World ℕ) (task : Task ℕ) (place : Location ℕ) (overlay : Overlay ℕ) (flags : MountFlags)
    → IsWorld nat_eq world → AreLayers world overlay → ((j k : ℕ) → fresh j ≡ fresh k → j ≡ k)
    → is_attached world place.mount ≡ true
    → settled nat_eq (apply nat_eq fresh world task (ToMountOverlay place overlay flags)).world
    ≡ (apply nat_eq fresh world task (ToMountOverlay place overlay flags)).world
