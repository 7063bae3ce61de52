-- What the judgement of the mount of an overlay sees to: mount(2), and the kernel's overlayfs document, "multiple lower
-- layers" and "sharing and copying layers".
use Rattle.std.specs.List.{list_all}
use Rattle.std.specs.Prelude.{None, false, nat_eq, true, ℕ, ◌≡◌}
use Rattle.vt_laws_worlds.specs.Given.LeftWorlds.{IsGivenToTask}
use Rattle.vt_laws_trees.specs.Layers.Layers.Mounted.{AreLayers}
use Rattle.vt_laws_worlds.specs.Worlds.Permits.{IsDestination}
use Rattle.vt_spec.specs.Language.Calls.{MountFlags}
use Rattle.vt_spec.specs.Lists.{Fresh}
use Rattle.vt_spec.specs.Machine.Apply.{apply}
use Rattle.vt_spec.specs.Machine.Attach.{has_too_many}
use Rattle.vt_spec.specs.Machine.Invariants.{IsWorld, has_fit_layers, is_plain_layer}
use Rattle.vt_spec.specs.Machine.Mounts.{Location}
use Rattle.vt_spec.specs.Machine.Permits.Permit.{ToMountOverlay}
use Rattle.vt_spec.specs.Machine.World.{Overlay, Task, World, layers_of}

-- The layers are directories of plain trees, one at least and not too many, and the caller mounts it. The destination is
-- a directory of the caller's namespace on which a mount may be attached, and no namespace gets too many mounts.
pub record MayBeMounted (world : World ℕ) (fresh : Fresh ℕ) (task : Task ℕ) (place : Location ℕ) (overlay : Overlay ℕ)
    (flags : MountFlags) : Type 0 where
  pub layers : AreLayers world overlay
  pub fit : has_fit_layers overlay ≡ true
  pub plain : list_all (is_plain_layer nat_eq world) (layers_of overlay) ≡ true
  pub mounter : overlay.mounter ≡ task.credentials
  pub real : overlay.real ≡ (λ number. None)
  pub destination : IsDestination world task place
  pub few_mounts : has_too_many nat_eq (apply nat_eq fresh world task (ToMountOverlay place overlay flags)).world ≡ false

-- So it is of each that is granted.
abbrev pub GivenOverlaysMayBeMounted : Type 0
GivenOverlaysMayBeMounted =
    (world : World ℕ) (fresh : Fresh ℕ) (task : Task ℕ) (place : Location ℕ) (overlay : Overlay ℕ) (flags : MountFlags)
    → IsWorld nat_eq world → IsGivenToTask fresh world task (ToMountOverlay place overlay flags)
    → MayBeMounted world fresh task place overlay flags
