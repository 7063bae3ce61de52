-- What `mount overlay` makes of a world with all invariants: mount(2), and the kernel's overlayfs document, "multiple
-- lower layers" and "sharing and copying layers".
use Rattle.std.specs.Prelude.{List, Ok, Option, Some, false, map, nat_eq, ℕ, ◌≡◌}
use Rattle.vt_spec.specs.Language.Answers.Answer.{Done}
use Rattle.vt_spec.specs.Language.Calls.{MountFlags, OverlayWords}
use Rattle.vt_spec.specs.Language.Calls.Call.{MountOverlay}
use Rattle.vt_spec.specs.Lists.{Fresh, evens, is_among}
use Rattle.vt_spec.specs.Machine.Looks.{looks_of}
use Rattle.vt_spec.specs.Machine.Rules.Mounting.{LayerLocations, layers_walked, overlay_at}
use Rattle.vt_spec.specs.Machine.NewMounts.{overlay_filesystem}
use Rattle.vt_spec.specs.Machine.Policy.{call_outcome}
use Rattle.vt_spec.specs.Machine.World.{Task, World, filesystem_numbered}
use Rattle.vt_spec.specs.Machine.Invariants.{IsWorld, OverlayInvariants, TreeInvariants}

-- No filesystem has one of these numbers, and they differ.
pub record AreNewNumbers (fresh : Fresh ℕ) (world : World ℕ) : Type 0 where
  pub distinct : (j k : ℕ) → fresh j ≡ fresh k → j ≡ k
  pub unused : (k : ℕ) → is_among nat_eq (fresh k) (map (λ filesystem. filesystem.number) world.filesystems) ≡ false

-- what is said of the world that `mount overlay` leaves, granted or refused (the one before what nothing uses is let
-- go)
abbrev pub OfMounting : (World ℕ → Type 0) → Type 0
OfMounting Said =
    (fresh : Fresh ℕ) (world : World ℕ) (task : Task ℕ) (path : List ℕ) (options : Option OverlayWords)
    (flags : MountFlags)
    → IsWorld nat_eq world → AreNewNumbers fresh world
    → Said (call_outcome nat_eq fresh world task (MountOverlay path options flags)).world

abbrev pub MountingKeepsTrees : Type 0
MountingKeepsTrees = OfMounting (TreeInvariants nat_eq)

-- Layers of live overlays stand apart, and each overlay, the new one too, is what its layers show, with a real object
-- for each inode and 1 to 128 lower layers, all of them directories of plain trees.
abbrev pub MountingKeepsOverlays : Type 0
MountingKeepsOverlays = OfMounting (OverlayInvariants nat_eq)

-- a granted one has made an overlay of the layers that the words lead to
abbrev pub MountingMakesOverlay : Type 0
MountingMakesOverlay =
    (fresh : Fresh ℕ) (world : World ℕ) (task : Task ℕ) (path : List ℕ) (words : OverlayWords) (flags : MountFlags)
    (places : LayerLocations ℕ)
    → IsWorld nat_eq world → AreNewNumbers fresh world
    → layers_walked nat_eq (looks_of nat_eq world) task words ≡ Ok places
    → (call_outcome nat_eq fresh world task (MountOverlay path (Some words) flags)).answer ≡ Ok Done
    → filesystem_numbered nat_eq (call_outcome nat_eq fresh world task (MountOverlay path (Some words) flags)).world
    (evens (evens fresh) 0)
    ≡ overlay_filesystem nat_eq (evens fresh) world (overlay_at (looks_of nat_eq world) task places)
