-- Nodes that lose their last name: unlink(2), rmdir(2). A node is kept while something is on it, else its birth ends with it.
use Rattle.std.specs.Prelude.{Bool, List, None, false, if◌then◌else◌, nat_eq, nat_lt, true, ℕ, ⊤, ◌-◌, ◌<◌, ◌≡◌}
use Rattle.vt_spec.specs.Lists.{holds_of}
use Rattle.vt_births.specs.Births.{BirthsValue, copy_of, node_of}
use Rattle.vt_births.specs.declared.upper_nodes.UpperNodes.{UpperNodes}
use Rattle.vt_births.specs.Kept.{KeptValue, uses_of}
use Rattle.vt_fs.specs.FilesystemsValue.{Filesystems}
use Rattle.vt_location.specs.declared.locations.NodeRef.{NodeRef}
use Rattle.vt_location.specs.Locations.{number_of}
use Rattle.vt_location.specs.SameNodes.{same_node}
use Rattle.vt_upper.specs.declared.losing.Losing.{Losing}
use Rattle.vt_upper.specs.declared.losing.Losing.TheVariants.{Last, Named}
use Rattle.vt_upper.specs.declared.making.Place.{Place}
use Rattle.vt_upper.specs.declared.making.Place.TheVariants.{Copied, There}
use Rattle.vt_upper.specs.LastName.{IsAlsoElsewhere, IsOnlyAt}
use Rattle.vt_upper_overlay.specs.UpperValue.{UpperOverlayValue}

-- it is kept: it was the last name, and something is on the node
abbrev pub keeps_node : Losing → Bool
keeps_node Named = false
keeps_node (Last node uses) = nat_lt 0 uses

-- so its object is, if it is in the upper layer
abbrev pub IsKeeping : Bool → Place → Type 0
IsKeeping keeps (There spot) = spot.keeps ≡ keeps
IsKeeping keeps (Copied copies room) = ⊤

-- what has a name is not among what is kept without one
abbrev pub IsNotKept : Losing → KeptValue → Type 0
IsNotKept Named kept = ⊤
IsNotKept (Last node uses) kept = uses_of kept node ≡ 0

-- what a node with so many uses loses with its name at a path: one of several, or its last one
abbrev pub IsLosing : Filesystems → UpperOverlayValue → List (List ℕ) → NodeRef → ℕ → Losing → Type 0
IsLosing trees overlay path node uses Named = IsAlsoElsewhere trees overlay (number_of node) path
IsLosing trees overlay path node uses (Last it many) =
    (it ≡ node) × (many ≡ uses) × IsOnlyAt trees overlay (number_of node) path

-- room is promised for a node that is kept
abbrev pub MayBeKept : Losing → KeptValue → Type 0
MayBeKept losing kept = (keeps_node losing ≡ true → 0 < kept.promised) × IsNotKept losing kept

-- the birth of a node is forgotten
pub record IsForgotten (node : NodeRef) (old new : BirthsValue) : Type 0 where
  pub nodes : (other : ℕ) → node_of new other
      ≡ (if holds_of (λ slot. nat_eq slot other) (copy_of old node) then None else node_of old other)
  pub copies : (other : NodeRef) → copy_of new other ≡ (if same_node node other then None else copy_of old other)
  pub promised : new.promised ≡ old.promised

-- a node is kept with so many uses
pub record IsKeptNow (node : NodeRef) (uses : ℕ) (old new : KeptValue) : Type 0 where
  pub uses_now : (other : NodeRef) → uses_of new other ≡ (if same_node node other then uses else uses_of old other)
  pub promised : new.promised ≡ old.promised - 1

-- one or the other, if it was the last name
abbrev pub IsLeftSo : (keeps : Bool) → NodeRef → ℕ → UpperNodes → UpperNodes → Type 0
IsLeftSo true node uses old new = (new.births ≡ old.births) × IsKeptNow node uses old.kept new.kept
IsLeftSo false node uses old new = (new.kept ≡ old.kept) × IsForgotten node old.births new.births

abbrev pub IsLeftBy : Losing → UpperNodes → UpperNodes → Type 0
IsLeftBy Named old new = new ≡ old
IsLeftBy (Last node uses) old new = IsLeftSo (nat_lt 0 uses) node uses old new
