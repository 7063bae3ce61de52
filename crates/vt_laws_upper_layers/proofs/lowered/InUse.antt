-- All is in use in a lowered world.
use Rattle.std.proofs.Common.{◌≡◌, refl, ap, ◌∙◌, ℕ, nat_eq, true, ◌&&◌, List, [], ◌∷◌, map}
use Rattle.std.specs.Prelude.{All}
use Rattle.vt_spec.proofs.Common.{All-cons, All-head, All-nil, All-tail, Filesystem, World, list_all}
use Rattle.vt_spec.specs.Machine.Settled.{filesystem_lives}
use Rattle.vt_laws_mounts.specs.LettingGo.InUse.{is_inode_used}
use Rattle.vt_laws_upper_layers.specs.Lowered.{ArePinned, Pins, PinsInLayers, lowered, lowered_filesystem}
use Rattle.vt_laws_upper_layers.specs.UnnamedPins.{LoweredAreInUse}
use Rattle.vt_laws_upper_layers.proofs.lowered.Alike.{uses_the_same}
use Rattle.vt_laws_upper_layers.proofs.lowered.Swept.{lives_same}

module _ (pins : Pins) (world : World ℕ) where
  all_live : All (PinsInLayers pins) world.filesystems → (all : List (Filesystem ℕ))
      → list_all (filesystem_lives nat_eq (lowered pins world)) (map (lowered_filesystem pins) all)
      ≡ list_all (filesystem_lives nat_eq world) all
  all_live fit [] = refl
  all_live fit (first ∷ rest) = λ i. lives_same pins world fit first i && all_live fit rest i

  abbrev AreUsed : Filesystem ℕ → Type 0
  AreUsed f = list_all (is_inode_used world f) f.files.numbers ≡ true

  abbrev AreUsedThere : Filesystem ℕ → Type 0
  AreUsedThere f = list_all (is_inode_used (lowered pins world) f) f.files.numbers ≡ true

  one_used : (f : Filesystem ℕ) → ArePinned pins world f → AreUsed f → AreUsedThere (lowered_filesystem pins f)
  one_used f are used =
      ap (λ test. list_all test f.files.numbers) (λ i. λ number. uses_the_same pins world f number are i) ∙ used

  all_used : (all : List (Filesystem ℕ)) → All (ArePinned pins world) all → All AreUsed all
      → All AreUsedThere (map (lowered_filesystem pins) all)
  all_used [] are used = All-nil AreUsedThere
  all_used (first ∷ rest) are used =
      All-cons AreUsedThere (lowered_filesystem pins first) (map (lowered_filesystem pins) rest)
      (one_used first (All-head (ArePinned pins world) first rest are) (All-head AreUsed first rest used))
      (all_used rest (All-tail (ArePinned pins world) first rest are) (All-tail AreUsed first rest used))

pub lowered_are_in_use : LoweredAreInUse
lowered_are_in_use pins world in_use are fit = record {
  mounts = in_use.mounts;
  filesystems = all_live pins world fit world.filesystems ∙ in_use.filesystems;
  inodes = all_used pins world world.filesystems are in_use.inodes;
  groups = in_use.groups;
}
