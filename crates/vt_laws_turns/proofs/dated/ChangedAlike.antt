-- The filesystems that a permit changes are the same in two worlds that are the same.
use Rattle.std.proofs.Common.{◌≡◌, refl, ap, ◌∙◌, ℕ, nat_eq, Bool, true, false, ◌&&◌, [], ◌∷◌, Option, Some, None, not}
use Rattle.vt_spec.proofs.Common.{Access, Layer, Location, Overlay, Permit, SameFilesystem, ToChange, ToMake, ToOpen, ToOpenNew, ToRemoveDirectory, ToRename, ToWritePart, World, changed_at, changed_if, filesystem_at, filesystems_changed, is_copied_up, is_empty, lies_only_in_lowers, numbers_of_change, opens_for_writing, overlay_or, without_mounts_on, without_replaced}
use Rattle.vt_laws_trees.proofs.runs.answered.AlikeChanges.{found_alike, here_alike}
use Rattle.vt_laws_trees.proofs.runs.answered.AlikeMounts.{without_mounts_on_alike, without_replaced_alike}
use Rattle.vt_laws_trees.proofs.runs.answered.AlikeWorlds.{Alike}
use Rattle.vt_spec.specs.Machine.Filesystems.{numbers_over}

-- at a location
at_alike : (one other : World ℕ) → Alike one other → (location : Location ℕ)
    → changed_at nat_eq one location ≡ changed_at nat_eq other location
at_alike one other same location = by (filesystem_at nat_eq one location).overlay
    ∙ ap (numbers_of_change nat_eq other (filesystem_at nat_eq other location)) here.overlay
  where
    here : SameFilesystem (filesystem_at nat_eq one location) (filesystem_at nat_eq other location)
    here = here_alike one other same location

    over : (upper : Option (Layer ℕ)) → numbers_over nat_eq one (filesystem_at nat_eq one location) upper
        ≡ numbers_over nat_eq other (filesystem_at nat_eq other location) upper
    over None = refl
    over (Some upper) = λ i. here.number i ∷ (found_alike one other same upper.filesystem).number i ∷ []

    by : (overlay : Option (Overlay ℕ))
        → numbers_of_change nat_eq one (filesystem_at nat_eq one location) overlay
        ≡ numbers_of_change nat_eq other (filesystem_at nat_eq other location) overlay
    by None = ap (λ number. number ∷ []) here.number
    by (Some overlay) = over overlay.upper

module _ (one other : World ℕ) (same : Alike one other) where
  -- where the change is made
  if_alike : (b : Bool) (location : Location ℕ) → changed_if nat_eq b one location ≡ changed_if nat_eq b other location
  if_alike true location = at_alike one other same location
  if_alike false location = refl

  copied_alike : (file : Location ℕ) (access : Access)
      → is_copied_up nat_eq one file access ≡ is_copied_up nat_eq other file access
  copied_alike file access = ap (λ found. opens_for_writing access
      && overlay_or false (λ overlay. lies_only_in_lowers overlay file.node) found) (here_alike one other same file).overlay

  pub changes_alike : (permit : Permit ℕ) → filesystems_changed nat_eq one permit ≡ filesystems_changed nat_eq other permit
  changes_alike (ToChange location change) = at_alike one other same location
  changes_alike (ToMake directory name node) = at_alike one other same directory
  changes_alike (ToRemoveDirectory parent name directory) =
      at_alike (without_mounts_on nat_eq one directory) (without_mounts_on nat_eq other directory)
      (without_mounts_on_alike directory one other same) parent
  changes_alike (ToRename from old to new object replaced) =
      at_alike (without_replaced nat_eq one replaced) (without_replaced nat_eq other replaced)
      (without_replaced_alike replaced one other same) from
  changes_alike (ToOpen file access) = if_alike (is_copied_up nat_eq one file access) file
      ∙ ap (λ b. changed_if nat_eq b other file) (copied_alike file access)
  changes_alike (ToOpenNew directory name node access) = at_alike one other same directory
  changes_alike (ToWritePart file offset bytes) = if_alike (not (is_empty bytes)) file
  changes_alike permit = refl
