-- Paths name by name, and where they lead.
use Rattle.std.proofs.Common.{◌≡◌, ◌∙◌, ◌+◌, ◌<◌, ◌≤◌, ◌∷◌, ◌++◌, [], arith, ap, length, List, None, option_and_then, refl, Some, slice_get, subst, suc, sym, take, zero, ℕ}
use Rattle.vt_spec.proofs.Common.{Tree, at_path, entry_at, led, led-append, none_is_some, same_Some}
use Rattle.vt_laws_trees.proofs.layers.layers.ShownNames.{last_name}
use Rattle.vt_location.specs.declared.locations.InodeRef.{InodeRef}
use Rattle.vt_location.specs.declared.numbers.FilesystemId.{FilesystemId}
use Rattle.vt_location.specs.Locations.{inode_of}
use Rattle.vt_fs.specs.FilesystemsValue.{Filesystems, files_at}
use Rattle.vt_overlay.specs.declared.merge.layers.LayerEntry.{LayerEntry}
use Rattle.vt_overlay.specs.declared.merge.layers.MergedDirectory.{MergedDirectory}
use Rattle.vt_overlay.specs.Merge.EntryValue.{IsEntry}
use Rattle.vt_overlay.specs.Merge.LayerValue.{opened}

-- a front with the next name is the next front
pub take_next : (names : List (List ℕ)) (index : ℕ) (name : List ℕ) → slice_get names index ≡ Some name
    → take (index + 1) names ≡ take index names ++ name ∷ []
take_next [] index name at = none_is_some name at
take_next (first ∷ names) zero name at = ap (λ n. n ∷ []) (same_Some first name at)
take_next (first ∷ names) (suc index) name at =
    let more : suc index + 1 ≡ suc (index + 1) = omega arith in
    ap (λ n. take n (first ∷ names)) more ∙ ap (λ l. first ∷ l) (take_next names index name at)

pub take_all : (names : List (List ℕ)) → take (length names) names ≡ names
take_all [] = refl
take_all (first ∷ names) = ap (λ l. first ∷ l) (take_all names)

-- each index within has a name
pub name_within : (names : List (List ℕ)) (index : ℕ) → index < length names
    → (name : List ℕ) × (slice_get names index ≡ Some name)
name_within [] index within = absurd (omega (arith, within))
name_within (first ∷ names) zero within = (first, refl)
name_within (first ∷ names) (suc index) within = name_within names index (omega (arith, within))

module _ (tree : Tree ℕ) (start : ℕ) where
  -- a name leads on, or nowhere
  pub leads_nowhere : (path : List (List ℕ)) (name : List ℕ) (here : ℕ) → led tree start path ≡ Some here
      → entry_at tree here name ≡ None → led tree start (path ++ name ∷ []) ≡ None
  leads_nowhere path name here leads none = last_name tree start path name
      ∙ ap (option_and_then (λ directory. entry_at tree directory name)) leads ∙ none

  pub nowhere_next : (path : List (List ℕ)) (name : List ℕ) → led tree start path ≡ None
      → led tree start (path ++ name ∷ []) ≡ None
  nowhere_next path name none = last_name tree start path name
      ∙ ap (option_and_then (λ directory. entry_at tree directory name)) none

  -- where a front leads nowhere, so do all longer ones
  pub nowhere_further : (names : List (List ℕ)) (from more : ℕ) → from + more ≤ length names
      → led tree start (take from names) ≡ None → led tree start (take (from + more) names) ≡ None
  nowhere_further names from zero within none =
      subst (λ n. led tree start (take n names) ≡ None) (omega arith) none
  nowhere_further names from (suc more) within none =
      let next = name_within names (from + more) (omega (arith, within)) in
      subst (λ n. led tree start (take n names) ≡ None) (omega arith)
      (ap (led tree start) (take_next names (from + more) next.0 next.1)
      ∙ nowhere_next (take (from + more) names) next.0
      (nowhere_further names from more (omega (arith, within)) none))

-- An entry of a directory leads on, in the tree from whose directory names led here.
module _ (trees : Filesystems) (directory here : InodeRef) (beside : here.filesystem ≡ directory.filesystem)
    (names : List (List ℕ)) (index : ℕ) (name : List ℕ) (at : slice_get names index ≡ Some name)
    (leads : at_path (opened trees directory) (take index names) ≡ Some (inode_of here)) where
  pub leads_on : (found : LayerEntry) → found.above ≡ record { layer = 0; directory = here }
      → IsEntry trees name found
      → (at_path (opened trees directory) (take (index + 1) names) ≡ Some (inode_of found.object))
      × (found.object.filesystem ≡ directory.filesystem)
  leads_on found above entry =
      let own : found.above.directory.filesystem ≡ directory.filesystem =
      ap (λ (top : MergedDirectory). top.directory.filesystem) above ∙ beside in
      let leads_there : entry_at (opened trees directory).tree (inode_of here) name ≡ Some (inode_of found.object) =
      (λ i. entry_at (files_at trees (sym own i).count).tree (inode_of (sym above i).directory) name)
      ∙ entry.leads in (
        ap (at_path (opened trees directory)) (take_next names index name at)
            ∙ led-append (opened trees directory).tree (inode_of directory) (take index names) name (inode_of here)
            (inode_of found.object) leads leads_there,
        entry.filesystem ∙ own,
      )

  pub ends_here : entry_at (opened trees here).tree (inode_of here) name ≡ None
      → entry_at (opened trees directory).tree (inode_of here) name ≡ None
  ends_here none =
      ap (λ (id : FilesystemId). entry_at (files_at trees id.count).tree (inode_of here) name) (sym beside) ∙ none
