-- What directories of layers have under a name, and where those lie that are merged under it.
use Rattle.std.proofs.Common.{◌≡◌, ◌≢◌, ◌∙◌, ◌++◌, ◌∷◌, ◌+◌, ◌<◌, [], All, Bool, Contains, List, None, Option, Some, ap, drop, get_or, is_some, length, not, option_map, sym, ℕ, IfSome, if◌then◌else◌, arith}
use Rattle.vt_spec.proofs.Common.{Shown, entry_at, is_kind_in, led-append, shown, then_some, view_of, common_steps}
use Rattle.vt_spec.specs.declared.attributes.Kind.TheVariants.{White}
use Rattle.vt_laws_trees.specs.Layers.Layers.Directories.{shown_in}
use Rattle.vt_location.specs.declared.locations.InodeRef.{InodeRef}
use Rattle.vt_location.specs.declared.numbers.FilesystemId.{FilesystemId}
use Rattle.vt_location.specs.Locations.{inode_of}
use Rattle.vt_fs.specs.Trees.TreeValue.{TreeValue}
use Rattle.vt_fs.specs.FilesystemsValue.{FilesystemEntry, Filesystems, entry_of, files_at}
use Rattle.vt_overlay.specs.Merge.EntryValue.{IsEntry, IsFirstEntry, IsMergedAt, entry_shown}
use Rattle.vt_overlay.specs.Merge.LayerValue.{layer_of, layers_of, opened, placed_views, tree_seen}
use Rattle.vt_overlay.specs.declared.merge.layers.LayerEntry.{LayerEntry}
use Rattle.vt_overlay.specs.declared.merge.layers.LayerRef.{LayerRef}
use Rattle.vt_overlay.specs.declared.merge.layers.MergedDirectory.{MergedDirectory}
use Rattle.vt_overlay.proofs.merge.NamesHad.{own_shows}
use Rattle.vt_overlay.proofs.merge.TreesLent.{tree_lent}

-- in the tree that is lent
module _ (fs : Filesystems) (top : MergedDirectory) (name : List ℕ) (lent : Option TreeValue)
    (is : lent ≡ option_map (λ (entry : FilesystemEntry). entry.tree) (entry_of fs top.directory.filesystem.count))
  where
    pub entry_lent : (found : Option ℕ)
        → found ≡ entry_at (tree_seen top.directory.filesystem.count lent) (inode_of top.directory) name
        → found ≡ entry_at (opened fs top.directory).tree (inode_of top.directory) name
    entry_lent found at = cc (tree_lent fs top.directory.filesystem.count lent is)

    module _ (object : InodeRef) (beside : object.filesystem ≡ top.directory.filesystem) (leads : Some (inode_of object)
        ≡ entry_at (tree_seen top.directory.filesystem.count lent) (inode_of top.directory) name) where
      pub is_entry : IsEntry fs name (record { above = top; object = object })
      is_entry = record { filesystem = beside; leads = sym (entry_lent (Some (inode_of object)) leads) }

      module _ (layers : List LayerRef) (path : List (List ℕ)) (at : IsMergedAt fs layers path top) where
        merged_further : IsMergedAt fs layers (path ++ name ∷ []) (record { layer = top.layer; directory = object })
        merged_further = record {
          lower = at.lower;
          layer = at.layer;
          filesystem = beside ∙ at.filesystem;
          leads = led-append (layer_of fs at.lower).tree (inode_of at.lower.directory) path name
              (inode_of top.directory) (inode_of object) at.leads
              (ap (λ (id : FilesystemId). entry_at (files_at fs id.count).tree (inode_of top.directory) name)
              (sym at.filesystem) ∙ sym (entry_lent (Some (inode_of object)) leads));
        }

        pub directory_further : (directory : Option MergedDirectory) (b : Bool)
            → directory ≡ (if b then Some (record { layer = top.layer; directory = object }) else None)
            → IfSome directory (IsMergedAt fs layers (path ++ name ∷ []))
        directory_further directory b e = grind (arith, common_steps, merged_further)

-- directories that are looked through one after the other show the first entry
module _ (fs : Filesystems) (merged : List MergedDirectory) (index : ℕ) (default : MergedDirectory) (name : List ℕ)
    (within : index < length merged) where
  abbrev here : MergedDirectory
  here = get_or merged index default

  abbrev lower : Option (Shown ℕ)
  lower = shown_in (placed_views fs (drop (index + 1) merged)) (name ∷ [])

  step : (found : Option ℕ) → entry_at (opened fs here.directory).tree (inode_of here.directory) name ≡ found
      → shown_in (placed_views fs (drop index merged)) (name ∷ [])
      ≡ own_shows (view_of (opened fs here.directory)) here.layer found lower
  step found at = grind (arith, common_steps)

  pub goes_lower : entry_at (opened fs here.directory).tree (inode_of here.directory) name ≡ None
      → shown_in (placed_views fs (drop index merged)) (name ∷ []) ≡ lower
  goes_lower none = step None none

  pub shows_first : (found : LayerEntry) → found.above ≡ here → IsEntry fs name found
      → shown_in (placed_views fs (drop index merged)) (name ∷ []) ≡ entry_shown fs found
  shows_first found same is = grind (arith, common_steps)

-- the first entry of the directories that are merged at a path decides what layers show there
module _ (fs : Filesystems) (layers : List LayerRef) (path : List (List ℕ)) (name : List ℕ)
    (merged : List MergedDirectory) (found : Option LayerEntry) (is_merged : (rest : List (List ℕ)) → rest ≢ []
    → shown_in (placed_views fs merged) rest ≡ shown (layers_of fs layers) (path ++ rest))
    (shows : shown_in (placed_views fs merged) (name ∷ []) ≡ then_some found (entry_shown fs)) where
  abbrev shown_there : Option (Shown ℕ)
  shown_there = shown (layers_of fs layers) (path ++ name ∷ [])

  is_shown : shown_there ≡ then_some found (entry_shown fs)
  is_shown = sym (is_merged (name ∷ []) (λ empty. cc)) ∙ shows

  pub decides_nothing : found ≡ None → shown_there ≡ None
  decides_nothing none = is_shown ∙ ap (λ o. then_some o (entry_shown fs)) none

  pub decides_first : All (IsMergedAt fs layers path) merged → IfSome found (λ one. Contains merged one.above)
      → IfSome found (IsEntry fs name) → IfSome found (IsFirstEntry fs layers path name)
  decides_first led = grind (arith, common_steps)

-- something is shown of an entry unless it leads to a whiteout
pub entry_is_shown : (fs : Filesystems) (name : List ℕ) (found : LayerEntry) (white : Bool) → IsEntry fs name found
    → white ≡ is_kind_in White ((files_at fs found.object.filesystem.count).tree.node (inode_of found.object))
    → not white ≡ is_some (entry_shown fs found)
entry_is_shown fs name found white is is_white = grind (arith, common_steps)
