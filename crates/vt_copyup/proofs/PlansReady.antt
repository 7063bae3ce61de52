-- A plan is ready, once all is promised.
use Rattle.std.proofs.Common.{◌≡◌, ◌∙◌, ◌+◌, ◌<◌, ◌≤◌, ◌∷◌, ◌++◌, [], arith, ap, Bool, IsSome, is_some, length, List, None, not, option_map, Option, refl, slice_get, Some, subst, suc, sym, take, true, true≢false, zero, ℕ}
use Rattle.vt_spec.proofs.Common.{Fresh, IsDirectory, IsTree, Node, OpenLayer, Shown, Tree, at_path, common_steps, entries_in, entry_at, is_kind_in, led, none_is_some, same_Some, shown, slice_get-map, when}
use Rattle.vt_spec.specs.Machine.Views.{visible}
use Rattle.vt_spec.specs.Rights.{Credentials}
use Rattle.vt_laws_trees.proofs.layers.layers.ShownDirectories.{shown_in_directory}
use Rattle.vt_location.specs.declared.locations.InodeRef.{InodeRef}
use Rattle.vt_location.specs.declared.numbers.FilesystemId.{FilesystemId}
use Rattle.vt_location.specs.Locations.{inode_of}
use Rattle.vt_fs.specs.FilesystemsValue.{Filesystems, files_at, promising, with_changed}
use Rattle.vt_overlay.specs.declared.merge.layers.LayerRef.{LayerRef}
use Rattle.vt_overlay.specs.Merge.LayerValue.{layer_of, layers_of, opened}
use Rattle.vt_overlay.specs.MergedTree.{AreLayers}
use Rattle.vt_births.specs.Births.{BirthsValue}
use Rattle.vt_copyup.specs.Planned.{AreBirthsOf, AreCopiesFrom, ArePlannedBy, names_of}
use Rattle.vt_copyup.specs.Plans.{AreNested, AreReady, EntriesAreThere, FirstFits}
use Rattle.vt_copyup.specs.declared.plans.Piece.{Piece}
use Rattle.vt_copyup.proofs.Changed.{is_there, promised_files, promised_more}
use Rattle.vt_copyup.proofs.Ready.{FirstLeadsNowhere, all_apart, all_below, all_new, are_planned, entries_are_there}
use Rattle.vt_copyup.proofs.Seen.{open_layers}
use Rattle.vt_copyup.proofs.Ways.{leads_nowhere}

-- the name after a front
name_after : (names : List (List ℕ)) (index : ℕ) (name : List ℕ) (rest : List (List ℕ)) → index ≤ length names
    → take index names ++ name ∷ rest ≡ names → slice_get names index ≡ Some name
name_after names zero name rest few whole = ap (λ l. slice_get l 0) (sym whole)
name_after [] (suc index) name rest few whole = absurd (let no : ⊥ = omega (arith, few) in no)
name_after (first ∷ names) (suc index) name rest few whole =
    name_after names index name rest (omega (arith, few)) (Rattle.vt_spec.proofs.Common.cons-rest first first _ _ whole)

module _ (trees : Filesystems) (layers : List LayerRef) (are : AreLayers trees layers) (upper : LayerRef)
    (top : slice_get layers 0 ≡ Some upper) (overlay : FilesystemId) (directory : InodeRef)
    (own : directory.filesystem ≡ upper.directory.filesystem) (names : List (List ℕ)) (index : ℕ)
    (few : index ≤ length names)
    (leads : at_path (opened trees upper.directory) (take index names) ≡ Some (inode_of directory))
    (end : (name : List ℕ) → slice_get names index ≡ Some name
    → entry_at (opened trees upper.directory).tree (inode_of directory) name ≡ None) where
  abbrev stack : List (OpenLayer ℕ)
  stack = layers_of trees layers

  abbrev front : List (List ℕ)
  front = take index names

  -- the upper layer leads nowhere at the next name
  pub nowhere_next_name : index < length names
      → at_path (opened trees upper.directory) (take (index + 1) names) ≡ None
  nowhere_next_name less =
      let next = Rattle.vt_copyup.proofs.Ways.name_within names index less in
      ap (at_path (opened trees upper.directory)) (Rattle.vt_copyup.proofs.Ways.take_next names index next.0 next.1)
      ∙ leads_nowhere (opened trees upper.directory).tree (inode_of upper.directory) front next.0 (inode_of directory)
      leads (end next.0 next.1)

  -- what is shown under a name of what the upper layer has is shown in its directory
  in_upper : (name : List ℕ) (seen : Shown ℕ) → shown stack (front ++ name ∷ []) ≡ Some seen
      → IsDirectory (files_at trees upper.directory.filesystem.count).tree (inode_of directory)
  in_upper name seen e =
      let there = shown_in_directory stack (open_layers trees layers are) 0 front name seen e in
      by layers top there.place there.layer there.object there.there there.is there.directory
    where
      by : (all : List LayerRef) → slice_get all 0 ≡ Some upper → (place : ℕ) (layer : OpenLayer ℕ) (object : ℕ)
          → slice_get (layers_of trees all) place ≡ Some layer
          → shown (layers_of trees all) front ≡ Some (record { layer = 0 + place; object = object })
          → IsDirectory layer.tree object
          → IsDirectory (files_at trees upper.directory.filesystem.count).tree (inode_of directory)
      by [] none place layer object at is d = none_is_some upper none
      by (first ∷ lowers) e place layer object at is d =
          let same : first ≡ upper = same_Some first upper e in
          let here : at_path (layer_of trees first) front ≡ Some (inode_of directory) =
          ap (λ (l : LayerRef). at_path (layer_of trees l) front) same ∙ leads in
          let visible_is : visible (Rattle.vt_spec.proofs.Common.view_of (layer_of trees first)) 0 (inode_of directory)
          ≡ Some (record { layer = 0 + place; object = object }) =
          ap (λ o. Rattle.vt_spec.specs.Machine.Views.shown_over
          (Rattle.vt_spec.proofs.Common.view_of (layer_of trees first)) 0 o
          (Rattle.vt_spec.proofs.Common.cuts (Rattle.vt_spec.proofs.Common.view_of (layer_of trees first)) front)
          (Rattle.vt_spec.proofs.Common.shown_from (0 + 1)
          (Rattle.std.proofs.Common.map Rattle.vt_spec.proofs.Common.view_of (layers_of trees lowers)) front))
          (sym here) ∙ is in
          let found = seen_is (is_kind_in Rattle.vt_spec.specs.declared.attributes.Kind.TheVariants.White
          ((layer_of trees first).tree.node (inode_of directory))) (inode_of directory) object place visible_is in
          let tree : layer ≡ layer_of trees first =
          same_Some layer (layer_of trees first) (sym at ∙ ap (slice_get (layers_of trees (first ∷ lowers))) found.0) in
          subst (λ (l : LayerRef). IsDirectory (layer_of trees l).tree (inode_of directory)) same
          (subst (λ (l : OpenLayer ℕ). IsDirectory l.tree (inode_of directory)) tree
          (subst (IsDirectory layer.tree) (sym found.1) d))
        where
          seen_is : (white : Bool) (number object place : ℕ)
              → when {A = Shown ℕ} (not white) (record { layer = 0; object = number })
              ≡ Some (record { layer = 0 + place; object = object }) → (place ≡ 0) × (number ≡ object)
          seen_is white number object place e = grind (arith, common_steps)

  module _ (w : Bool) (pieces : List Piece) (copies : AreCopiesFrom w trees layers overlay front pieces)
      (whole : front ++ names_of pieces ≡ names) where
    first_nowhere : (pieces : List Piece) → front ++ names_of pieces ≡ names
        → (fresh : Fresh ℕ) (mounter : Credentials) (lowers : List LayerRef)
        → FirstLeadsNowhere fresh mounter trees upper lowers overlay front pieces
    first_nowhere [] whole fresh mounter lowers = tt
    first_nowhere (piece ∷ rest) whole fresh mounter lowers =
        leads_nowhere (opened trees upper.directory).tree (inode_of upper.directory) front piece.copy.name.items
        (inode_of directory) leads
        (end piece.copy.name.items (name_after names index piece.copy.name.items (names_of rest) few whole))

    pub are_planned_so : (fresh : Fresh ℕ) (mounter : Credentials) (lowers : List LayerRef) → layers ≡ upper ∷ lowers
        → ArePlannedBy w fresh mounter trees upper lowers front pieces
    are_planned_so fresh mounter lowers is = are_planned fresh mounter trees upper lowers overlay w front pieces
        (subst (λ l. AreCopiesFrom w trees l overlay front pieces) is copies)
        (first_nowhere pieces whole fresh mounter lowers)

    module _ (nested : AreNested pieces) (births : BirthsValue) (of : AreBirthsOf trees layers overlay births)
        (room : ℕ) (has_room : 0 < length pieces
        → length (entries_in ((files_at trees directory.filesystem.count).tree.node (inode_of directory))) < room)
        (inodes more : ℕ) (many_inodes : length pieces ≤ inodes) (many_births : length pieces ≤ more) where
      abbrev f : ℕ
      f = directory.filesystem.count

      abbrev promised : Filesystems
      promised = with_changed f (promising inodes) trees

      same_files : files_at promised f ≡ files_at trees upper.directory.filesystem.count
      same_files = promised_files f inodes trees
          ∙ ap (λ (id : FilesystemId). files_at trees id.count) own

      first_fits : (pieces : List Piece) → AreCopiesFrom w trees layers overlay front pieces
          → front ++ names_of pieces ≡ names → (0 < length pieces
          → length (entries_in ((files_at trees directory.filesystem.count).tree.node (inode_of directory))) < room)
          → (after : Filesystems) → files_at after f ≡ files_at trees upper.directory.filesystem.count
          → FirstFits pieces room directory after
      first_fits [] copies whole has_room after same = tt
      first_fits (piece ∷ rest) copies whole has_room after same = record {
        there = subst (λ (files : Rattle.vt_spec.proofs.Common.FileTree ℕ). IsDirectory files.tree (inode_of directory))
            (sym same) (in_upper piece.copy.name.items _ copies.0.born.shows);
        free = ap (λ (files : Rattle.vt_spec.proofs.Common.FileTree ℕ). entry_at files.tree (inode_of directory)
            piece.copy.name.items) same
            ∙ end piece.copy.name.items (name_after names index piece.copy.name.items (names_of rest) few whole);
        has_room = subst (λ (files : Rattle.vt_spec.proofs.Common.FileTree ℕ).
            length (entries_in (files.tree.node (inode_of directory))) < room)
            (ap (λ (id : FilesystemId). files_at trees id.count) own ∙ sym same) (has_room (omega arith));
      }

      ready_promised : AreReady pieces directory promised (record births { promised = births.promised + more })
      ready_promised = record {
        entries = subst (λ (files : Rattle.vt_spec.proofs.Common.FileTree ℕ). EntriesAreThere files.tree)
            (sym same_files) (entries_are_there (files_at trees upper.directory.filesystem.count).tree
            (are 0 upper top).tree);
        there = λ slot node e. ap (λ (files : Rattle.vt_spec.proofs.Common.FileTree ℕ). is_some (files.tree.node
            (Rattle.vt_location.specs.Numbers.inode_number f slot))) same_files
            ∙ ap (λ (id : FilesystemId). is_some ((files_at trees upper.directory.filesystem.count).tree.node
            (Rattle.vt_location.specs.Numbers.inode_number id.count slot))) own ∙ of.there upper top slot node e;
        many_inodes =
            let after = promised_more f inodes trees (is_there trees f (inode_of upper.directory)
            (subst (λ (id : FilesystemId). IsDirectory (files_at trees id.count).tree (inode_of upper.directory))
            (sym own) (are 0 upper top).directory)) in omega (arith, after, many_inodes);
        many_births = omega (arith, many_births);
        nested = nested;
        below = all_below trees layers overlay w front pieces copies;
        new = all_new trees layers overlay w births of front pieces copies;
        apart = all_apart trees layers overlay are w front pieces copies nested;
      }

      pub is_ready : FirstFits pieces room directory promised
          × AreReady pieces directory promised (record births { promised = births.promised + more })
      is_ready = (first_fits pieces copies whole has_room promised same_files, ready_promised)
