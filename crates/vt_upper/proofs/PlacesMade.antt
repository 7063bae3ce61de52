-- Where a place is in the upper layer's tree, once all is copied.
use Rattle.std.proofs.Common.{◌≡◌, ◌∙◌, [], ap, append-nil, is_some, length, List, refl, Some, subst, sym, true, unwrap_or, ℕ}
use Rattle.vt_spec.proofs.Common.{FileTree, Fresh, IsDirectory, Merge, Stack, Tree, at_path, entry_at, entry_named, evens, is_directory_node}
use Rattle.vt_spec.specs.Rights.{Credentials}
use Rattle.vt_laws_trees.specs.Overlays.WhatIsShown.{IsWhole}
use Rattle.vt_laws_worlds.proofs.merging.upper.Copying.{none_copied}
use Rattle.vt_laws_worlds.proofs.merging.upper.Places.{prefixes_lead_to_copies}
use Rattle.vt_laws_worlds.proofs.merging.upper.UpperKinds.{even_new}
use Rattle.vt_laws_worlds.specs.Merging.UpperChanges.{AreNew, LeadsToDirectory, copied_to, led_above, object_above}
use Rattle.vt_laws_worlds.specs.Seen.CopySteps.{made_in_turn}
use Rattle.vt_births.specs.Births.{BirthsValue}
use Rattle.vt_copyup.specs.declared.plans.Plan.{Plan}
use Rattle.vt_copyup.specs.Laws.{AreHanded}
use Rattle.vt_copyup.specs.Made.{AreMade, last_made, made_copies}
use Rattle.vt_copyup.specs.Planned.{IsPlanOf, stack_of}
use Rattle.vt_copyup.specs.Plans.{copies_of, in_turn}
use Rattle.vt_copyup.proofs.Changed.{is_there, still_there}
use Rattle.vt_fs.specs.FilesystemsValue.{Filesystems, entry_of, files_at}
use Rattle.vt_location.specs.declared.locations.InodeRef.{InodeRef}
use Rattle.vt_location.specs.declared.numbers.FilesystemId.{FilesystemId}
use Rattle.vt_location.specs.Locations.{inode_of}
use Rattle.vt_overlay.specs.declared.merge.layers.LayerRef.{LayerRef}
use Rattle.vt_overlay.specs.Merge.LayerValue.{layer_of}
use Rattle.vt_upper.specs.declared.making.Place.{Place}
use Rattle.vt_upper.specs.declared.making.Place.TheVariants.{Copied, There}
use Rattle.vt_upper.specs.declared.making.Spot.{Spot}
use Rattle.vt_upper.specs.Leaving.{within_of}
use Rattle.vt_upper.specs.New.{IsNameReady, IsPlaceReady, copies_in, had_in, leaves_in, start_of}
use Rattle.vt_upper.specs.NewLaws.{IsPlaceAt}
use Rattle.vt_upper.proofs.ChangesMade.{copied_whole, no_copies, object_is}
use Rattle.vt_upper.proofs.EmptyCopies.{empty_copy}

module _ (fresh : Fresh ℕ) (mounter : Credentials) (merge : Merge ℕ)
    (trees promised : Filesystems) (upper : LayerRef) (lowers : List LayerRef) (overlay : FilesystemId)
    (path : List (List ℕ)) (directory : ℕ) (name : List ℕ)
    (whole : IsWhole (stack_of trees upper lowers mounter) merge) (new : AreNew fresh merge.upper)
    (leads : LeadsToDirectory merge path directory) where
  abbrev stack : Stack ℕ
  stack = stack_of trees upper lowers mounter

  abbrev copied : FileTree ℕ
  copied = copied_to (evens fresh) stack merge.upper path

  even : AreNew (evens fresh) merge.upper
  even = even_new fresh merge.upper new

  -- the place in the upper layer's tree: the directory there is where the path leads once all is copied
  pub record IsMadeAt (place : Place) (between : Filesystems) (at : InodeRef) : Type 0 where
    pub tree : (files_at between (start_of place).filesystem.count).tree ≡ copied.tree
    pub led_so : led_above stack copied path ≡ Some (inode_of at)
    pub directory_there : IsDirectory copied.tree (inode_of at)
    pub leaves : entry_at copied.tree (inode_of at) name ≡ leaves_in place
    pub within : within_of copied.tree (leaves_in place) ≡ within_of merge.upper.tree (leaves_in place)

  pub object_there : (place : Place) (between : Filesystems) (at : InodeRef) → IsMadeAt place between at
      → object_above stack copied path ≡ inode_of at
  object_there place between at is = ap (λ o. unwrap_or o 0) is.led_so

  module _ (births : BirthsValue) (room : ℕ) (between : Filesystems) (births_after : BirthsValue) (at : InodeRef) where
    -- where nothing is copied
    made_there : (spot : Spot) → merge.upper ≡ files_at promised spot.directory.filesystem.count
        → IsNameReady (There spot) name promised births room
        → (are : AreMade spot.directory [] promised births between births_after at)
        → at_path (layer_of trees upper) path ≡ Some (inode_of spot.directory)
        → spot.directory.filesystem ≡ upper.directory.filesystem
        → merge.upper ≡ files_at trees spot.directory.filesystem.count
        → IsMadeAt (There spot) between at
    made_there spot same ready are led own upper_is = record {
      tree = tree_is ∙ ap (λ (files : FileTree ℕ). files.tree) (sym none);
      led_so = ap (λ (files : FileTree ℕ). led_above stack files path) none ∙ led_here
          ∙ ap (λ (d : InodeRef). Some (inode_of d)) (sym at_is);
      directory_there = ap (λ (files : FileTree ℕ). is_directory_node (files.tree.node (inode_of at))) none
          ∙ ap (λ (d : InodeRef). is_directory_node (merge.upper.tree.node (inode_of d))) at_is
          ∙ ap (λ (files : FileTree ℕ). is_directory_node (files.tree.node (inode_of spot.directory))) same
          ∙ ready.directory_there;
      leaves = ap (λ (files : FileTree ℕ). entry_at files.tree (inode_of at) name) none
          ∙ ap (λ (d : InodeRef). entry_at merge.upper.tree (inode_of d) name) at_is
          ∙ ap (λ (files : FileTree ℕ). entry_at files.tree (inode_of spot.directory) name) same
          ∙ ready.leads;
      within = ap (λ (files : FileTree ℕ). within_of files.tree (had_in spot)) none;
    }
      where
        nothing : are.made ≡ []
        nothing = no_copies are.made are.all

        at_is : at ≡ spot.directory
        at_is = are.is_last ∙ ap (last_made spot.directory) nothing

        tree_is : (files_at between spot.directory.filesystem.count).tree ≡ merge.upper.tree
        tree_is = are.tree
            ∙ ap (λ made. (made_in_turn (files_at promised spot.directory.filesystem.count) (inode_of spot.directory)
            (made_copies spot.directory.filesystem.count made)).tree) nothing
            ∙ ap (λ (files : FileTree ℕ). files.tree) (sym same)

        led_here : led_above stack merge.upper path ≡ Some (inode_of spot.directory)
        led_here = ap (λ (files : FileTree ℕ). led_above stack files path)
            (upper_is ∙ ap (λ (id : FilesystemId). files_at trees id.count) own) ∙ led

        none : copied ≡ merge.upper
        none = none_copied (evens fresh) stack merge.upper (length path) path refl (ap is_some led_here)

    -- where the directory is copied
    made_copied : (plan : Plan) (own_room : ℕ)
        → merge.upper ≡ files_at promised plan.directory.filesystem.count
        → IsNameReady (Copied plan own_room) name promised births room
        → (are : AreMade plan.directory (copies_of (in_turn plan)) promised births between births_after at)
        → (is : IsPlanOf true trees upper lowers overlay path plan)
        → AreHanded (evens fresh) plan.directory.filesystem.count (length is.front) are.made
        → merge.upper ≡ files_at trees plan.directory.filesystem.count
        → IsMadeAt (Copied plan own_room) between at
    made_copied plan own_room same ready are is handed upper_is = record {
      tree = tree_is;
      led_so = (prefixes_lead_to_copies (evens fresh) stack merge whole even path (ap is_some leads.0)).0 path []
          (append-nil path)
          ∙ ap Some (object_is (evens fresh) mounter merge trees upper lowers overlay path plan are.made whole upper_is even
          are.all is handed ∙ ap inode_of (sym are.is_last));
      directory_there = ap (λ (t : Tree ℕ). is_directory_node (t.node (inode_of at))) (sym tree_is) ∙ empty.0;
      leaves = ap (λ (t : Tree ℕ). entry_at t (inode_of at) name) (sym tree_is) ∙ ap (entry_named name) empty.1;
      within = refl;
    }
      where
        tree_is : (files_at between plan.directory.filesystem.count).tree ≡ copied.tree
        tree_is = are.tree
            ∙ ap (λ files. (made_in_turn files (inode_of plan.directory)
            (made_copies plan.directory.filesystem.count are.made)).tree) (sym same)
            ∙ ap (λ (files : FileTree ℕ). files.tree) (sym (copied_whole (evens fresh) mounter merge trees upper lowers
            overlay path plan are.made whole upper_is even are.all is handed))

        empty : Rattle.vt_upper.specs.New.IsEmptyNode
            ((files_at between plan.directory.filesystem.count).tree.node (inode_of at))
        empty = empty_copy plan promised births room ready.0 between births_after at are ready.1

    pub made_at : (place : Place) → (start_of place).filesystem ≡ upper.directory.filesystem
        → merge.upper ≡ files_at trees (start_of place).filesystem.count
        → merge.upper ≡ files_at promised (start_of place).filesystem.count
        → IsNameReady place name promised births room
        → (are : AreMade (start_of place) (copies_in place) promised births between births_after at)
        → IsPlaceAt (evens fresh) trees upper lowers overlay path are.made place
        → IsMadeAt place between at
    made_at (There spot) own upper_is same ready are led = made_there spot same ready are led own upper_is
    made_at (Copied plan own_room) own upper_is same ready are led =
        made_copied plan own_room same ready are led.0 led.1 upper_is

-- a place that is ready for an inode is ready for a name
pub place_named : (place : Place) (name : List ℕ) (trees : Filesystems) (births : BirthsValue) (room : ℕ)
    → IsPlaceReady place name trees births room → IsNameReady place name trees births room
place_named (There spot) name trees births room ready = ready.0
place_named (Copied copies own) name trees births room ready = (ready.0, ready.2)

-- the upper layer's filesystem is there then
pub upper_there : (fresh : Fresh ℕ) (mounter : Credentials) (merge : Merge ℕ) (trees promised : Filesystems)
    (upper : LayerRef) (lowers : List LayerRef) (place : Place) (births : BirthsValue) (between : Filesystems)
    (births_after : BirthsValue) (at : InodeRef)
    → IsWhole (stack_of trees upper lowers mounter) merge
    → merge.upper ≡ files_at promised (start_of place).filesystem.count
    → AreMade (start_of place) (copies_in place) promised births between births_after at
    → is_some (entry_of between (start_of place).filesystem.count) ≡ true
upper_there fresh mounter merge trees promised upper lowers place births between births_after at whole same_promised are =
    let f = (start_of place).filesystem.count in
    let top = (whole.layers 0 (record { tree = merge.upper.tree; directory = inode_of upper.directory }) refl).1 in
    still_there f _ promised between are.inodes (is_there promised f (inode_of upper.directory)
    (subst (λ (files : FileTree ℕ). IsDirectory files.tree (inode_of upper.directory)) same_promised top))
