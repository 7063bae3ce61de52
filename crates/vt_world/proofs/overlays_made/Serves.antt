-- The supply for an overlay serves a world.
use Rattle.std.proofs.Common.{Bool, List, None, Option, Some, [], ap, arith, eq-eqb, false, inl, inr, length, map, ne_eqb, option_map, refl, subst, sym, true, ℕ, ◌%◌, ◌&&◌, ◌+◌, ◌<◌, ◌==◌, ◌||◌, ◌∙◌, ◌∷◌, ◌≡◌, ◌≢◌, ◌≤◌}
use Rattle.vt_spec.proofs.Common.{Fresh, Merged, OpenLayer, Real, Shown, World, any_pair, inode_count, list_all, list_any, merged_at, none_is_some, paths_from, real_object, same_Some, shown, slice_get_within, view_of}
use Rattle.vt_fs.specs.FilesystemsValue.{Filesystems}
use Rattle.vt_laws_worlds.specs.Given.NumbersHanded.{AreApart, Placed}
use Rattle.vt_laws_trees.proofs.layers.directories.Order.{Pairwise, pairwise_filter_map}
use Rattle.vt_laws_trees.proofs.layers.layers.ShownObjects.{Among, from_filter_map}
use Rattle.vt_laws_worlds.proofs.one_text.in_use.InUseServes.{unused_numbers_serve}
use Rattle.vt_world.proofs.overlays_made.Births.{one_path_numbered}
use Rattle.vt_world.proofs.overlays_made.Numbers.{made_overlays_are_same}
use Rattle.vt_world.proofs.overlays_made.Paths.{Differ, paths_differ}
use Rattle.vt_world.specs.OverlaysMade.Made.{IsNew, NewOverlaysAreSame, SuppliesForOverlaysServe, objects_shown, placed_from, placed_inodes}
use Rattle.vt_laws_worlds.specs.Permits.InUse.{is_in_use}
use Rattle.vt_laws_rules.specs.Numbers.{Allotment, Lot}
use Rattle.vt_laws_rules.specs.Numbers.Lot.{Kept, LeftOver, New}
use Rattle.vt_location.specs.Births.{born_in}
use Rattle.vt_location.specs.Locations.{number_of}
use Rattle.vt_location.specs.NodeNumbers.{IsSmall}
use Rattle.vt_location.specs.Numbers.{inode_number}
use Rattle.vt_location.specs.declared.locations.NodeRef.{NodeRef}
use Rattle.vt_overlay.specs.Merge.LayerValue.{layers_of}
use Rattle.vt_overlay.proofs.BirthsFound.{in_slot, small_birth}
use Rattle.vt_overlay.proofs.TreeFound.{IsAt, numbered_is_at, real_is, real_of}
use Rattle.vt_overlay.specs.MergedTree.{AreLayers, OverlayValue, node_born, real_number}

-- Lists of placed numbers, by their objects
module _ (number_of_real : Real ℕ → ℕ) where
  abbrev num : Merged ℕ → ℕ
  num object = number_of_real (real_object false object.seen.layer object)

  all_even : (place : ℕ) (objects : List (Merged ℕ)) → ((o : Merged ℕ) → Among objects o → num o % 2 ≡ 0)
      → list_all (λ (placed : Placed). placed.1 % 2 == 0) (placed_from number_of_real place objects) ≡ true
  all_even place [] even = refl
  all_even place (first ∷ objects) even =
      ap (λ b. b && list_all (λ (placed : Placed). placed.1 % 2 == 0) (placed_from number_of_real (place + 4) objects))
      (eq-eqb (num first % 2) 0 (even first (inl refl))) ∙ all_even (place + 4) objects (λ o m. even o (inr m))

  none_so : (test : ℕ → Bool) (place : ℕ) (objects : List (Merged ℕ))
      → ((o : Merged ℕ) → Among objects o → test (num o) ≡ false)
      → list_any (λ (placed : Placed). test placed.1) (placed_from number_of_real place objects) ≡ false
  none_so test place [] fails = refl
  none_so test place (first ∷ objects) fails =
      ap (λ b. b || list_any (λ (placed : Placed). test placed.1) (placed_from number_of_real (place + 4) objects))
      (fails first (inl refl)) ∙ none_so test (place + 4) objects (λ o m. fails o (inr m))

  all_apart : (place : ℕ) (objects : List (Merged ℕ)) → Pairwise (λ a b. num a ≢ num b) objects
      → any_pair (λ (a b : Placed). a.1 == b.1) (placed_from number_of_real place objects) ≡ false
  all_apart place [] apart = refl
  all_apart place (first ∷ objects) apart =
      ap (λ b. b || any_pair (λ (a b : Placed). a.1 == b.1) (placed_from number_of_real (place + 4) objects))
      (none_so (λ n. num first == n) (place + 4) objects (λ o m. ne_eqb (num first) (num o) (apart.0 o m)))
      ∙ all_apart (place + 4) objects apart.1

module _ (most : ℕ) (trees : Filesystems) (overlay : OverlayValue) (are : AreLayers trees overlay.lowers)
    (few : length overlay.lowers ≤ 128) where
  abbrev layers : List (OpenLayer ℕ)
  layers = layers_of trees overlay.lowers

  abbrev numbered : Merged ℕ → ℕ
  numbered = num (real_number trees overlay)

  -- an object is what is shown at its path
  shown_so : (path : List (List ℕ)) (object : Merged ℕ) → merged_at layers path ≡ Some object
      → (path ≡ object.path) × (shown layers object.path ≡ Some object.seen)
  shown_so path object e = by (shown layers path) refl e
    where
      by : (o : Option (Shown ℕ)) → shown layers path ≡ o
          → option_map (λ seen. record { path = path; seen = seen }) o ≡ Some object
          → (path ≡ object.path) × (shown layers object.path ≡ Some object.seen)
      by None s f = none_is_some object f
      by (Some seen) s f =
          let same = same_Some (record { path = path; seen = seen }) object f in
          subst (λ (o : Merged ℕ). (path ≡ o.path) × (shown layers o.path ≡ Some o.seen)) same (refl, s)

  at_place : (object : Merged ℕ) → shown layers object.path ≡ Some object.seen
      → IsAt trees overlay are object.path (numbered object)
  at_place object s = numbered_is_at trees overlay are (numbered object) object.path
      (ap (option_map (real_number trees overlay))
      (real_is trees overlay are object.path ∙ ap (real_of trees overlay are object.path) s))

  known : (object : Merged ℕ) → Among (objects_shown most trees overlay) object
      → IsAt trees overlay are object.path (numbered object)
  known object among =
      let from = from_filter_map (merged_at layers) (paths_from most layers []) object among in
      at_place object (shown_so from.0 object from.2).1

  -- the node that is born there
  abbrev node_at : (object : Merged ℕ) → IsAt trees overlay are object.path (numbered object) → NodeRef
  node_at object at = node_born trees overlay.number at.place at.lower object.path

  node_small : overlay.number.count < 18446744073709551616 → (object : Merged ℕ)
      (at : IsAt trees overlay are object.path (numbered object)) → IsSmall (node_at object at)
  node_small small object at =
      let layer = are at.place at.lower at.layer in
      let within = slice_get_within overlay.lowers at.place at.lower at.layer in
      record {
        filesystem = small;
        slot = (in_slot trees at.lower layer object.path at.object at.leads).0;
        birth = small_birth trees at.lower layer at.place object.path at.object (omega (arith, within, few)) at.leads;
      }

  number_even : (node : NodeRef) → number_of node % 2 ≡ 0
  number_even node = even (born_in node.filesystem.count node.birth) node.slot
    where
      even : (filesystem slot : ℕ) → inode_number filesystem slot % 2 ≡ 0
      even filesystem slot = omega arith

  numbers_differ : Pairwise (λ a b. numbered a ≢ numbered b) (objects_shown most trees overlay)
  numbers_differ = pairwise_filter_map Differ (λ a b. numbered a ≢ numbered b) (merged_at layers)
      (λ path other a b e f apart same.
      let one = shown_so path a e in
      let two = shown_so other b f in
      apart (one.0 ∙ one_path_numbered trees overlay are (omega (arith, few)) a.path b.path (numbered b)
      (subst (IsAt trees overlay are a.path) same (at_place a one.1)) (at_place b two.1) ∙ sym two.0))
      (paths_from most layers []) (paths_differ (map view_of layers) most [])

  pub births_apart : AreApart (placed_inodes most trees overlay)
  births_apart = (
    all_even (real_number trees overlay) 2 (objects_shown most trees overlay) (λ object m.
        let at = known object m in ap (λ n. n % 2) (sym at.numbered) ∙ number_even (node_at object at)),
    all_apart (real_number trees overlay) 2 (objects_shown most trees overlay) numbers_differ,
  )

  pub births_unused : (world : World ℕ) → IsNew world overlay.number
      → list_any (λ (placed : Placed). is_in_use world placed.1) (placed_inodes most trees overlay) ≡ false
  births_unused world new =
      none_so (real_number trees overlay) (is_in_use world) 2 (objects_shown most trees overlay) (λ object m.
      let at = known object m in
      ap (is_in_use world) (sym at.numbered) ∙ new.nodes (node_at object at) (node_small new.small object at) refl)

pub supplies_for_overlays_serve : SuppliesForOverlaysServe
supplies_for_overlays_serve most trees overlay world is are few new =
    unused_numbers_serve overlay.number.count (placed_inodes most trees overlay) world is new.counted_before
    (births_apart most trees overlay are few) (births_unused most trees overlay are few world new)

-- the numbers that are new in an allotment differ
place_of : Lot → ℕ
place_of Kept = 0
place_of (New place) = place
place_of (LeftOver place) = place

new_apart : (allotment : Allotment) (j k : ℕ) → allotment.new j ≡ allotment.new k → j ≡ k
unfolding place_of
new_apart allotment j k same = ap place_of (sym (allotment.new_lot j) ∙ ap allotment.lot same ∙ allotment.new_lot k)

pub new_overlays_are_same : NewOverlaysAreSame
new_overlays_are_same world trees overlay is layered shows few new =
    let serves = supplies_for_overlays_serve (inode_count world) trees overlay world is shows.are few new in
    made_overlays_are_same world trees overlay is layered shows
    (subst (λ (supply : Fresh ℕ). (j k : ℕ) → supply j ≡ supply k → j ≡ k) serves.1 (new_apart serves.0))
