-- What a world is when an overlay is mounted in it.
use Rattle.std.proofs.Common.{arith, ◌≡◌, refl, sym, ap, subst, ◌∙◌, true≢false, ℕ, nat_eq, eqb-true, Bool, true, false, ◌&&◌, List, [], ◌∷◌, ◌++◌, map, Option, Some, None, Ok, inl, inr, unwrap_or, All, option_to_list}
use Rattle.vt_spec.proofs.Common.{All-push, Done, Filesystem, Fresh, HasOwnParents, IsMerged, IsReached, IsTree, IsWorld, Layer, LayerLocations, ListsNumbers, Location, Mount, MountFlags, MountOverlay, NoneFails, Overlay, OverlayInvariants, OverlayWords, Permit, Task, TreeInvariants, World, apply, call_outcome, common_steps, evens, evens-distinct, filesystem_numbered, is_among, is_fit_filesystem, is_plain_layer, layers_of, list_all, list_all-append, looks_of, nat_eq_itself, no_filesystem, of_overlay, overfills, overlay_filesystem, overlay_mounted, same_ok, with_new_filesystem}
use Rattle.vt_spec.proofs.Tables.{layer_rules, layers_walked, overlay_at}
use Rattle.vt_spec.proofs.Lists
use Rattle.vt_laws_trees.specs.Layers.Layers.Mounted.{AreLayers}
use Rattle.vt_laws_trees.specs.Layers.Layers.Mounting.{AreNewNumbers, MountingKeepsOverlays, MountingKeepsTrees, MountingMakesOverlay}
use Rattle.vt_laws_trees.proofs.layers.directories.Apart.{changed_stay_apart, from_no_pair, lowers_stay_apart, no_pair}
use Rattle.vt_laws_trees.proofs.layers.directories.Fit.{new_overlay_has_own_parents, new_overlay_is_fit, new_overlay_is_tree, new_overlay_lists_numbers}
use Rattle.vt_laws_trees.proofs.layers.directories.Later.{not_found}
use Rattle.vt_laws_trees.proofs.layers.directories.Order.{pairwise_append}
use Rattle.vt_laws_trees.proofs.layers.directories.Still.{find_new, overlays_still_merge}
use Rattle.vt_laws_trees.proofs.layers.directories.Later
use Rattle.vt_laws_trees.proofs.layers.locked.Apart.{layer_plain, upper_in_layers}
use Rattle.vt_laws_trees.proofs.layers.mounting.Reached.{layers_are_reached}
use Rattle.vt_laws_trees.proofs.layers.mounting.Walked.{AreWalked, all_plain, are_walked, fit_layers, has_layers, none_refuses, shown_plain}
use Rattle.vt_laws_trees.proofs.layers.layers.ShownObjects.{Among}
use Rattle.vt_laws_rules.proofs.given.CallsGranted.{call_holds, answered_holds}
use Rattle.vt_laws_rules.proofs.given.Ways.{IsGranted}
use Rattle.vt_laws_rules.proofs.given.Ways.IsGranted.{mounts_overlayfs}

-- mounts and masters are not looked at
abbrev WithMounts : World ℕ → List (Mount ℕ) → (ℕ → Option ℕ) → World ℕ
WithMounts world mounts master = record world { mounts = mounts; master = master }

merged_with : (world : World ℕ) (mounts : List (Mount ℕ)) (master : ℕ → Option ℕ) (filesystem : Filesystem ℕ)
    (overlay : Overlay ℕ)
    → IsMerged nat_eq world filesystem overlay → IsMerged nat_eq (WithMounts world mounts master) filesystem overlay
merged_with world mounts master filesystem overlay is = grind (arith, common_steps)

pub overlays_with : (world : World ℕ) (mounts : List (Mount ℕ)) (master : ℕ → Option ℕ)
    → OverlayInvariants nat_eq world → OverlayInvariants nat_eq (WithMounts world mounts master)
overlays_with world mounts master is = record {
  overlays_merge = λ number overlay e. merged_with world mounts master _ overlay (is.overlays_merge number overlay e);
  fit_layers = is.fit_layers;
  plain_layers = is.plain_layers;
  changed_apart = is.changed_apart;
  lowers_apart = is.lowers_apart;
  uppers_reached = is.uppers_reached;
}

pub trees_with : (world : World ℕ) (mounts : List (Mount ℕ)) (master : ℕ → Option ℕ) → TreeInvariants nat_eq world
    → TreeInvariants nat_eq (WithMounts world mounts master)
trees_with world mounts master is = grind (arith, common_steps)

none_equal : (number : ℕ) (list : List (Filesystem ℕ)) → is_among nat_eq number (map (λ f. f.number) list) ≡ false
    → (filesystem : Filesystem ℕ) → Among list filesystem → nat_eq filesystem.number number ≡ false
none_equal number [] e filesystem among = absurd among
none_equal number (first ∷ list) e filesystem (inl same) = grind (arith, common_steps, true≢false)
none_equal number (first ∷ list) e filesystem (inr among) =
    grind (arith, common_steps, none_equal number list, true≢false)

module _ (world : World ℕ) (conditions : IsWorld nat_eq world) (fresh : Fresh ℕ) (are_new : AreNewNumbers fresh world)
    (task : Task ℕ) where
  abbrev AreReached : LayerLocations ℕ → Type 0
  AreReached places = All (λ (layer : Layer ℕ). IsReached
      (filesystem_numbered nat_eq world layer.filesystem).files.tree layer.directory)
      (layers_of (overlay_at nat_eq world task places))

  module _ (places : LayerLocations ℕ) (walked : AreWalked world task places) (reached : AreReached places)
      (passed : NoneFails (layer_rules nat_eq world places (overlay_at nat_eq world task places))) where
    abbrev overlay : Overlay ℕ
    overlay = overlay_at nat_eq world task places

    abbrev new : Filesystem ℕ
    new = overlay_filesystem nat_eq (evens fresh) world overlay

    abbrev later : World ℕ
    later = with_new_filesystem world new

    are_layers : AreLayers world overlay
    are_layers = (has_layers world task places walked passed, shown_plain world task places walked passed)

    unused : is_among nat_eq (evens (evens fresh) 0) (map (λ f. f.number) world.filesystems) ≡ false
    unused = are_new.unused 0

    -- a layer that is a directory of a plain tree stays one
    plain_later : (layer : Layer ℕ) → is_plain_layer nat_eq world layer ≡ true
        → is_plain_layer nat_eq later layer ≡ true
    plain_later layer plain =
        let old = Later.plain_is_old world conditions overlay are_layers
        (evens fresh) (evens-distinct fresh are_new.distinct) unused layer plain in
        ap (λ f. Rattle.std.proofs.Common.not (Rattle.vt_spec.specs.Machine.World.is_overlay f)
        && Rattle.vt_spec.specs.Tree.is_directory_node (f.files.tree.node layer.directory)) (Later.same_filesystem world
        conditions overlay are_layers (evens fresh) (evens-distinct fresh are_new.distinct) unused _ old) ∙ plain

    all_plain_later : (layers : List (Layer ℕ)) → list_all (is_plain_layer nat_eq world) layers ≡ true
        → list_all (is_plain_layer nat_eq later) layers ≡ true
    all_plain_later [] e = refl
    all_plain_later (layer ∷ layers) e = grind (arith, common_steps, all_plain_later layers, plain_later, true≢false)

    plain_filesystems : (list : List (Filesystem ℕ))
        → list_all (of_overlay true (λ o. list_all (is_plain_layer nat_eq world) (layers_of o))) list ≡ true
        → list_all (of_overlay true (λ o. list_all (is_plain_layer nat_eq later) (layers_of o))) list ≡ true
    plain_filesystems [] e = refl
    plain_filesystems (filesystem ∷ list) e =
        grind (arith, common_steps, plain_filesystems list, all_plain_later, true≢false)

    pushed : (test : Filesystem ℕ → Bool) → list_all test world.filesystems ≡ true → test new ≡ true
        → list_all test (world.filesystems ++ new ∷ []) ≡ true
    pushed test all last = list_all-append test _ _ ∙ ap (λ b. b && (test new && true)) all ∙ ap (λ b. b && true) last

    trees_later : TreeInvariants nat_eq later
    trees_later = record {
      trees = All-push (λ f. IsTree f.files.tree) world.filesystems new conditions.files.trees
          (new_overlay_is_tree (evens fresh) world overlay conditions are_layers
          (evens-distinct fresh are_new.distinct));
      own_parents = All-push (λ f. HasOwnParents f.files.tree) world.filesystems new conditions.files.own_parents
          (new_overlay_has_own_parents (evens fresh) world overlay conditions are_layers
          (evens-distinct fresh are_new.distinct));
      numbers = All-push (λ f. ListsNumbers nat_eq f.files) world.filesystems new conditions.files.numbers
          (new_overlay_lists_numbers (evens fresh) world overlay conditions are_layers
          (evens-distinct fresh are_new.distinct));
      one_filesystem = from_no_pair (λ a b. nat_eq a.number b.number) (λ a b. nat_eq a.number b.number)
          (world.filesystems ++ new ∷ [])
          (pairwise_append (λ a b. nat_eq a.number b.number ≡ false) world.filesystems (new ∷ [])
          (no_pair (λ a b. nat_eq a.number b.number) world.filesystems conditions.files.one_filesystem)
          (λ b among. absurd among, tt) (λ a b in_old in_new. Rattle.std.proofs.Common.⊎_elim
          (λ e. cc (none_equal (evens (evens fresh) 0) world.filesystems unused a in_old))
          (λ none. absurd none) in_new)) (λ a b l r. refl);
      fit_filesystems = pushed is_fit_filesystem conditions.files.fit_filesystems
          (new_overlay_is_fit (evens fresh) world overlay conditions are_layers
          (evens-distinct fresh are_new.distinct));
    }

    -- names lead to an upper layer's directory as they did, and to that of the new overlay
    reached_later : (layer : Layer ℕ) → is_plain_layer nat_eq world layer ≡ true
        → IsReached (filesystem_numbered nat_eq world layer.filesystem).files.tree layer.directory
        → IsReached (filesystem_numbered nat_eq later layer.filesystem).files.tree layer.directory
    reached_later layer plain is = subst (λ (f : Filesystem ℕ). IsReached f.files.tree layer.directory)
        (sym (Later.same_filesystem world conditions overlay are_layers
        (evens fresh) (evens-distinct fresh are_new.distinct) unused layer.filesystem
        (Later.plain_is_old world conditions overlay are_layers
        (evens fresh) (evens-distinct fresh are_new.distinct) unused layer plain))) is

    own_upper : (layer : Layer ℕ) → overlay.upper ≡ Some layer → Lists.Among layer (layers_of overlay)
    own_upper layer has = subst (λ o.
        Lists.Among layer (option_to_list o ++ option_to_list overlay.work ++ overlay.lowers)) (sym has) (inl refl)

    uppers_later : (number : ℕ) (some_overlay : Overlay ℕ) (upper : Layer ℕ)
        → (filesystem_numbered nat_eq later number).overlay ≡ Some some_overlay → some_overlay.upper ≡ Some upper
        → IsReached (filesystem_numbered nat_eq later upper.filesystem).files.tree upper.directory
    uppers_later number some_overlay upper e has = by (nat_eq number new.number) refl
      where
        by : (b : Bool) → nat_eq number new.number ≡ b
            → IsReached (filesystem_numbered nat_eq later upper.filesystem).files.tree upper.directory
        by false t =
            let was = sym (ap (λ (f : Filesystem ℕ). f.overlay)
            (Later.same_filesystem world conditions overlay are_layers
            (evens fresh) (evens-distinct fresh are_new.distinct) unused number t)) ∙ e in
            reached_later upper (layer_plain world conditions number some_overlay was upper
            (upper_in_layers world conditions number some_overlay was upper has))
            (conditions.overlays.uppers_reached number some_overlay upper was has)
        by true t =
            let same : filesystem_numbered nat_eq later number ≡ new =
            ap (λ o. unwrap_or o (no_filesystem number)) (find_new (λ f. nat_eq number f.number) world.filesystems new
            (not_found number world.filesystems (cc (eqb-true number new.number t, unused))) t) in
            let own = own_upper upper (ap (upper_in overlay) (sym (ap (λ (f : Filesystem ℕ). f.overlay) same) ∙ e)
            ∙ has) in
            reached_later upper (Lists.among_from_list_all (is_plain_layer nat_eq world) (layers_of overlay)
            (all_plain world task places walked passed) upper own) (Lists.among_from_all (λ (layer : Layer ℕ). IsReached
            (filesystem_numbered nat_eq world layer.filesystem).files.tree layer.directory)
            (layers_of overlay) reached upper own)
          where
            upper_in : Overlay ℕ → Option (Overlay ℕ) → Option (Layer ℕ)
            upper_in default None = default.upper
            upper_in default (Some o) = o.upper

    overlays_later : OverlayInvariants nat_eq later
    overlays_later =
        let plain = all_plain world task places walked passed in
        let passes = none_refuses (layer_rules nat_eq world places overlay) passed in
        record {
          overlays_merge = overlays_still_merge
              (evens fresh) world overlay places conditions are_layers plain (evens-distinct fresh are_new.distinct)
              unused passes;
          fit_layers = pushed _ conditions.overlays.fit_layers (fit_layers world task places walked passed);
          plain_layers = pushed _ (plain_filesystems world.filesystems conditions.overlays.plain_layers)
              (all_plain_later (layers_of overlay) plain);
          changed_apart = changed_stay_apart
              (evens fresh) world overlay places conditions are_layers plain (evens-distinct fresh are_new.distinct)
              unused passes;
          lowers_apart = lowers_stay_apart
              (evens fresh) world overlay places conditions are_layers plain (evens-distinct fresh are_new.distinct)
              unused passes;
          uppers_reached = uppers_later;
        }

    trees_mounted : (place : Location ℕ) (flags : MountFlags)
        → TreeInvariants nat_eq (overlay_mounted nat_eq fresh world task place places flags)
    trees_mounted place flags = trees_with later _ _ trees_later

    overlays_mounted : (place : Location ℕ) (flags : MountFlags)
        → OverlayInvariants nat_eq (overlay_mounted nat_eq fresh world task place places flags)
    overlays_mounted place flags = overlays_with later _ _ overlays_later

  -- what the call leaves
  granted_makes : (Said : World ℕ → Type 0)
      → ((places : LayerLocations ℕ) → AreWalked world task places → AreReached places
      → NoneFails (layer_rules nat_eq world places (overlay_at nat_eq world task places))
      → (place : Location ℕ) (flags : MountFlags) → Said (overlay_mounted nat_eq fresh world task place places flags))
      → (path : List ℕ) (options : Option OverlayWords) (flags : MountFlags) (permit : Permit ℕ)
      → IsGranted nat_eq (looks_of nat_eq world) (overfills nat_eq fresh world task) task
      (MountOverlay path options flags) permit → Said (apply nat_eq fresh world task permit).world
  granted_makes Said makes path options flags permit
      (mounts_overlayfs _ words _ here layers admin end walked layered passed) =
      makes layers (are_walked world task words layers walked) (layers_are_reached world task words layers conditions
      walked) layered here.location flags

  mounting : (Said : World ℕ → Type 0) → Said world
      → ((places : LayerLocations ℕ) → AreWalked world task places → AreReached places
      → NoneFails (layer_rules nat_eq world places (overlay_at nat_eq world task places))
      → (place : Location ℕ) (flags : MountFlags) → Said (overlay_mounted nat_eq fresh world task place places flags))
      → (path : List ℕ) (options : Option OverlayWords) (flags : MountFlags)
      → Said (call_outcome nat_eq fresh world task (MountOverlay path options flags)).world
  mounting Said is makes path options flags = call_holds Said fresh world task (MountOverlay path options flags) is
      (granted_makes Said makes path options flags)

pub mounting_keeps_trees : MountingKeepsTrees
mounting_keeps_trees fresh world task path options flags conditions are_new =
    mounting world conditions fresh are_new task (TreeInvariants nat_eq) conditions.files
    (trees_mounted world conditions fresh are_new task) path options flags

pub mounting_keeps_overlays : MountingKeepsOverlays
mounting_keeps_overlays fresh world task path options flags conditions are_new =
    mounting world conditions fresh are_new task (OverlayInvariants nat_eq) conditions.overlays
    (overlays_mounted world conditions fresh are_new task) path options flags

-- A granted call
module _ (world : World ℕ) (fresh : Fresh ℕ) (task : Task ℕ) (flags : MountFlags) where
  -- where the overlay is mounted, and that its layers may be the layers of one
  pub record IsMounted (places : LayerLocations ℕ) (later : World ℕ) : Type 0 where
    pub place : Location ℕ
    pub passed : NoneFails (layer_rules nat_eq world places (overlay_at nat_eq world task places))
    pub is : later ≡ overlay_mounted nat_eq fresh world task place places flags

  granted_mounts : (path : List ℕ) (words : OverlayWords) (places : LayerLocations ℕ) (permit : Permit ℕ)
      → layers_walked nat_eq world task words ≡ Ok places
      → IsGranted nat_eq (looks_of nat_eq world) (overfills nat_eq fresh world task) task
      (MountOverlay path (Some words) flags) permit → IsMounted places (apply nat_eq fresh world task permit).world
  granted_mounts path words places permit walked (mounts_overlayfs _ _ _ here layers admin end found passed free) =
      subst (λ places. IsMounted places (overlay_mounted nat_eq fresh world task here.location layers flags))
      (same_ok layers places (cc)) (record { place = here.location; passed = passed; is = refl })

  pub overlay_is_mounted : (path : List ℕ) (words : OverlayWords) (places : LayerLocations ℕ)
      → layers_walked nat_eq world task words ≡ Ok places
      → (call_outcome nat_eq fresh world task (MountOverlay path (Some words) flags)).answer ≡ Ok Done
      → IsMounted places (call_outcome nat_eq fresh world task (MountOverlay path (Some words) flags)).world
  overlay_is_mounted path words places walked granted =
      answered_holds (IsMounted places) fresh world task (MountOverlay path (Some words) flags) Done granted
      (λ permit. granted_mounts path words places permit walked)

pub mounting_makes_overlay : MountingMakesOverlay
mounting_makes_overlay fresh world task path words flags places conditions are_new walked granted =
    let is = overlay_is_mounted world fresh task flags path words places walked granted in
    ap (λ later. filesystem_numbered nat_eq later (evens (evens fresh) 0)) is.is
    ∙ ap (λ o. unwrap_or o (no_filesystem (evens (evens fresh) 0)))
    (find_new (λ f. nat_eq (evens (evens fresh) 0) f.number) world.filesystems
    (overlay_filesystem nat_eq (evens fresh) world (overlay_at nat_eq world task places))
    (not_found (evens (evens fresh) 0) world.filesystems (are_new.unused 0)) (nat_eq_itself (evens (evens fresh) 0)))
