-- Layers of an overlay that is to be mounted: which of them overlap, as the store finds it.
use Rattle.std.proofs.Common.{◌≡◌, ◌∙◌, ◌&&◌, ◌||◌, ◌∷◌, [], ap, Bool, cond, eqb-true, false, is_some, List, nat_eq, None, Option, refl, Some, subst, sym, true, true≢false, ℕ}
use Rattle.vt_spec.proofs.Common.{FileTree, Filesystem, Layer, Node, World, and-false, filesystem_numbered, has_entry_to, is_among, is_directory_node, is_directory_under, is_file_under, is_overlay, is_under, layer_at, lies_in_layer, lies_or_counts_under, list_any, none_from_among, overlaps_one_of, targets_in}
use Rattle.vt_spec.specs.Machine.Locked.{live_layers}
use Rattle.vt_spec.specs.Machine.Rules.Conditions.{is_overlay_at}
use Rattle.vt_ns.proofs.Common.{IsHeld, StoreValue, WorldValue, among_from_all, counted, counted_test, files_at, is_small_node, location_of, looks_of_value, number_of, with_store, world_of}
use Rattle.vt_mounting.specs.Detach.Looking.{is_seen}
use Rattle.vt_location.specs.declared.locations.InodeRef.{InodeRef}
use Rattle.vt_location.specs.declared.locations.Location.{Location}
use Rattle.vt_location.specs.Locations.{inode_of, plain_at}
use Rattle.vt_fs.proofs.TreesLookedAt.{under_nowhere}
use Rattle.vt_overlaps.specs.Overlaps as found
use Rattle.vt_overlaps.specs.Overlaps.{counts_under, has_upper_under, keeps_under, layer_of, lies_under, overlaps_live}
use Rattle.vt_overlaps.proofs.LiveLayers.{overlaps_are_with_live_layers}
use Rattle.vt_mounting.proofs.detach.LookLemmas.{shown_counted, unseen_node}
use Rattle.vt_mounting.proofs.detach.PlainFound.{counted_where_plain}
use Rattle.vt_mounting.proofs.detach.StoreShown.{kept_lower}
use Rattle.vt_world.specs.Held.{HasOwnInodes}
use Rattle.vt_store.specs.Locks.{keeps_in}
use Rattle.vt_ns.specs.LayersSeen.{plain_seen}
use Rattle.vt_ns.proofs.looking.LocksLooked.{born_below, born_plain, locks_are, plain_number, uncounted}

-- Nothing lies under what is not there
module _ (files : FileTree ℕ) (top : ℕ) (none : files.tree.node top ≡ None) where
  no_name : (directory object : ℕ) → (has_entry_to nat_eq files.tree directory object
      && is_directory_under nat_eq files top directory) ≡ false
  no_name directory object = by (nat_eq top directory) refl
    where
      by : (b : Bool) → nat_eq top directory ≡ b → (has_entry_to nat_eq files.tree directory object
          && is_directory_under nat_eq files top directory) ≡ false
      by true e = ap (λ other. has_entry_to nat_eq files.tree other object
          && is_directory_under nat_eq files top directory) (sym (eqb-true top directory e))
          ∙ ap (λ node. is_among nat_eq object (targets_in node) && is_directory_under nat_eq files top directory) none
      by false e = ap (λ b. has_entry_to nat_eq files.tree directory object && b)
          (under_nowhere files top directory none ∙ e) ∙ and-false _

  pub nothing_lies : (object : ℕ) → is_under nat_eq files top object ≡ false
  nothing_lies object = by (is_directory_node (files.tree.node object)) refl
    where
      apart : is_directory_node (files.tree.node object) ≡ true → (b : Bool) → nat_eq top object ≡ b → b ≡ false
      apart directory true e = absurd (true≢false (sym directory
          ∙ ap is_directory_node (ap files.tree.node (sym (eqb-true top object e)) ∙ none)))
      apart directory false e = refl

      by : (b : Bool) → is_directory_node (files.tree.node object) ≡ b → is_under nat_eq files top object ≡ false
      by true e = ap (λ b. cond b (is_directory_under nat_eq files top object) (is_file_under nat_eq files top object)) e
          ∙ under_nowhere files top object none ∙ apart e (nat_eq top object) refl
      by false e =
          ap (λ b. cond b (is_directory_under nat_eq files top object) (is_file_under nat_eq files top object)) e
          ∙ none_from_among (λ directory. has_entry_to nat_eq files.tree directory object
          && is_directory_under nat_eq files top directory) files.numbers (λ directory m. no_name directory object)

module _ (base : WorldValue) (store : StoreValue) (held : IsHeld (with_store store base)) where
  abbrev kept : WorldValue
  kept = with_store store base

  abbrev world : World ℕ
  world = world_of (with_store store base)

  -- so it overlaps nothing
  module _ (layer : Layer ℕ)
      (none : (filesystem_numbered nat_eq world layer.filesystem).files.tree.node layer.directory ≡ None) where
    lies_nowhere : (filesystem object : ℕ) → lies_in_layer nat_eq world filesystem object layer ≡ false
    lies_nowhere filesystem object = by (nat_eq filesystem layer.filesystem) refl
      where
        by : (b : Bool) → nat_eq filesystem layer.filesystem ≡ b
            → lies_in_layer nat_eq world filesystem object layer ≡ false
        by true e = ap (λ b. nat_eq filesystem layer.filesystem && b)
            (nothing_lies (filesystem_numbered nat_eq world filesystem).files layer.directory
            (ap (λ number. (filesystem_numbered nat_eq world number).files.tree.node layer.directory)
            (eqb-true filesystem layer.filesystem e) ∙ none) object) ∙ and-false _
        by false e = ap (λ b. b && is_under nat_eq (filesystem_numbered nat_eq world filesystem).files layer.directory
            object) e

    counts_nowhere : (filesystem object : ℕ) → lies_or_counts_under nat_eq world filesystem object layer ≡ false
    counts_nowhere filesystem object =
        λ i. lies_nowhere filesystem object i || uncounted base store held filesystem object layer i

    pub overlaps_none : (others : List (Layer ℕ)) → overlaps_one_of nat_eq world others layer ≡ false
    overlaps_none others = none_from_among (λ object. lies_or_counts_under nat_eq world layer.filesystem object layer
        && list_any (lies_or_counts_under nat_eq world layer.filesystem object) others)
        (filesystem_numbered nat_eq world layer.filesystem).files.numbers
        (λ object m. ap (λ b. b && list_any (lies_or_counts_under nat_eq world layer.filesystem object) others)
        (counts_nowhere layer.filesystem object))

    pub overlapped_by_none : (other : Layer ℕ) → overlaps_one_of nat_eq world (layer ∷ []) other ≡ false
    overlapped_by_none other = none_from_among (λ object.
        lies_or_counts_under nat_eq world other.filesystem object other
        && (lies_or_counts_under nat_eq world other.filesystem object layer || false))
        (filesystem_numbered nat_eq world other.filesystem).files.numbers
        (λ object m. ap (λ b. lies_or_counts_under nat_eq world other.filesystem object other && (b || false))
        (counts_nowhere other.filesystem object) ∙ and-false _)

  -- a filesystem that is no overlay has the tree of the store
  plain_files : (count filesystem : ℕ) → filesystem ≡ counted count
      → is_overlay (filesystem_numbered nat_eq (world_of (with_store store base)) filesystem) ≡ false
      → (filesystem_numbered nat_eq (world_of (with_store store base)) filesystem).files ≡ files_at store.plain count
  plain_files count filesystem is plain = ap (λ number. (filesystem_numbered nat_eq world number).files) is
      ∙ ap (λ (one : Filesystem ℕ). one.files) (counted_where_plain kept held count
      (ap (λ number. is_overlay (filesystem_numbered nat_eq world number)) (sym is) ∙ plain))

  -- what lies or counts under a directory of it does so in the store, whose overlays keep nothing without a name
  module _ (top : InodeRef)
      (plain : is_overlay (filesystem_numbered nat_eq (world_of (with_store store base)) (counted top.filesystem.count))
      ≡ false) where
    lies_alike : (count number : ℕ) → lies_under store.plain count number top
        ≡ lies_in_layer nat_eq (world_of (with_store store base)) (counted count) number (layer_of top)
    lies_alike count number = by (nat_eq count top.filesystem.count) refl
      where
        by : (b : Bool) → nat_eq count top.filesystem.count ≡ b → lies_under store.plain count number top
            ≡ lies_in_layer nat_eq (world_of (with_store store base)) (counted count) number (layer_of top)
        by false e = (λ i. e i && is_under nat_eq (files_at store.plain count) (inode_of top) number)
            ∙ sym (λ i. (counted_test count top.filesystem.count ∙ e) i
            && is_under nat_eq (filesystem_numbered nat_eq world (counted count)).files (inode_of top) number)
        by true e =
            let files = subst (λ k. (filesystem_numbered nat_eq world (counted k)).files ≡ files_at store.plain k)
            (sym (eqb-true count top.filesystem.count e))
            (plain_files top.filesystem.count (counted top.filesystem.count) refl plain) in
            λ i. sym (counted_test count top.filesystem.count) i && is_under nat_eq (sym files i) (inode_of top) number

    none_kept : (count number : ℕ) → list_any (keeps_under store.plain count number top) store.overlays ≡ false
    none_kept count number = none_from_among (keeps_under store.plain count number top) store.overlays (λ entry m.
        ap (λ above. has_upper_under store.plain top entry.overlay above && keeps_in count number entry)
        (kept_lower base store held entry m))

    counts_alike : (count number : ℕ) → counts_under store count number top
        ≡ lies_or_counts_under nat_eq (world_of (with_store store base)) (counted count) number (layer_of top)
    counts_alike count number = λ i. lies_alike count number i
        || (none_kept count number ∙ sym (uncounted base store held (counted count) number (layer_of top))) i

  module _ (at : Location) (small : is_small_node at.node ≡ true)
      (plain : is_overlay_at (looks_of_value (with_store store base)) (location_of at) ≡ false) where
    abbrev layer : Layer ℕ
    layer = layer_at (looks_of_value kept) (location_of at)

    -- where no inode of a plain tree is seen nothing is there
    pub nothing_there : plain_seen kept at ≡ None
        → (filesystem_numbered nat_eq world layer.filesystem).files.tree.node layer.directory ≡ None
    nothing_there = by (is_seen kept at) refl
      where
        count : (count : ℕ) × (layer.filesystem ≡ counted count)
        count = shown_counted kept held at.mount.count

        by : (b : Bool) → is_seen kept at ≡ b → plain_seen kept at ≡ None
            → (filesystem_numbered nat_eq world layer.filesystem).files.tree.node layer.directory ≡ None
        by false unseen e = unseen_node kept held at small unseen
        by true seen e = no_node ((filesystem_numbered nat_eq world layer.filesystem).files.tree.node layer.directory) refl
          where
            below : plain_at at.node at.node.birth ≡ None
            below = ap (λ b. cond b (plain_at at.node at.node.birth) None) (sym seen) ∙ e

            same : (filesystem_numbered nat_eq world layer.filesystem).files ≡ files_at store.plain count.0
            same = plain_files count.0 layer.filesystem count.1 plain

            no_node : (o : Option (Node ℕ))
                → (filesystem_numbered nat_eq world layer.filesystem).files.tree.node layer.directory ≡ o → o ≡ None
            no_node None f = refl
            no_node (Some node) f = absurd (born_below at.node below (born_plain store.plain
                (λ one among. among_from_all HasOwnInodes store.plain held.own_inodes one among) count.0 at.node small
                (ap is_some (ap (λ (files : FileTree ℕ). files.tree.node (number_of at.node)) (sym same) ∙ f))))

    -- and where one is, it is the layer's directory, in a plain filesystem
    module _ (top : InodeRef) (there : plain_seen kept at ≡ Some top) where
      pub seen_layer : layer_of top ≡ layer_at (looks_of_value (with_store store base)) (location_of at)
      seen_layer = by (is_seen kept at) refl there
        where
          by : (b : Bool) → is_seen kept at ≡ b → cond b (plain_at at.node at.node.birth) None ≡ Some top
              → layer_of top ≡ layer
          by false unseen e = absurd cc
          by true seen e =
              let node = plain_number at.node top e in
              let shows = eqb-true layer.filesystem (counted at.node.filesystem.count) seen in λ i. record {
                filesystem = (ap counted node.filesystem ∙ sym shows) i;
                directory = node.number i;
              }

      pub seen_plain : is_overlay (filesystem_numbered nat_eq (world_of (with_store store base))
          (counted top.filesystem.count)) ≡ false
      seen_plain = ap (λ (one : Layer ℕ). is_overlay (filesystem_numbered nat_eq world one.filesystem)) seen_layer
          ∙ plain

      seen_files : files_at store.plain top.filesystem.count
          ≡ (filesystem_numbered nat_eq (world_of (with_store store base)) (counted top.filesystem.count)).files
      seen_files = sym (plain_files top.filesystem.count (counted top.filesystem.count) refl seen_plain)

      -- so it overlaps a layer of a live overlay as in the store,
      pub live_alike : overlaps_live store top.filesystem.count (inode_of top)
          ≡ overlaps_one_of nat_eq world (live_layers world) layer
      live_alike = overlaps_are_with_live_layers store world top.filesystem.count (inode_of top) held.in_world (record {
        files = sym seen_files;
        locked = locks_are base store held top.filesystem.count;
      }) ∙ ap (overlaps_one_of nat_eq world (live_layers world)) seen_layer

      -- and another directory
      pub directories_alike : (other : InodeRef) (others : Layer ℕ) → layer_of other ≡ others
          → is_overlay (filesystem_numbered nat_eq (world_of (with_store store base)) (counted other.filesystem.count))
          ≡ false
          → found.overlaps_one_of store (other ∷ []) top ≡ overlaps_one_of nat_eq world (others ∷ []) layer
      directories_alike other others is apart = in_both ∙ (λ i. overlaps_one_of nat_eq world (is i ∷ []) (seen_layer i))
        where
          in_both : found.overlaps_one_of store (other ∷ []) top
              ≡ overlaps_one_of nat_eq (world_of (with_store store base)) (layer_of other ∷ []) (layer_of top)
          in_both = λ i. list_any (λ number. counts_alike top seen_plain top.filesystem.count number i
              && (counts_alike other apart top.filesystem.count number i || false)) (seen_files i).numbers

-- As the world of a value finds it
module _ (base : WorldValue) (store : StoreValue) (held : IsHeld (with_store store base)) (value : WorldValue)
    (is : with_store store base ≡ value) where
  abbrev layer_in : WorldValue → Location → Layer ℕ
  layer_in v at = layer_at (looks_of_value v) (location_of at)

  abbrev overlap_in : WorldValue → Location → Location → Bool
  overlap_in v other at = overlaps_one_of nat_eq (world_of v) (layer_in v other ∷ []) (layer_in v at)

  abbrev live_in : WorldValue → Location → Bool
  live_in v at = overlaps_one_of nat_eq (world_of v) (live_layers (world_of v)) (layer_in v at)

  -- two directories,
  module _ (other at : Location) where
    pub other_missing : is_small_node other.node ≡ true → is_overlay_at (looks_of_value value) (location_of other) ≡ false
        → plain_seen value other ≡ None → overlap_in value other at ≡ false
    other_missing small = subst (λ v. is_overlay_at (looks_of_value v) (location_of other) ≡ false
        → plain_seen v other ≡ None → overlap_in v other at ≡ false) is
        (λ plain none. overlapped_by_none base store held (layer_in (with_store store base) other)
        (nothing_there base store held other small plain none) (layer_in (with_store store base) at))

    pub top_missing : is_small_node at.node ≡ true → is_overlay_at (looks_of_value value) (location_of at) ≡ false
        → plain_seen value at ≡ None → overlap_in value other at ≡ false
    top_missing small = subst (λ v. is_overlay_at (looks_of_value v) (location_of at) ≡ false
        → plain_seen v at ≡ None → overlap_in v other at ≡ false) is
        (λ plain none. overlaps_none base store held (layer_in (with_store store base) at)
        (nothing_there base store held at small plain none) (layer_in (with_store store base) other ∷ []))

    pub found_alike : (beside top : InodeRef) → is_small_node other.node ≡ true → is_small_node at.node ≡ true
        → plain_seen value other ≡ Some beside → plain_seen value at ≡ Some top
        → is_overlay_at (looks_of_value value) (location_of other) ≡ false
        → is_overlay_at (looks_of_value value) (location_of at) ≡ false
        → found.overlaps_one_of store (beside ∷ []) top ≡ overlap_in value other at
    found_alike beside top other_small small = subst (λ v. plain_seen v other ≡ Some beside → plain_seen v at ≡ Some top
        → is_overlay_at (looks_of_value v) (location_of other) ≡ false
        → is_overlay_at (looks_of_value v) (location_of at) ≡ false
        → found.overlaps_one_of store (beside ∷ []) top ≡ overlap_in v other at) is
        (λ there here other_plain plain. directories_alike base store held at small plain top here beside
        (layer_in (with_store store base) other) (seen_layer base store held other other_small other_plain beside there)
        (seen_plain base store held other other_small other_plain beside there))

  -- and one that overlaps a layer of a live overlay
  module _ (at : Location) (small : is_small_node at.node ≡ true) where
    pub live_missing : is_overlay_at (looks_of_value value) (location_of at) ≡ false → plain_seen value at ≡ None
        → live_in value at ≡ false
    live_missing = subst (λ v. is_overlay_at (looks_of_value v) (location_of at) ≡ false → plain_seen v at ≡ None
        → live_in v at ≡ false) is (λ plain none. overlaps_none base store held (layer_in (with_store store base) at)
        (nothing_there base store held at small plain none) (live_layers (world_of (with_store store base))))

    pub live_found : (top : InodeRef) → is_overlay_at (looks_of_value value) (location_of at) ≡ false
        → plain_seen value at ≡ Some top
        → overlaps_live store top.filesystem.count (inode_of top) ≡ live_in value at
    live_found top = subst (λ v. is_overlay_at (looks_of_value v) (location_of at) ≡ false
        → plain_seen v at ≡ Some top → overlaps_live store top.filesystem.count (inode_of top) ≡ live_in v at) is
        (λ plain there. live_alike base store held at small plain top there)
