-- What lies in a layer of an overlay of a store is what the world that holds it locks.
use Rattle.std.proofs.Common.{◌≡◌, refl, sym, ap, subst, ◌∙◌, ⊎_elim, inl, inr, true≢false, ℕ, nat_eq, eq-eqb, eqb-true, Bool, true, false, cond, not, ◌&&◌, ◌||◌, List, [], ◌∷◌, ◌++◌, flat_map, map, Option, Some, None, is_some, unwrap_or, arith}
use Rattle.vt_spec.proofs.Common.{Among, FileTree, Filesystem, HasOwnParents, IsTree, Layer, Node, Overlay, World, and-false, and_parts, counts_as_in_layer, entry_from, filesystem_numbered, found_among, has_entry_to, is_locked, is_locked_at, is_overlay, is_plain_layer, is_under, layers_of, lies_in_layer, lies_or_counts_under, list_all, list_any, live_layers, mount_at, none_from_among, of_overlay, or-false, overlays, not-true, common_steps}
use Rattle.vt_ns.proofs.Common.{FilesystemEntry, Filesystems, IsHeld, StoreValue, WorldValue, among-from_filter, among-map, among_from_all, among_from_list_all, counted, counted_test, entry_of, files_at, filesystem_seen, is_own_number, is_small_node, location_of, no_entry, number_of, numbered_all, overlay_of_store, overlay_seen, overlays_of_store, overlays_seen, with_store, world_of}
use Rattle.vt_group.proofs.IndexLemmas.{any_flat}
use Rattle.vt_location.specs.declared.births.Birth.TheVariants.{Here}
use Rattle.vt_location.specs.declared.locations.InodeRef.{InodeRef}
use Rattle.vt_location.specs.declared.locations.Location.{Location}
use Rattle.vt_location.specs.declared.locations.NodeRef.{NodeRef}
use Rattle.vt_location.specs.Locations.{inode_of, plain_at}
use Rattle.vt_fs.specs.FilesystemsValue.{files_seen}
use Rattle.vt_fs.specs.Laws.{ParentsAreNamed}
use Rattle.vt_fs.proofs.Parents.{parents_named}
use Rattle.vt_overlay.specs.declared.merge.layers.LayerRef.{LayerRef}
use Rattle.vt_overlay.specs.MergedTree.{layer_seen}
use Rattle.vt_layered.specs.LayeredTree.{layered_seen}
use Rattle.vt_layered.specs.LayeredValue.{keeps_object}
use Rattle.vt_location.specs.Numbers.{exchanged}
use Rattle.vt_mounting.proofs.detach.LowerKept.{held_are, layers_are}
use Rattle.vt_mounting.proofs.detach.StoreShown.{kept_lower}
use Rattle.vt_store.specs.Locks.{is_in_layer, keeps_in, lies_in, lies_in_overlay}
use Rattle.vt_world.specs.Held.{HasOwnInodes}
use Rattle.vt_mounting.specs.Detach.Looking.{is_seen}
use Rattle.vt_mounting.proofs.detach.LookLemmas.{unseen_node}
use Rattle.vt_mounting.proofs.detach.Overlaid.{overlays_are, plain_one_among}
use Rattle.vt_mounting.proofs.detach.PlainFound.{counted_where_plain, overlay_among}
use Rattle.vt_laws_trees.proofs.layers.layers.ShownFronts.{list_any_of_map}
use Rattle.vt_store.specs.OverlaysValue as stored

-- tests that agree on the elements of a list are passed by some alike
any_alike : {A : Type 0} (one other : A → Bool) (list : List A) → ((a : A) → Among a list → one a ≡ other a)
    → list_any one list ≡ list_any other list
any_alike one other [] same = refl
any_alike one other (a ∷ rest) same = λ i. same a (inl refl) i || any_alike one other rest (λ b m. same b (inr m)) i

-- an inode of a plain filesystem was born there
pub born_plain : (plain : Filesystems) → ((entry : FilesystemEntry) → Among entry plain → HasOwnInodes entry) → (count : ℕ)
    (node : NodeRef) → is_small_node node ≡ true
    → is_some ((files_at plain count).tree.node (number_of node)) ≡ true → node.birth ≡ Here
born_plain plain own count node small there = by (entry_of plain count) refl there
  where
    by : (o : Option FilesystemEntry) → entry_of plain count ≡ o
        → is_some ((files_seen (unwrap_or o (no_entry count))).tree.node (number_of node)) ≡ true → node.birth ≡ Here
    by None e there = absurd (true≢false (sym there))
    by (Some entry) e there = of_number (is_own_number entry.count (number_of node)) refl
      where
        of_number : (b : Bool) → is_own_number entry.count (number_of node) ≡ b → node.birth ≡ Here
        of_number false other = grind (arith, common_steps, is_some, own, found_among)
        of_number true is = grind (arith, common_steps)

-- the inode that a node is, if it was born in its filesystem
pub record IsPlainNode (node : NodeRef) (inode : InodeRef) : Type 0 where
  pub filesystem : inode.filesystem.count ≡ node.filesystem.count
  pub number : inode_of inode ≡ number_of node

pub plain_number : (node : NodeRef) (inode : InodeRef) → plain_at node node.birth ≡ Some inode → IsPlainNode node inode
plain_number node inode e = grind (arith, common_steps)

pub born_below : (node : NodeRef) → plain_at node node.birth ≡ None → node.birth ≡ Here → ⊥
born_below node none here = cc

module _ (base : WorldValue) (store : StoreValue) (held : IsHeld (with_store store base)) where
  abbrev kept : WorldValue
  kept = with_store store base

  abbrev world : World ℕ
  world = world_of (with_store store base)

  -- no upper inode counts as under a layer
  pub uncounted : (filesystem number : ℕ) (layer : Layer ℕ)
      → list_any (counts_as_in_layer nat_eq world filesystem number layer) (overlays world) ≡ false
  uncounted filesystem number layer =
      none_from_among (counts_as_in_layer nat_eq world filesystem number layer) (overlays world) (λ merged m.
      by merged merged.overlay refl (among_from_all (λ (f : Filesystem ℕ).
      of_overlay false (λ overlay. is_some overlay.upper) f ≡ false) world.filesystems held.overlays.read_only merged
      (among-from_filter is_overlay world.filesystems merged m).0))
    where
      by : (merged : Filesystem ℕ) (o : Option (Overlay ℕ)) → merged.overlay ≡ o
          → of_overlay false (λ overlay. is_some overlay.upper) merged ≡ false
          → counts_as_in_layer nat_eq world filesystem number layer merged ≡ false
      by merged o e none = grind (arith, common_steps)

  -- the layers of its overlays
  live_are : (entries : List stored.OverlayEntry)
      → flat_map (of_overlay [] layers_of) (overlays_seen (map (overlay_of_store store.plain) entries))
      ≡ flat_map (λ (entry : stored.OverlayEntry). layers_of (layered_seen entry.overlay entry.above)) entries
  live_are [] = refl
  live_are (entry ∷ entries) = ap (λ rest. layers_of (layered_seen entry.overlay entry.above) ++ rest) (live_are entries)

  abbrev in_entry : ℕ → ℕ → stored.OverlayEntry → Bool
  in_entry filesystem number entry =
      list_any (λ layer. lies_in_layer nat_eq world filesystem number (layer_seen layer)) entry.overlay.lowers

  locked_by : (filesystem number : ℕ)
      → is_locked nat_eq world filesystem number ≡ list_any (in_entry filesystem number) store.overlays
  locked_by filesystem number =
      any_alike (lies_or_counts_under nat_eq world filesystem number) (lies_in_layer nat_eq world filesystem number)
      (live_layers world) (λ layer m. ap (λ b. lies_in_layer nat_eq world filesystem number layer || b)
      (uncounted filesystem number layer) ∙ or-false _)
      ∙ ap (λ all. list_any (lies_in_layer nat_eq world filesystem number) (flat_map (of_overlay [] layers_of) all))
      (overlays_are kept held.overlays)
      ∙ ap (list_any (lies_in_layer nat_eq world filesystem number)) (live_are store.overlays)
      ∙ any_flat (lies_in_layer nat_eq world filesystem number)
      (λ (entry : stored.OverlayEntry). layers_of (layered_seen entry.overlay entry.above)) store.overlays
      ∙ any_alike _ (in_entry filesystem number) store.overlays
      (λ entry m. ap (list_any (lies_in_layer nat_eq world filesystem number))
      (layers_are entry (kept_lower base store held entry m))
      ∙ list_any_of_map (lies_in_layer nat_eq world filesystem number) layer_seen entry.overlay.lowers)

  module _ (entry : stored.OverlayEntry) (m : Among entry store.overlays) (layer : LayerRef)
      (n : Among layer entry.overlay.lowers) where
    abbrev own : ℕ
    own = layer.directory.filesystem.count

    -- a layer is in a plain filesystem
    no_overlay : is_overlay (filesystem_numbered nat_eq (world_of (with_store store base))
        (counted layer.directory.filesystem.count)) ≡ false
    no_overlay =
        let seen = overlay_seen (overlay_of_store store.plain entry) in
        let among = (overlay_among kept held.overlays seen
        (among-map overlay_seen (overlays_of_store store) (overlay_of_store store.plain entry)
        (among-map (overlay_of_store store.plain) store.overlays entry m))).0 in
        let all : list_all (is_plain_layer nat_eq world) (map layer_seen entry.overlay.lowers) ≡ true =
        subst (λ layers. list_all (is_plain_layer nat_eq world) layers ≡ true)
        (layers_are entry (kept_lower base store held entry m))
        (among_from_list_all (of_overlay true (λ overlay. list_all (is_plain_layer nat_eq world) (layers_of overlay)))
        world.filesystems held.in_world.overlays.plain_layers seen among) in
        not-true _ (and_parts (not (is_overlay (filesystem_numbered nat_eq world (counted own)))) _
        (among_from_list_all (is_plain_layer nat_eq world) (map layer_seen entry.overlay.lowers) all (layer_seen layer)
        (among-map layer_seen entry.overlay.lowers layer n))).0

    same_files : (filesystem_numbered nat_eq (world_of (with_store store base))
        (counted layer.directory.filesystem.count)).files ≡ files_at store.plain layer.directory.filesystem.count
    same_files = ap (λ (f : Filesystem ℕ). f.files) (counted_where_plain kept held own no_overlay)

    -- what lies in it lies there in the store
    lies_so : (count number : ℕ) → lies_in_layer nat_eq world (counted count) number (layer_seen layer)
        ≡ lies_in store.plain count number layer
    lies_so count number = by (nat_eq count own) refl
      where
        by : (b : Bool) → nat_eq count own ≡ b → lies_in_layer nat_eq world (counted count) number (layer_seen layer)
            ≡ lies_in store.plain count number layer
        by false e = cc (counted_test count own)
        by true e =
            let files = subst (λ k. (filesystem_numbered nat_eq world (counted k)).files ≡ files_at store.plain k)
            (sym (eqb-true count own e)) same_files in
            λ i. counted_test count own i && is_under nat_eq (files i) (inode_of layer.directory) number

  -- an entry leads to what is there
  no_entry_to : (filesystem number directory : ℕ)
      → (filesystem_numbered nat_eq (world_of (with_store store base)) filesystem).files.tree.node number ≡ None
      → has_entry_to nat_eq (filesystem_numbered nat_eq (world_of (with_store store base)) filesystem).files.tree
      directory number ≡ false
  no_entry_to filesystem number directory none = ⊎_elim
      (λ tree. by tree (has_entry_to nat_eq found.files.tree directory number) refl)
      (λ missing. ap (λ (f : Filesystem ℕ). has_entry_to nat_eq f.files.tree directory number) missing.0)
      (numbered_all (λ (f : Filesystem ℕ). IsTree f.files.tree) filesystem world.filesystems held.in_world.files.trees)
    where
      found : Filesystem ℕ
      found = filesystem_numbered nat_eq (world_of (with_store store base)) filesystem

      by : IsTree found.files.tree → (b : Bool) → has_entry_to nat_eq found.files.tree directory number ≡ b → b ≡ false
      by tree true e =
          let entry = entry_from found.files.tree tree directory number e in
          absurd (true≢false (sym (tree.alive directory entry.0 number entry.1) ∙ ap is_some none))
      by tree false e = refl

  -- so what is not there lies in no layer
  nothing_under : (filesystem number top : ℕ)
      → (filesystem_numbered nat_eq (world_of (with_store store base)) filesystem).files.tree.node number ≡ None
      → is_under nat_eq (filesystem_numbered nat_eq (world_of (with_store store base)) filesystem).files top number
      ≡ false
  nothing_under filesystem number top none = grind (arith, common_steps, cond, none_from_among, no_entry_to)

  not_there : (filesystem number : ℕ)
      → (filesystem_numbered nat_eq (world_of (with_store store base)) filesystem).files.tree.node number ≡ None
      → (layer : Layer ℕ) → lies_in_layer nat_eq (world_of (with_store store base)) filesystem number layer ≡ false
  not_there filesystem number none layer = cc (nothing_under filesystem number layer.directory none, and-false _)

  -- nor does what was born below a layer
  not_plain : (filesystem : ℕ) (node : NodeRef) → is_small_node node ≡ true → (node.birth ≡ Here → ⊥)
      → (entry : stored.OverlayEntry) → Among entry store.overlays → (layer : LayerRef)
      → Among layer entry.overlay.lowers
      → lies_in_layer nat_eq (world_of (with_store store base)) filesystem (number_of node) (layer_seen layer) ≡ false
  not_plain filesystem node small below entry m layer n = by (nat_eq filesystem (counted own_count)) refl
    where
      own_count : ℕ
      own_count = layer.directory.filesystem.count

      no_node : (o : Option (Node ℕ)) → (files_at store.plain own_count).tree.node (number_of node) ≡ o → o ≡ None
      no_node None e = refl
      no_node (Some inode) e = absurd (below (born_plain store.plain
          (λ one among. among_from_all HasOwnInodes store.plain held.own_inodes one among) own_count node small
          (ap is_some e)))

      by : (b : Bool) → nat_eq filesystem (counted own_count) ≡ b
          → lies_in_layer nat_eq (world_of (with_store store base)) filesystem (number_of node) (layer_seen layer)
          ≡ false
      by false e = cc
      by true e = not_there filesystem (number_of node)
          (ap (λ k. (filesystem_numbered nat_eq world k).files.tree.node (number_of node))
          (eqb-true filesystem (counted own_count) e)
          ∙ ap (λ (files : FileTree ℕ). files.tree.node (number_of node)) (same_files entry m layer n)
          ∙ no_node ((files_at store.plain own_count).tree.node (number_of node)) refl) (layer_seen layer)

  -- The locks of the store are those of the world: on an inode of a plain filesystem,
  pub locks_are : (count number : ℕ) → is_in_layer store count number
      ≡ is_locked nat_eq (world_of (with_store store base)) (counted count) number
  locks_are count number = (λ i. list_any (lies_in_overlay store.plain count number) store.overlays
      || none_from_among (keeps_in count number) store.overlays (λ entry m.
      ap (λ above. keeps_object entry.overlay above
      (record { filesystem = record { count = count }; slot = exchanged count number }))
      (kept_lower base store held entry m)) i)
      ∙ or-false _
      ∙ any_alike (lies_in_overlay store.plain count number) (in_entry (counted count) number) store.overlays
      (λ entry m. ap (list_any (lies_in store.plain count number)) (held_are entry (kept_lower base store held entry m))
      ∙ any_alike (lies_in store.plain count number)
      (λ layer. lies_in_layer nat_eq world (counted count) number (layer_seen layer)) entry.overlay.lowers
      (λ layer n. sym (lies_so entry m layer n count number))) ∙ sym (locked_by (counted count) number)

  -- on what is not there,
  pub none_there : (filesystem number : ℕ)
      → (filesystem_numbered nat_eq (world_of (with_store store base)) filesystem).files.tree.node number ≡ None
      → is_locked nat_eq (world_of (with_store store base)) filesystem number ≡ false
  none_there filesystem number none = locked_by filesystem number
      ∙ none_from_among (in_entry filesystem number) store.overlays (λ entry m.
      none_from_among (λ layer. lies_in_layer nat_eq world filesystem number (layer_seen layer)) entry.overlay.lowers
      (λ layer n. not_there filesystem number none (layer_seen layer)))

  -- and on a node that was born below a layer
  pub none_below : (filesystem : ℕ) (node : NodeRef) → is_small_node node ≡ true → (node.birth ≡ Here → ⊥)
      → is_locked nat_eq (world_of (with_store store base)) filesystem (number_of node) ≡ false
  none_below filesystem node small below = locked_by filesystem (number_of node)
      ∙ none_from_among (in_entry filesystem (number_of node)) store.overlays (λ entry m.
      none_from_among (λ layer. lies_in_layer nat_eq world filesystem (number_of node) (layer_seen layer))
      entry.overlay.lowers (λ layer n. not_plain filesystem node small below entry m layer n))

  -- in the tree of each plain filesystem directories are named by their parents
  pub plain_parents : (count : ℕ) → ParentsAreNamed (files_at store.plain count).tree
  plain_parents count = by (entry_of store.plain count) refl
    where
      by : (o : Option FilesystemEntry) → entry_of store.plain count ≡ o
          → ParentsAreNamed (files_seen (unwrap_or o (no_entry count))).tree
      by None e = λ directory other. ap not (sym (eq-eqb directory directory refl))
      by (Some entry) e =
          let among = plain_one_among kept held.overlays.merged entry
          (found_among (λ (one : FilesystemEntry). nat_eq count one.count) store.plain entry e) in
          parents_named (files_seen entry).tree
          (among_from_all (λ (f : Filesystem ℕ). IsTree f.files.tree) world.filesystems held.in_world.files.trees
          (filesystem_seen entry) among)
          (among_from_all (λ (f : Filesystem ℕ). HasOwnParents f.files.tree) world.filesystems
          held.in_world.files.own_parents (filesystem_seen entry) among)

  module _ (value : WorldValue) (is : with_store store base ≡ value) (at : Location)
      (small : is_small_node at.node ≡ true) where
    -- an inode that is seen is locked just where it lies in a layer
    pub seen_locked : (inode : InodeRef) → plain_at at.node at.node.birth ≡ Some inode → is_seen value at ≡ true
        → is_in_layer store inode.filesystem.count (inode_of inode)
        ≡ is_locked_at nat_eq (world_of value) (location_of at)
    seen_locked inode plain = grind (arith, common_steps, is_seen, plain_number, locks_are, kept, counted, eqb-true)

    pub unseen_unlocked : is_seen value at ≡ false → is_locked_at nat_eq (world_of value) (location_of at) ≡ false
    unseen_unlocked = grind (arith, common_steps, is_seen, none_there, kept, unseen_node)

    pub below_unlocked : plain_at at.node at.node.birth ≡ None
        → is_locked_at nat_eq (world_of value) (location_of at) ≡ false
    below_unlocked none = subst (λ (v : WorldValue). is_locked_at nat_eq (world_of v) (location_of at) ≡ false) is
        (none_below (mount_at nat_eq (world_of kept) (location_of at)).filesystem at.node small
        (born_below at.node none))

    -- and so is everything where there are no overlays
    pub all_unlocked : store.overlays ≡ [] → is_locked_at nat_eq (world_of value) (location_of at) ≡ false
    all_unlocked none = grind (arith, common_steps, locked_by, kept)
