-- What an overlay keeps without a name, in its world.
use Rattle.std.proofs.Common.{◌≡◌, ◌≢◌, ◌∙◌, ◌<◌, refl, sym, ap, subst, arith, ℕ, suc, nat_eq, nat_lt, eqb-true, eq-eqb, Bool, true, false, true≢false, cond, List, All, find, Option, Some, None, option_map, is_some, slice_get, unwrap_or, ⊎_elim}
use Rattle.std.specs.Map.{keys_of}
use Rattle.vt_spec.proofs.Common.{Among, FileTree, Filesystem, HasName, IsTree, Layer, Lower, Node, Overlay, Real, Upper, World, all_from_among, among_from_all, any_among, any_from_among, filesystem_numbered, found_among, found_passes, holds_of, is_there, node_in, none_is_some, reached_named, same_Some, then_some}
use Rattle.vt_laws_kept.specs.Counts.{locations_on}
use Rattle.vt_laws_kept.specs.Kept.{is_unnamed}
use Rattle.vt_laws_kept.proofs.counts.Located.{unnamed_exist_while_located}
use Rattle.vt_laws_kept.proofs.overlaps.Kept.{path_to}
use Rattle.vt_laws_trees.specs.Overlays.MergedTrees.{IsMergedTree, IsNamedBy}
use Rattle.vt_laws_trees.specs.Overlays.TreesSeen.{path_numbered, real_by, real_seen}
use Rattle.vt_laws_trees.proofs.overlays.merged.Numbers.{overlays_are_merged_trees}
use Rattle.vt_laws_trees.proofs.overlays.seen.NamedTrees.{seen_trees_are_named}
use Rattle.vt_location.specs.declared.births.Birth.{Birth}
use Rattle.vt_location.specs.declared.births.Birth.TheVariants.{Below, Here}
use Rattle.vt_location.specs.declared.locations.NodeRef.{NodeRef}
use Rattle.vt_location.specs.Locations.{is_small_node, number_of}
use Rattle.vt_location.specs.Numbers.{counted, inode_number, is_inode_of}
use Rattle.vt_location.specs.SameNodes.{same_node}
use Rattle.vt_location.proofs.NodeLemmas.{one_to_one, small_parts}
use Rattle.vt_location.proofs.NumberLemmas.{exchanged_number, slot_of}
use Rattle.vt_births.specs.Births.{node_above, node_of, slot_above, slot_by}
use Rattle.vt_births.specs.Kept.{is_kept}
use Rattle.vt_births.proofs.Nodes.{same_node-is}
use Rattle.vt_fs.proofs.Numbers.{found_by_number}
use Rattle.vt_fs.specs.FilesystemsValue.{Filesystems}
use Rattle.vt_overlay.specs.declared.merge.layers.LayerRef.{LayerRef}
use Rattle.vt_overlay.specs.MergedTree.{OverlayValue, layer_seen, longest, node_born, plain_world}
use Rattle.vt_upper_overlay.specs.Laws.{IsLeftWithoutName, with_objects}
use Rattle.vt_upper_overlay.specs.MergedAbove.{born_object, count_of, held, object_by, object_kept, path_born, real_number, upper_count, upper_seen}
use Rattle.vt_upper_overlay.specs.UpperValue.{UpperOverlayValue}
use Rattle.vt_layered.specs.LayeredTree.{layered_objects}
use Rattle.vt_layered.specs.LayeredValue.{Above, upper_of}
use Rattle.vt_kept_nodes.proofs.forgetting.LookedAt.{any_found}
use Rattle.vt_unnamed.specs.Kept.{IsKeptIn, with_its_objects}
use Rattle.vt_unnamed.proofs.leaving.Alike.{merged_alike}

-- the real object at a path of a lower layer
abbrev lower_at : ℕ → List (List ℕ) → Real ℕ
lower_at layer path = Lower layer path

-- what no name leads to is unnamed
pub unnamed_without : (files : FileTree ℕ) → IsTree files.tree → (inode : ℕ) → ¬ (HasName files.tree inode)
    → inode ≢ files.tree.root → is_unnamed files inode ≡ true
unnamed_without files tree inode none other = by (is_unnamed files inode) refl
  where
    by : (b : Bool) → is_unnamed files inode ≡ b → b ≡ true
    by true e = refl
    by false e = ⊎_elim (λ root. absurd (other (sym root))) (λ named. absurd (none named))
        (reached_named files.tree inode (path_to files tree inode e))

module _ {world : World ℕ} {plain : Filesystems} {overlay : OverlayValue} {above : Above}
    (kept : IsKeptIn world plain overlay above) where
  abbrev pub number : ℕ
  number = counted overlay.number.count

  abbrev pub merged : Filesystem ℕ
  merged = filesystem_numbered nat_eq world (counted overlay.number.count)

  abbrev pub before : UpperOverlayValue
  before = upper_of overlay above

  abbrev pub real : ℕ → Option (Real ℕ)
  real = layered_objects plain overlay (Some above)

  abbrev pub its : Overlay ℕ
  its = with_its_objects plain overlay (Some above)

  abbrev c : ℕ
  c = upper_count (upper_of overlay above)

  pub in_its_world : IsMergedTree world merged (with_objects before real)
  in_its_world = overlays_are_merged_trees world number its kept.in_world kept.is

  pub merged_before : IsMergedTree (plain_world plain) merged (with_objects before real)
  merged_before = merged_alike world plain before kept.shows real merged in_its_world

  -- What is kept

  pub among_kept : (node : NodeRef) → is_kept above.nodes.kept node ≡ true → Among node (keys_of above.nodes.kept.by_node)
  among_kept node there =
      let found = any_among (same_node node) (keys_of above.nodes.kept.by_node) there in
      subst (λ one. Among one (keys_of above.nodes.kept.by_node)) (sym (same_node-is node found.0 found.2)) found.1

  pub without_name : (node : NodeRef) → Among node (keys_of above.nodes.kept.by_node)
      → IsLeftWithoutName before merged.files.tree real node
  without_name = among_from_all (IsLeftWithoutName before merged.files.tree real) (keys_of above.nodes.kept.by_node)
      kept.right.kept

  pub all_small : All (λ node. is_small_node node ≡ true) (keys_of above.nodes.kept.by_node)
  all_small = all_from_among (λ node. is_small_node node ≡ true) (keys_of above.nodes.kept.by_node)
      (λ node m. (without_name node m).small)

  pub kept_unnamed : (node : NodeRef) → Among node (keys_of above.nodes.kept.by_node)
      → is_unnamed merged.files (number_of node) ≡ true
  kept_unnamed node m =
      let it = without_name node m in
      unnamed_without merged.files in_its_world.tree (number_of node) it.unnamed it.other

  -- All that has no name is kept
  pub unnamed_kept : (node : NodeRef) → is_small_node node ≡ true → node.filesystem ≡ overlay.number
      → is_unnamed merged.files (number_of node) ≡ true → is_some (real (number_of node)) ≡ true
      → is_kept above.nodes.kept node ≡ true
  unnamed_kept node small own unnamed there = kept.counts.used node
      ∙ ap (nat_lt 0) (kept.counts.counts node small own
      ∙ ap (λ b. cond b (locations_on world number (number_of node)) 0) unnamed)
      ∙ sym (unnamed_exist_while_located world number its (number_of node) kept.in_world kept.is unnamed)
      ∙ by (merged.files.tree.node (number_of node)) refl
    where
      by : (o : Option (Node ℕ)) → merged.files.tree.node (number_of node) ≡ o → is_some o ≡ true
      by None e = absurd (true≢false (sym there ∙ ap is_some (in_its_world.merged.real_there (number_of node) e)))
      by (Some inode) e = refl

  -- Slots of the upper layer

  upper_inode : (inode object : ℕ) → real inode ≡ Some (Upper object) → is_inode_of c object ≡ true
  upper_inode inode object e = by (slice_get overlay.lowers 0) refl (merged_before.merged.upper_there inode object e)
    where
      by : (o : Option LayerRef) → slice_get overlay.lowers 0 ≡ o
          → holds_of (λ (layer : Layer ℕ). is_there nat_eq (plain_world plain) layer.filesystem object)
          (option_map layer_seen o) ≡ true → is_inode_of (count_of o) object ≡ true
      by None at there = absurd (true≢false (sym there))
      by (Some top) at there = own (is_inode_of top.directory.filesystem.count object) refl
        where
          own : (b : Bool) → is_inode_of top.directory.filesystem.count object ≡ b → b ≡ true
          own true e = refl
          own false e = absurd (true≢false (sym there
              ∙ ap (λ (filesystem : Filesystem ℕ). is_some (filesystem.files.tree.node object))
              (found_by_number plain top.directory.filesystem.count)
              ∙ ap (λ o. is_some (node_in o)) ((kept.shows.are 0 top at).own_numbers object e)))

  pub copy_small : (slot : ℕ) (node : NodeRef) → node_of above.nodes.births slot ≡ Some node
      → slot < 18446744073709551616
  copy_small slot node e =
      let own = upper_inode (number_of node) (inode_number c slot) (kept.right.copies slot node e) in
      let at = slot_of c (inode_number c slot) own in
      let small = at.1 in
      let same = at.2 in
      omega (arith, small, same)

  -- the node in whose slot an object is
  pub node_there : (node : NodeRef) → Among node (keys_of above.nodes.kept.by_node) → (slot : ℕ)
      → slot_above above.nodes.births node ≡ Some slot
      → (node_above above.nodes.births overlay.number slot ≡ node) × (slot < 18446744073709551616)
  node_there node m slot e = by node.birth refl e
    where
      it : IsLeftWithoutName before merged.files.tree real node
      it = without_name node m

      by : (birth : Birth) → node.birth ≡ birth → slot_by above.nodes.births node birth ≡ Some slot
          → (node_above above.nodes.births overlay.number slot ≡ node) × (slot < 18446744073709551616)
      by Here born own =
          let same = same_Some node.slot slot own in (
            ap (λ found. unwrap_or found (record { filesystem = overlay.number; slot = slot; birth = Here }))
                (ap (node_of above.nodes.births) (sym same) ∙ it.own.alone born)
                ∙ (λ i. record { filesystem = sym it.own.own i; slot = sym same i; birth = sym born i }),
            subst (λ n. n < 18446744073709551616) same (small_parts node it.small).slot,
          )
      by (Below layer directory rank) born copy =
          let back = kept.right.one_to_one.back slot node copy in (
            ap (λ found. unwrap_or found (record { filesystem = overlay.number; slot = slot; birth = Here })) back,
            copy_small slot node back,
          )

  -- The overlay is named by what it keeps

  real_seen_so : real ≡ real_seen (real_number plain before) (held plain before) (longest plain overlay.lowers)
      (plain_world plain) (with_objects before real)
  real_seen_so = λ i. λ inode. by inode (path_numbered (real_number plain before) (longest plain overlay.lowers)
      (plain_world plain) (upper_seen before) inode) i
    where
      by : (inode : ℕ) (o : Option (List (List ℕ)))
          → real_by (real_number plain before) (held plain before) (longest plain overlay.lowers) (plain_world plain)
          (upper_seen before) inode o
          ≡ real_by (real_number plain before) (held plain before) (longest plain overlay.lowers) (plain_world plain)
          (with_objects before real) inode o
      by inode None = refl
      by inode (Some path) = refl

  abbrev numbered : ℕ → NodeRef → Bool
  numbered inode node = nat_eq inode (number_of node)

  object_numbered : (node : NodeRef) → Among node (keys_of above.nodes.kept.by_node) → (object : Real ℕ)
      → object_kept plain before node ≡ Some object → number_of node ≡ real_number plain before object
  object_numbered node m object e = by (slot_above above.nodes.births node) refl e
    where
      at_path : (layer : ℕ) (lower : LayerRef) → slice_get overlay.lowers (suc layer) ≡ Some lower
          → (o : Option (List (List ℕ))) → path_born plain before node layer lower ≡ o
          → option_map (λ path. Lower layer path) o ≡ Some object → number_of node ≡ real_number plain before object
      at_path layer lower at None p some = none_is_some object some
      at_path layer lower at (Some path) p some = ap number_of (same_node-is node
          (node_born plain overlay.number layer lower path) (found_passes (λ path. same_node node
          (node_born plain overlay.number layer lower path)) _ path p))
          ∙ sym (ap (λ o. unwrap_or (option_map (λ lower. number_of (node_born plain overlay.number layer lower path)) o)
          0) at)
          ∙ ap (real_number plain before) (same_Some (Lower layer path) object some)

      in_layer : (layer : ℕ) (o : Option LayerRef) → slice_get overlay.lowers (suc layer) ≡ o
          → then_some o (λ lower. option_map (λ path. Lower layer path) (path_born plain before node layer lower))
          ≡ Some object → number_of node ≡ real_number plain before object
      in_layer layer None at some = none_is_some object some
      in_layer layer (Some lower) at some = at_path layer lower at (path_born plain before node layer lower) refl some

      born : (birth : Birth) → born_object plain before node birth ≡ Some object
          → number_of node ≡ real_number plain before object
      born Here some = none_is_some object some
      born (Below layer directory rank) some = in_layer layer (slice_get overlay.lowers (suc layer)) refl some

      by : (o : Option ℕ) → slot_above above.nodes.births node ≡ o → object_by plain before node o ≡ Some object
          → number_of node ≡ real_number plain before object
      by None s some = born node.birth some
      by (Some slot) s some =
          let at = node_there node m slot s in
          sym (ap (λ n. number_of (node_above above.nodes.births overlay.number n)) (exchanged_number c slot at.1)
          ∙ ap number_of at.0) ∙ ap (real_number plain before) (same_Some (Upper (inode_number c slot)) object some)

  pub named_before : IsNamedBy (real_number plain before) (held plain before) merged its
  named_before = seen_trees_are_named (real_number plain before) (held plain before) (longest plain overlay.lowers)
      (plain_world plain) merged (with_objects before real) merged_before real_seen_so
      (λ inode object e. holds inode object (find (numbered inode) (keys_of above.nodes.kept.by_node)) refl e)
    where
      holds : (inode : ℕ) (object : Real ℕ) (o : Option NodeRef)
          → find (numbered inode) (keys_of above.nodes.kept.by_node) ≡ o
          → then_some o (object_kept plain before) ≡ Some object → inode ≡ real_number plain before object
      holds inode object None f e = none_is_some object e
      holds inode object (Some node) f e =
          eqb-true inode (number_of node) (found_passes (numbered inode) (keys_of above.nodes.kept.by_node) node f)
          ∙ object_numbered node (found_among (numbered inode) (keys_of above.nodes.kept.by_node) node f) object e

  -- a node that is kept is found by its number
  pub held_itself : (node : NodeRef) → Among node (keys_of above.nodes.kept.by_node)
      → held plain before (number_of node) ≡ object_kept plain before node
  held_itself node m = by (find (numbered (number_of node)) (keys_of above.nodes.kept.by_node)) refl
    where
      by : (o : Option NodeRef) → find (numbered (number_of node)) (keys_of above.nodes.kept.by_node) ≡ o
          → then_some o (object_kept plain before) ≡ object_kept plain before node
      by None e = absurd (true≢false (sym (any_from_among (numbered (number_of node))
          (keys_of above.nodes.kept.by_node) node m (eq-eqb (number_of node) (number_of node) refl))
          ∙ sym (any_found (numbered (number_of node)) (keys_of above.nodes.kept.by_node)) ∙ ap is_some e))
      by (Some other) e =
          let found = found_among (numbered (number_of node)) (keys_of above.nodes.kept.by_node) other e in
          ap (object_kept plain before) (one_to_one other node (small_parts other (without_name other found).small)
          (small_parts node (without_name node m).small) (sym (eqb-true (number_of node) (number_of other)
          (found_passes (numbered (number_of node)) (keys_of above.nodes.kept.by_node) other e))))
