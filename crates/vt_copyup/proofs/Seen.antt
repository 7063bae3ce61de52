-- What layers show on the way to an object, and the copy of it.
use Rattle.std.proofs.Common.{◌≡◌, ◌≢◌, ◌∙◌, ◌+◌, ◌<◌, ◌∷◌, ◌++◌, [], arith, ap, Bool, is_some, IsSome, length, List, None, option_map, Option, refl, slice_get, Some, subst, suc, sym, true, true≢false, unwrap_or, ℕ, if◌then◌else◌}
use Rattle.vt_spec.proofs.Common.{IsDirectory, IsTree, Node, OpenLayer, Shown, Tree, at_path, common_steps, entries_in, entry_at, is_directory_node, is_kind_in, kind_of, last_or, led, led-append, none_is_some, same_Some, shown, slice_get-map, slice_get_within, then_some, without_last}
use Rattle.vt_spec.specs.Machine.Merging.{layer_node}
use Rattle.vt_spec.specs.Rights.{is_directory}
use Rattle.vt_spec.specs.Tree.{Content}
use Rattle.vt_spec.specs.Tree.Content.{Directory, Regular, Symlink, Whiteout}
use Rattle.vt_spec.specs.declared.attributes.Kind.TheVariants.{White}
use Rattle.vt_laws_trees.proofs.layers.layers.ShownDirectories.{AreOpen, shown_in_directory}
use Rattle.vt_laws_trees.proofs.layers.layers.ShownPaths.{last_of_longer, root_of_longer}
use Rattle.vt_laws_trees.proofs.layers.layers.UpperShown.{without_last_of_longer}
use Rattle.vt_node.specs.Ranks.{rank_among}
use Rattle.vt_location.specs.declared.births.Birth.TheVariants.{Below, Here}
use Rattle.vt_location.specs.declared.locations.NodeRef.{NodeRef}
use Rattle.vt_location.specs.declared.numbers.FilesystemId.{FilesystemId}
use Rattle.vt_location.specs.Locations.{inode_of}
use Rattle.vt_location.specs.Numbers.{exchanged}
use Rattle.vt_fs.specs.FilesystemsValue.{Filesystems, files_at, node_seen}
use Rattle.vt_overlay.specs.declared.merge.layers.LayerEntry.{LayerEntry}
use Rattle.vt_overlay.specs.declared.merge.layers.LayerRef.{LayerRef}
use Rattle.vt_overlay.specs.Merge.EntryValue.{IsFirstEntry, entry_shown}
use Rattle.vt_overlay.specs.Merge.LayerValue.{layer_of, layers_of, opened}
use Rattle.vt_overlay.specs.MergedTree.{AreLayers, birth_at, node_born, slot_at}
use Rattle.vt_copyup.specs.Copied.{bare, content_copied, copied}
use Rattle.vt_copyup.specs.Planned.{IsNodeAt}

-- a copy is the same of an inode by slots and by numbers
pub bare-seen : (f : ℕ) (node : Node ℕ) → bare (node_seen f node) ≡ bare node
bare-seen f node = by node.content
  where
    by : (content : Content ℕ) → bare (node_seen f (record { attr = node.attr; content = content }))
        ≡ bare (record { attr = node.attr; content = content })
    by (Directory parent entries opaque) = refl
    by (Regular bytes) = refl
    by (Symlink text) = refl
    by Whiteout = refl

pub copied-seen : (with_bytes : Bool) (f : ℕ) (node : Node ℕ)
    → copied with_bytes (node_seen f node) ≡ copied with_bytes node
copied-seen with_bytes f node =
    ap (λ (b : Node ℕ). record { attr = b.attr; content = content_copied with_bytes b.content }) (bare-seen f node)

module _ (trees : Filesystems) (layers : List LayerRef) (are : AreLayers trees layers) where
  abbrev stack : List (OpenLayer ℕ)
  stack = layers_of trees layers

  pub open_layers : AreOpen stack
  open_layers place layer e = by (slice_get layers place) refl
      (sym (slice_get-map (layer_of trees) layers place) ∙ e)
    where
      by : (o : Option LayerRef) → slice_get layers place ≡ o → option_map (layer_of trees) o ≡ Some layer
          → IsTree layer.tree × IsDirectory layer.tree layer.directory
      by None s m = none_is_some layer m
      by (Some lower) s m = subst (λ (l : OpenLayer ℕ). IsTree l.tree × IsDirectory l.tree l.directory)
          (same_Some (layer_of trees lower) layer m) ((are place lower s).tree, (are place lower s).directory)

  -- what is shown under a name is shown in a directory
  module _ (path : List (List ℕ)) (name : List ℕ) (some : IsSome (shown stack (path ++ name ∷ []))) where
    in_directory : (o : Option (Shown ℕ)) → shown stack (path ++ name ∷ []) ≡ o → IsSome o
        → IsSome (shown stack path)
        × ((inode : Node ℕ) → then_some (shown stack path) (layer_node stack) ≡ Some inode
        → is_directory (kind_of inode.content) ≡ true)
    in_directory None e s = absurd (true≢false (sym s))
    in_directory (Some seen) e s =
        let there = shown_in_directory stack open_layers 0 path name seen e in
        let zero_more : 0 + there.place ≡ there.place = omega arith in
        let node : then_some (shown stack path) (layer_node stack) ≡ there.layer.tree.node there.object =
        ap (λ o. then_some o (layer_node stack)) there.is
        ∙ ap (λ n. then_some (slice_get stack n) (λ (layer : OpenLayer ℕ). layer.tree.node there.object)) zero_more
        ∙ ap (λ o. then_some o (λ (layer : OpenLayer ℕ). layer.tree.node there.object)) there.there in
        (ap is_some there.is, λ inode is. ap is_directory_node (sym is ∙ node) ∙ there.directory)

    pub front_shown : IsSome (shown stack path)
    front_shown = (in_directory (shown stack (path ++ name ∷ [])) refl some).0

    pub front_is_directory : (inode : Node ℕ) → then_some (shown stack path) (layer_node stack) ≡ Some inode
        → is_directory (kind_of inode.content) ≡ true
    front_is_directory = (in_directory (shown stack (path ++ name ∷ [])) refl some).1

  -- the entry that decides under a name of a directory
  module _ (path : List (List ℕ)) (name : List ℕ) (found : LayerEntry)
      (first : IsFirstEntry trees layers path name found)
      (some : IsSome (shown stack (path ++ name ∷ []))) where
    abbrev f : ℕ
    f = first.above.lower.directory.filesystem.count

    abbrev tree : Tree ℕ
    tree = (files_at trees f).tree

    above_filesystem : found.above.directory.filesystem.count ≡ f
    above_filesystem = ap (λ (id : FilesystemId). id.count) first.above.filesystem

    object_filesystem : found.object.filesystem.count ≡ f
    object_filesystem = ap (λ (id : FilesystemId). id.count) first.entry.filesystem ∙ above_filesystem

    entry_is : entry_at tree (inode_of found.above.directory) name ≡ Some (inode_of found.object)
    entry_is = ap (λ c. entry_at (files_at trees c).tree (inode_of found.above.directory) name) (sym above_filesystem)
        ∙ first.entry.leads

    leads_to : led tree (inode_of first.above.lower.directory) (path ++ name ∷ []) ≡ Some (inode_of found.object)
    leads_to = led-append tree (inode_of first.above.lower.directory) path name (inode_of found.above.directory)
        (inode_of found.object) first.above.leads entry_is

    pub object_is_there : is_some ((files_at trees found.object.filesystem.count).tree.node (inode_of found.object))
        ≡ true
    object_is_there = ap (λ c. is_some ((files_at trees c).tree.node (inode_of found.object))) object_filesystem
        ∙ (are found.above.layer first.above.lower first.above.layer).tree.alive (inode_of found.above.directory) name
        (inode_of found.object) entry_is

    pub is_within : found.above.layer < length layers
    is_within = slice_get_within layers found.above.layer first.above.lower first.above.layer

    -- it is in a lower layer if the upper one leads nowhere
    pub is_lower : ((upper : LayerRef) → slice_get layers 0 ≡ Some upper
        → at_path (opened trees upper.directory) (path ++ name ∷ []) ≡ None) → found.above.layer ≢ 0
    is_lower nowhere zero_layer = none_is_some (inode_of found.object)
        (sym (nowhere first.above.lower (ap (slice_get layers) (sym zero_layer) ∙ first.above.layer)) ∙ leads_to)

    -- what is shown is it
    pub is_shown : shown stack (path ++ name ∷ [])
        ≡ Some (record { layer = found.above.layer; object = inode_of found.object })
    is_shown = first.shows ∙ by (is_kind_in White (tree.node (inode_of found.object))) refl
        (subst IsSome first.shows some)
      where
        white : Bool
        white = is_kind_in White ((opened trees found.above.directory).tree.node (inode_of found.object))

        by : (b : Bool) → is_kind_in White (tree.node (inode_of found.object)) ≡ b
            → IsSome (entry_shown trees found)
            → entry_shown trees found ≡ Some (record { layer = found.above.layer; object = inode_of found.object })
        by b e s = grind (arith, common_steps, true≢false)

    pub inode_shown : (inode : Node ℕ)
        → Some inode ≡ (files_at trees found.object.filesystem.count).tree.node (inode_of found.object)
        → then_some (shown stack (path ++ name ∷ [])) (layer_node stack) ≡ Some inode
    inode_shown inode is = ap (λ o. then_some o (layer_node stack)) is_shown
        ∙ ap (λ o. then_some o (λ (layer : OpenLayer ℕ). layer.tree.node (inode_of found.object)))
        (slice_get-map (layer_of trees) layers found.above.layer ∙ ap (option_map (layer_of trees)) first.above.layer)
        ∙ ap (λ c. (files_at trees c).tree.node (inode_of found.object)) (sym object_filesystem) ∙ sym is

    -- the node that was born there
    module _ (overlay : FilesystemId) (place : ℕ) (below : place + 1 ≡ found.above.layer) (node : NodeRef)
        (own : node.filesystem ≡ overlay) (slot : node.slot ≡ found.object.slot)
        (birth : node.birth ≡ Below place found.above.directory.slot
        (if is_directory_node ((files_at trees found.object.filesystem.count).tree.node (inode_of found.object)) then 0
        else rank_among (entries_in ((files_at trees found.above.directory.filesystem.count).tree.node
        (inode_of found.above.directory))) name (inode_of found.object)))
        (object_slot : exchanged found.object.filesystem.count (inode_of found.object) ≡ found.object.slot)
        (directory_slot : exchanged found.above.directory.filesystem.count (inode_of found.above.directory)
        ≡ found.above.directory.slot) where
      slot_is : node.slot ≡ slot_at trees first.above.lower (path ++ name ∷ [])
      slot_is = slot ∙ sym object_slot ∙ ap (λ c. exchanged c (inode_of found.object)) object_filesystem
          ∙ ap (λ o. exchanged f (unwrap_or o 0)) (sym leads_to)

      above_slot : found.above.directory.slot ≡ slot_at trees first.above.lower (without_last (path ++ name ∷ []))
      above_slot = sym directory_slot ∙ ap (λ c. exchanged c (inode_of found.above.directory)) above_filesystem
          ∙ ap (λ o. exchanged f (unwrap_or o 0)) (sym first.above.leads)
          ∙ ap (slot_at trees first.above.lower) (sym (without_last_of_longer path name))

      rank_is : (if is_directory_node ((files_at trees found.object.filesystem.count).tree.node
          (inode_of found.object)) then 0
          else rank_among (entries_in ((files_at trees found.above.directory.filesystem.count).tree.node
          (inode_of found.above.directory))) name (inode_of found.object))
          ≡ Rattle.vt_overlay.specs.MergedTree.rank_at trees first.above.lower (path ++ name ∷ [])
      rank_is = (λ i. if is_directory_node ((files_at trees (object_filesystem i)).tree.node (inode_of found.object))
          then 0 else rank_among (entries_in ((files_at trees (above_filesystem i)).tree.node
          (inode_of found.above.directory))) name (inode_of found.object))
          ∙ (λ i. if is_directory_node (then_some (sym leads_to i) tree.node) then 0
          else rank_among (entries_in (then_some (sym first.above.leads i) tree.node))
          (sym (last_of_longer path name []) i) (unwrap_or (sym leads_to i) 0))
          ∙ ap (λ way. if is_directory_node (then_some (led tree (inode_of first.above.lower.directory)
          (path ++ name ∷ [])) tree.node) then 0
          else rank_among (entries_in (then_some (led tree (inode_of first.above.lower.directory) way) tree.node))
          (last_or [] (path ++ name ∷ [])) (unwrap_or (led tree (inode_of first.above.lower.directory)
          (path ++ name ∷ [])) 0)) (sym (without_last_of_longer path name))

      birth_is : node.birth ≡ birth_at trees place first.above.lower (path ++ name ∷ [])
      birth_is = birth ∙ (λ i. Below place (above_slot i) (rank_is i))
          ∙ ap (λ b. if b then Here else Below place
          (slot_at trees first.above.lower (without_last (path ++ name ∷ [])))
          (Rattle.vt_overlay.specs.MergedTree.rank_at trees first.above.lower (path ++ name ∷ [])))
          (sym (root_of_longer path name))

      pub is_node_at : IsNodeAt trees layers overlay (path ++ name ∷ []) node
      is_node_at = record {
        place = place;
        object = inode_of found.object;
        lower = first.above.lower;
        layer = ap (slice_get layers) below_is ∙ first.above.layer;
        shows = is_shown ∙ ap (λ n. Some (record { layer = n; object = inode_of found.object })) (sym below_is);
        leads = leads_to;
        is = λ i. record { filesystem = own i; slot = slot_is i; birth = birth_is i };
      }
        where
          below_is : suc place ≡ found.above.layer
          below_is = omega (arith, below)
