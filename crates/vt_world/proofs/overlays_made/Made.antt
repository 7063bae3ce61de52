-- The overlay that is made is the one that its layers show.
use Rattle.std.proofs.Common.{List, None, Option, Some, ap, arith, map, nat_eq, option_map, refl, slice_get, subst, sym, unwrap_or, ⊎_elim, ℕ, ◌∙◌, ◌≡◌, ◌≢◌, false, get_or}
use Rattle.vt_spec.proofs.Common.{Filesystem, Fresh, HasName, IsWorld, ListsNumbers, Merged, MergedInode, OpenLayer, Overlay, Real, World, evens, evens-distinct, filesystem_numbered, inode_count, inode_of, is_one_inode, led, merged_objects, none_is_some, odds, odds-distinct, reached_named, real_object, real_of, same_Some, shown}
use Rattle.vt_fs.specs.FilesystemsValue.{Filesystems}
use Rattle.vt_laws_trees.proofs.layers.directories.Fit.{new_overlay_has_own_parents, new_overlay_is_tree, new_overlay_lists_numbers}
use Rattle.vt_laws_trees.proofs.layers.layers.ShownDirectories.{AreOpen}
use Rattle.vt_laws_trees.proofs.layers.layers.ShownMerged.{inodes, number, objects}
use Rattle.vt_laws_trees.proofs.layers.layers.ShownMounted.{are_open, bounded, can_merge, new_overlay_is_merged, root_shown}
use Rattle.vt_laws_trees.proofs.layers.layers.ShownObjects.{Among, is_one, object_is, one_itself, placed_among}
use Rattle.vt_laws_trees.proofs.layers.layers.ShownTree.{Arrives, arrives}
use Rattle.vt_laws_trees.proofs.layers.layers.ShownWhole.{IsOfObject, is_of_object}
use Rattle.vt_laws_trees.specs.Layers.Layers.Mounted.{AreLayers}
use Rattle.vt_laws_trees.specs.Overlays.MergedTrees.{IsMergedTree, IsNamedBy, layers_shown}
use Rattle.vt_world.proofs.overlays_kept.events.KeptOverlays.{all_opened, no_larger, real_kept, tree_kept}
use Rattle.vt_world.specs.OverlaysKept.Kept.{ShowsLayers, with_objects}
use Rattle.vt_world.proofs.overlays_made.Supplied.{inodes_get_their_numbers}
use Rattle.vt_world.specs.OverlaysMade.Made.{MadeObjectsAreShown, MadeTreesAreShown, handed_in, overlay_made}
use Rattle.vt_laws_trees.proofs.overlays.seen.SeenTrees.{trees_are_seen}
use Rattle.vt_laws_trees.specs.Overlays.TreesSeen.{real_seen, tree_seen}
use Rattle.vt_laws_trees.proofs.trees.TreesOfWorlds.{numbered_anyhow}
use Rattle.vt_overlay.specs.Merge.LayerValue.{layers_of}
use Rattle.vt_overlay.specs.MergedTree.{OverlayValue, layer_seen, longest, merged_tree, overlay_seen, real_number}

module _ (world : World ℕ) (trees : Filesystems) (overlay : OverlayValue) (is : IsWorld nat_eq world)
    (layered : AreLayers world (overlay_seen overlay)) (shows : ShowsLayers world trees overlay)
    (distinct : (j k : ℕ) → handed_in world trees overlay j ≡ handed_in world trees overlay k → j ≡ k) where
  abbrev supply : Fresh ℕ
  supply = evens (handed_in world trees overlay)

  abbrev apart : (j k : ℕ) → supply j ≡ supply k → j ≡ k
  apart = evens-distinct (handed_in world trees overlay) distinct

  abbrev pub seen : Overlay ℕ
  seen = overlay_seen overlay

  abbrev pub layers : List (OpenLayer ℕ)
  layers = layers_shown world seen

  abbrev opens : AreOpen layers
  opens = are_open world is seen layered

  abbrev most : ℕ
  most = inode_count world

  abbrev made : Filesystem ℕ
  made = overlay_made world trees overlay

  abbrev all : List (Merged ℕ)
  all = objects (can_merge world is seen layered supply apart) false

  abbrev number_at : Merged ℕ → ℕ
  number_at = number (can_merge world is seen layered supply apart) false

  abbrev made_inodes : List (MergedInode ℕ)
  made_inodes =
      inodes (can_merge world is seen layered supply apart) false

  abbrev pub made_overlay : Overlay ℕ
  made_overlay = record seen { real = real_of nat_eq made_inodes }

  abbrev numbered : Real ℕ → ℕ
  numbered = real_number trees overlay

  -- layers are those that are kept
  pub opened : layers ≡ layers_of trees overlay.lowers
  opened = all_opened world trees overlay.lowers shows.all

  -- the number of an object is that of its birth
  pub born_so : (object : Merged ℕ) → Among all object
      → number_at object ≡ numbered (real_object false object.seen.layer object)
  born_so object among =
      let placed = placed_among (is_one_inode nat_eq false object) 0 all object among (one_itself false object) in
      let one = is_one layers false object placed.element (object_is layers opens most
      (bounded world is seen layered) object among)
      (object_is layers opens most (bounded world is seen layered) placed.element placed.among) placed.passes in
      ap (λ o. odds supply (unwrap_or o 0)) placed.is ∙ ap (odds supply) (omega arith)
      ∙ inodes_get_their_numbers most trees overlay placed.place placed.element
      (ap (λ ls. slice_get (merged_objects ls most) placed.place) (sym opened) ∙ placed.there)
      ∙ ap numbered (sym one.real)

  of_object : (n : ℕ) (inode : MergedInode ℕ) → inode_of made_inodes n nat_eq ≡ Some inode
      → IsOfObject (can_merge world is seen layered supply apart) false n
      inode
  of_object n inode e =
      is_of_object (can_merge world is seen layered supply apart) false n
      inode e

  -- what is shown at a path has a name, or is the root
  reached : (object : Merged ℕ) → shown layers object.path ≡ Some object.seen
      → led made.files.tree made.files.tree.root object.path ≡ Some (number_at object)
  reached object s = subst (λ o. Arrives (can_merge world is seen layered supply apart) false
      (root_shown world is seen layered).0
      (root_shown world is seen layered).1 o object.path (led made.files.tree made.files.tree.root object.path)) s
      (arrives (can_merge world is seen layered supply apart) false
      (root_shown world is seen layered).0 (root_shown world is seen layered).1 object.path)

  named : IsNamedBy numbered (λ n. None) made made_overlay
  named = record {
    numbered = λ n object e. by_object n object (inode_of made_inodes n nat_eq) refl e;
    unnamed = λ n nameless not_root. none n nameless not_root (inode_of made_inodes n nat_eq) refl;
  }
    where
      by_object : (n : ℕ) (object : Real ℕ) (o : Option (MergedInode ℕ)) → inode_of made_inodes n nat_eq ≡ o
          → option_map (λ inode. inode.real) o ≡ Some object → n ≡ numbered object
      by_object n object None e f = none_is_some object f
      by_object n object (Some inode) e f =
          let it = of_object n inode e in
          it.numbered ∙ born_so it.object it.among ∙ ap numbered (sym it.real ∙ same_Some inode.real object f)

      none : (n : ℕ) → ¬ (HasName made.files.tree n) → n ≢ made.files.tree.root → (o : Option (MergedInode ℕ))
          → inode_of made_inodes n nat_eq ≡ o → option_map (λ inode. inode.real) o ≡ None
      none n nameless not_root None e = refl
      none n nameless not_root (Some inode) e =
          let it = of_object n inode e in
          absurd (⊎_elim (λ root. not_root (sym root)) nameless (reached_named made.files.tree n (
            it.object.path,
            reached it.object (object_is layers opens most (bounded world is seen layered) it.object it.among)
                ∙ ap Some (sym it.numbered),
          )))

  pub merged : IsMergedTree world made made_overlay
  merged = record {
    layers = opens;
    tree = new_overlay_is_tree supply world seen is layered apart;
    own_parents = new_overlay_has_own_parents supply world seen is layered apart;
    numbers = new_overlay_lists_numbers supply world seen is layered apart;
    merged = new_overlay_is_merged supply world seen made_overlay is layered apart refl;
  }

  listed : (n : ℕ) → ListsNumbers nat_eq (filesystem_numbered nat_eq world n).files
  listed n = numbered_anyhow (λ (f : Filesystem ℕ). ListsNumbers nat_eq f.files) n world.filesystems is.files.numbers
      (λ k. refl)

  both : (made.files.tree ≡ tree_seen numbered (λ n. None) (longest trees overlay.lowers) world made_overlay)
      × (made_overlay.real ≡ real_seen numbered (λ n. None) (longest trees overlay.lowers) world made_overlay)
  both = trees_are_seen numbered (λ n. None) world made made_overlay merged named (longest trees overlay.lowers)
      (λ k d h. listed (get_or (map layer_seen overlay.lowers) k d).filesystem)
      (no_larger world trees overlay.lowers (longest trees overlay.lowers) (omega arith) shows.all)

  pub tree_is : made.files.tree ≡ merged_tree trees overlay
  tree_is = both.0 ∙ sym (tree_kept world trees overlay shows made_overlay.real numbered (longest trees overlay.lowers))

  pub objects_are : made.overlay ≡ Some (with_objects trees overlay)
  objects_are = ap (λ real. Some (record seen { real = real }))
      (both.1 ∙ sym (real_kept world trees overlay shows made_overlay.real numbered (longest trees overlay.lowers)))

pub made_trees_are_shown : MadeTreesAreShown
made_trees_are_shown world trees overlay is layered shows distinct =
    tree_is world trees overlay is layered shows distinct

pub made_objects_are_shown : MadeObjectsAreShown
made_objects_are_shown world trees overlay is layered shows distinct =
    objects_are world trees overlay is layered shows distinct
