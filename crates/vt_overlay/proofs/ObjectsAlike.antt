-- A node has what its real object has, but for names, parent and mark.
use Rattle.std.proofs.Common.{◌≡◌, ◌∙◌, ◌∷◌, [], ap, map, None, Option, refl, Some, sym, ℕ, slice_get, option_map, arith}
use Rattle.vt_spec.proofs.Common.{Content, Directory, Entries, Node, Regular, Shown, Symlink, Whiteout, layer_node, none_is_some, renamed_content, renamed_entry, same_Some, slice_get-map, then_some, common_steps}
use Rattle.vt_location.specs.Fronts.{front}
use Rattle.vt_location.proofs.NumberLemmas.{exchanged_back}
use Rattle.vt_location.specs.Locations.{inode_of}
use Rattle.vt_location.specs.Numbers.{exchanged}
use Rattle.vt_fs.specs.FilesystemsValue.{Filesystems, files_at, node_seen}
use Rattle.vt_overlay.specs.Merge.LayerValue.{layer_of, seen_of}
use Rattle.vt_overlay.specs.declared.merge.layers.LayerRef.{LayerRef}
use Rattle.vt_overlay.specs.declared.merge.layers.Real.{Real}
use Rattle.vt_overlay.specs.Alike.{ObjectsAreAlike, lent_at, real_inode, real_lent}
use Rattle.vt_overlay.specs.MergedTree.{AreLayers, OverlayValue, merged_tree, object_shown}
use Rattle.vt_overlay.proofs.TreeFound.{layers, layers_are}

pub objects_alike : ObjectsAreAlike
objects_alike trees overlay number = grind (arith, common_steps)

-- an inode that is seen twice by other numbers is itself
pub seen_twice : (f : ℕ) (node : Option (Node ℕ)) → option_map (node_seen f) (option_map (node_seen f) node) ≡ node
seen_twice f None = refl
seen_twice f (Some node) = λ i. Some (record { attr = node.attr; content = content_back node.content i })
  where
    entries_back : (entries : Entries ℕ)
        → map (renamed_entry (exchanged f) (exchanged f)) (map (renamed_entry (exchanged f) (exchanged f)) entries)
        ≡ entries
    entries_back [] = refl
    entries_back (entry ∷ entries) = λ i. (entry.0, exchanged_back f entry.1 i) ∷ entries_back entries i

    content_back : (content : Content ℕ)
        → renamed_content (exchanged f) (exchanged f) (renamed_content (exchanged f) (exchanged f) content) ≡ content
    content_back (Directory parent entries opaque) = cc (exchanged_back f parent, entries_back entries)
    content_back (Regular bytes) = refl
    content_back (Symlink text) = refl
    content_back Whiteout = refl

-- the inode of the real object is that of what is shown
module _ (trees : Filesystems) (overlay : OverlayValue) (are : AreLayers trees overlay.lowers) (number : ℕ) where
  pub inode_of_object : (o : Option (Shown ℕ)) → o ≡ object_shown trees overlay number
      → real_inode trees overlay number ≡ then_some o (layer_node (layers trees overlay are))
  inode_of_object o is = grind (arith, common_steps, layers_are)

  pub none_alike : None ≡ object_shown trees overlay number
      → front None ≡ front ((merged_tree trees overlay).node number)
  none_alike is = ap front (sym (inode_of_object None is)) ∙ objects_alike trees overlay number

  front_seen : (f : ℕ) (node : Option (Node ℕ)) → front node ≡ front (option_map (node_seen f) node)
  front_seen f object = grind (arith, common_steps)

  pub some_alike : (real : Real) → Some (seen_of real) ≡ object_shown trees overlay number
      → option_map (λ (layer : LayerRef). layer.directory.filesystem) (slice_get overlay.lowers real.layer)
      ≡ Some real.inode.filesystem → (node : Option (Node ℕ)) → option_map (node_seen real.inode.filesystem.count) node
      ≡ (files_at trees real.inode.filesystem.count).tree.node (inode_of real.inode)
      → front node ≡ front ((merged_tree trees overlay).node number)
  some_alike real is tree node seen =
      front_seen real.inode.filesystem.count node
      ∙ ap front (seen ∙ sym (in_layer (slice_get overlay.lowers real.layer) refl tree))
      ∙ ap front (sym (inode_of_object (Some (seen_of real)) is)) ∙ objects_alike trees overlay number
    where
      in_layer : (o : Option LayerRef) → slice_get overlay.lowers real.layer ≡ o
          → option_map (λ (layer : LayerRef). layer.directory.filesystem) o ≡ Some real.inode.filesystem
          → layer_node (layers trees overlay are) (seen_of real)
          ≡ (files_at trees real.inode.filesystem.count).tree.node (inode_of real.inode)
      in_layer None e t = none_is_some real.inode.filesystem t
      in_layer (Some lower) e t =
          grind (
            arith,
            common_steps,
            slice_get-map (layer_of trees) overlay.lowers real.layer,
            same_Some
                lower.directory.filesystem real.inode.filesystem t,
          )

  -- what is lent of the real object
  pub none_lent : None ≡ object_shown trees overlay number → None ≡ real_lent trees overlay number
  none_lent is = cc

  pub some_lent : (real : Real) → Some (seen_of real) ≡ object_shown trees overlay number
      → option_map (λ (layer : LayerRef). layer.directory.filesystem) (slice_get overlay.lowers real.layer)
      ≡ Some real.inode.filesystem → (node : Option (Node ℕ)) → option_map (node_seen real.inode.filesystem.count) node
      ≡ (files_at trees real.inode.filesystem.count).tree.node (inode_of real.inode)
      → node ≡ real_lent trees overlay number
  some_lent real is tree node seen = sym (seen_twice real.inode.filesystem.count node)
      ∙ ap (option_map (node_seen real.inode.filesystem.count)) seen
      ∙ in_layer (slice_get overlay.lowers real.layer) tree ∙ ap (λ o. then_some o (λ (seen : Shown ℕ).
      then_some (slice_get overlay.lowers seen.layer) (lent_at trees seen.object))) is
    where
      in_layer : (o : Option LayerRef)
          → option_map (λ (layer : LayerRef). layer.directory.filesystem) o ≡ Some real.inode.filesystem
          → option_map (node_seen real.inode.filesystem.count)
          ((files_at trees real.inode.filesystem.count).tree.node (inode_of real.inode))
          ≡ then_some o (lent_at trees (inode_of real.inode))
      in_layer None t = none_is_some real.inode.filesystem t
      in_layer (Some lower) t = cc (same_Some lower.directory.filesystem real.inode.filesystem t)
