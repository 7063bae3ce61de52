-- The names of a directory are those that the layers show at its path.
use Rattle.std.proofs.Common.{◌≡◌, ◌∷◌, ◌++◌, [], Bool, false, filter, List, map, nat_eq, None, Option, option_map, refl, Some, sym, true, ℕ, filter_map, if◌then◌else◌, is_some, arith}
use Rattle.vt_spec.proofs.Common.{Entries, Node, is_directory_node, names_in, names_shown, node_shown, none_is_some, same_Some, shown, common_steps}
use Rattle.vt_laws_trees.specs.Overlays.MergedTrees.{entries_shown, layers_shown, node_as, number_shown, parent_shown}
use Rattle.vt_laws_trees.specs.Overlays.TreesSeen.{node_by}
use Rattle.vt_fs.specs.FilesystemsValue.{Filesystems}
use Rattle.vt_overlay.specs.Merge.LayerValue.{layers_of}
use Rattle.vt_overlay.specs.MergedTree.{AreLayers, OverlayValue, directory_path, longest, merged_tree, only_of_directory, overlay_seen, path_at, plain_world, real_number}
use Rattle.vt_overlay.proofs.TreeFound.{layers_are, number_is_shown}

-- the names of a node with other entries
names_of_directory : (parent : ℕ) (entries : Entries ℕ) (node : Option (Node ℕ)) → is_directory_node node ≡ true
    → names_in (option_map (node_as parent entries) node) ≡ map (λ entry. entry.0) entries
names_of_directory parent entries object is = grind (arith, common_steps)

-- names that have numbers stay
names_kept : (number : List ℕ → Option ℕ) (test : List ℕ → Bool) → ((name : List ℕ) → is_some (number name) ≡ test name)
    → (names : List (List ℕ)) → map (λ (entry : List ℕ × ℕ). entry.0)
    (filter_map (λ name. option_map (λ n. (name, n)) (number name)) (filter test names)) ≡ filter test names
names_kept number test same [] = refl
names_kept number test same (name ∷ names) =
    grind (arith, common_steps, names_kept number test same names, map, is_some)

module _ (trees : Filesystems) (overlay : OverlayValue) (are : AreLayers trees overlay.lowers) where
  names_at : (path : List (List ℕ)) → map (λ (entry : List ℕ × ℕ). entry.0)
      (entries_shown (real_number trees overlay) (plain_world trees) (overlay_seen overlay) path)
      ≡ names_shown (layers_of trees overlay.lowers) path
  names_at path =
      cc (
        names_kept (λ name. number_shown (real_number trees overlay) (plain_world trees) (overlay_seen overlay)
            (path ++ name ∷ []))
            (λ name. is_some (shown (layers_shown (plain_world trees) (overlay_seen overlay)) (path ++ name ∷ [])))
            (λ name. number_is_shown trees overlay are (path ++ name ∷ [])) _,
        layers_are trees overlay are,
      )

  abbrev node_found : ℕ → Option (List (List ℕ)) → Option (Node ℕ)
  node_found number o =
      node_by (real_number trees overlay) (λ number. None) (longest trees overlay.lowers) (plain_world trees)
      (overlay_seen overlay) number o

  abbrev is_directory_at : List (List ℕ) → Bool
  is_directory_at path = is_directory_node (node_shown nat_eq (plain_world trees) (overlay_seen overlay) path)

  abbrev parent_at : List (List ℕ) → ℕ
  parent_at path = parent_shown (real_number trees overlay) (plain_world trees) (overlay_seen overlay) path

  abbrev entries_at : List (List ℕ) → Entries ℕ
  entries_at path = entries_shown (real_number trees overlay) (plain_world trees) (overlay_seen overlay) path

  pub names_of_way : (number : ℕ) (way : List (List ℕ)) → Some way ≡ directory_path trees overlay number
      → names_shown (layers_of trees overlay.lowers) way ≡ names_in ((merged_tree trees overlay).node number)
  names_of_way number way e = by (path_at trees overlay number) refl e
    where
      at_path : (path : List (List ℕ)) → path_at trees overlay number ≡ Some path → (b : Bool)
          → is_directory_at path ≡ b → Some way ≡ (if b then Some path else None)
          → names_shown (layers_of trees overlay.lowers) way ≡ names_in
          (node_found number (path_at trees overlay number))
      at_path path p false d e = none_is_some way (sym e)
      at_path path p true d e =
          cc (
            same_Some way path e,
            names_at path,
            names_of_directory (parent_at path) (entries_at path) (node_shown
                nat_eq (plain_world trees) (overlay_seen overlay) path) d,
          )

      by : (o : Option (List (List ℕ))) → path_at trees overlay number ≡ o
          → Some way ≡ only_of_directory trees overlay o
          → names_shown (layers_of trees overlay.lowers) way ≡ names_in
          (node_found number (path_at trees overlay number))
      by o p e = grind (arith, common_steps, none_is_some, at_path)

  pub names_of_none : (number : ℕ) → None ≡ directory_path trees overlay number
      → [] ≡ names_in ((merged_tree trees overlay).node number)
  names_of_none number e = grind (arith, common_steps)
