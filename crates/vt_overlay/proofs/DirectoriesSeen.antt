-- A directory that has a way: its entries and its parent in the tree.
use Rattle.std.proofs.Common.{◌≡◌, ◌∙◌, ◌∷◌, ◌++◌, ◌||◌, [], ap, Bool, cond, false, List, None, Option, option_map, refl, Some, subst, sym, true, true≢false, ℕ, filter_map, if◌then◌else◌, is_some, nat_eq, unwrap_or, arith}
use Rattle.vt_spec.proofs.Common.{Entries, Node, OpenLayer, Shown, cons_option, entries_in, entry_named, is_directory_node, layer_node, list_any, names_shown, node_shown, none_is_some, parent_in, shown, then_some, when, without_last, common_steps}
use Rattle.vt_spec.proofs.Nodes.{same_name}
use Rattle.vt_laws_trees.proofs.layers.layers.ShownAtPath.{computed}
use Rattle.vt_laws_trees.proofs.layers.layers.ShownDirectories.{last_of}
use Rattle.vt_laws_trees.proofs.layers.layers.ShownNames.{is_name, name_found, names_are_those_shown}
use Rattle.vt_laws_trees.proofs.layers.layers.ShownObjects.{shown_before}
use Rattle.vt_laws_trees.proofs.layers.layers.ShownPaths.{not_empty}
use Rattle.vt_laws_trees.proofs.layers.layers.UpperShown.{without_last_of_longer}
use Rattle.vt_laws_trees.specs.Overlays.MergedTrees.{entries_shown, inode_shown, layers_shown, node_as, parent_shown}
use Rattle.vt_fs.specs.FilesystemsValue.{Filesystems}
use Rattle.vt_overlay.specs.MergedTree.{AreLayers, OverlayValue, directory_path, merged_tree, number_at, only_of_directory, overlay_seen, path_at, plain_world, real_number}
use Rattle.vt_overlay.proofs.TreeFound.{layers, layers_are, number_is_shown, open_layers}

-- the name of an entry that is made of names with numbers
abbrev pub with_names : (List ℕ → Option ℕ) → List (List ℕ) → Entries ℕ
with_names number names = filter_map (λ name. option_map (λ n. (name, n)) (number name)) names

entry_listed : (number : List ℕ → Option ℕ) (name : List ℕ) (names : List (List ℕ))
    → entry_named name (with_names number names) ≡ cond (list_any (is_name name) names) (number name) None
entry_listed number name [] = refl
entry_listed number name (other ∷ names) =
    by (number other) refl (is_name name other) refl (entry_listed number name names)
  where
    by : (o : Option ℕ) → number other ≡ o → (b : Bool) → is_name name other ≡ b
        → entry_named name (with_names number names) ≡ cond (list_any (is_name name) names) (number name) None
        → entry_named name (cons_option (option_map (λ n. (other, n)) o) (with_names number names))
        ≡ cond (b || list_any (is_name name) names) (number name) None
    by o e b same rest = grind (arith, common_steps, same, is_name, same_name)

pub filled : (o : Option ℕ) → is_some o ≡ true → o ≡ Some (unwrap_or o 0)
filled o some = grind (arith, common_steps)

-- a node with another parent and other entries
module _ (parent own : ℕ) (entries : Entries ℕ) where
  directory_as : (node : Option (Node ℕ))
      → is_directory_node (option_map (node_as parent entries) node) ≡ is_directory_node node
  directory_as object = grind (arith, common_steps)

  pub record HasParts (node : Option (Node ℕ)) : Type 0 where
    pub entries_are : entries_in (option_map (node_as parent entries) node) ≡ entries
    pub parent_is : parent_in own (option_map (node_as parent entries) node) ≡ parent

  has_parts : (node : Option (Node ℕ)) → is_directory_node node ≡ true → HasParts node
  has_parts object is = grind (arith, common_steps)

module _ (trees : Filesystems) (overlay : OverlayValue) (are : AreLayers trees overlay.lowers) where
  abbrev all : List (OpenLayer ℕ)
  all = layers_shown (plain_world trees) (overlay_seen overlay)

  -- a name that is not shown leads nowhere
  not_shown : (path : List (List ℕ)) (name : List ℕ) → list_any (is_name name) (names_shown all path) ≡ false
      → number_at trees overlay (path ++ name ∷ []) ≡ None
  not_shown path name out = by (shown all (path ++ name ∷ [])) refl (number_at trees overlay (path ++ name ∷ [])) refl
      (number_is_shown trees overlay are (path ++ name ∷ []))
    where
      by : (o : Option (Shown ℕ)) → shown all (path ++ name ∷ []) ≡ o
          → (n : Option ℕ) → number_at trees overlay (path ++ name ∷ []) ≡ n
          → is_some (number_at trees overlay (path ++ name ∷ [])) ≡ is_some (shown all (path ++ name ∷ []))
          → number_at trees overlay (path ++ name ∷ []) ≡ None
      by None e None n same = n
      by None e (Some number) n same = absurd (true≢false (ap is_some (sym n) ∙ same ∙ ap is_some e))
      by (Some seen) e n is same =
          let has = (names_are_those_shown all path name).1 (seen, (computed all (path ++ name ∷ []) seen).0 e) in
          absurd (true≢false (sym (name_found name (names_shown all path) has.0 has.1 has.2) ∙ out))

  entry_shown : (path : List (List ℕ)) (name : List ℕ)
      → entry_named name (entries_shown (real_number trees overlay) (plain_world trees) (overlay_seen overlay) path)
      ≡ number_at trees overlay (path ++ name ∷ [])
  entry_shown path name = entry_listed (λ n. number_at trees overlay (path ++ n ∷ [])) name (names_shown all path)
      ∙ by (list_any (is_name name) (names_shown all path)) refl
    where
      by : (b : Bool) → list_any (is_name name) (names_shown all path) ≡ b
          → cond b (number_at trees overlay (path ++ name ∷ [])) None ≡ number_at trees overlay (path ++ name ∷ [])
      by b e = grind (arith, common_steps, not_shown)

  abbrev inode_there : List (List ℕ) → Option (Node ℕ)
  inode_there path = node_shown nat_eq (plain_world trees) (overlay_seen overlay) path

  -- a directory at a path
  pub record IsDirectoryAt (number : ℕ) (path : List (List ℕ)) : Type 0 where
    pub node : (merged_tree trees overlay).node number
        ≡ inode_shown (real_number trees overlay) (plain_world trees) (overlay_seen overlay) path
    pub directory : is_directory_node (inode_there path) ≡ true

  pub directory_at : (number : ℕ) (way : List (List ℕ)) → Some way ≡ directory_path trees overlay number
      → IsDirectoryAt number way
  directory_at number way e = by (path_at trees overlay number) refl e
    where
      there : (path : List (List ℕ)) → path_at trees overlay number ≡ Some path → (b : Bool)
          → is_directory_node (inode_there path) ≡ b → Some way ≡ (if b then Some path else None)
          → IsDirectoryAt number way
      there path p b e last = grind (arith, common_steps)

      by : (o : Option (List (List ℕ))) → path_at trees overlay number ≡ o
          → Some way ≡ only_of_directory trees overlay o → IsDirectoryAt number way
      by o p e = grind (arith, common_steps, none_is_some, there, inode_there)

  pub no_directory_at : (number : ℕ) → None ≡ directory_path trees overlay number
      → is_directory_node ((merged_tree trees overlay).node number) ≡ false
  no_directory_at number e = grind (arith, common_steps)

  pub no_entry_of : (number : ℕ) (name : List ℕ) → None ≡ directory_path trees overlay number
      → None ≡ entry_named name (entries_in ((merged_tree trees overlay).node number))
  no_entry_of number name e = grind (arith, common_steps)

  pub no_parent_of : (number : ℕ) → None ≡ directory_path trees overlay number
      → None ≡ when (is_directory_node ((merged_tree trees overlay).node number))
      (parent_in number ((merged_tree trees overlay).node number))
  no_parent_of number e = cc (no_directory_at number e)

  module _ (number : ℕ) (way : List (List ℕ)) (is : Some way ≡ directory_path trees overlay number) where
    at : IsDirectoryAt number way
    at = directory_at number way is

    parts : HasParts (parent_shown (real_number trees overlay) (plain_world trees) (overlay_seen overlay) way) number
        (entries_shown (real_number trees overlay) (plain_world trees) (overlay_seen overlay) way) (inode_there way)
    parts = has_parts (parent_shown (real_number trees overlay) (plain_world trees) (overlay_seen overlay) way) number
        (entries_shown (real_number trees overlay) (plain_world trees) (overlay_seen overlay) way) (inode_there way)
        at.directory

    pub entries_are : entries_in ((merged_tree trees overlay).node number)
        ≡ entries_shown (real_number trees overlay) (plain_world trees) (overlay_seen overlay) way
    entries_are = ap entries_in at.node ∙ parts.entries_are

    pub entry_of : (name : List ℕ) → number_at trees overlay (way ++ name ∷ [])
        ≡ entry_named name (entries_in ((merged_tree trees overlay).node number))
    entry_of name = cc (at.node, parts.entries_are, entry_shown way name)

    way_shown : (o : Option (Shown ℕ)) → shown all way ≡ o
        → is_directory_node (then_some (shown all way) (layer_node all)) ≡ true → is_some (shown all way) ≡ true
    way_shown o e is = grind (arith, common_steps)

    above_shown : (path : List (List ℕ)) → is_some (shown all path) ≡ true
        → is_some (shown all (without_last path)) ≡ true
    above_shown [] some = some
    above_shown (first ∷ rest) some =
        let last = last_of (first ∷ rest) (not_empty first rest) in
        by last.0 last.1 last.2 (shown all (last.0 ++ last.1 ∷ [])) refl
      where
        by : (front : List (List ℕ)) (name : List ℕ) → front ++ name ∷ [] ≡ first ∷ rest
            → (o : Option (Shown ℕ)) → shown all (front ++ name ∷ []) ≡ o
            → is_some (shown all (without_last (first ∷ rest))) ≡ true
        by front name split None e = cc some
        by front name split (Some seen) e =
            ap (λ p. is_some (shown all p)) (sym (ap without_last split) ∙ without_last_of_longer front name)
            ∙ subst (λ ls. (s : Shown ℕ) → shown ls (front ++ name ∷ []) ≡ Some s → is_some (shown ls front) ≡ true)
            (sym (layers_are trees overlay are))
            (λ s h. shown_before (layers trees overlay are) (open_layers trees overlay are) front (name ∷ []) s h)
            seen e

    pub parent_of : number_at trees overlay (without_last way)
        ≡ when (is_directory_node ((merged_tree trees overlay).node number))
        (parent_in number ((merged_tree trees overlay).node number))
    parent_of =
        grind (arith, common_steps, filled, number_is_shown, above_shown, way_shown, all, inode_there, directory_as)
