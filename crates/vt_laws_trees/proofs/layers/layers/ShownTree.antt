-- A merged tree that is made of its layers has at each path what they show, with its real object.
use Rattle.std.proofs.Common.{◌≡◌, ◌≢◌, ◌≤◌, refl, sym, ap, subst, ◌∙◌, true≢false, arith, ℕ, zero, suc, ◌+◌, nat_eq, Bool, true, List, [], ◌∷◌, ◌++◌, length, Option, Some, None, option_and_then, filter_map, option_map}
use Rattle.vt_spec.proofs.Common.{Content, Directory, Fresh, Merged, MergedInode, Node, OpenLayer, Regular, SameObject, Shown, Symlink, Tree, Whiteout, common_steps, entries_of, entry_at, entry_in_directory, entry_named, is_directory, kind_of, layer_node, led, merged_at, merged_content, none_is_some, paths_from, real_object, real_of, same_Some, shown, then_some}
use Rattle.vt_spec.specs.Machine.Merging.{tree_of}
use Rattle.vt_laws_trees.proofs.layers.layers.ShownAtPath.{computed}
use Rattle.vt_laws_trees.proofs.layers.layers.ShownDirectories.{last_of, shown_in_directory}
use Rattle.vt_laws_trees.proofs.layers.layers.ShownMerged.{CanMerge, HasInode, LeadsTo, entry_leads, has_inode, in_layer, inodes, layer_node_of, node_of, number, objects, one_directory}
use Rattle.vt_laws_trees.proofs.layers.layers.ShownNames.{last_name}
use Rattle.vt_laws_trees.proofs.layers.layers.ShownObjects.{is_object, one_itself}
use Rattle.vt_laws_trees.proofs.layers.layers.ShownPaths.{length_longer, not_empty}
use Rattle.vt_laws_trees.proofs.layers.layers.ShownWhole.{same_merged}

module _ {layers : List (OpenLayer ℕ)} {longest : ℕ} {fresh : Fresh ℕ} (can : CanMerge layers longest fresh)
    (has_upper : Bool) (top : Shown ℕ) (is_top : shown layers [] ≡ Some top) where
  abbrev pub object_at : List (List ℕ) → Shown ℕ → Merged ℕ
  object_at path seen = record { path = path; seen = seen }

  abbrev num : Merged ℕ → ℕ
  num = number can has_upper

  abbrev nodes : ℕ → Option (Node ℕ)
  nodes = node_of can has_upper

  abbrev all : List (Merged ℕ)
  all = objects can has_upper

  abbrev made : List (MergedInode ℕ)
  made = inodes can has_upper

  abbrev pub merged_tree : Tree ℕ
  merged_tree = (tree_of nat_eq (fresh 0) made).tree

  -- the root is the first object
  first_path : (most : ℕ) → (rest : List (List (List ℕ))) × (paths_from most layers [] ≡ [] ∷ rest)
  first_path zero = ([], refl)
  first_path (suc most) = (_, refl)

  pub root_number : num (object_at [] top) ≡ fresh 0
  root_number = grind (arith, common_steps, first_path, one_itself)

  pub inode_at : (path : List (List ℕ)) (seen : Shown ℕ) → shown layers path ≡ Some seen
      → HasInode can has_upper (object_at path seen)
  inode_at path seen s = has_inode can has_upper (object_at path seen)
      (is_object layers can.opens longest can.bounded path seen s)

  -- names lead to what is shown
  abbrev pub Arrives : Option (Shown ℕ) → List (List ℕ) → Option ℕ → Type 0
  Arrives None path found = found ≡ None
  Arrives (Some seen) path found = found ≡ Some (num (object_at path seen))

  no_entry : (path : List (List ℕ)) (name : List ℕ) (found : Option ℕ) → found ≡ None
      → ((seen : Shown ℕ) → shown layers (path ++ name ∷ []) ≢ Some seen)
      → Arrives (shown layers (path ++ name ∷ [])) (path ++ name ∷ []) found
  no_entry path name found none not_shown = grind (arith, common_steps)

  -- what is shown under a name is shown in a directory
  pub directory_above : (path : List (List ℕ)) (name : List ℕ) (seen : Shown ℕ) → shown layers path ≡ Some seen
      → (inode : HasInode can has_upper (object_at path seen))
      → (below : Shown ℕ) → shown layers (path ++ name ∷ []) ≡ Some below
      → is_directory (kind_of inode.node.content) ≡ true
  directory_above path name seen s inode below t =
      let shows = shown_in_directory layers can.opens 0 path name below t in let same = same_Some seen (record {
        layer = 0 + shows.place;
        object = shows.object;
      }) (sym s ∙ shows.is) in let place : 0 + shows.place ≡ shows.place = omega arith in grind (arith, common_steps)

  step : (path : List (List ℕ)) (name : List ℕ) → Arrives (shown layers path) path (led merged_tree (fresh 0) path)
      → Arrives (shown layers (path ++ name ∷ [])) (path ++ name ∷ []) (led merged_tree (fresh 0) (path ++ name ∷ []))
  step path name before = subst (Arrives (shown layers (path ++ name ∷ [])) (path ++ name ∷ []))
      (sym (last_name merged_tree (fresh 0) path name)) (by (shown layers path) refl before)
    where
      from_directory : (seen : Shown ℕ) (s : shown layers path ≡ Some seen)
          (inode : HasInode can has_upper (object_at path seen)) (content : Content ℕ) → inode.node.content ≡ content
          → Arrives (shown layers (path ++ name ∷ [])) (path ++ name ∷ [])
          (entry_named name (entries_of (merged_content nat_eq fresh has_upper all inode.other.path content)))
      from_directory seen s inode (Directory parent entries opaque) e =
          subst (λ p. Arrives (shown layers (path ++ name ∷ []))
          (path ++ name ∷ []) (entry_named name (filter_map (entry_in_directory nat_eq fresh has_upper all p) all)))
          (sym (one_directory can has_upper (object_at path seen)
          (is_object layers can.opens longest can.bounded path seen s) inode (ap (λ c. is_directory (kind_of c)) e)))
          (as_arrives _ _ (entry_leads can has_upper path name))
        where
          as_arrives : (o : Option (Shown ℕ)) (found : Option ℕ) → LeadsTo can has_upper path name o found
              → Arrives o (path ++ name ∷ []) found
          as_arrives None found leads = leads
          as_arrives (Some below) found leads = leads
      from_directory seen s inode (Regular bytes) e = no_entry path name None refl (λ below t.
          true≢false (sym (sym (ap (λ c. is_directory (kind_of c)) e)
          ∙ directory_above path name seen s inode below t)))
      from_directory seen s inode (Symlink text) e = no_entry path name None refl (λ below t.
          true≢false (sym (sym (ap (λ c. is_directory (kind_of c)) e)
          ∙ directory_above path name seen s inode below t)))
      from_directory seen s inode Whiteout e = no_entry path name None refl (λ below t.
          true≢false (sym (sym (ap (λ c. is_directory (kind_of c)) e)
          ∙ directory_above path name seen s inode below t)))

      by : (o : Option (Shown ℕ)) → shown layers path ≡ o → Arrives o path (led merged_tree (fresh 0) path)
          → Arrives (shown layers (path ++ name ∷ [])) (path ++ name ∷ [])
          (option_and_then (λ directory. entry_at merged_tree directory name) (led merged_tree (fresh 0) path))
      by None s arrives = no_entry path name _
          (ap (option_and_then (λ directory. entry_at merged_tree _ name)) arrives) (λ seen t. none_is_some (record {
            layer = 0 + (shown_in_directory layers can.opens 0 path name seen t).place;
            object = (shown_in_directory layers can.opens 0 path name seen t).object;
          }) (sym s ∙ (shown_in_directory layers can.opens 0 path name seen t).is))
      by (Some seen) s arrives =
          let inode = inode_at path seen s in
          subst (Arrives (shown layers (path ++ name ∷ [])) (path ++ name ∷ []))
          (cc (arrives, inode.is)) (from_directory seen s inode inode.node.content refl)

  arrives_in : (many : ℕ) (path : List (List ℕ)) → length path ≤ many
      → Arrives (shown layers path) path (led merged_tree (fresh 0) path)
  arrives_in many [] h = subst (λ o. Arrives o [] (Some (fresh 0))) (sym is_top) (ap Some (sym root_number))
  arrives_in zero (name ∷ path) h = absurd (let no : ⊥ = omega arith in no)
  arrives_in (suc many) (name ∷ path) h =
      let last = last_of (name ∷ path) (not_empty name path) in
      let longer = sym (length_longer last.0 last.1) ∙ ap length last.2 in
      subst (λ p. Arrives (shown layers p) p (led merged_tree (fresh 0) p)) last.2
      (step last.0 last.1 (arrives_in many last.0 (omega arith)))

  pub arrives : (path : List (List ℕ)) → Arrives (shown layers path) path (led merged_tree (fresh 0) path)
  arrives path = arrives_in (length path) path (let h : length path ≤ length path = omega arith in h)

  -- the object there
  no_white : (path : List (List ℕ)) (seen : Shown ℕ) → shown layers path ≡ Some seen
      → (inode : HasInode can has_upper (object_at path seen)) → inode.node.content ≢ Whiteout
  no_white path seen s inode =
      let shows = (computed layers path seen).0 s in
      let here = in_layer can has_upper (object_at path seen) s in
      let node = same_Some here.node
      inode.node (sym (layer_node_of can has_upper _ here) ∙ inode.seen) in
      shows.no_whiteout inode.node (
        here.layer,
        here.there,
        ap (λ o. then_some o here.layer.tree.node) here.at ∙ here.is ∙ ap Some node,
      )

  pub shows_layers : (path : List (List ℕ)) → SameObject (then_some (led merged_tree (fresh 0) path) merged_tree.node)
      (then_some (shown layers path) (layer_node layers))
  shows_layers path = by (shown layers path) refl (arrives path)
    where
      by : (o : Option (Shown ℕ)) → shown layers path ≡ o → Arrives o path (led merged_tree (fresh 0) path)
          → SameObject (then_some (led merged_tree (fresh 0) path) merged_tree.node) (then_some o (layer_node layers))
      by None s found = subst (λ o. SameObject (then_some o merged_tree.node) None) (sym found) tt
      by (Some seen) s found =
          let inode = inode_at path seen s in
          subst (λ o. SameObject (then_some o merged_tree.node) (layer_node layers seen)) (sym found)
          (subst (λ o. SameObject o (layer_node layers seen)) (sym inode.is) (subst (SameObject (Some (record {
            attr = inode.node.attr;
            content = merged_content nat_eq fresh has_upper all inode.other.path inode.node.content;
          }))) (sym inode.seen) (
            refl,
            same_merged can has_upper _ _ (no_white path seen s inode),
          )))

  -- with its real object
  pub real_shown_there : (path : List (List ℕ)) (n : ℕ) → led merged_tree (fresh 0) path ≡ Some n
      → real_of nat_eq made n ≡ option_map (λ object. real_object has_upper object.seen.layer object)
      (merged_at layers path)
  real_shown_there path n e = by (shown layers path) refl (arrives path)
    where
      by : (o : Option (Shown ℕ)) → shown layers path ≡ o → Arrives o path (led merged_tree (fresh 0) path)
          → real_of nat_eq made n ≡ option_map (λ object. real_object has_upper object.seen.layer object)
          (option_map (λ seen. object_at path seen) o)
      by None s found = none_is_some n (sym found ∙ e)
      by (Some seen) s found =
          let inode = inode_at path seen s in
          cc (same_Some n (num (object_at path seen)) (sym e ∙ found), inode.real, inode.one.real)
