-- A newly mounted overlay is a tree, within the limits of its layers.
use Rattle.std.proofs.Common.{arith, ◌≡◌, refl, sym, ap, ◌∙◌, ℕ, nat_eq, eqb-true, Bool, true, false, cond, not, ◌&&◌, ◌||◌, List, [], ◌∷◌, ◌++◌, length, map, Option, Some, None, is_some, option_and_then, inl, inr, slice_get, filter_map, find, nat_le, option_map, option_to_list}
use Rattle.vt_spec.proofs.Common.{Content, Directory, Entries, Fresh, IsWorld, ListsNumbers, Merged, MergedInode, Node, OpenLayer, Overlay, Regular, Symlink, Whiteout, World, and_true_left, and_true_right, bytes_in, common_steps, entry_at, entry_in_directory, entry_named, eq_by_cmp, inode_of, is_among, is_empty, is_fit_filesystem, is_kind_in, largest_file, led, list_all, longest_path, merged_content, name_cmp, names_in, none_is_some, odds, open_layer, overlay_filesystem, shown_layers, symlink_text}
use Rattle.vt_spec.specs.declared.attributes.Attr.{Attr}
use Rattle.vt_spec.specs.declared.attributes.Kind.TheVariants.{File}
use Rattle.vt_spec.proofs.Nodes.{same_name}
use Rattle.vt_laws_trees.specs.Layers.Layers.Mounted.{AreLayers}
use Rattle.vt_laws_trees.specs.Layers.Layers.NewOverlays.{NewOverlayHasOwnParents, NewOverlayIsFit, NewOverlayIsTree, NewOverlayListsNumbers}
use Rattle.vt_laws_trees.proofs.layers.directories.Merged.{merged_is_tree, merged_lists_numbers, merged_own_parents}
use Rattle.vt_laws_trees.proofs.layers.layers.ShownMerged.{CanMerge, entry_is_here, in_layer, inodes, node_of, objects}
use Rattle.vt_laws_trees.proofs.layers.layers.ShownMounted.{can_merge, is_open, root_shown}
use Rattle.vt_laws_trees.proofs.layers.layers.ShownNames.{last_name}
use Rattle.vt_laws_trees.proofs.layers.layers.ShownObjects.{Among, from_filter_map, object_is}
use Rattle.vt_laws_trees.proofs.layers.layers.ShownWhole.{is_of_object}
use Rattle.vt_laws_trees.proofs.layers.layers.UpperWorld.{all_found}
use Rattle.vt_laws_trees.specs.Trees.Sizes.{is_fit_name}

abbrev no_larger : Option (Node ℕ) → Bool
no_larger node = not (is_kind_in File node) || nat_le (length (bytes_in node)) largest_file

abbrev fit_text : Option (Node ℕ) → Bool
fit_text node = list_all (λ text. not (is_empty text) && nat_le (length text) longest_path)
    (option_to_list (symlink_text node))

abbrev fit_node : Option (Node ℕ) → Bool
fit_node node = no_larger node && list_all is_fit_name (names_in node) && fit_text node

all_of_found : {A : Type 0} (p test : A → Bool) (list : List A) (a : A) → list_all p list ≡ true
    → find test list ≡ Some a → p a ≡ true
all_of_found p test [] a all f = none_is_some a f
all_of_found p test (first ∷ list) a all f =
    grind (arith, common_steps, all_of_found p test list a (and_true_right (p first) _ all), and_true_left)

all_of_among : (p : ℕ → Bool) (list : List ℕ) (number : ℕ) → list_all p list ≡ true
    → is_among nat_eq number list ≡ true → p number ≡ true
all_of_among p [] number all a = cc
all_of_among p (first ∷ list) number all a =
    grind (arith, common_steps, all_of_among p list number (and_true_right (p first) _ all), eqb-true, and_true_left)

all_pass : {A : Type 0} (p : A → Bool) (list : List A) → ((a : A) → Among list a → p a ≡ true) → list_all p list ≡ true
all_pass p [] h = refl
all_pass p (first ∷ list) h = cc (h first (inl refl), all_pass p list (λ a among. h a (inr among)))

all_pass_map : {A B : Type 0} (p : B → Bool) (f : A → B) (list : List A) → ((a : A) → Among list a → p (f a) ≡ true)
    → list_all p (map f list) ≡ true
all_pass_map p f [] h = refl
all_pass_map p f (first ∷ list) h = cc (h first (inl refl), all_pass_map p f list (λ a among. h a (inr among)))

-- a name that leads somewhere is one of the names
named_fits : (name : List ℕ) (entries : Entries ℕ) (n : ℕ) → list_all is_fit_name (map (λ e. e.0) entries) ≡ true
    → entry_named name entries ≡ Some n → is_fit_name name ≡ true
named_fits name [] n all e = none_is_some n e
named_fits name (entry ∷ entries) n all e = by _ refl e (named_fits name entries n (and_true_right _ _ all))
  where
    by : (b : Bool) → eq_by_cmp name_cmp name entry.0 ≡ b → cond b (Some entry.1) (entry_named name entries) ≡ Some n
        → (entry_named name entries ≡ Some n → is_fit_name name ≡ true) → is_fit_name name ≡ true
    by true t e rest = cc (same_name name entry.0 t, and_true_left (is_fit_name entry.0) _ all)
    by false t e rest = rest e

module _ {layers : List (OpenLayer ℕ)} {longest : ℕ} {fresh : Fresh ℕ} (can : CanMerge layers longest fresh)
    (has_upper : Bool) (fits : (depth : ℕ) (layer : OpenLayer ℕ) → slice_get layers depth ≡ Some layer → (object : ℕ)
    → fit_node (layer.tree.node object) ≡ true) where
  abbrev all : List (Merged ℕ)
  all = objects can has_upper

  -- a name of a merged directory is a name in some layer
  shown_name_fits : (path : List (List ℕ)) (name : List ℕ) (object : Merged ℕ) → Among all object
      → object.path ≡ path ++ name ∷ [] → is_fit_name name ≡ true
  shown_name_fits path name object among e =
      let found = in_layer can has_upper object (object_is layers can.opens longest can.bounded object among) in
      by found.layer (fits object.seen.layer found.layer found.there) (led found.layer.tree found.layer.directory path)
      (cc (last_name found.layer.tree found.layer.directory path name, found.at))
    where
      by : (layer : OpenLayer ℕ) → ((o : ℕ) → fit_node (layer.tree.node o) ≡ true) → (o : Option ℕ)
          → option_and_then (λ directory. entry_at layer.tree directory name) o ≡ Some object.seen.object
          → is_fit_name name ≡ true
      by layer fit None e = none_is_some object.seen.object e
      by layer fit (Some directory) e = grind (arith, common_steps, named_fits, and_true_right, and_true_left)

  merged_names_fit : (path : List (List ℕ))
      → list_all is_fit_name (map (λ e. e.0) (filter_map (entry_in_directory nat_eq fresh has_upper all path) all))
      ≡ true
  merged_names_fit path =
      all_pass_map is_fit_name (λ e. e.0) (filter_map (entry_in_directory nat_eq fresh has_upper all path) all)
      (λ entry among.
      let from = from_filter_map (entry_in_directory nat_eq fresh has_upper all path) all entry among in
      shown_name_fits path entry.0 from.0 from.1 (entry_is_here can has_upper path entry.0 from.0 entry from.2).0)

  merged_fits : (path : List (List ℕ)) (attr : Attr) (content : Content ℕ)
      → fit_node (Some (record { attr = attr; content = content })) ≡ true
      → fit_node (Some (record { attr = attr; content = merged_content nat_eq fresh has_upper all path content }))
      ≡ true
  merged_fits path attr (Directory parent entries opaque) e = ap (λ b. b && true) (merged_names_fit path)
  merged_fits path attr (Regular bytes) e = e
  merged_fits path attr (Symlink text) e = e
  merged_fits path attr Whiteout e = e

  pub merged_inode_fits : (n : ℕ) → fit_node (node_of can has_upper n) ≡ true
  merged_inode_fits n = by (inode_of (inodes can has_upper) n nat_eq) refl
    where
      by : (o : Option (MergedInode ℕ)) → inode_of (inodes can has_upper) n nat_eq ≡ o
          → fit_node (option_map (λ inode. inode.node) o) ≡ true
      by None e = refl
      by (Some inode) e =
          let is = is_of_object can has_upper n inode e in
          ap (λ node. fit_node (Some node)) is.node ∙ merged_fits is.object.path is.layer.node.attr
          is.layer.node.content (ap fit_node (sym is.layer.is) ∙ fits _ is.layer.layer is.layer.there _)

pub new_overlay_is_tree : NewOverlayIsTree
new_overlay_is_tree fresh world overlay conditions are_layers distinct =
    merged_is_tree (can_merge world conditions overlay are_layers fresh distinct)
    (is_some overlay.upper) (root_shown world conditions overlay are_layers).0 (root_shown world conditions overlay _).1

pub new_overlay_has_own_parents : NewOverlayHasOwnParents
new_overlay_has_own_parents fresh world overlay conditions are_layers distinct = merged_own_parents
    (can_merge world conditions overlay are_layers fresh distinct)
    (is_some overlay.upper) (root_shown world conditions overlay are_layers).0 (root_shown world conditions overlay _).1

pub new_overlay_lists_numbers : NewOverlayListsNumbers
new_overlay_lists_numbers fresh world overlay conditions are_layers distinct = merged_lists_numbers (odds fresh 0) _

-- each inode of a layer is within the limits
layers_fit : (world : World ℕ) (conditions : IsWorld nat_eq world) (overlay : Overlay ℕ)
    (are_layers : AreLayers world overlay) (depth : ℕ) (layer : OpenLayer ℕ)
    → slice_get (map (open_layer nat_eq world) (shown_layers overlay)) depth ≡ Some layer → (object : ℕ)
    → fit_node (layer.tree.node object) ≡ true
layers_fit world conditions overlay are_layers depth layer there object =
    let open_one = is_open world conditions overlay are_layers depth layer there in let fit = all_of_found
    is_fit_filesystem open_one.test world.filesystems open_one.filesystem conditions.files.fit_filesystems
    open_one.found in let listed = all_found (λ filesystem. ListsNumbers nat_eq filesystem.files) open_one.test
    world.filesystems conditions.files.numbers open_one.filesystem open_one.found in grind (
      arith,
      common_steps,
      all_of_among,
    )

pub new_overlay_is_fit : NewOverlayIsFit
new_overlay_is_fit fresh world overlay conditions are_layers distinct =
    all_pass (λ n. fit_node ((overlay_filesystem nat_eq fresh world overlay).files.tree.node n))
    (overlay_filesystem nat_eq fresh world overlay).files.numbers
    (λ n among. merged_inode_fits (can_merge world conditions overlay are_layers fresh distinct) (is_some overlay.upper)
    (layers_fit world conditions overlay are_layers) n)
