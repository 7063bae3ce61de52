-- Which number is at a path of a merged tree, and what its inode is.
use Rattle.std.proofs.Common.{arith, ◌≡◌, ◌≢◌, refl, sym, ap, subst, ◌∙◌, ℕ, nat_eq, eq-eqb, eqb-true, Bool, true, false, cond, ◌||◌, T, List, [], ◌∷◌, ◌++◌, map, Option, Some, None, is_some, option_and_then, filter_map, is_eq, option_map, unwrap_or}
use Rattle.vt_spec.proofs.Common.{Content, Directory, Entries, FileTree, Filesystem, HasName, HasOwnParents, Node, OpenLayer, Overlay, Real, Regular, SameObject, Shown, Symlink, Whiteout, World, a_name, bytes_eq-Decides, common_steps, cons_option, directory_used, entries_in, entries_of, entry_at, entry_named, filesystem_numbered, is_directory, is_directory_node, is_opaque_in, is_sorted, kind_of, layer_node, led-append, list_any, name_cmp, names_shown, nat_list_cmp_total, node_shown, none_is_some, number_at_path, opaque_of, parent_in, parent_of, real_node, real_object, real_shown, same_Some, same_content, same_entries, shown, then_some, view_of}
use Rattle.vt_spec.proofs.Layers.{names_at}
use Rattle.vt_spec.proofs.Nodes.{same_name}
use Rattle.vt_laws_trees.specs.Overlays.MergedTrees.{InodesAreThoseShown, IsMergedTree, IsNamedBy, MergedTreesAreOne, NumbersAreThoseShown, OtherInodesAreHeld, OverlaysAreMergedTrees, content_as, entries_shown, inode_held, inode_shown, layers_shown, node_as, number_shown, parent_shown}
use Rattle.vt_laws_trees.proofs.layers.directories.Order.{NameBelow, Pairwise, names_rise, names_sorted, pairwise_filter, pairwise_filter_map, rising_sorted}
use Rattle.vt_laws_trees.proofs.layers.layers.ShownAtPath.{computed}
use Rattle.vt_laws_trees.proofs.layers.layers.ShownMounted.{are_open}
use Rattle.vt_laws_trees.proofs.layers.layers.ShownNames.{is_name, last_name, name_found, names_are_those_shown}
use Rattle.vt_laws_trees.proofs.layers.layers.ShownPaths.{not_empty, last_step}
use Rattle.vt_laws_trees.proofs.layers.layers.UpperLine.{is_reached_in, named_so}
use Rattle.vt_laws_trees.proofs.layers.layers.UpperShown.{without_last_of_longer, has_a_name, way_to}
use Rattle.vt_laws_trees.proofs.layers.layers.UpperWorld.{all_found, overlay_found, overlay_layers, overlay_numbers, overlay_tree}
use Rattle.vt_laws_trees.proofs.overlays.steps.WholeParts.{object_is_not_none, shown_is_there}

-- a merged inode is its real object, with a parent and entries of its own
same_filled : (parent : ℕ) (entries : Entries ℕ) (content shown : Content ℕ) → same_content content shown ≡ true
    → opaque_of content ≡ false → (is_directory (kind_of content) ≡ true → (own : ℕ) → parent_of own content ≡ parent)
    → (is_directory (kind_of content) ≡ true → entries_of content ≡ entries) → content ≡ content_as parent entries shown
same_filled parent entries (Directory p e o) (Directory q f r) s mark up names = λ i. Directory (up refl 0 i)
    (names refl i) (mark i)
same_filled parent entries (Directory p e o) (Regular bytes) s mark up names = cc
same_filled parent entries (Directory p e o) (Symlink text) s mark up names = cc
same_filled parent entries (Directory p e o) Whiteout s mark up names = cc
same_filled parent entries (Regular bytes) (Directory q f r) s mark up names = cc
same_filled parent entries (Regular bytes) (Regular other) s mark up names = ap (λ b. Regular b)
    ((bytes_eq-Decides bytes other).0 s)
same_filled parent entries (Regular bytes) (Symlink text) s mark up names = cc
same_filled parent entries (Regular bytes) Whiteout s mark up names = cc
same_filled parent entries (Symlink text) (Directory q f r) s mark up names = cc
same_filled parent entries (Symlink text) (Regular other) s mark up names = cc
same_filled parent entries (Symlink text) (Symlink other) s mark up names = ap (λ b. Symlink b)
    ((bytes_eq-Decides text other).0 s)
same_filled parent entries (Symlink text) Whiteout s mark up names = cc
same_filled parent entries Whiteout (Directory q f r) s mark up names = cc
same_filled parent entries Whiteout (Regular other) s mark up names = cc
same_filled parent entries Whiteout (Symlink text) s mark up names = cc
same_filled parent entries Whiteout Whiteout s mark up names = cc

-- so is the inode, if it is there
pub node_filled : (parent : ℕ) (entries : Entries ℕ) (number : ℕ) (node shown : Option (Node ℕ))
    → SameObject node shown → is_opaque_in node ≡ false
    → (is_directory_node node ≡ true → parent_in number node ≡ parent)
    → (is_directory_node node ≡ true → entries_in node ≡ entries) → node ≡ option_map (node_as parent entries) shown
node_filled parent entries number None None s mark up names = refl
node_filled parent entries number None (Some shown) s mark up names = absurd s
node_filled parent entries number (Some node) None s mark up names = absurd s
node_filled parent entries number (Some node) (Some shown) s mark up names =
    let content = same_filled parent entries node.content _ s.1 mark (λ d own. by node.content d own (up d)) names in
    λ i. Some (record { attr = s.0 i; content = content i })
  where
    by : (content : Content ℕ) → is_directory (kind_of content) ≡ true → (own : ℕ)
        → parent_of number content ≡ parent → parent_of own content ≡ parent
    by (Directory p e o) d own up = up
    by (Regular bytes) d own up = cc
    by (Symlink text) d own up = cc
    by Whiteout d own up = cc

-- the real object of something that is shown
abbrev real_by : Bool → List (List ℕ) → Option (Shown ℕ) → Option (Real ℕ)
real_by has_upper path o = option_map (λ object. real_object has_upper object.seen.layer object)
    (option_map (λ seen. record { path = path; seen = seen }) o)

-- the entry at the end of a path
pub record HasEntry (files : FileTree ℕ) (path : List (List ℕ)) (number : ℕ) : Type 0 where
  pub front : List (List ℕ)
  pub name : List ℕ
  pub directory : ℕ
  pub split : front ++ name ∷ [] ≡ path
  pub leads : number_at_path files front ≡ Some directory
  pub entry : entry_at files.tree directory name ≡ Some number

-- Entries made of names in their order
abbrev with_names : (List ℕ → Option ℕ) → List (List ℕ) → Entries ℕ
with_names number names = filter_map (λ name. option_map (λ n. (name, n)) (number name)) names

listed : (number : List ℕ → Option ℕ) (name : List ℕ) (names : List (List ℕ))
    → entry_named name (with_names number names) ≡ cond (list_any (is_name name) names) (number name) None
listed number name [] = refl
listed number name (other ∷ names) = by (number other) refl (is_name name other) refl (listed number name names)
  where
    by : (o : Option ℕ) → number other ≡ o → (b : Bool) → is_name name other ≡ b
        → entry_named name (with_names number names) ≡ cond (list_any (is_name name) names) (number name) None
        → entry_named name (cons_option (option_map (λ n. (other, n)) o) (with_names number names)) ≡ cond
        (b || list_any (is_name name) names) (number name) None
    by o e b same rest = grind (arith, common_steps, same, is_name, same_name)

in_order : (number : List ℕ → Option ℕ) (names : List (List ℕ)) → Pairwise NameBelow names
    → T (is_sorted name_cmp (with_names number names))
in_order number names rise = rising_sorted _ (pairwise_filter_map NameBelow _ _ (λ a b x y e f h. subst
    (λ q. NameBelow x.0 q) (name_is b y (number b) f) (subst (λ q. NameBelow q b) (name_is a x _ e) h)) names rise)
  where
    name_is : (name : List ℕ) (entry : List ℕ × ℕ) (o : Option ℕ) → option_map (λ n. (name, n)) o ≡ Some entry
        → name ≡ entry.0
    name_is name entry None e = none_is_some entry e
    name_is name entry (Some n) e = ap (λ q. q.0) (same_Some (name, n) entry e)

module _ (number_of : Real ℕ → ℕ) (held : ℕ → Option (Real ℕ)) (world : World ℕ) (filesystem : Filesystem ℕ)
    (overlay : Overlay ℕ)
    (is : IsMergedTree world filesystem overlay) (named : IsNamedBy number_of held filesystem overlay) where
  abbrev layers : List (OpenLayer ℕ)
  layers = layers_shown world overlay

  abbrev at : List (List ℕ) → Option ℕ
  at path = number_at_path filesystem.files path

  -- a path that is not the root's ends in an entry
  pub lastly : (path : List (List ℕ)) (number : ℕ) → path ≢ [] → at path ≡ Some number
      → HasEntry filesystem.files path number
  lastly path number longer e =
      let last = last_step filesystem.files.tree filesystem.files.tree.root path number longer e in
      record {
        front = last.front;
        name = last.name;
        directory = last.directory;
        split = last.split;
        leads = last.leads;
        entry = last.entry;
      }

  -- what a path leads to is there,
  reached_there : (path : List (List ℕ)) (number : ℕ) → at path ≡ Some number
      → is_some (filesystem.files.tree.node number) ≡ true
  reached_there [] number e =
      ap (λ n. is_some (filesystem.files.tree.node n)) (sym (same_Some filesystem.files.tree.root number e))
      ∙ directory_used filesystem.files.tree filesystem.files.tree.root is.tree.root_directory
  reached_there (word ∷ path) number e =
      let last = lastly (word ∷ path) number
      (not_empty word path) e in is.tree.alive last.directory last.name number last.entry

  -- and has the number of its real object
  numbered : (number : ℕ) → is_some (filesystem.files.tree.node number) ≡ true
      → option_map number_of (overlay.real number) ≡ Some number
  numbered number there = grind (arith, common_steps)

  pub numbers_are_shown : (path : List (List ℕ)) → at path ≡ number_shown number_of world overlay path
  numbers_are_shown path = by (at path) refl (is.merged.shows path)
    where
      none : (o : Option (Shown ℕ)) → shown layers path ≡ o → SameObject None (then_some o (layer_node layers))
          → None ≡ option_map number_of (real_by (is_some overlay.upper) path o)
      none None e same = refl
      none (Some seen) e same = absurd (object_is_not_none _ (shown_is_there layers is.layers path seen e) same)

      by : (o : Option ℕ) → at path ≡ o
          → SameObject (then_some o filesystem.files.tree.node) (node_shown nat_eq world overlay path)
          → at path ≡ number_shown number_of world overlay path
      by None e same = e ∙ none (shown layers path) refl same
      by (Some number) e same = cc (numbered number (reached_there path number e), is.merged.names path number e)

  -- Entries of a directory at a path
  module _ (path : List (List ℕ)) (number : ℕ) (leads : at path ≡ Some number) where
    entry_is : (name : List ℕ) → entry_at filesystem.files.tree number name ≡ number_shown number_of world overlay
        (path ++ name ∷ [])
    entry_is name = sym (ap (option_and_then (λ d. entry_at filesystem.files.tree d name)) leads)
        ∙ sym (last_name filesystem.files.tree filesystem.files.tree.root path name)
        ∙ numbers_are_shown (path ++ name ∷ [])

    -- a name that is not shown leads nowhere
    not_shown : (name : List ℕ) → list_any (is_name name) (names_shown layers path) ≡ false
        → number_shown number_of world overlay (path ++ name ∷ []) ≡ None
    not_shown name out = by (shown layers (path ++ name ∷ [])) refl
      where
        by : (o : Option (Shown ℕ)) → shown layers (path ++ name ∷ []) ≡ o
            → option_map number_of (real_by (is_some overlay.upper) (path ++ name ∷ []) o) ≡ None
        by None e = refl
        by (Some seen) e =
            let has = (names_are_those_shown layers path name).1 (seen, (computed layers _ seen).0 e) in
            absurd (cc (name_found name (names_shown layers path) has.0 has.1 has.2, out))

    found : (name : List ℕ) → entry_named name
        (entries_shown number_of world overlay path) ≡ number_shown number_of world overlay (path ++ name ∷ [])
    found name = listed _ name (names_shown layers path) ∙ by (list_any (is_name name) (names_shown layers path)) refl
      where
        by : (b : Bool) → list_any (is_name name) (names_shown layers path) ≡ b
            → cond b (number_shown number_of world overlay (path ++ name ∷ [])) None
            ≡ number_shown number_of world overlay (path ++ name ∷ [])
        by true e = refl
        by false e = sym (not_shown name e)

    entries_are : entries_in (filesystem.files.tree.node number) ≡ entries_shown number_of world overlay path
    entries_are = same_entries name_cmp nat_list_cmp_total (λ x y e. same_name x y (ap is_eq e)) _
        (entries_shown number_of world overlay path) (subst T (sym (is.tree.in_order number)) tt) (in_order
        (λ n. number_shown number_of world overlay (path ++ n ∷ [])) (names_shown layers path) (pairwise_filter
        NameBelow (λ name. is_some (shown layers (path ++ name ∷ []))) (map (λ entry. entry.0) (names_at layers path))
        (names_rise (names_at layers path) (names_sorted (map view_of layers) path))))
        (λ name. entry_is name ∙ sym (found name))

    parent_is : is_directory_node (filesystem.files.tree.node number) ≡ true
        → parent_in number (filesystem.files.tree.node number) ≡ parent_shown number_of world overlay path
    parent_is is_directory = by path refl
      where
        by : (way : List (List ℕ)) → path ≡ way
            → parent_in number (filesystem.files.tree.node number) ≡ parent_shown number_of world overlay path
        by [] e =
            let root = same_Some filesystem.files.tree.root number (cc) in
            subst (λ n. parent_in n (filesystem.files.tree.node n) ≡ n) root is.tree.root_parent
            ∙ ap (λ o. unwrap_or o 0) (sym leads ∙ numbers_are_shown path)
            ∙ ap (λ p. unwrap_or (number_shown number_of world overlay p) 0) (cc)
        by (word ∷ way) e =
            let last = lastly path number (λ empty. not_empty word way (cc)) leads in
            is.tree.one_parent last.directory last.name number last.entry is_directory ∙ ap (λ o. unwrap_or o 0)
            (sym last.leads ∙ numbers_are_shown _) ∙ ap (λ p. unwrap_or (number_shown number_of world overlay p) 0)
            (cc (without_last_of_longer last.front last.name, last.split))

    pub inode_is : filesystem.files.tree.node number ≡ inode_shown number_of world overlay path
    inode_is = node_filled _ _ number (filesystem.files.tree.node number) (node_shown nat_eq world overlay path)
        (subst (λ o. SameObject (then_some o filesystem.files.tree.node) (node_shown nat_eq world overlay path))
        leads (is.merged.shows path)) (is.merged.no_mark number) parent_is (λ d. entries_are)

  -- a name is at the end of a path
  path_of_name : (number : ℕ) → HasName filesystem.files.tree number → (path : List (List ℕ)) × (at path ≡ Some number)
  path_of_name number has =
      let reached = is_reached_in filesystem.files is.tree has.0 has.1 number has.2 in
      let way = way_to filesystem.files.tree reached.0 has.0 reached.1 in (
        way.0 ++ has.1 ∷ [],
        led-append filesystem.files.tree filesystem.files.tree.root way.0 has.1 has.0 number way.1 has.2,
      )

  pub other_is_held : (number : ℕ) → ((path : List (List ℕ)) → at path ≢ Some number)
      → (filesystem.files.tree.node number ≡ inode_held world overlay held number) × (overlay.real number ≡ held number)
  other_is_held number out = (
    node_filled number [] number (filesystem.files.tree.node number) _
        (subst (λ o. SameObject (filesystem.files.tree.node number) (then_some o (real_node nat_eq world overlay)))
        real (is.merged.real_objects number)) (is.merged.no_mark number)
        (λ d. is.own_parents number d no_name) (λ d. is.tree.unnamed_empty number d no_root no_name),
    real,
  )
    where
      no_name : ¬ (HasName filesystem.files.tree number)
      no_name has = let path = path_of_name number has in out path.0 path.1

      no_root : number ≢ filesystem.files.tree.root
      no_root e = out [] (ap Some (sym e))

      real : overlay.real number ≡ held number
      real = named.unnamed number no_name no_root

pub numbers_are_those : NumbersAreThoseShown
numbers_are_those = numbers_are_shown

pub inodes_are_those : InodesAreThoseShown
inodes_are_those number_of held world filesystem overlay is named path number leads =
    (inode_is number_of held world filesystem overlay is named path number leads, is.merged.names path number leads)

pub others_are_held : OtherInodesAreHeld
others_are_held = other_is_held

-- an inode is at a path, or at none
data IsAt (files : FileTree ℕ) (number : ℕ) : Type 0 where
  is_at : (path : List (List ℕ)) → number_at_path files path ≡ Some number → IsAt files number
  is_nowhere : ((path : List (List ℕ)) → number_at_path files path ≢ Some number) → IsAt files number

module _ {number_of : Real ℕ → ℕ} {held : ℕ → Option (Real ℕ)} {world : World ℕ} {one other : Filesystem ℕ}
    {overlay another : Overlay ℕ} (upper : another.upper ≡ overlay.upper)
    (lowers : another.lowers ≡ overlay.lowers) (is : IsMergedTree world one overlay)
    (named : IsNamedBy number_of held one overlay) (other_is : IsMergedTree world other another)
    (other_named : IsNamedBy number_of held other another) where
  found_at : (number : ℕ) → IsAt one.files number
  found_at number = by (nat_eq number one.files.tree.root) refl (a_name nat_eq one.files number) refl
    where
      by : (b : Bool) → nat_eq number one.files.tree.root ≡ b → (o : Option (ℕ × List ℕ))
          → a_name nat_eq one.files number ≡ o → IsAt one.files number
      by true e o f = is_at [] (ap Some (sym (eqb-true number one.files.tree.root e)))
      by false e (Some name) f =
          let path = path_of_name number_of held world one overlay is named number
          (name.0, name.1, named_so one.files is.tree number name f) in
          is_at path.0 path.1
      by false e None f = is_nowhere at
        where
          at : (path : List (List ℕ)) → number_at_path one.files path ≢ Some number
          at [] h = cc (eq-eqb number one.files.tree.root (sym (same_Some one.files.tree.root number h)))
          at (word ∷ path) h =
              let last = lastly number_of held world one overlay is named (word ∷ path) number
              (not_empty word path) h in
              cc (has_a_name one.files is.numbers last.directory last.name number last.entry, f)

  same_paths : (path : List (List ℕ)) → number_at_path other.files path ≡ number_at_path one.files path
  same_paths path = numbers_are_shown number_of held world other another other_is other_named path
      ∙ (λ i. number_shown number_of world (record overlay { upper = upper i; lowers = lowers i }) path)
      ∙ sym (numbers_are_shown number_of held world one overlay is named path)

  same_inode : (number : ℕ) → IsAt one.files number
      → (other.files.tree.node number ≡ one.files.tree.node number) × (another.real number ≡ overlay.real number)
  same_inode number (is_at path leads) =
      let there = same_paths path ∙ leads in (
        inode_is number_of held world other another other_is other_named path number there
            ∙ (λ i. inode_shown number_of world (record overlay { upper = upper i; lowers = lowers i }) path)
            ∙ sym (inode_is number_of held world one overlay is named path number leads),
        other_is.merged.names path number there
            ∙ (λ i. real_shown nat_eq world (record overlay { upper = upper i; lowers = lowers i }) path)
            ∙ sym (is.merged.names path number leads),
      )
  same_inode number (is_nowhere out) =
      let there = other_is_held number_of held world other another other_is other_named number
      (λ path e. out path (sym (same_paths path) ∙ e)) in
      let here = other_is_held number_of held world one overlay is named number out in (
        there.0 ∙ (λ i. inode_held world (record overlay { upper = upper i; lowers = lowers i }) held number)
            ∙ sym here.0,
        there.1 ∙ sym here.1,
      )

pub merged_trees_are_one : MergedTreesAreOne
merged_trees_are_one number_of held world one other overlay another upper lowers is named other_is other_named = (
  λ i. record {
    root = same_Some _ _ (same_paths upper lowers is named other_is
        other_named []) i;
    node = λ number. (same number).0 i;
  },
  λ i. λ number. (same number).1 i,
)
  where
    same : (number : ℕ) → (other.files.tree.node number ≡ one.files.tree.node number)
        × (another.real number ≡ overlay.real number)
    same number =
        same_inode upper lowers is named other_is other_named number
        (found_at upper lowers is named other_is other_named number)

pub overlays_are_merged_trees : OverlaysAreMergedTrees
overlays_are_merged_trees world number overlay conditions is = record {
  layers = are_open world conditions overlay (overlay_layers world conditions number overlay is);
  tree = overlay_tree world conditions number overlay is;
  own_parents = all_found (λ filesystem. HasOwnParents filesystem.files.tree) _ world.filesystems
      conditions.files.own_parents (filesystem_numbered nat_eq world number) (overlay_found world number overlay is);
  numbers = overlay_numbers world conditions number overlay is;
  merged = conditions.overlays.overlays_merge number overlay is;
}
