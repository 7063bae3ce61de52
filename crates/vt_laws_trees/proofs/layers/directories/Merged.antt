-- The merged tree of layers is a tree.
use Rattle.std.proofs.Common.{arith, ◌≡◌, ◌≢◌, ◌⊎◌, inl, inr, refl, sym, ap, subst, ◌∙◌, ℕ, ◌+◌, nat_eq, eqb-true, Bool, true, false, not, ◌||◌, List, [], ◌∷◌, ◌++◌, filter, map, Option, Some, None, is_some, unwrap_or, filter_map, find, option_map}
use Rattle.vt_spec.proofs.Common.{Content, Directory, Fresh, HasName, HasOwnParents, IsDirectory, IsTree, ListsNumbers, Merged, MergedInode, OpenLayer, Regular, Shown, Symlink, Tree, Whiteout, common_steps, each_once, entries_in, entries_in-no_directory, entries_of, entry_at, entry_in_directory, entry_named, index_from, inode_of, is_among, is_directory, is_directory_node, is_one_inode, is_sorted, kind_of, last_or, led, list_any, merged_content, name_cmp, none_is_some, parent_in, parent_of, same_Some, same_path, same_truth, shown, without_last}
use Rattle.vt_spec.specs.Machine.Merging.{number_at, tree_of}
use Rattle.vt_laws_trees.proofs.layers.directories.Order.{entries_in_order}
use Rattle.vt_laws_trees.proofs.layers.layers.ShownDirectories.{last_of, longer_is_not_empty, shown_in_directory}
use Rattle.vt_laws_trees.proofs.layers.layers.ShownMerged.{CanMerge, InLayer, LeadsTo, entry_leads, in_layer, inodes, layer_node_of, number, objects, one_number}
use Rattle.vt_laws_trees.proofs.layers.layers.ShownObjects.{Among, is_object, is_one, object_is, one_itself, path_itself, path_same}
use Rattle.vt_laws_trees.proofs.layers.layers.ShownPaths.{last_of_longer, not_empty, one_path, last_step}
use Rattle.vt_laws_trees.proofs.layers.layers.ShownTree.{Arrives, arrives, directory_above, inode_at, merged_tree, object_at, root_number}
use Rattle.vt_laws_trees.proofs.layers.layers.ShownWhole.{is_of_object}
use Rattle.vt_laws_trees.proofs.layers.layers.UpperLine.{has_entries}
use Rattle.vt_laws_trees.proofs.layers.layers.UpperShown.{without_last_of_longer}

-- tests that agree on a list find one place
same_place : {A : Type 0} (test other : A → Bool) (k : ℕ) (list : List A) → ((a : A) → Among list a → test a ≡ other a)
    → index_from test k list ≡ index_from other k list
same_place test other k [] same = refl
same_place test other k (first ∷ list) same =
    cc (same first (inl refl), same_place test other (k + 1) list (λ a among. same a (inr among)))

-- a list without repetitions has what the list has
still_among : (number : ℕ) (list : List ℕ)
    → is_among nat_eq number (each_once nat_eq list) ≡ is_among nat_eq number list
still_among number [] = refl
still_among number (first ∷ list) = by (nat_eq number first) refl (still_among number list)
  where
    kept : nat_eq number first ≡ false → (rest : List ℕ)
        → list_any (nat_eq number) (filter (λ b. not (nat_eq first b)) rest) ≡ list_any (nat_eq number) rest
    kept n [] = refl
    kept n (other ∷ rest) = grind (arith, common_steps, number, eqb-true, kept n rest)

    by : (b : Bool) → nat_eq number first ≡ b
        → list_any (nat_eq number) (each_once nat_eq list) ≡ list_any (nat_eq number) list
        → (b || list_any (nat_eq number) (filter (λ c. not (nat_eq first c)) (each_once nat_eq list)))
        ≡ (b || list_any (nat_eq number) list)
    by true e on = refl
    by false e on = kept e (each_once nat_eq list) ∙ on

numbered_found : (number : ℕ) (inodes : List (MergedInode ℕ))
    → list_any (nat_eq number) (map (λ inode. inode.number) inodes)
    ≡ is_some (option_map (λ inode. inode.node) (find (λ inode. nat_eq number inode.number) inodes))
numbered_found number [] = refl
numbered_found number (first ∷ list) = grind (arith, common_steps, numbered_found number list, number)

pub merged_lists_numbers : (root : ℕ) (made : List (MergedInode ℕ)) → ListsNumbers nat_eq (tree_of nat_eq root made)
merged_lists_numbers root made number = still_among number _ ∙ numbered_found number made

module _ {layers : List (OpenLayer ℕ)} {longest : ℕ} {fresh : Fresh ℕ} (can : CanMerge layers longest fresh)
    (has_upper : Bool) (top : Shown ℕ) (is_top : shown layers [] ≡ Some top) where
  abbrev tree : Tree ℕ
  tree = merged_tree can has_upper top is_top

  abbrev num : Merged ℕ → ℕ
  num = number can has_upper

  abbrev all : List (Merged ℕ)
  all = objects can has_upper

  abbrev at : List (List ℕ) → Shown ℕ → Merged ℕ
  at path seen = object_at can has_upper top is_top path seen

  abbrev Lies : Merged ℕ → Type 0
  Lies object = InLayer can has_upper object

  among_all : (object : Merged ℕ) → shown layers object.path ≡ Some object.seen → Among all object
  among_all object s = is_object layers can.opens longest can.bounded object.path object.seen s

  -- a directory that is shown at two paths is shown at one
  one_place : (a b : Merged ℕ) → shown layers a.path ≡ Some a.seen → shown layers b.path ≡ Some b.seen
      → a.seen ≡ b.seen → (found : Lies a) → is_directory (kind_of found.node.content) ≡ true → a.path ≡ b.path
  one_place a b s t same found d =
      let other = in_layer can has_upper b t in
      let layer = same_Some other.layer found.layer (cc (other.there, found.there)) in
      one_path found.layer.tree
      (can.opens a.seen.layer found.layer found.there).0 found.layer.directory a.path b.path a.seen.object found.at
      (cc (other.at)) (cc (found.is))

  numbered_place : (a b : Merged ℕ) → shown layers a.path ≡ Some a.seen → shown layers b.path ≡ Some b.seen
      → num a ≡ num b → (found : Lies a) → is_directory (kind_of found.node.content) ≡ true → a.path ≡ b.path
  numbered_place a b s t e found d = one_place a b s
      t (one_number can _ a b (among_all a s) (among_all b t) e).seen found d

  -- the number of a directory is that of its path
  path_number : (path : List (List ℕ)) (seen : Shown ℕ) → shown layers path ≡ Some seen → (found : Lies (at path seen))
      → is_directory (kind_of found.node.content) ≡ true → number_at fresh has_upper all path ≡ num (at path seen)
  path_number path seen s found d = ap (λ o. fresh (unwrap_or o 0)) (same_place (λ object. same_path path object.path) _
      0 all (λ other among. agree other (object_is layers can.opens longest can.bounded other among)))
    where
      agree : (other : Merged ℕ) → shown layers other.path ≡ Some other.seen
          → same_path path other.path ≡ is_one_inode nat_eq has_upper (at path seen) other
      agree other t = same_truth _ _ (λ e.
          let paths = path_same path other.path e in
          let seens = same_Some seen other.seen (cc (paths)) in
          let whole : at path seen ≡ other = λ i. record { path = paths i; seen = seens i } in
          cc (whole, one_itself has_upper (at path seen))) (λ e. ap (same_path path)
          (sym (one_place _ other s t (is_one layers has_upper _ other s t e).seen found d)) ∙ path_itself path)

  -- what the merged tree has of a directory
  merged_entries : (path : List (List ℕ)) (content : Content ℕ) → is_directory (kind_of content) ≡ true
      → entries_of (merged_content nat_eq fresh has_upper all path content)
      ≡ filter_map (entry_in_directory nat_eq fresh has_upper all path) all
  merged_entries path (Directory parent entries opaque) d = refl
  merged_entries path (Regular bytes) d = cc
  merged_entries path (Symlink text) d = cc
  merged_entries path Whiteout d = cc

  merged_parent : (own : ℕ) (path : List (List ℕ)) (content : Content ℕ) → is_directory (kind_of content) ≡ true
      → parent_of own (merged_content nat_eq fresh has_upper all path content)
      ≡ number_at fresh has_upper all (without_last path)
  merged_parent own path (Directory parent entries opaque) d = refl
  merged_parent own path (Regular bytes) d = cc
  merged_parent own path (Symlink text) d = cc
  merged_parent own path Whiteout d = cc

  merged_kind : (path : List (List ℕ)) (content : Content ℕ)
      → is_directory (kind_of (merged_content nat_eq fresh has_upper all path content)) ≡ is_directory (kind_of content)
  merged_kind path (Directory parent entries opaque) = refl
  merged_kind path (Regular bytes) = refl
  merged_kind path (Symlink text) = refl
  merged_kind path Whiteout = refl

  -- a directory of the tree is one that is shown
  record IsShownDirectory (n : ℕ) : Type 0 where
    path : List (List ℕ)
    seen : Shown ℕ
    is_shown : shown layers path ≡ Some seen
    found : Lies (at path seen)
    directory : is_directory (kind_of found.node.content) ≡ true
    numbered : n ≡ num (at path seen)
    entries : entries_in (tree.node n) ≡ filter_map (entry_in_directory nat_eq fresh has_upper all path) all
    parent : parent_in n (tree.node n) ≡ number_at fresh has_upper all (without_last path)

  of_directory : (n : ℕ) → IsDirectory tree n → IsShownDirectory n
  of_directory n d = by (inode_of (inodes can has_upper) n nat_eq) refl d
    where
      by : (o : Option (MergedInode ℕ)) → inode_of (inodes can has_upper) n nat_eq ≡ o
          → is_directory_node (option_map (λ inode. inode.node) o) ≡ true → IsShownDirectory n
      by None e d = cc
      by (Some inode) e d =
          let is = is_of_object can has_upper n inode e in
          let directory = sym (merged_kind _ _) ∙ ap (λ m. is_directory (kind_of m.content)) (sym is.node) ∙ d in
          let node : tree.node n ≡ Some inode.node = ap (option_map (λ i. i.node)) e in
          record {
            path = is.object.path;
            seen = is.object.seen;
            is_shown = object_is layers can.opens longest can.bounded is.object is.among;
            found = is.layer;
            directory = directory;
            numbered = is.numbered;
            entries = cc (is.node, merged_entries is.object.path is.layer.node.content directory);
            parent = cc (is.node, merged_parent n is.object.path is.layer.node.content directory);
          }

  -- and one that is shown is one of the tree
  shown_directory : (path : List (List ℕ)) (seen : Shown ℕ) → shown layers path ≡ Some seen
      → (found : Lies (at path seen)) → is_directory (kind_of found.node.content) ≡ true
      → IsDirectory tree (num (at path seen))
  shown_directory path seen s found d =
      let inode = inode_at can has_upper top is_top path seen s in
      let node = same_Some inode.node found.node (sym inode.seen ∙ layer_node_of can has_upper (at path seen) found) in
      grind (arith, common_steps, merged_kind)

  -- an entry of the tree leads to what is shown under its name
  record IsEntry (directory : ℕ) (name : List ℕ) (n : ℕ) : Type 0 where
    above : IsShownDirectory directory
    seen : Shown ℕ
    is_shown : shown layers (above.path ++ name ∷ []) ≡ Some seen
    numbered : n ≡ num (at (above.path ++ name ∷ []) seen)

  is_entry : (directory : ℕ) (name : List ℕ) (n : ℕ) → entry_at tree directory name ≡ Some n → IsEntry directory name n
  is_entry directory name n e =
      let above = of_directory directory (has_entries tree directory name n e) in
      by above _ refl (entry_leads can has_upper _ name) (cc (above.entries))
    where
      by : (above : IsShownDirectory directory) (o : Option (Shown ℕ)) → shown layers (above.path ++ name ∷ []) ≡ o
          → LeadsTo can has_upper above.path name o
          (entry_named name (filter_map (entry_in_directory nat_eq fresh has_upper all above.path) all))
          → entry_named name (filter_map (entry_in_directory nat_eq fresh has_upper all above.path) all) ≡ Some n
          → IsEntry directory name n
      by above None s leads e = none_is_some n (cc)
      by above (Some seen) s leads e =
          record { above = above; seen = seen; is_shown = s; numbered = same_Some n _ (cc) }

  -- The root
  root_found : (found : Lies (at [] top)) → is_directory (kind_of found.node.content) ≡ true
  root_found found = ap is_directory_node (sym found.is) ∙ ap (λ o. is_directory_node (found.layer.tree.node o))
      (sym (same_Some found.layer.directory top.object found.at)) ∙ (can.opens top.layer found.layer found.there).1

  root_lies : Lies (at [] top)
  root_lies = in_layer can has_upper (at [] top) is_top

  root_is : num (at [] top) ≡ fresh 0
  root_is = root_number can has_upper top is_top

  root_is_directory : IsDirectory tree (fresh 0)
  root_is_directory = subst (IsDirectory tree) root_is (shown_directory [] top is_top root_lies (root_found root_lies))

  root_path : (path : List (List ℕ)) (seen : Shown ℕ) → shown layers path ≡ Some seen → fresh 0 ≡ num (at path seen)
      → [] ≡ path
  root_path path seen s e = numbered_place (at [] top) _ is_top s (root_is ∙ e) root_lies (root_found root_lies)

  root_number_at : number_at fresh has_upper all [] ≡ fresh 0
  root_number_at = path_number [] top is_top root_lies (root_found root_lies) ∙ root_is

  root_own_parent : parent_in (fresh 0) (tree.node (fresh 0)) ≡ fresh 0
  root_own_parent =
      let root = of_directory (fresh 0) root_is_directory in
      root.parent ∙ ap (λ p. number_at fresh has_upper all (without_last p))
      (sym (root_path root.path root.seen root.is_shown root.numbered)) ∙ root_number_at

  -- a directory is the root, or has a name in a directory
  is_led : (n : ℕ) (directory : IsShownDirectory n) → led tree (fresh 0) directory.path ≡ Some n
  is_led n directory = subst (λ o. Arrives can has_upper top is_top o directory.path (led tree
      (fresh 0) directory.path)) directory.is_shown
      (arrives can has_upper top is_top _) ∙ ap Some (sym directory.numbered)

  root_or_named : (n : ℕ) → IsShownDirectory n → (n ≡ fresh 0) ⊎ HasName tree n
  root_or_named n directory = by directory.path (is_led n directory)
    where
      by : (path : List (List ℕ)) → led tree (fresh 0) path ≡ Some n → (n ≡ fresh 0) ⊎ HasName tree n
      by [] e = inl (sym (same_Some (fresh 0) n e))
      by (first ∷ rest) e =
          let last = last_step tree (fresh 0) (first ∷ rest) n (not_empty first rest) e in
          inr (last.directory, last.name, last.entry)

  -- the parent
  has_parent : (n : ℕ) → IsShownDirectory n → IsDirectory tree (parent_in n (tree.node n))
  has_parent n directory = subst (IsDirectory tree) (sym directory.parent) (by directory.path _ directory.is_shown)
    where
      above : (front : List (List ℕ)) (name : List ℕ) (seen : Shown ℕ) → shown layers (front ++ name ∷ []) ≡ Some seen
          → IsDirectory tree (number_at fresh has_upper all front)
      above front name seen s =
          let shows = shown_in_directory layers can.opens 0 front name seen s in
          let over : Shown ℕ = record { layer = 0 + shows.place; object = shows.object } in
          let inode =
          inode_at can has_upper top is_top front over shows.is in
          let found = in_layer can has_upper (at front over) shows.is in
          let node = same_Some inode.node found.node (sym inode.seen ∙ layer_node_of can has_upper
          (at front over) found) in
          let d = ap (λ m. is_directory (kind_of m.content)) (sym node)
          ∙ directory_above can has_upper top is_top front name over shows.is
          inode seen s in
          subst (IsDirectory tree) (sym (path_number front over shows.is found d))
          (shown_directory front over shows.is found d)

      by : (path : List (List ℕ)) (seen : Shown ℕ) → shown layers path ≡ Some seen
          → IsDirectory tree (number_at fresh has_upper all (without_last path))
      by [] seen s = subst (IsDirectory tree) (sym root_number_at) root_is_directory
      by (first ∷ rest) seen s =
          let last = last_of (first ∷ rest) (not_empty first rest) in
          subst (λ p. IsDirectory tree (number_at fresh has_upper all (without_last p))) last.2
          (subst (λ p. IsDirectory tree (number_at fresh has_upper all p)) (sym (without_last_of_longer last.0 last.1))
          (above last.0 last.1 seen (cc (last.2))))

  -- the path of a directory under a name
  path_of_entry : (directory : ℕ) (name : List ℕ) (n : ℕ) (entry : IsEntry directory name n) (own : IsShownDirectory n)
      → own.path ≡ entry.above.path ++ name ∷ []
  path_of_entry directory name n entry own = numbered_place (at own.path own.seen) _
      own.is_shown entry.is_shown (sym own.numbered ∙ entry.numbered) own.found own.directory

  pub merged_is_tree : IsTree tree
  merged_is_tree = record {
    root_directory = root_is_directory;
    root_parent = root_own_parent;
    root_unnamed = λ directory name e.
        let entry = is_entry directory name (fresh 0) e in
        longer_is_not_empty entry.above.path name (sym (root_path _ entry.seen entry.is_shown entry.numbered));
    in_order = λ directory. ordered directory (is_directory_node (tree.node directory)) refl;
    alive = λ directory name n e.
        let entry = is_entry directory name n e in
        let inode = inode_at can has_upper top is_top _ _ entry.is_shown in
        ap (λ k. is_some (tree.node k)) entry.numbered ∙ ap is_some inode.is;
    one_parent = λ directory name n e d.
        let entry = is_entry directory name n e in
        let own = of_directory n d in
        own.parent ∙ ap (λ p. number_at fresh has_upper all (without_last p)) (path_of_entry directory name n entry own)
        ∙ ap (number_at fresh has_upper all) (without_last_of_longer entry.above.path name) ∙ path_number
        entry.above.path _ entry.above.is_shown entry.above.found entry.above.directory ∙ sym entry.above.numbered;
    one_name = λ directory name other n e f d.
        let one = is_entry directory name n e in
        let two = is_entry directory other n f in
        let own = of_directory n d in
        sym (last_of_longer one.above.path name [])
        ∙ ap (last_or []) (sym (path_of_entry directory name n one own) ∙ path_of_entry directory other n two own)
        ∙ last_of_longer two.above.path other [];
    parent_directory = λ n d. has_parent n (of_directory n d);
    reached = λ n d named. let own = of_directory n d in (own.path, is_led n own);
    unnamed_empty = λ n d no_root unnamed. neither n (root_or_named n (of_directory n d)) no_root unnamed;
  }
    where
      ordered : (directory : ℕ) (b : Bool) → is_directory_node (tree.node directory) ≡ b
          → is_sorted name_cmp (entries_in (tree.node directory)) ≡ true
      ordered directory true d =
          let own = of_directory directory d in
          ap (is_sorted name_cmp) own.entries ∙ entries_in_order can _ _
      ordered directory false d = ap (is_sorted name_cmp) (entries_in-no_directory (tree.node directory) d)

      neither : (n : ℕ) → (n ≡ fresh 0) ⊎ HasName tree n → n ≢ fresh 0 → ¬ (HasName tree n)
          → entries_in (tree.node n) ≡ []
      neither n (inl e) no_root unnamed = absurd (no_root e)
      neither n (inr named) no_root unnamed = absurd (unnamed named)

  pub merged_own_parents : HasOwnParents tree
  merged_own_parents n d unnamed =
      grind (arith, common_steps, root_or_named n (of_directory n d), tree, root_own_parent)
