-- One object is copied up: the tree is still what the layers show.
use Rattle.std.proofs.Common.{arith, ◌≡◌, ◌≢◌, refl, sym, ap, subst, ◌∙◌, true≢false, eq-eqb, ne_eqb, ◌⊎◌, ⊎_elim, inl, inr, ℕ, nat_eq, Bool, true, false, not, cond, List, [], ◌∷◌, ◌++◌, map, Option, Some, None, is_some}
use Rattle.vt_spec.proofs.Common.{Content, Directory, FileTree, HasOwnParents, IsDirectory, IsNewIn, IsReached, IsTree, Make, Merge, Node, Real, Regular, SameObject, Stack, Symlink, Upper, View, Whiteout, a_name, bytes_eq_itself, changed, common_steps, copied_content, copy_named, copy_of_node, copy_parent, cuts, directory_no_whiteout, directory_used, entries_in, entries_in-no_directory, entries_of-copied_content, entry_at, entry_named, eqb_tells, hides, is_directory, is_directory_node, is_kind, is_kind_in, kind_of, led, led-append, name_cmp, node_led, node_other, node_set, none_is_some, number_at_path, parent_in, parent_of, same_Some, same_content, shown, shown_from, then_some, upper_object, upper_of, view_of, when, with_inode, with_real}
use Rattle.vt_spec.specs.declared.attributes.Kind.TheVariants.{White}
use Rattle.vt_laws_trees.specs.Trees.{MayMake}
use Rattle.vt_laws_trees.proofs.trees.ChangesKeepTrees.{changes_keep_trees, numbers_with_inode}
use Rattle.vt_laws_trees.specs.Layers.Layers.ChangesUpper.{StandsInUpper}
use Rattle.vt_laws_trees.specs.Layers.Layers.Views.{goes_through, names_entry, view_in}
use Rattle.vt_laws_trees.specs.Overlays.WhatIsShown.{CopyKeepsWhole, IsWhole, layers_under, real_seen}
use Rattle.vt_laws_trees.proofs.layers.layers.ShownAlike.{white_alike}
use Rattle.vt_laws_trees.proofs.layers.layers.ShownDirectories.{led_is_there}
use Rattle.vt_laws_trees.proofs.layers.layers.ShownFronts.{prefix_found, prefix_passes}
use Rattle.vt_laws_trees.proofs.layers.layers.UpperLine.{has_entries, is_reached_in, named_so}
use Rattle.vt_laws_trees.proofs.layers.layers.UpperShown.{below_is_at, has_a_name, way_to}
use Rattle.vt_laws_trees.proofs.layers.views.After.{new_name_is_shown, on_top, shown_elsewhere_stays}
use Rattle.vt_laws_trees.proofs.layers.views.Fronts.{prefixes_agree}
use Rattle.vt_laws_trees.proofs.layers.views.Moves.{led_parts}
use Rattle.vt_laws_trees.proofs.layers.layers.ShownPaths.{not_empty, last_step}
use Rattle.vt_laws_trees.proofs.layers.views.Names.{alike_same, inode_entries, make_adds_path, no_entries}
use Rattle.vt_laws_trees.proofs.layers.views.Stay.{inode_moves_no_path}
use Rattle.vt_laws_trees.proofs.overlays.whole.UpperGoes.{Goes, goes_by}
use Rattle.vt_laws_trees.proofs.overlays.steps.WholeAttributes.{top_open}
use Rattle.vt_laws_trees.proofs.overlays.steps.WholeGrown.{directory_alike, grown_is_fine}
use Rattle.vt_laws_trees.proofs.overlays.steps.WholeNew.{IsNewName, hides_at, leads_same, new_there, others_alike}
use Rattle.vt_laws_trees.proofs.overlays.steps.WholeNames.{IsAbove, stands_above, above_named, cut_shows_none, named_led, through_bare, through_free, whole_again, entry_named_so, is_fine, named_above, over_same, same_entry, same_through, top_good}
use Rattle.vt_laws_trees.proofs.overlays.steps.WholeParts.{IsFine, real_by, real_by_none}
use Rattle.vt_spec.proofs.NodeChanges.{kind_of-copied_content}

-- the content of a copy
copy_same : (parent : ℕ) (content : Content ℕ) → is_kind White (kind_of content) ≡ false
    → same_content content (copied_content parent content) ≡ true
copy_same parent (Directory old entries opaque) white = refl
copy_same parent (Regular bytes) white = bytes_eq_itself bytes
copy_same parent (Symlink text) white = bytes_eq_itself text
copy_same parent Whiteout white = absurd (true≢false white)

copy_fits : (parent : ℕ) (node : Node ℕ) (content : Content ℕ)
    → IsNewIn parent (record { attr = node.attr; content = copied_content parent content })
copy_fits parent node (Directory old entries opaque) = inl refl
copy_fits parent node (Regular bytes) = inr refl
copy_fits parent node (Symlink text) = inr refl
copy_fits parent node Whiteout = inr refl

-- a copy of a directory hides nothing
copy_hides_not : (parent : ℕ) (node : Node ℕ) (content : Content ℕ) → is_directory (kind_of content) ≡ true
    → hides (Some (record { attr = node.attr; content = copied_content parent content })) ≡ false
copy_hides_not parent node (Directory old entries opaque) d = refl
copy_hides_not parent node (Regular bytes) d = absurd (true≢false (sym d))
copy_hides_not parent node (Symlink text) d = absurd (true≢false (sym d))
copy_hides_not parent node Whiteout d = absurd (true≢false (sym d))

copy_hides : (parent : ℕ) (node : Node ℕ) (content : Content ℕ) → is_directory (kind_of content) ≡ false
    → hides (Some (record { attr = node.attr; content = copied_content parent content })) ≡ true
copy_hides parent node (Directory old entries opaque) d = absurd (true≢false d)
copy_hides parent node (Regular bytes) d = refl
copy_hides parent node (Symlink text) d = refl
copy_hides parent node Whiteout d = refl

module _ {stack : Stack ℕ} {merge : Merge ℕ} (whole : IsWhole stack merge) (object copy : ℕ) (node : Node ℕ)
    (is : merge.files.tree.node object ≡ Some node) (low : upper_object (merge.real object) ≡ None)
    (vacant : merge.upper.tree.node copy ≡ None) where
  fine_before : IsFine stack merge
  fine_before = is_fine stack merge whole

  top_tree : IsTree merge.upper.tree
  top_tree = (top_open stack merge whole).0

  top_directory : IsDirectory merge.upper.tree stack.directory
  top_directory = (top_open stack merge whole).1

  not_white : is_kind White (kind_of node.content) ≡ false
  not_white = ap (is_kind_in White) (sym is) ∙ fine_before.whiteout object

  abbrev copy_node : ℕ → Node ℕ
  copy_node parent = record { attr = node.attr; content = copied_content parent node.content }

  abbrev real_later : ℕ → Option (Real ℕ)
  real_later = with_real nat_eq merge.real object (Upper copy)

  -- it has a real object
  has_real : is_some (merge.real object) ≡ true
  has_real = by (merge.real object) (fine_before.objects object)
    where
      by : (o : Option (Real ℕ)) → SameObject (merge.files.tree.node object)
          (then_some o (Rattle.vt_laws_trees.specs.Overlays.WhatIsShown.inode_behind stack merge)) → is_some o ≡ true
      by None same = absurd (subst (λ n. SameObject n None) is same)
      by (Some real) same = refl

  -- one path leads to it
  one_way : (a b : List (List ℕ)) → number_at_path merge.files a ≡ Some object
      → number_at_path merge.files b ≡ Some object → a ≡ b
  one_way a b e f =
      let real_a = sym (ap (λ o. then_some o merge.real) e) ∙ fine_before.paths a in
      let real_b = sym (ap (λ o. then_some o merge.real) f) ∙ fine_before.paths b in
      below_is_at (record { tree = merge.upper.tree; directory = stack.directory }) stack.lowers a b
      (by (shown (layers_under stack merge) a) (ap is_some (sym real_a) ∙ has_real))
      (ap (λ r. is_some (upper_object r)) (sym real_a) ∙ ap is_some low) (sym real_a ∙ real_b)
    where
      by : (o : Option (Rattle.vt_spec.specs.Machine.Layers.Shown ℕ)) → is_some (real_by a o) ≡ true → is_some o ≡ true
      by None t = t
      by (Some seen) t = refl

  copy_object : (parent : ℕ) → SameObject (merge.files.tree.node object) (Some (copy_node parent))
  copy_object parent = subst (λ o. SameObject o (Some (copy_node parent))) (sym is) (refl, copy_same parent _ not_white)

  -- some inode without a name
  copy_parent_itself : (content : Content ℕ) → parent_of copy (copied_content copy content) ≡ copy
  copy_parent_itself (Directory old entries opaque) = refl
  copy_parent_itself (Regular bytes) = refl
  copy_parent_itself (Symlink text) = refl
  copy_parent_itself Whiteout = refl

  abbrev apart : FileTree ℕ
  apart = with_inode nat_eq merge.upper copy (copy_node copy)

  apart_there : (k : ℕ) → is_some (merge.upper.tree.node k) ≡ true → apart.tree.node k ≡ merge.upper.tree.node k
  apart_there k there = node_other merge.upper.tree copy (Some (copy_node copy)) k
      (λ same. true≢false (sym there ∙ ap (λ n. is_some (merge.upper.tree.node n)) same ∙ ap is_some vacant))

  apart_entry : (directory : ℕ) (name : List ℕ)
      → entry_at apart.tree directory name ≡ entry_at merge.upper.tree directory name
  apart_entry directory name = ap (entry_named name) (inode_entries merge.upper copy (copy_node copy) vacant
      (entries_of-copied_content copy node.content) directory)

  apart_led : (start : ℕ) (path : List (List ℕ)) → led apart.tree start path ≡ led merge.upper.tree start path
  apart_led start path = inode_moves_no_path merge.upper copy _ vacant (entries_of-copied_content copy _) start path

  was_directory : (k : ℕ) → IsDirectory apart.tree k → (k ≡ copy) ⊎ IsDirectory merge.upper.tree k
  was_directory k d = ⊎_elim (λ t. inl t.1)
      (λ t. inr (sym (ap is_directory_node (node_other merge.upper.tree copy _ k t.1)) ∙ d)) (eqb_tells k copy)

  still_directory : (k : ℕ) → IsDirectory merge.upper.tree k → IsDirectory apart.tree k
  still_directory k d = ap is_directory_node (apart_there k (directory_used merge.upper.tree k d)) ∙ d

  copy_unnamed : (directory : ℕ) (name : List ℕ) → entry_at merge.upper.tree directory name ≢ Some copy
  copy_unnamed directory name e = true≢false (sym (top_tree.alive directory name copy e) ∙ ap is_some vacant)

  apart_parent : (k : ℕ) → IsDirectory merge.upper.tree k
      → parent_in k (apart.tree.node k) ≡ parent_in k (merge.upper.tree.node k)
  apart_parent k d = ap (parent_in k) (apart_there k (directory_used merge.upper.tree k d))

  named_directory : (directory : ℕ) (name : List ℕ) (k : ℕ) → entry_at apart.tree directory name ≡ Some k
      → IsDirectory apart.tree k → IsDirectory merge.upper.tree k
  named_directory directory name k e d =
      ⊎_elim (λ same. absurd (copy_unnamed directory name (sym (apart_entry directory name) ∙ e ∙ ap Some same)))
      (λ old. old) (was_directory k d)

  apart_is_tree : IsTree apart.tree
  apart_is_tree = record {
    root_directory = still_directory merge.upper.tree.root top_tree.root_directory;
    root_parent = apart_parent merge.upper.tree.root top_tree.root_directory ∙ top_tree.root_parent;
    root_unnamed = λ directory name e. top_tree.root_unnamed directory name (sym (apart_entry directory name) ∙ e);
    in_order = λ directory. ap (Rattle.std.specs.FinMap.Entries.is_sorted name_cmp)
        (inode_entries merge.upper copy _ vacant (entries_of-copied_content copy _) _) ∙ top_tree.in_order directory;
    alive = λ directory name k e.
        let there = top_tree.alive directory name k (sym (apart_entry directory name) ∙ e) in
        ap is_some (apart_there k there) ∙ there;
    one_parent = λ directory name k e d.
        let old = named_directory directory name k e d in
        apart_parent k old ∙ top_tree.one_parent directory name k (sym (apart_entry directory name) ∙ e) old;
    one_name = λ directory name other k e f d. top_tree.one_name directory name other
        k (sym (apart_entry directory name) ∙ e) (sym (apart_entry directory other) ∙ f) (named_directory _ name k e d);
    parent_directory = λ k d. ⊎_elim (λ same. subst (IsDirectory apart.tree)
        (sym (ap (λ n. parent_in n (apart.tree.node n)) same ∙ ap (parent_in copy) (node_set merge.upper.tree copy _)
        ∙ copy_parent_itself _)) (subst (IsDirectory apart.tree) same d)) (λ old. subst (IsDirectory apart.tree)
        (sym (apart_parent k old)) (still_directory _ (top_tree.parent_directory k old))) (was_directory k d);
    reached = λ k d named.
        let old = named_directory named.0 named.1 k named.2 d in
        let way = top_tree.reached k old (named.0, named.1, sym (apart_entry named.0 named.1) ∙ named.2) in
        (way.0, apart_led merge.upper.tree.root way.0 ∙ way.1);
    unnamed_empty = λ k d no_root unnamed. ⊎_elim (λ same. ap (λ n. entries_in (apart.tree.node n)) same ∙ ap entries_in
        (node_set merge.upper.tree copy (Some (copy_node copy))) ∙ entries_of-copied_content copy node.content) (λ old.
        inode_entries merge.upper copy _ vacant (entries_of-copied_content copy node.content) k ∙ top_tree.unnamed_empty
        k old no_root (λ named. unnamed (named.0, named.1, apart_entry named.0 named.1 ∙ named.2))) (was_directory k d);
  }

  module _ (unnamed : a_name nat_eq merge.files object ≡ None) where
    no_path : (path : List (List ℕ)) → number_at_path merge.files path ≢ Some object
    no_path [] e =
        let found = above_named stack merge whole [] stack.directory refl (directory_no_whiteout _ top_directory) in
        none_is_some stack.directory (sym low
        ∙ ap (λ n. upper_object (merge.real n)) (sym (same_Some found.0 object (sym found.1 ∙ e)))
        ∙ ap upper_object found.2)
    no_path (word ∷ path) e =
        let last = last_step merge.files.tree merge.files.tree.root (word ∷ path) object (not_empty word path) e in
        true≢false (sym (has_a_name merge.files whole.numbers last.directory last.name object last.entry)
        ∙ ap is_some unnamed)

    abbrev beside : Merge ℕ
    beside = record merge { real = real_later; upper = apart }

    node_same : (path : List (List ℕ))
        → node_led (view_in apart stack.directory) path ≡ node_led (view_in merge.upper stack.directory) path
    node_same path = ap (λ o. then_some o apart.tree.node) (apart_led stack.directory path) ∙ by _ refl
      where
        by : (o : Option ℕ) → led merge.upper.tree stack.directory path ≡ o
            → then_some o apart.tree.node ≡ then_some o merge.upper.tree.node
        by None e = refl
        by (Some k) e = apart_there k (led_is_there _ top_tree top_directory path k e)

    seen_same : (path : List (List ℕ)) → real_seen stack beside path ≡ real_seen stack merge path
    seen_same path = ap (real_by path) (over_same _ _ (map view_of stack.lowers) path (apart_led stack.directory path)
        (λ k e. ap (is_kind_in White) (apart_there k (led_is_there _ top_tree top_directory path k e)))
        (prefixes_agree _ _ path (λ front f. ap hides (node_same front))))

    paths_beside : (path : List (List ℕ))
        → then_some (number_at_path merge.files path) real_later ≡ real_seen stack beside path
    paths_beside path = by (number_at_path merge.files path) refl ∙ fine_before.paths path ∙ sym (seen_same path)
      where
        by : (o : Option ℕ) → number_at_path merge.files path ≡ o → then_some o real_later ≡ then_some o merge.real
        by None e = refl
        by (Some n) e = ap (λ b. cond b (Some (Upper copy)) (merge.real n))
            (ne_eqb n object (λ same. no_path path (e ∙ ap Some same)))

    own_parent_beside : HasOwnParents merge.upper.tree → HasOwnParents apart.tree
    own_parent_beside own k is none = ⊎_elim (λ same. ap (λ n. parent_in n (apart.tree.node n)) same ∙ ap
        (parent_in copy) (node_set merge.upper.tree copy _) ∙ copy_parent_itself _ ∙ sym same) (λ old. apart_parent k
        old ∙ own k old (λ named. none (named.0, named.1, apart_entry named.0 named.1 ∙ named.2))) (was_directory k is)

    beside_goes : Goes stack.directory merge.upper apart
    beside_goes = record {
      good = record {
        tree = apart_is_tree;
        directory = still_directory stack.directory top_directory;
        reached = (whole.reached.0, apart_led merge.upper.tree.root whole.reached.0 ∙ whole.reached.1);
      };
      numbers = numbers_with_inode merge.upper copy (copy_node copy);
      own_parents = own_parent_beside;
    }

    beside_is_whole : IsWhole stack beside
    beside_is_whole = whole_again stack merge beside whole whole.tree whole.numbers apart_is_tree
        (still_directory stack.directory top_directory) (whole.reached.0, apart_led _ whole.reached.0 ∙ whole.reached.1)
        (grown_is_fine stack merge fine_before merge.files apart object copy vacant (λ n differ. alike_same _ _ refl)
        (λ u differ. alike_same _ (apart.tree.node u) (node_other merge.upper.tree copy _ u differ)) (subst
        (SameObject (merge.files.tree.node object)) (sym (node_set merge.upper.tree copy (Some (copy_node copy))))
        (copy_object copy)) (ap is_some is) (fine_before.whiteout object) (fine_before.mark object) paths_beside)

  -- an object under its name
  module _ (d : ℕ) (w : List ℕ) (has : entry_at merge.files.tree d w ≡ Some object)
      (stands : StandsInUpper merge d) where
    abbrev ud : ℕ
    ud = upper_of merge d

    abbrev lowers : List (View ℕ)
    lowers = map view_of stack.lowers

    abbrev before : View ℕ
    before = view_in merge.upper stack.directory

    abbrev with_copy : FileTree ℕ
    with_copy = changed nat_eq merge.upper (Make ud w copy (copy_node ud))

    abbrev after : View ℕ
    after = view_in with_copy stack.directory

    abbrev above : Merge ℕ
    above = record merge { real = real_later; upper = with_copy }

    in_upper : IsAbove stack merge d ud
    in_upper = stands_above d whole stands (has_entries merge.files.tree d w object has)

    way : (q : List (List ℕ)) × (number_at_path merge.files q ≡ Some d)
    way = let reached = is_reached_in merge.files whole.tree d w object has in
        way_to merge.files.tree reached.0 d reached.1

    up_way : led merge.upper.tree stack.directory way.0 ≡ Some ud
    up_way = named_above stack merge whole way.0 d ud way.1 in_upper.real

    here : number_at_path merge.files (way.0 ++ w ∷ []) ≡ Some object
    here = led-append merge.files.tree merge.files.tree.root way.0 w d object way.1 has

    free : entry_at merge.upper.tree ud w ≡ None
    free = by (entry_at merge.upper.tree ud w) refl
      where
        seen : (r : ℕ) → entry_at merge.upper.tree ud w ≡ Some r → (white : Bool)
            → is_kind_in White (merge.upper.tree.node r) ≡ white → ⊥
        seen r e white k = at white (sym (ap (λ o. then_some o merge.real) here) ∙ fine_before.paths _ ∙ ap (real_by _)
            (on_top before lowers _ r white (led-append merge.upper.tree stack.directory way.0 w ud r up_way e) k))
          where
            at : (white : Bool) → merge.real object
                ≡ real_by (way.0 ++ w ∷ []) (when (not white) (record { layer = 0; object = r })) → ⊥
            at true q = true≢false (sym has_real ∙ ap is_some q)
            at false q = none_is_some r (sym low ∙ ap upper_object q)

        by : (o : Option ℕ) → entry_at merge.upper.tree ud w ≡ o → entry_at merge.upper.tree ud w ≡ None
        by None e = e
        by (Some r) e = absurd (seen r e (is_kind_in White (merge.upper.tree.node r)) refl)

    new_name : IsNewName merge.upper stack.directory ud copy w (copy_node ud)
    new_name = record {
      tree = top_tree;
      directory = top_directory;
      takes = record { in_directory = in_upper.directory; bare = λ r e. none_is_some r (sym free ∙ e) };
      vacant = vacant;
      bare = entries_of-copied_content ud node.content;
    }

    is_old : (path : List (List ℕ)) (k : ℕ) → led merge.upper.tree stack.directory path ≡ Some k → k ≢ copy
    is_old path k l same = true≢false (sym (led_is_there _ top_tree top_directory path k l)
        ∙ ap (λ n. is_some (merge.upper.tree.node n)) same ∙ ap is_some vacant)

    -- a copy of a directory lets be seen what is below
    cuts_same : is_directory (kind_of node.content) ≡ true → (path : List (List ℕ)) → cuts after path ≡ cuts before path
    cuts_same is_dir path = prefixes_agree _ _ path (λ front f. by front (names_entry before ud w front) refl)
      where
        by : (front : List (List ℕ)) (b : Bool) → names_entry before ud w front ≡ b
            → hides (node_led after front) ≡ hides (node_led before front)
        by front true e = hides_at new_name front true e ∙ copy_hides_not ud node node.content is_dir
            ∙ sym (ap (λ o. hides (then_some o merge.upper.tree.node)) (named_led merge.upper _ ud w front e ∙ free))
        by front false e = hides_at new_name front false e

    -- and that of a file hides just what was hidden
    file_cuts : is_directory (kind_of node.content) ≡ false → (path : List (List ℕ))
        → goes_through before ud w path ≡ true → cuts after path ≡ true
    file_cuts not_dir path through =
        let found = prefix_found (names_entry before ud w) path through in
        prefix_passes (λ front. hides (node_led after front)) path found.0 found.1.0 found.1.1 found.1.2
        (hides_at new_name found.0 true found.2 ∙ copy_hides ud node node.content not_dir)

    number_none : is_directory (kind_of node.content) ≡ false → (path : List (List ℕ))
        → goes_through before ud w path ≡ true → names_entry before ud w path ≡ false
        → number_at_path merge.files path ≡ None
    number_none not_dir path through other = through_bare merge.files merge.files.tree.root d object
        w has (no_entries merge.files.tree object (entries_in-no_directory _ (ap is_directory_node is ∙ not_dir)))
        path (same_through in_upper w path ∙ through) (same_entry in_upper w path ∙ other)

    shown_same : (path : List (List ℕ)) → names_entry before ud w path ≡ false
        → shown_from 0 (after ∷ lowers) path ≡ shown_from 0 (before ∷ lowers) path
    shown_same path e = by (is_directory (kind_of node.content)) refl
      where
        file : is_directory (kind_of node.content) ≡ false → (b : Bool) → goes_through before ud w path ≡ b
            → shown_from 0 (after ∷ lowers) path ≡ shown_from 0 (before ∷ lowers) path
        file not_dir true through = cut_shows_none after lowers path
            (leads_same new_name path e ∙ through_free merge.upper stack.directory ud w free path through)
            (file_cuts not_dir path through) ∙ sym (real_by_none path (shown (layers_under stack merge) path)
            (sym (fine_before.paths path) ∙ ap (λ o. then_some o merge.real) (number_none not_dir path through e)))
        file not_dir false elsewhere = shown_elsewhere_stays merge.upper
            (Make ud w copy (copy_node ud)) stack.directory lowers top_tree top_directory
            (new_name.takes, vacant, new_name.bare) path elsewhere

        by : (b : Bool) → is_directory (kind_of node.content) ≡ b
            → shown_from 0 (after ∷ lowers) path ≡ shown_from 0 (before ∷ lowers) path
        by true is_dir = over_same before after lowers path (leads_same new_name path e)
            (λ k l. white_alike _ (with_copy.tree.node k) (others_alike new_name k (is_old path k l)))
            (cuts_same is_dir path)
        by false not_dir = file not_dir (goes_through before ud w path) refl

    paths_above : (path : List (List ℕ))
        → then_some (number_at_path merge.files path) real_later ≡ real_seen stack above path
    paths_above path = by (names_entry before ud w path) refl
      where
        other : names_entry before ud w path ≡ false → (o : Option ℕ) → number_at_path merge.files path ≡ o
            → then_some o real_later ≡ then_some o merge.real
        other e None l = refl
        other e (Some n) l = ap (λ b. cond b (Some (Upper copy)) (merge.real n)) (ne_eqb n object (λ same.
            true≢false (sym (entry_named_so merge.upper stack.directory ud w way.0 up_way)
            ∙ ap (names_entry before ud w) (one_way (way.0 ++ w ∷ []) path here (l ∙ ap Some same)) ∙ e)))

        by : (b : Bool) → names_entry before ud w path ≡ b
            → then_some (number_at_path merge.files path) real_later ≡ real_seen stack above path
        by true e = ap (λ o. then_some o real_later) (named_led merge.files merge.files.tree.root d w path
            (same_entry in_upper w path ∙ e) ∙ has)
            ∙ ap (λ b. cond b (Some (Upper copy)) (merge.real object)) (eq-eqb object object refl)
            ∙ sym (ap (real_by path) (new_name_is_shown merge.upper stack.directory ud copy w
            (copy_node ud) lowers new_name.takes vacant new_name.bare path e
            ∙ ap (λ b. when (not b) (record { layer = 0; object = copy }))
            (ap (is_kind White) (kind_of-copied_content ud node.content) ∙ not_white)))
        by false e = other e _ refl ∙ fine_before.paths path ∙ sym (ap (real_by path) (shown_same path e))

    new_object : with_copy.tree.node copy ≡ Some (copy_node ud)
    new_object = new_there new_name

    may_copy : MayMake merge.upper.tree ud w copy (copy_node ud)
    may_copy = record {
      name_is_free = record {
        in_directory = in_upper.directory;
        reached = (
          whole.reached.0 ++ way.0,
          led_parts merge.upper.tree whole.reached.0 way.0 merge.upper.tree.root _ whole.reached.1 ∙ up_way,
        );
        free = free;
      };
      number_is_new = vacant;
      fits = copy_fits ud node node.content;
    }

    above_goes : Goes stack.directory merge.upper with_copy
    above_goes = goes_by _ merge.upper (Make ud w copy (copy_node ud)) (top_good stack merge whole) may_copy tt

    above_is_whole : IsWhole stack above
    above_is_whole = whole_again stack merge above whole
        whole.tree whole.numbers (changes_keep_trees merge.upper (Make ud w copy (copy_node ud)) top_tree may_copy)
        (directory_alike _ _ (others_alike new_name _ (is_old [] _ refl))
        ∙ top_directory) (still_reached _ refl) (grown_is_fine
        stack merge fine_before merge.files with_copy object copy vacant (λ n differ. alike_same _ _ refl)
        (others_alike new_name) (subst (SameObject (merge.files.tree.node object)) (sym new_object) (copy_object ud))
        (ap is_some is) (fine_before.whiteout object) (fine_before.mark object) paths_above)
      where
        still_reached : (b : Bool) → names_entry (view_in merge.upper merge.upper.tree.root) ud w whole.reached.0 ≡ b
            → IsReached with_copy.tree stack.directory
        still_reached true e = grind (arith, common_steps, none_is_some, named_led, free)
        still_reached false e = grind (arith, common_steps, make_adds_path, new_name.takes, new_name.bare)

pub copy_keeps_whole : CopyKeepsWhole
copy_keeps_whole stack merge object copy node whole is low vacant parents = by (a_name nat_eq merge.files object) refl
  where
    by : (o : Option (ℕ × List ℕ)) → a_name nat_eq merge.files object ≡ o → IsWhole stack (record merge {
      real = with_real nat_eq merge.real object (Upper copy);
      upper = copy_named nat_eq merge copy o (with_inode nat_eq merge.upper copy
          (record { attr = node.attr; content = copied_content (copy_parent merge copy o) node.content }));
    })
    by None e = beside_is_whole whole object copy node is low vacant e
    by (Some name) e = above_is_whole whole object copy node is low vacant name.0 name.1
        (named_so merge.files whole.tree object name e) (parents name e)

-- the upper layer goes on to be a tree
pub copy_goes : (stack : Stack ℕ) (merge : Merge ℕ) (object copy : ℕ) (node : Node ℕ)
    → IsWhole stack merge → merge.files.tree.node object ≡ Some node → upper_object (merge.real object) ≡ None
    → merge.upper.tree.node copy ≡ None
    → ((name : ℕ × List ℕ) → a_name nat_eq merge.files object ≡ Some name → StandsInUpper merge name.0)
    → Goes stack.directory merge.upper (copy_of_node nat_eq merge object copy node).upper
copy_goes stack merge object copy node whole is low vacant parents = by (a_name nat_eq merge.files object) refl
  where
    by : (o : Option (ℕ × List ℕ)) → a_name nat_eq merge.files object ≡ o
        → Goes stack.directory merge.upper (copy_named nat_eq merge copy o (with_inode nat_eq merge.upper copy
        (record { attr = node.attr; content = copied_content (copy_parent merge copy o) node.content })))
    by None e = beside_goes whole object copy node is low vacant e
    by (Some name) e = above_goes whole object copy node is low vacant name.0 name.1
        (named_so merge.files whole.tree object name e) (parents name e)

-- a copy of a directory cuts no path
pub copy_cuts : (stack : Stack ℕ) (merge : Merge ℕ) (object copy : ℕ) (node : Node ℕ)
    → IsWhole stack merge → merge.files.tree.node object ≡ Some node → upper_object (merge.real object) ≡ None
    → merge.upper.tree.node copy ≡ None
    → ((name : ℕ × List ℕ) → a_name nat_eq merge.files object ≡ Some name → StandsInUpper merge name.0)
    → is_directory (kind_of node.content) ≡ true → (path : List (List ℕ))
    → cuts (view_in (copy_of_node nat_eq merge object copy node).upper stack.directory) path
    ≡ cuts (view_in merge.upper stack.directory) path
copy_cuts stack merge object copy node whole is low vacant parents is_dir path = by _ refl
  where
    by : (o : Option (ℕ × List ℕ)) → a_name nat_eq merge.files object ≡ o
        → cuts (view_in (copy_named nat_eq merge copy o (with_inode nat_eq merge.upper copy (record {
          attr = node.attr;
          content = copied_content (copy_parent merge copy o) node.content;
        }))) stack.directory) path ≡ cuts (view_in merge.upper stack.directory) path
    by None e = prefixes_agree _ _ path (λ front f. ap hides (node_same whole object copy node is low vacant e front))
    by (Some name) e = cuts_same whole object copy node is low vacant name.0 name.1
        (named_so merge.files whole.tree object name e) (parents name e) is_dir path
