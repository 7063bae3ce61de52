-- An object is moved: the tree is still what the layers show.
use Rattle.std.proofs.Common.{arith, ◌≡◌, ◌≢◌, refl, sym, ap, subst, ◌∙◌, true≢false, eqb-true, ne_eqb, ⊎_elim, ℕ, nat_eq, Bool, true, false, not, cond, ◌||◌, List, [], ◌∷◌, ◌++◌, map, Option, Some, None, is_some, option_and_then, suc}
use Rattle.vt_spec.proofs.Common.{Content, Directory, FileTree, Fresh, IsDirectory, Lower, Merge, Move, Node, Real, Regular, SameObject, Shown, Stack, Symlink, Upper, View, Whiteout, changed, common_steps, content_with_mark, cuts, entries_in-no_directory, eqb_tells, has_lower_directory, hides, hides_directory, is_directory, is_directory_node, is_directory_shown, is_kind, is_kind_in, kind_of, led, merge_with_moved, node_led, node_set, node_with_entry, node_with_mark, none_before, none_is_some, number_at_path, path_to, same_content, shown_from, shown_in_lowers_at, then_some, upper_directory_named, upper_object, view_of, when, whiteout_of, with_inode, without_contents, name_left_by, opaque_of, upper_of, with_mark, with_moved, none_from_not_some}
use Rattle.vt_spec.specs.declared.attributes.Kind.TheVariants.{White}
use Rattle.vt_laws_trees.specs.Layers.Layers.Mounted.{IsAlike}
use Rattle.vt_laws_trees.specs.Layers.Layers.Shown.{IsFrontOf}
use Rattle.vt_laws_trees.specs.Layers.Layers.Views.{CanMove, goes_through, names_entry, view_in}
use Rattle.vt_laws_trees.proofs.layers.layers.CopyingParts.{entry_keeps}
use Rattle.vt_laws_trees.proofs.layers.layers.LowersKept.{kept_elsewhere}
use Rattle.vt_laws_trees.proofs.layers.layers.ShownAlike.{white_alike}
use Rattle.vt_laws_trees.proofs.layers.layers.ShownDirectories.{ShowsDirectory, append_assoc, led_is_there, longer_is_not_empty}
use Rattle.vt_laws_trees.proofs.layers.layers.ShownFronts.{prefix_found, prefix_passes}
use Rattle.vt_laws_trees.proofs.layers.layers.UpperLine.{has_entries}
use Rattle.vt_laws_trees.proofs.layers.views.After.{fails, prefixes_fail, itself_fails, on_top}
use Rattle.vt_laws_trees.proofs.layers.views.Lower.{way_goes_elsewhere}
use Rattle.vt_laws_trees.proofs.layers.views.Fronts.{prefixes_agree, hides_so, hiding_alike}
use Rattle.vt_laws_trees.proofs.layers.views.Moves.{moved_leads_on, old_leads_nowhere, through_is_split}
use Rattle.vt_laws_trees.proofs.layers.views.Names.{alike_after, names_leave_inodes, no_entries, alike_same}
use Rattle.vt_laws_trees.specs.Overlays.WhatIsShown.{MoveKeepsShown, inode_behind, layers_under, real_seen}
use Rattle.vt_laws_trees.proofs.overlays.steps.WholeAttributes.{top_open}
use Rattle.vt_laws_trees.proofs.overlays.steps.WholeGrown.{alike_objects}
use Rattle.vt_laws_trees.proofs.overlays.steps.WholeLeft.{emptied_alike, lowers_have, one_named}
use Rattle.vt_laws_trees.proofs.overlays.steps.WholeLinked.{file_hides}
use Rattle.vt_laws_trees.proofs.overlays.steps.WholeMade.{below_name}
use Rattle.vt_laws_trees.proofs.overlays.steps.WholeMovedTree.{IsMoveAbove, from_above, from_number, from_way, inode_alike, led_behind, led_emptied, moved_elsewhere, moved_through, number_behind, real_o, to_above, way_not_new, way_not_old}
use Rattle.vt_laws_trees.proofs.overlays.steps.WholeNames.{cut_shows_none, directory_stands, is_fine, over_same, same_holds, same_is, same_place, same_through}
use Rattle.vt_laws_trees.proofs.overlays.steps.WholeParts.{IsFine, real_by, what_is_shown}
use Rattle.vt_laws_trees.proofs.overlays.steps.WholePlaces.{directory_below_top, path_to_is, shown_longer}
use Rattle.vt_laws_trees.proofs.overlays.steps.WholeRemoved.{white_hides}
use Rattle.vt_laws_trees.proofs.layers.layers.ShownPaths.{not_empty}

-- An inode as another, which may hide more
record HidesMore (one other : Option (Node ℕ)) : Type 0 where
  there : is_some other ≡ is_some one
  white : is_kind_in White other ≡ is_kind_in White one
  more : hides one ≡ true → hides other ≡ true
  object : (a : Option (Node ℕ)) → SameObject a one → SameObject a other

alike_more : (one other : Option (Node ℕ)) → IsAlike one other → HidesMore one other
alike_more one other is = record {
  there = is.there;
  white = white_alike one other is;
  more = λ h. hiding_alike one other (hides_so one other is) ∙ h;
  object = λ a same. alike_objects a one a other same (alike_same a a refl) is;
}

more_both : {one middle other : Option (Node ℕ)} → HidesMore one middle → HidesMore middle other → HidesMore one other
more_both a b = record {
  there = b.there ∙ a.there;
  white = b.white ∙ a.white;
  more = λ h. b.more (a.more h);
  object = λ x same. b.object x (a.object x same);
}

pub mark_hides : (o : Option (Node ℕ)) → is_some o ≡ true → hides (node_with_mark true o) ≡ true
mark_hides None e = absurd (true≢false (sym e))
mark_hides (Some node) e = by node.content
  where
    by : (x : Content ℕ) → (not (is_directory (kind_of (content_with_mark true x)))
        || opaque_of (content_with_mark true x)) ≡ true
    by (Directory p n m) = refl
    by (Regular b) = refl
    by (Symlink b) = refl
    by Whiteout = refl

mark_more : (o : Option (Node ℕ)) → HidesMore o (node_with_mark true o)
mark_more None = alike_more None None (alike_same None None refl)
mark_more (Some node) = record {
  there = refl;
  white = white node.content;
  more = λ h. mark_hides (Some node) refl;
  object = object;
}
  where
    white : (x : Content ℕ) → is_kind White (kind_of (content_with_mark true x)) ≡ is_kind White (kind_of x)
    white (Directory p n m) = refl
    white (Regular b) = refl
    white (Symlink b) = refl
    white Whiteout = refl

    content : (a x : Content ℕ) → same_content a x ≡ true → same_content a (content_with_mark true x) ≡ true
    content a x e = grind (arith, common_steps)

    object : (a : Option (Node ℕ)) → SameObject a (Some node) → SameObject a (node_with_mark true (Some node))
    object None same = same
    object (Some a) same = (same.0, content a.content node.content same.1)

-- Where the first layer leads nowhere, and what lies below is cut off or shows nothing, nothing is shown.
nothing_shown : (top : View ℕ) (lowers : List (View ℕ)) (path : List (List ℕ)) → top.leads path ≡ None
    → (cuts top path ≡ false → (s : Shown ℕ) → shown_from 1 lowers path ≡ Some s → ⊥)
    → shown_from 0 (top ∷ lowers) path ≡ None
nothing_shown top lowers path leads unseen =
    grind (arith, common_steps, cuts, shown_from, cut_shows_none, leads, unseen)

-- `alone`: a directory that moves has nothing below it in the lower layers
module _ {fresh : Fresh ℕ} {stack : Stack ℕ} {merge : Merge ℕ} {f : ℕ} {old : List ℕ} {t : ℕ} {new : List ℕ}
    {o : ℕ} (it : IsMoveAbove fresh stack merge f old t new o) (alone : IsDirectory merge.files.tree o
    → has_lower_directory (record { tree = merge.upper.tree; directory = stack.directory } ∷ []) stack.lowers
    (path_to nat_eq merge f old) ≡ false) where
  abbrev uf : ℕ
  uf = upper_of merge f

  abbrev ut : ℕ
  ut = upper_of merge t

  abbrev uo : ℕ
  uo = upper_of merge o

  -- the number of a whiteout
  abbrev c : ℕ
  c = fresh 0

  -- whether a whiteout takes the old name
  abbrev left : Bool
  left = is_some (shown_in_lowers_at nat_eq stack merge f old)

  -- whether the object is marked to hide what lies below its new name
  abbrev marks : Bool
  marks = hides_directory nat_eq stack merge t new

  abbrev before : View ℕ
  before = view_in merge.upper stack.directory

  abbrev lowers : List (View ℕ)
  lowers = map view_of stack.lowers

  -- The upper layer as it changes: a replaced directory is emptied, the object is moved, the old name is left, and the
  -- object is marked.
  abbrev moved_base : FileTree ℕ
  moved_base =
      with_moved nat_eq (without_contents nat_eq merge.upper (upper_directory_named merge t new)) uf old ut new uo

  abbrev left_tree : FileTree ℕ
  left_tree = name_left_by nat_eq left fresh stack moved_base uf old

  abbrev upper : FileTree ℕ
  upper = with_mark nat_eq marks left_tree uo

  abbrev after : View ℕ
  after = view_in upper stack.directory

  abbrev files : FileTree ℕ
  files = changed nat_eq merge.files (Move f old t new o)

  abbrev later : Merge ℕ
  later = record merge { files = files; upper = upper }

  fine_before : IsFine stack merge
  fine_before = is_fine stack merge it.whole

  f_directory : IsDirectory merge.files.tree f
  f_directory = has_entries merge.files.tree f old o it.may.named

  -- Where names lead

  led_new : (to rest : List (List ℕ)) → led merge.upper.tree stack.directory to ≡ Some ut
      → led upper.tree stack.directory (to ++ new ∷ rest) ≡ led merge.upper.tree uo rest
  led_new to rest e = led_emptied it left marks (to ++ new ∷ rest) ∙ moved_through it left marks to rest e

  led_else : (path : List (List ℕ)) → goes_through before ut new path ≡ false → led upper.tree stack.directory path
      ≡ cond (names_entry before uf old path) (when left c)
      (cond (goes_through before uf old path) None (led merge.upper.tree stack.directory path))
  led_else path none = led_emptied it left marks path ∙ moved_elsewhere it left marks path stack.directory none

  named_not : (d : ℕ) (name : List ℕ) (path : List (List ℕ)) → goes_through before d name path ≡ false
      → names_entry before d name path ≡ false
  named_not d name path none = itself_fails (names_entry before d name) path refl none

  led_same : (path : List (List ℕ)) → goes_through before ut new path ≡ false → goes_through before uf old path ≡ false
      → led upper.tree stack.directory path ≡ led merge.upper.tree stack.directory path
  led_same path no_new no_old = cc (led_else path no_new, named_not uf old path no_old, no_old)

  -- Inodes

  left_alike : (u : ℕ) → u ≢ c → IsAlike (merge.upper.tree.node u) (left_tree.tree.node u)
  left_alike = inode_alike it (without_contents nat_eq merge.upper (upper_directory_named merge t new))
      (emptied_alike merge.upper (upper_directory_named merge t new)) left marks

  marked_other : (m : Bool) (u : ℕ) → nat_eq u uo ≡ false
      → (with_mark nat_eq m left_tree uo).tree.node u ≡ left_tree.tree.node u
  marked_other true u differ = kept_elsewhere left_tree uo (node_with_mark true) u differ
  marked_other false u differ = refl

  marked_own : (m : Bool) → (with_mark nat_eq m left_tree uo).tree.node uo
      ≡ cond m (node_with_mark true (left_tree.tree.node uo)) (left_tree.tree.node uo)
  marked_own true = node_set left_tree.tree uo (node_with_mark true (left_tree.tree.node uo))
  marked_own false = refl

  marked_more : (m : Bool) (u : ℕ) → HidesMore (left_tree.tree.node u) ((with_mark nat_eq m left_tree uo).tree.node u)
  marked_more false u = alike_more _ _ (alike_same _ _ refl)
  marked_more true u = ⊎_elim
      (λ t. subst (λ k. HidesMore (left_tree.tree.node k) ((with_mark nat_eq true left_tree uo).tree.node k)) (sym t.1)
      (subst (HidesMore (left_tree.tree.node uo)) (sym (marked_own true)) (mark_more (left_tree.tree.node uo))))
      (λ t. alike_more _ _ (alike_same _ _ (marked_other true u t.0))) (eqb_tells u uo)

  more : (u : ℕ) → u ≢ c → HidesMore (merge.upper.tree.node u) (upper.tree.node u)
  more u differ = more_both (alike_more _ _ (left_alike u differ)) (marked_more marks u)

  not_c : (u : ℕ) → is_some (merge.upper.tree.node u) ≡ true → u ≢ c
  not_c u there same = true≢false (sym there ∙ ap (λ n. is_some (merge.upper.tree.node n)) same ∙ ap is_some it.vacant)

  is_there : (path : List (List ℕ)) (k : ℕ) → led merge.upper.tree stack.directory path ≡ Some k
      → is_some (merge.upper.tree.node k) ≡ true
  is_there path k l =
      let top = top_open stack merge it.whole in
      led_is_there (record { tree = merge.upper.tree; directory = stack.directory }) top.0 top.1 path k l

  uo_there : is_some (merge.upper.tree.node uo) ≡ true
  uo_there = fine_before.upper o uo (real_o it)

  -- Fronts that go through neither name hide what they hid.

  hides_more : (front : List (List ℕ)) → goes_through before ut new front ≡ false
      → goes_through before uf old front ≡ false
      → hides (node_led before front) ≡ true → hides (node_led after front) ≡ true
  hides_more front no_new no_old h = ap (λ x. hides (then_some x upper.tree.node)) (led_same front no_new no_old)
      ∙ by (led merge.upper.tree stack.directory front) refl h
    where
      by : (x : Option ℕ) → led merge.upper.tree stack.directory front ≡ x
          → hides (then_some x merge.upper.tree.node) ≡ true → hides (then_some x upper.tree.node) ≡ true
      by None l h = h
      by (Some k) l h = (more k (not_c k (is_there front k l))).more h

  hides_same : (front : List (List ℕ)) → goes_through before ut new front ≡ false
      → goes_through before uf old front ≡ false → hides (node_led after front) ≡ hides (node_led before front)
  hides_same front no_new no_old = ap (λ x. hides (then_some x upper.tree.node)) (led_same front no_new no_old)
      ∙ by (led merge.upper.tree stack.directory front) refl
    where
      -- the moved object: no directory, as the front does not go through its name
      own : (k : ℕ) → led merge.upper.tree stack.directory front ≡ Some k → k ≡ uo
          → (b : Bool) → is_directory_node (merge.files.tree.node o) ≡ b
          → hides (upper.tree.node k) ≡ hides (merge.upper.tree.node k)
      own k l e true d =
          absurd (true≢false (sym (one_named it.whole f uf old uo it.may.named (from_above it).real (real_o it) d front
          (l ∙ ap Some e)) ∙ named_not uf old front no_old))
      own k l e false d =
          let hid : hides (merge.upper.tree.node k) ≡ true =
          ap (λ n. hides (merge.upper.tree.node n)) e ∙ file_hides (merge.upper.tree.node uo) uo_there
          (directory_stands stack merge it.whole o uo (real_o it) ∙ d) in
          (more k (not_c k (is_there front k l))).more hid ∙ sym hid

      at : (k : ℕ) → led merge.upper.tree stack.directory front ≡ Some k → (b : Bool) → nat_eq k uo ≡ b
          → hides (upper.tree.node k) ≡ hides (merge.upper.tree.node k)
      at k l false e = ap hides (marked_other marks k e) ∙ hiding_alike _ _
          (hides_so _ _ (left_alike k (not_c k (is_there front k l))))
      at k l true e = own k l (eqb-true k uo e) (is_directory_node (merge.files.tree.node o)) refl

      by : (x : Option ℕ) → led merge.upper.tree stack.directory front ≡ x
          → hides (then_some x upper.tree.node) ≡ hides (then_some x merge.upper.tree.node)
      by None l = refl
      by (Some k) l = at k l (nat_eq k uo) refl

  -- Paths through neither name

  shown_old : (path : List (List ℕ)) → goes_through before ut new path ≡ false → goes_through before uf old path ≡ false
      → shown_from 0 (after ∷ lowers) path ≡ shown_from 0 (before ∷ lowers) path
  shown_old path no_new no_old = over_same before after lowers path (led_same path no_new no_old)
      (λ k l. (more k (not_c k (is_there path k l))).white)
      (prefixes_agree (λ front. hides (node_led before front)) (λ front. hides (node_led after front)) path
      (λ front is. hides_same front (prefixes_fail (names_entry before ut new) path front is no_new)
      (prefixes_fail (names_entry before uf old) path front is no_old)))

  -- a way that goes through neither name, and is not cut below
  uncut_way : (to tail path : List (List ℕ)) → to ++ tail ≡ path → goes_through before ut new to ≡ false
      → goes_through before uf old to ≡ false → cuts after path ≡ false → cuts before to ≡ false
  uncut_way to tail path is no_new no_old uncut =
      fails (cuts before to) (λ cut. found (prefix_found (λ front. hides (node_led before front)) to cut))
    where
      found : (front : List (List ℕ)) × IsFrontOf front to × (hides (node_led before front) ≡ true) → ⊥
      found g = true≢false (sym (prefix_passes (λ front. hides (node_led after front)) path g.0 (g.1.0 ++ tail)
          (sym (append_assoc g.0 g.1.0 tail) ∙ ap (λ p. p ++ tail) g.1.1 ∙ is) g.1.2
          (hides_more g.0 (prefixes_fail (names_entry before ut new) to g.0 g.1 no_new)
          (prefixes_fail (names_entry before uf old) to g.0 g.1 no_old) g.2)) ∙ uncut)

  -- what the lower layers show behind a name stands there in a directory of theirs
  shown_below : (to : List (List ℕ)) (name word : List ℕ) (rest : List (List ℕ)) (s : Shown ℕ)
      → shown_from 1 lowers (to ++ name ∷ word ∷ rest) ≡ Some s → ShowsDirectory 1 stack.lowers (to ++ name ∷ [])
  shown_below to name word rest s e =
      shown_longer stack.lowers (λ k layer g. it.whole.layers (suc k) layer g) 1 rest (to ++ name ∷ []) word s
      (ap (shown_from 1 lowers) (append_assoc to (name ∷ []) (word ∷ rest)) ∙ e)

  -- Paths through the old name alone

  old_number : (to : List (List ℕ)) → led merge.upper.tree stack.directory to ≡ Some uf
      → number_at_path merge.files to ≡ Some f
  old_number to l = same_is _ f (same_place (from_above it) to ∙ same_holds _ uf l)

  from_elsewhere : (to : List (List ℕ)) → number_at_path merge.files to ≡ Some f → goes_through before uf old to ≡ false
  from_elsewhere to e = sym (same_through (from_above it) old to)
      ∙ way_goes_elsewhere merge.files merge.files.tree.root f old it.whole.tree o it.may.named to e

  way_front : (to rest path : List (List ℕ)) → to ++ old ∷ rest ≡ path → goes_through before ut new path ≡ false
      → goes_through before ut new to ≡ false
  way_front [] rest path is none = refl
  way_front (word ∷ to) rest path is none =
      prefixes_fail (names_entry before ut new) path (word ∷ to) (old ∷ rest, is, not_empty word to) none

  -- the old name has a whiteout
  white_left : left ≡ true → is_kind_in White (upper.tree.node c) ≡ true
  white_left l = ap (is_kind_in White) (marked_other marks c (ne_eqb c uo (λ same. not_c uo uo_there (sym same))))
      ∙ ap (λ b. is_kind_in White ((name_left_by nat_eq b fresh stack moved_base uf old).tree.node c)) l
      ∙ white_alike (apart.tree.node c) _ (alike_after apart uf (node_with_entry old c) (entry_keeps old c) c)
      ∙ ap (is_kind_in White) (node_set moved_base.tree c (Some (whiteout_of stack.mounter)))
    where
      apart : FileTree ℕ
      apart = with_inode nat_eq moved_base c (whiteout_of stack.mounter)

  none_old : (path : List (List ℕ)) → goes_through before ut new path ≡ false → goes_through before uf old path ≡ true
      → shown_from 0 (after ∷ lowers) path ≡ None
  none_old path no_new through = by left refl
    where
      parts : (to rest : List (List ℕ)) × (to ++ old ∷ rest ≡ path)
          × (led merge.upper.tree stack.directory to ≡ Some uf)
      parts = through_is_split merge.upper stack.directory uf old path through

      leads_here : (front : List (List ℕ)) → goes_through before ut new front ≡ false
          → names_entry before uf old front ≡ true → led upper.tree stack.directory front ≡ when left c
      leads_here front none e = cc (led_else front none, e)

      leads_none : names_entry before uf old path ≡ false → led upper.tree stack.directory path ≡ None
      leads_none other = cc (led_else path no_new, other, through)

      -- with no whiteout: no lower layer shows anything at the old name
      unseen : left ≡ false → cuts after path ≡ false → (to rest : List (List ℕ)) → to ++ old ∷ rest ≡ path
          → led merge.upper.tree stack.directory to ≡ Some uf → shown_from 1 lowers (to ++ old ∷ []) ≡ None
      unseen none uncut to rest is l =
          let there = old_number to l in
          sym (below_name stack merge it.whole f old to there f_directory
          (uncut_way to (old ∷ rest) path is (way_front to rest path is no_new) (from_elsewhere to there) uncut))
          ∙ none_from_not_some (shown_in_lowers_at nat_eq stack merge f old) none

      unseen_path : left ≡ false → cuts after path ≡ false → (s : Shown ℕ) → shown_from 1 lowers path ≡ Some s
          → (to rest : List (List ℕ)) → to ++ old ∷ rest ≡ path → led merge.upper.tree stack.directory to ≡ Some uf → ⊥
      unseen_path none uncut s e to [] is l = none_is_some s (cc (unseen none uncut to [] is l, is, e))
      unseen_path none uncut s e to (next ∷ rest) is l = none_is_some _ (sym (unseen none uncut to (next ∷ rest) is l)
          ∙ (shown_below to old next rest s (ap (shown_from 1 lowers) is ∙ e)).is)

      plain : left ≡ false → shown_from 0 (after ∷ lowers) path ≡ None
      plain l = nothing_shown after lowers path (leads (names_entry before uf old path) refl)
          (λ uncut s e. unseen_path l uncut s e parts.0 parts.1 parts.2 parts.3)
        where
          leads : (b : Bool) → names_entry before uf old path ≡ b → led upper.tree stack.directory path ≡ None
          leads true e = leads_here path no_new e ∙ ap (λ b. when b c) l
          leads false e = leads_none e

      -- with a whiteout: it is what the name leads to, and it cuts what is behind the name
      white : left ≡ true → (b : Bool) → names_entry before uf old path ≡ b → shown_from 0 (after ∷ lowers) path ≡ None
      white l true e = on_top after lowers path c true (leads_here path no_new e ∙ ap (λ b. when b c) l) (white_left l)
      white l false e =
          let found = prefix_found (names_entry before uf old) path through in
          let leads = leads_here found.0 (prefixes_fail (names_entry before ut new) path found.0 found.1 no_new) found.2
          ∙ ap (λ b. when b c) l in
          cut_shows_none after lowers path (leads_none e) (prefix_passes (λ front. hides (node_led after front))
          path found.0 found.1.0 found.1.1 found.1.2 (cc (leads, white_hides (upper.tree.node c) (white_left l))))

      by : (b : Bool) → left ≡ b → shown_from 0 (after ∷ lowers) path ≡ None
      by true l = white l (names_entry before uf old path) refl
      by false l = plain l

  -- Paths through the new name

  new_number : (to : List (List ℕ)) → led merge.upper.tree stack.directory to ≡ Some ut
      → number_at_path merge.files to ≡ Some t
  new_number to l = same_is _ t (same_place (to_above it) to ∙ same_holds _ ut l)

  -- what lies under a directory that moves stands in the upper layer
  nothing_below : IsDirectory merge.files.tree o → (word : List ℕ) (rest : List (List ℕ))
      → led merge.upper.tree uo (word ∷ rest) ≡ None
      → shown_from 0 (before ∷ lowers) (from_way it ++ old ∷ word ∷ rest) ≡ None
  nothing_below is_dir word rest none =
      nothing_shown before lowers (from_way it ++ old ∷ word ∷ rest) (led_behind it (word ∷ rest) ∙ none) unseen
    where
      uncut_here : cuts before (from_way it ++ old ∷ word ∷ rest) ≡ false
          → cuts before (from_way it ++ old ∷ []) ≡ false
      uncut_here uncut =
          prefixes_fail (λ front. hides (node_led before front)) (from_way it ++ old ∷ word ∷ rest)
          (from_way it ++ old ∷ [])
          (word ∷ rest, append_assoc (from_way it) (old ∷ []) (word ∷ rest), longer_is_not_empty (from_way it) old)
          uncut

      unseen : cuts before (from_way it ++ old ∷ word ∷ rest) ≡ false → (s : Shown ℕ)
          → shown_from 1 lowers (from_way it ++ old ∷ word ∷ rest) ≡ Some s → ⊥
      unseen uncut s e =
          let shows = shown_below (from_way it) old word rest s e in
          let has = lowers_have stack.lowers 1 shows.place shows.object shows.layer
          (from_way it ++ old ∷ []) shows.there shows.is shows.at shows.directory in
          let number = from_number it in
          grind (arith, common_steps, true≢false, uncut_here, path_to_is, number, f_directory)

  -- nothing of it shows from below at its new place
  none_new : (to : List (List ℕ)) (word : List ℕ) (rest : List (List ℕ))
      → led merge.upper.tree stack.directory to ≡ Some ut → led merge.upper.tree uo (word ∷ rest) ≡ None
      → shown_from 0 (after ∷ lowers) (to ++ new ∷ word ∷ rest) ≡ None
  none_new to word rest l none =
      nothing_shown after lowers (to ++ new ∷ word ∷ rest) (led_new to (word ∷ rest) l ∙ none) unseen
    where
      mark_cuts : marks ≡ true → cuts after (to ++ new ∷ word ∷ rest) ≡ true
      mark_cuts m =
          prefix_passes (λ front. hides (node_led after front)) (to ++ new ∷ word ∷ rest) (to ++ new ∷ []) (word ∷ rest)
          (append_assoc to (new ∷ []) (word ∷ rest)) (longer_is_not_empty to new)
          (ap (λ x. hides (then_some x upper.tree.node)) (led_new to [] l) ∙ ap hides (marked_own marks ∙ ap
          (λ b. cond b (node_with_mark true (left_tree.tree.node uo)) (left_tree.tree.node uo)) m)
          ∙ mark_hides (left_tree.tree.node uo) ((left_alike uo (not_c uo uo_there)).there ∙ uo_there))

      unseen : cuts after (to ++ new ∷ word ∷ rest) ≡ false → (s : Shown ℕ)
          → shown_from 1 lowers (to ++ new ∷ word ∷ rest) ≡ Some s → ⊥
      unseen uncut s e =
          let shows = shown_below to new word rest s e in
          let uncut_to = uncut_way to (new ∷ word ∷ rest) (to ++ new ∷ word ∷ rest) refl
          (way_not_new it left marks to l) (way_not_old it left marks to l) uncut in
          let marked : marks ≡ true =
          ap (is_directory_shown (layers_under stack merge))
          (below_name stack merge it.whole t new to (new_number to l) it.may.in_directory uncut_to)
          ∙ directory_below_top (record { tree = merge.upper.tree; directory = stack.directory }) stack.lowers
          (to ++ new ∷ []) shows in
          true≢false (sym (mark_cuts marked) ∙ uncut)

  -- what is shown behind the new name is what was shown behind the old one
  seen_along : (to rest : List (List ℕ)) → led merge.upper.tree stack.directory to ≡ Some ut
      → real_seen stack merge (from_way it ++ old ∷ rest) ≡ real_seen stack later (to ++ new ∷ rest)
  seen_along to rest l = by (led merge.upper.tree uo rest) refl
    where
      some : (u : ℕ) → led merge.upper.tree uo rest ≡ Some u → (w : Bool)
          → is_kind_in White (merge.upper.tree.node u) ≡ w
          → real_seen stack merge (from_way it ++ old ∷ rest) ≡ real_seen stack later (to ++ new ∷ rest)
      some u e w k =
          let behind = led_behind it rest ∙ e in
          let white = (more u (not_c u (is_there (from_way it ++ old ∷ rest) u behind))).white ∙ k in
          ap (real_by (from_way it ++ old ∷ rest)) (on_top before lowers (from_way it ++ old ∷ rest) u w behind k)
          ∙ one w ∙ sym (ap (real_by (to ++ new ∷ rest))
          (on_top after lowers (to ++ new ∷ rest) u w (led_new to rest l ∙ e) white))
        where
          one : (w : Bool) → real_by (from_way it ++ old ∷ rest) (when (not w) (record { layer = 0; object = u }))
              ≡ real_by (to ++ new ∷ rest) (when (not w) (record { layer = 0; object = u }))
          one true = refl
          one false = refl

      none : (rest : List (List ℕ)) → led merge.upper.tree uo rest ≡ None
          → real_seen stack merge (from_way it ++ old ∷ rest) ≡ real_seen stack later (to ++ new ∷ rest)
      none [] e = none_is_some uo (sym e)
      none (word ∷ rest) e = nothing (is_directory_node (merge.files.tree.node o)) refl
          ∙ sym (ap (real_by (to ++ new ∷ word ∷ rest)) (none_new to word rest l e))
        where
          nothing : (b : Bool) → is_directory_node (merge.files.tree.node o) ≡ b
              → real_seen stack merge (from_way it ++ old ∷ word ∷ rest) ≡ None
          nothing true d = ap (real_by (from_way it ++ old ∷ word ∷ rest)) (nothing_below d word rest e)
          nothing false d = sym (fine_before.paths (from_way it ++ old ∷ word ∷ rest))
              ∙ ap (λ x. then_some x merge.real)
              (number_behind it (word ∷ rest) ∙ ap (option_and_then (λ n. led merge.files.tree n rest))
              (no_entries merge.files.tree o (entries_in-no_directory (merge.files.tree.node o) d) word))

      by : (x : Option ℕ) → led merge.upper.tree uo rest ≡ x
          → real_seen stack merge (from_way it ++ old ∷ rest) ≡ real_seen stack later (to ++ new ∷ rest)
      by None e = none rest e
      by (Some u) e = some u e (is_kind_in White (merge.upper.tree.node u)) refl

  -- All paths

  can : CanMove merge.files.tree f old t new o
  can =
      record {
        named = it.may.named;
        in_directory = it.may.in_directory;
        not_under = it.may.not_under;
        replaced_empty = it.may.replaced_empty;
      }

  number_is : (path : List (List ℕ)) → number_at_path files path ≡ led files.tree merge.files.tree.root path
  number_is path = grind (arith, common_steps)

  number_else : (path : List (List ℕ)) → goes_through before ut new path ≡ false
      → (b : Bool) → goes_through before uf old path ≡ b
      → number_at_path files path ≡ cond b None (number_at_path merge.files path)
  number_else path no_new b e =
      number_is path ∙ old_leads_nowhere merge.files merge.files.tree.root f t o old new can path
      (same_through (to_above it) new path ∙ no_new) ∙ ap (λ x. cond x None (number_at_path merge.files path))
      (same_through (from_above it) old path ∙ e)

  paths_later : (path : List (List ℕ)) → then_some (number_at_path files path) merge.real ≡ real_seen stack later path
  paths_later path = by (goes_through before ut new path) refl
    where
      through : (to rest : List (List ℕ)) → to ++ new ∷ rest ≡ path → led merge.upper.tree stack.directory to ≡ Some ut
          → then_some (number_at_path files path) merge.real ≡ real_seen stack later path
      through to rest is l = subst (λ p. then_some (number_at_path files p) merge.real ≡ real_seen stack later p) is
          (ap (λ x. then_some x merge.real) (number_is (to ++ new ∷ rest)
          ∙ moved_leads_on merge.files merge.files.tree.root f t o old new it.whole.tree can to rest (new_number to l)
          ∙ sym (number_behind it rest)) ∙ fine_before.paths (from_way it ++ old ∷ rest) ∙ seen_along to rest l)

      else_by : goes_through before ut new path ≡ false → (b : Bool) → goes_through before uf old path ≡ b
          → then_some (number_at_path files path) merge.real ≡ real_seen stack later path
      else_by no_new true e = ap (λ x. then_some x merge.real) (number_else path no_new true e)
          ∙ sym (ap (real_by path) (none_old path no_new e))
      else_by no_new false e = cc (number_else path no_new false e, fine_before.paths path, shown_old path no_new e)

      by : (b : Bool) → goes_through before ut new path ≡ b
          → then_some (number_at_path files path) merge.real ≡ real_seen stack later path
      by true g = let parts = through_is_split merge.upper stack.directory ut new path g in
          through parts.0 parts.1 parts.2 parts.3
      by false g = else_by g (goes_through before uf old path) refl

  -- behind the new name nothing shows from below
  new_above : (to rest : List (List ℕ)) → led merge.upper.tree stack.directory to ≡ Some ut
      → (layer : ℕ) (place : List (List ℕ)) → real_seen stack later (to ++ new ∷ rest) ≡ Some (Lower layer place) → ⊥
  new_above to rest l layer place e = by (led merge.upper.tree uo rest) refl
    where
      white : (u : ℕ) (w : Bool) → real_by (to ++ new ∷ rest) (when (not w) (record { layer = 0; object = u }))
          ≡ Some (Lower layer place) → ⊥
      white u true q = none_is_some (Lower layer place) q
      white u false q = none_is_some u (sym (ap upper_object q))

      none : (tail : List (List ℕ)) → led merge.upper.tree uo tail ≡ None
          → real_seen stack later (to ++ new ∷ tail) ≡ Some (Lower layer place) → ⊥
      none [] f q = none_is_some uo (sym f)
      none (word ∷ tail) f q = none_is_some (Lower layer place)
          (sym (ap (real_by (to ++ new ∷ word ∷ tail)) (none_new to word tail l f)) ∙ q)

      by : (x : Option ℕ) → led merge.upper.tree uo rest ≡ x → ⊥
      by None f = none rest f e
      by (Some u) f = white u (is_kind_in White (upper.tree.node u)) (sym (ap (real_by (to ++ new ∷ rest))
          (on_top after lowers (to ++ new ∷ rest) u (is_kind_in White (upper.tree.node u))
          (led_new to rest l ∙ f) refl)) ∙ e)

  -- what lies below has the path that it had
  pub below_stays : (path : List (List ℕ)) (n layer : ℕ) (place : List (List ℕ)) → number_at_path files path ≡ Some n
      → merge.real n ≡ Some (Lower layer place) → number_at_path merge.files path ≡ Some n
  below_stays path n layer place e r = by (goes_through before ut new path) refl
    where
      else_by : goes_through before ut new path ≡ false → (b : Bool) → goes_through before uf old path ≡ b
          → number_at_path merge.files path ≡ Some n
      else_by no_new true g = none_is_some n (sym (number_else path no_new true g) ∙ e)
      else_by no_new false g = sym (number_else path no_new false g) ∙ e

      by : (b : Bool) → goes_through before ut new path ≡ b → number_at_path merge.files path ≡ Some n
      by true g =
          let parts = through_is_split merge.upper stack.directory ut new path g in
          absurd (new_above parts.0 parts.1 parts.3 layer place (cc (parts.2, paths_later path, e, r)))
      by false g = else_by g (goes_through before uf old path) refl

  -- Objects

  others : (n : ℕ) → IsAlike (merge.files.tree.node n) (files.tree.node n)
  others n = names_leave_inodes merge.files (Move f old t new o) merge.files.tree.root n refl

  own : (n u : ℕ) → merge.real n ≡ Some (Upper u) → HidesMore (merge.upper.tree.node u) (upper.tree.node u)
  own n u r = more u (not_c u (fine_before.upper n u r))

  -- an object behind which the same inode stands
  behind_same : (n : ℕ) (inode : Option (Node ℕ)) → SameObject (merge.files.tree.node n) inode
      → SameObject (files.tree.node n) inode
  behind_same n inode same = alike_objects _ inode _ inode same (others n) (alike_same inode inode refl)

  objects_later : (n : ℕ) (r : Option (Real ℕ)) → merge.real n ≡ r
      → SameObject (merge.files.tree.node n) (then_some r (inode_behind stack merge))
      → SameObject (files.tree.node n) (then_some r (inode_behind stack later))
  objects_later n None r same = behind_same n None same
  objects_later n (Some (Upper u)) r same = (own n u r).object (files.tree.node n) (behind_same n _ same)
  objects_later n (Some (Lower layer way)) r same = behind_same n (inode_behind stack merge (Lower layer way)) same

  later_is_fine : IsFine stack later
  later_is_fine = record {
    paths = paths_later;
    objects = λ n. objects_later n (merge.real n) refl (fine_before.objects n);
    there = λ n none. fine_before.there n
        (none_before (merge.files.tree.node n) (files.tree.node n) (others n).there none);
    whiteout = λ n. white_alike (merge.files.tree.node n) (files.tree.node n) (others n) ∙ fine_before.whiteout n;
    mark = λ n. (others n).mark ∙ fine_before.mark n;
    upper = λ n u r. (own n u r).there ∙ fine_before.upper n u r;
    one = fine_before.one;
  }

pub move_keeps_shown : MoveKeepsShown
move_keeps_shown fresh stack merge f old t new o whole from to object vacant may alone =
    let it : IsMoveAbove fresh stack merge f old t new o =
    record { whole = whole; from = from; to = to; object = object; may = may; vacant = vacant } in
    what_is_shown stack (merge_with_moved nat_eq fresh stack merge f old t new o) (later_is_fine it alone)
