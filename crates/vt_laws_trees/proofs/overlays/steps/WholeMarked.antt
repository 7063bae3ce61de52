-- A mark is set in the upper layer where lower layers have no directory: the tree is still what the layers show.
use Rattle.std.proofs.Common.{arith, ◌≡◌, refl, sym, ap, subst, ◌∙◌, true≢false, eqb-true, eq-eqb, ℕ, suc, nat_eq, Bool, true, false, cond, List, [], ◌∷◌, ◌++◌, map, Option, Some, None, is_some, append-nil}
use Rattle.vt_spec.proofs.Common.{Lower, Merge, Node, Real, SameObject, SetMark, Shown, Stack, Upper, View, common_steps, cuts, is_directory_node, is_kind_in, node_with_mark, none_is_some, number_at_path, part-changed_node, same_option, shown_from, shown_over, then_some, upper_of, view_of}
use Rattle.vt_laws_trees.proofs.layers.layers.CopyingNames.{directory_marked}
use Rattle.vt_spec.specs.declared.attributes.Kind.TheVariants.{White}
use Rattle.vt_spec.specs.Machine.Layers.{lowers_have_directory}
use Rattle.vt_laws_trees.proofs.trees.ChangesKeepTrees.{changes_keep_trees}
use Rattle.vt_laws_trees.specs.Layers.Layers.ChangesUpper.{StandsInUpper}
use Rattle.vt_laws_trees.specs.Layers.Layers.ShownAfter.{leads_over}
use Rattle.vt_laws_trees.specs.Layers.Layers.Views.{view_in}
use Rattle.vt_laws_trees.proofs.layers.layers.ShownFronts.{prefix_found}
use Rattle.vt_laws_trees.proofs.layers.views.After.{on_top, shown_elsewhere_stays}
use Rattle.vt_laws_trees.proofs.layers.views.Stay.{mark_changes_one_inode}
use Rattle.vt_laws_trees.specs.Overlays.WhatIsShown.{IsWhole, MarkKeepsWhole, MarkOfTheTreeIsNotShown, inode_behind, marked_above}
use Rattle.vt_laws_trees.proofs.overlays.steps.WholeAttributes.{top_open, upper_real}
use Rattle.vt_laws_trees.proofs.overlays.steps.WholeLeft.{lowers_have}
use Rattle.vt_laws_trees.proofs.overlays.steps.WholeLinked.{no_white_object}
use Rattle.vt_laws_trees.proofs.overlays.steps.WholeNames.{above_named, is_fine, object_above, same_is, whole_again}
use Rattle.vt_laws_trees.proofs.overlays.steps.WholeParts.{IsFine}
use Rattle.vt_laws_trees.proofs.overlays.steps.WholePlaces.{shown_longer}

-- what a mark keeps of an inode
mark_there : (opaque : Bool) (o : Option (Node ℕ)) → is_some (node_with_mark opaque o) ≡ is_some o
mark_there opaque None = refl
mark_there opaque (Some node) = refl

mark_white : (opaque : Bool) (o : Option (Node ℕ)) → is_kind_in White (node_with_mark opaque o) ≡ is_kind_in White o
mark_white opaque o = grind (arith, common_steps)

mark_directory : (opaque : Bool) (o : Option (Node ℕ))
    → is_directory_node (node_with_mark opaque o) ≡ is_directory_node o
mark_directory opaque o = grind (arith, common_steps)

-- an inode is its real object, whatever mark that has
mark_same : (opaque : Bool) (merged real : Option (Node ℕ)) → SameObject merged real
    → SameObject merged (node_with_mark opaque real)
mark_same opaque merged real same = grind (arith, common_steps, real)

module _ (stack : Stack ℕ) (merge : Merge ℕ) (whole : IsWhole stack merge) (directory : ℕ)
    (stands : StandsInUpper merge directory) (opaque : Bool)
    (bare : (way : List (List ℕ)) → number_at_path merge.files way ≡ Some directory
    → lowers_have_directory stack.lowers way ≡ false) where
  abbrev above : ℕ
  above = upper_of merge directory

  abbrev later : Merge ℕ
  later = marked_above merge directory opaque

  abbrev before : View ℕ
  before = view_in merge.upper stack.directory

  abbrev after : View ℕ
  after = view_in later.upper stack.directory

  abbrev lowers : List (View ℕ)
  lowers = map view_of stack.lowers

  fine : IsFine stack merge
  fine = is_fine stack merge whole

  real : merge.real directory ≡ Some (Upper above)
  real = upper_real merge directory stands

  leads : (path : List (List ℕ)) → after.leads path ≡ before.leads path
  leads = (mark_changes_one_inode merge.upper stack.directory above opaque).0

  -- what the upper layer has is shown as before
  on_top_same : (path : List (List ℕ)) (object : ℕ) → before.leads path ≡ Some object
      → shown_from 0 (after ∷ lowers) path ≡ shown_from 0 (before ∷ lowers) path
  on_top_same path object e = on_top after lowers path object (is_kind_in White (before.node object)) (leads path ∙ e)
      (part-changed_node (is_kind_in White) merge.upper above (node_with_mark opaque) (mark_white opaque) object)
      ∙ sym (on_top before lowers path object (is_kind_in White (before.node object)) e refl)

  -- and where neither it nor lower layers show anything, nothing is
  nothing : (view : View ℕ) (path : List (List ℕ)) → view.leads path ≡ None → shown_from 1 lowers path ≡ None
      → shown_from 0 (view ∷ lowers) path ≡ None
  nothing view path e none = cc (by (cuts view path))
    where
      by : (b : Bool) → shown_over view 0 None b None ≡ None
      by true = refl
      by false = refl

  -- lower layers show nothing under the directory
  none_below : (front rest : List (List ℕ)) (word : List ℕ) → before.leads front ≡ Some above
      → (o : Option (Shown ℕ)) → shown_from 1 lowers (front ++ word ∷ rest) ≡ o → o ≡ None
  none_below front rest word e None shows = refl
  none_below front rest word e (Some seen) shows =
      let longer = shown_longer stack.lowers (λ k layer g. whole.layers (suc k) layer g) 1 rest front word seen shows in
      let have = lowers_have stack.lowers 1 longer.place _ _ front longer.there longer.is longer.at longer.directory in
      let named = above_named stack merge whole front above e
      (no_white_object (merge.files.tree.node directory) (merge.upper.tree.node above)
      (object_above stack merge whole directory above real)) in
      absurd (true≢false (sym have
      ∙ bare front (named.1 ∙ ap Some (fine.one named.0 directory (ap is_some named.2) (named.2 ∙ sym real)))))

  through : (front rest path : List (List ℕ)) → front ++ rest ≡ path → before.leads front ≡ Some above
      → (o : Option ℕ) → before.leads path ≡ o
      → shown_from 0 (after ∷ lowers) path ≡ shown_from 0 (before ∷ lowers) path
  through front rest path split e (Some object) at = on_top_same path object at
  through front [] path split e None at = none_is_some above (cc (append-nil front))
  through front (word ∷ rest) path split e None at =
      let none = ap (shown_from 1 lowers) (sym split) ∙ none_below front rest word e _ refl in
      nothing after path (leads path ∙ at) none ∙ sym (nothing before path at none)

  shown_same : (path : List (List ℕ)) → shown_from 0 (after ∷ lowers) path ≡ shown_from 0 (before ∷ lowers) path
  shown_same path = by (leads_over before above path) refl
    where
      by : (b : Bool) → leads_over before above path ≡ b
          → shown_from 0 (after ∷ lowers) path ≡ shown_from 0 (before ∷ lowers) path
      by false e =
          let top = top_open stack merge whole in
          shown_elsewhere_stays merge.upper (SetMark above opaque) stack.directory lowers top.0 top.1 tt path e
      by true e =
          let found = prefix_found (λ front. same_option nat_eq (before.leads front) (Some above)) path e in
          through found.0 found.1.0 path found.1.1 (same_is _ above found.2) (before.leads path) refl

  objects_same : (number : ℕ) → SameObject (merge.files.tree.node number)
      (then_some (merge.real number) (inode_behind stack later))
  objects_same number = by (merge.real number) (fine.objects number)
    where
      at : (u : ℕ) (b : Bool) → nat_eq u above ≡ b → SameObject (merge.files.tree.node number) (merge.upper.tree.node u)
          → SameObject (merge.files.tree.node number)
          (cond b (node_with_mark opaque (merge.upper.tree.node above)) (merge.upper.tree.node u))
      at u true e same = mark_same opaque (merge.files.tree.node number) (merge.upper.tree.node above)
          (subst (λ k. SameObject (merge.files.tree.node number) (merge.upper.tree.node k)) (eqb-true u above e) same)
      at u false e same = same

      by : (o : Option (Real ℕ)) → SameObject (merge.files.tree.node number) (then_some o (inode_behind stack merge))
          → SameObject (merge.files.tree.node number) (then_some o (inode_behind stack later))
      by None same = same
      by (Some (Upper u)) same = at u (nat_eq u above) refl same
      by (Some (Lower layer path)) same = same

  fine_later : IsFine stack later
  fine_later = record {
    paths = λ path. cc (fine.paths path, shown_same path);
    objects = objects_same;
    there = fine.there;
    whiteout = fine.whiteout;
    mark = fine.mark;
    upper = λ number object r.
        part-changed_node is_some merge.upper above (node_with_mark opaque) (mark_there opaque) object
        ∙ fine.upper number object r;
    one = fine.one;
  }

  whole_later : IsWhole stack later
  whole_later =
      let top = top_open stack merge whole in
      whole_again stack merge later whole whole.tree whole.numbers
      (changes_keep_trees merge.upper (SetMark above opaque) top.0 tt)
      (part-changed_node is_directory_node merge.upper above (node_with_mark opaque) (mark_directory opaque)
      stack.directory ∙ top.1) (
        whole.reached.0,
        (mark_changes_one_inode merge.upper merge.upper.tree.root above opaque).0 whole.reached.0 ∙ whole.reached.1,
      ) fine_later

pub mark_keeps_whole : MarkKeepsWhole
mark_keeps_whole stack merge directory opaque whole stands bare = whole_later stack merge whole _ stands opaque bare

pub mark_of_the_tree_is_not_shown : MarkOfTheTreeIsNotShown
mark_of_the_tree_is_not_shown stack merge directory d is =
    cc (eq-eqb directory directory refl, directory_marked (merge.files.tree.node directory) d, is.no_mark directory)
