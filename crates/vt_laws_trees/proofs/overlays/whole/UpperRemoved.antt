-- A name is taken away in the upper layer, or exchanged: its tree goes on to be one.
use Rattle.std.proofs.Common.{arith, ◌≡◌, ◌≢◌, refl, sym, ap, subst, ◌∙◌, inr, ℕ, nat_eq, Bool, true, false, List, [], ◌∷◌, ◌++◌, Option, Some, None, is_some}
use Rattle.vt_spec.proofs.Common.{FileTree, Fresh, IsDirectory, IsReached, Make, Merge, Node, Remove, Stack, Upper, changed, changed_node, common_steps, directory_no_whiteout, directory_used, entries_in, entry_at, entry_named, is_directory_node, led-append, merge_without_name, name_left_by, node_with_entry, node_with_parent, node_without_entries, node_without_entry, none_from_not_some, none_is_some, number_at_path, same_Some, upper_directory_named, upper_of, whiteout_of, with_inode, with_name, without_contents, without_name, without_parent}
use Rattle.vt_laws_trees.specs.Trees.{MayRemove}
use Rattle.vt_laws_trees.specs.Layers.Layers.ChangesUpper.{StandsInUpper}
use Rattle.vt_laws_trees.proofs.layers.layers.UpperLine.{has_entries, is_reached_in}
use Rattle.vt_laws_trees.proofs.layers.layers.UpperShown.{way_to}
use Rattle.vt_laws_trees.proofs.layers.views.Moves.{no_way_up}
use Rattle.vt_laws_trees.proofs.layers.views.Names.{no_entries}
use Rattle.vt_laws_trees.specs.Overlays.WhatIsShown.{IsWhole}
use Rattle.vt_laws_trees.proofs.overlays.whole.UpperGoes.{Goes, IsGood, bare, bare_goes, bare_kept, bare_kind, bare_reached, bare_there, bare_used, change_reaches, goes_both, goes_by}
use Rattle.vt_laws_trees.proofs.overlays.whole.UpperMade.{make_over, named_below, up_reached}
use Rattle.vt_laws_trees.proofs.overlays.whole.UpperNames.{freed_goes, freed_made, inode_changed, two_changed}
use Rattle.vt_laws_trees.proofs.overlays.steps.WholeAttributes.{top_open, upper_real}
use Rattle.vt_laws_trees.proofs.overlays.steps.WholeLeft.{named_in_upper, own_upper}
use Rattle.vt_laws_trees.proofs.overlays.steps.WholeNames.{above_named, directory_stands, is_fine, top_good}

-- what has a name in the overlay is not the upper layer's directory
pub named_no_top : (stack : Stack ℕ) (merge : Merge ℕ) → IsWhole stack merge → (d : ℕ) (w : List ℕ) (object uo : ℕ)
    → entry_at merge.files.tree d w ≡ Some object → merge.real object ≡ Some (Upper uo) → stack.directory ≢ uo
named_no_top stack merge whole d w object uo named real same =
    let top_directory = (top_open stack merge whole).1 in
    let root = above_named stack merge whole [] stack.directory refl (directory_no_whiteout _ top_directory) in
    whole.tree.root_unnamed d w (named ∙ ap Some ((is_fine stack merge whole).one object
    merge.files.tree.root (ap is_some real) (cc (real, same, root.2, same_Some merge.files.tree.root root.0 root.1))))

-- A name in a directory of the overlay that names lead to
module _ {stack : Stack ℕ} {merge : Merge ℕ} (whole : IsWhole stack merge) (d ud : ℕ)
    (real_d : merge.real d ≡ Some (Upper ud)) (way : List (List ℕ))
    (there : number_at_path merge.files way ≡ Some d) (w : List ℕ) where
  -- a directory of the upper layer that has it is the overlay's
  pub own_named : (k : ℕ) → entry_at merge.upper.tree ud w ≡ Some k → is_directory_node (merge.upper.tree.node k) ≡ true
      → upper_directory_named merge d w ≡ Some k
  own_named k e is =
      let found = named_below whole d ud real_d way there w k e (directory_no_whiteout (merge.upper.tree.node k) is) in
      grind (arith, common_steps, directory_stands, is)

  -- where there is none, what has it is no directory
  pub none_named : upper_directory_named merge d w ≡ None
      → (r : ℕ) → entry_at merge.upper.tree ud w ≡ Some r → is_directory_node (merge.upper.tree.node r) ≡ false
  none_named none r e = by (is_directory_node (merge.upper.tree.node r)) refl
    where
      by : (b : Bool) → is_directory_node (merge.upper.tree.node r) ≡ b
          → is_directory_node (merge.upper.tree.node r) ≡ false
      by true is = none_is_some r (sym none ∙ own_named r e is)
      by false is = is

  -- where there is one, and shows no names, it has whiteouts alone
  module _ (r : ℕ) (is : upper_directory_named merge d w ≡ Some r)
      (empty : (n : ℕ) → entry_at merge.files.tree d w ≡ Some n → entries_in (merge.files.tree.node n) ≡ []) where
    own : (object : ℕ) × (entry_at merge.files.tree d w ≡ Some object) × (merge.real object ≡ Some (Upper r))
        × IsDirectory merge.files.tree object
    own = own_upper merge d w r is

    pub own_entry : entry_at merge.upper.tree ud w ≡ Some r
    own_entry = named_in_upper whole d ud w r own.1 real_d own.2

    pub own_leaves : (word : List ℕ) (k : ℕ) → entry_at merge.upper.tree r word ≡ Some k
        → is_directory_node (merge.upper.tree.node k) ≡ false
    own_leaves word k e = by (is_directory_node (merge.upper.tree.node k)) refl
      where
        by : (b : Bool) → is_directory_node (merge.upper.tree.node k) ≡ b
            → is_directory_node (merge.upper.tree.node k) ≡ false
        by true dir =
            let found = named_below whole own.0 r own.2 (way ++ w ∷ [])
            (led-append merge.files.tree _ way w d own.0 there own.1) word k e (directory_no_whiteout _ dir) in
            none_is_some found.0 (sym (no_entries merge.files.tree own.0 (empty own.0 own.1) word) ∙ found.1)
        by false dir = dir

    pub own_apart : ud ≢ r
    own_apart same = no_way_up merge.upper (top_open stack merge whole).0 ud w r own_entry [] (ap Some (sym same))

    pub own_no_top : stack.directory ≢ r
    own_no_top = named_no_top stack merge whole d w own.0 r own.1 own.2

-- A directory loses its whiteouts and then its name
module _ {top : ℕ} {files : FileTree ℕ} (good : IsGood top files) {d : ℕ} (w : List ℕ) {r : ℕ}
    (named : entry_at files.tree d w ≡ Some r) (leaves : (word : List ℕ) (k : ℕ) → entry_at files.tree r word ≡ Some k
    → is_directory_node (files.tree.node k) ≡ false)
    (apart : d ≢ r) (no_top : top ≢ r) (reached : IsReached files.tree d) where
  is : IsDirectory files.tree d
  is = has_entries files.tree d w r named

  abbrev emptied_first : FileTree ℕ
  emptied_first = bare files r good.tree leaves

  first : Goes top files emptied_first
  first = bare_goes files r good.tree leaves top good

  may : MayRemove emptied_first.tree d w r
  may = record {
    named = bare_kept files r good.tree leaves d w r apart named;
    empty = bare_there files r good.tree leaves;
  }

  abbrev gone : FileTree ℕ
  gone = changed nat_eq emptied_first (Remove d w r)

  abbrev without : FileTree ℕ → FileTree ℕ
  without f = without_parent nat_eq (changed_node nat_eq f r node_without_entries) (Some r)

  gone_goes : Goes top files gone
  gone_goes = goes_both top files emptied_first gone first (goes_by top _ (Remove d w r) first.good may no_top)

  gone_is : gone ≡ without (without_name nat_eq files d w)
  gone_is = ap (λ f. without_parent nat_eq f (Some r))
      (two_changed files r d node_without_entries (node_without_entry w) (λ same. apart (sym same)))

  pub left_bare : Goes top files (without (without_name nat_eq files d w))
  left_bare = subst (Goes top files) gone_is gone_goes

  -- with a whiteout
  module _ (c : ℕ) (vacant : files.tree.node c ≡ None) (white : Node ℕ)
      (fits : Rattle.vt_spec.specs.Laws.Trees.IsNewIn d white) where
    d_differs : d ≢ c
    d_differs same = cc (directory_used files.tree d is)

    r_differs : c ≢ r
    r_differs same = cc (good.tree.alive d w r named)

    d_gone : IsDirectory gone.tree d × IsReached gone.tree d
    d_gone = change_reaches emptied_first (Remove d w r) first.good.tree may d apart
        (bare_kind files r good.tree leaves d ∙ is) (bare_reached files r good.tree leaves d is reached)

    gone_vacant : gone.tree.node c ≡ None
    gone_vacant = none_from_not_some (gone.tree.node c)
        (Rattle.vt_laws_trees.proofs.trees.ChangesNodes.part_stays (without_name nat_eq emptied_first d w) r
        (node_with_parent r) is_some (Rattle.vt_spec.proofs.NodeChanges.is_some-node_with_parent r) c
        ∙ Rattle.vt_laws_trees.proofs.trees.ChangesNodes.part_stays emptied_first d (node_without_entry w) is_some
        (Rattle.vt_spec.proofs.NodeChanges.is_some-node_without_entry w) c
        ∙ bare_used files r good.tree leaves c ∙ ap is_some vacant)

    gone_free : (k : ℕ) → entry_at gone.tree d w ≡ Some k → is_directory_node (gone.tree.node k) ≡ false
    gone_free k e = none_is_some k (sym (ap (entry_named w)
        (Rattle.vt_laws_trees.proofs.trees.ChangesNodes.part_stays (without_name nat_eq emptied_first d w) r
        (node_with_parent r) entries_in (Rattle.vt_spec.proofs.NodeChanges.entries-node_with_parent r) d)
        ∙ Rattle.vt_laws_trees.proofs.overlays.whole.UpperNames.without_name_free emptied_first d w) ∙ e)

    abbrev whited : FileTree ℕ → FileTree ℕ
    whited f = changed nat_eq f (Make d w c white)

    both_goes : Goes top files (whited gone)
    both_goes = goes_both top files gone (whited gone) gone_goes
        (make_over top gone d w c white gone_goes.good d_gone.0 d_gone.1 gone_free gone_vacant fits)

    -- what is emptied beside it
    aside : (f : FileTree ℕ) (g : Option (Node ℕ) → Option (Node ℕ))
        → whited (changed_node nat_eq f r g) ≡ changed_node nat_eq (whited f) r g
    aside f g = ap (λ x. with_name nat_eq x d w c) (sym (inode_changed f c white r g r_differs))
        ∙ two_changed (with_inode nat_eq f c white) r d g (node_with_entry w c) (λ same. apart (sym same))

    whited_is : whited gone ≡ without (whited files)
    whited_is = ap whited gone_is
        ∙ aside (changed_node nat_eq (without_name nat_eq files d w) r node_without_entries) (node_with_parent r)
        ∙ ap (λ f. changed_node nat_eq f r (node_with_parent r))
        (aside (without_name nat_eq files d w) node_without_entries)
        ∙ ap without (freed_made files d w (good.tree.in_order d) c white d_differs)

    pub left_white : Goes top files (without (whited files))
    left_white = subst (Goes top files) whited_is both_goes

pub removed_goes : (fresh : Fresh ℕ) (stack : Stack ℕ) (merge : Merge ℕ) (d : ℕ) (w : List ℕ) (object : ℕ)
    → IsWhole stack merge → StandsInUpper merge d → merge.upper.tree.node (fresh 0) ≡ None
    → MayRemove merge.files.tree d w object
    → Goes stack.directory merge.upper (merge_without_name nat_eq fresh stack merge d w object).upper
removed_goes fresh stack merge d w object whole stands vacant may = by (upper_directory_named merge d w) refl _
  where
    ud : ℕ
    ud = upper_of merge d

    good : IsGood stack.directory merge.upper
    good = top_good stack merge whole

    real_d : merge.real d ≡ Some (Upper (upper_of merge d))
    real_d = upper_real merge d stands

    way : (q : List (List ℕ)) × (number_at_path merge.files q ≡ Some d)
    way = let reached = is_reached_in merge.files whole.tree d w object may.named in
        way_to merge.files.tree reached.0 d reached.1

    reached : IsReached merge.upper.tree (upper_of merge d)
    reached = up_reached whole d (upper_of merge d) real_d way.0 way.1

    is : IsDirectory merge.upper.tree (upper_of merge d)
    is = directory_stands stack merge whole d _ real_d ∙ has_entries merge.files.tree d w object may.named

    empty : (n : ℕ) → entry_at merge.files.tree d w ≡ Some n → entries_in (merge.files.tree.node n) ≡ []
    empty n e = cc (same_Some n object (sym e ∙ may.named), may.empty)

    by : (o : Option ℕ) → upper_directory_named merge d w ≡ o → (b : Bool) → Goes stack.directory merge.upper
        (without_contents nat_eq (name_left_by nat_eq b fresh stack merge.upper (upper_of merge d) w) o)
    by None e false = freed_goes stack.directory merge.upper good _ w (none_named whole d _ real_d way.0 way.1 w e)
    by None e true =
        make_over stack.directory merge.upper (upper_of merge d) w (fresh 0) (whiteout_of stack.mounter) good is reached
        (none_named whole d (upper_of merge d) real_d way.0 way.1 w e) vacant (inr refl)
    by (Some r) e false = left_bare good w (own_entry whole d (upper_of merge d) real_d way.0 way.1 w r e empty)
        (own_leaves whole d _ real_d way.0 way.1 w r e empty) (own_apart whole d _ real_d way.0 way.1 w r e empty)
        (own_no_top whole d (upper_of merge d) real_d way.0 way.1 w r e empty) reached
    by (Some r) e true = left_white good w (own_entry whole d (upper_of merge d) real_d way.0 way.1 w r e empty)
        (own_leaves whole d _ real_d way.0 way.1 w r e empty) (own_apart whole d _ real_d way.0 way.1 w r e empty)
        (own_no_top whole d (upper_of merge d) real_d way.0 way.1 w r e empty) reached (fresh 0) vacant _ (inr refl)
