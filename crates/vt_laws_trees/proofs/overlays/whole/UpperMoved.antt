-- An object is moved in the upper layer: its tree goes on to be one.
use Rattle.std.proofs.Common.{arith, ◌≡◌, ◌≢◌, refl, sym, ap, subst, ◌∙◌, true≢false, inr, ℕ, nat_eq, Bool, true, false, cond, List, [], Option, Some, None, is_some}
use Rattle.vt_spec.proofs.Common.{FileTree, Fresh, IsDirectory, IsReached, Merge, Move, Node, Stack, Upper, changed, changed_node, common_steps, entries_in, entries_in-no_directory, entry_at, entry_named, hides_directory, is_directory_node, merge_with_moved, name_left_by, node_with_parent, none_from_not_some, none_is_some, same_Some, shown_in_lowers_at, upper_directory_named, upper_of, whiteout_of, with_mark, with_moved, with_name, without_contents, without_name, without_parent}
use Rattle.vt_spec.proofs.Trees.{led_kept}
use Rattle.vt_laws_trees.specs.Trees.{MayMove}
use Rattle.vt_laws_trees.proofs.layers.views.Entries.{is_entry}
use Rattle.vt_laws_trees.proofs.layers.views.Moves.{move_told}
use Rattle.vt_laws_trees.proofs.layers.views.Names.{names_leave_inodes, no_entries}
use Rattle.vt_laws_trees.proofs.overlays.whole.UpperGoes.{Goes, IsGood, bare, bare_goes, bare_kept, bare_kind, bare_reached, bare_there, bare_told, bare_used, change_reaches, goes_both, goes_by, goes_none}
use Rattle.vt_laws_trees.proofs.overlays.whole.UpperMade.{make_over, mark_goes, named_below, up_reached}
use Rattle.vt_laws_trees.proofs.overlays.whole.UpperNames.{freed_goes, unchanged_node}
use Rattle.vt_laws_trees.proofs.overlays.whole.UpperRemoved.{named_no_top, none_named, own_apart, own_entry, own_leaves, own_no_top}
use Rattle.vt_laws_trees.proofs.overlays.steps.WholeLeft.{own_upper}
use Rattle.vt_laws_trees.proofs.overlays.steps.WholeLinked.{no_white_object}
use Rattle.vt_laws_trees.proofs.overlays.steps.WholeMovedTree.{IsMoveAbove, from_number, from_way, named_up, not_under, not_up, real_o, two_names, from_above, to_above}
use Rattle.vt_laws_trees.proofs.overlays.steps.WholeNames.{is_fine, object_above, top_good}

-- with itself as the parent once more
parent_twice : (k : ℕ) (o : Option (Node ℕ)) → node_with_parent k (node_with_parent k o) ≡ node_with_parent k o
parent_twice k o = grind (arith, common_steps)

-- What a move takes the place of may have lost its parent already
moved_twice : (files : FileTree ℕ) (from : ℕ) (old : List ℕ) (to : ℕ) (new : List ℕ) (object r : ℕ)
    → entry_at files.tree to new ≡ Some r
    → with_moved nat_eq (without_parent nat_eq files (Some r)) from old to new object
    ≡ with_moved nat_eq files from old to new object
moved_twice files from old to new object r named =
    ap (λ x. changed_node nat_eq (with_name nat_eq (without_name nat_eq x from old) to new object) object
    (node_with_parent to)) (ap (without_parent nat_eq once) still ∙ unchanged_node once r (node_with_parent r)
    (ap (node_with_parent r) there ∙ parent_twice r (files.tree.node r) ∙ sym there)
    ∙ sym (ap (without_parent nat_eq files) named))
  where
    once : FileTree ℕ
    once = without_parent nat_eq files (Some r)

    there : (without_parent nat_eq files (Some r)).tree.node r ≡ node_with_parent r (files.tree.node r)
    there = Rattle.vt_laws_trees.proofs.trees.ChangesNodes.changed_node_there files r (node_with_parent r)

    still : entry_at (without_parent nat_eq files (Some r)).tree to new ≡ Some r
    still = ap (entry_named new)
        (Rattle.vt_laws_trees.proofs.trees.ChangesNodes.part_stays files r (node_with_parent r) entries_in
        (Rattle.vt_spec.proofs.NodeChanges.entries-node_with_parent r) to) ∙ named

module _ {fresh : Fresh ℕ} {stack : Stack ℕ} {merge : Merge ℕ} {f : ℕ} {old : List ℕ} {t : ℕ} {new : List ℕ}
    {o : ℕ} (it : IsMoveAbove fresh stack merge f old t new o) where
  abbrev uf : ℕ
  uf = upper_of merge f

  abbrev ut : ℕ
  ut = upper_of merge t

  abbrev uo : ℕ
  uo = upper_of merge o

  abbrev top : ℕ
  top = stack.directory

  good : IsGood top merge.upper
  good = top_good stack merge it.whole

  uf_reached : IsReached merge.upper.tree uf
  uf_reached = up_reached it.whole f uf (from_above it).real (from_way it) (from_number it)

  ut_reached : IsReached merge.upper.tree ut
  ut_reached = up_reached it.whole t ut (to_above it).real it.may.reached.0 it.may.reached.1

  -- what has the new name is another object
  other_there : entry_at merge.upper.tree ut new ≢ Some uo
  other_there e =
      let found = named_below it.whole t ut (to_above it).real it.may.reached.0 it.may.reached.1 new uo e
      (no_white_object (merge.files.tree.node o) (merge.upper.tree.node uo)
      (object_above stack merge it.whole o uo (real_o it))) in
      it.may.replaced_other (found.1 ∙ ap Some
      ((is_fine stack merge it.whole).one found.0 o (ap is_some found.2) (found.2 ∙ sym (real_o it))))

  -- From the upper layer, or from the one in which a replaced directory has no whiteouts
  module _ (base : FileTree ℕ) (to_base : Goes top merge.upper base)
      (told : (d : ℕ) (n : List ℕ) (k : ℕ) → entry_at base.tree d n ≡ Some k → entry_at merge.upper.tree d n ≡ Some k)
      (kind : (k : ℕ) → is_directory_node (base.tree.node k) ≡ is_directory_node (merge.upper.tree.node k))
      (used : (k : ℕ) → is_some (base.tree.node k) ≡ is_some (merge.upper.tree.node k))
      (named : entry_at base.tree uf old ≡ Some uo) (from : IsReached base.tree uf) (to : IsReached base.tree ut)
      (empty : (k : ℕ) → entry_at base.tree ut new ≡ Some k → entries_in (base.tree.node k) ≡ [])
      (no_top : entry_at base.tree ut new ≢ Some top) where
    may_up : MayMove base.tree uf old ut new uo
    may_up = record {
      named = named;
      in_directory = kind ut ∙ (to_above it).directory;
      reached = to;
      not_under = λ names e. not_under it names (led_kept base.tree merge.upper.tree told uo names ut e);
      replaced_other = λ e. other_there (told ut new uo e);
      replaced_empty = empty;
    }

    abbrev moved_up : FileTree ℕ
    moved_up = changed nat_eq base (Move uf old ut new uo)

    top_differs : top ≢ uo
    top_differs = named_no_top stack merge it.whole f old o uo it.may.named (real_o it)

    moves : Goes top base moved_up
    moves = goes_by top base (Move uf old ut new uo) to_base.good may_up (top_differs, no_top)

    uf_there : IsDirectory moved_up.tree uf × IsReached moved_up.tree uf
    uf_there = change_reaches base (Move uf old ut new uo) to_base.good.tree may_up uf (
      λ same. not_up it [] (ap Some (sym same)),
      λ e. none_is_some uo (sym (no_entries base.tree uf (empty uf e) old) ∙ named),
    ) (kind uf ∙ (from_above it).directory) from

    old_free : entry_at moved_up.tree uf old ≡ None
    old_free = move_told base uf old ut new uo (kind ut ∙ (to_above it).directory) uf old
        ∙ by (is_entry ut new uf old) refl ∙ ap (λ b. cond b None (entry_at base.tree uf old)) itself
      where
        itself : is_entry uf old uf old ≡ true
        itself = cc (Rattle.std.proofs.Common.eq-eqb uf uf refl, Rattle.vt_spec.proofs.Truths.bytes_eq_itself old)

        by : (b : Bool) → is_entry ut new uf old ≡ b
            → cond b (Some uo) (cond (is_entry uf old uf old) None (entry_at base.tree uf old))
            ≡ cond (is_entry uf old uf old) None (entry_at base.tree uf old)
        by true e = absurd (two_names it uf old e itself)
        by false e = refl

    plain : (r : ℕ) → entry_at moved_up.tree uf old ≡ Some r → is_directory_node (moved_up.tree.node r) ≡ false
    plain r e = none_is_some r (sym old_free ∙ e)

    moved_vacant : moved_up.tree.node (fresh 0) ≡ None
    moved_vacant = none_from_not_some (moved_up.tree.node (fresh 0))
        ((names_leave_inodes base (Move uf old ut new uo) top (fresh 0) refl).there ∙ used (fresh 0)
        ∙ ap is_some it.vacant)

    leaves : (b : Bool) → Goes top moved_up (name_left_by nat_eq b fresh stack moved_up uf old)
    leaves true = make_over top moved_up uf old (fresh 0)
        (whiteout_of stack.mounter) moves.good uf_there.0 uf_there.1 plain moved_vacant (inr refl)
    leaves false = freed_goes top moved_up moves.good uf old plain

    pub moved_up_goes : (left marks : Bool)
        → Goes top merge.upper (with_mark nat_eq marks (name_left_by nat_eq left fresh stack moved_up uf old) uo)
    moved_up_goes left marks =
        let last = name_left_by nat_eq left fresh stack moved_up uf old in
        goes_both top merge.upper base _ to_base (goes_both top base moved_up _ moves
        (goes_both top moved_up last _ (leaves left) (mark_goes top last marks uo (leaves left).good)))

  pub moved_goes : Goes top merge.upper (merge_with_moved nat_eq fresh stack merge f old t new o).upper
  moved_goes = by (upper_directory_named merge t new) refl (is_some (shown_in_lowers_at nat_eq stack merge f old))
      (hides_directory nat_eq stack merge t new)
    where
      by : (x : Option ℕ) → upper_directory_named merge t new ≡ x → (left marks : Bool)
          → Goes top merge.upper (with_mark nat_eq marks (name_left_by nat_eq left fresh stack
          (with_moved nat_eq (without_contents nat_eq merge.upper x) uf old ut new uo) uf old) uo)
      by None e left marks =
          let plain = none_named it.whole t ut (to_above it).real it.may.reached.0 it.may.reached.1 new e in
          moved_up_goes merge.upper (goes_none top merge.upper good) (λ d n k g. g) (λ k. refl)
          (λ k. refl) (named_up it) uf_reached ut_reached
          (λ k g. entries_in-no_directory (merge.upper.tree.node k) (plain k g))
          (λ g. true≢false (sym good.directory ∙ plain top g)) left marks
      by (Some r) e left marks =
          subst (λ x. Goes top merge.upper (with_mark nat_eq marks (name_left_by nat_eq left fresh stack x uf old) uo))
          (sym (moved_twice base uf old ut new uo r (bare_kept merge.upper r good.tree leaf ut new r ut_apart entry)))
          (moved_up_goes base (bare_goes merge.upper r good.tree leaf top good)
          (λ d n k g. (bare_told merge.upper r good.tree leaf d n k g).1)
          (bare_kind merge.upper r good.tree leaf) (bare_used merge.upper r good.tree leaf)
          (bare_kept merge.upper r good.tree leaf uf old uo uf_apart (named_up it))
          (bare_reached merge.upper r good.tree leaf uf (from_above it).directory uf_reached)
          (bare_reached merge.upper r good.tree leaf ut (to_above it).directory ut_reached)
          (λ k g. cc (one k g, bare_there merge.upper r good.tree leaf)) (λ g. own_no_top it.whole
          t ut (to_above it).real it.may.reached.0 it.may.reached.1 new r e it.may.replaced_empty
          (one top g)) left marks)
        where
          entry : entry_at merge.upper.tree ut new ≡ Some r
          entry = own_entry it.whole t ut (to_above it).real it.may.reached.0 it.may.reached.1 new r e
              it.may.replaced_empty

          leaf : (word : List ℕ) (k : ℕ) → entry_at merge.upper.tree r word ≡ Some k
              → is_directory_node (merge.upper.tree.node k) ≡ false
          leaf = own_leaves it.whole t ut (to_above it).real it.may.reached.0 it.may.reached.1 new r e
              it.may.replaced_empty

          base : FileTree ℕ
          base = bare merge.upper r good.tree leaf

          ut_apart : ut ≢ r
          ut_apart = own_apart it.whole t ut (to_above it).real it.may.reached.0 it.may.reached.1 new r e
              it.may.replaced_empty

          uf_apart : uf ≢ r
          uf_apart same =
              let own = own_upper merge t new r e in
              let one_inode : own.0 ≡ f = (is_fine stack merge it.whole).one own.0 f (ap is_some own.2)
              (own.2 ∙ ap (λ n. Some (Upper n)) (sym same) ∙ sym (from_above it).real) in
              none_is_some o (sym
              (no_entries merge.files.tree f (cc (one_inode, it.may.replaced_empty own.0 own.1)) old) ∙ it.may.named)

          one : (k : ℕ) → entry_at (bare merge.upper r good.tree leaf).tree ut new ≡ Some k → k ≡ r
          one k g = same_Some k r (sym (bare_told merge.upper r good.tree leaf ut new k g).1 ∙ entry)
