-- Where names lead in the upper layer after a move, with what is left of the old name and of a replaced directory.
use Rattle.std.proofs.Common.{arith, ◌≡◌, ◌≢◌, refl, sym, ap, subst, ◌∙◌, true≢false, eq-eqb, ne_eqb, ℕ, nat_eq, Bool, true, false, cond, ◌&&◌, List, [], ◌∷◌, ◌++◌, Option, Some, None, is_some, option_and_then, bytes_eq}
use Rattle.vt_spec.proofs.Common.{FileTree, Fresh, IsDirectory, IsTree, Merge, Move, Stack, Upper, View, common_steps, directory_no_whiteout, entries-node_with_mark, entries_in, entry_at, entry_named, is_directory_node, led, name_left_by, node_other, node_with_entry, node_with_mark, node_without_entry, none_from_not_some, none_is_some, number_at_path, same_Some, upper_directory_named, upper_of, when, whiteout_of, with_inode, with_mark, with_moved, without_contents, bytes_eq_itself, directory_used, without_last}
use Rattle.vt_laws_trees.specs.Trees.{MayMove}
use Rattle.vt_laws_trees.specs.Layers.Layers.ChangesUpper.{StandsInUpper}
use Rattle.vt_laws_trees.specs.Layers.Layers.Mounted.{IsAlike}
use Rattle.vt_laws_trees.specs.Layers.Layers.Views.{goes_through, names_entry, view_in}
use Rattle.vt_laws_trees.proofs.layers.layers.CopyingParts.{entry_keeps, without_entry_keeps}
use Rattle.vt_laws_trees.proofs.layers.layers.ShownFronts.{prefix_passes}
use Rattle.vt_laws_trees.proofs.layers.layers.UpperLine.{has_entries}
use Rattle.vt_laws_trees.proofs.layers.views.After.{fails, itself_fails}
use Rattle.vt_laws_trees.proofs.layers.views.Lower.{is_named}
use Rattle.vt_laws_trees.proofs.layers.views.Entries.{entries_stay, given, is_entry, is_that_entry, taken}
use Rattle.vt_laws_trees.proofs.layers.views.Moves.{led_parts, move_told, no_way_up, through_is_split}
use Rattle.vt_laws_trees.proofs.layers.views.Names.{alike_after, alike_both, alike_same, inode_entries, names_leave_inodes}
use Rattle.vt_laws_trees.proofs.layers.views.Stay.{led_where}
use Rattle.vt_laws_trees.proofs.layers.views.Walks.{entry_over, goes_through_it, names_it}
use Rattle.vt_laws_trees.specs.Overlays.WhatIsShown.{IsWhole}
use Rattle.vt_laws_trees.proofs.overlays.steps.WholeAttributes.{top_open, upper_real}
use Rattle.vt_laws_trees.proofs.overlays.steps.WholeGrown.{directory_alike}
use Rattle.vt_laws_trees.proofs.overlays.steps.WholeLeft.{beside_led, emptied_alike, emptied_entries, named_in_upper, one_named, own_upper, up_way, way}
use Rattle.vt_laws_trees.proofs.overlays.steps.WholeNames.{IsAbove, stands_above, above_named, is_fine, entry_named_so}
use Rattle.vt_laws_trees.proofs.overlays.steps.WholeParts.{IsFine}
use Rattle.vt_laws_trees.proofs.layers.layers.ShownDirectories.{append_assoc, last_of, longer_is_not_empty}
use Rattle.vt_laws_trees.proofs.layers.layers.UpperShown.{without_last_of_longer}
use Rattle.vt_laws_trees.proofs.layers.layers.ShownPaths.{not_empty}
use Rattle.vt_spec.proofs.Trees.{found}

-- What a move in the upper layer rests on: the overlay is whole, both directories and the object stand in its upper
-- layer, and no inode has the number of a whiteout.
pub record IsMoveAbove (fresh : Fresh ℕ) (stack : Stack ℕ) (merge : Merge ℕ) (f : ℕ) (old : List ℕ) (t : ℕ)
    (new : List ℕ) (o : ℕ) : Type 0 where
  pub whole : IsWhole stack merge
  pub from : StandsInUpper merge f
  pub to : StandsInUpper merge t
  pub object : StandsInUpper merge o
  pub may : MayMove merge.files.tree f old t new o
  pub vacant : merge.upper.tree.node (fresh 0) ≡ None

module _ {fresh : Fresh ℕ} {stack : Stack ℕ} {merge : Merge ℕ} {f : ℕ} {old : List ℕ} {t : ℕ} {new : List ℕ}
    {o : ℕ} (it : IsMoveAbove fresh stack merge f old t new o) where
  abbrev pub uf : ℕ
  uf = upper_of merge f

  abbrev pub ut : ℕ
  ut = upper_of merge t

  abbrev pub uo : ℕ
  uo = upper_of merge o

  abbrev pub c : ℕ
  c = fresh 0

  abbrev pub before : View ℕ
  before = view_in merge.upper stack.directory

  pub from_above : IsAbove stack merge f uf
  from_above = stands_above f it.whole it.from (has_entries merge.files.tree f old o it.may.named)

  pub to_above : IsAbove stack merge t ut
  to_above = stands_above t it.whole it.to it.may.in_directory

  pub real_o : merge.real o ≡ Some (Upper uo)
  real_o = upper_real merge o it.object

  fine_before : IsFine stack merge
  fine_before = is_fine stack merge it.whole

  top_tree : IsTree merge.upper.tree
  top_tree = (top_open stack merge it.whole).0

  top_directory : IsDirectory merge.upper.tree stack.directory
  top_directory = (top_open stack merge it.whole).1

  abbrev pub from_way : List (List ℕ)
  from_way = (way it.whole f uf old uo it.may.named from_above.real real_o).0

  pub from_number : number_at_path merge.files from_way ≡ Some f
  from_number = (way it.whole f uf old uo it.may.named from_above.real real_o).1

  pub up_from : led merge.upper.tree stack.directory from_way ≡ Some uf
  up_from = up_way it.whole f uf old uo it.may.named from_above.real real_o

  pub named_up : entry_at merge.upper.tree uf old ≡ Some uo
  named_up = named_in_upper it.whole f uf old uo it.may.named from_above.real real_o

  -- names behind the old name, in the overlay and in the upper layer
  pub number_behind : (rest : List (List ℕ))
      → number_at_path merge.files (from_way ++ old ∷ rest) ≡ led merge.files.tree o rest
  number_behind rest = led_parts merge.files.tree from_way (old ∷ rest) merge.files.tree.root f from_number
      ∙ ap (option_and_then (λ n. led merge.files.tree n rest)) it.may.named

  pub led_behind : (rest : List (List ℕ))
      → led merge.upper.tree stack.directory (from_way ++ old ∷ rest) ≡ led merge.upper.tree uo rest
  led_behind rest = cc (led_parts merge.upper.tree from_way (old ∷ rest) stack.directory uf up_from, named_up)

  pub not_up : (names : List (List ℕ)) → led merge.upper.tree uo names ≢ Some uf
  not_up names = no_way_up merge.upper top_tree uf old uo named_up names

  pub not_under : (names : List (List ℕ)) → led merge.upper.tree uo names ≢ Some ut
  not_under names e =
      let found = above_named stack merge it.whole (from_way ++ old ∷ names) ut (led_behind names ∙ e)
      (directory_no_whiteout (merge.upper.tree.node ut) to_above.directory) in
      it.may.not_under names (sym (number_behind names) ∙ found.1
      ∙ ap Some (fine_before.one found.0 t (ap is_some found.2) (found.2 ∙ sym to_above.real)))

  -- the two names are two
  pub two_names : (other : ℕ) (word : List ℕ) → is_entry ut new other word ≡ true → is_entry uf old other word ≡ true
      → ⊥
  two_names other word a b =
      let one = is_that_entry ut new other word a in
      let two = is_that_entry uf old other word b in
      let same : t ≡ f = fine_before.one t f (ap is_some to_above.real) (cc
      (to_above.real, one.0, two.0, from_above.real)) in
      grind (arith, common_steps)

  -- The changed tree, from the upper layer or from the one with a replaced directory emptied
  module _ (base : FileTree ℕ) (alike : (u : ℕ) → IsAlike (merge.upper.tree.node u) (base.tree.node u))
      (left marks : Bool) where
    abbrev pub moved_base : FileTree ℕ
    moved_base = with_moved nat_eq base uf old ut new uo

    abbrev pub left_base : FileTree ℕ
    left_base = name_left_by nat_eq left fresh stack moved_base uf old

    abbrev pub final : FileTree ℕ
    final = with_mark nat_eq marks left_base uo

    moved_alike : (u : ℕ) → IsAlike (merge.upper.tree.node u) (moved_base.tree.node u)
    moved_alike u = alike_both (merge.upper.tree.node u) (base.tree.node u) (moved_base.tree.node u) (alike u)
        (names_leave_inodes base (Move uf old ut new uo) stack.directory u refl)

    moved_vacant : moved_base.tree.node c ≡ None
    moved_vacant = none_from_not_some (moved_base.tree.node c) ((moved_alike c).there ∙ ap is_some it.vacant)

    not_c : (u : ℕ) → is_some (merge.upper.tree.node u) ≡ true → u ≢ c
    not_c u there same = true≢false (cc (there, same, it.vacant))

    abbrev apart : FileTree ℕ
    apart = with_inode nat_eq moved_base c (whiteout_of stack.mounter)

    uf_apart : IsDirectory apart.tree uf
    uf_apart = ap is_directory_node (node_other moved_base.tree c (Some (whiteout_of stack.mounter)) uf
        (not_c uf (directory_used merge.upper.tree uf from_above.directory)))
        ∙ directory_alike (merge.upper.tree.node uf) (moved_base.tree.node uf) (moved_alike uf) ∙ from_above.directory

    told_left : (b : Bool) (other : ℕ) (word : List ℕ)
        → entry_at (name_left_by nat_eq b fresh stack moved_base uf old).tree other word
        ≡ cond (is_entry uf old other word) (when b c) (entry_at moved_base.tree other word)
    told_left true other word = given apart uf old c uf_apart other word
        ∙ ap (λ entries. cond (is_entry uf old other word) (Some c) (entry_named word entries))
        (inode_entries moved_base c (whiteout_of stack.mounter) moved_vacant refl other)
    told_left false other word = taken moved_base uf old other word

    told_marked : (m : Bool) (other : ℕ) (word : List ℕ)
        → entry_at (with_mark nat_eq m left_base uo).tree other word ≡ entry_at left_base.tree other word
    told_marked true other word = ap (entry_named word)
        (entries_stay left_base uo (node_with_mark true) (entries-node_with_mark true) other)
    told_marked false other word = refl

    pub told : (other : ℕ) (word : List ℕ) → entry_at final.tree other word
        ≡ cond (is_entry ut new other word) (Some uo)
        (cond (is_entry uf old other word) (when left c) (entry_at base.tree other word))
    told other word = told_marked marks other word ∙ told_left left other word
        ∙ ap (cond (is_entry uf old other word) (when left c)) (move_told base uf old ut new uo
        (directory_alike (merge.upper.tree.node ut) (base.tree.node ut) (alike ut) ∙ to_above.directory) other word)
        ∙ by (is_entry ut new other word) refl (is_entry uf old other word) refl
      where
        by : (a : Bool) → is_entry ut new other word ≡ a → (b : Bool) → is_entry uf old other word ≡ b
            → cond b (when left c) (cond a (Some uo) (cond b None (entry_at base.tree other word)))
            ≡ cond a (Some uo) (cond b (when left c) (entry_at base.tree other word))
        by true e true g = absurd (two_names other word e g)
        by true e false g = refl
        by false e true g = refl
        by false e false g = refl

    -- inodes
    left_alike : (b : Bool) (u : ℕ) → u ≢ c
        → IsAlike (moved_base.tree.node u) ((name_left_by nat_eq b fresh stack moved_base uf old).tree.node u)
    left_alike true u differ =
        subst (λ n. IsAlike n ((name_left_by nat_eq true fresh stack moved_base uf old).tree.node u))
        (node_other moved_base.tree c (Some (whiteout_of stack.mounter)) u differ)
        (alike_after apart uf (node_with_entry old c) (entry_keeps old c) u)
    left_alike false u differ = alike_after moved_base uf (node_without_entry old) (without_entry_keeps old) u

    pub inode_alike : (u : ℕ) → u ≢ c → IsAlike (merge.upper.tree.node u) (left_base.tree.node u)
    inode_alike u differ =
        alike_both (merge.upper.tree.node u) (moved_base.tree.node u) (left_base.tree.node u) (moved_alike u)
        (left_alike left u differ)

  abbrev untouched : (u : ℕ) → IsAlike (merge.upper.tree.node u) (merge.upper.tree.node u)
  untouched u = alike_same (merge.upper.tree.node u) (merge.upper.tree.node u) refl

  -- Where names lead when nothing is emptied
  module _ (left marks : Bool) where
    abbrev moved : FileTree ℕ
    moved = final merge.upper untouched left marks

    -- between: the old name is gone, or has a whiteout
    abbrev between : FileTree ℕ
    between = name_left_by nat_eq left fresh stack merge.upper uf old

    abbrev apart_upper : FileTree ℕ
    apart_upper = with_inode nat_eq merge.upper c (whiteout_of stack.mounter)

    told_between : (b : Bool) (other : ℕ) (word : List ℕ)
        → entry_at (name_left_by nat_eq b fresh stack merge.upper uf old).tree other word
        ≡ cond (is_entry uf old other word) (when b c) (entry_at merge.upper.tree other word)
    told_between true other word = given apart_upper uf old c
        (ap is_directory_node (node_other merge.upper.tree c (Some (whiteout_of stack.mounter)) uf
        (λ same. true≢false (sym (directory_used merge.upper.tree uf from_above.directory)
        ∙ ap (λ n. is_some (merge.upper.tree.node n)) same ∙ ap is_some it.vacant))) ∙ from_above.directory) other word
        ∙ ap (λ entries. cond (is_entry uf old other word) (Some c) (entry_named word entries))
        (inode_entries merge.upper c (whiteout_of stack.mounter) it.vacant refl other)
    told_between false other word = taken merge.upper uf old other word

    told_moved : (other : ℕ) (word : List ℕ) → entry_at moved.tree other word
        ≡ cond (is_entry ut new other word) (Some uo) (entry_at between.tree other word)
    told_moved other word = cc (told merge.upper untouched left marks other word, told_between left other word)

    leaf : (b : Bool) (k : ℕ) → when b c ≡ Some k → (word : List ℕ)
        → entry_at (name_left_by nat_eq b fresh stack merge.upper uf old).tree k word ≡ None
    leaf false k e word = none_is_some k e
    leaf true k e word = cc (same_Some c k e, told_between true c word, by (is_entry uf old c word) refl)
      where
        by : (x : Bool) → is_entry uf old c word ≡ x → cond x (Some c) (entry_at merge.upper.tree c word) ≡ None
        by true x =
            absurd (true≢false (sym (directory_used merge.upper.tree uf from_above.directory)
            ∙ ap (λ n. is_some (merge.upper.tree.node n)) (sym (is_that_entry uf old c word x).0)
            ∙ ap is_some it.vacant))
        by false x = ap (λ n. entry_named word (entries_in n)) it.vacant

    between_led : (path : List (List ℕ)) (start : ℕ) → led between.tree start path
        ≡ cond (names_entry (view_in merge.upper start) uf old path) (when left c)
        (cond (goes_through (view_in merge.upper start) uf old path) None (led merge.upper.tree start path))
    between_led path start = entry_over merge.upper.tree between.tree uf old (when left c) (told_between left)
        (λ k e names. no_way_up merge.upper top_tree uf old k e names) (leaf left) path start
        ∙ sym (λ i. cond (names_it merge.upper.tree uf old path start i) (when left c)
        (cond (goes_through_it merge.upper.tree uf old path start i) None (led merge.upper.tree start path)))

    -- what leads to the new directory then did so before
    to_before : (path : List (List ℕ)) (start : ℕ) → led between.tree start path ≡ Some ut
        → led merge.upper.tree start path ≡ Some ut
    to_before path start e = by left (names_entry (view_in merge.upper start) uf old path)
        (goes_through (view_in merge.upper start) uf old path) (sym (between_led path start) ∙ e)
      where
        by : (l a b : Bool) → cond a (when l c) (cond b None (led merge.upper.tree start path)) ≡ Some ut
            → led merge.upper.tree start path ≡ Some ut
        by true true b e = grind (arith, common_steps, true≢false, to_above.directory, same_Some)
        by false true b e = none_is_some ut e
        by l false true e = none_is_some ut e
        by l false false e = e

    through_before : (path : List (List ℕ)) (start : ℕ) → goes_through (view_in merge.upper start) ut new path ≡ false
        → goes_through (view_in between start) ut new path ≡ false
    through_before path start none = fails (goes_through (view_in between start) ut new path)
        (λ e. at (through_is_split between start ut new path e))
      where
        at : (to rest : List (List ℕ)) × (to ++ new ∷ rest ≡ path) × (led between.tree start to ≡ Some ut) → ⊥
        at parts = true≢false (sym (prefix_passes (names_entry (view_in merge.upper start) ut new) path
            (parts.0 ++ new ∷ []) parts.1 (append_assoc parts.0 (new ∷ []) parts.1 ∙ parts.2)
            (longer_is_not_empty parts.0 new) (entry_named_so merge.upper start ut new parts.0
            (to_before parts.0 start parts.3))) ∙ none)

    pub moved_elsewhere : (path : List (List ℕ)) (start : ℕ)
        → goes_through (view_in merge.upper start) ut new path ≡ false → led moved.tree start path
        ≡ cond (names_entry (view_in merge.upper start) uf old path) (when left c)
        (cond (goes_through (view_in merge.upper start) uf old path) None (led merge.upper.tree start path))
    moved_elsewhere path start none = beside_led between.tree moved.tree ut new (Some uo) told_moved path start
        (sym (goes_through_it between.tree ut new path start) ∙ through_before path start none) ∙ between_led path start

    -- names go through neither name from under the object
    not_through : (d : ℕ) (name : List ℕ) (start : ℕ)
        → ((names : List (List ℕ)) → led merge.upper.tree start names ≢ Some d) → (path : List (List ℕ))
        → goes_through (view_in merge.upper start) d name path ≡ false
    not_through d name start never path = fails (goes_through (view_in merge.upper start) d name path)
        (λ e. let parts = through_is_split merge.upper start d name path e in never parts.0 parts.3)

    not_named : (d : ℕ) (name : List ℕ) (start : ℕ)
        → ((names : List (List ℕ)) → led merge.upper.tree start names ≢ Some d) → (path : List (List ℕ))
        → names_entry (view_in merge.upper start) d name path ≡ false
    not_named d name start never path = fails (names_entry (view_in merge.upper start) d name path)
        (λ e. let named = is_named merge.upper start d name path e in never named.0 named.2)

    object_led : (rest : List (List ℕ)) → led moved.tree uo rest ≡ led merge.upper.tree uo rest
    object_led rest = moved_elsewhere rest uo (not_through ut new uo not_under rest) ∙ ap (λ b. cond b (when left c)
        (cond (goes_through (view_in merge.upper uo) uf old rest) None (led merge.upper.tree uo rest)))
        (not_named uf old uo not_up rest)
        ∙ ap (λ b. cond b None (led merge.upper.tree uo rest)) (not_through uf old uo not_up rest)

    -- a way to the new directory goes through neither
    pub way_not_new : (to : List (List ℕ)) → led merge.upper.tree stack.directory to ≡ Some ut
        → goes_through before ut new to ≡ false
    way_not_new to e = fails (goes_through before ut new to)
        (λ g. at (through_is_split merge.upper stack.directory ut new to g))
      where
        at : (first rest : List (List ℕ)) × (first ++ new ∷ rest ≡ to)
            × (led merge.upper.tree stack.directory first ≡ Some ut) → ⊥
        at parts =
            let next = found (λ n. led merge.upper.tree n parts.1) (entry_at merge.upper.tree ut new) ut
            (cc (led_parts merge.upper.tree parts.0 (new ∷ parts.1) stack.directory ut parts.3, parts.2, e)) in
            no_way_up merge.upper top_tree ut new next.0 next.1 parts.1 next.2

    pub way_not_old : (to : List (List ℕ)) → led merge.upper.tree stack.directory to ≡ Some ut
        → goes_through before uf old to ≡ false
    way_not_old to e = fails (goes_through before uf old to)
        (λ g. at (through_is_split merge.upper stack.directory uf old to g))
      where
        at : (first rest : List (List ℕ)) × (first ++ old ∷ rest ≡ to)
            × (led merge.upper.tree stack.directory first ≡ Some uf) → ⊥
        at parts = not_under parts.1
            (cc (named_up, led_parts merge.upper.tree parts.0 (old ∷ parts.1) stack.directory uf parts.3, parts.2, e))

    named_not : (d : ℕ) (name : List ℕ) (path : List (List ℕ)) → goes_through before d name path ≡ false
        → names_entry before d name path ≡ false
    named_not d name path none = itself_fails (names_entry before d name) path refl none

    way_led : (to : List (List ℕ)) → led merge.upper.tree stack.directory to ≡ Some ut
        → led moved.tree stack.directory to ≡ Some ut
    way_led to e = moved_elsewhere to stack.directory (way_not_new to e) ∙ ap (λ b. cond b (when left c)
        (cond (goes_through before uf old to) None (led merge.upper.tree stack.directory to)))
        (named_not uf old to (way_not_old to e))
        ∙ ap (λ b. cond b None (led merge.upper.tree stack.directory to)) (way_not_old to e) ∙ e

    pub moved_through : (to rest : List (List ℕ)) → led merge.upper.tree stack.directory to ≡ Some ut
        → led moved.tree stack.directory (to ++ new ∷ rest) ≡ led merge.upper.tree uo rest
    moved_through to rest e = led_parts moved.tree to (new ∷ rest) stack.directory ut (way_led to e)
        ∙ ap (option_and_then (λ n. led moved.tree n rest))
        (told_moved ut new ∙ ap (λ b. cond b (Some uo) (entry_at between.tree ut new)) itself) ∙ object_led rest
      where
        itself : is_entry ut new ut new ≡ true
        itself = ap (λ b. b && bytes_eq new new) (eq-eqb ut ut refl) ∙ bytes_eq_itself new

    -- A replaced directory is not reached
    unreached : (r : ℕ) → upper_directory_named merge t new ≡ Some r → (path : List (List ℕ))
        → led moved.tree stack.directory path ≢ Some r
    unreached r is path e = by (goes_through before ut new path) refl
      where
        own : (k : ℕ) × (entry_at merge.files.tree t new ≡ Some k) × (merge.real k ≡ Some (Upper r))
            × IsDirectory merge.files.tree k
        own = own_upper merge t new r is

        there : is_some (merge.upper.tree.node r) ≡ true
        there = fine_before.upper own.0 r own.2

        named_so : (p : List (List ℕ)) → led merge.upper.tree stack.directory p ≡ Some r
            → names_entry before ut new p ≡ true
        named_so p l = one_named it.whole t ut new r own.1 to_above.real own.2 own.3 p l

        -- behind the object
        behind : (rest : List (List ℕ)) → led merge.upper.tree uo rest ≡ Some r → ⊥
        behind [] l = it.may.replaced_other (own.1 ∙ ap Some (fine_before.one own.0 o (ap is_some own.2)
            (own.2 ∙ ap (λ n. Some (Upper n)) (sym (same_Some uo r l)) ∙ sym real_o)))
        behind (word ∷ rest) l =
            let named = is_named merge.upper stack.directory ut new (from_way ++ old ∷ word ∷ rest)
            (named_so (from_way ++ old ∷ word ∷ rest) (led_behind (word ∷ rest) ∙ l)) in
            let last = last_of (word ∷ rest) (not_empty word rest) in
            not_under last.0 (sym (led_behind last.0) ∙ ap (led merge.upper.tree stack.directory)
            (sym (without_last_of_longer (from_way ++ old
            ∷ last.0) last.1) ∙ ap without_last (append_assoc from_way (old ∷ last.0) (last.1 ∷ [])
            ∙ ap (λ q. from_way ++ old ∷ q) last.2 ∙ sym named.1) ∙ without_last_of_longer named.0 new) ∙ named.2)

        at : (l a b : Bool) → names_entry before uf old path ≡ a → goes_through before ut new path ≡ false
            → cond a (when l c) (cond b None (led merge.upper.tree stack.directory path)) ≡ Some r → ⊥
        at true true b n g e = grind (arith, common_steps, true≢false, there, same_Some)
        at false true b n g e = none_is_some r e
        at l false true n g e = none_is_some r e
        at l false false n g e = true≢false (sym (named_so path e) ∙ named_not ut new path g)

        by : (b : Bool) → goes_through before ut new path ≡ b → ⊥
        by true g =
            let parts = through_is_split merge.upper stack.directory ut new path g in
            behind parts.1 (cc (moved_through parts.0 parts.1 parts.3, parts.2, e))
        by false g = at left (names_entry before uf old path) (goes_through before uf old path) refl g
            (sym (moved_elsewhere path stack.directory g) ∙ e)

    -- so nothing is otherwise when it is emptied
    abbrev pub whole_moved : FileTree ℕ
    whole_moved = final (without_contents nat_eq merge.upper (upper_directory_named merge t new))
        (emptied_alike merge.upper (upper_directory_named merge t new)) left marks

    pub led_emptied : (path : List (List ℕ))
        → led whole_moved.tree stack.directory path ≡ led moved.tree stack.directory path
    led_emptied path = led_where moved.tree whole_moved.tree path stack.directory (λ to inode l word.
        told (without_contents nat_eq merge.upper (upper_directory_named merge t new))
        (emptied_alike merge.upper (upper_directory_named merge t new)) left marks inode word
        ∙ ap (λ x. cond (is_entry ut new inode word) (Some uo) (cond (is_entry uf old inode word) (when left c) x))
        (by (upper_directory_named merge t new) refl to inode l word)
        ∙ sym (told merge.upper untouched left marks inode word))
      where
        by : (x : Option ℕ) → upper_directory_named merge t new ≡ x → (to : List (List ℕ)) (inode : ℕ)
            → led moved.tree stack.directory to ≡ Some inode → (word : List ℕ)
            → entry_at (without_contents nat_eq merge.upper x).tree inode word ≡ entry_at merge.upper.tree inode word
        by None is to inode l word = refl
        by (Some r) is to inode l word =
            emptied_entries merge.upper r inode word (ne_eqb inode r (λ same. unreached r is to (l ∙ ap Some same)))
