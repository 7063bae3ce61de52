-- What lower layers show after a name was removed, and after a move.
use Rattle.std.proofs.Common.{arith, ◌≡◌, ◌≢◌, refl, sym, ap, subst, ◌∙◌, true≢false, eqb-true, eq-eqb, ne_eqb, ℕ, nat_eq, Bool, true, false, cond, List, [], ◌∷◌, ◌++◌, Option, Some, None, is_some}
use Rattle.vt_spec.proofs.Common.{FileTree, Fresh, Merge, Move, Stack, Upper, changed, common_steps, entry_at, hides, hides_directory, is_directory_node, led, led-append, merge_with_moved, merge_without_name, name_left_by, node_other, node_with_mark, none_is_some, number_at_path, shown_in_lowers_at, then_some, upper_directory_named, upper_object, upper_of, whiteout_of, with_inode, with_mark, without_contents}
use Rattle.vt_laws_trees.specs.Trees.{MayMove, MayRemove}
use Rattle.vt_laws_trees.specs.Layers.Layers.ChangesUpper.{StandsInUpper}
use Rattle.vt_laws_trees.specs.Layers.Layers.Mounted.{IsAlike}
use Rattle.vt_laws_trees.specs.Layers.Layers.Views.{CanMove, goes_through, names_entry, view_in}
use Rattle.vt_laws_trees.proofs.layers.layers.CopyingParts.{entry_keeps, without_entry_keeps}
use Rattle.vt_laws_trees.proofs.layers.layers.LowersKept.{kept_elsewhere}
use Rattle.vt_laws_trees.proofs.layers.layers.ShownDirectories.{append_assoc, last_of, longer_is_not_empty}
use Rattle.vt_laws_trees.proofs.layers.layers.ShownFronts.{prefix_passes}
use Rattle.vt_laws_trees.proofs.layers.layers.ShownPaths.{not_empty, one_path}
use Rattle.vt_laws_trees.proofs.layers.views.After.{fails}
use Rattle.vt_laws_trees.proofs.layers.views.Lower.{way_goes_elsewhere}
use Rattle.vt_laws_trees.proofs.layers.views.Moves.{led_parts, moved_leads_on, old_leads_nowhere, through_is_split}
use Rattle.vt_laws_trees.proofs.layers.views.Names.{alike_after, alike_both, alike_same, names_leave_inodes, no_entries, remove_takes_path}
use Rattle.vt_laws_trees.specs.Overlays.WhatIsShown.{IsWhole}
use Rattle.vt_laws_trees.proofs.overlays.steps.WholeAttributes.{upper_real}
use Rattle.vt_laws_trees.proofs.overlays.steps.WholeGrown.{directory_alike}
use Rattle.vt_laws_trees.proofs.overlays.steps.WholeLeft.{emptied_alike}
use Rattle.vt_laws_trees.proofs.overlays.steps.WholeLinked.{file_hides}
use Rattle.vt_laws_trees.proofs.overlays.steps.WholeNames.{directory_stands, entry_named_so, through_bare, through_free}
use Rattle.vt_laws_worlds.specs.Merging.UpperChanges.{LeadsToDirectory, seen_below}
use Rattle.vt_laws_worlds.specs.Merging.BelowChanges.{LiesUnder}
use Rattle.vt_laws_worlds.proofs.merging.upper.BelowKept.{HidesAsBefore, hides_kept, kept_below, led_is, none_below, same_cuts, uncut_prefix, under_mark}
use Rattle.vt_laws_worlds.proofs.merging.upper.BelowMade.{marked_hides, not_named}

-- Paths under a name of a directory go through its entry, and the other way.
module _ (stack : Stack ℕ) (m : Merge ℕ) (whole : IsWhole stack m) (path : List (List ℕ)) (d : ℕ)
    (is : LeadsToDirectory m path d) (w : List ℕ) where
  pub under_through : (p : List (List ℕ)) → LiesUnder (path ++ w ∷ []) p
      → (way : List (List ℕ)) × (name : List ℕ) × (way ++ name ∷ [] ≡ p)
      × (goes_through (view_in m.files m.files.tree.root) d w way ≡ true)
  under_through p under =
      let last = last_of (under.0 ∷ under.1) (not_empty under.0 under.1) in (
        (path ++ w ∷ []) ++ last.0,
        last.1,
        append_assoc (path ++ w ∷ []) last.0 (last.1 ∷ []) ∙ ap (λ r. (path ++ w ∷ []) ++ r) last.2 ∙ under.2,
        prefix_passes (names_entry (view_in m.files m.files.tree.root) d w) ((path ++ w ∷ []) ++ last.0)
            (path ++ w ∷ []) last.0 refl (longer_is_not_empty path w)
            (entry_named_so m.files m.files.tree.root d w path is.0),
      )

  pub through_under : (way : List (List ℕ)) (name : List ℕ)
      → goes_through (view_in m.files m.files.tree.root) d w way ≡ true → LiesUnder (path ++ w ∷ []) (way ++ name ∷ [])
  through_under way name through =
      let parts = through_is_split m.files m.files.tree.root d w way through in
      let same = one_path m.files.tree whole.tree m.files.tree.root parts.0 path d parts.3 is.0 is.1 in
      by parts.1 (append_assoc path (w ∷ []) (parts.1 ++ name ∷ [])
      ∙ ap (λ p. p ++ w ∷ (parts.1 ++ name ∷ [])) (sym same) ∙ sym (append_assoc parts.0 (w ∷ parts.1) (name ∷ []))
      ∙ ap (λ p. p ++ name ∷ []) parts.2)
    where
      by : (rest : List (List ℕ)) → (path ++ w ∷ []) ++ (rest ++ name ∷ []) ≡ way ++ name ∷ []
          → LiesUnder (path ++ w ∷ []) (way ++ name ∷ [])
      by [] e = (name, [], e)
      by (word ∷ rest) e = (word, rest ++ name ∷ [], e)

-- what is left of a name: the inodes of the upper layer, but for a whiteout, are as they were
left_alike : (fresh : Fresh ℕ) (stack : Stack ℕ) (upper : FileTree ℕ) (b : Bool) (directory : ℕ) (name : List ℕ) (u : ℕ)
    → u ≢ fresh 0 → IsAlike (upper.tree.node u) ((name_left_by nat_eq b fresh stack upper directory name).tree.node u)
left_alike fresh stack upper true directory name u differ =
    let white = with_inode nat_eq upper (fresh 0) (whiteout_of stack.mounter) in
    alike_both _ _ _ (alike_same _ _ (node_other upper.tree _ (Some (whiteout_of stack.mounter)) u differ))
    (alike_after white directory _ (entry_keeps name (fresh 0)) u)
left_alike fresh stack upper false directory name u differ = alike_after upper directory _ (without_entry_keeps name) u

-- A removed name
module _ (fresh : Fresh ℕ) {stack : Stack ℕ} {m : Merge ℕ} (whole : IsWhole stack m) {d : ℕ} {w : List ℕ}
    {object : ℕ} (vacant : m.upper.tree.node (fresh 0) ≡ None) (may : MayRemove m.files.tree d w object)
    (whole_later : IsWhole stack (merge_without_name nat_eq fresh stack m d w object)) where
  abbrev later : Merge ℕ
  later = merge_without_name nat_eq fresh stack m d w object

  number_later : (path : List (List ℕ)) → number_at_path later.files path
      ≡ cond (names_entry (view_in m.files m.files.tree.root) d w path) None (number_at_path m.files path)
  number_later path = remove_takes_path m.files m.files.tree.root d object w may.named may.empty path

  alike : (u : ℕ) → is_some (m.upper.tree.node u) ≡ true → IsAlike (m.upper.tree.node u) (later.upper.tree.node u)
  alike u used =
      let left = name_left_by nat_eq (is_some (shown_in_lowers_at nat_eq stack m d w)) fresh stack m.upper
      (upper_of m d) w in
      alike_both _ _ _ (left_alike fresh stack m.upper (is_some (shown_in_lowers_at nat_eq stack m d w)) (upper_of m d)
      w u (λ same. true≢false (cc))) (emptied_alike left (upper_directory_named m d w) u)

  pub removed_kept : (way : List (List ℕ)) (name : List ℕ)
      → goes_through (view_in m.files m.files.tree.root) d w way ≡ false
      → seen_below stack later.upper (way ++ name ∷ []) ≡ seen_below stack m.upper (way ++ name ∷ [])
  removed_kept way name none = kept_below stack m later whole whole_later way name (λ front rest is. number_later front
      ∙ ap (λ b. cond b None (number_at_path m.files front)) (not_named m.files d w way front rest is none))
      (λ front rest n is leads. hides_kept stack m later whole whole_later n refl
      (λ u r. alike u (whole.shown.upper_there n u r)))

  pub removed_ends : (way : List (List ℕ)) (name : List ℕ)
      → goes_through (view_in m.files m.files.tree.root) d w way ≡ true
      → seen_below stack later.upper (way ++ name ∷ []) ≡ None
  removed_ends way name through = none_below stack later whole_later way name
      (λ k is c. by (names_entry (view_in m.files m.files.tree.root) d w way) refl k (sym (number_later way) ∙ is.0))
    where
      by : (b : Bool) → names_entry (view_in m.files m.files.tree.root) d w way ≡ b → (k : ℕ)
          → cond b None (number_at_path m.files way) ≡ Some k → ⊥
      by true e k leads = none_is_some k leads
      by false e k leads = none_is_some k (sym (through_bare m.files m.files.tree.root d object w may.named
          (no_entries m.files.tree object may.empty) way through e) ∙ leads)

-- A move
module _ (fresh : Fresh ℕ) (stack : Stack ℕ) (m : Merge ℕ) (whole : IsWhole stack m) (f : ℕ) (old : List ℕ) (t : ℕ)
    (new : List ℕ) (o : ℕ) (stands : StandsInUpper m o) (vacant : m.upper.tree.node (fresh 0) ≡ None)
    (may : MayMove m.files.tree f old t new o)
    (whole_later : IsWhole stack (merge_with_moved nat_eq fresh stack m f old t new o))
    (from : List (List ℕ)) (from_leads : number_at_path m.files from ≡ Some f) where
  abbrev then_moved : Merge ℕ
  then_moved = merge_with_moved nat_eq fresh stack m f old t new o

  abbrev uo : ℕ
  uo = upper_of m o

  real_o : m.real o ≡ Some (Upper uo)
  real_o = upper_real m o stands

  abbrev empty : FileTree ℕ
  empty = without_contents nat_eq m.upper (upper_directory_named m t new)

  abbrev unmarked : FileTree ℕ
  unmarked = name_left_by nat_eq (is_some (shown_in_lowers_at nat_eq stack m f old)) fresh stack
      (changed nat_eq empty (Move (upper_of m f) old (upper_of m t) new uo)) (upper_of m f) old

  unmarked_alike : (u : ℕ) → u ≢ fresh 0 → IsAlike (m.upper.tree.node u) (unmarked.tree.node u)
  unmarked_alike u differ =
      let at_new = changed nat_eq empty (Move (upper_of m f) old (upper_of m t) new uo) in
      alike_both _ _ _ (alike_both _ _ _ (emptied_alike m.upper (upper_directory_named m t new) u)
      (names_leave_inodes empty (Move (upper_of m f) old (upper_of m t) new uo) empty.tree.root u refl))
      (left_alike fresh stack at_new (is_some (shown_in_lowers_at nat_eq stack m f old)) (upper_of m f) old u differ)

  not_white : (u : ℕ) → is_some (m.upper.tree.node u) ≡ true → u ≢ fresh 0
  not_white u used same = true≢false (cc)

  alike_moved : (b : Bool) (u : ℕ) → u ≢ fresh 0 → u ≢ uo
      → IsAlike (m.upper.tree.node u) ((with_mark nat_eq b unmarked uo).tree.node u)
  alike_moved true u differ other = alike_both _ _ _ (unmarked_alike u differ)
      (alike_same _ _ (kept_elsewhere unmarked uo (node_with_mark true) u (ne_eqb u uo other)))
  alike_moved false u differ other = unmarked_alike u differ

  can : CanMove m.files.tree f old t new o
  can = record {
    named = may.named;
    in_directory = may.in_directory;
    not_under = may.not_under;
    replaced_empty = may.replaced_empty;
  }

  number_is : (path : List (List ℕ))
      → number_at_path then_moved.files path ≡ led then_moved.files.tree m.files.tree.root path
  number_is path = grind (arith, common_steps)

  abbrev through_old : List (List ℕ) → Bool
  through_old path = goes_through (view_in m.files m.files.tree.root) f old path

  abbrev through_new : List (List ℕ) → Bool
  through_new path = goes_through (view_in m.files m.files.tree.root) t new path

  number_else : (path : List (List ℕ)) → through_new path ≡ false
      → number_at_path then_moved.files path ≡ cond (through_old path) None (number_at_path m.files path)
  number_else path none = number_is path ∙ old_leads_nowhere m.files m.files.tree.root f t o old new can path none

  elsewhere : (way : List (List ℕ)) → through_new way ≡ false → through_old way ≡ false
      → (front rest : List (List ℕ)) → front ++ rest ≡ way
      → number_at_path then_moved.files front ≡ number_at_path m.files front
  elsewhere way no_new no_old front rest is = cc (
    number_else front (uncut_prefix (names_entry (view_in m.files m.files.tree.root) t new) way front rest is no_new),
    uncut_prefix (names_entry (view_in m.files m.files.tree.root) f old) way front rest is no_old,
  )

  -- what is moved is at no front of another way, if it is a directory, and hides what it hid, if it is none
  hiding : (way : List (List ℕ)) → through_old way ≡ false → (front rest : List (List ℕ)) (n : ℕ) → front ++ rest ≡ way
      → number_at_path m.files front ≡ Some n → HidesAsBefore stack m then_moved whole whole_later n
  hiding way no_old front rest n is leads = by (nat_eq n o) refl
    where
      own : (b : Bool) → is_directory_node (m.files.tree.node o) ≡ b → n ≡ o
          → HidesAsBefore stack m then_moved whole whole_later n
      own true d same =
          let here = one_path m.files.tree whole.tree m.files.tree.root front (from ++ old ∷ []) o
          (leads ∙ ap Some same) (led-append m.files.tree m.files.tree.root from old f o from_leads may.named) d in
          absurd (true≢false (sym (prefix_passes (names_entry (view_in m.files m.files.tree.root) f old) way
          (from ++ old ∷ []) rest (ap (λ p. p ++ rest) (sym here) ∙ is) (longer_is_not_empty from old)
          (entry_named_so m.files m.files.tree.root f old from from_leads)) ∙ no_old))
      own false d same =
          let files_same = directory_alike (m.files.tree.node o) (then_moved.files.tree.node o)
          (names_leave_inodes m.files (Move f old t new o) m.files.tree.root o refl) in
          subst (HidesAsBefore stack m then_moved whole whole_later) (sym same)
          (ap (λ r. hides (then_some (upper_object r) then_moved.upper.tree.node)) real_o
          ∙ file_hides (then_moved.upper.tree.node uo) (whole_later.shown.upper_there o uo real_o)
          (directory_stands stack then_moved whole_later o uo real_o ∙ files_same ∙ d)
          ∙ sym (ap (λ r. hides (then_some (upper_object r) m.upper.tree.node)) real_o
          ∙ file_hides (m.upper.tree.node uo) (whole.shown.upper_there o uo real_o)
          (directory_stands stack m whole o uo real_o ∙ d)))

      by : (b : Bool) → nat_eq n o ≡ b → HidesAsBefore stack m then_moved whole whole_later n
      by true e = own (is_directory_node (m.files.tree.node o)) refl (eqb-true n o e)
      by false e = hides_kept stack m then_moved whole whole_later n refl
          (λ u r. alike_moved (hides_directory nat_eq stack m t new) u (not_white u (whole.shown.upper_there n u r))
          (λ same. true≢false (sym (eq-eqb n o (whole.shown.one_to_one n o (ap is_some r)
          (r ∙ ap (λ k. Some (Upper k)) same ∙ sym real_o))) ∙ e)))

  pub moved_kept : (way : List (List ℕ)) (name : List ℕ) → through_new way ≡ false → through_old way ≡ false
      → seen_below stack then_moved.upper (way ++ name ∷ []) ≡ seen_below stack m.upper (way ++ name ∷ [])
  moved_kept way name no_new no_old =
      kept_below stack m then_moved whole whole_later way name (elsewhere way no_new no_old) (hiding way no_old)

  pub old_ends : (way : List (List ℕ)) (name : List ℕ) → through_new way ≡ false → through_old way ≡ true
      → seen_below stack then_moved.upper (way ++ name ∷ []) ≡ None
  old_ends way name no_new through = none_below stack then_moved whole_later way name (λ k is c. none_is_some k
      (sym (number_else way no_new ∙ ap (λ b. cond b None (number_at_path m.files way)) through) ∙ is.0))

  -- the way to the new directory goes through neither name
  to_not_old : (to : List (List ℕ)) → number_at_path m.files to ≡ Some t → through_old to ≡ false
  to_not_old to leads = fails _ (λ through.
      let parts = through_is_split m.files m.files.tree.root f old to through in
      may.not_under parts.1 (cc (led_parts m.files.tree parts.0 (old ∷ parts.1) m.files.tree.root f parts.3)))

  to_not_new : (to : List (List ℕ)) → number_at_path m.files to ≡ Some t → through_new to ≡ false
  to_not_new to leads = by (entry_at m.files.tree t new) refl
    where
      by : (x : Option ℕ) → entry_at m.files.tree t new ≡ x → through_new to ≡ false
      by None e = fails (through_new to)
          (λ through. none_is_some t (sym (through_free m.files m.files.tree.root t new e to through) ∙ leads))
      by (Some r) e = way_goes_elsewhere m.files m.files.tree.root t new whole.tree r e to leads

  pub new_ends : (way : List (List ℕ)) (name : List ℕ) → through_new way ≡ true
      → seen_below stack then_moved.upper (way ++ name ∷ []) ≡ None
  new_ends way name through =
      let parts = through_is_split m.files m.files.tree.root t new way through in
      ap (λ p. seen_below stack then_moved.upper (p ++ name ∷ [])) (sym parts.2) ∙ at parts.0 parts.1 parts.3
    where
      at : (to rest : List (List ℕ)) → number_at_path m.files to ≡ Some t
          → seen_below stack then_moved.upper ((to ++ new ∷ rest) ++ name ∷ []) ≡ None
      at to rest leads = ap (seen_below stack then_moved.upper) (append_assoc to (new ∷ rest) (name ∷ [])) ∙ by rest
        where
          leads_new : number_at_path then_moved.files (to ++ new ∷ []) ≡ Some o
          leads_new = number_is (to ++ new ∷ [])
              ∙ moved_leads_on m.files m.files.tree.root f t o old new whole.tree can to [] leads

          under : (word : List ℕ) (rest : List (List ℕ))
              → seen_below stack then_moved.upper (to ++ new ∷ word ∷ rest) ≡ None
          under = under_mark stack m then_moved whole whole_later to new t (leads, may.in_directory)
              (same_cuts stack m then_moved whole whole_later to t leads
              (elsewhere to (to_not_new to leads) (to_not_old to leads)) (hiding to (to_not_old to leads))) uo
              (led_is stack then_moved whole_later (to ++ new ∷ []) o leads_new ∙ ap upper_object real_o)
              (λ h. marked_hides unmarked uo (hides_directory nat_eq stack m t new) h
              ((unmarked_alike uo (not_white uo (whole.shown.upper_there o uo real_o))).there
              ∙ whole.shown.upper_there o uo real_o))

          by : (rest : List (List ℕ)) → seen_below stack then_moved.upper (to ++ new ∷ (rest ++ name ∷ [])) ≡ None
          by [] = under name []
          by (word ∷ rest) = under word (rest ++ name ∷ [])
