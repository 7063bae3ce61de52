-- What lower layers show after a whole change, with the copies that it needs.
use Rattle.std.proofs.Common.{◌≡◌, refl, sym, ap, subst, ◌∙◌, true≢false, inl, inr, ◌⊎◌, ⊎_elim, ℕ, nat_eq, Bool, true, false, List, [], ◌∷◌, ◌++◌, Some, None, Option, option_and_then, ◌≢◌}
use Rattle.vt_spec.proofs.Common.{AddName, Change, FileTree, Fresh, IsDirectory, Make, Merge, Move, Remove, Stack, copied_up, cuts, directory_used, entry_at, evens, is_directory_shown, led, merge_changed, none_is_some, number_at_path, odds, odds-distinct, same_Some, upper_of, without_last}
use Rattle.vt_laws_trees.specs.Trees.{MayAddName, MayMake, MayMove, MayRemove}
use Rattle.vt_laws_trees.specs.Layers.Layers.Upper.{IsThere}
use Rattle.vt_laws_trees.specs.Layers.Layers.Views.{goes_through, view_in}
use Rattle.vt_laws_trees.proofs.layers.layers.ShownDirectories.{append_assoc, last_of}
use Rattle.vt_laws_trees.proofs.layers.layers.ShownFronts.{cons_is_not_empty}
use Rattle.vt_laws_trees.proofs.layers.layers.ShownPaths.{not_empty}
use Rattle.vt_laws_trees.proofs.layers.layers.UpperShown.{without_last_of_longer}
use Rattle.vt_laws_trees.proofs.layers.views.Moves.{led_parts}
use Rattle.vt_laws_trees.proofs.layers.views.Names.{no_entries}
use Rattle.vt_laws_trees.proofs.layers.layers.UpperLine.{has_entries}
use Rattle.vt_laws_trees.specs.Overlays.WhatIsShown.{IsWhole}
use Rattle.vt_laws_trees.specs.Overlays.WholeChanges.{IsAskedWell}
use Rattle.vt_laws_trees.proofs.overlays.whole.UpperWhole.{changes_keep_whole}
use Rattle.vt_laws_trees.proofs.overlays.steps.WholeLines.{object_copied}
use Rattle.vt_laws_trees.proofs.overlays.steps.WholeNames.{through_free}
use Rattle.vt_laws_trees.proofs.overlays.changes.WholeTogether.{IsReadyToMove, both_copied, is_copied, stands_now, still_unused, twice}
use Rattle.vt_laws_worlds.specs.Merging.UpperChanges.{AreNew, LeadsToDirectory, directory_below, layers_with, seen_below}
use Rattle.vt_laws_worlds.specs.Merging.UpperCalls.{Asks, ChangeAt}
use Rattle.vt_laws_worlds.specs.Merging.UpperCalls.Asks.{copies, links, makes, moves, removes, sets_attr, sets_bytes, sets_mark}
use Rattle.vt_laws_worlds.specs.Merging.BelowChanges.{BelowEnds, BelowNames, BelowNew, BelowStays, IsEnded, IsGiven, LiesUnder}
use Rattle.vt_laws_worlds.proofs.merging.upper.BelowKept.{none_below}
use Rattle.vt_laws_worlds.proofs.merging.upper.BelowMade.{at_each_path, attr_below, bytes_below, copied_below, linked_below, made_below}
use Rattle.vt_laws_worlds.proofs.merging.upper.BelowRemoved.{moved_kept, new_ends, old_ends, removed_ends, removed_kept, through_under, under_through}
use Rattle.vt_laws_worlds.proofs.merging.upper.UpperKinds.{even_new}
use Rattle.vt_laws_worlds.proofs.merging.upper.Places.{directory_below_any}
use Rattle.vt_laws_worlds.proofs.merging.upper.Worlds.{changes_are_by_layers}

module _ (fresh : Fresh ℕ) (stack : Stack ℕ) (merge : Merge ℕ) (whole : IsWhole stack merge)
    (new : AreNew fresh merge.upper) where
  whole_after : (change : Change ℕ) → IsAskedWell stack merge change
      → IsWhole stack (merge_changed nat_eq fresh stack merge change)
  whole_after change asked = changes_keep_whole fresh stack merge change whole
      (record { distinct = new.distinct; unused = new.unused }) asked

  -- an object that is copied by even numbers
  evens_below : (object : ℕ) → IsThere merge.files object → (path : List (List ℕ))
      → seen_below stack (copied_up nat_eq (evens fresh) merge object).upper path ≡ seen_below stack merge.upper path
  evens_below object there = copied_below (evens fresh) stack merge whole (even_new fresh merge.upper new) object there

  odds_new : (object : ℕ) → IsThere merge.files object
      → AreNew (odds fresh) (copied_up nat_eq (evens fresh) merge object).upper
  odds_new object there = record {
    distinct = odds-distinct fresh new.distinct;
    unused = still_unused fresh whole new.distinct new.unused object there;
  }

  -- A removed name
  module _ (path : List (List ℕ)) (d object : ℕ) (w : List ℕ) (is : LeadsToDirectory merge path d)
      (may : MayRemove merge.files.tree d w object) where
    there : IsThere merge.files d
    there = directory_used merge.files.tree d is.1

    abbrev one : Merge ℕ
    one = copied_up nat_eq (evens fresh) merge d

    one_whole : IsWhole stack one
    one_whole = (is_copied fresh whole new.distinct new.unused d there).whole

    one_files : one.files ≡ merge.files
    one_files = (is_copied fresh whole new.distinct new.unused d there).files

    one_is : LeadsToDirectory one path d
    one_is = (
      ap (λ files. number_at_path files path) one_files ∙ is.0,
      subst (λ files. IsDirectory files.tree d) (sym one_files) is.1,
    )

    one_may : MayRemove one.files.tree d w object
    one_may = subst (λ files. MayRemove files.tree d w object) (sym one_files) may

    abbrev after_remove : FileTree ℕ
    after_remove = (merge_changed nat_eq fresh stack merge (Remove d w object)).upper

    remove_keeps : (p : List (List ℕ)) → ¬ (LiesUnder (path ++ w ∷ []) p)
        → seen_below stack after_remove p ≡ seen_below stack merge.upper p
    remove_keeps p out = at_each_path (λ p. ¬ (LiesUnder (path ++ w ∷ []) p)
        → seen_below stack after_remove p ≡ seen_below stack one.upper p) (λ out. refl)
        (λ way name out. by way name out (goes_through (view_in one.files one.files.tree.root) d w way) refl) p out
        ∙ evens_below d there p
      where
        by : (way : List (List ℕ)) (name : List ℕ) → ¬ (LiesUnder (path ++ w ∷ []) (way ++ name ∷ [])) → (b : Bool)
            → goes_through (view_in one.files one.files.tree.root) d w way ≡ b
            → seen_below stack after_remove (way ++ name ∷ []) ≡ seen_below stack one.upper (way ++ name ∷ [])
        by way name out true e = absurd (out (through_under stack one one_whole path d one_is w way name e))
        by way name out false e = removed_kept (odds fresh) one_whole
            (still_unused fresh whole new.distinct new.unused d there 0) one_may
            (whole_after (Remove d w object) may) way name e

    remove_ends : (p : List (List ℕ)) → LiesUnder (path ++ w ∷ []) p → seen_below stack after_remove p ≡ None
    remove_ends p under =
        let found = under_through stack one one_whole path d one_is w p under in
        ap (seen_below stack after_remove) (sym found.2) ∙ removed_ends (odds fresh) one_whole
        (still_unused fresh whole new.distinct new.unused d there 0) one_may
        (whole_after (Remove d w object) may) found.0 found.1 found.3

  -- A move
  module _ (from_path to_path : List (List ℕ)) (f t o : ℕ) (old new_name : List ℕ)
      (from_leads : number_at_path merge.files from_path ≡ Some f)
      (to_leads : number_at_path merge.files to_path ≡ Some t)
      (asked : IsAskedWell stack merge (Move f old t new_name o)) where
    abbrev two : Merge ℕ
    two = both_copied fresh stack merge f old t new_name o

    ready : IsReadyToMove fresh stack merge f old t new_name o two
    ready = twice fresh stack merge whole new.distinct new.unused f old t new_name o asked.0

    from_is : LeadsToDirectory two from_path f
    from_is = (
      ap (λ files. number_at_path files from_path) ready.files ∙ from_leads,
      subst (λ files. IsDirectory files.tree f) (sym ready.files) (has_entries merge.files.tree f old o asked.0.named),
    )

    to_is : LeadsToDirectory two to_path t
    to_is = (
      ap (λ files. number_at_path files to_path) ready.files ∙ to_leads,
      subst (λ files. IsDirectory files.tree t) (sym ready.files) asked.0.in_directory,
    )

    abbrev after_move : FileTree ℕ
    after_move = (merge_changed nat_eq fresh stack merge (Move f old t new_name o)).upper

    abbrev through_from : List (List ℕ) → Bool
    through_from way = goes_through (view_in two.files two.files.tree.root) f old way

    abbrev through_to : List (List ℕ) → Bool
    through_to way = goes_through (view_in two.files two.files.tree.root) t new_name way

    copies_below : (p : List (List ℕ)) → seen_below stack two.upper p ≡ seen_below stack merge.upper p
    copies_below p =
        let o_there = whole.tree.alive f old o asked.0.named in
        let first = is_copied fresh whole new.distinct new.unused o o_there in
        copied_below (evens (odds fresh)) stack (copied_up nat_eq (evens fresh) merge o) first.whole
        (even_new (odds fresh) (copied_up nat_eq (evens fresh) merge o).upper (odds_new o o_there)) t
        (subst (λ files. IsThere files t) (sym first.files) (directory_used merge.files.tree t asked.0.in_directory)) p
        ∙ evens_below o o_there p

    move_keeps : (p : List (List ℕ)) → ¬ (LiesUnder (from_path ++ old ∷ []) p)
        → ¬ (LiesUnder (to_path ++ new_name ∷ []) p) → seen_below stack after_move p ≡ seen_below stack merge.upper p
    move_keeps p no_old no_new =
        at_each_path (λ p. ¬ (LiesUnder (from_path ++ old ∷ []) p) → ¬ (LiesUnder (to_path ++ new_name ∷ []) p)
        → seen_below stack after_move p ≡ seen_below stack two.upper p) (λ no_old no_new. refl)
        (λ way name no_old no_new. by way name no_old no_new (through_to way) refl (through_from way) refl)
        p no_old no_new ∙ copies_below p
      where
        by : (way : List (List ℕ)) (name : List ℕ) → ¬ (LiesUnder (from_path ++ old ∷ []) (way ++ name ∷ []))
            → ¬ (LiesUnder (to_path ++ new_name ∷ []) (way ++ name ∷ []))
            → (a : Bool) → through_to way ≡ a → (b : Bool) → through_from way ≡ b
            → seen_below stack after_move (way ++ name ∷ []) ≡ seen_below stack two.upper (way ++ name ∷ [])
        by way name no_old no_new true a b e =
            absurd (no_new (through_under stack two ready.whole to_path t to_is new_name way name a))
        by way name no_old no_new false a true e =
            absurd (no_old (through_under stack two ready.whole from_path f from_is old way name e))
        by way name no_old no_new false a false e =
            moved_kept (odds (odds fresh)) stack two ready.whole f old t new_name o ready.object ready.vacant ready.may
            (whole_after (Move f old t new_name o) asked) from_path from_is.0 way name a e

    ends : (way : List (List ℕ)) (name : List ℕ) → (a : Bool) → through_to way ≡ a → (b : Bool)
        → through_from way ≡ b → (a ≡ true) ⊎ (b ≡ true) → seen_below stack after_move (way ++ name ∷ []) ≡ None
    ends way name true a b e some =
        new_ends (odds (odds fresh)) stack two ready.whole f old t new_name o ready.object ready.vacant ready.may
        (whole_after (Move f old t new_name o) asked) from_path from_is.0 way name a
    ends way name false a true e some =
        old_ends (odds (odds fresh)) stack two ready.whole f old t new_name o ready.object ready.vacant ready.may
        (whole_after (Move f old t new_name o) asked) from_path from_is.0 way name a e
    ends way name false a false e some = absurd (⊎_elim (λ t. true≢false (sym t)) (λ t. true≢false (sym t)) some)

    move_ends_old : (p : List (List ℕ)) → LiesUnder (from_path ++ old ∷ []) p → seen_below stack after_move p ≡ None
    move_ends_old p under =
        let found = under_through stack two ready.whole from_path f from_is old p under in
        ap (seen_below stack after_move) (sym found.2)
        ∙ ends found.0 found.1 (through_to found.0) refl (through_from found.0) refl (inr found.3)

    move_ends_new : (p : List (List ℕ)) → LiesUnder (to_path ++ new_name ∷ []) p → seen_below stack after_move p ≡ None
    move_ends_new p under =
        let found = under_through stack two ready.whole to_path t to_is new_name p under in
        ap (seen_below stack after_move) (sym found.2)
        ∙ ends found.0 found.1 (through_to found.0) refl (through_from found.0) refl (inl found.3)

  -- Each change
  kept : (change : Change ℕ) (at : ChangeAt) → Asks merge change at → IsAskedWell stack merge change
      → (p : List (List ℕ)) → ((top : List (List ℕ)) → IsEnded at top → ¬ (LiesUnder top p))
      → seen_below stack (merge_changed nat_eq fresh stack merge change).upper p ≡ seen_below stack merge.upper p
  kept change at (makes path d w number node is) asked p out =
      let there = directory_used merge.files.tree d is.1 in
      let one = is_copied fresh whole new.distinct new.unused d there in
      made_below (odds fresh) one.whole (stands_now fresh whole new.distinct new.unused d there)
      (still_unused fresh whole new.distinct new.unused d there 0)
      (subst (λ files. MayMake files.tree d w number node) (sym one.files) asked.0)
      (whole_after (Make d w number node) asked) p ∙ evens_below d there p
  kept change at (links place path d object w is used) asked p out =
      let first = is_copied fresh whole new.distinct new.unused object asked.is_there in
      let one = copied_up nat_eq (evens fresh) merge object in
      let two = odds_new object asked.is_there in
      let there = subst (λ files. IsThere files d) (sym first.files) (directory_used merge.files.tree d is.1) in
      let second = object_copied stack (odds fresh) two.distinct one d first.whole two.unused there in
      linked_below second.copied.whole
      (subst (λ files. MayAddName files.tree d w object) (sym (second.copied.files ∙ first.files)) asked)
      (whole_after (AddName d w object) asked) p ∙ copied_below (odds fresh) stack one first.whole two d there p
      ∙ evens_below object asked.is_there p
  kept change at (removes path d object w is) asked p out =
      remove_keeps path d object w is asked p (out (path ++ w ∷ []) refl)
  kept change at (moves from_path to_path f t o old new_name from_leads to_leads may) asked p out =
      move_keeps from_path to_path f t o old new_name from_leads to_leads asked p
      (out (from_path ++ old ∷ []) (inl refl)) (out (to_path ++ new_name ∷ []) (inr refl))
  kept change at (sets_bytes file place bytes is) asked p out =
      let one = object_copied stack fresh new.distinct merge file whole new.unused asked in
      bytes_below stack (copied_up nat_eq fresh merge file) one.copied.whole
      (upper_of (copied_up nat_eq fresh merge file) file) bytes p
      ∙ copied_below fresh stack merge whole new file asked p
  kept change at (sets_attr object place attr is) asked p out =
      let one = object_copied stack fresh new.distinct merge object whole new.unused asked in
      attr_below stack (copied_up nat_eq fresh merge object) one.copied.whole
      (upper_of (copied_up nat_eq fresh merge object) object) attr p
      ∙ copied_below fresh stack merge whole new object asked p
  kept change at (sets_mark directory place opaque is) asked p out = absurd asked
  kept change at (copies object place is) asked p out = copied_below fresh stack merge whole new object asked p

  ended : (change : Change ℕ) (at : ChangeAt) → Asks merge change at → IsAskedWell stack merge change
      → (top p : List (List ℕ)) → IsEnded at top → LiesUnder top p
      → seen_below stack (merge_changed nat_eq fresh stack merge change).upper p ≡ None
  ended change at (makes path d w number node is) asked top p e under = absurd e
  ended change at (links place path d object w is used) asked top p e under = absurd e
  ended change at (removes path d object w is) asked top p e under =
      remove_ends path d object w is asked p (subst (λ q. LiesUnder q p) e under)
  ended change at (moves from_path to_path f t o old new_name from_leads to_leads may) asked top p e under = ⊎_elim
      (λ same. move_ends_old from_path to_path f t o old new_name from_leads to_leads asked p
      (subst (λ q. LiesUnder q p) same under))
      (λ same. move_ends_new from_path to_path f t o old new_name from_leads to_leads asked p
      (subst (λ q. LiesUnder q p) same under)) e
  ended change at (sets_bytes file place bytes is) asked top p e under = absurd e
  ended change at (sets_attr object place attr is) asked top p e under = absurd e
  ended change at (sets_mark directory place opaque is) asked top p e under = absurd e
  ended change at (copies object place is) asked top p e under = absurd e

pub below_stays : BelowStays
below_stays fresh stack merge whole new change at path asked asks out =
    let later = merge_changed nat_eq fresh stack merge change in
    let same = changes_are_by_layers fresh stack merge whole new change at asks in
    let seen = kept fresh stack merge whole new change at asks asked path out in (
      ap (λ u. seen_below stack u path) (sym same) ∙ seen,
      ap (λ u. directory_below stack u path) (sym same) ∙ ap (is_directory_shown (layers_with stack later.upper)) seen
          ∙ directory_below_any (record { tree = later.upper.tree; directory = stack.directory })
          (record { tree = merge.upper.tree; directory = stack.directory }) stack.lowers path
          (cuts (view_in merge.upper stack.directory) (without_last path)),
    )

pub below_ends : BelowEnds
below_ends fresh stack merge whole new change at top path asked asks e under =
    ap (λ u. seen_below stack u path) (sym (changes_are_by_layers fresh stack merge whole new change at asks))
    ∙ ended fresh stack merge whole new change at asks asked top path e under

-- Under a name that is free lower layers show nothing.
free_none : (stack : Stack ℕ) (merge : Merge ℕ) → IsWhole stack merge → (path : List (List ℕ)) (d : ℕ) (w : List ℕ)
    → LeadsToDirectory merge path d → entry_at merge.files.tree d w ≡ None
    → (p : List (List ℕ)) → LiesUnder (path ++ w ∷ []) p → seen_below stack merge.upper p ≡ None
free_none stack merge whole path d w is free p under =
    let found = under_through stack merge whole path d is w p under in
    ap (seen_below stack merge.upper) (sym found.2) ∙ none_below stack merge whole found.0 found.1
    (λ k leads c. none_is_some k
    (sym (through_free merge.files merge.files.tree.root d w free found.0 found.3) ∙ leads.0))

given_none : (stack : Stack ℕ) (merge : Merge ℕ) → IsWhole stack merge → (change : Change ℕ) (at : ChangeAt)
    → Asks merge change at → IsAskedWell stack merge change → (top p : List (List ℕ)) → IsGiven at top → LiesUnder top p
    → (seen_below stack merge.upper p ≡ None) × ((other : List (List ℕ)) → ¬ (IsEnded at other))
given_none stack merge whole change at (makes path d w number node is) asked top p e under = (
  free_none stack merge whole path d w is asked.0.name_is_free.free p (subst (λ q. LiesUnder q p) e under),
  λ other ended. ended,
)
given_none stack merge whole change at (links place path d object w is used) asked top p e under = (
  free_none stack merge whole path d w is asked.name_is_free.free p (subst (λ q. LiesUnder q p) e under),
  λ other ended. ended,
)
given_none stack merge whole change at (removes path d object w is) asked top p e under = absurd e
given_none stack merge whole change at (moves from_path to_path f t o old last a b may) asked top p e under = absurd e
given_none stack merge whole change at (sets_bytes file place bytes is) asked top p e under = absurd e
given_none stack merge whole change at (sets_attr object place attr is) asked top p e under = absurd e
given_none stack merge whole change at (sets_mark directory place opaque is) asked top p e under = absurd e
given_none stack merge whole change at (copies object place is) asked top p e under = absurd e

pub below_new : BelowNew
below_new fresh stack merge whole new change at top path asked asks e under =
    let none = given_none stack merge whole change at asks asked top path e under in (
      none.0,
      (below_stays fresh stack merge whole new change at path asked asks (λ other ended. absurd (none.1 other ended))).0
          ∙ none.0,
    )

-- The ended names
no_longer : (top : List (List ℕ)) (word : List ℕ) (rest : List (List ℕ)) → top ++ word ∷ rest ≢ top
no_longer [] word rest e = cons_is_not_empty word rest e
no_longer (first ∷ top) word rest e = no_longer top word rest
    (ap (λ l. elim l as (λ l. List (List ℕ)) [ [] ↦ [] | a ∷ b ↦ b ]) e)

-- a name under another is in a directory that is at that, or under it
under_front : (one other : List (List ℕ)) (a b : List ℕ) → LiesUnder (one ++ a ∷ []) (other ++ b ∷ [])
    → (rest : List (List ℕ)) × (one ++ a ∷ rest ≡ other)
under_front one other a b under =
    let last = last_of (under.0 ∷ under.1) (not_empty under.0 under.1) in
    let split : ((one ++ a ∷ []) ++ last.0) ++ last.1 ∷ [] ≡ other ++ b ∷ [] =
    append_assoc (one ++ a ∷ []) last.0 (last.1 ∷ []) ∙ ap (λ r. (one ++ a ∷ []) ++ r) last.2 ∙ under.2 in (
      last.0,
      sym (append_assoc one (a ∷ []) last.0) ∙ sym (without_last_of_longer ((one ++ a ∷ []) ++ last.0) last.1)
          ∙ ap without_last split ∙ without_last_of_longer other b,
    )

module _ (merge : Merge ℕ) (from_path to_path : List (List ℕ)) {f t o : ℕ} {old new : List ℕ}
    (from_leads : number_at_path merge.files from_path ≡ Some f)
    (to_leads : number_at_path merge.files to_path ≡ Some t) (may : MayMove merge.files.tree f old t new o) where
  new_not_under : ¬ (LiesUnder (from_path ++ old ∷ []) (to_path ++ new ∷ []))
  new_not_under under =
      let found = under_front from_path to_path old new under in
      may.not_under found.0 (sym (ap (option_and_then (λ next. led merge.files.tree next found.0)) may.named)
      ∙ sym (led_parts merge.files.tree from_path (old ∷ found.0) merge.files.tree.root f from_leads)
      ∙ ap (number_at_path merge.files) found.1 ∙ to_leads)

  old_not_under : ¬ (LiesUnder (to_path ++ new ∷ []) (from_path ++ old ∷ []))
  old_not_under under =
      let found = under_front to_path from_path new old under in
      by (entry_at merge.files.tree t new) refl found.0
      (sym (led_parts merge.files.tree to_path (new ∷ found.0) merge.files.tree.root t to_leads)
      ∙ ap (number_at_path merge.files) found.1 ∙ from_leads)
    where
      by : (x : Option ℕ) → entry_at merge.files.tree t new ≡ x → (rest : List (List ℕ))
          → option_and_then (λ next. led merge.files.tree next rest) x ≡ Some f → ⊥
      by None e rest l = none_is_some f l
      by (Some r) e [] l = none_is_some o (sym (no_entries merge.files.tree r (may.replaced_empty r e) old)
          ∙ ap (λ k. entry_at merge.files.tree k old) (same_Some r f l) ∙ may.named)
      by (Some r) e (word ∷ rest) l = none_is_some f (sym (ap (option_and_then (λ next. led merge.files.tree next rest))
          (no_entries merge.files.tree r (may.replaced_empty r e) word)) ∙ l)

names_apart : (merge : Merge ℕ) (change : Change ℕ) (at : ChangeAt) → Asks merge change at
    → (top other : List (List ℕ)) → IsEnded at top → IsEnded at other → ¬ (LiesUnder other top)
names_apart merge change at (makes path d w number node is) top other e f under = e
names_apart merge change at (links place path d object w is used) top other e f under = e
names_apart merge change at (removes path d object w is) top other e f under =
    no_longer other under.0 under.1 (under.2 ∙ e ∙ sym f)
names_apart merge change at (moves from_path to_path from to o old last from_leads to_leads may) top other e f under =
    ⊎_elim (λ a. ⊎_elim (λ b. no_longer other under.0 under.1 (under.2 ∙ a ∙ sym b))
    (λ b. old_not_under merge from_path to_path from_leads to_leads may
    (under.0, under.1, ap (λ p. p ++ under.0 ∷ under.1) (sym b) ∙ under.2 ∙ a)) f) (λ a. ⊎_elim
    (λ b. new_not_under merge from_path to_path from_leads to_leads may
    (under.0, under.1, ap (λ p. p ++ under.0 ∷ under.1) (sym b) ∙ under.2 ∙ a))
    (λ b. no_longer other under.0 under.1 (under.2 ∙ a ∙ sym b)) f) e
names_apart merge change at (sets_bytes file place bytes is) top other e f under = e
names_apart merge change at (sets_attr object place attr is) top other e f under = e
names_apart merge change at (sets_mark directory place opaque is) top other e f under = e
names_apart merge change at (copies object place is) top other e f under = e

pub below_names : BelowNames
below_names fresh stack merge whole new change at top asked asks e =
    below_stays fresh stack merge whole new change at top asked asks
    (λ other f. names_apart merge change at asks top other e f)
