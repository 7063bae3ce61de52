-- Where the names of the upper layer lead after a change of the overlay, and which inodes are its upper objects.
use Rattle.std.proofs.Common.{◌≡◌, refl, sym, ap, subst, ◌∙◌, inl, inr, ⊎_elim, ◌⊎◌, ℕ, nat_eq, Bool, true, false, cond, List, [], ◌∷◌, ◌++◌, Some, None, is_some}
use Rattle.vt_spec.proofs.Common.{AddName, Change, Content, CopyUp, Directory, Fresh, Make, Merge, Move, Node, Regular, Remove, SetAttr, SetBytes, SetMark, Stack, Symlink, Upper, Whiteout, changed, content_with_parent, copied_up, directory_used, entries-node_with_bytes, entries_of, evens, hides_directory, is_directory_node, led, led-append, merge_changed, merge_with_moved, merge_with_new, merge_without_name, name_left_by, node_with_attr, node_with_bytes, odds, odds-distinct, same_Some, shown_in_lowers_at, upper_directory_named, upper_object, upper_of, with_inode, without_contents}
use Rattle.vt_laws_trees.proofs.trees.ChangesNodes.{attr_keeps_place}
use Rattle.vt_laws_trees.specs.Layers.Layers.ChangesUpper.{StandsInUpper, IsNewBy}
use Rattle.vt_laws_trees.specs.Layers.Layers.Upper.{IsThere}
use Rattle.vt_laws_trees.proofs.layers.layers.UpperLine.{has_entries, is_reached_in}
use Rattle.vt_laws_trees.proofs.layers.layers.UpperShown.{way_to}
use Rattle.vt_laws_trees.specs.Overlays.WhatIsShown.{IsWhole}
use Rattle.vt_laws_trees.specs.Overlays.WholeChanges.{IsAskedWell}
use Rattle.vt_laws_trees.specs.Overlays.WholeStays.{AreNew, IsOwnPlaced, NamesLeadToOwn, ObjectsAreOwn}
use Rattle.vt_laws_trees.proofs.overlays.whole.UpperTold.{Told, told_both, told_emptied, told_inode, told_left, told_marked, told_moved, told_name, told_stay, told_wider}
use Rattle.vt_laws_trees.proofs.overlays.steps.WholeAttributes.{upper_real}
use Rattle.vt_laws_trees.proofs.overlays.steps.WholeLines.{object_copied}
use Rattle.vt_laws_trees.proofs.overlays.steps.WholeMade.{new_bare}
use Rattle.vt_laws_trees.proofs.overlays.steps.WholeNames.{directory_stands, named_above}
use Rattle.vt_laws_trees.proofs.overlays.changes.WholeTogether.{both_copied, copied, is_copied, new_of_evens, new_of_odds, stands_now, still_unused, twice}

bare_above : (p : ℕ) (c : Content ℕ) → entries_of c ≡ [] → entries_of (content_with_parent p c) ≡ []
bare_above p (Directory q n o) e = e
bare_above p (Regular b) e = refl
bare_above p (Symlink b) e = refl
bare_above p Whiteout e = refl

-- each part of a change, where this holds of the inodes that names are given to
module _ (P : ℕ → Type 0) (fresh : Fresh ℕ) (stack : Stack ℕ) (merge : Merge ℕ) (new : P (fresh 0)) where
  made_told : (d : ℕ) (w : List ℕ) (number : ℕ) (node : Node ℕ) → entries_of node.content ≡ []
      → Told P merge.upper (merge_with_new nat_eq fresh stack merge d w number node).upper
  made_told d w number node bare =
      let last = (merge_with_new nat_eq fresh stack merge d w number node).upper in
      let inode : Node ℕ = record { attr = node.attr; content = content_with_parent (upper_of merge d) node.content } in
      let first = with_inode nat_eq merge.upper (fresh 0) inode in
      let second = changed nat_eq merge.upper (Make (upper_of merge d) w (fresh 0) inode) in
      told_both P merge.upper first last
      (told_inode P merge.upper (fresh 0) inode (bare_above (upper_of merge d) node.content bare))
      (told_both P first second last (told_name P first (upper_of merge d) w (fresh 0) new)
      (told_marked P second (hides_directory nat_eq stack merge d w) (fresh 0)))

  removed_told : (d : ℕ) (w : List ℕ) (object : ℕ)
      → Told P merge.upper (merge_without_name nat_eq fresh stack merge d w object).upper
  removed_told d w object =
      let last = (merge_without_name nat_eq fresh stack merge d w object).upper in
      let left = name_left_by nat_eq (is_some (shown_in_lowers_at nat_eq stack merge d w)) fresh stack merge.upper
      (upper_of merge d) w in
      told_both P merge.upper left last (told_left P fresh stack merge.upper _ w _ new) (told_emptied P left _)

  moved_told : (f : ℕ) (old : List ℕ) (t : ℕ) (to : List ℕ) (object : ℕ) → P (upper_of merge object)
      → Told P merge.upper (merge_with_moved nat_eq fresh stack merge f old t to object).upper
  moved_told f old t to object own =
      let last = (merge_with_moved nat_eq fresh stack merge f old t to object).upper in
      let base = without_contents nat_eq merge.upper (upper_directory_named merge t to) in
      let gone = changed nat_eq base (Move (upper_of merge f) old (upper_of merge t) to (upper_of merge object)) in
      let left = name_left_by nat_eq (is_some (shown_in_lowers_at nat_eq stack merge f old)) fresh stack gone
      (upper_of merge f) old in
      told_both P merge.upper base last (told_emptied P merge.upper (upper_directory_named merge t to)) (told_both P
      base gone last (told_moved P base (upper_of merge f) old (upper_of merge t) to _ own) (told_both P gone left
      last (told_left P fresh stack gone (upper_of merge f) old _ new) (told_marked P left _ (upper_of merge object))))

-- A whole change
module _ (fresh : Fresh ℕ) (stack : Stack ℕ) (merge : Merge ℕ) (whole : IsWhole stack merge)
    (new : AreNew fresh merge) where
  abbrev distinct : (j k : ℕ) → fresh j ≡ fresh k → j ≡ k
  distinct = new.distinct

  abbrev unused : (k : ℕ) → merge.upper.tree.node (fresh k) ≡ None
  unused = new.unused

  abbrev Own : ℕ → Type 0
  Own y = IsOwnPlaced stack merge y ⊎ IsNewBy fresh y

  new_own : (supply : Fresh ℕ) → ((y : ℕ) → IsNewBy supply y → IsNewBy fresh y) → (one two : Merge ℕ)
      → Told (IsNewBy supply) one.upper two.upper → Told Own one.upper two.upper
  new_own supply wider one two names = told_wider _ Own one.upper two.upper (λ y n. inr (wider y n)) names

  -- what stands in the upper layer after the copies, and is placed
  placed : (one : Merge ℕ) (n : ℕ) → ((n object : ℕ) → one.real n ≡ Some (Upper object)
      → (merge.real n ≡ Some (Upper object)) ⊎ IsNewBy fresh object)
      → ((object : ℕ) → merge.real n ≡ Some (Upper object) → (is_directory_node (merge.upper.tree.node object) ≡ false)
      ⊎ ((path : List (List ℕ)) × (led merge.upper.tree stack.directory path ≡ Some object)))
      → StandsInUpper one n → Own (upper_of one n)
  placed one n objects is stands =
      ⊎_elim (λ e. inl (n, e, is (upper_of one n) e)) inr (objects n (upper_of one n) (upper_real one n stands))

  pub told : (change : Change ℕ) → IsAskedWell stack merge change
      → Told Own merge.upper (merge_changed nat_eq fresh stack merge change).upper
  told (Make d w number node) asked =
      let last = (merge_changed nat_eq fresh stack merge (Make d w number node)).upper in
      let there = directory_used merge.files.tree d asked.0.name_is_free.in_directory in
      let one = copied fresh whole distinct unused d there in
      told_both Own merge.upper one.upper last (new_own (evens fresh) (new_of_evens fresh) merge one
      (is_copied fresh whole distinct unused d there).names)
      (made_told Own (odds fresh) stack one (inr (1, refl)) d w number node (new_bare d node asked.0.fits))
  told (AddName d w object) may =
      let last = (merge_changed nat_eq fresh stack merge (AddName d w object)).upper in
      let first = is_copied fresh whole distinct unused object may.is_there in
      let one = copied fresh whole distinct unused object may.is_there in
      let there = subst (λ files. IsThere files d) (sym first.files)
      (directory_used merge.files.tree d may.name_is_free.in_directory) in
      let second = object_copied stack (odds fresh) (odds-distinct fresh distinct) one d first.whole
      (still_unused fresh whole distinct unused object may.is_there) there in
      let two = copied_up nat_eq (odds fresh) one d in
      told_both Own merge.upper one.upper last (new_own _ (new_of_evens fresh) merge one first.names) (told_both Own
      one.upper two.upper last (new_own (odds fresh) (new_of_odds fresh) one two second.copied.names) (told_name Own
      two.upper _ w _ (placed two object (λ n o e. objects_of_two one two first.objects second.copied.objects n o e)
      (λ o e. inl (directory_stands stack merge whole object o e ∙ may.no_directory))
      (second.copied.grows object (stands_now fresh whole distinct unused object may.is_there)))))
    where
      objects_of_two : (one two : Merge ℕ)
          → ((n o : ℕ) → one.real n ≡ Some (Upper o) → (merge.real n ≡ Some (Upper o)) ⊎ IsNewBy (evens fresh) o)
          → ((n o : ℕ) → two.real n ≡ Some (Upper o) → (one.real n ≡ Some (Upper o)) ⊎ IsNewBy (odds fresh) o)
          → (n o : ℕ) → two.real n ≡ Some (Upper o) → (merge.real n ≡ Some (Upper o)) ⊎ IsNewBy fresh o
      objects_of_two one two a b n o e =
          ⊎_elim (λ f. ⊎_elim inl (λ g. inr (new_of_evens fresh o g)) (a n o f)) (λ g. inr (new_of_odds fresh o g))
          (b n o e)
  told (Remove d w object) may =
      let last = (merge_changed nat_eq fresh stack merge (Remove d w object)).upper in
      let there = directory_used merge.files.tree d (has_entries merge.files.tree d w object may.named) in
      let one = copied fresh whole distinct unused d there in
      told_both Own merge.upper one.upper last (new_own (evens fresh) (new_of_evens fresh) merge one
      (is_copied fresh whole distinct unused d there).names)
      (removed_told Own (odds fresh) stack one (inr (1, refl)) d w object)
  told (Move f old t to object) asked =
      let last = (merge_changed nat_eq fresh stack merge (Move f old t to object)).upper in
      let m = twice fresh stack merge whole distinct unused f old t to object asked.0 in
      let two = both_copied fresh stack merge f old t to object in
      let steps = is_reached_in merge.files whole.tree f old object asked.0.named in
      let way = way_to merge.files.tree steps.0 f steps.1 in
      told_both Own merge.upper two.upper last (new_own fresh (λ y n. n) merge two m.names)
      (moved_told Own (odds (odds fresh)) stack two (inr (3, refl)) f old t to object (placed two object m.objects
      (λ o e. inr (
        way.0 ++ old ∷ [],
        named_above stack merge whole (way.0 ++ old ∷ []) object o
            (led-append merge.files.tree merge.files.tree.root way.0 old f object way.1 asked.0.named) e,
      )) m.object))
  told (SetBytes file bytes) there =
      let last = (merge_changed nat_eq fresh stack merge (SetBytes file bytes)).upper in
      let is = (object_copied stack fresh distinct merge file whole unused there).copied in
      let one = copied_up nat_eq fresh merge file in
      told_both Own merge.upper one.upper last (new_own fresh (λ y n. n) merge one is.names)
      (told_stay Own one.upper (upper_of one file) (node_with_bytes bytes) (entries-node_with_bytes bytes))
  told (SetAttr object attr) there =
      let last = (merge_changed nat_eq fresh stack merge (SetAttr object attr)).upper in
      let is = (object_copied stack fresh distinct merge object whole unused there).copied in
      let one = copied_up nat_eq fresh merge object in
      told_both Own merge.upper one.upper last (new_own fresh (λ y n. n) merge one is.names)
      (told_stay Own one.upper (upper_of one object) (node_with_attr attr) (attr_keeps_place attr).entries)
  told (SetMark d opaque) asked = absurd asked
  told (CopyUp object) there = new_own fresh (λ y n. n) merge (copied_up nat_eq fresh merge object)
      (object_copied stack fresh distinct merge object whole unused there).copied.names

  pub objects : (change : Change ℕ) → IsAskedWell stack merge change → (n object : ℕ)
      → (merge_changed nat_eq fresh stack merge change).real n ≡ Some (Upper object)
      → (merge.real n ≡ Some (Upper object)) ⊎ IsNewBy fresh object
  objects (Make d w number node) asked n object e = by (nat_eq n number) e
    where
      by : (b : Bool)
          → cond b (Some (Upper (odds fresh 0))) ((copied_up nat_eq (evens fresh) merge d).real n) ≡ Some (Upper object)
          → (merge.real n ≡ Some (Upper object)) ⊎ IsNewBy fresh object
      by true e = inr (1, sym (same_Some (odds fresh 0) object (ap upper_object e)))
      by false e = ⊎_elim inl (λ g. inr (new_of_evens fresh object g)) ((is_copied fresh whole distinct unused d
          (directory_used merge.files.tree d asked.0.name_is_free.in_directory)).objects n object e)
  objects (AddName d w o) may n object e =
      let first = is_copied fresh whole distinct unused o may.is_there in
      let one = copied fresh whole distinct unused o may.is_there in
      let there = subst (λ files. IsThere files d) (sym first.files)
      (directory_used merge.files.tree d may.name_is_free.in_directory) in
      let second = object_copied stack (odds fresh) (odds-distinct fresh distinct) one d first.whole
      (still_unused fresh whole distinct unused o may.is_there) there in
      ⊎_elim (λ f. ⊎_elim inl (λ g. inr (new_of_evens fresh object g)) (first.objects n object f))
      (λ g. inr (new_of_odds fresh object g)) (second.copied.objects n object e)
  objects (Remove d w o) may n object e = ⊎_elim inl (λ g. inr (new_of_evens fresh object g))
      ((is_copied fresh whole distinct unused d
      (directory_used merge.files.tree d (has_entries merge.files.tree d w o may.named))).objects n object e)
  objects (Move f old t to o) asked n object e =
      (twice fresh stack merge whole distinct unused f old t to o asked.0).objects n object e
  objects (SetBytes file bytes) there n object e =
      (object_copied stack fresh distinct merge file whole unused there).copied.objects n object e
  objects (SetAttr o attr) there n object e =
      (object_copied stack fresh distinct merge o whole unused there).copied.objects n object e
  objects (SetMark d opaque) asked n object e = absurd asked
  objects (CopyUp o) there n object e =
      (object_copied stack fresh distinct merge o whole unused there).copied.objects n object e

pub names_lead_to_own : NamesLeadToOwn
names_lead_to_own fresh stack merge change d w object whole new asked e =
    told fresh stack merge whole new change asked d w object e

pub objects_are_own : ObjectsAreOwn
objects_are_own fresh stack merge change n object whole new asked e =
    objects fresh stack merge whole new change asked n object e
