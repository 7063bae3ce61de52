-- What copies make of the upper layer, for an object at a path or without a name, and what lower layers show beside
-- them.
use Rattle.std.proofs.Common.{arith, ◌≡◌, ◌≢◌, refl, sym, ap, subst, ◌∙◌, ℕ, suc, ◌+◌, nat_eq, eq-eqb, ne_eqb, Bool, true, false, cond, not, List, [], ◌∷◌, ◌++◌, length, map, Option, Some, None, is_some, unwrap_or, append-nil}
use Rattle.vt_spec.proofs.Common.{FileTree, Fresh, Lower, Merge, Node, OpenLayer, Real, SameObject, Shown, Stack, Upper, View, a_name, common_steps, copied_content, copied_each, copied_up, copy_named, copy_of, copy_parent, cuts, is_directory_shown, is_in_upper, is_kind_in, led-append, line_by, number_at_path, same_Some, shown_from, shown_over, then_some, upper_object, upper_of, view_of, when, with_inode, without_last}
use Rattle.vt_laws_trees.specs.Layers.Layers.Views.{view_in}
use Rattle.vt_laws_trees.proofs.layers.layers.UpperLine.{is_reached_in, named_so}
use Rattle.vt_laws_trees.proofs.layers.layers.UpperShown.{without_last_of_longer, way_to}
use Rattle.vt_laws_trees.specs.Overlays.WhatIsShown.{IsWhole, inode_behind}
use Rattle.vt_laws_trees.proofs.overlays.steps.WholeAttributes.{upper_real}
use Rattle.vt_laws_trees.proofs.overlays.steps.WholeLines.{object_copied, stands_copied}
use Rattle.vt_laws_trees.proofs.overlays.steps.WholeNames.{named_above}
use Rattle.vt_laws_worlds.specs.Merging.UpperChanges.{AreNew, CopiesAreOfFronts, CopiesHideNothing, FrontsHaveTheirCopies, FrontsLeadToCopies, HeldHaveTheirCopies, IsAt, Place, copied_for, copied_to, directory_below, held_over, layers_with, led_above, node_below, object_of, seen_below}
use Rattle.vt_laws_worlds.specs.Merging.UpperChanges.Place.{Held, Named}
use Rattle.vt_laws_worlds.proofs.merging.upper.Copying.{led_none, same_copied, stays}
use Rattle.vt_laws_worlds.proofs.merging.upper.Fronts.{Copies, copied_along, cuts_stay}
use Rattle.vt_laws_trees.proofs.layers.layers.ShownDirectories.{led_is_there}
use Rattle.vt_spec.specs.declared.attributes.Kind.TheVariants.{White}

module _ (fresh : Fresh ℕ) (stack : Stack ℕ) (merge : Merge ℕ) (whole : IsWhole stack merge)
    (new : AreNew fresh merge.upper) (object : ℕ) (there : is_some (merge.files.tree.node object) ≡ true) where
  abbrev later : Merge ℕ
  later = copied_up nat_eq fresh merge object

  abbrev pub Says : Place → Type 0
  Says place = (later.upper ≡ copied_for fresh stack merge.upper place)
      × (upper_object (later.real object) ≡ Some (object_of fresh stack merge.upper place))

  at_path : (path : List (List ℕ)) → number_at_path merge.files path ≡ Some object → Says (Named path)
  at_path path leads =
      let copied = copied_along fresh new.distinct stack merge whole new.unused
      (length path) path object refl there leads in
      let line = object_copied stack fresh new.distinct merge object whole new.unused there in
      let real = upper_real later object
      (stands_copied stack fresh new.distinct merge object whole new.unused there) in (
        copied.is,
        ap upper_object real ∙ sym (named_above stack later line.copied.whole path object (upper_of later object)
            (ap (λ files. number_at_path files path) line.copied.files ∙ leads) real)
            ∙ copied.copies.on path [] (append-nil path),
      )

  -- what has no path has no name
  no_name : ((path : List (List ℕ)) → number_at_path merge.files path ≢ Some object)
      → a_name nat_eq merge.files object ≡ None
  no_name out = by (a_name nat_eq merge.files object) refl
    where
      by : (o : Option (ℕ × List ℕ)) → a_name nat_eq merge.files object ≡ o → o ≡ None
      by None e = refl
      by (Some name) e =
          let found = named_so merge.files whole.tree object name e in
          let reached = is_reached_in merge.files whole.tree name.0 name.1 object found in
          let way = way_to merge.files.tree reached.0 name.0 reached.1 in
          absurd (out (way.0 ++ name.1 ∷ [])
          (led-append merge.files.tree merge.files.tree.root way.0 name.1 name.0 object way.1 found))

  held : (real : Real ℕ) → IsAt merge object (Held real) → Says (Held real)
  held (Upper u) is =
      let same = stays fresh stack merge whole object (ap (λ o. is_some (upper_object o)) is.0) in
      (ap (λ m. m.upper) same, ap (λ m. upper_object (m.real object)) same ∙ ap upper_object is.0)
  held (Lower layer way) is = by (merge.files.tree.node object) refl (node_below stack layer way) refl
      (subst (λ o. SameObject (merge.files.tree.node object) (then_some o (inode_behind stack merge))) is.0
      (whole.shown.real_objects object))
    where
      low : is_in_upper merge object ≡ false
      low = ap (λ o. is_some (upper_object o)) is.0

      alone : (o : Option (Node ℕ)) → merge.files.tree.node object ≡ o
          → later ≡ copy_of nat_eq merge object (fresh 0) o false
      alone o e = ap (λ n. copied_each nat_eq fresh 0 merge (line_by nat_eq merge.files object n)) (no_name is.1)
          ∙ (λ i. copy_of nat_eq merge object (fresh 0) (e i) (low i))

      by : (o : Option (Node ℕ)) → merge.files.tree.node object ≡ o → (s : Option (Node ℕ))
          → node_below stack layer way ≡ s
          → SameObject (merge.files.tree.node object) (node_below stack layer way) → Says (Held (Lower layer way))
      by None e s f same = absurd (cc there)
      by (Some node) e None f same = absurd
          (λ-no (subst (λ o. SameObject o None) e (subst (SameObject (merge.files.tree.node object)) f same)))
        where
          λ-no : SameObject (Some node) None → ⊥
          λ-no h = h
      by (Some node) e (Some other) f same =
          let both : SameObject (Some node) (Some other) = subst (λ o. SameObject o (Some other)) e
          (subst (SameObject (merge.files.tree.node object)) f same) in (
            ap (λ m. m.upper) (alone (Some node) e) ∙ ap (λ o. copy_named nat_eq merge (fresh 0) o
                (with_inode nat_eq merge.upper (fresh 0) (record {
                  attr = node.attr;
                  content = copied_content (copy_parent merge (fresh 0) o) node.content;
                }))) (no_name is.1) ∙ (λ i. with_inode nat_eq merge.upper (fresh 0)
                (record { attr = both.0 i; content = same_copied (fresh 0) node.content other.content both.1 i }))
                ∙ sym (ap (held_over fresh merge.upper) f),
            ap (λ m. upper_object (m.real object)) (alone (Some node) e)
                ∙ ap (λ b. upper_object (cond b (Some (Upper (fresh 0))) (merge.real object)))
                (eq-eqb object object refl),
          )

  pub at_place : (place : Place) → IsAt merge object place → Says place
  at_place (Named path) is = at_path path is
  at_place (Held real) is = held real is

pub copies_are_of_prefixes : CopiesAreOfFronts
copies_are_of_prefixes fresh stack merge object place whole new there is =
    at_place fresh stack merge whole new object there place is

-- what a path of an overlay leads to is there
pub path_there : (stack : Stack ℕ) (merge : Merge ℕ) → IsWhole stack merge → (path : List (List ℕ)) (object : ℕ)
    → number_at_path merge.files path ≡ Some object → is_some (merge.files.tree.node object) ≡ true
path_there stack merge whole path object leads = led_is_there _ whole.tree whole.tree.root_directory path object leads

pub prefixes_lead_to_copies : FrontsLeadToCopies
prefixes_lead_to_copies fresh stack merge whole new path some = by (number_at_path merge.files path) refl some
  where
    by : (o : Option ℕ) → number_at_path merge.files path ≡ o → is_some o ≡ true
        → ((front rest : List (List ℕ)) → front ++ rest ≡ path
        → led_above stack (copied_to fresh stack merge.upper path) front
        ≡ Some (unwrap_or (led_above stack merge.upper front) (fresh (length front))))
        × ((other : List (List ℕ)) → ((rest : List (List ℕ)) → other ++ rest ≢ path)
        → led_above stack (copied_to fresh stack merge.upper path) other ≡ led_above stack merge.upper other)
    by None e h = absurd cc
    by (Some object) e h =
        let copied = copied_along fresh new.distinct stack merge whole new.unused (length path) path object refl
        (path_there stack merge whole path object e) e in
        let copies = subst (Copies fresh stack merge.upper path) copied.is copied.copies in
        (copies.on, copies.others)

-- what lower layers show is of a lower layer
lower_place : (views : List (View ℕ)) (k : ℕ) (path : List (List ℕ)) (seen : Shown ℕ)
    → shown_from (k + 1) views path ≡ Some seen → (n : ℕ) × (seen.layer ≡ suc n)
lower_place [] k path seen e = cc
lower_place (view ∷ views) k path seen e = by _ _ e (lower_place views _ path seen)
  where
    by : (o : Option ℕ) (b : Bool) → shown_over view (k + 1) o b (shown_from ((k + 1) + 1) views path) ≡ Some seen
        → (shown_from ((k + 1) + 1) views path ≡ Some seen → (n : ℕ) × (seen.layer ≡ suc n))
        → (n : ℕ) × (seen.layer ≡ suc n)
    by (Some object) b e rest = at (is_kind_in White (view.node object)) e
      where
        at : (white : Bool) → when (not white) (record { layer = k + 1; object = object }) ≡ Some seen
            → (n : ℕ) × (seen.layer ≡ suc n)
        at true e = cc
        at false e = (
          k,
          sym (ap (λ s. s.layer) (same_Some (record { layer = k + 1; object = object }) seen e))
              ∙ (let h : k + 1 ≡ suc k = omega arith in h),
        )
    by None true e rest = cc
    by None false e rest = rest e

-- so it is a directory whatever the top layer is
pub directory_below_any : (one other : OpenLayer ℕ) (lowers : List (OpenLayer ℕ)) (path : List (List ℕ)) (b : Bool)
    → is_directory_shown (one ∷ lowers) (cond b None (shown_from 1 (map view_of lowers) path))
    ≡ is_directory_shown (other ∷ lowers) (cond b None (shown_from 1 (map view_of lowers) path))
directory_below_any one other lowers path true = refl
directory_below_any one other lowers path false = by (shown_from 1 (map view_of lowers) path)
    (lower_place (map view_of lowers) 0 path)
  where
    by : (o : Option (Shown ℕ)) → ((seen : Shown ℕ) → o ≡ Some seen → (n : ℕ) × (seen.layer ≡ suc n))
        → is_directory_shown (one ∷ lowers) o ≡ is_directory_shown (other ∷ lowers) o
    by o low = grind (arith, common_steps, low)

module _ (stack : Stack ℕ) (one other : FileTree ℕ) (way : List (List ℕ)) (name : List ℕ)
    (cut : cuts (view_in other stack.directory) way ≡ cuts (view_in one stack.directory) way) where
  abbrev lower_seen : Option (Shown ℕ)
  lower_seen = shown_from 1 (map view_of stack.lowers) (way ++ name ∷ [])

  pub seen_same : seen_below stack other (way ++ name ∷ []) ≡ seen_below stack one (way ++ name ∷ [])
  seen_same = cc (without_last_of_longer way name)

  pub directory_same : directory_below stack other (way ++ name ∷ []) ≡ directory_below stack one (way ++ name ∷ [])
  directory_same = ap (is_directory_shown (layers_with stack other)) seen_same
      ∙ directory_below_any (record { tree = other.tree; directory = stack.directory })
      (record { tree = one.tree; directory = stack.directory })
      stack.lowers (way ++ name ∷ []) (cuts (view_in one stack.directory) (without_last (way ++ name ∷ [])))

pub copies_hide_nothing : CopiesHideNothing
copies_hide_nothing fresh stack merge whole new path way directory name some leads = by
    (number_at_path merge.files path) refl some
  where
    by : (o : Option ℕ) → number_at_path merge.files path ≡ o → is_some o ≡ true
        → (seen_below stack (copied_to fresh stack merge.upper path)
        (way ++ name ∷ []) ≡ seen_below stack merge.upper (way ++ name ∷ []))
        × (directory_below stack (copied_to fresh stack merge.upper path)
        (way ++ name ∷ []) ≡ directory_below stack merge.upper (way ++ name ∷ []))
    by None e h = absurd cc
    by (Some object) e h =
        let there = path_there stack merge whole path object e in
        let copied = copied_along fresh new.distinct stack merge whole new.unused
        (length path) path object refl there e in
        let cut = ap (λ u. cuts (view_in u stack.directory) way) (sym copied.is)
        ∙ cuts_stay fresh new.distinct stack merge whole new.unused path object there e way directory leads.0 leads.1
        in (
          seen_same stack merge.upper (copied_to fresh stack merge.upper path) way name cut,
          directory_same stack merge.upper (copied_to fresh stack merge.upper path) way name cut,
        )

-- what a path leads to in the upper layer is the real object of what is there
led_real : (stack : Stack ℕ) (merge : Merge ℕ) → IsWhole stack merge → (path : List (List ℕ)) (number u : ℕ)
    → number_at_path merge.files path ≡ Some number → led_above stack merge.upper path ≡ Some u
    → merge.real number ≡ Some (Upper u)
led_real stack merge whole path number u leads led = by _ refl
  where
    there : is_some (merge.files.tree.node number) ≡ true
    there = path_there stack merge whole path number leads

    by : (b : Bool) → is_in_upper merge number ≡ b → merge.real number ≡ Some (Upper u)
    by true stands = cc (
      upper_real merge number stands,
      named_above stack merge whole path number (upper_of merge number) leads (upper_real merge number stands),
    )
    by false low = cc (led_none (λ k. k) whole number there path leads low)

pub prefixes_have_their_copies : FrontsHaveTheirCopies
prefixes_have_their_copies fresh stack merge whole new path object leads =
    let there = path_there stack merge whole path object leads in
    let copied = copied_along fresh new.distinct stack merge whole new.unused
    (length path) path object refl there leads in
    let line = object_copied stack fresh new.distinct merge object whole new.unused there in (
      λ front rest number is at_front.
          led_real stack (copied_up nat_eq fresh merge object) line.copied.whole front number
          (unwrap_or (led_above stack merge.upper front) (fresh (length front)))
          (ap (λ files. number_at_path files front) line.copied.files ∙ at_front) (copied.copies.on front rest is),
      copied.else,
    )

pub held_have_their_copies : HeldHaveTheirCopies
held_have_their_copies fresh stack merge whole new object number held there is other = cc (
  no_name fresh stack merge whole new object there is.1,
  by (merge.files.tree.node object) (is_in_upper merge object),
)
  where
    by : (o : Option (Node ℕ)) (b : Bool) → (copy_of nat_eq merge object (fresh 0) o b).real number ≡ merge.real number
    by None b = refl
    by (Some node) true = refl
    by (Some node) false = cc (ne_eqb number object other)
