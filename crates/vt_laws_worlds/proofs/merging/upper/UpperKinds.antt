-- What each kind of change makes of the upper layer.
use Rattle.std.proofs.Common.{arith, ◌≡◌, refl, sym, ap, ◌∙◌, true≢false, ℕ, ◌+◌, ◌*◌, nat_eq, eqb-true, Bool, true, false, cond, if◌then◌else◌, List, [], ◌∷◌, ◌++◌, Option, Some, None, is_some, option_and_then, unwrap_or}
use Rattle.vt_spec.proofs.Common.{AddName, FileTree, Fresh, Make, Merge, Node, Stack, changed, changed_both, changed_node, common_steps, content_with_parent, copied_each, copied_up, copy_of, directory_no_whiteout, entry_at, evens, evens-distinct, hides_directory, is_directory_node, is_directory_shown, is_in_upper, line_to, name_left_by, node_with_attr, node_with_bytes, node_with_mark, none_is_some, number_at_path, odds, odds-distinct, path_to, same_Some, shown_in_lowers, shown_in_lowers_at, then_some, upper_directory_named, upper_object, upper_of, when, with_mark, with_moved, without_contents}
use Rattle.vt_laws_trees.specs.Layers.Layers.ChangesUpper.{StandsInUpper}
use Rattle.vt_laws_trees.proofs.layers.layers.ShownNames.{last_name}
use Rattle.vt_laws_trees.proofs.layers.layers.UpperLine.{has_entries}
use Rattle.vt_laws_trees.specs.Overlays.WhatIsShown.{IsWhole}
use Rattle.vt_laws_trees.proofs.overlays.steps.WholeAttributes.{upper_real}
use Rattle.vt_laws_trees.proofs.overlays.steps.WholeLines.{IsCopied, object_copied, stands_copied}
use Rattle.vt_laws_trees.proofs.overlays.steps.WholeNames.{above_named, directory_stands, named_above}
use Rattle.vt_laws_trees.proofs.overlays.steps.WholePlaces.{path_to_is}
use Rattle.vt_laws_trees.proofs.overlays.changes.WholeTogether.{still_unused, twice}
use Rattle.vt_laws_worlds.specs.Merging.UpperChanges.{AreNew, AttrIsSetAbove, BytesAreSetAbove, LeadsToDirectory, LinkedAbove, MadeAbove, object_of, MarkIsSetAbove, MovedAbove, OpenedIsCopied, RemovedAbove, copied_to, directory_above, directory_below, layers_with, led_above, linked_in, moved_in, object_above, seen_below, IsAt, Place, upper_with}
use Rattle.vt_laws_worlds.specs.Merging.UpperChanges.Place.{Named}
use Rattle.vt_laws_worlds.proofs.merging.upper.Places.{at_place, copies_hide_nothing, path_there}

-- Of an overlay that is whole
module _ (stack : Stack ℕ) (c : Merge ℕ) (whole : IsWhole stack c) where
  -- what stands in the upper layer is at its path there
  pub object_is : (path : List (List ℕ)) (object : ℕ) → number_at_path c.files path ≡ Some object
      → StandsInUpper c object → upper_of c object ≡ object_above stack c.upper path
  object_is path object leads stands =
      sym (ap (λ o. unwrap_or o 0) (named_above stack c whole path object (upper_of c object) leads
      (upper_real c object stands)))

  module _ (path : List (List ℕ)) (directory : ℕ) (leads : LeadsToDirectory c path directory) (name : List ℕ) where
    path_is : path_to nat_eq c directory name ≡ path ++ name ∷ []
    path_is = path_to_is c whole.tree whole.numbers path directory name leads.0 leads.1

    pub below_is : shown_in_lowers_at nat_eq stack c directory name ≡ seen_below stack c.upper (path ++ name ∷ [])
    below_is = ap (λ p. shown_in_lowers
        (record { tree = c.upper.tree; directory = stack.directory }) stack.lowers p) path_is

    pub hides_is : hides_directory nat_eq stack c directory name ≡ directory_below stack c.upper (path ++ name ∷ [])
    hides_is = ap (is_directory_shown (layers_with stack c.upper)) below_is

    at_name : number_at_path c.files (path ++ name ∷ []) ≡ entry_at c.files.tree directory name
    at_name = last_name c.files.tree c.files.tree.root path name
        ∙ ap (option_and_then (λ d. entry_at c.files.tree d name)) leads.0

    -- the upper directory under a name
    pub named_is : upper_directory_named c directory name ≡ directory_above stack c.upper (path ++ name ∷ [])
    named_is = by (entry_at c.files.tree directory name) refl
      where
        -- a directory there is the overlay's
        found : (u : ℕ) → led_above stack c.upper (path ++ name ∷ []) ≡ Some u
            → is_directory_node (c.upper.tree.node u) ≡ true
            → (object : ℕ) × (entry_at c.files.tree directory name ≡ Some object)
            × (upper_object (c.real object) ≡ Some u) × (is_directory_node (c.files.tree.node object) ≡ true)
        found u l d =
            let there = above_named stack c whole (path ++ name ∷ []) u l
            (directory_no_whiteout (c.upper.tree.node u) d) in (
              there.0,
              sym at_name ∙ there.1,
              ap upper_object there.2,
              sym (directory_stands stack c whole there.0 u there.2) ∙ d,
            )

        none : ((u : ℕ) → led_above stack c.upper (path ++ name ∷ []) ≡ Some u
            → is_directory_node (c.upper.tree.node u) ≡ true → ⊥)
            → None ≡ directory_above stack c.upper (path ++ name ∷ [])
        none out = at (led_above stack c.upper (path ++ name ∷ [])) refl
          where
            at : (o : Option ℕ) → led_above stack c.upper (path ++ name ∷ []) ≡ o
                → None ≡ then_some o (λ object. when (is_directory_node (c.upper.tree.node object)) object)
            at None l = refl
            at (Some u) l = kind (is_directory_node (c.upper.tree.node u)) refl
              where
                kind : (b : Bool) → is_directory_node (c.upper.tree.node u) ≡ b → None ≡ when b u
                kind true d = absurd (out u l d)
                kind false d = refl

        some : (object : ℕ) → entry_at c.files.tree directory name ≡ Some object → (d : Bool)
            → is_directory_node (c.files.tree.node object) ≡ d → (r : Option ℕ) → upper_object (c.real object) ≡ r
            → cond d r None ≡ directory_above stack c.upper (path ++ name ∷ [])
        some object e false d r u = none (λ n l is. let f = found n l is in
            true≢false (sym f.3 ∙ ap (λ o. is_directory_node (c.files.tree.node o))
            (same_Some f.0 object (sym f.1 ∙ e)) ∙ d))
        some object e true d None u = none (λ n l is. let f = found n l is in
            none_is_some n (sym u ∙ ap (λ o. upper_object (c.real o)) (sym (same_Some f.0 object (sym f.1 ∙ e))) ∙ f.2))
        some object e true d (Some n) u =
            let stands : StandsInUpper c object = ap is_some u in
            let real = upper_real c object stands in
            let same : upper_of c object ≡ n = ap (λ o. unwrap_or o object) u in
            let led = named_above stack c whole (path ++ name ∷ []) object (upper_of c object) (at_name ∙ e) real in
            let dir = directory_stands stack c whole object (upper_of c object) real ∙ d in
            ap Some (sym same) ∙ ap (λ b. when b (upper_of c object)) (sym dir)
            ∙ ap (λ o. then_some o (λ object. when (is_directory_node (c.upper.tree.node object)) object)) (sym led)

        by : (o : Option ℕ) → entry_at c.files.tree directory name ≡ o
            → then_some o (λ object. if is_directory_node (c.files.tree.node object) then upper_object
            (c.real object) else None) ≡ directory_above stack c.upper (path ++ name ∷ [])
        by None e = none (λ u l d. none_is_some (found u l d).0 (sym e ∙ (found u l d).1))
        by (Some object) e = some object e (is_directory_node (c.files.tree.node object)) refl
            (upper_object (c.real object)) refl

-- what stands in the upper layer keeps its real object in copies
real_stays : (fresh : Fresh ℕ) (k : ℕ) (m : Merge ℕ) (list : List ℕ) (object : ℕ) → StandsInUpper m object
    → (copied_each nat_eq fresh k m list).real object ≡ m.real object
real_stays fresh k m [] object stands = refl
real_stays fresh k m (first ∷ list) object stands =
    let same = by (m.files.tree.node first) (is_in_upper m first) refl in
    real_stays fresh (k + 1) (copy_of nat_eq m first (fresh k) (m.files.tree.node first)
    (is_in_upper m first)) list object (ap (λ r. is_some (upper_object r)) same ∙ stands) ∙ same
  where
    by : (o : Option (Node ℕ)) (b : Bool) → is_in_upper m first ≡ b
        → (copy_of nat_eq m first (fresh k) o b).real object ≡ m.real object
    by o b e = grind (arith, common_steps, true≢false, stands, eqb-true)

-- New numbers, in parts
pub even_new : (fresh : Fresh ℕ) (upper : FileTree ℕ) → AreNew fresh upper → AreNew (evens fresh) upper
even_new fresh upper new = record { distinct = evens-distinct fresh new.distinct; unused = λ k. new.unused (2 * k) }

-- An object at a path is copied.
module _ (fresh : Fresh ℕ) {stack : Stack ℕ} {merge : Merge ℕ} (whole : IsWhole stack merge)
    (new : AreNew fresh merge.upper) (object : ℕ) (path : List (List ℕ))
    (leads : number_at_path merge.files path ≡ Some object) where
  abbrev c : Merge ℕ
  c = copied_up nat_eq fresh merge object

  there : is_some (merge.files.tree.node object) ≡ true
  there = path_there stack merge whole path object leads

  line : IsCopied stack fresh merge c
  line = (object_copied stack fresh new.distinct merge object whole new.unused there).copied

  stands : StandsInUpper c object
  stands = stands_copied stack fresh new.distinct merge object whole new.unused there

  upper_is : c.upper ≡ copied_to fresh stack merge.upper path
  upper_is = (at_place fresh stack merge whole new object there (Named path) leads).0

  directory_later : (way : List (List ℕ)) (directory : ℕ) → LeadsToDirectory merge way directory
      → LeadsToDirectory c way directory
  directory_later way directory is = (
    ap (λ files. number_at_path files way) line.files ∙ is.0,
    ap (λ files. is_directory_node (files.tree.node directory)) line.files ∙ is.1,
  )

  some_there : is_some (number_at_path merge.files path) ≡ true
  some_there = ap is_some leads

  -- what is below is what was
  still_below : (way : List (List ℕ)) (directory : ℕ) (name : List ℕ) → LeadsToDirectory merge way directory
      → (seen_below stack c.upper (way ++ name ∷ []) ≡ seen_below stack merge.upper (way ++ name ∷ []))
      × (directory_below stack c.upper (way ++ name ∷ []) ≡ directory_below stack merge.upper (way ++ name ∷ []))
  still_below way directory name is = grind (arith, common_steps, copies_hide_nothing, some_there, upper_is)

-- Bytes, owner and mode, and mark
set_above : (fresh : Fresh ℕ) (stack : Stack ℕ) (merge : Merge ℕ) → IsWhole stack merge → AreNew fresh merge.upper
    → (object : ℕ) (place : Place) → is_some (merge.files.tree.node object) ≡ true → IsAt merge object place
    → (change : Option (Node ℕ) → Option (Node ℕ))
    → (changed_both nat_eq (copied_up nat_eq fresh merge object) object change).upper
    ≡ upper_with fresh stack merge.upper place change
set_above fresh stack merge whole new object place there is change =
    let says = at_place fresh stack merge whole new object there place is in
    let same = ap (λ o. unwrap_or o object) says.1 in
    λ i. changed_node nat_eq (says.0 i) (same i) change

pub bytes_are_set_above : BytesAreSetAbove
bytes_are_set_above fresh stack merge whole new file place bytes there is =
    set_above fresh stack merge whole new file place there is (node_with_bytes bytes)

pub attr_is_set_above : AttrIsSetAbove
attr_is_set_above fresh stack merge whole new object place attr there is =
    set_above fresh stack merge whole new object place there is (node_with_attr attr)

pub mark_is_set_above : MarkIsSetAbove
mark_is_set_above fresh stack merge whole new directory place opaque there is =
    set_above fresh stack merge whole new directory place there is (node_with_mark opaque)

pub opened_is_copied : OpenedIsCopied
opened_is_copied fresh stack merge whole new object place there is =
    (at_place fresh stack merge whole new object there place is).0

-- A new object
abbrev made_by : ℕ → List ℕ → Node ℕ → Bool → FileTree ℕ → ℕ → FileTree ℕ
made_by copy name node b u p = with_mark nat_eq b (changed nat_eq u
    (Make p name copy (record { attr = node.attr; content = content_with_parent p node.content }))) copy

pub made_above : MadeAbove
made_above fresh stack merge whole new path directory name number node is =
    let one = even_new fresh merge.upper new in
    let whole_now = (line (evens fresh) whole one directory path is.0).whole in
    let later = directory_later (evens fresh) whole one directory path is.0 path directory is in
    let upper = upper_is (evens fresh) whole one directory path is.0 in
    let parent = object_is stack (copied_up nat_eq (evens fresh) merge directory) whole_now path directory later.0
    (stands (evens fresh) whole one directory path is.0) in
    let hides = hides_is stack (copied_up nat_eq (evens fresh) merge directory) whole_now path directory later name
    ∙ (still_below (evens fresh) whole one directory path is.0 path directory name is).1 in
    (λ i. made_by (odds fresh 0) name node (hides i) (copied_up nat_eq (evens fresh) merge directory).upper (parent i))
    ∙ (λ i. made_by (odds fresh 0) name node (directory_below stack merge.upper (path ++ name ∷ [])) (upper i)
    (object_above stack (upper i) path))

-- A removed name
abbrev removed_by : Fresh ℕ → Stack ℕ → List ℕ → Bool → FileTree ℕ → ℕ → Option ℕ → FileTree ℕ
removed_by fresh stack name b u p gone = without_contents nat_eq (name_left_by nat_eq b fresh stack u p name) gone

pub removed_above : RemovedAbove
removed_above fresh stack merge whole new path directory name object is =
    let one = even_new fresh merge.upper new in
    let now = copied_up nat_eq (evens fresh) merge directory in
    let whole_now = (line (evens fresh) whole one directory path is.0).whole in
    let later = directory_later (evens fresh) whole one directory path is.0 path directory is in
    let upper = upper_is (evens fresh) whole one directory path is.0 in
    let parent = object_is stack now whole_now path directory later.0
    (stands (evens fresh) whole one directory path is.0) in
    let left = below_is stack now whole_now path directory later name
    ∙ (still_below (evens fresh) whole one directory path is.0 path directory name is).0 in
    let gone = named_is stack now whole_now path directory later name in
    (λ i. removed_by (odds fresh) stack name (is_some (left i)) now.upper (parent i) (gone i))
    ∙ (λ i. removed_by (odds fresh) stack name (is_some (seen_below stack merge.upper (path ++ name ∷ [])))
    (upper i) (object_above stack (upper i) path) (directory_above stack (upper i) (path ++ name ∷ [])))

-- A further name
pub linked_above : LinkedAbove
linked_above fresh stack merge whole new old path directory object name is used at_old =
    let one = even_new fresh merge.upper new in
    let first = copied_up nat_eq (evens fresh) merge object in
    let first_line = (object_copied stack (evens fresh) one.distinct merge object whole one.unused used).copied in
    let first_stands = stands_copied stack (evens fresh) one.distinct merge object whole one.unused used in
    let says = at_place (evens fresh) stack merge whole one object used old at_old in
    let two : AreNew (odds fresh) first.upper = record {
      distinct = odds-distinct fresh new.distinct;
      unused = still_unused fresh whole new.distinct new.unused object used;
    } in
    let leads = ap (λ files. number_at_path files path) first_line.files ∙ is.0 in
    let second = copied_up nat_eq (odds fresh) first directory in
    let second_line = line (odds fresh) first_line.whole two directory path leads in
    let at_path = ap (λ files. number_at_path files path) second_line.files ∙ leads in
    let parent = object_is stack second second_line.whole path directory at_path
    (stands (odds fresh) first_line.whole two directory path leads) in
    let own : upper_of second object ≡ object_of (evens fresh) stack merge.upper old =
    ap (λ r. unwrap_or (upper_object r) object)
    (real_stays (odds fresh) 0 first (line_to nat_eq first.files directory) object first_stands)
    ∙ ap (λ o. unwrap_or o object) says.1 in
    let upper = upper_is (odds fresh) first_line.whole two directory path leads
    ∙ ap (λ u. copied_to (odds fresh) stack u path) says.0 in
    (λ i. changed nat_eq second.upper (AddName (parent i) name (own i)))
    ∙ ap (λ u. linked_in stack u (object_of (evens fresh) stack merge.upper old) path name) upper

-- A move
abbrev moved_by : Fresh ℕ → Stack ℕ → List ℕ → List ℕ → Bool → Bool → FileTree ℕ → Option ℕ → ℕ → ℕ → ℕ → FileTree ℕ
moved_by fresh stack old new mark left u gone from to object =
    with_mark nat_eq mark (name_left_by nat_eq left fresh stack
    (with_moved nat_eq (without_contents nat_eq u gone) from old to new object) from old) object

pub moved_above : MovedAbove
moved_above fresh stack merge whole new from_path to_path from to object old new_name from_leads to_leads may =
    let one = even_new fresh merge.upper new in
    let path = from_path ++ old ∷ [] in
    let from_is : LeadsToDirectory merge from_path from =
    (from_leads, has_entries merge.files.tree from old object may.named) in
    let to_is : LeadsToDirectory merge to_path to = (to_leads, may.in_directory) in
    let leads = last_name merge.files.tree merge.files.tree.root from_path old
    ∙ ap (option_and_then (λ d. entry_at merge.files.tree d old)) from_leads ∙ may.named in
    let there = path_there stack merge whole path object leads in
    let first = copied_up nat_eq (evens fresh) merge object in
    let first_line = line (evens fresh) whole one object path leads in
    let two : AreNew (evens (odds fresh)) first.upper = even_new (odds fresh) first.upper (record {
      distinct = odds-distinct fresh new.distinct;
      unused = still_unused fresh whole new.distinct new.unused object there;
    }) in
    let from_later = directory_later (evens fresh) whole one object path leads from_path from from_is in
    let to_later = directory_later (evens fresh) whole one object path leads to_path to to_is in
    let second = copied_up nat_eq (evens (odds fresh)) first to in
    let ready = twice fresh stack merge whole new.distinct new.unused from old to new_name object may in
    let from_now = directory_later (evens
    (odds fresh)) first_line.whole two to to_path to_later.0 from_path from from_later in
    let to_now = directory_later (evens (odds fresh)) first_line.whole two to to_path to_later.0 to_path to to_later in
    let at_path = ap (λ files. number_at_path files path) ready.files ∙ leads in
    let from_object = object_is stack second ready.whole from_path from from_now.0 ready.from in
    let to_object = object_is stack second ready.whole to_path to to_now.0 ready.to in
    let own = object_is stack second ready.whole path object at_path ready.object in
    let gone = named_is stack second ready.whole to_path to to_now new_name in
    let mark = hides_is stack second ready.whole to_path to to_now new_name
    ∙ (still_below (evens (odds fresh)) first_line.whole two to to_path to_later.0 to_path to new_name
    to_later).1 ∙ (still_below (evens fresh) whole one object path leads to_path to new_name to_is).1 in
    let left = below_is stack second ready.whole from_path from from_now old
    ∙ (still_below (evens (odds fresh)) first_line.whole two to to_path to_later.0 from_path from old
    from_later).0 ∙ (still_below (evens fresh) whole one object path leads from_path from old from_is).0 in
    let upper = upper_is (evens (odds fresh)) first_line.whole two to to_path to_later.0
    ∙ ap (λ u. copied_to (evens (odds fresh)) stack u to_path) (upper_is (evens fresh) whole one object path leads) in
    (λ i. moved_by (odds (odds fresh)) stack old new_name (mark i) (is_some (left i)) second.upper (gone i)
    (from_object i) (to_object i) (own i))
    ∙ ap (λ u. moved_in (odds (odds fresh)) stack merge.upper u from_path old to_path new_name) upper
