-- What is asked well is at some places.
use Rattle.std.proofs.Common.{◌≡◌, ◌≢◌, refl, sym, ap, ◌∙◌, true≢false, ℕ, nat_eq, eq-eqb, eqb-true, Bool, true, false, List, [], ◌∷◌, ◌++◌, Option, Some, None, is_some, option_and_then, arith}
use Rattle.vt_spec.proofs.Common.{AddName, CopyUp, Make, Merge, Move, Real, Remove, SetAttr, SetBytes, SetMark, Stack, a_name, entry_at, led-append, none_is_some, nothing_is_no_object, number_at_path, same_Some, common_steps}
use Rattle.vt_laws_trees.proofs.layers.layers.ShownDirectories.{last_of}
use Rattle.vt_laws_trees.proofs.layers.layers.ShownNames.{last_name}
use Rattle.vt_laws_trees.proofs.layers.layers.ShownPaths.{not_empty}
use Rattle.vt_laws_trees.proofs.layers.layers.UpperLine.{has_entries, is_reached_in, named_so}
use Rattle.vt_laws_trees.proofs.layers.layers.UpperShown.{has_a_name, way_to}
use Rattle.vt_laws_trees.specs.Overlays.WhatIsShown.{IsWhole}
use Rattle.vt_laws_worlds.specs.Merging.UpperChanges.{IsAt, LeadsToDirectory, Place}
use Rattle.vt_laws_worlds.specs.Merging.UpperChanges.Place.{Held, Named}
use Rattle.vt_laws_worlds.specs.Merging.UpperCalls.{AskedChangesHavePlaces}
use Rattle.vt_laws_worlds.specs.Merging.UpperCalls.Asks.{copies, links, makes, moves, removes, sets_attr, sets_bytes}
use Rattle.vt_laws_worlds.specs.Merging.UpperCalls.ChangeAt.{AttrAt, BytesAt, CopyAt, LinkAt, MakeAt, MoveAt, RemoveAt}

module _ (stack : Stack ℕ) (merge : Merge ℕ) (whole : IsWhole stack merge) where
  -- what is there has a real object,
  real_of : (object : ℕ) → is_some (merge.files.tree.node object) ≡ true
      → (real : Real ℕ) × (merge.real object ≡ Some real)
  real_of object there = grind (arith, common_steps, nothing_is_no_object)

  -- what has no name, and is not the root, has no path,
  no_path : (object : ℕ) → nat_eq object merge.files.tree.root ≡ false → a_name nat_eq merge.files object ≡ None
      → (path : List (List ℕ)) → number_at_path merge.files path ≢ Some object
  no_path object other none [] e =
      true≢false (sym (eq-eqb object merge.files.tree.root (sym (same_Some merge.files.tree.root object e))) ∙ other)
  no_path object other none (word ∷ path) e =
      let last = last_of (word ∷ path) (not_empty word path) in
      by last.1 (number_at_path merge.files last.0)
      (sym (last_name merge.files.tree merge.files.tree.root last.0 last.1)
      ∙ ap (number_at_path merge.files) last.2 ∙ e)
    where
      by : (name : List ℕ) (o : Option ℕ) → option_and_then (λ d. entry_at merge.files.tree d name) o ≡ Some object → ⊥
      by name None e = none_is_some object e
      by name (Some d) e = true≢false (sym (has_a_name merge.files whole.numbers d name object e) ∙ ap is_some none)

  -- so each object that is there is at a place
  pub place_of : (object : ℕ) → is_some (merge.files.tree.node object) ≡ true
      → (place : Place) × IsAt merge object place
  place_of object there = by (nat_eq object merge.files.tree.root) refl (a_name nat_eq merge.files object) refl
    where
      by : (b : Bool) → nat_eq object merge.files.tree.root ≡ b → (o : Option (ℕ × List ℕ))
          → a_name nat_eq merge.files object ≡ o → (place : Place) × IsAt merge object place
      by true e o f = (Named [], ap Some (sym (eqb-true object merge.files.tree.root e)))
      by false e (Some name) f =
          let entry = named_so merge.files whole.tree object name f in
          let reached = is_reached_in merge.files whole.tree name.0 name.1 object entry in
          let way = way_to merge.files.tree reached.0 name.0 reached.1 in (
            Named (way.0 ++ name.1 ∷ []),
            led-append merge.files.tree merge.files.tree.root way.0 name.1 name.0 object way.1 entry,
          )
      by false e None f = let real = real_of object there in (Held real.0, (real.1, no_path object e f))

  -- and a directory with an entry at a path
  path_of : (directory : ℕ) (name : List ℕ) (object : ℕ) → entry_at merge.files.tree directory name ≡ Some object
      → (path : List (List ℕ)) × LeadsToDirectory merge path directory
  path_of directory name object e =
      let reached = is_reached_in merge.files whole.tree directory name object e in
      let way = way_to merge.files.tree reached.0 directory reached.1 in
      (way.0, (way.1, has_entries merge.files.tree directory name object e))

pub asked_changes_have_places : AskedChangesHavePlaces
asked_changes_have_places stack merge (Make directory name number node) whole asked =
    let free = asked.0.name_is_free in (
      MakeAt free.reached.0 name node,
      makes free.reached.0 directory name number node (free.reached.1, free.in_directory),
    )
asked_changes_have_places stack merge (AddName directory name object) whole asked =
    let free = asked.name_is_free in
    let old = place_of stack merge whole object asked.is_there in (
      LinkAt old.0 free.reached.0 name,
      links old.0 free.reached.0 directory object name (free.reached.1, free.in_directory) (asked.is_there, old.1),
    )
asked_changes_have_places stack merge (Remove directory name object) whole asked =
    let path = path_of stack merge whole _ name object asked.named in
    (RemoveAt path.0 name, removes path.0 directory object name path.1)
asked_changes_have_places stack merge (Move from old to new object) whole asked =
    let path = path_of stack merge whole from old object asked.0.named in (
      MoveAt path.0 old asked.0.reached.0 new,
      moves path.0 asked.0.reached.0 from to object old new path.1.0 asked.0.reached.1 asked.0,
    )
asked_changes_have_places stack merge (SetBytes file bytes) whole asked =
    let place = place_of stack merge whole file asked in
    (BytesAt place.0 bytes, sets_bytes file place.0 bytes (asked, place.1))
asked_changes_have_places stack merge (SetAttr object attr) whole asked =
    let place = place_of stack merge whole object asked in
    (AttrAt place.0 attr, sets_attr object place.0 attr (asked, place.1))
asked_changes_have_places stack merge (SetMark directory opaque) whole asked = absurd asked
asked_changes_have_places stack merge (CopyUp object) whole asked =
    let place = place_of stack merge whole object asked in (CopyAt place.0, copies object place.0 (asked, place.1))
