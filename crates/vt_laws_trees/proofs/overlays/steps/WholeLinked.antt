-- An object of the upper layer is put under a further name: the tree is still what the layers show.
use Rattle.std.proofs.Common.{arith, ◌≡◌, refl, sym, ap, subst, ◌∙◌, true≢false, ℕ, nat_eq, Bool, true, false, not, cond, ◌||◌, List, ◌∷◌, map, Option, Some, None, is_some}
use Rattle.vt_spec.proofs.Common.{AddName, FileTree, IsDirectory, IsTree, Merge, Node, SameObject, Stack, Upper, View, changed, common_steps, hides, is_directory_node, is_kind_in, led, merge_with_link, node_led, number_at_path, opaque_of, shown_from, then_some, upper_of, view_of, when}
use Rattle.vt_spec.specs.declared.attributes.Kind.TheVariants.{White}
use Rattle.vt_laws_trees.specs.Trees.{MayAddName}
use Rattle.vt_laws_trees.specs.Layers.Layers.ChangesUpper.{StandsInUpper}
use Rattle.vt_laws_trees.specs.Layers.Layers.Mounted.{IsAlike}
use Rattle.vt_laws_trees.specs.Layers.Layers.Views.{TakesName, goes_through, names_entry, view_in}
use Rattle.vt_laws_trees.specs.Overlays.WhatIsShown.{IsWhole, LinkKeepsShown, real_seen}
use Rattle.vt_laws_trees.proofs.layers.layers.ShownFronts.{prefix_found, prefix_passes}
use Rattle.vt_laws_trees.proofs.layers.views.After.{link_is_shown, shown_elsewhere_stays}
use Rattle.vt_laws_trees.proofs.layers.views.Fronts.{hides_so, hiding_alike}
use Rattle.vt_laws_trees.proofs.layers.views.Names.{add_name_adds_path, add_name_is_seen, names_leave_inodes}
use Rattle.vt_laws_trees.proofs.overlays.steps.WholeAttributes.{top_open, upper_real}
use Rattle.vt_laws_trees.proofs.overlays.steps.WholeFree.{leads_none, shown_none, takes_above, takes_shown}
use Rattle.vt_laws_trees.proofs.overlays.steps.WholeNames.{IsAbove, stands_above, cut_shows_none, directory_stands, is_fine, object_above, same_entry}
use Rattle.vt_laws_trees.proofs.overlays.steps.WholeParts.{IsFine, real_by, what_is_shown}
use Rattle.vt_laws_trees.proofs.overlays.steps.WholeStill.{rearranged_is_fine}

-- what is the same object as another is no whiteout
pub no_white_object : (a b : Option (Node ℕ)) → SameObject a b → is_kind_in White b ≡ false
no_white_object a b s = grind (arith, common_steps, true≢false)

-- what is there and is no directory hides what is below
pub file_hides : (o : Option (Node ℕ)) → is_some o ≡ true → is_directory_node o ≡ false → hides o ≡ true
file_hides None t d = absurd (true≢false (sym t))
file_hides (Some node) t d = ap (λ b. not b || opaque_of node.content) d

module _ {stack : Stack ℕ} {merge : Merge ℕ} (whole : IsWhole stack merge) {d : ℕ} {w : List ℕ} {object : ℕ}
    (stands : StandsInUpper merge d) (own : StandsInUpper merge object)
    (may : MayAddName merge.files.tree d w object) where
  abbrev ud : ℕ
  ud = upper_of merge d

  abbrev uo : ℕ
  uo = upper_of merge object

  abbrev lowers : List (View ℕ)
  lowers = map view_of stack.lowers

  abbrev before : View ℕ
  before = view_in merge.upper stack.directory

  abbrev files : FileTree ℕ
  files = changed nat_eq merge.files (AddName d w object)

  abbrev upper : FileTree ℕ
  upper = changed nat_eq merge.upper (AddName ud w uo)

  abbrev after : View ℕ
  after = view_in upper stack.directory

  abbrev later : Merge ℕ
  later = record merge { files = files; upper = upper }

  fine_before : IsFine stack merge
  fine_before = is_fine stack merge whole

  top_tree : IsTree merge.upper.tree
  top_tree = (top_open stack merge whole).0

  top_directory : IsDirectory merge.upper.tree stack.directory
  top_directory = (top_open stack merge whole).1

  above : IsAbove stack merge d ud
  above = stands_above d whole stands may.name_is_free.in_directory

  takes : TakesName merge.upper.tree ud w
  takes = takes_above above may.name_is_free

  real_object : merge.real object ≡ Some (Upper uo)
  real_object = upper_real merge object own

  uo_file : is_directory_node (merge.upper.tree.node uo) ≡ false
  uo_file = directory_stands stack merge whole object uo real_object ∙ may.no_directory

  uo_not_white : is_kind_in White (merge.upper.tree.node uo) ≡ false
  uo_not_white = no_white_object _ (merge.upper.tree.node uo) (object_above stack merge whole object uo real_object)

  leads_later : (path : List (List ℕ)) → goes_through before ud w path ≡ true → names_entry before ud w path ≡ false
      → led upper.tree stack.directory path ≡ None
  leads_later path through other = cc (
    add_name_adds_path merge.upper stack.directory ud uo w takes uo_file path,
    other,
    leads_none above may.name_is_free path through other,
  )

  hides_here : (front : List (List ℕ)) → names_entry before ud w front ≡ true → hides (node_led after front) ≡ true
  hides_here front e =
      let alike = subst (λ x. IsAlike (cond x (merge.upper.tree.node uo) (node_led before front))
      (node_led after front)) e (add_name_is_seen merge.upper stack.directory ud uo w takes uo_file front) in
      hiding_alike _ _ (hides_so _ _ alike) ∙ file_hides _ (fine_before.upper object uo real_object) uo_file

  shown_same : (path : List (List ℕ)) → names_entry before ud w path ≡ false
      → shown_from 0 (after ∷ lowers) path ≡ shown_from 0 (before ∷ lowers) path
  shown_same path other = by (goes_through before ud w path) refl
    where
      by : (b : Bool) → goes_through before ud w path ≡ b
          → shown_from 0 (after ∷ lowers) path ≡ shown_from 0 (before ∷ lowers) path
      by true through =
          let found = prefix_found (names_entry before ud w) path through in
          cut_shows_none after lowers path (leads_later path through other)
          (prefix_passes _ path found.0 found.1.0 found.1.1 found.1.2 (hides_here found.0 found.2))
          ∙ sym (shown_none above may.name_is_free path through)
      by false elsewhere = shown_elsewhere_stays merge.upper
          (AddName ud w uo) stack.directory lowers top_tree top_directory (takes, uo_file) path elsewhere

  paths_later : (path : List (List ℕ)) → then_some (number_at_path files path) merge.real ≡ real_seen stack later path
  paths_later path = by (names_entry before ud w path) refl
    where
      goes : (b : Bool) → names_entry before ud w path ≡ b
          → number_at_path files path ≡ cond b (Some object) (number_at_path merge.files path)
      goes b e = add_name_adds_path merge.files merge.files.tree.root d object w
          (takes_shown above may.name_is_free) may.no_directory path
          ∙ ap (λ x. cond x (Some object) (number_at_path merge.files path)) (same_entry above w path ∙ e)

      by : (b : Bool) → names_entry before ud w path ≡ b
          → then_some (number_at_path files path) merge.real ≡ real_seen stack later path
      by true e = ap (λ o. then_some o merge.real) (goes true e) ∙ real_object ∙ sym (ap (real_by path)
          (link_is_shown merge.upper stack.directory ud uo w lowers takes uo_file path e
          ∙ ap (λ b. when (not b) (record { layer = 0; object = uo })) uo_not_white))
      by false e = cc (goes false e, fine_before.paths path, shown_same path e)

  pub later_is_fine : IsFine stack later
  later_is_fine = rearranged_is_fine stack merge fine_before files upper
      (λ n. names_leave_inodes merge.files (AddName d w object) merge.files.tree.root n refl)
      (λ n u r. names_leave_inodes merge.upper (AddName ud w uo) stack.directory u refl) paths_later

pub link_keeps_shown : LinkKeepsShown
link_keeps_shown stack merge d w object whole stands own may =
    what_is_shown stack (merge_with_link nat_eq merge d w object) (later_is_fine whole stands own may)
