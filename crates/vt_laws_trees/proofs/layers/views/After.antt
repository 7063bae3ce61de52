-- What a change of the upper layer leaves of what is shown.
use Rattle.std.proofs.Common.{arith, ◌≡◌, ◌≢◌, refl, sym, ap, subst, ◌∙◌, true≢false, ℕ, nat_eq, Bool, true, false, not, cond, List, [], ◌∷◌, ◌++◌, Option, Some, None, append-nil}
use Rattle.vt_spec.proofs.Common.{AddName, Change, CopyUp, FileTree, IsDirectory, IsTree, Make, Move, Node, Remove, SetAttr, SetBytes, SetMark, Tree, View, changed, changed_node, common_steps, eqb_tells, is_kind_in, led, list_any, node_led, node_with_attr, node_with_bytes, node_with_mark, or_false_left, or_false_right, prefixes, same_option, shown_from, then_some, when}
use Rattle.vt_spec.specs.declared.attributes.Attr.{Attr}
use Rattle.vt_spec.specs.declared.attributes.Kind.TheVariants.{White}
use Rattle.vt_laws_trees.specs.Layers.Layers.Mounted.{IsAlike}
use Rattle.vt_laws_trees.specs.Layers.Layers.Shown.{IsFrontOf}
use Rattle.vt_laws_trees.specs.Layers.Layers.ShownAfter.{HidesAlike, IsOneKind, IsPlainChange, LeadAlikeTo, LinkIsShown, NewNameIsShown, ShownElsewhereStays, may_show}
use Rattle.vt_laws_trees.specs.Layers.Layers.Views.{goes_through, names_entry, view_after, view_in}
use Rattle.vt_laws_trees.proofs.layers.layers.LowersKept.{kept_elsewhere}
use Rattle.vt_laws_trees.proofs.layers.layers.ShownAlike.{white_alike}
use Rattle.vt_laws_trees.proofs.layers.layers.ShownDirectories.{append_assoc}
use Rattle.vt_laws_trees.proofs.layers.layers.ShownFronts.{cons_is_not_empty, prefix_found, prefix_passes}
use Rattle.vt_laws_trees.proofs.layers.views.Fronts.{hides_so, shown_in_lowers_at_alike}
use Rattle.vt_laws_trees.proofs.layers.views.Moves.{old_leads_nowhere}
use Rattle.vt_laws_trees.proofs.layers.views.Names.{add_name_adds_path, make_adds_inode, make_adds_path, make_is_seen, names_leave_inodes, remove_ends_paths}
use Rattle.vt_laws_trees.proofs.layers.views.Stay.{attr_changes_one_inode, bytes_change_one_inode, mark_changes_one_inode}

-- Fronts of fronts

pub fails : (b : Bool) → b ≢ true → b ≡ false
fails true not_so = absurd (not_so refl)
fails false not_so = refl

-- a test that fails at all fronts of a path fails at each, and at all fronts of each
front_fails : (test : List (List ℕ) → Bool) (path front : List (List ℕ)) → IsFrontOf front path
    → list_any test (prefixes path) ≡ false → test front ≡ false
front_fails test path front is none = fails (test front) (λ e. cc (prefix_passes test path front is.0 is.1 is.2 e))

pub prefixes_fail : (test : List (List ℕ) → Bool) (path front : List (List ℕ)) → IsFrontOf front path
    → list_any test (prefixes path) ≡ false → list_any test (prefixes front) ≡ false
prefixes_fail test path front is none = fails (list_any test (prefixes front)) (λ e. found (prefix_found test front e))
  where
    found : (inner : List (List ℕ)) × IsFrontOf inner front × (test inner ≡ true) → ⊥
    found there = true≢false (sym there.2 ∙ front_fails test path there.0 (
      there.1.0 ++ is.0,
      sym (append_assoc there.0 there.1.0 is.0) ∙ ap (λ p. p ++ is.0) there.1.1 ∙ is.1,
      there.1.2,
    ) none)

pub itself_fails : (test : List (List ℕ) → Bool) (path : List (List ℕ)) → test [] ≡ false
    → list_any test (prefixes path) ≡ false → test path ≡ false
itself_fails test [] start none = start
itself_fails test (word ∷ path) start none =
    front_fails test (word ∷ path) (word ∷ path) ([], append-nil (word ∷ path), cons_is_not_empty word path) none

-- Inodes that hide alike

hides_itself : (one : Option (Node ℕ)) → HidesAlike one one
hides_itself one = record { of_kind = record { there = refl; kind = refl }; mark = refl }

bytes_hide : (bytes : List ℕ) (o : Option (Node ℕ)) → HidesAlike o (node_with_bytes bytes o)
bytes_hide bytes None = hides_itself None
bytes_hide bytes (Some node) = grind (arith, common_steps)

attr_hides : (attr : Attr) (o : Option (Node ℕ)) → HidesAlike o (node_with_attr attr o)
attr_hides attr None = hides_itself None
attr_hides attr (Some node) = record { of_kind = record { there = refl; kind = refl }; mark = refl }

mark_of_kind : (opaque : Bool) (o : Option (Node ℕ)) → IsOneKind o (node_with_mark opaque o)
mark_of_kind opaque None = record { there = refl; kind = refl }
mark_of_kind opaque (Some node) = grind (arith, common_steps)

-- a relation of each inode to what a change of one makes of it
holds_after : (R : Option (Node ℕ) → Option (Node ℕ)
    → Type 0) (files : FileTree ℕ) (number : ℕ) (change : Option (Node ℕ) → Option (Node ℕ))
    → ((o : Option (Node ℕ)) → R o o) → ((o : Option (Node ℕ)) → R o (change o)) → (inode : ℕ)
    → R (files.tree.node inode) ((changed_node nat_eq files number change).tree.node inode)
holds_after R files number change same changes inode = grind (arith, common_steps, kept_elsewhere, eqb_tells)

-- and so of what a path leads to
module _ (R : Option (Node ℕ) → Option (Node ℕ) → Type 0) (same : (o : Option (Node ℕ)) → R o o) where
  holds_led : (before after : Tree ℕ) (top : ℕ) (path : List (List ℕ)) → led after top path ≡ led before top path
      → ((inode : ℕ) → led before top path ≡ Some inode → R (before.node inode) (after.node inode))
      → R (then_some (led before top path) before.node) (then_some (led after top path) after.node)
  holds_led before after top path e others = grind (arith, common_steps)

-- A path at which a change may show nothing

abbrev Stays : View ℕ → View ℕ → List (List ℕ) → Type 0
Stays before after path =
    (after.leads path ≡ before.leads path) × HidesAlike (node_led before path) (node_led after path)

not_named : (files : FileTree ℕ) (top directory : ℕ) (name : List ℕ) (path : List (List ℕ))
    → goes_through (view_in files top) directory name path ≡ false
    → names_entry (view_in files top) directory name path ≡ false
not_named files top directory name path none = itself_fails _ path refl none

module _ (files : FileTree ℕ) (top : ℕ) where
  names_stay : (change : Change ℕ) → Rattle.vt_laws_trees.specs.Layers.Layers.Views.changes_names_alone change ≡ true
      → (path : List (List ℕ)) → led (changed nat_eq files change).tree top path ≡ led files.tree top path
      → Stays (view_in files top) (view_after files change top) path
  names_stay change is path e = (
    e,
    holds_led HidesAlike hides_itself files.tree (changed nat_eq files change).tree top path e
        (λ inode l. hides_so (files.tree.node inode) _ (names_leave_inodes files change top inode is)),
  )

  one_stays : (number : ℕ) (change : Option (Node ℕ) → Option (Node ℕ))
      → ((o : Option (Node ℕ)) → HidesAlike o (change o)) → (path : List (List ℕ))
      → led (changed_node nat_eq files number change).tree top path ≡ led files.tree top path
      → Stays (view_in files top) (view_in (changed_node nat_eq files number change) top) path
  one_stays number change hides path e = (
    e,
    holds_led HidesAlike hides_itself files.tree (changed_node nat_eq files number change).tree top path e
        (λ inode l. holds_after HidesAlike files number change hides_itself hides inode),
  )

  module _ (tree : IsTree files.tree) (is_top : IsDirectory files.tree top) where
    abbrev Alike : Change ℕ → List (List ℕ) → Type 0
    Alike change path = LeadAlikeTo path (view_in files top) (view_after files change top)

    -- where a path and all its fronts stay
    all_stay : (change : Change ℕ) (path : List (List ℕ)) → Stays (view_in files top) (view_after files change top) path
        → ((front : List (List ℕ)) → IsFrontOf front path
        → Stays (view_in files top) (view_after files change top) front) → Alike change path
    all_stay change path here front =
        record { leads = here.0; inode = here.1.of_kind; on_the_way = λ f is. (front f is).1 }

    -- names that a path does not go through
    through_none : (change : Change ℕ) (directory : ℕ) (name : List ℕ)
        → ((path : List (List ℕ)) → goes_through (view_in files top) directory name path ≡ false
        → Stays (view_in files top) (view_after files change top) path)
        → (path : List (List ℕ)) → goes_through (view_in files top) directory name path ≡ false → Alike change path
    through_none change directory name stays path none = all_stay change path (stays path none)
        (λ front is. stays front (prefixes_fail (names_entry (view_in files top) directory name) path front is none))

    pub lead_alike : (change : Change ℕ) → IsPlainChange files.tree change → (path : List (List ℕ))
        → may_show (view_in files top) change path ≡ false → Alike change path
    lead_alike (Make directory name number node) plain path none =
        through_none (Make directory name number node) directory name stays path none
      where
        stays : (path : List (List ℕ)) → goes_through (view_in files top) directory name path ≡ false
            → Stays (view_in files top) (view_after files (Make directory name number node) top) path
        stays path none =
            let no = not_named files top directory name path none in (
              cc (make_adds_path files top directory number name node plain.0 plain.1 plain.2 path, no),
              hides_so _ _ (subst (λ b. IsAlike (cond b (Some node) (node_led (view_in files top) path))
                  (node_led (view_after files (Make directory name number node) top) path)) no
                  (make_is_seen files top directory number name node tree is_top plain.0 plain.1 plain.2 path)),
            )
    lead_alike (AddName directory name object) plain path none =
        through_none (AddName directory name object) directory name
        (λ path none. names_stay (AddName directory name object) refl path
        (add_name_adds_path files top directory object name plain.0 plain.1 path
        ∙ ap (λ b. cond b (Some object) (led files.tree top path)) (not_named files top directory name path none)))
        path none
    lead_alike (Remove directory name object) plain path none =
        through_none (Remove directory name object) directory name
        (λ path none. names_stay (Remove directory name object) refl path
        (cc (remove_ends_paths files top directory object name path)))
        path none
    lead_alike (Move from old to new object) plain path none = all_stay (Move from old to new object)
        path (stays path no_new no_old) (λ front is. stays front (prefixes_fail _ path front is no_new)
        (prefixes_fail (names_entry (view_in files top) from old) path front is no_old))
      where
        no_new : goes_through (view_in files top) to new path ≡ false
        no_new = or_false_left (goes_through (view_in files top) to new path) _ none

        no_old : goes_through (view_in files top) from old path ≡ false
        no_old = or_false_right (goes_through (view_in files top) to new path) _ none

        stays : (path : List (List ℕ)) → goes_through (view_in files top) to new path ≡ false
            → goes_through (view_in files top) from old path ≡ false
            → Stays (view_in files top) (view_after files (Move from old to new object) top) path
        stays path no_new no_old = names_stay (Move from old to new object) refl path
            (cc (old_leads_nowhere files top from to object old new plain path no_new))
    lead_alike (SetBytes file bytes) plain path none =
        all_stay (SetBytes file bytes) path (stays path) (λ front is. stays front)
      where
        stays : (path : List (List ℕ)) → Stays (view_in files top) (view_after files (SetBytes file bytes) top) path
        stays path = one_stays file _ (bytes_hide bytes) path ((bytes_change_one_inode files top file bytes).0 path)
    lead_alike (SetAttr object attr) plain path none =
        all_stay (SetAttr object attr) path (stays path) (λ front is. stays front)
      where
        stays : (path : List (List ℕ)) → Stays (view_in files top) (view_after files (SetAttr object attr) top) path
        stays path = one_stays object _ (attr_hides attr) path ((attr_changes_one_inode files top object attr).0 path)
    lead_alike (SetMark directory opaque) plain path none = record {
      leads = leads path;
      inode = holds_led IsOneKind (λ o. (hides_itself o).of_kind) files.tree
          (changed_node nat_eq files directory (node_with_mark opaque)).tree top path (leads path)
          (λ inode l. holds_after IsOneKind files directory (node_with_mark opaque) (λ o. (hides_itself o).of_kind)
          (mark_of_kind opaque) inode);
      on_the_way = λ front is. holds_led HidesAlike hides_itself files.tree
          (changed_node nat_eq files directory (node_with_mark opaque)).tree top front (leads front)
          (λ inode l. subst (HidesAlike (files.tree.node inode))
          (sym (kept_elsewhere files directory (node_with_mark opaque) inode
          (cc (front_fails (λ f. same_option nat_eq (led files.tree top f) (Some directory)) path front is none))))
          (hides_itself (files.tree.node inode)));
    }
      where
        leads : (path : List (List ℕ)) → led (changed_node nat_eq files directory (node_with_mark opaque)).tree top path
            ≡ led files.tree top path
        leads = (mark_changes_one_inode files top directory opaque).0
    lead_alike (CopyUp object) plain path none =
        all_stay (CopyUp object) path (names_stay (CopyUp object) refl path refl)
        (λ front is. names_stay (CopyUp object) refl front refl)

pub shown_elsewhere_stays : ShownElsewhereStays
shown_elsewhere_stays files change top lowers tree is_top plain path none =
    shown_in_lowers_at_alike path (view_in files top) (view_after files change top)
    (lead_alike files top tree is_top change plain path none) lowers

-- what the upper layer has is shown, unless it is a whiteout
pub on_top : (view : View ℕ) (lowers : List (View ℕ)) (path : List (List ℕ)) (object : ℕ) (white : Bool)
    → view.leads path ≡ Some object → is_kind_in White (view.node object) ≡ white
    → shown_from 0 (view ∷ lowers) path ≡ when (not white) (record { layer = 0; object = object })
on_top view lowers path object white e is = cc

pub new_name_is_shown : NewNameIsShown
new_name_is_shown files top directory number name node lowers is vacant bare path e =
    on_top (view_after files (Make directory name number node) top) lowers path number _ (make_adds_path files
    top directory number name node is vacant bare path ∙ ap (λ b. cond b (Some number) (led files.tree top path)) e)
    (ap (is_kind_in White) (make_adds_inode files top directory number name node is.in_directory vacant).0)

pub link_is_shown : LinkIsShown
link_is_shown files top directory object name lowers is file path e =
    on_top (view_after files (AddName directory name object) top) lowers path object _ (add_name_adds_path files
    top directory object name is file path ∙ ap (λ b. cond b (Some object) (led files.tree top path)) e)
    (white_alike (files.tree.node object) _ (names_leave_inodes files (AddName directory name object) top object refl))
