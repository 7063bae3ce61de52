-- What lower layers show after copies, a new object, a further name, and bytes, owner and mode that are set.
use Rattle.std.proofs.Common.{arith, ◌≡◌, ◌≢◌, refl, sym, ap, subst, ◌∙◌, true≢false, eq-eqb, ne_eqb, ℕ, nat_eq, Bool, true, false, cond, List, [], ◌∷◌, ◌++◌, Option, Some, None, is_some}
use Rattle.vt_spec.proofs.Common.{AddName, FileTree, Fresh, IsDirectory, Lower, Make, Merge, Node, SetAttr, SetBytes, Stack, Upper, changed, common_steps, content_with_parent, copied_up, cuts, hides, hides_directory, merge_with_link, merge_with_new, node_other, node_set, node_with_mark, none_is_some, number_at_path, same_Some, upper_object, upper_of, with_mark}
use Rattle.vt_laws_trees.specs.Trees.{MayAddName, MayMake}
use Rattle.vt_laws_trees.specs.Layers.Layers.ChangesUpper.{StandsInUpper}
use Rattle.vt_laws_trees.specs.Layers.Layers.Mounted.{IsAlike}
use Rattle.vt_laws_trees.specs.Layers.Layers.Upper.{IsThere}
use Rattle.vt_laws_trees.specs.Layers.Layers.Views.{goes_through, names_entry, view_in}
use Rattle.vt_laws_trees.proofs.layers.layers.LowersKept.{kept_elsewhere}
use Rattle.vt_laws_trees.proofs.layers.layers.ShownDirectories.{append_assoc, last_of}
use Rattle.vt_laws_trees.proofs.layers.layers.ShownFronts.{cons_is_not_empty, prefix_passes}
use Rattle.vt_laws_trees.proofs.layers.layers.ShownPaths.{not_empty}
use Rattle.vt_laws_trees.proofs.layers.views.After.{fails, lead_alike}
use Rattle.vt_laws_trees.proofs.layers.views.Fronts.{cuts_alike}
use Rattle.vt_laws_trees.proofs.layers.views.Moves.{through_is_split}
use Rattle.vt_laws_trees.proofs.layers.views.Names.{add_name_adds_path, alike_both, alike_same, make_adds_inode, make_adds_path, names_leave_inodes}
use Rattle.vt_laws_trees.specs.Overlays.WhatIsShown.{IsWhole}
use Rattle.vt_laws_trees.proofs.overlays.steps.WholeAttributes.{top_open, upper_real}
use Rattle.vt_laws_trees.proofs.overlays.steps.WholeGrown.{directory_alike}
use Rattle.vt_laws_trees.proofs.overlays.steps.WholeLines.{object_copied}
use Rattle.vt_laws_trees.proofs.overlays.steps.WholeMade.{new_bare}
use Rattle.vt_laws_trees.proofs.overlays.steps.WholeNames.{directory_stands, entry_named_so, through_free}
use Rattle.vt_laws_worlds.specs.Merging.UpperChanges.{AreNew, IsAt, LeadsToDirectory, Place, held_over, node_below, seen_below}
use Rattle.vt_laws_worlds.specs.Merging.UpperChanges.Place.{Held, Named}
use Rattle.vt_laws_worlds.proofs.merging.upper.BelowKept.{hides_kept, kept_below, led_is, none_below, same_below, same_cuts, under_mark}
use Rattle.vt_laws_worlds.proofs.merging.upper.Asked.{place_of}
use Rattle.vt_laws_worlds.proofs.merging.upper.Copying.{stays}
use Rattle.vt_laws_worlds.proofs.merging.upper.Fronts.{cuts_stay}
use Rattle.vt_laws_worlds.proofs.merging.upper.Places.{at_place, held_have_their_copies, path_there, seen_same}
use Rattle.vt_laws_trees.proofs.overlays.steps.WholeMoved.{mark_hides}

-- what is said at each name of each way, and at the root, is said at every path
pub at_each_path : (P : List (List ℕ) → Type 0) → P [] → ((way : List (List ℕ)) (name : List ℕ) → P (way ++ name ∷ []))
    → (path : List (List ℕ)) → P path
at_each_path P root named [] = root
at_each_path P root named (word ∷ rest) =
    let last = last_of _ (not_empty word rest) in subst P last.2 (named last.0 last.1)

-- Copies
module _ (fresh : Fresh ℕ) (stack : Stack ℕ) (merge : Merge ℕ) (whole : IsWhole stack merge)
    (new : AreNew fresh merge.upper) (object : ℕ) (there : IsThere merge.files object) where
  abbrev c : Merge ℕ
  c = copied_up nat_eq fresh merge object

  whole_now : IsWhole stack c
  whole_now = (object_copied stack fresh new.distinct merge object whole new.unused there).copied.whole

  files_now : c.files ≡ merge.files
  files_now = (object_copied stack fresh new.distinct merge object whole new.unused there).copied.files

  cut : (way : List (List ℕ)) (directory : ℕ) → LeadsToDirectory merge way directory
      → cuts (view_in c.upper stack.directory) way ≡ cuts (view_in merge.upper stack.directory) way
  cut way directory is = at (place_of stack merge whole object there)
    where
      held_alike : (layer : ℕ) (path : List (List ℕ)) → IsAt merge object (Held (Lower layer path)) → (u : ℕ)
          → is_some (merge.upper.tree.node u) ≡ true → IsAlike (merge.upper.tree.node u) (c.upper.tree.node u)
      held_alike layer path e u used = alike_same (merge.upper.tree.node u) (c.upper.tree.node u)
          (ap (λ t. t.tree.node u) (at_place fresh stack merge whole new object there (Held (Lower layer path)) e).0
          ∙ by (node_below stack layer path))
        where
          by : (o : Option (Node ℕ)) → (held_over fresh merge.upper o).tree.node u ≡ merge.upper.tree.node u
          by None = refl
          by (Some node) = node_other merge.upper.tree (fresh 0) _ u
              (λ same. true≢false (sym used ∙ ap (λ k. is_some (merge.upper.tree.node k)) same
              ∙ ap is_some (new.unused 0)))

      at : (place : Place) × IsAt merge object place
          → cuts (view_in c.upper stack.directory) way ≡ cuts (view_in merge.upper stack.directory) way
      at (Named path, e) =
          cuts_stay fresh new.distinct stack merge whole new.unused path object there e way directory is.0 is.1
      at (Held (Upper u), e) = ap (λ m. cuts (view_in m.upper stack.directory) way)
          (stays fresh stack merge whole object (ap (λ o. is_some (upper_object o)) e.0))
      at (Held (Lower layer path), e) = same_cuts stack merge c whole whole_now way directory is.0
          (λ front rest f. ap (λ files. number_at_path files front) files_now) (λ front rest n f leads.
          hides_kept stack merge c whole whole_now n
          (held_have_their_copies fresh stack merge whole new object n (Lower layer path) there e
          (λ same. e.1 front (leads ∙ ap Some same)))
          (λ u r. held_alike layer path e u (whole.shown.upper_there n u r)))

  pub copied_below : (path : List (List ℕ)) → seen_below stack c.upper path ≡ seen_below stack merge.upper path
  copied_below = at_each_path (λ path. seen_below stack c.upper path ≡ seen_below stack merge.upper path) refl
      (λ way name. same_below stack merge c whole whole_now way name (cut way) (λ d is. cut way d (
        subst (λ files. number_at_path files way ≡ Some d) files_now is.0,
        subst (λ files. IsDirectory files.tree d) files_now is.1,
      )))

-- fronts of a way that does not go through an entry
pub not_named : (files : FileTree ℕ) (d : ℕ) (w : List ℕ) (way front rest : List (List ℕ)) → front ++ rest ≡ way
    → goes_through (view_in files files.tree.root) d w way ≡ false
    → names_entry (view_in files files.tree.root) d w front ≡ false
not_named files d w way front rest e none =
    grind (arith, common_steps, none, fails, true≢false, prefix_passes, cons_is_not_empty)

pub marked_hides : (files : FileTree ℕ) (c : ℕ) (b : Bool) → b ≡ true → is_some (files.tree.node c) ≡ true
    → hides ((with_mark nat_eq b files c).tree.node c) ≡ true
marked_hides files c b e used = cc (
  node_set files.tree c (node_with_mark true (files.tree.node c)),
  mark_hides (files.tree.node c) used,
)

-- A new object
module _ (fresh : Fresh ℕ) {stack : Stack ℕ} {m : Merge ℕ} (whole : IsWhole stack m) {d : ℕ} {w : List ℕ}
    {number : ℕ} {node : Node ℕ} (stands : StandsInUpper m d) (vacant : m.upper.tree.node (fresh 0) ≡ None)
    (may : MayMake m.files.tree d w number node)
    (whole_later : IsWhole stack (merge_with_new nat_eq fresh stack m d w number node)) where
  abbrev later : Merge ℕ
  later = merge_with_new nat_eq fresh stack m d w number node

  abbrev ud : ℕ
  ud = upper_of m d

  abbrev new_node : Node ℕ
  new_node = record { attr = node.attr; content = content_with_parent ud node.content }

  abbrev grown : FileTree ℕ
  grown = changed nat_eq m.upper (Make ud w (fresh 0) new_node)

  ud_directory : IsDirectory m.upper.tree ud
  ud_directory = cc (directory_stands stack m whole d ud (upper_real m d stands))

  number_later : (path : List (List ℕ)) → number_at_path later.files path
      ≡ cond (names_entry (view_in m.files m.files.tree.root) d w path) (Some number) (number_at_path m.files path)
  number_later path = make_adds_path m.files m.files.tree.root d number w node (record {
    in_directory = may.name_is_free.in_directory;
    bare = λ r g. none_is_some r (sym may.name_is_free.free ∙ g);
  }) may.number_is_new (new_bare d node may.fits) path

  alike : (b : Bool) (u : ℕ) → u ≢ fresh 0
      → IsAlike (m.upper.tree.node u) ((with_mark nat_eq b grown (fresh 0)).tree.node u)
  alike true u differ = alike_both _ _ _ ((make_adds_inode m.upper m.upper.tree.root ud (fresh 0) w new_node
      ud_directory vacant).1 u differ) (alike_same _ _ (kept_elsewhere grown _ (node_with_mark true) u
      (ne_eqb u (fresh 0) differ)))
  alike false u differ =
      (make_adds_inode m.upper m.upper.tree.root ud (fresh 0) w new_node ud_directory vacant).1 u differ

  hiding : (front : List (List ℕ)) (n : ℕ) → number_at_path m.files front ≡ Some n
      → Rattle.vt_laws_worlds.proofs.merging.upper.BelowKept.HidesAsBefore stack m later whole whole_later n
  hiding front n leads = hides_kept stack m later whole whole_later n
      (ap (λ b. cond b (Some (Upper (fresh 0))) (m.real n))
      (ne_eqb n number (λ same. true≢false (sym (path_there stack m whole front n leads)
      ∙ ap (λ k. is_some (m.files.tree.node k)) same ∙ ap is_some may.number_is_new))))
      (λ u r. alike (hides_directory nat_eq stack m d w) u
      (λ same. true≢false (sym (whole.shown.upper_there n u r) ∙ ap (λ k. is_some (m.upper.tree.node k)) same
      ∙ ap is_some vacant)))

  elsewhere : (way : List (List ℕ)) → goes_through (view_in m.files m.files.tree.root) d w way ≡ false
      → (front rest : List (List ℕ))
      → front ++ rest ≡ way → number_at_path later.files front ≡ number_at_path m.files front
  elsewhere way none front rest is = cc (number_later front, not_named m.files d w way front rest is none)

  -- under the new name
  none_after : (to rest : List (List ℕ)) (name : List ℕ) → number_at_path m.files to ≡ Some d
      → seen_below stack later.upper ((to ++ w ∷ rest) ++ name ∷ []) ≡ None
  none_after to rest name leads = ap (seen_below stack later.upper) (append_assoc to (w ∷ rest) (name ∷ [])) ∙ by rest
    where
      not_through : goes_through (view_in m.files m.files.tree.root) d w to ≡ false
      not_through = fails (goes_through (view_in m.files m.files.tree.root) d w to)
          (λ t. none_is_some d (sym (through_free m.files m.files.tree.root d w may.name_is_free.free to t) ∙ leads))

      leads_new : number_at_path later.files (to ++ w ∷ []) ≡ Some number
      leads_new = cc (number_later (to ++ w ∷ []), entry_named_so m.files m.files.tree.root d w to leads)

      under : (word : List ℕ) (rest : List (List ℕ)) → seen_below stack later.upper (to ++ w ∷ word ∷ rest) ≡ None
      under = under_mark stack m later whole whole_later to w d (leads, may.name_is_free.in_directory)
          (same_cuts stack m later whole whole_later to d leads (elsewhere to not_through)
          (λ front rest n is. hiding front n)) (fresh 0) (led_is stack later whole_later (to ++ w ∷ []) number leads_new
          ∙ ap (λ b. upper_object (cond b (Some (Upper (fresh 0))) (m.real number))) (eq-eqb number number refl))
          (λ h. marked_hides grown (fresh 0) (hides_directory nat_eq stack m d w) h
          (ap is_some (make_adds_inode m.upper m.upper.tree.root ud (fresh 0) w new_node ud_directory vacant).0))

      by : (rest : List (List ℕ)) → seen_below stack later.upper (to ++ w ∷ (rest ++ name ∷ [])) ≡ None
      by [] = under name []
      by (word ∷ rest) = under word (rest ++ name ∷ [])

  pub made_below : (path : List (List ℕ)) → seen_below stack later.upper path ≡ seen_below stack m.upper path
  made_below = at_each_path (λ path. seen_below stack later.upper path ≡ seen_below stack m.upper path) refl
      (λ way name. by way name (goes_through (view_in m.files m.files.tree.root) d w way) refl)
    where
      by : (way : List (List ℕ)) (name : List ℕ) (b : Bool)
          → goes_through (view_in m.files m.files.tree.root) d w way ≡ b
          → seen_below stack later.upper (way ++ name ∷ []) ≡ seen_below stack m.upper (way ++ name ∷ [])
      by way name true through =
          let parts = through_is_split m.files m.files.tree.root d w way through in
          ap (λ p. seen_below stack later.upper (p ++ name ∷ [])) (sym parts.2)
          ∙ none_after parts.0 parts.1 name parts.3 ∙ sym (none_below stack m whole way name (λ k is c.
          none_is_some k (sym (through_free m.files m.files.tree.root d w may.name_is_free.free way through) ∙ is.0)))
      by way name false none = kept_below stack m later whole whole_later way name (elsewhere way none)
          (λ front rest n is. hiding front n)

-- A further name
module _ {stack : Stack ℕ} {m : Merge ℕ} (whole : IsWhole stack m) {d : ℕ} {w : List ℕ} {object : ℕ}
    (may : MayAddName m.files.tree d w object) (whole_later : IsWhole stack (merge_with_link nat_eq m d w object)) where
  abbrev further : Merge ℕ
  further = merge_with_link nat_eq m d w object

  number_now : (path : List (List ℕ)) → number_at_path further.files path
      ≡ cond (names_entry (view_in m.files m.files.tree.root) d w path) (Some object) (number_at_path m.files path)
  number_now path = add_name_adds_path m.files m.files.tree.root d object w (record {
    in_directory = may.name_is_free.in_directory;
    bare = λ r g. none_is_some r (sym may.name_is_free.free ∙ g);
  }) may.no_directory path

  no_directory : ¬ (IsDirectory further.files.tree object)
  no_directory is = true≢false (cc (directory_alike (m.files.tree.node object) (further.files.tree.node object)
      (names_leave_inodes m.files (AddName d w object) m.files.tree.root object refl)))

  pub linked_below : (path : List (List ℕ)) → seen_below stack further.upper path ≡ seen_below stack m.upper path
  linked_below = at_each_path (λ path. seen_below stack further.upper path ≡ seen_below stack m.upper path) refl
      (λ way name. by way name (goes_through (view_in m.files m.files.tree.root) d w way) refl)
    where
      none : (way : List (List ℕ)) → goes_through (view_in m.files m.files.tree.root) d w way ≡ true
          → number_at_path m.files way ≡ None
      none way through = through_free m.files m.files.tree.root d w may.name_is_free.free way through

      no_way : (way : List (List ℕ)) → goes_through (view_in m.files m.files.tree.root) d w way ≡ true → (b : Bool)
          → names_entry (view_in m.files m.files.tree.root) d w way ≡ b → (k : ℕ)
          → cond b (Some object) (number_at_path m.files way) ≡ Some k → IsDirectory further.files.tree k → ⊥
      no_way way through true e k leads is =
          no_directory (subst (IsDirectory further.files.tree) (sym (same_Some object k leads)) is)
      no_way way through false e k leads is = none_is_some k (sym (none way through) ∙ leads)

      by : (way : List (List ℕ)) (name : List ℕ) (b : Bool)
          → goes_through (view_in m.files m.files.tree.root) d w way ≡ b
          → seen_below stack further.upper (way ++ name ∷ []) ≡ seen_below stack m.upper (way ++ name ∷ [])
      by way name true through = none_below stack further whole_later way name
          (λ k is c. no_way way through (names_entry (view_in m.files m.files.tree.root) d w way) refl k
          (sym (number_now way) ∙ is.0) is.1)
          ∙ sym (none_below stack m whole way name (λ k is c. none_is_some k (sym (none way through) ∙ is.0)))
      by way name false other = kept_below stack m further whole whole_later way name (λ front rest is. number_now front
          ∙ ap (λ b. cond b (Some object) (number_at_path m.files front))
          (not_named m.files d w way front rest is other))
          (λ front rest n is leads. hides_kept stack m further whole whole_later n refl
          (λ u r. names_leave_inodes m.upper (AddName (upper_of m d) w (upper_of m object)) m.upper.tree.root u refl))

-- Bytes, owner and mode
module _ (stack : Stack ℕ) (m : Merge ℕ) (whole : IsWhole stack m) (u : ℕ) where
  pub bytes_below : (bytes : List ℕ) (path : List (List ℕ))
      → seen_below stack (changed nat_eq m.upper (SetBytes u bytes)) path ≡ seen_below stack m.upper path
  bytes_below bytes = at_each_path (λ path. seen_below stack (changed nat_eq m.upper (SetBytes u bytes)) path
      ≡ seen_below stack m.upper path) refl
      (λ way name. seen_same stack m.upper (changed nat_eq m.upper (SetBytes u bytes)) way name
      (cuts_alike way (view_in m.upper stack.directory)
      (view_in (changed nat_eq m.upper (SetBytes u bytes)) stack.directory)
      (lead_alike m.upper stack.directory (top_open stack m whole).0 (top_open stack m whole).1 (SetBytes u bytes) tt
      way refl)))

  pub attr_below : (attr : Rattle.vt_spec.specs.declared.attributes.Attr.Attr) (path : List (List ℕ))
      → seen_below stack (changed nat_eq m.upper (SetAttr u attr)) path ≡ seen_below stack m.upper path
  attr_below attr = at_each_path (λ path. seen_below stack (changed nat_eq m.upper (SetAttr u attr)) path
      ≡ seen_below stack m.upper path) refl
      (λ way name. seen_same stack m.upper (changed nat_eq m.upper (SetAttr u attr)) way name
      (cuts_alike way (view_in m.upper stack.directory)
      (view_in (changed nat_eq m.upper (SetAttr u attr)) stack.directory)
      (lead_alike m.upper stack.directory (top_open stack m whole).0 (top_open stack m whole).1 (SetAttr u attr) tt
      way refl)))
