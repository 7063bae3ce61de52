-- A name is taken away, with a whiteout or without one: the tree is still what the layers show.
use Rattle.std.proofs.Common.{arith, ◌≡◌, ◌≢◌, refl, sym, ap, subst, ◌∙◌, true≢false, ne_eqb, ◌⊎◌, ⊎_elim, inl, inr, ℕ, suc, nat_eq, Bool, true, false, cond, List, [], ◌∷◌, ◌++◌, map, Option, Some, None, is_some, append-nil}
use Rattle.vt_spec.proofs.Common.{FileTree, IsDirectory, IsTree, Make, Merge, Node, Remove, Shown, Stack, Upper, View, changed, changed_node, common_steps, cuts, entries_in, entry_named, hides, is_kind_in, led, name_left_by, node_led, node_with_parent, node_without_entries, node_without_entry, none_is_some, number_at_path, same_Some, shown_from, shown_in_lowers_at, then_some, upper_directory_named, upper_of, view_of, whiteout_of, without_contents, without_name}
use Rattle.vt_spec.specs.declared.attributes.Kind.TheVariants.{White}
use Rattle.vt_laws_trees.specs.Trees.{MayRemove}
use Rattle.vt_laws_trees.specs.Layers.Layers.ChangesUpper.{StandsInUpper}
use Rattle.vt_laws_trees.specs.Layers.Layers.Mounted.{IsAlike}
use Rattle.vt_laws_trees.specs.Layers.Layers.Shown.{IsFrontOf}
use Rattle.vt_laws_trees.specs.Layers.Layers.Views.{goes_through, names_entry, view_in}
use Rattle.vt_laws_trees.specs.Overlays.WhatIsShown.{IsWhole, RemoveKeepsShown, real_seen}
use Rattle.vt_laws_trees.proofs.layers.layers.CopyingParts.{without_entry_keeps}
use Rattle.vt_laws_trees.proofs.layers.layers.LowersKept.{kept_elsewhere}
use Rattle.vt_laws_trees.proofs.layers.layers.ShownAlike.{white_alike}
use Rattle.vt_laws_trees.proofs.layers.layers.ShownDirectories.{append_assoc, led_is_there}
use Rattle.vt_laws_trees.proofs.layers.layers.ShownFronts.{prefix_found, prefix_passes}
use Rattle.vt_laws_trees.proofs.layers.layers.ShownPaths.{not_empty}
use Rattle.vt_laws_trees.proofs.layers.layers.UpperLine.{has_entries}
use Rattle.vt_laws_trees.proofs.layers.views.After.{fails, prefixes_fail, itself_fails, on_top}
use Rattle.vt_laws_trees.proofs.layers.views.Lower.{way_goes_elsewhere}
use Rattle.vt_laws_trees.proofs.layers.views.Entries.{taken}
use Rattle.vt_laws_trees.proofs.layers.views.Fronts.{prefixes_agree, hides_so, hiding_alike}
use Rattle.vt_laws_trees.proofs.layers.views.Moves.{no_way_up, through_is_split}
use Rattle.vt_laws_trees.proofs.layers.views.Names.{alike_after, alike_both, make_adds_inode, make_ends_paths, names_leave_inodes, no_entries, remove_takes_path}
use Rattle.vt_laws_trees.proofs.layers.views.Stay.{led_where}
use Rattle.vt_laws_trees.proofs.layers.views.Walks.{entry_gone, goes_through_it}
use Rattle.vt_laws_trees.proofs.overlays.steps.WholeAttributes.{top_open}
use Rattle.vt_laws_trees.proofs.overlays.steps.WholeMade.{below_name}
use Rattle.vt_laws_trees.proofs.overlays.steps.WholeLeft.{one_named, own_upper}
use Rattle.vt_laws_trees.proofs.overlays.steps.WholeNames.{IsAbove, stands_above, cut_shows_none, is_fine, over_same, same_entry, same_holds, same_is, same_place, same_through, through_bare}
use Rattle.vt_laws_trees.proofs.overlays.steps.WholeParts.{IsFine, what_is_shown}
use Rattle.vt_laws_trees.proofs.overlays.steps.WholePlaces.{shown_longer}
use Rattle.vt_laws_trees.proofs.overlays.steps.WholeStill.{rearranged_is_fine}
use Rattle.vt_laws_trees.proofs.overlays.steps.WholeLeft.{emptied_alike}

pub white_hides : (o : Option (Node ℕ)) → is_kind_in White o ≡ true → hides o ≡ true
white_hides o e = grind (arith, common_steps, true≢false)

module _ {stack : Stack ℕ} {merge : Merge ℕ} (whole : IsWhole stack merge) {d : ℕ} {w : List ℕ} {object : ℕ}
    (stands : StandsInUpper merge d) (may : MayRemove merge.files.tree d w object) where
  abbrev ud : ℕ
  ud = upper_of merge d

  abbrev lowers : List (View ℕ)
  lowers = map view_of stack.lowers

  abbrev before : View ℕ
  before = view_in merge.upper stack.directory

  abbrev files : FileTree ℕ
  files = changed nat_eq merge.files (Remove d w object)

  fine_before : IsFine stack merge
  fine_before = is_fine stack merge whole

  top_tree : IsTree merge.upper.tree
  top_tree = (top_open stack merge whole).0

  top_directory : IsDirectory merge.upper.tree stack.directory
  top_directory = (top_open stack merge whole).1

  d_directory : IsDirectory merge.files.tree d
  d_directory = has_entries merge.files.tree d w object may.named

  above : IsAbove stack merge d ud
  above = stands_above d whole stands d_directory

  -- the way to the directory does not go through the name
  way_elsewhere : (to : List (List ℕ)) → number_at_path merge.files to ≡ Some d → goes_through before ud w to ≡ false
  way_elsewhere to e = sym (same_through above w to)
      ∙ way_goes_elsewhere merge.files merge.files.tree.root d w whole.tree object may.named to e

  -- The upper layer afterwards
  module _ (upper : FileTree ℕ) (x : Option ℕ) (led_after : (path : List (List ℕ)) → led upper.tree stack.directory path
      ≡ cond (names_entry before ud w path) x
      (cond (goes_through before ud w path) None (led merge.upper.tree stack.directory path)))
      (alike : (u : ℕ) → is_some (merge.upper.tree.node u) ≡ true
      → IsAlike (merge.upper.tree.node u) (upper.tree.node u))
      (left : ((x ≡ None) × (shown_in_lowers_at nat_eq stack merge d w ≡ None))
      ⊎ ((c : ℕ) × (x ≡ Some c) × (is_kind_in White (upper.tree.node c) ≡ true))) where
    abbrev after : View ℕ
    after = view_in upper stack.directory

    abbrev later : Merge ℕ
    later = record merge { files = files; upper = upper }

    names_not : (path : List (List ℕ)) → goes_through before ud w path ≡ false → names_entry before ud w path ≡ false
    names_not path none = itself_fails (names_entry before ud w) path refl none

    leads_old : (path : List (List ℕ)) → goes_through before ud w path ≡ false
        → led upper.tree stack.directory path ≡ led merge.upper.tree stack.directory path
    leads_old path none = cc (led_after path, names_not path none)

    leads_none : (path : List (List ℕ)) → goes_through before ud w path ≡ true → names_entry before ud w path ≡ false
        → led upper.tree stack.directory path ≡ None
    leads_none path through other = cc (led_after path)

    leads_here : (path : List (List ℕ)) → names_entry before ud w path ≡ true → led upper.tree stack.directory path ≡ x
    leads_here path e = cc (led_after path)

    is_there : (path : List (List ℕ)) (k : ℕ) → led merge.upper.tree stack.directory path ≡ Some k
        → is_some (merge.upper.tree.node k) ≡ true
    is_there path k l = led_is_there _ top_tree top_directory path k l

    hides_old : (front : List (List ℕ)) → goes_through before ud w front ≡ false
        → hides (node_led after front) ≡ hides (node_led before front)
    hides_old front none = cc (leads_old front none, by (led merge.upper.tree stack.directory front) refl)
      where
        by : (o : Option ℕ) → led merge.upper.tree stack.directory front ≡ o
            → hides (then_some o upper.tree.node) ≡ hides (then_some o merge.upper.tree.node)
        by None l = refl
        by (Some k) l = hiding_alike _ (upper.tree.node k) (hides_so _ _ (alike k (is_there front k l)))

    shown_old : (path : List (List ℕ)) → goes_through before ud w path ≡ false
        → shown_from 0 (after ∷ lowers) path ≡ shown_from 0 (before ∷ lowers) path
    shown_old path none = over_same before after lowers path (leads_old path none)
        (λ k l. white_alike (merge.upper.tree.node k) (upper.tree.node k) (alike k (is_there path k l))) (prefixes_agree
        _ _ path (λ front f. hides_old front (prefixes_fail (names_entry before ud w) path front f none)))

    -- where the upper layer does not cut a path below, it cuts no path to the directory
    uncut_to : (to rest path : List (List ℕ)) → to ++ w ∷ rest ≡ path → number_at_path merge.files to ≡ Some d
        → cuts after path ≡ false → cuts before to ≡ false
    uncut_to to rest path is there uncut = fails (cuts before to) (λ cut. found (prefix_found _ to cut))
      where
        found : (front : List (List ℕ)) × IsFrontOf front to × (hides (node_led before front) ≡ true) → ⊥
        found f = true≢false (sym (prefix_passes (λ front. hides (node_led after front))
            path f.0 (f.1.0 ++ w ∷ rest) (sym (append_assoc f.0 f.1.0 (w ∷ rest)) ∙ ap (λ p. p ++ w ∷ rest) f.1.1 ∙ is)
            f.1.2 (hides_old f.0 (prefixes_fail _ to f.0 f.1 (way_elsewhere to there)) ∙ f.2)) ∙ uncut)

    -- through the name nothing is shown
    none_after : (path : List (List ℕ)) → goes_through before ud w path ≡ true
        → shown_from 0 (after ∷ lowers) path ≡ None
    none_after path through = ⊎_elim plain white left
      where
        -- without a whiteout
        lower_none : shown_in_lowers_at nat_eq stack merge d w ≡ None → cuts after path ≡ false → (o : Option (Shown ℕ))
            → shown_from 1 lowers path ≡ o → o ≡ None
        lower_none none uncut None e = refl
        lower_none none uncut (Some s) e =
            let parts = through_is_split merge.upper stack.directory ud w path through in
            absurd (seen parts.0 parts.1 parts.2 parts.3)
          where
            here : (to : List (List ℕ)) (rest : List (List ℕ)) → to ++ w ∷ rest ≡ path
                → led merge.upper.tree stack.directory to ≡ Some ud → shown_from 1 lowers (to ++ w ∷ []) ≡ None
            here to rest is l =
                let there = same_is _ d (same_place above to ∙ same_holds _ ud l) in
                grind (arith, common_steps, below_name, there, d_directory, uncut_to)

            seen : (to rest : List (List ℕ)) → to ++ w ∷ rest ≡ path
                → led merge.upper.tree stack.directory to ≡ Some ud → ⊥
            seen to [] is l = none_is_some s (cc (here to [] is l, e))
            seen to (next ∷ rest) is l =
                let shows = shown_longer stack.lowers (λ k layer f. whole.layers (suc k) layer f) 1 rest
                (to ++ w ∷ []) next s (cc (append_assoc to (w ∷ []) (next ∷ rest), e)) in
                none_is_some _ (sym (here to (next ∷ rest) is l) ∙ shows.is)

        plain : (x ≡ None) × (shown_in_lowers_at nat_eq stack merge d w ≡ None)
            → shown_from 0 (after ∷ lowers) path ≡ None
        plain p = by (cuts after path) refl
          where
            leads : led upper.tree stack.directory path ≡ None
            leads = at (names_entry before ud w path) refl
              where
                at : (b : Bool) → names_entry before ud w path ≡ b → led upper.tree stack.directory path ≡ None
                at true e = leads_here path e ∙ p.0
                at false e = leads_none path through e

            by : (b : Bool) → cuts after path ≡ b → shown_from 0 (after ∷ lowers) path ≡ None
            by true cut = cut_shows_none after lowers path leads cut
            by false cut = cc (leads, lower_none p.1 cut (shown_from 1 lowers path) refl)

        -- with one
        white : (c : ℕ) × (x ≡ Some c) × (is_kind_in White (upper.tree.node c) ≡ true)
            → shown_from 0 (after ∷ lowers) path ≡ None
        white p = by (names_entry before ud w path) refl
          where
            by : (b : Bool) → names_entry before ud w path ≡ b → shown_from 0 (after ∷ lowers) path ≡ None
            by true e = on_top after lowers path p.0 true (leads_here path e ∙ p.1) p.2
            by false e =
                let found = prefix_found (names_entry before ud w) path through in
                cut_shows_none after lowers path (leads_none path through e) (prefix_passes _ path found.0 found.1.0
                found.1.1 found.1.2 (cc (leads_here found.0 found.2, p.1, white_hides (upper.tree.node p.0) p.2)))

    number_after : (path : List (List ℕ)) (b : Bool) → names_entry before ud w path ≡ b
        → number_at_path files path ≡ cond b None (number_at_path merge.files path)
    number_after path b e = remove_takes_path merge.files merge.files.tree.root d object w may.named may.empty path
        ∙ ap (λ y. cond y None (number_at_path merge.files path)) (same_entry above w path ∙ e)

    paths_later : (path : List (List ℕ)) → then_some (number_at_path files path) merge.real ≡ real_seen stack later path
    paths_later path = by (goes_through before ud w path) refl
      where
        none_there : goes_through before ud w path ≡ true → (b : Bool) → names_entry before ud w path ≡ b
            → number_at_path files path ≡ None
        none_there through true e = number_after path true e
        none_there through false e = number_after path false e
            ∙ through_bare merge.files merge.files.tree.root d object w may.named
            (no_entries merge.files.tree object may.empty) path (same_through above w path ∙ through)
            (same_entry above w path ∙ e)

        by : (b : Bool) → goes_through before ud w path ≡ b
            → then_some (number_at_path files path) merge.real ≡ real_seen stack later path
        by true through = cc (none_there through (names_entry before ud w path) refl, none_after path through)
        by false none = cc (number_after path false (names_not path none), fine_before.paths path, shown_old path none)

    pub later_is_fine : IsFine stack later
    later_is_fine = rearranged_is_fine stack merge fine_before files upper
        (λ n. names_leave_inodes merge.files (Remove d w object) merge.files.tree.root n refl)
        (λ n u r. alike u (fine_before.upper n u r)) paths_later

  -- A replaced directory loses its names
  module _ (first : FileTree ℕ) (x : Option ℕ) (new : (k : ℕ) → x ≡ Some k → merge.upper.tree.node k ≡ None)
      (led_first : (path : List (List ℕ)) → led first.tree stack.directory path ≡ cond (names_entry before ud w path) x
      (cond (goes_through before ud w path) None (led merge.upper.tree stack.directory path))) where
    -- the object's own directory is not reached any more
    unreached : (uo : ℕ) → merge.real object ≡ Some (Upper uo) → IsDirectory merge.files.tree object
        → (path : List (List ℕ)) → led first.tree stack.directory path ≢ Some uo
    unreached uo r is_dir path e = by (names_entry before ud w path) refl (goes_through before ud w path) refl
      where
        there : is_some (merge.upper.tree.node uo) ≡ true
        there = fine_before.upper object uo r

        old : (path : List (List ℕ)) → led merge.upper.tree stack.directory path ≡ Some uo
            → names_entry before ud w path ≡ true
        old = one_named whole d ud w uo may.named above.real r is_dir

        by : (a : Bool) → names_entry before ud w path ≡ a → (b : Bool) → goes_through before ud w path ≡ b → ⊥
        by true n b g = true≢false (sym there ∙ ap is_some (new uo (sym (led_first path ∙ ap (λ y.
            cond y x (cond (goes_through before ud w path) None (led merge.upper.tree stack.directory path))) n) ∙ e)))
        by false n true g = none_is_some uo (cc (led_first path, e))
        by false n false g = true≢false (sym (old path (sym (led_first path ∙ ap (λ y. cond y x
            (cond (goes_through before ud w path) None (led merge.upper.tree stack.directory path))) n
            ∙ ap (λ y. cond y None (led merge.upper.tree stack.directory path)) g) ∙ e)) ∙ n)

    -- so paths lead as they did when it is emptied
    emptied_led : (o : Option ℕ) →
        ((uo : ℕ) → o ≡ Some uo → (merge.real object ≡ Some (Upper uo)) × IsDirectory merge.files.tree object)
        → (path : List (List ℕ)) → led (without_contents nat_eq first o).tree stack.directory path
        ≡ led first.tree stack.directory path
    emptied_led None is path = refl
    emptied_led (Some uo) is path =
        led_where first.tree (without_contents nat_eq first (Some uo)).tree path stack.directory (λ to inode l word.
        let differ = ne_eqb inode uo (λ same. unreached uo (is uo refl).0 (is uo refl).1 to (cc)) in
        ap (λ n. entry_named word (entries_in n))
        (kept_elsewhere (changed_node nat_eq first uo node_without_entries) uo (node_with_parent uo) inode differ
        ∙ kept_elsewhere first uo node_without_entries inode differ))

  -- the upper directory that has the name is the object's
  is_own : (uo : ℕ) → upper_directory_named merge d w ≡ Some uo
      → (merge.real object ≡ Some (Upper uo)) × IsDirectory merge.files.tree object
  is_own uo e =
      let own = own_upper merge d w uo e in
      let same : own.0 ≡ object = same_Some own.0 object (sym own.1 ∙ may.named) in
      (ap merge.real (sym same) ∙ own.2, subst (IsDirectory merge.files.tree) same own.3)

  -- with no whiteout
  plain_led : (path : List (List ℕ)) → led (without_name nat_eq merge.upper ud w).tree stack.directory path
      ≡ cond (names_entry before ud w path) None
      (cond (goes_through before ud w path) None (led merge.upper.tree stack.directory path))
  plain_led path = entry_gone merge.upper.tree (without_name nat_eq merge.upper ud w).tree ud w
      (taken merge.upper ud w) path stack.directory ∙ ap (λ b. cond b None (led merge.upper.tree stack.directory path))
      (sym (goes_through_it merge.upper.tree ud w path stack.directory)) ∙ sym (by (names_entry before ud w path) refl)
    where
      through : names_entry before ud w path ≡ true → goes_through before ud w path ≡ true
      through n = at path n
        where
          at : (p : List (List ℕ)) → names_entry before ud w p ≡ true → goes_through before ud w p ≡ true
          at [] n = cc
          at (word ∷ rest) n = prefix_passes (names_entry before ud w) (word ∷ rest) (word ∷ rest) []
              (append-nil (word ∷ rest)) (not_empty word rest) n

      by : (b : Bool) → names_entry before ud w path ≡ b
          → cond b None (cond (goes_through before ud w path) None (led merge.upper.tree stack.directory path))
          ≡ cond (goes_through before ud w path) None (led merge.upper.tree stack.directory path)
      by true n = sym (ap (λ b. cond b None (led merge.upper.tree stack.directory path)) (through n))
      by false n = refl

  pub plain_is_fine : shown_in_lowers_at nat_eq stack merge d w ≡ None → IsFine stack (record merge {
    files = files;
    upper = without_contents nat_eq (without_name nat_eq merge.upper ud w) (upper_directory_named merge d w);
  })
  plain_is_fine none =
      let first = without_name nat_eq merge.upper ud w in
      let o = upper_directory_named merge d w in
      let no_new : (k : ℕ) → None ≡ Some k → merge.upper.tree.node k ≡ None = λ k e. none_is_some k e in
      later_is_fine _ None (λ path. emptied_led first None no_new plain_led o is_own path ∙ plain_led path) (λ u there.
      alike_both _ (first.tree.node u) _ (alike_after merge.upper ud (node_without_entry w) (without_entry_keeps w) u)
      (emptied_alike first o u)) (inl (refl, none))

  -- with one
  module _ (c : ℕ) (vacant : merge.upper.tree.node c ≡ None) where
    abbrev whited : FileTree ℕ
    whited = changed nat_eq merge.upper (Make ud w c (whiteout_of stack.mounter))

    white_led : (path : List (List ℕ)) → led whited.tree stack.directory path
        ≡ cond (names_entry before ud w path) (Some c)
        (cond (goes_through before ud w path) None (led merge.upper.tree stack.directory path))
    white_led path =
        make_ends_paths merge.upper stack.directory ud c w (whiteout_of stack.mounter) above.directory vacant refl
        (λ replaced names e. no_way_up merge.upper top_tree ud w replaced e names) path

    new_number : (k : ℕ) → Some c ≡ Some k → merge.upper.tree.node k ≡ None
    new_number k e = cc (same_Some c k e)

    pub white_is_fine : IsFine stack
        (record merge { files = files; upper = without_contents nat_eq whited (upper_directory_named merge d w) })
    white_is_fine =
        let o = upper_directory_named merge d w in
        let inodes = make_adds_inode merge.upper stack.directory ud c w
        (whiteout_of stack.mounter) above.directory vacant in
        later_is_fine (without_contents nat_eq whited o) (Some c)
        (λ path. emptied_led whited (Some c) new_number white_led o is_own path ∙ white_led path) (λ u there.
        alike_both (merge.upper.tree.node u) (whited.tree.node u) _ (inodes.1 u (λ same. cc))
        (emptied_alike whited o u))
        (inr (c, refl, cc (white_alike (whited.tree.node c) _ (emptied_alike whited o c), inodes.0)))

pub remove_keeps_shown : RemoveKeepsShown
remove_keeps_shown fresh stack merge d w object whole stands vacant may = what_is_shown stack _ (by _ refl)
  where
    by : (o : Option (Shown ℕ)) → shown_in_lowers_at nat_eq stack merge d w ≡ o → IsFine stack (record merge {
      files = changed nat_eq merge.files (Remove d w object);
      upper = without_contents nat_eq (name_left_by nat_eq (is_some o) fresh stack merge.upper (upper_of merge d) w)
          (upper_directory_named merge d w);
    })
    by None e = plain_is_fine whole stands may e
    by (Some seen) e = white_is_fine whole stands may (fresh 0) vacant
