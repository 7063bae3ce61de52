-- A new object under a name that shows nothing: the tree is still what the layers show.
use Rattle.std.proofs.Common.{arith, ◌≡◌, refl, sym, ap, subst, ◌∙◌, true≢false, eqb-true, eq-eqb, ne_eqb, inl, inr, ℕ, suc, nat_eq, Bool, true, false, not, cond, List, [], ◌∷◌, ◌++◌, map, Option, Some, None, is_some}
use Rattle.vt_spec.proofs.Common.{Content, Directory, FileTree, IsDirectory, IsNewIn, IsTree, Make, Merge, Node, Real, Regular, SameObject, Shown, Stack, Symlink, Upper, View, Whiteout, bytes_eq_itself, changed, changed_node, common_steps, content_with_mark, content_with_parent, cuts, entries_of, hides, hides_directory, is_directory, is_directory_shown, is_kind, kind_of, led, node_led, node_with_entry, node_with_mark, none_is_some, number_at_path, opaque_of, same_content, shown_from, shown_in_lowers_at, then_some, upper_of, view_of, when, with_mark, with_real}
use Rattle.vt_spec.specs.declared.attributes.Kind.TheVariants.{White}
use Rattle.vt_laws_trees.specs.Trees.{MayMake}
use Rattle.vt_laws_trees.specs.Layers.Layers.ChangesUpper.{StandsInUpper}
use Rattle.vt_laws_trees.specs.Layers.Layers.Views.{goes_through, names_entry, view_in}
use Rattle.vt_laws_trees.specs.Overlays.WhatIsShown.{IsWhole, MakeKeepsShown, layers_under, real_seen}
use Rattle.vt_laws_trees.proofs.layers.layers.ShownDirectories.{append_assoc, led_is_there}
use Rattle.vt_laws_trees.proofs.layers.layers.ShownFronts.{prefix_found, prefix_passes}
use Rattle.vt_laws_trees.proofs.layers.layers.UpperShown.{without_last_of_longer}
use Rattle.vt_laws_trees.proofs.layers.views.After.{fails, new_name_is_shown, shown_elsewhere_stays}
use Rattle.vt_laws_trees.proofs.layers.views.Moves.{through_is_split}
use Rattle.vt_laws_trees.proofs.layers.views.Names.{make_adds_inode, make_adds_path}
use Rattle.vt_laws_trees.proofs.overlays.steps.WholeAttributes.{top_open}
use Rattle.vt_laws_trees.proofs.overlays.steps.WholeGrown.{grown_is_fine}
use Rattle.vt_laws_trees.proofs.overlays.steps.WholeNames.{IsAbove, stands_above, cut_shows_none, entry_named_so, is_fine, same_entry, same_holds, same_is, same_place}
use Rattle.vt_laws_trees.proofs.overlays.steps.WholeNew.{IsNewName, cuts_through, hides_at, leads_same, new_there, others_alike}
use Rattle.vt_laws_trees.proofs.overlays.steps.WholeFree.{leads_none, number_none, shown_none, takes_above, takes_shown}
use Rattle.vt_laws_trees.proofs.overlays.steps.WholeParts.{IsFine, real_by, what_is_shown}
use Rattle.vt_laws_trees.proofs.overlays.steps.WholePlaces.{directory_below_top, path_to_is, shown_longer}
use Rattle.vt_spec.proofs.NodeChanges.{entries_of-content_with_parent, entries_of-no_directory, kind_of-content_with_parent}

-- a new inode has no names in it and no mark
pub new_bare : (d : ℕ) (node : Node ℕ) → IsNewIn d node → entries_of node.content ≡ []
new_bare d node (inl e) = ap entries_of e
new_bare d node (inr e) = entries_of-no_directory node.content e

new_unmarked : (d : ℕ) (node : Node ℕ) → IsNewIn d node → opaque_of node.content ≡ false
new_unmarked d node known = grind (arith, common_steps, true≢false)

-- what lower layers show at a name in a directory
pub below_name : (stack : Stack ℕ) (merge : Merge ℕ) (whole : IsWhole stack merge) (d : ℕ) (w : List ℕ)
    (way : List (List ℕ)) → number_at_path merge.files way ≡ Some d → IsDirectory merge.files.tree d
    → cuts (view_in merge.upper stack.directory) way ≡ false
    → shown_in_lowers_at nat_eq stack merge d w ≡ shown_from 1 (map view_of stack.lowers) (way ++ w ∷ [])
below_name stack merge whole d w way e is_directory uncut =
    cc (path_to_is merge whole.tree whole.numbers way d w e is_directory, without_last_of_longer way w, uncut)

module _ (stack : Stack ℕ) (merge : Merge ℕ) (whole : IsWhole stack merge) (d : ℕ) (w : List ℕ) (number : ℕ)
    (node : Node ℕ) (stands : StandsInUpper merge d)
    (may : MayMake merge.files.tree d w number node) (c : ℕ) (vacant : merge.upper.tree.node c ≡ None) (new : Node ℕ)
    (same : (node.attr ≡ new.attr) × (same_content node.content new.content ≡ true))
    (bare : entries_of new.content ≡ [])
    (white : is_kind White (kind_of node.content) ≡ false) (white_new : is_kind White (kind_of new.content) ≡ false)
    (clear : hides (Some new) ≡ false → hides_directory nat_eq stack merge d w ≡ false) where
  abbrev ud : ℕ
  ud = upper_of merge d

  abbrev lowers : List (View ℕ)
  lowers = map view_of stack.lowers

  abbrev before : View ℕ
  before = view_in merge.upper stack.directory

  abbrev files : FileTree ℕ
  files = changed nat_eq merge.files (Make d w number node)

  abbrev upper : FileTree ℕ
  upper = changed nat_eq merge.upper (Make ud w c new)

  abbrev after : View ℕ
  after = view_in upper stack.directory

  abbrev real : ℕ → Option (Real ℕ)
  real = with_real nat_eq merge.real number (Upper c)

  abbrev later : Merge ℕ
  later = record { files = files; real = real; upper = upper }

  fine_before : IsFine stack merge
  fine_before = is_fine stack merge whole

  top_tree : IsTree merge.upper.tree
  top_tree = (top_open stack merge whole).0

  top_directory : IsDirectory merge.upper.tree stack.directory
  top_directory = (top_open stack merge whole).1

  above : IsAbove stack merge d ud
  above = stands_above d whole stands may.name_is_free.in_directory

  new_name : IsNewName merge.upper stack.directory ud c w new
  new_name = record {
    tree = top_tree;
    directory = top_directory;
    takes = takes_above above may.name_is_free;
    vacant = vacant;
    bare = bare;
  }

  node_bare : entries_of node.content ≡ []
  node_bare = new_bare d node may.fits

  -- below it nothing is shown
  none_after : (path : List (List ℕ)) → goes_through before ud w path ≡ true → names_entry before ud w path ≡ false
      → shown_from 0 (after ∷ lowers) path ≡ None
  none_after path through other = by (hides (Some new)) refl (cuts after path) refl
    where
      leads : led upper.tree stack.directory path ≡ None
      leads = leads_same new_name path other ∙ leads_none above may.name_is_free path through other

      -- what is seen below a directory that is no longer hidden
      seen : (seen : Shown ℕ) (to rest : List (List ℕ)) → to ++ w ∷ rest ≡ path
          → led merge.upper.tree stack.directory to ≡ Some ud
          → hides (Some new) ≡ false → cuts after path ≡ false → shown_from 1 lowers path ≡ Some seen → ⊥
      seen s to [] is l h uncut e = true≢false (cc (entry_named_so merge.upper stack.directory ud w to l, is, other))
      seen s to (next ∷ rest) is l h uncut e =
          let there = same_is _ d (same_place above to ∙ same_holds _ ud l) in
          let shows = shown_longer stack.lowers (λ k layer f. whole.layers (suc k) layer f) 1 rest (to ++ w ∷ []) next s
          (ap (shown_from 1 lowers) (append_assoc to (w ∷ []) (next ∷ rest) ∙ is) ∙ e) in
          true≢false (sym (ap (is_directory_shown (layers_under stack merge))
          (below_name stack merge whole d w to there may.name_is_free.in_directory (uncut_to there))
          ∙ directory_below_top _ stack.lowers (to ++ w ∷ []) shows) ∙ clear h)
        where
          uncut_to : number_at_path merge.files to ≡ Some d → cuts before to ≡ false
          uncut_to there = fails (cuts before to) (λ cut. found (prefix_found _ to cut))
            where
              found : (front : List (List ℕ)) × Rattle.vt_laws_trees.specs.Layers.Layers.Shown.IsFrontOf front to
                  × (hides (node_led before front) ≡ true) → ⊥
              found f = at (names_entry before ud w f.0) refl
                where
                  at : (b : Bool) → names_entry before ud w f.0 ≡ b → ⊥
                  at true n = none_is_some d (sym (number_none above may.name_is_free to
                      (prefix_passes _ to f.0 f.1.0 f.1.1 f.1.2 n)) ∙ there)
                  at false n = true≢false (sym (prefix_passes _ path f.0 (f.1.0 ++ w ∷ next ∷ rest)
                      (cc (append_assoc f.0 f.1.0 (w ∷ next ∷ rest), f.1.1, is)) f.1.2
                      (hides_at new_name f.0 false n ∙ f.2)) ∙ uncut)

      lower_none : hides (Some new) ≡ false → cuts after path ≡ false → (o : Option (Shown ℕ))
          → shown_from 1 lowers path ≡ o → o ≡ None
      lower_none h uncut None e = refl
      lower_none h uncut (Some s) e =
          let parts = through_is_split merge.upper stack.directory ud w path through in
          absurd (seen s parts.0 parts.1 parts.2 parts.3 h uncut e)

      by : (b : Bool) → hides (Some new) ≡ b → (x : Bool) → cuts after path ≡ x
          → shown_from 0 (after ∷ lowers) path ≡ None
      by b h true cut = cut_shows_none after lowers path leads cut
      by true h false cut = absurd (true≢false (sym (cuts_through new_name h path
          through) ∙ cut))
      by false h false cut = cc (leads, cut, lower_none h cut _ refl)

  shown_same : (path : List (List ℕ)) → names_entry before ud w path ≡ false
      → shown_from 0 (after ∷ lowers) path ≡ shown_from 0 (before ∷ lowers) path
  shown_same path other = by (goes_through before ud w path) refl
    where
      by : (b : Bool) → goes_through before ud w path ≡ b
          → shown_from 0 (after ∷ lowers) path ≡ shown_from 0 (before ∷ lowers) path
      by true through = none_after path through other ∙ sym (shown_none above may.name_is_free path through)
      by false elsewhere =
          shown_elsewhere_stays merge.upper (Make ud w c new) stack.directory lowers top_tree top_directory
          (new_name.takes, vacant, bare) path elsewhere

  paths_later : (path : List (List ℕ)) → then_some (number_at_path files path) real ≡ real_seen stack later path
  paths_later path = by (names_entry before ud w path) refl
    where
      old : (o : Option ℕ) → number_at_path merge.files path ≡ o → then_some o real ≡ then_some o merge.real
      old None l = refl
      old (Some n) l = ap (λ b. cond b (Some (Upper c)) (merge.real n)) (ne_eqb n number
          (λ is. true≢false (cc (led_is_there _ whole.tree whole.tree.root_directory path n l, is, may.number_is_new))))

      goes : (b : Bool) → names_entry before ud w path ≡ b
          → number_at_path files path ≡ cond b (Some number) (number_at_path merge.files path)
      goes b e =
          make_adds_path merge.files merge.files.tree.root d number w node
          (takes_shown above may.name_is_free) may.number_is_new node_bare path
          ∙ ap (λ x. cond x (Some number) (number_at_path merge.files path)) (same_entry above w path ∙ e)

      by : (b : Bool) → names_entry before ud w path ≡ b
          → then_some (number_at_path files path) real ≡ real_seen stack later path
      by true e = ap (λ o. then_some o real) (goes true e)
          ∙ ap (λ b. cond b (Some (Upper c)) (merge.real number)) (eq-eqb number number refl) ∙ sym (ap (real_by path)
          (new_name_is_shown merge.upper stack.directory ud c w new lowers new_name.takes vacant bare path e
          ∙ ap (λ b. when (not b) (record { layer = 0; object = c })) white_new))
      by false e = ap (λ o. then_some o real) (goes false e) ∙ old (number_at_path merge.files path) refl
          ∙ fine_before.paths path ∙ sym (ap (real_by path) (shown_same path e))

  number_there : files.tree.node number ≡ Some node
  number_there = (make_adds_inode merge.files merge.files.tree.root d number w node may.name_is_free.in_directory
      may.number_is_new).0

  pub later_is_fine : IsFine stack later
  later_is_fine = grown_is_fine stack merge fine_before files upper number c vacant (make_adds_inode merge.files
      merge.files.tree.root d number w node may.name_is_free.in_directory may.number_is_new).1 (others_alike new_name)
      (subst (λ o. SameObject o (upper.tree.node c)) (sym number_there) (subst (SameObject (Some node))
      (sym (new_there new_name)) same))
      (ap is_some number_there) (cc (number_there, white)) (cc (number_there, new_unmarked d node may.fits)) paths_later

-- The mark of a new directory
module _ (files : FileTree ℕ) (ud c : ℕ) (w : List ℕ) (new : Node ℕ) (is_directory : IsDirectory files.tree ud)
    (vacant : files.tree.node c ≡ None) where
  abbrev marked_node : Node ℕ
  marked_node = record { attr = new.attr; content = content_with_mark true new.content }

  abbrev unmarked : FileTree ℕ
  unmarked = changed nat_eq files (Make ud w c new)

  apart : (k : ℕ) → k ≡ c → nat_eq k ud ≡ false
  apart k is = ne_eqb k ud (λ same. true≢false (cc (is_directory, same, is, vacant)))

  ud_apart : nat_eq ud c ≡ false
  ud_apart = ne_eqb ud c (λ same. true≢false (cc (is_directory, same, vacant)))

  nodes_same : (k : ℕ) (b : Bool) → nat_eq k c ≡ b → cond b (node_with_mark true (unmarked.tree.node c))
      (cond (nat_eq k ud) (node_with_entry w c (cond (nat_eq ud c) (Some new) (files.tree.node ud)))
      (cond b (Some new) (files.tree.node k)))
      ≡ cond (nat_eq k ud) (node_with_entry w c (cond (nat_eq ud c) (Some marked_node) (files.tree.node ud)))
      (cond b (Some marked_node) (files.tree.node k))
  nodes_same k b e = grind (arith, common_steps, make_adds_inode, apart, eqb-true, ud_apart)

  pub marked_is_made : changed_node nat_eq unmarked c (node_with_mark true)
      ≡ changed nat_eq files (Make ud w c marked_node)
  marked_is_made = λ i. record {
    tree = record { root = files.tree.root; node = λ k. nodes_same k (nat_eq k c) refl i };
    numbers = c ∷ files.numbers;
  }

-- the content of the upper object
parent_same : (p : ℕ) (c : Content ℕ) → is_kind White (kind_of c) ≡ false
    → same_content c (content_with_parent p c) ≡ true
parent_same p (Directory q n o) e = refl
parent_same p (Regular b) e = bytes_eq_itself b
parent_same p (Symlink b) e = bytes_eq_itself b
parent_same p Whiteout e = absurd (true≢false e)

mark_same : (p : ℕ) (c : Content ℕ) → is_kind White (kind_of c) ≡ false
    → same_content c (content_with_mark true (content_with_parent p c)) ≡ true
mark_same p (Directory q n o) e = refl
mark_same p (Regular b) e = bytes_eq_itself b
mark_same p (Symlink b) e = bytes_eq_itself b
mark_same p Whiteout e = absurd (true≢false e)

mark_kind : (p : ℕ) (c : Content ℕ) → kind_of (content_with_mark true (content_with_parent p c)) ≡ kind_of c
mark_kind p (Directory q n o) = refl
mark_kind p (Regular b) = refl
mark_kind p (Symlink b) = refl
mark_kind p Whiteout = refl

mark_names : (p : ℕ) (c : Content ℕ) → entries_of (content_with_mark true (content_with_parent p c)) ≡ entries_of c
mark_names p (Directory q n o) = refl
mark_names p (Regular b) = refl
mark_names p (Symlink b) = refl
mark_names p Whiteout = refl

mark_hides : (p : ℕ) (node : Node ℕ) (c : Content ℕ)
    → hides (Some (record { attr = node.attr; content = content_with_mark true (content_with_parent p c) })) ≡ true
mark_hides p node (Directory q n o) = refl
mark_hides p node (Regular b) = refl
mark_hides p node (Symlink b) = refl
mark_hides p node Whiteout = refl

pub make_keeps_shown : MakeKeepsShown
make_keeps_shown fresh stack merge d w number node whole stands vacant may white = what_is_shown stack _ (by _ refl)
  where
    by : (b : Bool) → hides_directory nat_eq stack merge d w ≡ b → IsFine stack (record {
      files = changed nat_eq merge.files (Make d w number node);
      real = with_real nat_eq merge.real number (Upper (fresh 0));
      upper = with_mark nat_eq b (changed nat_eq merge.upper (Make (upper_of merge d) w (fresh 0)
          (record { attr = node.attr; content = content_with_parent (upper_of merge d) node.content }))) (fresh 0);
    })
    by false h = later_is_fine stack merge whole d w number node stands may (fresh 0) vacant _
        (refl, parent_same _ _ white) (entries_of-content_with_parent _ node.content ∙ new_bare d node may.fits)
        white (ap (is_kind White) (kind_of-content_with_parent (upper_of merge d) node.content) ∙ white) (λ shows. h)
    by true h = subst (λ u. IsFine stack (record {
      files = changed nat_eq merge.files (Make d w number node);
      real = with_real nat_eq merge.real number (Upper (fresh 0));
      upper = u;
    })) (sym (marked_is_made merge.upper (upper_of merge d) (fresh 0) w (record {
      attr = node.attr;
      content = content_with_parent (upper_of merge d) node.content;
    }) (stands_above d whole stands may.name_is_free.in_directory).directory vacant))
        (later_is_fine stack merge whole d w number node stands may (fresh 0) vacant (record {
          attr = node.attr;
          content = content_with_mark true (content_with_parent (upper_of merge d) node.content);
        }) (refl, mark_same (upper_of merge d) node.content white)
        (mark_names (upper_of merge d) node.content ∙ new_bare d node may.fits)
        white (ap (is_kind White) (mark_kind (upper_of merge d) node.content) ∙ white)
        (λ shows. absurd (true≢false (sym (mark_hides (upper_of merge d) node node.content) ∙ shows))))
