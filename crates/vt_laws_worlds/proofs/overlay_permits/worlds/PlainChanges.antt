-- A change of a plain tree that spares what is locked keeps the invariants of trees and of overlays.
use Rattle.std.proofs.Common.{arith, ◌≡◌, ◌≢◌, refl, sym, ap, subst, ◌∙◌, true≢false, eqb-true, ne_eqb, ⊎_elim, inl, inr, ℕ, nat_eq, Bool, true, false, not, cond, List, [], ◌∷◌, filter, map, Some, None, is_some, All, flat_map}
use Rattle.vt_spec.proofs.Common.{AddName, All-weaker, Among, Change, CopyUp, FileTree, Filesystem, Fresh, HasOwnParents, IsReached, IsTree, IsWorld, Layer, ListsNumbers, Location, Make, Move, Overlay, OverlayInvariants, Remove, SetAttr, SetBytes, SetMark, TreeInvariants, World, all_from_among, among_from_all, among_from_list_all, and_true_right, any_from_among, any_pair, changed, common_steps, eqb_tells, files_at, filesystem_at, filesystem_changed, filesystem_numbered, holds_of, is_among, is_fit_filesystem, is_locked, is_overlay, is_plain_layer, is_there, layers_of, lies_or_counts_under, list_all_from_among, mount_at, none_is_some, of_overlay, overlays, replaced_if_numbered, upper_and_work, with_change, with_files, with_filesystem}
use Rattle.vt_laws_trees.specs.Trees.{IsFileTree, IsProper}
use Rattle.vt_laws_trees.specs.Trees.Sizes.{IsFitChange}
use Rattle.vt_laws_trees.proofs.trees.ChangesKeepTrees.{changes_keep_numbers, changes_keep_own_parents, changes_keep_trees}
use Rattle.vt_laws_trees.proofs.trees.ChangesOfSizes.{changes_keep_sizes}
use Rattle.vt_laws_trees.proofs.trees.TreesOfWorlds.{numbered_all, replaced_all}
use Rattle.vt_laws_mounts.proofs.letting_go.sweeps.OfWorlds.{found_filesystem}
use Rattle.vt_laws_trees.specs.Layers.Layers.Locked.{LeadsAsBefore}
use Rattle.vt_laws_trees.specs.Layers.Layers.Untouched.{IsKept, inodes_changed}
use Rattle.vt_laws_trees.specs.Layers.Layers.Upper.{IsUpperObject}
use Rattle.vt_laws_trees.proofs.layers.locked.Apart.{layer_among, layer_plain, object_counts, upper_in_layers}
use Rattle.vt_laws_trees.proofs.layers.locked.Paths.{layer_tree, leads_as_before, led_lies}
use Rattle.vt_laws_trees.proofs.layers.layers.LowersKept.{kept_same, others_stay}
use Rattle.vt_laws_trees.proofs.layers.layers.LowersWorld.{filesystem_elsewhere, filesystem_there, number_of_filesystem}
use Rattle.vt_laws_trees.proofs.overlays.whole.ApartInvariants.{pair_same}
use Rattle.vt_laws_trees.proofs.overlays.whole.UpperGoes.{Spares, change_reaches}
use Rattle.vt_laws_trees.proofs.overlays.changes.WholeOthers.{stays_merged}
use Rattle.vt_laws_worlds.specs.OverlayPermits.Unlocked.{SparesInode, SparesLocked}
use Rattle.vt_laws_trees.proofs.layers.locked.Layers.{are_trees}
use Rattle.vt_laws_worlds.proofs.overlay_permits.worlds.OverlaysGoOn.{GoesOn, overlays_go_on}
use Rattle.vt_laws_trees.specs.Trees.Settling.{inode_in}
use Rattle.vt_laws_worlds.proofs.overlay_permits.worlds.SweptOverlays.{shown_among}

-- an inode that a change spares is none of those that it writes to
none_written : (files : FileTree ℕ) (change : Change ℕ) → IsProper files.tree change → (inode : ℕ)
    → is_some (files.tree.node inode) ≡ true
    → SparesInode files change inode → is_among nat_eq inode (inodes_changed change) ≡ false
none_written files (Make directory name number node) may inode there spares = cc (
  ne_eqb inode number (λ same. true≢false (sym there ∙ ap (λ n. is_some (files.tree.node n)) same ∙ ap is_some
      may.number_is_new)),
  ne_eqb inode directory spares,
)
none_written files (AddName directory name object) may inode there spares = cc (ne_eqb inode directory spares)
none_written files (Remove directory name object) may inode there spares = cc (ne_eqb inode directory spares.0)
none_written files (Move from old to new object) may inode there spares =
    cc (ne_eqb inode from spares.0, ne_eqb inode to spares.1)
none_written files (SetBytes file bytes) may inode there spares = cc (ne_eqb inode file spares)
none_written files (SetAttr object attr) may inode there spares = cc (ne_eqb inode object spares)
none_written files (SetMark directory opaque) may inode there spares = cc (ne_eqb inode directory spares)
none_written files (CopyUp object) may inode there spares = refl

-- nor loses it a name
name_spared : (files : FileTree ℕ) (change : Change ℕ) (inode : ℕ) → SparesInode files change inode
    → Spares inode files change
name_spared files (Make directory name number node) inode spares = tt
name_spared files (AddName directory name object) inode spares = tt
name_spared files (Remove directory name object) inode spares = spares.1
name_spared files (Move from old to new object) inode spares = (spares.2, spares.3)
name_spared files (SetBytes file bytes) inode spares = tt
name_spared files (SetAttr object attr) inode spares = tt
name_spared files (SetMark directory opaque) inode spares = tt
name_spared files (CopyUp object) inode spares = tt

module _ (fresh : Fresh ℕ) {world : World ℕ} {location : Location ℕ} {change : Change ℕ}
    (conditions : IsWorld nat_eq world) (plain : (filesystem_at nat_eq world location).overlay ≡ None)
    (may : IsProper (files_at nat_eq world location).tree change) (fits : IsFitChange change)
    (locks : SparesLocked world location change) where
  abbrev place : ℕ
  place = (mount_at nat_eq world location).filesystem

  abbrev old : Filesystem ℕ
  old = filesystem_at nat_eq world location

  abbrev new : Filesystem ℕ
  new = with_files old (changed nat_eq old.files change)

  abbrev later : World ℕ
  later = with_filesystem nat_eq world new

  later_is : with_change nat_eq fresh world location change ≡ later
  later_is = ap (λ o. filesystem_changed nat_eq fresh world old o change) plain

  new_number : new.number ≡ place
  new_number = number_of_filesystem world place

  -- Trees
  abbrev Fits : Filesystem ℕ → Type 0
  Fits f = IsFileTree f.files × (is_fit_filesystem f ≡ true)

  all_fit : All Fits world.filesystems
  all_fit = grind (arith, common_steps, all_from_among, among_from_all, among_from_list_all)

  all_fit_later : All Fits later.filesystems
  all_fit_later = replaced_all Fits new world.filesystems all_fit (⊎_elim (λ is. inl (
    record {
      tree = changes_keep_trees old.files change is.0.tree may;
      numbers = changes_keep_numbers old.files change is.0.numbers;
      own_parents = changes_keep_own_parents old.files change is.0.tree is.0.own_parents may;
    },
    changes_keep_sizes old.files change is.1 fits,
  )) (λ none. inr (subst (λ n. All (λ (f : Filesystem ℕ). nat_eq n f.number ≡ false) world.filesystems)
      (sym new_number) none.1)) (numbered_all Fits place world.filesystems all_fit))

  number_same : (f : Filesystem ℕ) → (replaced_if_numbered nat_eq new f).number ≡ f.number
  number_same f = grind (arith, common_steps, eqb-true)

  pub trees_later : TreeInvariants nat_eq later
  trees_later = record {
    trees = All-weaker Fits (λ f. IsTree f.files.tree) (λ f is. is.0.tree) later.filesystems all_fit_later;
    own_parents = All-weaker Fits (λ f. HasOwnParents f.files.tree)
        (λ f is. is.0.own_parents) later.filesystems all_fit_later;
    numbers = All-weaker Fits (λ f. ListsNumbers nat_eq f.files) (λ f is. is.0.numbers) later.filesystems all_fit_later;
    one_filesystem = pair_same (replaced_if_numbered nat_eq new) world.filesystems number_same
        ∙ conditions.files.one_filesystem;
    fit_filesystems = list_all_from_among is_fit_filesystem later.filesystems
        (λ f m. (among_from_all Fits later.filesystems all_fit_later f m).1);
  }

  -- The overlays are those that were there
  kind_same : (f : Filesystem ℕ) → Among f world.filesystems
      → (is_overlay (replaced_if_numbered nat_eq new f) ≡ is_overlay f)
      × (is_overlay f ≡ true → replaced_if_numbered nat_eq new f ≡ f)
  kind_same f m = by (nat_eq new.number f.number) refl
    where
      plain_there : nat_eq new.number f.number ≡ true → is_overlay f ≡ false
      plain_there e = ap is_overlay (sym (found_filesystem world.filesystems conditions.files.one_filesystem f m))
          ∙ ap (λ n. is_overlay (filesystem_numbered nat_eq world n))
          (sym (eqb-true new.number f.number e) ∙ new_number) ∙ ap is_some plain

      by : (b : Bool) → nat_eq new.number f.number ≡ b
          → (is_overlay (cond b new f) ≡ is_overlay f) × (is_overlay f ≡ true → cond b new f ≡ f)
      by true e = (ap is_some plain ∙ sym (plain_there e), λ over. absurd (cc (plain_there e)))
      by false e = (refl, λ over. refl)

  overlays_same : overlays later ≡ overlays world
  overlays_same = by _ (λ f m. m)
    where
      by : (list : List (Filesystem ℕ)) → ((f : Filesystem ℕ) → Among f list → Among f world.filesystems)
          → filter is_overlay (map (replaced_if_numbered nat_eq new) list) ≡ filter is_overlay list
      by [] all = refl
      by (first ∷ rest) all =
          let same = kind_same first (all first (inl refl)) in
          cc (one (is_overlay first) refl same.1 (by rest (λ f m. all f (inr m))))
        where
          one : (b : Bool) → is_overlay first ≡ b
              → (is_overlay first ≡ true → replaced_if_numbered nat_eq new first ≡ first)
              → filter is_overlay (map (replaced_if_numbered nat_eq new) rest) ≡ filter is_overlay rest
              → cond b (replaced_if_numbered nat_eq new first
              ∷ filter is_overlay (map (replaced_if_numbered nat_eq new) rest))
              (filter is_overlay (map (replaced_if_numbered nat_eq new) rest))
              ≡ cond b (first ∷ filter is_overlay rest) (filter is_overlay rest)
          one true e same later_same = (λ i. same e i ∷ later_same i)
          one false e same later_same = later_same

  elsewhere : (n : ℕ) → n ≢ place → filesystem_numbered nat_eq later n ≡ filesystem_numbered nat_eq world n
  elsewhere n differ = filesystem_elsewhere world new n (λ same. differ (same ∙ new_number))

  -- what is there of the one that changes
  at_place : (P : Filesystem ℕ → Type 0) → P new → (inode : ℕ) → is_some (inode_in world place inode) ≡ true
      → P (filesystem_numbered nat_eq later place)
  at_place P is inode there = filesystem_there P world new place (sym new_number) is
      (λ none. absurd (true≢false (sym there ∙ ap (λ (f : Filesystem ℕ). is_some (f.files.tree.node inode)) none)))

  -- what is locked stays
  kept : (n inode : ℕ) → is_locked nat_eq world n inode ≡ true → is_some (inode_in world n inode) ≡ true
      → IsKept (inode_in world n inode) (inode_in later n inode)
  kept n inode locked there = ⊎_elim here other (eqb_tells n place)
    where
      here : (nat_eq n place ≡ true) × (n ≡ place) → IsKept (inode_in world n inode) (inode_in later n inode)
      here t =
          let is_there_now = subst (λ k. is_some (inode_in world k inode) ≡ true) t.1 there in
          subst (λ k. IsKept (inode_in world k inode) (inode_in later k inode)) (sym t.1)
          (at_place (λ f. IsKept (inode_in world place inode) (f.files.tree.node inode))
          (others_stay old.files change inode (none_written old.files change may inode is_there_now
          (locks.spares inode (subst (λ k. is_locked nat_eq world k inode ≡ true) t.1 locked)))) inode is_there_now)

      other : (nat_eq n place ≡ false) × (n ≢ place) → IsKept (inode_in world n inode) (inode_in later n inode)
      other t = kept_same (inode_in world n inode) (inode_in later n inode)
          (ap (λ (f : Filesystem ℕ). f.files.tree.node inode) (elsewhere n t.1))

  module _ (number : ℕ) (overlay : Overlay ℕ)
      (is : (filesystem_numbered nat_eq world number).overlay ≡ Some overlay) where
    locked_in : (layer : Layer ℕ) → Among layer (layers_of overlay) → (inode : ℕ)
        → lies_or_counts_under nat_eq world layer.filesystem inode layer ≡ true
        → is_locked nat_eq world layer.filesystem inode ≡ true
    locked_in layer m inode lies = any_from_among _ _ layer (layer_among world _ number _ is layer m) lies

    leads : (layer : Layer ℕ) → Among layer (layers_of overlay) → LeadsAsBefore world later layer
    leads layer m =
        leads_as_before world conditions layer (layer_plain world conditions number overlay is layer m) later
        (λ inode lies there. kept layer.filesystem inode (locked_in layer m inode lies) there)

    own : (layer : Layer ℕ) (object : ℕ) → overlay.upper ≡ Some layer → IsUpperObject overlay object
        → IsKept (inode_in world layer.filesystem object) (inode_in later layer.filesystem object)
    own layer object e of = kept layer.filesystem object
        (locked_in layer (upper_in_layers world conditions number overlay is layer e) object
        (object_counts world conditions number overlay is layer e object of))
        (ap (holds_of (λ l. is_there nat_eq world l.filesystem object)) (sym e)
        ∙ (conditions.overlays.overlays_merge number overlay is).upper_there of.0 object of.1)

    -- names lead to the upper directory still
    reached : (top : Layer ℕ) → overlay.upper ≡ Some top
        → IsReached (filesystem_numbered nat_eq later top.filesystem).files.tree top.directory
    reached top e = ⊎_elim here other (eqb_tells top.filesystem place)
      where
        among : Among top (layers_of overlay)
        among = upper_in_layers world conditions number overlay is top e

        top_plain : is_plain_layer nat_eq world top ≡ true
        top_plain = layer_plain world conditions number overlay is top among

        was : IsReached (filesystem_numbered nat_eq world top.filesystem).files.tree top.directory
        was = conditions.overlays.uppers_reached number overlay top is e

        locked : is_locked nat_eq world top.filesystem top.directory ≡ true
        locked = locked_in top among top.directory (led_lies world conditions top top_plain [] top.directory refl)

        directory : Rattle.vt_spec.specs.Tree.is_directory_node (inode_in world top.filesystem top.directory) ≡ true
        directory = and_true_right (not (is_overlay (filesystem_numbered nat_eq world top.filesystem))) _ top_plain

        here : (nat_eq top.filesystem place ≡ true) × (top.filesystem ≡ place)
            → IsReached (filesystem_numbered nat_eq later top.filesystem).files.tree top.directory
        here t = subst (λ k. IsReached (filesystem_numbered nat_eq later k).files.tree top.directory) (sym t.1)
            (at_place (λ f. IsReached f.files.tree top.directory) (change_reaches old.files change
            (subst (λ k. IsTree (filesystem_numbered nat_eq world k).files.tree) t.1
            (layer_tree world conditions top top_plain)) may top.directory (name_spared old.files change top.directory
            (locks.spares top.directory (subst (λ k. is_locked nat_eq world k top.directory ≡ true) t.1 locked)))
            (subst (λ k. Rattle.vt_spec.specs.Tree.is_directory_node (inode_in world k top.directory)
            ≡ true) t.1 directory)
            (subst (λ k. IsReached (filesystem_numbered nat_eq world k).files.tree top.directory) t.1 was)).1
            top.directory (Rattle.vt_spec.proofs.Nodes.directory_used old.files.tree top.directory
            (subst (λ k. Rattle.vt_spec.specs.Tree.is_directory_node (inode_in world k top.directory)
            ≡ true) t.1 directory)))

        other : (nat_eq top.filesystem place ≡ false) × (top.filesystem ≢ place)
            → IsReached (filesystem_numbered nat_eq later top.filesystem).files.tree top.directory
        other t = subst (λ (f : Filesystem ℕ). IsReached f.files.tree top.directory)
            (sym (elsewhere top.filesystem t.1)) was

  goes_on : (number : ℕ) (after : Overlay ℕ) → (filesystem_numbered nat_eq later number).overlay ≡ Some after
      → GoesOn world later number after
  goes_on number after e = ⊎_elim here other (eqb_tells number place)
    where
      here : (nat_eq number place ≡ true) × (number ≡ place) → GoesOn world later number after
      here t = none_is_some after (sym (filesystem_there (λ f. f.overlay ≡ None) world new place (sym new_number) plain
          (λ none. refl)) ∙ ap (λ k. (filesystem_numbered nat_eq later k).overlay) (sym t.1) ∙ e)

      other : (nat_eq number place ≡ false) × (number ≢ place) → GoesOn world later number after
      other t =
          let same = elsewhere number t.1 in
          let was = sym (ap (λ (f : Filesystem ℕ). f.overlay) same) ∙ e in
          record {
            before = after;
            is = was;
            upper = refl;
            work = refl;
            lowers = refl;
            merged = subst (λ f. Rattle.vt_spec.specs.Machine.Invariants.IsMerged nat_eq later f after) (sym same)
                (stays_merged world later (filesystem_numbered nat_eq world number) after
                (λ layer m. leads number after was layer (shown_among after layer m)) (own number after was)
                (conditions.overlays.overlays_merge number after was));
            objects = λ inode object g. g;
            leads = leads number after was;
            reached = reached number after was;
          }

  pub overlays_later : OverlayInvariants nat_eq later
  overlays_later = overlays_go_on world later (are_trees world conditions.files) conditions.overlays
      (are_trees later trees_later) goes_on
      (λ test e. ap (λ l. any_pair test (flat_map (of_overlay [] upper_and_work) l)) overlays_same ∙ e)

  pub plain_change_keeps_trees : TreeInvariants nat_eq (with_change nat_eq fresh world location change)
  plain_change_keeps_trees = subst (TreeInvariants nat_eq) (sym later_is) trees_later

  pub plain_change_keeps_overlays : OverlayInvariants nat_eq (with_change nat_eq fresh world location change)
  plain_change_keeps_overlays = subst (OverlayInvariants nat_eq) (sym later_is) overlays_later
