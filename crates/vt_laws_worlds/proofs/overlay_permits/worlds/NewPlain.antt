-- A new plain filesystem beside those that are there keeps the invariants of trees and of overlays.
use Rattle.std.proofs.Common.{◌≡◌, refl, sym, ap, subst, ◌∙◌, inl, eq-eqb, ℕ, nat_eq, Bool, true, false, cond, List, [], ◌∷◌, ◌++◌, find, Option, Some, None, is_some, append-nil, flat_map, unwrap_or, arith}
use Rattle.vt_spec.proofs.Common.{All-push, Among, Filesystem, Fresh, HasOwnParents, IsMerged, IsReached, IsTree, IsWorld, Layer, ListsNumbers, Overlay, OverlayInvariants, Serves, TreeInvariants, World, and_true_right, any_pair, directory_used, evens, filesystem_numbered, filter-append, is_fit_filesystem, is_overlay, layers_of, nat_eq_false_turned, no_filesystem, of_overlay, overlays, plain_filesystem, upper_and_work, with_new_filesystem, common_steps}
use Rattle.vt_laws_trees.proofs.trees.ChangesByCalls.{new_tree_is}
use Rattle.vt_laws_trees.proofs.trees.TreesTasks.{all_appended, and_from}
use Rattle.vt_laws_trees.proofs.layers.layers.LowersKept.{kept_same}
use Rattle.vt_laws_trees.proofs.overlays.changes.WholeOthers.{stays_merged}
use Rattle.vt_laws_worlds.proofs.worlds.PermitsFilesystems.{appended_apart}
use Rattle.vt_laws_worlds.proofs.worlds.SeenTrees.{unused_by_filesystem}
use Rattle.vt_laws_trees.proofs.layers.locked.Layers.{are_trees, plain_layer}
use Rattle.vt_laws_worlds.proofs.overlay_permits.worlds.OverlaysGoOn.{GoesOn, overlays_go_on}
use Rattle.vt_laws_worlds.proofs.overlay_permits.worlds.SweptOverlays.{leads_same, shown_among, upper_among}

-- a filesystem that is found is found in front of another one
pub found_first : (number : ℕ) (last : Filesystem ℕ) (list : List (Filesystem ℕ)) (f : Filesystem ℕ)
    → find (λ (f : Filesystem ℕ). nat_eq number f.number) list ≡ Some f
    → find (λ (f : Filesystem ℕ). nat_eq number f.number) (list ++ last ∷ []) ≡ Some f
found_first number last [] f e = cc
found_first number last (first ∷ rest) f e = grind (arith, common_steps, found_first number last rest f)

module _ (world : World ℕ) (fresh : Fresh ℕ) (conditions : IsWorld nat_eq world)
    (serves : Serves nat_eq world fresh) where
  abbrev new : Filesystem ℕ
  new = plain_filesystem nat_eq fresh

  abbrev later : World ℕ
  later = with_new_filesystem world new

  new_fits : is_fit_filesystem new ≡ true
  new_fits = and_from _ true (cc (eq-eqb (evens fresh 1) (evens fresh 1) refl)) refl

  pub new_plain_trees : TreeInvariants nat_eq later
  new_plain_trees =
      let is = new_tree_is (evens fresh 1) in
      record {
        trees =
            All-push (λ (f : Filesystem ℕ). IsTree f.files.tree) world.filesystems new conditions.files.trees is.tree;
        own_parents = All-push (λ (f : Filesystem ℕ). HasOwnParents f.files.tree) world.filesystems new
            conditions.files.own_parents is.own_parents;
        numbers =
            All-push (λ (f : Filesystem ℕ). ListsNumbers nat_eq f.files) world.filesystems new conditions.files.numbers
            is.numbers;
        one_filesystem = appended_apart world.filesystems new conditions.files.one_filesystem
            (λ old m. nat_eq_false_turned (evens fresh 0) old.number
            (unused_by_filesystem world fresh serves 0 old m old.number (inl refl)));
        fit_filesystems =
            all_appended is_fit_filesystem world.filesystems new conditions.files.fit_filesystems new_fits;
      }

  -- what was there is found as it was
  abbrev looked_up : ℕ → List (Filesystem ℕ) → Option (Filesystem ℕ)
  looked_up number list = find (λ (f : Filesystem ℕ). nat_eq number f.number) list

  not_first : (number : ℕ) (list : List (Filesystem ℕ)) → looked_up number list ≡ None
      → looked_up number (list ++ new ∷ []) ≡ looked_up number (new ∷ [])
  not_first number [] e = refl
  not_first number (first ∷ rest) e = grind (arith, common_steps, not_first number rest)

  stays_found : (number : ℕ) (f : Filesystem ℕ) → looked_up number world.filesystems ≡ Some f
      → filesystem_numbered nat_eq later number ≡ filesystem_numbered nat_eq world number
  stays_found number f e = cc (found_first number new world.filesystems f e)

  inode_stays : (number inode : ℕ) → is_some ((filesystem_numbered nat_eq world number).files.tree.node inode) ≡ true
      → filesystem_numbered nat_eq later number ≡ filesystem_numbered nat_eq world number
  inode_stays number inode there = by (looked_up number world.filesystems) refl
    where
      by : (o : Option (Filesystem ℕ)) → looked_up number world.filesystems ≡ o
          → filesystem_numbered nat_eq later number ≡ filesystem_numbered nat_eq world number
      by None e = absurd (cc there)
      by (Some f) e = stays_found number f e

  overlay_stays : (number : ℕ) (after : Overlay ℕ) → (filesystem_numbered nat_eq later number).overlay ≡ Some after
      → filesystem_numbered nat_eq later number ≡ filesystem_numbered nat_eq world number
  overlay_stays number after is = by _ refl
    where
      plain_alone : (b : Bool) → (unwrap_or (cond b (Some new) None) (no_filesystem number)).overlay ≡ None
      plain_alone true = refl
      plain_alone false = refl

      by : (o : Option (Filesystem ℕ)) → looked_up number world.filesystems ≡ o
          → filesystem_numbered nat_eq later number ≡ filesystem_numbered nat_eq world number
      by None e = cc (plain_alone (nat_eq number new.number), not_first number world.filesystems e)
      by (Some f) e = stays_found number f e

  module _ (number : ℕ) (after : Overlay ℕ) (is : (filesystem_numbered nat_eq later number).overlay ≡ Some after) where
    was : (filesystem_numbered nat_eq world number).overlay ≡ Some after
    was = cc (overlay_stays number after is)

    layer_stays : (layer : Layer ℕ) → Among layer (layers_of after)
        → filesystem_numbered nat_eq later layer.filesystem ≡ filesystem_numbered nat_eq world layer.filesystem
    layer_stays layer m = inode_stays layer.filesystem layer.directory
        (directory_used (filesystem_numbered nat_eq world layer.filesystem).files.tree layer.directory
        (and_true_right (Rattle.std.specs.Prelude.not
        (is_overlay (filesystem_numbered nat_eq world layer.filesystem))) _
        (plain_layer world conditions.overlays number after was layer m)))

    goes : GoesOn world later number after
    goes = record {
      before = after;
      is = was;
      upper = refl;
      work = refl;
      lowers = refl;
      merged = subst (λ f. IsMerged nat_eq later f after) (sym (overlay_stays number after is))
          (stays_merged world later (filesystem_numbered nat_eq world number) after
          (λ layer m. leads_same world later layer (layer_stays layer (shown_among after layer m)))
          (λ layer object e of. kept_same _ _
          (ap (λ (f : Filesystem ℕ). f.files.tree.node object) (layer_stays layer (upper_among after layer e))))
          (conditions.overlays.overlays_merge number after was));
      objects = λ inode object e. e;
      leads = λ layer m. leads_same world later layer (layer_stays layer m);
      reached = λ top e. subst (λ (f : Filesystem ℕ). IsReached f.files.tree top.directory)
          (sym (layer_stays top (upper_among after top e))) (conditions.overlays.uppers_reached number after top was e);
    }

  pub new_plain_overlays : OverlayInvariants nat_eq later
  new_plain_overlays = overlays_go_on world later (are_trees world conditions.files) conditions.overlays
      (are_trees later new_plain_trees) goes
      (λ test e. ap (λ l. any_pair test (flat_map (of_overlay [] upper_and_work) l))
      (filter-append is_overlay world.filesystems (new ∷ []) ∙ append-nil (overlays world)) ∙ e)
