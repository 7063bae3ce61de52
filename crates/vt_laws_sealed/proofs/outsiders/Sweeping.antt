-- The sweep at the end of a call takes nothing that a sealed set uses.
use Rattle.std.proofs.Common.{arith, ◌≡◌, sym, ap, ◌∙◌, ℕ, nat_eq, true, false, List, [], Option, Some, None, not, eqb-true}
use Rattle.vt_spec.proofs.Common.{Among, Filesystem, HasOwnParents, IsTree, Layer, ListsNumbers, Mount, Overlay, OverlayInvariants, TaskName, TreeInvariants, World, among-from_filter, among-from_map, among_from_all, among_from_list_all, and_parts, any_among, any_pair, common_steps, filesystem_lives, filesystem_numbered, is_directory_node, is_overlay, is_plain_layer, layers_of, list_all, list_any, mount_lives, none_from_not_some, not-true, number-only_used, of_overlay, only_used, overlay_or, own_lowers, pair-filter, pair-map, sealed, settled, without_dead_filesystems, without_dead_in, without_dead_inodes, without_dead_mounts}
use Rattle.vt_laws_sealed.proofs.Common.{OneNumberEach, found_filesystem, overlays_in, trees_in}
use Rattle.vt_laws_sealed.specs.Part.Parts.{SeesTheSame}
use Rattle.vt_laws_sealed.specs.Part.Seals.{IsApart}
use Rattle.vt_laws_sealed.proofs.outsiders.FilesystemsSwept.{filesystems_swept, groups_swept, mounts_swept}
use Rattle.vt_laws_sealed.proofs.outsiders.InodesSwept.{IsLowerTree, inodes_swept}
use Rattle.vt_laws_sealed.proofs.outsiders.OthersSwept.{others_swept}
use Rattle.vt_laws_sealed.proofs.outsiders.SeenLater.{lower_of, used_later}
use Rattle.vt_laws_sealed.proofs.outsiders.Staying.{LeavesApart}

-- All steps of the sweep
module _ {world before : World ℕ} {names : List TaskName} (apart : IsApart world names)
    (sealed_off : sealed nat_eq world names ≡ true) (trees : TreeInvariants nat_eq before)
    (merged : OverlayInvariants nat_eq before) (one : OneNumberEach before) {changed : List ℕ}
    (leaves : LeavesApart world before names changed) where
  abbrev living : World ℕ
  living = without_dead_mounts nat_eq before

  abbrev mounted : World ℕ
  mounted = without_dead_filesystems nat_eq living

  abbrev merged_swept : World ℕ
  merged_swept = without_dead_in nat_eq is_overlay mounted

  one_living : OneNumberEach living
  one_living = pair-filter (λ (a b : Mount ℕ). nat_eq a.number b.number) (mount_lives nat_eq before) before.mounts one

  one_each : any_pair (λ (a b : Filesystem ℕ). nat_eq a.number b.number) mounted.filesystems ≡ false
  one_each =
      pair-filter (λ (a b : Filesystem ℕ). nat_eq a.number b.number) (filesystem_lives nat_eq living) before.filesystems
      trees.one_filesystem

  one_each_later : any_pair (λ (a b : Filesystem ℕ). nat_eq a.number b.number) merged_swept.filesystems ≡ false
  one_each_later = grind (arith, common_steps, pair-map, number-only_used, one_each)

  -- a lower layer of theirs is a directory of a plain tree
  plain_layer : (layer : Layer ℕ) → Among layer (own_lowers nat_eq world names)
      → is_plain_layer nat_eq before layer ≡ true
  plain_layer layer m =
      let of = lower_of world before names leaves.sees layer m in
      by of.0.overlay
      (among_from_list_all (of_overlay true (λ o. list_all (is_plain_layer nat_eq before) (layers_of o)))
      before.filesystems merged.plain_layers of.0 (used_later world before names leaves.sees of.0 of.1 of.2)) of.3
    where
      by : (o : Option (Overlay ℕ))
          → overlay_or true (λ v. list_all (is_plain_layer nat_eq before) (layers_of v)) o ≡ true
          → Among layer (overlay_or [] layers_of o) → is_plain_layer nat_eq before layer ≡ true
      by None all n = absurd n
      by (Some overlay) all n = among_from_list_all (is_plain_layer nat_eq before) (layers_of overlay) all layer n

  lower_tree : (x : Filesystem ℕ) → Among x before.filesystems
      → list_any (λ (layer : Layer ℕ). nat_eq x.number layer.filesystem) (own_lowers nat_eq world names) ≡ true
      → IsLowerTree (own_lowers nat_eq world names) x
  lower_tree x m lower =
      let at = any_among (λ (layer : Layer ℕ). nat_eq x.number layer.filesystem) (own_lowers nat_eq world names) lower
      in record {
        plain = none_from_not_some x.overlay (ap is_overlay (sym (found at.0 at.2))
            ∙ not-true (is_overlay (filesystem_numbered nat_eq before at.0.filesystem)) (both at.0 at.1).0);
        files = record {
          tree = among_from_all (λ (f : Filesystem ℕ). IsTree f.files.tree) before.filesystems trees.trees x m;
          numbers = among_from_all (λ (f : Filesystem ℕ). ListsNumbers nat_eq f.files) before.filesystems trees.numbers
              x m;
          own_parents = among_from_all (λ (f : Filesystem ℕ). HasOwnParents f.files.tree) before.filesystems
              trees.own_parents x m;
        };
        directories = λ layer n e.
            cc (found layer e, (both layer n).1);
      }
    where
      found : (layer : Layer ℕ) → nat_eq x.number layer.filesystem ≡ true
          → filesystem_numbered nat_eq before layer.filesystem ≡ x
      found layer e = ap (filesystem_numbered nat_eq before) (sym (eqb-true x.number layer.filesystem e))
          ∙ found_filesystem before.filesystems trees.one_filesystem x m

      both : (layer : Layer ℕ) → Among layer (own_lowers nat_eq world names)
          → (not (is_overlay (filesystem_numbered nat_eq before layer.filesystem)) ≡ true)
          × (is_directory_node ((filesystem_numbered nat_eq before layer.filesystem).files.tree.node layer.directory)
          ≡ true)
      both layer n = and_parts (not (is_overlay (filesystem_numbered nat_eq before layer.filesystem)))
          (is_directory_node ((filesystem_numbered nat_eq before layer.filesystem).files.tree.node layer.directory))
          (plain_layer layer n)

  was_there : (x : Filesystem ℕ) → Among x mounted.filesystems → Among x before.filesystems
  was_there x m = (among-from_filter (filesystem_lives nat_eq living) before.filesystems x m).0

  -- so it is once inodes of overlays are gone
  lower_swept : (x : Filesystem ℕ) → Among x merged_swept.filesystems
      → list_any (λ (layer : Layer ℕ). nat_eq x.number layer.filesystem) (own_lowers nat_eq world names) ≡ true
      → IsLowerTree (own_lowers nat_eq world names) x
  lower_swept x m lower =
      let from = among-from_map (λ f. only_used nat_eq mounted (is_overlay f) f) mounted.filesystems x m in
      let it = lower_tree from.0 (was_there from.0 from.1)
      (ap (λ n. list_any (λ (layer : Layer ℕ). nat_eq n layer.filesystem) (own_lowers nat_eq world names))
      (sym (ap (λ (f : Filesystem ℕ). f.number) from.2 ∙ number-only_used mounted (is_overlay from.0) from.0))
      ∙ lower) in
      grind (arith, common_steps)

  sees_last : SeesTheSame world (settled nat_eq before) names
  sees_last = groups_swept world (without_dead_inodes nat_eq mounted) names
      (inodes_swept apart sealed_off (inodes_swept apart sealed_off
      (filesystems_swept world living names apart (mounts_swept world before names leaves.sees)) one_living is_overlay
      (λ x m lower. lower_tree x (was_there x m) lower) one_each)
      one_living (λ f. not (is_overlay f)) lower_swept one_each_later)

  pub sweep_leaves_apart : LeavesApart world (settled nat_eq before) names changed
  sweep_leaves_apart = search (arith, common_steps, sees_last, others_swept)

-- So it is where filesystems are as they were.
pub sweeping_leaves_apart : (world before : World ℕ) (names : List TaskName) → IsApart world names
    → sealed nat_eq world names ≡ true → before.filesystems ≡ world.filesystems → OneNumberEach before
    → (changed : List ℕ) → LeavesApart world before names changed
    → LeavesApart world (settled nat_eq before) names changed
sweeping_leaves_apart world before names apart sealed_off same one changed leaves =
    sweep_leaves_apart apart sealed_off (trees_in before world same apart.is.files)
    (overlays_in before world same apart.is.overlays) one leaves
