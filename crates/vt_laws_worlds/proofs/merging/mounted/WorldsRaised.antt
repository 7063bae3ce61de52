-- Change numbers are read by no invariant, of overlays neither.
use Rattle.std.proofs.Common.{◌≡◌, refl, sym, ap, subst, ◌∙◌, ℕ, nat_eq, Bool, true, false, not, ◌&&◌, ◌||◌, List, [], ◌∷◌, filter, find, flat_map, map, Option, Some, None, is_some, slice_get, unwrap_or, is_ok, ok_or, option_map, arith}
use Rattle.vt_spec.proofs.Common.{Filesystem, IsMerged, IsReached, IsWorld, Layer, Lower, MountOverlay, Namespace, OpenLayer, Overlay, OverlayInvariants, Real, SameObject, Task, Upper, World, after, all-map, any_pair, call_outcome, denial, filesystem_numbered, filesystems_changed_by, finished, finished_unless, has_fit_layers, holds_of, is_directory_node, is_kind_in, is_object_of, is_opaque_in, is_overlay, is_plain_layer, is_under, judge_in, layer_node, layers_of, lies_or_counts_under, list_all, list_any, live_lowers, live_upper_and_work, merged_at, no_filesystem, node_at_path, number_at_path, of_overlay, only_looks, overlay_or, overlays, real_node, real_object, settled, shown, shown_layers, task_called, then_some, upper_and_work, common_steps}
use Rattle.vt_spec.specs.declared.errors.Rule.TheVariants.{S2}
use Rattle.vt_spec.specs.declared.attributes.Kind.TheVariants.{White}
use Rattle.vt_laws_mounts.proofs.letting_go.sweeps.InUse.{nothing_goes}
use Rattle.vt_laws_mounts.proofs.letting_go.Lists.{any-map, flat_map-map}
use Rattle.vt_laws_worlds.proofs.Raised.{FilesBy, counted, files_by, mounts_counted, namespaces_counted, roots_counted, same_files, tasks_counted, trees_counted}
use Rattle.vt_laws_worlds.proofs.RaisedInUse.{in_use_later, numbers_raised_are}
use Rattle.vt_laws_worlds.specs.Merging.MountedAnew.{PolicyMountsAWorld, RaisingKeepsWorlds}
use Rattle.vt_laws_worlds.proofs.worlds.CallsKept.{name_found}
use Rattle.vt_laws_worlds.proofs.merging.mounted.Left.{mounting_lets_nothing_go}
use Rattle.vt_laws_worlds.proofs.merging.mounted.Worlds.{are_new, mounting_leaves_a_world}
use Rattle.vt_laws_mounts.proofs.letting_go.sweeps.OfWorlds.{all_in_use}

-- What is asked of layers, by the files of each filesystem
abbrev opened : FilesBy → Layer ℕ → OpenLayer ℕ
opened files layer = record { tree = (files layer.filesystem).tree; directory = layer.directory }

abbrev lies_by : FilesBy → ℕ → ℕ → Layer ℕ → Bool
lies_by files filesystem object layer =
    nat_eq filesystem layer.filesystem && is_under nat_eq (files filesystem) layer.directory object

abbrev counts_by : FilesBy → ℕ → ℕ → Layer ℕ → Filesystem ℕ → Bool
counts_by files filesystem object layer merged = of_overlay false (λ overlay.
    holds_of (λ upper. lies_by files upper.filesystem upper.directory layer) overlay.upper
    && is_object_of nat_eq filesystem object merged overlay) merged

abbrev Under : Type 0
Under = ℕ → ℕ → Layer ℕ → Bool

abbrev overlaps_by : Under → FilesBy → List (Layer ℕ) → Layer ℕ → Bool
overlaps_by under files others layer =
    list_any (λ object. under layer.filesystem object layer && list_any (under layer.filesystem object) others)
    (files layer.filesystem).numbers

module _ (of_filesystem : Filesystem ℕ → ℕ) (of_namespace : Namespace ℕ → ℕ) (of_task : Task ℕ → ℕ) (change : ℕ)
    (world : World ℕ) where
  abbrev later : World ℕ
  later = counted of_filesystem of_namespace of_task change world

  abbrev filesystem_later : Filesystem ℕ → Filesystem ℕ
  filesystem_later filesystem = record filesystem { change = of_filesystem filesystem }

  files_same : files_by later ≡ files_by world
  files_same = same_files of_filesystem of_namespace of_task change world

  -- overlays are those that were there
  overlay_in : (number : ℕ) (list : List (Filesystem ℕ))
      → (unwrap_or (find (λ f. nat_eq number f.number) (map filesystem_later list)) (no_filesystem number)).overlay
      ≡ (unwrap_or (find (λ f. nat_eq number f.number) list) (no_filesystem number)).overlay
  overlay_in number [] = refl
  overlay_in number (filesystem ∷ list) = grind (arith, common_steps, overlay_in number list)

  overlay_same : (number : ℕ) → (filesystem_numbered nat_eq later number).overlay ≡
      (filesystem_numbered nat_eq world number).overlay
  overlay_same number = overlay_in number world.filesystems

  filtered : (list : List (Filesystem ℕ))
      → filter is_overlay (map filesystem_later list) ≡ map filesystem_later (filter is_overlay list)
  filtered [] = refl
  filtered (filesystem ∷ list) = grind (arith, common_steps, filtered list)

  overlays_same : overlays later ≡ map filesystem_later (overlays world)
  overlays_same = filtered world.filesystems

  live_same : live_upper_and_work later ≡ live_upper_and_work world
  live_same = ap (flat_map (of_overlay [] upper_and_work)) overlays_same
      ∙ flat_map-map filesystem_later (of_overlay [] upper_and_work) (overlays world) (λ f. refl)

  lowers_same : live_lowers nat_eq later ≡ live_lowers nat_eq world
  lowers_same = ap (flat_map (of_overlay [] (λ (overlay : Overlay ℕ). overlay.lowers))) overlays_same
      ∙ flat_map-map filesystem_later (of_overlay [] (λ (overlay : Overlay ℕ). overlay.lowers)) (overlays world)
      (λ f. refl)

  -- and lie where they lay
  under_same : lies_or_counts_under nat_eq later ≡ lies_or_counts_under nat_eq world
  under_same = λ i filesystem object layer. at filesystem object layer i
    where
      at : (filesystem object : ℕ) (layer : Layer ℕ) → lies_or_counts_under nat_eq later filesystem object layer
          ≡ lies_or_counts_under nat_eq world filesystem object layer
      at filesystem object layer =
          ap (λ files. lies_by files filesystem object layer || list_any (counts_by files filesystem object layer)
          (overlays later)) files_same ∙ ap (λ list. lies_by (files_by world) filesystem object layer || list_any
          (counts_by (files_by world) filesystem object layer) list) overlays_same
          ∙ ap (λ b. lies_by (files_by world) filesystem object layer || b)
          (any-map (counts_by (files_by world) filesystem object layer) filesystem_later (overlays world) (λ f. refl))

  plain_same : is_plain_layer nat_eq later ≡ is_plain_layer nat_eq world
  plain_same = λ i layer. at layer i
    where
      at : (layer : Layer ℕ) → is_plain_layer nat_eq later layer ≡ is_plain_layer nat_eq world layer
      at layer = ap (λ o. not (is_some o) && is_directory_node
          ((files_by later layer.filesystem).tree.node layer.directory)) (overlay_same layer.filesystem)
          ∙ ap (λ files. not (is_some (filesystem_numbered nat_eq world layer.filesystem).overlay) &&
          is_directory_node ((files layer.filesystem).tree.node layer.directory)) files_same

  merged_later : (number : ℕ) (overlay : Overlay ℕ)
      → IsMerged nat_eq world (filesystem_numbered nat_eq world number) overlay
      → IsMerged nat_eq later (filesystem_numbered nat_eq later number) overlay
  merged_later number overlay is = record {
    shows = subst (λ files. (path : List (List ℕ))
        → SameObject (then_some (number_at_path (files number) path) (files number).tree.node)
        (then_some (shown (map (opened files) (shown_layers overlay)) path)
        (layer_node (map (opened files) (shown_layers overlay))))) (sym files_same) is.shows;
    names = subst (λ files. (path : List (List ℕ)) (n : ℕ) → number_at_path (files number) path ≡ Some n
        → overlay.real n ≡ option_map (λ object. real_object (is_some overlay.upper) object.seen.layer object)
        (merged_at (map (opened files) (shown_layers overlay)) path)) (sym files_same) is.names;
    real_objects = λ n. by n (overlay.real n) (is.real_objects n);
    real_there = subst (λ files. (n : ℕ) → (files number).tree.node n ≡ None → overlay.real n ≡ None)
        (sym files_same) is.real_there;
    no_whiteout = subst (λ files. (n : ℕ) → is_kind_in White ((files number).tree.node n) ≡ false)
        (sym files_same) is.no_whiteout;
    no_mark = subst (λ files. (n : ℕ) → is_opaque_in ((files number).tree.node n) ≡ false) (sym files_same) is.no_mark;
    upper_there = subst (λ files. (n object : ℕ) → overlay.real n ≡ Some (Upper object)
        → holds_of (λ layer. is_some ((files layer.filesystem).tree.node object)) overlay.upper ≡ true)
        (sym files_same) is.upper_there;
    one_to_one = is.one_to_one;
  }
    where
      by : (n : ℕ) (o : Option (Real ℕ))
          → SameObject ((files_by world number).tree.node n) (then_some o (real_node nat_eq world overlay))
          → SameObject ((files_by later number).tree.node n) (then_some o (real_node nat_eq later overlay))
      by n None same = subst (λ files. SameObject ((files number).tree.node n) None) (sym files_same) same
      by n (Some (Upper object)) same = subst (λ files. SameObject ((files number).tree.node n)
          (then_some overlay.upper (λ layer. (files layer.filesystem).tree.node object))) (sym files_same) same
      by n (Some (Lower layer path)) same = subst (λ files. SameObject ((files number).tree.node n)
          (then_some (slice_get overlay.lowers layer) (λ lower. node_at_path (opened files lower) path)))
          (sym files_same) same

  overlays_counted : OverlayInvariants nat_eq world → OverlayInvariants nat_eq later
  overlays_counted is = record {
    overlays_merge = λ number overlay e. merged_later number overlay
        (is.overlays_merge number overlay (sym (overlay_same number) ∙ e));
    fit_layers = all-map (of_overlay true has_fit_layers) filesystem_later (λ f e. e) world.filesystems is.fit_layers;
    plain_layers = all-map (of_overlay true
        (λ o. list_all (is_plain_layer nat_eq later) (layers_of o))) filesystem_later
        (λ f e. ap (λ plain. overlay_or true (λ o. list_all plain (layers_of o)) f.overlay) plain_same
        ∙ e) world.filesystems is.plain_layers;
    changed_apart =
        (λ i. any_pair (λ a b. overlaps_by (under_same i) (files_same i) (b ∷ []) a) (live_same i)) ∙ is.changed_apart;
    lowers_apart =
        (λ i. list_any (overlaps_by (under_same i) (files_same i) (lowers_same i)) (live_same i)) ∙ is.lowers_apart;
    uppers_reached = λ number overlay upper e has.
        subst (λ files. IsReached (files upper.filesystem).tree upper.directory) (sym files_same)
        (is.uppers_reached number overlay upper (sym (overlay_same number) ∙ e) has);
  }

  world_counted : IsWorld nat_eq world → IsWorld nat_eq later
  world_counted is = record {
    files = trees_counted of_filesystem of_namespace of_task change world is.files;
    overlays = overlays_counted is.overlays;
    mounts = mounts_counted of_filesystem of_namespace of_task change world is.mounts;
    namespaces = namespaces_counted of_filesystem of_namespace of_task change world is.namespaces;
    tasks = tasks_counted of_filesystem of_namespace of_task change world is.tasks;
    roots = roots_counted of_filesystem of_namespace of_task change world is.roots;
    nothing_unused = nothing_goes later
        (in_use_later of_filesystem of_namespace of_task change world (all_in_use world is));
  }

pub raising_keeps_worlds : RaisingKeepsWorlds
raising_keeps_worlds before name changed world is =
    subst (IsWorld nat_eq) (sym (numbers_raised_are before name _ world)) (world_counted _ _ _ _ world is)

-- so the policy leaves a world at each mount of an overlay
pub policy_mounts_a_world : PolicyMountsAWorld
policy_mounts_a_world fresh world name path options flags is serves = by _ refl
  where
    last : (task : Task ℕ) → task_called world task.name ≡ Some task → (b : Bool) (changed : List ℕ)
        → IsWorld nat_eq (finished_unless nat_eq b world name changed
        (call_outcome nat_eq fresh world task (MountOverlay path options flags))).world
    last task called true changed = mounting_leaves_a_world fresh world task path options flags is serves called
    last task called false changed = raising_keeps_worlds world name changed
        (settled nat_eq (call_outcome nat_eq fresh world task (MountOverlay path options flags)).world)
        (subst (IsWorld nat_eq) (sym (mounting_lets_nothing_go fresh world task path options flags is
        (are_new world is fresh serves task called)))
        (mounting_leaves_a_world fresh world task path options flags is serves called))

    by : (o : Option (Task ℕ)) → task_called world name ≡ o → IsWorld nat_eq (after world (ok_or o (denial S2)) (λ task.
        finished nat_eq world name (MountOverlay path options flags)
        (filesystems_changed_by nat_eq world (judge_in nat_eq fresh world task (MountOverlay path options flags)))
        (call_outcome nat_eq fresh world task (MountOverlay path options flags)))).world
    by None e = is
    by (Some task) e = last task (cc (name_found world name task e)) (only_looks (MountOverlay path options flags)
        || not (is_ok (call_outcome nat_eq fresh world task (MountOverlay path options flags)).answer)) _
