-- An overlay is shown by the nodes that it keeps, however many uses these have.
use Rattle.std.proofs.Common.{◌≡◌, ◌∙◌, refl, ap, subst, sym, List, [], None, Option, Some, find, filter_map, map, nat_eq, ℕ, ◌++◌}
use Rattle.std.specs.Map.{keys_of}
use Rattle.vt_spec.proofs.Common.{Among, all_from_among, among_from_all, then_some}
use Rattle.vt_spec.specs.Machine.Layers.{paths_from}
use Rattle.vt_laws_trees.specs.Overlays.MergedTrees.{layers_shown}
use Rattle.vt_laws_trees.specs.Overlays.TreesSeen.{real_seen, tree_seen}
use Rattle.vt_births.specs.Births.{BirthsValue}
use Rattle.vt_births.specs.Kept.{KeptValue}
use Rattle.vt_location.specs.declared.locations.NodeRef.{NodeRef}
use Rattle.vt_location.specs.Locations.{number_of}
use Rattle.vt_fs.specs.FilesystemsValue.{Filesystems}
use Rattle.vt_overlay.specs.MergedTree.{OverlayValue, longest, plain_world}
use Rattle.vt_upper_overlay.specs.MergedAbove.{held, merged_files, number_at, object_kept, object_lent, path_at, real_number, upper_seen}
use Rattle.vt_upper_overlay.specs.Lent.{lent_by_path, real_lent}
use Rattle.vt_upper_overlay.specs.Standing.{IsKeptWell, StandsAbove}
use Rattle.vt_upper_overlay.specs.UpperValue.{UpperOverlayValue}
use Rattle.vt_layered.specs.LayeredTree.{StandsLayered}
use Rattle.vt_layered.specs.LayeredValue.{Above, upper_of}
use Rattle.vt_layered.specs.Unseen.{IsSeenAlike, UsesAreNotSeen, UsesLeaveLayers}

-- with the same births, and the same nodes kept
module _ (trees : Filesystems) (overlay : OverlayValue) (above : Above) (kept : KeptValue)
    (same : keys_of kept.by_node ≡ keys_of above.nodes.kept.by_node) where
  abbrev old : UpperOverlayValue
  old = upper_of overlay above

  abbrev later : Above
  later = record above { nodes = record { births = above.nodes.births; kept = kept } }

  abbrev new : UpperOverlayValue
  new = upper_of overlay later

  held_same : held trees new ≡ held trees old
  held_same = λ i number. then_some (find (λ node. nat_eq number (number_of node)) (same i)) (object_kept trees old)

  files_same : merged_files trees new ≡ merged_files trees old
  files_same = λ i. record {
    tree = tree_seen (real_number trees old) (held_same i) (longest trees overlay.lowers) (plain_world trees)
        (upper_seen old);
    numbers = filter_map (number_at trees old)
        (paths_from (longest trees overlay.lowers) (layers_shown (plain_world trees) (upper_seen old)) [])
        ++ map number_of (same i);
  }

  lent_same : (number : ℕ) → real_lent trees new number ≡ real_lent trees old number
  lent_same number = by (path_at trees old number)
    where
      by : (path : Option (List (List ℕ))) → lent_by_path trees new number path ≡ lent_by_path trees old number path
      by None = ap (λ keys. then_some (find (λ node. nat_eq number (number_of node)) keys) (object_lent trees old)) same
      by (Some path) = refl

  seen_same : IsSeenAlike trees overlay (Some above) (Some later)
  seen_same = record {
    files = files_same;
    objects = λ i. real_seen (real_number trees old) (held_same i) (longest trees overlay.lowers) (plain_world trees)
        (upper_seen old);
    lent = lent_same;
  }

  well_kept : (node : NodeRef) → IsKeptWell trees old node → IsKeptWell trees new node
  well_kept node is = record { small = is.small; own = is.own; unnamed = is.unnamed; object = is.object }

  stands_same : StandsAbove trees old → StandsAbove trees new
  stands_same is = record {
    layers = is.layers;
    upper = is.upper;
    few = is.few;
    one_to_one = is.one_to_one;
    own = is.own;
    uncopied = is.uncopied;
    kept = all_from_among (IsKeptWell trees new) (keys_of kept.by_node) (λ node m. well_kept node
        (among_from_all (IsKeptWell trees old) (keys_of above.nodes.kept.by_node) is.kept node
        (subst (Among node) same m)));
  }

  layered_stands : StandsLayered trees overlay (Some above) → StandsLayered trees overlay (Some later)
  layered_stands is = record { layers = is.layers; some = is.some; few = is.few; right = stands_same is.right }

pub uses_are_not_seen : UsesAreNotSeen
uses_are_not_seen trees overlay above nodes same births = subst (λ (born : BirthsValue).
    IsSeenAlike trees overlay (Some above) (Some (record above { nodes = record { births = born; kept = nodes.kept } })))
    (sym births) (seen_same trees overlay above nodes.kept same)

pub uses_leave_layers : UsesLeaveLayers
uses_leave_layers trees overlay above nodes same births is = subst (λ (born : BirthsValue).
    StandsLayered trees overlay (Some (record above { nodes = record { births = born; kept = nodes.kept } })))
    (sym births) (layered_stands trees overlay above nodes.kept same is)
