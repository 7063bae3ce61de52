-- Mounts are listed alike in two worlds that are alike.
use Rattle.std.proofs.Common.{◌≡◌, ℕ, nat_eq, List, find, map, is_some, option_and_then, option_map}
use Rattle.vt_spec.proofs.Common.{Location, Mount, World, filesystems_seen, groups_seen, mount_line, mount_lines, mounts_of, number_among, spot_of, type_line}
use Rattle.vt_laws_rules.proofs.same.SameFiles.{path_same}
use Rattle.vt_laws_trees.proofs.runs.answered.AlikeChanges.{found_alike}
use Rattle.vt_laws_trees.proofs.runs.answered.AlikeWorlds.{Alike, mounts_of_one, with_mounts_of}

module _ (one other : World ℕ) (same : Alike one (with_mounts_of one other)) where
  line_same : (mounts : List (Mount ℕ)) (mount : Mount ℕ)
      → mount_line nat_eq one mounts mount ≡ mount_line nat_eq (with_mounts_of one other) mounts mount
  line_same mounts mount =
      let shown = found_alike one (with_mounts_of one other) same mount.filesystem in
      λ i. record {
        mount_point = option_map (λ (place : Location ℕ). (
          number_among nat_eq (map (λ (one : Mount ℕ). one.number) mounts) place.mount,
          spot_of (option_and_then (λ (parent : Mount ℕ). path_same _ _ (found_alike one _ same parent.filesystem).files
              parent.root place.node i) (find (λ (parent : Mount ℕ). nat_eq place.mount parent.number) one.mounts)),
        )) mount.mount_point;
        overlay = is_some (shown.overlay i);
        filesystem = number_among nat_eq (filesystems_seen nat_eq mounts) mount.filesystem;
        root = spot_of (path_same _ _ shown.files (shown.files.tree i).root mount.root i);
        flags = mount.flags;
        kind = type_line nat_eq one (groups_seen nat_eq one mounts) mount.propagation;
      }

pub listed_alike : (namespace : ℕ) (one other : World ℕ) → Alike one other
    → mount_lines nat_eq one namespace ≡ mount_lines nat_eq other namespace
listed_alike namespace one other same =
    mounts_of_one (λ world. Alike one world → mount_lines nat_eq one namespace ≡ mount_lines nat_eq world namespace)
    one other same (λ same. λ i.
    map (λ mount. line_same one other same (mounts_of nat_eq one namespace) mount i) (mounts_of nat_eq one namespace))
    same
