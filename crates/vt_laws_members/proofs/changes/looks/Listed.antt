-- The list of mounts of a namespace of theirs is the same in the part.
use Rattle.std.proofs.Common.{arith, ◌≡◌, refl, sym, ap, subst, ◌∙◌, ⊎_elim, ℕ, nat_eq, Bool, true, List, Option, Some, None, map, eq-eqb, option_and_then, option_map}
use Rattle.vt_spec.proofs.Common.{Among, IsWorld, Location, Mount, Private, Propagation, Shared, Slave, Spot, Task, TaskName, Unbindable, World, among-filter, among-from_filter, any_from_among, common_steps, files_at, filesystem_numbered, filesystems_seen, groups_in_type, groups_seen, groups_shown, holds_of, is_overlay, map_alike, members, mount_at, mount_line, mount_lines, mount_point_spot, mounts_of, number_among, part_of, path_down, spot_of, type_line}
use Rattle.vt_laws_members.proofs.Common.{filter_kept, flat_map_alike, found, is_mount, is_one_of, is_own, kept_how, numbered}
use Rattle.vt_laws_mounts.proofs.mounts.MountPointSpots.{numbered_found, spot_on}
use Rattle.vt_laws_members.proofs.judging.Common.{IsTheirs, filesystem_alike, in_own, mount_alike, own_theirs, own_whole, parent_theirs, same_found, theirs_used}

module _ (world : World ℕ) (names : List TaskName) (is : IsWorld nat_eq world) (task : Task ℕ)
    (member : Among task (members world names)) where
  abbrev part : World ℕ
  part = part_of nat_eq world names

  abbrev theirs : List (Task ℕ)
  theirs = members world names

  abbrev owns : Mount ℕ → Bool
  owns = is_own world names theirs

  abbrev inside : Mount ℕ → Bool
  inside mount = holds_of (nat_eq task.namespace) mount.namespace

  -- the mounts of their namespace
  pub mounts_alike : mounts_of nat_eq part task.namespace ≡ mounts_of nat_eq world task.namespace
  mounts_alike = filter_kept _ inside (λ x e. own_whole world names is x (in_own world names is task member x e))
      (λ x y e f. ⊎_elim (λ same. cc) (λ stub. cc stub.0) (kept_how world names theirs x y e)) world.mounts

  abbrev Listed : List (Mount ℕ)
  Listed = mounts_of nat_eq world task.namespace

  listed_own : (mount : Mount ℕ) → Among mount Listed → Among mount world.mounts × (owns mount ≡ true)
  listed_own mount m =
      let from = among-from_filter inside world.mounts mount m in
      (from.0, in_own world names is task member mount from.1)

  -- the master of a group of theirs
  master_alike : (mount : Mount ℕ) → Among mount world.mounts → owns mount ≡ true → (group : ℕ)
      → mount.propagation ≡ Shared group → part.master group ≡ world.master group
  master_alike mount m own group e = grind (arith, common_steps, any_from_among, among-filter, eq-eqb)

  groups_alike : (mount : Mount ℕ) → Among mount Listed → groups_shown part mount ≡ groups_shown world mount
  groups_alike mount m = by mount.propagation refl
    where
      by : (kind : Propagation ℕ) → mount.propagation ≡ kind → groups_in_type part kind ≡ groups_in_type world kind
      by (Shared group) e = let own = listed_own mount m in cc (master_alike mount own.0 own.1 group e)
      by (Slave master) e = refl
      by Private e = refl
      by Unbindable e = refl

  seen_alike : groups_seen nat_eq part Listed ≡ groups_seen nat_eq world Listed
  seen_alike = cc (flat_map_alike (groups_shown part) (groups_shown world) Listed groups_alike)

  kind_alike : (seen : List ℕ) (mount : Mount ℕ) → Among mount Listed
      → type_line nat_eq part seen mount.propagation ≡ type_line nat_eq world seen mount.propagation
  kind_alike seen mount m = by mount.propagation refl
    where
      by : (kind : Propagation ℕ) → mount.propagation ≡ kind
          → type_line nat_eq part seen kind ≡ type_line nat_eq world seen kind
      by (Shared group) e =
          let own = listed_own mount m in
          cc (master_alike mount own.0 own.1 group e)
      by (Slave master) e = refl
      by Private e = refl
      by Unbindable e = refl

  tree_alike : (mount : Mount ℕ) → Among mount Listed
      → filesystem_numbered nat_eq part mount.filesystem ≡ filesystem_numbered nat_eq world mount.filesystem
  tree_alike mount m =
      let own = listed_own mount m in
      let here : Location ℕ = record { mount = mount.number; node = mount.root } in
      found world names mount.filesystem (cc (
        numbered world names is.mounts mount own.0,
        theirs_used world names is
            here (own_theirs world names is mount own.0 own.1),
      ))

  spot_alike : (point : Location ℕ) → IsTheirs world names is.mounts point.mount
      → mount_point_spot nat_eq part point ≡ mount_point_spot nat_eq world point
  spot_alike point own =
      let there : is_mount world point.mount ≡ true =
      subst (λ n. is_mount world n ≡ true) own.2 (is_one_of world.mounts own.0 own.1) in
      let same_path : path_down nat_eq (filesystem_numbered nat_eq part (mount_at nat_eq world point).filesystem).files
      (mount_at nat_eq world point).root point.node
      ≡ path_down nat_eq (files_at nat_eq world point) (mount_at nat_eq world point).root point.node =
      cc (filesystem_alike world names is point own, mount_alike world names is point own) in
      ap (λ o. spot_of (option_and_then (λ (mount : Mount ℕ).
      path_down nat_eq (filesystem_numbered nat_eq part mount.filesystem).files mount.root point.node) o))
      (same_found world names is.mounts point.mount own ∙ numbered_found world.mounts point.mount there)
      ∙ ap spot_of same_path ∙ sym (spot_on world point there)

  abbrev pair : ℕ → Spot → ℕ × Spot
  pair index spot = (index, spot)

  abbrev place : World ℕ → List ℕ → Location ℕ → ℕ × Spot
  place w numbers point = pair (number_among nat_eq numbers point.mount) (mount_point_spot nat_eq w point)

  points_alike : (numbers : List ℕ) (mount : Mount ℕ) → Among mount Listed → option_map (place part numbers)
      mount.mount_point ≡ option_map (place world numbers) mount.mount_point
  points_alike numbers mount m = by mount.mount_point refl
    where
      by : (o : Option (Location ℕ)) → mount.mount_point ≡ o → option_map (place part numbers) o
          ≡ option_map (place world numbers) o
      by None e = refl
      by (Some point) e =
          let own = listed_own mount m in
          cc (spot_alike point (parent_theirs world names is.mounts mount.number point
          (own_theirs world names is mount own.0 own.1) (cc (numbered world names is.mounts mount own.0))))

  line_alike : (mount : Mount ℕ) → Among mount Listed
      → mount_line nat_eq part Listed mount ≡ mount_line nat_eq world Listed mount
  line_alike mount m = λ i. record {
    mount_point = points_alike (map (λ (other : Mount ℕ). other.number) Listed) mount m i;
    overlay = is_overlay (tree_alike mount m i);
    filesystem = number_among nat_eq (filesystems_seen nat_eq Listed) mount.filesystem;
    root = spot_of (path_down nat_eq (tree_alike mount m i).files (tree_alike mount m i).files.tree.root mount.root);
    flags = mount.flags;
    kind = kinds i;
  }
    where
      kinds : type_line nat_eq part (groups_seen nat_eq part Listed) mount.propagation
          ≡ type_line nat_eq world (groups_seen nat_eq world Listed) mount.propagation
      kinds = cc (seen_alike, kind_alike (groups_seen nat_eq world Listed) mount m)

  pub lines_alike : mount_lines nat_eq part task.namespace ≡ mount_lines nat_eq world task.namespace
  lines_alike =
      cc (mounts_alike, map_alike (mount_line nat_eq part Listed) (mount_line nat_eq world Listed) Listed line_alike)
