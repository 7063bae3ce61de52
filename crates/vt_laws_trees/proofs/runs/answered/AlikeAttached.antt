-- What is attached in two worlds that are alike.
use Rattle.std.proofs.Common.{◌≡◌, refl, ap, subst, ℕ, nat_eq, Bool, true, false, not, ◌&&◌, List, [], ◌∷◌, length, map, filter, flat_map, is_some, sum}
use Rattle.vt_spec.proofs.Common.{Filesystem, Fresh, Location, Mount, MountFlags, Overlay, SameFilesystem, World, attach, attached_at, bind_tree, bindable_children, bindable_tree, bound, bound_at, copies_from, evens, graft_of, holds_of, merged_inodes, merged_objects, mount_at, mounted, new_mount, odds, overlay_filesystem, parts_of, receivers_of, shown_layers, stands_under, takes_part, with_new_filesystem}
use Rattle.vt_laws_rules.proofs.same.SameFiles.{as_many, directory_under_same}
use Rattle.vt_laws_trees.proofs.runs.answered.AlikeChanges.{found_alike, opened_same}
use Rattle.vt_laws_trees.proofs.runs.answered.AlikeMounts.{of_one}
use Rattle.vt_laws_trees.proofs.runs.answered.AlikeWorlds.{Alike, with_mounts_of}
use Rattle.vt_laws_rules.proofs.same.SameMany.{same_filesystem_itself}
use Rattle.vt_laws_trees.proofs.runs.Each.{each_append, each_to_one}
use Rattle.vt_spec.specs.Machine.NewMounts.{overlay_of_inodes}

module _ (one other : World ℕ) (same : Alike one (with_mounts_of one other)) where
  takes_same : (place : Location ℕ) (mount : Mount ℕ)
      → takes_part nat_eq one place mount ≡ takes_part nat_eq (with_mounts_of one other) place mount
  takes_same place mount = ap (λ b. not (nat_eq place.mount mount.number) && is_some mount.namespace
      && nat_eq (mount_at nat_eq one place).filesystem mount.filesystem && b)
      (directory_under_same _ _ (found_alike one (with_mounts_of one other) same mount.filesystem).files mount.root
      place.node)

  parts_same : (place : Location ℕ) → parts_of nat_eq one place ≡ parts_of nat_eq (with_mounts_of one other) place
  parts_same place = λ i. mount_at nat_eq one place
      ∷ filter (λ mount. takes_same place mount i) (receivers_of nat_eq one (mount_at nat_eq one place))

  -- what is attached, by its parts
  abbrev attached_to : Fresh ℕ → Location ℕ → Bool → List (Mount ℕ) → List (Mount ℕ) → World ℕ
  attached_to fresh place moves mounts parts = attached_at nat_eq one (copies_from nat_eq fresh parts mounts)
      (graft_of nat_eq one (copies_from nat_eq fresh parts mounts) place moves mounts) parts

  attached_alike : (fresh : Fresh ℕ) (place : Location ℕ) (moves : Bool) (mounts : List (Mount ℕ))
      → Alike (attach nat_eq one fresh place moves mounts)
      (attach nat_eq (with_mounts_of one other) fresh place moves mounts)
  attached_alike fresh place moves mounts = record {
    mounts = λ i. (attached_to fresh place moves mounts (parts_same place i)).mounts;
    master = λ i. (attached_to fresh place moves mounts (parts_same place i)).master;
    filesystems = same.filesystems;
    namespaces = same.namespaces;
    tasks = same.tasks;
  }

  under_same : (source : Location ℕ) (mount : Mount ℕ) → stands_under nat_eq one source mount
      ≡ stands_under nat_eq (with_mounts_of one other) source mount
  under_same source mount = λ i. holds_of (λ (place : Location ℕ). directory_under_same _ _
      (found_alike one _ same (mount_at nat_eq one source).filesystem).files source.node place.node i) mount.mount_point

  tree_same : (source : Location ℕ) (recursive : Bool)
      → bind_tree nat_eq one source recursive ≡ bind_tree nat_eq (with_mounts_of one other) source recursive
  tree_same source false = refl
  tree_same source true = λ i. bound nat_eq one source ∷ flat_map (bindable_tree nat_eq (length one.mounts) one.mounts)
      (filter (λ mount. under_same source mount i) (bindable_children nat_eq one.mounts source.mount))

pub attach_alike : (fresh : Fresh ℕ) (place : Location ℕ) (moves : Bool) (mounts : List (Mount ℕ)) (one other : World ℕ)
    → Alike one other → Alike (attach nat_eq one fresh place moves mounts)
    (attach nat_eq other fresh place moves mounts)
attach_alike fresh place moves mounts = of_one (λ world. attach nat_eq world fresh place moves mounts)
    (λ one other same. attached_alike one other same fresh place moves mounts)

pub bind_alike : (fresh : Fresh ℕ) (source place : Location ℕ) (recursive : Bool) (one other : World ℕ)
    → Alike one other
    → Alike (bound_at nat_eq fresh one source place recursive) (bound_at nat_eq fresh other source place recursive)
bind_alike fresh source place recursive =
    of_one (λ world. bound_at nat_eq fresh world source place recursive) (λ one other same.
    subst (λ tree. Alike (bound_at nat_eq fresh one source place recursive)
    (attach nat_eq (with_mounts_of one other) fresh place false tree)) (tree_same one other same source recursive)
    (attached_alike one other same fresh place false (bind_tree nat_eq one source recursive)))

pub mounted_alike : (fresh : Fresh ℕ) (place : Location ℕ) (filesystem : Filesystem ℕ) (flags : MountFlags)
    (one other : World ℕ) → Alike one other
    → Alike (mounted nat_eq fresh one place filesystem flags) (mounted nat_eq fresh other place filesystem flags)
mounted_alike fresh place filesystem flags one other same = attach_alike fresh place false
    (new_mount filesystem.number filesystem.files.tree.root flags ∷ []) (with_new_filesystem one filesystem) _ (record {
      mounts = same.mounts;
      master = same.master;
      filesystems = each_append SameFilesystem _ _ _ _ same.filesystems (same_filesystem_itself filesystem, tt);
      namespaces = same.namespaces;
      tasks = same.tasks;
    })

-- The filesystem of a new overlay is one: it is made of the trees of its layers, and of how many inodes there are.
pub overlay_made_alike : (fresh : Fresh ℕ) (overlay : Overlay ℕ) (one other : World ℕ) → Alike one other
    → overlay_filesystem nat_eq fresh one overlay ≡ overlay_filesystem nat_eq fresh other overlay
overlay_made_alike fresh overlay one other same = λ i. overlay_of_inodes nat_eq (evens fresh 0) (odds fresh 0) overlay
    (merged_inodes nat_eq (odds fresh) (is_some overlay.upper)
    (map (λ layer. opened_same one other same layer i) (shown_layers overlay))
    (merged_objects (map (λ layer. opened_same one other same layer i) (shown_layers overlay))
    (sum (each_to_one SameFilesystem (λ (filesystem : Filesystem ℕ). length filesystem.files.numbers)
    (λ (filesystem : Filesystem ℕ). length filesystem.files.numbers)
    (λ a b alike. as_many a.files b.files alike.files) one.filesystems other.filesystems same.filesystems i))))
