-- What mounts that are attached use: their roots and their mount points, and the filesystems that they show.
use Rattle.std.proofs.Common.{◌≡◌, refl, sym, ap, ◌∙◌, ℕ, ◌+◌, nat_eq, Bool, true, false, List, [], ◌∷◌, ◌++◌, map, Option, Some, None, if◌then◌else◌, arith, filter_map, append-nil}
use Rattle.vt_spec.proofs.Common.{Inodes, World, all_locations, any_pair, common_steps, folded, list_all, map-append, map_alike, map_twice, root_of}
use Rattle.vt_spec.specs.Machine.Mounts as meant
use Rattle.vt_mounting.proofs.Common.{Among, Exchanges, Inode, Shown, counted, counted_test, inode_at, is_inode, is_on, location_of, mount_of, pinned_if, places_of, times, times_append}
use Rattle.vt_laws_mounts.proofs.counts.using.Places.{mounts_are_uses}
use Rattle.vt_location.specs.declared.locations.Location.{Location}
use Rattle.vt_location.specs.declared.mounts.Mount.{Mount}
use Rattle.vt_mounting.proofs.detach.Detached.{inodes_of_point}
use Rattle.vt_mounting.specs.Detach.Uses.{inode_of, mounted_if, pinned_at, pinned_in, shown_by}
use Rattle.vt_mounting.proofs.detach.Shown.{counted_eq_back}

-- the inodes that mounts use
abbrev pub gained_by : List Mount → List Inode
gained_by [] = []
gained_by (mount ∷ rest) = inode_of mount.root ∷ (inodes_of_point mount.mount_point ++ gained_by rest)

-- A filesystem once mounts are attached: the uses of its inodes, and how many more mounts show it

abbrev pub showing : ℕ → List Mount → ℕ
showing count new = times (λ (mount : meant.Mount ℕ). nat_eq (counted count) mount.filesystem) (map mount_of new)

abbrev pub with_mounts_on : List Mount → Shown → Shown
with_mounts_on new one = record one {
  inodes = folded (pinned_if (counted one.count)) one.inodes (gained_by new);
  mounts = one.mounts + showing one.count new;
}

abbrev with_mount_on : Mount → Shown → Shown
with_mount_on mount one = record one {
  inodes = folded (pinned_if (counted one.count)) one.inodes (inode_of mount.root ∷ inodes_of_point mount.mount_point);
  mounts = one.mounts + (if nat_eq (counted one.count) (counted mount.root.filesystem.count) then 1 else 0);
}

abbrev pinned_one : Inode → Shown → Shown
pinned_one inode one = record one { inodes = pinned_if (counted one.count) one.inodes inode }

mounted_one : (count : ℕ) (one : Shown) → mounted_if (counted count) one
    ≡ record one { mounts = one.mounts + (if nat_eq (counted one.count) (counted count) then 1 else 0) }
mounted_one count one = grind (arith, common_steps, counted_eq_back, counted_test)

by_one : (mount : Mount) (all : List Shown) → shown_by all mount ≡ map (with_mount_on mount) all
by_one mount all = ap (map (mounted_if (counted mount.root.filesystem.count))) (pinned_both mount.mount_point)
    ∙ map_twice (mounted_if (counted mount.root.filesystem.count)) pinned_so all
    ∙ map_alike (λ one. mounted_if (counted mount.root.filesystem.count) (pinned_so one)) (with_mount_on mount) all
    (λ one m. mounted_one mount.root.filesystem.count (pinned_so one))
  where
    pinned_so : Shown → Shown
    pinned_so one = record one {
      inodes = folded (pinned_if (counted one.count)) one.inodes
          (inode_of mount.root ∷ inodes_of_point mount.mount_point);
    }

    pinned_both : (point : Option Location) → pinned_at point (pinned_in (inode_of mount.root) all)
        ≡ map (λ (one : Shown). record one {
          inodes = folded (pinned_if (counted one.count)) one.inodes (inode_of mount.root ∷ inodes_of_point point);
        }) all
    pinned_both None = refl
    pinned_both (Some point) = map_twice (pinned_one (inode_of point.node)) (pinned_one (inode_of mount.root)) all

-- uses of one list, and then of another, are those of both
pub folded_after : (test : ℕ) (front back : List Inode) (inodes : Inodes ℕ)
    → folded (pinned_if test) (folded (pinned_if test) inodes front) back
    ≡ folded (pinned_if test) inodes (front ++ back)
folded_after test [] back inodes = refl
folded_after test (inode ∷ front) back inodes = folded_after test front back (pinned_if test inodes inode)

pub shown_by_all : (new : List Mount) (all : List Shown) → folded shown_by all new ≡ map (with_mounts_on new) all
shown_by_all [] all = none all
  where
    one_more : (one : Shown) → one ≡ with_mounts_on [] one
    one_more one = let same : one.mounts ≡ one.mounts + 0 = omega arith in λ i. record one { mounts = same i }

    none : (list : List Shown) → list ≡ map (with_mounts_on []) list
    none [] = refl
    none (one ∷ rest) = λ i. one_more one i ∷ none rest i
shown_by_all (mount ∷ new) all = shown_by_all new (shown_by all mount)
    ∙ ap (map (with_mounts_on new)) (by_one mount all) ∙ map_twice (with_mounts_on new) (with_mount_on mount) all
    ∙ map_alike (λ one. with_mounts_on new (with_mount_on mount one)) (with_mounts_on (mount ∷ new)) all
    (λ one m. both one)
  where
    both : (one : Shown) → with_mounts_on new (with_mount_on mount one) ≡ with_mounts_on (mount ∷ new) one
    both one =
        let b = if nat_eq (counted one.count) (counted mount.root.filesystem.count) then 1 else 0 in
        let sum : one.mounts + b + showing one.count new ≡ one.mounts + (b + showing one.count new) = omega arith in
        λ i. record one {
          inodes = folded_after (counted one.count) (inode_of mount.root ∷ inodes_of_point mount.mount_point)
              (gained_by new) one.inodes i;
          mounts = sum i;
        }

-- The same as an exchange of inodes between two worlds

module _ (after : World ℕ) where
  -- the inodes of its root and of its mount point are those that the world finds
  pub record IsFoundIn (mount : Mount) : Type 0 where
    pub root : inode_at after (root_of (mount_of mount)) ≡ inode_of mount.root
    pub point : (point : Location) → mount.mount_point ≡ Some point
        → inode_at after (location_of point) ≡ inode_of point.node

  abbrev points_of : List Mount → List (meant.Location ℕ)
  points_of new = filter_map (λ (mount : meant.Mount ℕ). mount.mount_point) (map mount_of new)

  times_places : (test : Inode → Bool) (new : List Mount) → ((mount : Mount) → Among mount new → IsFoundIn mount)
      → times test (map (inode_at after) (map root_of (map mount_of new))) + times test
      (map (inode_at after) (points_of new)) ≡ times test (gained_by new)
  times_places test [] found = refl
  times_places test (mount ∷ new) found = grind (arith, common_steps, times_places test new, inodes_of_point)

  pub gained_uses : (test : Inode → Bool) (new : List Mount) → ((mount : Mount) → Among mount new → IsFoundIn mount)
      → times test (map (inode_at after) (places_of (map mount_of new))) ≡ times test (gained_by new)
  gained_uses test new found =
      ap (times test) (map-append (inode_at after) (map root_of (map mount_of new)) (points_of new))
      ∙ times_append test (map (inode_at after) (map root_of (map mount_of new))) (map (inode_at after) (points_of new))
      ∙ times_places test new found

  pub mounts_are_gained : (world : World ℕ) (new : List Mount) → ((mount : Mount) → Among mount new → IsFoundIn mount)
      → after.filesystems ≡ world.filesystems → all_locations after ≡ all_locations world
      → after.mounts ≡ world.mounts ++ map mount_of new
      → any_pair (λ (a b : meant.Mount ℕ). nat_eq a.number b.number) after.mounts ≡ false
      → list_all (is_on world.mounts) (all_locations world ++ places_of world.mounts) ≡ true
      → (filesystem : ℕ) → Exchanges (gained_by new) [] filesystem world after
  mounts_are_gained world new found files locations mounts once stand filesystem =
      let exchange = mounts_are_uses world after world.mounts (map mount_of new) [] files locations
      (sym (append-nil world.mounts))
      (mounts ∙ ap (λ added. world.mounts ++ added) (sym (append-nil (map mount_of new)))) once stand filesystem in
      record {
        same = exchange.same;
        uses = λ number. let uses = exchange.uses number in let same = gained_uses
            (is_inode filesystem number) new found in omega (arith, uses, same);
      }
