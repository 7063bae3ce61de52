-- The event that mounts a new filesystem: mount(2) of a tmpfs.
use Rattle.std.proofs.Common.{◌≡◌, ◌<◌, refl, sym, ap, subst, ◌∙◌, ⊎_elim, ℕ, ◌+◌, ◌*◌, ◌%◌, ◌==◌, nat_eq, true, true≢false, false, List, [], ◌∷◌, ◌++◌, map, length, is_some, arith, ne_eqb}
use Rattle.vt_spec.proofs.Common.{Fresh, Location, MountFlags, Permit, TaskName, ToMountPlain, World, among_from_contains, attach, common_steps, group_of, length-map, list_all, new_mount, odds, parts_of, plain_filesystem, root_attr, with_new_filesystem}
use Rattle.vt_spec.specs.Machine.Mounts as meant
use Rattle.vt_mounting.proofs.Common.{Among, FilesystemEntry, Filesystems, Grouping, IsHeld, IsNew, IsSeen, KeepsTo, MountEntry, OneNumberAMount, WorldValue, are_ascending, counted, handed_from, inode_number, is_counted_before, location_of, mount_of, mounts_in, parts_apart, planned_copies, world_of}
use Rattle.vt_propagate.specs.declared.copying.Counts.{Counts}
use Rattle.vt_propagate.specs.declared.copying.Graft.{Graft}
use Rattle.vt_propagate.specs.Copying as planned
use Rattle.vt_mounting.specs.Detach.Events.{Permits, left_by}
use Rattle.vt_mounting.specs.Detach.Uses.{Merged, kept_with, merged_seen}
use Rattle.vt_mounting.proofs.detach.Grouped.{same_has}
use Rattle.vt_mounting.proofs.detach.Places.{located_is_named}
use Rattle.vt_mounting.proofs.detach.Staying.{IsDone}
use Rattle.vt_mounting.specs.Attach.AttachedGroups.{HasGroupsOf}
use Rattle.vt_mounting.specs.Attach.AttachedNumbers.{numbers_of_new_mount}
use Rattle.vt_mounting.specs.Attach.Grafted.{IsGrafted, MayGraft}
use Rattle.vt_mounting.proofs.attach.AttachedCounts.{lower_numbers}
use Rattle.vt_mounting.proofs.attach.Binding.{is_seen}
use Rattle.vt_mounting.proofs.attach.CopiesAscend.{planned_ascend}
use Rattle.vt_mounting.proofs.attach.Beside.{is_beside}
use Rattle.vt_mounting.proofs.attach.GraftedDone.{graft_is_done, grafted_value, plan_attaches, with_base}
use Rattle.vt_mounting.proofs.attach.NewBase.{base_is, destination_there, left_attached, new_base, plain_is, same_parts, takes}
use Rattle.vt_mounting.proofs.attach.NumbersByParts.{new_mounts_keep_to_numbers}

module _ (value : WorldValue) (whole : IsHeld value) (name : TaskName) (graft : Graft) (counts : Counts)
    (flags : MountFlags)
    (permits : Permits value name (ToMountPlain (location_of graft.place) flags)) (binds : graft.moves ≡ false)
    (tree_is : map mount_of graft.tree.now ≡ new_mount (counted value.next) (inode_number value.next 0) flags ∷ [])
    (parts_are : map mount_of graft.parts.now ≡ parts_of nat_eq (world_of value) (location_of graft.place))
    (first : counts.first ≡ value.next + 1) (step : counts.step ≡ 2) where
  abbrev permit : Permit ℕ
  permit = ToMountPlain (location_of graft.place) flags

  abbrev place : Location ℕ
  place = location_of graft.place

  abbrev world : World ℕ
  world = world_of value

  abbrev tree : List (meant.Mount ℕ)
  tree = map mount_of graft.tree.now

  abbrev fresh : Fresh ℕ
  fresh = handed_from value.next 2 (inode_number value.next 0)

  same_counts : (k : ℕ) → planned.counts_from counts k ≡ odds fresh k
  same_counts k = grind (arith, common_steps, ne_eqb)

  tree_once : OneNumberAMount tree
  tree_once = subst OneNumberAMount (sym tree_is) refl

  tree_some : 0 < length graft.tree.now
  tree_some = subst (λ n. 0 < n) (length-map graft.tree.now mount_of)
      (subst (λ (list : List (meant.Mount ℕ)). 0 < length list) (sym tree_is) (omega arith))

  module _ (ascending : are_ascending (mounts_in value.mounts) ≡ true)
      (odd : list_all (λ mount. mount.number % 4 == 1) (mounts_in value.mounts) ≡ true) where
    rising_in : (other : World ℕ) → OneNumberAMount other.mounts
        → are_ascending (mounts_in value.mounts ++ planned_copies other graft counts) ≡ true
    rising_in other one =
        planned_ascend counts (subst (λ n. 0 < n) (sym step) (omega arith)) other graft binds one tree_once tree_some
        (mounts_in value.mounts) ascending (λ mount m. subst (λ n. mount.number < counted n) (sym first)
        (let low = lower_numbers value whole odd mount m in omega (arith, low)))

    pub may_mount : MayGraft value.mounts value.groups graft counts
    may_mount = record {
      world = world;
      seen = is_seen value whole;
      one_child = whole.in_world.mounts.one_child;
      parts_are = parts_are;
      apart = subst OneNumberAMount (sym parts_are) (parts_apart world place whole.in_world.mounts.one_number);
      ascending = rising_in world whole.in_world.mounts.one_number;
    }

    module _ (entry : FilesystemEntry) (is_new : IsNew value.next root_attr entry)
        (small : value.next < 18446744073709551616) where
      abbrev base : Filesystems
      base = value.filesystems ++ entry ∷ []

      seen_then : IsSeen (with_base value (value.filesystems ++ entry ∷ [])) value.mounts value.groups
      seen_then = record {
        mounts = refl;
        groups = same_has (with_base value (value.filesystems ++ entry ∷ [])) whole.groups refl (λ group. refl);
        living = whole.in_world.mounts.groups;
      }

      parts_then : map mount_of graft.parts.now
          ≡ parts_of nat_eq (with_base value (value.filesystems ++ entry ∷ [])) (location_of graft.place)
      parts_then = parts_are ∙ sym (same_parts whole permits)
          ∙ ap (λ (w : World ℕ). parts_of nat_eq w (location_of graft.place)) (base_is whole permits is_new)

      -- the groups of the new mounts are there
      groups_there : HasGroupsOf (with_base value (value.filesystems ++ entry ∷ [])) (map mount_of graft.tree.now)
      groups_there mount contained group e = ⊎_elim (λ same. absurd (true≢false (sym
          (ap is_some (sym (ap (λ (x : meant.Mount ℕ). group_of x.propagation) same) ∙ e))))) (λ none. absurd none)
          (subst (Among mount) tree_is (among_from_contains tree mount contained))

      sizes : numbers_of_new_mount (with_new_filesystem world (plain_filesystem nat_eq fresh)) place
          ≡ 2 * (length graft.parts.now * 2)
      sizes =
          let many : length (map mount_of graft.parts.now)
          ≡ length graft.parts.now = length-map graft.parts.now mount_of in
          let all : 2 * (2 * length (map mount_of graft.parts.now))
          ≡ 2 * (length graft.parts.now * 2) = omega (arith, many) in
          cc (plain_is whole permits, same_parts whole permits)

      pub new_mount_is_done : (mounts : List MountEntry) (groups : Grouping) (filesystems : Filesystems)
          (overlays : List Merged) (next : ℕ) → IsGrafted graft counts
          (kept_with value.mounts (value.filesystems ++ entry ∷ []) (map merged_seen value.overlays)) value.groups
          (kept_with mounts filesystems overlays) groups → next ≡ value.next + 2 * (length graft.parts.now * 2)
          → IsDone value name permit (grafted_value value mounts groups filesystems overlays next)
      new_mount_is_done mounts groups filesystems overlays next is grows =
          let attaches = is.plan (with_base value base) seen_then whole.in_world.mounts.one_child parts_then in
          let attach_is = plan_attaches
          attaches binds (odds fresh) same_counts in
          let rising = ap (λ list. are_ascending (mounts_in value.mounts ++ list)) attaches.copies_are
          ∙ rising_in (with_base value base) whole.in_world.mounts.one_number in
          let left_is = left_attached whole permits
          ∙ ap (λ (w : World ℕ). attach nat_eq w (odds fresh) place false
          (new_mount (counted value.next) (inode_number value.next 0) flags ∷ [])) (base_is whole permits is_new)
          ∙ ap (λ list. attach nat_eq (with_base value base) (odds fresh) place false list) (sym tree_is) ∙ attach_is in
          graft_is_done (record {
            whole = is_beside value whole;
            is_base = new_base whole permits is_new small;
            is = is;
            attaches = attaches;
            there = groups_there;
            ascending = rising;
          }) next whole permits (takes whole permits) left_is
          (subst (λ n. KeepsTo (is_counted_before n) (left_by value permits.task permit))
          (ap (λ n. value.next + n) sizes ∙ sym grows)
          (new_mounts_keep_to_numbers value.next (inode_number value.next 0) (omega arith) world permits.task place
          flags permits.given.called whole.given
          (located_is_named value whole place (destination_there value whole name place flags permits))))
