-- Mounts that get other types with their groups, and stay where they are: mount(2) with MS_SHARED, MS_SLAVE, MS_PRIVATE
-- and
-- MS_UNBINDABLE, and MS_REC. Whatever groups there are, the code's world is the one that the policy leaves.
use Rattle.std.proofs.Common.{◌≡◌, refl, sym, ap, subst, ◌∙◌, ◌+◌, ℕ, nat_eq, Bool, true, false, cond, List, [], ◌∷◌, ◌++◌, map, filter, flat_map, Option, None, filter_map}
use Rattle.vt_spec.proofs.Common.{Filesystem, IsWorld, Location, Mount, Propagation, SameWorlds, TaskName, ToSetType, TypeWord, World, all_locations, cons_option, has_members, layers_in, list_any, located_in, lost_a_group, map_twice, named_in, named_mounts, numbers_by, objects_of_overlay, regrouped, regrouped_by, retyped, retyped_mount, root_of, settled, shown-mapped, with_new_groups, without_dead_groups}
use Rattle.vt_mounting.proofs.Common.{CountsItsMounts, CountsItsUses, CountsWhatIsInIt, Grouping, Has, IsCounted, IsHeld, KeepsTo, MountEntry, WorldValue, WritersHaveLayers, all_from_among, all_in_use, among-from_map, among_from_all, counted, counts_from, filesystem_seen, given_permits_leave_every_world, given_to_task, inode_uses, inodes_seen, is_counted_before, layer_count, master_in, mounts_in, mounts_showing, numbers_of, peers_of, sameness_is_an_equivalence, times, world_of}
use Rattle.vt_world.proofs.counting.Lowered.{counted_lowered, counts_there}
use Rattle.vt_group.specs.Grouping.{are_rising}
use Rattle.vt_laws_mounts.specs.LettingGo.Detaching.{with_changed}
use Rattle.vt_laws_mounts.specs.LettingGo.InUse.{GroupsInUse}
use Rattle.vt_laws_mounts.specs.LettingGo.Keeping.{KeepsUses}
use Rattle.vt_laws_mounts.proofs.letting_go.leaving.UsesKept.{types_keep_all}
use Rattle.vt_retype.specs.Retyping.{retyped as retyped_entry}
use Rattle.vt_mounting.proofs.detach.Writers.{left_writers}
use Rattle.vt_mounting.specs.Detach.Events.{Permits, left_by, supply_of}
use Rattle.vt_mounting.proofs.detach.MountsChanged.{times_map}
use Rattle.vt_mounting.proofs.detach.Overlaid.{overlays_counted}
use Rattle.vt_mounting.proofs.detach.Staying.{IsDone, becomes_so}
use Rattle.vt_laws_mounts.proofs.letting_go.SweptBetween.{settled_without_groups}

-- Worlds in which mounts have other types, and groups other masters

regrouped_is : (base : World ℕ) → regrouped nat_eq base ≡ record base {
  mounts = (regrouped nat_eq base).mounts;
  master = (regrouped nat_eq base).master;
}
regrouped_is base = by (list_any (lost_a_group nat_eq base) base.mounts)
  where
    by : (b : Bool) → regrouped_by nat_eq b base
        ≡ record base { mounts = (regrouped_by nat_eq b base).mounts; master = (regrouped_by nat_eq b base).master }
    by true = refl
    by false = refl

module _ (world : World ℕ) (kind : ℕ → Propagation ℕ → Propagation ℕ) (master : ℕ → Option ℕ) where
  abbrev change : Mount ℕ → Mount ℕ
  change mount = record mount { propagation = kind mount.number mount.propagation }

  abbrev other : World ℕ
  other = with_changed world change master

  keeps : KeepsUses change
  keeps = record {
    number = λ mount. refl;
    namespace = λ mount. refl;
    mount_point = λ mount. refl;
    filesystem = λ mount. refl;
    root = λ mount. refl;
  }

  same_points : (mounts : List (Mount ℕ)) → filter_map (λ (mount : Mount ℕ). mount.mount_point) (map change mounts)
      ≡ filter_map (λ (mount : Mount ℕ). mount.mount_point) mounts
  same_points [] = refl
  same_points (mount ∷ rest) = ap (cons_option mount.mount_point) (same_points rest)

  same_located : (filesystem : ℕ) → located_in nat_eq other filesystem ≡ located_in nat_eq world filesystem
  same_located filesystem = λ i. map (λ (location : Location ℕ). location.node)
      (filter (λ (location : Location ℕ). nat_eq filesystem
      (shown-mapped change (λ mount. refl) (λ mount. refl) world.mounts location.mount i))
      (all_locations world ++ map_twice root_of change world.mounts i ++ same_points world.mounts i))

  same_uses : (filesystem : Filesystem ℕ) (number : ℕ)
      → inode_uses other filesystem number ≡ inode_uses world filesystem number
  same_uses filesystem number = λ i. times (nat_eq number) (filesystem.files.tree.root ∷ (named_in filesystem.files
      ++ same_located filesystem.number i ++ layers_in nat_eq world filesystem.number
      ++ flat_map (objects_of_overlay nat_eq filesystem.number) world.filesystems))

  same_showing : (number : ℕ) → mounts_showing other number ≡ mounts_showing world number
  same_showing number = times_map (λ (mount : Mount ℕ). nat_eq number mount.filesystem) change world.mounts

-- The code's world with such mounts and groups

-- The mounts and groups of code are those of the definitions, once these mounts have the type.
pub record IsRetyped (value : WorldValue) (group : ℕ → ℕ) (word : TypeWord) (named : List (Mount ℕ))
    (kind : ℕ → Propagation ℕ → Propagation ℕ) (groups : Grouping) : Type 0 where
  pub whole : IsHeld value
  pub mounts : mounts_in (map (retyped_entry kind) value.mounts)
      ≡ (retyped nat_eq (world_of value) group word named).mounts
  pub has : Has (retyped nat_eq (world_of value) group word named) groups

module _ {value : WorldValue} {group : ℕ → ℕ} {word : TypeWord} {named : List (Mount ℕ)}
    {kind : ℕ → Propagation ℕ → Propagation ℕ} {groups : Grouping}
    (retypes : IsRetyped value group word named kind groups) where
  open retypes use {whole, mounts, has}

  abbrev entries : List MountEntry
  entries = map (retyped_entry kind) value.mounts

  abbrev policy : World ℕ
  policy = retyped nat_eq (world_of value) group word named

  abbrev pub retyped_value : ℕ → WorldValue
  retyped_value next = record value { mounts = map (retyped_entry kind) value.mounts; groups = groups; next = next }

  abbrev now : World ℕ
  now = with_changed (world_of value) (change (world_of value) kind (master_in groups)) (master_in groups)

  -- it is the code's
  now_is : (next : ℕ) → now ≡ world_of (retyped_value next)
  now_is next = λ i. record (world_of value) {
    mounts = (map_twice (change (world_of value) kind (master_in groups))
        (λ (entry : MountEntry). entry.mount) value.mounts
        ∙ sym (map_twice (λ (entry : MountEntry). entry.mount) (retyped_entry kind) value.mounts)) i;
    master = master_in groups;
  }

  -- a group without members has no master
  no_master : (one : ℕ) (b : Bool) → has_members nat_eq policy.mounts one ≡ b → b ≡ false → master_in groups one ≡ None
  no_master one b e f = has.masters one ∙ ap (λ c. cond c (policy.master one) None) (e ∙ f)

  unused : GroupsInUse (world_of (retyped_value value.next))
  unused one none = no_master one (has_members nat_eq policy.mounts one) refl
      (ap (λ list. has_members nat_eq list one) (sym mounts) ∙ none)

  -- nothing goes
  pub types_settled : settled nat_eq (retyped nat_eq (world_of value) group word named)
      ≡ world_of (retyped_value value.next)
  types_settled = sym (settled_without_groups policy)
      ∙ ap (λ world. settled nat_eq (without_dead_groups nat_eq world)) (regrouped_is (record (world_of value) {
        mounts = map (retyped_mount nat_eq group word named) (world_of value).mounts;
        master = with_new_groups nat_eq group (world_of value).master named;
      })) ∙ ap (settled nat_eq) (λ i. record
      (world_of value) { mounts = sym mounts i; master = λ one. sym (has.masters one) i })
      ∙ subst (λ (world : World ℕ). settled nat_eq world ≡ world) (now_is value.next)
      (types_keep_all (world_of value) (change (world_of value) kind (master_in groups)) (master_in groups)
      (all_in_use (world_of value) whole.in_world) (keeps (world_of value) kind (master_in groups))
      (subst GroupsInUse (sym (now_is value.next)) unused))

  now_has : (next : ℕ) → Has (world_of (retyped_value next)) groups
  now_has next = record {
    order = ap (λ list. are_rising (numbers_of list)) mounts ∙ has.order;
    peers = has.peers ∙ ap peers_of (sym mounts);
    masters_order = has.masters_order;
    masters = λ one. by one (has_members nat_eq (mounts_in entries) one) refl;
  }
    where
      by : (one : ℕ) (b : Bool) → has_members nat_eq (mounts_in (map (retyped_entry kind) value.mounts)) one ≡ b
          → master_in groups one ≡ cond b (master_in groups one) None
      by one true e = refl
      by one false e = unused one e

  pub types_held : (next : ℕ) → IsWorld nat_eq (world_of (retyped_value value.next))
      → KeepsTo (is_counted_before next) (world_of (retyped_value value.next))
      → WritersHaveLayers (world_of (retyped_value value.next)) → IsHeld (retyped_value next)
  types_held next is given writers = record {
    in_world = is;
    groups = now_has next;
    given = given;
    mounts = all_from_among (CountsItsUses (world_of (retyped_value next))) entries (λ entry m.
        let from = among-from_map (retyped_entry kind) value.mounts entry m in
        let was = among_from_all (CountsItsUses (world_of value)) value.mounts whole.mounts from.0 from.1 in
        subst (CountsItsUses (world_of (retyped_value next))) (sym from.2)
        (record { uses = was.uses; writers = was.writers }));
    filesystems = all_from_among (CountsItsMounts (world_of (retyped_value next))) value.filesystems (λ entry m.
        let was = among_from_all (CountsItsMounts (world_of value)) value.filesystems whole.filesystems entry m in
        let inodes = counts_there value whole entry m in
        record {
          mounts = subst (λ (world : World ℕ). entry.mounts
              ≡ mounts_showing world (counted entry.count) + layer_count world (counted entry.count)) (now_is next)
              (was.mounts ∙ ap (λ showing. showing + layer_count (world_of value) (counted entry.count))
              (sym (same_showing (world_of value) kind (master_in groups) (counted entry.count))));
          inodes = counted_lowered (world_of (retyped_value next)) is whole.overlays.read_only (filesystem_seen entry)
              (inodes_seen entry) (subst (λ (world : World ℕ). IsCounted world (filesystem_seen entry)
              (inodes_seen entry)) (now_is next) (record {
                root = inodes.root;
                node = inodes.node;
                uses = λ number. inodes.uses number
                    ∙ sym (same_uses (world_of value) kind (master_in groups) (filesystem_seen entry) number);
                count = inodes.count;
                once = inodes.once;
              }));
        });
    own_inodes = whole.own_inodes;
    overlays = record {
      merged = whole.overlays.merged;
      read_only = whole.overlays.read_only;
      writers = writers;
      named = whole.overlays.named;
      overlays_rise = whole.overlays.overlays_rise;
      all_rise = whole.overlays.all_rise;
      mounts = overlays_counted value (retyped_value next) whole.overlays refl (λ number.
          ap (λ (world : World ℕ). mounts_showing world number) (sym (now_is next))
          ∙ same_showing (world_of value) kind (master_in groups) number);
      own_nodes = whole.overlays.own_nodes;
    };
    namespaces = all_from_among (CountsWhatIsInIt (world_of (retyped_value next))) value.namespaces (λ entry m.
        let was = among_from_all (CountsWhatIsInIt (world_of value)) value.namespaces whole.namespaces entry m in
        record { tasks = was.tasks });
  }

-- The event: the numbers of new groups are counts from the next one on.
module _ {value : WorldValue} {name : TaskName} {number : ℕ} {word : TypeWord} {recursive : Bool}
    (permits : Permits value name (ToSetType number word recursive)) where
  abbrev pub named : List (Mount ℕ)
  named = named_mounts nat_eq (world_of value) number recursive

  abbrev pub group : ℕ → ℕ
  group = numbers_by nat_eq (counts_from value.next) (named_mounts nat_eq (world_of value) number recursive)

  module _ {kind : ℕ → Propagation ℕ → Propagation ℕ} {groups : Grouping}
      (retypes : IsRetyped value group word named kind groups) where
    open retypes use {whole}

    abbrev settles : settled nat_eq (retyped nat_eq (world_of value) group word named)
        ≡ world_of (retyped_value retypes value.next)
    settles = types_settled retypes

    pub types_are_set : (next : ℕ) → KeepsTo (is_counted_before next)
        (world_of (retyped_value retypes value.next)) → IsDone value name (ToSetType number word recursive)
        (retyped_value retypes next)
    types_are_set next given = record {
      held = types_held retypes next (subst (IsWorld nat_eq) settles
          (given_permits_leave_every_world (world_of value) (supply_of value (ToSetType number word recursive))
          permits.task (ToSetType number word recursive) whole.in_world
          (given_to_task (supply_of value (ToSetType number word recursive)) (world_of value) permits.task
          (ToSetType number word recursive) permits.given))) given
          (subst WritersHaveLayers settles
          (left_writers value whole permits.task (ToSetType number word recursive) permits.given));
      becomes = becomes_so value name (ToSetType number word recursive)
          (retyped_value retypes next) permits.task permits.called (subst (λ (world : World ℕ). SameWorlds
          (left_by value permits.task (ToSetType number word recursive)) world) settles
          (sameness_is_an_equivalence.itself (left_by value permits.task (ToSetType number word recursive))));
    }
