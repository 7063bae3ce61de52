-- Mounts of a list leave their namespaces one after the other.
use Rattle.std.proofs.Common.{◌≡◌, refl, sym, ap, subst, ◌∙◌, ℕ, nat_eq, Bool, true, false, true≢false, cond, ◌+◌, List, [], ◌∷◌, ◌++◌, map, Option, Some, None, option_map, is_some, unwrap_or, option_and_then, IfSome, option_to_list, map-id, arith}
use Rattle.vt_spec.proofs.Common.{Mount, World, common_steps, detached, folded, map_alike, map_twice, mount_at, mount_in, no_mount}
use Rattle.vt_mounting.proofs.Common.{Among, CountsItsUses, Exchanges, Inode, MountEntry, Shown, WorldValue, all_from_among, among-from_map, among-map, among_from_all, changed, counted, detached_if, entry_numbered, found_in, inode_at, inodes_seen, is_small_node, layer_count, location_of, mounts_in, mounts_showing, number_of, pinned_if, unpinned_if, world_of}
use Rattle.vt_location.specs.declared.locations.Location.{Location}
use Rattle.vt_mounting.specs.Detach.Uses.{Kept, detached_entry, detached_use, inode_of, point_of, unpinned_at, without_attachment}
use Rattle.vt_mounting.proofs.detach.Keeping.{IsKeptBut, IsShownIn, append_three, detached_in, looked_at, points_lost}
use Rattle.vt_mounting.proofs.detach.LowerLayers.{of_lowers}
use Rattle.vt_mounting.proofs.detach.MountsGone.{mount_looked_at}
use Rattle.vt_mounting.proofs.detach.Moving.{nat_eq_turned}
use Rattle.vt_mounting.proofs.detach.Shown.{found_entry}
use Rattle.vt_mounting.proofs.detach.LostUses.{folded_append}

-- Entries of which one is detached

abbrev pub detached_entry_if : ℕ → MountEntry → MountEntry
detached_entry_if number entry = cond (nat_eq number entry.mount.number) (detached_entry entry) entry

same_detached : (number : ℕ) (entry : MountEntry)
    → (detached_entry_if number entry).mount ≡ detached_if number entry.mount
same_detached number entry = grind (arith, common_steps, nat_eq_turned)

pub mounts_detached : (number : ℕ) (entries : List MountEntry)
    → mounts_in (changed number detached_entry entries) ≡ map (detached_if number) (mounts_in entries)
mounts_detached number entries = map_twice (λ (entry : MountEntry). entry.mount) (detached_entry_if number) entries
    ∙ map_alike (λ entry. (detached_entry_if number entry).mount) (λ entry. detached_if number entry.mount) entries
    (λ entry m. same_detached number entry)
    ∙ sym (map_twice (detached_if number) (λ (entry : MountEntry). entry.mount) entries)

-- to detach one first
pub detach_first : (number : ℕ) (pending : List ℕ) (mount : Mount ℕ)
    → detached_in (number ∷ pending) mount ≡ detached_in pending (detached_if number mount)
detach_first number pending mount = grind (arith, common_steps, detached_in)

-- Inodes at mount points

abbrev pub inodes_of_point : Option Location → List Inode
inodes_of_point None = []
inodes_of_point (Some point) = inode_of point.node ∷ []

abbrev pub unpinned_all : List Inode → Shown → Shown
unpinned_all lost one = record one { inodes = folded (unpinned_if (counted one.count)) one.inodes lost }

unpinned_is : (point : Option Location) (all : List Shown)
    → unpinned_at point all ≡ map (unpinned_all (inodes_of_point point)) all
unpinned_is None all = sym (map-id all)
unpinned_is (Some point) all = refl

module _ {old : WorldValue} {number : ℕ} {pending : List ℕ} {gained lost : List Inode} {world : World ℕ} {k : Kept}
    (is : IsKeptBut old (number ∷ pending) (number ∷ pending) gained lost world k) (point : Option Location)
    (point_is : option_map location_of point ≡ point_of number k.mounts)
    (few : IfSome point (λ point. is_small_node point.node ≡ true)) where
  abbrev kept_now : Kept
  kept_now = detached_use number point k

  abbrev more : List Inode
  more = map (inode_at (world_of old)) (option_to_list (mount_in nat_eq (mounts_in k.mounts) number).mount_point)

  placed : (mount_in nat_eq (mounts_in k.mounts) number).mount_point ≡ option_map location_of point
  placed = ap (λ o. (unwrap_or o (no_mount number)).mount_point) (found_entry number k.mounts)
      ∙ by (entry_numbered k.mounts number) ∙ sym point_is
    where
      by : (o : Option MountEntry) → (unwrap_or (option_map (λ entry. entry.mount) o) (no_mount number)).mount_point
          ≡ option_and_then (λ (entry : MountEntry). entry.mount.mount_point) o
      by None = refl
      by (Some entry) = refl

  more_is : more ≡ inodes_of_point point
  more_is = ap (λ o. map (inode_at (world_of old)) (option_to_list o)) placed ∙ by point point_is few
    where
      seen : (one : Location) → (o : Option MountEntry) → entry_numbered k.mounts number ≡ o
          → Some (location_of one) ≡ option_and_then (λ (entry : MountEntry). entry.mount.mount_point) o
          → is_small_node one.node ≡ true
          → (mount_at nat_eq (world_of old) (location_of one)).filesystem ≡ counted one.node.filesystem.count
      seen one None e h small = absurd cc
      seen one (Some entry) e h small = is.points entry.mount (among-map (λ (x : MountEntry). x.mount) k.mounts entry
          (found_in (λ (x : MountEntry). nat_eq number x.mount.number) k.mounts entry e).0) one (sym h) small

      by : (o : Option Location) → option_map location_of o ≡ point_of number k.mounts
          → IfSome o (λ point. is_small_node point.node ≡ true)
          → map (inode_at (world_of old)) (option_to_list (option_map location_of o)) ≡ inodes_of_point o
      by None h small = refl
      by (Some one) h small = λ i. (seen one (entry_numbered k.mounts number) refl h small i, number_of one.node) ∷ []

  shown_now : (new : Shown) → Among new kept_now.filesystems
      → IsShownIn old gained (lost ++ more) (points_lost (world_of old) (mounts_in kept_now.mounts) pending) world new
  shown_now new m =
      let from = among-from_map (unpinned_all (inodes_of_point point)) k.filesystems new
      (subst (λ all. Among new all) (unpinned_is point k.filesystems) m) in
      let was = is.filesystems from.0 from.1 in
      let f = counted was.was.count in
      let count : new.count ≡ from.0.count = ap (λ (x : Shown). x.count) from.2 in
      record {
        was = was.was;
        among = was.among;
        count = count ∙ was.count;
        there = was.there;
        inodes = ap (λ (x : Shown). x.inodes) from.2
            ∙ (λ i. folded (unpinned_if (counted (was.count i))) (was.inodes i) (sym more_is i))
            ∙ sym (folded_append (unpinned_if f) (folded (pinned_if f) (inodes_seen was.was) gained) lost more);
        exchanges = subst (λ all. Exchanges gained all f (of_lowers (world_of old)) (of_lowers world))
            (sym (append_three lost more (points_lost (world_of old)
            (map (detached_if number) (mounts_in k.mounts)) pending))
            ∙ ap (λ mounts. (lost ++ more) ++ points_lost (world_of old) mounts pending)
            (sym (mounts_detached number k.mounts))) was.exchanges;
        mounts = ap (λ (x : Shown). x.mounts) from.2 ∙ was.mounts
            ∙ ap (λ n. mounts_showing world (counted n) + layer_count world (counted n)) (sym count);
      }

  numbers_now : map (λ (one : Shown). counted one.count) k.filesystems
      ≡ map (λ (one : Shown). counted one.count) kept_now.filesystems
  numbers_now =
      sym (map_twice (λ (one : Shown). counted one.count) (unpinned_all (inodes_of_point point)) k.filesystems)
      ∙ ap (map (λ (one : Shown). counted one.count)) (sym (unpinned_is point k.filesystems))

  -- the mount is detached, and not yet looked at
  detached_kept : IsKeptBut old (number ∷ pending) pending gained (lost ++ more) world kept_now
  detached_kept = record {
    held = is.held;
    merged = is.merged;
    mounts = is.mounts
        ∙ map_alike (detached_in (number ∷ pending)) (λ mount. detached_in pending (detached_if number mount))
        (mounts_in k.mounts) (λ mount m. detach_first number pending mount)
        ∙ sym (map_twice (detached_in pending) (detached_if number) (mounts_in k.mounts))
        ∙ ap (map (detached_in pending)) (sym (mounts_detached number k.mounts));
    uses = all_from_among (CountsItsUses world) kept_now.mounts (λ new m.
        let from = among-from_map (detached_entry_if number) k.mounts new m in
        subst (CountsItsUses world) (sym from.2) (counted_still from.0 (nat_eq number from.0.mount.number)
        (among_from_all (CountsItsUses world) k.mounts is.uses from.0 from.1)));
    numbers = is.numbers ∙ numbers_now;
    filesystems = shown_now;
    stand = is.stand;
    located = is.located;
    in_use = is.in_use;
    mounted = is.mounted;
    leaves = is.leaves;
    points = λ mount m one p small.
        let from = among-from_map (detached_if number) (mounts_in k.mounts) mount
        (subst (λ all. Among mount all) (mounts_detached number k.mounts) m) in
        is.points from.0 from.1 one
        (pointed from.0 one (nat_eq from.0.number number) (ap (λ (x : Mount ℕ). x.mount_point) (sym from.2) ∙ p)) small;
    places = is.places;
  }
    where
      counted_still : (entry : MountEntry) (b : Bool) → CountsItsUses world entry
          → CountsItsUses world (cond b (detached_entry entry) entry)
      counted_still entry true counts = record { uses = counts.uses; writers = counts.writers }
      counted_still entry false counts = counts

      pointed : (mount : Mount ℕ) (one : Location) (b : Bool)
          → (cond b (detached mount) mount).mount_point ≡ Some (location_of one)
          → mount.mount_point ≡ Some (location_of one)
      pointed mount one true h = absurd cc
      pointed mount one false h = h

  apart : (entry : MountEntry) → entry_numbered kept_now.mounts number ≡ Some entry
      → (is_some entry.mount.namespace ≡ false) × (entry.mount.mount_point ≡ None)
  apart entry e =
      let found = found_in (λ (x : MountEntry). nat_eq number x.mount.number) kept_now.mounts entry e in
      let from = among-from_map (detached_entry_if number) k.mounts entry found.0 in
      by from.0 (nat_eq number from.0.mount.number) refl from.2 found.1
    where
      by : (was : MountEntry) (b : Bool) → nat_eq number was.mount.number ≡ b → entry ≡ cond b (detached_entry was) was
          → nat_eq number entry.mount.number ≡ true
          → (is_some entry.mount.namespace ≡ false) × (entry.mount.mount_point ≡ None)
      by was true f same numbered = (
        ap (λ (x : MountEntry). is_some x.mount.namespace) same,
        ap (λ (x : MountEntry). x.mount.mount_point) same,
      )
      by was false f same numbered = absurd
          (true≢false (sym numbered ∙ ap (λ (x : MountEntry). nat_eq number x.mount.number) same ∙ f))

  -- One mount of those that are pending is detached, and goes if nothing is on it.
  pub one_detached : (now : List Inode)
      × IsKeptBut old pending pending gained now (looked_at world number) (without_attachment number point k)
  one_detached = mount_looked_at detached_kept apart

-- Mounts are being detached: these are pending, and this world is left at the end.
pub record IsDetaching (old : WorldValue) (gained : List Inode) (last : World ℕ) (pending : List ℕ)
    (k : Kept) : Type 0 where
  pub lost : List Inode
  pub world : World ℕ
  pub is : IsKeptBut old pending pending gained lost world k
  pub ends : folded looked_at world pending ≡ last

pub detaching_on : {old : WorldValue} {gained : List Inode} {last : World ℕ} {number : ℕ} {pending : List ℕ} {k : Kept}
    (point : Option Location)
    → IsDetaching old gained last (number ∷ pending) k → option_map location_of point ≡ point_of number k.mounts
    → IfSome point (λ point. is_small_node point.node ≡ true)
    → IsDetaching old gained last pending (without_attachment number point k)
detaching_on {old} {gained} {number} {pending} {k} point detaching point_is few =
    let one = one_detached detaching.is point point_is few in
    record { lost = one.0; world = looked_at detaching.world number; is = one.1; ends = detaching.ends }
