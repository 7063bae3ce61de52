-- Events of tasks after which the mount of a location that was left goes, and its filesystem with its last mount.
use Rattle.std.proofs.Common.{◌≡◌, refl, sym, ap, subst, ◌∙◌, ⊎_elim, ℕ, ◌+◌, nat_eq, Bool, true, false, cond, not, ◌||◌, List, [], ◌∷◌, ◌++◌, map, filter, is_some, nat_lt, append-nil, arith}
use Rattle.vt_spec.proofs.Common.{Filesystem, Location, Mount, Permit, Task, TaskName, World, all_locations, and_parts, common_steps, folded, is_among, is_located, is_located_well, is_mounted, is_overlay, map_alike, map_twice, mount_numbered, without_dead_filesystems, without_dead_mounts}
use Rattle.vt_mounting.proofs.Common.{Among, CountsItsMounts, CountsItsUses, CountsWhatIsInIt, Exchanges, FilesystemEntry, Filesystems, Inode, IsHeld, IsMountedSoOften, LocationsStand, MountEntry, MountsStand, Shown, Tasks, WorldValue, all_from_among, among-append, among-append_left, among-append_right, among-from_filter, among-from_map, among-map, among_from_all, among_from_list_all, counted, exchanged, exchanges_follow, filesystem_seen, in_use_of, inode_at, inodes_seen, is_mount_used, layer_count, list_all_from_among, located_while_counted, mount_takes_its_count, mount_uses, mounted_layer_count, mounts_in, mounts_of_worlds_stand, mounts_showing, overlays_seen, shown, shown_entry, times, without, without_mount, world_of}
use Rattle.vt_laws_mounts.proofs.counts.using.MountRoots as Roots
use Rattle.vt_mounting.specs.Detach.Uses as meant
use Rattle.vt_mounting.specs.Detach.Uses.{Kept, Merged, kept_of, kept_with}
use Rattle.vt_mounting.proofs.detach.Bridging.{IsSwept}
use Rattle.vt_mounting.proofs.detach.Finishing.{CountsBeside, IsApplied, finished}
use Rattle.vt_mounting.proofs.detach.Grouped.{left_has}
use Rattle.vt_mounting.proofs.detach.Moving.{Moves, Use, entry_counts, exchanged_shown, filesystems_moved, gained_there, held_counts, hold_if, inodes_of_uses, locations, mounts_moved, moved_kept, moved_overlays, nat_eq_turned, release_if, released_counts, uses_moved}
use Rattle.vt_mounting.proofs.detach.Remaining.{remade_with}
use Rattle.vt_mounting.proofs.detach.Staying.{IsDone, after}
use Rattle.vt_mounting.proofs.detach.LayersLeft.{later_shown}
use Rattle.vt_mounting.proofs.detach.LostUses.{positive}
use Rattle.vt_mounting.proofs.detach.LowerLayers.{exchanges_of_lowers, of_lowers}
use Rattle.vt_mounting.proofs.detach.MountsLeave.{IsKeptOf, LeavesOverlays, layers_exchanged, layers_stay, leaves_alike, leaves_at_first, leaves_then, left_counted, left_shown, merged_at_first, numbers_are, overlay_was, overlays_apart, overlays_stay, shown_are, some_at_first}
use Rattle.vt_mounting.proofs.detach.OverlaysGone.{Takes, layers_gone, merged_in}
use Rattle.vt_mounting.proofs.detach.OverlaysKept.{merged_then}
use Rattle.vt_mounting.proofs.detach.OverlaysRemade.{counted_kept, seen_kept}
use Rattle.vt_mounting.proofs.detach.Overlaid.{KeepsOverlays, is_plain_one, keeps_itself, layers_of_fewer, overlay_apart, plain_ones_are, same_files_keep}

-- Lists

pub map_filtered : {A B : Type 0} (f : A → B) (p : A → Bool) (q : B → Bool) → ((a : A) → q (f a) ≡ p a) → (xs : List A)
    → map f (filter p xs) ≡ filter q (map f xs)
map_filtered f p q same [] = refl
map_filtered f p q same (x ∷ xs) = grind (arith, common_steps, map_filtered f p q same xs)

-- A use is left, and its mount goes with it: nothing is on it, and no namespace has it.
pub record GoesWithUse (value : WorldValue) (tasks : Tasks) (more : List Use) (left_use : Use)
    (mounts : List MountEntry) (filesystems : Filesystems) (overlays : List Merged) (mount : Mount ℕ) : Type 0 where
  pub whole : IsHeld value
  pub moves : Moves value tasks more (left_use ∷ [])
  pub found_so : mount_numbered nat_eq (world_of value) left_use.location.mount ≡ mount
  pub there : is_among nat_eq left_use.location.mount (map (λ x. x.number) (world_of value).mounts) ≡ true
  pub nowhere : is_some mount.namespace ≡ false
  pub unused : mount_uses (world_of (after value tasks)) left_use.location.mount ≡ 0
  pub dead : without_dead_mounts nat_eq (world_of (after value tasks))
      ≡ without_mount (world_of (after value tasks)) left_use.location.mount
  pub is_kept : kept_with mounts filesystems overlays ≡ meant.without_mount left_use.location.mount mount
      (moved_kept (world_of value) more (left_use ∷ []) (kept_of value))

module _ {value : WorldValue} {tasks : Tasks} {more : List Use} {left_use : Use} {mounts : List MountEntry}
    {filesystems : Filesystems} {overlays : List Merged} {mount : Mount ℕ}
    (goes : GoesWithUse value tasks more left_use mounts filesystems overlays mount) where
  open goes use {whole, moves, found_so, there, nowhere, unused, dead, is_kept}

  abbrev world : World ℕ
  world = world_of value

  abbrev next : World ℕ
  next = world_of (after value tasks)

  abbrev number : ℕ
  number = left_use.location.mount

  abbrev less : List Use
  less = left_use ∷ []

  abbrev mounted : World ℕ
  mounted = without_mount next number

  abbrev gained : List Inode
  gained = inodes_of_uses world more

  -- what the use leaves, and what goes with the mount
  abbrev lost_first : List Inode
  lost_first = inode_at world left_use.location ∷ []

  abbrev moved_all : Kept
  moved_all = moved_kept world more less (kept_of value)

  abbrev lost_here : List Inode
  lost_here = (mount.filesystem, mount.root) ∷ layers_gone mount.filesystem moved_all.overlays

  abbrev lost : List Inode
  lost = inode_at world left_use.location ∷ lost_here

  abbrev moved_entry : MountEntry → MountEntry
  moved_entry entry = folded release_if (folded hold_if entry more) less

  -- Mounts

  same_mount : (entry : MountEntry) → (moved_entry entry).mount ≡ entry.mount
  same_mount entry = (released_counts less (folded hold_if entry more)).mount ∙ (held_counts more entry).mount

  entries_are : mounts ≡ without number (map moved_entry value.mounts)
  entries_are = ap (λ (k : Kept). k.mounts) is_kept ∙ ap (without number) (mounts_moved world more less (kept_of value))

  pub mounts_are : mounts_in mounts ≡ mounted.mounts
  mounts_are =
      cc (
        entries_are,
        map_filtered (λ (entry : MountEntry). entry.mount) (λ entry. not (nat_eq number
            entry.mount.number)) (λ x. not (nat_eq x.number number)) (λ entry. ap not (nat_eq_turned entry.mount.number
            number)) (map moved_entry value.mounts),
        map_twice (λ (entry : MountEntry). entry.mount) moved_entry
            value.mounts,
        map_alike (λ entry. (moved_entry entry).mount) (λ entry. entry.mount) value.mounts (λ entry m.
            same_mount entry),
      )

  entry_was : (entry : MountEntry) → Among entry mounts
      → (was : MountEntry) × Among was value.mounts × (entry ≡ moved_entry was)
  entry_was entry m = among-from_map moved_entry value.mounts entry
      (among-from_filter (λ (x : MountEntry). not (nat_eq number x.mount.number)) (map moved_entry value.mounts) entry
      (subst (λ all. Among entry all) entries_are m)).0

  -- Filesystems

  leaves_next : LeavesOverlays value next
  leaves_next = leaves_alike world next refl (λ n. refl) (leaves_at_first value whole)

  merged_next : moved_all.overlays ≡ map (merged_in next) (filter is_overlay next.filesystems)
  merged_next = moved_overlays world more less (kept_of value) ∙ merged_at_first value whole

  moved_was : (one : Shown) → Among one moved_all.filesystems → (was : FilesystemEntry) × Among was value.filesystems
      × (one ≡ exchanged_shown gained lost_first (shown_entry was))
  moved_was one m =
      let from = among-from_map (exchanged_shown gained lost_first) (shown value.filesystems) one
      (subst (λ all. Among one all) (filesystems_moved world more less (kept_of value)) m) in
      let first = among-from_map shown_entry value.filesystems from.0 from.1 in
      (first.0, first.1, from.2 ∙ ap (exchanged_shown gained lost_first) first.2)

  taking : Takes next number mount.filesystem
  taking = record {
    showing = λ n. mount_takes_its_count world number n whole.in_world.mounts.one_number there
        ∙ ap (λ (x : Mount ℕ). mounts_showing mounted n + cond (nat_eq n x.filesystem) 1 0) found_so
        ∙ ap (λ b. mounts_showing mounted n + cond b 1 0) (nat_eq_turned n mount.filesystem);
  }

  numbers_next : map (λ (f : Filesystem ℕ). f.number) (filter is_plain_one next.filesystems)
      ≡ map (λ (one : Shown). counted one.count) moved_all.filesystems
  numbers_next =
      cc (
        plain_ones_are value whole.overlays,
        map_twice (λ (f : Filesystem ℕ). f.number) filesystem_seen
            value.filesystems,
        map_twice (λ (one : Shown). counted one.count) shown_entry value.filesystems,
        map_twice (λ
            (one : Shown). counted one.count) (exchanged_shown gained lost_first) (shown value.filesystems),
        filesystems_moved world more less (kept_of value),
      )

  keeping : IsKeptOf value next moved_all.overlays moved_all.filesystems
  keeping = record {
    merged = merged_next;
    each = λ one m. let from = moved_was one m in ap (λ (x : Shown). x.mounts) from.2
        ∙ (among_from_all (CountsItsMounts world) value.filesystems whole.filesystems from.0 from.1).mounts
        ∙ ap (λ (x : Shown). mounts_showing next (counted x.count) + layer_count next (counted x.count)) (sym from.2);
    some = λ one m. let from = moved_was one m in
        ap (λ (x : Shown). nat_eq x.mounts 0) from.2 ∙ some_at_first value whole from.0 from.1;
    apart = λ one m overlay n. let from = moved_was one m in
        cc (from.2, overlay_apart whole from.0 from.1 overlay n);
    numbers = numbers_next;
  }

  abbrev remaining : World ℕ
  remaining = without_dead_filesystems nat_eq mounted

  living_now : in_use_of next ≡ remaining
  living_now = ap (without_dead_filesystems nat_eq) dead

  shown_left : shown filesystems ≡ left_shown whole leaves_next taking mount.root keeping
  shown_left = ap (λ (k : Kept). k.filesystems) is_kept ∙ shown_are whole leaves_next taking mount.root keeping

  overlays_left : overlays ≡ map (merged_in remaining) (filter is_overlay remaining.filesystems)
  overlays_left = ap (λ (k : Kept). k.overlays) is_kept
      ∙ (λ i. meant.merged_left_by mount.filesystem (meant.merged_at mount.filesystem (merged_next i)) (merged_next i))
      ∙ merged_then taking (filter is_overlay next.filesystems) (overlays_apart whole leaves_next)
      (λ overlay m. (overlay_was whole leaves_next overlay m).1)
      ∙ ap (map (merged_in mounted)) (sym (overlays_stay whole leaves_next taking))

  leaves_left : LeavesOverlays value remaining
  leaves_left = leaves_then whole leaves_next taking

  -- an entry comes from one that was moved
  record Comes (entry : FilesystemEntry) : Type 0 where
    was : FilesystemEntry
    among : Among was value.filesystems
    count : entry.count ≡ was.count
    inodes : inodes_seen entry ≡ exchanged (counted was.count) gained lost (inodes_seen was)
    often : entry.mounts ≡ mounts_showing remaining (counted entry.count) + layer_count remaining (counted entry.count)
    some_there : nat_lt 0 (mounts_showing mounted (counted was.count) + mounted_layer_count mounted (counted was.count))
        ≡ true

  comes : (entry : FilesystemEntry) → Among entry filesystems → Comes entry
  comes entry m =
      let from = left_counted whole leaves_next taking mount.root keeping (shown_entry entry)
      (subst (λ all. Among (shown_entry entry) all) shown_left (among-map shown_entry filesystems entry m)) in
      let first = moved_was from.0 from.1 in
      let is : shown_entry entry ≡ later_shown lost_here (exchanged_shown gained lost_first (shown_entry first.0)) =
      from.2 ∙ ap (later_shown lost_here) first.2 in
      let count : entry.count ≡ first.0.count = ap (λ (x : Shown). x.count) is in
      record {
        was = first.0;
        among = first.1;
        count = count;
        inodes = ap (λ (x : Shown). x.inodes) is;
        often = from.3;
        some_there = positive (mounts_showing mounted (counted first.0.count)
            + mounted_layer_count mounted (counted first.0.count)) ∙ ap (λ n. not (nat_eq n 0))
            (ap (λ n. mounts_showing mounted (counted first.0.count) + n)
            (sym (layers_stay whole leaves_next taking (counted first.0.count)))
            ∙ ap (λ n. mounts_showing remaining (counted n) + layer_count remaining (counted n)) (sym count)
            ∙ sym from.3) ∙ ap not from.4;
      }

  keeps_next : KeepsOverlays value next
  keeps_next = same_files_keep value world next refl (keeps_itself value whole.overlays)

  -- Exchanges

  stand : MountsStand next
  stand = let was = mounts_of_worlds_stand world whole.in_world in
      record { one_number = was.one_number; nowhere = was.nowhere; on_attached = was.on_attached }

  located : LocationsStand next
  located = list_all_from_among (λ location. is_among nat_eq location.mount (map (λ x. x.number) next.mounts))
      (all_locations next)
      (λ location m.
      ⊎_elim (λ f. old location (subst (λ all. Among location all) (sym moves.was)
      (among-append_left moves.front (locations less ++ moves.back) location f))) (λ rest. ⊎_elim
      (λ come. (and_parts (is_among nat_eq location.mount (map (λ x. x.number) next.mounts)) _
      (among_from_list_all (is_located_well nat_eq world) (locations more) moves.there location come)).0)
      (λ b. old location (subst (λ all. Among location all) (sym moves.was)
      (among-append_right moves.front (locations less ++ moves.back) location
      (among-append_right (locations less) moves.back location b))))
      (among-append (locations more) moves.back location rest))
      (among-append moves.front (locations more ++ moves.back) location (subst (λ all. Among location all) moves.is m)))
    where
      old : (location : Location ℕ) → Among location (all_locations world)
          → is_among nat_eq location.mount (map (λ x. x.number) next.mounts) ≡ true
      old location m = among_from_list_all
          (λ location. is_among nat_eq location.mount (map (λ x. x.number) world.mounts))
          (all_locations world) (Roots.locations_of_worlds_stand world whole.in_world) location m

  unused_so : is_mount_used next number ≡ false
  unused_so = ap (λ (x : Mount ℕ). is_some x.namespace || is_located nat_eq next number) found_so
      ∙ ap (λ b. b || is_located nat_eq next number) nowhere ∙ located_while_counted next number ∙ ap (nat_lt 0) unused

  exchanges_are : (k : ℕ) → nat_lt 0 (mounts_showing mounted k + mounted_layer_count mounted k) ≡ true
      → ((overlay : Filesystem ℕ) → Among overlay (overlays_seen value.overlays) → nat_eq k overlay.number ≡ false)
      → Exchanges gained lost k (of_lowers world) (of_lowers (in_use_of next))
  exchanges_are k some_there no_overlay =
      let first = exchanges_of_lowers {world = world} {after = next} refl
      (uses_moved value whole tasks more less moves k) in
      let second = exchanges_of_lowers {world = next} {after = mounted} refl
      (subst (λ (x : Mount ℕ). Exchanges [] ((x.filesystem, x.root) ∷ []) k next mounted) found_so
      (Roots.mounts_leave_their_roots next number stand located there unused_so k)) in
      let third = layers_exchanged whole leaves_next taking mount.root keeping k some_there
      (λ overlay m. no_overlay overlay (overlay_was whole leaves_next overlay m).0) in
      let later = exchanges_follow (of_lowers next) (of_lowers mounted) (of_lowers remaining) []
      ((mount.filesystem, mount.root) ∷ []) []
      (layers_gone mount.filesystem moved_all.overlays) k second third in
      let all = exchanges_follow (of_lowers world) (of_lowers next) (of_lowers remaining) gained lost_first []
      lost_here k first later in
      subst (λ (w : World ℕ). Exchanges gained lost k (of_lowers world) (of_lowers w)) (sym living_now)
      (subst (λ all_gained. Exchanges all_gained lost k (of_lowers world) (of_lowers remaining)) (append-nil gained)
      all)

  numbers_left : map (λ (f : Filesystem ℕ). f.number) (filter is_plain_one remaining.filesystems)
      ≡ map (λ (entry : FilesystemEntry). counted entry.count) filesystems
  numbers_left =
      numbers_are whole leaves_next taking mount.root keeping
      ∙ sym (ap (map (λ (one : Shown). counted one.count)) shown_left)
      ∙ map_twice (λ (one : Shown). counted one.count) shown_entry filesystems

  abbrev new : WorldValue
  new = remade_with value mounts filesystems overlays tasks

  -- the overlays are those of before that mounts show still
  seen_left : overlays_seen new.overlays
      ≡ filter (λ overlay. is_mounted nat_eq remaining overlay.number) (overlays_seen value.overlays)
  seen_left = seen_kept whole leaves_left overlays_left

  gone_swept : IsSwept value next gained lost new
  gone_swept = record {
    files = refl;
    midway = keeps_next;
    overlays = seen_left
        ∙ ap (λ (w : World ℕ). filter (λ overlay. is_mounted nat_eq w overlay.number) (overlays_seen value.overlays))
        (sym living_now);
    mounts = ap (λ (one : World ℕ). one.mounts) living_now ∙ sym mounts_are;
    numbers = ap (λ (one : World ℕ). map (λ (f : Filesystem ℕ). f.number) (filter is_plain_one one.filesystems))
        living_now ∙ numbers_left;
    entries = λ entry m. let from = comes entry m in record {
      was = from.was;
      among = from.among;
      count = from.count;
      there = gained_there value whole tasks more less moves from.was from.among;
      inodes = from.inodes;
      exchanges = exchanges_are (counted from.was.count) from.some_there (overlay_apart whole from.was from.among);
    };
    namespaces = refl;
    tasks = refl;
  }

  -- Counts

  gone_counted : ((namespace : ℕ) → times (λ task. nat_eq namespace task.namespace) tasks
      ≡ times (λ task. nat_eq namespace task.namespace) value.tasks) → CountsBeside new
  gone_counted inside = record {
    uses = all_from_among (CountsItsUses (world_of new)) mounts (λ entry m.
        let from = entry_was entry m in
        let counts = subst (CountsItsUses next) (sym from.2)
        (entry_counts value whole tasks more less moves from.0 from.1) in
        record { uses = counts.uses; writers = counts.writers });
    mounts = λ entry m. (comes entry m).often
        ∙ (λ i. times (λ (x : Mount ℕ). nat_eq (counted entry.count) x.filesystem) (sym mounts_are i)
        + sym (layers_of_fewer new whole.overlays (λ overlay. is_mounted nat_eq remaining overlay.number) seen_left
        remaining leaves_left.overlays (counted entry.count)) i);
    overlays = all_from_among (IsMountedSoOften (world_of new)) new.overlays (λ entry m. among_from_all
        (IsMountedSoOften remaining) new.overlays
        (counted_kept whole leaves_left overlays_left) entry m
        ∙ (λ i. times (λ (x : Mount ℕ). nat_eq entry.number x.filesystem) (sym mounts_are i)));
    namespaces = all_from_among (CountsWhatIsInIt (world_of new)) value.namespaces (λ entry m.
        let was = among_from_all (CountsWhatIsInIt world) value.namespaces whole.namespaces entry m in
        record { tasks = was.tasks ∙ sym (inside (counted entry.count)) });
  }

  pub gone_done : {name : TaskName} {permit : Permit ℕ} {task : Task ℕ} → IsApplied value name permit task next
      → ((namespace : ℕ) → times (λ task. nat_eq namespace task.namespace) tasks
      ≡ times (λ task. nat_eq namespace task.namespace) value.tasks) → IsDone value name permit new
  gone_done {name} {permit} {task} is inside =
      finished value whole name permit task next is gained lost new gone_swept (left_has value whole next refl (λ group. refl)) (gone_counted inside) refl
