-- The steps by which tasks leave uses and namespaces, and the world after the last of them.
use Rattle.std.proofs.Common.{◌≡◌, refl, sym, ap, subst, ◌∙◌, ℕ, ◌+◌, nat_eq, Bool, true, false, true≢false, cond, not, ◌&&◌, ◌||◌, List, [], ◌∷◌, ◌++◌, map, filter, flat_map, Option, Some, is_some, arith, All, append-nil}
use Rattle.vt_spec.proofs.Common.{Filesystem, Location, Mount, Task, World, detached, filesystem_lives, folded, is_located, is_mounted, is_overlay, map_twice, mount_lives, without_changes, without_dead_filesystems, without_dead_mounts}
use Rattle.vt_mounting.proofs.Common.{Among, CountsItsUses, CountsWhatIsInIt, Exchanges, FilesystemEntry, Inode, IsMountedSoOften, MountEntry, Shown, WorldValue, all_from_among, among-filter, among-from_map, among-map, among_from_all, counted, filter_all, in_use_of, inode_at, inodes_of_mount_point, layer_count, located_while_counted, map_same, mount_uses, mounts_in, mounts_showing, overlays_seen, shown_entry, world_of, writes_of}
use Rattle.vt_laws_mounts.proofs.letting_go.Lists.{flat_map_none}
use Rattle.vt_location.specs.declared.locations.Location.{Location as Place}
use Rattle.vt_mounting.specs.Detach.NamespacesLeft.{AreDetached, Detached}
use Rattle.vt_mounting.specs.Detach.Uses.{Kept, Merged, kept_with, overlays_kept, without_attachment, without_use}
use Rattle.vt_mounting.proofs.detach.Bridging.{IsSwept}
use Rattle.vt_mounting.proofs.detach.Finishing.{CountsBeside}
use Rattle.vt_mounting.proofs.detach.Midway.{IsGoing, MayLeave, Midway, Reached, gone_if, left_alone, mount_taken, point_left, points_left, taken_alone, use_left}
use Rattle.vt_mounting.proofs.detach.MidwayGoes.{mount_looked_at}
use Rattle.vt_mounting.proofs.detach.MountsLeave.{counted_lives, overlay_lives_still}
use Rattle.vt_mounting.proofs.detach.Moving.{Use, inodes_of_uses}
use Rattle.vt_mounting.proofs.detach.LostUses.{positive}
use Rattle.vt_mounting.proofs.detach.LowerLayers.{of_lowers}
use Rattle.vt_mounting.proofs.detach.Overlaid.{is_plain_one, keeps_itself, layers_of_fewer, same_files_keep}
use Rattle.vt_mounting.proofs.detach.OverlaysGone.{merged_in}
use Rattle.vt_mounting.proofs.detach.OverlaysRemade.{counted_kept, seen_kept}

-- one use less of a location of a world, as code leaves it
abbrev pub leave_use : World ℕ → Kept → Use → Kept
leave_use world k u = without_use u.location.mount (inode_at world u.location) u.writes k

module _ {value : WorldValue} {start : World ℕ} {gained : List Inode} {goes : Mount ℕ → Bool}
    (may : MayLeave value goes) where
  pub leaves_one : {u : Use} {left : List Use} {k : Kept} → Reached value start gained goes (u ∷ left) k
      → Reached value start gained goes left (leave_use (world_of value) k u)
  leaves_one {u} at = mount_looked_at may u.location.mount (use_left may at.midway) (left_alone may at.midway at.none)

  pub leaves_all : (left : List Use) (k : Kept) → Reached value start gained goes left k
      → Reached value start gained goes [] (folded (leave_use (world_of value)) k left)
  leaves_all [] k at = at
  leaves_all (u ∷ left) k at = leaves_all left (leave_use (world_of value) k u) (leaves_one at)

  pub detaches_one : {number : ℕ} {point : Option Place} {entry : MountEntry} {left : List Use} {k : Kept}
      → IsGoing goes k number point entry → Reached value start gained goes left k
      → Reached value start gained goes left (without_attachment number point k)
  detaches_one {number} going at =
      mount_looked_at may number (mount_taken may at.midway going) (taken_alone may at.midway going at.none)

  -- the mounts of a namespace, one after the other
  pub detaches_all : (namespace : ℕ) → ((mount : Mount ℕ) → mount.namespace ≡ Some namespace → goes mount ≡ true)
      → (gone : List Detached) {left : List Use} {k : Kept} (new : Kept) → AreDetached namespace gone k new
      → Reached value start gained goes left k → Reached value start gained goes left new
  detaches_all namespace its [] {left} new same at = subst (Reached value start gained goes left) (sym same) at
  detaches_all namespace its (one ∷ rest) {left} {k} new are at =
      let is = are.0 in
      detaches_all namespace its rest {left = left} {k = without_attachment one.number one.point k} new are.1
      (detaches_one (record {
        found = is.found;
        goes_so = its is.entry.mount is.inside;
        point_is = is.point;
        small = is.slot;
      }) at)

-- When nothing is left to do, code has what the sweep leaves.
pub record HasReached (value : WorldValue) (start : World ℕ) (gained : List Inode) (goes : Mount ℕ → Bool)
    (new : WorldValue) (overlays : List Merged) : Type 0 where
  pub at : Reached value start gained goes [] (kept_with new.mounts new.filesystems overlays)
  pub all_gone : (entry : MountEntry) → Among entry new.mounts → goes entry.mount ≡ false
  pub same_tasks : start.tasks ≡ new.tasks
  pub same_overlays : new.overlays ≡ overlays_kept overlays value.overlays

module _ {value : WorldValue} {start : World ℕ} {gained : List Inode} {goes : Mount ℕ → Bool} {new : WorldValue}
    {overlays : List Merged} (reached : HasReached value start gained goes new overlays) where
  open reached use {at, all_gone, same_tasks, same_overlays}

  abbrev k : Kept
  k = kept_with new.mounts new.filesystems overlays

  abbrev now : World ℕ
  now = at.now

  abbrev mid : Midway value start gained goes [] now k at.lost
  mid = at.midway

  mounts_are : now.mounts ≡ mounts_in new.mounts
  mounts_are =
      cc (
        mid.mounts,
        map_same (gone_if goes) (mounts_in k.mounts) (λ x m. let from = among-from_map (λ (e :
            MountEntry). e.mount) k.mounts x m in ap (λ b. cond b (detached x) x) (ap goes from.2 ∙ all_gone from.0 from.1)),
      )

  tasks_are : now.tasks ≡ new.tasks
  tasks_are = ap (λ (w : World ℕ). w.tasks) mid.same ∙ same_tasks

  abbrev rest_lost : List Inode
  rest_lost = at.lost ++ (inodes_of_uses (world_of value) [] ++ points_left (world_of value) goes k.mounts)

  nothing_rests : rest_lost ≡ at.lost
  nothing_rests = ap (λ points. at.lost ++ points)
      (flat_map_none (point_left (world_of value) goes) (mounts_in k.mounts)
      (λ x m. let from = among-from_map (λ (e : MountEntry). e.mount) k.mounts x m in
      ap (λ b. cond b (inodes_of_mount_point (world_of value) x) []) (ap goes from.2 ∙ all_gone from.0 from.1)))
      ∙ append-nil at.lost

  -- all is in use
  mount_is_used : (x : Mount ℕ) → Among x now.mounts → mount_lives nat_eq now x ≡ true
  mount_is_used x m =
      let from = among-from_map (gone_if goes) (mounts_in k.mounts) x (subst (λ all. Among x all) mid.mounts m) in
      let entry = among-from_map (λ (e : MountEntry). e.mount) k.mounts from.0 from.1 in
      let is : x ≡ entry.0.mount = from.2 ∙ ap (gone_if goes) entry.2
      ∙ ap (λ b. cond b (detached entry.0.mount) entry.0.mount) (all_gone entry.0 entry.1) in
      ap (mount_lives nat_eq now) is ∙ lives entry.0 entry.1
    where
      lives : (entry : MountEntry) → Among entry k.mounts
          → (is_some entry.mount.namespace || is_located nat_eq now entry.mount.number) ≡ true
      lives entry m = by (is_some entry.mount.namespace) (nat_eq entry.uses 0) refl (at.none entry m)
        where
          by : (b c : Bool) → nat_eq entry.uses 0 ≡ c → (not b && c) ≡ false
              → (b || is_located nat_eq now entry.mount.number) ≡ true
          by true c e f = refl
          by false true e f = absurd (true≢false f)
          by false false e f =
              let counts = mid.uses entry m in
              let same : entry.uses ≡ mount_uses now entry.mount.number = omega (arith, counts) in
              cc (located_while_counted now entry.mount.number, positive (mount_uses now entry.mount.number))

  filesystem_is_used : (f : Filesystem ℕ) → Among f now.filesystems → filesystem_lives nat_eq now f ≡ true
  filesystem_is_used f m = by (is_overlay f) refl
    where
      by : (b : Bool) → is_overlay f ≡ b → filesystem_lives nat_eq now f ≡ true
      by true e = overlay_lives_still mid.held mid.leaves f m e
      by false e =
          let from = among-from_map (λ (one : Shown). counted one.count) k.filesystems f.number
          (subst (λ all. Among f.number all) mid.numbers
          (among-map (λ (x : Filesystem ℕ). x.number) (filter is_plain_one now.filesystems) f
          (among-filter is_plain_one now.filesystems f m (ap not e)))) in
          let is = mid.shown from.0 from.1 in
          counted_lives mid.held mid.leaves f
          (positive (mounts_showing now f.number + layer_count now f.number) ∙ ap (λ n. not (nat_eq n 0))
          (ap (λ n. mounts_showing now n + layer_count now n) from.2 ∙ sym is.mounts) ∙ ap not is.mounted)

  merged_now : overlays ≡ map (merged_in now) (filter is_overlay now.filesystems)
  merged_now = mid.merged

  -- the overlays are those of before that mounts show still
  overlays_left : overlays_seen new.overlays
      ≡ filter (λ overlay. is_mounted nat_eq now overlay.number) (overlays_seen value.overlays)
  overlays_left = ap overlays_seen same_overlays ∙ seen_kept mid.held mid.leaves merged_now

  living_is : in_use_of start ≡ now
  living_is = sym mid.same ∙ ap (without_dead_filesystems nat_eq) still ∙ (λ i. record now {
    filesystems = filter_all (filesystem_lives nat_eq now) now.filesystems filesystem_is_used i;
  })
    where
      still : without_dead_mounts nat_eq now ≡ now
      still = λ i. record now { mounts = filter_all (mount_lives nat_eq now) now.mounts mount_is_used i }

  shown_of : (entry : FilesystemEntry) → Among entry new.filesystems → Among (shown_entry entry) k.filesystems
  shown_of entry m = among-map shown_entry new.filesystems entry m

  pub reached_swept : start.filesystems ≡ (world_of value).filesystems
      → (without_changes start).namespaces ≡ (without_changes (world_of new)).namespaces
      → IsSwept value start gained at.lost new
  reached_swept files namespaces = record {
    files = files;
    midway = same_files_keep value (world_of value) start files (keeps_itself value mid.held.overlays);
    overlays = overlays_left
        ∙ ap (λ (w : World ℕ). filter (λ overlay. is_mounted nat_eq w overlay.number) (overlays_seen value.overlays))
        (sym living_is);
    mounts = ap (λ (w : World ℕ). w.mounts) living_is ∙ mounts_are;
    numbers = ap (λ (w : World ℕ). map (λ (f : Filesystem ℕ). f.number) (filter is_plain_one w.filesystems)) living_is
        ∙ mid.numbers ∙ map_twice (λ (x : Shown). counted x.count) shown_entry new.filesystems;
    entries = λ entry m. let is = mid.shown (shown_entry entry) (shown_of entry m) in record {
      was = is.was;
      among = is.among;
      count = is.count;
      there = is.there;
      inodes = is.inodes;
      exchanges = subst (λ count. Exchanges gained at.lost (counted count) (of_lowers (world_of value))
          (of_lowers (in_use_of start))) is.count
          (subst (λ w. Exchanges gained at.lost (counted entry.count) (of_lowers (world_of value)) (of_lowers w))
          (sym living_is) (subst (λ lost. Exchanges gained lost (counted entry.count) (of_lowers (world_of value))
          (of_lowers now)) nothing_rests
          (mid.exchanges (shown_entry entry) (shown_of entry m))));
    };
    namespaces = namespaces;
    tasks = ap (map (λ (task : Task ℕ). record task { change = 0 })) same_tasks;
  }

  pub reached_counted : All (CountsWhatIsInIt (world_of new)) new.namespaces → CountsBeside new
  reached_counted namespaces = record {
    uses = all_from_among (CountsItsUses (world_of new)) new.mounts (λ entry m.
        let uses = mid.uses entry m in
        let writers = mid.writers entry m in
        let all : entry.uses ≡ mount_uses now entry.mount.number = omega (arith, uses) in
        let written : entry.writers ≡ writes_of entry.mount.number now.tasks = omega (arith, writers) in
        record {
          uses = all ∙ ap (λ tasks. Rattle.vt_laws_mounts.specs.LettingGo.Counts.times
              (λ (location : Location ℕ). nat_eq entry.mount.number location.mount)
              (flat_map Rattle.vt_spec.specs.Machine.World.locations_of tasks)) tasks_are;
          writers = written ∙ ap (writes_of entry.mount.number) tasks_are;
        });
    mounts = λ entry m. let is = mid.shown (shown_entry entry) (shown_of entry m) in
        is.mounts ∙ (λ i. Rattle.vt_laws_mounts.specs.LettingGo.Counts.times
        (λ (x : Mount ℕ). nat_eq (counted entry.count) x.filesystem) (mounts_are i)
        + sym (layers_of_fewer new mid.held.overlays (λ overlay. is_mounted nat_eq now overlay.number) overlays_left
        now mid.leaves.overlays (counted entry.count)) i);
    overlays = all_from_among (IsMountedSoOften (world_of new)) new.overlays (λ entry m. among_from_all
        (IsMountedSoOften now) (overlays_kept overlays value.overlays)
        (counted_kept mid.held mid.leaves merged_now) entry
        (subst (λ all. Among entry all) same_overlays m) ∙ (λ i. Rattle.vt_laws_mounts.specs.LettingGo.Counts.times
        (λ (x : Mount ℕ). nat_eq entry.number x.filesystem) (mounts_are i)));
    namespaces = namespaces;
  }
