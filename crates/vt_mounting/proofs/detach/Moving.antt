-- Locations that tasks come to and leave: what code counts then.
use Rattle.std.proofs.Common.{◌≡◌, refl, sym, ap, subst, ◌∙◌, ⊎_elim, ℕ, ◌+◌, ◌-◌, nat_eq, eqb-true, eq-eqb, Bool, true, false, cond, not, ◌&&◌, ◌||◌, List, [], ◌∷◌, ◌++◌, map, Option, Some, None, is_some, arith, map-id}
use Rattle.vt_spec.proofs.Common.{Filesystem, Location, Mount, World, all_locations, and_parts, common_steps, filesystem_numbered, folded, is_located_well, is_there, list_all, map_alike, map_twice, mount_at, node_in, same_location}
use Rattle.vt_spec.specs.Inodes as Trees
use Rattle.vt_mounting.proofs.Common.{Among, AreThere, CountsItsUses, Exchanges, FilesystemEntry, Inode, IsHeld, MountEntry, Shown, Tasks, WorldValue, among-append, among-append_left, among-append_right, among-from_map, among-map, among_from_all, among_from_list_all, any_from_among, counted, exchanged, held, inode_at, inodes_seen, list_all_from_among, locations_use_mounts, mount_uses, mounts_in, or_left, or_right, pinned_if, released, times, unpinned_if, world_of, writes_of}
use Rattle.vt_laws_mounts.proofs.counts.using.Places.{locations_are_uses}
use Rattle.vt_laws_mounts.specs.LettingGo.Leaving.{is_location_among, only_these_are_left}
pub use Rattle.vt_spec.proofs.Truths.{nat_eq_turned}
use Rattle.vt_mounting.specs.Detach.Uses.{Kept, released_use, with_use}
use Rattle.vt_mounting.proofs.detach.Overlaid.{found_plain_one}
use Rattle.vt_mounting.proofs.detach.Staying.{after}

-- a location, and whether it is a file open for writing
pub record Use : Type 0 where
  pub location : Location ℕ
  pub writes : Bool

abbrev pub locations : List Use → List (Location ℕ)
locations uses = map (λ (held_use : Use). held_use.location) uses

abbrev pub is_use_on : ℕ → Use → Bool
is_use_on mount held_use = nat_eq mount held_use.location.mount

abbrev pub writes_on_mount : ℕ → Use → Bool
writes_on_mount mount held_use = held_use.writes && nat_eq mount held_use.location.mount

abbrev pub gain : World ℕ → Kept → Use → Kept
gain world k held_use = with_use held_use.location.mount (inode_at world held_use.location) held_use.writes k

abbrev pub lose : World ℕ → Kept → Use → Kept
lose world k held_use = released_use held_use.location.mount (inode_at world held_use.location) held_use.writes k

-- Mounts

abbrev pub hold_if : MountEntry → Use → MountEntry
hold_if entry held_use = cond (nat_eq held_use.location.mount entry.mount.number) (held held_use.writes entry) entry

abbrev pub release_if : MountEntry → Use → MountEntry
release_if entry held_use = cond (nat_eq held_use.location.mount entry.mount.number)
    (released held_use.writes entry) entry

pub mounts_gained : (world : World ℕ) (uses : List Use) (k : Kept)
    → (folded (gain world) k uses).mounts ≡ map (λ entry. folded hold_if entry uses) k.mounts
mounts_gained world [] k = sym (map-id k.mounts)
mounts_gained world (held_use ∷ uses) k = mounts_gained world uses (gain world k held_use)
    ∙ map_twice (λ entry. folded hold_if entry uses) (λ entry. hold_if entry held_use) k.mounts

pub mounts_lost : (world : World ℕ) (uses : List Use) (k : Kept)
    → (folded (lose world) k uses).mounts ≡ map (λ entry. folded release_if entry uses) k.mounts
mounts_lost world [] k = sym (map-id k.mounts)
mounts_lost world (held_use ∷ uses) k = mounts_lost world uses (lose world k held_use)
    ∙ map_twice (λ entry. folded release_if entry uses) (λ entry. release_if entry held_use) k.mounts

-- an entry with more uses, and with less
pub record HasMore (more : List Use) (entry new : MountEntry) : Type 0 where
  pub mount : new.mount ≡ entry.mount
  pub uses : new.uses ≡ entry.uses + times (is_use_on entry.mount.number) more
  pub writers : new.writers ≡ entry.writers + times (writes_on_mount entry.mount.number) more

pub record HasLess (less : List Use) (entry new : MountEntry) : Type 0 where
  pub mount : new.mount ≡ entry.mount
  pub uses : new.uses ≡ entry.uses - times (is_use_on entry.mount.number) less
  pub writers : new.writers ≡ entry.writers - times (writes_on_mount entry.mount.number) less

held_one : (entry : MountEntry) (b w : Bool) → ((cond b (held w entry) entry).mount ≡ entry.mount)
    × ((cond b (held w entry) entry).uses ≡ entry.uses + cond b 1 0)
    × ((cond b (held w entry) entry).writers ≡ entry.writers + cond (w && b) 1 0)
held_one entry true true = (refl, refl, refl)
held_one entry true false = (refl, refl, refl)
held_one entry false true = (refl, omega arith, omega arith)
held_one entry false false = (refl, omega arith, omega arith)

released_one : (entry : MountEntry) (b w : Bool) → ((cond b (released w entry) entry).mount ≡ entry.mount)
    × ((cond b (released w entry) entry).uses ≡ entry.uses - cond b 1 0)
    × ((cond b (released w entry) entry).writers ≡ entry.writers - cond (w && b) 1 0)
released_one entry true true = (refl, refl, refl)
released_one entry true false = (refl, refl, refl)
released_one entry false true = (refl, omega arith, omega arith)
released_one entry false false = (refl, omega arith, omega arith)

pub held_counts : (uses : List Use) (entry : MountEntry) → HasMore uses entry (folded hold_if entry uses)
held_counts [] entry = record { mount = refl; uses = omega arith; writers = omega arith }
held_counts (held_use ∷ uses) entry = grind (arith, common_steps, held_counts uses, nat_eq_turned)

pub released_counts : (uses : List Use) (entry : MountEntry) → HasLess uses entry (folded release_if entry uses)
released_counts [] entry = record { mount = refl; uses = omega arith; writers = omega arith }
released_counts (held_use ∷ uses) entry =
    let first = released_one entry (nat_eq held_use.location.mount entry.mount.number) held_use.writes in
    let turned = nat_eq_turned held_use.location.mount entry.mount.number in
    let rest = released_counts uses (release_if entry held_use) in
    let one : (release_if entry held_use).uses ≡ entry.uses - cond (is_use_on entry.mount.number held_use) 1 0 = first.1
    ∙ ap (λ b. entry.uses - cond b 1 0) turned in
    let two : (release_if entry held_use).writers
    ≡ entry.writers - cond (writes_on_mount entry.mount.number held_use) 1 0 = first.2
    ∙ ap (λ b. entry.writers - cond (held_use.writes && b) 1 0) turned in
    let later : (folded release_if (release_if entry held_use) uses).uses
    ≡ (release_if entry held_use).uses - times (is_use_on entry.mount.number) uses =
    rest.uses ∙ ap (λ (m : Mount ℕ). (release_if entry held_use).uses - times (is_use_on m.number) uses) first.0 in
    let last : (folded release_if (release_if entry held_use) uses).writers
    ≡ (release_if entry held_use).writers - times (writes_on_mount entry.mount.number) uses =
    rest.writers ∙ ap (λ (m : Mount ℕ). (release_if entry held_use).writers - times
    (writes_on_mount m.number) uses) first.0 in
    record { mount = rest.mount ∙ first.0; uses = omega (arith, one, later); writers = omega (arith, two, last) }

-- Filesystems

abbrev pub inodes_of_uses : World ℕ → List Use → List Inode
inodes_of_uses world uses = map (λ (held_use : Use). inode_at world held_use.location) uses

abbrev pub exchanged_shown : List Inode → List Inode → Shown → Shown
exchanged_shown gained lost one = record one { inodes = exchanged (counted one.count) gained lost one.inodes }

pub filesystems_gained : (world : World ℕ) (uses : List Use) (k : Kept) → (folded (gain world) k uses).filesystems
    ≡ map (λ (one : Shown). record one {
      inodes = folded (pinned_if (counted one.count)) one.inodes (inodes_of_uses world uses);
    }) k.filesystems
filesystems_gained world [] k = sym (map-id k.filesystems)
filesystems_gained world (held_use ∷ uses) k = filesystems_gained world uses (gain world k held_use)
    ∙ map_twice (λ (one : Shown). record one {
      inodes = folded (pinned_if (counted one.count)) one.inodes (inodes_of_uses world uses);
    }) (λ (one : Shown). record one {
      inodes = pinned_if (counted one.count) one.inodes (inode_at world held_use.location);
    }) k.filesystems

pub filesystems_lost : (world : World ℕ) (uses : List Use) (k : Kept) → (folded (lose world) k uses).filesystems
    ≡ map (λ (one : Shown). record one {
      inodes = folded (unpinned_if (counted one.count)) one.inodes (inodes_of_uses world uses);
    }) k.filesystems
filesystems_lost world [] k = sym (map-id k.filesystems)
filesystems_lost world (held_use ∷ uses) k = filesystems_lost world uses (lose world k held_use)
    ∙ map_twice (λ (one : Shown). record one {
      inodes = folded (unpinned_if (counted one.count)) one.inodes (inodes_of_uses world uses);
    }) (λ (one : Shown). record one {
      inodes = unpinned_if (counted one.count) one.inodes (inode_at world held_use.location);
    }) k.filesystems

-- what is gained and lost
-- overlays stay as they are kept
pub gained_overlays : (world : World ℕ) (uses : List Use) (k : Kept)
    → (folded (gain world) k uses).overlays ≡ k.overlays
gained_overlays world [] k = refl
gained_overlays world (u ∷ uses) k = gained_overlays world uses (gain world k u)

lost_overlays : (world : World ℕ) (uses : List Use) (k : Kept) → (folded (lose world) k uses).overlays ≡ k.overlays
lost_overlays world [] k = refl
lost_overlays world (u ∷ uses) k = lost_overlays world uses (lose world k u)

abbrev pub moved_kept : World ℕ → List Use → List Use → Kept → Kept
moved_kept world more less k = folded (lose world) (folded (gain world) k more) less

pub moved_overlays : (world : World ℕ) (more less : List Use) (k : Kept)
    → (moved_kept world more less k).overlays ≡ k.overlays
moved_overlays world more less k = lost_overlays world less (folded (gain world) k more) ∙ gained_overlays world more k

pub filesystems_moved : (world : World ℕ) (more less : List Use) (k : Kept) → (moved_kept world more less k).filesystems
    ≡ map (exchanged_shown (inodes_of_uses world more) (inodes_of_uses world less)) k.filesystems
filesystems_moved world more less k = filesystems_lost world less (folded (gain world) k more)
    ∙ ap (map (λ (one : Shown). record one {
      inodes = folded (unpinned_if (counted one.count)) one.inodes (inodes_of_uses world less);
    })) (filesystems_gained world more k) ∙ map_twice (λ (one : Shown). record one {
      inodes = folded (unpinned_if (counted one.count)) one.inodes (inodes_of_uses world less);
    }) (λ (one : Shown). record one {
      inodes = folded (pinned_if (counted one.count)) one.inodes (inodes_of_uses world more);
    }) k.filesystems

pub mounts_moved : (world : World ℕ) (more less : List Use) (k : Kept)
    → (moved_kept world more less k).mounts ≡ map (λ entry. folded release_if (folded hold_if entry more) less) k.mounts
mounts_moved world more less k = mounts_lost world less (folded (gain world) k more)
    ∙ ap (map (λ entry. folded release_if entry less)) (mounts_gained world more k)
    ∙ map_twice (λ entry. folded release_if entry less) (λ entry. folded hold_if entry more) k.mounts

-- Tasks that come to locations and leave others

pub record Moves (value : WorldValue) (tasks : Tasks) (more less : List Use) : Type 0 where
  pub front : List (Location ℕ)
  pub back : List (Location ℕ)
  pub was : all_locations (world_of value) ≡ front ++ (locations less ++ back)
  pub is : all_locations (world_of (after value tasks)) ≡ front ++ (locations more ++ back)
  pub there : list_all (is_located_well nat_eq (world_of value)) (locations more) ≡ true
  pub writes : (mount : ℕ) → writes_of mount value.tasks + times (writes_on_mount mount) more
      ≡ writes_of mount tasks + times (writes_on_mount mount) less

pub times_mapped : (mount : ℕ) (uses : List Use)
    → times (λ location. nat_eq mount location.mount) (locations uses) ≡ times (is_use_on mount) uses
times_mapped mount [] = refl
times_mapped mount (held_use ∷ uses) = ap (λ rest. cond (is_use_on mount held_use) 1 0 + rest) (times_mapped mount uses)

module _ (value : WorldValue) (whole : IsHeld value) (tasks : Tasks) (more less : List Use)
    (moves : Moves value tasks more less) where
  abbrev world : World ℕ
  world = world_of value

  abbrev next : World ℕ
  next = world_of (after value tasks)

  -- what was left was left
  pub only_left : only_these_are_left world tasks (locations less) ≡ true
  only_left = list_all_from_among (λ location. is_location_among (all_locations next) location
      || is_location_among (locations less) location) (all_locations world) (λ location m. ⊎_elim
      (λ f. still location (among-append_left moves.front (locations more ++ moves.back) location f)) (λ rest. ⊎_elim
      (λ gone. or_right (is_location_among (all_locations next) location) _ (found (locations less) location gone))
      (λ b. still location (among-append_right moves.front (locations more ++ moves.back) location
      (among-append_right (locations more) moves.back location b)))
      (among-append (locations less) moves.back location rest))
      (among-append moves.front (locations less ++ moves.back) location
      (subst (λ all. Among location all) moves.was m)))
    where
      found : (all : List (Location ℕ)) (location : Location ℕ) → Among location all
          → is_location_among all location ≡ true
      found all location m = any_from_among (same_location nat_eq location) all location m
          (λ i. eq-eqb location.mount location.mount refl i && eq-eqb location.node location.node refl i)

      still : (location : Location ℕ) → Among location (moves.front ++ (locations more ++ moves.back))
          → (is_location_among (all_locations next) location || is_location_among (locations less) location) ≡ true
      still location m = or_left _ _
          (found (all_locations next) location (subst (λ all. Among location all) (sym moves.is) m))

  -- the counts of an entry once the tasks are there
  pub entry_counts : (entry : MountEntry) → Among entry value.mounts
      → CountsItsUses next (folded release_if (folded hold_if entry more) less)
  entry_counts entry m =
      let was = among_from_all (CountsItsUses world) value.mounts whole.mounts entry m in
      let gained = held_counts more entry in
      let lost = released_counts less (folded hold_if entry more) in
      let n = entry.mount.number in
      let same : (folded release_if (folded hold_if entry more) less).mount ≡ entry.mount = lost.mount ∙ gained.mount in
      let uses_moved = locations_use_mounts world next (locations more)
      (locations less) moves.front moves.back moves.was moves.is n in
      let more_on = times_mapped n more in
      let less_on = times_mapped n less in
      let lost_uses : (folded release_if (folded hold_if entry more) less).uses
      ≡ (folded hold_if entry more).uses - times (is_use_on n) less =
      lost.uses ∙ ap (λ (x : Mount ℕ). (folded hold_if entry more).uses - times
      (is_use_on x.number) less) gained.mount in
      let lost_writers : (folded release_if (folded hold_if entry more) less).writers
      ≡ (folded hold_if entry more).writers - times (writes_on_mount n) less =
      lost.writers ∙ ap (λ (x : Mount ℕ). (folded hold_if entry more).writers - times
      (writes_on_mount x.number) less) gained.mount in
      let u : (folded release_if (folded hold_if entry more) less).uses ≡ mount_uses next n =
      omega (arith, lost_uses, gained.uses, was.uses, uses_moved, more_on, less_on) in
      let w : (folded release_if (folded hold_if entry more) less).writers ≡ writes_of n tasks =
      omega (arith, lost_writers, gained.writers, was.writers, moves.writes n) in
      record {
        uses = u ∙ ap (λ (x : Mount ℕ). mount_uses next x.number) (sym same);
        writers = w ∙ ap (λ (x : Mount ℕ). writes_of x.number tasks) (sym same);
      }

  -- what comes is there
  pub gained_there : (was : FilesystemEntry) → Among was value.filesystems
      → AreThere (counted was.count) (inodes_seen was) (inodes_of_uses world more)
  gained_there was m =
      list_all_from_among
      (λ inode. not (nat_eq (counted was.count) inode.0) || is_some ((inodes_seen was).inode inode.1))
      (inodes_of_uses world more)
      (λ inode n. let from = among-from_map (λ (held_use : Use). inode_at world held_use.location) more inode n in
      ap (λ (one : Inode). not (nat_eq (counted was.count) one.0) || is_some ((inodes_seen was).inode one.1)) from.2
      ∙ by from.0.location (nat_eq (counted was.count) (mount_at nat_eq world from.0.location).filesystem) refl
      (among_from_list_all (is_located_well nat_eq world) (locations more) moves.there from.0.location
      (among-map (λ (held_use : Use). held_use.location) more from.0 from.1)))
    where
      some_inode : (o : Option (Trees.Inode ℕ)) → is_some (node_in o) ≡ is_some o
      some_inode None = refl
      some_inode (Some inode) = refl

      by : (location : Location ℕ) (b : Bool)
          → nat_eq (counted was.count) (mount_at nat_eq world location).filesystem ≡ b
          → is_located_well nat_eq world location ≡ true
          → (not b || is_some ((inodes_seen was).inode location.node)) ≡ true
      by location true e well =
          let number : counted was.count ≡ (mount_at nat_eq world location).filesystem = eqb-true _ _ e in
          let seen : is_there nat_eq world (mount_at nat_eq world location).filesystem location.node
          ≡ true = (and_parts _ _ well).1 in
          sym (some_inode ((inodes_seen was).inode location.node))
          ∙ ap (λ (f : Filesystem ℕ). is_some (f.files.tree.node location.node))
          (sym (found_plain_one value whole was m) ∙ ap (filesystem_numbered nat_eq world) number) ∙ seen
      by location false e well = refl

  -- the locations exchange the uses of inodes
  pub uses_moved : (filesystem : ℕ)
      → Exchanges (inodes_of_uses world more) (inodes_of_uses world less) filesystem world next
  uses_moved filesystem = subst (λ inodes. Exchanges inodes (inodes_of_uses world less) filesystem world next)
      (map_twice (inode_at world) (λ (held_use : Use). held_use.location) more)
      (subst (λ inodes. Exchanges (map (inode_at world) (locations more)) inodes filesystem world next)
      (map_twice (inode_at world) (λ (held_use : Use). held_use.location) less)
      (locations_are_uses world next (locations more)
      (locations less) moves.front moves.back refl refl moves.was moves.is filesystem))

-- an entry after the uses that come and go
abbrev pub folded_entry : List Use → List Use → MountEntry → MountEntry
folded_entry more less entry = folded release_if (folded hold_if entry more) less

pub same_moved_mounts : (world : World ℕ) (more less : List Use) (k : Kept)
    → mounts_in (moved_kept world more less k).mounts ≡ mounts_in k.mounts
same_moved_mounts world more less k = ap mounts_in (mounts_moved world more less k)
    ∙ map_twice (λ (entry : MountEntry). entry.mount) (folded_entry more less) k.mounts
    ∙ map_alike (λ entry. (folded_entry more less entry).mount) (λ entry. entry.mount) k.mounts
    (λ entry m. (released_counts less (folded hold_if entry more)).mount ∙ (held_counts more entry).mount)
