-- Events that change one mount, which stays where it is attached or gets another mount point: mount(2) with MS_REMOUNT,
-- with
-- MS_PRIVATE or MS_UNBINDABLE, and with MS_MOVE.
use Rattle.std.proofs.Common.{◌≡◌, refl, sym, ap, subst, ◌∙◌, ◌+◌, ℕ, nat_eq, eqb-true, Bool, true, false, true≢false, cond, ◌||◌, ◌&&◌, List, [], ◌∷◌, ◌++◌, map, filter, find, Option, Some, None, option_map, is_some, unwrap_or, option_to_list, arith}
use Rattle.vt_spec.proofs.Common.{Filesystem, Mount, Permit, Task, TaskName, World, any_pair, common_steps, filesystem_lives, has_layer_on, is_located, is_mounted, list_any, map-append, map_twice, mount_lives, mount_numbered, no_mount, or_parts, settled, with_mounts, without_dead_filesystems, without_dead_mounts}
use Rattle.vt_mounting.proofs.Common.{Among, AreThere, CountsItsMounts, CountsItsUses, CountsWhatIsInIt, Exchanges, FilesystemEntry, Filesystems, Has, Inode, IsHeld, MountEntry, Shown, WorldValue, all_from_among, all_in_use, among-from_map, among-map, among_from_all, among_from_list_all, any-map, changed, counted, entry_numbered, filesystem_seen, filter_all, in_use_of, inode_at, inodes_seen, layer_count, mount_is_placed, mounts_in, mounts_showing, shown, shown_entry, times, world_of}
use Rattle.vt_laws_mounts.specs.LettingGo.InUse.{AllInUse}
use Rattle.vt_mounting.proofs.detach.Bridging.{IsSwept}
use Rattle.vt_mounting.proofs.detach.Finishing.{CountsBeside, IsApplied, finished}
use Rattle.vt_mounting.proofs.detach.Grouped.{changed_has}
use Rattle.vt_mounting.proofs.detach.LowerLayers.{exchanges_of_lowers, of_lowers}
use Rattle.vt_mounting.proofs.detach.Moving.{exchanged_shown}
use Rattle.vt_mounting.proofs.detach.Remaining.{remade}
use Rattle.vt_mounting.proofs.detach.Shown.{found_entry}
use Rattle.vt_mounting.proofs.detach.Overlaid.{all_shown, is_plain_one, keeps_itself, layers_kept, overlays_counted, plain_ones_are, same_files_keep, still_mounted}
use Rattle.vt_mounting.proofs.detach.Staying.{IsDone}

-- the mount keeps its number, its namespace and what it shows
pub record KeepsWhatItShows (change : Mount ℕ → Mount ℕ) : Type 0 where
  pub number : (mount : Mount ℕ) → (change mount).number ≡ mount.number
  pub namespace : (mount : Mount ℕ) → (change mount).namespace ≡ mount.namespace
  pub filesystem : (mount : Mount ℕ) → (change mount).filesystem ≡ mount.filesystem
  pub root : (mount : Mount ℕ) → (change mount).root ≡ mount.root

abbrev pub with_mount_changed : (Mount ℕ → Mount ℕ) → MountEntry → MountEntry
with_mount_changed change entry = record entry { mount = change entry.mount }

-- one mount changed in a list of mounts
abbrev pub one_changed : ℕ → (Mount ℕ → Mount ℕ) → Mount ℕ → Mount ℕ
one_changed number change mount = cond (nat_eq number mount.number) (change mount) mount

abbrev entry_changed : ℕ → (Mount ℕ → Mount ℕ) → MountEntry → MountEntry
entry_changed number change entry = cond (nat_eq number entry.mount.number) (with_mount_changed change entry) entry

entry_mount : (number : ℕ) (change : Mount ℕ → Mount ℕ) (entry : MountEntry)
    → (entry_changed number change entry).mount ≡ one_changed number change entry.mount
entry_mount number change entry = grind (arith, common_steps)

pub mounts_changed : (number : ℕ) (change : Mount ℕ → Mount ℕ) (entries : List MountEntry)
    → mounts_in (changed number (with_mount_changed change) entries)
    ≡ map (one_changed number change) (mounts_in entries)
mounts_changed number change [] = refl
mounts_changed number change (entry ∷ rest) = λ i. entry_mount number change entry i
    ∷ mounts_changed number change rest i

pub times_map : {A B : Type 0} (test : B → Bool) (f : A → B) (list : List A)
    → times test (map f list) ≡ times (λ a. test (f a)) list
times_map test f [] = refl
times_map test f (a ∷ rest) = ap (λ n. cond (test (f a)) 1 0 + n) (times_map test f rest)

times_alike : {A : Type 0} (test other : A → Bool) (list : List A) → ((a : A) → test a ≡ other a)
    → times test list ≡ times other list
times_alike test other [] same = refl
times_alike test other (a ∷ rest) same = λ i. cond (same a i) 1 0 + times_alike test other rest same i

module _ {value : WorldValue} (whole : IsHeld value) (number : ℕ) {change : Mount ℕ → Mount ℕ}
    (keeps : KeepsWhatItShows change) where
  abbrev entries : List MountEntry
  entries = changed number (with_mount_changed change) value.mounts

  abbrev pub next_of : World ℕ
  next_of = with_mounts (world_of value) (mounts_in (changed number (with_mount_changed change) value.mounts))

  part_changed : {A : Type 0} (part : Mount ℕ → A) → ((mount : Mount ℕ) → part (change mount) ≡ part mount)
      → (mount : Mount ℕ) → part (one_changed number change mount) ≡ part mount
  part_changed part same mount = grind (arith, common_steps)

  part_kept : {A : Type 0} (part : Mount ℕ → A) → ((mount : Mount ℕ) → part (change mount) ≡ part mount)
      → (entry : MountEntry) → part (entry_changed number change entry).mount ≡ part entry.mount
  part_kept part same entry = grind (arith, common_steps)

  mount_was : (mount : Mount ℕ) → Among mount (mounts_in entries)
      → (was : MountEntry) × Among was value.mounts × (mount ≡ (entry_changed number change was).mount)
  mount_was mount m = grind (arith, common_steps, among-from_map)

  -- where the mount keeps its type, groups stay as they are
  pub kind_kept : ((mount : Mount ℕ) → (change mount).propagation ≡ mount.propagation)
      → Has (settled nat_eq next_of) value.groups
  kind_kept kind =
      changed_has value whole next_of (one_changed number change) (mounts_changed number change value.mounts)
      (λ group. refl)
      (part_changed (λ mount. mount.number) keeps.number) (part_changed (λ mount. mount.namespace) keeps.namespace)
      (part_changed (λ mount. mount.propagation) kind)

  same_mounted : (filesystem : ℕ) → is_mounted nat_eq next_of filesystem ≡ is_mounted nat_eq (world_of value) filesystem
  same_mounted filesystem =
      any-map (λ (mount : Mount ℕ). nat_eq filesystem mount.filesystem) (λ (entry : MountEntry). entry.mount) entries
      (λ entry. refl) ∙ any-map (λ (entry : MountEntry). nat_eq filesystem entry.mount.filesystem)
      (entry_changed number change) value.mounts
      (λ entry. ap (nat_eq filesystem) (part_kept (λ mount. mount.filesystem) keeps.filesystem entry))
      ∙ sym (any-map (λ (mount : Mount ℕ). nat_eq filesystem mount.filesystem)
      (λ (entry : MountEntry). entry.mount) value.mounts (λ entry. refl))

  same_showing : (filesystem : ℕ) → mounts_showing next_of filesystem ≡ mounts_showing (world_of value) filesystem
  same_showing filesystem =
      times_map (λ (mount : Mount ℕ). nat_eq filesystem mount.filesystem) (λ (entry : MountEntry). entry.mount) entries
      ∙ times_map (λ (entry : MountEntry). nat_eq filesystem entry.mount.filesystem)
      (entry_changed number change) value.mounts
      ∙ times_alike (λ entry. nat_eq filesystem (entry_changed number change entry).mount.filesystem)
      (λ entry. nat_eq filesystem entry.mount.filesystem) value.mounts
      (λ entry. ap (nat_eq filesystem) (part_kept (λ mount. mount.filesystem) keeps.filesystem entry))
      ∙ sym (times_map (λ (mount : Mount ℕ). nat_eq filesystem mount.filesystem)
      (λ (entry : MountEntry). entry.mount) value.mounts)

  -- all mounts and filesystems are still in use
  living_is : in_use_of next_of ≡ next_of
  living_is = ap (without_dead_filesystems nat_eq) mounts_stay ∙ ap (λ all. record next_of { filesystems = all })
      (filter_all (filesystem_lives nat_eq next_of) next_of.filesystems (λ f m.
      same_lives f ∙ among_from_list_all (filesystem_lives nat_eq (world_of value))
      (world_of value).filesystems in_use.filesystems f m))
    where
      in_use : AllInUse (world_of value)
      in_use = all_in_use (world_of value) whole.in_world

      mounts_stay : without_dead_mounts nat_eq next_of ≡ next_of
      mounts_stay = ap (with_mounts next_of) (filter_all (mount_lives nat_eq next_of) next_of.mounts (λ mount m.
          let was = mount_was mount m in
          ap (mount_lives nat_eq next_of) was.2
          ∙ (λ i. is_some (part_kept (λ one. one.namespace) keeps.namespace was.0 i)
          || is_located nat_eq (world_of value) (part_kept (λ one. one.number) keeps.number was.0 i))
          ∙ among_from_list_all (mount_lives nat_eq (world_of value)) (world_of value).mounts in_use.mounts was.0.mount
          (among-map (λ (entry : MountEntry). entry.mount) value.mounts was.0 was.1)))

      same_lives : (f : Filesystem ℕ) → filesystem_lives nat_eq next_of f ≡ filesystem_lives nat_eq (world_of value) f
      same_lives f = λ i. same_mounted f.number i
          || list_any (λ merged. has_layer_on nat_eq f.number merged && same_mounted merged.number i)
          (world_of value).filesystems

  module _ (gained lost : List Inode) (filesystems : Filesystems)
      (shown_are : shown filesystems ≡ map (exchanged_shown gained lost) (shown value.filesystems))
      (exchanges : (filesystem : ℕ) → Exchanges gained lost filesystem (world_of value) next_of)
      (there : (was : FilesystemEntry) → Among was value.filesystems
      → AreThere (counted was.count) (inodes_seen was) gained) where
    abbrev new : WorldValue
    new = remade value entries filesystems value.tasks

    shown_was : (entry : FilesystemEntry) → Among entry filesystems
        → (was : FilesystemEntry) × Among was value.filesystems
        × (shown_entry entry ≡ exchanged_shown gained lost (shown_entry was))
    shown_was entry m =
        let from = among-from_map (exchanged_shown gained lost) (shown value.filesystems) (shown_entry entry)
        (subst (λ all. Among (shown_entry entry) all) shown_are (among-map shown_entry filesystems entry m)) in
        let first = among-from_map shown_entry value.filesystems from.0 from.1 in
        (first.0, first.1, from.2 ∙ ap (exchanged_shown gained lost) first.2)

    same_numbers : map (λ f. f.number) (filter is_plain_one (world_of value).filesystems)
        ≡ map (λ (entry : FilesystemEntry). counted entry.count) filesystems
    same_numbers =
        cc (
          plain_ones_are value whole.overlays,
          map_twice (λ (f : Filesystem ℕ). f.number) filesystem_seen
              value.filesystems,
          map_twice (λ (one : Shown). counted one.count) shown_entry value.filesystems,
          map_twice (λ
              (one : Shown). counted one.count) (exchanged_shown gained lost) (shown value.filesystems),
          map_twice (λ (one :
              Shown). counted one.count) shown_entry filesystems,
        )

    swept : IsSwept value next_of gained lost new
    swept = record {
      files = refl;
      midway = same_files_keep value (world_of value) next_of refl (keeps_itself value whole.overlays);
      overlays = all_shown value (in_use_of next_of) (still_mounted value whole (in_use_of next_of) (λ filesystem.
          ap (λ (world : World ℕ). is_mounted nat_eq world filesystem) living_is ∙ same_mounted filesystem));
      mounts = ap (λ (world : World ℕ). world.mounts) living_is;
      numbers = ap (λ (world : World ℕ). map (λ (f : Filesystem ℕ). f.number)
          (filter is_plain_one world.filesystems)) living_is ∙ same_numbers;
      entries = λ entry m. let from = shown_was entry m in record {
        was = from.0;
        among = from.1;
        count = ap (λ (one : Shown). one.count) from.2;
        there = there from.0 from.1;
        inodes = ap (λ (one : Shown). one.inodes) from.2;
        exchanges = subst (λ (world : World ℕ). Exchanges gained lost (counted from.0.count)
            (of_lowers (world_of value)) (of_lowers world)) (sym living_is)
            (exchanges_of_lowers {world = world_of value} {after = next_of} refl (exchanges (counted from.0.count)));
      };
      namespaces = refl;
      tasks = refl;
    }

    counts : CountsBeside new
    counts = record {
      uses = all_from_among (CountsItsUses (world_of new)) entries (λ entry m.
          let from = among-from_map (entry_changed number change) value.mounts entry m in
          let was = among_from_all (CountsItsUses (world_of value)) value.mounts whole.mounts from.0 from.1 in
          subst (CountsItsUses (world_of new)) (sym from.2)
          (same_uses from.0 (record { uses = was.uses; writers = was.writers })));
      mounts = λ entry m. let from = shown_was entry m in
          ap (λ (one : Shown). one.mounts) from.2
          ∙ (among_from_all (CountsItsMounts (world_of value)) value.filesystems whole.filesystems from.0 from.1).mounts
          ∙ ap (λ count. mounts_showing (world_of value) (counted count) + layer_count (world_of value) (counted count))
          (sym (ap (λ (one : Shown). one.count) from.2)) ∙ (λ i. sym (same_showing (counted entry.count)) i
          + sym (layers_kept value new whole.overlays refl (counted entry.count)) i);
      overlays = overlays_counted value new whole.overlays refl same_showing;
      namespaces = all_from_among (CountsWhatIsInIt (world_of new)) value.namespaces (λ entry m.
          let was = among_from_all (CountsWhatIsInIt (world_of value)) value.namespaces whole.namespaces entry m in
          record { tasks = was.tasks });
    }
      where
        same_uses : (entry : MountEntry) → CountsItsUses (world_of new) entry
            → CountsItsUses (world_of new) (entry_changed number change entry)
        same_uses entry was = grind (arith, common_steps)

    pub mount_is_changed : {name : TaskName} {permit : Permit ℕ} {task : Task ℕ}
        → IsApplied value name permit task next_of → Has (settled nat_eq next_of) value.groups
        → IsDone value name permit (remade value (changed number (with_mount_changed change) value.mounts) filesystems
        value.tasks)
    mount_is_changed {name} {permit} {task} is has =
        finished value whole name permit task next_of is gained lost new swept has counts refl

-- The uses of inodes that come and go with the mount point of one mount

pub record IsSplit (number : ℕ) (change : Mount ℕ → Mount ℕ) (entry : MountEntry)
    (entries : List MountEntry) : Type 0 where
  pub front : List MountEntry
  pub back : List MountEntry
  pub was : entries ≡ front ++ (entry ∷ back)
  pub is : changed number (with_mount_changed change) entries ≡ front ++ (with_mount_changed change entry ∷ back)

none_changed : (number : ℕ) (change : Mount ℕ → Mount ℕ) (entries : List MountEntry)
    → list_any (λ (mount : Mount ℕ). nat_eq number mount.number) (mounts_in entries) ≡ false
    → changed number (with_mount_changed change) entries ≡ entries
none_changed number change [] none = refl
none_changed number change (entry ∷ rest) none =
    let parts = or_parts (nat_eq number entry.mount.number) _ none in
    λ i. cond (parts.0 i) (with_mount_changed change entry) entry ∷ none_changed number change rest parts.1 i

entry_split : (number : ℕ) (change : Mount ℕ → Mount ℕ) (entries : List MountEntry) {entry : MountEntry}
    → any_pair (λ (a b : Mount ℕ). nat_eq a.number b.number) (mounts_in entries) ≡ false
    → entry_numbered entries number ≡ Some entry → IsSplit number change entry entries
entry_split number change [] one found = absurd cc
entry_split number change (first ∷ rest) {entry} one found =
    let parts = or_parts (list_any (λ (other : Mount ℕ). nat_eq first.mount.number other.number)
    (mounts_in rest)) _ one in
    by parts.0 (nat_eq number first.mount.number) refl found (entry_split number change rest {entry = entry} parts.1)
  where
    by : list_any (λ (other : Mount ℕ). nat_eq first.mount.number other.number) (mounts_in rest) ≡ false
        → (b : Bool) → nat_eq number first.mount.number ≡ b
        → cond b (Some first) (entry_numbered rest number) ≡ Some entry
        → (entry_numbered rest number ≡ Some entry → IsSplit number change entry rest)
        → IsSplit number change entry (first ∷ rest)
    by none true is here later =
        let same : first ≡ entry = cc in
        record {
          front = [];
          back = rest;
          was = ap (λ x. x ∷ rest) same;
          is = (λ i. cond (is i) (with_mount_changed change first) first ∷ none_changed number change rest
              (ap (λ n. list_any (λ (other : Mount ℕ). nat_eq n other.number) (mounts_in rest))
              (eqb-true number first.mount.number is) ∙ none) i) ∙ ap (λ x. with_mount_changed change x ∷ rest) same;
        }
    by none false is here later = let split = later here in record {
      front = first ∷ split.front;
      back = split.back;
      was = ap (λ others. first ∷ others) split.was;
      is = (λ i. cond (is i) (with_mount_changed change first) first ∷ changed number (with_mount_changed change) rest)
          ∙ ap (λ others. first ∷ others) split.is;
    }

-- the entry of a mount in a namespace
pub attached_entry : (value : WorldValue) (number namespace : ℕ)
    → (mount_numbered nat_eq (world_of value) number).namespace ≡ Some namespace
    → (entry : MountEntry) × (entry_numbered value.mounts number ≡ Some entry)
    × (mount_numbered nat_eq (world_of value) number ≡ entry.mount)
attached_entry value number namespace is = by (entry_numbered value.mounts number) refl
    (found_entry number value.mounts)
  where
    by : (o : Option MountEntry) → entry_numbered value.mounts number ≡ o
        → find (λ mount. nat_eq number mount.number) (mounts_in value.mounts)
        ≡ option_map (λ entry. entry.mount) (entry_numbered value.mounts number)
        → (entry : MountEntry) × (entry_numbered value.mounts number ≡ Some entry)
        × (mount_numbered nat_eq (world_of value) number ≡ entry.mount)
    by None e found =
        let none = found ∙ ap (option_map (λ (entry : MountEntry). entry.mount)) e in
        absurd (true≢false (sym (ap is_some is) ∙ ap (λ o. is_some (unwrap_or o (no_mount number)).namespace) none))
    by (Some entry) e found = (
      entry,
      e,
      ap (λ o. unwrap_or o (no_mount number)) (found ∙ ap (option_map (λ (entry : MountEntry). entry.mount)) e),
    )

module _ {value : WorldValue} (whole : IsHeld value) (number : ℕ) {change : Mount ℕ → Mount ℕ}
    (keeps : KeepsWhatItShows change) {entry : MountEntry} (is : entry_numbered value.mounts number ≡ Some entry) where
  pub places_exchanged : (filesystem : ℕ)
      → Exchanges (map (inode_at (world_of value)) (option_to_list (change entry.mount).mount_point))
      (map (inode_at (world_of value)) (option_to_list entry.mount.mount_point)) filesystem
      (world_of value) (next_of whole number keeps)
  places_exchanged =
      let split = entry_split number change value.mounts whole.in_world.mounts.one_number is in
      mount_is_placed (world_of value) (next_of whole number keeps) (mounts_in split.front) (mounts_in split.back)
      entry.mount (change entry.mount) refl refl
      (ap mounts_in split.was ∙ map-append (λ (one : MountEntry). one.mount) split.front (entry ∷ split.back))
      (ap mounts_in split.is ∙ map-append (λ (one : MountEntry). one.mount) split.front
      (with_mount_changed change entry ∷ split.back))
      (keeps.number entry.mount) (keeps.filesystem entry.mount) (keeps.root entry.mount)
