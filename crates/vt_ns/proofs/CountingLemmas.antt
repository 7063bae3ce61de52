-- Room for further uses, and the counts of tasks beside namespaces.
use Rattle.std.proofs.Common.{◌≡◌, ◌≤◌, refl, sym, ap, subst, ◌∙◌, ℕ, ◌+◌, Bool, true, false, cond, nat_eq, List, [], ◌∷◌, find, map, Some, None, option_map, unwrap_or, arith}
use Rattle.vt_spec.proofs.Common.{Inodes, keys_of, lookup, set_value, uses_in}
use Rattle.std.specs.List.{IsDistinct}
use Rattle.vt_laws_mounts.specs.Counts.Using.{pinned_if}
use Rattle.vt_ns.proofs.Common.{Filesystems, HasRoom, Inode, MountEntry, StoreValue, changed, counted, entries_of, entry_numbered, inodes_at, inodes_seen, kept, no_entry, number_of, pinned_in, shown, shown_entry, uses_of, with_location, writers_of}
use Rattle.vt_location.specs.declared.locations.Location.{Location}
use Rattle.vt_mount.specs.MountsValue.{held}
use Rattle.vt_world.specs.declared.namespaces.Namespace.{Namespace}
use Rattle.vt_mounting.specs.Detach.Forking.{more_tasks, with_task_more}
use Rattle.vt_mounting.proofs.detach.NamespaceEntries.{Entries, entries_written, is_id, none_written, same_namespace}
use Rattle.vt_mounting.proofs.attach.RoomLemmas.{pinned_if_more}

-- Uses

-- with one use more somewhere no mount has more than one use more
uses_grow : (m n : ℕ) (entries : List MountEntry) → (uses_of (changed m (held false) entries) n ≤ uses_of entries n + 1)
    × (writers_of (changed m (held false) entries) n ≡ writers_of entries n)
uses_grow m n [] = (omega arith, refl)
uses_grow m n (entry ∷ entries) = by (nat_eq m entry.mount.number) (uses_grow m n entries)
  where
    later : List MountEntry
    later = changed m (held false) entries

    at : (one was : MountEntry) → one.mount ≡ was.mount → one.uses ≤ was.uses + 1 → one.writers ≡ was.writers
        → (uses_of later n ≤ uses_of entries n + 1) × (writers_of later n ≡ writers_of entries n)
        → (uses_of (one ∷ later) n ≤ uses_of (was ∷ entries) n + 1)
        × (writers_of (one ∷ later) n ≡ writers_of (was ∷ entries) n)
    at one was mount uses writers rest = subst (λ (x : ℕ). (unwrap_or (option_map (λ (e : MountEntry). e.uses)
        (cond (nat_eq n x) (Some one) (entry_numbered later n))) 0 ≤ uses_of (was ∷ entries) n + 1)
        × (unwrap_or (option_map (λ (e : MountEntry). e.writers)
        (cond (nat_eq n x) (Some one) (entry_numbered later n))) 0 ≡ writers_of (was ∷ entries) n))
        (ap (λ x. x.number) (sym mount)) (found (nat_eq n was.mount.number))
      where
        found : (b : Bool)
            → (unwrap_or (option_map (λ (e : MountEntry). e.uses) (cond b (Some one) (entry_numbered later n))) 0
            ≤ unwrap_or (option_map (λ (e : MountEntry). e.uses) (cond b (Some was) (entry_numbered entries n))) 0 + 1)
            × (unwrap_or (option_map (λ (e : MountEntry). e.writers) (cond b (Some one) (entry_numbered later n))) 0
            ≡ unwrap_or (option_map (λ (e : MountEntry). e.writers) (cond b (Some was) (entry_numbered entries n))) 0)
        found true = (uses, writers)
        found false = rest

    by : (b : Bool) → (uses_of later n ≤ uses_of entries n + 1) × (writers_of later n ≡ writers_of entries n)
        → (uses_of (cond b (held false entry) entry ∷ later) n ≤ uses_of (entry ∷ entries) n + 1)
        × (writers_of (cond b (held false entry) entry ∷ later) n ≡ writers_of (entry ∷ entries) n)
    by true rest = at (held false entry) entry refl (omega arith) (omega arith) rest
    by false rest = at entry entry refl (omega arith) refl rest

inodes_grow : (inode : Inode) (count number : ℕ) (old new : Filesystems) → shown new ≡ pinned_in inode (shown old)
    → uses_in ((inodes_at new count).inode number) ≤ uses_in ((inodes_at old count).inode number) + 1
inodes_grow inode count number [] [] is = omega arith
inodes_grow inode count number [] (new ∷ news) is = absurd cc
inodes_grow inode count number (old ∷ olds) [] is = absurd cc
inodes_grow inode count number (old ∷ olds) (new ∷ news) is =
    let head : shown_entry new ≡ record
    (shown_entry old) { inodes = pinned_if (counted old.count) (inodes_seen old) inode } = cc in
    let tail : shown news ≡ pinned_in inode (shown olds) = cc in
    subst (λ k. uses_in ((inodes_seen
    (unwrap_or (cond (nat_eq count k) (Some new) (find (λ e. nat_eq count e.count) news))
    (no_entry count))).inode number) ≤ uses_in ((inodes_at (old ∷ olds) count).inode number) + 1)
    (ap (λ one. one.count) (sym head))
    (by (nat_eq count old.count) (ap (λ one. one.inodes) head) (inodes_grow inode count number olds news tail))
  where
    by : (b : Bool) → inodes_seen new ≡ pinned_if (counted old.count) (inodes_seen old) inode
        → uses_in ((inodes_at news count).inode number) ≤ uses_in ((inodes_at olds count).inode number) + 1
        → uses_in ((inodes_seen (unwrap_or (cond b (Some new) (find (λ e. nat_eq count e.count) news))
        (no_entry count))).inode number)
        ≤ uses_in ((inodes_seen (unwrap_or (cond b (Some old) (find (λ e. nat_eq count e.count) olds))
        (no_entry count))).inode number) + 1
    by true here later =
        subst (λ (inodes : Inodes ℕ). uses_in (inodes.inode number) ≤ uses_in ((inodes_seen old).inode number) + 1)
        (sym here) (pinned_if_more (counted old.count) (inodes_seen old) inode number)
    by false here later = later

-- where there was room for one use more there is room for so many after one
pub room_still : (more : ℕ) (other at : Location) (mounts news : List MountEntry) (store new_store : StoreValue)
    → HasRoom (more + 1) at mounts store.plain → kept news new_store ≡ with_location other false (kept mounts store)
    → HasRoom more at news new_store.plain
room_still more other at mounts news store new_store room is =
    let grown = uses_grow (counted other.mount.count) (counted at.mount.count) mounts in
    let inode = inodes_grow (counted other.node.filesystem.count, number_of other.node) at.node.filesystem.count
    (number_of at.node) store.plain new_store.plain (ap (λ k. k.filesystems) is) in
    subst (λ all. HasRoom more at all new_store.plain) (sym (ap (λ k. k.mounts) is)) (record {
      uses = (let most = room.uses in let more_uses = grown.0 in omega (arith, most, more_uses));
      writers = (let most = room.writers in let more_uses = grown.1 in omega (arith, most, more_uses));
      inode = (let most = room.inode in omega (arith, most, inode));
    })

pub room_left : (other at : Location) (mounts news : List MountEntry) (store new_store : StoreValue)
    → HasRoom 2 at mounts store.plain → kept news new_store ≡ with_location other false (kept mounts store)
    → HasRoom 1 at news new_store.plain
room_left = room_still 1

-- and after one more use of an inode, where mounts keep their counts
pub room_pinned : (more : ℕ) (inode : Inode) (at : Location) (mounts news : List MountEntry)
    (filesystems new_filesystems : Filesystems) → HasRoom (more + 1) at mounts filesystems
    → uses_of news (counted at.mount.count) ≡ uses_of mounts (counted at.mount.count)
    → writers_of news (counted at.mount.count) ≡ writers_of mounts (counted at.mount.count)
    → shown new_filesystems ≡ pinned_in inode (shown filesystems) → HasRoom more at news new_filesystems
room_pinned more inode at mounts news filesystems new_filesystems room uses writers is =
    let grown = inodes_grow inode at.node.filesystem.count (number_of at.node) filesystems new_filesystems is in
    record {
      uses = (let most = room.uses in omega (arith, most, uses));
      writers = (let most = room.writers in omega (arith, most, writers));
      inode = (let most = room.inode in omega (arith, most, grown));
    }

-- room for many is room for fewer
pub room_less : (more less : ℕ) (at : Location) (mounts : List MountEntry) (filesystems : Filesystems) → less ≤ more
    → HasRoom more at mounts filesystems → HasRoom less at mounts filesystems
room_less more less at mounts filesystems few room = record {
  uses = (let most = room.uses in omega (arith, most, few));
  writers = room.writers;
  inode = (let most = room.inode in omega (arith, most, few));
}

-- mounts that keep their numbers and counts
pub counts_kept : (change : MountEntry → MountEntry)
    → ((entry : MountEntry) → (change entry).mount.number ≡ entry.mount.number)
    → ((entry : MountEntry) → (change entry).uses ≡ entry.uses)
    → ((entry : MountEntry) → (change entry).writers ≡ entry.writers) → (entries : List MountEntry) (n : ℕ)
    → (uses_of (map change entries) n ≡ uses_of entries n) × (writers_of (map change entries) n ≡ writers_of entries n)
counts_kept change number uses writers [] n = (refl, refl)
counts_kept change number uses writers (entry ∷ entries) n =
    let later = counts_kept change number uses writers entries n in (
      ap (λ k. unwrap_or (option_map (λ (e : MountEntry). e.uses)
          (cond (nat_eq n k) (Some (change entry)) (entry_numbered (map change entries) n))) 0) (number entry)
          ∙ by_uses (nat_eq n entry.mount.number) later.0,
      ap (λ k. unwrap_or (option_map (λ (e : MountEntry). e.writers)
          (cond (nat_eq n k) (Some (change entry)) (entry_numbered (map change entries) n))) 0) (number entry)
          ∙ by_writers (nat_eq n entry.mount.number) later.1,
    )
  where
    by_uses : (b : Bool) → uses_of (map change entries) n ≡ uses_of entries n
        → unwrap_or (option_map (λ (e : MountEntry). e.uses)
        (cond b (Some (change entry)) (entry_numbered (map change entries) n))) 0
        ≡ unwrap_or (option_map (λ (e : MountEntry). e.uses) (cond b (Some entry) (entry_numbered entries n))) 0
    by_uses true later = uses entry
    by_uses false later = later

    by_writers : (b : Bool) → writers_of (map change entries) n ≡ writers_of entries n
        → unwrap_or (option_map (λ (e : MountEntry). e.writers)
        (cond b (Some (change entry)) (entry_numbered (map change entries) n))) 0
        ≡ unwrap_or (option_map (λ (e : MountEntry). e.writers) (cond b (Some entry) (entry_numbered entries n))) 0
    by_writers true later = writers entry
    by_writers false later = later

-- Tasks of namespaces

-- a task more is counted nowhere where its namespace is not there
pub nothing_counted : (count : ℕ) (es : Entries) → lookup (is_id count) es ≡ None
    → entries_of es ≡ with_task_more count (entries_of es)
nothing_counted count es absent = sym (none_written count more_tasks es absent)

-- and in its namespace where that is there
pub task_counted : (count : ℕ) (es new : Entries) (was now : Namespace) → IsDistinct same_namespace (keys_of es)
    → lookup (is_id count) es ≡ Some was → new ≡ set_value (is_id count) es now → now.tasks ≡ was.tasks + 1
    → entries_of new ≡ with_task_more count (entries_of es)
task_counted count es new was now apart found is more =
    ap entries_of is ∙ entries_written count more_tasks es was now apart found
    (λ id i. record { count = id.count; tasks = more i })
