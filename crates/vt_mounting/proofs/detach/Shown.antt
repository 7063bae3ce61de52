-- Filesystems with the uses of their inodes, as contracts of vt_fs change them.
use Rattle.std.proofs.Common.{◌≡◌, refl, ap, ◌∙◌, ℕ, nat_eq, ◌-◌, eqb-true, eq-eqb, ne_eqb, Bool, true, false, cond, List, [], ◌∷◌, map, find, Option, Some, option_map, arith}
use Rattle.vt_spec.proofs.Common.{Inodes, Mount, common_steps, holds_of, pinned, unpinned}
use Rattle.vt_mounting.proofs.Common.{ChangesInodes, Filesystems, MountEntry, Shown, counted, counted_test, entry_at, entry_numbered, mounts_in, pinned_if, shown, shown_with, unpinned_if, with_changed}
use Rattle.vt_fs.specs.FilesystemsValue.{mounted_once_less, without, without_unmounted}
use Rattle.vt_mounting.specs.Detach.Uses.{Kept, is_unused, let_go_filesystem, let_go_mount, mounts_shown, pinned_in, released_in, unpinned_in, without_filesystem, without_mount}

-- a comparison of counted numbers is one of the counts, turned round
pub counted_eq_back : (a b : ℕ) → nat_eq (counted a) (counted b) ≡ nat_eq b a
counted_eq_back a b = grind (arith, common_steps, eqb-true, eq-eqb, ne_eqb)

-- uses of an inode that come and go
pub changed_inodes : (count : ℕ) (change : Inodes ℕ → Inodes ℕ) (changed_so : ℕ → Inodes ℕ → Inodes ℕ)
    → ((other : ℕ) (inodes : Inodes ℕ)
    → changed_so (counted other) inodes ≡ cond (nat_eq count other) (change inodes) inodes)
    → (all : List Shown) → shown_with count change all
    ≡ map (λ (one : Shown). record one { inodes = changed_so (counted one.count) one.inodes }) all
changed_inodes count change changed_so same [] = refl
changed_inodes count change changed_so same (one ∷ rest) =
    grind (arith, common_steps, changed_inodes count change changed_so same rest)

-- a use more of an inode shows as one
pub pins : (count number : ℕ) (old new : Filesystems)
    → ChangesInodes count (λ inodes. pinned nat_eq inodes number) old new
    → shown new ≡ pinned_in (counted count, number) (shown old)
pins count number old new changes = changes.changed ∙ changed_inodes count (λ inodes. pinned nat_eq inodes number)
    (λ filesystem inodes. pinned_if filesystem inodes (counted count, number))
    (λ other inodes. ap (λ b. cond b (pinned nat_eq inodes number) inodes) (counted_eq_back other count)) (shown old)

-- and a use less
pub unpinned_shown : (count number : ℕ) (all : List Shown)
    → shown_with count (λ inodes. unpinned nat_eq inodes number) all ≡ unpinned_in (counted count, number) all
unpinned_shown count number all = changed_inodes count (λ inodes. unpinned nat_eq inodes number)
    (λ filesystem inodes. unpinned_if filesystem inodes (counted count, number))
    (λ other inodes. ap (λ b. cond b (unpinned nat_eq inodes number) inodes) (counted_eq_back other count)) all

pub unpins : (count number : ℕ) (old new : Filesystems)
    → ChangesInodes count (λ inodes. unpinned nat_eq inodes number) old new
    → shown new ≡ unpinned_in (counted count, number) (shown old)
unpins count number old new changes = changes.changed ∙ unpinned_shown count number (shown old)

-- mounts of a filesystem
pub releases : (count : ℕ) (old : Filesystems)
    → shown (with_changed count (λ entry. record entry { mounts = entry.mounts - 1 }) old)
    ≡ released_in (counted count) (shown old)
releases count [] = refl
releases count (entry ∷ rest) = grind (arith, common_steps, releases count rest, counted_test)

-- a filesystem that is removed shows no more
pub removes : (count : ℕ) (old : Filesystems)
    → shown (without count old) ≡ without_filesystem (counted count) (shown old)
removes count [] = refl
removes count (entry ∷ rest) = grind (arith, common_steps, removes count rest, counted_test)

-- how many mounts show a filesystem is what its entry counts
pub mounts_are_shown : (count : ℕ) (filesystems : Filesystems)
    → (entry_at filesystems count).mounts ≡ mounts_shown (counted count) (shown filesystems)
mounts_are_shown count [] = refl
mounts_are_shown count (entry ∷ rest) = grind (arith, common_steps, mounts_are_shown count rest, counted_test)

-- mounts by their numbers
pub found_entry : (number : ℕ) (entries : List MountEntry)
    → find (λ mount. nat_eq number mount.number) (mounts_in entries)
    ≡ option_map (λ entry. entry.mount) (entry_numbered entries number)
found_entry number [] = refl
found_entry number (entry ∷ rest) = grind (arith, common_steps, found_entry number rest)

-- What functions of uses leave

-- a filesystem goes with its last mount
pub left_shown : (count : ℕ) (between new : Filesystems)
    → new ≡ without_unmounted count (mounted_once_less count between)
    → shown new ≡ let_go_filesystem (counted count) (released_in (counted count) (shown between))
left_shown count between new is = ap shown is ∙ by (nat_eq (entry_at less count).mounts 0)
    ∙ ap (λ many. cond (nat_eq many 0) (without_filesystem (counted count) (shown less)) (shown less))
    (mounts_are_shown count less) ∙ ap (let_go_filesystem (counted count)) (releases count between)
  where
    less : Filesystems
    less = mounted_once_less count between

    by : (b : Bool) → shown (cond b (without count less) less)
        ≡ cond b (without_filesystem (counted count) (shown less)) (shown less)
    by true = removes count less
    by false = refl

module _ (number : ℕ) (k : Kept) where
  abbrev found : Option (Mount ℕ)
  found = find (λ mount. nat_eq number mount.number) (mounts_in k.mounts)

  -- a mount that is attached or used stays
  pub let_go_kept : holds_of is_unused (entry_numbered k.mounts number) ≡ false → k ≡ let_go_mount number k
  let_go_kept stays = grind (arith, common_steps)

  -- one that is neither goes
  pub let_go_unused : (mount : Mount ℕ) → found ≡ Some mount
      → holds_of is_unused (entry_numbered k.mounts number) ≡ true
      → let_go_mount number k ≡ without_mount number mount k
  let_go_unused mount is unused = grind (arith, common_steps, found_entry)
