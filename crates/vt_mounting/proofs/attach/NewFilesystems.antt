-- A filesystem that is new: one empty directory, with a number that no other has.
use Rattle.std.proofs.Common.{◌≡◌, refl, sym, ap, subst, ◌∙◌, inl, ⊎_elim, ℕ, ◌<◌, nat_eq, eq-eqb, eqb-true, lt-ltb, nat_lt, Bool, true, false, true≢false, cond, not, List, [], ◌∷◌, ◌++◌, map, flat_map, Some, None, is_some, arith, All, ltb-true, ne_eqb}
use Rattle.vt_spec.proofs.Common.{Filesystem, Inodes, IsTree, Namespace, common_steps, filesystem_numbered, list_all, list_all_from_among, root_attr, used_by_filesystem, used_by_mount}
use Rattle.vt_laws_mounts.specs.Counts.Using.{root_counted}
use Rattle.vt_mounting.proofs.Common.{Among, FilesystemEntry, Filesystems, HasOwnInodes, HasOwnNodes, IsHeld, IsNew, WorldValue, all_from_among, among-append, among-append_left, among-append_right, among-flat_map, among_from_all, counted, directory_is_there, filesystem_seen, inode_number, inodes_seen, is_among_numbers, is_counted_before, is_own_number, leaves_two, number_numbered, numbered_all, used_numbers_are_named, world_of}
use Rattle.vt_fs.specs.FilesystemsValue.{without}
use Rattle.vt_laws_mounts.proofs.letting_go.Lists.{filter_skip}
use Rattle.vt_location.proofs.NumberLemmas.{is_own}
use Rattle.vt_mounting.proofs.detach.NodesFound.{own_nodes}
use Rattle.vt_mounting.proofs.detach.Overlaid.{plain_one_among}
use Rattle.vt_mounting.proofs.detach.OwnInodesKept.{IsOwn}

-- what is counted before
pub counted_before : (next count : ℕ) → is_counted_before next (counted count) ≡ true → count < next
counted_before next count is = grind (arith, common_steps, eqb-true, ltb-true)

-- the number of each filesystem was counted
pub number_named : (value : WorldValue) → IsHeld value → (filesystem : Filesystem ℕ)
    → Among filesystem (world_of value).filesystems → is_counted_before value.next filesystem.number ≡ true
number_named value whole filesystem m =
    used_numbers_are_named (is_counted_before value.next) (world_of value) whole.given (leaves_two value.next)
    filesystem.number (is_among_numbers filesystem.number (mounts_used ++ files_used ++ namespaces_used)
    (among-append_left (mounts_used ++ files_used) namespaces_used filesystem.number
    (among-append_right mounts_used files_used filesystem.number
    (among-flat_map used_by_filesystem (world_of value).filesystems filesystem filesystem.number m (inl refl)))))
  where
    mounts_used : List ℕ
    mounts_used = flat_map used_by_mount (world_of value).mounts

    files_used : List ℕ
    files_used = flat_map used_by_filesystem (world_of value).filesystems

    namespaces_used : List ℕ
    namespaces_used = map (λ (namespace : Namespace ℕ). namespace.number) (world_of value).namespaces

pub filesystem_counted : (value : WorldValue) → IsHeld value → (entry : FilesystemEntry) → Among entry value.filesystems
    → entry.count < value.next
filesystem_counted value whole entry m = counted_before value.next entry.count
    (number_named value whole (filesystem_seen entry) (plain_one_among value whole.overlays.merged entry m))

-- so it is below that of the next one
pub number_below : (value : WorldValue) → IsHeld value → (filesystem : Filesystem ℕ)
    → Among filesystem (world_of value).filesystems → filesystem.number < counted value.next
number_below value whole filesystem m =
    let root = among_from_all HasOwnNodes (world_of value).filesystems (own_nodes value whole) filesystem m
    filesystem.files.tree.root (directory_is_there (filesystem.files.tree.node filesystem.files.tree.root)
    (among_from_all (λ (f : Filesystem ℕ). IsTree f.files.tree) (world_of value).filesystems
    whole.in_world.files.trees filesystem m).root_directory) in
    let number = root.2 in
    let low = counted_before value.next root.0.filesystem.count
    (ap (is_counted_before value.next) (sym root.2) ∙ number_named value whole filesystem m) in
    omega (arith, number, low)

-- that of one in which something is found, too
pub found_below : (value : WorldValue) → IsHeld value → (number inode : ℕ)
    → is_some ((filesystem_numbered nat_eq (world_of value) number).files.tree.node inode) ≡ true
    → number < counted value.next
found_below value whole number inode there =
    let found = ⊎_elim (λ low. low) (λ missing. absurd (true≢false (sym there
    ∙ ap (λ (f : Filesystem ℕ). is_some (f.files.tree.node inode)) missing.0)))
    (numbered_all (λ (f : Filesystem ℕ). f.number < counted value.next) number (world_of value).filesystems
    (all_from_among (λ (f : Filesystem ℕ). f.number < counted value.next) (world_of value).filesystems
    (number_below value whole))) in
    let same = number_numbered number (world_of value).filesystems in
    omega (arith, found, same)

-- each has a smaller one
pub next_is_above : (value : WorldValue) → IsHeld value
    → list_all (λ (entry : FilesystemEntry). nat_lt entry.count value.next) value.filesystems ≡ true
next_is_above value whole =
    list_all_from_among (λ (entry : FilesystemEntry). nat_lt entry.count value.next) value.filesystems
    (λ entry m. lt-ltb entry.count value.next (filesystem_counted value whole entry m))

-- what is added is taken out again
pub removed_again : (filesystems : Filesystems) (entry : FilesystemEntry) (count : ℕ) → entry.count ≡ count
    → list_all (λ (one : FilesystemEntry). nat_lt one.count count) filesystems ≡ true
    → without count (filesystems ++ entry ∷ []) ≡ filesystems
removed_again [] entry count is above = filter_skip
    (λ (other : FilesystemEntry). not (nat_eq count other.count)) entry [] (ap not (eq-eqb count entry.count (sym is)))
removed_again (first ∷ rest) entry count is above = grind (arith, common_steps, removed_again rest, ne_eqb, ltb-true)

-- its inodes have numbers of its own
pub new_is_own : (count : ℕ) (entry : FilesystemEntry) → count < 18446744073709551616 → IsNew count root_attr entry
    → IsOwn entry.count (inodes_seen entry)
new_is_own count entry small is number other = ap (λ (all : Inodes ℕ). all.inode number) is.inodes
    ∙ by (nat_eq number (inode_number count 0)) refl
  where
    by : (b : Bool) → nat_eq number (inode_number count 0) ≡ b
        → cond b (Some (root_counted (inode_number count 0) 1)) None ≡ None
    by true e = absurd (true≢false (sym (is_own count 0 small (omega arith))
        ∙ ap (is_own_number count) (sym (eqb-true number (inode_number count 0) e))
        ∙ ap (λ c. is_own_number c number) (sym is.counts) ∙ other))
    by false e = refl

pub all_own : (value : WorldValue) → IsHeld value → (entry : FilesystemEntry) → value.next < 18446744073709551616
    → IsNew value.next root_attr entry → All HasOwnInodes (value.filesystems ++ entry ∷ [])
all_own value whole entry small is = all_from_among HasOwnInodes (value.filesystems ++ entry ∷ []) (λ one m.
    ⊎_elim (λ old. among_from_all HasOwnInodes value.filesystems whole.own_inodes one old)
    (λ last. ⊎_elim (λ same. subst HasOwnInodes (sym same) (new_is_own value.next entry small is)) (λ none. absurd none) last)
    (among-append value.filesystems (entry ∷ []) one m))
