-- Where a plain tree changes and keeps its names, all stays in use.
use Rattle.std.proofs.Common.{arith, ◌≡◌, refl, ℕ, nat_eq, Bool, true, false, cond, []}
use Rattle.vt_spec.proofs.Common.{FileTree, Filesystem, World, common_steps, filesystem_lives, is_overlay, named_in, replaced_if_numbered, with_files}
use Rattle.vt_laws_members.proofs.Common.{AllInUse, AllInUseBut, Among, ChangesFilesystem, FilesystemsInUse, Losers, all_but_changed, all_from_among, among-from_map, among_from_list_all, filesystems_stay, in_use_of, is_among_numbers, list_all_from_among, lives_alike, mounts_stay, no_objects, or_left, unchanged, with_filesystems}

-- names and real objects stay
module _ (world : World ℕ) (in_use : AllInUse world) (change : Filesystem ℕ → Filesystem ℕ)
    (changes : (after : World ℕ) (f : Filesystem ℕ) → Among f world.filesystems
    → ChangesFilesystem after [] f (change f))
  where
    abbrev changed : World ℕ
    changed = with_filesystems world change

    abbrev none : Losers
    none = record { mounts = []; filesystems = []; inodes = []; groups = [] }

    stays : in_use_of world ≡ world
    stays = cc (mounts_stay world in_use.mounts, filesystems_stay world in_use.filesystems)

    in_use_before : AllInUseBut none world
    in_use_before = grind (arith, common_steps, mounts_stay, stays)

    filesystems_after : FilesystemsInUse changed
    filesystems_after = list_all_from_among (filesystem_lives nat_eq changed) changed.filesystems
        (λ x m. let from = among-from_map change world.filesystems x m in cc (
          from.2,
          lives_alike world change (λ g n. ChangesFilesystem.number (changes world g n))
              (λ g n. ChangesFilesystem.layers (changes world g n)) from.0 from.1,
          among_from_list_all
              (filesystem_lives nat_eq world) world.filesystems in_use.filesystems from.0 from.1,
        ))

    all_stay : in_use_of changed ≡ changed
    all_stay = cc (mounts_stay changed in_use.mounts, filesystems_stay changed filesystems_after)

    all_but_none : AllInUseBut none changed
    all_but_none = all_but_changed world none in_use_before change []
        (all_from_among (λ f. ChangesFilesystem (in_use_of changed) [] f (change f)) world.filesystems
        (changes (in_use_of changed)))

    pub in_use_changed : AllInUse changed
    in_use_changed = grind (arith, common_steps, filesystems_after, all_stay, all_but_none)

-- One plain filesystem has a tree with the same root, numbers and names.
module _ (world : World ℕ) {old : Filesystem ℕ} (files : FileTree ℕ) (plain : is_overlay old ≡ false)
    (root : files.tree.root ≡ old.files.tree.root) (numbers : files.numbers ≡ old.files.numbers)
    (named : named_in files ≡ named_in old.files)
    (one : (x : Filesystem ℕ) → Among x world.filesystems → nat_eq old.number x.number ≡ true → x ≡ old) where
  abbrev new : Filesystem ℕ
  new = with_files old files

  of_old : (after : World ℕ) → ChangesFilesystem after [] old new
  of_old after = grind (arith, common_steps, list_all_from_among, or_left, is_among_numbers, no_objects)

  pub tree_changes : (after : World ℕ) (f : Filesystem ℕ) → Among f world.filesystems
      → ChangesFilesystem after [] f (replaced_if_numbered nat_eq new f)
  tree_changes after f m = by (nat_eq old.number f.number) refl
    where
      by : (b : Bool) → nat_eq old.number f.number ≡ b → ChangesFilesystem after [] f (cond b new f)
      by true e = rw (one f m e) (of_old after)
      by false e = unchanged after [] f
