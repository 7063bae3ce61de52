-- What goes when a plain tree changes.
use Rattle.std.proofs.Common.{arith, ◌≡◌, refl, sym, subst, ◌∙◌, ◌⊎◌, inl, inr, ⊎_elim, ℕ, nat_eq, eqb-true, eq-eqb, true, false, ◌||◌, ◌&&◌, List, [], ◌∷◌, find, map, unwrap_or}
use Rattle.vt_spec.proofs.Common.{FileTree, Filesystem, World, common_steps, filesystem_numbered, is_among, is_among_left, is_among_right, is_mounted, is_overlay, list_all, located_in, named_in, no_filesystem, or_cases, settled, with_files, without_dead_filesystems, without_dead_mounts}
use Rattle.vt_laws_mounts.specs.LettingGo.InUse.{FilesystemsInUse, HasTrees, IsListedTree, is_inode_used, AllInUse}
use Rattle.vt_laws_mounts.specs.LettingGo.Leaving.{IsSettledPlain}
use Rattle.vt_laws_mounts.specs.LettingGo.OneByOne.{FilesystemsInUseBut, GroupsInUseBut, InodesInUseBut, IsPlain, Losers, is_inode_among, is_used_or_among, let_go}
use Rattle.vt_laws_mounts.specs.LettingGo.TreeChanges.{ChangesTree, NamedStay, UnnamedGo, with_tree}
use Rattle.vt_laws_mounts.proofs.letting_go.sweeps.InUse.{filesystems_stay, mounts_stay}
use Rattle.vt_laws_mounts.proofs.letting_go.sweeps.Inodes.{all_goes_one_by_one}
use Rattle.vt_laws_mounts.proofs.letting_go.Lists.{Among, all_from_among, among-from_map, among-map, among_from_all, among_from_list_all, among_numbers, any_from_among, is_among_numbers, list_all_from_among, none_among, none_from_among, or_left, or_right}
use Rattle.vt_laws_mounts.proofs.letting_go.leaving.PlacesLeft.{no_layers, plain_uses}

-- a filesystem that is there is found
found_filesystem : (filesystems : List (Filesystem ℕ)) (number : ℕ)
    → is_among nat_eq number (map (λ f. f.number) filesystems) ≡ true
    → Among (unwrap_or (find (λ f. nat_eq number f.number) filesystems) (no_filesystem number)) filesystems
    × ((unwrap_or (find (λ f. nat_eq number f.number) filesystems) (no_filesystem number)).number ≡ number)
found_filesystem [] number h = cc
found_filesystem (first ∷ rest) number h = grind (arith, common_steps, found_filesystem rest number, eqb-true)

-- Another tree in one filesystem of a plain world in which all is in use
module _ (world : World ℕ) (number : ℕ) (files : FileTree ℕ) (in_use : AllInUse world) (plain : IsPlain world)
    (there : is_among nat_eq number (map (λ filesystem. filesystem.number) world.filesystems) ≡ true) where
  abbrev before : Filesystem ℕ
  before = filesystem_numbered nat_eq world number

  abbrev with_new : World ℕ
  with_new = with_tree world number files

  pub old_there : Among before world.filesystems
  old_there = (found_filesystem _ number there).0

  -- a filesystem of the changed world is the changed one, or was there
  is_new_or_old : (filesystem : Filesystem ℕ) → Among filesystem with_new.filesystems
      → (filesystem ≡ with_files before files) ⊎ Among filesystem world.filesystems
  is_new_or_old filesystem m =
      let from = among-from_map _ _ _ m in grind (arith, common_steps)

  pub for_each : (P : Filesystem ℕ → Type 0) → P (with_files before files)
      → ((f : Filesystem ℕ) → Among f world.filesystems → P f)
      → (filesystem : Filesystem ℕ) → Among filesystem with_new.filesystems → P filesystem
  for_each P here others filesystem m =
      ⊎_elim (λ e. subst P (sym e) here) (λ n. others filesystem n) (is_new_or_old _ m)

  pub plain_old : is_overlay before ≡ false
  plain_old = none_among _ _ plain before old_there

  pub plain_after : IsPlain with_new
  plain_after = none_from_among _ _ (for_each _ plain_old (λ f m. none_among _ _ plain f m))

  mounted_old : (f : Filesystem ℕ) → Among f world.filesystems → is_mounted nat_eq world f.number ≡ true
  mounted_old f m = ⊎_elim (λ e. e) (λ layered. absurd (cc (no_layers f.number world world.filesystems plain)))
      (or_cases _ _ (among_from_list_all _ _ in_use.filesystems f m))

  pub filesystems_after : FilesystemsInUse with_new
  filesystems_after = list_all_from_among _ _ (for_each _ (or_left _ _ (mounted_old before old_there))
      (λ f m. or_left _ _ (mounted_old f m)))

  -- so no mount and no filesystem goes
  pub same_living : without_dead_filesystems nat_eq (without_dead_mounts nat_eq with_new) ≡ with_new
  same_living = cc (mounts_stay with_new in_use.mounts, filesystems_stay with_new filesystems_after)

module _ {world : World ℕ} (number : ℕ) {files : FileTree ℕ} {unnamed : List ℕ} (settles : IsSettledPlain world)
    (there : is_among nat_eq number (map (λ filesystem. filesystem.number) world.filesystems) ≡ true)
    (changes : ChangesTree (filesystem_numbered nat_eq world number).files files unnamed) where
  abbrev old : Filesystem ℕ
  old = filesystem_numbered nat_eq world number

  abbrev new : Filesystem ℕ
  new = with_files old files

  abbrev after : World ℕ
  after = with_tree world number files

  abbrev losers : Losers
  losers = record { mounts = []; filesystems = []; inodes = map (λ inode. (number, inode)) unnamed; groups = [] }

  old_number : old.number ≡ number
  old_number = (found_filesystem _ number there).1

  trees_after : HasTrees after
  trees_after = all_from_among (λ f. IsListedTree f.files) after.filesystems
      (for_each world number files settles.in_use settles.plain there (λ f. IsListedTree f.files) changes.tree
      (λ f m. among_from_all (λ g. IsListedTree g.files) world.filesystems settles.trees f m))

  same_mounted : without_dead_mounts nat_eq after ≡ after
  same_mounted = mounts_stay after settles.in_use.mounts

  -- what is at a place, or has a name, is used
  used_after : (f : Filesystem ℕ) (inode : ℕ)
      → (inode ≡ f.files.tree.root) ⊎ (is_among nat_eq inode (named_in f.files) ≡ true)
      ⊎ Among inode (located_in nat_eq world f.number) → is_inode_used after f inode ≡ true
  used_after f inode how = grind (arith, common_steps, is_among_left, eq-eqb, is_among_right, is_among_numbers)

  -- an inode of the changed tree is used, or may go
  of_new : (inode : ℕ) → Among inode files.numbers → is_used_or_among losers.inodes after new inode ≡ true
  of_new inode m = ⊎_elim (λ was. ⊎_elim (λ root. still (inl (root ∙ sym changes.root))) (λ rest. ⊎_elim (λ name. ⊎_elim
      (λ named. still (inr (inl named))) (λ lost. or_left (is_inode_among new.number inode losers.inodes) _
      (any_from_among (λ loser. nat_eq new.number loser.0 && nat_eq inode loser.1) losers.inodes (number, inode)
      (among-map (λ k. (number, k)) unnamed inode (among_numbers inode unnamed lost))
      (cc (eq-eqb new.number number old_number, eq-eqb inode inode refl))))
      (or_cases (is_among nat_eq inode (named_in files)) (is_among nat_eq inode unnamed)
      (among_from_list_all (λ k. is_among nat_eq k (named_in files) || is_among nat_eq k unnamed)
      (named_in old.files) changes.names inode (among_numbers inode (named_in old.files) name))))
      (λ located. still (inr (inr located))) rest) (plain_uses world settles.plain old inode
      (among_from_list_all (is_inode_used world old) old.files.numbers
      (among_from_all (λ f. list_all (is_inode_used world f) f.files.numbers
      ≡ true) world.filesystems settles.in_use.inodes old
      (old_there world number files settles.in_use settles.plain there))
      inode (among_numbers inode old.files.numbers was)))) (λ named. still (inr (inl named)))
      (or_cases (is_among nat_eq inode old.files.numbers) (is_among nat_eq inode (named_in files))
      (among_from_list_all (λ k. is_among nat_eq k old.files.numbers
      || is_among nat_eq k (named_in files)) files.numbers changes.inodes inode m))
    where
      still : (inode ≡ new.files.tree.root) ⊎ (is_among nat_eq inode (named_in new.files) ≡ true)
          ⊎ Among inode (located_in nat_eq world new.number) → is_used_or_among losers.inodes after new inode ≡ true
      still how = or_right (is_inode_among new.number inode losers.inodes) _ (used_after new inode how)

  of_others : (f : Filesystem ℕ) → Among f world.filesystems → (inode : ℕ) → Among inode f.files.numbers
      → is_used_or_among losers.inodes after f inode ≡ true
  of_others f n inode m = or_right (is_inode_among f.number inode losers.inodes) _ (used_after f inode
      (plain_uses world settles.plain f inode (among_from_list_all (is_inode_used world f) f.files.numbers
      (among_from_all (λ g. list_all (is_inode_used world g) g.files.numbers
      ≡ true) world.filesystems settles.in_use.inodes f n) inode m)))

  inodes_after : InodesInUseBut losers.inodes after
  inodes_after =
      all_from_among (λ f. list_all (is_used_or_among losers.inodes after f) f.files.numbers ≡ true) after.filesystems
      (for_each world number files settles.in_use settles.plain there
      (λ f. list_all (is_used_or_among losers.inodes after f) f.files.numbers ≡ true)
      (list_all_from_among (is_used_or_among losers.inodes after new) files.numbers of_new)
      (λ f n. list_all_from_among (is_used_or_among losers.inodes after f) f.files.numbers (of_others f n)))

  unnamed_goes : settled nat_eq after ≡ let_go after losers
  unnamed_goes =
      all_goes_one_by_one after losers (plain_after world number files settles.in_use settles.plain there) trees_after
      (record {
        mounts = settles.in_use.mounts;
        filesystems = subst (FilesystemsInUseBut []) (sym same_mounted)
            (filesystems_after world number files settles.in_use settles.plain there);
        inodes = subst (InodesInUseBut losers.inodes) (sym (same_living world number files settles.in_use
            settles.plain there)) inodes_after;
        groups = subst (GroupsInUseBut []) (sym same_mounted) (λ group among none. settles.in_use.groups group none);
      })

pub unnamed_go : UnnamedGo
unnamed_go world number files unnamed settles there changes = unnamed_goes number settles there changes

pub named_stay : NamedStay
named_stay world number files settles there changes = unnamed_goes number settles there changes
