-- A permit that fits keeps filesystems plain, with numbers of their own.
use Rattle.std.proofs.Common.{◌≡◌, refl, sym, ap, subst, ◌∙◌, inl, inr, ⊎_elim, ℕ, nat_eq, Bool, true, false, List, [], ◌∷◌, ◌++◌, map}
use Rattle.vt_spec.proofs.Common.{Among, Change, CopyUp, Filesystem, Fresh, Location, Make, Move, Permit, Remove, Serves, Task, ToChange, ToEnterNamespace, ToExit, ToMake, ToMountOverlay, ToMountPlain, ToOpen, ToOpenNew, ToRemoveDirectory, ToRename, ToSetType, ToUnmount, ToUnmountLazily, ToUnshare, ToWritePart, World, among-append, any_pair, apply, evens, filesystems-taken_away, filesystems-without_replaced, going, is_copied_up, is_overlay, list_any, mount_at, mount_numbered, namespace_entered, nat_eq_false_turned, none_among, none_from_among, odds, or_parts, plain_filesystem, pwritten, replaced_if_numbered, unshared, with_change, with_copy, without_mounts_on, without_replaced, without_task}
use Rattle.vt_laws_mounts.proofs.mounts.MountsRetyped.{types_are_of_mounts}
use Rattle.vt_laws_mounts.proofs.ends.UnmountingEnds.{lazy_is_of_mounts}
use Rattle.vt_laws_trees.proofs.trees.TreesOfWorlds.{numbered_anyhow}
use Rattle.vt_laws_worlds.specs.Worlds.Filesystems.{OneFilesystemANumber}
use Rattle.vt_laws_worlds.specs.Worlds.Kept.{IsPlain, KeptByPermits}
use Rattle.vt_laws_worlds.specs.Worlds.Permits.{NamesWhatIsThere}
use Rattle.vt_laws_worlds.proofs.worlds.PermitsSeen.{gone_on, replaced_plain, taken_plain}
use Rattle.vt_laws_worlds.proofs.worlds.SeenTrees.{change_of_plain, changed_one, numbers-replaced, unused_by_filesystem}

-- How the filesystems go on: as they were, with one in the place of the one with its number, or with one more
pub data FilesystemsGoOn (before : List (Filesystem ℕ)) : List (Filesystem ℕ) → Type 0 where
  same_ones : (after : List (Filesystem ℕ)) → after ≡ before → FilesystemsGoOn before after
  one_changed : (new : Filesystem ℕ) (after : List (Filesystem ℕ)) → is_overlay new ≡ false
      → after ≡ map (replaced_if_numbered nat_eq new) before → FilesystemsGoOn before after
  one_more : (new : Filesystem ℕ) (after : List (Filesystem ℕ)) → is_overlay new ≡ false
      → ((old : Filesystem ℕ) → Among old before → nat_eq old.number new.number ≡ false)
      → after ≡ before ++ (new ∷ []) → FilesystemsGoOn before after

abbrev AreApart : List (Filesystem ℕ) → Type 0
AreApart list = any_pair (λ (a b : Filesystem ℕ). nat_eq a.number b.number) list ≡ false

abbrev numbers : List (Filesystem ℕ) → List ℕ
numbers list = map (λ (f : Filesystem ℕ). f.number) list

any_by_numbers : (number : ℕ) (list : List (Filesystem ℕ))
    → list_any (λ (other : Filesystem ℕ). nat_eq number other.number) list ≡ list_any (nat_eq number) (numbers list)
any_by_numbers number [] = refl
any_by_numbers number (first ∷ rest) = cc (any_by_numbers number rest)

pair_by_numbers : (list : List (Filesystem ℕ))
    → any_pair (λ (a b : Filesystem ℕ). nat_eq a.number b.number) list ≡ any_pair nat_eq (numbers list)
pair_by_numbers [] = refl
pair_by_numbers (first ∷ rest) = cc (any_by_numbers first.number rest, pair_by_numbers rest)

pub appended_apart : (list : List (Filesystem ℕ)) (new : Filesystem ℕ) → AreApart list
    → ((old : Filesystem ℕ) → Among old list → nat_eq old.number new.number ≡ false) → AreApart (list ++ (new ∷ []))
appended_apart [] new e differ = refl
appended_apart (first ∷ rest) new e differ =
    let parts = or_parts _ _ e in
    cc (
      none_from_among (λ (b : Filesystem ℕ). nat_eq first.number b.number) (rest ++ (new ∷ []))
          (λ b m. ⊎_elim (none_among (λ (x : Filesystem ℕ). nat_eq first.number x.number) rest parts.0 b)
          (λ r. ⊎_elim (λ same. ap (λ (x : Filesystem ℕ). nat_eq first.number x.number) same ∙ differ first (inl refl))
          (λ none. absurd none) r) (among-append rest (new ∷ []) b m)),
      appended_apart rest new parts.1 (λ old m. differ old (inr m)),
    )

go_on_apart : (before after : List (Filesystem ℕ)) → FilesystemsGoOn before after → AreApart before → AreApart after
go_on_apart before after (same_ones list e) apart_all = subst AreApart (sym e) apart_all
go_on_apart before after (one_changed new list one e) apart_all = subst AreApart (sym e) (cc (
  pair_by_numbers (map (replaced_if_numbered nat_eq new) before),
  numbers-replaced new before,
  pair_by_numbers before,
))
go_on_apart before after (one_more new list one differ e) apart_all =
    subst AreApart (sym e) (appended_apart before new apart_all differ)

module _ (world : World ℕ) (fresh : Fresh ℕ) (task : Task ℕ) (plain : IsPlain world)
    (serves : Serves nat_eq world fresh) where
  abbrev after : Permit ℕ → World ℕ
  after permit = (apply nat_eq fresh world task permit).world

  abbrev Goes : Permit ℕ → Type 0
  Goes permit = FilesystemsGoOn world.filesystems (after permit).filesystems

  -- a change is of one filesystem
  changing : (supply : Fresh ℕ) (middle : World ℕ) → IsPlain middle → middle.filesystems ≡ world.filesystems
      → (location : Location ℕ) (change : Change ℕ) → FilesystemsGoOn world.filesystems
      (with_change nat_eq supply middle location change).filesystems
  changing supply middle also same location change =
      let new = changed_one supply middle also location change in
      one_changed new (with_change nat_eq supply middle location change).filesystems
      (numbered_anyhow (λ filesystem. is_overlay filesystem ≡ false)
      (mount_at nat_eq middle location).filesystem middle.filesystems also refl)
      (ap (λ (w : World ℕ). w.filesystems) (change_of_plain supply middle also location change)
      ∙ ap (map (replaced_if_numbered nat_eq new)) same)

  copying : (b : Bool) (file : Location ℕ)
      → FilesystemsGoOn world.filesystems (with_copy nat_eq b fresh world file).filesystems
  copying true file = changing fresh world plain refl file (CopyUp file.node)
  copying false file = same_ones world.filesystems refl

  writing : (file : Location ℕ) (offset : ℕ) (bytes : List ℕ) → FilesystemsGoOn world.filesystems
      (pwritten nat_eq fresh world file offset bytes).filesystems
  writing file offset [] = same_ones world.filesystems refl
  writing file offset (byte ∷ bytes) = changing fresh world plain refl file _

  pub filesystems_go_on : (permit : Permit ℕ) → NamesWhatIsThere world task permit → Goes permit
  filesystems_go_on (ToChange location change) fits = changing fresh world plain refl location change
  filesystems_go_on (ToMake directory name node) fits =
      changing (odds fresh) world plain refl directory (Make directory.node name (evens fresh 0) node)
  filesystems_go_on (ToRemoveDirectory parent name directory) fits =
      changing fresh (without_mounts_on nat_eq world directory) (taken_plain world (gone_on world directory) plain)
      (filesystems-taken_away world (gone_on world directory)) parent (Remove parent.node name directory.node)
  filesystems_go_on (ToRename from old to new object replaced) fits =
      changing fresh (without_replaced nat_eq world replaced) (replaced_plain world replaced plain)
      (filesystems-without_replaced world replaced) from (Move from.node old to.node new object.node)
  filesystems_go_on (ToOpen file access) fits = copying (is_copied_up nat_eq world file access) file
  filesystems_go_on (ToOpenNew directory name node access) fits =
      changing (odds fresh) world plain refl directory (Make directory.node name (evens fresh 0) node)
  filesystems_go_on (ToWritePart file offset bytes) fits = writing file offset bytes
  filesystems_go_on ToExit fits = same_ones (after ToExit).filesystems
      (filesystems-taken_away (without_task world task.name) _)
  filesystems_go_on ToUnshare fits = same_ones (after ToUnshare).filesystems
      (filesystems-taken_away (unshared nat_eq world fresh task) _)
  filesystems_go_on (ToEnterNamespace namespace) fits = same_ones (after (ToEnterNamespace namespace)).filesystems
      (filesystems-taken_away (namespace_entered nat_eq world task namespace) _)
  filesystems_go_on (ToMountPlain place flags) fits =
      one_more (plain_filesystem nat_eq fresh) (after (ToMountPlain place flags)).filesystems refl
      (λ old m. nat_eq_false_turned (evens fresh 0) old.number
      (unused_by_filesystem world fresh serves 0 old m old.number (inl refl))) refl
  filesystems_go_on (ToMountOverlay place overlay flags) fits = absurd fits
  filesystems_go_on (ToUnmount mount) fits = same_ones (after (ToUnmount mount)).filesystems
      (filesystems-taken_away world (going nat_eq world (mount_numbered nat_eq world mount)))
  filesystems_go_on (ToUnmountLazily mount) fits =
      same_ones (after (ToUnmountLazily mount)).filesystems (lazy_is_of_mounts world mount).filesystems
  filesystems_go_on (ToSetType mount word recursive) fits =
      same_ones (after (ToSetType mount word recursive)).filesystems
      (types_are_of_mounts world fresh mount word recursive).filesystems
  filesystems_go_on permit fits = same_ones world.filesystems refl

pub permits_keep_filesystem_numbers : KeptByPermits OneFilesystemANumber
permits_keep_filesystem_numbers world fresh task permit is plain serves called fits =
    go_on_apart _ _ (filesystems_go_on world fresh task plain serves permit fits.names) is.files.one_filesystem
