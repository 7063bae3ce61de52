-- Calls that mount no overlay leave plain filesystems.
use Rattle.std.proofs.Common.{◌≡◌, refl, sym, ap, subst, true≢false, inl, ℕ, nat_eq, Bool, true, false, List, [], ◌∷◌, Some, None, All}
use Rattle.vt_spec.proofs.Common.{Change, CopyUp, Fresh, Location, Outcome, Permit, Task, TaskName, ToChange, ToMake, ToMountOverlay, ToMountPlain, ToOpen, ToOpenNew, ToRemoveDirectory, ToRename, ToWritePart, World, apply, changed, filesystem_at, filesystem_changed, filesystem_numbered, filesystems-taken_away, filesystems-without_replaced, finished_unless, is_copied_up, is_overlay, mount_at, none_from_not_some, odds, pwritten, settled, with_change, with_copy, with_files, without_mounts_on, without_replaced}
use Rattle.vt_laws_rules.specs.Plain.{IsPlain}
use Rattle.vt_laws_trees.proofs.trees.ChangesByCalls.{new_is_plain, settled_plain}
use Rattle.vt_laws_trees.proofs.trees.ChangesByOthers.{files_stay}
use Rattle.vt_laws_trees.proofs.trees.TreesOfWorlds.{numbered_anyhow, raised_all, replaced_all}

pub plain_numbered : (world : World ℕ) → IsPlain world → (number : ℕ)
    → (filesystem_numbered nat_eq world number).overlay ≡ None
plain_numbered world plain number = none_from_not_some (filesystem_numbered nat_eq world number).overlay
    (numbered_anyhow (λ f. is_overlay f ≡ false) number world.filesystems plain refl)

-- the permit mounts an overlay
abbrev pub is_for_overlay : Permit ℕ → Bool
is_for_overlay (ToMountOverlay place overlay flags) = true
is_for_overlay permit = false

pub same_plain : (world after : World ℕ) → after.filesystems ≡ world.filesystems → IsPlain world → IsPlain after
same_plain world after same plain = subst (All (λ f. is_overlay f ≡ false)) (sym same) plain

change_plain : (fresh : Fresh ℕ) (world : World ℕ) → IsPlain world → (location : Location ℕ) (change : Change ℕ)
    → IsPlain (with_change nat_eq fresh world location change)
change_plain fresh world plain location change =
    subst (λ overlay. IsPlain
    (filesystem_changed nat_eq fresh world (filesystem_at nat_eq world location) overlay change))
    (sym none) (replaced_all (λ f. is_overlay f ≡ false) (with_files (filesystem_at nat_eq world location)
    (changed nat_eq (filesystem_at nat_eq world location).files change))
    world.filesystems plain (inl (ap (λ o. elim o [ None ↦ false | Some f ↦ true ]) none)))
  where
    none : (filesystem_at nat_eq world location).overlay ≡ None
    none = plain_numbered world plain (mount_at nat_eq world location).filesystem

pub permit_plain : (fresh : Fresh ℕ) (world : World ℕ) (task : Task ℕ) (permit : Permit ℕ) → IsPlain world
    → is_for_overlay permit ≡ false → IsPlain (apply nat_eq fresh world task permit).world
permit_plain fresh world task (ToChange location change) plain other = change_plain fresh world plain location change
permit_plain fresh world task (ToMake directory name node) plain other =
    change_plain (odds fresh) world plain directory _
permit_plain fresh world task (ToRemoveDirectory parent name directory) plain other = change_plain fresh _
    (same_plain world (without_mounts_on nat_eq world directory) (filesystems-taken_away world _) plain) parent _
permit_plain fresh world task (ToRename from old to new object replaced) plain other =
    change_plain fresh (without_replaced nat_eq world replaced)
    (same_plain world (without_replaced nat_eq world replaced) (filesystems-without_replaced world replaced) plain)
    from _
permit_plain fresh world task (ToOpen file access) plain other = by (is_copied_up nat_eq world file access)
  where
    by : (copies : Bool) → IsPlain (with_copy nat_eq copies fresh world file)
    by true = change_plain fresh world plain file (CopyUp file.node)
    by false = plain
permit_plain fresh world task (ToOpenNew directory name node access) plain other =
    change_plain (odds fresh) world plain directory _
permit_plain fresh world task (ToWritePart file offset bytes) plain other = by bytes
  where
    by : (bytes : List ℕ) → IsPlain (pwritten nat_eq fresh world file offset bytes)
    by [] = plain
    by (byte ∷ bytes) = change_plain fresh world plain file _
permit_plain fresh world task (ToMountPlain place flags) plain other = new_is_plain world _ refl plain
permit_plain fresh world task (ToMountOverlay place overlay flags) plain other = absurd (true≢false other)
permit_plain fresh world task permit plain other =
    same_plain world (apply nat_eq fresh world task permit).world (files_stay fresh world task permit refl) plain

pub finished_plain : (keeps : Bool) (before : World ℕ) (name : TaskName) (changed : List ℕ) (outcome : Outcome ℕ)
    → IsPlain outcome.world → IsPlain (finished_unless nat_eq keeps before name changed outcome).world
finished_plain true before name changed outcome plain = plain
finished_plain false before name changed outcome plain = raised_all (λ f. is_overlay f ≡ false) changed
    (λ filesystem is. is) (settled nat_eq outcome.world).filesystems (settled_plain outcome.world plain)
