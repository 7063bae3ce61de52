-- Every call but the mount of an overlay keeps names, link texts and files within the limits.
use Rattle.std.proofs.Common.{arith, eq-eqb, ◌≡◌, refl, sym, ap, subst, ◌∙◌, true≢false, ℕ, ◌+◌, ◌≤◌, nat_eq, nat_le, le-leb, leb-true, ltb-false, Bool, true, false, not, cond, List, [], ◌∷◌, ◌++◌, length, ◌&&◌, inl, inr, ⊎_elim, Option, Some, None, is_some, ok_or, length-append, length-drop, length-take, All}
use Rattle.vt_spec.proofs.Common.{Access, All-append, All-cons, All-filter, All-nil, Call, Change, CopyUp, Filesystem, Fresh, Location, Node, NoneFails, Outcome, Permit, Place, SetBytes, Task, TaskName, ToOpen, World, and_parts, apply, bytes_in, call_outcome, changed, common_steps, denial, evens, files_at, filesystem_at, filesystem_changed, filesystem_lives, filesystems-taken_away, filesystems-without_replaced, filesystems_raised, finished_unless, is_copied_up, is_directory_there, is_empty, is_fit_filesystem, is_overlay, is_special, largest_file, list_all, list_any, longest_path, looks_of, making, mount_at, moving, new_directory, new_file, new_plain, node_at, node_with_bytes, none_from_not_some, object_there, odds, open_new_permit, or_false_left, overfills, overwritten, plain_filesystem, pwritten, raised, raised_if_changed, removing, root_attr, settled, task_called, with_change, with_copy, with_files, with_new, without_dead_filesystems, without_dead_in, without_dead_mounts, without_mounts_on, without_replaced}
use Rattle.std.proofs.lemmas.List.Sums.{AllPass-from_list_all, list_all-from_AllPass}
use Rattle.vt_spec.specs.declared.errors.Rule.TheVariants.{S2}
use Rattle.vt_spec.proofs.Tables.{pwrite_rules}
use Rattle.vt_laws_trees.specs.Trees.Calls.{mounts_overlay}
use Rattle.vt_laws_trees.specs.Trees.Sizes.{CallsKeepSizes, IsFitChange, IsFitWorld, OpeningIsFit, is_fit_node, is_fit_tree}
use Rattle.vt_laws_trees.proofs.trees.ChangesByCalls.{without_dead_plain}
use Rattle.vt_laws_trees.proofs.trees.ChangesByOthers.{files_stay}
use Rattle.vt_laws_trees.proofs.trees.ChangesOfSizes.{changed_fits_there, changes_keep_sizes, fits, settling_keeps_sizes}
use Rattle.vt_laws_trees.proofs.trees.TreesOfWorlds.{number_numbered, numbered_all, numbered_anyhow, raised_all, replaced_all}
use Rattle.vt_laws_trees.proofs.trees.TreesSizes.{HasFitLast, fit_name_of, no_longer}
use Rattle.vt_laws_trees.proofs.trees.TreesTasks.{all_appended, all_mapped, and_from}
use Rattle.vt_laws_trees.proofs.trees.TreesWalked.{after_holds}
use Rattle.vt_laws_rules.proofs.given.CallsGranted.{call_holds}
use Rattle.vt_laws_rules.proofs.given.Ways.{IsGranted}
use Rattle.vt_spec.specs.Machine.Judging.{directory_made, symlink_made, whiteout_made}
use Rattle.vt_laws_rules.proofs.given.Ways.IsGranted.{changes_mark, changes_mode, changes_owner, creates, creates_exclusively, makes_directory, makes_hard_link, makes_symlink, makes_whiteout, mounts_overlayfs, mounts_tmpfs, opens, opens_existing, overwrites_file, removes_directory, renames, unlinks, writes_new_file, writes_part}
use Rattle.vt_laws_trees.proofs.trees.PlacesReached.{file_is, new_is, new_leaf_is, rename_new_is}

-- a new tree
new_plain_fits : (number root : ℕ) → is_fit_filesystem (new_plain nat_eq number root) ≡ true
new_plain_fits number root = and_from (fits ((new_plain nat_eq number root).files.tree.node root)) true
    (ap (λ b. fits (cond b (Some (record { attr = root_attr; content = new_directory root })) None))
    (eq-eqb root root refl)) refl

-- worlds with the same filesystems
pub alike_fit : (a b : World ℕ) → a.filesystems ≡ b.filesystems → IsFitWorld b → IsFitWorld a
alike_fit a b same conditions = record {
  plain = subst (All (λ f. is_overlay f ≡ false)) (sym same) conditions.plain;
  fit = cc (conditions.fit);
}

-- a change of a filesystem
module _ (fresh : Fresh ℕ) (world : World ℕ) (location : Location ℕ) (change : Change ℕ) where
  abbrev old : Filesystem ℕ
  old = filesystem_at nat_eq world location

  abbrev new : Filesystem ℕ
  new = with_files old (changed nat_eq old.files change)

  no_overlay : IsFitWorld world → old.overlay ≡ None
  no_overlay conditions = none_from_not_some old.overlay (numbered_anyhow (λ f. is_overlay f ≡ false)
      (mount_at nat_eq world location).filesystem world.filesystems conditions.plain refl)

  pub change_fits : IsFitWorld world → (is_fit_tree (files_at nat_eq world location) ≡ true
      → is_fit_tree (changed nat_eq (files_at nat_eq world location) change) ≡ true)
      → IsFitWorld (with_change nat_eq fresh world location change)
  change_fits conditions keeps =
      subst IsFitWorld (sym (ap (λ o. filesystem_changed nat_eq fresh world old o change) (no_overlay conditions)))
      (record {
        plain = replaced_all (λ f. is_overlay f ≡ false) new world.filesystems conditions.plain
            (inl (ap is_some (no_overlay conditions)));
        fit = list_all-from_AllPass is_fit_filesystem _ (replaced_all (λ f. is_fit_filesystem f ≡ true)
            new world.filesystems fitting (⊎_elim (λ is. inl (keeps is)) (λ missing. inr (subst
            (λ n. All (λ f. nat_eq n f.number ≡ false) world.filesystems) (sym (number_numbered _ world.filesystems))
            missing.1)) (numbered_all (λ f. is_fit_filesystem f ≡ true) _ world.filesystems fitting)));
      })
    where
      fitting : All (λ f. is_fit_filesystem f ≡ true) world.filesystems
      fitting = AllPass-from_list_all is_fit_filesystem world.filesystems conditions.fit

-- bytes written into a file end where they end, or where it ended
pub overwritten_length : (offset : ℕ) (more bytes : List ℕ) (most : ℕ) → offset + length more ≤ most
    → length bytes ≤ most → length (overwritten offset more bytes) ≤ most
overwritten_length offset more bytes most short old =
    grind (arith, common_steps, length-append, length-drop, length-take)

overwritten_fits : (offset : ℕ) (more : List ℕ) → offset + length more ≤ largest_file → (o : Option (Node ℕ))
    → fits o ≡ true → fits (node_with_bytes (overwritten offset more (bytes_in o)) o) ≡ true
overwritten_fits offset more short None k = k
overwritten_fits offset more short (Some node) k =
    grind (arith, common_steps, le-leb, overwritten_length, leb-true, and_parts)

module _ (fresh : Fresh ℕ) (world : World ℕ) (task : Task ℕ) (conditions : IsFitWorld world) where
  -- a change within the limits, also after mounts were taken away
  fit_change : (any : Fresh ℕ) (location : Location ℕ) (change : Change ℕ) → IsFitChange change
      → IsFitWorld (with_change nat_eq any world location change)
  fit_change any location change fit = change_fits any world location change conditions
      (λ small. changes_keep_sizes (files_at nat_eq world location) change small fit)

  fit_change_after : (any : Fresh ℕ) (before : World ℕ) → before.filesystems ≡ world.filesystems
      → (location : Location ℕ) (change : Change ℕ) → IsFitChange change
      → IsFitWorld (with_change nat_eq any before location change)
  fit_change_after any before same location change fit =
      change_fits any before location change (alike_fit before world same conditions)
      (λ small. changes_keep_sizes (files_at nat_eq before location) change small fit)

  fit_new : (place : Place ℕ) (node : Node ℕ) → HasFitLast world task place → is_special place.last ≡ false
      → is_fit_node node ≡ true → IsFitWorld (with_new nat_eq fresh world place node)
  fit_new place node last plain fit =
      fit_change (odds fresh) place.parent (making place (evens fresh 0) node) (fit_name_of place.last plain last, fit)

  fit_pwritten : (file : Location ℕ) (offset : ℕ) (bytes : List ℕ)
      → NoneFails (pwrite_rules nat_eq world file offset bytes)
      → IsFitWorld (pwritten nat_eq fresh world file offset bytes)
  fit_pwritten file offset [] passed = conditions
  fit_pwritten file offset (byte ∷ bytes) passed =
      change_fits fresh world file _ conditions (changed_fits_there (files_at nat_eq world file)
      file.node (node_with_bytes (overwritten offset (byte ∷ bytes) (bytes_in (node_at nat_eq world file))))
      (overwritten_fits offset
      (byte ∷ bytes) (ltb-false largest_file (offset + length (byte ∷ bytes)) passed.0) (node_at nat_eq world file)))

  -- open(2)
  fit_opened : (file : Location ℕ) (access : Access)
      → IsFitWorld (apply nat_eq fresh world task (ToOpen file access)).world
  fit_opened file access = alike_fit _ _ refl (by (is_copied_up nat_eq world file access))
    where
      by : (b : Bool) → IsFitWorld (with_copy nat_eq b fresh world file)
      by true = fit_change fresh file (CopyUp file.node) tt
      by false = conditions

  fit_created : (place : Place ℕ) (access : Access) (mode : ℕ) → HasFitLast world task place
      → is_special place.last ≡ false
      → IsFitWorld (apply nat_eq fresh world task (open_new_permit task place access mode)).world
  fit_created place access mode last plain = alike_fit _ _ refl (fit_new place
      (new_file task mode []) last plain (ap (λ b. b && true && true) (le-leb 0 largest_file (omega arith))))

  -- a new plain filesystem
  fit_more : (after_call : World ℕ) → after_call.filesystems ≡ world.filesystems ++ (plain_filesystem nat_eq fresh ∷ [])
      → IsFitWorld after_call
  fit_more after_call same = record {
    plain = subst (All (λ f. is_overlay f ≡ false)) (sym same) (All-append (λ f. is_overlay f ≡ false) world.filesystems
        _ conditions.plain (All-cons (λ f. is_overlay f ≡ false) (plain_filesystem nat_eq fresh) [] refl (All-nil _)));
    fit = ap (list_all is_fit_filesystem) same
        ∙ all_appended is_fit_filesystem world.filesystems (plain_filesystem nat_eq fresh) conditions.fit
        (new_plain_fits (evens fresh 0) (evens fresh 1));
  }

  -- each way in which a call is granted
  granted_fits : (call : Call) (permit : Permit ℕ) → mounts_overlay call ≡ false
      → IsGranted nat_eq (looks_of nat_eq world) (overfills nat_eq fresh world task) task call permit
      → IsFitWorld (apply nat_eq fresh world task permit).world
  granted_fits call permit other (overwrites_file path bytes place file end named there passed) =
      fit_change fresh file (SetBytes file.node bytes) (no_longer largest_file bytes passed.1.0)
  granted_fits call permit other (writes_new_file path bytes place end named missing fits passed) =
      fit_new place _ (file_is world task path place end).1 (or_false_left (is_special place.last) place.slash named.0)
      (ap (λ b. b && true && true) (no_longer largest_file bytes fits.0))
  granted_fits call permit other (makes_directory path mode place end passed) =
      fit_new place (directory_made task place mode) (new_is world task path place end).1 passed.0 refl
  granted_fits call permit other (makes_symlink text path place fits end passed) =
      fit_new place (symlink_made task text) (new_leaf_is world task path place end).1 passed.0 (ap (λ b. b && true)
      (and_from (not (is_empty text)) (nat_le (length text) longest_path) (ap not fits.0)
      (no_longer longest_path text fits.1.0)))
  granted_fits call permit other (makes_whiteout path place end passed) =
      fit_new place (whiteout_made task) (new_leaf_is world task path place end).1 passed.0 refl
  granted_fits call permit other (makes_hard_link _ new from place from_end end named passed) =
      fit_change fresh place.parent _ (fit_name_of place.last named.0 (new_leaf_is world task new place end).1)
  granted_fits call permit other (unlinks path place end named passed) = fit_change fresh place.parent _ tt
  granted_fits call permit other (removes_directory path place end word passed) =
      fit_change_after fresh (without_mounts_on nat_eq world (object_there place)) (filesystems-taken_away world _)
      place.parent (removing place (object_there place)) tt
  granted_fits call permit other (renames _ new from to names another passed) =
      fit_change_after fresh (without_replaced nat_eq world to.object) (filesystems-without_replaced world to.object)
      from.parent (moving from to (object_there from)) (fit_name_of to.last names.to_named.0
      (rename_new_is world task new (is_directory_there nat_eq (looks_of nat_eq world) from) to names.to_end).1)
  granted_fits call permit other (changes_mode path mode here end passed) = fit_change fresh here.location _ tt
  granted_fits call permit other (changes_owner path uid gid here end passed) = fit_change fresh here.location _ tt
  granted_fits call permit other (changes_mark path mark here admin end passed) = fit_change fresh here.location _ tt
  granted_fits call permit other (opens path access here room end passed) = fit_opened here.location access
  granted_fits call permit other (opens_existing path access mode place file room end named there passed) =
      fit_opened file access
  granted_fits call permit other (creates path access mode place room end named missing passed) =
      fit_created place access mode (file_is world task path place end).1
      (or_false_left (is_special place.last) place.slash named.0)
  granted_fits call permit other (creates_exclusively path access mode place room end named passed) =
      fit_created place access mode (new_is world task path place end).1 named.0
  granted_fits call permit other (writes_part number offset bytes descriptor found passed) =
      fit_pwritten descriptor.location offset bytes passed
  granted_fits call permit other (mounts_tmpfs path flags here admin end passed) = fit_more _ refl
  granted_fits call permit other (mounts_overlayfs path words flags here layers admin end walked layered passed) =
      absurd (true≢false other)
  granted_fits call permit other granted = alike_fit _ world (files_stay fresh world task permit refl) conditions

  pub outcome_fits : (call : Call) → mounts_overlay call ≡ false
      → IsFitWorld (call_outcome nat_eq fresh world task call).world
  outcome_fits call other =
      call_holds IsFitWorld fresh world task call conditions (λ permit granted. granted_fits call permit other granted)

fit_settled : (world : World ℕ) → IsFitWorld world → IsFitWorld (settled nat_eq world)
fit_settled world conditions =
    let mounted = without_dead_mounts nat_eq world in
    let living = without_dead_filesystems nat_eq mounted in
    let plain_living : All (λ f. is_overlay f ≡ false) living.filesystems =
    All-filter (filesystem_lives nat_eq mounted) (λ f. is_overlay f ≡ false) world.filesystems conditions.plain in
    record {
      plain = without_dead_plain (λ f. not (is_overlay f)) (without_dead_in nat_eq is_overlay living)
          (without_dead_plain is_overlay living plain_living);
      fit = settling_keeps_sizes world conditions.fit;
    }

fit_raised : (changed : List ℕ) (world : World ℕ) → IsFitWorld world
    → IsFitWorld (filesystems_raised nat_eq changed world)
fit_raised changed world conditions = record {
  plain = raised_all (λ f. is_overlay f ≡ false) changed (λ f is. is) world.filesystems conditions.plain;
  fit = all_mapped is_fit_filesystem (raised_if_changed nat_eq changed) keeps world.filesystems conditions.fit;
}
  where
    keeps : (f : Filesystem ℕ) → is_fit_filesystem f ≡ true
        → is_fit_filesystem (raised_if_changed nat_eq changed f) ≡ true
    keeps f h = by (list_any (λ number. nat_eq number f.number) changed)
      where
        by : (b : Bool) → is_fit_filesystem (cond b (record f { change = raised f.change }) f) ≡ true
        by true = h
        by false = h

fit_finished : (before : World ℕ) (name : TaskName) (changed : List ℕ) (outcome : Outcome ℕ) (b : Bool)
    → IsFitWorld outcome.world → IsFitWorld (finished_unless nat_eq b before name changed outcome).world
fit_finished before name changed outcome true conditions = conditions
fit_finished before name changed outcome false conditions =
    alike_fit _ _ refl (fit_raised changed (settled nat_eq outcome.world) (fit_settled outcome.world conditions))

pub calls_keep_sizes : CallsKeepSizes
calls_keep_sizes world fresh name call conditions other =
    after_holds IsFitWorld world (ok_or (task_called world name) (denial S2)) _ conditions (λ task found.
    fit_finished world name _ (call_outcome nat_eq fresh world task call) _
    (outcome_fits fresh world task conditions call other))

pub opening_is_fit : OpeningIsFit
opening_is_fit fresh = record {
  plain = All-cons (λ f. is_overlay f ≡ false) (new_plain nat_eq (fresh 2) (fresh 3)) [] refl (All-nil _);
  fit = and_from _ true (new_plain_fits (fresh 2) (fresh 3)) refl;
}
