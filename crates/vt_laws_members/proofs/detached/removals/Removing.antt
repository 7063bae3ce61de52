-- A call of theirs that removes or replaces a directory, with the mounts on it, ends in the part as in the world.
use Rattle.std.proofs.Common.{inl, inr, ◌≡◌, refl, sym, ap, ◌∙◌, ℕ, nat_eq, eqb-true, true, false, true≢false, List, [], ◌∷◌, Option, Some, None, Ok, ◌||◌, option_to_list}
use Rattle.vt_spec.proofs.Common.{Among, Call, Change, Done, FileTree, Filesystem, Fresh, Location, Mount, MountInvariants, Outcome, Rename, TaskName, ToRename, World, and_parts, changed_at, filesystem_at, filesystem_changed, finished, finished_unless, granted, holds_of, is_going, is_overlay, is_own_namespace, judge_in, list_all, members, mount_at, mounts_on, numbers_of_change, numbers_raised, only_looks, part_of, policy, settled, taken_away, used_alone, with_change, without_mounts_on}
use Rattle.vt_spec.specs.Language.Changes
use Rattle.vt_laws_members.proofs.judging.Common.{IsTheirs, its_mount, sealing_of, theirs_from, theirs_used}
use Rattle.vt_laws_members.proofs.Common.{cases_Option, is_own, points_keep_mounts, with_filesystems}
use Rattle.vt_laws_members.specs.Changes.Changes.{EndsAlike}
use Rattle.vt_laws_members.proofs.changes.Common.{RemovingCall, TheirsGo, ended_alike, found_numbered, naming_alone, no_overlay, own_here, part_after, part_mounts, part_taken, plain_points, ran, ran_there, removing_directory, rename_takes_no_numbers, renames_end_alike, replacing, rmdir_takes_no_numbers, run_by, same_caller, swap, unused_numbers, unused_serve, world_after, world_taken}
use Rattle.vt_laws_members.proofs.changes.names.NamesEnding.{alike}
use Rattle.vt_laws_members.specs.Detached.Removals.{RemovalsEndAlike, ReplacementsEndAlike}
use Rattle.vt_laws_members.proofs.detached.removals.Going.{caller_stays, going_with, own_go, same_going}
use Rattle.vt_laws_members.proofs.detached.removals.StillUsed.{seen_here, seen_there, still_used}
use Rattle.vt_laws_members.proofs.detached.removals.TreeParts.{changed_parts}

-- the outcome of a call that changes a plain tree, where something else changed before
abbrev left_with : World ℕ → World ℕ → TaskName → Filesystem ℕ → FileTree ℕ → Outcome ℕ
left_with before now name old files = granted Done (numbers_raised nat_eq before name (old.number ∷ [])
    (settled nat_eq (with_filesystems now (swap old files))))

changes_tree : (before now : World ℕ) (name : TaskName) (call : Call) (supply : Fresh ℕ) (location : Location ℕ)
    (change : Change ℕ) (old : Filesystem ℕ) → only_looks call ≡ false → filesystem_at nat_eq now location ≡ old
    → is_overlay old ≡ false → finished nat_eq before name call (changed_at nat_eq now location)
    (granted Done (with_change nat_eq supply now location change))
    ≡ left_with before now name old (Changes.changed nat_eq old.files change)
changes_tree before now name call supply location change old looks e plain =
    ap (λ b. finished_unless nat_eq (b || false) before name (changed_at nat_eq now location)
    (granted Done (with_change nat_eq supply now location change))) looks
    ∙ ap (λ f. granted Done (numbers_raised nat_eq before name (numbers_of_change nat_eq now f f.overlay)
    (settled nat_eq (filesystem_changed nat_eq supply now f f.overlay change)))) e
    ∙ ap (λ o. granted Done (numbers_raised nat_eq before name (numbers_of_change nat_eq now old o)
    (settled nat_eq (filesystem_changed nat_eq supply now old o change)))) (no_overlay old.overlay plain)

module _ {world : World ℕ} {names : List TaskName} {name : TaskName} {call : Call}
    (it : RemovingCall world names name call) (plain : is_overlay (filesystem_at nat_eq world it.location) ≡ false)
    (fresh other : Fresh ℕ) (judged : judge_in nat_eq fresh world it.task call ≡ Ok it.permit)
    (runs : (w : World ℕ) (supply : Fresh ℕ) → run_by it.it w supply it.task (Ok it.permit) ≡ finished nat_eq w name
    call (changed_at nat_eq (without_mounts_on nat_eq w it.gone) it.location)
    (granted Done (with_change nat_eq supply (without_mounts_on nat_eq w it.gone) it.location it.change))) where
  abbrev part : World ℕ
  part = part_of nat_eq world names

  abbrev old : Filesystem ℕ
  old = filesystem_at nat_eq world it.location

  abbrev files : FileTree ℕ
  files = Changes.changed nat_eq old.files it.change

  one_filesystem : filesystem_at nat_eq world it.gone ≡ old
  one_filesystem = cc it.free.beside

  on_gone : IsTheirs world names it.is.mounts it.gone.mount
  on_gone = theirs_from world names it.is.mounts it.gone.mount it.free.on

  on : IsTheirs world names it.is.mounts it.location.mount
  on = theirs_from world names it.is.mounts it.location.mount (cc (it.free.beside, it.free.on))

  alone : used_alone nat_eq world names (mount_at nat_eq world it.location).filesystem ≡ true
  alone = naming_alone it.naming

  only_own : (mount : Mount ℕ) → Among mount (mounts_on nat_eq world it.gone) → (n : ℕ) → mount.namespace ≡ Some n
      → is_own_namespace nat_eq world names n ≡ true
  only_own = own_here world names it.is it.gone (plain_points world names it.is it.gone
      (cc (one_filesystem, no_overlay old.overlay plain)) (cc (
        one_filesystem,
        found_numbered
            (mount_at nat_eq world it.location).filesystem world.filesystems,
        alone,
      )))

  abbrev list : List ℕ
  list = going_with world names it.is it.gone on_gone only_own

  abbrev go : TheirsGo world names list
  go = record {
    sealing = sealing_of it.it;
    own_go = own_go world names it.is it.gone on_gone only_own;
  }

  abbrev here : World ℕ
  here = world_after go

  abbrev there : World ℕ
  there = part_after go

  same_list : taken_away nat_eq part list ≡ without_mounts_on nat_eq part it.gone
  same_list = cc (same_going world names it.is it.gone on_gone only_own)

  kept_part : MountInvariants nat_eq (taken_away nat_eq part list)
  kept_part = rw same_list (points_keep_mounts part it.gone (part_mounts (sealing_of it.it)))

  -- the mount of the directory is in the caller's namespace, and stays
  directory_stays : is_own world names (members world names) on.0 ≡ true → is_going nat_eq list on.0.number ≡ false
  directory_stays its = elim (cases_Option on.0.namespace) [
    | inl e ↦ absurd (true≢false (sym its ∙ ap (holds_of (is_own_namespace nat_eq world names)) e))
    | inr its ↦ let seen : list_all (nat_eq it.task.namespace) (option_to_list (Some its.0)) ≡ true =
        cc (its_mount world names it.is.mounts it.location.mount on, its.1, it.reached.seen) in
        caller_stays world names it.is it.gone on_gone only_own it.task it.free.bare on.0 on.1
        (its.1 ∙ ap Some (sym (eqb-true it.task.namespace its.0 (and_parts
        (nat_eq it.task.namespace its.0) true seen).0)))
  ]

  run_here : run_by it.it world fresh it.task (Ok it.permit)
      ≡ left_with world here name old files
  run_here = runs world fresh ∙ ap (λ w. finished nat_eq world name call (changed_at nat_eq w it.location)
      (granted Done (with_change nat_eq fresh w it.location it.change))) (world_taken go)
      ∙ changes_tree world here name call fresh it.location it.change old it.looks (seen_here go it.location) plain

  run_there : run_by it.it part other it.task (Ok it.permit)
      ≡ left_with part there name old files
  run_there = cc (
    runs part other,
    same_list,
    part_taken go,
    changes_tree part there name call other it.location
        it.change old it.looks (seen_there go it.location ∙ alike it.naming) plain,
  )

  pub removal_ends : EndsAlike world names name call fresh other
  removal_ends =
      let first : policy nat_eq fresh world name call ≡ left_with world here name old files =
      ap (ran name call world fresh) it.found ∙ ap (run_by it.it world fresh it.task) judged ∙ run_here in
      let second : policy nat_eq other part name call ≡ left_with part there name old files =
      ap (ran name call part other) (same_caller (sealing_of it.it) name it.theirs ∙ it.found)
      ∙ ran_there it.it fresh other it.task it.found judged ∙ run_there in
      ended_alike names name call first second (rw it.stays (record {
        answer = refl;
        part = changed_parts go (points_keep_mounts world it.gone it.is.mounts) kept_part it.location
            (theirs_used world names it.is it.location on) alone
            (still_used go it.location on directory_stays) files name;
      }))

pub removals_end_alike : RemovalsEndAlike
removals_end_alike world names name path it task found fresh other parent entry directory judged plain =
    removal_ends (removing_directory task found (unused_numbers world) (unused_serve world) it parent entry directory
    (rmdir_takes_no_numbers (unused_numbers world) fresh world task path ∙ judged)) plain fresh other judged (λ w supply. refl)

pub replacements_end_alike : ReplacementsEndAlike
replacements_end_alike world names name one two it task found fresh other from old to new object over judged plain =
    by over judged
  where
    by : (o : Option (Location ℕ))
        → judge_in nat_eq fresh world task (Rename one two) ≡ Ok (ToRename from old to new object o)
        → EndsAlike world names name (Rename one two) fresh other
    by None so = renames_end_alike world names name one two it task found fresh other from old to new object so plain
    by (Some gone) so =
        removal_ends (replacing task found (unused_numbers world) (unused_serve world) it from old to new object gone
        (rename_takes_no_numbers (unused_numbers world) fresh world task one two ∙ so)) plain fresh other so (λ w supply. refl)
