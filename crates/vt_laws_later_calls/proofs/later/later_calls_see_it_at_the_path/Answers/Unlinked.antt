-- A name that was removed is missing.
use Rattle.std.proofs.Common.{◌≡◌, refl, sym, ap, subst, ◌∙◌, inl, inr, ℕ, nat_eq, true, false, not, ◌&&◌, List, [], ◌∷◌, Some, None, is_some, Ok, Err, Bool}
use Rattle.vt_spec.proofs.Common.{FileTree, changed, Change, Done, Fresh, Looks, Lstat, Permit, Place, Task, TaskName, ToChange, Unlink, World, denial, directory_from_entry, directory_used, files_at, is_directory_at, is_directory_there, is_special, looks_of, name_of, object_there, old_walk, place_walk, policy, raised_task, removing, same_Some, task_called}
use Rattle.vt_laws_later_calls.proofs.Common.{Deny, IsGranted, SeesTo, W3, W6, unlinks}
use Rattle.vt_laws_later_calls.specs.LaterPaths.{UnlinkThenLstat}
use Rattle.vt_laws_later_calls.proofs.Granted.{HasSucceeded, has_succeeded}
use Rattle.vt_laws_later_calls.proofs.Looked.{lstat_refused}
use Rattle.vt_laws_later_calls.proofs.Readers.{MayLook, all_stands, caller, leads, own_name, raised_credentials, raised_stands, seen_there, stepped_by}
use Rattle.vt_laws_later_calls.proofs.Ways.{both_walked, walk_passing}
use Rattle.vt_laws_later_calls.proofs.AfterChange.{ChangesTree, changes_there, sees_to}
use Rattle.vt_laws_later_calls.proofs.WaysChanges.{TreeStays}
use Rattle.vt_laws_later_calls.proofs.later.WaysRemoved.{removed_name, removed_rights, ways_removed}
use Rattle.vt_laws_later_calls.proofs.WaysPlaces.{named_place, symlink_missing}
use Rattle.vt_laws_later_calls.proofs.WaysStay.{StandsAs}

-- a name may be missing
abbrev pub Missing : Deny → Type 0
Missing deny = deny ≡ denial W6

-- what a walk to an old name found
pub old_parts : (looks : Looks ℕ) (task : Task ℕ) (path : List ℕ) (place : Place ℕ)
    → old_walk nat_eq looks task path ≡ Ok place
    → (place_walk nat_eq looks task path ≡ Ok place) × (not (is_some place.object) ≡ false)
old_parts looks task path place e =
    let walks = both_walked (place_walk nat_eq looks task path) _ place e in
    let parts = walk_passing walks.0.steps ((not (is_some walks.0.object), W6) ∷ []) walks.0 place walks.2 in
    (walks.1 ∙ ap Ok parts.1, cc (parts.1, parts.0.0))

-- what a granted unlink was permitted
record UnlinkParts (looks : Looks ℕ) (task : Task ℕ) (path : List ℕ) (permit : Permit ℕ) : Type 0 where
  place : Place ℕ
  walked : place_walk nat_eq looks task path ≡ Ok place
  named : is_special place.last ≡ false
  permit_is : permit ≡ ToChange place.parent (removing place (object_there place))

unlink_parts : (looks : Looks ℕ) {too_many : Permit ℕ → Bool} (task : Task ℕ) (path : List ℕ) (permit : Permit ℕ)
    → IsGranted nat_eq looks too_many task (Unlink path) permit → UnlinkParts looks task path permit
unlink_parts looks task path permit (unlinks _ place end named passed) =
    let olds = both_walked (old_walk nat_eq looks task path) _ place end in
    let slash = walk_passing olds.0.steps
    ((olds.0.slash && not (is_directory_there nat_eq looks olds.0), W3) ∷ []) olds.0 place olds.2 in
    let old = old_parts looks task path place (olds.1 ∙ ap Ok slash.1) in
    record { place = place; walked = old.0; named = named.0; permit_is = refl }

module _ {world : World ℕ} {fresh : Fresh ℕ} {name : TaskName} {path : List ℕ}
    (it : HasSucceeded world fresh name (Unlink path) Done)
    (parts : UnlinkParts (looks_of nat_eq world) it.did.task path it.did.permit) where
  abbrev place : Place ℕ
  place = parts.place

  abbrev change : Change ℕ
  change = removing place (object_there place)

  abbrev later : World ℕ
  later = (policy nat_eq fresh world name (Unlink path)).world

  seen_to : SeesTo world it.did.task (ToChange place.parent change)
  seen_to = subst (SeesTo world it.did.task) parts.permit_is (sees_to it)

  in_directory : is_directory_at nat_eq world place.parent ≡ true
  in_directory = directory_from_entry (name_of place.last) (object_there place).node
      ((files_at nat_eq world place.parent).tree.node place.parent.node) seen_to.1.named

  abbrev changes : ChangesTree it place.parent change fresh
  changes = changes_there it parts.permit_is
      (directory_used (files_at nat_eq world place.parent).tree place.parent.node in_directory) tt

  abbrev files : FileTree ℕ
  files = files_at nat_eq world place.parent

  abbrev entry : List ℕ
  entry = name_of place.last

  stay : TreeStays files.tree (changed nat_eq files change).tree Missing
  stay = ways_removed files place.parent.node entry (object_there place).node seen_to.1 seen_to.2 Missing refl

  gone : (reader : TaskName) (reading : Task ℕ) → task_called later reader ≡ Some reading
      → StandsAs it.did.task reading → MayLook it.did.task reading → (later_fresh : Fresh ℕ)
      → (policy nat_eq later_fresh later reader (Lstat path)).answer ≡ Err (denial W6)
  gone reader reading called stands looks later_fresh =
      let own = own_name later reader reading called in
      let rights = removed_rights files place.parent.node entry (object_there place).node seen_to.1 in
      let at = named_place (looks_of nat_eq world) it.did.task path place parts.walked parts.named in
      let stop = symlink_missing (leads changes stay reading own stands rights looks) path place parts.named at
      (denial W6) refl (λ known. stepped_by later reading place.parent place.last parts.named None (cc (
        seen_there changes stay reading own stands known,
        removed_name files place.parent.node entry (object_there place).node seen_to.1,
      ))) in
      lstat_refused later later_fresh reader called path stop.0 stop.2 ∙ ap Err stop.1

  caller_there : task_called later name ≡ Some (raised_task name it.did.task)
  caller_there = caller changes stay

pub unlink_then_lstat : UnlinkThenLstat
unlink_then_lstat path world fresh name task is plain serves called granted = (
  gone it parts name (raised_task name it.did.task) (caller_there it parts) (raised_stands name it.did.task)
      (inl (raised_credentials name it.did.task)),
  λ reader reading looks. gone it parts reader reading looks.called
      (subst (λ t. StandsAs t reading) (sym task_is) (all_stands _ task reader reading looks)) (inr looks.all),
)
  where
    it : HasSucceeded world fresh name (Unlink path) Done
    it = has_succeeded is plain serves refl refl refl granted

    task_is : it.did.task ≡ task
    task_is = same_Some it.did.task task (sym it.did.called ∙ called)

    parts : UnlinkParts (looks_of nat_eq world) it.did.task path it.did.permit
    parts = unlink_parts (looks_of nat_eq world) it.did.task path it.did.permit it.did.granted
