-- An object that is no directory and got a free name is found by that name, and the old one is missing.
use Rattle.std.proofs.Common.{◌≡◌, refl, sym, ◌∙◌, inl, inr, ◌⊎◌, ℕ, nat_eq, Bool, true, false, not, List, Option, Some, None, is_some, Ok, Err, unwrap_or}
use Rattle.vt_spec.proofs.Common.{FileTree, is_among, Done, Fresh, Location, Lstat, Place, Rename, Task, TaskName, Told, World, changed, denial, files_at, holds_of, is_directory_at, is_directory_node, is_directory_there, looks_of, name_of, node_at, object_there, policy, raised_task, same_Some, stat_line, task_called}
use Rattle.vt_laws_later_calls.proofs.Common.{numbers_of, MayBeRenamed, W6}
use Rattle.vt_laws_later_calls.specs.LaterPaths.{LooksFrom, RenameThenLstat}
use Rattle.vt_laws_later_calls.proofs.AfterChange.{all_stays}
use Rattle.vt_laws_later_calls.proofs.Granted.{HasSucceeded, has_succeeded}
use Rattle.vt_laws_later_calls.proofs.Readers.{KnownToo, MayLook, all_stands, caller, leads, own_name, raised_credentials, raised_stands, uncovered}
use Rattle.vt_laws_later_calls.proofs.later.later_calls_see_it_at_the_path.Answers.Unlinked.{Missing}
use Rattle.vt_laws_later_calls.proofs.Ways.{LeadsToo}
use Rattle.vt_laws_later_calls.proofs.later.RenameFits.{IsMovedIn, file_stays, moved_in}
use Rattle.vt_laws_later_calls.proofs.WaysChanges.{TreeStays}
use Rattle.vt_laws_later_calls.proofs.WaysStay.{StandsAs, node_in}
use Rattle.vt_laws_later_calls.proofs.later.AfterRename.{HasRenamed, object_kept, change, changes_tree, free_name, from_tree, left, may, mounts_stay, object_shown, shown}
use Rattle.vt_laws_later_calls.proofs.later.later_calls_see_it_at_the_path.Answers.RenameParts.{NamesParts, names_parts}
use Rattle.vt_laws_later_calls.proofs.later.later_calls_see_it_at_the_path.Answers.FoundByName.{before, new_told, old_missing, old_told}

there_no : (test : Location ℕ → Bool) (o : Option (Location ℕ)) (default : Location ℕ) → not (is_some o) ≡ false
    → holds_of test o ≡ false → test (unwrap_or o default) ≡ false
there_no test None default there e = cc
there_no test (Some a) default there e = e

module _ {world : World ℕ} {fresh : Fresh ℕ} {name : TaskName} {old new : List ℕ} {from to : Place ℕ}
    (it : HasSucceeded world fresh name (Rename old new) Done)
    (parts : NamesParts (looks_of nat_eq world) it.did.task old new from to it.did.permit)
    (file : is_directory_there nat_eq (looks_of nat_eq world) from ≡ false) (free : to.object ≡ None) where
  abbrev object : ℕ
  object = (object_there from).node

  abbrev the_rename : HasRenamed world fresh name (Rename old new) Done from.parent (name_of from.last) to.parent
      (name_of to.last) (object_there from) None
  the_rename = record { success = it; permit_is = cc (parts.permit_is, free); uncovered = parts.uncovered }

  abbrev later : World ℕ
  later = left the_rename

  abbrev files : FileTree ℕ
  files = files_at nat_eq world from.parent

  abbrev seen : MayBeRenamed world from.parent (name_of from.last) to.parent (name_of to.last) (object_there from) None
  seen = may the_rename

  no_directory : is_directory_node (files.tree.node object) ≡ false
  no_directory = cc (
    object_shown the_rename,
    there_no (is_directory_at nat_eq world) from.object from.parent parts.from_there file,
  )

  moved : IsMovedIn object (object ≡ object) files.tree (changed nat_eq files (change the_rename)).tree
  moved = moved_in files from.parent.node (name_of from.last) to.parent.node (name_of to.last) seen.moves.named
      seen.moves.in_directory (free_name the_rename) (object ≡ object) refl

  stay : TreeStays files.tree (changed nat_eq files (change the_rename)).tree Missing
  stay = file_stays moved no_directory Missing refl

  object_later : is_some (node_in later (shown the_rename) object) ≡ true
  object_later = cc (
    all_stays it (changes_tree the_rename) (cc (free_name the_rename)) object,
    (object_kept the_rename).there,
    (from_tree the_rename).tree.alive from.parent.node (name_of from.last) object seen.moves.named,
  )

  module _ (reader : TaskName) (reading : Task ℕ) (called : task_called later reader ≡ Some reading)
      (stands : StandsAs it.did.task reading) (looks : MayLook it.did.task reading) where
    own : task_called later reading.name ≡ Some reading
    own = own_name later reader reading called

    abbrev KnownSo : Location ℕ → Type 0
    KnownSo = KnownToo (changes_tree the_rename) stay reading own stands

    leads_so : LeadsToo (looks_of nat_eq world) (looks_of nat_eq later) it.did.task reading Missing KnownSo
    leads_so = leads (changes_tree the_rename) stay reading own stands moved.rights looks

    found : (here : Location ℕ) → KnownSo here
        → (is_among nat_eq here.mount (numbers_of later.mounts) ≡ true) × (is_some (node_at nat_eq later here) ≡ true)
    found here known = (known.0.1.0.0, known.0.1.1)

    told_there : (later_fresh : Fresh ℕ)
        → ((policy nat_eq later_fresh later reader (Lstat new)).answer ≡ Ok (Told (stat_line (before it parts))))
        ⊎ ((policy nat_eq later_fresh later reader (Lstat new)).answer ≡ Err (denial W6))
    told_there = new_told it parts reader reading called leads_so found (mounts_stay the_rename) object_later

    missing_there : (later_fresh : Fresh ℕ)
        → (policy nat_eq later_fresh later reader (Lstat old)).answer ≡ Err (denial W6)
    missing_there = old_missing it parts reader reading called leads_so found (mounts_stay the_rename) object_later

  caller_there : task_called later name ≡ Some (raised_task name it.did.task)
  caller_there = caller (changes_tree the_rename) stay

pub rename_then_lstat : RenameThenLstat
rename_then_lstat old new world fresh name task from to is plain serves called from_is to_is file free granted = (
  stat_line (before it parts),
  old_told it parts,
  told_there it parts file free name (raised_task name it.did.task) caller_here
      (raised_stands name it.did.task) (inl (raised_credentials name it.did.task)),
  missing_there it parts file free name (raised_task name it.did.task) caller_here (raised_stands name it.did.task)
      (inl (raised_credentials name it.did.task)),
  λ reader reading looks. (
    told_there it parts file free reader reading looks.called (same_stand reader reading looks) (inr looks.all),
    missing_there it parts file free reader reading looks.called (same_stand reader reading looks) (inr looks.all),
  ),
)
  where
    it : HasSucceeded world fresh name (Rename old new) Done
    it = has_succeeded is plain serves refl refl refl granted

    task_is : it.did.task ≡ task
    task_is = same_Some it.did.task task (sym it.did.called ∙ called)

    parts : NamesParts (looks_of nat_eq world) it.did.task old new from to it.did.permit
    parts = names_parts (looks_of nat_eq world) _ it.did.task old new from to it.did.permit (cc (task_is, from_is))
        (cc (task_is, to_is)) (cc free) it.did.judged

    caller_here : task_called (policy nat_eq fresh world name (Rename old new)).world name
        ≡ Some (raised_task name it.did.task)
    caller_here = caller_there it parts file free

    same_stand : (reader : TaskName) (reading : Task ℕ)
        → LooksFrom (policy nat_eq fresh world name (Rename old new)).world task reader reading
        → StandsAs it.did.task reading
    same_stand reader reading looks = rw task_is (all_stands _ task reader reading looks)
