-- A directory that was renamed is found at its new path, by whoever stands outside of it, and its old path is missing.
use Rattle.std.proofs.Common.{⊎_elim, ◌≡◌, refl, ap, ◌∙◌, inl, inr, ◌⊎◌, ℕ, nat_eq, true, false, cond, List, Option, Some, None, is_some, map, Ok, Err}
use Rattle.vt_spec.proofs.Common.{Done, Fresh, IsWorld, Location, Ls, Lstat, Names, Node, Place, Rename, StatLine, Task, TaskName, ToRename, Told, World, denial, directory_walk, files_at, is_directory_at, is_directory_node, is_directory_there, is_one_object, looks_of, mount_at, name_of, names_in, new_walk, node_allows, node_at, object_there, old_leaf_walk, policy, raised_task, read_right, same_Some, stat_line, task_called, is_among}
use Rattle.vt_spec.specs.declared.errors.Rule.{Rule}
use Rattle.vt_laws_later_calls.proofs.Common.{numbers_of, C1, IsKept, IsPlain, W6, directory_no_link}
use Rattle.vt_laws_later_calls.specs.LaterNames.{IsAnsweredUnlessBy, RenameDirectoryThenList, RenameDirectoryThenLstat, StandsOutside}
use Rattle.vt_laws_later_calls.specs.Later.{IsAnswered}
use Rattle.vt_laws_later_calls.specs.LaterPaths.{IsAnsweredUnless, IsRefused, LooksFrom, reads_all}
use Rattle.vt_laws_later_calls.proofs.later.AfterRename.{mounts_stay, to_shown}
use Rattle.vt_laws_later_calls.proofs.Granted.{HasSucceeded, has_succeeded}
use Rattle.vt_laws_later_calls.proofs.Looked.{list_of, listed_or_refused, list_refused, read_all}
use Rattle.vt_laws_later_calls.proofs.Readers.{MayLook, all_stands, own_name, raised_credentials, raised_stands}
use Rattle.vt_laws_later_calls.proofs.later.LeadsStill.{leads_still}
use Rattle.vt_laws_later_calls.proofs.later.RenameFits.{HasMoved, Fits, caller, directory_fits, fs, left_is, object_later, objects_stay, rights_left, root_fits}
use Rattle.vt_laws_later_calls.proofs.later.RenameWays.{fits_ways, mounts_seen}
use Rattle.vt_laws_later_calls.proofs.Stays.{called_own}
use Rattle.vt_laws_later_calls.proofs.later.later_calls_see_it_at_the_path.Answers.RenameParts.{NamesParts, names_parts}
use Rattle.vt_laws_later_calls.proofs.later.later_calls_see_it_at_the_path.Answers.FoundByName.{before, directory_kept, is_directory_before, kept, new_stepped, new_told, old_missing, place_after, old_listed, old_told}
use Rattle.vt_laws_later_calls.proofs.later.later_calls_see_it_at_the_path.Answers.Unlinked.{Missing}
use Rattle.vt_laws_later_calls.proofs.Ways.{LeadsToo}
use Rattle.vt_laws_later_calls.proofs.later.WaysLeft.{Known, SeesStill}
use Rattle.vt_laws_later_calls.proofs.WaysPlaces.{EndsThere, directory_named_too, named_place, NamedPlace}
use Rattle.vt_laws_later_calls.proofs.WaysStay.{StandsAs}

module _ {world : World ℕ} {fresh : Fresh ℕ} {name : TaskName} {old new : List ℕ} {from to : Place ℕ}
    (moved : HasMoved world fresh name (Rename old new) Done from.parent (name_of from.last) to.parent (name_of to.last)
    (object_there from)) (parts : NamesParts (looks_of nat_eq world) moved.renamed.success.did.task old new from to
    moved.renamed.success.did.permit) where
  abbrev it : HasSucceeded world fresh name (Rename old new) Done
  it = moved.renamed.success

  abbrev later : World ℕ
  later = (policy nat_eq fresh world name (Rename old new)).world

  abbrev is_left : IsWorld nat_eq later × IsPlain later
  is_left = left_is moved

  abbrev Fit : Location ℕ → Type 0
  Fit = Fits moved

  same_mounts : later.mounts ≡ world.mounts
  same_mounts = mounts_stay moved.renamed

  shown_after : (mount_at nat_eq later to.parent).filesystem ≡ fs moved
  shown_after = cc (same_mounts, to_shown moved.renamed)

  abbrev after : Location ℕ
  after = place_after it parts to.parent shown_after

  kept_after : IsKept (before it parts) (node_at nat_eq later after)
  kept_after = kept it parts to.parent shown_after (object_later moved)

  directory_there : is_directory_at nat_eq later after ≡ true
  directory_there = directory_kept (before it parts) (node_at nat_eq later after) kept_after ∙ moved.is_directory

  module _ (reader : TaskName) (reading : Task ℕ) (called : task_called later reader ≡ Some reading)
      (stands : StandsAs it.did.task reading) (looks : MayLook it.did.task reading) where
    abbrev still : SeesStill it.is is_left it.did.task reading Missing Fit
    still = record {
      called = called_own it;
      called_later = own_name later reader reading called;
      stands = stands;
      seen = mounts_seen moved reading stands.root;
      stay = objects_stay moved Missing refl;
      fits = fits_ways moved reading stands.root Missing;
    }

    abbrev KnownSo : Location ℕ → Type 0
    KnownSo = Known it.is is_left it.did.task reading still

    leads : LeadsToo (looks_of nat_eq world) (looks_of nat_eq later) it.did.task reading Missing KnownSo
    leads = leads_still still looks (rights_left moved) (root_fits moved) (directory_fits moved)

    found : (here : Location ℕ) → KnownSo here
        → (is_among nat_eq here.mount (numbers_of later.mounts) ≡ true) × (is_some (node_at nat_eq later here) ≡ true)
    found here known = (known.0.1.0.0, known.0.1.1)

    told_there : (later_fresh : Fresh ℕ)
        → ((policy nat_eq later_fresh later reader (Lstat new)).answer ≡ Ok (Told (stat_line (before it parts))))
        ⊎ ((policy nat_eq later_fresh later reader (Lstat new)).answer ≡ Err (denial W6))
    told_there = new_told it parts reader reading called leads found same_mounts (object_later moved)

    missing_there : (later_fresh : Fresh ℕ)
        → (policy nat_eq later_fresh later reader (Lstat old)).answer ≡ Err (denial W6)
    missing_there = old_missing it parts reader reading called leads found same_mounts (object_later moved)

    -- its names
    at_new : NamedPlace (looks_of nat_eq world) it.did.task new to
    at_new = named_place (looks_of nat_eq world) it.did.task new to parts.to_walked parts.to_named

    abbrev ListWalk : Type 0
    ListWalk = EndsThere Missing (directory_walk nat_eq (looks_of nat_eq later) reading new) after at_new.here.left

    list_walk : ListWalk
    list_walk = directory_named_too leads new to parts.to_named at_new after (λ known. new_stepped it parts to.parent
        shown_after (found _ known).1 reading to.last parts.to_named (found _ known).0 refl refl)
        (directory_no_link (node_at nat_eq later after) directory_there) directory_there

    abbrev Listed : Fresh ℕ → Type 0
    Listed later_fresh =
        (policy nat_eq later_fresh later reader (Ls new)).answer ≡ Ok (Names (names_in (before it parts)))

    abbrev RefusedBy : Fresh ℕ → Rule → Type 0
    RefusedBy later_fresh rule = (policy nat_eq later_fresh later reader (Ls new)).answer ≡ Err (denial rule)

    new_listed : (later_fresh : Fresh ℕ) → Listed later_fresh ⊎ (RefusedBy later_fresh C1 ⊎ RefusedBy later_fresh W6)
    new_listed later_fresh = by list_walk
      where
        by : ListWalk → Listed later_fresh ⊎ (RefusedBy later_fresh C1 ⊎ RefusedBy later_fresh W6)
        by (inl ends) = ⊎_elim inl (λ refused. inr (inl refused)) (listed_or_refused later later_fresh reader called
            new is_left.1 _ ends.1 (names_in (before it parts)) (cc kept_after.names))
        by (inr stop) = inr (inr (list_refused later later_fresh reader called new stop.0 stop.2 ∙ ap Err stop.1))

    all_listed : reads_all reading.credentials ≡ true → (later_fresh : Fresh ℕ)
        → Listed later_fresh ⊎ RefusedBy later_fresh W6
    all_listed all later_fresh = by list_walk
      where
        may_read : (o : Option (Node ℕ)) → is_directory_node o ≡ true
            → node_allows reading.credentials read_right o ≡ true
        may_read None directory = cc
        may_read (Some node) directory = read_all reading.credentials all node.attr node.content

        by : ListWalk → Listed later_fresh ⊎ RefusedBy later_fresh W6
        by (inl ends) = inl (list_of later later_fresh reader called new is_left.1 _ ends.1
            ∙ ap (λ b. cond b (Ok (Names (names_in (node_at nat_eq later after)))) (Err (denial C1)))
            (may_read (node_at nat_eq later after) directory_there)
            ∙ ap (λ entries. Ok (Names (map (λ (entry : List ℕ × ℕ). entry.0) entries))) kept_after.names)
        by (inr stop) = inr (list_refused later later_fresh reader called new stop.0 stop.2 ∙ ap Err stop.1)

-- what a granted rename of a directory to a free name was permitted, by the task that stands outside
module _ {old new : List ℕ} {world : World ℕ} {fresh : Fresh ℕ} {name : TaskName} {task : Task ℕ} {from to : Place ℕ}
    (it : HasSucceeded world fresh name (Rename old new) Done) (called : task_called world name ≡ Some task)
    (from_is : old_leaf_walk nat_eq (looks_of nat_eq world) task old ≡ Ok from)
    (to_is : new_walk nat_eq (looks_of nat_eq world) task new ≡ Ok to)
    (directory : is_directory_there nat_eq (looks_of nat_eq world) from ≡ true) (free : to.object ≡ None)
    (stands : StandsOutside world task (object_there from)) where
  abbrev RenamedTold : Type 0
  RenamedTold = (line : StatLine) × IsAnswered world name (Lstat old) (Told line)
      × IsAnsweredUnless W6 (policy nat_eq fresh world name (Rename old new)).world name (Lstat new) (Told line)
      × IsRefused W6 (policy nat_eq fresh world name (Rename old new)).world name (Lstat old)
      × ((reader : TaskName) (reading : Task ℕ)
      → LooksFrom (policy nat_eq fresh world name (Rename old new)).world task reader reading
      → IsAnsweredUnless W6 (policy nat_eq fresh world name (Rename old new)).world reader (Lstat new) (Told line)
      × IsRefused W6 (policy nat_eq fresh world name (Rename old new)).world reader (Lstat old))

  abbrev RenamedListed : Type 0
  RenamedListed = (names : List (List ℕ)) × IsAnsweredUnless C1 world name (Ls old) (Names names)
      × IsAnsweredUnlessBy C1 W6 (policy nat_eq fresh world name (Rename old new)).world name (Ls new) (Names names)
      × ((reader : TaskName) (reading : Task ℕ)
      → LooksFrom (policy nat_eq fresh world name (Rename old new)).world task reader reading
      → IsAnsweredUnless W6 (policy nat_eq fresh world name (Rename old new)).world reader (Ls new) (Names names))

  task_is : it.did.task ≡ task
  task_is = same_Some it.did.task task (cc it.did.called)

  to_here : new_walk nat_eq (looks_of nat_eq world) it.did.task new ≡ Ok to
  to_here = cc task_is

  two : is_one_object nat_eq (looks_of nat_eq world) (object_there from) to.object ≡ false
  two = cc

  parts : NamesParts (looks_of nat_eq world) it.did.task old new from to it.did.permit
  parts = names_parts (looks_of nat_eq world) _ it.did.task old new from to it.did.permit (cc task_is) to_here two
      it.did.judged

  permit_is : it.did.permit ≡ ToRename from.parent (name_of from.last) to.parent (name_of to.last) (object_there from)
      None
  permit_is = cc parts.permit_is

  is_dir : is_directory_node ((files_at nat_eq world from.parent).tree.node (object_there from).node) ≡ true
  is_dir = is_directory_before it parts directory

  outside : StandsOutside world it.did.task (object_there from)
  outside = rw task_is stands

  abbrev moved : HasMoved world fresh name (Rename old new) Done from.parent (name_of from.last) to.parent
      (name_of to.last) (object_there from)
  moved = record {
    renamed = record { success = it; permit_is = permit_is; uncovered = parts.uncovered };
    is_directory = is_dir;
    outside = outside;
  }

  caller_here : task_called (policy nat_eq fresh world name (Rename old new)).world name
      ≡ Some (raised_task name it.did.task)
  caller_here = caller moved

  same_stand : (reader : TaskName) (reading : Task ℕ)
      → LooksFrom (policy nat_eq fresh world name (Rename old new)).world task reader reading
      → StandsAs it.did.task reading
  same_stand reader reading looks = rw task_is (all_stands _ task reader reading looks)

  moved_told : RenamedTold
  moved_told = (
    stat_line (before it parts),
    old_told it parts,
    told_there moved parts name (raised_task name it.did.task) caller_here (raised_stands name it.did.task)
        (inl (raised_credentials name it.did.task)),
    missing_there moved parts name (raised_task name it.did.task) caller_here (raised_stands name it.did.task)
        (inl (raised_credentials name it.did.task)),
    λ reader reading looks. (
      told_there moved parts reader
          reading looks.called (same_stand reader reading looks) (inr looks.all),
      missing_there moved parts reader
          reading looks.called (same_stand reader reading looks) (inr looks.all),
    ),
  )

  moved_listed : RenamedListed
  moved_listed = (
    names_in (before it parts),
    old_listed it parts directory,
    new_listed moved parts name (raised_task name it.did.task) caller_here (raised_stands name it.did.task)
        (inl (raised_credentials name it.did.task)),
    λ reader reading looks. all_listed moved parts reader
        reading looks.called (same_stand reader reading looks) (inr looks.all) looks.all,
  )

pub rename_directory_then_lstat : RenameDirectoryThenLstat
rename_directory_then_lstat old new world fresh name task from to is plain serves called from_is to_is directory free
    stands granted =
    moved_told (has_succeeded is plain serves refl refl refl granted) called from_is to_is directory free stands

pub rename_directory_then_list : RenameDirectoryThenList
rename_directory_then_list old new world fresh name task from to is plain serves called from_is to_is directory free
    stands granted =
    moved_listed (has_succeeded is plain serves refl refl refl granted) called from_is to_is directory free stands
