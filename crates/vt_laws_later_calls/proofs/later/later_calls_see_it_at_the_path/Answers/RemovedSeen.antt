-- The name of a directory that was removed is missing.
use Rattle.std.proofs.Common.{◌≡◌, refl, sym, ap, subst, ◌∙◌, inl, inr, ◌⊎◌, ℕ, nat_eq, false, List, Some, None, Ok, Err, Bool}
use Rattle.vt_spec.proofs.Common.{Done, Fresh, IsWorld, Location, Looks, Lstat, Permit, Place, Rmdir, Task, TaskName, ToRemoveDirectory, World, denial, is_special, looks_of, name_of, object_there, old_walk, place_walk, policy, raised_task, same_Some, special_word, task_called}
use Rattle.vt_laws_later_calls.proofs.Common.{Deny, IsGranted, IsPlain, W6, W8, removes_directory, same_location_itself}
use Rattle.vt_laws_later_calls.specs.Later.{IsOneInode}
use Rattle.vt_laws_later_calls.specs.LaterPaths.{RmdirThenLstat}
use Rattle.vt_laws_later_calls.proofs.later.AfterRemoval.{caller, is_left, mounts_seen, name_left, objects_stay, own_task, rights_left, seen_to}
use Rattle.vt_laws_later_calls.proofs.Granted.{HasSucceeded, has_succeeded}
use Rattle.vt_laws_later_calls.proofs.Looked.{lstat_refused}
use Rattle.vt_laws_later_calls.proofs.Readers.{MayLook, all_stands, own_name, raised_credentials, raised_stands, stepped_by}
use Rattle.vt_laws_later_calls.proofs.later.RemovalFits.{Fits, IsOutside, fits_ways}
use Rattle.vt_laws_later_calls.proofs.later.later_calls_see_it_at_the_path.Answers.Unlinked.{Missing, old_parts}
use Rattle.vt_laws_later_calls.proofs.Ways.{LeadsToo, same_end}
use Rattle.vt_laws_later_calls.proofs.later.LeadsStill.{leads_still}
use Rattle.vt_laws_later_calls.proofs.later.WaysLeft.{there_later, Known, SeesStill, node_here}
use Rattle.vt_laws_later_calls.proofs.WaysPlaces.{named_place, symlink_missing}
use Rattle.vt_laws_later_calls.proofs.WaysStay.{StandsAs}

-- a name may be missing, or a directory lost
abbrev MissingOrLost : Deny → Type 0
MissingOrLost deny = (deny ≡ denial W6) ⊎ (deny ≡ denial W8)

-- what a granted rmdir was permitted
record RmdirParts (looks : Looks ℕ) (task : Task ℕ) (path : List ℕ) (place : Place ℕ) (permit : Permit ℕ) : Type 0 where
  walked : place_walk nat_eq looks task path ≡ Ok place
  named : is_special place.last ≡ false
  permit_is : permit ≡ ToRemoveDirectory place.parent (name_of place.last) (object_there place)

rmdir_parts : (looks : Looks ℕ) {too_many : Permit ℕ → Bool} (task : Task ℕ) (path : List ℕ) (place : Place ℕ)
    (permit : Permit ℕ) → old_walk nat_eq looks task path ≡ Ok place
    → IsGranted nat_eq looks too_many task (Rmdir path) permit → RmdirParts looks task path place permit
rmdir_parts looks task path place permit walk (removes_directory _ other end word passed) =
    let same : other ≡ place = same_end other place (cc) in
    record {
      walked = (old_parts looks task path place walk).0;
      named = cc (special_word other.last word.0 word.1.0 word.1.1.0);
      permit_is = cc;
    }

module _ {world : World ℕ} {fresh : Fresh ℕ} {name : TaskName} {path : List ℕ} {place : Place ℕ}
    (it : HasSucceeded world fresh name (Rmdir path) Done)
    (parts : RmdirParts (looks_of nat_eq world) it.did.task path place it.did.permit) where
  abbrev later : World ℕ
  later = (policy nat_eq fresh world name (Rmdir path)).world

  abbrev word : List ℕ
  word = name_of place.last

  module _ (reader : TaskName) {reading : Task ℕ} (called : task_called later reader ≡ Some reading)
      (stands : StandsAs it.did.task reading) (looks : MayLook it.did.task reading) (Refused : Deny → Type 0)
      (missing : Refused (denial W6)) where
    abbrev Fit : Location ℕ → Type 0
    Fit = Fits it parts.permit_is reading stands.root Refused

    abbrev is_later : IsWorld nat_eq later × IsPlain later
    is_later = is_left it parts.permit_is

    abbrev still : SeesStill it.is is_later it.did.task reading Refused Fit
    still = record {
      called = own_task it parts.permit_is;
      called_later = own_name later reader reading called;
      stands = stands;
      seen = mounts_seen it parts.permit_is reading stands.root;
      stay = objects_stay it parts.permit_is Refused missing;
      fits = fits_ways it parts.permit_is reading stands.root Refused;
    }

    abbrev KnownSo : Location ℕ → Type 0
    KnownSo = Known it.is is_later it.did.task reading still

    module _ (root_fits : Fit it.did.task.root) (directory_fits : Fit it.did.task.directory) where
      leads : LeadsToo (looks_of nat_eq world) (looks_of nat_eq later) it.did.task reading Refused KnownSo
      leads = leads_still still looks (rights_left it parts.permit_is) root_fits directory_fits

      gone : (later_fresh : Fresh ℕ)
          → (deny : Deny) × Refused deny × ((policy nat_eq later_fresh later reader (Lstat path)).answer ≡ Err deny)
      gone later_fresh =
          let stop = symlink_missing leads path place parts.named (named_place (looks_of nat_eq world) it.did.task path
          place parts.walked parts.named) (denial W6) missing (λ known. stepped_by later reading place.parent place.last
          parts.named None (cc (
            node_here it.is is_later it.did.task reading still place.parent known.0,
            name_left it parts.permit_is (there_later it.is is_later it.did.task reading still place.parent known.0),
          ))) in
          (stop.0.deny, stop.1, lstat_refused later later_fresh reader called path stop.0 stop.2)

  abbrev OutsideOf : Task ℕ → Location ℕ → Type 0
  OutsideOf reading here = (roots : reading.root ≡ it.did.task.root) → IsOutside it parts.permit_is reading roots here

  root_outside : (reading : Task ℕ) → OutsideOf reading it.did.task.root
  root_outside reading roots removed = cc (same_location_itself it.did.task.root)

  same_mount : (object_there place).mount ≡ place.parent.mount
  same_mount = (seen_to it parts.permit_is).0

  directory_outside : (IsOneInode world it.did.task.directory (object_there place) → ⊥) → (reading : Task ℕ)
      → OutsideOf reading it.did.task.directory
  directory_outside other reading roots removed = absurd (other (cc (removed.0, same_mount), removed.1))

  module _ (reader : TaskName) (reading : Task ℕ) (called : task_called later reader ≡ Some reading)
      (stands : StandsAs it.did.task reading) (looks : MayLook it.did.task reading) where
    gone_or_lost : (later_fresh : Fresh ℕ)
        → ((policy nat_eq later_fresh later reader (Lstat path)).answer ≡ Err (denial W6))
        ⊎ ((policy nat_eq later_fresh later reader (Lstat path)).answer ≡ Err (denial W8))
    gone_or_lost later_fresh =
        let refused = gone reader called stands looks MissingOrLost (inl refl) (inl (inr refl))
        (inl (inr refl)) later_fresh in
        by refused.0 refused.1 refused.2
      where
        by : (deny : Deny) → MissingOrLost deny
            → (policy nat_eq later_fresh later reader (Lstat path)).answer ≡ Err deny
            → ((policy nat_eq later_fresh later reader (Lstat path)).answer ≡ Err (denial W6))
            ⊎ ((policy nat_eq later_fresh later reader (Lstat path)).answer ≡ Err (denial W8))
        by deny (inl same) e = inl (cc)
        by deny (inr same) e = inr (cc)

    gone_outside : (IsOneInode world it.did.task.directory (object_there place) → ⊥) → (later_fresh : Fresh ℕ)
        → (policy nat_eq later_fresh later reader (Lstat path)).answer ≡ Err (denial W6)
    gone_outside other later_fresh =
        let refused = gone reader called stands looks Missing refl (inr (root_outside reading stands.root))
        (inr (directory_outside other reading stands.root)) later_fresh in
        refused.2 ∙ ap Err refused.1

pub rmdir_then_lstat : RmdirThenLstat
rmdir_then_lstat path world fresh name task place is plain serves called walk granted = (
  gone_or_lost it parts name (raised_task name it.did.task) caller_here
      (raised_stands name it.did.task) (inl (raised_credentials name it.did.task)),
  λ reader reading looks. gone_or_lost it parts reader reading looks.called
      (subst (λ t. StandsAs t reading) (sym task_is) (all_stands _ task reader reading looks)) (inr looks.all),
  λ elsewhere. (
    gone_outside it parts name (raised_task name it.did.task) caller_here
        (raised_stands name it.did.task) (inl (raised_credentials name it.did.task)) (outside elsewhere),
    λ reader reading looks. gone_outside it parts reader reading looks.called
        (subst (λ t. StandsAs t reading) (sym task_is) (all_stands _ task reader reading looks)) (inr looks.all)
        (outside elsewhere),
  ),
)
  where
    it : HasSucceeded world fresh name (Rmdir path) Done
    it = has_succeeded is plain serves refl refl refl granted

    task_is : it.did.task ≡ task
    task_is = same_Some it.did.task task (sym it.did.called ∙ called)

    outside : (IsOneInode world task.directory (object_there place) → ⊥)
        → IsOneInode world it.did.task.directory (object_there place) → ⊥
    outside elsewhere one = elsewhere
        (subst (λ (t : Task ℕ). IsOneInode world t.directory (object_there place)) task_is one)

    parts : RmdirParts (looks_of nat_eq world) it.did.task path place it.did.permit
    parts = rmdir_parts (looks_of nat_eq world) it.did.task path place it.did.permit
        (ap (λ t. old_walk nat_eq (looks_of nat_eq world) t path) task_is ∙ walk) it.did.granted

    caller_here : task_called (policy nat_eq fresh world name (Rmdir path)).world name
        ≡ Some (raised_task name it.did.task)
    caller_here = caller it parts.permit_is
