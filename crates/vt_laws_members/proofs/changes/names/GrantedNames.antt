-- Where a granted call of theirs makes, gives or takes a name: in a directory on a mount of theirs.
use Rattle.std.proofs.Common.{◌≡◌, subst, ℕ, nat_eq, Bool, true, false, ◌∷◌, [], List, Option, Some, Ok, Result, IfOk}
use Rattle.vt_spec.proofs.Common.{AddName, Call, Change, CopyUp, Fresh, Location, Looks, Make, Move, Permit, Place, Remove, SetAttr, SetBytes, SetMark, Stop, Task, TaskName, World, is_among, judge_in, looks_of, none_is_some, overfills, part_of, same_Some, used_filesystems, when, ⊤, Serves, task_called}
use Rattle.vt_laws_members.proofs.judging.Common.{IsMember, IsTheirs, JudgesAlike, PlaceAt, caller_in, file_agrees, judges, leads_alike, new_agrees, new_leaf_agrees, old_agrees, old_leaf_agrees, theirs_from}
use Rattle.vt_laws_members.proofs.Common.{IsGranted, calls_are_granted, change_asked, changes_mark, changes_mode, changes_owner, creates, creates_exclusively, makes_directory, makes_hard_link, makes_symlink, makes_whiteout, opens, opens_existing, overwrites_file, removes_directory, renames, unlinks, writes_new_file, writes_part}
use Rattle.vt_laws_trees.specs.Calls.Inodes.{written_if_some}
use Rattle.vt_laws_members.specs.Judging.{is_theirs}
use Rattle.vt_laws_members.specs.Changes.Changes.{IsCallOfTheirs}

-- a change by which a name comes or goes
abbrev pub Names : Change ℕ → Type 0
Names (Make directory name number node) = ⊤
Names (AddName directory name object) = ⊤
Names (Remove directory name object) = ⊤
Names (Move from old to new object) = ⊤
Names (SetBytes file bytes) = ⊥
Names (SetAttr object attr) = ⊥
Names (SetMark directory opaque) = ⊥
Names (CopyUp object) = ⊥

-- a granted call of theirs by which a name comes or goes, and numbers that serve
pub record NamingCall (world : World ℕ) (names : List TaskName) (name : TaskName) (call : Call) : Type 0 where
  pub it : IsCallOfTheirs world names name call
  pub open it use {is, sealed_off, theirs}
  pub task : Task ℕ
  pub found : task_called world name ≡ Some task
  pub fresh : Fresh ℕ
  pub serves : Serves nat_eq world fresh
  pub permit : Permit ℕ
  pub judged : judge_in nat_eq fresh world task call ≡ Ok permit
  pub location : Location ℕ
  pub change : Change ℕ
  pub asks : change_asked fresh world permit ≡ Some (location, change)
  pub comes : Names change

module _ {world : World ℕ} {names : List TaskName} {task : Task ℕ} (member : IsMember world names task)
    (fresh : Fresh ℕ) where
  abbrev one : Looks ℕ
  one = looks_of nat_eq world

  abbrev other : Looks ℕ
  other = looks_of nat_eq (part_of nat_eq world names)

  abbrev On : ℕ → Type 0
  On number = is_theirs world names number ≡ true

  alike : JudgesAlike one other task (is_theirs world names)
      (λ number. is_among nat_eq number (used_filesystems nat_eq world names))
  alike = judges member

  abbrev IsPlaced : Place ℕ → Type 0
  IsPlaced = PlaceAt (leads_alike alike)

  abbrev AreTheirs : Option (Location ℕ × Change ℕ) → Type 0
  AreTheirs asked = (made : Location ℕ × Change ℕ) → asked ≡ Some made → Names made.1 → On made.0.mount

  of : (location : Location ℕ) (change : Change ℕ) → (Names change → On location.mount)
      → AreTheirs (Some (location, change))
  of location change on made e = rw (← same_Some (location, change) made e) on

  placed : (walk : Result (Place ℕ) (Stop ℕ)) (place : Place ℕ) (change : Change ℕ) → IfOk walk IsPlaced
      → walk ≡ Ok place → AreTheirs (Some (place.parent, change))
  placed walk place change ends e = of place.parent change (λ any. (subst (λ r. IfOk r IsPlaced) e ends).0)

  opened : (file : Location ℕ) (copied : Bool) → AreTheirs (when copied (file, CopyUp file.node))
  opened file true = of file (CopyUp file.node) (λ none. absurd none)
  opened file false = λ made e. none_is_some made e

  written : (file : Location ℕ) (offset : ℕ) (bytes : List ℕ) → AreTheirs (written_if_some world file offset bytes)
  written file offset [] = λ made e. none_is_some made e
  written file offset (byte ∷ bytes) = of file _ (λ none. absurd none)

  names_theirs : (asked : Call) (permit : Permit ℕ)
      → IsGranted nat_eq one (overfills nat_eq fresh world task) task asked permit
      → AreTheirs (change_asked fresh world permit)
  names_theirs asked permit (overwrites_file path bytes place file walk named is_there passed) =
      of file _ (λ none. absurd none)
  names_theirs asked permit (writes_new_file path bytes place walk named missing fits passed) =
      placed _ place _ (file_agrees (leads_alike alike) path).1 walk
  names_theirs asked permit (makes_directory path mode place walk passed) =
      placed _ place _ (new_agrees (leads_alike alike) path).1 walk
  names_theirs asked permit (makes_symlink text path place fits walk passed) =
      placed _ place _ (new_leaf_agrees (leads_alike alike) path).1 walk
  names_theirs asked permit (makes_whiteout path place walk passed) =
      placed _ place _ (new_leaf_agrees (leads_alike alike) path).1 walk
  names_theirs asked permit (makes_hard_link old new from place from_walk walk named passed) =
      placed _ place _ (new_leaf_agrees (leads_alike alike) new).1 walk
  names_theirs asked permit (unlinks path place walk named passed) =
      placed _ place _ (old_leaf_agrees (leads_alike alike) path).1 walk
  names_theirs asked permit (removes_directory path place walk word passed) =
      placed _ place _ (old_agrees (leads_alike alike) path).1 walk
  names_theirs asked permit (renames old new from to both two passed) =
      placed _ from _ (old_leaf_agrees (leads_alike alike) old).1 both.from_end
  names_theirs asked permit (changes_mode path mode here walk passed) = of here.location _ (λ none. absurd none)
  names_theirs asked permit (changes_owner path uid gid here walk passed) = of here.location _ (λ none. absurd none)
  names_theirs asked permit (changes_mark path mark here admin walk passed) = of here.location _ (λ none. absurd none)
  names_theirs asked permit (opens path access here few walk passed) = opened here.location _
  names_theirs asked permit (opens_existing path access mode place file few walk named is_there passed) = opened file _
  names_theirs asked permit (creates path access mode place few walk named missing passed) =
      placed _ place _ (file_agrees (leads_alike alike) path).1 walk
  names_theirs asked permit (creates_exclusively path access mode place few walk named passed) =
      placed _ place _ (new_agrees (leads_alike alike) path).1 walk
  names_theirs asked permit (writes_part number offset bytes descriptor found passed) = written _ offset bytes
  names_theirs asked permit granted = λ made e. none_is_some made e

  -- the directory is on a mount of theirs
  pub granted_theirs : (call : Call) (permit : Permit ℕ) → judge_in nat_eq fresh world task call ≡ Ok permit
      → (location : Location ℕ) (change : Change ℕ) → change_asked fresh world permit ≡ Some (location, change)
      → Names change → On location.mount
  granted_theirs call permit judged location change asks comes = names_theirs call permit
      (calls_are_granted nat_eq one _ task call permit judged) (location, change) asks comes

abbrev pub naming_of : {world : World ℕ} {names : List TaskName} {name : TaskName} {call : Call}
    (it : IsCallOfTheirs world names name call) (task : Task ℕ) → task_called world name ≡ Some task
    → (fresh : Fresh ℕ) → Serves nat_eq world fresh
    → (permit : Permit ℕ) → judge_in nat_eq fresh world task call ≡ Ok permit → (location : Location ℕ)
    (change : Change ℕ) → change_asked fresh world permit ≡ Some (location, change) → Names change
    → NamingCall world names name call
naming_of it task found fresh serves permit judged location change asks comes = record {
  it = it;
  task = task;
  found = found;
  fresh = fresh;
  serves = serves;
  permit = permit;
  judged = judged;
  location = location;
  change = change;
  asks = asks;
  comes = comes;
}

-- so it comes or goes on a mount of theirs
pub naming_theirs : {world : World ℕ} {names : List TaskName} {name : TaskName} {call : Call}
    (naming : NamingCall world names name call) → IsTheirs world names naming.is.mounts naming.location.mount
naming_theirs {world} {names} {name} {call} naming =
    theirs_from world names naming.is.mounts naming.location.mount (granted_theirs
    (caller_in naming.it naming.found) naming.fresh call naming.permit naming.judged naming.location naming.change
    naming.asks naming.comes)
