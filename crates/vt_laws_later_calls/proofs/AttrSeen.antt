-- Attributes that were set are told.
use Rattle.std.proofs.Common.{◌≡◌, refl, sym, ap, subst, ◌∙◌, inl, inr, ◌⊎◌, ⊎_elim, ℕ, nat_eq, true, List, Option, Some, None, is_some, Ok, Err, Bool}
use Rattle.vt_spec.proofs.Common.{Call, Change, Chmod, Chown, Done, Fresh, Here, IsWorld, Looks, Node, Permit, SetAttr, Stat, StatLine, Task, TaskName, ToChange, Told, World, attr_in, attr_with_mode, attr_with_owner, changed, denial, files_at, looks_of, node_at, node_with_attr, object_walk, policy, raised_task, same_Some, stat_line, task_called}
use Rattle.vt_laws_later_calls.proofs.Common.{Attr, Deny, End, Ends, IsGranted, W4, changed_node_there, changes_mode, changes_owner, object_end}
use Rattle.vt_laws_later_calls.specs.LaterPaths.{ChmodThenStat, ChownThenStat, IsAnsweredUnless, IsSeenByAll, reads_all}
use Rattle.vt_laws_later_calls.specs.Later.{IsAnswered}
use Rattle.vt_laws_later_calls.proofs.AfterChange.{ChangesTree, changes_there}
use Rattle.vt_laws_later_calls.proofs.Granted.{HasSucceeded, has_succeeded}
use Rattle.vt_laws_later_calls.proofs.Looked.{stat_of, stat_refused}
use Rattle.vt_laws_later_calls.proofs.MadeSeen.{Never}
use Rattle.vt_laws_later_calls.proofs.Readers.{KnownToo, all_stands, caller, leads_all, leads_or_hides, own_name, raised_stands, seen_there}
use Rattle.vt_laws_later_calls.proofs.Stays.{called_own}
use Rattle.vt_laws_later_calls.proofs.Ways.{Ends as EndsToo, LeadsToo}
use Rattle.vt_laws_later_calls.proofs.WaysChanges.{TreeStays, ways_with_attr}
use Rattle.vt_laws_later_calls.proofs.WaysPlaces.{object_too, EndsSo}
use Rattle.vt_laws_later_calls.proofs.WaysStay.{StandsAs}

-- what a walk to an object finds is there
pub object_there_is : (world : World ℕ) → IsWorld nat_eq world → (task : Task ℕ)
    → task_called world task.name ≡ Some task
    → (path : List ℕ) (here : Here ℕ) → object_walk nat_eq (looks_of nat_eq world) task path ≡ Ok here
    → is_some (node_at nat_eq world here.location) ≡ true
object_there_is world is task called path here walk =
    (subst (Ends (λ here. End world is task called here.location)) walk (object_end world is task called path)).0.1

-- what stat tells of an object with other attributes
line_with_attr : (attr : Attr) (o : Option (Node ℕ)) → is_some o ≡ true
    → stat_line (node_with_attr attr o) ≡ record (stat_line o) { attr = attr }
line_with_attr attr None e = cc
line_with_attr attr (Some node) e = refl

abbrev Hidden : Deny → Type 0
Hidden deny = deny ≡ denial W4

-- A call that sets the attributes of what an object's walk finds
module _ (path : List ℕ) (set : Attr → Attr) {world : World ℕ} {fresh : Fresh ℕ} {name : TaskName} {call : Call}
    (it : HasSucceeded world fresh name call Done) (here : Here ℕ)
    (walked : object_walk nat_eq (looks_of nat_eq world) it.did.task path ≡ Ok here)
    (permit : it.did.permit ≡ ToChange here.location
    (SetAttr here.location.node (set (attr_in (node_at nat_eq world here.location))))) where
  abbrev later : World ℕ
  later = (policy nat_eq fresh world name call).world

  abbrev attr : Attr
  attr = set (attr_in (node_at nat_eq world here.location))

  abbrev change : Change ℕ
  change = SetAttr here.location.node attr

  something : is_some (node_at nat_eq world here.location) ≡ true
  something = object_there_is world it.is it.did.task (called_own it) path here walked

  abbrev changes : ChangesTree it here.location change fresh
  changes = changes_there it permit something tt

  stay : (Refused : Deny → Type 0) → TreeStays (files_at nat_eq world here.location).tree
      (changed nat_eq (files_at nat_eq world here.location) change).tree Refused
  stay Refused = ways_with_attr (files_at nat_eq world here.location) Refused here.location.node attr

  -- what stat tells where its walk leads there
  told : (Refused : Deny → Type 0) (reader : TaskName) (reading : Task ℕ)
      (called : task_called later reader ≡ Some reading) (stands : StandsAs it.did.task reading)
      (leads : LeadsToo (looks_of nat_eq world) (looks_of nat_eq later) it.did.task reading Refused
      (KnownToo changes (stay Refused) reading (own_name later reader reading called) stands)) (later_fresh : Fresh ℕ)
      → ((policy nat_eq later_fresh later reader (Stat path)).answer
      ≡ Ok (Told (record (stat_line (node_at nat_eq world here.location)) { attr = attr })))
      ⊎ ((deny : Deny) × Refused deny × ((policy nat_eq later_fresh later reader (Stat path)).answer ≡ Err deny))
  told Refused reader reading called stands leads later_fresh =
      by (object_too leads path here walked)
    where
      by : EndsToo leads (object_walk nat_eq (looks_of nat_eq later) reading path) here
          → ((policy nat_eq later_fresh later reader (Stat path)).answer
          ≡ Ok (Told (record (stat_line (node_at nat_eq world here.location)) { attr = attr })))
          ⊎ ((deny : Deny) × Refused deny × ((policy nat_eq later_fresh later reader (Stat path)).answer ≡ Err deny))
      by (inl ends) =
          inl (cc (
            stat_of later later_fresh reader called path _ ends.0.1,
            seen_there changes (stay Refused) reading (own_name later reader reading called) stands ends.1,
            changed_node_there (files_at nat_eq world here.location)
                here.location.node (node_with_attr attr),
            line_with_attr attr (node_at nat_eq world here.location) something,
          ))
      by (inr stop) = inr (stop.0.deny, stop.1, stat_refused later later_fresh reader called path stop.0 stop.2)

  caller_there : task_called later name ≡ Some (raised_task name it.did.task)
  caller_there = caller changes (stay Never)

  own_told : (later_fresh : Fresh ℕ) → ((policy nat_eq later_fresh later name (Stat path)).answer
      ≡ Ok (Told (record (stat_line (node_at nat_eq world here.location)) { attr = attr })))
      ⊎ ((policy nat_eq later_fresh later name (Stat path)).answer ≡ Err (denial W4))
  own_told later_fresh = ⊎_elim inl (λ refused. inr (refused.2 ∙ ap Err refused.1))
      (told Hidden name (raised_task name it.did.task) caller_there (raised_stands name it.did.task)
      (leads_or_hides changes (stay Hidden)
      (raised_task name it.did.task) (own_name later name (raised_task name it.did.task) caller_there)
      (raised_stands name it.did.task) refl) later_fresh)

  all_told : (reader : TaskName) (reading : Task ℕ) → task_called later reader ≡ Some reading
      → StandsAs it.did.task reading → reads_all reading.credentials ≡ true → (later_fresh : Fresh ℕ)
      → (policy nat_eq later_fresh later reader (Stat path)).answer
      ≡ Ok (Told (record (stat_line (node_at nat_eq world here.location)) { attr = attr }))
  all_told reader reading called stands all later_fresh = ⊎_elim (λ e. e) (λ refused. absurd refused.1)
      (told Never reader reading called stands
      (leads_all changes (stay Never) reading (own_name later reader reading called) stands all) later_fresh)

-- chmod(2), chown(2)
chmod_parts : (looks : Looks ℕ) {too_many : Permit ℕ → Bool} (task : Task ℕ) (path : List ℕ) (mode : ℕ)
    (permit : Permit ℕ) → IsGranted nat_eq looks too_many task (Chmod path mode) permit
    → (here : Here ℕ) × (object_walk nat_eq looks task path ≡ Ok here) × (permit ≡ ToChange here.location
    (SetAttr here.location.node (attr_with_mode (attr_in (looks.node here.location)) mode)))
chmod_parts looks task path mode permit (changes_mode _ _ here end passed) = (here, end, refl)

chown_parts : (looks : Looks ℕ) {too_many : Permit ℕ → Bool} (task : Task ℕ) (path : List ℕ) (uid gid : Option ℕ)
    (permit : Permit ℕ) → IsGranted nat_eq looks too_many task (Chown path uid gid) permit
    → (here : Here ℕ) × (object_walk nat_eq looks task path ≡ Ok here) × (permit ≡ ToChange here.location
    (SetAttr here.location.node (attr_with_owner (attr_in (looks.node here.location)) uid gid)))
chown_parts looks task path uid gid permit (changes_owner _ _ _ here end passed) = (here, end, refl)

tells : {call : Call} (path : List ℕ) (set : Attr → Attr) {world : World ℕ} {fresh : Fresh ℕ} {name : TaskName}
    (task : Task ℕ) → task_called world name ≡ Some task → (it : HasSucceeded world fresh name call Done)
    (here : Here ℕ)
    → object_walk nat_eq (looks_of nat_eq world) it.did.task path ≡ Ok here → it.did.permit ≡ ToChange here.location
    (SetAttr here.location.node (set (attr_in (node_at nat_eq world here.location))))
    → (line : StatLine) × IsAnswered world name (Stat path) (Told line)
    × IsAnsweredUnless W4 (policy nat_eq fresh world name call).world name (Stat path)
    (Told (record line { attr = set line.attr }))
    × IsSeenByAll (policy nat_eq fresh world name call).world task (Stat path)
    (Told (record line { attr = set line.attr }))
tells path set {world = world} task called it here walked permit = (
  stat_line (node_at nat_eq world here.location),
  λ other_fresh. stat_of world other_fresh _ it.did.called path here walked,
  own_told path set it here walked permit,
  λ reader reading looks. all_told path set it here walked permit reader reading looks.called
      (subst (λ t. StandsAs t reading) (same_Some task it.did.task (sym called ∙ it.did.called))
      (all_stands _ task reader reading looks)) looks.all,
)

pub chmod_then_stat : ChmodThenStat
chmod_then_stat path mode world fresh name task is plain serves called granted =
    let it : HasSucceeded world fresh name (Chmod path mode) Done = has_succeeded is plain serves refl refl refl granted
    in
    let parts = chmod_parts (looks_of nat_eq world) it.did.task path mode it.did.permit it.did.granted in
    tells path (λ attr. attr_with_mode attr mode) task called it parts.0 parts.1 parts.2

pub chown_then_stat : ChownThenStat
chown_then_stat path uid gid world fresh name task is plain serves called granted =
    let it : HasSucceeded world fresh name (Chown path uid gid) Done = has_succeeded is plain serves refl refl refl
    granted in
    let parts = chown_parts (looks_of nat_eq world) it.did.task path uid gid it.did.permit it.did.granted in
    tells path (λ attr. attr_with_owner attr uid gid) task called it parts.0 parts.1 parts.2
