-- A name more leads to the object of the old one.
use Rattle.std.proofs.Common.{◌≡◌, ◌≢◌, refl, sym, ap, subst, ◌∙◌, inl, inr, true≢false, ℕ, nat_eq, eqb-true, true, false, List, Some, is_some, Ok, option_to_list, Bool}
use Rattle.vt_spec.proofs.Common.{Change, Done, Fresh, Here, LinkTo, Location, Looks, Lstat, Permit, Place, Task, TaskName, ToChange, Told, World, changed, directory_used, entries_in, entry_named, files_at, is_directory_at, is_special, linking, looks_of, name_of, node_at, not-false, place_walk, policy, raised_task, same_Some, stat_line, symlink_walk, task_called, topmost}
use Rattle.vt_spec.specs.Machine.Looks as Look
use Rattle.vt_laws_later_calls.proofs.Common.{IsGranted, SeesTo, makes_hard_link}
use Rattle.vt_laws_later_calls.specs.LaterPaths.{LinkThenLstat}
use Rattle.vt_laws_later_calls.specs.Later.{IsAnswered}
use Rattle.vt_laws_later_calls.proofs.AfterChange.{ChangesTree, changes_there, sees_to, all_stays, later_mounts}
use Rattle.vt_laws_later_calls.proofs.Granted.{HasSucceeded, has_succeeded}
use Rattle.vt_laws_later_calls.proofs.Looked.{lstat_of}
use Rattle.vt_laws_later_calls.proofs.MadeSeen.{Never, new_leaf_parts, no_slash_there, surely}
use Rattle.vt_laws_later_calls.proofs.Readers.{MayLook, all_stands, caller, leads, own_name, raised_credentials, raised_stands, seen_at, seen_there, stepped_by, uncovered}
use Rattle.vt_laws_later_calls.proofs.WaysChanges.{RightsStay, TreeStays, name_leads, named_other, rights_named, ways_named}
use Rattle.vt_laws_later_calls.proofs.WaysPlaces.{named_place, symlink_named_too}
use Rattle.vt_laws_later_calls.proofs.WaysStay.{StandsAs}

-- what a granted link was permitted
record LinkParts (looks : Looks ℕ) (task : Task ℕ) (old new : List ℕ) (permit : Permit ℕ) : Type 0 where
  from : Here ℕ
  found : symlink_walk nat_eq looks task old ≡ Ok from
  place : Place ℕ
  walked : place_walk nat_eq looks task new ≡ Ok place
  named : is_special place.last ≡ false
  no_slash : place.slash ≡ false
  no_directory : Look.is_directory_at looks from.location ≡ false
  one_mount : nat_eq from.location.mount place.parent.mount ≡ true
  permit_is : permit ≡ ToChange place.parent (linking from.location place)

link_parts : (looks : Looks ℕ) {too_many : Permit ℕ → Bool} (task : Task ℕ) (old new : List ℕ) (permit : Permit ℕ)
    → IsGranted nat_eq looks too_many task (LinkTo old new) permit → LinkParts looks task old new permit
link_parts looks task old new permit (makes_hard_link _ _ from place from_end end word passed) =
    let leaf = new_leaf_parts looks task new place end in
    record {
      from = from;
      found = from_end;
      place = place;
      walked = leaf.0;
      named = word.0;
      no_slash = no_slash_there place.slash (is_some place.object) passed.0 leaf.1;
      no_directory = passed.1.0;
      one_mount = not-false _ passed.1.1.1.1.1.0;
      permit_is = refl;
    }

module _ {world : World ℕ} {fresh : Fresh ℕ} {name : TaskName} {old new : List ℕ}
    (it : HasSucceeded world fresh name (LinkTo old new) Done)
    (parts : LinkParts (looks_of nat_eq world) it.did.task old new it.did.permit) where
  abbrev place : Place ℕ
  place = parts.place

  abbrev object : Location ℕ
  object = parts.from.location

  abbrev change : Change ℕ
  change = linking object place

  abbrev later : World ℕ
  later = (policy nat_eq fresh world name (LinkTo old new)).world

  seen_to : SeesTo world it.did.task (ToChange place.parent change)
  seen_to = subst (SeesTo world it.did.task) parts.permit_is (sees_to it)

  in_directory : is_directory_at nat_eq world place.parent ≡ true
  in_directory = seen_to.1.name_is_free.in_directory

  abbrev changes : ChangesTree it place.parent change fresh
  changes = changes_there it parts.permit_is
      (directory_used (files_at nat_eq world place.parent).tree place.parent.node in_directory) tt

  stay : TreeStays (files_at nat_eq world place.parent).tree
      (changed nat_eq (files_at nat_eq world place.parent) change).tree Never
  stay = ways_named (files_at nat_eq world place.parent) Never place.parent.node
      (name_of place.last) object.node in_directory seen_to.1.name_is_free.free

  rights : RightsStay (files_at nat_eq world place.parent).tree
      (changed nat_eq (files_at nat_eq world place.parent) change).tree
  rights = rights_named (files_at nat_eq world place.parent) Never place.parent.node
      (name_of place.last) object.node in_directory seen_to.1.name_is_free.free

  -- the object, through the mount of the new name
  same_object : object ≡ record { mount = place.parent.mount; node = object.node }
  same_object = λ i. record { mount = eqb-true object.mount place.parent.mount parts.one_mount i; node = object.node }

  object_other : object.node ≢ place.parent.node
  object_other same = true≢false (cc (in_directory, same_object, parts.no_directory))

  there : (reader : TaskName) (reading : Task ℕ) → task_called later reader ≡ Some reading
      → StandsAs it.did.task reading → MayLook it.did.task reading
      → IsAnswered later reader (Lstat new) (Told (stat_line (node_at nat_eq world object)))
  there reader reading called stands looks later_fresh =
      let own = own_name later reader reading called in
      let at_name = named_place (looks_of nat_eq world) it.did.task new place parts.walked parts.named in
      let walk = surely _ _ _ (symlink_named_too (leads changes stay reading own stands rights looks) new
      place parts.named at_name (record { mount = place.parent.mount; node = object.node }) (λ known.
      stepped_by later reading place.parent place.last parts.named (Some object.node)
      (ap (λ o. entry_named (name_of place.last) (entries_in o)) (seen_there changes stay reading own stands known)
      ∙ name_leads (files_at nat_eq world place.parent) Never place.parent.node
      (name_of place.last) object.node in_directory seen_to.1.name_is_free.free)
      ∙ ap Ok (ap (λ mounts. topmost nat_eq mounts (record { mount = place.parent.mount; node = object.node }))
      (later_mounts it changes) ∙ uncovered world it.is (record { mount = place.parent.mount; node = object.node })
      (sym (ap (is_directory_at nat_eq world) same_object) ∙ parts.no_directory)))
      (λ slash. absurd (true≢false (sym slash ∙ at_name.slash_is ∙ parts.no_slash)))) in
      lstat_of later later_fresh reader called new _ walk.1 ∙ ap (λ o. Ok (Told (stat_line o)))
      (seen_at changes stay reading own stands object.node ∙ all_stays it changes
      (ap option_to_list seen_to.1.name_is_free.free) object.node
      ∙ named_other (files_at nat_eq world place.parent) Never place.parent.node
      (name_of place.last) object.node in_directory seen_to.1.name_is_free.free object.node object_other
      ∙ sym (ap (node_at nat_eq world) same_object))

  caller_there : task_called later name ≡ Some (raised_task name it.did.task)
  caller_there = caller changes stay

pub link_then_lstat : LinkThenLstat
link_then_lstat old new world fresh name task is plain serves called granted = (
  stat_line (node_at nat_eq world parts.from.location),
  λ other_fresh. lstat_of world other_fresh name it.did.called old parts.from parts.found,
  there it parts name (raised_task name it.did.task) (caller_there it parts) (raised_stands name it.did.task)
      (inl (raised_credentials name it.did.task)),
  λ reader reading looks. there it parts reader reading looks.called
      (subst (λ t. StandsAs t reading) (sym task_is) (all_stands _ task reader reading looks)) (inr looks.all),
)
  where
    it : HasSucceeded world fresh name (LinkTo old new) Done
    it = has_succeeded is plain serves refl refl refl granted

    task_is : it.did.task ≡ task
    task_is = same_Some it.did.task task (sym it.did.called ∙ called)

    parts : LinkParts (looks_of nat_eq world) it.did.task old new it.did.permit
    parts = link_parts (looks_of nat_eq world) it.did.task old new it.did.permit it.did.granted
