-- An object that was renamed, over another one or not, is found where its new name leads, with what it had; the old
-- name is missing.
use Rattle.std.proofs.Common.{◌≡◌, refl, sym, ap, subst, ◌∙◌, inl, inr, ◌⊎◌, ⊎_elim, ℕ, nat_eq, Bool, true, false, List, Option, Some, None, is_some, Ok, Err, length, unwrap_or}
use Rattle.vt_spec.proofs.Common.{is_among, Done, Fresh, IsWorld, LastWord, Location, Ls, Lstat, Names, Node, Place, Rename, Task, TaskName, Told, World, denial, directory_from_entry, ends_in_slash, entries_in, entry_at, entry_named, files_at, holds_of, is_directory_at, is_directory_node, is_directory_there, is_one_object, is_special, looks_of, mount_at, name_of, names_in, new_walk, node_at, object_there, old_leaf_walk, policy, same_Some, stat_line, stepped, task_called}
use Rattle.vt_laws_later_calls.proofs.Common.{C1, Deny, numbers_of, IsFound, IsKept, IsPlain, MayBeRenamed, W6, directory_no_link, tree_here}
use Rattle.vt_laws_later_calls.specs.LaterNames.{LeadsToName, RenameThenFound, RenameThenListed}
use Rattle.vt_laws_later_calls.proofs.later.AfterRename.{HasRenamed, free_left, free_over, is_left, may, new_left, object_left, object_shown, old_left, to_shown}
use Rattle.vt_laws_later_calls.proofs.Granted.{HasSucceeded, IsPermitted, permitted}
use Rattle.vt_laws_later_calls.proofs.Looked.{listed_or_refused, lstat_of, lstat_refused}
use Rattle.vt_laws_later_calls.proofs.MadeSeen.{Never, surely}
use Rattle.vt_laws_later_calls.proofs.Readers.{own_name, stepped_by}
use Rattle.vt_laws_later_calls.proofs.Stays.{called_own}
use Rattle.vt_laws_later_calls.proofs.later.later_calls_see_it_at_the_path.Answers.RenameParts.{NamesParts, itself_leads, names_parts}
use Rattle.vt_laws_later_calls.proofs.later.later_calls_see_it_at_the_path.Answers.Unlinked.{Missing}
use Rattle.vt_laws_later_calls.proofs.Ways.{LeadsToo}
use Rattle.vt_laws_later_calls.proofs.WaysPlaces.{NamedPlace, directory_named_too, front_too, named_place, parent_known, symlink_missing, symlink_named_too}
use Rattle.vt_laws_later_calls.proofs.WaysStay.{node_in, tree_in}

-- what is kept is told alike
pub told_alike : (was now : Option (Node ℕ)) → IsKept was now → stat_line now ≡ stat_line was
told_alike was now kept = λ i.
    record { kind = kept.kind i; attr = kept.attr i; size = length (kept.bytes i); opaque = kept.mark i }

pub directory_kept : (was now : Option (Node ℕ)) → IsKept was now → is_directory_node now ≡ is_directory_node was
directory_kept None None kept = refl
directory_kept None (Some now) kept = cc kept.there
directory_kept (Some was) None kept = cc kept.there
directory_kept (Some was) (Some now) kept = cc kept.kind

there_is : (test : Location ℕ → Bool) (o : Option (Location ℕ)) (default : Location ℕ) → holds_of test o ≡ true
    → test (unwrap_or o default) ≡ true
there_is test None default e = cc
there_is test (Some a) default e = e

module _ {world : World ℕ} {fresh : Fresh ℕ} {name : TaskName} {old new : List ℕ} {from to : Place ℕ}
    (it : HasSucceeded world fresh name (Rename old new) Done)
    (parts : NamesParts (looks_of nat_eq world) it.did.task old new from to it.did.permit) where
  abbrev object : ℕ
  object = (object_there from).node

  abbrev later : World ℕ
  later = (policy nat_eq fresh world name (Rename old new)).world

  abbrev fs : ℕ
  fs = (mount_at nat_eq world from.parent).filesystem

  abbrev place_before : Location ℕ
  place_before = record { mount = from.parent.mount; node = object }

  abbrev the_rename : HasRenamed world fresh name (Rename old new) Done from.parent (name_of from.last) to.parent
      (name_of to.last) (object_there from) to.object
  the_rename = record { success = it; permit_is = parts.permit_is; uncovered = parts.uncovered }

  seen : MayBeRenamed world from.parent (name_of from.last) to.parent (name_of to.last) (object_there from) to.object
  seen = may the_rename

  object_fs : (mount_at nat_eq world (object_there from)).filesystem ≡ fs
  object_fs = object_shown the_rename

  abbrev pub before : Option (Node ℕ)
  before = (files_at nat_eq world from.parent).tree.node object

  pub is_directory_before : is_directory_there nat_eq (looks_of nat_eq world) from ≡ true
      → is_directory_node before ≡ true
  is_directory_before e = cc (object_fs, there_is (is_directory_at nat_eq world) from.object from.parent e)

  -- Before the call
  at_old : NamedPlace (looks_of nat_eq world) it.did.task old from
  at_old = named_place (looks_of nat_eq world) it.did.task old from parts.from_walked parts.from_named

  own : task_called world it.did.task.name ≡ Some it.did.task
  own = called_own it

  old_stepped : stepped nat_eq (looks_of nat_eq world) it.did.task from.parent from.last ≡ Ok place_before
  old_stepped = stepped_by world it.did.task from.parent from.last parts.from_named (Some object) seen.moves.named
      ∙ ap Ok (free_over world it.is (object_there from) parts.uncovered place_before (sym object_fs) refl)

  pub old_told : (other_fresh : Fresh ℕ)
      → (policy nat_eq other_fresh world name (Lstat old)).answer ≡ Ok (Told (stat_line before))
  old_told other_fresh =
      let walk = surely _ _ _ (symlink_named_too (itself_leads Never world it.is it.plain it.did.task own) old from
      parts.from_named at_old place_before (λ known. old_stepped) (λ slash. let directory = is_directory_before
      (parts.from_slash (cc at_old.slash_is)) in (directory_no_link before directory, directory))) in
      lstat_of world other_fresh name it.did.called old _ walk.1

  pub old_listed : is_directory_there nat_eq (looks_of nat_eq world) from ≡ true → (other_fresh : Fresh ℕ)
      → ((policy nat_eq other_fresh world name (Ls old)).answer ≡ Ok (Names (names_in before)))
      ⊎ ((policy nat_eq other_fresh world name (Ls old)).answer ≡ Err (denial C1))
  old_listed directory_there other_fresh =
      let directory = is_directory_before directory_there in
      let walk = surely _ _ _ (directory_named_too
      (itself_leads Never world it.is it.plain it.did.task own) old from parts.from_named at_old place_before
      (λ known. old_stepped) (directory_no_link before directory) directory) in
      listed_or_refused world other_fresh name it.did.called old it.plain _ walk.1 (names_in before) refl

  -- After it
  left_is : IsWorld nat_eq later × IsPlain later
  left_is = is_left the_rename

  to_fs : (mount_at nat_eq world to.parent).filesystem ≡ fs
  to_fs = to_shown the_rename

  -- Where a directory of the filesystem is seen, through some mount
  module _ (parent : Location ℕ) (shown : (mount_at nat_eq later parent).filesystem ≡ fs) where
    abbrev pub place_after : Location ℕ
    place_after = record { mount = parent.mount; node = object }

    pub kept : is_some (node_in later fs object) ≡ true → IsKept before (node_at nat_eq later place_after)
    kept there = subst (λ n. IsKept before (node_in later n object)) (sym shown) (object_left the_rename there)

    pub directory_after : is_some (node_in later fs object) ≡ true
        → is_directory_there nat_eq (looks_of nat_eq world) from ≡ true
        → is_directory_at nat_eq later place_after ≡ true
    directory_after there e =
        directory_kept before (node_at nat_eq later place_after) (kept there) ∙ is_directory_before e

    module _ (alive : is_some (node_at nat_eq later parent) ≡ true) (reading : Task ℕ) (last : LastWord)
        (named : is_special last ≡ false) where
      there : (directory : Location ℕ) → parent.node ≡ directory.node
          → is_some (node_in later fs directory.node) ≡ true
      there directory at = (λ i. is_some (node_in later (sym shown i) (sym at i))) ∙ alive

      entry_here : (directory : Location ℕ) (word : List ℕ) (o : Option ℕ) → parent.node ≡ directory.node
          → name_of last ≡ word → entry_at (tree_in later fs) directory.node word ≡ o
          → entry_named (name_of last) (entries_in (node_at nat_eq later parent)) ≡ o
      entry_here directory word o at same e = (λ i. entry_at (tree_in later (shown i)) (at i) (same i)) ∙ e

      -- its new name leads to the object, and its old one to nothing
      new_entry : parent.node ≡ to.parent.node → name_of last ≡ name_of to.last
          → entry_named (name_of last) (entries_in (node_at nat_eq later parent)) ≡ Some object
      new_entry at same =
          entry_here to.parent (name_of to.last) (Some object) at same (new_left the_rename (there to.parent at))

      pub new_stepped : is_among nat_eq parent.mount (numbers_of later.mounts) ≡ true → parent.node ≡ to.parent.node
          → name_of last ≡ name_of to.last → stepped nat_eq (looks_of nat_eq later) reading parent last ≡ Ok place_after
      new_stepped listed at same = stepped_by later reading parent last named (Some object) (new_entry at same)
          ∙ ap Ok (free_left the_rename place_after listed shown refl)

      pub none_stepped : parent.node ≡ from.parent.node → name_of last ≡ name_of from.last
          → stepped nat_eq (looks_of nat_eq later) reading parent last ≡ Err (denial W6)
      none_stepped at same = stepped_by later reading parent last named None (entry_here from.parent
          (name_of from.last) None at same (old_left the_rename seen.moves.replaced_other (there from.parent at)))

  module _ (reader : TaskName) (reading : Task ℕ) (called : task_called later reader ≡ Some reading) where
    -- by paths that lead where they led
    module _ {Known : Location ℕ → Type 0}
        (leads : LeadsToo (looks_of nat_eq world) (looks_of nat_eq later) it.did.task reading Missing Known)
        (found : (here : Location ℕ) → Known here → (is_among nat_eq here.mount (numbers_of later.mounts) ≡ true)
        × (is_some (node_at nat_eq later here) ≡ true)) (mounts_same : later.mounts ≡ world.mounts)
        (there : is_some (node_in later fs object) ≡ true) where
      abbrev IsMissing : Fresh ℕ → List ℕ → Type 0
      IsMissing later_fresh path = (policy nat_eq later_fresh later reader (Lstat path)).answer ≡ Err (denial W6)

      pub new_told : (later_fresh : Fresh ℕ)
          → ((policy nat_eq later_fresh later reader (Lstat new)).answer ≡ Ok (Told (stat_line before)))
          ⊎ IsMissing later_fresh new
      new_told later_fresh =
          let at = named_place (looks_of nat_eq world) it.did.task new to parts.to_walked parts.to_named in
          let shown : (mount_at nat_eq later to.parent).filesystem ≡ fs = cc (mounts_same, to_fs) in
          ⊎_elim (λ ends. inl (cc (
            lstat_of later later_fresh reader called new _ ends.1,
            told_alike before (node_at nat_eq later (place_after to.parent shown)) (kept to.parent shown there),
          ))) (λ stop. inr (lstat_refused later later_fresh reader called new stop.0 stop.2 ∙ ap Err stop.1))
          (symlink_named_too leads new to parts.to_named at (place_after to.parent shown) (λ known.
          new_stepped to.parent shown (found _ known).1 reading to.last parts.to_named (found _ known).0 refl refl)
          (λ slash. let now = directory_after to.parent shown there (parts.to_slash (cc at.slash_is)) in
          (directory_no_link (node_at nat_eq later (place_after to.parent shown)) now, now)))

      pub old_missing : (later_fresh : Fresh ℕ) → IsMissing later_fresh old
      old_missing later_fresh =
          let at = named_place (looks_of nat_eq world) it.did.task old from parts.from_walked parts.from_named in
          let stop = symlink_missing leads old from parts.from_named at (denial W6) refl (λ known. none_stepped
          from.parent (cc mounts_same) (found _ known).1 reading from.last parts.from_named refl refl) in
          lstat_refused later later_fresh reader called old stop.0 stop.2 ∙ ap Err stop.1

    -- by each path that leads to the names
    module _ (path : List ℕ) where
      own_leads : (Refused : Deny → Type 0)
          → LeadsToo (looks_of nat_eq later) (looks_of nat_eq later) reading reading Refused
          (IsFound later left_is.0 reading)
      own_leads Refused =
          itself_leads Refused later left_is.0 left_is.1 reading (own_name later reader reading called)

      module _ (directory : Location ℕ) (last : LastWord) (special : is_special last ≡ false)
          (directory_fs : (mount_at nat_eq world directory).filesystem ≡ fs)
          (lead : LeadsToName world later reading path directory last) where
        named_so : is_special lead.place.last ≡ false
        named_so = cc lead.last_is

        at_name : NamedPlace (looks_of nat_eq later) reading path lead.place
        at_name = named_place (looks_of nat_eq later) reading path lead.place lead.walked named_so

        -- the directory is found, through this mount
        parent_found : IsFound later left_is.0 reading lead.place.parent
        parent_found = ⊎_elim
            (λ ends. parent_known (own_leads Never) path lead.place named_so at_name ends.1)
            (λ stop. absurd stop.1) (front_too (own_leads Never) path lead.place named_so at_name)

        parent_fs : (mount_at nat_eq later lead.place.parent).filesystem ≡ fs
        parent_fs = cc lead.filesystem

      -- by the new name
      module _ (lead : LeadsToName world later reading path to.parent to.last) where
        abbrev parent : Location ℕ
        parent = lead.place.parent

        named : is_special lead.place.last ≡ false
        named = named_so to.parent to.last parts.to_named to_fs lead

        shown : (mount_at nat_eq later parent).filesystem ≡ fs
        shown = parent_fs to.parent to.last parts.to_named to_fs lead

        found_there : IsFound later left_is.0 reading parent
        found_there = parent_found to.parent to.last parts.to_named to_fs lead

        same_word : name_of lead.place.last ≡ name_of to.last
        same_word = ap name_of lead.last_is

        there_after : is_some (node_in later fs object) ≡ true
        there_after =
            let entry = new_entry parent shown found_there.1 reading lead.place.last named lead.node same_word in
            ap (λ n. is_some (node_in later n object)) (sym shown) ∙ (tree_here later left_is.0 parent
            (directory_from_entry (name_of lead.place.last) object (node_at nat_eq later parent) entry)).tree.alive
            parent.node (name_of lead.place.last) object entry

        abbrev after : Location ℕ
        after = place_after parent shown

        step_after : stepped nat_eq (looks_of nat_eq later) reading parent lead.place.last ≡ Ok after
        step_after = new_stepped parent shown found_there.1 reading lead.place.last named found_there.0.0 lead.node
            same_word

        found_told : (ends_in_slash path ≡ true → is_directory_there nat_eq (looks_of nat_eq world) from ≡ true)
            → (later_fresh : Fresh ℕ)
            → (policy nat_eq later_fresh later reader (Lstat path)).answer ≡ Ok (Told (stat_line before))
        found_told slashed later_fresh =
            let walk = surely _ _ _ (symlink_named_too (own_leads Never) path lead.place named
            (at_name to.parent to.last parts.to_named to_fs lead) after (λ known. step_after)
            (λ slash. let now = directory_after parent shown there_after (slashed slash) in
            (directory_no_link (node_at nat_eq later after) now, now))) in
            cc (
              lstat_of later later_fresh reader called path _ walk.1,
              told_alike before (node_at nat_eq later after) (kept parent shown there_after),
            )

        found_listed : is_directory_there nat_eq (looks_of nat_eq world) from ≡ true → (later_fresh : Fresh ℕ)
            → ((policy nat_eq later_fresh later reader (Ls path)).answer ≡ Ok (Names (names_in before)))
            ⊎ ((policy nat_eq later_fresh later reader (Ls path)).answer ≡ Err (denial C1))
        found_listed is_one later_fresh =
            let now = directory_after parent shown there_after is_one in
            let walk = surely _ _ _ (directory_named_too (own_leads Never) path lead.place named
            (at_name to.parent to.last parts.to_named to_fs lead) after (λ known. step_after)
            (directory_no_link (node_at nat_eq later after) now) now) in
            listed_or_refused later later_fresh reader called path left_is.1 _ walk.1 (names_in before)
            (cc ((kept parent shown there_after).names))

      -- by the old one
      found_gone : LeadsToName world later reading path from.parent from.last → (later_fresh : Fresh ℕ)
          → (policy nat_eq later_fresh later reader (Lstat path)).answer ≡ Err (denial W6)
      found_gone lead later_fresh =
          let named : is_special lead.place.last ≡ false = named_so from.parent from.last parts.from_named refl lead in
          let stop = symlink_missing (own_leads Missing) path lead.place named
          (at_name from.parent from.last parts.from_named refl lead) (denial W6) refl (λ known.
          none_stepped lead.place.parent (parent_fs from.parent from.last parts.from_named refl lead)
          (parent_found from.parent from.last parts.from_named refl lead).1 reading lead.place.last named lead.node
          (ap name_of lead.last_is)) in
          lstat_refused later later_fresh reader called path stop.0 stop.2 ∙ ap Err stop.1

-- what a granted rename did
module _ {old new : List ℕ} (world : World ℕ) (fresh : Fresh ℕ) (name : TaskName) {task : Task ℕ} {from to : Place ℕ}
    (called : task_called world name ≡ Some task)
    (from_is : old_leaf_walk nat_eq (looks_of nat_eq world) task old ≡ Ok from)
    (to_is : new_walk nat_eq (looks_of nat_eq world) task new ≡ Ok to)
    (two : is_one_object nat_eq (looks_of nat_eq world) (object_there from) to.object ≡ false)
    (granted : (policy nat_eq fresh world name (Rename old new)).answer ≡ Ok Done) where
  renamed : IsPermitted world fresh name (Rename old new) Done
  renamed = permitted world fresh name (Rename old new) Done refl granted

  parts_of : NamesParts (looks_of nat_eq world) renamed.task old new from to renamed.permit
  parts_of =
      let task_is : renamed.task ≡ task = same_Some renamed.task task (cc renamed.called) in
      names_parts (looks_of nat_eq world) _ renamed.task old new from to renamed.permit (cc) (cc) two renamed.judged

pub rename_then_found : RenameThenFound
rename_then_found old new world fresh name task from to is plain serves called from_is to_is two granted =
    let it : HasSucceeded world fresh name (Rename old new) Done = record {
      is = is;
      plain = plain;
      serves = serves;
      other = refl;
      few = refl;
      did = renamed world fresh name called from_is to_is two granted;
    } in
    let parts = parts_of world fresh name called from_is to_is two granted in (
      stat_line (before it parts),
      old_told it parts,
      λ reader reading path called_too. (
        λ lead slashed. found_told it parts reader reading called_too path lead slashed,
        λ lead. found_gone it parts reader reading called_too path lead,
      ),
    )

pub rename_then_listed : RenameThenListed
rename_then_listed old new world fresh name task from to is plain serves called from_is to_is two granted directory =
    let it : HasSucceeded world fresh name (Rename old new) Done = record {
      is = is;
      plain = plain;
      serves = serves;
      other = refl;
      few = refl;
      did = renamed world fresh name called from_is to_is two granted;
    } in
    let parts = parts_of world fresh name called from_is to_is two granted in (
      names_in (before it parts),
      old_listed it parts directory,
      λ reader reading path called_too lead.
          found_listed it parts reader reading called_too path lead directory,
    )
