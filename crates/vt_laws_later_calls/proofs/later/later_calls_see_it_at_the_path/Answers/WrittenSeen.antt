-- Bytes that were written at a path are read there.
use Rattle.std.proofs.Common.{◌≡◌, refl, sym, ap, subst, ◌∙◌, inl, inr, ◌⊎◌, ℕ, nat_eq, Bool, true, false, cond, ◌||◌, List, [], ◌∷◌, ◌++◌, length, reverse, Option, Some, None, is_some, ok_or, Ok, Err, nat_lt, arith}
use Rattle.vt_spec.proofs.Common.{Bytes, Change, Content, Directory, Done, Fresh, IsWorld, Judgement, Location, Looks, Node, Permit, Place, Read, Regular, SetBytes, Symlink, Task, TaskName, ToChange, Whiteout, World, Write, allows, and_then-Ok, by_option, changed, common_steps, denial, ends_in_slash, file_mode, file_walk, file_word_rules, files_at, is_absolute, is_directory_at, is_directory_node, is_kind, is_kind_in, is_special, judge, judging, kind_of, largest_file, looks_of, make_permit, make_rules, new_attr, new_file, node_at, node_with_bytes, object_walk, or_parts, passing, path_text, policy, raised_task, read_right, rewrite_rules, same_Some, same_ok, stepped, symlink_text, task_called, unless, unnumbered, walk_end, walk_start, words, words_walked}
use Rattle.vt_spec.proofs.Given.{by_rules}
use Rattle.vt_laws_later_calls.proofs.Common.{cases_Option, Attr, C1, Deny, E6, Ends, File, IsEndPlace, IsPlain, W6, White, changed_node_there, file_walk_end, file_walked, new_name_rules, others_are_files, own_directory_found, root_found}
use Rattle.vt_laws_later_calls.specs.LaterPaths.{IsAnsweredUnless, IsSeenByAll, WriteThenRead}
use Rattle.vt_laws_later_calls.proofs.AfterChange.{ChangesTree, changes_there, all_stays, later_is}
use Rattle.vt_laws_later_calls.proofs.Granted.{HasSucceeded, has_succeeded}
use Rattle.vt_laws_later_calls.proofs.Looked.{read_all, read_of}
use Rattle.vt_laws_later_calls.proofs.MadeSeen.{Never, made_leads, maker, new_stepped, node_seen, surely}
use Rattle.vt_laws_later_calls.proofs.Opened.{walk_ended}
use Rattle.vt_laws_later_calls.proofs.Readers.{MayLook, all_stands, caller, leads, named_last, own_name, raised_credentials, raised_stands, seen_at, uncovered}
use Rattle.vt_laws_later_calls.proofs.Stays.{called_own}
use Rattle.vt_laws_later_calls.proofs.Ways.{EndsAt, LeadsToo, both_walked, start_known, walk_passed, walk_passing}
use Rattle.vt_laws_later_calls.proofs.WaysChanges.{TreeStays, rights_with_bytes, ways_with_bytes}
use Rattle.vt_laws_later_calls.proofs.later.later_calls_see_it_at_the_path.Answers.WaysFiles.{IsFilePlace, file_place, file_too, followed_to}
use Rattle.vt_laws_later_calls.proofs.WaysPlaces.{EndsThere, begun, path_parsed}
use Rattle.vt_laws_later_calls.proofs.WaysStay.{StandsAs}

-- what the walk of a file did
record FileParts (looks : Looks ℕ) (task : Task ℕ) (path : List ℕ) (place : Place ℕ) : Type 0 where
  parsed : path_text {N = ℕ} path ≡ Ok path
  walked : file_walked nat_eq 41 looks task (walk_start task path) path false ≡ Ok place

file_parts : (looks : Looks ℕ) (task : Task ℕ) (path : List ℕ) (place : Place ℕ)
    → file_walk nat_eq looks task path ≡ Ok place → FileParts looks task path place
file_parts looks task path place e =
    let texts = both_walked (path_text {N = ℕ} path) _ place e in
    let same : path ≡ texts.0 = path_parsed path texts.0 texts.1 in
    let walks = both_walked (file_walked nat_eq 41 looks task
    (walk_start task texts.0) texts.0 false) _ place texts.2 in
    let parts = walk_passing walks.0.steps (new_name_rules nat_eq looks walks.0) walks.0 place walks.2 in
    record {
      parsed = cc texts.1;
      walked = (λ i. file_walked nat_eq 41 looks task (walk_start task (same i)) (same i) false) ∙ walks.1
          ∙ ap Ok parts.1;
    }

-- a symlink is no mount point
link_no_directory : (o : Option (Node ℕ)) (text : List ℕ) → symlink_text o ≡ Some text → is_directory_node o ≡ false
link_no_directory o text e = grind (arith, common_steps)

-- what is a file is a regular one
file_of : (o : Option (Node ℕ)) → is_kind_in File o ≡ true
    → (attr : Attr) × (old : List ℕ) × (o ≡ Some (record { attr = attr; content = Regular old }))
file_of None e = cc
file_of (Some node) e = by node.content refl e
  where
    by : (content : Content ℕ) → node.content ≡ content → is_kind File (kind_of content) ≡ true
        → (attr : Attr) × (old : List ℕ) × (Some node ≡ Some (record { attr = attr; content = Regular old }))
    by (Directory parent entries opaque) same e = cc
    by (Regular bytes) same e = (node.attr, bytes, λ i. Some (record { attr = node.attr; content = same i }))
    by (Symlink text) same e = cc
    by Whiteout same e = cc

-- the walk to an object, where its words are walked
object_by_words : (later : Looks ℕ) (reader : Task ℕ) (path : List ℕ) (next : Location ℕ) (left : ℕ)
    → path_text {N = ℕ} path ≡ Ok path → ends_in_slash path ≡ false
    → EndsAt (words_walked nat_eq later reader (followed_to 41 later reader) (walk_start reader path)
    (reverse (words path))) next left → EndsAt (object_walk nat_eq later reader path) next left
object_by_words later reader path next left parsed no_slash ends =
    grind (arith, common_steps, ends, followed_to, walk_passed)

-- A call that found the place of a file, or made it
module _ {world : World ℕ} (later : World ℕ) (is : IsWorld nat_eq world) {task : Task ℕ}
    (called : task_called world task.name ≡ Some task) (path : List ℕ) {place : Place ℕ}
    (walk : file_walk nat_eq (looks_of nat_eq world) task path ≡ Ok place) (named : is_special place.last ≡ false)
    (no_slash : place.slash ≡ false) (file : Location ℕ) {reader : Task ℕ} {Known : Location ℕ → Type 0}
    (leads_so : LeadsToo (looks_of nat_eq world) (looks_of nat_eq later) task reader Never Known) where
  parts : FileParts (looks_of nat_eq world) task path place
  parts = file_parts (looks_of nat_eq world) task path place walk

  pub found_at : IsFilePlace (looks_of nat_eq world) task place
  found_at = file_place (looks_of nat_eq world) task 41 (walk_start task path) path false place parts.walked named

  start_is : is_directory_at nat_eq world (walk_start task path).location ≡ true
  start_is = by (is_absolute path)
    where
      by : (b : Bool) → is_directory_at nat_eq world (cond b task.root task.directory) ≡ true
      by true = (root_found world is task called).1
      by false = (own_directory_found world is task called).1

  pub file_found : (Known place.parent
      → stepped nat_eq (looks_of nat_eq later) reader place.parent place.last ≡ Ok file)
      → symlink_text (node_at nat_eq later file) ≡ None
      → (left : ℕ) × EndsAt (object_walk nat_eq (looks_of nat_eq later) reader path) file left
  file_found found no_link =
      let finds = file_too leads_so
      (λ object text e. uncovered world is object (link_no_directory (node_at nat_eq world object) text e))
      (root_found world is task called).1 41 (walk_start task path) path false place
      (omega arith) start_is parts.walked named no_slash 41 (omega arith) file found no_link in (
        finds.2,
        object_by_words (looks_of nat_eq later) reader path file finds.2 parts.parsed finds.1 (surely _ file finds.2
            (subst (λ start. EndsThere Never (words_walked nat_eq (looks_of nat_eq later) reader (followed_to 41
            (looks_of nat_eq later) reader) start (reverse (words path))) file finds.2) (sym (begun leads_so path))
            (finds.3 (start_known leads_so task.directory path leads_so.working_known) []))),
      )

-- where nothing is refused a step is taken
kept : (A B : Type 0) (C : Deny → Type 0) → (A × B) ⊎ ((deny : Deny) × ⊥ × C deny) → A
kept A B C (inl e) = e.0
kept A B C (inr refused) = absurd refused.1

either_read : (b : Bool) (bytes : List ℕ) → (cond b (Ok (Bytes bytes)) (Err (denial C1)) ≡ Ok (Bytes bytes))
    ⊎ (cond b (Ok (Bytes bytes)) (Err (denial C1)) ≡ Err (denial C1))
either_read true bytes = inl refl
either_read false bytes = inr refl

-- what each reader is answered: as he may read a file with these attributes
abbrev ReadsSo : World ℕ → Task ℕ → List ℕ → List ℕ → Attr → Type 0
ReadsSo later task path bytes attr =
    (reader : TaskName) (reading : Task ℕ) → task_called later reader ≡ Some reading → StandsAs task reading
    → MayLook task reading → (later_fresh : Fresh ℕ) → (policy nat_eq later_fresh later reader (Read path)).answer
    ≡ cond (allows reading.credentials attr File read_right) (Ok (Bytes bytes)) (Err (denial C1))

module _ {world : World ℕ} {fresh : Fresh ℕ} {name : TaskName} {path bytes : List ℕ} {place : Place ℕ}
    (it : HasSucceeded world fresh name (Write path bytes) Done)
    (walk : file_walk nat_eq (looks_of nat_eq world) it.did.task path ≡ Ok place)
    (named : is_special place.last ≡ false) (no_slash : place.slash ≡ false) where
  abbrev left : World ℕ
  left = (policy nat_eq fresh world name (Write path bytes)).world

  left_plain : IsPlain left
  left_plain = (later_is it).1

  own : task_called world it.did.task.name ≡ Some it.did.task
  own = called_own it

  -- a file that was made
  module _ (permit : it.did.permit ≡ make_permit place (new_file it.did.task file_mode bytes)) where
    new_read : ReadsSo left it.did.task path bytes (new_attr it.did.task file_mode)
    new_read reader reading called stands looks later_fresh =
        let self = own_name left reader reading called in
        let seen = node_seen it permit reading self stands looks in
        let finds = file_found left it.is own path walk named no_slash
        (record { mount = place.parent.mount; node = fresh 0 }) (made_leads it permit reading self stands looks)
        (new_stepped it permit reading self stands looks place.last named refl) (ap symlink_text seen) in
        read_of left later_fresh reader called path left_plain _ finds.1.1 (new_attr it.did.task file_mode) bytes seen

    new_maker : task_called left name ≡ Some (raised_task name it.did.task)
    new_maker = maker it permit

  -- a file that got other bytes
  module _ (file : Location ℕ) (object : place.object ≡ Some file)
      (no_directory : is_directory_at nat_eq world file ≡ false)
      (no_whiteout : is_kind_in White (node_at nat_eq world file) ≡ false)
      (permit : it.did.permit ≡ ToChange file (SetBytes file.node bytes)) where
    abbrev change : Change ℕ
    change = SetBytes file.node bytes

    ends : IsEndPlace world it.is it.did.task own place
    ends = subst (Ends (IsEndPlace world it.is it.did.task own)) walk (file_walk_end world it.is it.did.task own path)

    something : is_some (node_at nat_eq world file) ≡ true
    something = (ends.2 file object).0.1

    old : (attr : Attr) × (bytes_then : List ℕ)
        × (node_at nat_eq world file ≡ Some (record { attr = attr; content = Regular bytes_then }))
    old = file_of (node_at nat_eq world file) (others_are_files (node_at nat_eq world file) something
        (ends.2 file object).1 no_directory no_whiteout)

    abbrev changes : ChangesTree it file change fresh
    changes = changes_there it permit something tt

    stay : TreeStays (files_at nat_eq world file).tree (changed nat_eq (files_at nat_eq world file) change).tree Never
    stay = ways_with_bytes (files_at nat_eq world file) Never file.node bytes

    rewriter : task_called left name ≡ Some (raised_task name it.did.task)
    rewriter = caller changes stay

    old_read : ReadsSo left it.did.task path bytes old.0
    old_read reader reading called stands looks later_fresh =
        let self = own_name left reader reading called in
        let leads_so = leads changes stay
        reading self stands (rights_with_bytes (files_at nat_eq world file) Never file.node bytes) looks in
        let at_file = found_at left it.is own path walk named no_slash file leads_so
        in
        let seen : node_at nat_eq left file ≡ Some (record { attr = old.0; content = Regular bytes }) =
        seen_at changes stay
        reading self stands file.node ∙ all_stays it changes refl
        file.node ∙ changed_node_there (files_at nat_eq world file) file.node (node_with_bytes bytes)
        ∙ ap (node_with_bytes bytes) old.2 in
        let before : stepped nat_eq (looks_of nat_eq world) it.did.task place.parent place.last ≡ Ok file =
        ap (stepped nat_eq (looks_of nat_eq world) it.did.task place.parent) (named_last place.last named)
        ∙ ap (λ o. ok_or o (denial W6)) (at_file.object_is ∙ object) in
        let finds = file_found left it.is own path walk named no_slash file leads_so
        (λ known. kept _ _ _ (leads_so.step place.parent place.last file known at_file.directory before))
        (ap symlink_text seen) in
        read_of left later_fresh reader called path left_plain _ finds.1.1 old.0 bytes seen

-- what a granted write is permitted, behind its last word: by whether the file was there
abbrev written : Looks ℕ → Task ℕ → Place ℕ → List ℕ → Option (Location ℕ) → Judgement ℕ
written looks task place bytes (Some file) =
    unless (rewrite_rules looks task file bytes) (Ok (ToChange file (SetBytes file.node bytes)))
written looks task place bytes None =
    unless ((nat_lt largest_file (length bytes), E6)
    ∷ make_rules looks task place (unnumbered place (new_file task file_mode bytes)))
    (Ok (make_permit place (new_file task file_mode bytes)))

-- what a granted write was permitted
write_parts : (looks : Looks ℕ) (full : Permit ℕ → Bool) (task : Task ℕ) (path bytes : List ℕ) (permit : Permit ℕ)
    → judge nat_eq looks full task (Write path bytes) ≡ Ok permit
    → (place : Place ℕ) × (file_walk nat_eq looks task path ≡ Ok place)
    × ((is_special place.last || place.slash) ≡ false) × (written looks task place bytes place.object ≡ Ok permit)
unfolding judging
write_parts looks full task path bytes permit e =
    let steps = and_then-Ok (walk_end (file_walk nat_eq looks task path)) _ permit e in
    let parts = by steps.0 steps.0.object steps.2 in
    (steps.0, walk_ended (file_walk nat_eq looks task path) steps.0 steps.1, parts.0, parts.1)
  where
    by : (place : Place ℕ) (object : Option (Location ℕ)) → by_option
        (λ file. unless (file_word_rules place ++ rewrite_rules looks task file bytes)
        (Ok (ToChange file (SetBytes file.node bytes))))
        (unless (file_word_rules place ++ ((nat_lt largest_file (length bytes), E6)
        ∷ make_rules looks task place (unnumbered place (new_file task file_mode bytes))))
        (Ok (make_permit place (new_file task file_mode bytes)))) object ≡ Ok permit
        → ((is_special place.last || place.slash) ≡ false) × (written looks task place bytes object ≡ Ok permit)
    by place (Some file) e =
        let pass = passing (file_word_rules place ++ rewrite_rules looks task file bytes) _ permit e in
        (pass.0.0, by_rules (rewrite_rules looks task file bytes) _ (Ok permit) pass.0.1 pass.1)
    by place None e =
        let rows = (nat_lt largest_file (length bytes), E6)
        ∷ make_rules looks task place (unnumbered place (new_file task file_mode bytes)) in
        let pass = passing (file_word_rules place ++ rows) _ permit e in
        (pass.0.0, by_rules rows _ (Ok permit) pass.0.1 pass.1)

pub write_then_read : WriteThenRead
write_then_read path bytes world fresh name task is plain serves called granted = elim (cases_Option parts.0.object) [
  | inl object ↦ let rules = passing ((nat_lt largest_file (length bytes), E6)
      ∷ make_rules (looks_of nat_eq world) it.did.task parts.0 (unnumbered parts.0
      (new_file it.did.task file_mode bytes))) _ it.did.permit
      (sym (ap (written (looks_of nat_eq world) it.did.task parts.0 bytes) object) ∙ parts.3) in
      let permit_is = sym (same_ok _ it.did.permit rules.1) in
      seen (new_attr it.did.task file_mode) (new_read it parts.1 words_pass.0 words_pass.1 permit_is)
      (new_maker it parts.1 words_pass.0 words_pass.1 permit_is)
  | inr its ↦ let rules = passing (rewrite_rules (looks_of nat_eq world) it.did.task its.0 bytes) (Ok (ToChange its.0
      (SetBytes its.0.node bytes))) it.did.permit
      (sym (ap (written (looks_of nat_eq world) it.did.task parts.0 bytes) its.1) ∙ parts.3) in
      let permit_is = sym (same_ok _ it.did.permit rules.1) in
      seen _ (old_read it parts.1 words_pass.0 words_pass.1 its.0 its.1 rules.0.0 rules.0.1.1.0 permit_is)
      (rewriter it parts.1 words_pass.0 words_pass.1 its.0 its.1 rules.0.0 rules.0.1.1.0 permit_is)
]
  where
    it : HasSucceeded world fresh name (Write path bytes) Done
    it = has_succeeded is plain serves refl refl refl granted

    task_is : it.did.task ≡ task
    task_is = same_Some it.did.task task (cc it.did.called)

    parts : (place : Place ℕ) × (file_walk nat_eq (looks_of nat_eq world) it.did.task path ≡ Ok place)
        × ((is_special place.last || place.slash) ≡ false)
        × (written (looks_of nat_eq world) it.did.task place bytes place.object ≡ Ok it.did.permit)
    parts = write_parts (looks_of nat_eq world) _ it.did.task path bytes it.did.permit it.did.judged

    words_pass : (is_special parts.0.last ≡ false) × (parts.0.slash ≡ false)
    words_pass = or_parts (is_special parts.0.last) parts.0.slash parts.2

    seen : (attr : Attr) → ReadsSo (policy nat_eq fresh world name (Write path bytes)).world it.did.task path bytes attr
        → task_called (policy nat_eq fresh world name (Write path bytes)).world name ≡ Some
        (raised_task name it.did.task)
        → IsAnsweredUnless C1 (policy nat_eq fresh world name (Write path bytes)).world name (Read path) (Bytes bytes)
        × IsSeenByAll (policy nat_eq fresh world name (Write path bytes)).world task (Read path) (Bytes bytes)
    seen attr reads there_still = (
      λ later_fresh. subst (λ a. (a ≡ Ok (Bytes bytes)) ⊎ (a ≡ Err (denial C1)))
          (sym (reads name (raised_task name it.did.task) there_still (raised_stands name it.did.task) (inl
          (raised_credentials name it.did.task)) later_fresh)) (either_read _ bytes),
      λ reader reading looks later_fresh. reads reader reading looks.called
          (subst (λ t. StandsAs t reading) (sym task_is) (all_stands _ task reader reading looks))
          (inr looks.all) later_fresh ∙ ap (λ b. cond b (Ok (Bytes bytes)) (Err (denial C1)))
          (read_all reading.credentials looks.all attr (Regular bytes)),
    )
