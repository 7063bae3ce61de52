-- A name that open made exists.
use Rattle.std.proofs.Common.{arith, ◌≡◌, refl, sym, ap, subst, ◌∙◌, inl, inr, ◌⊎◌, ℕ, nat_eq, nat_le, length, eqb-true, true, false, List, [], ◌∷◌, Option, Some, None, is_some, option_map, Result, Ok, Err, find, reverse}
use Rattle.vt_spec.proofs.Common.{Access, Answer, Call, Change, Credentials, Exclusive, FileTree, Fresh, IsWorld, Judgement, Location, Looks, Make, Named, Node, NoneFails, OpenFile, Opened, Place, Rules, Stop, Task, TaskName, World, after, and_then, answer-finished_unless, apply, changed, common_steps, contains_from_among, denial, directory_used, ends_in_slash, entries_in, entry_location, entry_named, files_at, filesystem_numbered, final_word, found_among, is_special, judging, last_word, looks_of, most_descriptors, mount_at, name_of, new_file, new_walk, node_allows, node_at, odds, passed, place_walk, placed, policy, raised_task, same_Some, same_name, search_rules, settled, steps_at, stopped_by, task_called, tasks-with_change, then_walk, unless, walk_start, walk_unless, with_descriptor, with_new_inode, with_task, words, words_walked}
use Rattle.vt_laws_later_calls.proofs.Common.{Deny, E1, IsFileTree, IsListedTree, IsPlain, MayBeMade, SeesTo, W4, change_of, changes_keep_numbers, changes_keep_trees, followed, given_changes_are_proper, mounts-with_change, name_found, new_name_rules, opened_new_keeps_all, plain_numbered, prefix_walked, tree_here, unused_inode, worlds_are_settled}
use Rattle.vt_laws_later_calls.specs.LaterPaths.{ExclusiveTwice}
use Rattle.vt_laws_later_calls.proofs.AfterChange.{sees_to, later_files, later_is, listed, spent}
use Rattle.vt_laws_later_calls.proofs.Changed.{files_changed, files_other}
use Rattle.vt_laws_later_calls.proofs.Granted.{HasSucceeded, has_succeeded}
use Rattle.vt_laws_later_calls.proofs.MadeSeen.{Never, new_parts}
use Rattle.vt_laws_later_calls.proofs.Opened.{called_replaced}
use Rattle.vt_laws_later_calls.proofs.OpenedNew.{NewFile, given_of, exclusive_parts}
use Rattle.vt_laws_later_calls.proofs.Readers.{RightsLeft, leads_with, MayLook, all_stands, named_last, own_name, raised_credentials, raised_stands}
use Rattle.vt_laws_later_calls.proofs.Stays.{called_own, still_called}
use Rattle.vt_laws_later_calls.proofs.Ways.{LeadsToo, Stops, at, search_too}
use Rattle.vt_laws_later_calls.proofs.WaysChanges.{RightsStay, TreeStays, made_entry, rights_made, ways_made}
use Rattle.vt_laws_later_calls.proofs.WaysPlaces.{NamedPlace, front_too, named_place, through}
use Rattle.vt_laws_later_calls.proofs.WaysStay.{Known, SeesLater, StandsAs, WorldStays, node_here, node_in, tree_in}

-- A world in which one filesystem shows another tree
module _ (world later : World ℕ) (shown : ℕ) {files : FileTree ℕ} (mounts : later.mounts ≡ world.mounts)
    (here : (filesystem_numbered nat_eq later shown).files ≡ files) (elsewhere : (number : ℕ)
    → nat_eq shown number ≡ false
    → (filesystem_numbered nat_eq later number).files ≡ (filesystem_numbered nat_eq world number).files) where
  in_each : (P : ℕ → FileTree ℕ → Type 0) → P shown files
      → ((number : ℕ) → P number (filesystem_numbered nat_eq world number).files)
      → (number : ℕ) → P number (filesystem_numbered nat_eq later number).files
  in_each P is others number = grind (arith, common_steps, eqb-true)

  stays_by : (Refused : Deny → Type 0) → TreeStays (tree_in world shown) files.tree Refused
      → WorldStays world later Refused
  stays_by Refused stay = record {
    mounts = mounts;
    root = λ number. (each number).root;
    directory = λ number n was now. (each number).directory n was;
    parent = λ number n was now. (each number).parent n was;
    link = λ number n was now. (each number).link n was;
    entry = λ number directory name n e now. (each number).entry directory name n e;
  }
    where
      itself : (t : FileTree ℕ) → TreeStays t.tree t.tree Refused
      itself t = grind (arith, common_steps)

      each : (number : ℕ) → TreeStays (tree_in world number) (tree_in later number) Refused
      each = in_each (λ number t. TreeStays (tree_in world number) t.tree Refused) stay
          (λ number. itself (filesystem_numbered nat_eq world number).files)

  rights_by : RightsStay (tree_in world shown) files.tree → (filesystem number wanted : ℕ) (who : Credentials)
      → is_some (node_in world filesystem number) ≡ true → node_allows who wanted (node_in later filesystem number)
      ≡ node_allows who wanted (node_in world filesystem number)
  rights_by rights filesystem number wanted who was = in_each (λ f t. is_some (node_in world f number) ≡ true
      → node_allows who wanted (t.tree.node number) ≡ node_allows who wanted (node_in world f number))
      (λ there_before. rights who wanted number there_before) (λ f there_before. refl) filesystem was

-- The place of a name, in what a call left
module _ {looks later : Looks ℕ} {task reader : Task ℕ} {Refused : Deny → Type 0} {Known : Location ℕ → Type 0}
    (leads : LeadsToo looks later task reader Refused Known) {path : List ℕ} {place : Place ℕ}
    (named : is_special place.last ≡ false) (parts : NamedPlace looks task path place) (object : Option (Location ℕ))
    (found : Known place.parent → entry_location nat_eq later place.parent (name_of place.last) ≡ object) where
  abbrev IsPlacedThere : Result (Place ℕ) (Stop ℕ) → Type 0
  IsPlacedThere walk = ((steps : List (List ℕ)) × (walk ≡ Ok (record {
    parent = place.parent;
    last = place.last;
    object = object;
    slash = place.slash;
    steps = steps;
  }))) ⊎ Stops Refused walk

  word_is : last_word parts.word ≡ Named (name_of place.last)
  word_is = parts.last_is ∙ named_last place.last named

  place_is : place_walk nat_eq later reader path
      ≡ then_walk (words_walked nat_eq later reader (followed nat_eq later reader) (walk_start reader path) parts.front)
      (λ here. placed nat_eq later reader here (Named (name_of place.last)) (ends_in_slash path))
  place_is = ap (λ r. then_walk r (λ text.
      then_walk (prefix_walked nat_eq later reader (followed nat_eq later reader) (walk_start reader text)
      (reverse (words text)))
      (λ here. placed nat_eq later reader here (final_word (reverse (words text))) (ends_in_slash text)))) parts.parsed
      ∙ ap (λ list. then_walk (prefix_walked nat_eq later reader (followed nat_eq later reader)
      (walk_start reader path) list)
      (λ here. placed nat_eq later reader here (final_word list) (ends_in_slash path))) parts.words_are
      ∙ ap (λ last. then_walk (words_walked nat_eq later reader (followed nat_eq later reader)
      (walk_start reader path) parts.front) (λ here. placed nat_eq later reader here last (ends_in_slash path))) word_is

  pub place_too : IsPlacedThere (place_walk nat_eq later reader path)
  place_too = rw place_is (through leads IsPlacedThere (words_walked nat_eq later reader (followed nat_eq later reader)
      (walk_start reader path) parts.front) _ parts.here (front_too leads path place named parts)
      (λ steps known. by steps known (search_too leads parts.here.location known parts.searched))
      (λ stop refused. inr (stop, refused, refl)))
    where
      by : (steps : List (List ℕ)) → Known parts.here.location
          → NoneFails (search_rules nat_eq later reader parts.here.location)
          ⊎ (Refused (denial W4) × ((answer : Result (Location ℕ) Deny)
          → unless (search_rules nat_eq later reader parts.here.location) answer ≡ Err (denial W4)))
          → IsPlacedThere (placed nat_eq later reader (at parts.here steps) (Named (name_of place.last))
          (ends_in_slash path))
      by steps known (inl pass) = inl (
        steps_at nat_eq later reader (at parts.here steps) (Named (name_of place.last)),
        ap (λ r. stopped_by {A = Place ℕ}
            (steps_at nat_eq later reader (at parts.here steps) (Named (name_of place.last))) (and_then r (λ o.
            Ok (record {
              parent = parts.here.location;
              last = Named (name_of place.last);
              object = o;
              slash = ends_in_slash path;
              steps = steps_at nat_eq later reader (at parts.here steps) (Named (name_of place.last));
            })))) (passed (search_rules nat_eq later reader parts.here.location)
            (Ok (entry_location nat_eq later parts.here.location (name_of place.last))) pass) ∙ (λ i. Ok (record {
              parent = parts.parent_is i;
              last = sym (named_last place.last named) i;
              object = (ap (λ l. entry_location nat_eq later l (name_of place.last)) parts.parent_is
                  ∙ found (subst Known parts.parent_is known)) i;
              slash = parts.slash_is i;
              steps = steps_at nat_eq later reader (at parts.here steps) (Named (name_of place.last));
            })),
      )
      by steps known (inr hidden) = inr (
        record {
          deny = denial W4;
          steps = steps_at nat_eq later reader (at parts.here steps) (Named (name_of place.last));
        },
        hidden.0,
        hidden_so (search_rules nat_eq later reader parts.here.location) hidden.1,
      )
        where
          hidden_so : (rules : Rules) → ((answer : Result (Location ℕ) Deny) → unless rules answer ≡ Err (denial W4))
              → stopped_by {A = Place ℕ} (steps_at nat_eq later reader (at parts.here steps)
              (Named (name_of place.last)))
              (and_then (unless rules (Ok (entry_location nat_eq later parts.here.location (name_of place.last)))) (λ o.
              Ok (record {
                parent = parts.here.location;
                last = Named (name_of place.last);
                object = o;
                slash = ends_in_slash path;
                steps = steps_at nat_eq later reader (at parts.here steps) (Named (name_of place.last));
              }))) ≡ Err (record {
                deny = denial W4;
                steps = steps_at nat_eq later reader (at parts.here steps) (Named (name_of place.last));
              })
          hidden_so [] h = absurd (never (h (Ok place.parent)))
            where
              never : Path (Result (Location ℕ) Deny) (Ok place.parent) (Err (denial W4)) → ⊥
              never e = cc
          hidden_so ((true, rule) ∷ rows) h = ap (λ d. Err (record {
            deny = d;
            steps = steps_at nat_eq later reader (at parts.here steps) (Named (name_of place.last));
          })) (same_deny (h (Ok place.parent)))
            where
              same_deny : Path (Result (Location ℕ) Deny) (Err (denial rule)) (Err (denial W4))
                  → denial rule ≡ denial W4
              same_deny e = cc
          hidden_so ((false, rule) ∷ rows) h = hidden_so rows h

-- what a task is answered by a judgement
abbrev answer_of : Fresh ℕ → World ℕ → Task ℕ → Judgement ℕ → Result Answer Deny
answer_of fresh world task judgement = (after world judgement (apply nat_eq fresh world task)).answer

-- What a second open answers
exclusive_refused : (world : World ℕ) (fresh : Fresh ℕ) (name : TaskName) (task : Task ℕ) (path : List ℕ)
    (access : Access) (mode : ℕ)
    (place : Place ℕ) → task_called world name ≡ Some task → nat_le most_descriptors (length task.descriptors) ≡ false
    → new_walk nat_eq (looks_of nat_eq world) task path ≡ Ok place → is_special place.last ≡ false → place.slash ≡ false
    → is_some place.object ≡ true
    → (policy nat_eq fresh world name (OpenFile path access (Exclusive mode))).answer ≡ Err (denial E1)
unfolding judging
exclusive_refused world fresh name task path access mode place called room walk named no_slash there =
    grind (arith, common_steps, there, answer-finished_unless)

module _ {path : List ℕ} {world : World ℕ} {fresh : Fresh ℕ} {name : TaskName} {access : Access} {mode number : ℕ}
    (it : HasSucceeded world fresh name (OpenFile path access (Exclusive mode)) (Opened number))
    (made : NewFile (looks_of nat_eq world) it.did.task path access mode it.did.permit) where
  abbrev place : Place ℕ
  place = made.place

  abbrev call : Call
  call = OpenFile path access (Exclusive mode)

  abbrev later : World ℕ
  later = (policy nat_eq fresh world name call).world

  abbrev node : Node ℕ
  node = new_file it.did.task mode []

  abbrev parent : Location ℕ
  parent = place.parent

  abbrev entry : List ℕ
  entry = name_of place.last

  abbrev change : Change ℕ
  change = Make parent.node entry (fresh 0) node

  abbrev base : World ℕ
  base = with_new_inode nat_eq fresh world parent entry node

  abbrev new_task : Task ℕ
  new_task = with_descriptor it.did.task (record { mount = parent.mount; node = fresh 0 }) access

  own : task_called world it.did.task.name ≡ Some it.did.task
  own = called_own it

  may : MayBeMade world parent entry node
  may = (subst (SeesTo world it.did.task) made.permit_is (sees_to it)).0

  something : is_some (node_at nat_eq world parent) ≡ true
  something = directory_used (files_at nat_eq world parent).tree parent.node may.name_is_free.in_directory

  tree : IsFileTree (files_at nat_eq world parent)
  tree = tree_here world it.is parent may.name_is_free.in_directory

  new : (files_at nat_eq world parent).tree.node (fresh 0) ≡ None
  new = unused_inode world fresh it.serves it.is.files.numbers 0 (mount_at nat_eq world parent).filesystem

  after_tree : IsListedTree (changed nat_eq (files_at nat_eq world parent) change)
  after_tree = record {
    tree = changes_keep_trees (files_at nat_eq world parent) change tree.tree
        (given_changes_are_proper world fresh it.did.task it.did.permit parent change it.is
        (given_of world fresh name call (Opened number) it.serves refl refl it.did)
        (ap (change_of fresh world) made.permit_is)).0;
    numbers = changes_keep_numbers (files_at nat_eq world parent) change tree.numbers;
  }

  spent_is : spent it ≡ with_task base new_task
  spent_is = ap (λ p. (apply nat_eq fresh world it.did.task p).world) made.permit_is

  settles : settled nat_eq (spent it) ≡ with_task base new_task
  settles = ap (λ p. settled nat_eq (apply nat_eq fresh world it.did.task p).world) made.permit_is
      ∙ opened_new_keeps_all fresh world it.did.task parent entry node access (worlds_are_settled world it.is)
      it.is.files.one_filesystem it.is.tasks.one_task (contains_from_among world.tasks it.did.task
      (found_among (λ (t : Task ℕ). same_name name t.name) world.tasks it.did.task it.did.called))
      (listed (mount_at nat_eq world parent).filesystem world.filesystems parent.node something)
      (cc (plain_numbered world it.plain (mount_at nat_eq world parent).filesystem)) after_tree
      (record { in_directory = may.name_is_free.in_directory; is_new = new }) may.name_is_free.free

  mounts_stay : later.mounts ≡ world.mounts
  mounts_stay = ap (λ (w : World ℕ). w.mounts) it.did.left ∙ ap (λ (w : World ℕ). w.mounts) settles
      ∙ mounts-with_change world (odds fresh) parent change

  files_stay : (n : ℕ) → (filesystem_numbered nat_eq later n).files ≡ (filesystem_numbered nat_eq base n).files
  files_stay n = later_files it n ∙ ap (λ w. (filesystem_numbered nat_eq w n).files) settles

  here_files : (filesystem_numbered nat_eq later (mount_at nat_eq world parent).filesystem).files ≡ changed nat_eq
      (files_at nat_eq world parent) change
  here_files = files_stay (mount_at nat_eq world parent).filesystem
      ∙ files_changed (odds fresh) world it.plain parent change something

  other_files : (n : ℕ) → nat_eq (mount_at nat_eq world parent).filesystem n ≡ false
      → (filesystem_numbered nat_eq later n).files ≡ (filesystem_numbered nat_eq world n).files
  other_files n other = files_stay n ∙ files_other (odds fresh) world it.plain parent change n other

  stays : WorldStays world later Never
  stays = stays_by world later (mount_at nat_eq world parent).filesystem mounts_stay here_files other_files Never
      (ways_made (files_at nat_eq world parent) Never parent.node entry
      (fresh 0) may.name_is_free.in_directory may.name_is_free.free node new)

  is_later : IsWorld nat_eq later × IsPlain later
  is_later = later_is it

  caller_there : task_called later name ≡ Some (raised_task name new_task)
  caller_there = still_called it name new_task (cc (
    spent_is,
    called_replaced base name it.did.task new_task
        (ap (find (λ (t : Task ℕ). same_name name t.name)) (tasks-with_change (odds fresh) world parent change) ∙
        it.did.called) (sym (name_found world name it.did.task it.did.called)),
  ))

  again_refused : (reader : TaskName) (reading : Task ℕ) → task_called later reader ≡ Some reading
      → StandsAs it.did.task reading
      → MayLook it.did.task reading → nat_le most_descriptors (length reading.descriptors) ≡ false
      → (again : Access) (other : ℕ) → (later_fresh : Fresh ℕ)
      → (policy nat_eq later_fresh later reader (OpenFile path again (Exclusive other))).answer ≡ Err (denial E1)
  again_refused reader reading found stands looks room again other later_fresh = by
      (place_too leads made.named (named_place (looks_of nat_eq world) it.did.task path place
      (new_parts (looks_of nat_eq world) it.did.task path place made.walk) made.named)
      (Some (record { mount = parent.mount; node = fresh 0 })) there)
    where
      self : task_called later reading.name ≡ Some reading
      self = own_name later reader reading found

      both : SeesLater world later it.did.task reading Never
      both = record {
        is = it.is;
        plain = it.plain;
        is_later = is_later.0;
        plain_later = is_later.1;
        called = own;
        called_later = self;
        stands = stands;
        stay = stays;
      }

      rights : RightsLeft world later
      rights filesystem number now was who wanted =
          rights_by world later (mount_at nat_eq world parent).filesystem mounts_stay here_files other_files
          (rights_made (files_at nat_eq world parent) Never parent.node entry (fresh 0) may.name_is_free.in_directory
          may.name_is_free.free node new) filesystem number wanted who was

      leads : LeadsToo (looks_of nat_eq world) (looks_of nat_eq later) it.did.task reading Never (Known both)
      leads = leads_with both rights looks

      there : Known both parent → entry_location nat_eq (looks_of nat_eq later) parent entry
          ≡ Some (record { mount = parent.mount; node = fresh 0 })
      there known = ap (λ o. option_map {U = Location ℕ} (λ object. record { mount = parent.mount; node = object })
          (entry_named entry (entries_in o)))
          (node_here both parent ∙ ap (λ (f : FileTree ℕ). f.tree.node parent.node) here_files)
          ∙ ap (option_map {U = Location ℕ} (λ object. record { mount = parent.mount; node = object }))
          (made_entry (files_at nat_eq world parent) Never parent.node entry
          (fresh 0) may.name_is_free.in_directory may.name_is_free.free node new)

      by : ((steps : List (List ℕ)) × (place_walk nat_eq (looks_of nat_eq later) reading path ≡ Ok (record {
        parent = place.parent;
        last = place.last;
        object = Some (record { mount = parent.mount; node = fresh 0 });
        slash = place.slash;
        steps = steps;
      }))) ⊎ Stops Never (place_walk nat_eq (looks_of nat_eq later) reading path)
          → (policy nat_eq later_fresh later reader (OpenFile path again (Exclusive other))).answer ≡ Err (denial E1)
      by (inl e) = exclusive_refused later later_fresh reader reading path again other _ found room
          (ap (λ r. then_walk r (λ p. walk_unless p.steps
          (new_name_rules nat_eq (looks_of nat_eq later) p) p)) e.1) made.named made.no_slash refl
      by (inr stop) = absurd stop.1

pub exclusive_twice : ExclusiveTwice
exclusive_twice path world fresh name task access again mode other number is plain serves called granted = (
  λ now there room later_fresh. again_refused it made
      name now there (subst (StandsAs it.did.task) (same_Some _ now (sym caller_here ∙ there)) raised_stands_so)
      (inl (ap (λ (t : Task ℕ). t.credentials) (sym (same_Some _ now (sym caller_here ∙ there)))
      ∙ raised_credentials name (with_descriptor it.did.task
      (record { mount = made.place.parent.mount; node = fresh 0 }) access))) room again other later_fresh,
  λ reader reading looks room later_fresh.
      again_refused it made reader reading looks.called
      (subst (λ t. StandsAs t reading) (sym task_is)
      (all_stands _ task reader reading looks)) (inr looks.all) room again other later_fresh,
)
  where
    it : HasSucceeded world fresh name (OpenFile path access (Exclusive mode)) (Opened number)
    it = has_succeeded is plain serves refl refl refl granted

    task_is : it.did.task ≡ task
    task_is = same_Some it.did.task task (cc it.did.called)

    made : NewFile (looks_of nat_eq world) it.did.task path access mode it.did.permit
    made = exclusive_parts (looks_of nat_eq world) it.did.task path access mode it.did.permit it.did.granted

    caller_here : task_called (policy nat_eq fresh world name (OpenFile path access (Exclusive mode))).world name
        ≡ Some (raised_task name (with_descriptor it.did.task
        (record { mount = made.place.parent.mount; node = fresh 0 }) access))
    caller_here = caller_there it made

    raised_stands_so : StandsAs it.did.task (raised_task name (with_descriptor it.did.task
        (record { mount = made.place.parent.mount; node = fresh 0 }) access))
    raised_stands_so =
        let raised = raised_stands name
        (with_descriptor it.did.task (record { mount = made.place.parent.mount; node = fresh 0 }) access) in
        record { root = raised.root; directory = raised.directory }
