-- Who looks after a call that changed a tree, and where walks lead for him: for the caller himself, and for each task
-- that stands where he does and may search everything.
use Rattle.std.proofs.Common.{arith, ◌≡◌, refl, ap, ◌∙◌, inl, inr, ◌⊎◌, ℕ, nat_eq, Bool, true, false, ◌∷◌, length, Option, Some, None, is_some, option_map, ok_or, zero, suc, []}
use Rattle.vt_spec.proofs.Common.{Credentials, node_allows, Answer, Call, Change, Dot, DotDot, Fresh, IsWorld, LastWord, Location, Mount, Named, NoWord, Task, TaskName, World, among_from_all, chain, changed, child_at, common_steps, denial, entries_in, entry_named, execute_right, files_at, is_directory_at, is_special, last_or, looks_of, may, mount_at, name_of, node_at, policy, raised_task, root_of, stands_at, task_called, tasks-with_change, topmost}
use Rattle.vt_laws_later_calls.proofs.Common.{cases_Option, Deny, IsPlain, W4, W6, found_in, name_found, stands_there, stepped}
use Rattle.vt_laws_trees.proofs.trees.TreesOfMounts.{worlds_are_standing}
use Rattle.vt_laws_later_calls.specs.LaterPaths.{LooksFrom, reads_all}
use Rattle.vt_laws_later_calls.proofs.AfterChange.{ChangesTree, later_is, node_changed, world_rights, world_stays}
use Rattle.vt_laws_later_calls.proofs.Granted.{HasSucceeded}
use Rattle.vt_laws_later_calls.proofs.Looked.{search_all}
use Rattle.vt_laws_later_calls.proofs.Stays.{called_own, still_called}
use Rattle.vt_laws_later_calls.proofs.Ways.{LeadsToo}
use Rattle.vt_laws_later_calls.proofs.WaysChanges.{RightsStay, TreeStays}
use Rattle.vt_laws_later_calls.proofs.WaysStay.{Known, SeesLater, StandsAs, WorldStays, node_here, node_in, world_leads}

-- a task goes by its own name
pub own_name : (world : World ℕ) (name : TaskName) (task : Task ℕ) → task_called world name ≡ Some task
    → task_called world task.name ≡ Some task
own_name world name task e = cc (name_found world name task e)

-- with the same credentials, or those that may search and read everything
abbrev pub MayLook : Task ℕ → Task ℕ → Type 0
MayLook task reader = (reader.credentials ≡ task.credentials) ⊎ (reads_all reader.credentials ≡ true)

-- a task with its change number raised stands where it stood
pub raised_stands : (name : TaskName) (task : Task ℕ) → StandsAs task (raised_task name task)
raised_stands name task = grind (arith, common_steps)

pub raised_credentials : (name : TaskName) (task : Task ℕ) → (raised_task name task).credentials ≡ task.credentials
raised_credentials name task = grind (arith, common_steps)

pub all_stands : (world : World ℕ) (task : Task ℕ) (name : TaskName) (reading : Task ℕ)
    → LooksFrom world task name reading → StandsAs task reading
all_stands world task name reading looks = record { root = looks.root; directory = looks.directory }

-- A name in a directory
pub named_last : (last : LastWord) → is_special last ≡ false → last ≡ Named (name_of last)
named_last NoWord e = cc
named_last Dot e = cc
named_last DotDot e = cc
named_last (Named name) e = refl

pub stepped_by : (world : World ℕ) (reader : Task ℕ) (here : Location ℕ) (last : LastWord) → is_special last ≡ false
    → (o : Option ℕ) → entry_named (name_of last) (entries_in (node_at nat_eq world here)) ≡ o
    → stepped nat_eq world reader here last ≡ ok_or (option_map (topmost nat_eq world.mounts)
    (option_map (λ object. record { mount = here.mount; node = object }) o)) (denial W6)
stepped_by world reader here last special o e = cc (named_last last special)

-- over what is no directory no mount stands
pub uncovered : (world : World ℕ) → IsWorld nat_eq world → (location : Location ℕ)
    → is_directory_at nat_eq world location ≡ false → topmost nat_eq world.mounts location ≡ location
uncovered world is location no_directory = elim (cases_Option (child_at nat_eq world.mounts location)) [
  | inl e ↦ over (length world.mounts) e
  | inr its ↦ let found = found_in (stands_at nat_eq location) world.mounts its.0 its.1 in
      cc (among_from_all (λ (m : Mount ℕ). (place : Location ℕ) → m.mount_point ≡ Some place → is_directory_at nat_eq
      world place ≡ true) world.mounts (worlds_are_standing world is).places its.0 found.0 location
      (stands_there location its.0 found.1))
]
  where
    over : (most : ℕ) → child_at nat_eq world.mounts location ≡ None
        → last_or location (chain most (λ here. option_map root_of (child_at nat_eq world.mounts here)) location)
        ≡ location
    over zero none = refl
    over (suc most) none = ap (λ o. last_or location (elim (option_map root_of o) [
      | None ↦ location ∷ []
      | Some b ↦ location ∷ chain most (λ here. option_map root_of (child_at nat_eq world.mounts here)) b
    ])) none

-- what was there and still is gives the rights that it gave
abbrev pub RightsLeft : World ℕ → World ℕ → Type 0
RightsLeft world later = (filesystem number : ℕ) → is_some (node_in later filesystem number) ≡ true
    → is_some (node_in world filesystem number) ≡ true → (who : Credentials) (wanted : ℕ)
    → node_allows who wanted (node_in later filesystem number)
    ≡ node_allows who wanted (node_in world filesystem number)

-- Where walks lead for who may search what the caller searched, or everything
module _ {world later : World ℕ} {task reader : Task ℕ} {Refused : Deny → Type 0}
    (both : SeesLater world later task reader Refused) where
  there_too : (here : Location ℕ) → Known both here
      → is_some (node_in later (mount_at nat_eq world here).filesystem here.node) ≡ true
  there_too here known = cc (node_here both here, known.0.1.1)

  searched_by_all : reads_all reader.credentials ≡ true → (here : Location ℕ) → Known both here
      → is_directory_at nat_eq world here ≡ true → may (looks_of nat_eq later) reader here execute_right ≡ true
  searched_by_all all here known directory = search_all reader.credentials all (node_at nat_eq later here) (cc (
    node_here both here,
    both.stay.directory (mount_at nat_eq world here).filesystem here.node known.0.0.1 (there_too here known),
  ))

  pub leads_with : RightsLeft world later → MayLook task reader
      → LeadsToo (looks_of nat_eq world) (looks_of nat_eq later) task reader Refused (Known both)
  leads_with rights (inr all) =
      world_leads both (λ here known directory e. inl (searched_by_all all here known directory))
  leads_with rights (inl same) = world_leads both (λ here known directory e. inl (cc (
    node_here both here,
    rights (mount_at nat_eq world here).filesystem here.node (there_too here known) known.0.0.1 task.credentials
        execute_right,
  )))

module _ {world : World ℕ} {fresh : Fresh ℕ} {name : TaskName} {call : Call} {answer : Answer}
    {it : HasSucceeded world fresh name call answer} {location : Location ℕ} {change : Change ℕ} {from : Fresh ℕ}
    (changes : ChangesTree it location change from) {Refused : Deny → Type 0}
    (stay : TreeStays (files_at nat_eq world location).tree
    (changed nat_eq (files_at nat_eq world location) change).tree Refused) where
  abbrev pub left : World ℕ
  left = (policy nat_eq fresh world name call).world

  pub stays : WorldStays world left Refused
  stays = world_stays it changes Refused stay

  pub is_left : IsWorld nat_eq left × IsPlain left
  is_left = later_is it

  -- the caller is there still
  pub caller : task_called left name ≡ Some (raised_task name it.did.task)
  caller =
      still_called it name it.did.task (cc (changes.does, tasks-with_change from world location change, it.did.called))

  module _ (reader : Task ℕ) (called : task_called left reader.name ≡ Some reader)
      (stands : StandsAs it.did.task reader) where
    abbrev both : SeesLater world left it.did.task reader Refused
    both = record {
      is = it.is;
      plain = it.plain;
      is_later = is_left.0;
      plain_later = is_left.1;
      called = called_own it;
      called_later = called;
      stands = stands;
      stay = stays;
    }

    abbrev pub KnownToo : Location ℕ → Type 0
    KnownToo here = Known both here

    pub known_there : (here : Location ℕ) → KnownToo here
        → is_some (node_in left (mount_at nat_eq world here).filesystem here.node) ≡ true
    known_there = there_too both

    -- what is at the location of the change
    pub seen_there : KnownToo location → node_at nat_eq left location
        ≡ (changed nat_eq (files_at nat_eq world location) change).tree.node location.node
    seen_there known = node_here both location ∙ node_changed it changes location.node (known_there location known)

    -- and at an inode of that filesystem
    pub seen_at : (number : ℕ) → node_at nat_eq left (record { mount = location.mount; node = number })
        ≡ node_in left (mount_at nat_eq world location).filesystem number
    seen_at number = node_here both (record { mount = location.mount; node = number })

    -- where rights stay
    pub leads : RightsStay (files_at nat_eq world location).tree
        (changed nat_eq (files_at nat_eq world location) change).tree → MayLook it.did.task reader
        → LeadsToo (looks_of nat_eq world) (looks_of nat_eq left) it.did.task reader Refused KnownToo
    leads rights = leads_with both (λ filesystem number now was who wanted.
        world_rights it changes rights filesystem number wanted who was now)

    -- where they may be lost, and that is a refusal
    pub leads_or_hides : Refused (denial W4)
        → LeadsToo (looks_of nat_eq world) (looks_of nat_eq left) it.did.task reader Refused KnownToo
    leads_or_hides hides = world_leads both
        (λ here known directory e. by (may (looks_of nat_eq left) reader here execute_right))
      where
        by : (b : Bool) → (b ≡ true) ⊎ ((b ≡ false) × Refused (denial W4))
        by true = inl refl
        by false = inr (refl, hides)

    pub leads_all : reads_all reader.credentials ≡ true
        → LeadsToo (looks_of nat_eq world) (looks_of nat_eq left) it.did.task reader Refused KnownToo
    leads_all all = world_leads both (λ here known directory e. inl (searched_by_all both all here known directory))
