-- A new object is found at its path.
use Rattle.std.proofs.Common.{◌≡◌, refl, sym, ap, subst, ◌∙◌, inl, inr, ◌⊎◌, true≢false, ℕ, nat_eq, Bool, true, false, cond, not, ◌&&◌, List, [], ◌∷◌, Option, Some, None, is_some, Ok, Err, Result, unwrap_or}
use Rattle.vt_spec.proofs.Common.{Answer, Bytes, Call, Change, Done, Fresh, Here, LastWord, Location, Looks, Ls, Make, Mkdir, Names, Node, Permit, Place, Readlink, Stop, SymlinkAt, Task, TaskName, ToMake, World, apply, bytes_in, changed, denial, directory_mode, directory_used, entries_in, entry_named, files_at, is_directory_node, is_kind_in, is_special, looks_of, make_permit, mount_at, name_of, names_in, new_attr, new_directory, new_leaf_walk, new_walk, node_allows, node_at, odds, place_walk, policy, raised_task, read_right, same_Some, stepped, symlink_text, task_called, topmost, with_change}
use Rattle.vt_laws_later_calls.proofs.Common.{C1, Deny, IsFileTree, IsGranted, IsMade, MayBeMade, SeesTo, Symlink, W6, change_of, directory_made, makes_directory, makes_symlink, new_name_rules, symlink_made, tree_here, unused_inode}
use Rattle.vt_laws_later_calls.specs.LaterPaths.{MkdirThenList, SymlinkThenReadlink}
use Rattle.vt_laws_later_calls.specs.Later.{IsAnswered}
use Rattle.vt_laws_later_calls.proofs.AfterChange.{sees_to, ChangesTree, all_stays, later_is, later_mounts, spent}
use Rattle.vt_laws_later_calls.proofs.Granted.{HasSucceeded, has_succeeded}
use Rattle.vt_laws_later_calls.proofs.Looked.{list_of, read_all, readlink_of}
use Rattle.vt_laws_later_calls.proofs.OpenedNew.{made_node}
use Rattle.vt_laws_later_calls.proofs.Readers.{KnownToo, MayLook, all_stands, caller, leads, own_name, raised_credentials, raised_stands, seen_at, seen_there, stepped_by, uncovered}
use Rattle.vt_laws_later_calls.proofs.Ways.{EndsAt, LeadsToo, both_walked, walk_passing}
use Rattle.vt_laws_later_calls.proofs.WaysChanges.{RightsStay, TreeStays, made_entry, rights_made, ways_made}
use Rattle.vt_laws_later_calls.proofs.WaysPlaces.{EndsThere, directory_named_too, named_place, symlink_named_too}
use Rattle.vt_laws_later_calls.proofs.WaysStay.{StandsAs}

-- no refusal
abbrev pub Never : Deny → Type 0
Never deny = ⊥

pub surely : (walk : Result (Here ℕ) (Stop ℕ)) (next : Location ℕ) (left : ℕ) → EndsThere Never walk next left
    → EndsAt walk next left
surely walk next left (inl ends) = ends
surely walk next left (inr stop) = absurd stop.1

-- what a walk to a new name found
pub new_parts : (looks : Looks ℕ) (task : Task ℕ) (path : List ℕ) (place : Place ℕ)
    → new_walk nat_eq looks task path ≡ Ok place → place_walk nat_eq looks task path ≡ Ok place
new_parts looks task path place e =
    let walks = both_walked (place_walk nat_eq looks task path) _ place e in
    walks.1 ∙ ap Ok (walk_passing walks.0.steps (new_name_rules nat_eq looks walks.0) walks.0 place walks.2).1

-- and to a new leaf
pub new_leaf_parts : (looks : Looks ℕ) (task : Task ℕ) (path : List ℕ) (place : Place ℕ)
    → new_leaf_walk nat_eq looks task path ≡ Ok place
    → (place_walk nat_eq looks task path ≡ Ok place) × ((place.slash && not (is_some place.object)) ≡ false)
new_leaf_parts looks task path place e =
    let walks = both_walked (new_walk nat_eq looks task path) _ place e in
    let leaf = walk_passing walks.0.steps
    ((walks.0.slash && not (is_some walks.0.object), W6) ∷ []) walks.0 place walks.2 in (
      new_parts looks task path place (walks.1 ∙ ap Ok leaf.1),
      cc (leaf.1, leaf.0.0),
    )

pub no_slash_there : (slash some : Bool) → some ≡ false → (slash && not some) ≡ false → slash ≡ false
no_slash_there true some none e = cc
no_slash_there false some none e = refl

-- A call that made an object
module _ {world : World ℕ} {fresh : Fresh ℕ} {name : TaskName} {call : Call} {answer : Answer}
    (it : HasSucceeded world fresh name call answer) {parent : Location ℕ} {entry : List ℕ} {node : Node ℕ}
    (permit : it.did.permit ≡ ToMake parent entry node) where
  abbrev later : World ℕ
  later = (policy nat_eq fresh world name call).world

  abbrev change : Change ℕ
  change = Make parent.node entry (fresh 0) node

  pub may : MayBeMade world parent entry node
  may = subst (SeesTo world it.did.task) permit (sees_to it)

  pub something : is_some (node_at nat_eq world parent) ≡ true
  something = directory_used (files_at nat_eq world parent).tree parent.node may.name_is_free.in_directory

  pub tree : IsFileTree (files_at nat_eq world parent)
  tree = tree_here world it.is parent may.name_is_free.in_directory

  pub new : (files_at nat_eq world parent).tree.node (fresh 0) ≡ None
  new = unused_inode world fresh it.serves it.is.files.numbers 0 (mount_at nat_eq world parent).filesystem

  pub asks : change_of fresh world it.did.permit ≡ Some (parent, change)
  asks = cc

  pub does : spent it
      ≡ with_change nat_eq (odds fresh) world parent change
  does = ap (λ p. (apply nat_eq fresh world it.did.task p).world) permit

  pub made : IsMade (files_at nat_eq world parent) parent.node (fresh 0)
  made = record { in_directory = may.name_is_free.in_directory; is_new = new }

  pub stay : TreeStays (files_at nat_eq world parent).tree
      (changed nat_eq (files_at nat_eq world parent) change).tree Never
  stay = ways_made (files_at nat_eq world parent) Never parent.node entry
      (fresh 0) may.name_is_free.in_directory may.name_is_free.free node new

  pub rights : RightsStay (files_at nat_eq world parent).tree
      (changed nat_eq (files_at nat_eq world parent) change).tree
  rights = rights_made (files_at nat_eq world parent) Never parent.node entry
      (fresh 0) may.name_is_free.in_directory may.name_is_free.free node new

  abbrev pub new_location : Location ℕ
  new_location = record { mount = parent.mount; node = fresh 0 }

  abbrev changes : ChangesTree it parent change (odds fresh)
  changes = record { asks = asks; does = does; something = something; may = made; tree = tree }

  pub maker : task_called later name ≡ Some (raised_task name it.did.task)
  maker = caller changes stay

  module _ (reader : Task ℕ) (called : task_called later reader.name ≡ Some reader)
      (stands : StandsAs it.did.task reader) (looks : MayLook it.did.task reader) where
    abbrev pub KnownHere : Location ℕ → Type 0
    KnownHere here = KnownToo changes stay reader called stands here

    pub made_leads : LeadsToo (looks_of nat_eq world) (looks_of nat_eq later) it.did.task reader Never KnownHere
    made_leads = leads changes stay reader called stands rights looks

    pub node_seen : node_at nat_eq later new_location ≡ Some node
    node_seen =
        seen_at changes stay reader called stands (fresh 0) ∙ all_stays it changes (cc may.name_is_free.free) (fresh 0)
        ∙ made_node (files_at nat_eq world parent) parent.node entry (fresh 0) node may.name_is_free.in_directory new

    pub entry_seen : KnownHere parent → entry_named entry (entries_in (node_at nat_eq later parent)) ≡ Some (fresh 0)
    entry_seen known = ap (λ o. entry_named entry (entries_in o)) (seen_there changes stay reader called stands known)
        ∙ made_entry (files_at nat_eq world parent) Never parent.node entry
        (fresh 0) may.name_is_free.in_directory may.name_is_free.free node new

    -- no mount stands over it
    over : topmost nat_eq later.mounts new_location ≡ new_location
    over = cc (later_mounts it changes, uncovered world it.is new_location (ap is_directory_node new))

    pub new_stepped : (last : LastWord) → is_special last ≡ false → name_of last ≡ entry → KnownHere parent
        → stepped nat_eq (looks_of nat_eq later) reader parent last ≡ Ok new_location
    new_stepped last special same known =
        stepped_by later reader parent last special (Some (fresh 0)) (cc (entry_seen known)) ∙ ap Ok over

-- mkdir(2)
mkdir_parts : (looks : Looks ℕ) {too_many : Permit ℕ → Bool} (task : Task ℕ) (path : List ℕ) (mode : Option ℕ)
    (permit : Permit ℕ) → IsGranted nat_eq looks too_many task (Mkdir path mode) permit
    → (place : Place ℕ) × (place_walk nat_eq looks task path ≡ Ok place) × (is_special place.last ≡ false)
    × (permit ≡ make_permit place (directory_made task place mode))
mkdir_parts looks task path mode permit (makes_directory _ _ place end passed) =
    (place, new_parts looks task path place end, passed.0, refl)

either_way : (b : Bool) (answer : Answer)
    → (cond b (Ok answer) (Err (denial C1)) ≡ Ok answer) ⊎ (cond b (Ok answer) (Err (denial C1)) ≡ Err (denial C1))
either_way true answer = inl refl
either_way false answer = inr refl

pub mkdir_then_list : MkdirThenList
mkdir_then_list path mode world fresh name task is plain serves called granted = (
  λ later_fresh. subst (λ a. (a ≡ Ok (Names [])) ⊎ (a ≡ Err (denial C1)))
      (sym (listed name (raised_task name it.did.task) caller_there (raised_stands name it.did.task) (inl
      (raised_credentials name it.did.task)) later_fresh)) (either_way _ (Names [])),
  λ reader reading looks later_fresh. listed reader reading looks.called
      (subst (λ t. StandsAs t reading) (sym task_is) (all_stands _ task reader reading looks))
      (inr looks.all) later_fresh ∙ ap (λ b. cond b (Ok (Names [])) (Err (denial C1)))
      (read_all reading.credentials looks.all _ (new_directory parts.0.parent.node)),
)
  where
    it : HasSucceeded world fresh name (Mkdir path mode) Done
    it = has_succeeded is plain serves refl refl refl granted

    task_is : it.did.task ≡ task
    task_is = same_Some it.did.task task (cc it.did.called)

    parts : (place : Place ℕ) × (place_walk nat_eq (looks_of nat_eq world) it.did.task path ≡ Ok place)
        × (is_special place.last ≡ false) × (it.did.permit ≡ make_permit place (directory_made it.did.task place mode))
    parts = mkdir_parts (looks_of nat_eq world) it.did.task path mode it.did.permit it.did.granted

    node : Node ℕ
    node = record {
      attr = new_attr it.did.task (unwrap_or mode directory_mode);
      content = new_directory parts.0.parent.node;
    }

    left : World ℕ
    left = (policy nat_eq fresh world name (Mkdir path mode)).world

    caller_there : task_called (policy nat_eq fresh world name (Mkdir path mode)).world name
        ≡ Some (raised_task name it.did.task)
    caller_there = maker it parts.3

    listed : (reader : TaskName) (reading : Task ℕ)
        → task_called (policy nat_eq fresh world name (Mkdir path mode)).world reader ≡ Some reading
        → StandsAs it.did.task reading → MayLook it.did.task reading → (later_fresh : Fresh ℕ)
        → (policy nat_eq later_fresh (policy nat_eq fresh world name (Mkdir path mode)).world reader (Ls path)).answer
        ≡ cond (node_allows reading.credentials read_right (Some (record {
          attr = new_attr it.did.task (unwrap_or mode directory_mode);
          content = new_directory parts.0.parent.node;
        }))) (Ok (Names [])) (Err (denial C1))
    listed reader reading found stands looks later_fresh =
        let own = own_name (policy nat_eq fresh world name (Mkdir path mode)).world reader reading found in
        let seen = node_seen it parts.3 reading own stands looks in
        let walk = surely _ _ _ (directory_named_too (made_leads it parts.3 reading own stands looks)
        path parts.0 parts.2 (named_place (looks_of nat_eq world) it.did.task path parts.0 parts.1 parts.2)
        (new_location it parts.3) (new_stepped it parts.3 reading own stands looks parts.0.last parts.2 refl)
        (ap symlink_text seen) (ap is_directory_node seen)) in
        list_of (policy nat_eq fresh world name (Mkdir path mode)).world later_fresh reader found path
        (later_is it).1 _ walk.1
        ∙ (λ i. cond (node_allows reading.credentials read_right (seen i)) (Ok (Names (names_in (seen i))))
        (Err (denial C1)))

-- symlink(2)
symlink_parts : (looks : Looks ℕ) {too_many : Permit ℕ → Bool} (task : Task ℕ) (text path : List ℕ)
    (permit : Permit ℕ) → IsGranted nat_eq looks too_many task (SymlinkAt text path) permit
    → (place : Place ℕ) × (place_walk nat_eq looks task path ≡ Ok place) × (is_special place.last ≡ false)
    × (place.slash ≡ false) × (permit ≡ make_permit place (symlink_made task text))
symlink_parts looks task text path permit (makes_symlink _ _ place fits end passed) =
    let leaf = new_leaf_parts looks task path place end in
    (place, leaf.0, passed.0, no_slash_there place.slash (is_some place.object) passed.1.0 leaf.1, refl)

pub symlink_then_readlink : SymlinkThenReadlink
symlink_then_readlink text path world fresh name task is plain serves called granted = (
  told name (raised_task name it.did.task) caller_there (raised_stands name it.did.task)
      (inl (raised_credentials name it.did.task)),
  λ reader reading looks. told reader reading looks.called
      (subst (λ t. StandsAs t reading) (sym task_is) (all_stands _ task reader reading looks)) (inr looks.all),
)
  where
    it : HasSucceeded world fresh name (SymlinkAt text path) Done
    it = has_succeeded is plain serves refl refl refl granted

    task_is : it.did.task ≡ task
    task_is = same_Some it.did.task task (sym it.did.called ∙ called)

    parts : (place : Place ℕ) × (place_walk nat_eq (looks_of nat_eq world) it.did.task path ≡ Ok place)
        × (is_special place.last ≡ false) × (place.slash ≡ false)
        × (it.did.permit ≡ make_permit place (symlink_made it.did.task text))
    parts = symlink_parts (looks_of nat_eq world) it.did.task text path it.did.permit it.did.granted

    caller_there : task_called (policy nat_eq fresh world name (SymlinkAt text path)).world name
        ≡ Some (raised_task name it.did.task)
    caller_there = maker it parts.4

    told : (reader : TaskName) (reading : Task ℕ)
        → task_called (policy nat_eq fresh world name (SymlinkAt text path)).world reader ≡ Some reading
        → StandsAs it.did.task reading → MayLook it.did.task reading
        → IsAnswered (policy nat_eq fresh world name (SymlinkAt text path)).world reader (Readlink path) (Bytes text)
    told reader reading found stands looks later_fresh =
        let own = own_name (policy nat_eq fresh world name (SymlinkAt text path)).world reader reading found in
        let seen = node_seen it parts.4 reading own stands looks in
        let at_name = named_place (looks_of nat_eq world) it.did.task path parts.0 parts.1 parts.2 in
        let walk = surely _ _ _ (symlink_named_too
        (made_leads it parts.4 reading own stands looks) path parts.0 parts.2 at_name (new_location it parts.4)
        (new_stepped it parts.4 reading own stands looks parts.0.last parts.2 refl)
        (λ slash. absurd (true≢false (sym slash ∙ at_name.slash_is ∙ parts.3)))) in
        readlink_of (policy nat_eq fresh world name
        (SymlinkAt text path)).world later_fresh reader found path _ walk.1 (ap (is_kind_in Symlink) seen)
        ∙ ap (λ o. Ok (Bytes (bytes_in o))) seen
