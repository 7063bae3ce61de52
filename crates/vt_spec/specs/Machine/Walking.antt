-- Where a path leads: path_resolution(7). A walk is by recursion on the prefixes of its path, and a symlink that is
-- followed is a walk of its own text.
use Rattle.std.specs.Prelude.{Bool, Err, List, None, Ok, Option, Result, Some, [], codes, false, flat_map, if◌then◌else◌, is_some, length, map, nat_lt, not, ok_or, option_map, option_to_list, reverse, suc, true, unwrap_or, zero, ℕ, ◌&&◌, ◌++◌, ◌+◌, ◌-◌, ◌==◌, ◌||◌, ◌∷◌}
use Rattle.std.specs.List.{list_any}
use Rattle.std.specs.Str.{bytes_eq}
use Rattle.vt_spec.specs.declared.errors.Deny.{Deny}
use Rattle.vt_spec.specs.declared.errors.Rule.TheVariants.{W2, W3, W4, W5, W6, W7, W8, W9}
use Rattle.vt_spec.specs.Errors.{Rules, and_then, denial, unless}
use Rattle.vt_spec.specs.FileTree.{symlink_text}
use Rattle.vt_spec.specs.Lists.{chain, holds_of, last_or, then_some}
use Rattle.vt_spec.specs.Machine.Looks.{Looks, is_directory_at, may, mount_at, mounter_may, topmost}
use Rattle.vt_spec.specs.Machine.Mounts.{Location, same_location}
use Rattle.vt_spec.specs.PathText.{ends_in_slash, is_absolute, parsed_path, words}
use Rattle.vt_spec.specs.Language.Limits.{longest_name, most_symlinks}
use Rattle.vt_spec.specs.Rights.{execute_right}
use Rattle.vt_spec.specs.Tree.{entries_in, entry_named, parent_in}
use Rattle.vt_spec.specs.Machine.World.{Task}

-- the last word of a path, as a call that names an object takes it: path_resolution(7)
pub data LastWord : Type 0 where
  NoWord : LastWord
  Dot : LastWord
  DotDot : LastWord
  Named : (name : List ℕ) → LastWord

-- what a word stands for as a last word
abbrev pub last_word : List ℕ → LastWord
last_word word =
    if bytes_eq word (codes ".") then Dot
    else if bytes_eq word (codes "..") then DotDot
    else Named word

-- the path has no word: `/`
abbrev pub is_no_word : LastWord → Bool
is_no_word NoWord = true
is_no_word Dot = false
is_no_word DotDot = false
is_no_word (Named name) = false

-- the last word is `.`
abbrev pub is_dot : LastWord → Bool
is_dot NoWord = false
is_dot Dot = true
is_dot DotDot = false
is_dot (Named name) = false

-- the last word is `..`
abbrev pub is_dot_dot : LastWord → Bool
is_dot_dot NoWord = false
is_dot_dot Dot = false
is_dot_dot DotDot = true
is_dot_dot (Named name) = false

-- the last word names no entry of a directory
abbrev pub is_special : LastWord → Bool
is_special NoWord = true
is_special Dot = true
is_special DotDot = true
is_special (Named name) = false

-- the name that is the last word; empty for the others
abbrev pub name_of : LastWord → List ℕ
name_of NoWord = []
name_of Dot = []
name_of DotDot = []
name_of (Named name) = name

-- Where a walk stands: the location, the symlinks that it may still follow, and for each word walked, the last one
-- first, the filesystems that it met.
pub record Here (N : Type 0) : Type 0 where
  pub location : Location N
  pub left : ℕ
  pub steps : List (List N)

-- where a walk was refused, that word among those walked
pub record Stop (N : Type 0) : Type 0 where
  pub deny : Deny
  pub steps : List (List N)

-- where a parent walk ends: the directory, the last word in it, the object there, if any, and whether a slash follows
-- the word; the slashes of a path without words follow none
pub record Place (N : Type 0) : Type 0 where
  pub parent : Location N
  pub last : LastWord
  pub object : Option (Location N)
  pub slash : Bool
  pub steps : List (List N)

-- the last word of a path, whose last word comes first in the list
abbrev pub final_word : List (List ℕ) → LastWord
final_word [] = NoWord
final_word (word ∷ prefix) = last_word word

-- how a symlink's text is walked: from the directory that the symlink stands in
abbrev pub Follow : Type 0 → Type 0
Follow N = Location N → Here N → List ℕ → Result (Here N) (Stop N)

module _ {N : Type 0} where
  -- what comes after a walk that may be refused
  abbrev pub then_walk : {A B : Type 0} → Result A (Stop N) → (A → Result B (Stop N)) → Result B (Stop N)
  then_walk (Ok a) next = next a
  then_walk (Err stop) next = Err stop

  -- the refusal by the first rule that fails, at the word walked last
  abbrev pub stopped_by : {A : Type 0} → List (List N) → Result A Deny → Result A (Stop N)
  stopped_by steps (Ok a) = Ok a
  stopped_by steps (Err deny) = Err (record { deny = deny; steps = steps })

  -- the result of a walk, or the refusal by the first rule that fails
  abbrev pub walk_unless : {A : Type 0} → List (List N) → Rules → A → Result A (Stop N)
  walk_unless steps rules a = stopped_by steps (unless rules (Ok a))

  -- what the policy sees of a walk
  abbrev pub walk_end : {A : Type 0} → Result A (Stop N) → Result A Deny
  walk_end (Ok a) = Ok a
  walk_end (Err stop) = Err stop.deny

  -- the word walked last meets one more filesystem; before the first word nothing is met
  abbrev pub also_met : N → List (List N) → List (List N)
  also_met filesystem [] = []
  also_met filesystem (met ∷ steps) = (filesystem ∷ met) ∷ steps

  -- the word walked last meets more filesystems
  abbrev pub all_met : List N → List (List N) → List (List N)
  all_met filesystems [] = []
  all_met filesystems (met ∷ steps) = (filesystems ++ met) ∷ steps

  -- the start of a path, or of the text of a symlink in a directory: path_resolution(7)
  abbrev pub start_of : Task N → Location N → List ℕ → Location N
  start_of task directory path = if is_absolute path then task.root else directory

  -- what is no symlink is reached; a symlink is followed
  abbrev pub if_symlink : Here N → Option (List ℕ) → (List ℕ → Result (Here N) (Stop N)) → Result (Here N) (Stop N)
  if_symlink here None follow = Ok here
  if_symlink here (Some text) follow = follow text

  -- where the walk of a path begins: at the task's root or working directory, with all symlinks still to follow
  abbrev pub walk_start : Task N → List ℕ → Here N
  walk_start task path = record { location = start_of task task.directory path; left = most_symlinks; steps = [] }

  -- the text of a path, or W1 or W2 before any word is walked
  abbrev pub path_text : List ℕ → Result (List ℕ) (Stop N)
  path_text path = stopped_by [] (parsed_path path)

  -- where a walk stands at the symlink that a last word names
  abbrev pub symlink_of : Here N → Place N → Here N
  symlink_of here place =
      record { location = unwrap_or place.object place.parent; left = here.left; steps = place.steps }

module _ {N : Type 0} (eq : N → N → Bool) where
  -- before a word is looked up, the location reached must be a directory that the task, and on an overlay its mounter,
  -- may search: path_resolution(7), "Step 2"
  abbrev pub search_rules : Looks N → Task N → Location N → Rules
  search_rules looks task here =
      (not (is_directory_at looks here), W3)
      ∷ (not (may looks task here execute_right), W4)
      ∷ (not (mounter_may looks here execute_right), W5)
      ∷ []

  -- the entry that a name has in a directory
  abbrev pub entry_location : Looks N → Location N → List ℕ → Option (Location N)
  entry_location looks here name =
      option_map (λ object. record { mount = here.mount; node = object })
      (entry_named name (entries_in (looks.node here)))

  -- `..` at a mount's root goes on from its mount point, but stays at the task's root and at the root of a mount
  -- without a mount point: path_resolution(7), "Mount points"
  abbrev pub hop : Looks N → Task N → Location N → Option (Location N)
  hop looks task here =
      if same_location eq here task.root then None
      else if eq here.node (mount_at looks here).root then (mount_at looks here).mount_point
      else None

  -- a location, then each mount point from which `..` goes on
  abbrev pub hops : Looks N → Task N → Location N → List (Location N)
  hops looks task here = chain looks.mount_count (hop looks task) here

  -- W8: the directory is removed, or no longer lies under its mount's root (profile)
  abbrev pub is_lost : Looks N → Location N → Bool
  is_lost looks here =
      looks.is_removed here
      || not (looks.is_under (mount_at looks here).filesystem (mount_at looks here).root here.node)

  -- the parent of a directory, seen through the same mount
  abbrev pub parent_location : Looks N → Location N → Location N
  parent_location looks here = record { mount = here.mount; node = parent_in here.node (looks.node here) }

  -- at the task's root, a covered one too (profile), and at the root of a mount without a mount point, `..` stays
  abbrev pub is_top : Looks N → Task N → Location N → Bool
  is_top looks task here = same_location eq here task.root || eq here.node (mount_at looks here).root

  -- `..` from where the hops end: it stays at a root, else leads to the parent and through every mount over it
  abbrev pub up_from : Looks N → Task N → Location N → Result (Location N) Deny
  up_from looks task here =
      if is_top looks task here then Ok here
      else unless ((is_lost looks here, W8) ∷ []) (Ok (topmost looks (parent_location looks here)))

  -- one step by a word: to a location, a missing name (W6), or W8
  abbrev pub stepped : Looks N → Task N → Location N → LastWord → Result (Location N) Deny
  stepped looks task here NoWord = Ok here
  stepped looks task here Dot = Ok here
  stepped looks task here DotDot = up_from looks task (last_or here (hops looks task here))
  stepped looks task here (Named name) =
      ok_or (option_map (topmost looks) (entry_location looks here name)) (denial W6)

  -- the filesystems of the mounts through which locations are seen
  abbrev pub filesystems_of : Looks N → List (Location N) → List N
  filesystems_of looks locations = map (λ location. (mount_at looks location).filesystem) locations

  -- the parent that `..` leads to, and the roots of the mounts over it; none where it stays
  abbrev pub entered_upward : Looks N → Task N → Location N → List (Location N)
  entered_upward looks task here =
      if is_top looks task here then [] else looks.mounts_over (parent_location looks here)

  -- the filesystems that a step meets: of the mounts that `..` passes, and of those that are entered (profile)
  abbrev pub met_by : Looks N → Task N → Location N → LastWord → List N
  met_by looks task here NoWord = filesystems_of looks (here ∷ [])
  met_by looks task here Dot = filesystems_of looks (here ∷ [])
  met_by looks task here DotDot =
      filesystems_of looks (hops looks task here ++ entered_upward looks task (last_or here (hops looks task here)))
  met_by looks task here (Named name) =
      filesystems_of looks (here ∷ flat_map looks.mounts_over (option_to_list (entry_location looks here name)))

  -- the steps of a walk, with that by one more word
  abbrev pub steps_with : Looks N → Task N → Here N → LastWord → List (List N)
  steps_with looks task here word = met_by looks task here.location word ∷ here.steps

  -- one word walked
  abbrev pub word_walked : Looks N → Task N → Here N → LastWord → Result (Here N) (Stop N)
  word_walked looks task here word =
      stopped_by (steps_with looks task here word)
      (and_then (unless (search_rules looks task here.location) (stepped looks task here.location word))
      (λ reached. Ok (record { location = reached; left = here.left; steps = steps_with looks task here word })))

  -- a symlink's text may be walked: W9 before W7 before W2 (profile)
  abbrev pub follow_rules : Looks N → Here N → List ℕ → Rules
  follow_rules looks symlink text =
      ((mount_at looks symlink.location).flags.nosymfollow, W9)
      ∷ (symlink.left == 0, W7)
      ∷ (list_any (λ word. nat_lt longest_name (length word)) (words text), W2)
      ∷ []

  -- where the walk of a symlink's text begins, in the directory that the symlink stands in
  abbrev pub symlink_start : Looks N → Task N → Location N → Here N → List ℕ → Here N
  symlink_start looks task directory symlink text = record {
    location = start_of task directory text;
    left = symlink.left - 1;
    steps = if is_absolute text then also_met (mount_at looks task.root).filesystem symlink.steps else symlink.steps;
  }

  -- a trailing slash asks for a directory: path_resolution(7)
  abbrev pub slash_rules : Looks N → List ℕ → Location N → Rules
  slash_rules looks path here = ((if ends_in_slash path then not (is_directory_at looks here) else false), W3) ∷ []

  -- The walk by words, of which the last comes first; every symlink is followed, a symlink's text by the walk given.
  abbrev pub words_walked : Looks N → Task N → Follow N → Here N → List (List ℕ) → Result (Here N) (Stop N)
  words_walked looks task follow here [] = Ok here
  words_walked looks task follow here (word ∷ prefix) =
      then_walk (words_walked looks task follow here prefix) (λ reached.
      then_walk (word_walked looks task reached (last_word word)) (λ next.
      if_symlink next (symlink_text (looks.node next.location)) (follow reached.location next)))

  -- A symlink is a walk of its text from its directory or the task's root, with what is left of the symlinks. Symlinks
  -- stand in one another's texts no deeper than there are symlinks to follow.
  abbrev pub symlink_walked : ℕ → Looks N → Task N → Location N → Here N → List ℕ → Result (Here N) (Stop N)
  symlink_walked zero looks task directory symlink text = Err (record { deny = denial W7; steps = symlink.steps })
  symlink_walked (suc depth) looks task directory symlink text =
      then_walk
      (walk_unless symlink.steps (follow_rules looks symlink text)
      (symlink_start looks task directory symlink text)) (λ start.
      then_walk (words_walked looks task (λ inside next inner. symlink_walked depth looks task inside next inner)
      start (reverse (words text))) (λ reached.
      walk_unless reached.steps (slash_rules looks text reached.location) reached))

  -- the text of a symlink walked, with the most symlinks to follow
  abbrev pub followed : Looks N → Task N → Location N → Here N → List ℕ → Result (Here N) (Stop N)
  followed looks task directory symlink text = symlink_walked (most_symlinks + 1) looks task directory symlink text

  -- every word of the path walked, a final symlink too
  abbrev pub path_walked : Looks N → Task N → List ℕ → Result (Here N) (Stop N)
  path_walked looks task path =
      then_walk (path_text path) (λ text.
      words_walked looks task (followed looks task) (walk_start task text) (reverse (words text)))

  -- the object that a path leads to, a final symlink followed
  abbrev pub object_walk : Looks N → Task N → List ℕ → Result (Here N) (Stop N)
  object_walk looks task path =
      then_walk (path_walked looks task path) (λ here.
      walk_unless here.steps (slash_rules looks path here.location) here)

  -- the directory that a path leads to
  abbrev pub directory_walk : Looks N → Task N → List ℕ → Result (Here N) (Stop N)
  directory_walk looks task path =
      then_walk (path_walked looks task path) (λ here.
      walk_unless here.steps ((not (is_directory_at looks here.location), W3) ∷ []) here)

  -- the walk of all words but the last
  abbrev pub prefix_walked : Looks N → Task N → Follow N → Here N → List (List ℕ) → Result (Here N) (Stop N)
  prefix_walked looks task follow here [] = Ok here
  prefix_walked looks task follow here (word ∷ prefix) = words_walked looks task follow here prefix

  -- the last word walked, without a final symlink followed
  abbrev pub last_walked : Looks N → Task N → Here N → LastWord → Result (Here N) (Stop N)
  last_walked looks task here NoWord = Ok here
  last_walked looks task here Dot = word_walked looks task here Dot
  last_walked looks task here DotDot = word_walked looks task here DotDot
  last_walked looks task here (Named name) = word_walked looks task here (Named name)

  -- the two cases of `symlink_walk`: whether a slash follows the last word
  abbrev pub symlink_walk_by : (slash : Bool) → Looks N → Task N → List ℕ → Result (Here N) (Stop N)
  symlink_walk_by true looks task path = object_walk looks task path
  symlink_walk_by false looks task path =
      then_walk (path_text path) (λ text.
      then_walk (prefix_walked looks task (followed looks task) (walk_start task text) (reverse (words text))) (λ here.
      last_walked looks task here (final_word (reverse (words text)))))

  -- the object that a path leads to, a final symlink itself unless a slash follows: lstat(2)
  abbrev pub symlink_walk : Looks N → Task N → List ℕ → Result (Here N) (Stop N)
  symlink_walk looks task path = symlink_walk_by (ends_in_slash path) looks task path

  -- Parent walks

  -- what a last word stands for, without a symlink followed or a mount entered
  abbrev pub object_named : Looks N → Task N → Location N → LastWord → Result (Option (Location N)) Deny
  object_named looks task here NoWord = Ok (Some here)
  object_named looks task here Dot = Ok (Some here)
  object_named looks task here DotDot = and_then (stepped looks task here DotDot) (λ parent. Ok (Some parent))
  object_named looks task here (Named name) = Ok (entry_location looks here name)

  -- the filesystems that the last word of a parent walk meets: of a name its directory's alone (profile)
  abbrev pub met_at : Looks N → Task N → Location N → LastWord → List N
  met_at looks task here NoWord = met_by looks task here NoWord
  met_at looks task here Dot = met_by looks task here Dot
  met_at looks task here DotDot = met_by looks task here DotDot
  met_at looks task here (Named name) = filesystems_of looks (here ∷ [])

  -- the steps of a parent walk, with its last word
  abbrev pub steps_at : Looks N → Task N → Here N → LastWord → List (List N)
  steps_at looks task here word = met_at looks task here.location word ∷ here.steps

  -- where a parent walk ends, by its directory and its last word
  abbrev pub placed : Looks N → Task N → Here N → LastWord → (slash : Bool) → Result (Place N) (Stop N)
  placed looks task here NoWord slash =
      Ok (record {
        parent = here.location;
        last = NoWord;
        object = Some here.location;
        slash = false;
        steps = here.steps;
      })
  placed looks task here word slash =
      stopped_by (steps_at looks task here word)
      (and_then (unless (search_rules looks task here.location) (object_named looks task here.location word))
      (λ object. Ok (record {
        parent = here.location;
        last = word;
        object = object;
        slash = slash;
        steps = steps_at looks task here word;
      })))

  -- the parent that a path leads to, and what its last word names there
  abbrev pub place_walk : Looks N → Task N → List ℕ → Result (Place N) (Stop N)
  place_walk looks task path =
      then_walk (path_text path) (λ text.
      then_walk (prefix_walked looks task (followed looks task) (walk_start task text) (reverse (words text))) (λ here.
      placed looks task here (final_word (reverse (words text))) (ends_in_slash text)))

  -- W8: a name that is missing is to be made in a removed directory: mkdir(2), ENOENT
  abbrev pub new_name_rules : Looks N → Place N → Rules
  new_name_rules looks place =
      (not (is_some place.object) && looks.is_removed place.parent, W8) ∷ []

  -- a name that is to be made, or exists: mkdir(2)
  abbrev pub new_walk : Looks N → Task N → List ℕ → Result (Place N) (Stop N)
  new_walk looks task path =
      then_walk (place_walk looks task path) (λ place. walk_unless place.steps (new_name_rules looks place) place)

  -- as `new_walk`; a slash behind a missing name is W6: symlink(2), mknod(2), link(2)
  abbrev pub new_leaf_walk : Looks N → Task N → List ℕ → Result (Place N) (Stop N)
  new_leaf_walk looks task path =
      then_walk (new_walk looks task path) (λ place.
      walk_unless place.steps ((place.slash && not (is_some place.object), W6) ∷ []) place)

  -- a name that must exist: rmdir(2), ENOENT
  abbrev pub old_walk : Looks N → Task N → List ℕ → Result (Place N) (Stop N)
  old_walk looks task path =
      then_walk (place_walk looks task path) (λ place.
      walk_unless place.steps ((not (is_some place.object), W6) ∷ []) place)

  -- the object at a place is a directory
  abbrev pub is_directory_there : Looks N → Place N → Bool
  is_directory_there looks place = holds_of (is_directory_at looks) place.object

  -- as `old_walk`; a slash behind what is no directory is W3: unlink(2), rename(2)
  abbrev pub old_leaf_walk : Looks N → Task N → List ℕ → Result (Place N) (Stop N)
  old_leaf_walk looks task path =
      then_walk (old_walk looks task path) (λ place.
      walk_unless place.steps ((place.slash && not (is_directory_there looks place), W3) ∷ []) place)

  -- the object that a name leads to, and the roots of the mounts over it
  abbrev pub entered_mounts : Looks N → Place N → List (Location N)
  entered_mounts looks place =
      if is_special place.last then [] else flat_map looks.mounts_over (option_to_list place.object)

  -- the place with the mounts over its object entered
  abbrev pub entered : Looks N → Place N → Place N
  entered looks place = record place {
    object = option_map (topmost looks) place.object;
    steps = all_met (filesystems_of looks (entered_mounts looks place)) place.steps;
  }

  -- the text of the symlink at a place, if one is there
  abbrev pub symlink_there : Looks N → Place N → Option (List ℕ)
  symlink_there looks place = then_some place.object (λ object. symlink_text (looks.node object))

  -- what is no symlink is the file; a symlink is followed
  abbrev pub file_or_symlink : Looks N → Place N → Option (List ℕ) → (List ℕ → Result (Place N) (Stop N))
      → Result (Place N) (Stop N)
  file_or_symlink looks place None follow = Ok (entered looks place)
  file_or_symlink looks place (Some text) follow = follow text

  -- the walk to a file that is opened or made, on the path or the text of a final symlink, with the symlinks that may
  -- stand in one another's texts
  abbrev pub file_walked : ℕ → Looks N → Task N → Here N → List ℕ → Bool → Result (Place N) (Stop N)
  file_walked zero looks task start text slash = Err (record { deny = denial W7; steps = start.steps })
  file_walked (suc depth) looks task start text slash =
      then_walk (prefix_walked looks task (followed looks task) start (reverse (words text))) (λ here.
      then_walk (placed looks task here (final_word (reverse (words text))) (slash || ends_in_slash text)) (λ place.
      file_or_symlink looks place (symlink_there looks place) (λ inner.
      then_walk (walk_unless place.steps (follow_rules looks (symlink_of here place) inner)
      (symlink_start looks task here.location (symlink_of here place) inner))
      (λ next. file_walked depth looks task next inner (slash || ends_in_slash text)))))

  -- The place of a file that is opened or made: a final symlink is followed, also to a missing name: open(2) with
  -- O_CREAT.
  abbrev pub file_walk : Looks N → Task N → List ℕ → Result (Place N) (Stop N)
  file_walk looks task path =
      then_walk (path_text path) (λ text.
      then_walk (file_walked (most_symlinks + 1) looks task (walk_start task text) text false) (λ place.
      walk_unless place.steps (new_name_rules looks place) place))
