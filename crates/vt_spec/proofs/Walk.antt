-- Walks in a world: each definition is that of its name in `Walking.antt`, over what the world shows.
use Rattle.std.specs.Prelude.{Bool, List, Option, Result, ℕ}
use Rattle.vt_spec.specs.declared.errors.Deny.{Deny}
use Rattle.vt_spec.specs.Errors.{Rules}
use Rattle.vt_spec.specs.Machine.Looks.{looks_of}
use Rattle.vt_spec.specs.Machine.Mounts.{Location}
use Rattle.vt_spec.specs.Machine.Walking
use Rattle.vt_spec.specs.Machine.World.{Task, World}
use Rattle.vt_spec.specs.Machine.Walking.{Follow, Here, LastWord, Place, Stop}

module _ {N : Type 0} (eq : N → N → Bool) where
  abbrev pub search_rules : World N → Task N → Location N → Rules
  search_rules world task = Walking.search_rules eq (looks_of eq world) task

  abbrev pub entry_location : World N → Location N → List ℕ → Option (Location N)
  entry_location world = Walking.entry_location eq (looks_of eq world)

  abbrev pub hop : World N → Task N → Location N → Option (Location N)
  hop world task = Walking.hop eq (looks_of eq world) task

  abbrev pub hops : World N → Task N → Location N → List (Location N)
  hops world task = Walking.hops eq (looks_of eq world) task

  abbrev pub is_lost : World N → Location N → Bool
  is_lost world = Walking.is_lost eq (looks_of eq world)

  abbrev pub parent_location : World N → Location N → Location N
  parent_location world = Walking.parent_location eq (looks_of eq world)

  abbrev pub is_top : World N → Task N → Location N → Bool
  is_top world task = Walking.is_top eq (looks_of eq world) task

  abbrev pub up_from : World N → Task N → Location N → Result (Location N) Deny
  up_from world task = Walking.up_from eq (looks_of eq world) task

  abbrev pub stepped : World N → Task N → Location N → LastWord → Result (Location N) Deny
  stepped world task = Walking.stepped eq (looks_of eq world) task

  abbrev pub steps_with : World N → Task N → Here N → LastWord → List (List N)
  steps_with world task = Walking.steps_with eq (looks_of eq world) task

  abbrev pub word_walked : World N → Task N → Here N → LastWord → Result (Here N) (Stop N)
  word_walked world task = Walking.word_walked eq (looks_of eq world) task

  abbrev pub follow_rules : World N → Here N → List ℕ → Rules
  follow_rules world = Walking.follow_rules eq (looks_of eq world)

  abbrev pub symlink_start : World N → Task N → Location N → Here N → List ℕ → Here N
  symlink_start world task = Walking.symlink_start eq (looks_of eq world) task

  abbrev pub slash_rules : World N → List ℕ → Location N → Rules
  slash_rules world = Walking.slash_rules eq (looks_of eq world)

  abbrev pub words_walked : World N → Task N → Follow N → Here N → List (List ℕ) → Result (Here N) (Stop N)
  words_walked world task = Walking.words_walked eq (looks_of eq world) task

  abbrev pub symlink_walked : ℕ → World N → Task N → Location N → Here N → List ℕ → Result (Here N) (Stop N)
  symlink_walked depth world task = Walking.symlink_walked eq depth (looks_of eq world) task

  abbrev pub followed : World N → Task N → Location N → Here N → List ℕ → Result (Here N) (Stop N)
  followed world task = Walking.followed eq (looks_of eq world) task

  abbrev pub path_walked : World N → Task N → List ℕ → Result (Here N) (Stop N)
  path_walked world task = Walking.path_walked eq (looks_of eq world) task

  abbrev pub object_walk : World N → Task N → List ℕ → Result (Here N) (Stop N)
  object_walk world task = Walking.object_walk eq (looks_of eq world) task

  abbrev pub directory_walk : World N → Task N → List ℕ → Result (Here N) (Stop N)
  directory_walk world task = Walking.directory_walk eq (looks_of eq world) task

  abbrev pub prefix_walked : World N → Task N → Follow N → Here N → List (List ℕ) → Result (Here N) (Stop N)
  prefix_walked world task = Walking.prefix_walked eq (looks_of eq world) task

  abbrev pub last_walked : World N → Task N → Here N → LastWord → Result (Here N) (Stop N)
  last_walked world task = Walking.last_walked eq (looks_of eq world) task

  abbrev pub symlink_walk_by : (slash : Bool) → World N → Task N → List ℕ → Result (Here N) (Stop N)
  symlink_walk_by follows world task = Walking.symlink_walk_by eq follows (looks_of eq world) task

  abbrev pub symlink_walk : World N → Task N → List ℕ → Result (Here N) (Stop N)
  symlink_walk world task = Walking.symlink_walk eq (looks_of eq world) task

  abbrev pub object_named : World N → Task N → Location N → LastWord → Result (Option (Location N)) Deny
  object_named world task = Walking.object_named eq (looks_of eq world) task

  abbrev pub steps_at : World N → Task N → Here N → LastWord → List (List N)
  steps_at world task = Walking.steps_at eq (looks_of eq world) task

  abbrev pub placed : World N → Task N → Here N → LastWord → (slash : Bool) → Result (Place N) (Stop N)
  placed world task = Walking.placed eq (looks_of eq world) task

  abbrev pub place_walk : World N → Task N → List ℕ → Result (Place N) (Stop N)
  place_walk world task = Walking.place_walk eq (looks_of eq world) task

  abbrev pub new_name_rules : World N → Place N → Rules
  new_name_rules world = Walking.new_name_rules eq (looks_of eq world)

  abbrev pub new_walk : World N → Task N → List ℕ → Result (Place N) (Stop N)
  new_walk world task = Walking.new_walk eq (looks_of eq world) task

  abbrev pub new_leaf_walk : World N → Task N → List ℕ → Result (Place N) (Stop N)
  new_leaf_walk world task = Walking.new_leaf_walk eq (looks_of eq world) task

  abbrev pub old_walk : World N → Task N → List ℕ → Result (Place N) (Stop N)
  old_walk world task = Walking.old_walk eq (looks_of eq world) task

  abbrev pub is_directory_there : World N → Place N → Bool
  is_directory_there world = Walking.is_directory_there eq (looks_of eq world)

  abbrev pub old_leaf_walk : World N → Task N → List ℕ → Result (Place N) (Stop N)
  old_leaf_walk world task = Walking.old_leaf_walk eq (looks_of eq world) task

  abbrev pub entered : World N → Place N → Place N
  entered world = Walking.entered eq (looks_of eq world)

  abbrev pub symlink_there : World N → Place N → Option (List ℕ)
  symlink_there world = Walking.symlink_there eq (looks_of eq world)

  abbrev pub file_or_symlink : World N → Place N → Option (List ℕ) → (List ℕ → Result (Place N) (Stop N))
      → Result (Place N) (Stop N)
  file_or_symlink world = Walking.file_or_symlink eq (looks_of eq world)

  abbrev pub file_walked : ℕ → World N → Task N → Here N → List ℕ → Bool → Result (Place N) (Stop N)
  file_walked depth world task = Walking.file_walked eq depth (looks_of eq world) task

  abbrev pub file_walk : World N → Task N → List ℕ → Result (Place N) (Stop N)
  file_walk world task = Walking.file_walk eq (looks_of eq world) task
