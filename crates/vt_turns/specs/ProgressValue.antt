-- What the definitions see of a call under way.
use Rattle.std.specs.Prelude.{Bool, List, map, nat_eq, ℕ}
use Rattle.std.specs.Global.{Vec}
use Rattle.vt_spec.specs.Machine.Turns.{Progress as Meant, filesystem_change_of, is_stale}
use Rattle.vt_spec.specs.Machine.World.{World}
use Rattle.vt_location.specs.declared.numbers.FilesystemId.{FilesystemId}
use Rattle.vt_location.specs.Numbers.{filesystem_number}
use Rattle.vt_turns.specs.declared.progress.Progress.{Progress}

-- the filesystems that a word met
abbrev pub met_meant : Vec FilesystemId → List ℕ
met_meant met = map filesystem_number met.items

-- those that each word of a call met
abbrev pub words_meant : Vec (Vec FilesystemId) → List (List ℕ)
words_meant words = map met_meant words.items

-- the change number of a filesystem that is held
abbrev pub held_meant : FilesystemId × ℕ → ℕ × ℕ
held_meant held = (filesystem_number held.0, held.1)

-- it is another now, or can rise no more
abbrev pub is_stale_in : World ℕ → FilesystemId × ℕ → Bool
is_stale_in world held = is_stale held.1 (filesystem_change_of nat_eq world (filesystem_number held.0))

abbrev pub progress_meant : Progress → Meant ℕ
progress_meant progress = record {
  task = progress.task;
  walked = progress.walked;
  restarts = progress.restarts;
  task_change = progress.numbers.task;
  namespace_change = progress.numbers.namespace;
  filesystems = map held_meant progress.filesystems.items;
}
