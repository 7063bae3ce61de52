-- The invariants of tasks, one by one: credentials(7), path_resolution(7), open(2).
use Rattle.std.specs.Prelude.{false, nat_eq, true, ℕ, ◌≡◌}
use Rattle.std.specs.List.{list_all}
use Rattle.vt_spec.specs.Lists.{any_pair}
use Rattle.vt_spec.specs.Machine.World.{Task, World, all_locations}
use Rattle.vt_spec.specs.Language.Calls.{same_name}
use Rattle.vt_spec.specs.Machine.Invariants.{has_regular_files_open, is_located_well, stands_on_directories}

abbrev pub OneTaskAName : World ℕ → Type 0
OneTaskAName world = any_pair (λ (a b : Task ℕ). same_name a.name b.name) world.tasks ≡ false

abbrev pub LocationsAreThere : World ℕ → Type 0
LocationsAreThere world = list_all (is_located_well nat_eq world) (all_locations world) ≡ true

abbrev pub TasksStandOnDirectories : World ℕ → Type 0
TasksStandOnDirectories world = list_all (stands_on_directories nat_eq world) world.tasks ≡ true

abbrev pub OpenFilesAreRegular : World ℕ → Type 0
OpenFilesAreRegular world = list_all (has_regular_files_open nat_eq world) world.tasks ≡ true
