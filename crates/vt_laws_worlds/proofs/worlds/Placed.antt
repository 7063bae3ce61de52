-- Where tasks stand, and what they have open, is there in each world that keeps what is seen.
use Rattle.std.proofs.Common.{arith, ◌≡◌, refl, ap, ◌∙◌, inl, inr, ⊎_elim, ℕ, nat_eq, true, List, map}
use Rattle.vt_spec.proofs.Common.{Among, Descriptor, Location, Task, World, all_locations, among-flat_map, among-from_flat_map, among-from_map, among-map, among_from_list_all, and_from, and_parts, common_steps, has_regular_files_open, is_directory_at, is_directory_seen_in, is_kind_in, is_located_well, list_all_from_among, locations_of, mount_at, node_at, replaced_if_called, stands_on_directories}
use Rattle.vt_spec.specs.declared.attributes.Kind.TheVariants.{File}
use Rattle.vt_laws_worlds.specs.Worlds.Tasks.{LocationsAreThere, OpenFilesAreRegular, TasksStandOnDirectories}
use Rattle.vt_laws_worlds.proofs.worlds.Seen.{KeepsWhatIsSeen, directory_after, file_after, is_in, located_after, mount_of_located}

-- a directory that is seen through a mount of the namespace, or through one that is in none
pub record StandsAt (world : World ℕ) (namespace : ℕ) (location : Location ℕ) : Type 0 where
  pub located : is_located_well nat_eq world location ≡ true
  pub directory : is_directory_at nat_eq world location ≡ true
  pub inside : is_in namespace (mount_at nat_eq world location) ≡ true

pub record OpensAt (world : World ℕ) (location : Location ℕ) : Type 0 where
  pub located : is_located_well nat_eq world location ≡ true
  pub regular : is_kind_in File (node_at nat_eq world location) ≡ true

pub record IsPlaced (world : World ℕ) (task : Task ℕ) : Type 0 where
  pub root : StandsAt world task.namespace task.root
  pub directory : StandsAt world task.namespace task.directory
  pub files : (descriptor : Descriptor ℕ) → Among descriptor task.descriptors → OpensAt world descriptor.location

abbrev pub ArePlaced : World ℕ → List (Task ℕ) → Type 0
ArePlaced world tasks = (task : Task ℕ) → Among task tasks → IsPlaced world task

module _ (before after : World ℕ) (seen : KeepsWhatIsSeen before after) where
  pub stands_after : (namespace : ℕ) (location : Location ℕ) → StandsAt before namespace location
      → StandsAt after namespace location
  stands_after namespace location at =
      let is = mount_of_located before after seen _ at.located in
      record {
        located = located_after before after seen _ at.located;
        directory = directory_after before after seen _ is at.directory;
        inside = (seen.views location.mount is).namespace namespace at.inside;
      }

  pub opens_after : (location : Location ℕ) → OpensAt before location → OpensAt after location
  opens_after location at = record {
    located = located_after before after seen location at.located;
    regular = file_after before after seen location (mount_of_located before after seen location at.located) at.regular;
  }

  pub placed_after : (task : Task ℕ) → IsPlaced before task → IsPlaced after task
  placed_after task at = record {
    root = stands_after task.namespace task.root at.root;
    directory = stands_after task.namespace task.directory at.directory;
    files = λ descriptor m. opens_after descriptor.location (at.files descriptor m);
  }

  -- tasks that were there
  pub all_placed_after : (tasks : List (Task ℕ)) → ArePlaced before tasks → ArePlaced after tasks
  all_placed_after tasks placed task m = placed_after task (placed task m)

-- The invariants say that all tasks are placed
pub all_are_placed : (world : World ℕ) → LocationsAreThere world → TasksStandOnDirectories world
    → OpenFilesAreRegular world → ArePlaced world world.tasks
all_are_placed world there directories files task m =
    let on = and_parts (is_directory_seen_in nat_eq world task.namespace task.root)
    (is_directory_seen_in nat_eq world task.namespace task.directory)
    (among_from_list_all (stands_on_directories nat_eq world) world.tasks directories task m) in
    let root = and_parts (is_directory_at nat_eq world task.root)
    (is_in task.namespace (mount_at nat_eq world task.root)) on.0 in
    let directory = and_parts (is_directory_at nat_eq world task.directory)
    (is_in task.namespace (mount_at nat_eq world task.directory)) on.1 in
    record {
      root = record { located = located task.root (inl refl); directory = root.0; inside = root.1 };
      directory = record {
        located = located task.directory (inr (inl refl));
        directory = directory.0;
        inside = directory.1;
      };
      files = λ descriptor n. record {
        located = located descriptor.location
            (inr (inr (among-map (λ (d : Descriptor ℕ). d.location) task.descriptors descriptor n)));
        regular = among_from_list_all
            (λ (d : Descriptor ℕ). is_kind_in File (node_at nat_eq world d.location)) task.descriptors
            (among_from_list_all (has_regular_files_open nat_eq world) world.tasks files task m) descriptor n;
      };
    }
  where
    located : (location : Location ℕ) → Among location (locations_of task)
        → is_located_well nat_eq world location ≡ true
    located location n = among_from_list_all (is_located_well nat_eq world) (all_locations world) there location
        (among-flat_map locations_of world.tasks task location m n)

module _ (world : World ℕ) (placed : ArePlaced world world.tasks) where
  pub locations_are_there : LocationsAreThere world
  locations_are_there = list_all_from_among (is_located_well nat_eq world) (all_locations world) (λ location m.
      let from = among-from_flat_map locations_of world.tasks location m in
      of_task from.0 (placed from.0 from.1) location from.2)
    where
      of_task : (task : Task ℕ) → IsPlaced world task → (location : Location ℕ) → Among location (locations_of task)
          → is_located_well nat_eq world location ≡ true
      of_task task at location m = ⊎_elim (λ e. ap (is_located_well nat_eq world) e ∙ at.root.located)
          (λ later. ⊎_elim (λ e. ap (is_located_well nat_eq world) e ∙ at.directory.located) (λ opened.
          let from = among-from_map (λ (d : Descriptor ℕ). d.location) task.descriptors location opened in
          ap (is_located_well nat_eq world) from.2 ∙ (at.files from.0 from.1).located) later) m

  pub tasks_stand_on_directories : TasksStandOnDirectories world
  tasks_stand_on_directories = list_all_from_among (stands_on_directories nat_eq world) world.tasks (λ task m.
      let at = placed task m in
      and_from _ _ (and_from _ _ at.root.directory at.root.inside) (and_from _ _ at.directory.directory
      at.directory.inside))

  pub open_files_are_regular : OpenFilesAreRegular world
  open_files_are_regular = list_all_from_among (has_regular_files_open nat_eq world) world.tasks (λ task m.
      list_all_from_among (λ (d : Descriptor ℕ). is_kind_in File (node_at nat_eq world d.location)) task.descriptors
      (λ descriptor n. ((placed task m).files descriptor n).regular))

-- Changes of tasks
pub placed_with : (world : World ℕ) (new : Task ℕ) (tasks : List (Task ℕ)) → ArePlaced world tasks → IsPlaced world new
    → ArePlaced world (map (replaced_if_called new) tasks)
placed_with world new tasks placed at task m =
    let from = among-from_map _ tasks task m in grind (arith, common_steps)
