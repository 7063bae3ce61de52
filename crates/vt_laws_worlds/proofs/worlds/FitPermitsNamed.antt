-- Whatever is permitted in a world that has the invariants fits it.
use Rattle.std.proofs.Common.{arith, Bool, Ok, not, option_map, refl, true≢false, ◌∙◌, List, Some, false, is_some, nat_eq, true, ℕ, ◌≡◌}
use Rattle.vt_spec.proofs.Common.{Call, Descriptor, Fresh, Here, IsWorld, Location, Looks, Permit, Place, Serves, Task, World, among_from_list_all, common_steps, denial, destination_walk, directory_walk, file_walk, has_regular_files_open, is_directory_at, is_directory_there, is_elsewhere, is_kind_in, is_no_root, is_on_descendant, is_shared, is_special, lies_under_location, looks_of, mount_at, new_leaf_walk, new_walk, node_at, object_there, object_walk, old_leaf_walk, old_walk, or_false_left, or_parts, overfills, rename_new_walk, source_walk, special_word, task_called}
use Rattle.vt_laws_rules.proofs.given.Ways.{calls_are_granted}
use Rattle.vt_laws_rules.proofs.same.SameMany.{attaches}
use Rattle.vt_laws_rules.proofs.given.Ways.{IsGranted}
use Rattle.vt_laws_rules.proofs.given.Ways.IsGranted.{binds, changes_directory, changes_flags, changes_mark, changes_mode, changes_owner, changes_root, changes_type, creates, creates_exclusively, enters_namespace, makes_directory, makes_hard_link, makes_symlink, makes_whiteout, mounts_overlayfs, mounts_tmpfs, moves_mount, opens, opens_existing, overwrites_file, pivots_root, removes_directory, renames, unlinks, unmounts, unmounts_lazily, writes_new_file, writes_part}
use Rattle.vt_spec.specs.declared.attributes.Kind.TheVariants.{File, White}
use Rattle.vt_spec.specs.declared.errors.Rule.TheVariants.{S2}
use Rattle.vt_laws_trees.proofs.trees.TreesTasks.{called_there}
use Rattle.vt_laws_trees.proofs.trees.TreesWalked.{at_end, not-false}
use Rattle.vt_laws_trees.specs.Trees.Calls.{mounts_overlay}
use Rattle.vt_laws_worlds.proofs.worlds.FewMountsLeft.{few_left}
use Rattle.vt_laws_worlds.proofs.worlds.FitPermits.{any_of_option, below_at, descriptor_among, destination, end_is_file, first_two, namespace_listed, ok_or_some, own_if, parent_directory, reached_directory, some_of, under_root}
use Rattle.vt_laws_worlds.proofs.worlds.Reached.{directory_found, is_reached, is_reached_directory}
use Rattle.vt_laws_worlds.proofs.worlds.ReachedPlaces.{HereDirectory, IsEndPlace, IsFoundPlace, IsOldPlace, IsPlaceIn, IsTopmost, destination_walk_end, file_walk_end, new_leaf_walk_found, new_walk_found, old_leaf_walk_found, old_walk_found, rename_new_walk_found, source_walk_end}
use Rattle.vt_laws_worlds.proofs.worlds.ReachedWalks.{End, Found, FoundDirectory, directory_walk_end, object_end}
use Rattle.vt_laws_worlds.specs.Worlds.Calls.{AllPermitsFit, PermitsFit}
use Rattle.vt_laws_worlds.specs.Worlds.Permits.{IsFitPermit, IsReached, IsReachedDirectory, IsReachedFile, NamesWhatIsThere}

module _ (fresh : Fresh ℕ) (world : World ℕ) (whole : IsWorld nat_eq world) (task : Task ℕ)
    (called : task_called world task.name ≡ Some task) where
  abbrev looks : Looks ℕ
  looks = looks_of nat_eq world

  abbrev too_many : Permit ℕ → Bool
  too_many = overfills nat_eq fresh world task

  abbrev Granted : Call → Permit ℕ → Type 0
  Granted = IsGranted nat_eq looks too_many task

  -- where walks end
  object_is : (path : List ℕ) (here : Here ℕ) → object_walk nat_eq looks task path ≡ Ok here
      → End world whole task called here.location
  object_is path here = at_end _ _ here (object_end world whole task called path)

  directory_is : (path : List ℕ) (here : Here ℕ) → directory_walk nat_eq looks task path ≡ Ok here
      → FoundDirectory world whole task called here.location
  directory_is path here = at_end _ _ here (directory_walk_end world whole task called path)

  source_is : (path : List ℕ) (here : Here ℕ) → source_walk nat_eq looks task path ≡ Ok here
      → HereDirectory world whole task called here
  source_is path here = at_end _ _ here (source_walk_end world whole task called path)

  topmost_is : (path : List ℕ) (here : Here ℕ) → destination_walk nat_eq looks task path ≡ Ok here
      → IsTopmost world whole task called here
  topmost_is path here = at_end _ _ here (destination_walk_end world whole task called path)

  file_is : (path : List ℕ) (place : Place ℕ) → file_walk nat_eq looks task path ≡ Ok place
      → IsEndPlace world whole task called place
  file_is path place = at_end _ _ place (file_walk_end world whole task called path)

  new_is : (path : List ℕ) (place : Place ℕ) → new_walk nat_eq looks task path ≡ Ok place
      → IsFoundPlace world whole task called place
  new_is path place = at_end _ _ place (new_walk_found world whole task called path)

  new_leaf_is : (path : List ℕ) (place : Place ℕ) → new_leaf_walk nat_eq looks task path ≡ Ok place
      → IsFoundPlace world whole task called place
  new_leaf_is path place = at_end _ _ place (new_leaf_walk_found world whole task called path)

  old_leaf_is : (path : List ℕ) (place : Place ℕ) → old_leaf_walk nat_eq looks task path ≡ Ok place
      → IsOldPlace world whole task called place
  old_leaf_is path place = at_end _ _ place (old_leaf_walk_found world whole task called path)

  found_there : (place : Place ℕ) → IsOldPlace world whole task called place
      → Found world whole task called (object_there place)
  found_there place is = is.0.2 (object_there place) (some_of _ place.parent is.1)

  -- a parent of a new name, an object, and a regular file
  made_in : {P : Location ℕ → Type 0} (place : Place ℕ) → IsPlaceIn world whole task called P place
      → is_special place.last ≡ false → IsReachedDirectory world task place.parent
  made_in = parent_directory world whole task called

  reached : (location : Location ℕ) → Found world whole task called location → IsReached world task location
  reached = is_reached world whole task

  file_at : (file : Location ℕ) → End world whole task called file → is_directory_at nat_eq world file ≡ false
      → is_kind_in White (node_at nat_eq world file) ≡ false → IsReachedFile world task file
  file_at file is no_directory no_whiteout = record {
    reached = reached file is.0;
    regular = end_is_file world whole task called file is no_directory no_whiteout;
  }

  -- what is named is there
  granted_names : (call : Call) (permit : Permit ℕ) → mounts_overlay call ≡ false → Granted call permit
      → NamesWhatIsThere world task permit
  granted_names call permit plain (overwrites_file path bytes place file end named there passed) =
      let is = (file_is path place end).2 file there in
      (reached file is.0, end_is_file world whole task called file is passed.0 passed.1.1.0)
  granted_names call permit plain (writes_new_file path bytes place end named missing fits passed) =
      made_in place (file_is path place end) (or_false_left (is_special place.last) place.slash named.0)
  granted_names call permit plain (makes_directory path mode place end passed) =
      made_in place (new_is path place end) passed.0
  granted_names call permit plain (makes_symlink text path place fits end passed) =
      made_in place (new_leaf_is path place end) passed.0
  granted_names call permit plain (makes_whiteout path place end passed) =
      made_in place (new_leaf_is path place end) passed.0
  granted_names call permit plain (makes_hard_link old new from place from_end end named passed) =
      (reached place.parent (new_leaf_is new place end).0, tt)
  granted_names call permit plain (unlinks path place end named passed) =
      (reached place.parent (old_leaf_is path place end).0.0, tt)
  granted_names call permit plain (removes_directory path place end named passed) =
      let is = at_end _ (old_walk nat_eq looks task path) place (old_walk_found world whole task called path) end in (
        made_in place is.0 (special_word place.last named.0 named.1.0 named.1.1.0),
        is_reached_directory world whole task (object_there place) (found_there place is)
            (not-false (is_directory_at nat_eq world (object_there place)) passed.0),
      )
  granted_names call permit plain (renames old new from to names two passed) =
      let from_is = old_leaf_is old from names.from_end in
      let to_is = at_end _ (rename_new_walk nat_eq looks task new (is_directory_there nat_eq looks from)) to
      (rename_new_walk_found world whole task called new (is_directory_there nat_eq looks from)) names.to_end in (
        made_in from from_is.0 names.from_named.0,
        made_in to to_is names.to_named.0,
        reached (object_there from) (found_there from from_is),
        λ other e. reached other (to_is.2 other e),
      )
  granted_names call permit plain (changes_mode path mode here end passed) =
      (reached here.location (object_is path here end).0, tt)
  granted_names call permit plain (changes_owner path uid gid here end passed) =
      (reached here.location (object_is path here end).0, tt)
  granted_names call permit plain (changes_mark path mark here admin end passed) =
      (reached here.location (directory_found world whole task here.location (directory_is path here end)), tt)
  granted_names call permit plain (opens path access here room end passed) =
      file_at here.location (object_is path here end) passed.0 passed.1.0
  granted_names call permit plain (opens_existing path access mode place file room end named there passed) =
      file_at file ((file_is path place end).2 file there) passed.0 passed.1.0
  granted_names call permit plain (creates path access mode place room end named missing passed) =
      (made_in place (file_is path place end) (or_false_left (is_special place.last) place.slash named.0), refl)
  granted_names call permit plain (creates_exclusively path access mode place room end named passed) =
      (made_in place (new_is path place end) named.0, refl)
  granted_names call permit plain (writes_part number offset bytes descriptor found passed) =
      among_from_list_all (λ (d : Descriptor ℕ). is_kind_in File (node_at nat_eq world d.location)) task.descriptors
      (among_from_list_all (has_regular_files_open nat_eq world) world.tasks whole.tasks.open_files task
      (called_there world.tasks task.name task called))
      descriptor (descriptor_among world whole task called number (λ d. d.writes) descriptor found)
  granted_names call permit plain (changes_directory path here end passed) =
      reached_directory world whole task called here (directory_is path here end)
  granted_names call permit plain (changes_root path here capable end passed) =
      reached_directory world whole task called here (directory_is path here end)
  granted_names call permit plain (enters_namespace name namespace found capable) =
      namespace_listed world whole task called name namespace
      (ok_or_some (option_map (λ (t : Task ℕ). t.namespace) (task_called world name)) (denial S2) namespace found)
  granted_names call permit plain (mounts_tmpfs path flags here admin end passed) =
      destination world whole task called here (topmost_is path here end) passed.0
  granted_names call permit plain (mounts_overlayfs path words flags here layers admin end walked layered passed) =
      absurd (true≢false plain)
  granted_names call permit plain (binds source path recursive from here admin from_end end passed) =
      let own = or_parts (is_elsewhere nat_eq looks task from.location) (is_elsewhere nat_eq looks task here.location)
      passed.0 in (
        reached_directory world whole task called from (source_is source from from_end),
        own_if world whole task called from.location own.0,
        destination world whole task called here (topmost_is path here end) own.1,
        passed.1.0,
      )
  granted_names call permit plain (moves_mount source path from here admin from_end end passed) =
      let own = or_parts (is_elsewhere nat_eq looks task from.location) (is_elsewhere nat_eq looks task here.location)
      passed.0 in
      record {
        destination = destination world whole task called here (topmost_is path here end) own.1;
        own = own_if world whole task called from.location own.0;
        placed = not-false (is_some (mount_at nat_eq world from.location).mount_point) passed.1.1.1.1.1.1.0;
        unshared_parent = any_of_option (λ (at : Location ℕ). is_shared (mount_at nat_eq world at).propagation)
            (mount_at nat_eq world from.location).mount_point ∙ passed.1.0;
        no_unbindable = passed.1.1.0;
        not_inside = passed.1.1.1.0;
      }
  granted_names call permit plain (unmounts path here admin end passed) = (
    own_if world whole task called here.location passed.0,
    not-false (is_some (mount_at nat_eq world here.location).mount_point) passed.1.1.1.0,
    passed.1.1.0,
  )
  granted_names call permit plain (unmounts_lazily path here admin end passed) = (
    own_if world whole task called here.location passed.0,
    not-false (is_some (mount_at nat_eq world here.location).mount_point) passed.1.1.0,
  )
  granted_names call permit plain (changes_flags path flags here admin end passed) =
      own_if world whole task called here.location passed.0
  granted_names call permit plain (changes_type path word recursive here admin end passed) =
      own_if world whole task called here.location passed.0
  granted_names call permit plain (pivots_root new put root here admin root_end end passed) =
      let own = or_parts (is_elsewhere nat_eq looks task task.root) _ passed.0 in
      let others = or_parts (is_elsewhere nat_eq looks task root.location) _ own.1 in
      let roots = or_parts (is_no_root nat_eq looks root.location) (is_no_root nat_eq looks task.root) passed.1.0 in
      let apart = or_parts (nat_eq root.location.mount task.root.mount)
      (nat_eq here.location.mount task.root.mount) passed.1.1.0 in
      let lie = first_two (not (is_on_descendant nat_eq looks task.root.mount root.location))
      (not (lies_under_location nat_eq looks root.location here.location)) _ _ _ passed.1.1.1.0 in
      record {
        destination = destination world whole task called here (topmost_is put here end)
            (or_parts (is_elsewhere nat_eq looks task here.location) false others.1).0;
        own = own_if world whole task called root.location others.0;
        own_root = own_if world whole task called task.root own.0;
        another = apart.0;
        put_elsewhere = apart.1;
        below_root = below_at world whole task called root.location
            (not-false (is_on_descendant nat_eq looks task.root.mount root.location) lie.0);
        put_under = under_root world whole task called root.location here.location
            (not-false (lies_under_location nat_eq looks root.location here.location) lie.1) roots.0;
      }
  granted_names call permit plain granted = tt

  -- M9: what is attached leaves no namespace with too many mounts
  granted_leaves_room : (call : Call) (permit : Permit ℕ) → Granted call permit → attaches permit ≡ true
      → mounts_overlay call ≡ false → too_many permit ≡ false
  granted_leaves_room call permit (mounts_tmpfs path flags here admin end passed) is plain = passed.1.0
  granted_leaves_room call permit (mounts_overlayfs path words flags here layers admin end walked layered passed) is
      plain = cc
  granted_leaves_room call permit (binds source path recursive from here admin from_end end passed) is plain =
      passed.1.1.0
  granted_leaves_room call permit (moves_mount source path from here admin from_end end passed) is plain =
      passed.1.1.1.1.1.0
  granted_leaves_room call permit granted is plain = cc

  fitting : Serves nat_eq world fresh → (call : Call) (permit : Permit ℕ) → mounts_overlay call ≡ false
      → Granted call permit → IsFitPermit fresh world task permit
  fitting serves call permit plain granted =
      grind (arith, common_steps, granted_names call permit plain granted, granted_leaves_room, few_left)

pub all_permits_fit : AllPermitsFit
all_permits_fit world fresh task call permit whole serves called files judged = fitting fresh world whole task called
    serves call permit files (calls_are_granted nat_eq _ _ task call permit judged)

pub permits_fit : PermitsFit
permits_fit world fresh task call permit whole plain serves called files judged =
    all_permits_fit world fresh task call permit whole serves called files judged
