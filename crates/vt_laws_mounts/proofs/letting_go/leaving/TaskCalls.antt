-- What calls of tasks let go of.
use Rattle.std.proofs.Common.{arith, ◌≡◌, refl, sym, append_assoc, true≢false, ◌+◌, subst, ◌⊎◌, inl, inr, ℕ, nat_eq, true, List, [], ◌∷◌, ◌++◌}
use Rattle.vt_spec.proofs.Common.{Location, Task, World, among_from_contains, cases_Bool, child_of, common_steps, list_any-append, locations_of, opened, settled, with_copy, with_descriptor, with_task, without_descriptor}
use Rattle.vt_spec.specs.Machine.Tasks.{with_child}
use Rattle.vt_laws_mounts.specs.LettingGo.Leaving.{only_these_are_left}
use Rattle.vt_laws_mounts.specs.LettingGo.TaskCalls.{ChangedDirectoriesLetGo, ChangedRootsLetGo, ClosesLetGo, ForksKeepAll, NewCredentialsKeepAll, NewUmasksKeepAll, OpenedFilesKeepAll, locations_closed}
use Rattle.vt_laws_mounts.proofs.letting_go.leaving.FilesChanged.{none_left, replaced_leaves}
use Rattle.vt_laws_mounts.proofs.letting_go.leaving.LeftWithOverlays.{leaving_overlays_lets_go, staying_keeps_overlays}
use Rattle.vt_laws_mounts.proofs.letting_go.Lists.{Among, among-filter, among-from_map, among-map, among_from_list_all, list_all_from_among}

-- a descriptor is closed, or is there still
closed_or_still : (task : Task ℕ) (number : ℕ) (location : Location ℕ) → Among location (locations_of task)
    → Among location (locations_of (without_descriptor task number)) ⊎ Among location (locations_closed task number)
closed_or_still task number location known =
    grind (arith, common_steps, among-from_map, among-map, among-filter, cases_Bool)

pub closes_let_go : ClosesLetGo
closes_let_go number fresh world task settles one there = leaving_overlays_lets_go world
    (with_task world (without_descriptor task number)).tasks (locations_closed task number) settles
    (replaced_leaves world task _ _ one (among_from_contains _ task there) refl (closed_or_still task number))

pub changed_directories_let_go : ChangedDirectoriesLetGo
changed_directories_let_go directory fresh world task settles one there =
    leaving_overlays_lets_go world (with_task world new).tasks (task.directory ∷ []) settles
    (replaced_leaves world task new (task.directory ∷ []) one (among_from_contains world.tasks task there) refl by)
  where
    new : Task ℕ
    new = record task { directory = directory }

    by : (location : Location ℕ) → Among location (locations_of task)
        → Among location (locations_of new) ⊎ Among location (task.directory ∷ [])
    by location (inl e) = inl (inl e)
    by location (inr (inl e)) = inr (inl e)
    by location (inr (inr m)) = inl (inr (inr m))

pub changed_roots_let_go : ChangedRootsLetGo
changed_roots_let_go root fresh world task settles one there =
    leaving_overlays_lets_go world (with_task world new).tasks (task.root ∷ []) settles
    (replaced_leaves world task new (task.root ∷ []) one (among_from_contains world.tasks task there) refl by)
  where
    new : Task ℕ
    new = record task { root = root }

    by : (location : Location ℕ) → Among location (locations_of task)
        → Among location (locations_of new) ⊎ Among location (task.root ∷ [])
    by location (inl e) = inr (inl e)
    by location (inr m) = inl (inr m)

pub new_umasks_keep_all : NewUmasksKeepAll
new_umasks_keep_all umask fresh world task settles one there =
    staying_keeps_overlays world (with_task world (record task { umask = umask })).tasks settles
    (replaced_leaves world task _ [] one (among_from_contains _ task there) refl (λ location m. inl m))

pub new_credentials_keep_all : NewCredentialsKeepAll
new_credentials_keep_all credentials fresh world task settles one there =
    staying_keeps_overlays world (with_task world (record task { credentials = credentials })).tasks settles
    (replaced_leaves world task _ [] one (among_from_contains _ task there) refl (λ location m. inl m))

pub opened_files_keep_all : OpenedFilesKeepAll
opened_files_keep_all fresh world task file access settles one there not_copied =
    subst (λ b. settled nat_eq (opened (with_copy nat_eq b fresh world file) task file access).world
    ≡ (opened (with_copy nat_eq b fresh world file) task file access).world) (sym not_copied)
    (staying_keeps_overlays world (with_task world (with_descriptor task file access)).tasks settles
    (none_left world task file access one (among_from_contains _ task there)))

-- with one task more
more_tasks : (world : World ℕ) (tasks more : List (Task ℕ)) → only_these_are_left world tasks [] ≡ true
    → only_these_are_left world (tasks ++ more) [] ≡ true
more_tasks world tasks more only =
    grind (arith, common_steps, list_all_from_among, among_from_list_all, append_assoc, true≢false, list_any-append)

pub forks_keep_all : ForksKeepAll
forks_keep_all credentials fresh world task settles one there =
    staying_keeps_overlays world (with_child world task (child_of task credentials)).tasks settles (more_tasks world _ _
    (replaced_leaves world task _ [] one (among_from_contains _ task there) refl (λ location m. inl m)))
  where
    counted : Task ℕ
    counted = record task { forks = task.forks + 1 }
