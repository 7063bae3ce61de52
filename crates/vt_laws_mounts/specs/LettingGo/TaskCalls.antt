-- What goes after calls of tasks, in worlds with overlays or without: close(2), chdir(2), chroot(2), fork(2), umask(2),
-- capset(2), open(2).
use Rattle.std.specs.Prelude.{Contains, List, [], false, filter, map, nat_eq, ℕ, ◌==◌, ◌∷◌, ◌≡◌}
use Rattle.vt_spec.specs.Language.Calls.{Access, same_name}
use Rattle.vt_spec.specs.Lists.{Fresh, any_pair}
use Rattle.vt_spec.specs.Machine.Apply.{apply}
use Rattle.vt_spec.specs.Machine.Mounts.{Location}
use Rattle.vt_spec.specs.Machine.Descriptors.{is_copied_up}
use Rattle.vt_spec.specs.Machine.Permits.{Permit}
use Rattle.vt_spec.specs.Machine.Permits.Permit.{ToClose, ToFork, ToOpen, ToSetCredentials, ToSetDirectory, ToSetRoot, ToSetUmask}
use Rattle.vt_spec.specs.Machine.Settled.{settled}
use Rattle.vt_spec.specs.Machine.World.{Task, World}
use Rattle.vt_spec.specs.Rights.{Credentials}
use Rattle.vt_laws_mounts.specs.LettingGo.LeavingOverlays.{IsSettled, used_with_layers}
use Rattle.vt_laws_mounts.specs.LettingGo.Overlays.{let_go_all}

-- the locations of a task's descriptors of a number
abbrev pub locations_closed : Task ℕ → ℕ → List (Location ℕ)
locations_closed task number =
    map (λ descriptor. descriptor.location) (filter (λ descriptor. number == descriptor.number) task.descriptors)

-- After a call of a task of a world, in which it alone has its name, that goes which nothing uses any more of what
-- these locations used.
abbrev pub CallLeaves : (Task ℕ → Permit ℕ) → (Task ℕ → List (Location ℕ)) → Type 0
CallLeaves permit left =
    (fresh : Fresh ℕ) (world : World ℕ) (task : Task ℕ) → IsSettled world
    → any_pair (λ (a b : Task ℕ). same_name a.name b.name) world.tasks ≡ false → Contains world.tasks task
    → settled nat_eq (apply nat_eq fresh world task (permit task)).world
    ≡ let_go_all (apply nat_eq fresh world task (permit task)).world (used_with_layers world (left task))

abbrev pub ClosesLetGo : Type 0
ClosesLetGo = (number : ℕ) → CallLeaves (λ task. ToClose number) (λ task. locations_closed task number)

abbrev pub ChangedDirectoriesLetGo : Type 0
ChangedDirectoriesLetGo = (directory : Location ℕ)
    → CallLeaves (λ task. ToSetDirectory directory) (λ task. task.directory ∷ [])

abbrev pub ChangedRootsLetGo : Type 0
ChangedRootsLetGo = (root : Location ℕ) → CallLeaves (λ task. ToSetRoot root) (λ task. task.root ∷ [])

-- After others nothing goes.
abbrev pub CallKeeps : Permit ℕ → Type 0
CallKeeps permit =
    (fresh : Fresh ℕ) (world : World ℕ) (task : Task ℕ) → IsSettled world
    → any_pair (λ (a b : Task ℕ). same_name a.name b.name) world.tasks ≡ false → Contains world.tasks task
    → settled nat_eq (apply nat_eq fresh world task permit).world ≡ (apply nat_eq fresh world task permit).world

abbrev pub ForksKeepAll : Type 0
ForksKeepAll = (credentials : Credentials) → CallKeeps (ToFork credentials)

abbrev pub NewUmasksKeepAll : Type 0
NewUmasksKeepAll = (umask : ℕ) → CallKeeps (ToSetUmask umask)

abbrev pub NewCredentialsKeepAll : Type 0
NewCredentialsKeepAll = (credentials : Credentials) → CallKeeps (ToSetCredentials credentials)

-- So it is with a file that is opened as it is.
abbrev pub OpenedFilesKeepAll : Type 0
OpenedFilesKeepAll =
    (fresh : Fresh ℕ) (world : World ℕ) (task : Task ℕ) (file : Location ℕ) (access : Access) → IsSettled world
    → any_pair (λ (a b : Task ℕ). same_name a.name b.name) world.tasks ≡ false → Contains world.tasks task
    → is_copied_up nat_eq world file access ≡ false
    → settled nat_eq (apply nat_eq fresh world task (ToOpen file access)).world
    ≡ (apply nat_eq fresh world task (ToOpen file access)).world
