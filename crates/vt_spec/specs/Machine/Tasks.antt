-- What fork(2), umask(2) and capset(2) make of a task.
use Rattle.std.specs.Prelude.{Option, None, Some, [], map, ℕ, ◌%◌, ◌++◌, ◌+◌, ◌∷◌}
use Rattle.vt_spec.specs.Language.Calls.{CapabilityWord, ForkWords, TaskName}
use Rattle.vt_spec.specs.Language.Calls.CapabilityWord.{Held, These}
use Rattle.vt_spec.specs.Machine.World.{Task, World, replaced_if_called}
use Rattle.vt_spec.specs.Rights.{Credentials, without}

-- the nine permission bits: umask(2)
abbrev pub permission_bits : ℕ → ℕ
permission_bits mode = mode % 512

-- the capabilities that a word names, of a caller
abbrev pub capabilities_of : CapabilityWord → Credentials → ℕ
capabilities_of Held who = who.capabilities
capabilities_of (These capabilities) who = capabilities

-- the child's credentials: the caller's where none are given
abbrev pub child_credentials : Credentials → Option ForkWords → Credentials
child_credentials who None = who
child_credentials who (Some words) = record {
  uid = words.uid;
  gid = words.gid;
  groups = words.groups;
  capabilities = capabilities_of words.capabilities who;
}

-- capset(2): capabilities only go
abbrev pub with_dropped : Credentials → ℕ → Credentials
with_dropped who dropped = record who { capabilities = without who.capabilities dropped }

module _ {N : Type 0} where
  -- the name of the next child: the task's, and how many children it has then
  abbrev pub child_name : Task N → TaskName
  child_name task = task.name ++ ((task.forks + 1) ∷ [])

  -- a child has the parent's namespace, root, working directory and umask, and no descriptors (profile)
  abbrev pub child_of : Task N → Credentials → Task N
  child_of task credentials =
      record task { name = child_name task; credentials = credentials; descriptors = []; forks = 0; change = 0 }

  -- the world with a child, and its parent's count of forks
  abbrev pub with_child : World N → Task N → Task N → World N
  with_child world task child =
      record world {
        tasks = map (replaced_if_called (record task { forks = task.forks + 1 })) world.tasks
            ++ (child ∷ []);
      }
