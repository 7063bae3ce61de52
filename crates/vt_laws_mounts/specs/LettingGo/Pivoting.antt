-- What goes after pivot_root(2).
use Rattle.std.specs.Prelude.{nat_eq, true, ℕ, ◌≡◌}
use Rattle.vt_spec.specs.Lists.{Fresh}
use Rattle.vt_spec.specs.Machine.Apply.{apply}
use Rattle.vt_spec.specs.Machine.Mounts.{Location}
use Rattle.vt_spec.specs.Machine.Namespaces.{pivoted}
use Rattle.vt_spec.specs.Machine.Permits.Permit.{ToPivot}
use Rattle.vt_spec.specs.Machine.Settled.{settled}
use Rattle.vt_spec.specs.Machine.World.{Task, World, mount_numbered}
use Rattle.vt_laws_mounts.specs.LettingGo.Attaching.{inodes_of_mount_point, is_attached}
use Rattle.vt_laws_mounts.specs.LettingGo.Leaving.{IsSettledPlain}
use Rattle.vt_laws_mounts.specs.LettingGo.OneByOne.{let_go_inodes}

-- Where the new root mount takes the mount point of the old one, and this one gets another, at the most the inode goes
-- that was the mount point of the new one. The root of the old one, which tasks leave, is in use by that mount.
abbrev pub PivotedLetsGo : Type 0
PivotedLetsGo =
    (world : World ℕ) (namespace old new : ℕ) (put : Location ℕ)
    → IsSettledPlain world → is_attached world old ≡ true → is_attached world new ≡ true
    → settled nat_eq (pivoted nat_eq world namespace (mount_numbered nat_eq world old)
    (mount_numbered nat_eq world new) put)
    ≡ let_go_inodes (pivoted nat_eq world namespace (mount_numbered nat_eq world old)
    (mount_numbered nat_eq world new) put)
    (inodes_of_mount_point world (mount_numbered nat_eq world new))

-- So it is of the call.
abbrev pub PivotsLetGo : Type 0
PivotsLetGo =
    (fresh : Fresh ℕ) (world : World ℕ) (task : Task ℕ) (new : ℕ) (put : Location ℕ)
    → IsSettledPlain world → is_attached world task.root.mount ≡ true → is_attached world new ≡ true
    → settled nat_eq (apply nat_eq fresh world task (ToPivot new put)).world
    ≡ let_go_inodes (apply nat_eq fresh world task (ToPivot new put)).world
    (inodes_of_mount_point world (mount_numbered nat_eq world new))
