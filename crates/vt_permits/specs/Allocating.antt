-- Which calls allocate.
use Rattle.std.specs.Prelude.{true, ⊤, ◌≡◌}
use Rattle.vt_spec.specs.Language.Calls.{Call}
use Rattle.vt_spec.specs.Language.Calls.TypeWord.{ToShared}
use Rattle.vt_spec.specs.Language.Calls.Call.{Chmod, Chown, Close, Drop, Exec, Exit, Lstat, Opaque, Remount, SetType, Stat, Umask}

-- All allocate, or count one use more, which is refused where the count is full, but these: stat(2), lstat(2),
-- execve(2), chmod(2), chown(2), setxattr(2), umask(2), capset(2), close(2), _exit(2), and mount(2) with MS_REMOUNT, or
-- with MS_SLAVE, MS_PRIVATE or MS_UNBINDABLE and without MS_REC. MS_SHARED may make a group.
abbrev pub TakesMemory : Call → Type 0
TakesMemory (Stat path) = ⊥
TakesMemory (Lstat path) = ⊥
TakesMemory (Exec path) = ⊥
TakesMemory (Chmod path mode) = ⊥
TakesMemory (Chown path uid gid) = ⊥
TakesMemory (Opaque path mark) = ⊥
TakesMemory (Umask mode) = ⊥
TakesMemory (Drop which) = ⊥
TakesMemory (Close descriptor) = ⊥
TakesMemory Exit = ⊥
TakesMemory (Remount path flags) = ⊥
TakesMemory (SetType path ToShared recursive) = ⊤
TakesMemory (SetType path word recursive) = recursive ≡ true
TakesMemory call = ⊤
