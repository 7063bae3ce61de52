-- What new objects are, and the change that makes one.
use Rattle.std.specs.Prelude.{List, ℕ}
use Rattle.vt_spec.specs.declared.attributes.Attr.{Attr}
use Rattle.vt_spec.specs.Language.Changes.{Change}
use Rattle.vt_spec.specs.Language.Changes.Change.{AddName, Make}
use Rattle.vt_spec.specs.Rights.{masked}
use Rattle.vt_spec.specs.Tree.{Node}
use Rattle.vt_spec.specs.Tree.Content.{Regular}
use Rattle.vt_spec.specs.Machine.Walking.{Place, name_of}
use Rattle.vt_spec.specs.Machine.Mounts.{Location}
use Rattle.vt_spec.specs.Machine.World.{Task}
pub use Rattle.vt_spec.specs.Machine.Rules.Conditions.{lacks}

-- mkdir asks for 0777 where no mode is given: mkdir(1)
abbrev pub directory_mode : ℕ
directory_mode = 511

-- a file made by write asks for 0666: creat(2) as fopen(3) calls it
abbrev pub file_mode : ℕ
file_mode = 438

-- the mode of a symlink: symlink(7)
abbrev pub symlink_mode : ℕ
symlink_mode = 511

module _ {N : Type 0} where
  -- the change by which a place gets a new object, whose number is at hand
  abbrev pub making : Place N → N → Node N → Change N
  making place number node = Make place.parent.node (name_of place.last) number node

  -- a new object belongs to the caller, and its mode loses the umask's bits: umask(2)
  abbrev pub new_attr : Task N → ℕ → Attr
  new_attr task mode = record { uid = task.credentials.uid; gid = task.credentials.gid; mode = masked task.umask mode }

  -- a symlink has mode 0777 and a whiteout mode 0000, whatever the umask: symlink(7), overlayfs
  abbrev pub exact_attr : Task N → ℕ → Attr
  exact_attr task mode = record { uid = task.credentials.uid; gid = task.credentials.gid; mode = mode }

  -- a new regular file: open(2) with O_CREAT
  abbrev pub new_file : Task N → ℕ → List ℕ → Node N
  new_file task mode bytes = record { attr = new_attr task mode; content = Regular bytes }

  -- the change by which an object gets a further name: link(2)
  abbrev pub linking : Location N → Place N → Change N
  linking old place = AddName place.parent.node (name_of place.last) old.node
