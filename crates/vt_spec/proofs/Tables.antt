-- Rules and walks of calls in a world: those of `Machine/Rules` and `Machine/Walking` by the looks of a world.
-- A definition without a comment is that of its name there.
use Rattle.std.specs.Prelude.{Bool, List, Option, Result, ℕ, ◌++◌}
use Rattle.vt_spec.specs.Errors.{Rules}
use Rattle.vt_spec.specs.Language.Calls.{Access, MountFlags, OverlayWords}
use Rattle.vt_spec.specs.Language.Changes.{Change}
use Rattle.vt_spec.specs.Lists.{Fresh, evens, odds}
use Rattle.vt_spec.specs.Machine.Attach.{has_too_many}
use Rattle.vt_spec.specs.Machine.Filesystems.{with_change}
use Rattle.vt_spec.specs.Machine.Looks.{looks_of}
use Rattle.vt_spec.specs.Machine.Mounts.{Location}
use Rattle.vt_spec.specs.Machine.NewMounts.{mounted, overlay_filesystem}
use Rattle.vt_spec.specs.Machine.Rows.{making}
use Rattle.vt_spec.specs.Machine.Rules.Making.{new_word_rules}
use Rattle.vt_spec.specs.Machine.Rules.Mounting.{LayerLocations}
use Rattle.vt_spec.specs.Machine.Walking.{Here, Place, Stop}
use Rattle.vt_spec.specs.Machine.World.{Overlay, Task, World}
use Rattle.vt_spec.specs.Tree.{Node}
use Rattle.vt_spec.specs.declared.attributes.Attr.{Attr}
use Rattle.vt_spec.specs.declared.errors.Deny.{Deny}
use Rattle.vt_spec.specs.Machine.Rules.Attributes
use Rattle.vt_spec.specs.Machine.Rules.Descriptors
use Rattle.vt_spec.specs.Machine.Rules.Looking
use Rattle.vt_spec.specs.Machine.Rules.Making
use Rattle.vt_spec.specs.Machine.Rules.Mounting
use Rattle.vt_spec.specs.Machine.Rules.Removing
use Rattle.vt_spec.specs.Machine.Rules.Tasks

module _ {N : Type 0} (eq : N → N → Bool) where
  abbrev pub list_rules : World N → Task N → Location N → Rules
  list_rules world task = Looking.list_rules (looks_of eq world) task

  abbrev pub read_rules : World N → Task N → Location N → Rules
  read_rules world task = Looking.read_rules (looks_of eq world) task

  abbrev pub exec_rules : World N → Task N → Location N → Rules
  exec_rules world task = Looking.exec_rules (looks_of eq world) task

  abbrev pub readlink_rules : World N → Location N → Rules
  readlink_rules world = Looking.readlink_rules (looks_of eq world)

  abbrev pub make_rules : World N → Task N → Place N → Change N → Rules
  make_rules world task = Making.make_rules (looks_of eq world) task

  -- the world with a new object at a place
  abbrev pub with_new : Fresh N → World N → Place N → Node N → World N
  with_new fresh world place node = with_change eq (odds fresh) world place.parent (making place (evens fresh 0) node)

  -- the rules of a new object at a place
  abbrev pub new_rules : Fresh N → World N → Task N → Place N → Node N → Rules
  new_rules fresh world task place node =
      new_word_rules place ++ make_rules world task place (making place (evens fresh 0) node)

  abbrev pub whiteout_rules : World N → Task N → Place N → Rules
  whiteout_rules world task = Making.whiteout_rules (looks_of eq world) task

  abbrev pub hard_link_rules : World N → Task N → Location N → Place N → Change N → Rules
  hard_link_rules world task = Making.hard_link_rules eq (looks_of eq world) task

  abbrev pub rewrite_rules : World N → Task N → Location N → List ℕ → Rules
  rewrite_rules world task = Making.rewrite_rules (looks_of eq world) task

  abbrev pub unlink_rules : World N → Task N → Place N → Location N → Rules
  unlink_rules world task = Removing.unlink_rules (looks_of eq world) task

  abbrev pub is_nonempty : World N → Location N → Bool
  is_nonempty world = Removing.is_nonempty (looks_of eq world)

  abbrev pub rmdir_rules : World N → Task N → Place N → Location N → Rules
  rmdir_rules world task = Removing.rmdir_rules eq (looks_of eq world) task

  abbrev pub rename_new_walk : World N → Task N → List ℕ → Bool → Result (Place N) (Stop N)
  rename_new_walk world task = Removing.rename_new_walk eq (looks_of eq world) task

  abbrev pub same_filesystem : World N → Location N → Location N → Bool
  same_filesystem world = Removing.same_filesystem eq (looks_of eq world)

  abbrev pub is_one_object : World N → Location N → Option (Location N) → Bool
  is_one_object world = Removing.is_one_object eq (looks_of eq world)

  abbrev pub same_object_rules : World N → Place N → Place N → Rules
  same_object_rules world = Removing.same_object_rules eq (looks_of eq world)

  abbrev pub rename_rules : World N → Task N → Place N → Place N → Location N → Rules
  rename_rules world task = Removing.rename_rules eq (looks_of eq world) task

  abbrev pub attr_at : World N → Location N → Attr
  attr_at world = Attributes.attr_at (looks_of eq world)

  abbrev pub attr_rules : World N → Location N → (permitted : Bool) → Attr → Rules
  attr_rules world = Attributes.attr_rules (looks_of eq world)

  abbrev pub opaque_rules : World N → Location N → Rules
  opaque_rules world = Attributes.opaque_rules (looks_of eq world)

  abbrev pub copy_rules : (copied : Bool) → World N → Location N → Rules
  copy_rules copies world = Descriptors.copy_rules copies (looks_of eq world)

  abbrev pub open_rules : World N → Task N → Location N → Access → Rules
  open_rules world task = Descriptors.open_rules (looks_of eq world) task

  abbrev pub pwrite_rules : World N → Location N → ℕ → List ℕ → Rules
  pwrite_rules world = Descriptors.pwrite_rules (looks_of eq world)

  abbrev pub enter_rules : World N → Task N → Location N → Rules
  enter_rules world task = Tasks.enter_rules (looks_of eq world) task

  abbrev pub source_walk : World N → Task N → List ℕ → Result (Here N) (Stop N)
  source_walk world task = Mounting.source_walk eq (looks_of eq world) task

  abbrev pub destination_walk : World N → Task N → List ℕ → Result (Here N) (Stop N)
  destination_walk world task = Mounting.destination_walk eq (looks_of eq world) task

  abbrev pub new_mount_rules : World N → Task N → Location N → World N → Rules
  new_mount_rules world task destination result =
      Mounting.new_mount_rules eq (looks_of eq world) task destination (has_too_many eq result)

  abbrev pub each_walked : World N → Task N → List (List ℕ) → Result (List (Location N)) Deny
  each_walked world task = Mounting.each_walked eq (looks_of eq world) task

  abbrev pub walked_if_given : World N → Task N → Option (List ℕ) → Result (Option (Location N)) Deny
  walked_if_given world task = Mounting.walked_if_given eq (looks_of eq world) task

  abbrev pub layers_walked : World N → Task N → OverlayWords → Result (LayerLocations N) Deny
  layers_walked world task = Mounting.layers_walked eq (looks_of eq world) task

  abbrev pub overlay_at : World N → Task N → LayerLocations N → Overlay N
  overlay_at world task = Mounting.overlay_at (looks_of eq world) task

  abbrev pub layer_rules : World N → LayerLocations N → Overlay N → Rules
  layer_rules world = Mounting.layer_rules eq (looks_of eq world)

  -- the world with an overlay of layers at these locations mounted
  abbrev pub overlay_mounted : Fresh N → World N → Task N → Location N → LayerLocations N → MountFlags → World N
  overlay_mounted fresh world task destination layers flags =
      mounted eq (odds fresh) world destination (overlay_filesystem eq (evens fresh) world
      (overlay_at world task layers)) flags

  abbrev pub bind_rules : World N → Task N → Location N → Location N → World N → Rules
  bind_rules world task source destination result =
      Mounting.bind_rules eq (looks_of eq world) task source destination (has_too_many eq result)

  abbrev pub move_rules : World N → Task N → Location N → Location N → World N → Rules
  move_rules world task source destination result =
      Mounting.move_rules eq (looks_of eq world) task source destination (has_too_many eq result)

  abbrev pub umount_rules : World N → Task N → Location N → Rules
  umount_rules world task = Mounting.umount_rules eq (looks_of eq world) task

  abbrev pub lazy_rules : World N → Task N → Location N → Rules
  lazy_rules world task = Mounting.lazy_rules eq (looks_of eq world) task

  abbrev pub remount_rules : World N → Task N → Location N → MountFlags → Rules
  remount_rules world task = Mounting.remount_rules eq (looks_of eq world) task

  abbrev pub type_rules : World N → Task N → Location N → Rules
  type_rules world task = Mounting.type_rules eq (looks_of eq world) task

  abbrev pub pivot_rules : World N → Task N → Location N → Location N → Rules
  pivot_rules world task = Mounting.pivot_rules eq (looks_of eq world) task
