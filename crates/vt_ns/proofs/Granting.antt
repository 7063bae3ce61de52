-- What a call is granted is permitted, where the numbers that it is handed serve.
use Rattle.std.proofs.Common.{◌≡◌, ◌≤◌, ap, subst, ℕ, length, nat_eq, option_map, None, Some}
use Rattle.vt_spec.proofs.Common.{Location, MountFlags, Permit, Serves, Task, TaskName, ToMountPlain, inode_count, task_called}
use Rattle.vt_ns.proofs.Common.{IsHeld, Permits, WorldValue, counts_from, flags_of, inode_number, location_of, supply_of, world_of}
use Rattle.vt_laws_rules.specs.Numbers.{Allotment}
use Rattle.vt_laws_rules.proofs.numbers.Texts.{room_serves}
use Rattle.vt_laws_trees.proofs.runs.handed.Counts.{counts_serve}
use Rattle.vt_laws_trees.proofs.runs.handed.InodesAllotted.{allotted_numbers_serve}
use Rattle.vt_laws_trees.specs.Runs.Handed.{handed_from, may_be_given}
use Rattle.vt_laws_trees.specs.Runs.Runs.{ServesInHand}
use Rattle.vt_laws_worlds.proofs.overlays_stay.in_use.NamedBefore.{any_worlds_keep_to_named_before}
use Rattle.vt_laws_worlds.proofs.worlds.CallsKept.{name_found}
use Rattle.vt_laws_worlds.specs.Permits.Left.{IsGiven}
use Rattle.vt_overlay.specs.MergedTree.{AreLayers}
use Rattle.vt_permits.specs.GrantValue.{layer_of, overlay_of, overlay_permit}
use Rattle.vt_permits.specs.declared.grant.ToMountOverlay.{ToMountOverlay}
use Rattle.vt_world.proofs.overlays_made.Serves.{supplies_for_overlays_serve}
use Rattle.vt_mounting.specs.Detach.Events.{overlay_kept}
use Rattle.vt_mounting.proofs.detach.OverlayGranted.{NamesLayers, kept_few, kept_layers, overlay_names}
use Rattle.vt_ns.specs.Grants.{Grants, GrantsOverlay}
use Rattle.vt_ns.specs.Vacancy.{IsVacant, NextFilesystemIsNew, NextRootIsVacant}
use Rattle.vt_ns.proofs.world.OverlayEvents.{PermitsOverlay}

-- the numbers of a supply are an allotment
abbrev pub IsAllotted : WorldValue → (ℕ → ℕ) → Type 0
IsAllotted value fresh = (allotment : Allotment) × (allotment.new ≡ fresh)
    × ServesInHand may_be_given (world_of value) allotment

-- counts from the next one on
pub counts : (value : WorldValue) → IsHeld value → IsAllotted value (counts_from value.next)
counts value held = counts_serve value.next (world_of value) held.given

-- and with the number of an inode that is not in use
pub handed : (value : WorldValue) → IsHeld value → (place inode : ℕ) → IsVacant value inode
    → IsAllotted value (handed_from value.next place inode)
handed value held place inode vacant = allotted_numbers_serve value.next place inode vacant.even (world_of value)
    (any_worlds_keep_to_named_before value.next inode (world_of value) held.in_world held.given vacant.unused)

-- so they serve
serves : (value : WorldValue) (fresh : ℕ → ℕ) → IsAllotted value fresh → Serves nat_eq (world_of value) fresh
serves value fresh supplied = subst (Serves nat_eq (world_of value)) supplied.1
    (room_serves may_be_given (world_of value) supplied.0 supplied.2.serves)

-- a task is found under its own name
found_again : (value : WorldValue) (name : TaskName) (task : Task ℕ) → task_called (world_of value) name ≡ Some task
    → task_called (world_of value) task.name ≡ Some task
found_again value name task called = cc (name_found (world_of value) name task called)

module _ (value : WorldValue) (name : TaskName) (permit : Permit ℕ) (granted : Grants value name permit) where
  -- the call is given its permit, whatever numbers it is handed,
  pub given_with : (fresh : ℕ → ℕ) → IsAllotted value fresh → IsGiven fresh (world_of value) granted.task permit
  given_with fresh supplied = record {
    serves = serves value fresh supplied;
    called = found_again value name granted.task granted.called;
    call = granted.call;
    no_overlay = granted.no_overlay;
    few_groups = granted.few_groups;
    judged = granted.judged fresh;
  }

  -- and so with those that the event hands out
  pub permitted : IsAllotted value (supply_of value permit) → Permits value name permit
  permitted supplied = record {
    task = granted.task;
    called = granted.called;
    given = given_with (supply_of value permit) supplied;
  }

-- The mount of a new filesystem: nothing has the number of its root
pub mount_permitted : (value : WorldValue) → IsHeld value → (name : TaskName) (place : Location ℕ) (flags : MountFlags)
    → Grants value name (ToMountPlain place flags) → NextRootIsVacant value
    → Permits value name (ToMountPlain place flags)
mount_permitted value held name place flags granted vacant = permitted value name (ToMountPlain place flags) granted
    (handed value held 2 (inode_number value.next 0) vacant)

-- The mount of an overlay without an upper layer
module _ (value : WorldValue) (held : IsHeld value) (name : TaskName) (new : ToMountOverlay)
    (granted : GrantsOverlay value name new) (no_upper : new.upper ≡ None) where
  no_layer : (overlay_of granted.task new).upper ≡ None
  no_layer = ap (option_map layer_of) no_upper

  names : NamesLayers (world_of value) granted.task (location_of new.destination) (overlay_of granted.task new)
  names = overlay_names value held (counts_from value.next) granted.task
      (found_again value name granted.task granted.called) granted.call (location_of new.destination)
      (overlay_of granted.task new) (flags_of new.flags) (granted.judged (counts_from value.next))

  -- its layers are there, and not too many
  pub layers_granted : AreLayers value.filesystems (overlay_kept value.next (overlay_of granted.task new)).lowers
      × (length (overlay_kept value.next (overlay_of granted.task new)).lowers ≤ 128)
  layers_granted = (
    (kept_layers value held (overlay_of granted.task new) no_layer names.layers).0,
    kept_few value held (overlay_of granted.task new) no_layer names.layers names.fit,
  )

  -- so the numbers of a new filesystem serve
  pub overlay_allotted : NextFilesystemIsNew value
      → IsAllotted value (supply_of value (overlay_permit granted.task new))
  overlay_allotted is_new = supplies_for_overlays_serve (inode_count (world_of value)) value.filesystems
      (overlay_kept value.next (overlay_of granted.task new)) (world_of value) held.in_world layers_granted.0
      layers_granted.1 is_new

  pub overlay_permitted : NextFilesystemIsNew value → PermitsOverlay value name new
  overlay_permitted is_new = record {
    task = granted.task;
    called = granted.called;
    given = record {
      serves = serves value (supply_of value (overlay_permit granted.task new)) (overlay_allotted is_new);
      called = found_again value name granted.task granted.called;
      call = granted.call;
      few_groups = granted.few_groups;
      judged = granted.judged (supply_of value (overlay_permit granted.task new));
    };
  }
