-- Change of a mount's propagation type: mount(2) with MS_SHARED, MS_SLAVE, MS_PRIVATE, MS_UNBINDABLE; the table is
-- that of mount_namespaces(7).
use Rattle.std.specs.Prelude.{Bool, List, None, Option, Some, [], false, if◌then◌else◌, map, true, ◌∷◌}
use Rattle.std.specs.List.{list_any}
use Rattle.vt_spec.specs.Language.Calls.{TypeWord}
use Rattle.vt_spec.specs.Language.Calls.TypeWord.{ToPrivate, ToShared, ToSlave, ToUnbindable}
use Rattle.vt_spec.specs.Lists.{Fresh}
use Rattle.vt_spec.specs.Machine.Mounts.{Mount, Propagation, mount_tree, numbers_by}
use Rattle.vt_spec.specs.Machine.Mounts.Propagation.{Private, Shared, Slave, Unbindable}
use Rattle.vt_spec.specs.Machine.Receives.{regrouped}
use Rattle.vt_spec.specs.Machine.World.{World, mount_numbered}

module _ {N : Type 0} where
  -- The type after a change, where `new` is the number of a new group: mount_namespaces(7). A member that becomes a
  -- slave has the group that it leaves as its master; where it was the last member, `regrouped` gives it that group's
  -- heir.
  abbrev pub type_after : N → TypeWord → Propagation N → Propagation N
  type_after new ToShared (Shared group) = Shared group
  type_after new ToShared (Slave master) = Shared new
  type_after new ToShared Private = Shared new
  type_after new ToShared Unbindable = Shared new
  type_after new ToSlave (Shared group) = Slave group
  type_after new ToSlave (Slave master) = Slave master
  type_after new ToSlave Private = Private
  type_after new ToSlave Unbindable = Unbindable
  type_after new ToPrivate old = Private
  type_after new ToUnbindable old = Unbindable

  -- the master of the new group: a slave's own master
  abbrev pub master_after : Propagation N → Option N
  master_after (Shared group) = None
  master_after (Slave master) = Some master
  master_after Private = None
  master_after Unbindable = None

module _ {N : Type 0} (eq : N → N → Bool) where
  -- the masters with that of one group replaced
  abbrev pub with_master : (N → Option N) → N → Option N → N → Option N
  with_master master group above other = if eq other group then above else master other

  -- a mount after the change: with another type, if it is one of those named
  abbrev pub retyped_mount : (N → N) → TypeWord → List (Mount N) → Mount N → Mount N
  retyped_mount group word named mount =
      if list_any (λ other. eq mount.number other.number) named
      then record mount { propagation = type_after (group mount.number) word mount.propagation } else mount

  -- the masters, with that of the new group of each mount named
  abbrev pub with_new_groups : (N → N) → (N → Option N) → List (Mount N) → N → Option N
  with_new_groups group master [] = master
  with_new_groups group master (mount ∷ rest) =
      with_new_groups group (with_master master (group mount.number) (master_after mount.propagation)) rest

  -- All named mounts change at once; each new group is given by the mount that it is made for.
  abbrev pub retyped : World N → (N → N) → TypeWord → List (Mount N) → World N
  retyped world group word named = regrouped eq (record world {
    mounts = map (retyped_mount group word named) world.mounts;
    master = with_new_groups group world.master named;
  })

  -- one mount, or with MS_REC the mount and all its descendants: mount(2)
  abbrev pub named_mounts : World N → N → (recursive : Bool) → List (Mount N)
  named_mounts world number true = mount_tree eq world.mounts (mount_numbered eq world number)
  named_mounts world number false = mount_numbered eq world number ∷ []

  -- the world after a change of type: mount(2) with MS_SHARED, MS_SLAVE, MS_PRIVATE or MS_UNBINDABLE, and MS_REC
  abbrev pub with_type : Fresh N → World N → N → TypeWord → (recursive : Bool) → World N
  with_type fresh world number word recursive =
      retyped world (numbers_by eq fresh (named_mounts world number recursive)) word
      (named_mounts world number recursive)
