-- Which mounts receive the events of a peer group: the kernel's document sharedsubtree, "Propagation", and
-- mount_namespaces(7).
use Rattle.std.specs.Prelude.{Bool, List, None, Option, Some, false, filter, find, length, map, not, true, ◌||◌, ◌≡◌}
use Rattle.std.specs.List.{list_any}
use Rattle.vt_spec.specs.Lists.{chain, holds_of, is_among, then_some}
use Rattle.vt_spec.specs.Machine.Mounts.{Mount, Propagation, group_of, source_of}
use Rattle.vt_spec.specs.Machine.Mounts.Propagation.{Private, Shared, Slave, Unbindable}
use Rattle.vt_spec.specs.Machine.World.{World}

module _ {N : Type 0} where
  -- the type of a slave by its group's heir: private where there is none
  abbrev pub slave_of_heir : Option N → Propagation N
  slave_of_heir None = Private
  slave_of_heir (Some master) = Slave master

-- The receivers of a group: the least set of mounts with its members, its slaves, and the receivers of every group
-- whose master it is.
pub data Receives {N : Type 0} (world : World N) : N → Mount N → Type 0 where
  member : (group : N) (mount : Mount N) → mount.propagation ≡ Shared group → Receives world group mount
  slave : (group : N) (mount : Mount N) → mount.propagation ≡ Slave group → Receives world group mount
  further_down : (group lower : N) (mount : Mount N) → world.master lower ≡ Some group → Receives world lower mount
      → Receives world group mount

module _ {N : Type 0} where
  -- a group, its master, that one's master, and so on; each group has a member, so there are no more than mounts
  abbrev pub groups_up : World N → N → List N
  groups_up world group = chain (length world.mounts) world.master group

module _ {N : Type 0} (eq : N → N → Bool) where
  -- computed: a mount receives from its source group and from all groups up the masters: sharedsubtree, "Propagation"
  abbrev pub receives : World N → N → Mount N → Bool
  receives world group mount = holds_of (λ source. is_among eq group (groups_up world source))
      (source_of mount.propagation)

  -- the receivers of a group, in order of attachment
  abbrev pub receivers : World N → N → List (Mount N)
  receivers world group = filter (receives world group) world.mounts

  -- the mount is a member of the group
  abbrev pub is_member_of : N → Mount N → Bool
  is_member_of group mount = holds_of (eq group) (group_of mount.propagation)

  -- one of these mounts is a member of the group
  abbrev pub has_members : List (Mount N) → N → Bool
  has_members mounts group = list_any (is_member_of group) mounts

  -- A group without members leaves its slaves to its heir: the nearest group up the masters that has members
  -- (mount_namespaces(7), "slave").
  abbrev pub heir : World N → Option N → Option N
  heir world None = None
  heir world (Some group) = find (has_members world.mounts) (groups_up world group)

  -- a type in which a slave's master that has no member is replaced by its heir
  abbrev pub inherited : World N → Propagation N → Propagation N
  inherited world (Shared group) = Shared group
  inherited world (Slave master) = slave_of_heir (heir world (Some master))
  inherited world Private = Private
  inherited world Unbindable = Unbindable

  -- the mount with its type after regrouping
  abbrev pub inheriting : World N → Mount N → Mount N
  inheriting world mount = record mount { propagation = inherited world mount.propagation }

  -- a group is given, and it has no member
  abbrev pub is_lost_group : World N → Option N → Bool
  is_lost_group world group = holds_of (λ number. not (has_members world.mounts number)) group

  -- the group or master of a mount, or the master of that group, has no member
  abbrev pub lost_a_group : World N → Mount N → Bool
  lost_a_group world mount =
      is_lost_group world (source_of mount.propagation)
      || is_lost_group world (then_some (source_of mount.propagation) world.master)

  -- the regrouped world if some mount lost a group, else the world unchanged
  abbrev pub regrouped_by : (lost : Bool) → World N → World N
  regrouped_by false world = world
  regrouped_by true world = record world {
    mounts = map (inheriting world) world.mounts;
    master = λ group. heir world (world.master group);
  }

  -- The world without groups that have no member. Their slaves get the heir as master; where there is none, a slave
  -- that is not shared becomes private, and a group loses its master (mount_namespaces(7), "slave").
  abbrev pub regrouped : World N → World N
  regrouped world = regrouped_by (list_any (lost_a_group world) world.mounts) world
