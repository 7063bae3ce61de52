-- Attaching a tree of mounts at a destination, with a copy at each receiver of the destination's mount: the kernel's
-- document sharedsubtree, "Bind semantics" and "Move semantics", and mount_namespaces(7). Types and masters of copies
-- at receivers, and where a mount goes that has that mount point already, are the profile's.
use Rattle.std.specs.Prelude.{Bool, List, None, Option, Some, [], false, filter, filter_map, find, flat_map, if◌then◌else◌, is_some, length, map, nat_lt, not, option_map, suc, true, unwrap_or, zero, ℕ, ◌&&◌, ◌*◌, ◌++◌, ◌+◌, ◌∷◌}
use Rattle.std.specs.List.{list_any}
use Rattle.vt_spec.specs.Language.Limits.{most_mounts}
use Rattle.vt_spec.specs.FileTree.{is_directory_under}
use Rattle.vt_spec.specs.Lists.{Fresh, evens, first_of_list, folded, holds_of, odds, index_from, rest_of, then_some, when}
use Rattle.vt_spec.specs.Machine.Mounts.{Location, Mount, Propagation, children, group_of, index_of, is_shared, is_unbindable, mount_tree, root_of, stands_at, topmost, with_mount}
use Rattle.vt_spec.specs.Machine.Mounts.Propagation.{Private, Shared, Slave, Unbindable}
use Rattle.vt_spec.specs.Machine.Receives.{groups_up, has_members, is_member_of, receivers, slave_of_heir}
use Rattle.vt_spec.specs.Machine.Types.{master_after, with_master}
use Rattle.vt_spec.specs.Machine.World.{World, files_at, filesystem_numbered, mount_at, mount_numbered, mounts_of}

-- one mount of the tree that is attached: the mount that is copied or moves, and its propagation type at the
-- destination
pub record Twig (N : Type 0) : Type 0 where
  pub origin : Mount N
  pub propagation : Propagation N

-- A tree of mounts and its destination; each mount stands before its children. At the destination a move attaches the
-- mounts themselves; receivers, and every part of a bind or new mount, get copies.
pub record Graft (N : Type 0) : Type 0 where
  pub destination : Location N
  pub twigs : List (Twig N)
  pub moves : Bool

-- The new numbers of an attachment: of the copy of a mount at a part, and of the peer group that the copies of a mount
-- form at the members of a group. Mounts and groups are given by their numbers.
pub record Copies (N : Type 0) : Type 0 where
  pub copy : N → N → N
  pub image : N → N → N

-- the index of the i-th element of the k-th row, where each row has `size` elements
abbrev pub index_in_rows : ℕ → ℕ → ℕ → ℕ
index_in_rows size k i = k * size + i

module _ {N : Type 0} where
  -- The type of a mount at a shared destination: sharedsubtree, the tables of "Bind semantics" and "Move semantics"
  abbrev pub type_on_shared : N → Propagation N → Propagation N
  type_on_shared new (Shared group) = Shared group
  type_on_shared new (Slave master) = Shared new
  type_on_shared new Private = Shared new
  type_on_shared new Unbindable = Shared new

  -- At a destination that is not shared a mount keeps its type. At a shared one a shared mount keeps its group, and any
  -- other joins the group made for it there.
  abbrev pub type_at : Copies N → Option N → Mount N → Propagation N
  type_at new None mount = mount.propagation
  type_at new (Some group) mount = type_on_shared (new.image group mount.number) mount.propagation

  -- a mount of the tree, with its type at a destination whose mount is in this group or in none
  abbrev pub twig_of : Copies N → Option N → Mount N → Twig N
  twig_of new group mount = record { origin = mount; propagation = type_at new group mount }

  -- the new group of a mount at the destination, with its master: a slave becomes shared and keeps its master
  abbrev pub twig_master : Twig N → Option (N × Option N)
  twig_master twig =
      if is_shared twig.origin.propagation then None
      else option_map (λ group. (group, master_after twig.origin.propagation)) (group_of twig.propagation)

  -- what is new at the destination: the copies, or nothing where the mounts themselves move
  abbrev pub added_mounts : (moves : Bool) → List (Mount N) → List (Mount N)
  added_mounts true copied = []
  added_mounts false copied = copied

module _ {N : Type 0} (eq : N → N → Bool) where
  -- the node is the mount's root directory, or lies under it
  abbrev pub reaches : World N → N → Mount N → Bool
  reaches world node mount =
      is_directory_under eq (filesystem_numbered eq world mount.filesystem).files mount.root node

  -- a receiver takes part if it is attached, shows the same filesystem, and the destination lies at or under its root
  abbrev pub takes_part : World N → Location N → Mount N → Bool
  takes_part world destination mount =
      not (eq destination.mount mount.number) && is_some mount.namespace
      && eq (mount_at eq world destination).filesystem mount.filesystem && reaches world destination.node mount

  -- the receivers of a mount's peer group; a mount that is not shared has none
  abbrev pub receivers_of : World N → Mount N → List (Mount N)
  receivers_of world mount = unwrap_or (option_map (receivers eq world) (group_of mount.propagation)) []

  -- the parts: the destination's mount, then the receivers that take part, in order of attachment
  abbrev pub parts_of : World N → Location N → List (Mount N)
  parts_of world destination =
      mount_at eq world destination ∷ filter (takes_part world destination) (receivers_of world
      (mount_at eq world destination))

  -- Copies at the members of one group form one group, the image of that group: for the destination's group it is the
  -- group of the mount attached there, for each other group a new one (profile).
  abbrev pub image : Copies N → Mount N → Twig N → N → N
  image new destination twig group =
      if is_member_of eq group destination
      then unwrap_or (group_of twig.propagation) (new.image group twig.origin.number)
      else new.image group twig.origin.number

  -- the image of the nearest group with a part, from this group up the masters
  abbrev pub image_of_nearest_group : World N → Copies N → List (Mount N) → Mount N → Twig N → Option N → Option N
  image_of_nearest_group world new parts destination twig None = None
  image_of_nearest_group world new parts destination twig (Some group) =
      option_map (image new destination twig) (find (has_members eq parts) (groups_up world group))

  -- the type of a copy, by the type of its receiver (profile)
  abbrev pub copy_type : World N → Copies N → List (Mount N) → Mount N → Twig N → Propagation N → Propagation N
  copy_type world new parts destination twig (Shared group) = Shared (image new destination twig group)
  copy_type world new parts destination twig (Slave master) =
      slave_of_heir (image_of_nearest_group world new parts destination twig (Some master))
  copy_type world new parts destination twig Private = Private
  copy_type world new parts destination twig Unbindable = Unbindable

  -- the part is the destination
  abbrev pub is_destination : Graft N → N → Bool
  is_destination graft part = eq part graft.destination.mount

  -- the mount is the first of the tree
  abbrev pub is_top : Graft N → N → Bool
  is_top graft origin = holds_of (λ twig. eq origin twig.origin.number) (first_of_list graft.twigs)

  module _ (new : Copies N) (graft : Graft N) where
    -- the number of a copy; mounts that move keep theirs at the destination
    abbrev pub copy_number : N → N → N
    copy_number part origin = if graft.moves && is_destination graft part then origin else new.copy part origin

    -- a mount point on a mount of the tree, on the copy of that mount at a part
    abbrev pub mount_point_on_copy : N → Location N → Location N
    mount_point_on_copy part point = record { mount = copy_number part point.mount; node = point.node }

    -- the mount point of a copy at a part: the first mount of the tree takes the destination's directory, each other
    -- one stands on the copy of its parent
    abbrev pub copy_mount_point : N → Mount N → Location N
    copy_mount_point part origin =
        if is_top graft origin.number then record { mount = part; node = graft.destination.node }
        else unwrap_or (option_map (mount_point_on_copy part) origin.mount_point) graft.destination

  -- A mount that stood at this location of a receiver moves onto the topmost mount over the root of the copied tree
  -- (profile).

  -- the root of the topmost of the copies over the first one's root; without copies the location given
  abbrev pub top_of_copies : List (Mount N) → Location N → Location N
  top_of_copies [] default = default
  top_of_copies (first ∷ rest) default = topmost eq (first ∷ rest) (root_of first)

  -- the receiver at which a mount has the destination's directory as its mount point already
  abbrev pub receiver_stood_on : Graft N → List (Mount N) → Mount N → Option (Mount N)
  receiver_stood_on graft parts mount =
      find (λ part. stands_at eq (record { mount = part.number; node = graft.destination.node }) mount) (rest_of parts)

  -- the mounts with those that move in their new state; they keep their order of attachment, and copies of a bind or
  -- new mount come last
  abbrev pub with_moved_mounts : (moves : Bool) → List (Mount N) → List (Mount N) → List (Mount N)
  with_moved_mounts true mounts copied = folded (with_mount eq) mounts copied
  with_moved_mounts false mounts copied = mounts

  -- the masters, with that of a new group
  abbrev pub masters_with : (N → Option N) → N × Option N → N → Option N
  masters_with master group = with_master eq master group.0 group.1

  -- a tree that is attached at these parts of a world, with these new numbers
  module _ (world : World N) (new : Copies N) (graft : Graft N) (parts : List (Mount N)) where
    -- the type of a mount of the tree at a part: at the destination, or at a receiver
    abbrev pub type_at_part : Mount N → Twig N → Propagation N
    type_at_part part twig =
        if is_destination graft part.number then twig.propagation
        else copy_type world new parts (mount_at eq world graft.destination) twig part.propagation

    -- the new group that a copy at a part forms, if any, with its master
    abbrev pub group_made : Mount N → Twig N → Option (N × Option N)
    group_made part twig =
        if is_destination graft part.number then twig_master twig
        else then_some (group_of part.propagation) (λ group.
        when (not (is_member_of eq group (mount_at eq world graft.destination))) (
          image new (mount_at eq world graft.destination) twig group,
          image_of_nearest_group world new parts (mount_at eq world graft.destination) twig (world.master group),
        ))

    -- the copy of a mount at a part, or at the destination the mount itself that moves: the number, namespace, mount
    -- point and type that it has there, with the filesystem, root and flags of the mount
    abbrev pub copy_at : Mount N → Twig N → Mount N
    copy_at part twig = record twig.origin {
      number = copy_number new graft part.number twig.origin.number;
      namespace = part.namespace;
      mount_point = Some (copy_mount_point new graft part.number twig.origin);
      propagation = type_at_part part twig;
    }

    -- the copies of all mounts of the tree at one part
    abbrev pub copies_at : Mount N → List (Mount N)
    copies_at part = map (copy_at part) graft.twigs

    -- the mount after the attachment, moved if there is a receiver at which it stood on the destination's directory
    abbrev pub pushed_onto : Mount N → Option (Mount N) → Mount N
    pushed_onto mount None = mount
    pushed_onto mount (Some part) =
        record mount { mount_point = Some (top_of_copies (copies_at part) graft.destination) }

    -- a mount after the attachment: it has another mount point where a copy took its own at a receiver
    abbrev pub moved_onto_copy : Mount N → Mount N
    moved_onto_copy mount = pushed_onto mount (receiver_stood_on graft parts mount)

    -- all new groups that copies form, each with its master
    abbrev pub all_groups_made : List (N × Option N)
    all_groups_made = flat_map (λ part. filter_map (group_made part) graft.twigs) parts

    -- the world with the tree attached, at the destination first, then at the receivers in order of attachment
    abbrev pub attached_at : World N
    attached_at = record world {
      mounts = map moved_onto_copy
          (with_moved_mounts graft.moves world.mounts (copies_at (mount_at eq world graft.destination)))
          ++ added_mounts graft.moves (copies_at (mount_at eq world graft.destination))
          ++ flat_map copies_at (rest_of parts);
      master = folded masters_with world.master all_groups_made;
    }

  -- the world with the tree attached at its destination and at the receivers that take part: sharedsubtree, "Bind
  -- semantics" and "Move semantics"
  abbrev pub attached : World N → Copies N → Graft N → World N
  attached world new graft = attached_at world new graft (parts_of world graft.destination)

  -- these mounts as a tree that is attached at a destination
  abbrev pub graft_of : World N → Copies N → Location N → (moves : Bool) → List (Mount N) → Graft N
  graft_of world new destination moves mounts = record {
    destination = destination;
    twigs = map (twig_of new (group_of (mount_at eq world destination).propagation)) mounts;
    moves = moves;
  }

  -- the world with these mounts attached, by the new numbers given
  abbrev pub attached_by : World N → Copies N → Location N → (moves : Bool) → List (Mount N) → World N
  attached_by world new destination moves mounts = attached world new (graft_of world new destination moves mounts)

  -- the index of the first part that is a member of a group
  abbrev pub index_of_group : List (Mount N) → N → ℕ
  index_of_group parts group = unwrap_or (index_from (is_member_of eq group) 0 parts) 0

  -- the new numbers of an attachment out of a supply, by the index of the part and of the mount that is copied
  abbrev pub copies_from : Fresh N → List (Mount N) → List (Mount N) → Copies N
  copies_from fresh parts mounts = record {
    copy = λ part origin. evens fresh (index_in_rows (length mounts) (index_of eq parts part)
        (index_of eq mounts origin));
    image = λ group origin. odds fresh
        (index_in_rows (length mounts) (index_of_group parts group) (index_of eq mounts origin));
  }

  -- the world with mounts attached at a destination and at its receivers, the mounts themselves where they move, else
  -- copies: mount(2), sharedsubtree
  abbrev pub attach : World N → Fresh N → Location N → (moves : Bool) → List (Mount N) → World N
  attach world fresh destination moves mounts =
      attached_by world (copies_from fresh (parts_of world destination) mounts) destination moves mounts

  -- the children of a mount that are not unbindable: mount_namespaces(7), MS_UNBINDABLE
  abbrev pub bindable_children : List (Mount N) → N → List (Mount N)
  bindable_children mounts number = filter (λ mount. not (is_unbindable mount.propagation)) (children eq mounts number)

  -- a mount and its descendants, without unbindable mounts and their descendants
  abbrev pub bindable_tree : ℕ → List (Mount N) → Mount N → List (Mount N)
  bindable_tree zero mounts mount = mount ∷ []
  bindable_tree (suc depth) mounts mount =
      mount ∷ flat_map (bindable_tree depth mounts) (bindable_children mounts mount.number)

  -- the mount point is the source's directory, or lies under it
  abbrev pub stands_under : World N → Location N → Mount N → Bool
  stands_under world source mount =
      holds_of (λ point. is_directory_under eq (files_at eq world source) source.node point.node) mount.mount_point

  -- the mount of the source, with the source as its root directory
  abbrev pub bound : World N → Location N → Mount N
  bound world source = record (mount_at eq world source) { root = source.node }

  -- The mounts that a bind copies: the source's mount; with MS_REC also each mount at or under the source, with all its
  -- descendants, but no unbindable mounts and their descendants: mount(2), sharedsubtree, "Bind semantics" and "Rbind
  -- semantics".
  abbrev pub bind_tree : World N → Location N → (recursive : Bool) → List (Mount N)
  bind_tree world source false = bound world source ∷ []
  bind_tree world source true =
      bound world source
      ∷ flat_map (bindable_tree (length world.mounts) world.mounts)
      (filter (stands_under world source) (bindable_children world.mounts source.mount))

  -- the world with the mounts of a source attached as copies at a destination: mount(2) with MS_BIND
  abbrev pub bound_at : Fresh N → World N → Location N → Location N → (recursive : Bool) → World N
  bound_at fresh world source destination recursive =
      attach world fresh destination false (bind_tree world source recursive)

  -- a mount that moves, with its descendants
  abbrev pub moved_tree : World N → N → List (Mount N)
  moved_tree world mount = mount_tree eq world.mounts (mount_numbered eq world mount)

  -- the world with that tree moved to a destination: mount(2) with MS_MOVE
  abbrev pub moved_to : Fresh N → World N → N → Location N → World N
  moved_to fresh world mount destination = attach world fresh destination true (moved_tree world mount)

  -- some namespace has more mounts than the limit: ENOSPC of mount(2)
  abbrev pub has_too_many : World N → Bool
  has_too_many world =
      list_any (λ namespace. nat_lt most_mounts (length (mounts_of eq world namespace.number))) world.namespaces
