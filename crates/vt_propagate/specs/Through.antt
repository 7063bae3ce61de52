-- What stands where once some mounts are gone, by the mounts as they were: the place that a mount had that is gone is
-- looked through, to what stood on its root, or to what the mount stood on.
use Rattle.std.specs.Prelude.{Bool, List, None, Option, Some, filter_map, find, if◌then◌else◌, is_some, length, map, nat_eq, not, suc, zero, ℕ, ◌&&◌, ◌||◌, [], ◌∷◌}
use Rattle.std.specs.List.{list_all}
use Rattle.vt_spec.specs.Lists.{holds_of, then_some, when}
use Rattle.vt_spec.specs.Machine.Detach.{covers_root, is_going, inherited_mount_point}
use Rattle.vt_spec.specs.Machine.Mounts.{Location, Mount, child_at, children, root_of}
use Rattle.vt_spec.specs.Machine.Receives.{receivers}
use Rattle.vt_spec.specs.Machine.World.{World, mount_numbered}
use Rattle.vt_propagate.specs.Falling.{of_mounts}
use Rattle.vt_propagate.specs.Going.{group_at}

-- the mount that stands at a place then: what stood on the root of one that is gone has fallen into its place
abbrev pub over_from : ℕ → List (Mount ℕ) → List ℕ → Location ℕ → Option ℕ
over_from zero mounts gone place = None
over_from (suc most) mounts gone place =
    then_some (child_at nat_eq mounts place) (λ child.
    if is_going nat_eq gone child.number then over_from most mounts gone (root_of child) else Some child.number)

abbrev pub standing_over : List (Mount ℕ) → List ℕ → Location ℕ → Option ℕ
standing_over mounts gone place = over_from (length mounts) mounts gone place

-- what stands at a child's place then stands on the root of the mount, or nothing does
abbrev pub rests_on_root : List (Mount ℕ) → List ℕ → Mount ℕ → Mount ℕ → Bool
rests_on_root mounts gone mount child =
    covers_root nat_eq mount child
    || not (holds_of (λ place. is_some (standing_over mounts gone place)) child.mount_point)

-- a mount may go where nothing stands on it then, but on its root
abbrev pub is_free_then : List (Mount ℕ) → List ℕ → Mount ℕ → Bool
is_free_then mounts gone mount =
    list_all (rests_on_root mounts gone mount) (children nat_eq mounts mount.number)

abbrev pub is_free_by_number : List (Mount ℕ) → List ℕ → ℕ → Bool
is_free_by_number mounts gone number =
    holds_of (is_free_then mounts gone) (find (λ mount. nat_eq number mount.number) mounts)

-- the mount at a location then, if it may go
abbrev pub free_at_then : List (Mount ℕ) → List ℕ → Location ℕ → Option ℕ
free_at_then mounts gone place =
    then_some (standing_over mounts gone place) (λ number. when (is_free_by_number mounts gone number) number)

-- the mounts on an inode of each receiver that may go then
abbrev pub free_at_receiver : List (Mount ℕ) → List ℕ → ℕ → ℕ → Option ℕ
free_at_receiver mounts gone node receiver =
    if is_going nat_eq gone receiver then None
    else free_at_then mounts gone (record { mount = receiver; node = node })

abbrev pub free_on_then : List (Mount ℕ) → List ℕ → ℕ → List ℕ → List ℕ
free_on_then mounts gone node receivers = filter_map (free_at_receiver mounts gone node) receivers

-- the mount point of a mount then, if its parent is shared, and the parent's group
abbrev pub group_at_then : List (Mount ℕ) → List ℕ → Location ℕ → Option (Location ℕ × ℕ)
group_at_then mounts gone place = if is_going nat_eq gone place.mount then None else group_at mounts place

abbrev pub shared_point_then : List (Mount ℕ) → List ℕ → ℕ → Option (Location ℕ × ℕ)
shared_point_then mounts gone number =
    then_some (then_some (find (λ mount. nat_eq number mount.number) mounts) (λ mount. mount.mount_point))
    (λ place. group_at_then mounts gone (inherited_mount_point nat_eq (of_mounts mounts) gone place))

-- the mounts that an unmount of this one detaches then
abbrev pub going_by : World ℕ → List ℕ → ℕ → Option (Location ℕ × ℕ) → List ℕ
going_by world gone number None = number ∷ []
going_by world gone number (Some found) =
    free_on_then world.mounts gone found.0.node (map (λ mount. mount.number) (receivers nat_eq world found.1))

abbrev pub going_then : World ℕ → List ℕ → ℕ → List ℕ
going_then world gone number = going_by world gone number (shared_point_then world.mounts gone number)

-- of one that is still attached
abbrev pub going_then_if_there : World ℕ → List ℕ → ℕ → List ℕ
going_then_if_there world gone number =
    if not (is_going nat_eq gone number) && is_some (mount_numbered nat_eq world number).namespace
    then going_then world gone number else []
