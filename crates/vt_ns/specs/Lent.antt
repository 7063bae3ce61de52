-- What is lent for a location: the inode of a plain tree as that keeps it, or the real object of an overlay's node, its
-- entries and its parent by slots.
use Rattle.std.specs.Prelude.{None, Option, Some, nat_eq, refl, ℕ, ◌≡◌}
use Rattle.vt_spec.specs.Machine.Mounts as meant
use Rattle.vt_spec.specs.Machine.World.{mount_at}
use Rattle.vt_spec.specs.Tree.{Content, Node}
use Rattle.vt_spec.specs.Tree.Content.{Directory, Regular, Symlink, Whiteout}
use Rattle.vt_location.specs.Fronts.{front}
use Rattle.vt_world.specs.Lent.{lent_of_world}
use Rattle.vt_world.specs.WorldValue.{WorldValue, world_of}
use Rattle.vt_mounting.specs.Detach.Looking.{looks_of_value}

-- An inode with the entries, the parent and the mark of another: a lent object, where it looks like the inode. In a
-- world with all invariants it always does.
abbrev pub with_names : Content ℕ → Content ℕ → Content ℕ
with_names (Directory parent entries opaque) (Directory slot slots mark) = Directory slot slots mark
with_names (Directory parent entries opaque) (Regular bytes) = Directory parent entries opaque
with_names (Directory parent entries opaque) (Symlink text) = Directory parent entries opaque
with_names (Directory parent entries opaque) Whiteout = Directory parent entries opaque
with_names (Regular bytes) lent = Regular bytes
with_names (Symlink text) lent = Symlink text
with_names Whiteout lent = Whiteout

abbrev pub as_lent : Option (Node ℕ) → Option (Node ℕ) → Option (Node ℕ)
as_lent None lent = None
as_lent (Some seen) None = Some seen
as_lent (Some seen) (Some lent) =
    Some (record { attr = seen.attr; content = with_names seen.content lent.content })

-- the object that is lent for a location
abbrev pub real_of_value : WorldValue → meant.Location ℕ → Option (Node ℕ)
real_of_value value at =
    as_lent ((looks_of_value value).node at)
    (lent_of_world (world_of value) (mount_at nat_eq (world_of value) at).filesystem at.node)

-- it looks like the inode
pub lent_alike : (seen lent : Option (Node ℕ)) → front (as_lent seen lent) ≡ front seen
lent_alike None lent = refl
lent_alike (Some seen) None = refl
lent_alike (Some seen) (Some lent) = by seen.content lent.content
  where
    by : (content other : Content ℕ)
        → front (Some (record { attr = seen.attr; content = with_names content other }))
        ≡ front (Some (record { attr = seen.attr; content = content }))
    by (Directory parent entries opaque) (Directory slot slots mark) = refl
    by (Directory parent entries opaque) (Regular bytes) = refl
    by (Directory parent entries opaque) (Symlink text) = refl
    by (Directory parent entries opaque) Whiteout = refl
    by (Regular bytes) other = refl
    by (Symlink text) other = refl
    by Whiteout other = refl
