-- The groups and masters of what is attached to mounts of theirs are heard, or new: their masters are the same in the
-- part.
use Rattle.std.proofs.Common.{arith, ◌≡◌, ℕ, nat_eq, Bool, List, Some, None}
use Rattle.vt_spec.proofs.Common.{Among, Copies, Mount, Propagation, TaskName, Twig, World, common_steps, copy_type, group_of, image, mount_at, none_is_some, part_of, same_Some, source_of, type_at}
use Rattle.vt_laws_members.proofs.Common.{source_from_group}
use Rattle.vt_laws_members.proofs.attached.CopiesAlike.{AttachesTheirs, base, parts, tree}
use Rattle.vt_laws_members.proofs.attached.PushedUp.{copy, twig}

-- a group without master has none in the part
pub none_known : (world : World ℕ) (names : List TaskName) (g : ℕ) → world.master g ≡ None
    → (part_of nat_eq world names).master g ≡ world.master g
none_known world names g e = grind (arith, common_steps)

module _ {world : World ℕ} {names : List TaskName} (attaching : AttachesTheirs world names)
    (new : Copies ℕ) (moves : Bool) (origins : List (Mount ℕ))
    (new_groups : (a b : ℕ) → world.master (new.image a b) ≡ None)
    (sources : (o : Mount ℕ) → Among o origins → (g : ℕ) → source_of o.propagation ≡ Some g
    → (part_of nat_eq world names).master g ≡ world.master g) where
  abbrev part : World ℕ
  part = part_of nat_eq world names

  abbrev Known : ℕ → Type 0
  Known g = part.master g ≡ world.master g

  abbrev destination : Mount ℕ
  destination = mount_at nat_eq world attaching.place

  abbrev at_base : World ℕ
  at_base = base attaching

  abbrev at_parts : List (Mount ℕ)
  at_parts = parts attaching

  new_known : (a b : ℕ) → Known (new.image a b)
  new_known a b = none_known world names (new.image a b) (new_groups a b)

  -- at the destination
  twig_known : (o : Mount ℕ) → Among o origins → (g : ℕ)
      → source_of (type_at new (group_of destination.propagation) o) ≡ Some g → Known g
  twig_known o m g = grind (arith, common_steps, same_Some, new_known)

  abbrev its_twig : Mount ℕ → Twig ℕ
  its_twig = twig attaching new moves origins

  image_known : (o : Mount ℕ) → Among o origins → (group : ℕ) → Known (image nat_eq new destination (its_twig o) group)
  image_known o m group = grind (arith, common_steps, new_known, twig_known, source_from_group)

  -- at a receiver
  type_known : (o : Mount ℕ) → Among o origins → (kind : Propagation ℕ) (g : ℕ)
      → source_of (copy_type nat_eq at_base new at_parts destination (its_twig o) kind) ≡ Some g → Known g
  type_known o m kind g h = grind (arith, common_steps, same_Some, image_known, none_is_some)

  pub copy_known : (p o : Mount ℕ) → Among o origins → (g : ℕ)
      → source_of (copy attaching new moves origins p o).propagation
      ≡ Some g → Known g
  copy_known p o m g = grind (arith, common_steps, tree, twig_known, type_known)
