-- What an attachment counts, of the mounts that code lists.
use Rattle.std.proofs.Common.{List, ap, length, map, nat_eq, sym, ℕ, ◌*◌, ◌+◌, ◌≡◌, ◌∙◌, arith}
use Rattle.vt_spec.proofs.Common.{Location, Mount, length-map, parts_of, common_steps}
use Rattle.vt_ns.proofs.Common.{WorldValue, mount_of, world_of}
use Rattle.vt_location.specs.declared.mounts.Mount as code
use Rattle.vt_ns.specs.Counting.{counted_for}

-- as many as the definitions have
pub as_many_mounts : (mounts : List code.Mount) (meant : List (Mount ℕ)) → map mount_of mounts ≡ meant
    → length mounts ≡ length meant
as_many_mounts mounts meant are = sym (length-map mounts mount_of) ∙ ap length are

pub counted_so : (value : WorldValue) (place : Location ℕ) (parts tree : List code.Mount) (meant : List (Mount ℕ))
    (next : ℕ) → map mount_of parts ≡ parts_of nat_eq (world_of value) place → map mount_of tree ≡ meant
    → next ≡ value.next + 2 * (length parts * length tree) → next ≡ value.next + counted_for value place meant
counted_so value place parts tree meant next parts_are tree_is is = grind (arith, common_steps)
