-- The number of a directory beside its own slot.
use Rattle.std.proofs.Common.{◌≡◌, ◌<◌, ap, refl, sym}
use Rattle.vt_location.specs.declared.births.Birth.{Birth}
use Rattle.vt_location.specs.declared.births.Birth.TheVariants.{Below, Here}
use Rattle.vt_location.specs.declared.locations.NodeRef.{NodeRef}
use Rattle.vt_location.specs.Births.{born_in}
use Rattle.vt_location.specs.Locations.{number_of}
use Rattle.vt_location.specs.Numbers.{inode_number}
use Rattle.vt_location.proofs.NumberLemmas.{exchanged_slot}
use Rattle.vt_permits.specs.GrantValue.{number_beside}

pub own_number_beside : (directory : NodeRef) → directory.slot < 18446744073709551616
    → number_beside directory directory.birth directory.slot ≡ number_of directory
own_number_beside directory small = by directory.birth refl
  where
    by : (birth : Birth) → birth ≡ directory.birth → number_beside directory birth directory.slot
        ≡ inode_number (born_in directory.filesystem.count birth) directory.slot
    by Here is = exchanged_slot directory.filesystem.count directory.slot small
    by (Below layer parent rank) is =
        ap (λ birth. inode_number (born_in directory.filesystem.count birth) directory.slot) (sym is)
