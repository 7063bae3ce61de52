-- Places that are ready for a name that is removed.
use Rattle.std.proofs.Common.{◌≡◌, ◌+◌, ◌<◌, ◌≤◌, arith, Bool, false, List, true, ℕ}
use Rattle.vt_births.specs.Births.{BirthsValue}
use Rattle.vt_fs.specs.FilesystemsValue.{Filesystems}
use Rattle.vt_upper.specs.New.{IsNameReady, IsPlaceReady, IsRemovalReady, many_in, one_if}
use Rattle.vt_upper.specs.declared.making.Place.{Place}

pub removal_ready : (place : Place) (name : List ℕ) (trees : Filesystems) (births : BirthsValue) (room inodes more : ℕ)
    → (many_in place < inodes → many_in place ≤ more → IsPlaceReady place name trees births room)
    → (many_in place ≤ inodes → many_in place ≤ more → IsNameReady place name trees births room)
    → (hidden : Bool) → inodes ≡ many_in place + one_if hidden → many_in place ≤ more
    → IsRemovalReady hidden place name trees births room
removal_ready place name trees births room inodes more put named true many enough = put (omega (arith, many)) enough
removal_ready place name trees births room inodes more put named false many enough = named (omega (arith, many)) enough
