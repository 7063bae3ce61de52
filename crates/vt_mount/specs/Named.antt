-- The numbers of all mounts.
use Rattle.std.specs.Prelude.{Bool, List, find, nat_eq, ℕ, ◌≡◌}
use Rattle.std.specs.List.{list_any}
use Rattle.vt_spec.specs.Lists.{holds_of}
use Rattle.vt_spec.specs.Machine.Mounts.{Mount}
use Rattle.vt_location.specs.declared.numbers.MountId.{MountId}
use Rattle.vt_location.specs.Numbers.{counted}
use Rattle.vt_mount.specs.MountsValue.{MountEntry, mounts_in}

-- These are the numbers of all mounts, in whatever order: some mount of theirs passes a test just if some mount does.
abbrev pub NameEach : List MountId → List MountEntry → Type 0
NameEach ids entries =
    (test : Mount ℕ → Bool)
    → list_any (λ id. holds_of test (find (λ mount. nat_eq (counted id.count) mount.number) (mounts_in entries))) ids
    ≡ list_any test (mounts_in entries)
