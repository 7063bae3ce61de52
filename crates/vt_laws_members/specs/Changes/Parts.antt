-- What the part of a set of tasks is by itself (profile).
use Rattle.std.specs.Prelude.{List, true, ℕ, nat_eq, ◌≡◌}
use Rattle.vt_spec.specs.Language.Calls.{TaskName}
use Rattle.vt_spec.specs.Machine.Invariants.{IsWorld}
use Rattle.vt_spec.specs.Machine.Sealed.{part_of, sealed}
use Rattle.vt_spec.specs.Machine.Settled.{settled}
use Rattle.vt_spec.specs.Machine.World.{World}

-- The part of the part is the part, also where a tree is in it by lower layers alone.
abbrev pub PartOfAPart : Type 0
PartOfAPart =
    (world : World ℕ) (names : List TaskName) → IsWorld nat_eq world
    → part_of nat_eq (part_of nat_eq world names) names ≡ part_of nat_eq world names

-- Nothing of the part of a sealed set is unused in it: the sweep at a call's end leaves it.
abbrev pub PartIsSettled : Type 0
PartIsSettled =
    (world : World ℕ) (names : List TaskName) → IsWorld nat_eq world → sealed nat_eq world names ≡ true
    → settled nat_eq (part_of nat_eq world names) ≡ part_of nat_eq world names
