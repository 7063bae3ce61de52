-- Calls of tasks of a sealed set that change mount namespaces, in the world and in the part of the set (profile).
use Rattle.std.specs.Prelude.{List, nat_eq, ℕ}
use Rattle.vt_spec.specs.Language.Calls.{TaskName}
use Rattle.vt_spec.specs.Language.Calls.Call.{PivotRoot, Unshare}
use Rattle.vt_spec.specs.Lists.{Fresh}
use Rattle.vt_spec.specs.Machine.Run.{Serves}
use Rattle.vt_spec.specs.Machine.World.{World}
use Rattle.vt_laws_members.specs.Changes.Changes.{EndsAlike, IsCallOfTheirs}
use Rattle.vt_laws_members.specs.Changes.NameChanges.{EndsAlikeByOne}

-- Each call of pivot_root(2) does in the part what it does in the world.
abbrev pub PivotsEndAlike : Type 0
PivotsEndAlike =
    (world : World ℕ) (names : List TaskName) (name : TaskName) (new put : List ℕ)
    → IsCallOfTheirs world names name (PivotRoot new put) → (fresh other : Fresh ℕ)
    → EndsAlike world names name (PivotRoot new put) fresh other

-- So does each call of unshare(2) with CLONE_NEWNS. The namespace and the copies of mounts take their numbers from the
-- supply: so it does by one supply of unused numbers.
abbrev pub UnsharesEndAlike : Type 0
UnsharesEndAlike =
    (world : World ℕ) (names : List TaskName) (name : TaskName) → IsCallOfTheirs world names name Unshare
    → (fresh : Fresh ℕ) → Serves nat_eq world fresh → EndsAlikeByOne world names name Unshare fresh
