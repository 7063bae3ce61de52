-- Calls of tasks of a sealed set that change propagation types, in the world and in the part of the set (profile).
use Rattle.std.specs.Prelude.{Bool, List, false, nat_eq, true, ℕ, ◌≡◌}
use Rattle.vt_spec.specs.Language.Calls.{TaskName, TypeWord}
use Rattle.vt_spec.specs.Language.Calls.Call.{SetType}
use Rattle.vt_spec.specs.Language.Calls.TypeWord.{ToShared}
use Rattle.vt_spec.specs.Lists.{Fresh}
use Rattle.vt_spec.specs.Machine.Run.{Serves}
use Rattle.vt_spec.specs.Machine.Sealed.{part_of}
use Rattle.vt_spec.specs.Machine.World.{World}
use Rattle.vt_laws_members.specs.Changes.Changes.{EndsAlike, IsCallOfTheirs}
use Rattle.vt_laws_members.specs.Changes.NameChanges.{EndsAlikeByOne}

-- Each call of mount(2) with MS_SHARED, MS_SLAVE, MS_PRIVATE or MS_UNBINDABLE, also with MS_REC, does in the part what
-- it does in the world, by one supply of unused numbers.
abbrev pub TypesEndAlike : Type 0
TypesEndAlike =
    (world : World ℕ) (names : List TaskName) (name : TaskName) (path : List ℕ) (word : TypeWord) (recursive : Bool)
    → IsCallOfTheirs world names name (SetType path word recursive)
    → (fresh : Fresh ℕ) → Serves nat_eq world fresh
    → EndsAlikeByOne world names name (SetType path word recursive) fresh

-- mounts that become shared take new groups
abbrev pub takes_groups : TypeWord → Bool
takes_groups ToShared = true
takes_groups word = false

-- Where no mount does, each supply of unused numbers serves: so the call does, whichever are handed in.
abbrev pub OtherTypesEndAlike : Type 0
OtherTypesEndAlike =
    (world : World ℕ) (names : List TaskName) (name : TaskName) (path : List ℕ) (word : TypeWord) (recursive : Bool)
    → IsCallOfTheirs world names name (SetType path word recursive) → takes_groups word ≡ false
    → (fresh other : Fresh ℕ) → Serves nat_eq world fresh → Serves nat_eq (part_of nat_eq world names) other
    → EndsAlike world names name (SetType path word recursive) fresh other
