-- Where members of a sealed set get, and how their calls are judged in their part (profile).
use Rattle.std.specs.Prelude.{Bool, Contains, List, is_some, nat_eq, not, true, ℕ, ◌&&◌, ◌||◌, ◌≡◌}
use Rattle.std.specs.List.{list_any}
use Rattle.vt_spec.specs.Language.Calls.{Call, TaskName, same_name}
use Rattle.vt_spec.specs.Language.Calls.Call.{Setns}
use Rattle.vt_spec.specs.Lists.{Fresh, is_among}
use Rattle.vt_spec.specs.Machine.Invariants.{IsWorld}
use Rattle.vt_spec.specs.Machine.Judge.{judge, judge_in}
use Rattle.vt_spec.specs.Machine.Looks.{looks_of}
use Rattle.vt_spec.specs.Machine.Mounts.{Mount}
use Rattle.vt_spec.specs.Machine.Permits.{Permit}
use Rattle.vt_spec.specs.Machine.Sealed.{is_at, is_own_mount, members, part_of, roots_and_directories, sealed}
use Rattle.vt_spec.specs.Machine.World.{Task, World}
use Rattle.vt_laws_sealed.specs.Part.Walks.{ShowAlike}

-- a mount of theirs, or a detached one with a root or working directory of theirs on it
abbrev pub is_stood_on : World ℕ → List TaskName → Mount ℕ → Bool
is_stood_on world names mount =
    is_own_mount nat_eq world names mount
    || not (is_some mount.namespace) && is_at nat_eq (roots_and_directories (members world names)) mount

-- so is the mount of this number
abbrev pub is_theirs : World ℕ → List TaskName → ℕ → Bool
is_theirs world names number =
    list_any (λ mount. nat_eq number mount.number && is_stood_on world names mount) world.mounts

-- The world and the part of a sealed set show the same to a member's walks, which get to such mounts alone.
abbrev pub MembersSeeAlike : Type 0
MembersSeeAlike =
    (world : World ℕ) (names : List TaskName) (task : Task ℕ) → IsWorld nat_eq world
    → Contains (members world names) task
    → ShowAlike (looks_of nat_eq world) (looks_of nat_eq (part_of nat_eq world names)) task (is_theirs world names)

-- a call of a task of a sealed set, which enters no namespace but one of theirs
pub record IsMembersCall (world : World ℕ) (names : List TaskName) (task : Task ℕ) (call : Call) : Type 0 where
  pub is : IsWorld nat_eq world
  pub sealed_off : sealed nat_eq world names ≡ true
  pub member : Contains (members world names) task
  pub among_them : (name : TaskName) → call ≡ Setns name → is_among same_name name names ≡ true

-- It is granted or refused alike in the world and in their part: by the same first rule, with the same permit. Whether
-- a permit would leave a namespace with too many mounts (M9) is given, and by the next law is the same.
abbrev pub MembersAreJudgedAlike : Type 0
MembersAreJudgedAlike =
    (world : World ℕ) (names : List TaskName) (task : Task ℕ) (call : Call) → IsMembersCall world names task call
    → (overfills : Permit ℕ → Bool)
    → judge nat_eq (looks_of nat_eq world) overfills task call
    ≡ judge nat_eq (looks_of nat_eq (part_of nat_eq world names)) overfills task call

-- So it is with the limit of mounts (M9), whatever numbers are handed in.
abbrev pub MembersAreJudgedByTheirPart : Type 0
MembersAreJudgedByTheirPart =
    (world : World ℕ) (names : List TaskName) (task : Task ℕ) (call : Call) → IsMembersCall world names task call
    → (fresh other : Fresh ℕ)
    → judge_in nat_eq fresh world task call ≡ judge_in nat_eq other (part_of nat_eq world names) task call
