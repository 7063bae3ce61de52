-- What mounts and groups that change together are seen as: where they were a world's, they are the definitions' world
-- after it.
use Rattle.std.specs.Prelude.{All, Contains, List, [], map, nat_eq, ℕ, ◌≡◌}
use Rattle.vt_spec.specs.Language.Calls.{TypeWord}
use Rattle.vt_spec.specs.Language.Calls.TypeWord.{ToShared, ToSlave}
use Rattle.vt_spec.specs.Machine.Detach.{taken_away}
use Rattle.vt_spec.specs.Machine.Mounts.{Location, Mount}
use Rattle.vt_spec.specs.Machine.Types.{retyped, retyped_mount}
use Rattle.vt_spec.specs.Machine.World.{World}
use Rattle.vt_group.specs.Grouping.{Grouping, LacksGroup}
use Rattle.vt_group.specs.Together.{Retypes, Shares, TakesAway}
use Rattle.vt_mount.specs.MountsValue.{MountEntry, mounts_in}
use Rattle.vt_propagate.specs.Falling.{LeavesBy, left_by}
use Rattle.vt_retype.specs.Retyping.{FollowsTypes, shared_by}
use Rattle.vt_propagate.specs.Seen.{IsSeen}
use Rattle.vt_laws_mounts.specs.Mounts.Attaching.{numbers_of}

-- Mounts are detached, and leave their groups.
abbrev pub DetachingIsSeen : Type 0
DetachingIsSeen =
    (world : World ℕ) (kept left after : List MountEntry) (before now : Grouping) (gone : List ℕ)
    (points : List (ℕ × Location ℕ))
    → IsSeen world kept before → LeavesBy world gone points → mounts_in left ≡ map (left_by gone points) world.mounts
    → TakesAway before now gone → FollowsTypes before now gone left after
    → IsSeen (taken_away nat_eq world gone) after now

-- Mounts become private or unbindable, and leave their groups.
abbrev pub RetypingIsSeen : Type 0
RetypingIsSeen =
    (world : World ℕ) (group : ℕ → ℕ) (word : TypeWord) (named : List (Mount ℕ)) (kept left after : List MountEntry)
    (before now : Grouping)
    → IsSeen world kept before → All (Contains world.mounts) named → ((number : ℕ) → LacksGroup world (group number))
    → mounts_in left ≡ map (retyped_mount nat_eq group word named) world.mounts
    → Retypes before now word (numbers_of named) → FollowsTypes before now (numbers_of named) left after
    → IsSeen (retyped nat_eq world group word named) after now

-- Mounts become slaves of their groups.
abbrev pub SlavesAreSeen : Type 0
SlavesAreSeen =
    (world : World ℕ) (group : ℕ → ℕ) (named : List (Mount ℕ)) (kept after : List MountEntry) (before now : Grouping)
    → IsSeen world kept before → All (Contains world.mounts) named → ((number : ℕ) → LacksGroup world (group number))
    → Retypes before now ToSlave (numbers_of named) → FollowsTypes before now [] kept after
    → IsSeen (retyped nat_eq world group ToSlave named) after now

-- Mounts become shared, each that is not shared yet as the first member of a group of its own.
abbrev pub SharingIsSeen : Type 0
SharingIsSeen =
    (world : World ℕ) (group : ℕ → ℕ) (named : List (Mount ℕ)) (kept : List MountEntry) (before now : Grouping)
    → IsSeen world kept before → All (Contains world.mounts) named → ((number : ℕ) → LacksGroup world (group number))
    → Shares before now (map (λ mount. (mount.number, group mount.number)) named)
    → IsSeen (retyped nat_eq world group ToShared named) (map (shared_by now (numbers_of named)) kept) now
