-- Groups live just where the test of it says so.
use Rattle.std.proofs.Common.{ℕ, nat_eq}
use Rattle.vt_spec.proofs.Common.{HasLivingGroups, World, all_from_among, among_from_all}
use Rattle.vt_laws_mounts.specs.Mounts.Receivers.{AllGroupsLive, GroupsLive, LivingIsComputed}
use Rattle.vt_laws_mounts.proofs.GroupsUp.{groups_live_by, lives_in}

pub all_live : (world : World ℕ) → GroupsLive world → AllGroupsLive world
all_live world live = all_from_among (HasLivingGroups nat_eq world) world.mounts
    (λ mount m source e. lives_in world live mount m source e)

pub tested_live : (world : World ℕ) → AllGroupsLive world → GroupsLive world
tested_live world live = groups_live_by world (λ mount m source e.
    among_from_all (HasLivingGroups nat_eq world) world.mounts live mount m source e)

pub living_is_computed : LivingIsComputed
living_is_computed world = (all_live world, tested_live world)
