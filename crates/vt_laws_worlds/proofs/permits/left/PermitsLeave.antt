-- What a permit that a call is given leaves is a world.
use Rattle.std.proofs.Common.{subst, ℕ, nat_eq}
use Rattle.vt_spec.proofs.Common.{Outcome, apply}
use Rattle.vt_laws_worlds.proofs.permits.same.SamePlain.{same_worlds_are_worlds}
use Rattle.vt_laws_worlds.specs.Permits.Left.{GivenPermitsAreUnderWay, GivenPermitsLeaveWorlds, SameIsAWorldToo, left_by}
use Rattle.vt_laws_worlds.proofs.worlds.CallsKept.{applied, unsettled}
use Rattle.vt_laws_worlds.proofs.settling.SettledTasks.{settling_leaves_a_world}
use Rattle.vt_laws_worlds.specs.Worlds.Kept.{IsWorldButForUse}

pub given_permits_are_under_way : GivenPermitsAreUnderWay
given_permits_are_under_way world fresh task permit is plain given =
    subst (λ (outcome : Outcome ℕ). IsWorldButForUse outcome.world)
    (applied given.call is plain given.serves given.called given.no_overlay given.few_groups given.judged)
    (unsettled given.call is plain given.serves given.called given.no_overlay given.few_groups given.judged)

pub given_permits_leave_worlds : GivenPermitsLeaveWorlds
given_permits_leave_worlds world fresh task permit is plain given =
    settling_leaves_a_world (apply nat_eq fresh world task permit).world
    (given_permits_are_under_way world fresh task permit is plain given)

pub same_is_a_world_too : SameIsAWorldToo
same_is_a_world_too world fresh task permit other is plain given same =
    let left = given_permits_leave_worlds world fresh task permit is plain given in
    same_worlds_are_worlds (left_by fresh world task permit) other same left.1 left.0
