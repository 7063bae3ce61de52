-- What a given permit leaves where no overlay has an upper layer.
use Rattle.std.proofs.Common.{arith, ℕ, nat_eq}
use Rattle.vt_spec.proofs.Common.{Fresh, Permit, Task, World, apply, common_steps}
use Rattle.vt_laws_worlds.specs.Given.LeftWorlds.{IsGivenToTask}
use Rattle.vt_laws_worlds.proofs.given.left.Permits.{given_permits_are_under_way_anywhere, given_permits_leave_every_world}
use Rattle.vt_laws_worlds.proofs.one_text.same.SameWhole.{any_same_worlds_are_worlds}
use Rattle.vt_laws_worlds.specs.Permits.Left.{IsGiven, left_by}
use Rattle.vt_laws_worlds.specs.OverlaysStay.Left.{GivenPermitsAreUnderWayWithoutUpper, GivenPermitsGiveNoUpper, GivenPermitsKeepNames, SameGivesNoUpper}
use Rattle.vt_laws_worlds.proofs.overlays_stay.kept.OverlaysSwept.{named_applied, no_upper_applied, same_worlds_have_no_upper_alike, sweeps_give_no_upper, sweeps_keep_names}

pub given_to_task : (fresh : Fresh ℕ) (world : World ℕ) (task : Task ℕ) (permit : Permit ℕ)
    → IsGiven fresh world task permit → IsGivenToTask fresh world task permit
given_to_task fresh world task permit given = grind (arith, common_steps)

pub given_permits_give_no_upper : GivenPermitsGiveNoUpper
given_permits_give_no_upper world fresh task permit is none given = (
  given_permits_leave_every_world world fresh task permit is (given_to_task fresh world task permit given),
  sweeps_give_no_upper (apply nat_eq fresh world task permit).world
      (no_upper_applied world fresh task permit is none given),
)

pub given_permits_are_under_way_without_upper : GivenPermitsAreUnderWayWithoutUpper
given_permits_are_under_way_without_upper world fresh task permit is none given =
    let ready = given_permits_are_under_way_anywhere world fresh task permit is
    (given_to_task fresh world task permit given) in
    (ready.0, ready.1, no_upper_applied world fresh task permit is none given)

pub given_permits_keep_names : GivenPermitsKeepNames
given_permits_keep_names world fresh task permit is none named given =
    let applied = named_applied world fresh task permit is none given named in
    (applied, sweeps_keep_names (apply nat_eq fresh world task permit).world applied)

pub same_gives_no_upper : SameGivesNoUpper
same_gives_no_upper world fresh task permit other is none given same =
    let left = given_permits_give_no_upper world fresh task permit is none given in (
      any_same_worlds_are_worlds (left_by fresh world task permit) other same left.0,
      same_worlds_have_no_upper_alike (left_by fresh world task permit) other same left.1,
    )
