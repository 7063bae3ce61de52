-- Each call is judged as the run of what it asks (`Judging.antt`): it gets a permit, or is refused by the first walk or
-- rule that fails.
use Rattle.std.specs.Prelude.{Bool}
use Rattle.vt_spec.specs.Language.Calls.{Call}
use Rattle.vt_spec.specs.Lists.{Fresh}
use Rattle.vt_spec.specs.Machine.Apply.{overfills}
use Rattle.vt_spec.specs.Machine.Judging.{Judgement, judging, run}
use Rattle.vt_spec.specs.Machine.Looks.{Looks, looks_of}
use Rattle.vt_spec.specs.Machine.Permits.{Permit}
use Rattle.vt_spec.specs.Machine.World.{Task, World}

module _ {N : Type 0} (eq : N → N → Bool) where
  -- a call judged by what is looked at; of what attaches mounts, by whether its permit leaves too many: ENOSPC of
  -- mount(2)
  abbrev pub judge : Looks N → (overfills : Permit N → Bool) → Task N → Call → Judgement N
  judge looks overfills task call = run eq looks task overfills (judging eq looks task call)

  -- a call judged in a world
  abbrev pub judge_in : Fresh N → World N → Task N → Call → Judgement N
  judge_in fresh world task call = judge (looks_of eq world) (overfills eq fresh world task) task call
