-- What the first turn of a call checks is what the call asks (`judging`).
use Rattle.std.specs.Prelude.{nat_eq, true, ℕ, ◌≡◌}
use Rattle.vt_laws_rules.specs.Asked.{first_rules}
use Rattle.vt_laws_rules.specs.RuleOrder.{has_path}
use Rattle.vt_spec.specs.Language.Calls.{Call}
use Rattle.vt_spec.specs.Machine.Judging.{judging}
use Rattle.vt_spec.specs.Machine.Looks.{Looks}
use Rattle.vt_spec.specs.Machine.Turns.{entry_rules}
use Rattle.vt_spec.specs.Machine.World.{Task}

-- The rules that the first turn of a call with a path checks are all that the call asks before it walks.
abbrev pub TurnsCheckWhatIsAsked : Type 0
TurnsCheckWhatIsAsked =
    (looks : Looks ℕ) (task : Task ℕ) (call : Call) → has_path call ≡ true
    → entry_rules nat_eq looks task call ≡ first_rules nat_eq looks task (judging nat_eq looks task call)
