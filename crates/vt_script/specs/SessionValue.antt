-- What the definitions see of the code's session.
use Rattle.std.specs.Prelude.{ℕ}
use Rattle.vt_spec.specs.Machine.World.{World}
use Rattle.vt_line.specs.Versions.{version_of}
use Rattle.vt_script.specs.Session.{State}
use Rattle.vt_script.specs.declared.session.Session.{Session}

-- the state of a session, of whose world the definitions see this
abbrev pub state_of : {C : Type 0} → (C → World ℕ) → Session C → State
state_of seen session = record {
  version = version_of session.parser.version;
  world = seen session.world;
  answered = session.answered;
  kept = session.line;
}
