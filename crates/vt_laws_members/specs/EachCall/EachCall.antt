-- Every call of a task of a sealed set, in the world and in the part of the set (profile).
use Rattle.std.specs.Prelude.{List, ℕ}
use Rattle.vt_spec.specs.Language.Calls.{Call, TaskName}
use Rattle.vt_spec.specs.Machine.World.{World}
use Rattle.vt_laws_members.specs.OverlayNames.EachCalls.{AlwaysEndsAlike}

-- Each call of theirs, granted or refused, does in the part what it does in the world.
abbrev pub EachCallEndsAlike : Type 0
EachCallEndsAlike =
    (world : World ℕ) (names : List TaskName) (name : TaskName) (call : Call) → AlwaysEndsAlike world names name call
