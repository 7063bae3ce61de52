use Rattle.std.proofs.Common.{◌+◌, ◌≡◌, ◌≤◌, length}
use Rattle.vt_spec.specs.Language.Script.{overlays}
use Rattle.vt_spec.specs.Machine.Turns.{queues_of}
use Rattle.vt_line.specs.Versions.{version_of}
use Rattle.vt_queues.specs.QueuesValue.{queues_meant}
use Rattle.vt_turns_run.proofs.QueuedLines.{queues_from}
use Rattle.vt_turns_run.proofs.reading.queues_of.Given as goal

abbrev pub invariant-loop-number : goal.invariant-loop-number
invariant-loop-number l = record {
  count : l.number + length l.rest ≤ length l.script + 1;
  read : queues_from (version_of l.version) (queues_meant l.queues) l.number l.rest
      ≡ queues_of (overlays (version_of l.version)) l.script;
}
