use Rattle.vt_written.specs.Objects.{PushesSome}
use Rattle.vt_written.proofs.text.Text.push_lines.Given as goal

abbrev pub invariant-loop-place : goal.invariant-loop-place
invariant-loop-place l = PushesSome l.initial.self l.self
