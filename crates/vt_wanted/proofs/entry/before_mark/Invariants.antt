use Rattle.std.proofs.Common.{◌++◌, ◌≡◌, drop, take}
use Rattle.vt_wanted.specs.Entries.{before_mark}
use Rattle.vt_wanted.proofs.entry.before_mark.Given as goal

abbrev pub invariant-loop-place : goal.invariant-loop-place
invariant-loop-place l = take l.place l.fn.line ++ before_mark (drop l.place l.fn.line) ≡ before_mark l.fn.line
