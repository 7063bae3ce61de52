use Rattle.std.proofs.Common.{flat_map, take}
use Rattle.vt_io.specs.Sink.{Wrote}
use Rattle.vt_turns_run.proofs.PlayedLines.{text_of}
use Rattle.vt_turns_run.proofs.running.write_replies.Given as goal

abbrev pub invariant-loop-reply : goal.invariant-loop-reply
invariant-loop-reply g l = Wrote g.W.Sink l.initial.sink l.sink (flat_map text_of (take l.reply-index l.reply-items))
