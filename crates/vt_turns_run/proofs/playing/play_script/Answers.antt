use Rattle.std.proofs.Common.{◌≡◌, ◌∙◌, [], ap, map, option_map, subst, sym, ℕ}
use Rattle.vt_spec.proofs.Common.{Sched, lines_of}
use Rattle.vt_spec.specs.Machine.Turns.{schedule_who}
use Rattle.vt_laws_turns.specs.Commits.{text_of_replies}
use Rattle.vt_line.specs.Versions.{version_of}
use Rattle.vt_answers.specs.Numbers.{IsOpened}
use Rattle.vt_queues.specs.QueuesValue.{who_meant}
use Rattle.vt_turns.specs.Ends.{IsReady}
use Rattle.vt_turns.specs.SchedValue.{reply_meant}
use Rattle.vt_turns.specs.Turned.{PlaysAs}
use Rattle.vt_turns_run.specs.Played.{IsPlayed, IsTextOfTurns, turns_in, turns_of}
use Rattle.vt_turns_run.specs.declared.playing.Played.{Played}
use Rattle.vt_turns_run.proofs.PlayedLines.{if_ok, played_so, same_turns}
use Rattle.vt_turns_run.proofs.ToldTurns.{text_of_played}
use Rattle.vt_turns_run.proofs.playing.play_script.Goals as goal

pub returns-clause-plays : goal.returns-clause-plays
returns-clause-plays g c =
    let seen = g.C.TakesTurns.world in
    let first = c.new-sched.result in
    let last = c.play-played.new.sched in
    let schedule = c.args.schedule.now in
    let world_is : seen first.state.world ≡ seen c.in_ok-opening.field-0 =
    ap (λ (s : Sched ℕ). s.world) c.new-sched.ensures.state in
    let ready : IsReady (seen first.state.world) = subst IsReady (sym world_is) c.in_ok-opening.ensures.ready in
    let turns_are : turns_in c.deref.result.now ≡ turns_of schedule = ap turns_in c.deref.ensures.value
    ∙ same_turns (option_map who_meant) schedule_who c.in_ok-turns.turns.items (lines_of schedule) c.in_ok-turns.ensures in
    if_ok c.play-played.result
    (λ (played : Played). PlaysAs seen first (turns_in c.deref.result.now) (map reply_meant played.replies.items) last)
    (λ (played : Played). IsPlayed seen (version_of c.args.version) c.args.script.now schedule
    (map reply_meant played.replies.items))
    (λ played plays. played_so seen first last (version_of c.args.version) c.args.script.now schedule
    (map reply_meant played.replies.items) (subst IsOpened (sym world_is) c.in_ok-opening.ensures.opened) ready
    (c.new-sched.ensures.state
    ∙ (λ i. record { world = sym world_is i; queues = c.in_ok-queues.ensures.queues i; under_way = [] }))
    c.new-sched.ensures.conditions
    (subst (λ turns. PlaysAs seen first turns (map reply_meant played.replies.items) last) turns_are plays))
    (c.play-played.ensures.plays ready)

pub returns-clause-text : goal.returns-clause-text
returns-clause-text g c =
    let seen = g.C.TakesTurns.world in
    let version = version_of c.args.version in
    let script = c.args.script.now in
    let schedule = c.args.schedule.now in
    if_ok c.play-played.result
    (λ (played : Played). IsPlayed seen version script schedule (map reply_meant played.replies.items))
    (λ (played : Played). IsTextOfTurns version script schedule
    (text_of_replies (map reply_meant played.replies.items)))
    (λ played is. text_of_played seen version script schedule (map reply_meant played.replies.items) is)
    (returns-clause-plays g c)
