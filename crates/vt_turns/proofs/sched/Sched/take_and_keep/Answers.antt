use Rattle.std.proofs.Common.{ap, sym, ◌∙◌, ◌++◌, ◌≤◌, arith, map, option_map, option_to_list, vec_capacity, vec_len, Option}
use Rattle.vt_turns.specs.SchedValue.{reply_meant}
use Rattle.vt_turns.specs.declared.sched.Reply.{Reply}
use Rattle.vt_turns.proofs.SchedTurns.{pushed_with_room}
use Rattle.vt_turns.proofs.sched.Sched.take_and_keep.Goals as goal

pub returns-clause-turns : goal.returns-clause-turns
returns-clause-turns g c = λ some. (
  _,
  c.take_turn.ensures some,
  pushed_with_room c.push-kept.result c.args.replies.now.items c.push-kept.new.self.items c.in-Some.reply
      (vec_capacity c.args.replies.now ≤ vec_len c.args.replies.now)
      (λ (over : vec_capacity c.args.replies.now ≤ vec_len c.args.replies.now). omega (arith, c.requires))
      c.push-kept.ensures.full c.push-kept.ensures.items
      ∙ ap (λ (reply : Option Reply). map reply_meant c.args.replies.now.items ++ option_to_list (option_map reply_meant reply))
      (sym c.in-Some.is),
)
