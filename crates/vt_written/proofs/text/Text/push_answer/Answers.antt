use Rattle.vt_written.proofs.Pushing.{PushesEnd-some, PushesObject-brace}
use Rattle.vt_written.proofs.text.Text.push_answer.Goals as goal

pub returns : goal.returns
returns c =
    let new = c.push_outcome.new.self in
    PushesObject-brace _ c.args.self.now c.push.new.self new c.push.ensures
    (PushesEnd-some c.push.new.self c.push_lines.new.self new c.push_lines.ensures c.push_outcome.ensures)
