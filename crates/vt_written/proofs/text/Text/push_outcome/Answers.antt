use Rattle.vt_written.proofs.Pushing.{PushesEnd-here, PushesEnd-push}
use Rattle.vt_written.proofs.text.Text.push_outcome.Goals as goal

-- one part after the other, and the end last
pub returns-in-Some : goal.returns-in-Some
returns-in-Some c =
    let new = c.push-in-Some-7.new.self in
    PushesEnd-push _ c.args.self.now c.push.new.self new c.push.ensures
    (PushesEnd-push _ c.push.new.self c.push-in-Some.new.self new c.push-in-Some.ensures
    (PushesEnd-push _ c.push-in-Some.new.self c.push-in-Some-2.new.self new c.push-in-Some-2.ensures
    (PushesEnd-push _ c.push-in-Some-2.new.self c.push_text.new.self new c.push_text.ensures
    (PushesEnd-push _ c.push_text.new.self c.push-in-Some-3.new.self new c.push-in-Some-3.ensures
    (PushesEnd-push _ c.push-in-Some-3.new.self c.push-in-Some-4.new.self new c.push-in-Some-4.ensures
    (PushesEnd-push _ c.push-in-Some-4.new.self c.push-in-Some-5.new.self new c.push-in-Some-5.ensures
    (PushesEnd-push _ c.push-in-Some-5.new.self c.push_text-in-Some.new.self new c.push_text-in-Some.ensures
    (PushesEnd-push _ c.push_text-in-Some.new.self c.push-in-Some-6.new.self new c.push-in-Some-6.ensures
    (PushesEnd-here c.push-in-Some-6.new.self new c.push-in-Some-7.ensures)))))))))
