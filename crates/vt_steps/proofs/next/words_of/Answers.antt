use Rattle.vt_steps.specs.RouteValue.{words_in}
use Rattle.vt_steps.proofs.RoutesAdded.{one-more}
use Rattle.vt_steps.proofs.next.words_of.Goals as goal

pub loop-route-preserved : goal.loop-route-preserved
loop-route-preserved c =
    one-more c.loop-route.yielded _ (words_in c.loop-route.words.steps) _ c.loop-route.words.fails _
    c.loop-route.invariant.0 c.loop-route.invariant.1 c.in_ok-words.ensures.steps c.in_ok-words.ensures.fails
