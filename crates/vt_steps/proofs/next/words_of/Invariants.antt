use Rattle.std.proofs.Common.{◌≡◌, map}
use Rattle.vt_spec.specs.Machine.Turns.{some_fails, words_of}
use Rattle.vt_steps.specs.RouteValue.{route_of, words_in}
use Rattle.vt_steps.proofs.next.words_of.Given as goal

abbrev pub invariant-loop-route : goal.invariant-loop-route
invariant-loop-route l = (words_in l.words.steps ≡ words_of (map route_of l.yielded))
    × (l.words.fails ≡ some_fails (map route_of l.yielded))
