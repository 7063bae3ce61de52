use Rattle.std.proofs.Common.{◌++◌, ◌-◌, ◌≡◌, filter, map}
use Rattle.vt_verdict.specs.Compared.{differing, differs, line_of, lines_within}
use Rattle.vt_verdict.proofs.compare.differences.Given as goal

abbrev pub invariant-loop : goal.invariant-loop
invariant-loop l =
    map line_of l.found.items ++ filter differs (lines_within (l.end - l.counter) l.rest.wanted.now l.rest.given.now)
    ≡ differing l.fn.wanted l.fn.given
