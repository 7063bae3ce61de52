use Rattle.std.proofs.Common.{ap, option_map, sym, ◌∙◌}
use Rattle.vt_line.specs.Versions.{version_of}
use Rattle.vt_line.proofs.CallLemmas.{pivot_asked, pivot_lacking, pivot_refused}
use Rattle.vt_line.proofs.calls.mounting.pivot_root.Goals as goal

pub returns-in-One : goal.returns-in-One
returns-in-One c = pivot_lacking (version_of c.args.version) c.args.words.now (ap version_of c.in-One.is)

pub returns-in_default : goal.returns-in_default
returns-in_default c =
    pivot_refused (version_of c.args.version) c.args.words.now (ap version_of c.in-Two.is)
    (sym c.path_pair.ensures ∙ ap (option_map (λ paths. (paths.0.now, paths.1.now))) c.in_default.is)

pub returns-in-Some : goal.returns-in-Some
returns-in-Some c =
    pivot_asked (version_of c.args.version) c.args.words.now c.in-Some.new.now c.in-Some.put.now
    (ap version_of c.in-Two.is)
    (sym c.path_pair.ensures ∙ ap (option_map (λ paths. (paths.0.now, paths.1.now))) c.in-Some.is)
