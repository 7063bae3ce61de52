use Rattle.vt_line.specs.Versions.{version_of}
use Rattle.vt_line.proofs.CallLemmas.{path_every}
use Rattle.vt_line.proofs.calls.call.Goals as goal

pub returns-in-Path : goal.returns-in-Path
returns-in-Path c =
    path_every (version_of c.args.version) c.args.name c.in-Path.name c.args.words.now c.path_call.result c.in-Path.is
    c.path_call.ensures
