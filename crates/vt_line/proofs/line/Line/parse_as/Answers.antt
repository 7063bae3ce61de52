use Rattle.std.proofs.Common.{rules}
use Rattle.vt_spec.proofs.Common.{request_of}
use Rattle.vt_spec.specs.Language.Script.{overlays}
use Rattle.vt_line.specs.Lines.{IsSpoken}
use Rattle.vt_line.specs.Versions.{version_of}
use Rattle.vt_line.proofs.RequestLemmas.{read-grammar, read-memory, read-reading, read-refused, read-silent}
use Rattle.vt_line.proofs.line.Line.parse_as.Goals as goal

pub returns : goal.returns
returns c =
    let text = c.args.line.now in
    let version = version_of c.args.version in
    let asked = request_of (overlays version) text in
    let read = c.request.result in
    let is = c.request.ensures in
    let spoken : IsSpoken text = search rules in
    record {
      silent = read-silent text asked read spoken.1 is;
      reading = read-reading version text read spoken is;
      refused = read-refused asked read is;
      no_request = read-grammar text asked read spoken is;
      no_memory = read-memory text asked read spoken is;
    }
