use Rattle.std.proofs.Common.{◌≡◌, ap, codes, is_some, rules, sym, true, bytes_eq}
use Rattle.vt_line.proofs.WordLemmas.{first_task}
use Rattle.vt_line.proofs.words.is_task.Goals as goal

pub returns-then-eq : goal.returns-then-eq
returns-then-eq c =
    let same : bytes_eq c.args.text.now (codes "t") ≡ true = search rules in
    ap is_some (sym (first_task c.args.text.now same))
