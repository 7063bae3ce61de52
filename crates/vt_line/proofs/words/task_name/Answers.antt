use Rattle.std.proofs.Common.{◌≡◌, codes, rules, true, bytes_eq}
use Rattle.vt_line.proofs.WordLemmas.{first_task}
use Rattle.vt_line.proofs.words.task_name.Goals as goal

pub returns-then-eq : goal.returns-then-eq
returns-then-eq c =
    let same : bytes_eq c.args.text.now (codes "t") ≡ true = search rules in
    let task = first_task c.args.text.now same in
    search (rules, task)
