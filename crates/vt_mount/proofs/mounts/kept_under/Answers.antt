use Rattle.std.proofs.Common.{sym, ◌∙◌}
use Rattle.vt_mount.proofs.EntryLemmas.{first-found}
use Rattle.vt_mount.proofs.mounts.kept_under.Goals as goal

pub returns-in-Some : goal.returns-in-Some
returns-in-Some c =
    first-found c.args.id c.in-Some.first.now c.in-Some.kept.now c.args.by_number.now.entries c.in-Some.ensures.entry
    (sym c.eq.ensures ∙ c.if-eq.true)
