use Rattle.std.proofs.Common.{None, Some, ap, option_map, sym, ◌∙◌, option_copied, unwrap_or}
use Rattle.vt_mount.proofs.EntryLemmas.{entry-found}
use Rattle.vt_mount.proofs.mounts.Mounts.writers.Goals as goal

pub returns-in-Some : goal.returns-in-Some
returns-in-Some c = ap (λ entry. unwrap_or (option_map (λ entry. entry.writers) entry) 0)
    (entry-found c.args.id c.self.inside.by_number.entries _ (Some c.in-Some.kept.now) c.self.view_is
    (sym c.kept_under.ensures ∙ ap option_copied c.in-Some.is))

pub returns-in-None : goal.returns-in-None
returns-in-None c = ap (λ entry. unwrap_or (option_map (λ entry. entry.writers) entry) 0)
    (entry-found c.args.id c.self.inside.by_number.entries _ None c.self.view_is
    (sym c.kept_under.ensures ∙ ap option_copied c.in-None.is))
