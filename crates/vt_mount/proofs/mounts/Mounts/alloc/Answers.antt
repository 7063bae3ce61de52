use Rattle.std.proofs.Common.{ap, sym, ◌%◌, ◌==◌, ◌∙◌}
use Rattle.vt_spec.proofs.Common.{list_all}
use Rattle.vt_mount.specs.MountsValue.{are_ascending, mounts_in}
use Rattle.vt_mount.specs.Sources.{has_counted_source}
use Rattle.vt_mount.proofs.MoveLemmas.{ascending-kept, counted-kept}
use Rattle.vt_mount.proofs.SourceLemmas.{sources-kept}
use Rattle.vt_mount.proofs.mounts.Mounts.alloc.Goals as goal

pub returns-clause-order : goal.returns-clause-order
returns-clause-order c = ap (λ now. are_ascending (mounts_in now)) (sym c.self.view_is)
    ∙ ascending-kept c.self.inside.by_number.entries

pub returns-clause-counted : goal.returns-clause-counted
returns-clause-counted c = ap (λ now. list_all (λ mount. mount.number % 4 == 1) (mounts_in now)) (sym c.self.view_is)
    ∙ counted-kept c.self.inside.by_number.entries

pub returns-clause-sources : goal.returns-clause-sources
returns-clause-sources c = ap (λ now. list_all has_counted_source (mounts_in now)) (sym c.self.view_is)
    ∙ sources-kept c.self.inside.by_number.entries
