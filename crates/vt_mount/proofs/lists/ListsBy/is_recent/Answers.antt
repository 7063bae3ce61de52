use Rattle.std.proofs.Common.{ap, slice_get, sym, ◌∙◌}
use Rattle.vt_mount.proofs.ListedLemmas.{place-own}
use Rattle.vt_mount.proofs.lists.ListsBy.is_recent.Goals as goal

pub returns-in-Some : goal.returns-in-Some
returns-in-Some g c is = place-own g.met.K.Eq.laws c.args.key.now c.args.self.now.lists.entries c.args.self.now.recent _
    c.as_slice.ensures.unique
    (c.in-Some.ensures.entry ∙ ap (λ es. slice_get es c.args.self.now.recent) c.as_slice.ensures.entries)
    (sym c.eq.ensures ∙ is)
