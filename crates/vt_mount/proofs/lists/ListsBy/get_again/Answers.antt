use Rattle.std.proofs.Common.{ap, sym, ◌∙◌}
use Rattle.vt_spec.proofs.Common.{lookup}
use Rattle.vt_mount.proofs.ListedLemmas.{list_under}
use Rattle.vt_mount.proofs.lists.ListsBy.get_again.Goals as goal

pub returns-in-Some : goal.returns-in-Some
returns-in-Some g c =
    let same = sym c.eq.ensures ∙ c.if-eq.true in
    c.as_slice.ensures.value ∙ ap list_under (sym c.in-Some.ensures.value
    ∙ (λ i. lookup (λ q. sym (g.met.K.Eq.laws.congr c.args.key.now c.in-Some.recent.now q same) i)
    c.args.self.now.lists.entries))
