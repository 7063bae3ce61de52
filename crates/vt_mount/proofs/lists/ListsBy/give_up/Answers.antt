use Rattle.std.proofs.Common.{Some, ap, is_some, sym, ◌∙◌}
use Rattle.vt_spec.proofs.Common.{option_copied_mut}
use Rattle.vt_mount.proofs.ListedLemmas.{list_kept}
use Rattle.vt_mount.proofs.lists.ListsBy.give_up.Goals as goal

pub returns-in-Some : goal.returns-in-Some
returns-in-Some g c q =
    let found = sym c.get_mut.ensures.value ∙ ap option_copied_mut c.in-Some.is in
    list_kept g.met.K.Eq.laws c.args.self.now.lists.entries (c.get_mut.follows.lender c.release.new.self).entries
    c.args.key.now c.in-Some.list.now found (Some c.release.new.self)
    ((c.get_mut.follows.holds c.release.new.self).3 (ap is_some found)).0 c.release.ensures q
