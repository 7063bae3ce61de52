use Rattle.std.proofs.Common.{Some, ap, filter, is_some, not, sym, ◌∙◌}
use Rattle.vt_spec.proofs.Common.{option_copied_mut}
use Rattle.vt_mount.proofs.ListedLemmas.{list_changed}
use Rattle.vt_mount.proofs.lists.ListsBy.take_out.Goals as goal

pub returns-in-Some-clause-taken : goal.returns-in-Some-clause-taken
returns-in-Some-clause-taken g c q =
    let found = sym c.get_mut.ensures.value ∙ ap option_copied_mut c.in-Some.is in
    list_changed g.met.K.Eq.laws c.args.self.now.lists.entries (c.get_mut.follows.lender c.remove.new.self).entries
    c.args.key.now c.in-Some.list.now found (Some c.remove.new.self)
    ((c.get_mut.follows.holds c.remove.new.self).3 (ap is_some found)).0
    (filter (λ other. not (g.T.PartialEq.eq other c.args.one))) c.remove.ensures.items q
