use Rattle.std.proofs.Common.{None, Some, [], ap, rules, ◌≡◌}
use Rattle.vt_spec.proofs.Common.{lookup}
use Rattle.vt_mount.specs.Rising.{inserted}
use Rattle.vt_mount.proofs.KeptLemmas.{on-err, on-ok}
use Rattle.vt_mount.proofs.ListedLemmas.{list_changed, list_kept, list_under, listed_changed}
use Rattle.vt_mount.proofs.lists.ListsBy.add.Goals as goal

pub returns-in-Occupied-clause-ok : goal.returns-in-Occupied-clause-ok
returns-in-Occupied-clause-ok g c = on-ok c.add.result c.add.ensures.ok (λ added.
    list_changed g.met.K.Eq.laws c.args.self.now.lists.entries _ c.args.key c.into_mut.result.now (search rules)
    (Some c.add.new.self) (λ q. search rules) (inserted g.T.Ordered.before c.args.one) added)

pub returns-in-Occupied-clause-err : goal.returns-in-Occupied-clause-err
returns-in-Occupied-clause-err g c = on-err c.add.result c.add.ensures.err (λ same.
    list_kept g.met.K.Eq.laws c.args.self.now.lists.entries _ c.args.key c.into_mut.result.now (search rules)
    (Some c.add.new.self) (λ q. search rules) same)

pub returns-in-Vacant-clause-ok : goal.returns-in-Vacant-clause-ok
returns-in-Vacant-clause-ok g c =
    let none : lookup (g.K.PartialEq.eq c.args.key) c.args.self.now.lists.entries ≡ None = search rules in
    listed_changed g.met.K.Eq.laws c.args.self.now.lists.entries _ c.args.key [] (ap list_under none)
    (Some c.of.result) (λ q. search rules) (inserted g.T.Ordered.before c.args.one) c.of.ensures
