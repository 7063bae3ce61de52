use Rattle.std.proofs.Common.{ap, cond, is_some, option_map, sym, unwrap_or, ◌∙◌, None, Some, []}
use Rattle.vt_spec.proofs.Common.{list_any, option_copied_mut}
use Rattle.vt_group.specs.declared.sets.Sets.{Sets}
use Rattle.vt_group.specs.Sets.{elements, same_group}
use Rattle.vt_group.proofs.SetsLemmas.{dropped-empty, has-left, kept-written}
use Rattle.vt_group.proofs.sets.Sets.remove.Goals as goal

pub returns-then-not-remove : goal.returns-then-not-remove
returns-then-not-remove g c =
    let found = sym c.get_mut.ensures.value ∙ ap option_copied_mut c.in-Some.is in
    let new : Sets g.row.T.Denot = record { sets = c.get_mut.follows.lender c.remove.new.self } in
    has-left g.T.PartialEq.eq c.args.self.now new c.args.group
    (elements c.in-Some.set.now) (elements c.remove.new.self) c.args.one
    (kept-written g.T.PartialEq.eq c.args.self.now new c.args.group (Some c.remove.new.self)
    ((c.get_mut.follows.holds c.remove.new.self).3 (ap is_some found)).0)
    (ap (λ o. unwrap_or (option_map elements o) []) found) c.remove.ensures

pub returns : goal.returns
returns g c =
    let found = sym c.get_mut.ensures.value ∙ ap option_copied_mut c.in-Some.is in
    let new : Sets g.row.T.Denot = record { sets = c.get_mut.follows.lender c.remove.new.self } in
    has-left g.T.PartialEq.eq c.args.self.now new c.args.group
    (elements c.in-Some.set.now) (elements c.remove.new.self) c.args.one
    (kept-written g.T.PartialEq.eq c.args.self.now new c.args.group (Some c.remove.new.self)
    ((c.get_mut.follows.holds c.remove.new.self).3 (ap is_some found)).0)
    (ap (λ o. unwrap_or (option_map elements o) []) found) c.remove.ensures

pub returns-then-is_empty : goal.returns-then-is_empty
returns-then-is_empty g c =
    let found = sym c.get_mut.ensures.value ∙ ap option_copied_mut c.in-Some.is in
    let new : Sets g.row.T.Denot = record { sets = c.swap_remove.new.self } in
    has-left g.T.PartialEq.eq c.args.self.now new c.args.group (elements c.in-Some.set.now) [] c.args.one
    (kept-written g.T.PartialEq.eq c.args.self.now new c.args.group None (λ at. c.swap_remove.ensures.updates.0 at
    ∙ ap (cond (same_group c.args.group at) None) (((c.get_mut.follows.holds c.remove.new.self).3 (ap is_some found)).0 at)
    ∙ dropped-empty (same_group c.args.group at) _ _)) (ap (λ o. unwrap_or (option_map elements o) []) found)
    (λ other apart there. sym (ap (list_any (g.T.PartialEq.eq other)) (c.is_empty.ensures c.if-is_empty.true))
    ∙ c.remove.ensures other apart there)
