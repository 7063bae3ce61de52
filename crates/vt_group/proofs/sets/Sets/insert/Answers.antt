use Rattle.std.proofs.Common.{ap, cond, is_some, option_map, sym, unwrap_or, ◌∙◌, ◌∷◌, Some, []}
use Rattle.vt_spec.proofs.Common.{false≢true, lookup, option_copied_mut}
use Rattle.vt_group.specs.declared.set.Set.{Set}
use Rattle.vt_group.specs.declared.sets.Sets.{Sets}
use Rattle.vt_group.specs.Sets.{elements, same_group}
use Rattle.vt_group.proofs.SetsLemmas.{has-onto, kept-written}
use Rattle.vt_group.proofs.sets.Sets.insert.Goals as goal

pub returns-in-Some-clause-kept : goal.returns-in-Some-clause-kept
returns-in-Some-clause-kept g c at other there =
    let found = sym c.get_mut.ensures.value ∙ ap option_copied_mut c.in-Some.is in
    let new : Sets g.row.T.Denot = record { sets = c.get_mut.follows.lender c.insert.new.self } in
    has-onto g.T.PartialEq.eq c.args.self.now new c.args.group (elements c.in-Some.set.now) (elements c.insert.new.self)
    (kept-written g.T.PartialEq.eq c.args.self.now new c.args.group (Some c.insert.new.self)
    ((c.get_mut.follows.holds c.insert.new.self).3 (ap is_some found)).0)
    (ap (λ o. unwrap_or (option_map elements o) []) found) other (c.insert.ensures.kept other) at there

pub returns-in_ok-insert-in-None-clause-kept : goal.returns-in_ok-insert-in-None-clause-kept
returns-in_ok-insert-in-None-clause-kept g c at other there =
    let none = sym c.get_mut.ensures.value ∙ ap option_copied_mut c.in-None.is in
    let new : Sets g.row.T.Denot = record { sets = c.insert-in-None.new.self } in
    let one : Set g.row.T.Denot = Set.One (Some c.args.one) in
    has-onto g.T.PartialEq.eq c.args.self.now new c.args.group [] (c.args.one ∷ [])
    (kept-written g.T.PartialEq.eq c.args.self.now new c.args.group (Some one)
    (λ at. c.in_ok-insert-in-None.ensures.updates.0 at
    ∙ ap (λ sets. cond (same_group c.args.group at) (Some one) (lookup (same_group at) sets.entries))
    c.get_mut.follows.holds-at-none))
    (ap (λ o. unwrap_or (option_map elements o) []) none) other (λ nothing. absurd (false≢true nothing)) at there
