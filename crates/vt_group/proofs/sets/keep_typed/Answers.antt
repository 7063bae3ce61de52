use Rattle.std.proofs.Common.{ap, cond, is_some, option_map, sym, unwrap_or, ◌∙◌, None, Some, []}
use Rattle.vt_spec.proofs.Common.{list_any, option_copied_mut}
use Rattle.vt_location.specs.Numbers.{same_id}
use Rattle.vt_location.specs.declared.numbers.MountId.{MountId}
use Rattle.vt_group.specs.declared.sets.Sets.{Sets}
use Rattle.vt_group.specs.Sets.{elements, same_group}
use Rattle.vt_group.proofs.SetsLemmas.{dropped-empty, has-onto, kept-written}
use Rattle.vt_group.proofs.sets.keep_typed.Goals as goal

pub returns-else-is_empty : goal.returns-else-is_empty
returns-else-is_empty c at mount some there =
    let found = sym c.get_mut.ensures.value ∙ ap option_copied_mut c.in-Some.is in
    let new : Sets MountId = record { sets = c.get_mut.follows.lender c.keep_typed.new.set } in
    has-onto same_id c.args.sets.now new c.args.group (elements c.in-Some.set.now) (elements c.keep_typed.new.set)
    (kept-written same_id c.args.sets.now new c.args.group (Some c.keep_typed.new.set)
    ((c.get_mut.follows.holds c.keep_typed.new.set).3 (ap is_some found)).0)
    (ap (λ o. unwrap_or (option_map elements o) []) found) mount (c.keep_typed.ensures mount some) at there

pub returns-then-is_empty : goal.returns-then-is_empty
returns-then-is_empty c at mount some there =
    let found = sym c.get_mut.ensures.value ∙ ap option_copied_mut c.in-Some.is in
    let new : Sets MountId = record { sets = c.swap_remove.new.self } in
    has-onto same_id c.args.sets.now new c.args.group (elements c.in-Some.set.now) []
    (kept-written same_id c.args.sets.now new c.args.group None (λ id. c.swap_remove.ensures.updates.0 id
    ∙ ap (cond (same_group c.args.group id) None) (((c.get_mut.follows.holds c.keep_typed.new.set).3 (ap is_some found)).0 id)
    ∙ dropped-empty (same_group c.args.group id) _ _)) (ap (λ o. unwrap_or (option_map elements o) []) found) mount
    (λ was. sym (ap (list_any (same_id mount)) (c.is_empty.ensures c.if-is_empty.true)) ∙ c.keep_typed.ensures mount some was)
    at there
