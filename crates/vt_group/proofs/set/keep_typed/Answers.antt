use Rattle.std.proofs.Common.{ap, is_some, rules, sym, ◌∙◌}
use Rattle.vt_spec.proofs.Common.{filter_same, list_any}
use Rattle.vt_location.specs.Numbers.{same_id}
use Rattle.vt_location.specs.declared.numbers.MountId.{MountId}
use Rattle.vt_deque.specs.SliceDeque.{items}
use Rattle.vt_group.specs.ByNumber.{value_at}
use Rattle.vt_group.specs.Sets.{elements}
use Rattle.vt_group.proofs.IndexLemmas.{any-kept}
use Rattle.vt_group.proofs.set.keep_typed.Goals as goal

pub returns-in-Many : goal.returns-in-Many
returns-in-Many c mount some was =
    any-kept (λ (id : MountId). id.count) (value_at c.args.types.now) mount.count (items c.in-Many.many)
    (items c.retain.new.self)
    (filter_same _ (λ (id : MountId). is_some (value_at c.args.types.now id.count)) _
    (λ x b f' k. search rules) _ _ c.retain.ensures) some
    (sym (ap (λ set. list_any (same_id mount) (elements set)) c.in-Many.is) ∙ was)
