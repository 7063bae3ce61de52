use Rattle.std.proofs.Common.{◌≡◌, ◌+◌, ap, arith, ◌∙◌, nat_cmp}
use Rattle.vt_spec.proofs.Common.{list_any, lookup, remove_entry, then_some}
use Rattle.std.specs.BTreeMap.{is_at}
use Rattle.vt_group.specs.ByNumber.{value_at}
use Rattle.vt_group.specs.Indexed.{group_of_kind}
use Rattle.vt_group.specs.Types.{count_members, is_in_group}
use Rattle.vt_group.proofs.Counted.{counted_others, counted_removed, one_own}
use Rattle.vt_group.proofs.types.Types.has_others.Goals as goal

pub returns : goal.returns
returns c =
    let es = c.self.inside.kinds.entries in
    let own = one_own c.args.group (lookup (is_at (nat_cmp c.args.member.count)) es)
    (ap (λ kept. then_some (value_at kept.kinds c.args.member.count) group_of_kind) c.self.view_is ∙ c.requires) in
    let all : c.of.result ≡ count_members c.args.group (remove_entry (is_at (nat_cmp c.args.member.count)) es) + 1 =
    omega (arith, c.of.ensures, c.self.invariant.0 c.args.group, counted_removed c.args.group c.args.member.count es, own) in
    counted_others c.args.group c.of.result (remove_entry (is_at (nat_cmp c.args.member.count)) es) all
    ∙ ap (λ kept. list_any (is_in_group c.args.group) (remove_entry (is_at (nat_cmp c.args.member.count)) kept.kinds.entries))
    c.self.view_is
