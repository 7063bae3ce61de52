use Rattle.std.proofs.Common.{◌≡◌, ap, false, is_some, sym, true, ◌∙◌}
use Rattle.vt_spec.proofs.Common.{lookup, nat_eq-swapped}
use Rattle.vt_location.specs.Numbers.{same_id}
use Rattle.vt_group.specs.declared.index.Index.{Index}
use Rattle.vt_group.specs.Indexed.{is_relative}
use Rattle.vt_group.specs.Sets.{has, same_group}
use Rattle.vt_group.proofs.index.Inheriting.{handed_group, handed_kind, named_by}
use Rattle.vt_group.proofs.SetsLemmas.{same_number}
use Rattle.vt_group.proofs.index.Index.pass_on.Goals as goal

pub returns-then-eq-clause-mounts : goal.returns-then-eq-clause-mounts
returns-then-eq-clause-mounts c mount was kind lower apart handed listed =
    let old : Index = c.args.self.now in
    let lost = c.args.lost in
    let heir = c.args.heir in
    handed_kind lost heir old old mount (λ group apart under. under)
    (λ under. ap (is_relative old mount) (sym (same_number heir lost (sym c.eq.ensures ∙ c.if-eq.true))) ∙ under)
    was kind apart handed listed

pub returns-clause-mounts : goal.returns-clause-mounts
returns-clause-mounts c mount was kind lower apart handed listed =
    let old : Index = c.args.self.now in
    let new : Index = record old { names = c.inherit.new.self } in
    let lost = c.args.lost in
    let heir = c.args.heir in
    let differ = nat_eq-swapped heir.count lost.count false (sym c.eq.ensures ∙ c.if-eq.false) in
    let named : is_some (lookup (same_group heir) old.names) ≡ true =
    named_by old.names heir (λ name. has same_group name lost old.lowers) lower in
    handed_kind lost heir old new mount
    (λ group. c.inherit.ensures.kept group (λ name. has same_id name mount old.mounts))
    (c.inherit.ensures.own differ named (λ name. has same_id name mount old.mounts)) was kind apart handed listed

pub returns-clause-lowers : goal.returns-clause-lowers
returns-clause-lowers c lower was upper is_lower handed under =
    let old : Index = c.args.self.now in
    let new : Index = record old { names = c.inherit.new.self } in
    let lost = c.args.lost in
    let heir = c.args.heir in
    let differ = nat_eq-swapped heir.count lost.count false (sym c.eq.ensures ∙ c.if-eq.false) in
    let named : is_some (lookup (same_group heir) old.names) ≡ true =
    named_by old.names heir (λ name. has same_group name lost old.lowers) is_lower in
    handed_group lost heir old new lower
    (λ group. c.inherit.ensures.kept group (λ name. has same_group name lower old.lowers))
    (c.inherit.ensures.own differ named (λ name. has same_group name lower old.lowers)) was upper handed under
