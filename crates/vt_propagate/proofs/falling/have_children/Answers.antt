use Rattle.std.proofs.Common.{nat_eq, refl, rules, ◌∙◌}
use Rattle.vt_spec.proofs.Common.{YieldsList-from_slice, any_from_yields_List, list_any, stands_on}
use Rattle.vt_location.specs.declared.numbers.MountId.{MountId}
use Rattle.vt_location.specs.Numbers.{counted}
use Rattle.vt_mount.specs.MountsValue.{mounts_in}
use Rattle.vt_propagate.proofs.Indexing.{any-seen}
use Rattle.vt_propagate.proofs.falling.have_children.Goals as goal

pub returns : goal.returns
returns c =
    any_from_yields_List (λ (id : MountId). list_any (stands_on nat_eq (counted id.count)) (mounts_in c.args.mounts.now))
    _ _ _ c.any.ensures.ran (YieldsList-from_slice c.args.ids.now cc) (λ x b q k. search rules)
    ∙ any-seen (λ (id : MountId). counted id.count)
    (λ (id : MountId). list_any (stands_on nat_eq (counted id.count)) (mounts_in c.args.mounts.now))
    (λ number. list_any (stands_on nat_eq number) (mounts_in c.args.mounts.now)) (λ id. refl) c.args.ids.now
