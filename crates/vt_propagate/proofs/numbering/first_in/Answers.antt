use Rattle.std.proofs.Common.{nat_eq, refl, rules, ◌∙◌}
use Rattle.vt_spec.proofs.Common.{YieldsList-from_slice, is_member_of, position_from_yields_List}
use Rattle.std.proofs.lemmas.Iterator.Adapters.{position_from-zero}
use Rattle.vt_location.specs.declared.mounts.Mount.{Mount}
use Rattle.vt_location.specs.MountValue.{mount_of}
use Rattle.vt_location.specs.Numbers.{counted}
use Rattle.vt_propagate.proofs.Places.{place_at}
use Rattle.vt_propagate.proofs.numbering.first_in.Goals as goal

pub returns : goal.returns
returns c =
    position_from_yields_List (λ (mount : Mount). is_member_of nat_eq (counted c.args.group.count) (mount_of mount))
    _ _ _ c.position.ensures.ran (YieldsList-from_slice c.args.mounts.now cc) (λ x b q k. search rules)
    ∙ position_from-zero (λ (mount : Mount). is_member_of nat_eq (counted c.args.group.count) (mount_of mount))
    c.args.mounts.now
    ∙ place_at mount_of _ (is_member_of nat_eq (counted c.args.group.count)) (λ mount. refl) 0 c.args.mounts.now
