use Rattle.std.proofs.Common.{rules, nat_eq, ◌∙◌}
use Rattle.vt_spec.proofs.Common.{YieldsList-from_slice, position_from_yields_List}
use Rattle.std.proofs.lemmas.Iterator.Adapters.{position_from-zero}
use Rattle.vt_location.specs.declared.mounts.Mount.{Mount}
use Rattle.vt_location.specs.MountValue.{mount_of}
use Rattle.vt_location.specs.Numbers.{counted}
use Rattle.vt_propagate.proofs.Indexing.{turned_count}
use Rattle.vt_propagate.proofs.Places.{place_at}
use Rattle.vt_propagate.proofs.numbering.place_in.Goals as goal

pub returns-in-None : goal.returns-in-None
returns-in-None c =
    position_from_yields_List (λ (mount : Mount). nat_eq mount.number.count c.args.id.count) _ _ _ c.position.ensures.ran
    (YieldsList-from_slice c.args.mounts.now cc) (λ x b q k. search rules)
    ∙ position_from-zero (λ (mount : Mount). nat_eq mount.number.count c.args.id.count) c.args.mounts.now
    ∙ place_at mount_of _ (λ mount. nat_eq (counted c.args.id.count) mount.number)
    (λ (mount : Mount). turned_count mount.number.count c.args.id.count) 0 c.args.mounts.now
