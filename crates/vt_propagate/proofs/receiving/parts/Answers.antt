use Rattle.std.proofs.Common.{◌≡◌, ◌∙◌, Some, ap, refl, sym, option_map}
use Rattle.vt_spec.proofs.Common.{IfOk-weaker}
use Rattle.vt_location.specs.Locations.{location_of}
use Rattle.vt_location.specs.MountValue.{mount_of}
use Rattle.vt_location.specs.Numbers.{counted}
use Rattle.vt_mount.specs.MountsValue.{mounts_in}
use Rattle.vt_propagate.proofs.Found.{counts, numbered}
use Rattle.vt_propagate.proofs.TakingPart.{parts-found}
use Rattle.vt_propagate.proofs.receiving.parts.Goals as goal

pub returns : goal.returns
returns g c =
    let parent = c.unwrap-parent.result in
    let found : Some (mount_of parent) ≡ numbered (mounts_in c.args.mounts.now) (counted c.args.place.mount.count) =
    sym (ap (option_map mount_of) c.unwrap-parent.ensures) ∙ c.get.ensures in
    record {
      ok = IfOk-weaker c.with_receivers.result _ _ (λ parts is world seen reaches. is
          ∙ parts-found seen (g.R.Reach.under c.args.directories.now) reaches c.alloc-alloc.ensures.order
          (location_of c.args.place) found c.deref.result.now (ap counts c.deref.ensures
          ∙ c.in_ok-receivers.ensures.ok world (mount_of parent) seen.groups seen.living refl))
          c.with_receivers.ensures;
    }
