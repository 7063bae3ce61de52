-- What a permit leaves is woven of plain filesystems and overlays.
use Rattle.std.proofs.Common.{ap, ◌∙◌}
use Rattle.vt_spec.proofs.Common.{is_overlay}
use Rattle.vt_laws_worlds.specs.Permits.Left.{left_by}
use Rattle.vt_laws_worlds.specs.OverlaysStay.Woven.{LeftWorldsAreWoven, are_rising}
use Rattle.vt_laws_worlds.proofs.overlays_stay.kept.NumbersRise.{numbers_rise_still}
use Rattle.vt_laws_worlds.proofs.overlays_stay.kept.OverlaysSwept.{mounted_overlays_stay}
use Rattle.vt_laws_worlds.proofs.overlays_stay.weaving.WovenLists.{rising_lists_are_woven, woven_lists_are_passing}

pub left_worlds_are_woven : LeftWorldsAreWoven
left_worlds_are_woven world fresh task permit plain overlays is none named given so parted rising rising_all greater =
    cc (
      rising_lists_are_woven is_overlay (left_by fresh world task permit).filesystems
          (numbers_rise_still world fresh task permit is given (ap are_rising so ∙ rising_all) greater).1,
      mounted_overlays_stay world fresh task permit is none named given,
      woven_lists_are_passing is_overlay plain overlays parted rising,
    )
