-- A world does not keep to a number that is not in use.
use Rattle.std.proofs.Common.{◌≡◌, refl, ℕ, eqb-true, Bool, true, false, not, ◌&&◌, ◌==◌}
use Rattle.vt_laws_worlds.proofs.one_text.in_use.InUseServes.{any_worlds_keep_to_numbers_in_use}
use Rattle.vt_laws_worlds.specs.Permits.InUse.{is_in_use}
use Rattle.vt_laws_worlds.proofs.permits.in_use.InUseServes.{used_before}
use Rattle.vt_laws_trees.specs.Runs.Handed.{is_counted_before, is_named_before}
use Rattle.vt_laws_worlds.specs.OverlaysStay.InUse.{AnyWorldsKeepToNamedBefore}

pub any_worlds_keep_to_named_before : AnyWorldsKeepToNamedBefore
any_worlds_keep_to_named_before next inode world whole keeps out =
    any_worlds_keep_to_numbers_in_use (is_named_before next inode) world whole (λ number used. by number used _ refl)
  where
    by : (number : ℕ) → is_in_use world number ≡ true → (same : Bool) → (number == inode) ≡ same
        → (is_counted_before next number && not (number == inode)) ≡ true
    by number used true e = cc (eqb-true number inode e)
    by number used false e = (λ i. used_before next world keeps number used i && not (e i))
