-- A given permit leaves the lower layers of overlays.
use Rattle.std.proofs.Common.{◌≡◌, refl, ap, subst, ◌∙◌, ℕ, nat_eq, true, Option, Some, None, is_some}
use Rattle.vt_spec.proofs.Common.{Fresh, IsWorld, Overlay, Permit, Task, World, apply, call_outcome, filesystem_numbered, is_overlay, settled}
use Rattle.vt_laws_rules.proofs.judged.CallsJudged.{call_is_judged_then_applied}
use Rattle.vt_laws_worlds.proofs.given.left.Permits.{given_permits_leave_every_world}
use Rattle.vt_laws_worlds.proofs.overlay_permits.worlds.EveryCall.{overlays_kept, under}
use Rattle.vt_laws_worlds.proofs.overlay_permits.worlds.LowersAfterCalls.{call_stays, lowers_stay}
use Rattle.vt_laws_worlds.proofs.overlay_permits.worlds.LowersGoOn.{OverlayStays, stays_both, swept_stays}
use Rattle.vt_laws_worlds.specs.Permits.Left.{IsGiven, left_by}
use Rattle.vt_laws_worlds.specs.OverlaysStay.Left.{GivenPermitsLeaveLowers}
use Rattle.vt_laws_worlds.proofs.overlays_stay.left.Given.{given_to_task}

module _ {world : World ℕ} (fresh : Fresh ℕ) (task : Task ℕ) (permit : Permit ℕ) (number : ℕ)
    {overlay : Overlay ℕ} (is : IsWorld nat_eq world) (given : IsGiven fresh world task permit)
    (was : (filesystem_numbered nat_eq world number).overlay ≡ Some overlay) where
  abbrev left : World ℕ
  left = (call_outcome nat_eq fresh world task given.call).world

  applied : left ≡ (apply nat_eq fresh world task permit).world
  applied = cc (call_is_judged_then_applied fresh world task given.call, given.judged)

  first : OverlayStays world left number overlay
  first = call_stays world is number overlay was fresh given.serves task given.call permit given.called given.judged

  stays_by : (o : Option (Overlay ℕ)) → (filesystem_numbered nat_eq (settled nat_eq left) number).overlay ≡ o
      → is_some o ≡ true → OverlayStays world (settled nat_eq left) number overlay
  stays_by None e there = absurd cc
  stays_by (Some now) e there = stays_both world left (settled nat_eq left) number overlay first (swept_stays left
      (under given.call is given.serves given.called given.no_overlay given.few_groups given.judged)
      (overlays_kept given.call is given.serves given.called given.no_overlay given.few_groups
      given.judged) number now e first.after first.is)

  stays : (w : World ℕ) → left ≡ w → is_overlay (filesystem_numbered nat_eq (settled nat_eq w) number) ≡ true
      → OverlayStays world (settled nat_eq w) number overlay
  stays w same there = subst (λ v. OverlayStays world (settled nat_eq v) number overlay) same
      (stays_by (filesystem_numbered nat_eq (settled nat_eq left) number).overlay refl
      (ap (λ v. is_overlay (filesystem_numbered nat_eq (settled nat_eq v) number)) same ∙ there))

pub given_permits_leave_lowers : GivenPermitsLeaveLowers
given_permits_leave_lowers world fresh task permit number overlay is given was there =
    lowers_stay world is number overlay was (left_by fresh world task permit)
    (given_permits_leave_every_world world fresh task permit is (given_to_task fresh world task permit given))
    (stays fresh task permit number is given was (apply nat_eq fresh world task permit).world
    (applied fresh task permit number is given was) there)
