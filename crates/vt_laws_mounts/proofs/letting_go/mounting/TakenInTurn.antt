-- Mounts are taken away one after the other: a sweep after each, or one sweep at the end.
use Rattle.std.proofs.Common.{◌≡◌, refl, ap, subst, sym, ◌∙◌, nat_eq, ℕ, List, [], ◌∷◌}
use Rattle.vt_spec.proofs.Common.{MountInvariants, World, filesystems-taken_away, folded, settled, taken_away}
use Rattle.vt_laws_mounts.specs.LettingGo.InUse.{HasTrees, UppersArePlain}
use Rattle.vt_laws_mounts.specs.LettingGo.Leaving.{MountsStand, with_sweeps}
use Rattle.vt_laws_mounts.specs.LettingGo.Overlays.{RealsAreThere}
use Rattle.vt_laws_mounts.specs.LettingGo.Several.{KeepsMounts, OneSweepForAllMounts, OneSweepForAllMountsWithOverlays, OneSweepForMounts, OneSweepForMountsWithOverlays}
use Rattle.vt_laws_mounts.proofs.letting_go.leaving.LeftOneByOne.{plain_reals, plain_uppers}
use Rattle.vt_laws_mounts.proofs.letting_go.leaving.PlacesLeft.{comes_nowhere_itself}
use Rattle.vt_laws_mounts.proofs.letting_go.mounting.MountingTaken.{same_namespaces, hands_on, without}
use Rattle.vt_laws_mounts.proofs.letting_go.mounting.TakenBetween.{one_sweep_between}
use Rattle.vt_laws_mounts.proofs.letting_go.mounting.MountsSwept.{mounts_stand}

pub one_sweep_for_mounts_with_overlays : OneSweepForMountsWithOverlays
one_sweep_for_mounts_with_overlays world gone trees uppers reals kept afterwards =
    ap (settled nat_eq) (sym (itself (settled nat_eq world)))
    ∙ one_sweep_between world world.tasks world.namespaces gone kept (comes_nowhere_itself world) trees uppers reals
    (subst MountsStand (sym (itself world)) afterwards) ∙ ap (settled nat_eq) (itself world)
  where
    itself : (now : World ℕ) → record (taken_away nat_eq now gone) { namespaces = now.namespaces }
        ≡ taken_away nat_eq now gone
    itself now = same_namespaces (without now gone now.namespaces) (hands_on now gone)

pub one_sweep_for_mounts : OneSweepForMounts
one_sweep_for_mounts world gone plain trees kept afterwards =
    one_sweep_for_mounts_with_overlays world gone trees (plain_uppers world plain) (plain_reals world plain) kept
    afterwards

-- what holds on the way holds at its start
keeps_first : {A : Type 0} (change : World ℕ → A → World ℕ) (world : World ℕ) (list : List A)
    → KeepsMounts change world list → MountInvariants nat_eq world
keeps_first change world [] kept = kept
keeps_first change world (a ∷ rest) kept = kept.0

-- Changes that leave the filesystems, one after the other: what holds of two holds of any number.
module _ {A : Type 0} (change : World ℕ → A → World ℕ)
    (leaves : (world : World ℕ) (a : A) → (change world a).filesystems ≡ world.filesystems)
    (for_two : (world : World ℕ) (a : A) → HasTrees world → UppersArePlain world → RealsAreThere world
    → MountInvariants nat_eq world → MountInvariants nat_eq (change world a)
    → settled nat_eq (change (settled nat_eq world) a) ≡ settled nat_eq (change world a)) where
  pub one_sweep_in_turn : (world : World ℕ) (list : List A) → HasTrees world → UppersArePlain world
      → RealsAreThere world → KeepsMounts change world list
      → with_sweeps change (settled nat_eq world) list ≡ settled nat_eq (folded change world list)
  one_sweep_in_turn world [] trees uppers reals kept = refl
  one_sweep_in_turn world (a ∷ rest) trees uppers reals kept = ap (λ now. with_sweeps change now rest)
      (for_two world a trees uppers reals kept.0 (keeps_first change _ rest kept.1))
      ∙ one_sweep_in_turn (change world a) rest (subst (λ fs. HasTrees (record world { filesystems = fs })) same trees)
      (subst (λ fs. UppersArePlain (record world { filesystems = fs })) same uppers)
      (subst (λ fs. RealsAreThere (record world { filesystems = fs })) same reals) kept.1
    where
      same : world.filesystems ≡ (change world a).filesystems
      same = sym (leaves world a)

pub one_sweep_for_all_mounts_with_overlays : OneSweepForAllMountsWithOverlays
one_sweep_for_all_mounts_with_overlays world parts trees uppers reals kept =
    one_sweep_in_turn (taken_away nat_eq) filesystems-taken_away (λ now gone t u r before after.
    one_sweep_for_mounts_with_overlays now gone t u r before (mounts_stand _ after)) world parts trees uppers reals kept

pub one_sweep_for_all_mounts : OneSweepForAllMounts
one_sweep_for_all_mounts world parts plain trees kept =
    one_sweep_for_all_mounts_with_overlays world parts trees (plain_uppers world plain) (plain_reals world plain) kept
