-- Places that are left one by one, each with a sweep, or all at once.
use Rattle.std.proofs.Common.{◌≡◌, refl, sym, ap, ◌∙◌, ℕ, nat_eq, true, false, cond, List, [], ◌∷◌, filter, None, All}
use Rattle.vt_spec.proofs.Common.{Mount, Task, World, and_parts, has_members, is_overlay, mount_lives, settled}
use Rattle.vt_laws_mounts.specs.LettingGo.InUse.{UppersArePlain, has_upper_in}
use Rattle.vt_laws_mounts.specs.LettingGo.Leaving.{MountsStand, OneSweepForAll, OneSweepForSeveral, comes_nowhere, each_comes_nowhere, with_sweeps, with_tasks}
use Rattle.vt_laws_mounts.specs.LettingGo.LeavingOverlays.{OneSweepForAllWithOverlays, OneSweepForSeveralWithOverlays}
use Rattle.vt_laws_mounts.specs.LettingGo.OneByOne.{IsPlain}
use Rattle.vt_laws_mounts.specs.LettingGo.Overlays.{RealsAreThere}
use Rattle.vt_laws_mounts.proofs.letting_go.Lists.{all_from_among, any_among, any_from_among, filter_twice, none_among, or_left}
use Rattle.vt_laws_mounts.proofs.letting_go.sweeps.Merged.{HasReals}
use Rattle.vt_laws_mounts.proofs.letting_go.leaving.PlacesLeft.{was_located}
use Rattle.vt_laws_mounts.proofs.letting_go.leaving.TreesWithOverlays.{no_real}
use Rattle.vt_laws_rules.proofs.numbers.Commuting.{map_itself}
use Rattle.vt_laws_mounts.proofs.letting_go.leaving.UsedBefore.{ChangesMounts, lived, located_was, mounted_was, was}
use Rattle.vt_laws_mounts.proofs.letting_go.SweptBetween.{SameUses, follows, one_sweep_after_both}

module _ (world : World ℕ) (tasks : List (Task ℕ)) (stand : MountsStand world)
    (nowhere_new : comes_nowhere world tasks ≡ true) where
  abbrev once : World ℕ
  once = with_tasks world tasks

  abbrev again : World ℕ
  again = with_tasks (settled nat_eq world) tasks

  abbrev first_mounts : List (Mount ℕ)
  first_mounts = filter (mount_lives nat_eq world) world.mounts

  abbrev last_mounts : List (Mount ℕ)
  last_mounts = filter (mount_lives nat_eq once) world.mounts

  no_changes : ChangesMounts world once (λ mount. mount)
  no_changes = record {
    mounts = sym (map_itself (λ mount. mount) (λ mount. refl) world.mounts);
    locations = was_located world tasks nowhere_new;
    one_number = stand.one_number;
    number = λ mount. refl;
    root = λ mount. refl;
    filesystem = λ mount. refl;
    shown = λ number. refl;
    attached = λ mount attached. or_left _ _ attached;
    placed = λ mount m place e. (mount, m, e);
    stand = record { one_number = stand.one_number; nowhere = stand.nowhere; on_attached = stand.on_attached };
  }

  same_mounts : filter (mount_lives nat_eq once) first_mounts ≡ last_mounts
  same_mounts = filter_twice _ _ _ (λ mount. follows _ _ (lived no_changes mount)) _

  same_master : (group : ℕ) → has_members nat_eq last_mounts group ≡ true → again.master group ≡ once.master group
  same_master group has =
      let t = any_among _ _ has in
      let old = was no_changes t.0 t.1 in
      let had : has_members nat_eq first_mounts group ≡ true = any_from_among _ _ old.0 old.1 (cc (t.2, old.2)) in
      ap (λ b. cond b (world.master group) None) had

  same_uses : SameUses world once again
  same_uses = record {
    mounts = same_mounts;
    master = same_master;
    mounted = mounted_was no_changes;
    located = located_was no_changes;
  }

pub one_sweep_with_overlays : OneSweepForSeveralWithOverlays
one_sweep_with_overlays world tasks trees uppers reals stand nowhere_new =
    one_sweep_after_both world world.mounts (settled nat_eq world).mounts world.master (settled nat_eq world).master
    world.namespaces tasks trees uppers reals (same_uses world tasks stand nowhere_new)

-- in a world of plain filesystems no layer is in an overlay, and nothing has a real object
pub plain_uppers : (world : World ℕ) → IsPlain world → UppersArePlain world
plain_uppers world plain = all_from_among (λ f. is_overlay f ≡ true
    → All (λ g. has_upper_in f.number g ≡ false) world.filesystems) world.filesystems
    (λ f m is. absurd (cc (none_among is_overlay world.filesystems plain f m)))

pub plain_reals : (world : World ℕ) → IsPlain world → RealsAreThere world
plain_reals world plain = all_from_among HasReals world.filesystems
    (λ f m number none. no_real f (none_among _ _ plain f m) number)

-- so it is in a world of plain filesystems
pub one_sweep_for_several : OneSweepForSeveral
one_sweep_for_several world tasks plain trees stand nowhere_new =
    one_sweep_with_overlays world tasks trees (plain_uppers world plain) (plain_reals world plain) stand nowhere_new

-- Any number of changes
pub one_sweep_for_all_with_overlays : OneSweepForAllWithOverlays
one_sweep_for_all_with_overlays world [] trees uppers reals stand nowhere_new = refl
one_sweep_for_all_with_overlays world (tasks ∷ rest) trees uppers reals stand nowhere_new =
    ap (λ now. with_sweeps with_tasks now rest) (one_sweep_with_overlays world tasks trees uppers reals stand parts.0)
    ∙ one_sweep_for_all_with_overlays (with_tasks world tasks) rest trees uppers reals
    (record { one_number = stand.one_number; nowhere = stand.nowhere; on_attached = stand.on_attached }) parts.1
  where
    parts : (comes_nowhere world tasks ≡ true) × (each_comes_nowhere (with_tasks world tasks) rest ≡ true)
    parts = and_parts (comes_nowhere world tasks) (each_comes_nowhere (with_tasks world tasks) rest) nowhere_new

pub one_sweep_for_all : OneSweepForAll
one_sweep_for_all world changes plain trees stand nowhere_new =
    one_sweep_for_all_with_overlays world changes trees (plain_uppers world plain) (plain_reals world plain) stand
    nowhere_new
