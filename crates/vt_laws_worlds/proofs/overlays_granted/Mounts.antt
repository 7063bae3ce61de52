-- The mount of an overlay that is granted.
use Rattle.std.proofs.Common.{Some, nat_eq, refl, ℕ, ◌≡◌}
use Rattle.vt_spec.proofs.Common.{Call, Fresh, IsWorld, Permit, Task, ToMountOverlay, World, looks_of, overfills, task_called, ⊤}
use Rattle.vt_laws_trees.proofs.layers.mounting.Walked.{all_plain, are_walked, fit_layers, has_layers, shown_plain}
use Rattle.vt_laws_worlds.specs.OverlaysGranted.Granted.{GivenOverlaysMayBeMounted, MayBeMounted}
use Rattle.vt_laws_rules.proofs.given.Ways.{calls_are_granted}
use Rattle.vt_laws_rules.proofs.given.Ways.{IsGranted}
use Rattle.vt_laws_rules.proofs.given.Ways.IsGranted.{mounts_overlayfs}
use Rattle.vt_laws_trees.proofs.trees.TreesWalked.{at_end}
use Rattle.vt_laws_worlds.proofs.worlds.FitPermits.{destination}
use Rattle.vt_laws_worlds.proofs.worlds.ReachedPlaces.{IsTopmost, destination_walk_end}
use Rattle.vt_spec.proofs.Tables.{destination_walk}

module _ (world : World ℕ) (fresh : Fresh ℕ) (task : Task ℕ) (is : IsWorld nat_eq world)
    (called : task_called world task.name ≡ Some task) where
  abbrev Said : Permit ℕ → Type 0
  Said (ToMountOverlay place overlay flags) = MayBeMounted world fresh task place overlay flags
  Said permit = ⊤

  granted_said : (call : Call) (permit : Permit ℕ)
      → IsGranted nat_eq (looks_of nat_eq world) (overfills nat_eq fresh world task) task call permit → Said permit
  granted_said call permit (mounts_overlayfs path words flags here places admin end walked passed free) =
      let reached = are_walked world task words places walked in
      let top = at_end (IsTopmost world is task called) (destination_walk nat_eq world task path) here
      (destination_walk_end world is task called path) end in
      record {
        layers = (has_layers world task places reached passed, shown_plain world task places reached passed);
        fit = fit_layers world task places reached passed;
        plain = all_plain world task places reached passed;
        mounter = refl;
        real = refl;
        destination = destination world is task called here top free.0;
        few_mounts = free.1.0;
      }
  granted_said call permit way = tt

pub given_overlays_may_be_mounted : GivenOverlaysMayBeMounted
given_overlays_may_be_mounted world fresh task place overlay flags is given =
    granted_said world fresh task is given.called given.call (ToMountOverlay place overlay flags)
    (calls_are_granted nat_eq (looks_of nat_eq world) (overfills nat_eq fresh world task) task given.call
    (ToMountOverlay place overlay flags) given.judged)
