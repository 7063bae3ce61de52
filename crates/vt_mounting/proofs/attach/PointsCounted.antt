-- Where mounts get other mount points, they count what they counted, and show what they showed.
use Rattle.std.proofs.Common.{sym, subst, ℕ, nat_eq, Bool, true, false, cond, List, [], ◌∷◌, if◌then◌else◌, All}
use Rattle.vt_spec.proofs.Common.{World}
use Rattle.vt_mounting.proofs.Common.{CountsItsUses, MountEntry, all_from_among, among-from_map, among_from_all, changed, counted}
use Rattle.vt_location.specs.declared.locations.Location.{Location}
use Rattle.vt_mounting.specs.Attach.Planned.{Point, placed_entry, with_points}

module _ (world : World ℕ) where
  one_counts : (number : ℕ) (place : Location) (entries : List MountEntry) → All (CountsItsUses world) entries
      → All (CountsItsUses world) (changed number (placed_entry place) entries)
  one_counts number place entries all =
      all_from_among (CountsItsUses world) (changed number (placed_entry place) entries) (λ entry m.
      let from = among-from_map (λ (one : MountEntry). if nat_eq number one.mount.number then placed_entry place one
      else one) entries entry m in
      subst (CountsItsUses world) (sym from.2)
      (by from.0 (nat_eq number from.0.mount.number) (among_from_all (CountsItsUses world) entries all from.0 from.1)))
    where
      by : (one : MountEntry) (b : Bool) → CountsItsUses world one
          → CountsItsUses world (cond b (placed_entry place one) one)
      by one true is = record { uses = is.uses; writers = is.writers }
      by one false is = is

  pub points_count : (points : List Point) (entries : List MountEntry) → All (CountsItsUses world) entries
      → All (CountsItsUses world) (with_points points entries)
  points_count [] entries all = all
  points_count (point ∷ rest) entries all =
      one_counts (counted point.mount.count) point.place (with_points rest entries) (points_count rest entries all)
