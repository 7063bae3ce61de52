-- Mounts that get other mount points one after the other, and all at once.
use Rattle.std.proofs.Common.{◌≡◌, refl, ap, ◌∙◌, ℕ, nat_eq, Bool, true, false, cond, List, [], ◌∷◌, map, Some, arith}
use Rattle.vt_spec.proofs.Common.{Mount, common_steps, lookup, map_alike, map_twice, or_else}
use Rattle.vt_location.specs.declared.locations.Location.{Location}
use Rattle.vt_mounting.proofs.Common.{MountEntry, changed, counted, location_of, mounts_in}
use Rattle.vt_spec.specs.Machine.Mounts as meant
use Rattle.vt_mounting.specs.Attach.Planned.{placed_entry, with_points}
use Rattle.vt_mounting.specs.Attach.PlannedUses.{PointsAreMoved, point_seen}
use Rattle.vt_mounting.proofs.detach.LookLemmas.{nat_eq_turned}

abbrev at_point : List (ℕ × meant.Location ℕ) → Mount ℕ → Mount ℕ
at_point points mount = record mount { mount_point = or_else (lookup (nat_eq mount.number) points) mount.mount_point }

abbrev placed_if : ℕ → Location → Mount ℕ → Mount ℕ
placed_if number place mount = cond (nat_eq number mount.number)
    (record mount { mount_point = Some (location_of place) }) mount

one_placed : (number : ℕ) (place : Location) (entries : List MountEntry)
    → mounts_in (changed number (placed_entry place) entries) ≡ map (placed_if number place) (mounts_in entries)
one_placed number place [] = refl
one_placed number place (entry ∷ rest) = grind (arith, common_steps, one_placed number place rest)

none_moved : (mounts : List (Mount ℕ)) → mounts ≡ map (at_point []) mounts
none_moved [] = refl
none_moved (mount ∷ rest) = ap (λ list. mount ∷ list) (none_moved rest)

-- of two for one mount the first one counts
pub points_are_moved : PointsAreMoved
points_are_moved entries [] = none_moved (mounts_in entries)
points_are_moved entries (point ∷ rest) = one_placed (counted point.mount.count) point.place (with_points rest entries)
    ∙ ap (map (placed_if (counted point.mount.count) point.place)) (points_are_moved entries rest)
    ∙ map_twice (placed_if (counted point.mount.count) point.place) (at_point (map point_seen rest)) (mounts_in entries)
    ∙ map_alike (λ mount. placed_if (counted point.mount.count) point.place (at_point (map point_seen rest) mount))
    (at_point (map point_seen (point ∷ rest))) (mounts_in entries) (λ mount m.
    by mount (nat_eq (counted point.mount.count) mount.number) ∙ ap (λ b. record mount {
      mount_point = or_else (cond b (Some (location_of point.place))
          (lookup (nat_eq mount.number) (map point_seen rest))) mount.mount_point;
    }) (nat_eq_turned (counted point.mount.count) mount.number))
  where
    by : (mount : Mount ℕ) (b : Bool)
        → cond b (record mount { mount_point = Some (location_of point.place) }) (at_point (map point_seen rest) mount)
        ≡ record mount {
          mount_point = or_else (cond b (Some (location_of point.place))
              (lookup (nat_eq mount.number) (map point_seen rest))) mount.mount_point;
        }
    by mount true = refl
    by mount false = refl
