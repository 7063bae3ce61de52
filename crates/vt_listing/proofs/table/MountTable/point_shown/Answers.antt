use Rattle.std.proofs.Common.{Some, ap, map, nat_eq, option_map, sym, ◌∙◌, ℕ, Option}
use Rattle.vt_location.specs.declared.locations.Location.{Location}
use Rattle.vt_location.specs.Locations.{location_of}
use Rattle.vt_spec.specs.Language.Answers as answers
use Rattle.vt_spec.specs.Machine.Listing as listing
use Rattle.vt_spec.specs.Machine.Mounts as meant
use Rattle.vt_listing.proofs.table.MountTable.point_shown.Goals as goal

pub returns-in_ok-mount_point_spot-in-Some : goal.returns-in_ok-mount_point_spot-in-Some
returns-in_ok-mount_point_spot-in-Some c = record {
  ok = λ world mounts shows are.
      let shown : meant.Location ℕ → ℕ × answers.Spot = λ place. (
        listing.number_among nat_eq (map (λ (other : meant.Mount ℕ). other.number) mounts) place.mount,
        listing.mount_point_spot nat_eq world place,
      ) in
      (λ i. Some (c.mount_place.ensures mounts are i, c.in_ok-mount_point_spot-in-Some.ensures.ok world shows i))
      ∙ ap (λ (point : Option Location). option_map shown (option_map location_of point)) (sym c.in-Some.is);
}
