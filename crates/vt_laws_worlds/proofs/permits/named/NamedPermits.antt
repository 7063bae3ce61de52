-- Permits with other numbers.
use Rattle.std.proofs.Common.{arith, ◌≡◌, true≢false, ℕ, Bool, true, Option, option_map}
use Rattle.vt_spec.proofs.Common.{Change, Location, Permit, and_parts, common_steps, renamed_location}
use Rattle.vt_laws_rules.specs.Numbers.{location_named, none_or}
use Rattle.vt_laws_rules.proofs.numbers.Commuting.{Named, node_itself, option_itself, change_itself}
use Rattle.vt_laws_rules.proofs.numbers.Renamings.{overlay_itself}
use Rattle.vt_laws_rules.specs.Renaming.{Leaves, Renaming, renamed_change}
use Rattle.vt_laws_worlds.specs.Permits.Named.{change_named, permit_named, renamed_permit}
use Rattle.vt_laws_rules.proofs.numbers.NamedWorlds.{location_left, node_left, option_left}

-- With each number for itself nothing is renamed.
module _ {N : Type 0} where
  pub permit_itself : (permit : Permit N) → renamed_permit (λ n. n) (λ n. n) permit ≡ permit
  permit_itself permit = grind (arith, common_steps, change_itself, node_itself, option_itself, overlay_itself)

abbrev pub named_permit : Named Permit
named_permit = record {
  rename = λ A B there back permit. renamed_permit there back permit;
  itself = λ A permit. permit_itself permit;
}

module _ (named : ℕ → Bool) (renaming : Renaming ℕ ℕ) (leaves : Leaves renaming named) where
  abbrev there : ℕ → ℕ
  there = renaming.there

  abbrev back : ℕ → ℕ
  back = renaming.back

  places_left : (location : Option (Location ℕ)) → none_or (location_named named) location ≡ true
      → option_map (renamed_location there back) location ≡ location
  places_left = option_left (renamed_location there back) (location_named named) (location_left named renaming leaves)

  change_left : (change : Change ℕ) → change_named named change ≡ true → renamed_change there back change ≡ change
  change_left change e = grind (arith, common_steps, and_parts, node_left)

  pub permit_left : (permit : Permit ℕ) → permit_named named permit ≡ true → renamed_permit there back permit ≡ permit
  permit_left permit e =
      grind (arith, common_steps, location_left, and_parts, change_left, node_left, places_left, true≢false)
