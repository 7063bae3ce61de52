-- Which numbers a world keeps to, and which supplies serve it.
use Rattle.std.proofs.Common.{arith, ◌≡◌, refl, ℕ, ◌==◌, true, false, not, ◌&&◌, List, [], ◌∷◌, eqb-true}
use Rattle.vt_spec.proofs.Common.{World, common_steps, list_any, or_parts}
use Rattle.vt_laws_worlds.proofs.given.handed.Places.{numbers_at_places_serve}
use Rattle.vt_laws_worlds.specs.Given.NumbersHanded.{Placed}
use Rattle.vt_laws_worlds.proofs.one_text.in_use.InUseNamed.{any_worlds_have_numbers_in_use}
use Rattle.vt_laws_worlds.specs.OneText.InUse.{AnyWorldsKeepToNumbersInUse, UnusedNumbersServe}
use Rattle.vt_laws_worlds.specs.Permits.InUse.{is_in_use}
use Rattle.vt_laws_rules.proofs.numbers.NamedWorlds.{named_is_kept}

pub any_worlds_keep_to_numbers_in_use : AnyWorldsKeepToNumbersInUse
any_worlds_keep_to_numbers_in_use named world whole among renaming leaves =
    named_is_kept (is_in_use world) world (any_worlds_have_numbers_in_use world whole) renaming
    (λ number used. leaves number (among number used))

-- what is in use is none of some numbers that are not
none_of : (world : World ℕ) (all : List Placed) → list_any (λ (placed : Placed). is_in_use world placed.1) all ≡ false
    → (number : ℕ) → is_in_use world number ≡ true → list_any (λ (placed : Placed). number == placed.1) all ≡ false
none_of world [] unused number used = refl
none_of world (placed ∷ rest) unused number used =
    let parts = or_parts (is_in_use world placed.1) (list_any (λ (other : Placed). is_in_use world other.1) rest) unused
    in grind (arith, common_steps, none_of world rest parts.1 number used, parts.0, eqb-true, used)

pub unused_numbers_serve : UnusedNumbersServe
unused_numbers_serve next all world whole counted apart unused = numbers_at_places_serve next all apart world
    (any_worlds_keep_to_numbers_in_use _ world whole
    (λ number used. λ i. counted number used i && not (none_of world all unused number used i)))
