-- The numbers of the copies of a namespace's mounts, by the places of their originals.
use Rattle.std.proofs.Common.{◌≡◌, ap, ◌∙◌, ℕ, ◌+◌, ◌*◌, nat_eq, List, unwrap_or, arith}
use Rattle.vt_spec.proofs.Common.{Mount, index_of}
use Rattle.vt_location.specs.declared.numbers.MountId.{MountId}
use Rattle.vt_mounting.proofs.Common.{counted}
use Rattle.vt_mount.specs.Attached.{AreOf}
use Rattle.vt_mount.proofs.AttachedLemmas.{place_of, places_alike}
use Rattle.vt_mounting.specs.Attach.Copying.{copy_numbers}

pub numbered_so : (next : ℕ) (id : MountId) (originals : List MountId) {place : ℕ}
    → place ≡ unwrap_or (place_of id.count 0 originals) 0 → (all : List (Mount ℕ)) → AreOf originals all
    → counted (next + 2 * place + 1) ≡ copy_numbers next all (counted id.count)
numbered_so next id originals {place} is all are =
    let same : place ≡ index_of nat_eq all (counted id.count) = is
    ∙ ap (λ o. unwrap_or o 0) (places_alike id.count 0 originals all are) in
    omega (arith, same)
