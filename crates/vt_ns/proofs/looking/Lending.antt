-- What is lent for a location, and what the definitions see there.
use Rattle.std.proofs.Common.{◌≡◌, refl, ℕ, Option, None, Some, arith}
use Rattle.vt_spec.proofs.Common.{Credentials, Node, node_allows, common_steps}
use Rattle.vt_location.specs.Fronts.{front}
use Rattle.vt_ns.specs.Lent.{as_lent}

pub lent_as_it_is : (seen lent : Option (Node ℕ)) → front lent ≡ front seen → as_lent seen lent ≡ lent
lent_as_it_is seen lent e = grind (arith, common_steps)

-- what looks alike grants the same rights
pub allows_alike : (who : Credentials) (wanted : ℕ) (one other : Option (Node ℕ)) → front one ≡ front other
    → node_allows who wanted one ≡ node_allows who wanted other
allows_alike who wanted None None e = refl
allows_alike who wanted None (Some other) e = absurd cc
allows_alike who wanted (Some one) None e = absurd cc
allows_alike who wanted (Some one) (Some other) e = grind (arith, common_steps)
