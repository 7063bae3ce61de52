-- What is lent for an inode grants what the inode grants.
use Rattle.std.proofs.Common.{◌≡◌, ℕ, None, Some, refl, ap, Option}
use Rattle.vt_spec.proofs.Common.{Credentials, Node, allows, node_allows, same_Some}
use Rattle.vt_location.specs.Fronts.{front, front_of}

pub allows-alike : (who : Credentials) (wanted : ℕ) (one other : Option (Node ℕ)) → front one ≡ front other
    → node_allows who wanted one ≡ node_allows who wanted other
allows-alike who wanted None None e = refl
allows-alike who wanted None (Some other) e = absurd cc
allows-alike who wanted (Some one) None e = absurd cc
allows-alike who wanted (Some one) (Some other) e =
    ap (λ shown. allows who shown.attr shown.kind wanted) (same_Some (front_of one) (front_of other) e)
