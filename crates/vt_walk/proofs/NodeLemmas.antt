-- Mounts of one count, and the text of a symlink by what is lent for it.
use Rattle.std.proofs.Common.{◌≡◌, ℕ, false, None, Some, nat_eq, not, refl, sym, ap, ◌∙◌, eqb-true, Option}
use Rattle.vt_spec.proofs.Common.{Location, Looks, Node, is_kind, not-false, same_Some, symlink_text, when}
use Rattle.vt_location.specs.declared.locations.Location.{Location as CodeLocation}
use Rattle.vt_location.specs.Locations.{location_of}
use Rattle.vt_walk.specs.WalkValue.{IsLent, IsNodeAt}
use Rattle.vt_location.specs.declared.numbers.MountId.{MountId}
use Rattle.vt_spec.specs.declared.attributes.Kind.TheVariants.{Symlink}
use Rattle.vt_location.specs.Fronts.{front, front_of}

-- mounts of one count are one
pub same-mount : (a b : MountId) → not (nat_eq a.count b.count) ≡ false → a ≡ b
same-mount a b is = ap (λ n. record { count = n }) (eqb-true a.count b.count (not-false (nat_eq a.count b.count) is))

-- where nothing is lent there is nothing to know of it
pub not-lent : (real : Location ℕ → Option (Node ℕ)) (at : CodeLocation) (lent : Option (Node ℕ)) → lent ≡ None
    → IsLent real at lent
not-lent real at None none = tt
not-lent real at (Some node) none = absurd cc

-- a symlink's text is a matter of what an inode and its real object have in common
symlink-alike : (one other : Option (Node ℕ)) → front one ≡ front other → symlink_text one ≡ symlink_text other
symlink-alike None None e = refl
symlink-alike None (Some other) e = absurd cc
symlink-alike (Some one) None e = absurd cc
symlink-alike (Some one) (Some other) e =
    ap (λ shown. when (is_kind Symlink shown.kind) shown.bytes) (same_Some (front_of one) (front_of other) e)

-- the text of the symlink at a location, by what is lent for it
pub text-there : (looks : Looks ℕ) (real : Location ℕ → Option (Node ℕ))
    → ((at : Location ℕ) → front (real at) ≡ front (looks.node at))
    → (at : CodeLocation) (object : Option (Node ℕ)) → IsNodeAt real at object → (here : CodeLocation) → here ≡ at
    → symlink_text object ≡ symlink_text (looks.node (location_of here))
text-there looks real alike at object there here same =
    ap symlink_text there ∙ symlink-alike (real (location_of at)) (looks.node (location_of at)) (alike (location_of at))
    ∙ ap (λ at. symlink_text (looks.node (location_of at))) (sym same)
