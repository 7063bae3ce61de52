-- Nodes that code takes for one are one.
use Rattle.std.proofs.Common.{eqb-true, nat_eq, refl, sym, true, true≢false, ◌≡◌}
use Rattle.vt_spec.proofs.Common.{and_true_left, and_true_right}
use Rattle.vt_location.specs.declared.births.Birth.{Birth}
use Rattle.vt_location.specs.declared.births.Birth.TheVariants.{Below, Here}
use Rattle.vt_location.specs.declared.locations.NodeRef.{NodeRef}
use Rattle.vt_location.specs.SameNodes.{same_birth, same_node}

one_birth : (a b : Birth) → same_birth a b ≡ true → a ≡ b
one_birth Here Here e = refl
one_birth Here (Below layer directory rank) e = absurd (true≢false (sym e))
one_birth (Below layer directory rank) Here e = absurd (true≢false (sym e))
one_birth (Below l d r) (Below m f s) e =
    let rest = and_true_right (nat_eq l m) _ e in
    let layer = eqb-true l m (and_true_left _ _ e) in
    let directory = eqb-true d f (and_true_left _ _ rest) in
    let rank = eqb-true r s (and_true_right (nat_eq d f) _ rest) in
    (λ i. Below (layer i) (directory i) (rank i))

pub one_node : (a b : NodeRef) → same_node a b ≡ true → a ≡ b
one_node a b e =
    let rest = and_true_right (nat_eq a.filesystem.count b.filesystem.count) _ e in
    let count = eqb-true a.filesystem.count b.filesystem.count (and_true_left _ _ e) in
    let slot = eqb-true a.slot b.slot (and_true_left _ _ rest) in
    let birth = one_birth a.birth b.birth (and_true_right (nat_eq a.slot b.slot) _ rest) in
    (λ i. record { filesystem = record { count = count i }; slot = slot i; birth = birth i })
