use Rattle.std.proofs.Common.{◌*◌, ◌+◌, ◌≤◌, ap, arith, le-ltb, leb-true, subst, ℕ}
use Rattle.std.proofs.Math.Nat.{min-eq_left}
use Rattle.vt_propagate.specs.Filling.{count_in}
use Rattle.vt_propagate.proofs.Counting.{room_everywhere, within_cap}
use Rattle.vt_propagate.proofs.filling.has_room_everywhere.Goals as goal

pub returns : goal.returns
returns c is world new place tree same size =
    let most = c.most_in_namespace-most.result in
    let fits = leb-true c.saturating_add.result 4096 is in
    let sum = c.saturating_add.ensures in
    let product = c.saturating_mul.ensures in
    let added = within_cap (most + c.saturating_mul.result) 18446744073709551615 4096 (omega (arith, sum, fits))
    (omega arith) in
    let times = within_cap (most * c.args.count) 18446744073709551615 4096 (omega (arith, product, added))
    (omega arith) in
    let whole = min-eq_left {n = most * c.args.count} {m = 18446744073709551615} (omega (arith, times)) in
    let sized = ap (λ n. most * n) size in
    room_everywhere world place new tree most
    (subst (λ mounts. (namespace : ℕ) → count_in mounts namespace ≤ most) same c.most_in_namespace-most.ensures)
    (le-ltb 4096 _ (omega (arith, product, whole, added, sized)))
