use Rattle.std.proofs.Common.{◌≡◌, ◌&&◌, ◌||◌, Bool, List, [], ◌∷◌, ap, cond, false, filter, map, nat_eq, not, refl, rules, sym, true, ◌∙◌, ℕ}
use Rattle.vt_spec.proofs.Common.{Mount, YieldsList-from_slice, any_from_yields_List, list_any}
use Rattle.vt_location.specs.declared.numbers.MountId.{MountId}
use Rattle.vt_location.specs.Locations.{is_small_node, number_of}
use Rattle.vt_location.specs.Numbers.{counted}
use Rattle.vt_mount.specs.Indexed.{numbers_where}
use Rattle.vt_mount.specs.Indexes.{is_over}
use Rattle.vt_mount.specs.Listed.{count_of}
use Rattle.vt_mount.specs.MountsValue.{are_ascending, in_order, mounts_in, stands_over}
use Rattle.vt_mount.specs.Standing.{same_standing}
use Rattle.vt_mount.specs.declared.standing.Standing.{Standing}
use Rattle.vt_mount.proofs.MoveLemmas.{ascending-kept}
use Rattle.vt_mount.proofs.OrderLemmas.{rises-in_order}
use Rattle.vt_mount.proofs.PlaceLemmas.{numbers-seen, over-agrees}
use Rattle.vt_mount.proofs.PointLemmas.{any-counts}
use Rattle.vt_mount.proofs.StandingLemmas.{any-alike, any-mounts, mounts_of, over-counts}
use Rattle.vt_mount.proofs.mounts.Mounts.has_others_on.Goals as goal

-- some mount that passes has a number that passes
any-numbered : (over : Mount ℕ → Bool) (test : ℕ → Bool) (mounts : List (Mount ℕ))
    → list_any test (map (λ mount. mount.number) (filter over mounts))
    ≡ list_any (λ mount. over mount && test mount.number) mounts
any-numbered over test [] = refl
any-numbered over test (mount ∷ mounts) = by (over mount) (any-numbered over test mounts)
  where
    by : (b : Bool) → list_any test (map (λ mount. mount.number) (filter over mounts))
        ≡ list_any (λ mount. over mount && test mount.number) mounts
        → list_any test (map (λ (mount : Mount ℕ). mount.number) (cond b (mount ∷ filter over mounts) (filter over mounts)))
        ≡ ((b && test mount.number) || list_any (λ mount. over mount && test mount.number) mounts)
    by true rest = ap (λ b. test mount.number || b) rest
    by false rest = rest

pub returns-clause-others : goal.returns-clause-others
returns-clause-others c =
    let inode = c.args.inode in
    let less : is_small_node inode ≡ true = search rules in
    let list = c.get.result.now in
    let kept = in_order c.self.inside.by_number.entries in
    let order = rises-in_order c.self.inside.by_number.entries in
    let other = (λ (number : ℕ). not (nat_eq (counted c.args.mount.count) number)) in
    let test = (λ (id : MountId). other (counted id.count)) in
    any_from_yields_List (λ (one : Standing). test one.mount) _ _ _
    c.any.ensures.ran (YieldsList-from_slice list cc) (λ x b q k. search rules)
    ∙ any-mounts test list ∙ any-alike test (mounts_of list) (numbers_where (is_over inode) kept)
    (over-counts list kept inode c.get.ensures.rising order
    (λ parent m. ap (count_of (same_standing (record { parent = parent; mount = m }))) c.get.ensures.value
    ∙ c.self.invariant.place (record { mount = parent; node = inode }) m))
    ∙ any-counts other (numbers_where (is_over inode) kept)
    ∙ ap (list_any other)
    (numbers-seen (is_over inode) (stands_over (number_of inode)) (over-agrees inode less) kept c.self.invariant.slots)
    ∙ ap (λ now. list_any other (map (λ mount. mount.number) (filter (stands_over (number_of inode)) (mounts_in now))))
    c.self.view_is
    ∙ any-numbered (stands_over (number_of inode)) other (mounts_in c.args.self.now)

pub returns-clause-order : goal.returns-clause-order
returns-clause-order c = ap (λ now. are_ascending (mounts_in now)) (sym c.self.view_is)
    ∙ ascending-kept c.self.inside.by_number.entries
