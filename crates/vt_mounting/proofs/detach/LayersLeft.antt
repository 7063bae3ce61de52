-- Uses that go one by one from plain filesystems, each with a mount or a layer: what nothing is left of goes.
use Rattle.std.proofs.Common.{◌≡◌, refl, sym, ap, ◌∙◌, ℕ, ◌+◌, ◌-◌, nat_eq, eqb-true, eq-eqb, Bool, true, false, cond, not, ◌||◌, List, [], ◌∷◌, map, filter, arith, map-id}
use Rattle.vt_spec.proofs.Common.{common_steps, folded, map_alike, map_twice, not-false, not-true, or-false, or-true}
use Rattle.vt_mounting.proofs.Common.{Among, Inode, Shown, among-from_filter, among-from_map, counted, filter-map, filter_alike, filter_all, filter_less, times, unpinned_if}
use Rattle.vt_mounting.specs.Detach.Uses.{mounts_shown, released_if, without_layer}
use Rattle.vt_mounting.proofs.detach.FilesystemsLeft.{let_go_is, stays_at}
use Rattle.vt_mounting.proofs.detach.LostUses.{shown_by_rule}
use Rattle.vt_mounting.proofs.detach.Moving.{nat_eq_turned}

-- with these uses less, and as many mounts and layers
abbrev pub later_shown : List Inode → Shown → Shown
later_shown lost one = record one {
  inodes = folded (unpinned_if (counted one.count)) one.inodes lost;
  mounts = one.mounts - times (λ (inode : Inode). nat_eq (counted one.count) inode.0) lost;
}

abbrev pub is_some_left : Shown → Bool
is_some_left one = not (nat_eq one.mounts 0)

nothing_less : (all : List Shown) → map (later_shown []) all ≡ all
nothing_less all =
    map_alike (later_shown []) (λ one. one) all (λ one m. λ i. record one { mounts = none one.mounts i }) ∙ sym
    (sym (map-id all))
  where
    none : (n : ℕ) → n - 0 ≡ n
    none n = omega arith

-- Filesystems are shown with their counts, and none counts nothing.
pub record AllCount (all : List Shown) (counts : ℕ → ℕ) : Type 0 where
  pub each : (one : Shown) → Among one all → one.mounts ≡ counts (counted one.count)
  pub some : (one : Shown) → Among one all → nat_eq one.mounts 0 ≡ false

module _ (inode : Inode) {all : List Shown} {counts : ℕ → ℕ} (all_count : AllCount all counts) where
  open all_count use {each, some}

  abbrev step : Shown → Shown
  step one = released_if inode.0 (record one { inodes = unpinned_if (counted one.count) one.inodes inode })

  abbrev stepped : List Shown
  stepped = map step all

  abbrev counts_then : ℕ → ℕ
  counts_then n = counts n - cond (nat_eq inode.0 n) 1 0

  step_is : (one : Shown) → Among one all → ((step one).count ≡ one.count)
      × ((step one).mounts ≡ one.mounts - cond (nat_eq inode.0 (counted one.count)) 1 0)
  step_is one m = grind (arith, common_steps)

  each_then : (one : Shown) → Among one stepped → one.mounts ≡ counts_then (counted one.count)
  each_then one m = grind (arith, common_steps, among-from_map)

  -- what stays has something left
  stays_is : (one : Shown) → Among one stepped → stays_at inode.0 stepped (counted one.count) ≡ is_some_left one
  stays_is one m = by (nat_eq inode.0 (counted one.count)) refl
    where
      by : (b : Bool) → nat_eq inode.0 (counted one.count) ≡ b
          → stays_at inode.0 stepped (counted one.count) ≡ is_some_left one
      by true e = ap (λ b. not (nat_eq (mounts_shown inode.0 stepped) 0) || not b) e
          ∙ or-false (not (nat_eq (mounts_shown inode.0 stepped) 0)) ∙ ap (λ n. not (nat_eq n 0))
          (shown_by_rule counts_then stepped each_then one m (eqb-true inode.0 (counted one.count) e)
          ∙ ap counts_then (eqb-true inode.0 (counted one.count) e) ∙ sym (each_then one m))
      by false e =
          let from = among-from_map step all one m in
          let is = step_is from.0 from.1 in
          let apart : nat_eq inode.0 (counted from.0.count) ≡ false =
          ap (λ count. nat_eq inode.0 (counted count)) (sym (ap (λ (x : Shown). x.count) from.2 ∙ is.0)) ∙ e in
          let same : (step from.0).mounts ≡ from.0.mounts - 0 = is.1 ∙ ap (λ b. from.0.mounts - cond b 1 0) apart in
          let kept : (step from.0).mounts ≡ from.0.mounts = omega (arith, same) in
          cc (or-true (not (nat_eq (mounts_shown inode.0 stepped) 0)), from.2, some from.0 from.1)

  one_goes : without_layer all inode ≡ filter is_some_left stepped
  one_goes = ap (Rattle.vt_mounting.specs.Detach.Uses.let_go_filesystem inode.0) (map_twice (released_if inode.0)
      (λ (one : Shown). record one { inodes = unpinned_if (counted one.count) one.inodes inode }) all)
      ∙ let_go_is inode.0 stepped
      ∙ filter_alike (λ (one : Shown). stays_at inode.0 stepped (counted one.count)) is_some_left stepped stays_is

  less_again : (rest : List Inode) → map (later_shown rest) stepped ≡ map (later_shown (inode ∷ rest)) all
  less_again rest = map_twice (later_shown rest) step all ∙ map_alike (λ one. later_shown rest (step one))
      (later_shown (inode ∷ rest)) all
      (λ one m. by one (nat_eq inode.0 (counted one.count)) ∙ (λ i. record one {
        inodes = folded (unpinned_if (counted one.count)) one.inodes (inode ∷ rest);
        mounts = turned one i;
      }))
    where
      rest_in : Shown → ℕ
      rest_in one = times (λ (other : Inode). nat_eq (counted one.count) other.0) rest

      by : (one : Shown) (b : Bool) → later_shown rest (cond b
          (record one { inodes = unpinned_if (counted one.count) one.inodes inode; mounts = one.mounts - 1 })
          (record one { inodes = unpinned_if (counted one.count) one.inodes inode })) ≡ record one {
            inodes = folded (unpinned_if (counted one.count)) one.inodes (inode ∷ rest);
            mounts = one.mounts - cond b 1 0 - rest_in one;
          }
      by one true = refl
      by one false = λ i. record one {
        inodes = folded (unpinned_if (counted one.count)) one.inodes (inode ∷ rest);
        mounts = none one.mounts (rest_in one) i;
      }
        where
          none : (n k : ℕ) → n - k ≡ n - 0 - k
          none n k = omega arith

      turned : (one : Shown) → one.mounts - cond (nat_eq inode.0 (counted one.count)) 1 0 - rest_in one
          ≡ one.mounts - (cond (nat_eq (counted one.count) inode.0) 1 0 + rest_in one)
      turned one = together one.mounts (cond (nat_eq inode.0 (counted one.count)) 1 0) (rest_in one)
          ∙ ap (λ b. one.mounts - (cond b 1 0 + rest_in one)) (nat_eq_turned inode.0 (counted one.count))
        where
          together : (n a k : ℕ) → n - a - k ≡ n - (a + k)
          together n a k = omega arith

-- They are all that are left with something.
pub go_one_by_one : (lost : List Inode) {all : List Shown} {counts : ℕ → ℕ} → AllCount all counts
    → folded without_layer all lost ≡ filter is_some_left (map (later_shown lost) all)
go_one_by_one [] {all} all_count = sym (filter_all is_some_left all (λ one m. ap not (all_count.some one m)))
    ∙ ap (filter is_some_left) (sym (nothing_less all))
go_one_by_one (inode ∷ rest) all_count =
    let then = stepped inode all_count in
    ap (λ left. folded without_layer left rest) (one_goes inode all_count)
    ∙ go_one_by_one rest {counts = counts_then inode all_count} (record {
      each = λ one m. each_then inode all_count one (among-from_filter is_some_left then one m).0;
      some = λ one m. not-true (nat_eq one.mounts 0) (among-from_filter is_some_left then one m).1;
    })
    ∙ filter-map is_some_left (later_shown rest) (filter is_some_left then) (λ one. refl)
    ∙ ap (map (later_shown rest)) (filter_less (λ one. is_some_left (later_shown rest one)) is_some_left then
    (λ one m none. gone one.mounts (times (λ (other : Inode). nat_eq (counted one.count) other.0) rest)
    (not-false (nat_eq one.mounts 0) none))) ∙ sym (filter-map is_some_left (later_shown rest) then (λ one. refl))
    ∙ ap (filter is_some_left) (less_again inode all_count rest)
  where
    gone : (n k : ℕ) → nat_eq n 0 ≡ true → not (nat_eq (n - k) 0) ≡ false
    gone n k zero =
        let none : n ≡ 0 = eqb-true n 0 zero in
        let left : n - k ≡ 0 = omega (arith, none) in
        ap not (eq-eqb (n - k) 0 left)
