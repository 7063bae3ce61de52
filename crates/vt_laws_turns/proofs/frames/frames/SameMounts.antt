-- Mounts that are the same by the tests of the policy, and show what they showed, are the same records.
use Rattle.std.proofs.Common.{◌≡◌, ◌≢◌, refl, sym, ◌∙◌, inl, inr, ℕ, nat_eq, Bool, true, false, true≢false, List, [], ◌∷◌, Option, Some, ◌&&◌, eqb-true, arith, Contains}
use Rattle.vt_spec.proofs.Common.{Among, Location, Mount, MountFlags, Propagation, World, and_parts, common_steps, contains_from_among, holds_of, master_above, raised, same_bool, same_flags, same_list, same_location, same_mount, same_option, same_propagation}
use Rattle.vt_spec.specs.Language.Limits.{largest_change}

pub rises : (n : ℕ) → n ≢ largest_change → raised n ≡ n → ⊥
rises n h e = grind (arith, common_steps, eqb-true)

same_truths : (a b : Bool) → same_bool a b ≡ true → a ≡ b
same_truths true b e = sym e
same_truths false true e = cc
same_truths false false e = refl

flags_same : (a b : MountFlags) → same_flags a b ≡ true → a ≡ b
flags_same a b e = grind (arith, common_steps, same_truths)

points_same : (a b : Option (Location ℕ)) → same_option (same_location nat_eq) a b ≡ true → a ≡ b
points_same a b e = grind (arith, common_steps, true≢false)

kinds_same : (a b : Propagation ℕ) → same_propagation nat_eq a b ≡ true → a ≡ b
kinds_same a b e = grind (arith, common_steps, eqb-true, true≢false)

pub one_record : (a b : Mount ℕ) → a.number ≡ b.number → a.namespace ≡ b.namespace → a.mount_point ≡ b.mount_point
    → a.filesystem ≡ b.filesystem → a.root ≡ b.root → a.flags ≡ b.flags → a.propagation ≡ b.propagation → a ≡ b
one_record a b n s p f r g k = grind (arith, common_steps)

-- mounts of the two worlds that have one number show one filesystem from one root on
abbrev pub ShowAlike : World ℕ → World ℕ → Type 0
ShowAlike before later =
    (one other : Mount ℕ) → Contains before.mounts one → Contains later.mounts other → one.number ≡ other.number
    → (one.filesystem ≡ other.filesystem) × (one.root ≡ other.root)

module _ (before later : World ℕ) (alike : ShowAlike before later) (number : ℕ) where
  namespace_of : (one : Mount ℕ) → holds_of (nat_eq number) one.namespace ≡ true → one.namespace ≡ Some number
  namespace_of one h = grind (arith, common_steps, true≢false)

  pub lists_same : (xs ys : List (Mount ℕ))
      → ((x : Mount ℕ) → Among x xs → Among x before.mounts × (holds_of (nat_eq number) x.namespace ≡ true))
      → ((y : Mount ℕ) → Among y ys → Among y later.mounts × (holds_of (nat_eq number) y.namespace ≡ true))
      → same_list (same_mount nat_eq before later) xs ys ≡ true → ys ≡ xs
  lists_same [] [] h k e = refl
  lists_same [] (y ∷ ys) h k e = cc
  lists_same (x ∷ xs) [] h k e = cc
  lists_same (x ∷ xs) (y ∷ ys) h k e =
      let both = and_parts (same_mount nat_eq before later x y) _ e in
      let numbers : Bool = nat_eq x.number y.number in
      let points : Bool = same_option (same_location nat_eq) x.mount_point y.mount_point in
      let flags : Bool = same_flags x.flags y.flags in
      let kinds : Bool = same_propagation nat_eq x.propagation y.propagation in
      let d = and_parts (numbers && points && flags && kinds)
      (same_option nat_eq (master_above before x) (master_above later y)) both.0 in
      let c = and_parts (numbers && points && flags) kinds d.0 in
      let b = and_parts (numbers && points) flags c.0 in
      let a = and_parts numbers points b.0 in
      let number_same : x.number ≡ y.number = eqb-true x.number y.number a.0 in
      let shown = alike x y (contains_from_among before.mounts x (h x (inl refl)).0)
      (contains_from_among later.mounts y (k y (inl refl)).0) number_same in
      cc (
        one_record x y number_same (namespace_of x (h x (inl refl)).1 ∙ sym (namespace_of y (k y (inl refl)).1))
            (points_same x.mount_point y.mount_point a.1) shown.0 shown.1 (flags_same x.flags y.flags b.1) (kinds_same
            x.propagation y.propagation c.1),
        lists_same xs ys (λ z m. h z (inr m)) (λ z m. k z (inr m)) both.1,
      )
