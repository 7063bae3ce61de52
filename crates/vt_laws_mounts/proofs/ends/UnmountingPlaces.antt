-- An unmount leaves at most one mount at a place.
use Rattle.std.proofs.Common.{arith, ◌≡◌, refl, sym, ap, subst, ◌∙◌, true, false, zero, suc, Bool, List, None, Option, Some, [], eq-eqb, is_some, nat_eq, option_map, ⊎_elim, ◌∷◌, ◌⊎◌, ℕ, inl, inr, filter_map, if◌then◌else◌}
use Rattle.vt_spec.proofs.Common.{Among, Location, Mount, World, after_going, among-filter, among-from_filter_map, among-from_map, among_numbers, any_pair, chain, chain_ends, chain_goes_on, common_steps, false_from_ne_true, goes_at, going, going_at, going_from, holds_of, inheriting, is_going, last_of_chain, last_or, may_go, mount_at, mount_in, mount_numbered, inherited_mount_point, mount_point_of_parent, none_among, number-mount_in, only_cover, pair-map, receivers_of, same_Some, share_a_mount_point, stands_at, stands_on, taken_away}
use Rattle.vt_laws_mounts.specs.Mounts.Invariants.{AreApart, OneMountEachMountPoint, UnmountLeavesOneMountAMountPoint}
use Rattle.vt_laws_mounts.proofs.ends.UnmountingGoes.{child_goes}
use Rattle.vt_laws_mounts.proofs.mounts.MountsPlaces.{one_place_of_two, one_stander, place_of_both, stands_there}
use Rattle.vt_laws_mounts.proofs.mounts.MountsReplaced.{found_itself}
use Rattle.vt_laws_mounts.proofs.mounts.MountsFound.{found_in, placed_among}
use Rattle.vt_laws_mounts.proofs.ends.Unmounting.{going_is_detached, middle, staying_is_placed}
use Rattle.vt_laws_mounts.proofs.Groups.{mounts-regrouped}
use Rattle.vt_laws_mounts.proofs.mounts.MountsKept.{unmount_keeps_numbers}

-- a mount's place falls to where mounts that go leave it
pub data Falls (world : World ℕ) (gone : List ℕ) (mount : Mount ℕ) : Location ℕ → Type 0 where
  direct : (rest : Location ℕ) → mount.mount_point ≡ Some rest → Falls world gone mount rest
  down : (place rest : Location ℕ) → Falls world gone mount place → is_going nat_eq gone place.mount ≡ true
      → (mount_at nat_eq world place).mount_point ≡ Some rest → Falls world gone mount rest

module _ (world : World ℕ) (gone : List ℕ) where
  -- where a place is left, it falls to
  falls_down : (a : Mount ℕ) (n : ℕ) (place : Location ℕ) → Falls world gone a place
      → Falls world gone a (last_or place (chain n (mount_point_of_parent nat_eq world gone) place))
  falls_down a zero place fall = fall
  falls_down a (suc n) place fall = by _ refl (falls_down a n)
    where
      step : (next : Location ℕ) (b : Bool) → is_going nat_eq gone place.mount ≡ b
          → (if b then (mount_at nat_eq world place).mount_point else None) ≡ Some next → Falls world gone a next
      step next true goes e = down place next fall goes e
      step next false goes e = cc

      by : (found : Option (Location ℕ)) → mount_point_of_parent nat_eq world gone place ≡ found
          → ((next : Location ℕ) → Falls world gone a next
          → Falls world gone a (last_or next (chain n (mount_point_of_parent nat_eq world gone) next)))
          → Falls world gone a (last_or place (chain (suc n) (mount_point_of_parent nat_eq world gone) place))
      by found e later = grind (arith, common_steps, chain_ends, chain_goes_on, last_of_chain, step)

  -- where a mount stands after the event
  pub stood : (a : Mount ℕ) (rest : Location ℕ) → (after_going nat_eq world gone a).mount_point ≡ Some rest
      → (is_going nat_eq gone a.number ≡ false) × Falls world gone a rest
  stood a rest e = by _ refl
    where
      at : (place : Option (Location ℕ)) → a.mount_point ≡ place
          → option_map (inherited_mount_point nat_eq world gone) place ≡ Some rest → Falls world gone a rest
      at None f g = cc
      at (Some place) f g =
          let same : inherited_mount_point nat_eq world gone place ≡ rest = same_Some _ rest g in
          subst (Falls world gone a) same (falls_down a _ place (direct place f))

      by : (b : Bool) → is_going nat_eq gone a.number ≡ b
          → (is_going nat_eq gone a.number ≡ false) × Falls world gone a rest
      by true f = cc (e, going_is_detached world gone a f)
      by false f = (f, at a.mount_point refl (cc (staying_is_placed world gone a f, e)))

-- one child alone
one_child_alone : (mount : Mount ℕ) (list : List (Mount ℕ)) → only_cover nat_eq mount list ≡ true → (a b : Mount ℕ)
    → Among a list → Among b list → a ≡ b
one_child_alone mount [] h a b m n = absurd m
one_child_alone mount (child ∷ []) h a b m n = grind (arith, common_steps)
one_child_alone mount (child ∷ other ∷ rest) h a b m n = cc

module _ (world : World ℕ) (gone : List ℕ) (apart_all : AreApart world)
    (may : (x : Mount ℕ) (place : Location ℕ) → Among x world.mounts → x.mount_point ≡ Some place
    → is_going nat_eq gone place.mount ≡ true → may_go nat_eq world (mount_at nat_eq world place) ≡ true) where
  stander : (a : Mount ℕ) (place : Location ℕ) → Among a world.mounts → Falls world gone a place
      → (x : Mount ℕ) × Among x world.mounts × (x.mount_point ≡ Some place)
  stander a place m (direct rest e) = (a, m, e)
  stander a place m (down at rest fall goes under) = (mount_at nat_eq world at, placed_among _ _ rest under, under)

  -- two that stand on a mount that goes stand at one place
  one_root : (x y : Mount ℕ) (p q : Location ℕ) → Among x world.mounts → Among y world.mounts → x.mount_point ≡ Some p
      → y.mount_point ≡ Some q → is_going nat_eq gone p.mount ≡ true → q.mount ≡ p.mount → p ≡ q
  one_root x y p q m n e f goes same =
      let under = mount_at nat_eq world p in
      let number : under.number ≡ p.mount = number-mount_in _ _ in
      let on_it : (z : Mount ℕ) (r : Location ℕ) → z.mount_point ≡ Some r → r.mount ≡ p.mount
      → stands_on nat_eq under.number z ≡ true = λ z r g h. ap (holds_of (λ place. nat_eq under.number place.mount)) g
      ∙ eq-eqb under.number r.mount (number ∙ sym h) in
      let both : x ≡ y = one_child_alone under _ (may x p m e goes) x y (among-filter _ _ x m (on_it x p e refl))
      (among-filter _ _ y n (on_it y q f same)) in
      same_Some p q (cc)

  -- what stays is no mount that goes
  not_both : (a : Mount ℕ) (place : Location ℕ) → is_going nat_eq gone a.number ≡ false
      → is_going nat_eq gone place.mount ≡ true → mount_at nat_eq world place ≡ a → ⊥
  not_both a place stays goes same = cc (number-mount_in world.mounts place.mount)

  -- two that stay fall to one place only where they are one
  one_falls : (a b : Mount ℕ) → Among a world.mounts → Among b world.mounts → is_going nat_eq gone a.number ≡ false
      → is_going nat_eq gone b.number ≡ false
      → (r : Location ℕ) → Falls world gone a r → (q : Location ℕ) → Falls world gone b q → q ≡ r → a ≡ b
  one_falls a b m n stays also r (direct rest e) q (direct end f) same =
      one_stander _ apart_all.by_place a b m n rest e (cc)
  one_falls a b m n stays also r (direct rest e) q (down at end fall goes under) same = absurd
      (not_both a at stays goes (one_stander _ apart_all.by_place _ a (placed_among _ _ end under) m end under (cc)))
  one_falls a b m n stays also r (down at rest fall goes under) q (direct end f) same = absurd
      (not_both b at also goes (one_stander _ apart_all.by_place _ b (placed_among _ _ rest under) n rest under (cc)))
  one_falls a b m n stays also r (down at rest fall goes under) q (down at_too end fall_too goes_too under_too) same =
      let on_one : mount_at nat_eq world at ≡ mount_at nat_eq world at_too =
      one_stander world.mounts apart_all.by_place (mount_at nat_eq world at) (mount_at nat_eq world at_too)
      (placed_among world.mounts at.mount rest under) (placed_among world.mounts at_too.mount end under_too) rest under
      (cc) in
      let number : at_too.mount ≡ at.mount =
      cc (number-mount_in world.mounts at_too.mount, on_one) ∙ number-mount_in world.mounts at.mount in
      let x = stander a at m fall in
      let y = stander b at_too n fall_too in
      one_falls a b m n stays also at fall at_too fall_too
      (sym (one_root x.0 y.0 at at_too x.1 y.1 x.2 y.2 goes number))

  -- no two come to one place
  pub one_place_left : (a b : Mount ℕ) → Among a world.mounts → Among b world.mounts
      → share_a_mount_point nat_eq a b ≡ false
      → share_a_mount_point nat_eq (after_going nat_eq world gone a) (after_going nat_eq world gone b) ≡ false
  one_place_left a b m n differ = false_from_ne_true _ (λ together.
      let place = place_of_both (after_going nat_eq world gone a) (after_going nat_eq world gone b) together in
      let first = stood world gone a place.0 place.1 in
      let second = stood world gone b place.0 place.2 in
      let same : a ≡ b = one_falls a b m n first.0 second.0 place.0 first.1 place.0 second.1 refl in
      let had = had_place a place.0 first.1 in
      cc (one_place_of_two had.0 a b had.1 (ap (λ x. x.mount_point) (sym same) ∙ had.1), differ))
    where
      had_place : (x : Mount ℕ) (place : Location ℕ) → Falls world gone x place
          → (at : Location ℕ) × (x.mount_point ≡ Some at)
      had_place x place (direct rest e) = (rest, e)
      had_place x place (down at rest fall goes under) = had_place x at fall

  pub taking_away_leaves_one : OneMountEachMountPoint (taken_away nat_eq world gone)
  taking_away_leaves_one = ap (any_pair (share_a_mount_point nat_eq)) (mounts-regrouped (middle world gone))
      ∙ pair-map (share_a_mount_point nat_eq) (share_a_mount_point nat_eq) (inheriting nat_eq (middle world gone))
      (middle world gone).mounts (λ a b m n e. e) (pair-map (share_a_mount_point nat_eq) (share_a_mount_point nat_eq)
      (after_going nat_eq world gone) world.mounts one_place_left apart_all.by_place)

-- At an unmount
-- what goes is the mount itself, or one that stands at a place and may go
pub goes_or_may : (world : World ℕ) (mount : Mount ℕ) (number : ℕ)
    → is_going nat_eq (going nat_eq world mount) number ≡ true → (number ≡ mount.number)
    ⊎ ((child : Mount ℕ) × Among child world.mounts × (may_go nat_eq world child ≡ true) × (number ≡ child.number)
    × (is_some child.mount_point ≡ true))
goes_or_may world mount number h = by _ refl
  where
    alone : Among number (mount.number ∷ []) → (number ≡ mount.number)
        ⊎ ((child : Mount ℕ) × Among child world.mounts × (may_go nat_eq world child ≡ true) × (number ≡ child.number)
        × (is_some child.mount_point ≡ true))
    alone m = inl (⊎_elim (λ e. e) (λ none. absurd none) m)

    listed : (numbers : List ℕ) → going nat_eq world mount ≡ numbers → Among number numbers
    listed numbers e = among_numbers _ number (cc h)

    on : (place : Location ℕ) (b : Bool) → Among number (going_from nat_eq world mount place b)
        → (number ≡ mount.number)
        ⊎ ((child : Mount ℕ) × Among child world.mounts × (may_go nat_eq world child ≡ true) × (number ≡ child.number)
        × (is_some child.mount_point ≡ true))
    on place true m =
        let receiving = receivers_of nat_eq world (mount_at nat_eq world place) in
        let gone = among-from_map (λ (x : Mount ℕ). x.number)
        (filter_map (goes_at nat_eq world place.node) receiving) number m in
        let heard = among-from_filter_map (goes_at nat_eq world place.node) receiving gone.0 gone.1 in
        let child = child_goes world place.node heard.0 gone.0 heard.2 in
        let at : Location ℕ = record { mount = heard.0.number; node = place.node } in
        let found = found_in (stands_at nat_eq at) world.mounts gone.0 child.0 in
        inr (gone.0, found.0, child.1, gone.2, ap is_some (stands_there at gone.0 found.1))
    on place false m = alone m

    by : (place : Option (Location ℕ)) → mount.mount_point ≡ place → (number ≡ mount.number)
        ⊎ ((child : Mount ℕ) × Among child world.mounts × (may_go nat_eq world child ≡ true) × (number ≡ child.number)
        × (is_some child.mount_point ≡ true))
    by None e = alone (listed _ (ap (going_at nat_eq world mount) e))
    by (Some place) e = on place _ (listed _ (ap (going_at nat_eq world mount) e))

pub unmount_leaves_one_mount_a_place : UnmountLeavesOneMountAMountPoint
unmount_leaves_one_mount_a_place world one apart_all childless = record {
  by_number = unmount_keeps_numbers world one apart_all.by_number;
  by_place = taking_away_leaves_one world (going nat_eq world (mount_numbered nat_eq world one)) apart_all
      (λ x place m e goes.
      ⊎_elim (λ itself. absurd (no_child x place m e (itself ∙ number-mount_in world.mounts one))) (λ t.
      subst (λ z. may_go nat_eq world z ≡ true)
      (sym (ap (mount_in nat_eq world.mounts) t.3 ∙ found_itself world.mounts apart_all.by_number t.0 t.1)) t.2)
      (goes_or_may world (mount_numbered nat_eq world one) place.mount goes));
}
  where
    no_child : (x : Mount ℕ) (place : Location ℕ) → Among x world.mounts → x.mount_point ≡ Some place
        → place.mount ≡ one → ⊥
    no_child x place m e same =
        cc (e, eq-eqb one place.mount (sym same), none_among (stands_on nat_eq one) world.mounts childless x m)
