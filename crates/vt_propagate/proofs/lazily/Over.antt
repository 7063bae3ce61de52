-- What stands over a place, seen through mounts that are gone.
use Rattle.std.proofs.Common.{◌≡◌, refl, sym, ap, subst, ◌∙◌, arith, ℕ, zero, suc, ◌+◌, ◌<◌, ◌≤◌, nat_eq, Bool, true, false, true≢false, List, length, Option, None, Some, is_some, if◌then◌else◌}
use Rattle.vt_spec.proofs.Common.{Location, Mount, MountInvariants, World, child_at, is_going, mount_numbered, root_of, same_Some, stands_at, then_some}
use Rattle.vt_laws_mounts.specs.Mounts.Unmounting.{FallsTo}
use Rattle.vt_laws_mounts.specs.Mounts.Unmounting.FallsTo.{falls}
use Rattle.vt_laws_mounts.proofs.mounts.MountsFound.{found_in, number-mount_in, placed_among}
use Rattle.vt_laws_mounts.proofs.mounts.MountsPlaces.{found_at_its_place, stands_there}
use Rattle.vt_laws_mounts.proofs.mounts.MountsReplaced.{found_itself}
use Rattle.vt_laws_mounts.proofs.mounts.Standing.{rank, rank_bounded, rank_child}
use Rattle.vt_propagate.specs.Through.{over_from, standing_over}

-- a mount stands at a place, or on the root of one that is gone and stood over it
pub data Over (world : World ℕ) (gone : List ℕ) : Location ℕ → ℕ → Type 0 where
  here : (place : Location ℕ) (child : ℕ) → (mount_numbered nat_eq world child).mount_point ≡ Some place
      → Over world gone place child
  through : (place : Location ℕ) (under child : ℕ) → is_going nat_eq gone under ≡ true
      → (mount_numbered nat_eq world under).mount_point ≡ Some place
      → Over world gone (root_of (mount_numbered nat_eq world under)) child → Over world gone place child

module _ (world : World ℕ) where
  abbrev it : ℕ → Mount ℕ
  it number = mount_numbered nat_eq world number

  -- the more are gone, the more is seen through them
  pub over_more : (gone more : List ℕ)
      → ((number : ℕ) → is_going nat_eq gone number ≡ true → is_going nat_eq more number ≡ true)
      → (place : Location ℕ) (child : ℕ) → Over world gone place child → Over world more place child
  over_more gone more all place child (here at number e) = here at number e
  over_more gone more all place child (through at under number goes e later) =
      through at under number (all under goes) e (over_more gone more all (root_of (it under)) number later)

  -- what stands on the root of a gone mount stands over the place of that one
  pub over_further : (gone : List ℕ) (place : Location ℕ) (under child : ℕ) → Over world gone place under
      → is_going nat_eq gone under ≡ true → Over world gone (root_of (it under)) child → Over world gone place child
  over_further gone place under child (here at number e) goes later = through at number child goes e later
  over_further gone place under child (through at below number is e up) goes later =
      through at below child is e (over_further gone (root_of (it below)) number child up goes later)

  -- the one at the place itself
  pub over_first : (gone : List ℕ) (place : Location ℕ) (child : ℕ) → Over world gone place child
      → (first : ℕ) × ((it first).mount_point ≡ Some place)
  over_first gone place child (here at number e) = (number, e)
  over_first gone place child (through at under number goes e later) = (under, e)

  -- its own place falls to that place
  pub over_falls : (gone : List ℕ) (place : Location ℕ) (child : ℕ) → Over world gone place child
      → (point : Location ℕ) × ((it child).mount_point ≡ Some point)
      × ((rest : Location ℕ) → FallsTo world gone place rest → FallsTo world gone point rest)
  over_falls gone place child (here at number e) = (at, e, λ rest fall. fall)
  over_falls gone place child (through at under number goes e later) =
      let up = over_falls gone (root_of (it under)) number later in (
        up.0,
        up.1,
        λ rest fall. up.2 rest (falls (root_of (it under)) at rest
            (ap (is_going nat_eq gone) (number-mount_in world.mounts under) ∙ goes)
            (ap (λ n. (it n).mount_point) (number-mount_in world.mounts under) ∙ e) fall),
      )

  module _ (kept : MountInvariants nat_eq world) where
    abbrev rank_of : ℕ → ℕ
    rank_of number = rank world kept.one_number kept.standing number

    -- it stands higher than what the place is on
    pub over_higher : (gone : List ℕ) (place : Location ℕ) (child : ℕ) → Over world gone place child
        → rank_of place.mount < rank_of child
    over_higher gone place child (here at number e) =
        let child_rank : rank_of number ≡ suc (rank_of at.mount) =
        rank_child world kept.one_number kept.standing number at e in
        omega (arith, child_rank)
    over_higher gone place child (through at under number goes e later) =
        let child_rank : rank_of under ≡ suc (rank_of at.mount) =
        rank_child world kept.one_number kept.standing under at e in
        let same : rank_of (it under).number ≡ rank_of under = ap rank_of (number-mount_in world.mounts under) in
        let up : rank_of (it under).number < rank_of number = over_higher gone (root_of (it under)) number later in
        omega (arith, child_rank, same, up)

    found_over : (place : Location ℕ) (child : ℕ) → (it child).mount_point ≡ Some place
        → child_at nat_eq world.mounts place ≡ Some (it child)
    found_over place child e =
        found_at_its_place world.mounts kept.one_child (it child) (placed_among world.mounts child place e) place e

    -- what stands over a place and is not gone is found there
    over_is_found : (gone : List ℕ) (place : Location ℕ) (child : ℕ) → Over world gone place child
        → is_going nat_eq gone child ≡ false → (n : ℕ) → rank_of child ≤ rank_of place.mount + n
        → over_from n world.mounts gone place ≡ Some child
    over_is_found gone place child over stays zero few =
        let higher : rank_of place.mount < rank_of child = over_higher gone place child over in
        absurd (omega (arith, few, higher))
    over_is_found gone place child (here at number e) stays (suc n) few = ap (λ o. then_some o (λ (x : Mount ℕ).
        if is_going nat_eq gone x.number then over_from n world.mounts gone (root_of x) else Some x.number))
        (found_over at number e)
        ∙ ap (λ k. if is_going nat_eq gone k then over_from n world.mounts gone (root_of (it number)) else Some k)
        (number-mount_in world.mounts number)
        ∙ ap (λ b. if b then over_from n world.mounts gone (root_of (it number)) else Some number) stays
    over_is_found gone place child (through at under number goes e later) stays (suc n) few =
        let child_rank : rank_of under ≡ suc (rank_of at.mount) =
        rank_child world kept.one_number kept.standing under at e in
        let same : rank_of (it under).number ≡ rank_of under = ap rank_of (number-mount_in world.mounts under) in
        ap (λ o. then_some o (λ (x : Mount ℕ).
        if is_going nat_eq gone x.number then over_from n world.mounts gone (root_of x) else Some x.number))
        (found_over at under e)
        ∙ ap (λ b. if b then over_from n world.mounts gone (root_of (it under)) else Some (it under).number)
        (ap (is_going nat_eq gone) (number-mount_in world.mounts under) ∙ goes)
        ∙ over_is_found gone (root_of (it under)) number later stays n (omega (arith, few, child_rank, same))

    -- the mount over a place is found where what lies between is gone
    pub over_found : (gone : List ℕ) (place : Location ℕ) (child : ℕ) → Over world gone place child
        → is_going nat_eq gone child ≡ false → standing_over world.mounts gone place ≡ Some child
    over_found gone place child over stays =
        let bound : rank_of child ≤ length world.mounts = rank_bounded world kept.one_number kept.standing child in
        over_is_found gone place child over stays (length world.mounts) (omega (arith, bound))

    -- what is found over a place stands over it, and is not gone
    found_is_over : (gone : List ℕ) (n : ℕ) (place : Location ℕ) {child : ℕ}
        → over_from n world.mounts gone place ≡ Some child
        → Over world gone place child × (is_going nat_eq gone child ≡ false)
    found_is_over gone zero place e = absurd (true≢false (sym (ap is_some e)))
    found_is_over gone (suc n) place {child} e = by (child_at nat_eq world.mounts place) refl e (found_is_over gone n)
      where
        at : (x : Mount ℕ) → child_at nat_eq world.mounts place ≡ Some x → (it x.number).mount_point ≡ Some place
        at x f =
            let t = found_in (stands_at nat_eq place) world.mounts x f in
            ap (λ (m : Mount ℕ). m.mount_point) (found_itself world.mounts kept.one_number x t.0)
            ∙ stands_there place x t.1

        one : (x : Mount ℕ) → child_at nat_eq world.mounts place ≡ Some x
            → (b : Bool) → is_going nat_eq gone x.number ≡ b
            → (if b then over_from n world.mounts gone (root_of x) else Some x.number) ≡ Some child
            → ((p : Location ℕ) (c : ℕ) → over_from n world.mounts gone p ≡ Some c
            → Over world gone p c × (is_going nat_eq gone c ≡ false))
            → Over world gone place child × (is_going nat_eq gone child ≡ false)
        one x f true goes g later =
            let t = found_in (stands_at nat_eq place) world.mounts x f in
            let itself : x ≡ it x.number = sym (found_itself world.mounts kept.one_number x t.0) in
            let up = later (root_of x) child g in (
              through place x.number child goes (at x f) (subst (λ y. Over world gone (root_of y) child) itself up.0),
              up.1,
            )
        one x f false stays g later =
            let same : x.number ≡ child = same_Some x.number child g in (
              here place child (ap (λ k. (it k).mount_point) (sym same) ∙ at x f),
              ap (is_going nat_eq gone) (sym same) ∙ stays,
            )

        by : (o : Option (Mount ℕ)) → child_at nat_eq world.mounts place ≡ o → then_some o (λ (x : Mount ℕ).
            if is_going nat_eq gone x.number then over_from n world.mounts gone (root_of x) else Some x.number)
            ≡ Some child → ((p : Location ℕ) (c : ℕ) → over_from n world.mounts gone p ≡ Some c
            → Over world gone p c × (is_going nat_eq gone c ≡ false))
            → Over world gone place child × (is_going nat_eq gone child ≡ false)
        by None f g later = absurd (true≢false (sym (ap is_some g)))
        by (Some x) f g later = one x f (is_going nat_eq gone x.number) refl g later

    -- what is found there stands over the place, and is not gone
    pub found_over_place : (gone : List ℕ) (place : Location ℕ) {child : ℕ}
        → standing_over world.mounts gone place ≡ Some child
        → Over world gone place child × (is_going nat_eq gone child ≡ false)
    found_over_place gone place {child} e = found_is_over gone (length world.mounts) place e
