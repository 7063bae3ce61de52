-- Mounts that cover one another, each at the root of the one before: nothing covers the topmost.
use Rattle.std.proofs.Common.{◌≡◌, refl, sym, ap, subst, ◌∙◌, false, nat_eq, ℕ, List, None, Option, Some, [], arith, eqb-true, inl, inr, length, option_map, suc, zero, ⊎_elim, ◌<◌, ◌∷◌, ◌⊎◌}
use Rattle.vt_spec.proofs.Common.{Among, Location, Mount, World, among-map, any_pair, chain, chain_ends, chain_goes_on, child_at, common_steps, false_from_ne_true, last_of_chain, last_or, length-map, none_from_among, or_from, root_of}
use Rattle.vt_laws_mounts.specs.Mounts.Attaching.{OneNumberAMount, numbers_of}
use Rattle.vt_laws_mounts.specs.Mounts.Standing.{AllStand}
use Rattle.vt_laws_mounts.proofs.attached.Attaching.{cover}
use Rattle.vt_laws_mounts.proofs.mounts.MountsFound.{found_in}
use Rattle.vt_laws_mounts.proofs.mounts.MountsPlaces.{stands_there}
use Rattle.vt_laws_mounts.proofs.mounts.MountsReplaced.{found_itself}
use Rattle.vt_laws_mounts.proofs.mounts.Standing.{fewer_numbers, rank, rank_child}

-- so many mounts cover one another from a place to the root of the last
data Covers (list : List (Mount ℕ)) : ℕ → Location ℕ → Location ℕ → Type 0 where
  none : (here : Location ℕ) → Covers list zero here here
  next : (n : ℕ) (here end : Location ℕ) (child : Mount ℕ) → child_at nat_eq list here ≡ Some child
      → Covers list n (root_of child) end → Covers list (suc n) here end

module _ (list : List (Mount ℕ)) where
  -- the last of so many steps through the mounts over a place
  abbrev end_of : ℕ → Location ℕ → Location ℕ
  end_of n here = last_or here (chain n (cover list) here)

  -- a walk through the mounts over a place ends, or takes all its steps
  ends_or_covers : (n : ℕ) (here : Location ℕ)
      → (child_at nat_eq list (end_of n here) ≡ None) ⊎ Covers list n here (end_of n here)
  ends_or_covers zero here = inr (none here)
  ends_or_covers (suc n) here = by _ refl (ends_or_covers n)
    where
      by : (child : Option (Mount ℕ)) → child_at nat_eq list here ≡ child
          → ((place : Location ℕ) → (child_at nat_eq list (end_of n place) ≡ None)
          ⊎ Covers list n place (end_of n place))
          → (child_at nat_eq list (end_of (suc n) here) ≡ None) ⊎ Covers list (suc n) here (end_of (suc n) here)
      by None e later =
          let end : end_of (suc n) here ≡ here =
          ap (last_or here) (chain_ends (cover list) n here (ap (option_map root_of) e)) in
          inl (ap (child_at nat_eq list) end ∙ e)
      by (Some child) e later =
          let end : end_of (suc n) here ≡ end_of n (root_of child) =
          ap (last_or here) (chain_goes_on _ n here _ (ap (option_map root_of) e)) ∙ last_of_chain _ n _ here in
          ⊎_elim (λ done. inl (ap (child_at nat_eq list) end ∙ done)) (λ steps.
          inr (next n here (end_of (suc n) here) child e (subst (Covers list n (root_of child)) (sym end) steps)))
          (later (root_of child))

  one_more : (n : ℕ) (here end : Location ℕ) (child : Mount ℕ) → Covers list n here end
      → child_at nat_eq list end ≡ Some child → Covers list (suc n) here (root_of child)
  one_more n here end child (none it) e = next zero it (root_of child) child e (none (root_of child))
  one_more n here end child (next k it last first f steps) e =
      next (suc k) it (root_of child) first f (one_more k _ last child steps e)

  visited : (n : ℕ) (here end : Location ℕ) → Covers list n here end → List ℕ
  visited n here end (none it) = []
  visited n here end (next k it last child e steps) = child.number ∷ visited k _ last steps

  visited_length : (n : ℕ) (here end : Location ℕ) (steps : Covers list n here end)
      → length (visited n here end steps) ≡ n
  unfolding visited
  visited_length n here end (none it) = refl
  visited_length n here end (next k it last child e steps) = ap suc (visited_length k _ last steps)

  visited_there : (n : ℕ) (here end : Location ℕ) (steps : Covers list n here end) (number : ℕ)
      → Among number (visited n here end steps) → Among number (numbers_of list)
  unfolding visited
  visited_there n here end (none it) number m = absurd m
  visited_there n here end (next k it last child e steps) number m = ⊎_elim
      (λ same. subst (λ x. Among x (numbers_of list)) (sym same) (among-map _ list child (found_in _ list child e).0))
      (visited_there k _ last steps number) m

  module _ (world : World ℕ) (one : OneNumberAMount world.mounts) (all : AllStand world)
      (are_there : (mount : Mount ℕ) → Among mount list → Among mount world.mounts) where
    abbrev depth_of : ℕ → ℕ
    depth_of = rank world one all

    cover_rank : (here : Location ℕ) (child : Mount ℕ) → child_at nat_eq list here ≡ Some child
        → depth_of child.number ≡ suc (depth_of here.mount)
    cover_rank here child e =
        let found = found_in _ list child e in
        grind (arith, common_steps, rank_child, found_itself, stands_there)

    visited_deeper : (n : ℕ) (here end : Location ℕ) (steps : Covers list n here end) (number : ℕ)
        → Among number (visited n here end steps) → depth_of here.mount < depth_of number
    unfolding visited
    visited_deeper n here end (none it) number m = absurd m
    visited_deeper n here end (next k it last child e steps) number m =
        grind (arith, common_steps, cover_rank, visited_deeper k (root_of child) last steps number)

    visited_apart : (n : ℕ) (here end : Location ℕ) (steps : Covers list n here end)
        → any_pair nat_eq (visited n here end steps) ≡ false
    unfolding visited
    visited_apart n here end (none it) = refl
    visited_apart n here end (next k it last child e steps) =
        or_from _ _ (none_from_among _ _ (λ number m. false_from_ne_true _ (λ same.
        let level : depth_of child.number ≡ depth_of number = ap depth_of (eqb-true child.number number same) in
        let further : depth_of child.number < depth_of number = visited_deeper k _ last steps number m in
        absurd (omega (arith, level, further))))) (visited_apart k _ last steps)

    -- nothing covers what is topmost
    pub topmost_free : (here : Location ℕ) → child_at nat_eq list (end_of (length list) here) ≡ None
    topmost_free here = by _ refl
      where
        by : (child : Option (Mount ℕ)) → child_at nat_eq list (end_of (length list) here) ≡ child
            → child_at nat_eq list (end_of (length list) here) ≡ None
        by None e = e
        by (Some child) e = ⊎_elim (λ done. done) (λ steps.
            let n = suc (length list) in
            let end = root_of child in
            let more = one_more _ here _ child steps e in
            let few = fewer_numbers _ _ (visited_apart n here end more) (visited_there n here end more) in
            let long = visited_length n here end more in
            let size = length-map list (λ (mount : Mount ℕ). mount.number) in
            absurd (omega (arith, few, long, size))) (ends_or_covers _ here)
