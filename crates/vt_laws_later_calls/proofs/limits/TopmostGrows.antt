-- The topmost mount over a place once one more mount is stacked there.
use Rattle.std.proofs.Common.{◌≡◌, ap, ℕ, zero, suc, nat_eq, Bool, true, false, cond, List, [], ◌∷◌, ◌++◌, Option, None, Some, length, option_map, arith, length-append}
use Rattle.vt_spec.proofs.Common.{Location, Mount, chain, chain_ends, chain_goes_on, child_at, common_steps, find-append, last_or, none_is_some, root_of, stands_at, topmost}

-- a chain that ended goes on by one step
module _ {A : Type 0} (step : A → Option A) {grown : A → Option A} {end next : A}
    (kept : (a b : A) → step a ≡ Some b → grown a ≡ Some b) (ended : grown end ≡ Some next) (ends : grown next ≡ None)
  where
    one_more_step : (n : ℕ) (a d : A) → a ≡ end → last_or d (chain (suc n) grown a) ≡ next
    one_more_step zero a d is = cc (chain_goes_on grown zero a next (cc))
    one_more_step (suc n) a d is = cc (chain_goes_on grown (suc n) a next (cc), chain_ends grown n next ends)

    -- wherever it began
    pub chain_grows : (n : ℕ) (a d e : A) → last_or d (chain n step a) ≡ end → last_or e (chain (suc n) grown a) ≡ next
    chain_grows zero a d e is = one_more_step zero a e is
    chain_grows (suc n) a d e is =
        grind (arith, common_steps, one_more_step, chain_ends, chain_goes_on, kept, chain_grows n)

module _ (mounts : List (Mount ℕ)) (new : Mount ℕ) (top : Location ℕ) where
  abbrev step_up : List (Mount ℕ) → Location ℕ → Option (Location ℕ)
  step_up list here = option_map root_of (child_at nat_eq list here)

  -- a child that there was is found first
  child_stays : (here : Location ℕ) (child : Mount ℕ) → child_at nat_eq mounts here ≡ Some child
      → child_at nat_eq (mounts ++ (new ∷ [])) here ≡ Some child
  child_stays here child is = cc (find-append _ mounts (new ∷ []))

  -- where no child was, the new mount is one if it stands there
  child_alone : (here : Location ℕ) (stands : Bool) → child_at nat_eq mounts here ≡ None
      → stands_at nat_eq here new ≡ stands → child_at nat_eq (mounts ++ (new ∷ [])) here ≡ cond stands (Some new) None
  child_alone here stands none is = cc (find-append _ mounts (new ∷ []))

  -- a mount on the root of the topmost one is the topmost
  pub topmost_is_new : (place : Location ℕ) → topmost nat_eq mounts place ≡ top → child_at nat_eq mounts top ≡ None
      → stands_at nat_eq top new ≡ true → child_at nat_eq mounts (root_of new) ≡ None
      → stands_at nat_eq (root_of new) new ≡ false → topmost nat_eq (mounts ++ (new ∷ [])) place ≡ root_of new
  topmost_is_new place is free stands nothing apart =
      let counted = length-append mounts (new ∷ []) in
      let longer : length (mounts ++ (new ∷ [])) ≡ suc (length mounts) = omega arith in
      cc (chain_grows (step_up mounts) kept (ap (option_map root_of) (child_alone top true free stands))
      (ap (option_map root_of) (child_alone (root_of new) false nothing apart)) (length mounts) place place place is)
    where
      kept : (a b : Location ℕ) → step_up mounts a ≡ Some b → step_up (mounts ++ (new ∷ [])) a ≡ Some b
      kept a b e = grind (arith, common_steps, none_is_some, child_stays)

-- the topmost mount over a free place is that place
pub topmost_of_free : (mounts : List (Mount ℕ)) (place : Location ℕ) → child_at nat_eq mounts place ≡ None
    → topmost nat_eq mounts place ≡ place
topmost_of_free mounts place free = grind (arith, common_steps, chain_ends)
