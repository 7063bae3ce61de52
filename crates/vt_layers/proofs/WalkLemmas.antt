-- Walks to layers, one after another.
use Rattle.std.proofs.Common.{◌≡◌, ◌≤◌, ℕ, suc, List, [], ◌∷◌, ◌++◌, Result, Ok, Err, Option, Some, length, take, nat_eq, refl, sym, ap, ◌∙◌, arith, append-nil, append_assoc, take_all}
use Rattle.vt_spec.proofs.Common.{Here, LayerLocations, Looks, Task, and_then, each_walked, source_walk, take-append-le, walk_end, walked_if_given}
use Rattle.vt_spec.specs.declared.errors.Deny.{Deny}
use Rattle.vt_spec.specs.Machine.Mounts as meant
use Rattle.vt_location.specs.declared.locations.Location.{Location}
use Rattle.vt_location.specs.Locations.{location_of}
use Rattle.vt_walk.specs.WalkValue.{location_end}
use Rattle.vt_layers.specs.LayersValue.{first_layers, first_lowers, lowers_of}
use Rattle.vt_layers.specs.declared.walks.Lower.{Lower}
use Rattle.vt_layers.specs.declared.walks.TheConstants.{KEPT_LOWERS}

abbrev Locations : Type 0
Locations = List (meant.Location ℕ)

-- what was walked to, and then the others, as many as are kept
abbrev pub kept_before : Locations → Result Locations Deny → Result Locations Deny
kept_before before (Ok rest) = Ok (take KEPT_LOWERS (before ++ rest))
kept_before before (Err deny) = Err deny

pub kept_before-none : (rest : Result Locations Deny) → kept_before [] rest ≡ first_lowers rest
kept_before-none (Ok rest) = refl
kept_before-none (Err deny) = refl

-- the walk to the first of the layers
module _ (looks : Looks ℕ) (task : Task ℕ) where
  abbrev first_walked : Result (Here ℕ) Deny → Result Locations Deny → Result Locations Deny
  first_walked end others = and_then end (λ here. and_then others (λ rest. Ok (here.location ∷ rest)))

  refused_first : (before : Locations) (others : Result Locations Deny) (end : Result (Here ℕ) Deny) (deny : Deny)
      → Err deny ≡ location_end end → Err deny ≡ kept_before before (first_walked end others)
  refused_first before others (Ok here) deny e = absurd cc
  refused_first before others (Err other) deny e = cc

  pub walk-refused : (before : Locations) (paths rest : List (List ℕ)) (path : List ℕ) (deny : Deny)
      → paths ≡ path ∷ rest → Err deny ≡ location_end (walk_end (source_walk nat_eq looks task path))
      → Err deny ≡ kept_before before (each_walked nat_eq looks task paths)
  walk-refused before paths rest path deny cut e =
      refused_first before (each_walked nat_eq looks task rest) (walk_end (source_walk nat_eq looks task path)) deny e
      ∙ ap (λ all. kept_before before (each_walked nat_eq looks task all)) (sym cut)

  reached_first : (before : Locations) (others : Result Locations Deny) (end : Result (Here ℕ) Deny)
      (at : meant.Location ℕ) → Ok at ≡ location_end end
      → kept_before (before ++ at ∷ []) others ≡ kept_before before (first_walked end others)
  reached_first before (Ok rest) (Ok here) at e =
      let same : at ≡ here.location = cc in
      rw same (ap (λ all. Ok (take KEPT_LOWERS all)) (append_assoc before (here.location ∷ []) rest))
  reached_first before (Err deny) (Ok here) at e = refl
  reached_first before others (Err deny) at e = absurd cc

  pub walk-kept : (before : Locations) (paths rest : List (List ℕ)) (path : List ℕ) (at : meant.Location ℕ)
      → paths ≡ path ∷ rest → Ok at ≡ location_end (walk_end (source_walk nat_eq looks task path))
      → kept_before (before ++ at ∷ []) (each_walked nat_eq looks task rest)
      ≡ kept_before before (each_walked nat_eq looks task paths)
  walk-kept before paths rest path at cut e =
      reached_first before (each_walked nat_eq looks task rest) (walk_end (source_walk nat_eq looks task path)) at e
      ∙ ap (λ all. kept_before before (each_walked nat_eq looks task all)) (sym cut)

  -- where so many are kept, others are not
  enough_first : (before : Locations) (others : Result Locations Deny) (end : Result (Here ℕ) Deny)
      (at : meant.Location ℕ) → length before ≡ KEPT_LOWERS → Ok at ≡ location_end end
      → kept_before before others ≡ kept_before before (first_walked end others)
  enough_first before (Ok rest) (Ok here) at full e =
      let enough : KEPT_LOWERS ≤ length before = omega (arith, full) in
      ap Ok (take-append-le KEPT_LOWERS before rest enough
      ∙ sym (take-append-le KEPT_LOWERS before (here.location ∷ rest) enough))
  enough_first before (Err deny) (Ok here) at full e = refl
  enough_first before others (Err deny) at full e = absurd cc

  pub walk-passed : (before : Locations) (paths rest : List (List ℕ)) (path : List ℕ) (at : meant.Location ℕ)
      → paths ≡ path ∷ rest → length before ≡ KEPT_LOWERS
      → Ok at ≡ location_end (walk_end (source_walk nat_eq looks task path))
      → kept_before before (each_walked nat_eq looks task rest)
      ≡ kept_before before (each_walked nat_eq looks task paths)
  walk-passed before paths rest path at cut full e =
      enough_first before (each_walked nat_eq looks task rest) (walk_end (source_walk nat_eq looks task path)) at full e
      ∙ ap (λ all. kept_before before (each_walked nat_eq looks task all)) (sym cut)

  pub walks-ended : (before : Locations) (paths : List (List ℕ)) → paths ≡ [] → length before ≤ KEPT_LOWERS
      → Ok before ≡ kept_before before (each_walked nat_eq looks task paths)
  walks-ended before paths none few =
      ap Ok (sym (take_all KEPT_LOWERS (before ++ []) (rw (append-nil before) few) ∙ append-nil before))
      ∙ ap (λ all. kept_before before (each_walked nat_eq looks task all)) (sym none)

  -- the walk to a directory that may be given
  pub given-refused : (path : List ℕ) (deny : Deny)
      → Err deny ≡ location_end (walk_end (source_walk nat_eq looks task path))
      → Err deny ≡ walked_if_given nat_eq looks task (Some path)
  given-refused path deny e = by_end (walk_end (source_walk nat_eq looks task path)) e where
    by_end : (end : Result (Here ℕ) Deny) → Err deny ≡ location_end end
        → Err deny ≡ and_then end (λ here. Ok (Some here.location))
    by_end (Ok here) e = absurd cc
    by_end (Err other) e = cc

-- one list is kept of so many
pub lowers-push : (lowers : List Lower) (at : Location)
    → lowers_of (lowers ++ record { at = at } ∷ []) ≡ lowers_of lowers ++ location_of at ∷ []
lowers-push [] at = refl
lowers-push (lower ∷ rest) at = ap (λ more. location_of lower.at ∷ more) (lowers-push rest at)

pub lowers-length : (lowers : List Lower) → length (lowers_of lowers) ≡ length lowers
lowers-length [] = refl
lowers-length (lower ∷ rest) = ap suc (lowers-length rest)

-- the walks to all layers, one after another
abbrev Given : Type 0
Given = Result (Option (meant.Location ℕ)) Deny

abbrev together : Result Locations Deny → Given → Given → Result (LayerLocations ℕ) Deny
together lowers upper work = and_then lowers (λ lowers. and_then upper (λ upper. and_then work (λ work.
    Ok (record { lowers = lowers; upper = upper; work = work }))))

pub lowers-denied : (lowers : Result Locations Deny) (upper work : Given) (deny : Deny)
    → Err deny ≡ first_lowers lowers → Err deny ≡ first_layers (together lowers upper work)
lowers-denied (Ok lowers) upper work deny e = absurd cc
lowers-denied (Err other) upper work deny e = cc

pub upper-denied : (lowers : Result Locations Deny) (upper work : Given) (first : Locations) (deny : Deny)
    → Ok first ≡ first_lowers lowers → Err deny ≡ upper → Err deny ≡ first_layers (together lowers upper work)
upper-denied (Ok lowers) (Ok upper) work first deny e f = absurd cc
upper-denied (Ok lowers) (Err other) work first deny e f = cc
upper-denied (Err other) upper work first deny e f = absurd cc

pub work-denied : (lowers : Result Locations Deny) (upper work : Given) (first : Locations)
    (given : Option (meant.Location ℕ)) (deny : Deny)
    → Ok first ≡ first_lowers lowers → Ok given ≡ upper → Err deny ≡ work
    → Err deny ≡ first_layers (together lowers upper work)
work-denied (Ok lowers) (Ok upper) (Ok work) first given deny e f h = absurd cc
work-denied (Ok lowers) (Ok upper) (Err other) first given deny e f h = cc
work-denied (Ok lowers) (Err other) work first given deny e f h = absurd cc
work-denied (Err other) upper work first given deny e f h = absurd cc

pub all-walked : (lowers : Result Locations Deny) (upper work : Given) (first : Locations)
    (given scratch : Option (meant.Location ℕ)) → Ok first ≡ first_lowers lowers → Ok given ≡ upper → Ok scratch ≡ work
    → Ok (record { lowers = first; upper = given; work = scratch }) ≡ first_layers (together lowers upper work)
all-walked (Ok lowers) (Ok upper) (Ok work) first given scratch e f h =
    let one : first ≡ take KEPT_LOWERS lowers = cc in
    let two : given ≡ upper = cc in
    let three : scratch ≡ work = cc in
    λ i. Ok (record { lowers = one i; upper = two i; work = three i })
all-walked (Ok lowers) (Ok upper) (Err other) first given scratch e f h = absurd cc
all-walked (Ok lowers) (Err other) work first given scratch e f h = absurd cc
all-walked (Err other) upper work first given scratch e f h = absurd cc
