-- What goes when mounts get other places.
use Rattle.std.proofs.Common.{◌≡◌, refl, sym, ap, subst, ◌∙◌, inl, inr, ⊎_elim, ℕ, nat_eq, eqb-true, eq-eqb, true, false, true≢false, List, [], ◌∷◌, filter, Option, Some, is_some, option_to_list, ◌||◌}
use Rattle.vt_spec.proofs.Common.{Location, Mount, World, any_pair, cases_Bool, false_from_ne_true, has_child, holds_of, is_among, is_located, is_nowhere_or_attached, list_all, mount_in, mount_lives, mount_numbered, or_parts}
use Rattle.vt_laws_mounts.specs.LettingGo.Detaching.{DetachingLetsGo, MovesOne, with_changed}
use Rattle.vt_laws_mounts.specs.LettingGo.InUse.{AllInUse}
use Rattle.vt_laws_mounts.specs.LettingGo.Mounting.{MovesSome, MovingLetsGo, places_moved}
use Rattle.vt_laws_mounts.proofs.letting_go.leaving.Detached.{found-map, not_found-map}
use Rattle.vt_laws_mounts.proofs.letting_go.Lists.{Among, none_among, among-filter, among-filter_map, among-from_map, among-map, among_from_list_all}
use Rattle.vt_laws_mounts.proofs.letting_go.leaving.PlacesLeft.{found_itself}
use Rattle.vt_laws_mounts.proofs.letting_go.mounting.MountingLosers.{Loses, losers_go}

pub loses : (world : World ℕ) (moved : List ℕ) (change : Mount ℕ → Mount ℕ) (master : ℕ → Option ℕ) → AllInUse world
    → MovesSome moved change → list_all is_nowhere_or_attached (with_changed world change master).mounts ≡ true
    → Loses world (with_changed world change master) [] (places_moved world moved)
loses world moved change master in_use moves nowhere = record {
  images = λ mount m. (
    change mount,
    (
      among-map change world.mounts mount m,
      ((λ i. record { mount = moves.number mount i; node = moves.root mount i }), moves.filesystem mount),
    ),
  );
  shown = λ location m. ⊎_elim (λ e. e) (λ found. ap (λ x. x.filesystem)
      (found-map change moves.number world.mounts location.mount found.0 found.1 found.2 found.3)
      ∙ moves.filesystem (mount_in nat_eq world.mounts location.mount))
      (not_found-map change moves.number world.mounts location.mount);
  live = λ last m isnt. let from = among-from_map change world.mounts last m in
      ap (mount_lives nat_eq world) from.2
      ∙ (λ i. is_some (moves.namespace from.0 i) || is_located nat_eq world (moves.number from.0 i))
      ∙ among_from_list_all (mount_lives nat_eq world) world.mounts in_use.mounts from.0 from.1;
  locations = λ location m. inl (inl m);
  places = λ mount m place p. ⊎_elim (λ is. inr (among-filter_map (λ x. x.mount_point)
      (filter (λ x. is_among nat_eq x.number moved) world.mounts) mount place
      (among-filter (λ x. is_among nat_eq x.number moved) world.mounts mount m is) p)) (λ isnt. inl (
        change mount,
        (among-map change world.mounts mount m, (moves.mount_point mount isnt ∙ p, inl refl)),
      )) (cases_Bool (is_among nat_eq mount.number moved));
  nowhere = nowhere;
}

pub moving_lets_go : MovingLetsGo
moving_lets_go world moved groups change master settles moves nowhere hears = losers_go world _ master _ _ [] _ groups
    settles (loses world moved change master settles.in_use moves nowhere) hears

-- One mount on which no other stands leaves its mount point
one_loses : (world : World ℕ) (number : ℕ) (change : Mount ℕ → Mount ℕ) (master : ℕ → Option ℕ) → AllInUse world
    → MovesOne number change → has_child nat_eq world number ≡ false
    → any_pair (λ (a b : Mount ℕ). nat_eq a.number b.number) world.mounts ≡ false
    → list_all is_nowhere_or_attached (with_changed world change master).mounts ≡ true
    → Loses world (with_changed world change master) (number ∷ [])
    (option_to_list (mount_numbered nat_eq world number).mount_point)
one_loses world number change master in_use moves alone one nowhere = record {
  images = λ mount m. (
    change mount,
    (
      among-map change world.mounts mount m,
      ((λ i. record { mount = moves.number mount i; node = moves.root mount i }), moves.filesystem mount),
    ),
  );
  shown = λ location m. ⊎_elim (λ e. e) (λ found. ap (λ x. x.filesystem)
      (found-map change moves.number world.mounts location.mount found.0 found.1 found.2 found.3)
      ∙ moves.filesystem (mount_in nat_eq world.mounts location.mount))
      (not_found-map change moves.number world.mounts location.mount);
  live = λ last m isnt. let from = among-from_map change world.mounts last m in
      let other : nat_eq from.0.number number ≡ false = (or_parts (nat_eq from.0.number number) false
      (cc (moves.number from.0, from.2))).0 in
      ap (mount_lives nat_eq world) from.2
      ∙ (λ i. is_some (moves.namespace from.0 other i) || is_located nat_eq world (moves.number from.0 i))
      ∙ among_from_list_all (mount_lives nat_eq world) world.mounts in_use.mounts from.0 from.1;
  locations = λ location m. inl (inl m);
  places = λ mount m place p. ⊎_elim (λ is. inr (subst (λ o. Among place (option_to_list o))
      (sym p ∙ ap (λ (x : Mount ℕ). x.mount_point) (sym (found_itself world.mounts one mount m))
      ∙ ap (λ n. (mount_in nat_eq world.mounts n).mount_point) (eqb-true mount.number number is)) (inl refl)))
      (λ isnt. inl (
        change mount,
        (among-map change world.mounts mount m, (moves.mount_point mount isnt ∙ p, inl (not_on mount m place p))),
      )) (cases_Bool (nat_eq mount.number number));
  nowhere = nowhere;
}
  where
    -- no mount stands on it
    not_on : (mount : Mount ℕ) → Among mount world.mounts → (place : Location ℕ) → mount.mount_point ≡ Some place
        → (nat_eq place.mount number || false) ≡ false
    not_on mount m place p = ap (λ b. b || false) (false_from_ne_true _
        (λ is. true≢false (sym (ap (holds_of (λ l. nat_eq number l.mount)) p ∙ eq-eqb number place.mount
        (sym (eqb-true place.mount number is))) ∙ none_among _ _ alone mount m)))

pub detaching_lets_go : DetachingLetsGo
detaching_lets_go world number change master groups settles moves alone nowhere hears =
    losers_go world _ master _ _ _ _ groups settles (one_loses world number change master settles.in_use moves alone
    settles.mounts.one_number nowhere) hears
