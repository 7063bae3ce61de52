-- Where mounts of a sealed set change, and others come that are theirs, others are as they were.
use Rattle.std.proofs.Common.{arith, ◌≡◌, refl, sym, ap, subst, ◌∙◌, ◌⊎◌, inl, inr, ⊎_elim, ℕ, nat_eq, Bool, true, false, cond, List, [], ◌∷◌, ◌++◌, Option, Some, None, filter, find, map, not, ◌||◌, eq-eqb, unwrap_or}
use Rattle.vt_spec.proofs.Common.{Among, Filesystem, Layer, Location, Mount, Task, TaskName, World, all_locations, among-append, among-append_left, among-append_right, among-filter, among-from_filter, among-from_map, among-map, among_from_list_all, any_from_among, change_layers, common_steps, holds_of, is_among, is_member_task, is_own_mount, is_own_namespace, layers_of, list_all_from_among, locations, locations_of, members, mount_at, mount_in, no_mount, of_overlay, other_mounts, outsiders, own_mounts, shares_no_events, used_directly}
use Rattle.vt_laws_containers.proofs.Common.{Grows, IsApart, IsSealed, among-flat_map_filter, apart_if_sealed, as_before, grown_world, is_new, located_there, own_how, shows_still, used_directly_used}
use Rattle.vt_laws_containers.proofs.footholds.AsBefore.{GoesOn, OthersAsBefore}
use Rattle.vt_laws_containers.proofs.scripts.UsedThere.{IsThere}

-- an upper or work layer is a layer
written_layer : (filesystem : Filesystem ℕ) (number : ℕ) → Among number (change_layers filesystem)
    → (layer : Layer ℕ) × Among layer (of_overlay [] layers_of filesystem) × (number ≡ layer.filesystem)
written_layer filesystem number = grind (arith, common_steps, among-from_map, among-append_left)

module _ {world : World ℕ} {names : List TaskName} (sealing : IsSealed world names) {change : Mount ℕ → Mount ℕ}
    {added : List (Mount ℕ)} {new_ones : List (Filesystem ℕ)} {master : ℕ → Option ℕ}
    (grows : Grows world names change added new_ones master) where
  apart : IsApart world names
  apart = apart_if_sealed sealing

  abbrev left : World ℕ
  left = grown_world world names change added new_ones master

  abbrev ours : ℕ → Bool
  ours = is_own_namespace nat_eq world names

  abbrev owns : Mount ℕ → Bool
  owns = is_own_mount nat_eq world names

  abbrev is_out : Mount ℕ → Bool
  is_out mount = holds_of (λ n. not (ours n)) mount.namespace

  own_not_out : (o : Option ℕ) → holds_of ours o ≡ true → holds_of (λ n. not (ours n)) o ≡ false
  own_not_out None own = refl
  own_not_out (Some n) own = ap not own

  -- The mounts of others stay.
  none_added : (list : List (Mount ℕ)) → ((x : Mount ℕ) → Among x list → Among x added) → filter is_out list ≡ []
  none_added [] sub = refl
  none_added (x ∷ rest) sub =
      cc (own_not_out x.namespace (grows.ours x (sub x (inl refl))), none_added rest (λ y m. sub y (inr m)))

  outs_stay : (list : List (Mount ℕ)) → ((x : Mount ℕ) → Among x list → Among x world.mounts)
      → filter is_out (map change list ++ added) ≡ filter is_out list
  outs_stay [] sub = none_added added (λ x m. m)
  outs_stay (x ∷ rest) sub = grind (
    arith,
    common_steps,
    outs_stay rest (λ y m. sub y (inr m)),
    grows.kept x (sub x (inl refl)),
    grows.others x (sub x (inl refl)),
    own_not_out,
  )

  pub others_stay : other_mounts nat_eq left names ≡ other_mounts nat_eq world names
  others_stay = outs_stay world.mounts (λ x m. m)

  -- Locations
  numbered_there : (l : Location ℕ) → Among l (all_locations world)
      → is_among nat_eq l.mount (map (λ (m : Mount ℕ). m.number) world.mounts) ≡ true
  numbered_there l m =
      let at = located_there apart l m in
      grind (arith, common_steps, any_from_among, among-map)

  placed : (test : Task ℕ → Bool) (l : Location ℕ) → Among l (locations (filter test world.tasks))
      → Among l (all_locations world)
  placed test = among-flat_map_filter locations_of test world.tasks

  shown_still : (l : Location ℕ) → Among l (all_locations world)
      → (mount_at nat_eq left l).filesystem ≡ (mount_at nat_eq world l).filesystem
  shown_still l m = shows_still grows l.mount (numbered_there l m)

  owned_still : (x : Mount ℕ) → Among x world.mounts → owns (change x) ≡ owns x
  owned_still x m = grind (arith, common_steps)

  sides_still : (number : ℕ) → is_among nat_eq number (map (λ (m : Mount ℕ). m.number) world.mounts) ≡ true
      → owns (mount_in nat_eq left.mounts number) ≡ owns (mount_in nat_eq world.mounts number)
  sides_still number = search world.mounts (λ x m. m)
    where
      search : (list : List (Mount ℕ)) → ((x : Mount ℕ) → Among x list → Among x world.mounts)
          → is_among nat_eq number (map (λ (m : Mount ℕ). m.number) list) ≡ true
          → owns (mount_in nat_eq (map change list ++ added) number) ≡ owns (mount_in nat_eq list number)
      search [] sub h = cc
      search (x ∷ rest) sub h = cc (
        (as_before grows x (sub x (inl refl))).0,
        by (nat_eq number x.number) h (search rest (λ y m. sub y (inr m))),
      )
        where
          by : (b : Bool) → (b || is_among nat_eq number (map (λ (m : Mount ℕ). m.number) rest)) ≡ true
              → (is_among nat_eq number (map (λ (m : Mount ℕ). m.number) rest) ≡ true
              → owns (mount_in nat_eq (map change rest ++ added) number) ≡ owns (mount_in nat_eq rest number))
              → owns (unwrap_or (cond b (Some (change x))
              (find (λ (m : Mount ℕ). nat_eq number m.number) (map change rest ++ added))) (no_mount number))
              ≡ owns (unwrap_or (cond b (Some x) (find (λ (m : Mount ℕ). nat_eq number m.number) rest))
              (no_mount number))
          by true g later = owned_still x (sub x (inl refl))
          by false g later = later g

  none_on_own : (l : Location ℕ) → Among l (locations (outsiders world names))
      → not (owns (mount_at nat_eq left l)) ≡ true
  none_on_own l m = ap not
      (sides_still _ (numbered_there l (placed (λ (t : Task ℕ). not (is_member_task names t)) l m)))
      ∙ among_from_list_all (λ k. not (owns (mount_at nat_eq world k))) _ apart.locations l m

  -- Filesystems
  new_is_not_there : (number : ℕ) → is_new world names change added new_ones master number ≡ true
      → IsThere world number → ⊥
  new_is_not_there number new there =
      cc (there.2, new, grows.unlisted there.0 there.1)

  goes_on : (f : Filesystem ℕ) → Among f left.filesystems → GoesOn world names f
  goes_on f m = ⊎_elim (λ old. inl (f, old, refl, refl)) (λ new. inr (
    new_is_not_there _ (any_from_among (λ (g : Filesystem ℕ). nat_eq f.number g.number) _ f new (eq-eqb _ _ refl)),
    λ number n. let layer = written_layer f _ n in
        cc (layer.2, used_directly_used world names _ (grows.layers f new layer.0 layer.1)),
  )) (among-append _ _ f m)

  abbrev mounted : List ℕ
  mounted = map (λ (x : Mount ℕ). x.filesystem) (own_mounts nat_eq world names)

  abbrev located_at : List ℕ
  located_at = map (λ (l : Location ℕ). (mount_at nat_eq world l).filesystem) (locations (members world names))

  shown_was : (y : Mount ℕ) → Among y left.mounts → owns y ≡ true
      → Among y.filesystem (used_directly nat_eq world names) ⊎ (IsThere world y.filesystem → ⊥)
  shown_was y m own = ⊎_elim (λ old. inl
      (among-append_left _ _ _ (subst (λ n. Among n mounted) (sym (cc (old.3, (as_before grows old.0 old.1).1)))
      (among-map (λ (x : Mount ℕ). x.filesystem) _ old.0 (among-filter owns _ old.0 old.1 old.2)))))
      (λ more. ⊎_elim inl (λ new. inr (new_is_not_there _ new)) (grows.shown y more)) (own_how grows y m own)

  direct_was : (number : ℕ) → Among number (used_directly nat_eq left names)
      → Among number (used_directly nat_eq world names) ⊎ (IsThere world number → ⊥)
  direct_was number m = ⊎_elim (λ shown. let at = among-from_map (λ (x : Mount ℕ). x.filesystem) _ _ shown in
      let from = among-from_filter owns _ at.0 at.1 in
      subst (λ n. Among n (used_directly nat_eq world names) ⊎ (IsThere world n → ⊥)) (sym at.2)
      (shown_was at.0 from.0 from.1))
      (λ there. let at = among-from_map (λ (l : Location ℕ). (mount_at nat_eq left l).filesystem) _ _ there in
      inl
      (among-append_right _ _ _ (subst (λ n. Among n located_at) (sym (at.2 ∙ shown_still at.0 (placed _ at.0 at.1)))
      (among-map (λ (l : Location ℕ). (mount_at nat_eq world l).filesystem) _ at.0 at.1)))) (among-append _ _ _ m)

  pub grown_as_before : shares_no_events nat_eq left names ≡ true → OthersAsBefore world left names names
  grown_as_before events = record {
    others = refl;
    mounts = others_stay;
    shown = λ l m. shown_still l (placed (λ (t : Task ℕ). not (is_member_task names t)) l m);
    tasks = apart.tasks;
    events = events;
    places = list_all_from_among (λ l. not (owns (mount_at nat_eq left l))) _ none_on_own;
    filesystems = goes_on;
    direct = direct_was;
  }
