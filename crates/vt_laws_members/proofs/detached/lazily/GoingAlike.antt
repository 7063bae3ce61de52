-- What an unmount event of a mount of theirs detaches is theirs, and the same in the part, as soon as mounts have their
-- invariants and share no events with others.
use Rattle.std.proofs.Common.{inr, arith, ◌≡◌, refl, sym, ap, subst, ◌∙◌, ⊎_elim, inl, ℕ, nat_eq, Bool, true, false, true≢false, not, List, [], ◌∷◌, Option, Some, None, map, option_map, unwrap_or, filter_map}
use Rattle.vt_spec.proofs.Common.{cases_Bool, Among, Location, Mount, MountInvariants, Task, TaskName, World, among-filter, among-from_filter, among-from_filter_map, among-from_map, among_from_list_all, and_parts, child_at, children, common_steps, contains_from_among, found_among, found_passes, goes_at, going, going_at, going_from, group_of, holds_of, is_own_mount, is_own_namespace, is_shared, may_go, members, mount_at, mount_numbered, none_is_some, or_left, other_mounts, own_mounts, part_of, receivers, receivers_of, receives, same_Some, shares_no_events, source_of, stands_at, stands_on, then_some, when}
use Rattle.vt_laws_members.proofs.Common.{filter_both, filter_map_same, is_own, keep, kept_how, kept_whole, namespace_below, no_event_of_theirs_reaches_others, numbered, same_child, stands_there, their_groups_receive_alike}
use Rattle.vt_laws_sealed.specs.Part.Groups.{SharesNoEvents}
use Rattle.vt_laws_members.proofs.judging.Grounds.{IsTheirs, child_theirs, its_mount, own_by, parent_theirs, same_mount, stands_itself, theirs_whole}
use Rattle.vt_laws_members.proofs.judging.MountTrees.{stands_where}

-- a mount in no namespace receives from no group
alone_source : (world : World ℕ) (mount : Mount ℕ) → MountInvariants nat_eq world → Among mount world.mounts
    → mount.namespace ≡ None → source_of mount.propagation ≡ None
alone_source world mount is m none = grind (arith, common_steps, and_parts, among_from_list_all, true≢false)

module _ (world : World ℕ) (names : List TaskName) (invariants : MountInvariants nat_eq world)
    (events : shares_no_events nat_eq world names ≡ true) where
  abbrev theirs : List (Task ℕ)
  theirs = members world names

  abbrev part : World ℕ
  part = part_of nat_eq world names

  abbrev owns : Mount ℕ → Bool
  owns = is_own world names theirs

  abbrev kept : Mount ℕ → Option (Mount ℕ)
  kept = keep world names theirs

  abbrev On : ℕ → Type 0
  On = IsTheirs world names invariants

  apart : SharesNoEvents world names
  apart = record { mounts = invariants; apart = events }

  -- Children

  own_whole : (mount : Mount ℕ) → owns mount ≡ true → kept mount ≡ Some mount
  own_whole mount own = kept_whole world names theirs mount (or_left (owns mount) _ own)

  own_theirs : (mount : Mount ℕ) → Among mount world.mounts → owns mount ≡ true → On mount.number
  own_theirs mount m own = (mount, m, refl, inl own)

  child_own : (number : ℕ) (child : Mount ℕ) → On number → Among child world.mounts
      → stands_on nat_eq number child ≡ true → owns child ≡ true
  child_own number child own m h =
      let at = stands_where number child h in
      child_theirs world names invariants at.0 child (subst On at.2 own) m at.1

  children_alike : (number : ℕ) → On number → children nat_eq part.mounts number ≡ children nat_eq world.mounts number
  children_alike number own = filter_both kept _ _ world.mounts (λ x m h. (own_whole x (child_own number x own m h), h))
      (λ x y m h e. ⊎_elim (λ same. cc) (λ stub. cc stub.0) (kept_how world names theirs x y e))

  -- Receivers

  pub receivers_own : (mount receiver : Mount ℕ) → Among mount world.mounts → owns mount ≡ true
      → Among receiver (receivers_of nat_eq world mount) → Among receiver world.mounts × (owns receiver ≡ true)
  receivers_own mount receiver m own at = by (group_of mount.propagation) refl at
    where
      side : Among receiver world.mounts → (group : ℕ) → group_of mount.propagation ≡ Some group
          → receives nat_eq world group receiver ≡ true → (o : Option ℕ) → receiver.namespace ≡ o → owns receiver ≡ true
      side there group e hears None f = cc (alone_source world receiver invariants there f)
      side there group e hears (Some n) f = elim (cases_Bool (is_own_namespace nat_eq world names n)) [
        | inl its ↦ cc
        | inr other ↦ absurd (true≢false
            (sym hears ∙ no_event_of_theirs_reaches_others world names mount receiver group apart
            (contains_from_among (own_mounts nat_eq world names) mount (among-filter (is_own_mount nat_eq world names)
            world.mounts mount m own)) (contains_from_among (other_mounts nat_eq world names) receiver
            (among-filter (λ (x : Mount ℕ). holds_of (λ k. not (is_own_namespace nat_eq world names k)) x.namespace)
            world.mounts receiver there (cc))) e))
      ]

      by : (o : Option ℕ) → group_of mount.propagation ≡ o
          → Among receiver (unwrap_or (option_map (receivers nat_eq world) o) [])
          → Among receiver world.mounts × (owns receiver ≡ true)
      by None e at = absurd at
      by (Some group) e at =
          let from = among-from_filter (receives nat_eq world group) world.mounts receiver at in
          (from.0, side from.0 group e from.1 receiver.namespace refl)

  pub receivers_alike : (mount : Mount ℕ) → Among mount world.mounts → owns mount ≡ true
      → receivers_of nat_eq part mount ≡ receivers_of nat_eq world mount
  receivers_alike mount m own = by (group_of mount.propagation) refl
    where
      by : (o : Option ℕ) → group_of mount.propagation ≡ o
          → unwrap_or (option_map (receivers nat_eq part) o) [] ≡ unwrap_or (option_map (receivers nat_eq world) o) []
      by None e = refl
      by (Some group) e = their_groups_receive_alike world names mount group apart
          (contains_from_among (own_mounts nat_eq world names) mount (among-filter _ world.mounts mount m own)) e

  -- What an event detaches

  standing_own : (at : Location ℕ) (child : Mount ℕ) → On at.mount → child_at nat_eq world.mounts at ≡ Some child
      → Among child world.mounts × (owns child ≡ true)
  standing_own at child own e =
      let m = found_among (stands_at nat_eq at) world.mounts child e in (
        m,
        child_theirs world names invariants at child own m
            (stands_there at child (found_passes (stands_at nat_eq at) world.mounts child e)),
      )

  goes_alike : (node : ℕ) (receiver : Mount ℕ) → Among receiver world.mounts → owns receiver ≡ true
      → goes_at nat_eq part node receiver ≡ goes_at nat_eq world node receiver
  goes_alike node receiver m own =
      let it : On receiver.number = own_theirs receiver m own in
      cc (
        same_child world names invariants at (theirs_whole world names invariants at.mount it),
        by (child_at nat_eq world.mounts at) (λ child e. standing_own at child it e),
      )
    where
      at : Location ℕ
      at = record { mount = receiver.number; node = node }

      by : (o : Option (Mount ℕ)) → ((child : Mount ℕ) → o ≡ Some child → Among child world.mounts
          × (owns child ≡ true)) → then_some o (λ (child : Mount ℕ). when (may_go nat_eq part child) child)
          ≡ then_some o (λ (child : Mount ℕ). when (may_go nat_eq world child) child)
      by None its = refl
      by (Some child) its =
          let t = its child refl in
          cc (children_alike child.number (own_theirs child t.0 t.1))

  -- the mount below one of theirs
  below_own : (mount : Mount ℕ) (point : Location ℕ) → Among mount world.mounts → owns mount ≡ true
      → mount.mount_point ≡ Some point
      → On point.mount × Among (mount_at nat_eq world point) world.mounts × (owns (mount_at nat_eq world point) ≡ true)
  below_own mount point m own e =
      let at : (mount_numbered nat_eq world mount.number).mount_point ≡ Some point =
      ap (λ (x : Mount ℕ). x.mount_point) (numbered world names invariants mount m) ∙ e in
      let below = parent_theirs world names invariants mount.number point (own_theirs mount m own) at in (
        below,
        subst (λ x. Among x world.mounts) (sym (its_mount world names invariants point.mount below)) below.1,
        own_by world names invariants (mount_at nat_eq world point) mount
            (sym (namespace_below world mount.number point (stands_itself world names invariants mount m) at)
            ∙ ap (λ (x : Mount ℕ). x.namespace) (numbered world names invariants mount m)) own,
      )

  from_alike : (mount : Mount ℕ) (point : Location ℕ) → Among mount world.mounts → owns mount ≡ true
      → mount.mount_point ≡ Some point
      → going_from nat_eq part mount point (is_shared (mount_at nat_eq part point).propagation)
      ≡ going_from nat_eq world mount point (is_shared (mount_at nat_eq world point).propagation)
  from_alike mount point m own e =
      let below = below_own mount point m own e in
      let parent : Mount ℕ = mount_at nat_eq world point in
      cc (
        same_mount world names invariants point.mount below.0,
        by parent below.1 below.2 (is_shared parent.propagation),
      )
    where
      by_parent : World ℕ → Mount ℕ → Bool → List ℕ
      by_parent w parent true = map (λ (gone : Mount ℕ). gone.number) (filter_map (goes_at nat_eq w point.node)
          (receivers_of nat_eq w parent))
      by_parent w parent false = mount.number ∷ []

      by : (parent : Mount ℕ) → Among parent world.mounts → owns parent ≡ true → (b : Bool)
          → by_parent part parent b ≡ by_parent world parent b
      by parent there its b = grind (arith, common_steps, receivers_alike, filter_map_same, receivers_own, goes_alike)

  pub going_alike : (mount : Mount ℕ) → Among mount world.mounts → owns mount ≡ true
      → going nat_eq part mount ≡ going nat_eq world mount
  going_alike mount m own = grind (arith, common_steps, from_alike)

  -- what goes is theirs
  goes_own : (node : ℕ) (receiver gone : Mount ℕ) → Among receiver world.mounts → owns receiver ≡ true
      → goes_at nat_eq world node receiver ≡ Some gone → Among gone world.mounts × (owns gone ≡ true)
  goes_own node receiver gone m own e = by (child_at nat_eq world.mounts at) refl e
    where
      at : Location ℕ
      at = record { mount = receiver.number; node = node }

      which : (child : Mount ℕ) → child_at nat_eq world.mounts at ≡ Some child → (b : Bool) → when b child ≡ Some gone
          → Among gone world.mounts × (owns gone ≡ true)
      which child f true e = rw (← same_Some child gone e) (standing_own at child (own_theirs receiver m own) f)
      which child f false e = none_is_some gone e

      by : (o : Option (Mount ℕ)) → child_at nat_eq world.mounts at ≡ o
          → then_some o (λ (child : Mount ℕ). when (may_go nat_eq world child) child) ≡ Some gone
          → Among gone world.mounts × (owns gone ≡ true)
      by None f e = none_is_some gone e
      by (Some child) f e = which child f (may_go nat_eq world child) e

  pub going_own : (mount : Mount ℕ) (number : ℕ) → Among mount world.mounts → owns mount ≡ true
      → Among number (going nat_eq world mount)
      → (gone : Mount ℕ) × Among gone world.mounts × (owns gone ≡ true) × (gone.number ≡ number)
  going_own mount number m own at = by mount.mount_point refl at
    where
      alone : Among number (mount.number ∷ [])
          → (gone : Mount ℕ) × Among gone world.mounts × (owns gone ≡ true) × (gone.number ≡ number)
      alone at = ⊎_elim (λ same. (mount, m, own, sym same)) (λ none. absurd none) at

      which : (point : Location ℕ) → mount.mount_point ≡ Some point → (b : Bool)
          → Among number (going_from nat_eq world mount point b)
          → (gone : Mount ℕ) × Among gone world.mounts × (owns gone ≡ true) × (gone.number ≡ number)
      which point e true at =
          let from = among-from_map (λ (gone : Mount ℕ). gone.number) _ number at in
          let gone = among-from_filter_map (goes_at nat_eq world point.node)
          (receivers_of nat_eq world (mount_at nat_eq world point)) from.0 from.1 in
          let below = below_own mount point m own e in
          let receiver = receivers_own (mount_at nat_eq world point) gone.0 below.1 below.2 gone.1 in
          let its = goes_own point.node gone.0 from.0 receiver.0 receiver.1 gone.2 in
          (from.0, its.0, its.1, sym from.2)
      which point e false at = alone at

      by : (o : Option (Location ℕ)) → mount.mount_point ≡ o → Among number (going_at nat_eq world mount o)
          → (gone : Mount ℕ) × Among gone world.mounts × (owns gone ≡ true) × (gone.number ≡ number)
      by None e at = alone at
      by (Some point) e at = which point e (is_shared (mount_at nat_eq world point).propagation) at
