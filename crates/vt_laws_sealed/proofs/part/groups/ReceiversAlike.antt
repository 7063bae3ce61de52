-- The receivers of a group of theirs are the same in the world and in the part.
use Rattle.std.proofs.Common.{◌≡◌, refl, sym, ap, ◌∙◌, ◌⊎◌, inl, inr, ⊎_elim, ℕ, nat_eq, true, false, cond, true≢false, List, [], ◌∷◌, Option, Some, None, filter, length, map, not, ◌||◌, ◌≤◌, arith, unwrap_or, filter_map}
use Rattle.vt_spec.proofs.Common.{Among, HasLivingGroups, Lives, Mount, MountInvariants, Task, TaskName, World, among-filter, among-from_filter, among-map, among_from_all, among_from_contains, among_from_list_all, and_parts, any_among, any_from_among, common_steps, false_from_ne_true, group_of, groups_up, has_master, has_members, has_no_master, holds_of, is_among, is_at, is_member_of, is_own_mount, is_own_namespace, locations, master_of, members, none_is_some, not-true, or_left, or_right, other_mounts, own_mounts, part_of, receivers, receives, roots_and_directories, seen_by_descriptor, shares_no_events, source_of, when}
use Rattle.vt_laws_mounts.proofs.GroupsUp.{source_from_group}
use Rattle.vt_laws_sealed.proofs.Common.{Way, along_chain, chains_alike, ends, goes_on}
use Rattle.vt_laws_sealed.proofs.part.Kept.{filter_both, length-filter_map}
use Rattle.vt_laws_sealed.proofs.part.groups.EventsApart.{Hears, above_lives, heard_above, master_by, member_group, members_of, none_hears, sides, start_hears}
use Rattle.vt_laws_sealed.specs.Part.Groups.{NoEventOfTheirsReachesOthers, TheirGroupsReceiveAlike}
use Rattle.vt_laws_sealed.proofs.part.part.PartOfPart.{is_own, keep, kept_how}

module _ (world : World ℕ) (names : List TaskName) (is : MountInvariants nat_eq world)
    (apart : shares_no_events nat_eq world names ≡ true) where
  abbrev owns : List (Mount ℕ)
  owns = own_mounts nat_eq world names

  abbrev others : List (Mount ℕ)
  others = other_mounts nat_eq world names

  abbrev theirs : List (Task ℕ)
  theirs = members world names

  abbrev part : World ℕ
  part = part_of nat_eq world names

  abbrev kept : Mount ℕ → Option (Mount ℕ)
  kept = keep world names theirs

  abbrev pub Living : ℕ → Type 0
  Living group = Lives (has_members nat_eq world.mounts) world.master group

  abbrev OwnHears : ℕ → Type 0
  OwnHears = Hears world names is apart

  -- the other way round: a mount of another namespace hears the group
  abbrev pub OtherHears : ℕ → Type 0
  OtherHears group = (other : Mount ℕ) × Among other others
      × ((group_of other.propagation ≡ Some group) ⊎ (master_of world other.propagation ≡ Some group))

  pub none_other : (group : ℕ) (own : Mount ℕ) → OtherHears group → Among own owns
      → is_member_of nat_eq group own ≡ true → ⊥
  none_other group own known there is_in =
      grind (arith, common_steps, among_from_list_all, not-true, or_left, or_right, true≢false)

  abbrev pub OtherLives : ℕ → Type 0
  OtherLives group = OtherHears group × Living group

  pub other_above : (group lower : ℕ) → world.master lower ≡ Some group → OtherLives lower → OtherLives group
  other_above group lower e (heard, lives) =
      let found = any_among (is_member_of nat_eq lower) world.mounts (members_of world names is apart lower lives) in
      let is_in = member_group lower found.0 found.2 in (
        ⊎_elim (λ own. absurd (none_other lower found.0 heard own found.2))
            (λ other. (found.0, other, inr (master_by world lower group e found.0.propagation is_in)))
            (sides world names is apart found.0 lower found.1 is_in),
        above_lives world names is apart group lower e lives,
      )

  -- whatever receives from a group of theirs is theirs
  pub none_receives : (group : ℕ) (other : Mount ℕ) → OwnHears group → Living group → Among other others
      → Among other world.mounts → receives nat_eq world group other ≡ false
  none_receives group other heard lives there among =
      false_from_ne_true _ (λ h. by (source_of other.propagation) refl h)
    where
      by : (o : Option ℕ) → source_of other.propagation ≡ o
          → holds_of (λ source. is_among nat_eq group (groups_up world source)) o ≡ true → ⊥
      by None e h = cc
      by (Some source) e h =
          let reached = along_chain world.master OtherLives other_above (length world.mounts) source group (
            (other, there, start_hears world source other.propagation e),
            among_from_all (HasLivingGroups nat_eq world) world.mounts is.groups other among source e,
          ) h in
          let found = any_among (is_member_of nat_eq group) world.mounts
          (members_of world names is apart group lives) in
          ⊎_elim (λ own. none_other group found.0 reached.0 own found.2)
          (λ outside. none_hears world names is apart group found.0 heard outside found.2)
          (sides world names is apart found.0 group found.1 (member_group group found.0 found.2))

  -- an own mount is a member of each group that is heard
  pub own_member : (group : ℕ) → OwnHears group → Living group
      → (own : Mount ℕ) × Among own owns × (is_member_of nat_eq group own ≡ true)
  own_member group heard lives =
      let found = any_among (is_member_of nat_eq group) world.mounts (members_of world names is apart group lives) in
      ⊎_elim (λ own. (found.0, own, found.2))
      (λ outside. absurd (none_hears world names is apart group found.0 heard outside found.2))
      (sides world names is apart found.0 group found.1 (member_group group found.0 found.2))

  abbrev group_numbers : List ℕ
  group_numbers = map (λ (mount : Mount ℕ). unwrap_or (group_of mount.propagation) 0) owns

  listed : (group : ℕ) → OwnHears group → Living group → Among group group_numbers
  listed group heard lives = grind (arith, common_steps, own_member, member_group, among-map)

  same_master : (group : ℕ) → OwnHears group → Living group → part.master group ≡ world.master group
  same_master group heard lives =
      let own = own_member group heard lives in
      ap (λ b. cond b (world.master group) None) (any_from_among (is_member_of nat_eq group) owns own.0 own.1 own.2)

  way : (group : ℕ) → OwnHears group → (lives : Living group)
      → Way world.master part.master (λ g. g) group_numbers group
  way group heard (has_no_master g members none) =
      ends g none (same_master g heard (has_no_master g members none) ∙ none)
  way group heard (has_master g above members e lives) =
      goes_on g above e (same_master g heard (has_master g above members e lives) ∙ e)
      (listed g heard (has_master g above members e lives))
      (way above (heard_above world names is apart above g e (heard, has_master g above members e lives)).0 lives)

  own_fewer : (list : List (Mount ℕ)) → length (filter (is_own world names theirs) list) ≤ length (filter_map kept list)
  own_fewer [] = omega arith
  own_fewer (x ∷ rest) = grind (arith, common_steps, is_own, own_fewer rest)

  -- the groups up from a group of theirs
  pub same_up : (group : ℕ) → OwnHears group → Living group → groups_up part group ≡ groups_up world group
  same_up group heard lives =
      grind (arith, common_steps, own_fewer world.mounts, length-filter_map kept world.mounts, chains_alike, way)

  -- an own mount receives alike
  same_receives : (group : ℕ) (own : Mount ℕ) → Among own owns → Among own world.mounts
      → receives nat_eq part group own ≡ receives nat_eq world group own
  same_receives group own m there = by (source_of own.propagation) refl
    where
      by : (o : Option ℕ) → source_of own.propagation ≡ o
          → holds_of (λ source. is_among nat_eq group (groups_up part source)) o
          ≡ holds_of (λ source. is_among nat_eq group (groups_up world source)) o
      by None e = refl
      by (Some source) e = ap (is_among nat_eq group) (same_up source (own, m, start_hears world source _ e)
          (among_from_all (HasLivingGroups nat_eq world) world.mounts is.groups own there source e))

  -- a mount is theirs, in another namespace, or in none and private
  place_of : (x : Mount ℕ) → Among x world.mounts
      → (Among x owns × (is_own world names theirs x ≡ true)) ⊎ (Among x others ⊎ (source_of x.propagation ≡ None))
  place_of x m = grind (arith, common_steps, true≢false, is_own, and_parts, among_from_list_all, among-filter)

  no_source : (in_world : World ℕ) (group : ℕ) (x : Mount ℕ) → source_of x.propagation ≡ None
      → receives nat_eq in_world group x ≡ false
  no_source in_world group x e = ap (holds_of (λ source. is_among nat_eq group (groups_up in_world source))) e

  -- in the part, too, nothing of others receives
  none_in_part : (group : ℕ) (other : Mount ℕ) → OwnHears group → Living group → Among other others
      → receives nat_eq part group other ≡ false
  none_in_part group other heard lives there = false_from_ne_true _ (λ h. by (source_of other.propagation) refl h)
    where
      up : (group lower : ℕ) → part.master lower ≡ Some group → OtherHears lower → OtherHears group
      up group lower e other_hears = grind (arith, common_steps, any_among, none_other, none_is_some)

      by : (o : Option ℕ) → source_of other.propagation ≡ o
          → holds_of (λ source. is_among nat_eq group (groups_up part source)) o ≡ true → ⊥
      by None e h = cc
      by (Some source) e h =
          let own = own_member group heard lives in
          none_other group own.0 (along_chain part.master OtherHears up (length part.mounts) source group
          (other, there, start_hears world source other.propagation e) h) own.1 own.2

  -- the receivers of a group of theirs
  pub same_receivers : (group : ℕ) → OwnHears group → Living group
      → receivers nat_eq part group ≡ receivers nat_eq world group
  same_receivers group heard lives = filter_both kept _ _ world.mounts (λ x m h. ⊎_elim (λ own. (
    ap (λ b. cond (b || is_at nat_eq (roots_and_directories theirs) x) (Some x)
        (when (is_at nat_eq (locations theirs) x) (seen_by_descriptor x))) own.1,
    same_receives group x own.0 m ∙ h,
  )) (λ not_own. absurd (true≢false (sym h ∙ ⊎_elim (λ other. none_receives group x heard lives other m)
      (λ none. no_source world group x none) not_own))) (place_of x m)) (λ x y m h e. ⊎_elim
      (λ same. ap (receives nat_eq part group) (sym same) ∙ ⊎_elim (λ own. same_receives group x own.0 m ∙ h)
      (λ not_own. ⊎_elim (λ other. none_in_part group x heard lives other)
      (λ none. no_source part group x none) not_own) (place_of x m))
      (λ stub. ap (receives nat_eq part group) (sym stub.0)) (kept_how world names theirs x y e))

group_lives : (world : World ℕ) (names : List TaskName) (own : Mount ℕ) (group : ℕ) → MountInvariants nat_eq world
    → Among own (own_mounts nat_eq world names) → group_of own.propagation ≡ Some group
    → Lives (has_members nat_eq world.mounts) world.master group
group_lives world names own group mounts there e =
    among_from_all (HasLivingGroups nat_eq world) world.mounts mounts.groups own
    (among-from_filter (is_own_mount nat_eq world names) world.mounts own there).0 group
    (source_from_group own.propagation group e)

pub no_event_of_theirs_reaches_others : NoEventOfTheirsReachesOthers
no_event_of_theirs_reaches_others world names own other group alone own_there other_there e =
    let there = among_from_contains (own_mounts nat_eq world names) own own_there in
    let outside = among_from_contains (other_mounts nat_eq world names) other other_there in
    none_receives world names alone.mounts alone.apart group other (own, there, inl e)
    (group_lives world names own group alone.mounts there e) outside
    (among-from_filter (λ mount. holds_of (λ n. not (is_own_namespace nat_eq world names n)) mount.namespace)
    world.mounts other outside).0

pub their_groups_receive_alike : TheirGroupsReceiveAlike
their_groups_receive_alike world names own group alone own_there e =
    let there = among_from_contains (own_mounts nat_eq world names) own own_there in
    same_receivers world names alone.mounts alone.apart group (own, there, inl e)
    (group_lives world names own group alone.mounts there e)
