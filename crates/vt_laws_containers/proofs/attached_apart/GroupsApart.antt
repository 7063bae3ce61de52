-- Where mounts of a sealed set come, in groups that the set hears or in new ones, mounts share no events with others.
use Rattle.std.proofs.Common.{arith, ◌≡◌, refl, sym, ap, ◌∙◌, ◌⊎◌, inl, inr, ⊎_elim, ℕ, nat_eq, true, List, [], ◌∷◌, ◌++◌, Option, Some, map, not, eqb-true}
use Rattle.vt_spec.proofs.Common.{Among, Filesystem, Fresh, HasLivingGroups, Mount, Private, Propagation, Serves, Shared, Slave, TaskName, Unbindable, World, among-from_filter, among_from_all, any_among, common_steps, false_from_ne_true, folded, group_of, holds_of, is_member_of, is_own_mount, is_own_namespace, list_all, list_all_from_among, master_of, masters_with, none_is_some, or_cases, other_mounts, own_mounts, receives_events_of, share_events, shares_no_events, source_of}
use Rattle.vt_laws_containers.proofs.types_apart.GroupsApart.{in_group, master_in}
use Rattle.vt_laws_containers.proofs.Common.{Grows, IsNewBy, IsSealed, Living, StandsApart, above_lives, apart_if_sealed, grown_world, member_group, member_of_heard, members_of, not_heard, other_hears_foreign, standing_apart_with}
use Rattle.vt_laws_containers.proofs.attached_apart.CopiesHear.{AreOf}
use Rattle.vt_laws_containers.proofs.attached_apart.GrownAsBefore.{others_stay}

-- a master is the old one, or one that was set
masters_how : (group : ℕ) (made : List (ℕ × Option ℕ)) (master : ℕ → Option ℕ)
    → (folded (masters_with nat_eq) master made group ≡ master group)
    ⊎ ((entry : ℕ × Option ℕ) × Among entry made × (group ≡ entry.0)
    × (folded (masters_with nat_eq) master made group ≡ entry.1))
masters_how group [] master = inl refl
masters_how group (entry ∷ rest) master =
    grind (arith, common_steps, eqb-true, masters_how group rest (masters_with nat_eq master entry))

module _ {world : World ℕ} {names : List TaskName} (sealing : IsSealed world names) (fresh : Fresh ℕ)
    (serves : Serves nat_eq world fresh) where
  abbrev so_far : StandsApart world names (IsNewBy fresh)
  so_far = standing_apart_with world names (apart_if_sealed sealing) fresh serves

  abbrev HearsIn : World ℕ → Propagation ℕ → ℕ → Type 0
  HearsIn in_world kind group = (group_of kind ≡ Some group) ⊎ (master_of in_world kind ≡ Some group)

  -- a group that a mount of theirs hears, or a new one
  abbrev pub Ours : ℕ → Type 0
  Ours group = ((own : Mount ℕ) × Among own (own_mounts nat_eq world names) × HearsIn world own.propagation group)
      ⊎ IsNewBy fresh group

  pub source_ours : (own : Mount ℕ) → Among own (own_mounts nat_eq world names) → (group : ℕ)
      → source_of own.propagation ≡ Some group → Ours group
  source_ours own m group e = inl (own, m, by own.propagation e)
    where
      by : (kind : Propagation ℕ) → source_of kind ≡ Some group → HearsIn world kind group
      by (Shared g) h = inl h
      by (Slave g) h = inr h
      by Private h = none_is_some group h
      by Unbindable h = none_is_some group h

  above_ours : (group above : ℕ) → Ours group → world.master group ≡ Some above → Ours above
  above_ours group above its e = ⊎_elim
      (λ heard. let member = member_of_heard so_far heard.0 heard.1 group heard.2 in
      inl (
        member.0,
        member.1,
        inr (master_in world member.0.propagation group (member_group group member.0 member.2) ∙ e),
      )) (λ new. none_is_some above (sym (so_far.new_master group new) ∙ e)) its

  -- a group that a mount hears has a member, so it is not new
  not_new : (mount : Mount ℕ) → Among mount world.mounts → (group : ℕ) → HearsIn world mount.propagation group
      → IsNewBy fresh group → ⊥
  not_new mount there group how new =
      let member = any_among (is_member_of nat_eq group) world.mounts
      (members_of world names so_far.mounts so_far.events group (lives mount.propagation refl how)) in
      so_far.new_group member.0 group member.1 (member_group group member.0 member.2) new
    where
      Lives : ℕ → Type 0
      Lives = Living world names so_far.mounts so_far.events

      of_source : (source : ℕ) → source_of mount.propagation ≡ Some source → Lives source
      of_source source e =
          among_from_all (HasLivingGroups nat_eq world) world.mounts so_far.mounts.groups mount there source e

      lives : (kind : Propagation ℕ) → mount.propagation ≡ kind → HearsIn world kind group → Lives group
      lives (Shared g) k h = ⊎_elim (λ e. of_source group (cc))
          (λ e. above_lives world names so_far.mounts so_far.events group g e (of_source g (ap source_of k))) h
      lives (Slave g) k h = ⊎_elim (λ e. none_is_some group e) (λ e. of_source group (cc)) h
      lives Private k h = ⊎_elim (λ e. none_is_some group e) (λ e. none_is_some group e) h
      lives Unbindable k h = ⊎_elim (λ e. none_is_some group e) (λ e. none_is_some group e) h

  -- no mount of others hears it
  unheard : (other : Mount ℕ) → Among other (other_mounts nat_eq world names) → (group : ℕ) → Ours group
      → HearsIn world other.propagation group → ⊥
  unheard other m group its how = ⊎_elim (λ heard. not_heard so_far heard.0 heard.1 group
      (other_hears_foreign so_far other m group how) heard.2) (λ new. not_new other
      (among-from_filter (λ (x : Mount ℕ). holds_of (λ n. not (is_own_namespace nat_eq world names n)) x.namespace)
      world.mounts other m).0 group how new) its

  -- The world that is left
  module _ {change : Mount ℕ → Mount ℕ} {added : List (Mount ℕ)} {new_ones : List (Filesystem ℕ)}
      (made : List (ℕ × Option ℕ))
      (grows : Grows world names change added new_ones (folded (masters_with nat_eq) world.master made))
      (sourced : (y : Mount ℕ) → Among y (map change world.mounts ++ added) → is_own_mount nat_eq world names y ≡ true
      → (g : ℕ) → source_of y.propagation ≡ Some g → Ours g)
      (made_ours : (entry : ℕ × Option ℕ) → Among entry made → AreOf Ours entry) where
    abbrev left : World ℕ
    left = grown_world world names change added new_ones (folded (masters_with nat_eq) world.master made)

    -- what is theirs hears groups of theirs,
    own_hears : (y : Mount ℕ) → Among y (own_mounts nat_eq left names) → (group : ℕ)
        → HearsIn left y.propagation group → Ours group
    own_hears y m group how = by y.propagation refl how
      where
        its_source : (g : ℕ) → source_of y.propagation ≡ Some g → Ours g
        its_source =
            let from = among-from_filter (is_own_mount nat_eq world names) left.mounts y m in
            sourced y from.0 from.1

        above : (g : ℕ) → Ours g → left.master g ≡ Some group → Ours group
        above g its e = ⊎_elim (λ same. above_ours g group its (cc))
            (λ set. (made_ours set.0 set.1).1 group (sym set.3 ∙ e)) (masters_how g made world.master)

        by : (kind : Propagation ℕ) → y.propagation ≡ kind → HearsIn left kind group → Ours group
        by (Shared g) k h =
            ⊎_elim (λ e. its_source group (cc)) (above g (its_source g (ap source_of k))) h
        by (Slave g) k h = ⊎_elim (λ e. none_is_some group e) (λ e. its_source group (cc)) h
        by Private k h = ⊎_elim (λ e. none_is_some group e) (λ e. none_is_some group e) h
        by Unbindable k h = ⊎_elim (λ e. none_is_some group e) (λ e. none_is_some group e) h

    -- and others hear what they heard
    other_hears : (other : Mount ℕ) → Among other (other_mounts nat_eq world names) → (group : ℕ)
        → HearsIn left other.propagation group → HearsIn world other.propagation group
    other_hears other m group how = by other.propagation refl how
      where
        above : (g : ℕ) → group_of other.propagation ≡ Some g → left.master g ≡ Some group → world.master g ≡ Some group
        above g is_in e = ⊎_elim (λ same. cc)
            (λ set. absurd (unheard other m set.0.0 (made_ours set.0 set.1).0 (inl (cc (set.2)))))
            (masters_how g made world.master)

        by : (kind : Propagation ℕ) → other.propagation ≡ kind → HearsIn left kind group → HearsIn world kind group
        by (Shared g) k h = ⊎_elim inl (λ e. inr (above g (ap group_of k) e)) h
        by (Slave g) k h = h
        by Private k h = h
        by Unbindable k h = h

    own_receives : (y other : Mount ℕ) → Among y (own_mounts nat_eq left names)
        → Among other (other_mounts nat_eq world names) → receives_events_of nat_eq left y other ≡ true → ⊥
    own_receives y other m n h = ⊎_elim (λ e. let found = in_group _ other e in
        unheard other n _ (own_hears y m _ (inl found.1)) (inl found.2)) (λ e. let found = in_group _ other e in
        unheard other n _ (own_hears y m _ (inr found.1)) (inl found.2)) (or_cases _ _ h)

    other_receives : (y other : Mount ℕ) → Among y (own_mounts nat_eq left names)
        → Among other (other_mounts nat_eq world names) → receives_events_of nat_eq left other y ≡ true → ⊥
    other_receives y other m n h = ⊎_elim (λ e. let found = in_group _ y e in
        unheard other n _ (own_hears y m _ (inl found.2)) (inl found.1)) (λ e. let found = in_group _ y e in
        unheard other n _ (own_hears y m _ (inl found.2)) (other_hears other n _ (inr found.1))) (or_cases _ _ h)

    pub groups_apart : shares_no_events nat_eq left names ≡ true
    groups_apart = ap (λ others. list_all (λ y. list_all (λ other. not (share_events nat_eq left y other)) others)
        (own_mounts nat_eq left names)) (others_stay sealing grows) ∙ list_all_from_among
        (λ y. list_all (λ other. not (share_events nat_eq left y other)) (other_mounts nat_eq world names)) _
        (λ y m. list_all_from_among (λ other. not (share_events nat_eq left y other)) _ (λ other n. ap not
        (false_from_ne_true _ (λ h. ⊎_elim (own_receives y other m n) (other_receives y other m n) (or_cases _ _ h)))))
