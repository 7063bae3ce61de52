-- Where mounts of a sealed set change their types, they are in groups that the set heard or in new ones, and others
-- keep theirs: so mounts share no events with others.
use Rattle.std.proofs.Common.{arith, ◌≡◌, refl, sym, ap, subst, ◌∙◌, ◌⊎◌, inl, inr, ⊎_elim, ℕ, nat_eq, Bool, true, false, cond, List, [], ◌∷◌, Option, Some, None, length, map, not, eq-eqb, eqb-true}
use Rattle.vt_spec.proofs.Common.{Among, Fresh, Mount, Private, Propagation, Serves, Shared, Slave, TaskName, TypeWord, Unbindable, World, among-from_filter, among-from_map, among-map, any_among, any_from_among, common_steps, false_from_ne_true, find-chain_start, found_among, group_of, groups_up, has_members, heir, holds_of, index_of, inherited, is_among_numbers, is_member_of, is_own_mount, is_own_namespace, list_all, list_all_from_among, map_same, master_after, master_of, none_is_some, not-true, numbers_by, or_cases, other_mounts, own_mounts, receives_events_of, same_Some, share_events, shares_no_events, slave_of_heir, source_of, type_after, with_master, with_new_groups}
use Rattle.vt_laws_containers.proofs.Common.{HearsGroup, IsApart, IsNewBy, IsSealed, NothingNew, OtherLives, StandsApart, apart_if_sealed, filter-map, found_itself, member_group, member_not_new, member_of_heard, members_of, none_other, not_heard, other_hears_foreign, sides, standing_apart, standing_apart_with, start_hears}
use Rattle.vt_laws_mounts.specs.LettingGo.Detaching.{with_changed}
use Rattle.vt_laws_mounts.proofs.mounts.Receivers.{along_chain}
use Rattle.vt_laws_members.proofs.types.Inherited.{kind_left, master_left, master_left_so}
use Rattle.vt_laws_members.proofs.types.Retyped.{is_named, kind_by, new_kind, new_masters, retyped_between, master_source}

pub master_in : (world : World ℕ) (kind : Propagation ℕ) (group : ℕ) → group_of kind ≡ Some group
    → master_of world kind ≡ world.master group
master_in world kind group e = grind (arith, common_steps, none_is_some, same_Some)

-- what a mount receives from after a change of type: what it received from, or its new group
source_after : (new : ℕ) (word : TypeWord) (kind : Propagation ℕ) (g : ℕ)
    → source_of (type_after new word kind) ≡ Some g → (source_of kind ≡ Some g) ⊎ (new ≡ g)
source_after new word kind g e = grind (arith, common_steps, same_Some, none_is_some)

-- a mount that is shared was so before groups inherit
shared_before : (t : World ℕ) (kind : Propagation ℕ) (g : ℕ) → group_of (inherited nat_eq t kind) ≡ Some g
    → group_of kind ≡ Some g
shared_before t kind g e = grind (arith, common_steps, none_is_some)

-- the group of which a mount is a member
pub in_group : (o : Option ℕ) (mount : Mount ℕ) → holds_of (λ group. is_member_of nat_eq group mount) o ≡ true
    → (group : ℕ) × (o ≡ Some group) × (group_of mount.propagation ≡ Some group)
in_group None mount h = cc
in_group (Some group) mount h = (group, refl, member_group group mount h)

module _ {world : World ℕ} {names : List TaskName} (sealing : IsSealed world names) {fresh : Fresh ℕ}
    (serves : Serves nat_eq world fresh) (word : TypeWord) (named : List (Mount ℕ))
    (named_own : (m : Mount ℕ) → Among m named → Among m (own_mounts nat_eq world names)) where
  abbrev apart : IsApart world names
  apart = apart_if_sealed sealing

  abbrev so_far : StandsApart world names NothingNew
  so_far = standing_apart world names apart

  abbrev owns : List (Mount ℕ)
  owns = own_mounts nat_eq world names

  abbrev others : List (Mount ℕ)
  others = other_mounts nat_eq world names

  abbrev is_out : Mount ℕ → Bool
  is_out mount = holds_of (λ n. not (is_own_namespace nat_eq world names n)) mount.namespace

  abbrev Hears : World ℕ → Propagation ℕ → ℕ → Type 0
  Hears in_world kind group = HearsGroup so_far in_world kind group

  -- a group that a mount of theirs hears, or a new one
  abbrev Ours : ℕ → Type 0
  Ours group = ((own : Mount ℕ) × Among own owns × Hears world own.propagation group) ⊎ IsNewBy fresh group

  abbrev kind : Mount ℕ → Propagation ℕ
  kind = new_kind fresh word named

  abbrev masters : ℕ → Option ℕ
  masters = new_masters fresh word named world

  abbrev t : World ℕ
  t = retyped_between fresh word named world

  abbrev pub kind_after : Mount ℕ → Propagation ℕ
  kind_after = kind_left world kind masters

  abbrev after : Mount ℕ → Mount ℕ
  after m = record m { propagation = kind_after m }

  abbrev pub left : World ℕ
  left = with_changed world after (master_left world kind masters)

  abbrev has : ℕ → Bool
  has g = has_members nat_eq t.mounts g

  -- Groups of theirs before the call
  source_ours : (own : Mount ℕ) → Among own owns → (group : ℕ) → source_of own.propagation ≡ Some group → Ours group
  source_ours own m group e = inl (own, m, start_hears world group own.propagation e)

  above_ours : (group above : ℕ) → Ours group → world.master group ≡ Some above → Ours above
  above_ours group above its e = ⊎_elim
      (λ heard. let member = member_of_heard so_far heard.0 heard.1 group heard.2 in
      inl (
        member.0,
        member.1,
        inr (master_in world member.0.propagation group (member_group group member.0 member.2)
            ∙ e),
      ))
      (λ new. none_is_some above
      (sym ((standing_apart_with world names apart fresh serves).new_master group new) ∙ e)) its

  -- Others hear none of them.
  other_lives : (other : Mount ℕ) → Among other others → (group : ℕ) → Hears world other.propagation group
      → OtherLives world names so_far.mounts so_far.events group
  other_lives other m group how =
      ⊎_elim (λ lives. lives) (λ none. absurd none) (other_hears_foreign so_far other m group how)

  unheard : (other : Mount ℕ) → Among other others → (group : ℕ) → Ours group → Hears world other.propagation group → ⊥
  unheard other m group its how = ⊎_elim (λ heard. not_heard so_far heard.0 heard.1 group
      (other_hears_foreign so_far other m group how) heard.2) (λ new. let member =
      any_among (is_member_of nat_eq group) world.mounts
      (members_of world names so_far.mounts so_far.events group (other_lives other m group how).1) in
      member_not_new world fresh serves member.0 group new.0 member.1 (member_group group member.0 member.2) new.1) its

  -- What is named is theirs.
  own_not_out : (o : Option ℕ) → holds_of (is_own_namespace nat_eq world names) o ≡ true
      → holds_of (λ n. not (is_own_namespace nat_eq world names n)) o ≡ true → ⊥
  own_not_out None own out = cc
  own_not_out (Some n) own out = cc (not-true (is_own_namespace nat_eq world names n) out)

  named_there : (m : Mount ℕ) → Among m world.mounts → is_named fresh word named m ≡ true → Among m owns
  named_there m n h =
      let other = any_among (λ (o : Mount ℕ). nat_eq m.number o.number) named h in
      let own = named_own other.0 other.1 in
      let there = (among-from_filter (is_own_mount nat_eq world names) world.mounts other.0 own).0 in
      grind (arith, common_steps, found_itself, there, eqb-true)

  other_unnamed : (other : Mount ℕ) → Among other others → is_named fresh word named other ≡ false
  other_unnamed other m = false_from_ne_true (is_named fresh word named other) (λ h.
      let at = among-from_filter is_out world.mounts other m in
      own_not_out other.namespace
      (among-from_filter (is_own_mount nat_eq world names) world.mounts other (named_there other at.0 h)).1 at.1)

  -- Types and masters before groups inherit
  masters_how : (g : ℕ) (list : List (Mount ℕ)) (a : ℕ → Option ℕ)
      → (with_new_groups nat_eq (numbers_by nat_eq fresh named) a list g ≡ a g) ⊎ IsNewBy fresh g
  masters_how g [] a = inl refl
  masters_how g (m ∷ rest) a = grind (
    arith,
    common_steps,
    eqb-true,
    masters_how g rest (with_master nat_eq a (numbers_by nat_eq fresh named m.number) (master_after m.propagation)),
  )

  masters_ours : (g above : ℕ) (a : ℕ → Option ℕ) → (a g ≡ Some above → Ours above) → (list : List (Mount ℕ))
      → ((m : Mount ℕ) → Among m list → Among m owns)
      → with_new_groups nat_eq (numbers_by nat_eq fresh named) a list g ≡ Some above → Ours above
  masters_ours g above a base [] own e = base e
  masters_ours g above a base (m ∷ rest) own e =
      masters_ours g above (with_master nat_eq a (numbers_by nat_eq fresh named m.number) (master_after m.propagation))
      (by (nat_eq g (numbers_by nat_eq fresh named m.number))) rest (λ x n. own x (inr n)) e
    where
      by : (b : Bool) → cond b (master_after m.propagation) (a g) ≡ Some above → Ours above
      by true f = source_ours m (own m (inl refl)) above (master_source m.propagation above f)
      by false f = base f

  up_ours : (above g : ℕ) → masters g ≡ Some above → Ours g → Ours above
  up_ours above g e its = masters_ours g above world.master (above_ours g above its) named named_own e

  heir_ours : (g found : ℕ) → Ours g → heir nat_eq t (Some g) ≡ Some found → Ours found
  heir_ours g found its e = along_chain masters Ours up_ours (length t.mounts) g found its
      (is_among_numbers (groups_up t g) found (found_among has (groups_up t g) found e))

  kind_ours : (m : Mount ℕ) → Among m owns → (g : ℕ) → source_of (kind m) ≡ Some g → Ours g
  kind_ours m own g = by (is_named fresh word named m)
    where
      by : (b : Bool) → source_of (kind_by fresh word named b m) ≡ Some g → Ours g
      by true e = ⊎_elim (source_ours m own g) (λ new. inr (index_of nat_eq named m.number, sym new))
          (source_after (numbers_by nat_eq fresh named m.number) word m.propagation g e)
      by false e = source_ours m own g e

  -- Types and masters that are left
  source_left : (m : Mount ℕ) → Among m owns → (g : ℕ) → source_of (kind_after m) ≡ Some g → Ours g
  source_left m own g = by (kind m) refl
    where
      of_heir : (s : ℕ) → Ours s → (o : Option ℕ) → heir nat_eq t (Some s) ≡ o
          → source_of (slave_of_heir o) ≡ Some g → Ours g
      of_heir s its None f e = none_is_some g e
      of_heir s its (Some above) f e = subst Ours (same_Some above g e) (heir_ours s above its f)

      by : (k : Propagation ℕ) → kind m ≡ k → source_of (inherited nat_eq t k) ≡ Some g → Ours g
      by (Shared h) f e = kind_ours m own g (cc)
      by (Slave s) f e = of_heir s (kind_ours m own s (ap source_of f)) (heir nat_eq t (Some s)) refl e
      by Private f e = none_is_some g e
      by Unbindable f e = none_is_some g e

  -- the master of a group with a member is the heir of what it was
  master_so : (m : Mount ℕ) → Among m world.mounts → (g : ℕ) → group_of (kind_after m) ≡ Some g
      → left.master g ≡ heir nat_eq t (masters g)
  master_so m n g e = master_left_so world kind _ g (any_from_among _ _ (record m { propagation = kind m })
      (among-map (λ (x : Mount ℕ). record x { propagation = kind x }) _ m n)
      (cc (shared_before t _ g e, eq-eqb g g refl)))

  above_left : (g : ℕ) → Ours g → (above : ℕ) → heir nat_eq t (masters g) ≡ Some above → Ours above
  above_left g its above = by (masters g) refl
    where
      by : (o : Option ℕ) → masters g ≡ o → heir nat_eq t o ≡ Some above → Ours above
      by None e f = none_is_some above f
      by (Some upper) e f = heir_ours upper above (up_ours upper g e its) f

  own_hears : (m : Mount ℕ) → Among m owns → (group : ℕ) → Hears left (kind_after m) group → Ours group
  own_hears m own group how = by (kind_after m) refl how
    where
      by : (k : Propagation ℕ) → kind_after m ≡ k → Hears left k group → Ours group
      by (Shared g) k h = ⊎_elim (λ e. source_left m own group (cc)) (λ e. above_left g (source_left m own g
          (ap source_of k)) group (sym (master_so m (among-from_filter _ _ m own).0 g (ap group_of k)) ∙ e)) h
      by (Slave g) k h = ⊎_elim (λ e. none_is_some group e) (λ e. source_left m own group (cc)) h
      by Private k h = ⊎_elim (λ e. none_is_some group e) (λ e. none_is_some group e) h
      by Unbindable k h = ⊎_elim (λ e. none_is_some group e) (λ e. none_is_some group e) h

  -- Others keep their types
  kind_kept : (other : Mount ℕ) → Among other others → kind other ≡ other.propagation
  kind_kept other m = ap (λ b. kind_by fresh word named b other) (other_unnamed other m)

  other_has : (other : Mount ℕ) → Among other others → (g : ℕ) → Hears world other.propagation g → has g ≡ true
  other_has other m g how =
      let lives = other_lives other m g how in
      let found = any_among (is_member_of nat_eq g) world.mounts
      (members_of world names so_far.mounts so_far.events g lives.1) in
      ⊎_elim (λ own. absurd (none_other world names so_far.mounts so_far.events g found.0 lives.0 own found.2))
      (λ out. any_from_among (is_member_of nat_eq g) t.mounts (record found.0 { propagation = kind found.0 })
      (among-map (λ (x : Mount ℕ). record x { propagation = kind x }) world.mounts found.0 found.1)
      (cc (kind_kept found.0 out, found.2)))
      (sides world names so_far.mounts so_far.events found.0 g found.1 (member_group g found.0 found.2))

  heir_kept : (other : Mount ℕ) → Among other others → (g : ℕ) → Hears world other.propagation g
      → heir nat_eq t (Some g) ≡ Some g
  heir_kept other m g how = find-chain_start has masters (length t.mounts) g (other_has other m g how)

  pub other_kept : (other : Mount ℕ) → Among other others → kind_after other ≡ other.propagation
  other_kept other m = cc (kind_kept other m, by other.propagation refl)
    where
      by : (k : Propagation ℕ) → other.propagation ≡ k → inherited nat_eq t k ≡ k
      by (Shared g) e = refl
      by (Slave g) e = ap slave_of_heir (heir_kept other m g (inr (ap (master_of world) e)))
      by Private e = refl
      by Unbindable e = refl

  pub others_kept : other_mounts nat_eq left names ≡ other_mounts nat_eq world names
  others_kept = filter-map is_out {q = is_out} after world.mounts (λ m. refl)
      ∙ map_same after others (λ m n. ap (λ k. record m { propagation = k }) (other_kept m n))

  -- and their masters.
  other_hears : (other : Mount ℕ) → Among other others → (group : ℕ) → Hears left other.propagation group
      → Hears world other.propagation group
  other_hears other m group how = by other.propagation refl how
    where
      there : Among other world.mounts
      there = (among-from_filter is_out world.mounts other m).0

      up : (g : ℕ) → other.propagation ≡ Shared g → (o : Option ℕ) → world.master g ≡ o
          → heir nat_eq t o ≡ Some group → o ≡ Some group
      up g e None f h = none_is_some group h
      up g e (Some upper) f h = sym (heir_kept other m upper (inr (cc))) ∙ h

      kept : (g : ℕ) → other.propagation ≡ Shared g → masters g ≡ world.master g
      kept g e = ⊎_elim (λ same. same) (λ new. absurd (unheard other m g (inr new) (inl (ap group_of e))))
          (masters_how g named world.master)

      by : (k : Propagation ℕ) → other.propagation ≡ k → Hears left k group → Hears world k group
      by (Shared g) k h = ⊎_elim inl (λ e. inr (up g k (world.master g) refl (sym (ap (heir nat_eq t) (kept g k))
          ∙ sym (master_so other there g (ap group_of (other_kept other m ∙ k))) ∙ e))) h
      by (Slave g) k h = h
      by Private k h = h
      by Unbindable k h = h

  own_receives : (m other : Mount ℕ) → Among m owns → Among other others
      → receives_events_of nat_eq left (after m) other ≡ true → ⊥
  own_receives m other own n h = ⊎_elim (λ e. let found = in_group _ other e in
      unheard other n _ (own_hears m own _ (inl found.1)) (inl found.2)) (λ e. let found = in_group _ other e in
      unheard other n _ (own_hears m own _ (inr found.1)) (inl found.2)) (or_cases _ _ h)

  other_receives : (m other : Mount ℕ) → Among m owns → Among other others
      → receives_events_of nat_eq left other (after m) ≡ true → ⊥
  other_receives m other own n h = ⊎_elim (λ e. let found = in_group _ (after m) e in
      unheard other n _ (own_hears m own _ (inl found.2)) (inl found.1)) (λ e. let found = in_group _ (after m) e in
      unheard other n _ (own_hears m own _ (inl found.2)) (other_hears other n _ (inr found.1))) (or_cases _ _ h)

  pub groups_apart : shares_no_events nat_eq left names ≡ true
  groups_apart = ap (λ outs. list_all (λ y. list_all (λ other. not (share_events nat_eq left y other)) outs)
      (own_mounts nat_eq left names)) others_kept
      ∙ ap (list_all (λ y. list_all (λ other. not (share_events nat_eq left y other)) others))
      (filter-map (is_own_mount nat_eq world names) {q = is_own_mount nat_eq world names} after world.mounts
      (λ m. refl))
      ∙ list_all_from_among (λ y. list_all (λ other. not (share_events nat_eq left y other)) others) (map after owns)
      (λ y n. let from = among-from_map after owns y n in
      subst (λ x. list_all (λ other. not (share_events nat_eq left x other)) others ≡ true) (sym from.2)
      (none_shared from.0 from.1))
    where
      none_shared : (m : Mount ℕ) → Among m owns
          → list_all (λ other. not (share_events nat_eq left (after m) other)) others ≡ true
      none_shared m own = list_all_from_among (λ other. not (share_events nat_eq left (after m) other)) _
          (λ other n. ap not (false_from_ne_true _
          (λ h. ⊎_elim (own_receives m other own n) (other_receives m other own n) (or_cases _ _ h))))
