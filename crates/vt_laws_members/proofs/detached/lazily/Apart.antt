-- Where mounts of a sealed set are detached, its mounts share no events with others, neither in the world nor in
-- the part.
use Rattle.std.proofs.Common.{arith, ◌≡◌, refl, ap, ◌∙◌, ⊎_elim, ℕ, nat_eq, eq-eqb, Bool, true, false, cond, List, Option, Some, None, length, not}
use Rattle.vt_spec.proofs.Common.{Among, HasLivingGroups, Mount, Private, Propagation, Shared, Slave, Task, TaskName, Unbindable, World, among-filter, among-from_filter, among-from_filter_map, among-from_map, among_from_all, common_steps, false_from_ne_true, filter_none, found_among, group_of, groups_up, has_members, heir, holds_of, inherited, is_among_numbers, is_going, is_member_of, is_own_mount, is_own_namespace, list_all, list_all_from_among, list_any, master_of, members, none_from_among, none_is_some, or_from, other_mounts, own_mounts, part_of, receives_events_of, share_events, shares_no_events, slave_of_heir, source_of}
use Rattle.vt_laws_members.proofs.Common.{OtherLives, along_chain, keep, member_group, none_hears, none_other, other_above, same_members, source_from_group, start_hears}
use Rattle.vt_laws_members.proofs.judging.Common.{part_mount}
use Rattle.vt_laws_members.proofs.changes.Common.{IsHeard, TheirsGo, above_heard, all_stay, apart, ended, ended_by, ended_mount, ended_part, heard_by_own, left_by, master_after, member_was, placed_so}

module _ {world : World ℕ} {names : List TaskName} {gone : List ℕ} (go : TheirsGo world names gone)
    (b : Bool) where
  abbrev theirs : List (Task ℕ)
  theirs = members world names

  abbrev part : World ℕ
  part = part_of nat_eq world names

  abbrev t : World ℕ
  t = left_by world gone

  abbrev here : World ℕ
  here = ended (all_stay go b)

  abbrev there : World ℕ
  there = ended_part (all_stay go b)

  abbrev after : Mount ℕ → Mount ℕ
  after = ended_mount b t world gone

  abbrev after_part : Mount ℕ → Mount ℕ
  after_part = ended_mount b (left_by part gone) part gone

  abbrev events : shares_no_events nat_eq world names ≡ true
  events = (apart go.sealing).events

  -- Masters after

  kind_after : (m : Mount ℕ) → is_going nat_eq gone m.number ≡ false
      → (after m).propagation ≡ cond b (inherited nat_eq t m.propagation) m.propagation
  kind_after m e = grind (arith, common_steps, ended_by)

  abbrev masters : Bool → Propagation ℕ → Option ℕ
  masters c (Shared s) = master_after c t s
  masters c (Slave s) = Some s
  masters c Private = None
  masters c Unbindable = None

  told : (kind : Propagation ℕ) → master_of here kind ≡ masters b kind
  told kind = grind (arith, common_steps)

  -- what holds of a mount's source and up the masters holds of its master after
  module _ (P : ℕ → Type 0) (up : (g lower : ℕ) → world.master lower ≡ Some g → P lower → P g) where
    from_heir : (o : Option ℕ) → ((s : ℕ) → o ≡ Some s → P s) → (g : ℕ) → heir nat_eq t o ≡ Some g → P g
    from_heir None start g e = none_is_some g e
    from_heir (Some s) start g e = along_chain world.master P up (length t.mounts) s g (start s refl)
        (is_among_numbers (groups_up t s) g (found_among (has_members nat_eq t.mounts) (groups_up t s) g e))

    from_kind : (c : Bool) (kind : Propagation ℕ) → ((s : ℕ) → source_of kind ≡ Some s → P s) → (g : ℕ)
        → masters c (cond c (inherited nat_eq t kind) kind) ≡ Some g → P g
    from_kind true (Shared s) start g e = from_heir (world.master s) (λ a f. up a s f (start s refl)) g e
    from_kind true (Slave s) start g e = by (heir nat_eq t (Some s)) refl e
      where
        by : (o : Option ℕ) → heir nat_eq t (Some s) ≡ o → masters true (slave_of_heir o) ≡ Some g → P g
        by None f h = none_is_some g h
        by (Some found) f h = from_heir (Some s) start g (f ∙ h)
    from_kind true Private start g e = none_is_some g e
    from_kind true Unbindable start g e = none_is_some g e
    from_kind false (Shared s) start g e = up g s e (start s refl)
    from_kind false (Slave s) start g e = start g e
    from_kind false Private start g e = none_is_some g e
    from_kind false Unbindable start g e = none_is_some g e

    master_reached : (m : Mount ℕ) → is_going nat_eq gone m.number ≡ false
        → ((s : ℕ) → source_of m.propagation ≡ Some s → P s) → (g : ℕ) → master_of here (after m).propagation ≡ Some g
        → P g
    master_reached m stays start g e = from_kind b m.propagation start g (cc (
      told (cond b
          (inherited nat_eq t m.propagation) m.propagation),
      kind_after m stays,
    ))

  -- In the world

  -- a mount that is in some namespace after was in it before, and stays
  was : (p : ℕ → Bool) (y : Mount ℕ) → Among y here.mounts → holds_of p y.namespace ≡ true
      → (x : Mount ℕ) × Among x world.mounts × (y ≡ after x) × (is_going nat_eq gone x.number ≡ false)
      × (holds_of p x.namespace ≡ true)
  was p y m h =
      let from = among-from_map after world.mounts y m in
      let placed : holds_of p (after from.0).namespace ≡ true = cc from.2 in
      ⊎_elim (λ out. cc out.0) (λ stays. (from.0, from.1, from.2, stays.2, cc stays.0))
      (placed_so b t world gone from.0)

  group_was : (x : Mount ℕ) (g : ℕ) → group_of (after x).propagation ≡ Some g → group_of x.propagation ≡ Some g
  group_was x g e = member_group g x (member_was b t world gone g x (cc (eq-eqb g g refl)))

  -- a mount receives nothing from one that is a member of none of these groups
  none_held : (z : Mount ℕ) (o : Option ℕ) → ((g : ℕ) → o ≡ Some g → is_member_of nat_eq g z ≡ true → ⊥)
      → holds_of (λ g. is_member_of nat_eq g z) o ≡ false
  none_held z None never = refl
  none_held z (Some g) never = false_from_ne_true _ (never g refl)

  hears_not : (P : ℕ → Type 0) (y z : Mount ℕ) → ((g : ℕ) → group_of y.propagation ≡ Some g → P g)
      → ((g : ℕ) → master_of here y.propagation ≡ Some g → P g)
      → ((g : ℕ) → P g → is_member_of nat_eq g z ≡ true → ⊥) → receives_events_of nat_eq here y z ≡ false
  hears_not P y z grouped mastered never = or_from _ _ (none_held z (group_of y.propagation)
      (λ g e. never g (grouped g e))) (none_held z (master_of here y.propagation) (λ g e. never g (mastered g e)))

  abbrev IsOther : ℕ → Bool
  IsOther n = not (is_own_namespace nat_eq world names n)

  share_none : (y z : Mount ℕ) → Among y (own_mounts nat_eq here names) → Among z (other_mounts nat_eq here names)
      → share_events nat_eq here y z ≡ false
  share_none y z m n =
      let in_own = among-from_filter (is_own_mount nat_eq here names) here.mounts y m in
      let in_other = among-from_filter (λ (q : Mount ℕ). holds_of IsOther q.namespace) here.mounts z n in
      let x = was (is_own_namespace nat_eq world names) y in_own.0 in_own.1 in
      let u = was IsOther z in_other.0 in_other.1 in
      let mine : Among x.0 (own_mounts nat_eq world names) = among-filter (is_own_mount nat_eq world names) world.mounts
      x.0 x.1 x.4 in
      let other : Among u.0 (other_mounts nat_eq world names) = among-filter
      (λ (q : Mount ℕ). holds_of IsOther q.namespace) world.mounts u.0 u.1 u.4 in
      or_from (receives_events_of nat_eq here y z) (receives_events_of nat_eq here z y)
      (hears_not (IsHeard go.sealing) y z (λ g e. heard_by_own go.sealing x.0 mine g
      (source_from_group x.0.propagation g (group_was x.0 g (cc x.2))))
      (λ g e. master_reached (IsHeard go.sealing) (above_heard go.sealing) x.0 x.3 (heard_by_own go.sealing x.0 mine) g
      (cc x.2)) (λ g heard h. none_hears world names go.is.mounts events g u.0 heard.0 other
      (member_was b t world gone g u.0 (cc u.2)))) (hears_not (OtherLives world names go.is.mounts events) z y
      (λ g e. start u.0 u.1 other g (source_from_group u.0.propagation g (group_was u.0 g (cc u.2))))
      (λ g e. master_reached (OtherLives world names go.is.mounts events) (other_above world names go.is.mounts events)
      u.0 u.3 (start u.0 u.1 other) g (cc u.2)) (λ g lives h. none_other world names go.is.mounts events g x.0 lives.0
      mine (member_was b t world gone g x.0 (cc x.2))))
    where
      start : (q : Mount ℕ) → Among q world.mounts → Among q (other_mounts nat_eq world names) → (s : ℕ)
          → source_of q.propagation ≡ Some s → OtherLives world names go.is.mounts events s
      start q there_is other s e = (
        (q, other, start_hears world s q.propagation e),
        among_from_all (HasLivingGroups nat_eq world) world.mounts go.is.mounts.groups q there_is s e,
      )

  pub apart_here : shares_no_events nat_eq here names ≡ true
  apart_here = list_all_from_among
      (λ own. list_all (λ other. not (share_events nat_eq here own other)) (other_mounts nat_eq here names))
      (own_mounts nat_eq here names)
      (λ y m. list_all_from_among (λ other. not (share_events nat_eq here y other)) (other_mounts nat_eq here names)
      (λ z n. ap not (share_none y z m n)))

  -- In the part, where no mount is another's

  none_other_there : (y : Mount ℕ) → Among y there.mounts
      → holds_of (λ n. not (is_own_namespace nat_eq there names n)) y.namespace ≡ false
  none_other_there y m =
      let from = among-from_map after_part part.mounts y m in
      ap (λ (q : Mount ℕ). holds_of (λ n. not (is_own_namespace nat_eq there names n)) q.namespace) from.2
      ∙ ap (λ ts. holds_of (λ n. not (list_any (λ (q : Task ℕ). nat_eq n q.namespace) ts))
      (after_part from.0).namespace) (same_members world names)
      ∙ ⊎_elim (λ out. ap (holds_of IsOther) out.0) (λ stays. ap (holds_of IsOther) stays.0 ∙ of_part from.0 from.1)
      (placed_so b (left_by part gone) part gone from.0)
    where
      by : (o : Option ℕ) → holds_of (is_own_namespace nat_eq world names) o ≡ true → holds_of IsOther o ≡ false
      by None h = refl
      by (Some n) h = ap not h

      of_part : (z : Mount ℕ) → Among z part.mounts → holds_of IsOther z.namespace ≡ false
      of_part z n =
          let from = among-from_filter_map (keep world names theirs) world.mounts z n in
          ⊎_elim (by z.namespace) (λ none. ap (holds_of IsOther) none)
          (part_mount world names go.is from.0 z from.1 from.2)

  pub apart_there : shares_no_events nat_eq there names ≡ true
  apart_there = ap (λ list. list_all (λ own. list_all (λ other. not (share_events nat_eq there own other)) list)
      (own_mounts nat_eq there names)) (filter_none (λ (y : Mount ℕ). holds_of (λ n. not
      (is_own_namespace nat_eq there names n)) y.namespace) there.mounts
      (none_from_among (λ (y : Mount ℕ). holds_of (λ n. not (is_own_namespace nat_eq there names n)) y.namespace)
      there.mounts none_other_there)) ∙ list_all_from_among (λ own. true) (own_mounts nat_eq there names) (λ y m. refl)
