-- Where mounts of a sealed set are detached, groups and masters are left in the part as in the world.
use Rattle.std.proofs.Common.{arith, ◌≡◌, refl, sym, ap, ◌∙◌, inl, inr, ⊎_elim, ℕ, nat_eq, Bool, true, false, cond, true≢false, List, [], ◌∷◌, Option, Some, None, find, is_some, map, not, ◌||◌, ◌&&◌}
use Rattle.vt_spec.proofs.Common.{cases_Bool, Among, HasLivingGroups, Location, Mount, Private, Propagation, Shared, Slave, TaskName, Unbindable, World, after_going, among-filter, among-from_filter, among-from_map, among-map, among_from_all, among_from_list_all, and_parts, any_among, any_from_among, common_steps, detached, false_from_ne_true, groups_up, has_members, heir, holds_of, inherited, inheriting, is_going, is_lost_group, is_member_of, is_nowhere_or_attached, is_own_mount, is_own_namespace, is_private, length-map, list_any, lost_a_group, members, mount_numbered, inherited_mount_point, mount_point_of_parent, none_is_some, other_mounts, own_mounts, part_of, regrouped_by, same_truth, shares_no_events, source_of, then_some}
use Rattle.vt_laws_members.proofs.Common.{cases_Option, IsSealed, OtherLives, is_own, member_group, members_of, none_hears, none_other, numbered, other_above, same_up, sides, source_from_group, start_hears}
use Rattle.vt_laws_members.proofs.judging.Common.{IsTheirs, own_theirs, parent_theirs, same_mount, up_alike}
use Rattle.vt_laws_members.proofs.changes.letting_go.Heard.{IsHeard, above_heard, apart, heard_by_own, master_same, own_in_part, part_source, private_source, up_heard}

-- a search by tests that agree
pub find_alike : (p q : ℕ → Bool) (xs : List ℕ) → ((x : ℕ) → Among x xs → p x ≡ q x) → find p xs ≡ find q xs
find_alike p q [] same = refl
find_alike p q (x ∷ xs) same = cc (same x (inl refl), find_alike p q xs (λ y m. same y (inr m)))

-- a mount after regrouping
abbrev pub regrouped_mount : Bool → World ℕ → Mount ℕ → Mount ℕ
regrouped_mount b t m = cond b (inheriting nat_eq t m) m

abbrev pub master_after : Bool → World ℕ → ℕ → Option ℕ
master_after b t group = cond b (heir nat_eq t (t.master group)) (t.master group)

abbrev pub regrouped_so : Bool → World ℕ → World ℕ
regrouped_so b t = record t { mounts = map (regrouped_mount b t) t.mounts; master = master_after b t }

map_itself : {A : Type 0} (xs : List A) → map (λ x. x) xs ≡ xs
map_itself [] = refl
map_itself (x ∷ xs) = cc (map_itself xs)

pub regroup_is : (b : Bool) (t : World ℕ) → regrouped_by nat_eq b t ≡ regrouped_so b t
regroup_is true t = refl
regroup_is false t = ap (λ l. record t { mounts = l }) (sym (map_itself t.mounts))

-- a namespace is theirs, or it is not
one_side : (p : ℕ → Bool) (o : Option ℕ) → holds_of p o ≡ true → holds_of (λ i. not (p i)) o ≡ true → ⊥
one_side p None h g = true≢false (sym h)
one_side p (Some n) h g = true≢false (cc)

-- a mount without a source has lost no group
unlost_none : (t : World ℕ) (m : Mount ℕ) → source_of m.propagation ≡ None → lost_a_group nat_eq t m ≡ false
unlost_none t m e = cc

-- mounts of theirs that go from a world where they are sealed
pub record TheirsGo (world : World ℕ) (names : List TaskName) (gone : List ℕ) : Type 0 where
  pub sealing : IsSealed world names
  pub open sealing use {is, sealed_off}
  pub own_go : (m : Mount ℕ) → Among m world.mounts → is_going nat_eq gone m.number ≡ true
      → is_own world names (members world names) m ≡ true

-- a world after they went
abbrev pub left_by : World ℕ → List ℕ → World ℕ
left_by w gone = record w { mounts = map (after_going nat_eq w gone) w.mounts }

module _ {world : World ℕ} {names : List TaskName} {gone : List ℕ} (go : TheirsGo world names gone) where
  abbrev part : World ℕ
  part = part_of nat_eq world names

  abbrev owns : List (Mount ℕ)
  owns = own_mounts nat_eq world names

  abbrev goes : Mount ℕ → Bool
  goes m = is_going nat_eq gone m.number

  -- a mount after the event, in the world and in the part
  abbrev cut : Mount ℕ → Mount ℕ
  cut = after_going nat_eq world gone

  abbrev cut_there : Mount ℕ → Mount ℕ
  cut_there = after_going nat_eq part gone

  abbrev left : World ℕ
  left = left_by world gone

  abbrev left_part : World ℕ
  left_part = left_by part gone

  abbrev Heard : ℕ → Type 0
  Heard g = IsHeard go.sealing g

  abbrev events : shares_no_events nat_eq world names ≡ true
  events = (apart go.sealing).events

  -- members that stay
  cut_member : (w : World ℕ) (g : ℕ) (m : Mount ℕ) → is_member_of nat_eq g (after_going nat_eq w gone m) ≡ true
      → (is_member_of nat_eq g m ≡ true) × (goes m ≡ false)
  cut_member w g m = grind (arith, common_steps, true≢false)

  stays_member : (w : World ℕ) (g : ℕ) (m : Mount ℕ) → goes m ≡ false → is_member_of nat_eq g m ≡ true
      → is_member_of nat_eq g (after_going nat_eq w gone m) ≡ true
  stays_member w g m e h = cc

  pub has_same : (g : ℕ) → Heard g → has_members nat_eq left.mounts g ≡ has_members nat_eq left_part.mounts g
  has_same g heard = same_truth (has_members nat_eq left.mounts g) (has_members nat_eq left_part.mounts g)
      (λ h. let at = any_among (is_member_of nat_eq g) left.mounts h in let from = among-from_map cut world.mounts at.0
      at.1 in let its = cut_member world g from.0 (cc (from.2, at.2)) in ⊎_elim
      (λ own. any_from_among (is_member_of nat_eq g) left_part.mounts (cut_there from.0)
      (among-map cut_there part.mounts from.0 (own_in_part go.sealing from.0 own))
      (stays_member part g from.0 its.1 its.0)) (λ other. absurd (none_hears world names go.is.mounts events g from.0
      heard.0 other its.0)) (sides world names go.is.mounts events from.0 g from.1 (member_group g from.0 its.0)))
      (λ h. let at = any_among (is_member_of nat_eq g) left_part.mounts h in let from = among-from_map cut_there
      part.mounts at.0 at.1 in let its = cut_member part g from.0 (cc (from.2, at.2)) in let own = part_source
      go.sealing from.0 from.1 g (source_from_group from.0.propagation g (member_group g from.0 its.0)) in
      any_from_among (is_member_of nat_eq g) left.mounts (cut from.0)
      (among-map cut world.mounts from.0 (among-from_filter (is_own_mount nat_eq world names) world.mounts from.0
      own).0) (stays_member world g from.0 its.1 its.0))

  pub heir_same : (o : Option ℕ) → ((g : ℕ) → o ≡ Some g → Heard g) → heir nat_eq left o ≡ heir nat_eq left_part o
  heir_same None heard = refl
  heir_same (Some g) heard = cc (
    length-map world.mounts cut,
    find_alike (has_members nat_eq left.mounts) (has_members nat_eq left_part.mounts) (groups_up world g) (λ x m.
        has_same x (up_heard go.sealing g x (heard g refl) m)),
    same_up world names go.is.mounts events g (heard g refl).0 (heard g refl).1,
    length-map part.mounts cut_there,
  )

  pub inherited_same : (m : Mount ℕ) → Among m owns
      → inherited nat_eq left m.propagation ≡ inherited nat_eq left_part m.propagation
  inherited_same m n = by m.propagation refl
    where
      by : (kind : Propagation ℕ) → m.propagation ≡ kind → inherited nat_eq left kind ≡ inherited nat_eq left_part kind
      by (Shared g) e = refl
      by (Slave g) e = cc (heir_same (Some g) (λ h f. heard_by_own go.sealing m n h (cc)))
      by Private e = refl
      by Unbindable e = refl

  -- a mount that stays has lost a group in both, or in none
  lost_same : (m : Mount ℕ) → Among m owns → lost_a_group nat_eq left m ≡ lost_a_group nat_eq left_part m
  lost_same m n = by (source_of m.propagation) refl
    where
      up : (g : ℕ) → Heard g → (o : Option ℕ) → world.master g ≡ o
          → is_lost_group nat_eq left o ≡ is_lost_group nat_eq left_part o
      up g heard None e = refl
      up g heard (Some above) e = ap not (has_same above (above_heard go.sealing above g e heard))

      by : (o : Option ℕ) → source_of m.propagation ≡ o
          → (is_lost_group nat_eq left o || is_lost_group nat_eq left (then_some o world.master))
          ≡ (is_lost_group nat_eq left_part o || is_lost_group nat_eq left_part (then_some o part.master))
      by None e = refl
      by (Some g) e =
          let heard = heard_by_own go.sealing m n g e in
          cc (has_same g heard, up g heard (world.master g) refl, master_same go.sealing g heard)

  -- a mount of others loses none
  other_stays : (m : Mount ℕ) → Among m (other_mounts nat_eq world names) → Among m world.mounts
      → lost_a_group nat_eq left m ≡ false
  other_stays m other n = by (source_of m.propagation) refl
    where
      outside : (m : Mount ℕ) → Among m (other_mounts nat_eq world names) → goes m ≡ false
      outside m o = false_from_ne_true (goes m) (λ h.
          let from = among-from_filter
          (λ (x : Mount ℕ). holds_of (λ i. not (is_own_namespace nat_eq world names i)) x.namespace) world.mounts m o in
          one_side (is_own_namespace nat_eq world names) m.namespace (go.own_go m from.0 h) from.1)

      still : (g : ℕ) → OtherLives world names go.is.mounts events g → has_members nat_eq left.mounts g ≡ true
      still g (heard, lives) =
          let at = any_among (is_member_of nat_eq g) world.mounts (members_of world names go.is.mounts events g lives)
          in ⊎_elim (λ own. absurd (none_other world names go.is.mounts events g at.0 heard own at.2))
          (λ out. any_from_among (is_member_of nat_eq g) left.mounts (cut at.0) (among-map cut world.mounts at.0 at.1)
          (stays_member world g at.0 (outside at.0 out) at.2))
          (sides world names go.is.mounts events at.0 g at.1 (member_group g at.0 at.2))

      up : (g : ℕ) → OtherLives world names go.is.mounts events g → (o : Option ℕ) → world.master g ≡ o
          → is_lost_group nat_eq left o ≡ false
      up g lives None e = refl
      up g lives (Some above) e = cc (still above (other_above world names go.is.mounts events above g e lives))

      by : (o : Option ℕ) → source_of m.propagation ≡ o
          → (is_lost_group nat_eq left o || is_lost_group nat_eq left (then_some o world.master)) ≡ false
      by None e = refl
      by (Some g) e =
          let lives : OtherLives world names go.is.mounts events g = (
            (m, other, start_hears world g m.propagation e),
            among_from_all (HasLivingGroups nat_eq world) world.mounts go.is.mounts.groups m n g e,
          ) in
          cc (still g lives, up g lives (world.master g) refl)

  cut_lost : (t w : World ℕ) (m : Mount ℕ) → lost_a_group nat_eq t (after_going nat_eq w gone m) ≡ true
      → (goes m ≡ false) × (lost_a_group nat_eq t m ≡ true)
  cut_lost t w m = grind (arith, common_steps, true≢false)

  stays_lost : (t w : World ℕ) (m : Mount ℕ) → goes m ≡ false → lost_a_group nat_eq t m ≡ true
      → lost_a_group nat_eq t (after_going nat_eq w gone m) ≡ true
  stays_lost t w m e h = cc

  pub flags_same : list_any (lost_a_group nat_eq left) left.mounts ≡ list_any
      (lost_a_group nat_eq left_part) left_part.mounts
  flags_same =
      same_truth (list_any (lost_a_group nat_eq left) left.mounts) (list_any (lost_a_group nat_eq left_part)
      left_part.mounts) (λ h. let at = any_among (lost_a_group nat_eq left) left.mounts h in let from = among-from_map
      cut world.mounts at.0 at.1 in let its = cut_lost left world from.0 (cc (from.2, at.2)) in forward from.0 from.1
      its.0 its.1 from.0.namespace refl) (λ h. let at = any_among (lost_a_group nat_eq left_part) left_part.mounts h in
      let from = among-from_map cut_there part.mounts at.0 at.1 in let its = cut_lost left_part part from.0
      (cc (from.2, at.2)) in back from.0 from.1 its.0 its.1 (source_of from.0.propagation) refl)
    where
      forward : (m : Mount ℕ) → Among m world.mounts → goes m ≡ false → lost_a_group nat_eq left m ≡ true
          → (o : Option ℕ) → m.namespace ≡ o → list_any (lost_a_group nat_eq left_part) left_part.mounts ≡ true
      forward m n same lost None e =
          cc (unlost_none left m (private_source m.propagation (and_parts (not (is_some m.mount_point))
          (is_private m.propagation) (sym (ap (λ o. is_some o || (not (is_some m.mount_point) && is_private
          m.propagation)) e) ∙ among_from_list_all is_nowhere_or_attached world.mounts go.is.mounts.nowhere m n)).1))
      forward m n same lost (Some j) e = elim (cases_Bool (is_own_namespace nat_eq world names j)) [
        | inl own ↦ let mine = among-filter (is_own_mount nat_eq world names) world.mounts m n (cc) in
            any_from_among (lost_a_group nat_eq left_part) left_part.mounts (cut_there m)
            (among-map cut_there part.mounts m (own_in_part go.sealing m mine))
            (stays_lost left_part part m same (sym (lost_same m mine) ∙ lost))
        | inr other ↦ cc (other_stays m (among-filter (λ (x : Mount ℕ). holds_of
            (λ i. not (is_own_namespace nat_eq world names i)) x.namespace) world.mounts m n
            (ap (holds_of (λ i. not (is_own_namespace nat_eq world names i))) e ∙ ap not other)) n)
      ]

      back : (y : Mount ℕ) → Among y part.mounts → goes y ≡ false → lost_a_group nat_eq left_part y ≡ true
          → (o : Option ℕ) → source_of y.propagation ≡ o → list_any (lost_a_group nat_eq left) left.mounts ≡ true
      back y n same lost None e = cc (unlost_none left_part y e)
      back y n same lost (Some g) e =
          let mine = part_source go.sealing y n g e in
          any_from_among (lost_a_group nat_eq left) left.mounts (cut y)
          (among-map cut world.mounts y (among-from_filter (is_own_mount nat_eq world names) world.mounts y mine).0)
          (stays_lost left world y same (lost_same y mine ∙ lost))

  -- Masters after
  pub master_alike : (b : Bool) (g : ℕ) → Heard g → master_after b left_part g ≡ master_after b left g
  master_alike b g heard = cc (
    master_same go.sealing g heard,
    heir_same (world.master g) (λ above e. above_heard go.sealing above g e heard),
  )

  -- where a mount of theirs stands after
  left_alike : (l : Location ℕ) → IsTheirs world names go.is.mounts l.mount
      → inherited_mount_point nat_eq part gone l ≡ inherited_mount_point nat_eq world gone l
  left_alike l theirs =
      cc (up_alike world names go.is.mounts (mount_point_of_parent nat_eq world gone)
      (mount_point_of_parent nat_eq part gone) above alike l theirs)
    where
      above : (a b : Location ℕ) → mount_point_of_parent nat_eq world gone a ≡ Some b
          → (mount_numbered nat_eq world a.mount).mount_point ≡ Some b
      above a b = grind (arith, common_steps, none_is_some)

      alike : (a : Location ℕ) → IsTheirs world names go.is.mounts a.mount
          → mount_point_of_parent nat_eq part gone a ≡ mount_point_of_parent nat_eq world gone a
      alike a own = cc (same_mount world names go.is.mounts a.mount own)

  cut_alike : (m : Mount ℕ) → Among m owns → cut_there m ≡ cut m
  cut_alike m n = elim (cases_Option m.mount_point) [
    | inl e ↦ cc
    | inr its ↦ let own = among-from_filter (is_own_mount nat_eq world names) world.mounts m n in
        let under = parent_theirs world names go.is.mounts m.number its.0 (own_theirs world names go.is m own.0 own.1)
        (cc (numbered world names go.is.mounts m own.0)) in
        cc (left_alike its.0 under)
  ]
    where
      moved : Option (Location ℕ) → Mount ℕ
      moved o = cond (goes m) (detached m) (record m { mount_point = o })

  -- a mount of theirs after
  pub mount_alike : (b : Bool) (m : Mount ℕ) → Among m owns
      → regrouped_mount b left_part (cut_there m) ≡ regrouped_mount b left (cut m)
  mount_alike b m n = grind (arith, common_steps, cut_alike, inherited_same)
