-- Mounts as earlier events left them, seen through those that are gone: which mounts the next event detaches.
use Rattle.std.proofs.Common.{◌≡◌, refl, sym, ap, subst, ◌∙◌, ℕ, nat_eq, eq-eqb, eqb-true, Bool, true, false, true≢false, cond, ◌||◌, not, List, [], ◌∷◌, filter, Option, None, Some, is_some, option_map, inl, inr, ⊎_elim, filter_map, find, if◌then◌else◌, unwrap_or, arith}
use Rattle.vt_spec.proofs.Common.{Among, Location, Mount, MountInvariants, World, after_going, among-filter, among-from_filter, among-map, among_from_list_all, any_from_among, any_pair, child_at, children, common_steps, cons_option, detached, false_from_ne_true, found_or_none, goes_at, going, going_at, going_from, group_of, has_members, holds_of, is_going, is_member_of, is_shared, list_all_from_among, may_go, mount_at, mount_in, mount_numbered, inherited_mount_point, none_among, only_cover, or_parts, pair-filter, receivers, root_of, same_Some, same_truth, share_a_mount_point, stands_at, stands_on, taken_away, then_some, when}
use Rattle.vt_spec.specs.Machine.Detach.{covers_root}
use Rattle.vt_laws_mounts.specs.Mounts.Unmounting.{KeepsAllButMountPointAndType}
use Rattle.vt_laws_mounts.specs.Mounts.Unmounting.FallsTo.{rests}
use Rattle.vt_laws_mounts.proofs.mounts.MountsFound.{found_in, number-mount_in, placed_among}
use Rattle.vt_laws_mounts.proofs.mounts.MountsPlaces.{found_at_its_place, one_place_of_two, stands_at_its_place, stands_there}
use Rattle.vt_laws_mounts.proofs.mounts.MountsReplaced.{found_itself}
use Rattle.vt_laws_mounts.proofs.mounts.Standing.{standing_is_computed}
use Rattle.vt_laws_mounts.proofs.ends.Unmounting.{detached_by_number, kept_by_number, middle, place_fallen, staying_is_placed, taken}
use Rattle.vt_propagate.specs.Going.{group_at}
use Rattle.vt_propagate.specs.Through.{free_at_then, free_on_then, going_by, going_then, group_at_then, is_free_by_number, is_free_then, rests_on_root, standing_over}
use Rattle.vt_propagate.proofs.lazily.Over.{Over, found_over_place, over_falls, over_first, over_found}
use Rattle.vt_laws_mounts.proofs.Groups.{group-inherited}
use Rattle.vt_laws_mounts.specs.Mounts.Attaching.{numbers_of}

-- A world that is left where these mounts are gone. What stands at a place then stood over it; who receives from a
-- group that keeps a member did before.
pub record IsLeft (start : World ℕ) (now : World ℕ) (gone : List ℕ) : Type 0 where
  pub kept : MountInvariants nat_eq now
  pub mounts : now.mounts ≡ (taken_away nat_eq start gone).mounts
  pub over : (number : ℕ) (place : Location ℕ) → (mount_numbered nat_eq now number).mount_point ≡ Some place
      → Over start gone place number
  pub receivers_are : (group : ℕ) → has_members nat_eq now.mounts group ≡ true → numbers_of (receivers nat_eq now group)
      ≡ filter (λ number. not (is_going nat_eq gone number)) (numbers_of (receivers nat_eq start group))

-- where all that stands on a mount covers its root, it is one mount at most
all_cover : (mount : Mount ℕ) (kids : List (Mount ℕ)) → any_pair (share_a_mount_point nat_eq) kids ≡ false
    → ((x : Mount ℕ) → Among x kids → covers_root nat_eq mount x ≡ true) → only_cover nat_eq mount kids ≡ true
all_cover mount [] apart all = refl
all_cover mount (one ∷ []) apart all = all one (inl refl)
all_cover mount (one ∷ other ∷ rest) apart all = absurd (true≢false (sym (one_place_of_two (root_of mount) one other
    (stands_there (root_of mount) one (all one (inl refl)))
    (stands_there (root_of mount) other (all other (inr (inl refl)))))
    ∙ none_among (share_a_mount_point nat_eq one) (other ∷ rest) (or_parts _ _ apart).0 other (inl refl)))

-- of mounts of which each covers the root each does
pub covers : (mount : Mount ℕ) (kids : List (Mount ℕ)) → only_cover nat_eq mount kids ≡ true → (x : Mount ℕ)
    → Among x kids → covers_root nat_eq mount x ≡ true
covers mount [] only x m = absurd m
covers mount (one ∷ []) only x m = ⊎_elim (λ same. ap (covers_root nat_eq mount) same ∙ only) (λ none. absurd none) m
covers mount (one ∷ other ∷ rest) only x m = absurd (true≢false (sym only))

-- a mount stands on the mount of its mount point
pub on_its_parent : (place : Location ℕ) (mount : Mount ℕ) (number : ℕ) → mount.mount_point ≡ Some place
    → place.mount ≡ number → stands_on nat_eq number mount ≡ true
on_its_parent place mount number e same =
    ap (holds_of (λ (p : Location ℕ). nat_eq number p.mount)) e ∙ eq-eqb number place.mount (sym same)

module _ {start : World ℕ} (at_first : MountInvariants nat_eq start) {now : World ℕ} {gone : List ℕ}
    (so : IsLeft start now gone) where
  abbrev before : ℕ → Mount ℕ
  before number = mount_numbered nat_eq start number

  abbrev later : ℕ → Mount ℕ
  later number = mount_numbered nat_eq now number

  then_is : (number : ℕ) → later number ≡ mount_numbered nat_eq (taken_away nat_eq start gone) number
  then_is number = ap (λ mounts. mount_in nat_eq mounts number) so.mounts

  -- a mount that is gone is detached then
  pub gone_then : (number : ℕ) → is_going nat_eq gone number ≡ true → later number ≡ detached (before number)
  gone_then number goes = then_is number ∙ detached_by_number start gone number goes

  -- one that is not has kept all but its place and its type
  pub kept_then : (number : ℕ) → is_going nat_eq gone number ≡ false
      → KeepsAllButMountPointAndType (before number) (later number)
  kept_then number stays = subst (KeepsAllButMountPointAndType (before number)) (sym (then_is number))
      (kept_by_number start gone number stays)

  -- each keeps its root
  pub root_then : (number : ℕ) → root_of (later number) ≡ root_of (before number)
  root_then number = by (is_going nat_eq gone number) refl
    where
      by : (b : Bool) → is_going nat_eq gone number ≡ b → root_of (later number) ≡ root_of (before number)
      by true goes = ap root_of (gone_then number goes)
      by false stays = λ i. record {
        mount = (kept_then number stays).number i;
        node = (kept_then number stays).root i;
      }

  stays_there : (number : ℕ) {place : Location ℕ} → (later number).mount_point ≡ Some place
      → is_going nat_eq gone number ≡ false
  stays_there number e = by (is_going nat_eq gone number) refl
    where
      by : (b : Bool) → is_going nat_eq gone number ≡ b → is_going nat_eq gone number ≡ false
      by true goes =
          absurd (true≢false (sym (ap is_some e) ∙ ap (λ (m : Mount ℕ). is_some m.mount_point) (gone_then number goes)))
      by false stays = stays

  -- what stands over a place that is left has fallen there
  has_fallen : (place : Location ℕ) (child : ℕ) → Over start gone place child → is_going nat_eq gone child ≡ false
      → is_going nat_eq gone place.mount ≡ false → (later child).mount_point ≡ Some place
  has_fallen place child over stays there =
      let fall = over_falls start gone place child over in
      ap (λ (m : Mount ℕ). m.mount_point) (then_is child)
      ∙ place_fallen start gone ((standing_is_computed start at_first.one_number).0 at_first.standing) child fall.0
      place stays fall.1 (fall.2 place (rests place there))

  found_later : (place : Location ℕ) {child : Mount ℕ} → child_at nat_eq now.mounts place ≡ Some child
      → (later child.number ≡ child) × ((later child.number).mount_point ≡ Some place)
  found_later place {child} e =
      let t = found_in (stands_at nat_eq place) now.mounts child e in
      let itself : later child.number ≡ child = found_itself now.mounts so.kept.one_number child t.0 in
      (itself, ap (λ (m : Mount ℕ). m.mount_point) itself ∙ stands_there place child t.1)

  -- what stands at a place is seen through what is gone
  standing_then : (place : Location ℕ) → is_going nat_eq gone place.mount ≡ false
      → option_map (λ (m : Mount ℕ). m.number) (child_at nat_eq now.mounts place)
      ≡ standing_over start.mounts gone place
  standing_then place there = by (child_at nat_eq now.mounts place) refl (standing_over start.mounts gone place) refl
    where
      by : (o : Option (Mount ℕ)) → child_at nat_eq now.mounts place ≡ o
          → (found : Option ℕ) → standing_over start.mounts gone place ≡ found
          → option_map (λ (m : Mount ℕ). m.number) (child_at nat_eq now.mounts place)
          ≡ standing_over start.mounts gone place
      by (Some child) e found f =
          let at : (later child.number).mount_point ≡ Some place = (found_later place e).1 in
          ap (option_map (λ (m : Mount ℕ). m.number)) e
          ∙ sym (over_found start at_first gone place child.number (so.over child.number place at)
          (stays_there child.number at))
      by None e None f = ap (option_map (λ (m : Mount ℕ). m.number)) e ∙ sym f
      by None e (Some child) f =
          let over = found_over_place start at_first gone place f in
          let at : (later child).mount_point ≡ Some place = has_fallen place child over.0 over.1 there in
          absurd (true≢false (sym (ap is_some
          (found_at_its_place now.mounts so.kept.one_child (later child) (placed_among now.mounts child place at) place
          at)) ∙ ap is_some e))

  -- Whether a mount may go

  module _ (number : ℕ) (stays : is_going nat_eq gone number ≡ false) where
    abbrev kids : List (Mount ℕ)
    kids = children nat_eq now.mounts (later number).number

    abbrev kids_before : List (Mount ℕ)
    kids_before = children nat_eq start.mounts (before number).number

    -- where a child stood at a place, what stands there then
    from_before : only_cover nat_eq (later number) kids ≡ true → is_free_then start.mounts gone (before number) ≡ true
    from_before only = list_all_from_among (rests_on_root start.mounts gone (before number)) kids_before (λ child m.
        by child m (covers_root nat_eq (before number) child) refl)
      where
        at_place : (child : Mount ℕ) → Among child kids_before → (o : Option (Location ℕ)) → child.mount_point ≡ o
            → covers_root nat_eq (before number) child ≡ false
            → holds_of (λ place. is_some (standing_over start.mounts gone place)) o ≡ false
        at_place child m None e aside = refl
        at_place child m (Some place) e aside =
            false_from_ne_true _ (λ some. there (standing_over start.mounts gone place) refl some)
          where
            below : place.mount ≡ number
            below = sym (eqb-true (before number).number place.mount
                (sym (ap (holds_of (λ (p : Location ℕ). nat_eq (before number).number p.mount)) e)
                ∙ (among-from_filter (stands_on nat_eq (before number).number) start.mounts child m).1))
                ∙ number-mount_in start.mounts number

            there : (o : Option ℕ) → standing_over start.mounts gone place ≡ o → is_some o ≡ true → ⊥
            there None f some = true≢false (sym some)
            there (Some top) f some =
                let over = found_over_place start at_first gone place f in
                let at : (later top).mount_point ≡ Some place =
                has_fallen place top over.0 over.1 (ap (is_going nat_eq gone) below ∙ stays) in
                let on_it : Among (later top) kids =
                among-filter (stands_on nat_eq (later number).number) now.mounts (later top)
                (placed_among now.mounts top place at) (on_its_parent place (later top) (later number).number at
                (below ∙ sym (number-mount_in now.mounts number))) in
                let root : place ≡ root_of (before number) = same_Some place (root_of (before number)) (sym at
                ∙ stands_there (root_of (later number)) (later top) (covers (later number) kids only (later top) on_it)
                ∙ ap Some (root_then number)) in
                true≢false (sym (stands_at_its_place (root_of (before number)) child (e ∙ ap Some root)) ∙ aside)

        by : (child : Mount ℕ) → Among child kids_before → (b : Bool) → covers_root nat_eq (before number) child ≡ b
            → rests_on_root start.mounts gone (before number) child ≡ true
        by child m true e =
            ap (λ b. b || not (holds_of (λ place. is_some (standing_over start.mounts gone place)) child.mount_point)) e
        by child m false e =
            ap (λ b. b || not (holds_of (λ place. is_some (standing_over start.mounts gone place)) child.mount_point)) e
            ∙ ap not (at_place child m child.mount_point refl e)

    from_later : is_free_then start.mounts gone (before number) ≡ true → only_cover nat_eq (later number) kids ≡ true
    from_later free = all_cover (later number) kids
        (pair-filter (share_a_mount_point nat_eq) (stands_on nat_eq (later number).number) now.mounts so.kept.one_child)
        (λ x m. let in_it = among-from_filter (stands_on nat_eq (later number).number) now.mounts x m in
        at_place x in_it.0 x.mount_point refl in_it.1)
      where
        at_place : (x : Mount ℕ) → Among x now.mounts → (o : Option (Location ℕ)) → x.mount_point ≡ o
            → stands_on nat_eq (later number).number x ≡ true → covers_root nat_eq (later number) x ≡ true
        at_place x m None e on =
            absurd (true≢false (sym on ∙ ap (holds_of (λ (p : Location ℕ). nat_eq (later number).number p.mount)) e))
        at_place x m (Some place) e on = by (covers_root nat_eq (before number) (before first.0)) refl
          where
            itself : later x.number ≡ x
            itself = found_itself now.mounts so.kept.one_number x m

            at : (later x.number).mount_point ≡ Some place
            at = ap (λ (y : Mount ℕ). y.mount_point) itself ∙ e

            below : place.mount ≡ number
            below = sym (eqb-true (later number).number place.mount
                (sym (ap (holds_of (λ (p : Location ℕ). nat_eq (later number).number p.mount)) e) ∙ on))
                ∙ number-mount_in now.mounts number

            first : (child : ℕ) × ((before child).mount_point ≡ Some place)
            first = over_first start gone place x.number (so.over x.number place at)

            rests_there : rests_on_root start.mounts gone (before number) (before first.0) ≡ true
            rests_there =
                among_from_list_all (rests_on_root start.mounts gone (before number)) kids_before free (before first.0)
                (among-filter (stands_on nat_eq (before number).number) start.mounts (before first.0)
                (placed_among start.mounts first.0 place first.1)
                (on_its_parent place (before first.0) (before number).number first.1
                (below ∙ sym (number-mount_in start.mounts number))))

            by : (b : Bool) → covers_root nat_eq (before number) (before first.0) ≡ b
                → covers_root nat_eq (later number) x ≡ true
            by true f = stands_at_its_place (root_of (later number)) x (e ∙ sym first.1
                ∙ stands_there (root_of (before number)) (before first.0) f ∙ ap Some (sym (root_then number)))
            by false f = absurd (true≢false (sym rests_there
                ∙ ap (λ b. b || not (holds_of (λ place. is_some (standing_over start.mounts gone place))
                (before first.0).mount_point)) f
                ∙ ap (λ o. not (holds_of (λ place. is_some (standing_over start.mounts gone place)) o)) first.1
                ∙ ap (λ o. not (is_some o)) (over_found start at_first gone place x.number (so.over x.number place at)
                (stays_there x.number at))))

    may_go_then : may_go nat_eq now (later number) ≡ is_free_then start.mounts gone (before number)
    may_go_then = same_truth _ _ from_before from_later

  -- a mount that stands somewhere is found by its number
  free_by_number : (number : ℕ) {place : Location ℕ} → (before number).mount_point ≡ Some place
      → is_free_by_number start.mounts gone number ≡ is_free_then start.mounts gone (before number)
  free_by_number number at = grind (arith, common_steps)

  -- what goes at a receiver
  goes_then : (node : ℕ) (receiver : Mount ℕ) → is_going nat_eq gone receiver.number ≡ false
      → option_map (λ (m : Mount ℕ). m.number) (goes_at nat_eq now node receiver)
      ≡ free_at_then start.mounts gone (record { mount = receiver.number; node = node })
  goes_then node receiver there = by (child_at nat_eq now.mounts place) refl
      ∙ ap (λ o. then_some o (λ n. when (is_free_by_number start.mounts gone n) n)) (standing_then place there)
    where
      place : Location ℕ
      place = record { mount = receiver.number; node = node }

      chosen : (b : Bool) (child : Mount ℕ)
          → option_map (λ (m : Mount ℕ). m.number) (when b child) ≡ when b child.number
      chosen true child = refl
      chosen false child = refl

      by : (o : Option (Mount ℕ)) → child_at nat_eq now.mounts place ≡ o
          → option_map (λ (m : Mount ℕ). m.number) (then_some o (λ child. when (may_go nat_eq now child) child))
          ≡ then_some (option_map (λ (m : Mount ℕ). m.number) o) (λ n. when (is_free_by_number start.mounts gone n) n)
      by None e = refl
      by (Some child) e =
          let t = found_later place e in
          let point = over_falls start gone place child.number (so.over child.number place t.1) in
          ap (λ b. option_map (λ (m : Mount ℕ). m.number) (when b child)) (ap (may_go nat_eq now) (sym t.0)
          ∙ may_go_then child.number (stays_there child.number t.1) ∙ sym (free_by_number child.number point.1))
          ∙ chosen (is_free_by_number start.mounts gone child.number) child

  -- at all receivers
  all_go_then : (node : ℕ) (all : List ℕ) (left : List (Mount ℕ))
      → numbers_of left ≡ filter (λ number. not (is_going nat_eq gone number)) all
      → numbers_of (filter_map (goes_at nat_eq now node) left) ≡ free_on_then start.mounts gone node all
  all_go_then node all left are = each left (λ x m. stay x m) ∙ ap (filter_map free) are ∙ skipped all
    where
      free : ℕ → Option ℕ
      free number = free_at_then start.mounts gone (record { mount = number; node = node })

      staying : (list : List ℕ) (number : ℕ) → Among number (filter (λ n. not (is_going nat_eq gone n)) list)
          → is_going nat_eq gone number ≡ false
      staying list number m = turned (is_going nat_eq gone number)
          (among-from_filter (λ n. not (is_going nat_eq gone n)) list number m).1
        where
          turned : (b : Bool) → not b ≡ true → b ≡ false
          turned true e = absurd (true≢false (sym e))
          turned false e = refl

      stay : (x : Mount ℕ) → Among x left → is_going nat_eq gone x.number ≡ false
      stay x m = staying all x.number (subst (Among x.number) are (among-map (λ (y : Mount ℕ). y.number) left x m))

      each : (list : List (Mount ℕ)) → ((x : Mount ℕ) → Among x list → is_going nat_eq gone x.number ≡ false)
          → numbers_of (filter_map (goes_at nat_eq now node) list) ≡ filter_map free (numbers_of list)
      each [] there = refl
      each (x ∷ rest) there = with_first (goes_at nat_eq now node x)
          ∙ (λ i. cons_option (goes_then node x (there x (inl refl)) i) (each rest (λ y m. there y (inr m)) i))
        where
          with_first : (o : Option (Mount ℕ)) → numbers_of (cons_option o (filter_map (goes_at nat_eq now node) rest))
              ≡ cons_option (option_map (λ (m : Mount ℕ). m.number) o)
              (numbers_of (filter_map (goes_at nat_eq now node) rest))
          with_first None = refl
          with_first (Some y) = refl

      skipped : (list : List ℕ) → filter_map free (filter (λ n. not (is_going nat_eq gone n)) list)
          ≡ free_on_then start.mounts gone node list
      skipped [] = refl
      skipped (n ∷ rest) = by (is_going nat_eq gone n) (skipped rest)
        where
          by : (b : Bool) → filter_map free (filter (λ n. not (is_going nat_eq gone n)) rest)
              ≡ free_on_then start.mounts gone node rest
              → filter_map free (cond (not b) (n ∷ filter (λ n. not (is_going nat_eq gone n)) rest)
              (filter (λ n. not (is_going nat_eq gone n)) rest))
              ≡ cons_option (if b then None else free n) (free_on_then start.mounts gone node rest)
          by true e = e
          by false e = ap (cons_option (free n)) e

  -- The event

  group_then : (number : ℕ) → is_going nat_eq gone number ≡ false
      → group_of (later number).propagation ≡ group_of (before number).propagation
  group_then number stays = ap (λ (m : Mount ℕ). group_of m.propagation) (then_is number ∙ taken start gone number)
      ∙ group-inherited (middle start gone) (after_going nat_eq start gone (before number)).propagation
      ∙ ap (λ (m : Mount ℕ). group_of m.propagation) (staying_is_placed start gone (before number)
      (ap (is_going nat_eq gone) (number-mount_in start.mounts number) ∙ stays))

  -- the group at a place, by the mount there
  group_there : (place : Location ℕ)
      → group_at start.mounts place ≡ option_map (λ group. (place, group)) (group_of (before place.mount).propagation)
  group_there place = grind (arith, common_steps)

  module _ (number : ℕ) (stays : is_going nat_eq gone number ≡ false) where
    own : (later number).number ∷ [] ≡ number ∷ []
    own = ap (λ n. n ∷ []) (number-mount_in now.mounts number)

    at_place : (place : Location ℕ)
        → going_from nat_eq now (later number) place (is_shared (mount_at nat_eq now place).propagation)
        ≡ going_by start gone number (group_at_then start.mounts gone place)
    at_place place = by (is_going nat_eq gone place.mount) refl
      where
        member : (group : ℕ) → group_of (later place.mount).propagation ≡ Some group
            → has_members nat_eq now.mounts group ≡ true
        member group e = any_from_among (is_member_of nat_eq group) now.mounts (later place.mount)
            (⊎_elim (λ m. m) (λ none. absurd (true≢false (sym (ap is_some e)
            ∙ ap (λ (m : Mount ℕ). is_some (group_of m.propagation)) none))) (found_or_none now.mounts place.mount))
            (ap (holds_of (nat_eq group)) e ∙ eq-eqb group group refl)

        with_group : (o : Option ℕ) → group_of (later place.mount).propagation ≡ o
            → going_from nat_eq now (later number) place (is_some o)
            ≡ going_by start gone number (option_map (λ group. (place, group)) o)
        with_group None e = own
        with_group (Some group) e = ap (λ (o : Option ℕ). numbers_of (filter_map (goes_at nat_eq now place.node)
            (unwrap_or (option_map (receivers nat_eq now) o) []))) e
            ∙ all_go_then place.node (numbers_of (receivers nat_eq start group)) (receivers nat_eq now group)
            (so.receivers_are group (member group e))

        by : (b : Bool) → is_going nat_eq gone place.mount ≡ b
            → going_from nat_eq now (later number) place (is_shared (mount_at nat_eq now place).propagation)
            ≡ going_by start gone number (group_at_then start.mounts gone place)
        by true goes = ap (λ (m : Mount ℕ). going_from nat_eq now (later number) place (is_shared m.propagation))
            (gone_then place.mount goes) ∙ own
            ∙ sym (ap (λ b. going_by start gone number (if b then None else group_at start.mounts place)) goes)
        by false there = with_group (group_of (later place.mount).propagation) refl
            ∙ ap (λ o. going_by start gone number (option_map (λ group. (place, group)) o))
            (group_then place.mount there) ∙ ap (going_by start gone number) (sym (group_there place))
            ∙ sym (ap (λ b. going_by start gone number (if b then None else group_at start.mounts place)) there)

    point_then : (later number).mount_point
        ≡ option_map (inherited_mount_point nat_eq start gone) (before number).mount_point
    point_then = ap (λ (m : Mount ℕ). m.mount_point) (then_is number ∙ taken start gone number)
        ∙ ap (λ (m : Mount ℕ). m.mount_point) (staying_is_placed start gone (before number)
        (ap (is_going nat_eq gone) (number-mount_in start.mounts number) ∙ stays))

    -- the point of a mount, by the mount that is found
    found_point : then_some (find (λ (m : Mount ℕ). nat_eq number m.number) start.mounts)
        (λ (m : Mount ℕ). m.mount_point) ≡ (before number).mount_point
    found_point = grind (arith, common_steps)

    -- What an event detaches, seen through what is gone.
    pub going_is_seen : going nat_eq now (later number) ≡ going_then start gone number
    going_is_seen = ap (going_at nat_eq now (later number)) point_then ∙ by (before number).mount_point
        ∙ ap (λ o. going_by start gone number
        (then_some o (λ place. group_at_then start.mounts gone (inherited_mount_point nat_eq start gone place))))
        (sym found_point)
      where
        by : (o : Option (Location ℕ))
            → going_at nat_eq now (later number) (option_map (inherited_mount_point nat_eq start gone) o)
            ≡ going_by start gone number
            (then_some o (λ place. group_at_then start.mounts gone (inherited_mount_point nat_eq start gone place)))
        by None = own
        by (Some place) = at_place (inherited_mount_point nat_eq start gone place)
