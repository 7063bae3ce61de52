-- The events of a lazy unmount in turn, each seen through the mounts that those before it detached.
use Rattle.std.proofs.Common.{◌≡◌, ◌<◌, ◌≤◌, ◌+◌, refl, sym, ap, subst, ◌∙◌, ℕ, nat_eq, Bool, true, false, true≢false, ◌||◌, ◌&&◌, not, List, [], ◌∷◌, ◌++◌, drop, filter, get_or, length, Some, is_some, option_map, ⊎_elim, append-nil, append_assoc, if◌then◌else◌, arith}
use Rattle.vt_spec.proofs.Common.{Location, Mount, MountInvariants, World, after_going, among-filter, among-from_map, any_among, any_from_among, children, common_steps, detached, drop_all, drop_more, going, has_members, is_going, is_member_of, list_any-append, may_go, mount_in, mount_numbered, inherited_mount_point, none_among, receivers, root_of, same_Some, stands_on, taken_away, unmounted, unmounted_if_there, without_dead_groups}
use Rattle.vt_location.specs.declared.numbers.MountId.{MountId}
use Rattle.vt_location.specs.Numbers.{counted}
use Rattle.vt_laws_mounts.proofs.ends.EndingLazy.{IsUnderWay, begun, childless, next}
use Rattle.vt_laws_mounts.proofs.ends.EndingOrder.{taken_in_turn}
use Rattle.vt_laws_mounts.proofs.mounts.MountsFound.{number-mount_in, placed_among}
use Rattle.vt_laws_mounts.proofs.mounts.MountsPlaces.{stands_there}
use Rattle.vt_laws_mounts.proofs.mounts.MountsReplaced.{found_itself}
use Rattle.vt_laws_mounts.proofs.ends.Unmounting.{middle, taken}
use Rattle.vt_laws_mounts.proofs.ends.UnmountingPlaces.{Falls, goes_or_may, stood}
use Rattle.vt_laws_mounts.proofs.ends.UnmountingPlaces.Falls.{direct, down}
use Rattle.vt_propagate.specs.LazyUnmounts.{going_if_there, gone_by, gone_lazily, lazy_events}
use Rattle.vt_propagate.specs.Through.{going_then, going_then_if_there}
use Rattle.vt_propagate.proofs.Found.{counts}
use Rattle.vt_propagate.proofs.LazyUnmounts.{nothing_taken}
use Rattle.vt_propagate.proofs.lazily.Looks.{IsLeft, covers, going_is_seen, gone_then, kept_then, on_its_parent, root_then}
use Rattle.vt_propagate.proofs.lazily.Over.{Over, over_further, over_more}
use Rattle.vt_propagate.proofs.lazily.Over.Over.{here}
use Rattle.vt_propagate.proofs.lazily.ReceiversLeft.{receivers_left}
use Rattle.vt_propagate.proofs.TakenTwice.{taken_twice}
use Rattle.vt_laws_mounts.proofs.Groups.{members-regrouped}
use Rattle.vt_laws_mounts.specs.Mounts.Attaching.{numbers_of}

-- Lists

stay_twice : (gone more : List ℕ) (numbers_of : List ℕ)
    → filter (λ n. not (is_going nat_eq more n)) (filter (λ n. not (is_going nat_eq gone n)) numbers_of)
    ≡ filter (λ n. not (is_going nat_eq (gone ++ more) n)) numbers_of
stay_twice gone more [] = refl
stay_twice gone more (n ∷ rest) = grind (arith, common_steps, stay_twice gone more rest, list_any-append)

all_stay : (numbers_of : List ℕ) → numbers_of ≡ filter (λ n. not (is_going nat_eq [] n)) numbers_of
all_stay [] = refl
all_stay (n ∷ rest) = ap (λ list. n ∷ list) (all_stay rest)

-- a group that has members once mounts are gone had some before
had_members : (world : World ℕ) (gone : List ℕ) (group : ℕ)
    → has_members nat_eq (taken_away nat_eq world gone).mounts group ≡ true
    → has_members nat_eq world.mounts group ≡ true
had_members world gone group has =
    let member = any_among (is_member_of nat_eq group) (middle world gone).mounts
    (sym (members-regrouped (middle world gone) group) ∙ has) in
    let from = among-from_map (after_going nat_eq world gone) world.mounts member.0 member.1 in
    any_from_among (is_member_of nat_eq group) world.mounts from.0 from.1
    (by from.0 (is_going nat_eq gone from.0.number) (ap (is_member_of nat_eq group) (sym from.2) ∙ member.2))
  where
    by : (mount : Mount ℕ) (b : Bool) → is_member_of nat_eq group (if b then detached mount else (record mount {
      mount_point = option_map (inherited_mount_point nat_eq world gone) mount.mount_point;
    })) ≡ true → is_member_of nat_eq group mount ≡ true
    by mount true e = absurd (true≢false (sym e))
    by mount false e = e

module _ (start : World ℕ) (at_first : MountInvariants nat_eq start) (one : ℕ) where
  -- a world that the events so far led to, from which these follow
  pub record IsReached (now : World ℕ) (left : List (Mount ℕ)) (gone : List ℕ) : Type 0 where
    pub way : IsUnderWay start at_first one now left
    pub so : IsLeft start now gone
    pub at_once : (others : List ℕ) → without_dead_groups nat_eq (taken_away nat_eq now others)
        ≡ without_dead_groups nat_eq (taken_away nat_eq start (gone ++ others))

  begins : IsReached start (taken_in_turn start one) []
  begins = record {
    way = begun start at_first one;
    so = record {
      kept = at_first;
      mounts = ap (λ (w : World ℕ). w.mounts) (sym (nothing_taken start at_first));
      over = λ number place e. here place number e;
      receivers_are = λ group has. all_stay (numbers_of (receivers nat_eq start group));
    };
    at_once = λ others. refl;
  }

  module _ {now : World ℕ} {mount : Mount ℕ} {left : List (Mount ℕ)} {gone : List ℕ}
      (reached : IsReached now (mount ∷ left) gone) where
    abbrev later : ℕ → Mount ℕ
    later number = mount_numbered nat_eq now number

    -- the event, seen through what is gone
    pub event_is_seen : going_if_there now mount ≡ going_then_if_there start gone mount.number
    event_is_seen = by (is_going nat_eq gone mount.number) refl
      where
        events : Bool → List ℕ
        events there = if there then going nat_eq now (later mount.number) else []

        by : (b : Bool) → is_going nat_eq gone mount.number ≡ b
            → going_if_there now mount ≡ going_then_if_there start gone mount.number
        by true goes = ap (λ (m : Mount ℕ). events (is_some m.namespace))
            (gone_then at_first reached.so mount.number goes)
            ∙ sym (ap (λ b. if not b && is_some (mount_numbered nat_eq start mount.number).namespace then going_then
            start gone mount.number else []) goes)
        by false stays =
            ap (λ o. events (is_some o)) (kept_then at_first reached.so mount.number stays).namespace
            ∙ ap (λ list. if is_some (mount_numbered nat_eq start mount.number).namespace then list else [])
            (going_is_seen at_first reached.so mount.number stays)
            ∙ sym (ap (λ b. if not b && is_some (mount_numbered nat_eq start mount.number).namespace then going_then
            start gone mount.number else []) stays)

    abbrev more : List ℕ
    more = going nat_eq now (later mount.number)

    -- what goes with more is what goes, and the more
    gone_with_more : (number : ℕ) → is_going nat_eq (gone ++ more) number
        ≡ (is_going nat_eq gone number || is_going nat_eq more number)
    gone_with_more number = list_any-append (nat_eq number) gone more

    gone_still : (number : ℕ) → is_going nat_eq gone number ≡ true → is_going nat_eq (gone ++ more) number ≡ true
    gone_still number goes = gone_with_more number ∙ ap (λ b. b || is_going nat_eq more number) goes

    gone_too : (number : ℕ) → is_going nat_eq more number ≡ true → is_going nat_eq (gone ++ more) number ≡ true
    gone_too number goes = grind (arith, common_steps)

    -- what stands on a mount that goes covers its root
    on_root : (number : ℕ) {place : Location ℕ} → (later number).mount_point ≡ Some place
        → is_going nat_eq more place.mount ≡ true → place ≡ root_of (later place.mount)
    on_root number {place} at goes = same_Some place (root_of (later place.mount))
        (sym at ∙ stands_there (root_of (later place.mount)) (later number)
        (covers (later place.mount) (children nat_eq now.mounts (later place.mount).number) may (later number)
        (among-filter (stands_on nat_eq (later place.mount).number) now.mounts (later number)
        (placed_among now.mounts number place at) (on_its_parent place (later number) (later place.mount).number at
        (sym (number-mount_in now.mounts place.mount))))))
      where
        no_child : place.mount ≡ mount.number → ⊥
        no_child same = true≢false (sym (on_its_parent place (later number) mount.number at same)
            ∙ none_among (stands_on nat_eq mount.number) now.mounts
            (childless start at_first one now mount left reached.way) (later number)
            (placed_among now.mounts number place at))

        may : may_go nat_eq now (later place.mount) ≡ true
        may = ⊎_elim (λ itself. absurd (no_child (itself ∙ number-mount_in now.mounts mount.number)))
            (λ t. subst (λ z. may_go nat_eq now z ≡ true)
            (sym (ap (mount_in nat_eq now.mounts) t.3 ∙ found_itself now.mounts reached.so.kept.one_number t.0 t.1))
            t.2) (goes_or_may now (later mount.number) place.mount goes)

    falls_over : (number : ℕ) (place : Location ℕ) → Falls now more (later number) place
        → ((at : ℕ) × ((later at).mount_point ≡ Some place)) × Over start (gone ++ more) place number
    falls_over number place (direct rest e) = (
      (number, e),
      over_more start gone (gone ++ more) gone_still rest number (reached.so.over number rest e),
    )
    falls_over number place (down at rest fall goes e) =
        let up = falls_over number at fall in (
          (at.mount, e),
          over_further start (gone ++ more) rest at.mount number
              (over_more start gone (gone ++ more) gone_still rest at.mount (reached.so.over at.mount rest e))
              (gone_too at.mount goes) (subst (λ root. Over start (gone ++ more) root number)
              (on_root up.0.0 up.0.1 goes ∙ root_then at_first reached.so at.mount) up.1),
        )

    after_event : (b : Bool) → is_some (later mount.number).namespace ≡ b
        → IsReached (if b then unmounted nat_eq now mount.number else now) left (gone ++ (if b then more else []))
    after_event true there = record {
      way = subst (λ b. IsUnderWay start at_first one (if b then unmounted nat_eq now mount.number else now) left)
          there (next start at_first one now mount left reached.way);
      so = record {
        kept = (subst (λ b. IsUnderWay start at_first one
            (if b then unmounted nat_eq now mount.number else now) left) there
            (next start at_first one now mount left reached.way)).kept;
        mounts = ap (λ (w : World ℕ). w.mounts) (reached.at_once more);
        over = λ number place e. (falls_over number place (stood now more (later number) place
            (sym (ap (λ (m : Mount ℕ). m.mount_point) (taken now more number)) ∙ e)).1).1;
        receivers_are = λ group has. receivers_left now reached.so.kept.groups more group has
            ∙ ap (filter (λ n. not (is_going nat_eq more n)))
            (reached.so.receivers_are group (had_members now more group has))
            ∙ stay_twice gone more (numbers_of (receivers nat_eq start group));
      };
      at_once = λ others. taken_twice now more others reached.so.kept ∙ reached.at_once (more ++ others)
          ∙ ap (λ list. without_dead_groups nat_eq (taken_away nat_eq start list))
          (sym (append_assoc gone more others));
    }
    after_event false there = subst (IsReached now left) (sym (append-nil gone)) (record {
      way = subst (λ b. IsUnderWay start at_first one (if b then unmounted nat_eq now mount.number else now) left)
          there (next start at_first one now mount left reached.way);
      so = reached.so;
      at_once = reached.at_once;
    })

    next_reached : IsReached (unmounted_if_there nat_eq now mount) left (gone ++ going_if_there now mount)
    next_reached = after_event (is_some (later mount.number).namespace) refl

-- One event after the other

-- a world is reached from which these events follow
pub record IsTaken (start : World ℕ) (at_first : MountInvariants nat_eq start) (one : ℕ) (gone rest : List ℕ)
    : Type 0 where
  pub now : World ℕ
  pub left : List (Mount ℕ)
  pub left_are : numbers_of left ≡ rest
  pub reached : IsReached start at_first one now left gone
  pub are_gone : gone ++ gone_by now left ≡ gone_lazily start one

module _ (start : World ℕ) (at_first : MountInvariants nat_eq start) (one : ℕ) where
  taken_begin : IsTaken start at_first one [] (numbers_of (lazy_events start one))
  taken_begin = record {
    now = start;
    left = lazy_events start one;
    left_are = refl;
    reached = begins start at_first one;
    are_gone = refl;
  }

  taken_next : {gone more : List ℕ} {number : ℕ} {rest : List ℕ}
      → IsTaken start at_first one gone (number ∷ rest) → more ≡ going_then_if_there start gone number
      → IsTaken start at_first one (gone ++ more) rest
  taken_next {gone} {more} {number} {rest} so is = by so.left so.left_are so.reached so.are_gone
    where
      none_more : [] ≡ number ∷ rest → ⊥
      none_more e = cc

      head : ℕ → List ℕ → ℕ
      head default [] = default
      head default (n ∷ ns) = n

      tail : List ℕ → List ℕ
      tail [] = []
      tail (n ∷ ns) = ns

      by : (left : List (Mount ℕ)) → numbers_of left ≡ number ∷ rest → IsReached start at_first one so.now left gone
          → gone ++ gone_by so.now left ≡ gone_lazily start one → IsTaken start at_first one (gone ++ more) rest
      by [] e reached are = absurd (none_more e)
      by (mount ∷ left) e reached are =
          let seen : more ≡ going_if_there so.now mount =
          is ∙ ap (going_then_if_there start gone) (sym (ap (head number) e))
          ∙ sym (event_is_seen start at_first one reached) in
          record {
            now = unmounted_if_there nat_eq so.now mount;
            left = left;
            left_are = ap tail e;
            reached = subst
                (λ list. IsReached start at_first one (unmounted_if_there nat_eq so.now mount) left (gone ++ list))
                (sym seen) (next_reached start at_first one reached);
            are_gone = append_assoc gone more (gone_by (unmounted_if_there nat_eq so.now mount) left)
                ∙ ap (λ list. gone ++ (list ++ gone_by (unmounted_if_there nat_eq so.now mount) left)) seen ∙ are;
          }

  taken_end : (gone : List ℕ) → IsTaken start at_first one gone [] → gone ≡ gone_lazily start one
  taken_end gone so = by so.left so.left_are so.are_gone
    where
      some_none : (mount : Mount ℕ) (left : List (Mount ℕ)) → numbers_of (mount ∷ left) ≡ [] → ⊥
      some_none mount left e = cc

      by : (left : List (Mount ℕ)) → numbers_of left ≡ [] → gone ++ gone_by so.now left ≡ gone_lazily start one
          → gone ≡ gone_lazily start one
      by [] e are = sym (append-nil gone) ∙ are
      by (mount ∷ left) e are = absurd (some_none mount left e)

  -- as code goes through its events

  -- at first no mount of the tree is taken
  pub taken_first : (items : List MountId) → counts items ≡ numbers_of (lazy_events start one)
      → IsTaken start at_first one [] (counts items)
  taken_first items are = subst (IsTaken start at_first one []) (sym are) taken_begin

  -- one mount more is taken with those that go with it
  pub taken_step : (gone going new : List MountId) (items : List MountId) (i : ℕ) (default : MountId)
      → i < length items → counts new ≡ counts gone ++ counts going
      → IsTaken start at_first one (counts gone) (counts (drop i items))
      → counts going ≡ going_then_if_there start (counts gone) (counted (get_or items i default).count)
      → IsTaken start at_first one (counts new) (counts (drop (i + 1) items))
  taken_step gone going new items i default less more so is =
      subst (λ list. IsTaken start at_first one list (counts (drop (i + 1) items))) (sym more)
      (taken_next
      (subst (λ list. IsTaken start at_first one (counts gone) (counts list)) (drop_more items i default less) so) is)

  -- at last all that the unmount takes are taken
  pub taken_last : (gone : List MountId) (items : List MountId) (i : ℕ) → length items ≤ i
      → IsTaken start at_first one (counts gone) (counts (drop i items)) → counts gone ≡ gone_lazily start one
  taken_last gone items i all so = taken_end (counts gone)
      (subst (λ list. IsTaken start at_first one (counts gone) (counts list)) (drop_all i items all) so)
