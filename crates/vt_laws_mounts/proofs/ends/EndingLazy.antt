-- A lazy unmount keeps the invariants of mounts: as the event of a mount comes, nothing stands on it any more.
use Rattle.std.proofs.Common.{◌≡◌, refl, sym, ap, subst, true, false, nat_eq, ℕ, Bool, List, None, Option, Some, [], arith, eqb-true, inl, inr, is_some, suc, true≢false, ⊎_elim, ◌∷◌, ◌<◌, ◌≤◌, ◌⊎◌, if◌then◌else◌}
use Rattle.vt_spec.proofs.Common.{Among, Location, Mount, MountInvariants, World, among-from_map, among_cases, among_from_list_all, among_numbers, common_steps, depth_of, false_from_ne_true, folded, found_or_none, going, has_child, is_among, mount_numbered, none_from_among, stands_on, taken_away, unmounted, unmounted_if_there}
use Rattle.vt_laws_mounts.specs.Mounts.Attaching.{numbers_of}
use Rattle.vt_laws_mounts.specs.Mounts.Invariants.{NowhereOrAttached}
use Rattle.vt_laws_mounts.specs.Mounts.Ending.{LazyUnmountKeepsMounts}
use Rattle.vt_laws_mounts.proofs.ends.Ending.{unmount_keeps_mounts}
use Rattle.vt_laws_mounts.proofs.ends.EndingOrder.{AreDeepestFirst, in_order, is_itself, is_taken_in_turn, lies_in_it, taken_in_turn}
use Rattle.vt_laws_mounts.proofs.mounts.MountsReplaced.{found_itself}
use Rattle.vt_laws_mounts.proofs.mounts.Standing.{LiesIn, depth_by_rank, further_in, rank, rank_child}
use Rattle.vt_laws_mounts.proofs.mounts.Standing.LiesIn.{itself, under}
use Rattle.vt_laws_mounts.proofs.ends.Unmounting.{detached_by_number, root_stays, taken}
use Rattle.vt_laws_mounts.proofs.ends.UnmountingEnds.{the_mount_itself_goes}
use Rattle.vt_laws_mounts.proofs.ends.UnmountingPlaces.{Falls, stood}
use Rattle.vt_laws_mounts.proofs.ends.UnmountingPlaces.Falls.{direct, down}

-- a mount outside every namespace has no place
no_place_outside : (world : World ℕ) → NowhereOrAttached world → (number : ℕ)
    → is_some (mount_numbered nat_eq world number).namespace ≡ false
    → (mount_numbered nat_eq world number).mount_point ≡ None
no_place_outside world nowhere number e =
    grind (arith, common_steps, among_from_list_all, found_or_none world.mounts number, true≢false)

-- a mount on which nothing stands is without a place once it is unmounted
no_place_then : (world : World ℕ) → MountInvariants nat_eq world → (one : ℕ) → has_child nat_eq world one ≡ false
    → (mount_numbered nat_eq (unmounted nat_eq world one) one).mount_point ≡ None
no_place_then world kept one childless =
    grind (arith, common_steps, root_stays, detached_by_number, the_mount_itself_goes, childless)

module _ (start : World ℕ) (at_first : MountInvariants nat_eq start) (one : ℕ) where
  abbrev rank_of : ℕ → ℕ
  rank_of number = rank start at_first.one_number at_first.standing number

  -- a mount stood over another as the call began
  abbrev StoodOver : ℕ → ℕ → Type 0
  StoodOver below number = LiesIn start below number × (rank_of below < rank_of number)

  -- The events that are left, when a part of them is over: each mount stands on one over which it stood, and those of
  -- the tree whose event is over stand nowhere
  pub record IsUnderWay (world : World ℕ) (left : List (Mount ℕ)) : Type 0 where
    pub kept : MountInvariants nat_eq world
    over : (number : ℕ) (place : Location ℕ) → (mount_numbered nat_eq world number).mount_point ≡ Some place
        → StoodOver place.mount number
    done : (number : ℕ) → LiesIn start one number
        → (is_among nat_eq number (numbers_of left) ≡ true) ⊎ ((mount_numbered nat_eq world number).mount_point ≡ None)
    order : AreDeepestFirst start left
    lies : (mount : Mount ℕ) → Among mount left → LiesIn start one mount.number
    itself : (mount : Mount ℕ) → Among mount left → mount_numbered nat_eq start mount.number ≡ mount

  further : (a b c : ℕ) → StoodOver a b → StoodOver b c → StoodOver a c
  further a b c first second =
      let low = first.1 in
      let high = second.1 in
      (further_in start a b c first.0 second.0, omega (arith, low, high))

  -- none that is left lies deeper than the next one
  no_deeper : (mount : Mount ℕ) (left : List (Mount ℕ)) → AreDeepestFirst start (mount ∷ left)
      → ((m : Mount ℕ) → Among m (mount ∷ left) → mount_numbered nat_eq start m.number ≡ m)
      → (number : ℕ) → is_among nat_eq number (numbers_of (mount ∷ left)) ≡ true → rank_of number ≤ rank_of mount.number
  no_deeper mount left order its number m = ⊎_elim (λ same. let equal = ap rank_of same in omega (arith, equal))
      (λ later.
      let from = among-from_map _ left number (among_numbers _ number later) in
      let x = from.0 in
      let first : depth_of nat_eq start mount ≡ suc (rank_of mount.number) =
      cc (its mount (inl refl), depth_by_rank start at_first.one_number at_first.standing mount.number) in
      let second : depth_of nat_eq start x ≡ suc (rank_of x.number) =
      cc (its x (inr from.1), depth_by_rank start at_first.one_number at_first.standing x.number) in
      let equal : rank_of number ≡ rank_of x.number = ap rank_of from.2 in
      let below = order.0 x from.1 in
      omega (arith, first, second, equal, below)) (among_cases number _ _ m)

  module _ (world : World ℕ) (mount : Mount ℕ) (left : List (Mount ℕ)) (way : IsUnderWay world (mount ∷ left)) where
    pub childless : has_child nat_eq world mount.number ≡ false
    childless = none_from_among _ _ (λ x m. false_from_ne_true _ (λ on. none x m _ refl on))
      where
        none : (x : Mount ℕ) → Among x world.mounts → (place : Option (Location ℕ)) → x.mount_point ≡ place
            → stands_on nat_eq mount.number x ≡ true → ⊥
        none x m None e on = cc
        none x m (Some p) e on =
            let same : mount.number ≡ p.mount =
            eqb-true mount.number p.mount (cc) in
            let found = found_itself _ way.kept.one_number x m in
            let over = way.over x.number p (cc found) in
            let high = over.1 in
            let equal : rank_of mount.number ≡ rank_of p.mount = ap rank_of same in
            let lies = further_in start one _ _ (way.lies mount (inl refl))
            (subst (λ k. LiesIn start k x.number) (sym same) over.0) in
            ⊎_elim (λ later.
            let low = no_deeper mount left way.order way.itself _ later in
            absurd (omega (arith, low, high, equal))) (λ gone. cc found) (way.done x.number lies)

    abbrev gone : List ℕ
    gone = going nat_eq world (mount_numbered nat_eq world mount.number)

    -- what falls stood over what it falls to
    falls_over : (number : ℕ) (rest : Location ℕ) → Falls world gone (mount_numbered nat_eq world number) rest
        → StoodOver rest.mount number
    falls_over number rest (direct at e) = way.over number at e
    falls_over number rest (down place below fall goes e) =
        further _ _ number (way.over place.mount below e) (falls_over number place fall)

    over_then : (number : ℕ) (place : Location ℕ)
        → (mount_numbered nat_eq (taken_away nat_eq world gone) number).mount_point ≡ Some place
        → StoodOver place.mount number
    over_then number place e = falls_over number place (stood world gone _ place (cc (taken world gone number))).1

    -- of a mount without a place nothing is left to do
    done_then : (after : World ℕ) → (mount_numbered nat_eq after mount.number).mount_point ≡ None
        → ((number : ℕ) → (mount_numbered nat_eq world number).mount_point ≡ None
        → (mount_numbered nat_eq after number).mount_point ≡ None) → (number : ℕ) → LiesIn start one number
        → (is_among nat_eq number (numbers_of left) ≡ true) ⊎ ((mount_numbered nat_eq after number).mount_point ≡ None)
    done_then after here stays number lies = ⊎_elim (λ later. ⊎_elim (λ same. inr (cc)) inl
        (among_cases number _ _ later)) (λ none. inr (stays number none)) (way.done number lies)

    pub next : IsUnderWay (unmounted_if_there nat_eq world mount) left
    next = by _ refl
      where
        by : (b : Bool) → is_some (mount_numbered nat_eq world mount.number).namespace ≡ b
            → IsUnderWay (if b then unmounted nat_eq world mount.number else world) left
        by true e = record {
          kept = unmount_keeps_mounts world mount.number way.kept childless;
          over = over_then;
          done = done_then (unmounted nat_eq world mount.number) (no_place_then world way.kept mount.number childless)
              (root_stays world gone);
          order = way.order.1;
          lies = λ x m. way.lies x (inr m);
          itself = λ x m. way.itself x (inr m);
        }
        by false e = record {
          kept = way.kept;
          over = way.over;
          done = done_then world (no_place_outside world way.kept.nowhere mount.number e) (λ number none. none);
          order = way.order.1;
          lies = λ x m. way.lies x (inr m);
          itself = λ x m. way.itself x (inr m);
        }

  all_events : (left : List (Mount ℕ)) (world : World ℕ) → IsUnderWay world left
      → MountInvariants nat_eq (folded (unmounted_if_there nat_eq) world left)
  all_events [] world way = way.kept
  all_events (mount ∷ left) world way = all_events left _ (next world mount left way)

  pub begun : IsUnderWay start (taken_in_turn start one)
  begun = record {
    kept = at_first;
    over = λ number place e.
        let child = rank_child start at_first.one_number at_first.standing number place e in
        (under place.mount number place e (itself place.mount), omega (arith, child));
    done = λ number lies. inl (is_taken_in_turn start at_first.one_number at_first.standing one number lies);
    order = in_order start one;
    lies = lies_in_it start at_first.one_number at_first.standing one;
    itself = is_itself start at_first.one_number at_first.standing one;
  }

pub lazy_unmount_keeps_mounts : LazyUnmountKeepsMounts
lazy_unmount_keeps_mounts world one kept = all_events world kept one _ world (begun world kept one)
