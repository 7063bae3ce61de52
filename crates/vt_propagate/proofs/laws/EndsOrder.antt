-- Of the mounts of namespaces that end, the deepest first: nothing stands on a mount any more when its turn comes.
use Rattle.std.proofs.Common.{◌≡◌, refl, sym, ap, subst, ◌∙◌, ◌≤◌, ◌⊎◌, arith, ℕ, suc, nat_eq, Bool, true, false, true≢false, eqb-true, is_some, List, [], ◌∷◌, filter, Option, None, Some, inl, inr, ⊎_elim}
use Rattle.vt_spec.proofs.Common.{Among, Location, Mount, MountInvariants, World, among-from_filter, among-from_map, among-map, among_cases, among_numbers, deepest_first, depth_of, false_from_ne_true, has_child, head_among, holds_of, is_among, is_among_numbers, is_going, is_in_ended, mount_numbered, none_from_among, stands_on}
use Rattle.vt_laws_mounts.specs.LettingGo.Mounting.{ended_mounts}
use Rattle.vt_laws_mounts.specs.Mounts.Attaching.{numbers_of}
use Rattle.vt_laws_mounts.proofs.ends.Ending.{none_stands}
use Rattle.vt_laws_mounts.proofs.ends.EndingOrder.{AreDeepestFirst, all_in_order, all_inserted_among, among_all_inserted}
use Rattle.vt_laws_mounts.proofs.ends.Unmounting.{detached_by_number, root_stays, taken}
use Rattle.vt_laws_mounts.proofs.ends.UnmountingNamespaces.{ended_closed}
use Rattle.vt_laws_mounts.proofs.ends.UnmountingPlaces.{Falls, stood}
use Rattle.vt_laws_mounts.proofs.ends.UnmountingPlaces.Falls.{direct, down}
use Rattle.vt_laws_mounts.proofs.mounts.MountsFound.{number-mount_in, placed_among}
use Rattle.vt_laws_mounts.proofs.mounts.MountsReplaced.{found_itself}
use Rattle.vt_laws_mounts.proofs.mounts.Standing.{depth_by_rank, rank, rank_child, standing_is_computed}
use Rattle.vt_propagate.specs.EndsInTurn.{AreEnded, EndedGoInTurn, GoInTurn, NamespacesEndDeepestFirst, ended_in_turn, without_one}
use Rattle.vt_propagate.proofs.laws.EndsInTurn.{alone_keeps_mounts, namespaces_end_in_turn}

-- where a mount without a child is detached alone, nothing falls
none_falls : (world : World ℕ) (one : ℕ) → has_child nat_eq world one ≡ false → (number : ℕ) (place : Location ℕ)
    → Falls world (one ∷ []) (mount_numbered nat_eq world number) place
    → (mount_numbered nat_eq world number).mount_point ≡ Some place
none_falls world one childless number place (direct rest e) = e
none_falls world one childless number place (down at rest fall goes under) =
    let on = none_falls world one childless number at fall in
    absurd (none_stands world one childless (mount_numbered nat_eq world number) at
    (placed_among world.mounts number at on) on
    (⊎_elim (λ same. same) (λ none. absurd (true≢false (sym none))) (among_cases at.mount one [] goes)))

module _ (start : World ℕ) (at_first : MountInvariants nat_eq start) where
  abbrev rank_of : ℕ → ℕ
  rank_of number = rank start at_first.one_number at_first.standing number

  -- the mounts that end
  abbrev gone : List ℕ
  gone = ended_mounts start

  -- the same, the deepest first
  abbrev sorted : List (Mount ℕ)
  sorted = deepest_first nat_eq start (filter (is_in_ended nat_eq start) start.mounts)

  -- The mounts that are left, when some are detached: each mount stands where it stood, or nowhere, and those that end
  -- and are not left stand nowhere
  record AreLeft (world : World ℕ) (left : List (Mount ℕ)) : Type 0 where
    kept : MountInvariants nat_eq world
    stays : (number : ℕ) (place : Location ℕ) → (mount_numbered nat_eq world number).mount_point ≡ Some place
        → (mount_numbered nat_eq start number).mount_point ≡ Some place
    done : (number : ℕ) → is_among nat_eq number gone ≡ true
        → (is_among nat_eq number (numbers_of left) ≡ true) ⊎ ((mount_numbered nat_eq world number).mount_point ≡ None)
    order : AreDeepestFirst start left
    ends : (mount : Mount ℕ) → Among mount left → is_among nat_eq mount.number gone ≡ true
    itself : (mount : Mount ℕ) → Among mount left → mount_numbered nat_eq start mount.number ≡ mount

  module _ {world : World ℕ} {mount : Mount ℕ} {left : List (Mount ℕ)} (are : AreLeft world (mount ∷ left)) where
    abbrev one : ℕ
    one = mount.number

    deep_itself : (x : Mount ℕ) → Among x (mount ∷ left) → depth_of nat_eq start x ≡ suc (rank_of x.number)
    deep_itself x m = ap (depth_of nat_eq start) (sym (are.itself x m))
        ∙ depth_by_rank start at_first.one_number at_first.standing x.number

    -- what is left lies no deeper
    lies_no_deeper : (number : ℕ) → is_among nat_eq number (numbers_of (mount ∷ left)) ≡ true
        → rank_of number ≤ rank_of one
    lies_no_deeper number m =
        let from = among-from_map (λ (x : Mount ℕ). x.number) (mount ∷ left) number
        (among_numbers (numbers_of (mount ∷ left)) number m) in
        let same : rank_of number ≡ rank_of from.0.number = ap rank_of from.2 in
        ⊎_elim (λ e. let equal : rank_of from.0.number ≡ rank_of one = ap (λ (x : Mount ℕ). rank_of x.number) e in
        omega (arith, same, equal)) (λ later.
        let low = are.order.0 from.0 later in
        let first = deep_itself mount (inl refl) in
        let second = deep_itself from.0 from.1 in
        omega (arith, low, first, second, same)) from.1

    -- so that nothing stands on the next one
    none_on_it : (x : Mount ℕ) → Among x world.mounts → {place : Location ℕ} → x.mount_point ≡ Some place
        → one ≡ place.mount → ⊥
    none_on_it x m {place} e same =
        let found = found_itself world.mounts are.kept.one_number x m in
        let stood_there : (mount_numbered nat_eq start x.number).mount_point ≡ Some place =
        are.stays x.number place (ap (λ (z : Mount ℕ). z.mount_point) found ∙ e) in
        let ended : is_going nat_eq gone x.number ≡ true =
        subst (λ n. is_going nat_eq gone n ≡ true) (number-mount_in start.mounts x.number)
        (ended_closed start ((standing_is_computed start at_first.one_number).0 at_first.standing) at_first.one_number
        (mount_numbered nat_eq start x.number) place (placed_among start.mounts x.number place stood_there) stood_there
        (subst (λ n. is_going nat_eq gone n ≡ true) same (are.ends mount (inl refl)))) in
        let high = rank_child start at_first.one_number at_first.standing x.number place stood_there in
        let equal : rank_of one ≡ rank_of place.mount = ap rank_of same in
        ⊎_elim (λ later. let low = lies_no_deeper x.number later in absurd (omega (arith, low, high, equal))) (λ none.
        true≢false (sym (ap is_some e) ∙ ap (λ (z : Mount ℕ). is_some z.mount_point) (sym found) ∙ ap is_some none))
        (are.done x.number ended)

    has_none : has_child nat_eq world one ≡ false
    has_none = none_from_among (stands_on nat_eq one) world.mounts (λ x m.
        false_from_ne_true (stands_on nat_eq one x) (λ on. by x m x.mount_point refl on))
      where
        by : (x : Mount ℕ) → Among x world.mounts → (place : Option (Location ℕ)) → x.mount_point ≡ place
            → stands_on nat_eq one x ≡ true → ⊥
        by x m None e on = true≢false (sym on ∙ ap (holds_of (λ p. nat_eq one p.mount)) e)
        by x m (Some place) e on = none_on_it x m e
            (eqb-true one place.mount (sym (ap (holds_of (λ p. nat_eq one p.mount)) e) ∙ on))

    -- and when it is detached alone, the rest is left
    next_left : AreLeft (without_one world one) left
    next_left = record {
      kept = alone_keeps_mounts world one are.kept has_none;
      stays = λ number place e. are.stays number place (none_falls world one has_none number place
          (stood world (one ∷ []) (mount_numbered nat_eq world number) place
          (sym (ap (λ (m : Mount ℕ). m.mount_point) (taken world (one ∷ []) number)) ∙ e)).1);
      done = λ number ended. ⊎_elim (λ later.
          ⊎_elim (λ same. inr (ap (λ n. (mount_numbered nat_eq (without_one world one) n).mount_point) same
          ∙ ap (λ (m : Mount ℕ). m.mount_point) (detached_by_number world (one ∷ []) one (head_among one one [] refl))))
          inl (among_cases number one (numbers_of left) later)) (λ none. inr (root_stays world (one ∷ []) number none))
          (are.done number ended);
      order = are.order.1;
      ends = λ x m. are.ends x (inr m);
      itself = λ x m. are.itself x (inr m);
    }

  -- so all go in turn
  left_in_turn : (left : List (Mount ℕ)) (world : World ℕ) → AreLeft world left → GoInTurn world (numbers_of left)
  left_in_turn [] world are = tt
  left_in_turn (mount ∷ left) world are = (
    has_none are,
    left_in_turn left (without_one world mount.number) (next_left are),
  )

  -- what is sorted is what ends
  from_sorted : (x : Mount ℕ) → Among x sorted → Among x (filter (is_in_ended nat_eq start) start.mounts)
  from_sorted x m = ⊎_elim (λ none. absurd none) (λ there. there)
      (among_all_inserted start (filter (is_in_ended nat_eq start) start.mounts) [] x m)

  ends_with_sorted : (number : ℕ) → is_among nat_eq number gone ≡ true
      → is_among nat_eq number (numbers_of sorted) ≡ true
  ends_with_sorted number ended =
      let ones = filter (is_in_ended nat_eq start) start.mounts in
      let from = among-from_map (λ (x : Mount ℕ). x.number) ones number (among_numbers gone number ended) in
      is_among_numbers (numbers_of sorted) number (subst (λ n. Among n (numbers_of sorted)) (sym from.2)
      (among-map (λ (x : Mount ℕ). x.number) sorted from.0 (all_inserted_among start ones [] from.0 (inr from.1))))

  sorted_end : (x : Mount ℕ) → Among x sorted → is_among nat_eq x.number gone ≡ true
  sorted_end x m = is_among_numbers gone x.number
      (among-map (λ (y : Mount ℕ). y.number) (filter (is_in_ended nat_eq start) start.mounts) x (from_sorted x m))

  all_left : AreLeft start sorted
  all_left = record {
    kept = at_first;
    stays = λ number place e. e;
    done = λ number ended. inl (ends_with_sorted number ended);
    order = all_in_order start (filter (is_in_ended nat_eq start) start.mounts) [] tt;
    ends = sorted_end;
    itself = λ x m. found_itself start.mounts at_first.one_number x
        (among-from_filter (is_in_ended nat_eq start) start.mounts x (from_sorted x m)).0;
  }

  sorted_are_ended : AreEnded start (ended_in_turn start)
  sorted_are_ended number = by (is_among nat_eq number (numbers_of sorted)) refl (is_among nat_eq number gone) refl
    where
      by : (b : Bool) → is_among nat_eq number (numbers_of sorted) ≡ b → (c : Bool) → is_among nat_eq number gone ≡ c
          → is_among nat_eq number (numbers_of sorted) ≡ is_among nat_eq number gone
      by true e c f =
          let from =
          among-from_map (λ (x : Mount ℕ). x.number) sorted number (among_numbers (numbers_of sorted) number e) in
          e ∙ sym (subst (λ n. is_among nat_eq n gone ≡ true) (sym from.2) (sorted_end from.0 from.1))
      by false e true f = absurd (true≢false (sym (ends_with_sorted number f) ∙ e))
      by false e false f = e ∙ sym f

-- the mounts of ended namespaces go in turn
pub ended_go_in_turn : EndedGoInTurn
ended_go_in_turn world kept = (
  left_in_turn world kept (sorted world kept) world (all_left world kept),
  sorted_are_ended world kept,
)

-- and those that stand deepest go first
pub namespaces_end_deepest_first : NamespacesEndDeepestFirst
namespaces_end_deepest_first world trees uppers reals kept =
    let turns = ended_go_in_turn world kept in
    namespaces_end_in_turn world (ended_in_turn world) trees uppers reals kept turns.0 turns.1
