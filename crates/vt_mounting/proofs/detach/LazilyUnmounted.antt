-- A lazy unmount of a tree of which no mount is in a group, and whose top stands on no shared mount: each of its events
-- detaches one mount of the tree, and in the end all of them are detached.
use Rattle.std.proofs.Common.{◌≡◌, refl, sym, ap, subst, ◌∙◌, inl, inr, ⊎_elim, ◌⊎◌, ℕ, zero, suc, nat_eq, eqb-true, eq-eqb, Bool, true, false, true≢false, cond, not, ◌&&◌, ◌||◌, List, [], ◌∷◌, ◌++◌, map, find, length, Option, Some, None, option_map, is_some, unwrap_or, map-id, arith}
use Rattle.vt_spec.proofs.Common.{HasLivingGroups, Lives, Location, Mount, MountInvariants, Private, Propagation, Shared, Slave, Unbindable, World, after_going, any_pair, chain, children, common_steps, cons_option, deepest_first, detached, folded, going, holds_of, insert_deepest, is_among, is_going, is_nowhere_or_attached, is_private, is_shared, last_or, lazily_unmounted, list_all, map_alike, map_twice, mount_at, mount_in, mount_numbered, inherited_mount_point, mount_point_of_parent, mount_tree, no_mount, none_is_some, regrouped, same_Some, stands_on, taken_away, tree_from, unmounted_if_there, with_mounts}
use Rattle.vt_spec.proofs.Lists as Spec
use Rattle.vt_mounting.proofs.Common.{AllGroupsLive, Among, all_from_among, among-flat_map, among-from_filter, among-from_flat_map, among-from_map, among-map, among_from_all, among_from_list_all, among_numbers, found_in, found_is_there, found_itself, is_among_numbers, is_ungrouped, peer_of, peers_of, regrouped_living}
use Rattle.vt_laws_mounts.proofs.letting_go.mounting.MountingTaken as Taken
use Rattle.vt_laws_mounts.proofs.mounts.Standing.{standing_is_computed}
use Rattle.vt_laws_mounts.proofs.ends.UnmountingTrees.{trees_closed}
use Rattle.vt_mounting.proofs.detach.DetachingBegins.{HasChildrenOf, detached_world}
use Rattle.vt_mounting.proofs.detach.Keeping.{detached_in}
use Rattle.vt_mounting.proofs.detach.Grouped.{members_alike, no_peer, no_source}
use Rattle.vt_mounting.proofs.detach.MountsGone.{found_mapped}
use Rattle.vt_mounting.proofs.detach.UnmountedAlone.{goes_apart}
use Rattle.vt_laws_mounts.proofs.ends.EndingCounts.{tree_placed}
pub use Rattle.vt_laws_mounts.specs.LettingGo.Unmounting.{numbers_of_trees}

-- Mounts ordered by their depth are the same mounts

module _ (world : World ℕ) where
  insert_among : (x mount : Mount ℕ) (sorted : List (Mount ℕ)) → (x ≡ mount) ⊎ Among x sorted
      → Among x (insert_deepest nat_eq world mount sorted)
  insert_among x mount [] m = m
  insert_among x mount (other ∷ rest) m = grind (arith, common_steps, insert_among x mount rest)

  among_insert : (x mount : Mount ℕ) (sorted : List (Mount ℕ)) → Among x (insert_deepest nat_eq world mount sorted)
      → (x ≡ mount) ⊎ Among x sorted
  among_insert x mount [] m = m
  among_insert x mount (other ∷ rest) m = grind (arith, common_steps, among_insert x mount rest)

  abbrev sorted_with : List (Mount ℕ) → List (Mount ℕ) → List (Mount ℕ)
  sorted_with start mounts = folded (λ sorted mount. insert_deepest nat_eq world mount sorted) start mounts

  sorted_among : (x : Mount ℕ) (mounts start : List (Mount ℕ)) → Among x start ⊎ Among x mounts
      → Among x (sorted_with start mounts)
  sorted_among x [] start m = ⊎_elim (λ s. s) (λ none. absurd none) m
  sorted_among x (mount ∷ mounts) start m = sorted_among x mounts (insert_deepest nat_eq world mount start)
      (⊎_elim (λ s. inl (insert_among x mount start (inr s)))
      (λ later. ⊎_elim (λ same. inl (insert_among x mount start (inl same))) (λ l. inr l) later) m)

  among_sorted : (x : Mount ℕ) (mounts start : List (Mount ℕ)) → Among x (sorted_with start mounts)
      → Among x start ⊎ Among x mounts
  among_sorted x [] start m = inl m
  among_sorted x (mount ∷ mounts) start m = ⊎_elim
      (λ s. ⊎_elim (λ same. inr (inl same)) (λ l. inl l) (among_insert x mount start s)) (λ later. inr (inr later))
      (among_sorted x mounts (insert_deepest nat_eq world mount start) m)

-- One event after the other

unshared : (kind : Propagation ℕ) → is_ungrouped kind ≡ true → is_shared kind ≡ false
unshared (Shared group) e = absurd (true≢false (sym e))
unshared (Slave master) e = refl
unshared Private e = refl
unshared Unbindable e = refl

-- a mount stands on none that is shared
abbrev pub IsApart : World ℕ → Mount ℕ → Type 0
IsApart world mount =
    (place : Location ℕ) → mount.mount_point ≡ Some place → is_shared (mount_at nat_eq world place).propagation ≡ false

-- The mounts of a tree can be detached one by one: none is in a group, and none stands on a shared mount.
pub record CanDetach (world : World ℕ) (tree : List ℕ) : Type 0 where
  pub live : AllGroupsLive world
  pub one : any_pair (λ (a b : Mount ℕ). nat_eq a.number b.number) world.mounts ≡ false
  pub closed : HasChildrenOf tree world.mounts
  pub attached : (mount : Mount ℕ) → Among mount world.mounts → is_among nat_eq mount.number tree ≡ true
      → is_some mount.namespace ≡ true
  pub free : (mount : Mount ℕ) → Among mount world.mounts → is_among nat_eq mount.number tree ≡ true
      → is_ungrouped mount.propagation ≡ true
  pub apart : (mount : Mount ℕ) → Among mount world.mounts → is_among nat_eq mount.number tree ≡ true
      → IsApart world mount

module _ {world : World ℕ} {tree : List ℕ} (can : CanDetach world tree) where
  open can use {live, one, closed, attached, free, apart}

  -- these are detached, and others of the tree may have other mount points
  record IsUnderway (done : List ℕ) (now : World ℕ) : Type 0 where
    change : Mount ℕ → Mount ℕ
    is : now ≡ with_mounts world (map change world.mounts)
    number : (mount : Mount ℕ) → (change mount).number ≡ mount.number
    same : (mount : Mount ℕ) → detached (change mount) ≡ detached mount
    gone : (mount : Mount ℕ) → Among mount world.mounts → is_among nat_eq mount.number done ≡ true
        → change mount ≡ detached mount
    others : (mount : Mount ℕ) → Among mount world.mounts → is_among nat_eq mount.number tree ≡ false
        → change mount ≡ mount
    waiting : (mount : Mount ℕ) → Among mount world.mounts → is_among nat_eq mount.number done ≡ false
        → (change mount).namespace ≡ mount.namespace
    ungrouped_still : (mount : Mount ℕ) → is_ungrouped mount.propagation ≡ true
        → is_ungrouped (change mount).propagation ≡ true
    apart_still : (mount : Mount ℕ) → Among mount world.mounts → is_among nat_eq mount.number tree ≡ true
        → IsApart world (change mount)

  begun : IsUnderway [] world
  begun = record {
    change = λ mount. mount;
    is = ap (with_mounts world) (sym (map-id world.mounts));
    number = λ mount. refl;
    same = λ mount. refl;
    gone = λ mount m e. absurd (true≢false (sym e));
    others = λ mount m e. refl;
    waiting = λ mount m e. refl;
    ungrouped_still = λ mount e. e;
    apart_still = apart;
  }

  -- Where the mounts outside the tree stay, and the others stay out of groups, all groups live.
  live_still : (change : Mount ℕ → Mount ℕ) → ((mount : Mount ℕ) → (change mount).number ≡ mount.number)
      → ((mount : Mount ℕ) → Among mount world.mounts → is_among nat_eq mount.number tree ≡ false
      → change mount ≡ mount)
      → ((mount : Mount ℕ) → is_ungrouped mount.propagation ≡ true → is_ungrouped (change mount).propagation ≡ true)
      → AllGroupsLive (with_mounts world (map change world.mounts))
  live_still change number others still = all_from_among (HasLivingGroups nat_eq after) after.mounts (λ mount m.
      let from = among-from_map change world.mounts mount m in
      subst (HasLivingGroups nat_eq after) (sym from.2) (lives from.0 from.1 (is_among nat_eq from.0.number tree) refl))
    where
      after : World ℕ
      after = with_mounts world (map change world.mounts)

      peers : (mounts : List (Mount ℕ)) → ((mount : Mount ℕ) → Among mount mounts → Among mount world.mounts)
          → peers_of (map change mounts) ≡ peers_of mounts
      peers [] within = refl
      peers (mount ∷ rest) within =
          by (is_among nat_eq mount.number tree) refl (peers rest (λ other m. within other (inr m)))
        where
          by : (b : Bool) → is_among nat_eq mount.number tree ≡ b → peers_of (map change rest) ≡ peers_of rest
              → peers_of (map change (mount ∷ rest)) ≡ peers_of (mount ∷ rest)
          by true e later =
              let its = free mount (within mount (inl refl)) e in
              no_peer (change mount) (peers_of (map change rest)) (still mount its) ∙ later
              ∙ sym (no_peer mount (peers_of rest) its)
          by false e later = λ i. cons_option (peer_of (others mount (within mount (inl refl)) e i)) (later i)

      lives : (mount : Mount ℕ) → Among mount world.mounts → (b : Bool) → is_among nat_eq mount.number tree ≡ b
          → HasLivingGroups nat_eq after (change mount)
      lives mount m true e = λ group is.
          none_is_some group (sym (no_source (change mount).propagation (still mount (free mount m e))) ∙ is)
      lives mount m false e = subst (HasLivingGroups nat_eq after) (sym (others mount m e)) (λ group is.
          subst (λ members. Lives members world.master group)
          (λ i one. members_alike world.mounts after.mounts (sym (peers world.mounts (λ x n. n))) one i)
          (among_from_all (HasLivingGroups nat_eq world) world.mounts live mount m group is))

  module _ {done : List ℕ} {now : World ℕ} (so : IsUnderway done now) where
    -- a mount of that number now
    found_now : (n : ℕ) → mount_numbered nat_eq now n
        ≡ unwrap_or (option_map so.change (find (λ (x : Mount ℕ). nat_eq n x.number) world.mounts)) (no_mount n)
    found_now n = ap (λ (w : World ℕ). mount_numbered nat_eq w n) so.is
        ∙ ap (λ o. unwrap_or o (no_mount n)) (found_mapped so.change so.number world.mounts n)

    -- one that is not shared is not shared now
    unshared_now : (n : ℕ) → is_shared (mount_numbered nat_eq world n).propagation ≡ false
        → is_shared (mount_numbered nat_eq now n).propagation ≡ false
    unshared_now n is = ap (λ (x : Mount ℕ). is_shared x.propagation) (found_now n)
        ∙ by (find (λ (x : Mount ℕ). nat_eq n x.number) world.mounts) refl is
      where
        kept : (mount : Mount ℕ) → Among mount world.mounts → is_shared mount.propagation ≡ false
            → (b : Bool) → is_among nat_eq mount.number tree ≡ b → is_shared (so.change mount).propagation ≡ false
        kept mount m e true its = unshared (so.change mount).propagation (so.ungrouped_still mount (free mount m its))
        kept mount m e false out = ap (λ (x : Mount ℕ). is_shared x.propagation) (so.others mount m out) ∙ e

        by : (o : Option (Mount ℕ)) → find (λ (x : Mount ℕ). nat_eq n x.number) world.mounts ≡ o
            → is_shared (unwrap_or o (no_mount n)).propagation ≡ false
            → is_shared (unwrap_or (option_map so.change o) (no_mount n)).propagation ≡ false
        by None e h = refl
        by (Some mount) e h = kept mount (found_in (λ (x : Mount ℕ). nat_eq n x.number) world.mounts mount e).0 h
            (is_among nat_eq mount.number tree) refl

  module _ {done : List ℕ} {now : World ℕ} (so : IsUnderway done now) (number : ℕ)
      (in_tree : is_among nat_eq number tree ≡ true) where
    -- it stands on no shared mount
    stands_apart : {place : Location ℕ} → (mount_numbered nat_eq now number).mount_point ≡ Some place
        → is_shared (mount_at nat_eq world place).propagation ≡ false
    stands_apart {place} p = by (find (λ (x : Mount ℕ). nat_eq number x.number) world.mounts) refl
        (ap (λ (x : Mount ℕ). x.mount_point) (sym (found_now so number)) ∙ p)
      where
        by : (o : Option (Mount ℕ)) → find (λ (x : Mount ℕ). nat_eq number x.number) world.mounts ≡ o
            → (unwrap_or (option_map so.change o) (no_mount number)).mount_point ≡ Some place
            → is_shared (mount_at nat_eq world place).propagation ≡ false
        by None e q = none_is_some place q
        by (Some mount) e q =
            let its = found_in (λ (x : Mount ℕ). nat_eq number x.number) world.mounts mount e in
            so.apart_still mount its.0
            (ap (λ n. is_among nat_eq n tree) (sym (eqb-true number mount.number its.1)) ∙ in_tree) place q

    goes_now : going nat_eq now (mount_numbered nat_eq now number) ≡ number ∷ []
    goes_now = goes_apart now number (by (mount_numbered nat_eq now number).mount_point refl)
      where
        by : (o : Option (Location ℕ)) → (mount_numbered nat_eq now number).mount_point ≡ o
            → holds_of (λ (place : Location ℕ). is_shared (mount_at nat_eq now place).propagation) o ≡ false
        by None e = refl
        by (Some place) e = unshared_now so place.mount (stands_apart e)

    -- the mount of that number now
    now_is : (mount : Mount ℕ) → Among mount world.mounts → mount.number ≡ number
        → mount_numbered nat_eq now number ≡ so.change mount
    now_is mount m numbered = found_now so number
        ∙ ap (λ o. unwrap_or (option_map so.change o) (no_mount number)) (found mount m numbered)
      where
        found : (mount : Mount ℕ) → Among mount world.mounts → mount.number ≡ number
            → find (λ (x : Mount ℕ). nat_eq number x.number) world.mounts ≡ Some mount
        found mount m numbered = by (find (λ (x : Mount ℕ). nat_eq number x.number) world.mounts) refl
          where
            itself : mount_in nat_eq world.mounts number ≡ mount
            itself = ap (mount_in nat_eq world.mounts) (sym numbered) ∙ found_itself world.mounts one mount m

            by : (o : Option (Mount ℕ)) → find (λ (x : Mount ℕ). nat_eq number x.number) world.mounts ≡ o
                → o ≡ Some mount
            by None e = absurd (true≢false (sym (attached mount m (ap (λ n. is_among nat_eq n tree) numbered ∙ in_tree))
                ∙ ap (λ (x : Mount ℕ). is_some x.namespace) (sym itself)
                ∙ ap (λ o. is_some (unwrap_or o (no_mount number)).namespace) e))
            by (Some x) e = ap Some (ap (λ o. unwrap_or o (no_mount number)) (sym e) ∙ itself)

    split : (mount : Mount ℕ) → is_among nat_eq mount.number (number ∷ done) ≡ true
        → (mount.number ≡ number) ⊎ (is_among nat_eq mount.number done ≡ true)
    split mount e = grind (arith, common_steps, eqb-true)

    other_yet : (mount : Mount ℕ) → is_among nat_eq mount.number (number ∷ done) ≡ false
        → (nat_eq mount.number number ≡ false) × (is_among nat_eq mount.number done ≡ false)
    other_yet mount e = grind (arith, common_steps)

    -- an event that is skipped
    skipped : is_some (mount_numbered nat_eq now number).namespace ≡ false → IsUnderway (number ∷ done) now
    skipped nowhere = record {
      change = so.change;
      is = so.is;
      number = so.number;
      same = so.same;
      gone = λ mount m e. ⊎_elim (λ numbered. earlier mount m numbered (is_among nat_eq mount.number done) refl)
          (λ before. so.gone mount m before) (split mount e);
      others = so.others;
      waiting = λ mount m e. so.waiting mount m (other_yet mount e).1;
      ungrouped_still = so.ungrouped_still;
      apart_still = so.apart_still;
    }
      where
        earlier : (mount : Mount ℕ) → Among mount world.mounts → mount.number ≡ number → (b : Bool)
            → is_among nat_eq mount.number done ≡ b → so.change mount ≡ detached mount
        earlier mount m numbered true e = so.gone mount m e
        earlier mount m numbered false e =
            absurd (true≢false (sym (attached mount m (ap (λ n. is_among nat_eq n tree) numbered ∙ in_tree))
            ∙ ap is_some (sym (so.waiting mount m e))
            ∙ ap (λ (x : Mount ℕ). is_some x.namespace) (sym (now_is mount m numbered)) ∙ nowhere))

    -- an event that detaches the mount
    abbrev next_change : Mount ℕ → Mount ℕ
    next_change mount = after_going nat_eq now (number ∷ []) (so.change mount)

    now_mounts : now.mounts ≡ map so.change world.mounts
    now_mounts = ap (λ (w : World ℕ). w.mounts) so.is

    going_so : (x : Mount ℕ) → x.number ≡ number → after_going nat_eq now (number ∷ []) x ≡ detached x
    going_so x numbered = ap (λ b. cond (b || false) (detached x)
        (record x { mount_point = option_map (inherited_mount_point nat_eq now (number ∷ [])) x.mount_point }))
        (eq-eqb x.number number numbered)

    stays_so : (x : Mount ℕ) → nat_eq x.number number ≡ false → is_going nat_eq (number ∷ []) x.number ≡ false
    stays_so x other = ap (λ b. b || false) other

    unplaced_stays : (x : Mount ℕ) → nat_eq x.number number ≡ false → x.mount_point ≡ None
        → after_going nat_eq now (number ∷ []) x ≡ x
    unplaced_stays x other none = Taken.stays_there now (number ∷ []) now.namespaces x (stays_so x other) ∙ (λ i. record x {
      mount_point = (ap (option_map (inherited_mount_point nat_eq now (number ∷ []))) none ∙ sym none) i;
    })

    placed_stays : (x : Mount ℕ) {place : Location ℕ} → nat_eq x.number number ≡ false → x.mount_point ≡ Some place
        → nat_eq place.mount number ≡ false → after_going nat_eq now (number ∷ []) x ≡ x
    placed_stays x {place} other p apart_from = grind (arith, common_steps)

    -- one outside the tree stands on none of it
    outside_stays : (mount : Mount ℕ) → Among mount world.mounts → is_among nat_eq mount.number tree ≡ false
        → after_going nat_eq now (number ∷ []) mount ≡ mount
    outside_stays mount m out = by mount.mount_point refl
      where
        other : (n : ℕ) → is_among nat_eq n tree ≡ false → nat_eq n number ≡ false
        other n outside = here (nat_eq n number) refl
          where
            here : (b : Bool) → nat_eq n number ≡ b → b ≡ false
            here true e = absurd (true≢false
                (sym in_tree ∙ ap (λ k. is_among nat_eq k tree) (sym (eqb-true n number e)) ∙ outside))
            here false e = refl

        by : (o : Option (Location ℕ)) → mount.mount_point ≡ o → after_going nat_eq now (number ∷ []) mount ≡ mount
        by None p = unplaced_stays mount (other mount.number out) p
        by (Some place) p = placed_stays mount (other mount.number out) p
            (other place.mount (under (is_among nat_eq place.mount tree) refl))
          where
            under : (b : Bool) → is_among nat_eq place.mount tree ≡ b → b ≡ false
            under true e = absurd (true≢false (sym (closed mount m place p e) ∙ out))
            under false e = refl

    detached_alike : (x : Mount ℕ) → detached (after_going nat_eq now (number ∷ []) x) ≡ detached x
    detached_alike x = grind (arith, common_steps)

    ungrouped_alike : (x : Mount ℕ) → is_ungrouped x.propagation ≡ true
        → is_ungrouped (after_going nat_eq now (number ∷ []) x).propagation ≡ true
    ungrouped_alike x h = grind (arith, common_steps)

    next_gone : (mount : Mount ℕ) → Among mount world.mounts → is_among nat_eq mount.number (number ∷ done) ≡ true
        → next_change mount ≡ detached mount
    next_gone mount m e = grind (arith, common_steps, eq-eqb, unplaced_stays, going_so, eqb-true, split)

    next_number : (mount : Mount ℕ) → (next_change mount).number ≡ mount.number
    next_number mount = Taken.same_number now (number ∷ []) now.namespaces false (so.change mount) ∙ so.number mount

    next_others : (mount : Mount ℕ) → Among mount world.mounts → is_among nat_eq mount.number tree ≡ false
        → next_change mount ≡ mount
    next_others mount m out =
        ap (after_going nat_eq now (number ∷ [])) (so.others mount m out) ∙ outside_stays mount m out

    -- A mount that stands on one that goes falls to where that one stands, which is on no shared mount.
    falls_apart : (place : Location ℕ) → is_shared (mount_at nat_eq world place).propagation ≡ false
        → is_shared (mount_at nat_eq world (inherited_mount_point nat_eq now (number ∷ []) place)).propagation ≡ false
    falls_apart place is = last (length now.mounts) place place is is
      where
        below : Location ℕ → Option (Location ℕ)
        below = mount_point_of_parent nat_eq now (number ∷ [])

        stands : (at : Location ℕ) → (b : Bool) → nat_eq at.mount number ≡ b → (under : Location ℕ)
            → cond (b || false) (mount_at nat_eq now at).mount_point None ≡ Some under
            → is_shared (mount_at nat_eq world under).propagation ≡ false
        stands at false e under p = none_is_some under p
        stands at true e under p = stands_apart
            (ap (λ n. (mount_numbered nat_eq now n).mount_point) (sym (eqb-true at.mount number e)) ∙ p)

        last : (steps : ℕ) (default at : Location ℕ) → is_shared (mount_at nat_eq world default).propagation ≡ false
            → is_shared (mount_at nat_eq world at).propagation ≡ false
            → is_shared (mount_at nat_eq world (last_or default (chain steps below at))).propagation ≡ false
        last zero default at was so_far = so_far
        last (suc steps) default at was so_far = by (below at) refl (λ under is. last steps at under so_far is)
          where
            by : (o : Option (Location ℕ)) → below at ≡ o
                → ((under : Location ℕ) → is_shared (mount_at nat_eq world under).propagation ≡ false
                → is_shared (mount_at nat_eq world (last_or at (chain steps below under))).propagation ≡ false)
                → is_shared (mount_at nat_eq world
                (last_or default (elim o [ None ↦ at ∷ [] | Some b ↦ at ∷ chain steps below b ]))).propagation ≡ false
            by None e further = so_far
            by (Some under) e further = further under (stands at (nat_eq at.mount number) refl under e)

    apart_next : (mount : Mount ℕ) → Among mount world.mounts → is_among nat_eq mount.number tree ≡ true → (b : Bool)
        → IsApart world (cond b (detached (so.change mount)) (record (so.change mount) {
          mount_point = option_map (inherited_mount_point nat_eq now (number ∷ [])) (so.change mount).mount_point;
        }))
    apart_next mount m its true place p = none_is_some place p
    apart_next mount m its false place p = by (so.change mount).mount_point refl p
      where
        by : (o : Option (Location ℕ)) → (so.change mount).mount_point ≡ o
            → option_map (inherited_mount_point nat_eq now (number ∷ [])) o ≡ Some place
            → is_shared (mount_at nat_eq world place).propagation ≡ false
        by None e q = none_is_some place q
        by (Some at) e q = ap (λ one. is_shared (mount_at nat_eq world one).propagation)
            (sym (same_Some (inherited_mount_point nat_eq now (number ∷ []) at) place q))
            ∙ falls_apart at (so.apart_still mount m its at e)

    unmounted_now : is_some (mount_numbered nat_eq now number).namespace ≡ true
        → IsUnderway (number ∷ done) (taken_away nat_eq now (number ∷ []))
    unmounted_now there = record {
      change = next_change;
      is = ap (λ mounts. regrouped nat_eq (with_mounts now mounts))
          (ap (map (after_going nat_eq now (number ∷ []))) now_mounts
          ∙ map_twice (after_going nat_eq now (number ∷ [])) so.change world.mounts)
          ∙ ap (λ w. regrouped nat_eq (with_mounts w (map next_change world.mounts))) so.is
          ∙ regrouped_living (with_mounts world (map next_change world.mounts))
          (live_still next_change next_number next_others (λ mount h. ungrouped_alike (so.change mount)
          (so.ungrouped_still mount h)));
      number = next_number;
      same = λ mount. detached_alike (so.change mount) ∙ so.same mount;
      gone = next_gone;
      others = next_others;
      waiting = λ mount m e. Taken.same_namespace now (number ∷ []) now.namespaces false (so.change mount)
          (stays_so (so.change mount) (ap (λ n. nat_eq n number) (so.number mount) ∙ (other_yet mount e).0))
          ∙ so.waiting mount m (other_yet mount e).1;
      ungrouped_still = λ mount h. ungrouped_alike (so.change mount) (so.ungrouped_still mount h);
      apart_still = λ mount m its. apart_next mount m its (is_going nat_eq (number ∷ []) (so.change mount).number);
    }

    next_event : (mount : Mount ℕ) → mount.number ≡ number
        → IsUnderway (number ∷ done) (unmounted_if_there nat_eq now mount)
    next_event mount numbered = grind (arith, common_steps, goes_now, unmounted_now, skipped)

  -- all events
  abbrev taken_by : List (Mount ℕ) → List ℕ → List ℕ
  taken_by [] done = done
  taken_by (mount ∷ events) done = taken_by events (mount.number ∷ done)

  all_events : (events : List (Mount ℕ))
      → ((mount : Mount ℕ) → Among mount events → is_among nat_eq mount.number tree ≡ true)
      → {done : List ℕ} {now : World ℕ} → IsUnderway done now
      → IsUnderway (taken_by events done) (folded (unmounted_if_there nat_eq) now events)
  all_events [] within so = so
  all_events (mount ∷ events) within {done} {now} so =
      all_events events (λ x m. within x (inr m)) (next_event so mount.number (within mount (inl refl)) mount refl)

  stays_taken : (events : List (Mount ℕ)) (done : List ℕ) (number : ℕ) → Among number done
      → Among number (taken_by events done)
  stays_taken [] done number m = m
  stays_taken (mount ∷ events) done number m = stays_taken events (mount.number ∷ done) number (inr m)

  event_taken : (events : List (Mount ℕ)) (done : List ℕ) (mount : Mount ℕ) → Among mount events
      → Among mount.number (taken_by events done)
  event_taken [] done mount m = absurd m
  event_taken (first ∷ events) done mount m =
      ⊎_elim (λ same. stays_taken events (first.number ∷ done) mount.number (inl (ap (λ (x : Mount ℕ). x.number) same)))
      (λ later. event_taken events (first.number ∷ done) mount later) m

  -- where each mount of the tree has its event
  pub events_detach : (events : List (Mount ℕ))
      → ((mount : Mount ℕ) → Among mount events → is_among nat_eq mount.number tree ≡ true)
      → ((number : ℕ) → is_among nat_eq number tree ≡ true
      → (mount : Mount ℕ) × Among mount events × (mount.number ≡ number))
      → folded (unmounted_if_there nat_eq) world events ≡ detached_world tree world
  events_detach events within each =
      let so = all_events events within begun in
      so.is ∙ ap (with_mounts world) (map_alike so.change (detached_in tree) world.mounts
      (λ mount m. by so mount m (is_among nat_eq mount.number tree) refl))
    where
      by : (so : IsUnderway (taken_by events []) (folded (unmounted_if_there nat_eq) world events)) (mount : Mount ℕ)
          → Among mount world.mounts
          → (b : Bool) → is_among nat_eq mount.number tree ≡ b → so.change mount ≡ cond b (detached mount) mount
      by so mount m true e =
          let event = each mount.number e in
          so.gone mount m (is_among_numbers mount.number (taken_by events [])
          (subst (λ n. Among n (taken_by events [])) event.2 (event_taken events [] event.0 event.1)))
      by so mount m false e = so.others mount m e

-- The tree of a mount

pub to_spec : {A : Type 0} (x : A) (xs : List A) → Among x xs → Spec.Among x xs
to_spec x [] m = m
to_spec x (y ∷ ys) m = ⊎_elim (λ same. inl same) (λ later. inr (to_spec x ys later)) m

append_none : {A : Type 0} (xs : List A) → xs ++ [] ≡ xs
append_none [] = refl
append_none (x ∷ xs) = ap (λ rest. x ∷ rest) (append_none xs)

-- trees of mounts have all that stands on them
pub trees_have_children : (world : World ℕ) → MountInvariants nat_eq world → (tops : List (Mount ℕ))
    → HasChildrenOf (numbers_of_trees world tops) world.mounts
trees_have_children world kept tops mount m place p goes =
    trees_closed world kept.one_number ((standing_is_computed world kept.one_number).0 kept.standing) tops mount place
    (to_spec mount world.mounts m) p goes

-- a mount of a tree stands on another of the tree, if it is not the top
tree_parent : (depth : ℕ) (mounts : List (Mount ℕ)) (top x : Mount ℕ) → Among x (tree_from nat_eq depth mounts top)
    → (x ≡ top) ⊎ ((parent : Mount ℕ) × Among parent (tree_from nat_eq depth mounts top)
    × (stands_on nat_eq parent.number x ≡ true))
tree_parent zero mounts top x m = ⊎_elim inl (λ none. absurd none) m
tree_parent (suc depth) mounts top x m = ⊎_elim inl (λ later.
    let under = among-from_flat_map (tree_from nat_eq depth mounts) (children nat_eq mounts top.number) x later in
    let child = among-from_filter (stands_on nat_eq top.number) mounts under.0 under.1 in
    inr (⊎_elim (λ same. (top, inl refl, ap (stands_on nat_eq top.number) same ∙ child.1)) (λ above. (
      above.0,
      inr (among-flat_map (tree_from nat_eq depth mounts) (children nat_eq mounts top.number) under.0 above.0 under.1
          above.1),
      above.2,
    )) (tree_parent depth mounts under.0 x under.2))) m

module _ {world : World ℕ} (kept : MountInvariants nat_eq world) (number : ℕ)
    (there : is_some (mount_numbered nat_eq world number).namespace ≡ true) where
  abbrev top : Mount ℕ
  top = mount_numbered nat_eq world number

  abbrev tree : List (Mount ℕ)
  tree = mount_tree nat_eq world.mounts top

  abbrev numbers : List ℕ
  numbers = map (λ (mount : Mount ℕ). mount.number) tree

  pub tree_has_children : HasChildrenOf numbers world.mounts
  tree_has_children =
      subst (λ all. HasChildrenOf (map (λ (mount : Mount ℕ). mount.number) all) world.mounts) (append_none tree)
      (trees_have_children world kept (top ∷ []))

  placed_is_attached : (y : Mount ℕ) (b c : Bool) → c ≡ true → (b || (not c && is_private y.propagation)) ≡ true
      → b ≡ true
  placed_is_attached y true c e g = refl
  placed_is_attached y false true e g = absurd (true≢false (sym g))
  placed_is_attached y false false e g = absurd (true≢false (sym e))

  member_attached : (y : Mount ℕ) → (y ≡ top) ⊎ (Among y world.mounts × (is_some y.mount_point ≡ true))
      → Among y world.mounts × (is_some y.namespace ≡ true)
  member_attached y h = ⊎_elim (λ same. (
    subst (λ x. Among x world.mounts) (sym same) (found_is_there world.mounts number there),
    ap (λ (x : Mount ℕ). is_some x.namespace) same ∙ there,
  )) (λ placed. (
    placed.0,
    placed_is_attached y (is_some y.namespace) (is_some y.mount_point) placed.1
        (among_from_list_all is_nowhere_or_attached world.mounts kept.nowhere y placed.0),
  )) h

  tree_attached : (mount : Mount ℕ) → Among mount world.mounts → is_among nat_eq mount.number numbers ≡ true
      → is_some mount.namespace ≡ true
  tree_attached mount m within =
      let from = among-from_map (λ (x : Mount ℕ). x.number) tree mount.number
      (among_numbers mount.number numbers within) in
      let member = member_attached from.0 (tree_placed (length world.mounts) world.mounts top from.0 from.1) in
      cc (
        found_itself world.mounts kept.one_number mount m,
        from.2,
        found_itself world.mounts kept.one_number from.0
            member.0,
        member.1,
      )

  -- a mount of the tree is found by its number
  tree_mount : (mount : Mount ℕ) → Among mount world.mounts → is_among nat_eq mount.number numbers ≡ true
      → Among mount tree
  tree_mount mount m within =
      let from = among-from_map (λ (x : Mount ℕ). x.number) tree mount.number
      (among_numbers mount.number numbers within) in
      let member = member_attached from.0 (tree_placed (length world.mounts) world.mounts top from.0 from.1) in
      subst (λ x. Among x tree)
      (sym (sym (found_itself world.mounts kept.one_number mount m) ∙ ap (mount_in nat_eq world.mounts) from.2
      ∙ found_itself world.mounts kept.one_number from.0 member.0)) from.1

  pub tree_is_free : list_all (λ n. is_ungrouped (mount_in nat_eq world.mounts n).propagation) numbers ≡ true
      → (mount : Mount ℕ) → Among mount world.mounts → is_among nat_eq mount.number numbers ≡ true
      → is_ungrouped mount.propagation ≡ true
  tree_is_free ungrouped mount m its =
      ap (λ (x : Mount ℕ). is_ungrouped x.propagation) (sym (found_itself world.mounts kept.one_number mount m))
      ∙ among_from_list_all (λ n. is_ungrouped (mount_in nat_eq world.mounts n).propagation) numbers ungrouped
      mount.number
      (among_numbers mount.number numbers its)

  -- Where the tree's mounts are in no group, and the top stands on no shared mount, a lazy unmount detaches the tree.
  pub lazily_is_detached : list_all (λ n. is_ungrouped (mount_in nat_eq world.mounts n).propagation) numbers ≡ true
      → IsApart world top → lazily_unmounted nat_eq world number ≡ detached_world numbers world
  lazily_is_detached ungrouped apart =
      events_detach (record {
        live = kept.groups;
        one = kept.one_number;
        closed = tree_has_children;
        attached = tree_attached;
        free = tree_is_free ungrouped;
        apart = each_apart;
      }) (deepest_first nat_eq world tree) (λ mount m. ⊎_elim (λ none. absurd none)
      (λ n. is_among_numbers mount.number numbers (among-map (λ (x : Mount ℕ). x.number) tree mount n))
      (among_sorted world mount tree [] m))
      (λ n within. let from = among-from_map (λ (x : Mount ℕ). x.number) tree n (among_numbers n numbers within) in
      (from.0, sorted_among world from.0 tree [] (inr from.1), sym from.2))
    where
      each_apart : (mount : Mount ℕ) → Among mount world.mounts → is_among nat_eq mount.number numbers ≡ true
          → IsApart world mount
      each_apart mount m its = ⊎_elim (λ same. subst (IsApart world) (sym same) apart)
          (λ under. λ place p. on_tree place under.0 under.1 (eqb-true under.0.number place.mount
          (ap (holds_of (λ (at : Location ℕ). nat_eq under.0.number at.mount)) (sym p) ∙ under.2)))
          (tree_parent (length world.mounts) world.mounts top mount (tree_mount mount m its))
        where
          on_tree : (place : Location ℕ) (parent : Mount ℕ) → Among parent tree → parent.number ≡ place.mount
              → is_shared (mount_at nat_eq world place).propagation ≡ false
          on_tree place parent among same = ap (λ n. is_shared (mount_in nat_eq world.mounts n).propagation) (sym same)
              ∙ unshared (mount_in nat_eq world.mounts parent.number).propagation
              (among_from_list_all (λ n. is_ungrouped (mount_in nat_eq world.mounts n).propagation) numbers ungrouped
              parent.number
              (among-map (λ (x : Mount ℕ). x.number) tree parent among))
