-- Groups of others that lose their last members, and what mounts of others become.
use Rattle.std.proofs.Common.{arith, ◌≡◌, refl, sym, ap, subst, ◌∙◌, ◌⊎◌, inl, inr, ⊎_elim, ℕ, nat_eq, Bool, true, false, cond, true≢false, List, [], Option, Some, None, length, map, eq-eqb}
use Rattle.vt_spec.proofs.Common.{Among, Mount, Namespace, Private, Propagation, Shared, Slave, Task, TaskName, Unbindable, World, among-from_filter, among-map, among_from_list_all, and_parts, any_among, any_from_among, common_steps, find-chain_start, found_among, group_of, groups_up, has_members, heir, inherited, inheriting, is_among_numbers, is_member_of, list_any, map_same, map_twice, master_of, members, none_is_some, other_mounts, own_mounts, regrouped_by, same_Some, shares_no_events, slave_of_heir, source_of}
use Rattle.vt_laws_sealed.proofs.Common.{along_chain}
use Rattle.vt_laws_sealed.proofs.part.part.Observed.{own_mounts_same}
use Rattle.vt_laws_sealed.proofs.part.part.PartOfPart.{keep}
use Rattle.vt_laws_sealed.proofs.outsiders.ChangedWorlds.{OthersMove, changing_leaves_apart, others_from, sees}
use Rattle.vt_laws_sealed.proofs.outsiders.OtherMounts.{Foreign, HearsGroup, events_stay_apart, member_of_heard, other_hears_foreign}
use Rattle.vt_laws_sealed.proofs.outsiders.Reshaping.{IsReshaped, reshaped_twice, reshaping_keeps, reshaping_kept}
use Rattle.vt_laws_sealed.proofs.outsiders.StandingApart.{StandsApart}
use Rattle.vt_laws_sealed.proofs.outsiders.Staying.{LeavesApart}

module _ {world : World ℕ} {names : List TaskName} {New : ℕ → Type 0} (apart : StandsApart world names New) where
  -- a type that only groups of others are in
  abbrev pub IsOfOthers : Propagation ℕ → Type 0
  IsOfOthers kind = ((number : ℕ) → group_of kind ≡ Some number → Foreign apart number)
      × ((number : ℕ) → kind ≡ Slave number → Foreign apart number)

  pub of_nobody : IsOfOthers Private
  of_nobody = (λ number e. none_is_some number e, λ number e. none_is_some number (ap source_of e))

  pub old_type : (other : Mount ℕ) → Among other (other_mounts nat_eq world names) → IsOfOthers other.propagation
  old_type other m = (
    λ number e. other_hears_foreign apart other m number (inl e),
    λ number e. other_hears_foreign apart other m number (inr (ap (master_of world) e)),
  )

-- A change of mounts of others: those of the set and those in no namespace stay, and groups of others stay theirs.
pub record ChangesOthers {world : World ℕ} {names : List TaskName} {New : ℕ → Type 0}
    (apart : StandsApart world names New) (change : Mount ℕ → Mount ℕ) (master : ℕ → Option ℕ) : Type 0 where
  pub shape : (mount : Mount ℕ) → IsReshaped mount (change mount)
  pub own_same : (own : Mount ℕ) → Among own (own_mounts nat_eq world names) → change own ≡ own
  pub nowhere_same : (mount : Mount ℕ) → Among mount world.mounts → mount.namespace ≡ None → change mount ≡ mount
  pub kinds : (other : Mount ℕ) → Among other (other_mounts nat_eq world names)
      → IsOfOthers apart (change other).propagation
  pub above : (number above : ℕ) → Foreign apart number → master number ≡ Some above → Foreign apart above
  pub own_master : (number : ℕ) → list_any (is_member_of nat_eq number) (own_mounts nat_eq world names) ≡ true
      → master number ≡ world.master number

-- After it groups without members are gone.
module _ {world : World ℕ} {names : List TaskName} {New : ℕ → Type 0} {apart : StandsApart world names New}
    {change : Mount ℕ → Mount ℕ} {middle_master : ℕ → Option ℕ} (it : ChangesOthers apart change middle_master)
    {tasks : List (Task ℕ)} {namespaces : List (Namespace ℕ)}
    (moved : OthersMove world names tasks namespaces) (lost : Bool) where
  abbrev IsForeign : ℕ → Type 0
  IsForeign = Foreign apart

  abbrev pub middle : World ℕ
  middle = record world {
    mounts = map change world.mounts;
    master = middle_master;
    namespaces = namespaces;
    tasks = tasks;
  }

  -- a group that a mount of theirs hears has a member of theirs, also after the change
  members_stay : (own : Mount ℕ) → Among own (own_mounts nat_eq world names) → (number : ℕ)
      → HearsGroup apart world own.propagation number → has_members nat_eq middle.mounts number ≡ true
  members_stay own m number how =
      let member = member_of_heard apart own m number how in
      grind (arith, common_steps, any_from_among, among-map, among-from_filter, it.own_same)

  heir_stays : (own : Mount ℕ) → Among own (own_mounts nat_eq world names) → (number : ℕ)
      → HearsGroup apart world own.propagation number → heir nat_eq middle (Some number) ≡ Some number
  heir_stays own m number how =
      find-chain_start (has_members nat_eq middle.mounts) middle.master (length middle.mounts) number
      (members_stay own m number how)

  heir_foreign : (number found : ℕ) → IsForeign number → heir nat_eq middle (Some number) ≡ Some found → IsForeign found
  heir_foreign number found foreign e =
      along_chain middle.master IsForeign (λ above lower up lower_foreign. it.above lower above lower_foreign up)
      (length middle.mounts) number found foreign (is_among_numbers (groups_up middle number) found
      (found_among (has_members nat_eq middle.mounts) (groups_up middle number) found e))

  inherited_foreign : (kind : Propagation ℕ) → IsOfOthers apart kind
      → IsOfOthers apart (inherited nat_eq middle kind)
  inherited_foreign (Shared g) is = is
  inherited_foreign (Slave g) is = by (heir nat_eq middle (Some g)) refl
    where
      by : (o : Option ℕ) → heir nat_eq middle (Some g) ≡ o → IsOfOthers apart (slave_of_heir o)
      by None e = (λ number f. none_is_some number f, λ number f. none_is_some number (ap source_of f))
      by (Some found) e = (
        λ number f. none_is_some number f,
        λ number f. subst IsForeign (same_Some found number (ap source_of f)) (heir_foreign g found (is.1 g refl) e),
      )
  inherited_foreign Private is = is
  inherited_foreign Unbindable is = is

  abbrev regroup : Mount ℕ → Mount ℕ
  regroup mount = cond lost (inheriting nat_eq middle mount) mount

  abbrev pub all_changed : Mount ℕ → Mount ℕ
  all_changed mount = regroup (change mount)

  abbrev pub after_all : World ℕ
  after_all = regrouped_by nat_eq lost middle

  pub mounts_are : after_all.mounts ≡ map all_changed world.mounts
  mounts_are = by lost ∙ map_twice regroup change world.mounts
    where
      by : (b : Bool) → (regrouped_by nat_eq b middle).mounts
          ≡ map (λ (mount : Mount ℕ). cond b (inheriting nat_eq middle mount) mount) middle.mounts
      by true = refl
      by false = sym (map_same (λ (mount : Mount ℕ). mount) middle.mounts (λ mount m. refl))

  regroup_shape : (mount : Mount ℕ) → IsReshaped mount (regroup mount)
  regroup_shape mount = by lost
    where
      by : (b : Bool) → IsReshaped mount (cond b (inheriting nat_eq middle mount) mount)
      by true = (mount.namespace, mount.mount_point, inherited nat_eq middle mount.propagation, refl, inl refl)
      by false = (mount.namespace, mount.mount_point, mount.propagation, refl, inl refl)

  pub all_shape : (mount : Mount ℕ) → IsReshaped mount (all_changed mount)
  all_shape mount =
      reshaped_twice mount (change mount) (all_changed mount) (it.shape mount) (regroup_shape (change mount))

  -- a mount of theirs stays
  own_type_stays : (own : Mount ℕ) → Among own (own_mounts nat_eq world names)
      → inherited nat_eq middle own.propagation ≡ own.propagation
  own_type_stays own m = by own.propagation refl
    where
      by : (kind : Propagation ℕ) → own.propagation ≡ kind → inherited nat_eq middle kind ≡ kind
      by (Shared g) e = refl
      by (Slave g) e = ap slave_of_heir (heir_stays own m g (inr (ap (master_of world) e)))
      by Private e = refl
      by Unbindable e = refl

  regroup_stays : (mount : Mount ℕ) → inherited nat_eq middle mount.propagation ≡ mount.propagation
      → regroup mount ≡ mount
  regroup_stays mount e = grind (arith, common_steps)

  pub own_stays : (own : Mount ℕ) → Among own (own_mounts nat_eq world names) → all_changed own ≡ own
  own_stays own m = cc (it.own_same own m, regroup_stays own (own_type_stays own m))

  nowhere_stays : (mount : Mount ℕ) → Among mount world.mounts → mount.namespace ≡ None → all_changed mount ≡ mount
  nowhere_stays mount there none =
      grind (arith, common_steps, regroup_stays, and_parts, among_from_list_all, true≢false, it.nowhere_same)

  -- masters of groups of theirs
  own_master_stays : (number : ℕ) → list_any (is_member_of nat_eq number) (own_mounts nat_eq world names) ≡ true
      → after_all.master number ≡ world.master number
  own_master_stays number h = grind (
    arith,
    common_steps,
    any_among (is_member_of nat_eq number) (own_mounts nat_eq world names) h,
    heir_stays,
    it.own_master,
    same_Some,
    none_is_some,
  )

  after_above : (number above : ℕ) → IsForeign number → after_all.master number ≡ Some above → IsForeign above
  after_above number above foreign = by lost
    where
      up : (o : Option ℕ) → middle.master number ≡ o → heir nat_eq middle o ≡ Some above → IsForeign above
      up None e f = none_is_some above f
      up (Some upper) e f = heir_foreign upper above (it.above number upper foreign e) f

      by : (b : Bool) → (regrouped_by nat_eq b middle).master number ≡ Some above → IsForeign above
      by true e = up (middle.master number) refl e
      by false e = it.above number above foreign e

  -- the sweep may take masters, but not those of groups of theirs
  module _ (master : ℕ → Option ℕ)
      (taken : (number : ℕ) → (master number ≡ after_all.master number) ⊎ (master number ≡ None))
      (theirs_stay : (number : ℕ) → list_any (is_member_of nat_eq number) (own_mounts nat_eq world names) ≡ true
      → master number ≡ after_all.master number) where
    abbrev left : World ℕ
    left = record world {
      mounts = map all_changed world.mounts;
      master = master;
      namespaces = namespaces;
      tasks = tasks;
    }

    own_masters : (number : ℕ) → list_any (is_member_of nat_eq number) (own_mounts nat_eq world names) ≡ true
        → master number ≡ world.master number
    own_masters number h = theirs_stay number h ∙ own_master_stays number h

    left_above : (number above : ℕ) → IsForeign number → master number ≡ Some above → IsForeign above
    left_above number above foreign e =
        ⊎_elim (λ same. after_above number above foreign (cc)) (λ none. none_is_some above (cc))
        (taken number)

    heard_foreign : (kind : Propagation ℕ) → IsOfOthers apart kind → (number : ℕ)
        → HearsGroup apart left kind number → IsForeign number
    heard_foreign kind is number how = grind (arith, common_steps, left_above, none_is_some, same_Some)

    changed_foreign : (other : Mount ℕ) → Among other (other_mounts nat_eq world names)
        → IsOfOthers apart (all_changed other).propagation
    changed_foreign other m = by lost
      where
        by : (b : Bool) → IsOfOthers apart
            (cond b (inheriting nat_eq middle (change other)) (change other)).propagation
        by true = inherited_foreign (change other).propagation (it.kinds other m)
        by false = it.kinds other m

    own_kinds : (own : Mount ℕ) → Among own (own_mounts nat_eq world names)
        → master_of left own.propagation ≡ master_of world own.propagation
    own_kinds own m = grind (arith, common_steps, own_masters, any_from_among, eq-eqb)

    kept_same : (mount : Mount ℕ) → Among mount world.mounts
        → keep world names (members world names) (all_changed mount) ≡ keep world names (members world names) mount
    kept_same = reshaping_kept world names apart all_changed all_shape own_stays nowhere_stays

    events : shares_no_events nat_eq left names ≡ true
    events = events_stay_apart apart left (own_mounts_same world left names
        (sees apart (reshaping_keeps all_changed all_shape) kept_same master moved
        own_masters)) own_kinds (λ other m number how.
        let from = others_from apart
        (reshaping_keeps all_changed all_shape) kept_same master moved other m in
        heard_foreign (all_changed from.0).propagation (changed_foreign from.0 from.1) number
        (subst (λ kind. HearsGroup apart left kind number) (ap (λ (x : Mount ℕ). x.propagation) from.2) how))

    pub regrouping_leaves_apart : LeavesApart world left names []
    regrouping_leaves_apart = changing_leaves_apart apart
        (reshaping_keeps all_changed all_shape) kept_same master moved own_masters events
