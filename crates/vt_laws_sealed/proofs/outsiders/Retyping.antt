-- Types of mounts of others that are set: mount(2) with MS_SHARED, MS_SLAVE, MS_PRIVATE or MS_UNBINDABLE.
use Rattle.std.proofs.Common.{arith, ◌≡◌, refl, sym, ap, subst, ◌∙◌, ◌⊎◌, inl, inr, ⊎_elim, ℕ, nat_eq, Bool, true, false, cond, List, [], ◌∷◌, Option, Some, None, Ok, filter, is_some, length, map, eqb-true}
use Rattle.vt_spec.proofs.Common.{Among, Call, Fresh, Mount, Private, Propagation, Serves, SetType, Shared, Slave, Task, TaskName, ToPrivate, ToSetType, ToShared, ToSlave, ToUnbindable, TypeWord, Unbindable, World, after, among-filter, among-from_filter, among-map, any_among, any_from_among, apply, call_outcome, common_steps, false_from_ne_true, found_or_none, holds_of, index_of, is_member_of, is_own_mount, is_own_namespace, judge_in, list_any, lost_a_group, master_after, mount_lives, mount_numbered, named_mounts, none_is_some, numbers_by, or_left, other_mounts, own_mounts, regrouped_by, retyped_mount, same_Some, settled, source_of, task_called, type_after, with_master, with_new_groups}
use Rattle.vt_laws_sealed.proofs.outsiders.OthersCalls.{IsOthersCall, apart_from}
use Rattle.vt_laws_sealed.proofs.Common.{IsNewBy, KeepsAllButMasters, all_permits_fit, found_itself, mounts_overlay, name_found, permits_are_for_their_calls}
use Rattle.vt_laws_later_calls.proofs.ends.OtherCalls.{all_types_leave_all_but_masters}
use Rattle.vt_laws_sealed.specs.Part.Seals.{IsApart}
use Rattle.vt_laws_sealed.proofs.outsiders.ChangedWorlds.{others_rest}
use Rattle.vt_laws_sealed.proofs.outsiders.OtherMounts.{Foreign, HearsGroup, IsIn, tree_in, foreign_above, is_other, member_not_new, namespace_outside, other_hears_foreign, standing_apart_with}
use Rattle.vt_laws_sealed.proofs.outsiders.OwnTasks.{caller_outside}
use Rattle.vt_laws_sealed.proofs.outsiders.Regrouping.{ChangesOthers, IsOfOthers, after_all, all_changed, mounts_are, of_nobody, old_type, own_stays, regrouping_leaves_apart}
use Rattle.vt_laws_sealed.proofs.outsiders.Reshaping.{IsReshaped}
use Rattle.vt_laws_sealed.proofs.outsiders.StandingApart.{StandsApart}
use Rattle.vt_laws_sealed.proofs.outsiders.Staying.{LeavesApart}
use Rattle.vt_laws_sealed.proofs.part.groups.EventsApart.{member_group}

-- the masters after a change of types: as they were, or of a group that is made for a mount that is named
new_masters : (group : ℕ → ℕ) (number : ℕ) (named : List (Mount ℕ)) (master : ℕ → Option ℕ)
    → (with_new_groups nat_eq group master named number ≡ master number)
    ⊎ ((mount : Mount ℕ) × Among mount named × (number ≡ group mount.number)
    × (with_new_groups nat_eq group master named number ≡ master_after mount.propagation))
new_masters group number [] master = inl refl
new_masters group number (mount ∷ rest) master = ⊎_elim (λ same. by (nat_eq number (group mount.number)) refl same)
    (λ made. inr (made.0, inr made.1, made.2, made.3))
    (new_masters group number rest (with_master nat_eq master (group mount.number) (master_after mount.propagation)))
  where
    by : (b : Bool) → nat_eq number (group mount.number) ≡ b
        → with_new_groups nat_eq group (with_master nat_eq master (group mount.number)
        (master_after mount.propagation)) rest
        number ≡ cond (nat_eq number (group mount.number)) (master_after mount.propagation) (master number)
        → (with_new_groups nat_eq group master (mount ∷ rest) number ≡ master number)
        ⊎ ((one : Mount ℕ) × Among one (mount ∷ rest) × (number ≡ group one.number)
        × (with_new_groups nat_eq group master (mount ∷ rest) number ≡ master_after one.propagation))
    by b e same = grind (arith, common_steps, eqb-true)

module _ {world : World ℕ} {names : List TaskName} (apart : IsApart world names) {fresh : Fresh ℕ}
    (serves : Serves nat_eq world fresh) {namespace : ℕ}
    (outside : is_own_namespace nat_eq world names namespace ≡ false) (group : ℕ → ℕ)
    (new_group : (number : ℕ) → (k : ℕ) × (group number ≡ fresh k)) (word : TypeWord) (named : List (Mount ℕ))
    (named_in : (mount : Mount ℕ) → Among mount named → IsIn world namespace mount) where
  abbrev so_far : StandsApart world names (IsNewBy fresh)
  so_far = standing_apart_with world names apart fresh serves

  abbrev IsForeign : ℕ → Type 0
  IsForeign = Foreign so_far

  abbrev is_named : Mount ℕ → Bool
  is_named mount = list_any (λ (other : Mount ℕ). nat_eq mount.number other.number) named

  abbrev retype : Mount ℕ → Mount ℕ
  retype mount = retyped_mount nat_eq group word named mount

  -- what is not in the namespace is not named
  not_named : (mount : Mount ℕ) → Among mount world.mounts → (mount.namespace ≡ Some namespace → ⊥)
      → is_named mount ≡ false
  not_named mount there elsewhere = search (arith, common_steps, false_from_ne_true, any_among, found_itself, eqb-true)

  own_not_named : (own : Mount ℕ) → Among own (own_mounts nat_eq world names) → is_named own ≡ false
  own_not_named own m =
      let at = among-from_filter (is_own_mount nat_eq world names) world.mounts own m in
      not_named own at.0 (λ e. cc (at.1))

  stays : (mount : Mount ℕ) → is_named mount ≡ false → retype mount ≡ mount
  stays mount e =
      ap (λ b. cond b (record mount { propagation = type_after (group mount.number) word mount.propagation }) mount) e

  -- Groups of others
  old_foreign : (other : Mount ℕ) → Among other (other_mounts nat_eq world names) → (number : ℕ)
      → HearsGroup so_far world other.propagation number → IsForeign number
  old_foreign = other_hears_foreign so_far

  named_other : (mount : Mount ℕ) → Among mount named → Among mount (other_mounts nat_eq world names)
  named_other mount m =
      let at = named_in mount m in
      is_other world names outside mount at.0 at.1

  abbrev set_master : ℕ → Option ℕ
  set_master = with_new_groups nat_eq group world.master named

  set_above : (number above : ℕ) → IsForeign number → set_master number ≡ Some above → IsForeign above
  set_above number above foreign e = ⊎_elim
      (λ same. foreign_above so_far number above foreign (cc))
      (λ made. after made.0 (named_other made.0 made.1) made.0.propagation refl (sym made.3 ∙ e))
      (new_masters group number named world.master)
    where
      after : (mount : Mount ℕ) → Among mount (other_mounts nat_eq world names) → (kind : Propagation ℕ)
          → mount.propagation ≡ kind → master_after kind ≡ Some above → IsForeign above
      after mount m (Shared g) k h = none_is_some above h
      after mount m (Slave g) k h = old_foreign mount m above (inr (cc))
      after mount m Private k h = none_is_some above h
      after mount m Unbindable k h = none_is_some above h

  abbrev Others : Propagation ℕ → Type 0
  Others = IsOfOthers so_far

  -- the type of a mount of others, once types are set
  retyped_foreign : (other : Mount ℕ) → Among other (other_mounts nat_eq world names)
      → Others (retype other).propagation
  retyped_foreign other m = by (is_named other)
    where
      old : Others other.propagation
      old = old_type so_far other m

      made : (number : ℕ) → group other.number ≡ number → IsForeign number
      made number e = let new = new_group other.number in inr (new.0, sym e ∙ new.1)

      unbindable : Others Unbindable
      unbindable = (λ number e. none_is_some number e, λ number e. none_is_some number (ap source_of e))

      shared_new : Others (Shared (group other.number))
      shared_new = grind (arith, common_steps, made, same_Some, none_is_some)

      typed : (word : TypeWord) (kind : Propagation ℕ) → other.propagation ≡ kind
          → Others (type_after (group other.number) word kind)
      typed ToShared (Shared g) k = subst Others k old
      typed ToShared (Slave g) k = shared_new
      typed ToShared Private k = shared_new
      typed ToShared Unbindable k = shared_new
      typed ToSlave (Shared g) k = (
        λ number e. none_is_some number e,
        λ number e. old_foreign other m number (inl (cc)),
      )
      typed ToSlave (Slave g) k = subst Others k old
      typed ToSlave Private k = of_nobody so_far
      typed ToSlave Unbindable k = unbindable
      typed ToPrivate kind k = of_nobody so_far
      typed ToUnbindable kind k = unbindable

      by : (b : Bool) → Others
          (cond b (record other { propagation = type_after (group other.number) word other.propagation })
          other).propagation
      by true = typed word other.propagation refl
      by false = old

  retyped_shape : (mount : Mount ℕ) → IsReshaped mount (retype mount)
  retyped_shape mount = by (is_named mount)
    where
      by : (b : Bool) → IsReshaped mount
          (cond b (record mount { propagation = type_after (group mount.number) word mount.propagation }) mount)
      by true = (
        mount.namespace,
        mount.mount_point,
        type_after (group mount.number) word mount.propagation,
        refl,
        inl refl,
      )
      by false = (mount.namespace, mount.mount_point, mount.propagation, refl, inl refl)

  own_same : (own : Mount ℕ) → Among own (own_mounts nat_eq world names) → retype own ≡ own
  own_same own m = stays own (own_not_named own m)

  nowhere_same : (mount : Mount ℕ) → Among mount world.mounts → mount.namespace ≡ None → retype mount ≡ mount
  nowhere_same mount there none = stays mount (not_named mount there (λ e. none_is_some namespace (cc)))

  own_set : (number : ℕ) → list_any (is_member_of nat_eq number) (own_mounts nat_eq world names) ≡ true
      → set_master number ≡ world.master number
  own_set number h =
      let own = any_among (is_member_of nat_eq number) (own_mounts nat_eq world names) h in
      let there = (among-from_filter (is_own_mount nat_eq world names) world.mounts own.0 own.1).0 in
      ⊎_elim (λ e. e) (λ made. let new = new_group made.0.number in
      absurd (member_not_new world fresh serves own.0 number new.0 there (member_group number own.0 own.2)
      (made.2 ∙ new.1))) (new_masters group number named world.master)

  set_types : ChangesOthers so_far retype set_master
  set_types = record {
    shape = retyped_shape;
    own_same = own_same;
    nowhere_same = nowhere_same;
    kinds = retyped_foreign;
    above = set_above;
    own_master = own_set;
  }

  -- All of it, where some group lost its last member, or none did
  module _ (lost : Bool) where
    abbrev change : Mount ℕ → Mount ℕ
    change = all_changed set_types (others_rest world names so_far) lost

    abbrev retyped : World ℕ
    retyped = after_all set_types (others_rest world names so_far) lost

    retyped_are : retyped.mounts ≡ map change world.mounts
    retyped_are = mounts_are set_types (others_rest world names so_far) lost

    own_stay : (own : Mount ℕ) → Among own (own_mounts nat_eq world names) → change own ≡ own
    own_stay = own_stays set_types (others_rest world names so_far) lost

    -- the sweep may take masters, but not those of groups of theirs
    retyping_leaves_apart : (master : ℕ → Option ℕ)
        → ((number : ℕ) → (master number ≡ retyped.master number) ⊎ (master number ≡ None))
        → ((number : ℕ) → list_any (is_member_of nat_eq number) (own_mounts nat_eq world names) ≡ true
        → master number ≡ retyped.master number)
        → LeavesApart world (record world { mounts = map change world.mounts; master = master }) names []
    retyping_leaves_apart = regrouping_leaves_apart set_types (others_rest world names so_far) lost

-- what a change of types names is in the namespace
named_are_in : {world : World ℕ} {names : List TaskName} (apart : IsApart world names) (namespace number : ℕ)
    → (mount_numbered nat_eq world number).namespace ≡ Some namespace → (recursive : Bool) (mount : Mount ℕ)
    → Among mount (named_mounts nat_eq world number recursive) → IsIn world namespace mount
named_are_in {world} {names} apart namespace number placed recursive mount m = by recursive m
  where
    first : IsIn world namespace (mount_numbered nat_eq world number)
    first = grind (arith, common_steps, placed, found_or_none world.mounts number)

    by : (recursive : Bool) → Among mount (named_mounts nat_eq world number recursive) → IsIn world namespace mount
    by true n = tree_in apart namespace (length world.mounts) (mount_numbered nat_eq world number) first mount n
    by false n = ⊎_elim (λ e. subst (IsIn world namespace) (sym e) first) (λ none. absurd none) n

module _ {world : World ℕ} {fresh : Fresh ℕ} {names : List TaskName} {name : TaskName} {call : Call}
    {task : Task ℕ} (outsider : IsOthersCall world fresh names name call task) (number : ℕ) (word : TypeWord)
    (recursive : Bool) (judged : judge_in nat_eq fresh world task call ≡ Ok (ToSetType number word recursive)) where
  apart_before : IsApart world names
  apart_before = apart_from outsider.it

  for_type : (path : List ℕ) × (call ≡ SetType path word recursive)
  for_type = permits_are_for_their_calls fresh world task call (ToSetType number word recursive) judged

  called_so : task_called world task.name ≡ Some task
  called_so = cc (name_found world name task outsider.called, outsider.called)

  placed : (mount_numbered nat_eq world number).namespace ≡ Some task.namespace
  placed =
      (all_permits_fit world fresh task call (ToSetType number word recursive) outsider.is outsider.serves called_so
      (ap mounts_overlay for_type.1) judged).names

  outside : is_own_namespace nat_eq world names task.namespace ≡ false
  outside = namespace_outside world names apart_before task (caller_outside outsider)

  abbrev its_named : List (Mount ℕ)
  its_named = named_mounts nat_eq world number recursive

  abbrev its_group : ℕ → ℕ
  its_group = numbers_by nat_eq fresh its_named

  its_new : (n : ℕ) → (k : ℕ) × (its_group n ≡ fresh k)
  its_new n = (index_of nat_eq its_named n, refl)

  its_named_in : (mount : Mount ℕ) → Among mount its_named → IsIn world task.namespace mount
  its_named_in = named_are_in apart_before task.namespace number placed recursive

  abbrev halfway : World ℕ
  halfway = record world {
    mounts = map (retyped_mount nat_eq its_group word its_named) world.mounts;
    master = with_new_groups nat_eq its_group world.master its_named;
  }

  abbrev has_lost : Bool
  has_lost = list_any (lost_a_group nat_eq halfway) halfway.mounts

  abbrev done : World ℕ
  done = (apply nat_eq fresh world task (ToSetType number word recursive)).world

  abbrev last_master : ℕ → Option ℕ
  last_master = (settled nat_eq done).master

  abbrev changes : Mount ℕ → Mount ℕ
  changes =
      change apart_before outsider.serves outside its_group its_new word its_named its_named_in
      has_lost

  done_mounts : done.mounts ≡ map changes world.mounts
  done_mounts =
      retyped_are apart_before outsider.serves outside its_group its_new word its_named
      its_named_in has_lost

  swept : settled nat_eq done ≡ record world { mounts = map changes world.mounts; master = last_master }
  swept = subst KeepsAllButMasters (ap (λ c. (call_outcome nat_eq fresh world task c).world) (sym for_type.1)
      ∙ ap (λ j. (after world j (apply nat_eq fresh world task)).world) judged)
      (all_types_leave_all_but_masters world fresh task for_type.0 word recursive outsider.is outsider.serves called_so)
      ∙ tail has_lost ∙ ap (λ ms. record world { mounts = ms; master = last_master }) done_mounts
    where
      tail : (b : Bool) → record (regrouped_by nat_eq b halfway) { master = last_master }
          ≡ record world { mounts = (regrouped_by nat_eq b halfway).mounts; master = last_master }
      tail true = refl
      tail false = refl

  taken_or_not : (n : ℕ) → (last_master n ≡ done.master n) ⊎ (last_master n ≡ None)
  taken_or_not n = grind (arith, common_steps)

  theirs_stay_there : (n : ℕ) → list_any (is_member_of nat_eq n) (own_mounts nat_eq world names) ≡ true
      → last_master n ≡ done.master n
  theirs_stay_there n h =
      let own = any_among (is_member_of nat_eq n) (own_mounts nat_eq world names) h in
      let at = among-from_filter (is_own_mount nat_eq world names) world.mounts own.0 own.1 in
      ap (λ b. cond b (done.master n) None)
      (any_from_among (is_member_of nat_eq n) (filter (mount_lives nat_eq done) done.mounts) own.0
      (among-filter (mount_lives nat_eq done) done.mounts own.0 (subst (Among own.0) (sym done_mounts)
      (subst (λ x. Among x (map changes world.mounts)) (own_stay apart_before outsider.serves
      outside its_group its_new word its_named its_named_in has_lost own.0 own.1)
      (among-map changes world.mounts own.0 at.0))) (or_left (is_some own.0.namespace) _ (lives own.0.namespace at.1)))
      own.2)
    where
      lives : (o : Option ℕ) → holds_of (is_own_namespace nat_eq world names) o ≡ true → is_some o ≡ true
      lives None f = f
      lives (Some x) f = refl

  pub type_leaves : LeavesApart world (settled nat_eq done) names []
  type_leaves = subst (λ w. LeavesApart world w names []) (sym swept)
      (retyping_leaves_apart apart_before outsider.serves outside its_group its_new word its_named
      its_named_in has_lost last_master taken_or_not theirs_stay_there)
