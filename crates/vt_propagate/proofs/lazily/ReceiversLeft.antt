-- Who receives from a group once mounts are gone: those that did before, but for these.
use Rattle.std.proofs.Common.{◌≡◌, refl, sym, ap, subst, ◌∙◌, arith, ℕ, zero, suc, nat_eq, eq-eqb, ne_eqb, option_map, Bool, true, false, true≢false, ◌||◌, ◌&&◌, not, List, [], ◌∷◌, cond, filter, map, length, Option, None, Some, is_some, inl, inr, if◌then◌else◌}
use Rattle.vt_spec.proofs.Common.{Among, HasLivingGroups, Lives, Mount, Private, Propagation, Shared, Slave, Unbindable, World, after_going, among-map, among_from_all, any_from_among, chain, chain_ends, chain_goes_on, common_steps, detached, groups_up, has_master, has_members, has_no_master, heir, holds_of, inherited, inheriting, is_among, is_going, last_of_chain, last_or, length-map, map_twice, inherited_mount_point, receivers, receives, source_of, taken_away}
use Rattle.vt_group.proofs.Heirs.{heir_above, heir_itself, master_inherited}
use Rattle.vt_group.proofs.Living.{group_lives}
use Rattle.vt_group.proofs.Receiving.{Ends, chain_same, living_ends}
use Rattle.vt_laws_mounts.proofs.GroupsKept.{taking_away_keeps_groups}
use Rattle.vt_laws_mounts.proofs.GroupsLiving.{all_live, tested_live}
use Rattle.vt_laws_mounts.proofs.ends.Unmounting.{middle}
use Rattle.vt_laws_mounts.proofs.Groups.{mounts-regrouped, members-regrouped}
use Rattle.vt_laws_mounts.specs.Mounts.Attaching.{numbers_of}
use Rattle.vt_laws_mounts.specs.Mounts.Receivers.{AllGroupsLive}

-- a group is among those up from another if it is that one, or among those up from its master
module _ (master : ℕ → Option ℕ) (group : ℕ) where
  abbrev above_from : ℕ → Option ℕ → Bool
  above_from n o = holds_of (λ source. is_among nat_eq group (chain n master source)) o

  one_up : (n source : ℕ) → Ends master n source
      → is_among nat_eq group (chain n master source) ≡ (nat_eq group source || above_from n (master source))
  one_up n source ends = by n ends (master source) refl
    where
      by : (n : ℕ) → Ends master n source → (o : Option ℕ) → master source ≡ o
          → is_among nat_eq group (chain n master source) ≡ (nat_eq group source || above_from n o)
      by zero ends None e = refl
      by zero ends (Some next) e = absurd (true≢false (sym (ap is_some e) ∙ ends))
      by (suc n) ends None e = ap (is_among nat_eq group) (chain_ends master n source e)
      by (suc n) ends (Some next) e = ap (is_among nat_eq group) (chain_goes_on master n source next e)
          ∙ ap (λ groups. nat_eq group source || is_among nat_eq group groups)
          (sym (chain_same master n (suc n) next (omega arith) (further n next e ends)))
        where
          further : (n next : ℕ) → master source ≡ Some next → Ends master (suc n) source → Ends master n next
          further n next e ends =
              sym (ap (λ g. is_some (master g)) (ap (last_or source) (chain_goes_on master n source next e)
              ∙ last_of_chain master n next source)) ∙ ends

module _ (world : World ℕ) (live : AllGroupsLive world) (gone : List ℕ) where
  abbrev left : World ℕ
  left = taken_away nat_eq world gone

  abbrev between : World ℕ
  between = middle world gone

  live_left : AllGroupsLive left
  live_left = all_live left (taking_away_keeps_groups world gone (tested_live world live))

  abbrev LivesAt : ℕ → Type 0
  LivesAt group = Lives (has_members nat_eq world.mounts) world.master group

  abbrev after : Mount ℕ → Mount ℕ
  after mount = inheriting nat_eq between (after_going nat_eq world gone mount)

  mounts_left : left.mounts ≡ map after world.mounts
  mounts_left = mounts-regrouped between
      ∙ map_twice (inheriting nat_eq between) (after_going nat_eq world gone) world.mounts

  module _ (group : ℕ) (has : has_members nat_eq left.mounts group ≡ true) where
    abbrev before_up : Option ℕ → Bool
    before_up o = holds_of (λ source. is_among nat_eq group (groups_up world source)) o

    abbrev then_up : Option ℕ → Bool
    then_up o = holds_of (λ source. is_among nat_eq group (groups_up left source)) o

    abbrev SameUp : Option ℕ → Type 0
    SameUp o = then_up (heir nat_eq between o) ≡ before_up o

    same_by_master : (source : ℕ) → LivesAt source → SameUp (world.master source) → SameUp (Some source)
    same_by_master source life above = by (has_members nat_eq between.mounts source) refl
      where
        before : before_up (Some source) ≡ (nat_eq group source || before_up (world.master source))
        before = one_up world.master group (length world.mounts) source (living_ends world source life)

        ends : Ends world.master (length between.mounts) source
        ends = subst (λ n. Ends world.master n source) (sym (length-map world.mounts (after_going nat_eq world gone)))
            (living_ends world source life)

        by : (b : Bool) → has_members nat_eq between.mounts source ≡ b → SameUp (Some source)
        by true e = ap then_up (heir_itself between source e) ∙ one_up left.master group (length left.mounts) source
            (living_ends left source (group_lives left live_left source (members-regrouped between source ∙ e)))
            ∙ ap (λ o. nat_eq group source || then_up o) (master_inherited between source e)
            ∙ ap (λ b. nat_eq group source || b) above ∙ sym before
        by false e = ap then_up (heir_above between source ends e) ∙ above
            ∙ ap (λ b. b || before_up (world.master source)) (sym apart) ∙ sym before
          where
            apart : nat_eq group source ≡ false
            apart = ne_eqb group source (λ same.
                true≢false (sym (sym (members-regrouped between group) ∙ has)
                ∙ ap (has_members nat_eq between.mounts) same ∙ e))

    same_up : (source : ℕ) → LivesAt source → SameUp (Some source)
    same_up source (has_no_master it members e) =
        same_by_master it (has_no_master it members e) (subst SameUp (sym e) refl)
    same_up source (has_master it next members e later) =
        same_by_master it (has_master it next members e later) (subst SameUp (sym e) (same_up next later))

    -- one mount
    module _ (mount : Mount ℕ) (m : Among mount world.mounts) where
      abbrev fallen : Mount ℕ
      fallen = record mount { mount_point = option_map (inherited_mount_point nat_eq world gone) mount.mount_point }

      abbrev after_if : Bool → Mount ℕ
      after_if goes = inheriting nat_eq between (if goes then detached mount else fallen)

      stays_member : {own : ℕ} → mount.propagation ≡ Shared own → is_going nat_eq gone mount.number ≡ false
          → has_members nat_eq between.mounts own ≡ true
      stays_member {own} e stays = grind (arith, common_steps, eq-eqb, among-map, any_from_among)

      source_then : (kind : Propagation ℕ) → mount.propagation ≡ kind → is_going nat_eq gone mount.number ≡ false
          → source_of (inherited nat_eq between kind) ≡ heir nat_eq between (source_of kind)
      source_then (Shared own) e stays = sym (heir_itself between own (stays_member e stays))
      source_then (Slave above) e stays = grind (arith, common_steps)
      source_then Private e stays = refl
      source_then Unbindable e stays = refl

      same_source : (o : Option ℕ) → source_of mount.propagation ≡ o → SameUp o
      same_source None e = refl
      same_source (Some source) e =
          same_up source (among_from_all (HasLivingGroups nat_eq world) world.mounts live mount m source e)

      receives_then : receives nat_eq left group (after mount)
          ≡ (not (is_going nat_eq gone mount.number) && receives nat_eq world group mount)
      receives_then = by (is_going nat_eq gone mount.number) refl
        where
          by : (b : Bool) → is_going nat_eq gone mount.number ≡ b
              → receives nat_eq left group (after_if (is_going nat_eq gone mount.number))
              ≡ (not (is_going nat_eq gone mount.number) && receives nat_eq world group mount)
          by true e = ap (λ b. receives nat_eq left group (after_if b)) e
              ∙ sym (ap (λ b. not b && receives nat_eq world group mount) e)
          by false e = ap (λ b. receives nat_eq left group (after_if b)) e
              ∙ ap then_up (source_then mount.propagation refl e) ∙ same_source (source_of mount.propagation) refl
              ∙ sym (ap (λ b. not b && receives nat_eq world group mount) e)

    number_after : (mount : Mount ℕ) → (after mount).number ≡ mount.number
    number_after mount = grind (arith, common_steps)

    all_receive : (mounts : List (Mount ℕ)) → ((mount : Mount ℕ) → Among mount mounts → Among mount world.mounts)
        → numbers_of (filter (receives nat_eq left group) (map after mounts))
        ≡ filter (λ number. not (is_going nat_eq gone number))
        (numbers_of (filter (receives nat_eq world group) mounts))
    all_receive [] within = refl
    all_receive (mount ∷ mounts) within =
        ap (λ b. numbers_of (cond b (after mount ∷ filter (receives nat_eq left group) (map after mounts))
        (filter (receives nat_eq left group) (map after mounts)))) (receives_then mount (within mount (inl refl)))
        ∙ by (is_going nat_eq gone mount.number) refl (receives nat_eq world group mount)
        (all_receive mounts (λ x m. within x (inr m)))
      where
        stay : ℕ → Bool
        stay number = not (is_going nat_eq gone number)

        rest_then : List (Mount ℕ)
        rest_then = filter (receives nat_eq left group) (map after mounts)

        rest : List (Mount ℕ)
        rest = filter (receives nat_eq world group) mounts

        by : (goes : Bool) → is_going nat_eq gone mount.number ≡ goes → (b : Bool)
            → numbers_of rest_then ≡ filter stay (numbers_of rest)
            → numbers_of (cond (not (is_going nat_eq gone mount.number) && b) (after mount ∷ rest_then) rest_then)
            ≡ filter stay (numbers_of (cond b (mount ∷ rest) rest))
        by goes e false later = ap (λ t. numbers_of (cond t (after mount ∷ rest_then) rest_then))
            (none (is_going nat_eq gone mount.number)) ∙ later
          where
            none : (t : Bool) → (not t && false) ≡ false
            none true = refl
            none false = refl
        by true e true later = ap (λ t. numbers_of (cond (not t && true) (after mount ∷ rest_then) rest_then)) e ∙ later
            ∙ sym (ap (λ t. cond (not t) (mount.number ∷ filter stay (numbers_of rest))
            (filter stay (numbers_of rest))) e)
        by false e true later = ap (λ t. numbers_of (cond (not t && true) (after mount ∷ rest_then) rest_then)) e
            ∙ ap (λ n. n ∷ numbers_of rest_then) (number_after mount) ∙ ap (λ list. mount.number ∷ list) later
            ∙ sym (ap (λ t. cond (not t) (mount.number ∷ filter stay (numbers_of rest))
            (filter stay (numbers_of rest))) e)

    -- Who receives from a group that keeps a member: those that did, and are not gone.
    pub receivers_left : numbers_of (receivers nat_eq left group)
        ≡ filter (λ number. not (is_going nat_eq gone number)) (numbers_of (receivers nat_eq world group))
    receivers_left = ap (λ mounts. numbers_of (filter (receives nat_eq left group) mounts)) mounts_left
        ∙ all_receive world.mounts (λ mount m. m)
