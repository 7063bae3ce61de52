-- Groups that end after each of several changes are those that end once after all of them.
use Rattle.std.proofs.Common.{◌≡◌, refl, sym, ap, subst, ◌∙◌, true, false, Bool, List, None, Option, Some, [], cond, is_some, length, map, true≢false, ℕ, nat_eq, ◌||◌, ◌∷◌, inl, inr, eq-eqb, if◌then◌else◌}
use Rattle.vt_spec.proofs.Common.{Among, HasLivingGroups, Lives, Mount, Private, Propagation, Shared, Slave, Unbindable, World, among-from_map, among_from_all, any_among, any_from_among, group_of, has_master, has_members, has_no_master, heir, holds_of, inherited, inheriting, is_member_of, length-map, regrouped, slave_of_heir, source_of, without_dead_groups}
use Rattle.vt_group.specs.Grouping.{Grouping, Has, are_rising, peers_of, retyped_if, with_propagation}
use Rattle.vt_group.proofs.Heirs.{heir_above, heir_itself, master_inherited}
use Rattle.vt_group.proofs.Living.{group_lives}
use Rattle.vt_laws_mounts.proofs.GroupsKept.{lives_end, regrouped_live}
use Rattle.vt_laws_mounts.proofs.GroupsLiving.{all_live}
use Rattle.vt_group.proofs.Peers.{retyped_other, retyped_same}
use Rattle.vt_group.proofs.Receiving.{Ends, living_ends}
use Rattle.vt_laws_mounts.proofs.GroupsKept.{member_shared}
use Rattle.vt_laws_mounts.proofs.Groups.{group-inherited, mounts-regrouped, members-regrouped}
use Rattle.vt_laws_mounts.specs.Mounts.Attaching.{numbers_of}
use Rattle.vt_laws_mounts.specs.Mounts.Receivers.{AllGroupsLive}

-- Mounts lose groups, each but what it had as its source.
pub record OnlyLoses (world : World ℕ) (change : Mount ℕ → Mount ℕ) : Type 0 where
  -- the change keeps numbers
  pub own : (mount : Mount ℕ) → (change mount).number ≡ mount.number
  -- it gives no mount another source
  pub sourced : (mount : Mount ℕ) (source : ℕ) → source_of (change mount).propagation ≡ Some source
      → source_of mount.propagation ≡ Some source
  -- and none another group
  pub grouped : (mount : Mount ℕ) (group : ℕ) → group_of (change mount).propagation ≡ Some group
      → group_of mount.propagation ≡ Some group

module _ (world : World ℕ) (live : AllGroupsLive world) (change : Mount ℕ
    → Mount ℕ) (loses : OnlyLoses world change) where
  -- the world after the change
  abbrev pub between : World ℕ
  between = record world { mounts = map change world.mounts }

  abbrev were : ℕ → Bool
  were = has_members nat_eq world.mounts

  same_length : length between.mounts ≡ length world.mounts
  same_length = length-map world.mounts change

  source_lives : (mount : Mount ℕ) → Among mount between.mounts → (source : ℕ) → source_of mount.propagation
      ≡ Some source → Lives were world.master source
  source_lives mount m source e =
      let from = among-from_map change world.mounts mount m in
      among_from_all (HasLivingGroups nat_eq world) world.mounts live from.0 from.1 source
      (loses.sourced from.0 source (sym (ap (λ x. source_of x.propagation) from.2) ∙ e))

  -- groups live in it once it is regrouped
  pub between_live : AllGroupsLive (regrouped nat_eq between)
  between_live = all_live (regrouped nat_eq between) (regrouped_live between (λ mount m source e.
      lives_end were world.master world.master (λ group h. refl) source (source_lives mount m source e)))

  ends : (source : ℕ) → Lives were world.master source → Ends world.master (length between.mounts) source
  ends source life = subst (λ n. Ends world.master n source) (sym same_length) (living_ends world source life)

  module _ (number : ℕ) (kind : Propagation ℕ) (no_group : group_of kind ≡ None)
      (has_source : (source : ℕ) → source_of kind ≡ Some source → has_members nat_eq between.mounts source ≡ true) where
    -- the next change, where the groups have ended, and where they have not
    abbrev regrouped_first : World ℕ
    regrouped_first = with_propagation (regrouped nat_eq between) number kind

    -- the world after the change in which one mount more gets its type
    abbrev pub straight : World ℕ
    straight = with_propagation between number kind

    abbrev first : ℕ → Bool
    first = has_members nat_eq between.mounts

    abbrev then_some_left : ℕ → Bool
    then_some_left = has_members nat_eq straight.mounts

    group-retyped : (mount : Mount ℕ) → group_of (retyped_if number kind (inheriting nat_eq between mount)).propagation
        ≡ group_of (retyped_if number kind mount).propagation
    group-retyped mount = by (nat_eq number mount.number)
      where
        by : (b : Bool) → group_of (if b then record
            (inheriting nat_eq between mount) { propagation = kind } else inheriting nat_eq between mount).propagation
            ≡ group_of (if b then record mount { propagation = kind } else mount).propagation
        by true = refl
        by false = group-inherited between mount.propagation

    same_left : (group : ℕ) → has_members nat_eq regrouped_first.mounts group ≡ then_some_left group
    same_left group = ap (λ mounts. has_members nat_eq (map (retyped_if number kind) mounts) group)
        (mounts-regrouped between) ∙ by between.mounts
      where
        by : (mounts : List (Mount ℕ))
            → has_members nat_eq (map (retyped_if number kind) (map (inheriting nat_eq between) mounts)) group
            ≡ has_members nat_eq (map (retyped_if number kind) mounts) group
        by [] = refl
        by (mount ∷ rest) = λ i. holds_of (nat_eq group) (group-retyped mount i) || by rest i

    -- who is left was there before
    fewer : (group : ℕ) → then_some_left group ≡ true → first group ≡ true
    fewer group h =
        let member = any_among (is_member_of nat_eq group) straight.mounts h in
        let from = among-from_map (retyped_if number kind) between.mounts member.0 member.1 in
        let shared : group_of (retyped_if number kind from.0).propagation ≡ Some group =
        ap (λ x. group_of x.propagation) (sym from.2) ∙ ap group_of (member_shared group member.0 member.2) in
        any_from_among (is_member_of nat_eq group) between.mounts from.0 from.1
        (ap (holds_of (nat_eq group)) (by from.0 (nat_eq number from.0.number) refl shared) ∙ eq-eqb group group refl)
      where
        by : (mount : Mount ℕ) → (b : Bool) → nat_eq number mount.number ≡ b
            → group_of (retyped_if number kind mount).propagation ≡ Some group → group_of mount.propagation ≡ Some group
        by mount true is e = absurd (true≢false (sym (ap is_some e)
            ∙ ap (λ x. is_some (group_of x.propagation)) (retyped_same number kind mount is) ∙ ap is_some no_group))
        by mount false is e = sym (ap (λ x. group_of x.propagation) (retyped_other number kind mount is)) ∙ e

    -- a group that has members now lived before
    first_lives : (group : ℕ) → first group ≡ true → Lives were world.master group
    first_lives group h =
        let member = any_among (is_member_of nat_eq group) between.mounts h in
        source_lives member.0 member.1 group (ap source_of (member_shared group member.0 member.2))

    ends_straight : (source : ℕ) → Lives were world.master source → Ends world.master (length straight.mounts) source
    ends_straight source life = subst (λ n. Ends world.master n source) (sym (length-map between.mounts
        (retyped_if number kind))) (ends source life)

    ends_regrouped : (group : ℕ) → first group ≡ true
        → Ends (regrouped nat_eq between).master (length regrouped_first.mounts) group
    ends_regrouped group h = subst (λ n. Ends (regrouped nat_eq between).master n group) (sym (length-map
        (regrouped nat_eq between).mounts (retyped_if number kind)))
        (living_ends (regrouped nat_eq between) group (group_lives (regrouped nat_eq between) between_live group
        (members-regrouped between group ∙ h)))

    -- a group has the same heir if its master has
    heir_step : (group : ℕ) → Lives were world.master group
        → heir nat_eq regrouped_first (heir nat_eq between (world.master group))
        ≡ heir nat_eq straight (world.master group)
        → heir nat_eq regrouped_first (heir nat_eq between (Some group)) ≡ heir nat_eq straight (Some group)
    heir_step group life above = by (first group) refl (then_some_left group) refl
      where
        by : (a : Bool) → first group ≡ a → (b : Bool) → then_some_left group ≡ b
            → heir nat_eq regrouped_first (heir nat_eq between (Some group)) ≡ heir nat_eq straight (Some group)
        by true f true l = ap (heir nat_eq regrouped_first) (heir_itself between group f)
            ∙ heir_itself regrouped_first group (same_left group ∙ l) ∙ sym (heir_itself straight group l)
        by true f false l = ap (heir nat_eq regrouped_first) (heir_itself between group f)
            ∙ heir_above regrouped_first group (ends_regrouped group f) (same_left group ∙ l)
            ∙ ap (heir nat_eq regrouped_first) (master_inherited between group f) ∙ above
            ∙ sym (heir_above straight group (ends_straight group life) l)
        by false f true l = absurd (true≢false (sym (fewer group l) ∙ f))
        by false f false l = ap (heir nat_eq regrouped_first) (heir_above between group (ends group life) f) ∙ above
            ∙ sym (heir_above straight group (ends_straight group life) l)

    at_the_top : (group : ℕ) → world.master group ≡ None
        → heir nat_eq regrouped_first (heir nat_eq between (world.master group))
        ≡ heir nat_eq straight (world.master group)
    at_the_top group e = (λ i. heir nat_eq regrouped_first (heir nat_eq between (e i)))
        ∙ ap (heir nat_eq straight) (sym e)

    below_another : (group next : ℕ) → world.master group ≡ Some next
        → heir nat_eq regrouped_first (heir nat_eq between (Some next)) ≡ heir nat_eq straight (Some next)
        → heir nat_eq regrouped_first (heir nat_eq between (world.master group))
        ≡ heir nat_eq straight (world.master group)
    below_another group next e later = (λ i. heir nat_eq regrouped_first (heir nat_eq between (e i))) ∙ later
        ∙ ap (heir nat_eq straight) (sym e)

    same_heir : (group : ℕ) → Lives were world.master group
        → heir nat_eq regrouped_first (heir nat_eq between (Some group)) ≡ heir nat_eq straight (Some group)
    same_heir group (has_no_master it h e) = heir_step it (has_no_master it h e) (at_the_top it e)
    same_heir group (has_master it next h e later) = heir_step it (has_master it next h e later)
        (below_another it next e (same_heir next later))

    same_above : (group : ℕ) → Lives were world.master group
        → heir nat_eq regrouped_first (heir nat_eq between (world.master group))
        ≡ heir nat_eq straight (world.master group)
    same_above group (has_no_master it h e) = at_the_top it e
    same_above group (has_master it next h e later) = below_another it next e (same_heir next later)

    -- the types are the same
    same_type : (old : Propagation ℕ) → ((source : ℕ) → source_of old ≡ Some source → Lives were world.master source)
        → inherited nat_eq regrouped_first (inherited nat_eq between old) ≡ inherited nat_eq straight old
    same_type (Shared group) lives = refl
    same_type (Slave master) lives =
        slave (heir nat_eq between (Some master)) ∙ ap slave_of_heir (same_heir master (lives master refl))
      where
        slave : (o : Option ℕ) → inherited nat_eq regrouped_first (slave_of_heir o)
            ≡ slave_of_heir (heir nat_eq regrouped_first o)
        slave None = refl
        slave (Some next) = refl
    same_type Private lives = refl
    same_type Unbindable lives = refl

    same_new_type : (new : Propagation ℕ) → kind ≡ new → inherited nat_eq regrouped_first new
        ≡ inherited nat_eq straight new
    same_new_type (Shared group) e = refl
    same_new_type (Slave master) e =
        let has = has_source master (ap source_of e) in
        ap slave_of_heir (ap (heir nat_eq regrouped_first) (sym (heir_itself between master has))
        ∙ same_heir master (first_lives master has))
    same_new_type Private e = refl
    same_new_type Unbindable e = refl

    same_mount : (mount : Mount ℕ) → Among mount between.mounts
        → inheriting nat_eq regrouped_first (retyped_if number kind (inheriting nat_eq between mount))
        ≡ inheriting nat_eq straight (retyped_if number kind mount)
    same_mount mount m = by (nat_eq number mount.number)
      where
        by : (b : Bool) → inheriting nat_eq regrouped_first (if b then record
            (inheriting nat_eq between mount) { propagation = kind } else inheriting nat_eq between mount)
            ≡ inheriting nat_eq straight (if b then record mount { propagation = kind } else mount)
        by true = λ i. record mount { propagation = same_new_type kind refl i }
        by false = λ i. record mount { propagation = same_type mount.propagation (source_lives mount m) i }

    same_mounts : (regrouped nat_eq regrouped_first).mounts ≡ (regrouped nat_eq straight).mounts
    same_mounts = mounts-regrouped regrouped_first
        ∙ ap (λ mounts. map (inheriting nat_eq regrouped_first) (map (retyped_if number kind) mounts))
        (mounts-regrouped between) ∙ by between.mounts (λ mount m. m) ∙ sym (mounts-regrouped straight)
      where
        by : (mounts : List (Mount ℕ)) → ((mount : Mount ℕ) → Among mount mounts → Among mount between.mounts)
            → map (inheriting nat_eq regrouped_first) (map (retyped_if number kind) (map
            (inheriting nat_eq between) mounts))
            ≡ map (inheriting nat_eq straight) (map (retyped_if number kind) mounts)
        by [] within = refl
        by (mount ∷ rest) within = λ i. same_mount mount (within mount (inl refl)) i ∷ by rest (λ x m. within x
            (inr m)) i

    same_master : (group : ℕ) → then_some_left group ≡ true → (regrouped nat_eq regrouped_first).master group
        ≡ (regrouped nat_eq straight).master group
    same_master group h = master_inherited regrouped_first group (same_left group ∙ h)
        ∙ ap (heir nat_eq regrouped_first) (master_inherited between group (fewer group h))
        ∙ same_above group (first_lives group (fewer group h)) ∙ sym (master_inherited straight group h)

    same_masters : (group : ℕ) → (without_dead_groups nat_eq (regrouped nat_eq regrouped_first)).master group
        ≡ (without_dead_groups nat_eq (regrouped nat_eq straight)).master group
    same_masters group = ap (λ b. cond b ((regrouped nat_eq regrouped_first).master group) None)
        (members-regrouped regrouped_first group ∙ same_left group) ∙ by (then_some_left group) refl
        ∙ ap (λ b. cond b ((regrouped nat_eq straight).master group) None) (sym (members-regrouped straight group))
      where
        by : (b : Bool) → then_some_left group ≡ b
            → cond (then_some_left group) ((regrouped nat_eq regrouped_first).master group) None
            ≡ cond (then_some_left group) ((regrouped nat_eq straight).master group) None
        by true e = ap (λ o. cond (then_some_left group) o None) (same_master group e)
        by false e = ap (λ b. cond b ((regrouped nat_eq regrouped_first).master group) None) e
            ∙ ap (λ b. cond b ((regrouped nat_eq straight).master group) None) (sym e)

    -- Groups that end one after the other leave what they leave where they end at once.
    pub steps_together : (groups : Grouping) → Has (regrouped nat_eq regrouped_first) groups
        → Has (regrouped nat_eq straight) groups
    steps_together groups has = record {
      order = ap (λ mounts. are_rising (numbers_of mounts)) (sym same_mounts) ∙ has.order;
      peers = has.peers ∙ ap peers_of same_mounts;
      masters_order = has.masters_order;
      masters = λ group. has.masters group ∙ same_masters group;
    }
