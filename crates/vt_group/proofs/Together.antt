-- Several mounts lose their groups: one after another, or all at once.
use Rattle.std.proofs.Common.{◌≡◌, refl, sym, ap, subst, ◌∙◌, true, false, Bool, List, None, Option, Some, [], is_some, map, option_map, true≢false, ℕ, nat_eq, ◌||◌, ◌∷◌, ◌++◌, inl, inr, not, ne_eqb, length, take, get_or, ◌<◌, ◌+◌, eqb-true, Contains, if◌then◌else◌, unwrap_or}
use Rattle.vt_spec.proofs.Common.{Among, HasLivingGroups, Lives, Mount, Private, Propagation, Shared, Slave, ToPrivate, ToSlave, ToUnbindable, TypeWord, Unbindable, World, after_going, among-from_map, among-map, among_from_all, any_from_among, contains_from_among, detached, group_of, has_master, has_members, has_no_master, inherited, inheriting, is_among, is_lost_group, is_member_of, list_any, list_any-append, lookup, lost_a_group, map-append, map_alike, map_twice, master_after, inherited_mount_point, nat_eq-swapped, or-false, regrouped, regrouped_by, retyped, retyped_mount, same_Some, source_of, take_more, taken_away, then_some, type_after, with_master, with_mounts, with_new_groups}
use Rattle.vt_location.specs.declared.numbers.MountId.{MountId}
use Rattle.vt_location.specs.Numbers.{counted}
use Rattle.vt_group.specs.Grouping.{Grouping, Has, HasGroup, HasMount, LacksGroup, propagation_in, retyped_if, with_propagation}
use Rattle.vt_group.specs.Laws.{shown}
use Rattle.vt_group.specs.Steps.{retyped as retyped_groups}
use Rattle.vt_group.specs.Together.{as_private, as_slave, changed_if, with_changed}
use Rattle.vt_group.proofs.Alike.{has_alike, key_of, keys_of}
use Rattle.vt_group.proofs.Changes.{slave_regroups}
use Rattle.vt_laws_mounts.proofs.GroupsUp.{group_shared, live_members}
use Rattle.vt_group.proofs.Peers.{lookup-among, retyped_other, retyped_same}
use Rattle.vt_group.proofs.Showing.{shows_types}
use Rattle.vt_group.proofs.Stepping.{OnlyLoses, between_live, steps_together}
use Rattle.vt_laws_mounts.proofs.GroupsKept.{shared_member}
use Rattle.vt_laws_mounts.proofs.Groups.{group-inherited, mounts-regrouped, members-regrouped}
use Rattle.vt_laws_mounts.specs.Mounts.Attaching.{numbers_of}
use Rattle.vt_laws_mounts.specs.Mounts.Receivers.{AllGroupsLive}

-- Where all groups live nothing is lost

module _ (world : World ℕ) (live : AllGroupsLive world) where
  abbrev members : ℕ → Bool
  members = has_members nat_eq world.mounts

  unlost : (mount : Mount ℕ) → Among mount world.mounts → lost_a_group nat_eq world mount ≡ false
  unlost mount m = by (source_of mount.propagation) refl
    where
      above : (group : ℕ) → Lives members world.master group
          → (not (members group) || is_lost_group nat_eq world (world.master group)) ≡ false
      above group (has_no_master it has e) = (λ i. not (has i) || is_lost_group nat_eq world (e i))
      above group (has_master it next has e later) = (λ i. not (has i) || is_lost_group nat_eq world (e i))
          ∙ ap not (live_members world.master members next later)

      by : (o : Option ℕ) → source_of mount.propagation ≡ o → lost_a_group nat_eq world mount ≡ false
      by None e = ap (λ o. is_lost_group nat_eq world o || is_lost_group nat_eq world (then_some o world.master)) e
      by (Some group) e =
          ap (λ o. is_lost_group nat_eq world o || is_lost_group nat_eq world (then_some o world.master)) e
          ∙ above group (among_from_all (HasLivingGroups nat_eq world) world.mounts live mount m group e)

  -- a world in which all groups live is regrouped to itself
  pub regrouped_living : regrouped nat_eq world ≡ world
  regrouped_living = ap (λ b. regrouped_by nat_eq b world) (none_lost world.mounts (λ mount m. m))
    where
      none_lost : (mounts : List (Mount ℕ)) → ((mount : Mount ℕ) → Among mount mounts → Among mount world.mounts)
          → list_any (lost_a_group nat_eq world) mounts ≡ false
      none_lost [] within = refl
      none_lost (mount ∷ rest) within =
          (λ i. unlost mount (within mount (inl refl)) i || list_any (lost_a_group nat_eq world) rest)
          ∙ none_lost rest (λ x m. within x (inr m))

-- Which mounts were visited

-- a number is among numbers with one more where it is among them or is the one
pub is_among-snoc : (number one : ℕ) (numbers : List ℕ) → is_among nat_eq number (numbers ++ one ∷ [])
    ≡ (is_among nat_eq number numbers || nat_eq number one)
is_among-snoc number one numbers = list_any-append (nat_eq number) numbers (one ∷ [])
    ∙ ap (λ b. is_among nat_eq number numbers || b) (or-false (nat_eq number one))

module _ (change : Propagation ℕ → Propagation ℕ) (world : World ℕ) (numbers : List ℕ) (number : ℕ) where
  changed_by : (a b : Bool) (mount : Mount ℕ) → is_among nat_eq mount.number numbers ≡ a
      → nat_eq mount.number number ≡ b → changed_if change (numbers ++ number ∷ []) mount
      ≡ (if a || b then record mount { propagation = change mount.propagation } else mount)
  changed_by a b mount e f = ap (λ c. if c then record mount { propagation = change mount.propagation } else mount)
      (is_among-snoc mount.number number numbers ∙ (λ i. e i || f i))

  -- one more is changed
  pub next_changed : (kind : Propagation ℕ)
      → ((mount : Mount ℕ) → Among mount world.mounts → nat_eq number mount.number ≡ true → kind
      ≡ change mount.propagation) → with_propagation (with_changed change world numbers) number kind
      ≡ with_changed change world (numbers ++ number ∷ [])
  next_changed kind same = λ i. record world {
    mounts = (map_twice (retyped_if number kind) (changed_if change numbers) world.mounts
        ∙ map_alike _ (changed_if change (numbers ++ number ∷ [])) world.mounts (λ mount m.
        by mount m (is_among nat_eq mount.number numbers) refl (nat_eq number mount.number) refl)) i;
  }
    where
      by : (mount : Mount ℕ) → Among mount world.mounts → (a : Bool) → is_among nat_eq mount.number numbers ≡ a
          → (b : Bool) → nat_eq number mount.number ≡ b
          → retyped_if number kind (changed_if change numbers mount) ≡ changed_if change (numbers ++ number ∷ []) mount
      by mount m true e true f = ap (λ c. retyped_if number kind
          (if c then record mount { propagation = change mount.propagation } else mount)) e
          ∙ retyped_same number kind (record mount { propagation = change mount.propagation }) f
          ∙ (λ i. record mount { propagation = same mount m f i })
          ∙ sym (changed_by true true mount e (nat_eq-swapped number mount.number true f))
      by mount m true e false f = ap (λ c. retyped_if number kind
          (if c then record mount { propagation = change mount.propagation } else mount)) e
          ∙ retyped_other number kind (record mount { propagation = change mount.propagation }) f
          ∙ sym (changed_by true false mount e (nat_eq-swapped number mount.number false f))
      by mount m false e true f = ap (λ c. retyped_if number kind
          (if c then record mount { propagation = change mount.propagation } else mount)) e
          ∙ retyped_same number kind mount f ∙ (λ i. record mount { propagation = same mount m f i })
          ∙ sym (changed_by false true mount e (nat_eq-swapped number mount.number true f))
      by mount m false e false f = ap (λ c. retyped_if number kind
          (if c then record mount { propagation = change mount.propagation } else mount)) e
          ∙ retyped_other number kind mount f
          ∙ sym (changed_by false false mount e (nat_eq-swapped number mount.number false f))

  -- one more has the type that it would get, or was changed
  pub next_same : ((mount : Mount ℕ) → Among mount world.mounts → nat_eq number mount.number ≡ true
      → is_among nat_eq mount.number numbers ≡ false → mount.propagation ≡ change mount.propagation)
      → with_changed change world numbers ≡ with_changed change world (numbers ++ number ∷ [])
  next_same same = λ i. record world {
    mounts = map_alike (changed_if change numbers) (changed_if change (numbers ++ number ∷ [])) world.mounts
        (λ mount m. by mount m (is_among nat_eq mount.number numbers) refl (nat_eq number mount.number) refl) i;
  }
    where
      by : (mount : Mount ℕ) → Among mount world.mounts → (a : Bool) → is_among nat_eq mount.number numbers ≡ a
          → (b : Bool) → nat_eq number mount.number ≡ b → changed_if change numbers mount
          ≡ changed_if change (numbers ++ number ∷ []) mount
      by mount m true e b f = ap (λ c. if c then record mount { propagation = change mount.propagation } else mount) e
          ∙ sym (changed_by true b mount e (nat_eq-swapped number mount.number b f))
      by mount m false e true f =
          ap (λ c. if c then record mount { propagation = change mount.propagation } else mount) e
          ∙ (λ i. record mount { propagation = same mount m f e i })
          ∙ sym (changed_by false true mount e (nat_eq-swapped number mount.number true f))
      by mount m false e false f =
          ap (λ c. if c then record mount { propagation = change mount.propagation } else mount) e
          ∙ sym (changed_by false false mount e (nat_eq-swapped number mount.number false f))

none_changed : (change : Propagation ℕ → Propagation ℕ) (world : World ℕ) → with_changed change world [] ≡ world
none_changed change world = λ i. record world { mounts = same world.mounts i }
  where
    same : (mounts : List (Mount ℕ)) → map (changed_if change []) mounts ≡ mounts
    same [] = refl
    same (mount ∷ rest) = ap (λ l. mount ∷ l) (same rest)

-- where no mount has changed the world has its groups
pub none_yet : (change : Propagation ℕ → Propagation ℕ) (world : World ℕ) (groups : Grouping) → AllGroupsLive world
    → Has world groups → Has (regrouped nat_eq (with_changed change world [])) groups
none_yet change world groups live has =
    subst (λ w. Has w groups) (sym (ap (regrouped nat_eq) (none_changed change world)
    ∙ regrouped_living world live)) has

-- Mounts become private

changed_loses : (change : Propagation ℕ → Propagation ℕ) (world : World ℕ) (numbers : List ℕ)
    → ((kind : Propagation ℕ) (source : ℕ) → source_of (change kind) ≡ Some source → source_of kind ≡ Some source)
    → ((kind : Propagation ℕ) (group : ℕ) → group_of (change kind) ≡ Some group → group_of kind ≡ Some group)
    → OnlyLoses world (changed_if change numbers)
changed_loses change world numbers sourced grouped = record {
  own = λ mount. by_own mount (is_among nat_eq mount.number numbers);
  sourced = λ mount source. by_source mount source (is_among nat_eq mount.number numbers);
  grouped = λ mount group. by_group mount group (is_among nat_eq mount.number numbers);
}
  where
    by_own : (mount : Mount ℕ) (b : Bool)
        → (if b then record mount { propagation = change mount.propagation } else mount).number ≡ mount.number
    by_own mount true = refl
    by_own mount false = refl

    by_source : (mount : Mount ℕ) (source : ℕ) (b : Bool)
        → source_of (if b then record mount { propagation = change mount.propagation } else mount).propagation
        ≡ Some source → source_of mount.propagation ≡ Some source
    by_source mount source true e = sourced mount.propagation source e
    by_source mount source false e = e

    by_group : (mount : Mount ℕ) (group : ℕ) (b : Bool)
        → group_of (if b then record mount { propagation = change mount.propagation } else mount).propagation
        ≡ Some group → group_of mount.propagation ≡ Some group
    by_group mount group true e = grouped mount.propagation group e
    by_group mount group false e = e

private_loses : (world : World ℕ) (numbers : List ℕ) → OnlyLoses world (changed_if as_private numbers)
private_loses world numbers =
    changed_loses as_private world numbers (λ kind source e. absurd (true≢false (sym (ap is_some e))))
    (λ kind group e. absurd (true≢false (sym (ap is_some e))))

slave_loses : (world : World ℕ) (numbers : List ℕ) → OnlyLoses world (changed_if as_slave numbers)
slave_loses world numbers = changed_loses as_slave world numbers sources groups
  where
    sources : (kind : Propagation ℕ) (source : ℕ) → source_of (as_slave kind) ≡ Some source → source_of kind
        ≡ Some source
    sources (Shared group) source e = e
    sources (Slave master) source e = e
    sources Private source e = e
    sources Unbindable source e = e

    groups : (kind : Propagation ℕ) (group : ℕ) → group_of (as_slave kind) ≡ Some group → group_of kind ≡ Some group
    groups (Shared own) group e = absurd (true≢false (sym (ap is_some e)))
    groups (Slave master) group e = e
    groups Private group e = e
    groups Unbindable group e = e

-- one mount more that becomes private leaves what all leave that become so
pub one_more_private : (world : World ℕ) → AllGroupsLive world → (numbers : List ℕ) (number : ℕ) (groups : Grouping)
    → Has (regrouped nat_eq (with_propagation (regrouped nat_eq
    (with_changed as_private world numbers)) number Private)) groups
    → Has (regrouped nat_eq (with_changed as_private world (numbers ++ number ∷ []))) groups
one_more_private world live numbers number groups has =
    subst (λ w. Has (regrouped nat_eq w) groups) (next_changed as_private world numbers number Private
    (λ mount m e. refl))
    (steps_together world live (changed_if as_private numbers) (private_loses world numbers) number Private refl
    (λ source e. absurd (true≢false (sym (ap is_some e)))) groups has)

-- groups live on where mounts become private
pub left_live : (world : World ℕ) → AllGroupsLive world → (numbers : List ℕ)
    → AllGroupsLive (regrouped nat_eq (with_changed as_private world numbers))
left_live world live numbers = between_live world live (changed_if as_private numbers) (private_loses world numbers)

-- and where they become slaves
pub slaves_live : (world : World ℕ) → AllGroupsLive world → (numbers : List ℕ)
    → AllGroupsLive (regrouped nat_eq (with_changed as_slave world numbers))
slaves_live world live numbers = between_live world live (changed_if as_slave numbers) (slave_loses world numbers)

-- The definitions' worlds

module _ (world : World ℕ) (live : AllGroupsLive world) where
  abbrev were : ℕ → Bool
  were = has_members nat_eq world.mounts

  changed_lives : (change : Propagation ℕ → Propagation ℕ) (numbers : List ℕ)
      → OnlyLoses world (changed_if change numbers)
      → (mount : Mount ℕ) → Among mount (with_changed change world numbers).mounts → (source : ℕ)
      → source_of mount.propagation ≡ Some source → Lives were world.master source
  changed_lives change numbers loses mount m source e =
      let from = among-from_map (changed_if change numbers) world.mounts mount m in
      among_from_all (HasLivingGroups nat_eq world) world.mounts live from.0 from.1 source
      (loses.sourced from.0 source (sym (ap (λ x. source_of x.propagation) from.2) ∙ e))

  keys_alike : (f g : Mount ℕ → Mount ℕ) → ((mount : Mount ℕ) → key_of (f mount) ≡ key_of (g mount))
      → (mounts : List (Mount ℕ)) → keys_of (map f mounts) ≡ keys_of (map g mounts)
  keys_alike f g same [] = refl
  keys_alike f g same (mount ∷ rest) = λ i. same mount i ∷ keys_alike f g same rest i

  -- mounts that are taken away leave the groups that they leave as private ones
  pub taken_has : (numbers : List ℕ) (groups : Grouping)
      → Has (regrouped nat_eq (with_changed as_private world numbers)) groups
      → Has (taken_away nat_eq world numbers) groups
  taken_has numbers groups has = has_alike (with_changed as_private world numbers) (with_mounts world (map
      (after_going nat_eq world numbers) world.mounts))
      (keys_alike (changed_if as_private numbers) (after_going nat_eq world numbers) (λ mount. by mount
      (is_among nat_eq mount.number numbers)) world.mounts)
      were (λ group h. refl) (changed_lives as_private numbers (private_loses world numbers)) groups has
    where
      by : (mount : Mount ℕ) (b : Bool) → key_of (if b then record mount { propagation = Private } else mount)
          ≡ key_of (if b then detached mount else record mount {
            mount_point = option_map (inherited_mount_point nat_eq world numbers) mount.mount_point;
          })
      by mount true = refl
      by mount false = refl

  -- the masters of the groups that were there stay
  pub old_masters : (group : ℕ → ℕ) → ((number : ℕ) → LacksGroup world (group number))
      → (named : List (Mount ℕ)) (master : ℕ → Option ℕ)
      (one : ℕ) → were one ≡ true → with_new_groups nat_eq group master named one ≡ master one
  old_masters group lacks [] master one has = refl
  old_masters group lacks (mount ∷ rest) master one has =
      old_masters group lacks rest (with_master nat_eq master (group mount.number)
      (master_after mount.propagation)) one has ∙ ap (λ b. if b then master_after mount.propagation else master one)
      (ne_eqb one (group mount.number) (λ same. true≢false (sym has ∙ ap were same ∙ lacks mount.number)))

  -- a number is that of a named mount where it is among their numbers
  pub named_numbers : (number : ℕ) (named : List (Mount ℕ)) → list_any (λ other. nat_eq number other.number) named
      ≡ is_among nat_eq number (numbers_of named)
  named_numbers number [] = refl
  named_numbers number (mount ∷ rest) = ap (λ b. nat_eq number mount.number || b) (named_numbers number rest)

  -- mounts that get a type at once leave the groups that they leave in turn
  pub retyped_has : (word : TypeWord) (change : Propagation ℕ → Propagation ℕ) (numbers : List ℕ)
      → OnlyLoses world (changed_if change numbers)
      → ((new : ℕ) (kind : Propagation ℕ) → shown (change kind) ≡ shown (type_after new word kind))
      → (group : ℕ → ℕ) (named : List (Mount ℕ)) → numbers_of named ≡ numbers → ((number : ℕ)
      → LacksGroup world (group number))
      → (groups : Grouping) → Has (regrouped nat_eq (with_changed change world numbers)) groups
      → Has (retyped nat_eq world group word named) groups
  retyped_has word change numbers loses same group named are lacks groups has =
      has_alike (with_changed change world numbers) (record world {
        mounts = map (retyped_mount nat_eq group word named) world.mounts;
        master = with_new_groups nat_eq group world.master named;
      }) (keys_alike (changed_if change numbers) (retyped_mount nat_eq group word named)
      (λ mount. ap (λ b. key_of (if b then record mount { propagation = change mount.propagation } else mount))
      (ap (is_among nat_eq mount.number) (sym are) ∙ sym (named_numbers mount.number named))
      ∙ by mount (list_any (λ other. nat_eq mount.number other.number) named)) world.mounts)
      were (old_masters group lacks named world.master) (changed_lives change numbers loses) groups has
    where
      by : (mount : Mount ℕ) (b : Bool)
          → key_of (if b then record mount { propagation = change mount.propagation } else mount)
          ≡ key_of (if b then record mount {
            propagation = type_after (group mount.number) word mount.propagation;
          } else mount)
      by mount true = λ i. (mount.number, same (group mount.number) mount.propagation i)
      by mount false = refl

  -- mounts that become private at once leave the groups that they leave in turn
  pub privately_has : (numbers : List ℕ) (group : ℕ → ℕ) (named : List (Mount ℕ)) → numbers_of named ≡ numbers
      → ((number : ℕ) → LacksGroup world (group number)) → (groups : Grouping)
      → Has (regrouped nat_eq (with_changed as_private world numbers)) groups
      → Has (retyped nat_eq world group ToPrivate named) groups
  privately_has numbers = retyped_has ToPrivate as_private numbers (private_loses world numbers) (λ new kind. refl)

  -- so do mounts that become unbindable
  pub unbindably_has : (numbers : List ℕ) (group : ℕ → ℕ) (named : List (Mount ℕ)) → numbers_of named ≡ numbers
      → ((number : ℕ) → LacksGroup world (group number)) → (groups : Grouping)
      → Has (regrouped nat_eq (with_changed as_private world numbers)) groups
      → Has (retyped nat_eq world group ToUnbindable named) groups
  unbindably_has numbers = retyped_has ToUnbindable as_private numbers (private_loses world numbers) (λ new kind. refl)

  -- and mounts that become slaves
  pub slavishly_has : (numbers : List ℕ) (group : ℕ → ℕ) (named : List (Mount ℕ)) → numbers_of named ≡ numbers
      → ((number : ℕ) → LacksGroup world (group number)) → (groups : Grouping)
      → Has (regrouped nat_eq (with_changed as_slave world numbers)) groups
      → Has (retyped nat_eq world group ToSlave named) groups
  slavishly_has numbers = retyped_has ToSlave as_slave numbers (slave_loses world numbers) same
    where
      same : (new : ℕ) (kind : Propagation ℕ) → shown (as_slave kind) ≡ shown (type_after new ToSlave kind)
      same new (Shared group) = refl
      same new (Slave master) = refl
      same new Private = refl
      same new Unbindable = refl

-- A member becomes a slave of its group

module _ (world : World ℕ) (live : AllGroupsLive world) (numbers : List ℕ) (number : ℕ) (groups : Grouping)
    (has : Has (regrouped nat_eq (with_changed as_slave world numbers)) groups) where
  abbrev now : World ℕ
  now = with_changed as_slave world numbers

  -- the type that groups tell is that of each mount with this number
  told : (mount : Mount ℕ) → Among mount world.mounts → nat_eq number mount.number ≡ true
      → propagation_in groups number ≡ shown (inherited nat_eq now (changed_if as_slave numbers mount).propagation)
  told mount m same =
      let there : Among (inheriting nat_eq now (changed_if as_slave numbers mount)) (regrouped nat_eq now).mounts =
      subst (Among (inheriting nat_eq now (changed_if as_slave numbers mount))) (sym (mounts-regrouped now))
      (among-map (inheriting nat_eq now) now.mounts (changed_if as_slave numbers mount) (among-map
      (changed_if as_slave numbers) world.mounts mount m)) in
      ap (propagation_in groups) (eqb-true number mount.number same ∙ sym ((slave_loses world numbers).own mount))
      ∙ among_from_all (λ mount. propagation_in groups mount.number
      ≡ shown mount.propagation) (regrouped nat_eq now).mounts
      (shows_types (regrouped nat_eq now) groups has) (inheriting nat_eq now (changed_if as_slave numbers mount)) there

  still_shared : (group : ℕ) (kind : Propagation ℕ) → shown (inherited nat_eq now kind) ≡ Shared group → kind
      ≡ Shared group
  still_shared group kind e = by kind (group-inherited now kind) e
    where
      shown_group : (k : Propagation ℕ) → shown k ≡ Shared group → group_of k ≡ Some group
      shown_group (Shared own) f = ap group_of f
      shown_group (Slave master) f = absurd (true≢false (sym (ap (λ o. is_some (group_of o)) f)))
      shown_group Private f = absurd (true≢false (sym (ap (λ o. is_some (group_of o)) f)))
      shown_group Unbindable f = absurd (true≢false (sym (ap (λ o. is_some (group_of o)) f)))

      by : (k : Propagation ℕ) → group_of (inherited nat_eq now k) ≡ group_of k → shown (inherited nat_eq now k)
          ≡ Shared group → k ≡ Shared group
      by (Shared own) g f = f
      by (Slave master) g f = absurd (true≢false (sym (ap is_some (sym g
          ∙ shown_group (inherited nat_eq now (Slave master)) f))))
      by Private g f = absurd (true≢false (sym (ap (λ o. is_some (group_of o)) f)))
      by Unbindable g f = absurd (true≢false (sym (ap (λ o. is_some (group_of o)) f)))

  was_shared : (group : ℕ) (mount : Mount ℕ) (b : Bool)
      → (if b then record mount { propagation = as_slave mount.propagation } else mount).propagation ≡ Shared group
      → mount.propagation ≡ Shared group
  was_shared group mount true e = absurd (never mount.propagation e)
    where
      never : (kind : Propagation ℕ) → as_slave kind ≡ Shared group → ⊥
      never (Shared own) f = true≢false (sym (ap (λ o. is_some (group_of o)) f))
      never (Slave master) f = true≢false (sym (ap (λ o. is_some (group_of o)) f))
      never Private f = true≢false (sym (ap (λ o. is_some (group_of o)) f))
      never Unbindable f = true≢false (sym (ap (λ o. is_some (group_of o)) f))
  was_shared group mount false e = e

  module _ (group : ℕ) (is : propagation_in groups number ≡ Shared group) where
    -- a member of the group is the mount of the entry
    member_found : (mount : Mount ℕ) × Among mount (regrouped nat_eq now).mounts × (mount.number ≡ number)
        × (mount.propagation ≡ Shared group)
    member_found = by (lookup (nat_eq number) groups.peers) refl is
      where
        by : (o : Option (Propagation ℕ)) → lookup (nat_eq number) groups.peers ≡ o → unwrap_or o Private ≡ Shared group
            → (mount : Mount ℕ) × Among mount (regrouped nat_eq now).mounts × (mount.number ≡ number)
            × (mount.propagation ≡ Shared group)
        by None f e = absurd (true≢false (sym (ap (λ o. is_some (group_of o)) e)))
        by (Some kind) f e =
            let t = lookup-among number kind (regrouped nat_eq now).mounts (sym (ap (lookup
            (nat_eq number)) has.peers) ∙ f) in
            (t.0, t.1, t.2, t.3 ∙ e)

    -- the mount is one of the world so far
    pub is_mount : HasMount (regrouped nat_eq now) number
    is_mount = subst (Contains (numbers_of (regrouped nat_eq now).mounts)) member_found.2
        (contains_from_among (numbers_of (regrouped nat_eq now).mounts) member_found.0.number (among-map
        (λ mount. mount.number) (regrouped nat_eq now).mounts member_found.0 member_found.1))

    -- its group is one of the world so far
    pub is_group : HasGroup (regrouped nat_eq now) group
    is_group = any_from_among (is_member_of nat_eq group) (regrouped nat_eq now).mounts member_found.0 member_found.1
        (shared_member group member_found.0 member_found.3)

    -- one mount more that becomes a slave leaves what all leave that become so
    pub one_more_slave : (new : Grouping)
        → Has (regrouped nat_eq (with_propagation (regrouped nat_eq now) number (Slave group))) new
        → Has (regrouped nat_eq (with_changed as_slave world (numbers ++ number ∷ []))) new
    one_more_slave new later =
        subst (λ w. Has (regrouped nat_eq w) new) (next_changed as_slave world numbers number (Slave group)
        (λ mount m e.
        ap as_slave (sym (was_shared group mount (is_among nat_eq mount.number numbers)
        (still_shared group (changed_if as_slave numbers mount).propagation (sym (told mount m e) ∙ is))))))
        (steps_together world live (changed_if as_slave numbers) (slave_loses world numbers) number (Slave group) refl
        (λ source e. ap (has_members nat_eq now.mounts) (sym (same_Some group source e))
        ∙ sym (members-regrouped now group) ∙ is_group) new later)

  -- a mount that is not shared is left as it is
  pub no_more_slaves : ((group : ℕ) → propagation_in groups number ≡ Shared group → ⊥)
      → Has (regrouped nat_eq (with_changed as_slave world (numbers ++ number ∷ []))) groups
  no_more_slaves apart =
      subst (λ w. Has (regrouped nat_eq w) groups) (next_same as_slave world numbers number (λ mount m e unvisited.
      same mount.propagation (λ group f. apart group (told mount m e ∙ ap (λ c. shown (inherited nat_eq now
      (if c then record mount { propagation = as_slave mount.propagation } else mount).propagation)) unvisited
      ∙ ap (λ k. shown (inherited nat_eq now k)) f)))) has
    where
      same : (kind : Propagation ℕ) → ((group : ℕ) → kind ≡ Shared group → ⊥) → kind ≡ as_slave kind
      same (Shared group) not_shared = absurd (not_shared group refl)
      same (Slave master) not_shared = refl
      same Private not_shared = refl
      same Unbindable not_shared = refl

-- one more of a list of mounts
pub numbers_more : (mounts : List MountId) (i : ℕ) (default : MountId) → i < length mounts
    → map (λ mount. counted mount.count) (take i mounts) ++ counted (get_or mounts i default).count ∷ []
    ≡ map (λ mount. counted mount.count) (take (i + 1) mounts)
numbers_more mounts i default less =
    sym (map-append (λ mount. counted mount.count) (take i mounts) (get_or mounts i default ∷ []))
    ∙ ap (map (λ mount. counted mount.count)) (sym (take_more mounts i default less))

-- a mount of the list becomes a slave of the group that it is in, if any
pub slave_or_same : (world : World ℕ) → AllGroupsLive world → (numbers : List ℕ) (number : ℕ) (groups new : Grouping)
    → Has (regrouped nat_eq (with_changed as_slave world numbers)) groups
    → ((group : ℕ) → propagation_in groups number ≡ Shared group → new ≡ retyped_groups number (Slave group) groups)
    → (group_of (propagation_in groups number) ≡ None → new ≡ groups)
    → Has (regrouped nat_eq (with_changed as_slave world (numbers ++ number ∷ []))) new
slave_or_same world live numbers number groups new has member other = by (group_of (propagation_in groups number)) refl
  where
    by : (o : Option ℕ) → group_of (propagation_in groups number) ≡ o
        → Has (regrouped nat_eq (with_changed as_slave world (numbers ++ number ∷ []))) new
    by None e = subst (Has (regrouped nat_eq (with_changed as_slave world (numbers ++ number ∷ [])))) (sym (other e))
        (no_more_slaves world live numbers number groups has (λ group f. true≢false (sym (ap (λ k. is_some
        (group_of k)) f) ∙ ap is_some e)))
    by (Some group) e =
        let shared = group_shared (propagation_in groups number) group e in
        one_more_slave world live numbers number groups has group shared new
        (subst (Has (regrouped nat_eq (with_propagation (regrouped nat_eq
        (with_changed as_slave world numbers)) number (Slave group)))) (sym (member group shared))
        (slave_regroups (regrouped nat_eq (with_changed as_slave world numbers)) groups has
        (slaves_live world live numbers) number group (is_mount world live numbers number groups has group shared)
        (is_group world live numbers number groups has group shared)))
