-- What the policy takes for the receivers of a group is what receives from it.
use Rattle.std.proofs.Common.{arith, ◌≡◌, refl, sym, ap, subst, ◌∙◌, ⊎_elim, ℕ, zero, suc, nat_eq, Bool, true, false, true≢false, [], ◌∷◌, Option, Some, None, is_some, ◌↔◌}
use Rattle.vt_spec.proofs.Common.{Among, Mount, Private, Propagation, Receives, Shared, Slave, Unbindable, World, all_from_among, among-filter, among-from_filter, among_cases, among_from_all, among_from_contains, among_from_list_all, chain, chain_ends, chain_goes_on, common_steps, contains_from_among, further_down, groups_up, has_members, head_among, holds_of, is_among, last_of_chain, last_or, list_all, member, not-true, receivers_of, receives, same_Some, slave, source_of, tail_among}
use Rattle.vt_spec.specs.Machine.Invariants.{has_living_groups, masters_end}
use Rattle.vt_laws_mounts.specs.Mounts.Receivers.{GroupsLive, IsClosed, ReceiversAreClosed, ReceiversAreLeast, ReceiversReceive, ReceivesIsComputed}

-- receivers are mounts of the world
pub receivers_there : (world : World ℕ) (mount one : Mount ℕ) → Among one (receivers_of nat_eq world mount)
    → Among one world.mounts
receivers_there world mount one = grind (arith, common_steps, among-from_filter)

module _ (master : ℕ → Option ℕ) where
  -- what goes up the masters goes up a chain of them
  pub along_chain : (P : ℕ → Type 0) → ((group lower : ℕ) → master lower ≡ Some group → P lower → P group)
      → (n source group : ℕ) → P source → is_among nat_eq group (chain n master source) ≡ true → P group
  along_chain P up zero source group p h =
      ⊎_elim (λ e. subst P (sym e) p) (λ none. absurd cc) (among_cases group source [] h)
  along_chain P up (suc n) source group p h = by _ refl (λ above q later. along_chain P up n above group q later)
    where
      by : (found : Option ℕ) → master source ≡ found
          → ((above : ℕ) → P above → is_among nat_eq group (chain n master above) ≡ true → P group) → P group
      by None e next = ⊎_elim (λ same. subst P (sym same) p) (λ none. absurd cc)
          (among_cases group source [] (sym (ap (is_among nat_eq group) (chain_ends master n source e)) ∙ h))
      by (Some above) e next = ⊎_elim (λ same. subst P (sym same) p) (λ later. next above (up above source e p) later)
          (among_cases group source _ (sym (ap (is_among nat_eq group) (chain_goes_on master n source above e)) ∙ h))

  -- the end of a chain has no master
  abbrev Ends : ℕ → ℕ → Type 0
  Ends n source = is_some (master (last_or source (chain n master source))) ≡ false

  no_end : (source group : ℕ) → master source ≡ Some group → is_some (master source) ≡ false → ⊥
  no_end source group e ends = true≢false (sym (ap is_some e) ∙ ends)

  -- a chain begins with its start
  pub start_among : (n source : ℕ) → is_among nat_eq source (chain n master source) ≡ true
  start_among zero source = head_among source source [] refl
  start_among (suc n) source = grind (arith, common_steps, chain_ends, head_among, chain_goes_on)

  -- a chain that ends holds the master of each of its groups
  pub chain_is_closed : (n source lower group : ℕ) → Ends n source → master lower ≡ Some group
      → is_among nat_eq lower (chain n master source) ≡ true → is_among nat_eq group (chain n master source) ≡ true
  chain_is_closed zero source lower group ends above h =
      ⊎_elim (λ same. absurd (no_end source group (ap master (sym same) ∙ above) ends))
      (λ none. absurd cc) (among_cases lower source [] h)
  chain_is_closed (suc n) source lower group ends above h = by _ refl (λ next. chain_is_closed n next lower group)
    where
      by : (found : Option ℕ) → master source ≡ found
          → ((next : ℕ) → Ends n next → master lower ≡ Some group → is_among nat_eq lower (chain n master next) ≡ true
          → is_among nat_eq group (chain n master next) ≡ true)
          → is_among nat_eq group (chain (suc n) master source) ≡ true
      by None e go = ⊎_elim (λ same. absurd (no_end source group (ap master (sym same) ∙ above) (ap is_some e)))
          (λ none. absurd cc)
          (among_cases lower source [] (sym (ap (is_among nat_eq lower) (chain_ends master n source e)) ∙ h))
      by (Some next) e go =
          let longer : chain (suc n) master source ≡ source ∷ chain n master next =
          chain_goes_on master n source next e in
          let last : last_or source (chain (suc n) master source) ≡ last_or next (chain n master next) =
          ap (last_or source) longer ∙ last_of_chain master n next source in
          ap (is_among nat_eq group) longer ∙ tail_among group source _ (⊎_elim (λ same.
          let it : next ≡ group = same_Some next group (sym e ∙ ap master (sym same) ∙ above) in
          subst (λ g. is_among nat_eq g (chain n master next) ≡ true) it (start_among n next))
          (λ later. go next (sym (ap (λ g. is_some (master g)) last) ∙ ends) above later)
          (among_cases lower source _ (sym (ap (is_among nat_eq lower) longer) ∙ h)))

-- the group or master of a mount, and the groups up the masters, have members and come to an end
pub groups_live_at : (world : World ℕ) → GroupsLive world → (mount : Mount ℕ) → Among mount world.mounts → (source : ℕ)
    → source_of mount.propagation ≡ Some source
    → (list_all (has_members nat_eq world.mounts) (groups_up world source) ≡ true)
    × (masters_end nat_eq world source ≡ true)
groups_live_at world live mount m source e =
    grind (arith, common_steps, among_from_list_all (has_living_groups nat_eq world) world.mounts live mount m)

ends_above : (world : World ℕ) → GroupsLive world → (mount : Mount ℕ) → Among mount world.mounts → (source : ℕ)
    → source_of mount.propagation ≡ Some source
    → is_some (world.master (last_or source (groups_up world source))) ≡ false
ends_above world live mount m source e = not-true _ (groups_live_at world live mount m source e).1

module _ (world : World ℕ) where
  -- what is found to receive has a source, up whose masters the group is
  receives_by_source : (group source : ℕ) (mount : Mount ℕ) → source_of mount.propagation ≡ Some source
      → receives nat_eq world group mount ≡ is_among nat_eq group (groups_up world source)
  receives_by_source group source mount e = ap (holds_of (λ s. is_among nat_eq group (groups_up world s))) e

  pub receives_soundly : (group : ℕ) (mount : Mount ℕ) → receives nat_eq world group mount ≡ true
      → Receives world group mount
  receives_soundly group mount h = by _ refl
    where
      from : (source : ℕ) → source_of mount.propagation ≡ Some source → Receives world source mount
          → Receives world group mount
      from source e r = along_chain _ _ (λ above lower up here. further_down above lower mount up here) _ source group r
          (sym (receives_by_source group source mount e) ∙ h)

      none : source_of mount.propagation ≡ None → Receives world group mount
      none e = absurd (cc h)

      by : (kind : Propagation ℕ) → mount.propagation ≡ kind → Receives world group mount
      by (Shared own) e = from own (ap source_of e) (member own mount e)
      by (Slave above) e = from above (ap source_of e) (slave above mount e)
      by Private e = none (ap source_of e)
      by Unbindable e = none (ap source_of e)

  pub receives_from_source : (group : ℕ) (mount : Mount ℕ) → source_of mount.propagation ≡ Some group
      → receives nat_eq world group mount ≡ true
  receives_from_source group mount e = receives_by_source group group mount e ∙ start_among _ _ group

  receives_further_down : GroupsLive world → (group lower : ℕ) (mount : Mount ℕ) → Among mount world.mounts
      → world.master lower ≡ Some group
      → receives nat_eq world lower mount ≡ true → receives nat_eq world group mount ≡ true
  receives_further_down live group lower mount m up h =
      grind (arith, common_steps, true≢false, receives_by_source, chain_is_closed, ends_above)

  pub receives_completely : GroupsLive world → (group : ℕ) (mount : Mount ℕ) → Among mount world.mounts
      → Receives world group mount → receives nat_eq world group mount ≡ true
  receives_completely live group mount m (member own one e) = receives_from_source own one (ap source_of e)
  receives_completely live group mount m (slave above one e) = receives_from_source above one (ap source_of e)
  receives_completely live group mount m (further_down above lower one up r) =
      receives_further_down live above lower one m up (receives_completely live lower one m r)

pub receives_is_computed : ReceivesIsComputed
receives_is_computed world group live =
    all_from_among (λ mount. (receives nat_eq world group mount ≡ true) ↔ Receives world group mount) world.mounts
    (λ mount m. (receives_soundly world group mount, receives_completely world live group mount m))

pub receivers_receive : ReceiversReceive
receivers_receive world group mount live = grind (
  arith,
  common_steps,
  among-from_filter,
  among_from_contains,
  contains_from_among,
  receives_soundly,
  among-filter,
  receives_completely,
)

pub receivers_are_closed : ReceiversAreClosed
receivers_are_closed world live = record {
  members = λ group. all_from_among
      (λ mount. mount.propagation ≡ Shared group → receives nat_eq world group mount ≡ true) world.mounts
      (λ mount m e. receives_from_source world group mount (ap source_of e));
  slaves = λ group. all_from_among
      (λ mount. mount.propagation ≡ Slave group → receives nat_eq world group mount ≡ true) world.mounts
      (λ mount m e. receives_from_source world group mount (ap source_of e));
  further_down = λ group lower up. all_from_among (λ mount. receives nat_eq world lower mount ≡ true
      → receives nat_eq world group mount ≡ true) world.mounts
      (λ mount m h. receives_further_down world live group lower mount m up h);
}

-- what receives is in every closed set
in_closed : (world : World ℕ) (set : ℕ → Mount ℕ → Bool) → IsClosed world set → (group : ℕ) (mount : Mount ℕ)
    → Among mount world.mounts → Receives world group mount → set group mount ≡ true
in_closed world set closed group mount m (member own one e) =
    among_from_all (λ x. x.propagation ≡ Shared own → set own x ≡ true) world.mounts (closed.members own) one m e
in_closed world set closed group mount m (slave above one e) =
    among_from_all (λ x. x.propagation ≡ Slave above → set above x ≡ true) world.mounts (closed.slaves above) one m e
in_closed world set closed group mount m (further_down above lower one up r) =
    among_from_all (λ x. set lower x ≡ true → set above x ≡ true) world.mounts
    (closed.further_down above lower up) one m (in_closed world set closed lower one m r)

pub receivers_are_least : ReceiversAreLeast
receivers_are_least world set group closed =
    all_from_among (λ mount. receives nat_eq world group mount ≡ true → set group mount ≡ true) world.mounts
    (λ mount m h. in_closed world set closed group mount m (receives_soundly world group mount h))

-- what receives from a mount is there, and receives from its group
pub receiver_receives : (world : World ℕ) (mount part : Mount ℕ) → Among part (receivers_of nat_eq world mount)
    → (group : ℕ) × (mount.propagation ≡ Shared group) × Among part world.mounts
    × (receives nat_eq world group part ≡ true)
receiver_receives world mount part m = grind (arith, common_steps, among-from_filter)
