-- Worlds whose mounts have the same numbers and shown types, and whose living groups have the same masters, have the
-- same
-- groups once they are regrouped.
use Rattle.std.proofs.Common.{◌≡◌, refl, sym, ap, ◌∙◌, true, false, Bool, List, None, Option, Some, [], cond, find, length, map, option_map, ℕ, nat_eq, ◌||◌, ◌∷◌, inl, inr, suc, filter_map}
use Rattle.vt_spec.proofs.Common.{Among, Lives, Mount, Private, Propagation, Shared, Slave, Unbindable, World, any_among, chain, cons_option, group_of, has_master, has_members, has_no_master, heir, holds_of, inherited, inheriting, is_member_of, list_any, regrouped, slave_of_heir, source_of, without_dead_groups}
use Rattle.vt_group.specs.Grouping.{Grouping, Has, are_rising, peer_of, peers_of}
use Rattle.vt_group.specs.Laws.{shown}
use Rattle.vt_group.proofs.Heirs.{master_inherited}
use Rattle.vt_group.proofs.Receiving.{chain_alike}
use Rattle.vt_laws_mounts.proofs.GroupsUp.{all_on_way}
use Rattle.vt_laws_mounts.proofs.GroupsKept.{member_shared}
use Rattle.vt_laws_mounts.proofs.Groups.{mounts-regrouped, members-regrouped}
use Rattle.vt_laws_mounts.proofs.mounts.MountsKept.{numbers_regrouped}
use Rattle.vt_laws_mounts.specs.Mounts.Attaching.{numbers_of}

-- what groups know of a mount
abbrev pub key_of : Mount ℕ → ℕ × Propagation ℕ
key_of mount = (mount.number, shown mount.propagation)

-- what propagation needs of each mount: its number and its type
abbrev pub keys_of : List (Mount ℕ) → List (ℕ × Propagation ℕ)
keys_of mounts = map key_of mounts

group-shown : (kind : Propagation ℕ) → group_of (shown kind) ≡ group_of kind
group-shown (Shared group) = refl
group-shown (Slave master) = refl
group-shown Private = refl
group-shown Unbindable = refl

numbers-keys : (mounts : List (Mount ℕ)) → numbers_of mounts ≡ map (λ key. key.0) (keys_of mounts)
numbers-keys [] = refl
numbers-keys (mount ∷ rest) = ap (λ l. mount.number ∷ l) (numbers-keys rest)

length-keys : (mounts : List (Mount ℕ)) → length mounts ≡ length (keys_of mounts)
length-keys [] = refl
length-keys (mount ∷ rest) = ap (λ n. suc n) (length-keys rest)

members-keys : (group : ℕ) (mounts : List (Mount ℕ))
    → has_members nat_eq mounts group ≡ list_any (λ key. holds_of (nat_eq group) (group_of key.1)) (keys_of mounts)
members-keys group [] = refl
members-keys group (mount ∷ rest) =
    (λ i. holds_of (nat_eq group) (sym (group-shown mount.propagation) i) || members-keys group rest i)

-- the peer that a key becomes
abbrev inherited_key : World ℕ → ℕ × Propagation ℕ → Option (ℕ × Propagation ℕ)
inherited_key world key = option_map (λ s. (key.0, inherited nat_eq world key.1)) (source_of
    (inherited nat_eq world key.1))

peer-keys : (world : World ℕ) (mount : Mount ℕ) → peer_of (inheriting nat_eq world mount)
    ≡ inherited_key world (key_of mount)
peer-keys world mount = by mount.propagation
  where
    by : (kind : Propagation ℕ) → option_map (λ s. (mount.number, inherited nat_eq world kind)) (source_of
        (inherited nat_eq world kind)) ≡ inherited_key world (mount.number, shown kind)
    by (Shared group) = refl
    by (Slave master) = refl
    by Private = refl
    by Unbindable = refl

peers-keys : (world : World ℕ) (mounts : List (Mount ℕ)) → peers_of (map (inheriting nat_eq world) mounts)
    ≡ filter_map (inherited_key world) (keys_of mounts)
peers-keys world [] = refl
peers-keys world (mount ∷ rest) = λ i. cons_option (peer-keys world mount i) (peers-keys world rest i)

module _ (one other : World ℕ) (keys : keys_of one.mounts ≡ keys_of other.mounts) (known : ℕ → Bool)
    (masters : (group : ℕ) → known group ≡ true → other.master group ≡ one.master group)
    (lives : (mount : Mount ℕ) → Among mount one.mounts → (source : ℕ) → source_of mount.propagation ≡ Some source
    → Lives known one.master source) where
  same_members : (group : ℕ) → has_members nat_eq one.mounts group ≡ has_members nat_eq other.mounts group
  same_members group =
      members-keys group one.mounts ∙ ap (list_any (λ key. holds_of (nat_eq group) (group_of key.1))) keys
      ∙ sym (members-keys group other.mounts)

  same_length : length one.mounts ≡ length other.mounts
  same_length = length-keys one.mounts ∙ ap length keys ∙ sym (length-keys other.mounts)

  same_heir : (group : ℕ) → Lives known one.master group → heir nat_eq one (Some group) ≡ heir nat_eq other (Some group)
  same_heir group life = (λ i. find (λ g. same_members g i) (chain (same_length i) one.master group))
      ∙ ap (find (has_members nat_eq other.mounts))
      (sym (chain_alike one.master other.master known masters (length other.mounts) group
      (all_on_way one.master known (length other.mounts) group life)))

  same_key : (mount : Mount ℕ) → Among mount one.mounts → inherited_key one (key_of mount)
      ≡ inherited_key other (key_of mount)
  same_key mount m = by mount.propagation refl
    where
      by : (kind : Propagation ℕ) → mount.propagation ≡ kind → inherited_key one (mount.number, shown kind)
          ≡ inherited_key other (mount.number, shown kind)
      by (Shared group) e = refl
      by (Slave master) e =
          ap (λ o. option_map {U = ℕ × Propagation ℕ} (λ s. (mount.number, slave_of_heir o)) (source_of
          (slave_of_heir o))) (same_heir master (lives mount m master (ap source_of e)))
      by Private e = refl
      by Unbindable e = refl

  same_keys : (mounts : List (Mount ℕ)) → ((mount : Mount ℕ) → Among mount mounts → Among mount one.mounts)
      → filter_map (inherited_key one) (keys_of mounts) ≡ filter_map (inherited_key other) (keys_of mounts)
  same_keys [] within = refl
  same_keys (mount ∷ rest) within =
      λ i. cons_option (same_key mount (within mount (inl refl)) i) (same_keys rest (λ x m. within x (inr m)) i)

  same_peers : peers_of (regrouped nat_eq one).mounts ≡ peers_of (regrouped nat_eq other).mounts
  same_peers = ap peers_of (mounts-regrouped one) ∙ peers-keys one one.mounts ∙ same_keys one.mounts (λ mount m. m)
      ∙ ap (filter_map (inherited_key other)) keys ∙ sym (peers-keys other other.mounts)
      ∙ ap peers_of (sym (mounts-regrouped other))

  same_numbers : numbers_of (regrouped nat_eq one).mounts ≡ numbers_of (regrouped nat_eq other).mounts
  same_numbers =
      numbers_regrouped one ∙ numbers-keys one.mounts ∙ ap (map (λ key. key.0)) keys ∙ sym (numbers-keys other.mounts)
      ∙ sym (numbers_regrouped other)

  same_master : (group : ℕ) → has_members nat_eq one.mounts group ≡ true → (regrouped nat_eq one).master group
      ≡ (regrouped nat_eq other).master group
  same_master group has = master_inherited one group has
      ∙ by (lives member.0 member.1 group (ap source_of (member_shared group member.0 member.2)))
      ∙ sym (master_inherited other group (sym (same_members group) ∙ has))
    where
      member : (x : Mount ℕ) × Among x one.mounts × (is_member_of nat_eq group x ≡ true)
      member = any_among (is_member_of nat_eq group) one.mounts has

      by : Lives known one.master group → heir nat_eq one (one.master group) ≡ heir nat_eq other (other.master group)
      by (has_no_master it h e) = ap (heir nat_eq one) e ∙ ap (heir nat_eq other) (sym (masters it h ∙ e))
      by (has_master it next h e later) = ap (heir nat_eq one) e ∙ same_heir next later
          ∙ ap (heir nat_eq other) (sym (masters it h ∙ e))

  same_masters : (group : ℕ) → (without_dead_groups nat_eq (regrouped nat_eq one)).master group
      ≡ (without_dead_groups nat_eq (regrouped nat_eq other)).master group
  same_masters group = ap (λ b. cond b ((regrouped nat_eq one).master group) None) (members-regrouped one group)
      ∙ by (has_members nat_eq one.mounts group) refl
      ∙ ap (λ b. cond b ((regrouped nat_eq other).master group) None) (same_members group)
      ∙ ap (λ b. cond b ((regrouped nat_eq other).master group) None) (sym (members-regrouped other group))
    where
      by : (b : Bool) → has_members nat_eq one.mounts group ≡ b
          → cond (has_members nat_eq one.mounts group) ((regrouped nat_eq one).master group) None
          ≡ cond (has_members nat_eq one.mounts group) ((regrouped nat_eq other).master group) None
      by true e = ap (λ o. cond (has_members nat_eq one.mounts group) o None) (same_master group e)
      by false e = ap (λ b. cond b ((regrouped nat_eq one).master group) None) e
          ∙ ap (λ b. cond b ((regrouped nat_eq other).master group) None) (sym e)

  -- Worlds whose mounts have the same numbers and types have the same groups once they are regrouped.
  pub has_alike : (groups : Grouping) → Has (regrouped nat_eq one) groups → Has (regrouped nat_eq other) groups
  has_alike groups has = record {
    order = ap are_rising (sym same_numbers) ∙ has.order;
    peers = has.peers ∙ same_peers;
    masters_order = has.masters_order;
    masters = λ group. has.masters group ∙ same_masters group;
  }
