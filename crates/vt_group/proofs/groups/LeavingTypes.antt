-- The types of mounts once one has left its group or become a slave of it.
use Rattle.std.proofs.Common.{◌≡◌, ℕ, Bool, true, false, cond, ◌||◌, List, [], ◌∷◌, nat_eq, nat_lt, Option, None, Some, refl, sym, ap, ◌∙◌, arith, lt-ltb, eqb-true, ltb-true, nat_cmp, Less, Equal, Greater, if◌then◌else◌, unwrap_or}
use Rattle.vt_spec.proofs.Common.{Private, Propagation, Shared, Slave, and_from, and_parts, group_of, insert_entry, list_all, list_any, lookup, match_ordering, remove_entry}
use Rattle.vt_group.specs.Grouping.{Grouping, are_rising, propagation_in}
use Rattle.vt_group.specs.Leaving.{if_lone, lone_group, lost_group, type_once_ended, type_once_left, type_once_retyped, type_once_slave}
use Rattle.vt_group.specs.Steps.{is_member, with_peer}
use Rattle.vt_group.specs.Together.{as_slave}
use Rattle.vt_group.proofs.Adding.{lookup-removed}
use Rattle.vt_group.proofs.Changes.{lookup-inserted}
use Rattle.vt_group.proofs.Peers.{remove-absent}
use Rattle.vt_group.proofs.Regrouping.{keys, lookup-low}

apart_less : (a b : ℕ) → nat_lt a b ≡ true → nat_eq a b ≡ true → ⊥
apart_less a b l s = omega (arith, ltb-true a b l, eqb-true a b s)

low_further : (low high : ℕ) (es : List (ℕ × Propagation ℕ)) → nat_lt low high ≡ true
    → list_all (nat_lt high) (keys es) ≡ true → list_all (nat_lt low) (keys es) ≡ true
low_further low high [] l all = refl
low_further low high (e ∷ es) l all =
    and_from _ _ (lt-ltb low e.0 (omega (arith, ltb-true low high l, ltb-true high e.0 (and_parts _ _ all).0)))
    (low_further low high es l (and_parts _ _ all).1)

module _ (groups : Grouping) (mount : ℕ) where
  -- the groups without the mount
  abbrev pub without_mount : Grouping
  without_mount = record groups { peers = remove_entry (nat_eq mount) groups.peers }

  -- the group that a mount leaves ends just where the mount is alone in it
  pub lost_alone : (group : Option ℕ) → lost_group without_mount group ≡ if_lone groups mount group
  lost_alone None = refl
  lost_alone (Some group) = refl

  private_once_ended : (lost : Option ℕ) → type_once_ended without_mount lost Private ≡ Private
  private_once_ended None = refl
  private_once_ended (Some group) = refl

  same_once_ended : (lost : Option ℕ) (kind : Propagation ℕ) → type_once_ended without_mount lost kind
      ≡ type_once_ended groups lost kind
  same_once_ended None kind = refl
  same_once_ended (Some group) kind = refl

  -- each mount then has the type that the definitions leave it
  pub types-left : are_rising (keys groups.peers) ≡ true → (other : ℕ)
      → type_once_ended without_mount (lost_group without_mount (group_of (propagation_in groups mount)))
      (propagation_in without_mount other) ≡ type_once_left groups mount other
  types-left rising other = (λ i. type_once_ended without_mount (lost_alone (group_of (propagation_in groups mount)) i)
      (unwrap_or (lookup-removed other mount groups.peers rising i) Private))
      ∙ by (nat_eq other mount) (lookup (nat_eq other) groups.peers)
    where
      by : (b : Bool) (found : Option (Propagation ℕ))
          → type_once_ended without_mount (lone_group groups mount) (unwrap_or (cond b None found) Private)
          ≡ (if b then Private else type_once_ended groups (lone_group groups mount) (unwrap_or found Private))
      by true found = private_once_ended (lone_group groups mount)
      by false found = same_once_ended (lone_group groups mount) (unwrap_or found Private)

-- one that gets a type by which it is no member

any-inserted : (group mount : ℕ) (kind : Propagation ℕ) (peers : List (ℕ × Propagation ℕ))
    → are_rising (keys peers) ≡ true → is_member group (mount, kind) ≡ false
    → list_any (is_member group) (insert_entry nat_cmp peers mount kind)
    ≡ list_any (is_member group) (remove_entry (nat_eq mount) peers)
any-inserted group mount kind [] rising none = ap (λ b. b || false) none
any-inserted group mount kind (e ∷ es) rising none =
    by (nat_lt mount e.0) refl (nat_eq mount e.0) refl (any-inserted group mount kind es (and_parts _ _ rising).1 none)
  where
    by : (less : Bool) → nat_lt mount e.0 ≡ less → (same : Bool) → nat_eq mount e.0 ≡ same
        → list_any (is_member group) (insert_entry nat_cmp es mount kind)
        ≡ list_any (is_member group) (remove_entry (nat_eq mount) es)
        → list_any (is_member group) (match_ordering (cond less Less (cond same Equal Greater))
        ((mount, kind) ∷ e ∷ es) ((e.0, kind) ∷ es) (e ∷ insert_entry nat_cmp es mount kind))
        ≡ list_any (is_member group) (cond same es (e ∷ remove_entry (nat_eq mount) es))
    by true l true s later = absurd (apart_less mount e.0 l s)
    by true l false s later = ap (λ b. b || (is_member group e || list_any (is_member group) es)) none
        ∙ ap (λ rest. is_member group e || list_any (is_member group) rest)
        (sym (remove-absent mount es (lookup-low mount es (low_further mount e.0 es l (and_parts _ _ rising).0))))
    by false l true s later = ap (λ b. b || list_any (is_member group) es) none
    by false l false s later = ap (λ b. is_member group e || b) later

module _ (groups : Grouping) (mount group : ℕ) (rising : are_rising (keys groups.peers) ≡ true)
    (shared : propagation_in groups mount ≡ Shared group) where
  abbrev as_its_slave : Grouping
  as_its_slave = with_peer mount (Slave group) groups

  slave_lost : lost_group as_its_slave (Some group) ≡ if_lone groups mount (Some group)
  slave_lost = ap (λ b. if b then None else Some group) (any-inserted group mount (Slave group) groups.peers rising refl)

  same_once_slave : (lost : Option ℕ) (kind : Propagation ℕ) → type_once_ended as_its_slave lost kind
      ≡ type_once_ended groups lost kind
  same_once_slave None kind = refl
  same_once_slave (Some other) kind = refl

  slave_type : (other : ℕ) → propagation_in as_its_slave other
      ≡ (if nat_eq other mount then as_slave (propagation_in groups mount) else propagation_in groups other)
  slave_type other = ap (λ o. unwrap_or o Private) (lookup-inserted other mount (Slave group) groups.peers)
      ∙ by (nat_eq other mount)
      ∙ ap (λ kind. if nat_eq other mount then as_slave kind else propagation_in groups other) (sym shared)
    where
      by : (b : Bool) → unwrap_or (cond b (Some (Slave group)) (lookup (nat_eq other) groups.peers)) Private
          ≡ (if b then as_slave (Shared group) else propagation_in groups other)
      by true = refl
      by false = refl

  -- and so where it becomes a slave of its own group
  pub types-slave : (other : ℕ) → type_once_retyped groups mount (Slave group) other ≡ type_once_slave groups mount other
  types-slave other =
      ap (λ kind. type_once_ended as_its_slave (lost_group as_its_slave (group_of kind)) (propagation_in as_its_slave other))
      shared ∙ (λ i. type_once_ended as_its_slave (slave_lost i) (slave_type other i))
      ∙ same_once_slave (if_lone groups mount (Some group))
      (if nat_eq other mount then as_slave (propagation_in groups mount) else propagation_in groups other)
      ∙ ap (λ kind. type_once_ended groups (if_lone groups mount (group_of kind))
      (if nat_eq other mount then as_slave (propagation_in groups mount) else propagation_in groups other)) (sym shared)
