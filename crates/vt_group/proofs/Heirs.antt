-- The heir of a group, one step up the masters at a time.
use Rattle.std.proofs.Common.{◌≡◌, refl, sym, ap, ◌∙◌, true, false, zero, suc, Bool, None, Option, Some, arith, cond, find, is_some, length, not, true≢false, ℕ, nat_eq}
use Rattle.vt_spec.proofs.Common.{Among, Mount, World, any_among, chain, chain_ends, chain_goes_on, find-chain_start, has_members, heir, is_lost_group, is_member_of, last_of_chain, last_or, list_any, lost_a_group, none_among, not-false, or_parts, regrouped, regrouped_by, source_of, then_some}
use Rattle.vt_group.proofs.Receiving.{Ends, chain_same}
use Rattle.vt_laws_mounts.proofs.GroupsKept.{member_shared}

module _ (p : ℕ → Bool) (master : ℕ → Option ℕ) where
  abbrev found_from : ℕ → Option ℕ → Option ℕ
  found_from n None = None
  found_from n (Some group) = find p (chain n master group)

  ends_above : (n group next : ℕ) → master group ≡ Some next → Ends master (suc n) group → Ends master n next
  ends_above n group next e ends =
      sym (ap (λ g. is_some (master g)) (ap (last_or group) (chain_goes_on master n group next e)
      ∙ last_of_chain master n next group)) ∙ ends

  -- a group that does not pass: what is found is found from its master on
  one_up : (n group : ℕ) → Ends master n group → p group ≡ false → find p (chain n master group)
      ≡ found_from n (master group)
  one_up n group ends fails = by n ends (master group) refl
    where
      by : (n : ℕ) → Ends master n group → (o : Option ℕ) → master group ≡ o → find p (chain n master group)
          ≡ found_from n o
      by zero ends None e = ap (λ b. cond b (Some group) None) fails
      by zero ends (Some next) e = absurd (true≢false (sym (ap is_some e) ∙ ends))
      by (suc n) ends None e = ap (find p) (chain_ends master n group e) ∙ ap (λ b. cond b (Some group) None) fails
      by (suc n) ends (Some next) e = ap (find p) (chain_goes_on master n group next e)
          ∙ ap (λ b. cond b (Some group) (find p (chain n master next))) fails
          ∙ ap (find p) (sym (chain_same master n (suc n) next (omega arith) (ends_above n group next e ends)))

module _ (world : World ℕ) where
  abbrev members : ℕ → Bool
  members = has_members nat_eq world.mounts

  -- a group with members is its own heir
  pub heir_itself : (group : ℕ) → members group ≡ true → heir nat_eq world (Some group) ≡ Some group
  heir_itself group e = find-chain_start members world.master (length world.mounts) group e

  -- a group without members has the heir of its master
  pub heir_above : (group : ℕ) → Ends world.master (length world.mounts) group → members group ≡ false
      → heir nat_eq world (Some group) ≡ heir nat_eq world (world.master group)
  heir_above group ends fails = one_up members world.master (length world.mounts) group ends fails
      ∙ by (world.master group)
    where
      by : (o : Option ℕ) → found_from members world.master (length world.mounts) o ≡ heir nat_eq world o
      by None = refl
      by (Some next) = refl

  -- a group with members has its master's heir as its master, also where nothing is lost
  pub master_inherited : (group : ℕ) → members group ≡ true → (regrouped nat_eq world).master group
      ≡ heir nat_eq world (world.master group)
  master_inherited group has = by (list_any (lost_a_group nat_eq world) world.mounts) refl
    where
      member : (x : Mount ℕ) × Among x world.mounts × (is_member_of nat_eq group x ≡ true)
      member = any_among (is_member_of nat_eq group) world.mounts has

      above : list_any (lost_a_group nat_eq world) world.mounts ≡ false → (o : Option ℕ) → world.master group ≡ o
          → o ≡ heir nat_eq world o
      above unlost None e = refl
      above unlost (Some next) e =
          let kept : not (members next) ≡ false =
          sym (ap (is_lost_group nat_eq world) (ap (λ k. then_some (source_of k) world.master)
          (member_shared group member.0 member.2) ∙ e))
          ∙ (or_parts (is_lost_group nat_eq world (source_of member.0.propagation)) (is_lost_group nat_eq world
          (then_some (source_of member.0.propagation) world.master))
          (none_among (lost_a_group nat_eq world) world.mounts unlost member.0 member.1)).1 in
          sym (heir_itself next (not-false _ kept))

      by : (b : Bool) → list_any (lost_a_group nat_eq world) world.mounts ≡ b
          → (regrouped_by nat_eq b world).master group ≡ heir nat_eq world (world.master group)
      by true e = refl
      by false e = above e (world.master group) refl
