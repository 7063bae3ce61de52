-- The groups that a sealed set hears are in its part, with their masters.
use Rattle.std.proofs.Common.{arith, ◌≡◌, sym, ap, subst, ◌∙◌, ⊎_elim, ℕ, nat_eq, Bool, true, true≢false, List, Some, None, is_some, not, ◌||◌, ◌&&◌, eqb-true}
use Rattle.vt_spec.proofs.Common.{Among, HasLivingGroups, Mount, Propagation, Task, TaskName, World, among-filter, among-filter_map, among-from_filter, among-from_filter_map, among_from_all, among_from_list_all, and_parts, any_from_among, common_steps, groups_up, holds_of, is_among_numbers, is_member_of, is_nowhere_or_attached, is_own_mount, is_private, list_any, members, mounts_of, none_is_some, or_left, own_mounts, part_of, source_of}
use Rattle.vt_laws_members.proofs.Common.{Hears, IsApart, IsSealed, Living, along_chain, apart_if_sealed, filter_both, heard_above, is_own, keep, kept_how, kept_whole, own_member, start_hears}
use Rattle.vt_laws_members.proofs.judging.Common.{own_whole, part_mount}

pub private_source : (kind : Propagation ℕ) → is_private kind ≡ true → source_of kind ≡ None
private_source kind e = grind (arith, common_steps, true≢false)

module _ {world : World ℕ} {names : List TaskName} (sealing : IsSealed world names) where
  abbrev pub apart : IsApart world names
  apart = apart_if_sealed sealing

  abbrev old : List (Task ℕ)
  old = members world names

  abbrev part : World ℕ
  part = part_of nat_eq world names

  abbrev owns : List (Mount ℕ)
  owns = own_mounts nat_eq world names

  -- a group that they hear, and that lives
  abbrev pub IsHeard : ℕ → Type 0
  IsHeard g = Hears world names sealing.is.mounts apart.events g × Living world names sealing.is.mounts apart.events g

  pub heard_by_own : (m : Mount ℕ) → Among m owns → (g : ℕ) → source_of m.propagation ≡ Some g → IsHeard g
  heard_by_own m n g e = (
    (m, n, start_hears world g m.propagation e),
    among_from_all (HasLivingGroups nat_eq world) world.mounts sealing.is.mounts.groups m
        (among-from_filter (is_own_mount nat_eq world names) world.mounts m n).0 g e,
  )

  pub above_heard : (g lower : ℕ) → world.master lower ≡ Some g → IsHeard lower → IsHeard g
  above_heard g lower e heard = heard_above world names sealing.is.mounts apart.events g lower e heard

  pub up_heard : (g x : ℕ) → IsHeard g → Among x (groups_up world g) → IsHeard x
  up_heard g x heard m = along_chain _ IsHeard above_heard _ g x heard (is_among_numbers (groups_up world g) x m)

  pub master_same : (g : ℕ) → IsHeard g → part.master g ≡ world.master g
  master_same g heard =
      let own = own_member world names sealing.is.mounts apart.events g heard.0 heard.1 in
      cc (any_from_among (is_member_of nat_eq g) owns own.0 own.1 own.2)

  pub own_in_part : (m : Mount ℕ) → Among m owns → Among m part.mounts
  own_in_part m n =
      let from = among-from_filter (is_own_mount nat_eq world names) world.mounts m n in
      among-filter_map (keep world names old) world.mounts m m from.0 (own_whole world names sealing.is m from.1)

  -- a mount of the part with a source is theirs
  pub part_source : (y : Mount ℕ) → Among y part.mounts → (g : ℕ) → source_of y.propagation ≡ Some g → Among y owns
  part_source y n g e =
      let from = among-from_filter_map (keep world names old) world.mounts y n in
      ⊎_elim (λ same.
      let there = subst (λ k. Among k world.mounts) same from.1 in
      ⊎_elim (λ own. among-filter (is_own_mount nat_eq world names) world.mounts y there own)
      (λ none. none_is_some g (sym (private_source y.propagation (and_parts (not (is_some y.mount_point))
      (is_private y.propagation)
      (sym (ap (λ o. is_some o || (not (is_some y.mount_point) && is_private y.propagation)) none) ∙ among_from_list_all
      is_nowhere_or_attached world.mounts sealing.is.mounts.nowhere y there)).1) ∙ e))
      (part_mount world names sealing.is from.0 y from.1 from.2))
      (λ stub. none_is_some g (ap (λ (m : Mount ℕ). source_of m.propagation) stub.0 ∙ e))
      (kept_how world names old from.0 y from.2)

  abbrev its_in : ℕ → Mount ℕ → Bool
  its_in n m = holds_of (nat_eq n) m.namespace

  -- a mount in a namespace of theirs is theirs
  pub own_in : (n : ℕ) → list_any (λ (t : Task ℕ). nat_eq n t.namespace) old ≡ true → (m : Mount ℕ) → its_in n m ≡ true
      → is_own world names old m ≡ true
  own_in n own m = grind (arith, common_steps, true≢false, eqb-true)

  pub own_kept : (m : Mount ℕ) → is_own world names old m ≡ true → keep world names old m ≡ Some m
  own_kept m own = kept_whole world names old m (or_left (is_own world names old m) _ own)

  -- the mounts of a namespace of theirs are in the part
  pub space_in_part : (n : ℕ) → list_any (λ (t : Task ℕ). nat_eq n t.namespace) old ≡ true
      → mounts_of nat_eq part n ≡ mounts_of nat_eq world n
  space_in_part n own = filter_both _ (its_in n) (its_in n) world.mounts (λ m at h. (own_kept m (own_in n own m h), h))
      (λ m y at h e. ⊎_elim (λ same. cc) (λ stub. cc stub.0) (kept_how world names old m y e))
