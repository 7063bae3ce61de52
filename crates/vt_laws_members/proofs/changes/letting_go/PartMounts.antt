-- The part of a sealed set has the invariants of mounts.
use Rattle.std.proofs.Common.{◌≡◌, refl, sym, ap, subst, ◌∙◌, ⊎_elim, ℕ, nat_eq, true, false, List, [], ◌∷◌, Option, Some, None, is_some, ◌&&◌, filter_map}
use Rattle.vt_spec.proofs.Common.{HasLivingGroups, Lives, Location, Mount, MountInvariants, TaskName, World, all_from_among, among-from_filter_map, among_from_list_all, any_from_among, any_pair, cons_option, has_master, has_members, has_no_master, is_member_of, is_nowhere_or_attached, list_all_from_among, list_any, members, none_among, none_from_among, or_from, or_parts, part_of, same_location, same_option, share_a_mount_point}
use Rattle.vt_laws_members.proofs.Common.{Hears, IsSealed, Living, keep, kept_how, own_member}
use Rattle.vt_laws_members.proofs.judging.Common.{part_one_number, part_stands}
use Rattle.vt_laws_members.proofs.changes.letting_go.Heard.{above_heard, apart, heard_by_own, master_same, own_in_part, part_source}

module _ (world : World ℕ) (names : List TaskName) where
  abbrev kept : Mount ℕ → Option (Mount ℕ)
  kept = keep world names (members world names)

  -- what is kept has no mount points in common that the mounts had not
  share_less : (x y u z : Mount ℕ) → kept x ≡ Some y → kept u ≡ Some z → share_a_mount_point nat_eq x u ≡ false
      → share_a_mount_point nat_eq y z ≡ false
  share_less x y u z e f apart_so = ⊎_elim (λ same. ⊎_elim (λ too. cc) (λ stub. cc (stub.0, none y.mount_point))
      (kept_how world names (members world names) u z f)) (λ stub. cc stub.0) (kept_how world names _ x y e)
    where
      none : (o : Option (Location ℕ)) → (is_some o && same_option (same_location nat_eq) o None) ≡ false
      none None = refl
      none (Some l) = refl

  one_child_kept : (list : List (Mount ℕ)) → any_pair (share_a_mount_point nat_eq) list ≡ false
      → any_pair (share_a_mount_point nat_eq) (filter_map kept list) ≡ false
  one_child_kept [] e = refl
  one_child_kept (x ∷ rest) e =
      let parts = or_parts _ (any_pair (share_a_mount_point nat_eq) rest) e in
      by (kept x) refl parts.0 (one_child_kept rest parts.1)
    where
      by : (o : Option (Mount ℕ)) → kept x ≡ o → list_any (share_a_mount_point nat_eq x) rest ≡ false
          → any_pair (share_a_mount_point nat_eq) (filter_map kept rest) ≡ false
          → any_pair (share_a_mount_point nat_eq) (cons_option o (filter_map kept rest)) ≡ false
      by None f none later = later
      by (Some y) f none later = or_from _ (any_pair (share_a_mount_point nat_eq) (filter_map kept rest))
          (none_from_among (share_a_mount_point nat_eq y) (filter_map kept rest) (λ z m.
          let from = among-from_filter_map kept rest z m in
          share_less x y from.0 z f from.2 (none_among (share_a_mount_point nat_eq x) rest none from.0 from.1))) later

module _ {world : World ℕ} {names : List TaskName} (sealing : IsSealed world names) where
  abbrev part : World ℕ
  part = part_of nat_eq world names

  -- a group that is heard has members in the part, and lives there
  in_it : (g : ℕ) → Hears world names sealing.is.mounts (apart sealing).events g
      → Living world names sealing.is.mounts (apart sealing).events g
      → has_members nat_eq part.mounts g ≡ true
  in_it g heard lives =
      let own = own_member world names sealing.is.mounts (apart sealing).events g heard lives in
      any_from_among (is_member_of nat_eq g) part.mounts own.0 (own_in_part sealing own.0 own.1) own.2

  lives_there : (g : ℕ) → Hears world names sealing.is.mounts (apart sealing).events g
      → Living world names sealing.is.mounts (apart sealing).events g
      → Lives (has_members nat_eq part.mounts) part.master g
  lives_there g heard (has_no_master it members_are none) =
      has_no_master it (in_it it heard (has_no_master it members_are none))
      (master_same sealing it (heard, has_no_master it members_are none) ∙ none)
  lives_there g heard (has_master it above members_are e later) =
      has_master it above (in_it it heard (has_master it above members_are e later))
      (master_same sealing it (heard, has_master it above members_are e later) ∙ e)
      (lives_there above (above_heard sealing above it e (heard, has_master it above members_are e later)).0 later)

  pub part_mounts : MountInvariants nat_eq part
  part_mounts = record {
    one_number = part_one_number world names sealing.is;
    one_child = one_child_kept world names world.mounts sealing.is.mounts.one_child;
    standing = part_stands world names sealing.is;
    nowhere = list_all_from_among is_nowhere_or_attached part.mounts (λ y m.
        let from = among-from_filter_map (keep world names (members world names)) world.mounts y m in
        ⊎_elim (λ same. subst (λ k. is_nowhere_or_attached k ≡ true) same
        (among_from_list_all is_nowhere_or_attached world.mounts sealing.is.mounts.nowhere from.0 from.1))
        (λ stub. ap (λ (k : Mount ℕ). is_nowhere_or_attached k) (sym stub.0))
        (kept_how world names (members world names) from.0 y from.2));
    groups = all_from_among (HasLivingGroups nat_eq part) part.mounts (λ y m g e.
        let heard = heard_by_own sealing y (part_source sealing y m g e) g e in
        lives_there g heard.0 heard.1);
  }
