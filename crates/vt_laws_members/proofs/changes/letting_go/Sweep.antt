-- What nothing uses goes, and what a set of tasks sees of that is made from its part alone.
use Rattle.std.proofs.Common.{arith, ◌≡◌, refl, sym, subst, ℕ, nat_eq, Bool, false, cond, List, None, not}
use Rattle.vt_spec.proofs.Common.{Filesystem, Layer, TaskName, World, among-from_filter, any_among, any_from_among, common_steps, has_members, is_member_of, is_overlay, list_any, own_mounts, part_of, settled, used_filesystems, without_dead_filesystems, without_dead_groups, without_dead_in, without_dead_inodes, without_dead_mounts}
use Rattle.vt_laws_members.proofs.Common.{OneNumberEach, dead_mounts_are_in_no_part}
use Rattle.vt_laws_members.proofs.changes.letting_go.Gone.{living_mounted, living_part, living_ready}
use Rattle.vt_laws_members.proofs.changes.letting_go.Ready.{OverlaysMounted, Ready, part_numbers}
use Rattle.vt_laws_members.proofs.changes.letting_go.SweptPart.{part_of_swept, swept_mounted, swept_part, swept_ready, used_swept}

-- groups that end are not theirs
groups_part : (b : World ℕ) (set : List TaskName)
    → part_of nat_eq (without_dead_groups nat_eq b) set ≡ part_of nat_eq b set
groups_part b set = λ i. record (part_of nat_eq b set) {
  master = λ group. same group (list_any (is_member_of nat_eq group) (own_mounts nat_eq b set)) refl i;
}
  where
    same : (group : ℕ) (p : Bool) → list_any (is_member_of nat_eq group) (own_mounts nat_eq b set) ≡ p
        → cond (list_any (is_member_of nat_eq group) (own_mounts nat_eq b set))
        (cond (has_members nat_eq b.mounts group) (b.master group) None) None
        ≡ cond (list_any (is_member_of nat_eq group) (own_mounts nat_eq b set)) (b.master group) None
    same group p e = grind (arith, common_steps, any_among, among-from_filter, any_from_among)

-- the sweep of the part
abbrev pub swept_of : List TaskName → World ℕ → World ℕ
swept_of set part = swept_part set (λ (x : Filesystem ℕ). not (is_overlay x)) (swept_part set is_overlay part)

module _ (v : World ℕ) (set : List TaskName) (used : List ℕ) (lowers : List (Layer ℕ))
    (it : Ready (without_dead_mounts nat_eq v) set used lowers) where
  abbrev living : World ℕ
  living = without_dead_mounts nat_eq v

  abbrev left : World ℕ
  left = without_dead_filesystems nat_eq living

  abbrev merged : World ℕ
  merged = without_dead_in nat_eq is_overlay left

  abbrev is_plain : Filesystem ℕ → Bool
  is_plain x = not (is_overlay x)

  one_in_part : OneNumberEach (part_of nat_eq living set)
  one_in_part = part_numbers living set it.one

  left_ready : Ready left set used lowers
  left_ready = living_ready living set used lowers it

  left_mounted : OverlaysMounted left set
  left_mounted = living_mounted living set used lowers it

  left_part : part_of nat_eq left set ≡ part_of nat_eq living set
  left_part = living_part living set used lowers it

  one_left : OneNumberEach (part_of nat_eq left set)
  one_left = subst OneNumberEach (sym left_part) one_in_part

  merged_part : part_of nat_eq merged set ≡ swept_part set is_overlay (part_of nat_eq left set)
  merged_part = part_of_swept left_ready one_left left_mounted is_overlay

  one_merged : OneNumberEach (part_of nat_eq merged set)
  one_merged = subst OneNumberEach (sym merged_part) one_left

  plains : (x : Filesystem ℕ) → x.overlay ≡ None → is_overlay x ≡ false
  plains x e = cc

  plain_part : part_of nat_eq (without_dead_inodes nat_eq left) set
      ≡ swept_part set is_plain (part_of nat_eq merged set)
  plain_part = part_of_swept
      (swept_ready left_ready one_left left_mounted is_overlay plains) one_merged
      (swept_mounted left_ready one_left left_mounted is_overlay plains) is_plain

  -- what they use stays
  pub used_of_settled : used_filesystems nat_eq (settled nat_eq v) set ≡ used
  used_of_settled = used_swept
      (swept_ready left_ready one_left left_mounted is_overlay plains) one_merged
      (swept_mounted left_ready one_left left_mounted is_overlay plains) is_plain

  pub part_of_settled : part_of nat_eq (settled nat_eq v) set ≡ swept_of set (part_of nat_eq v set)
  part_of_settled = cc (
    groups_part (without_dead_inodes nat_eq left) set,
    plain_part,
    merged_part,
    left_part,
    dead_mounts_are_in_no_part v set,
  )
