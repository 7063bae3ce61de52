-- Where a mount of theirs has other flags, and nothing goes: the world that a call leaves, and its part.
use Rattle.std.proofs.Common.{◌≡◌, sym, ap, ◌∙◌, ℕ, nat_eq, Bool, true, false, cond, List, [], map}
use Rattle.vt_spec.proofs.Common.{Among, Mount, MountFlags, Task, TaskName, World, among-filter, among-from_map, is_own_mount, master_above, members, numbers_raised, own_mounts, part_of, replaced_if_same, with_mounts}
use Rattle.vt_laws_sealed.proofs.part.part.FlagsInPart.{part_with_flags}
use Rattle.vt_laws_members.proofs.Common.{IsSealed, is_own, same_members}
use Rattle.vt_laws_members.proofs.attached.RaisedAlike.{above_in_part, parts_left}
use Rattle.vt_laws_members.proofs.changes.Common.{own_in_part, part_mounts}
use Rattle.vt_laws_members.proofs.changes.part.PartAgain.{part_again}

module _ {world : World ℕ} {names : List TaskName} (sealing : IsSealed world names) (old : Mount ℕ)
    (there : Among old world.mounts)
    (own : is_own world names (members world names) old ≡ true) (flags : MountFlags) where
  abbrev part : World ℕ
  part = part_of nat_eq world names

  abbrev theirs : List (Task ℕ)
  theirs = members world names

  abbrev owns : List (Mount ℕ)
  owns = own_mounts nat_eq world names

  abbrev new : Mount ℕ
  new = record old { flags = flags }

  abbrev set : Mount ℕ → Mount ℕ
  set = replaced_if_same nat_eq new

  -- the worlds in which it has these flags
  abbrev pub later : World ℕ
  later = with_mounts world (map set world.mounts)

  abbrev pub later_part : World ℕ
  later_part = with_mounts part (map set part.mounts)

  mine : (m : Mount ℕ) → Among m world.mounts → is_own world names theirs m ≡ true → Among m owns
  mine m n its = among-filter (is_own_mount nat_eq world names) world.mounts m n its

  part_of_later : part_of nat_eq later names ≡ later_part
  part_of_later = part_with_flags world names sealing.is.mounts.one_number old there own flags

  part_of_later_part : part_of nat_eq later_part names ≡ later_part
  part_of_later_part = part_with_flags part names (part_mounts sealing).one_number old
      (own_in_part sealing old (mine old there own)) (ap (λ tasks. is_own world names tasks old)
      (same_members world names) ∙ own) flags ∙ ap (λ (w : World ℕ). with_mounts w (map set w.mounts))
      (part_again world names sealing.is)

  masters : (y : Mount ℕ) → Among y later.mounts → is_own world names theirs y ≡ true
      → master_above later_part y ≡ master_above later y
  masters y m its =
      let from = among-from_map set world.mounts y m in
      rw from.2 (by from.0 from.1 (nat_eq new.number from.0.number) (ap (is_own world names theirs) (sym from.2) ∙ its))
    where
      by : (k : Mount ℕ) → Among k world.mounts → (b : Bool) → is_own world names theirs (cond b new k) ≡ true
          → master_above part (cond b new k) ≡ master_above world (cond b new k)
      by k n true e = above_in_part sealing old (mine old there own)
      by k n false e = above_in_part sealing k (mine k n e)

  pub flags_left : (name : TaskName) → part_of nat_eq (numbers_raised nat_eq world name [] later) names
      ≡ part_of nat_eq (numbers_raised nat_eq part name [] later_part) names
  flags_left = parts_left sealing later.mounts later_part.mounts world.master part.master
      world.filesystems part.filesystems (part_of_later_part ∙ sym part_of_later) masters
