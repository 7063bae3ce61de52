-- Where mounts of theirs go, and one plain tree that they use alone is another one, the part is what is left of the
-- part.
use Rattle.std.proofs.Common.{◌≡◌, ⊎_elim, ℕ, nat_eq, true, List, [], ◌∷◌}
use Rattle.vt_spec.proofs.Common.{FileTree, Filesystem, Location, MountInvariants, TaskName, World, filesystem_at, is_among, mount_at, numbers_raised, part_of, settled, taken_away, used_alone, used_filesystems}
use Rattle.vt_laws_members.proofs.Common.{with_filesystems}
use Rattle.vt_laws_members.proofs.changes.Common.{TheirsGo, old_number, one_in_part, one_in_world, part_after, swap, world_after}
use Rattle.vt_laws_members.proofs.detached.removals.WithTree.{changes_theirs}
use Rattle.vt_laws_members.proofs.overlay_names.names.Detaching.{alone_here, alone_there, detached_and_changed}

module _ {world : World ℕ} {names : List TaskName} {gone : List ℕ} (go : TheirsGo world names gone)
    (kept_world : MountInvariants nat_eq (taken_away nat_eq world gone))
    (kept_part : MountInvariants nat_eq (taken_away nat_eq (part_of nat_eq world names) gone)) (location : Location ℕ)
    (used : is_among nat_eq (mount_at nat_eq world location).filesystem (used_filesystems nat_eq world names) ≡ true)
    (alone : used_alone nat_eq world names (mount_at nat_eq world location).filesystem ≡ true)
    (still : is_among nat_eq (mount_at nat_eq world location).filesystem
    (used_filesystems nat_eq (world_after go) names) ≡ true)
    (files : FileTree ℕ) where
  abbrev part : World ℕ
  part = part_of nat_eq world names

  abbrev number : ℕ
  number = (mount_at nat_eq world location).filesystem

  abbrev old : Filesystem ℕ
  old = filesystem_at nat_eq world location

  abbrev here : World ℕ
  here = world_after go

  abbrev there : World ℕ
  there = part_after go

  abbrev used_now : List ℕ
  used_now = used_filesystems nat_eq here names

  is_old : old.number ≡ number
  is_old = old_number world names go.is number used

  old_still : is_among nat_eq old.number used_now ≡ true
  old_still = cc is_old

  pub changed_parts : (name : TaskName) → part_of nat_eq (numbers_raised nat_eq world name (old.number ∷ [])
      (settled nat_eq (with_filesystems here (swap old files)))) names ≡ part_of nat_eq (numbers_raised nat_eq part name
      (old.number ∷ []) (settled nat_eq (with_filesystems there (swap old files)))) names
  changed_parts name =
      detached_and_changed go kept_world kept_part (swap old files) (changes_theirs used_now old files
      (one_in_world world names go.is number used) (alone_here go kept_world kept_part old.number (cc is_old))
      old_still) (changes_theirs used_now old files (one_in_part world names go.is number used)
      (alone_there go kept_world kept_part old.number) old_still) name (old.number ∷ [])
      (λ n m. ⊎_elim (λ e. cc old_still) (λ none. absurd none) m)
