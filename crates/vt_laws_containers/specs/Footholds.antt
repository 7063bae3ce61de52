-- What a call of a task of a sealed set leaves to other tasks (profile).
use Rattle.std.specs.Prelude.{Contains, List, false, nat_eq, true, ℕ, ◌≡◌}
use Rattle.vt_spec.specs.Language.Calls.{Call, TaskName}
use Rattle.vt_spec.specs.Lists.{Fresh, is_among}
use Rattle.vt_spec.specs.Machine.Policy.{policy}
use Rattle.vt_spec.specs.Machine.Sealed.{holds_all_tasks, no_outsider_on_mounts, shares_no_events, used_alone, used_filesystems}
use Rattle.vt_spec.specs.Machine.World.{World}
use Rattle.vt_laws_members.specs.Changes.Changes.{grown}

-- In the later world a set has its namespaces and mounts for itself. Of the filesystems that it uses, others have
-- footholds where they had some in the world before, if the first set used the filesystem, and else none.
pub record LeavesOthersOut (world later : World ℕ) (names set : List TaskName) : Type 0 where
  pub tasks : holds_all_tasks nat_eq later set ≡ true
  pub events : shares_no_events nat_eq later set ≡ true
  pub locations : no_outsider_on_mounts nat_eq later set ≡ true
  pub as_before : (filesystem : ℕ) → Contains (used_filesystems nat_eq later set) filesystem
      → is_among nat_eq filesystem (used_filesystems nat_eq world names) ≡ true
      → used_alone nat_eq later set filesystem ≡ used_alone nat_eq world names filesystem
  pub none_on_new : (filesystem : ℕ) → Contains (used_filesystems nat_eq later set) filesystem
      → is_among nat_eq filesystem (used_filesystems nat_eq world names) ≡ false
      → used_alone nat_eq later set filesystem ≡ true

-- So a call of theirs leaves the set that it leaves.
abbrev pub GivesNoFoothold : World ℕ → List TaskName → TaskName → Call → Fresh ℕ → Type 0
GivesNoFoothold world names name call fresh =
    LeavesOthersOut world (policy nat_eq fresh world name call).world names
    (grown names name call (policy nat_eq fresh world name call).answer)
