-- The opening world, as code makes it.
use Rattle.std.specs.Prelude.{List, [], ℕ, ◌∷◌}
use Rattle.vt_spec.specs.Lists.{Fresh}
use Rattle.vt_laws_mounts.specs.Counts.Using.{one_counted}
use Rattle.vt_fs.specs.FilesystemsValue.{Shown}
use Rattle.vt_location.specs.Numbers.{inode_number}
use Rattle.vt_laws_trees.specs.Runs.Handed.{handed_from}

-- its numbers: the first three counts for the mount, the namespace and the filesystem, and the first slot for the root
abbrev pub opening_numbers : Fresh ℕ
opening_numbers = handed_from 0 3 (inode_number 2 0)

-- one filesystem with an empty root directory, shown by one mount; the directory counts itself, the root of the mount,
-- and the root and the working directory of the task
abbrev pub first_shown : ℕ → List Shown
first_shown count = record { count = count; inodes = one_counted (inode_number count 0) 4; mounts = 1 } ∷ []
