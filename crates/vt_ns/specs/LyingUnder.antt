-- Which directories lie under which in the code's world.
use Rattle.std.specs.Prelude.{Bool, nat_eq, ℕ}
use Rattle.vt_spec.specs.FileTree.{is_directory_under}
use Rattle.vt_spec.specs.Machine.World.{filesystem_numbered}
use Rattle.vt_world.specs.WorldValue.{WorldValue, world_of}

-- in a filesystem, a directory is this one or lies under it
abbrev pub lies_under : WorldValue → ℕ → ℕ → ℕ → Bool
lies_under value filesystem top directory =
    is_directory_under nat_eq (filesystem_numbered nat_eq (world_of value) filesystem).files top directory
