-- The groups that types of mounts name.
use Rattle.std.specs.Prelude.{Bool, option_to_list, ℕ, ◌%◌, ◌==◌}
use Rattle.std.specs.List.{list_all}
use Rattle.vt_spec.specs.Machine.Mounts.{Mount, source_of}

-- the group that a mount is in, or its master, has the number of a count
abbrev pub has_counted_source : Mount ℕ → Bool
has_counted_source mount = list_all (λ group. group % 4 == 1) (option_to_list (source_of mount.propagation))
