-- The limits of names, files, tasks, mounts and scripts, each in one place.
use Rattle.std.specs.Prelude.{ℕ}

-- the most bytes of a path: PATH_MAX of limits.h without its final zero byte
abbrev pub longest_path : ℕ
longest_path = 4095

-- the most bytes of a name: NAME_MAX of limits.h
abbrev pub longest_name : ℕ
longest_name = 255

-- the most bytes of a file (profile; RLIMIT_FSIZE of setrlimit(2))
abbrev pub largest_file : ℕ
largest_file = 1048576

-- the most forks of a task, and so the largest number in a task's name (profile; RLIMIT_NPROC of setrlimit(2))
abbrev pub most_forks : ℕ
most_forks = 64

-- the most numbers in a task's name (profile)
abbrev pub deepest_name : ℕ
deepest_name = 8

-- the most supplementary groups of a task (profile; NGROUPS_MAX of setgroups(2))
abbrev pub most_groups : ℕ
most_groups = 32

-- open files of a task (profile; RLIMIT_NOFILE of setrlimit(2))
abbrev pub most_descriptors : ℕ
most_descriptors = 256

-- the largest number of a descriptor, one less than there may be of them (profile)
abbrev pub largest_descriptor : ℕ
largest_descriptor = 255

-- a umask is less than this: it has the nine permission bits alone: umask(2)
abbrev pub umask_bound : ℕ
umask_bound = 512

-- the most lower layers of an overlay (profile)
abbrev pub most_lowers : ℕ
most_lowers = 128

-- the most symlinks that are followed for one path: MAXSYMLINKS, path_resolution(7)
abbrev pub most_symlinks : ℕ
most_symlinks = 40

-- the most bytes of a line without its newline (profile)
abbrev pub longest_line : ℕ
longest_line = 8192

-- no namespace holds more mounts than this (profile; fs.mount-max of proc(5))
abbrev pub most_mounts : ℕ
most_mounts = 4096

-- the most restarts of one call in turns: in place of a fourth one it is run whole (profile)
abbrev pub most_restarts : ℕ
most_restarts = 3

-- the most tasks that the directive `! sealed` names (profile)
abbrev pub most_named_tasks : ℕ
most_named_tasks = 64

-- the last change number, which rises no more: 2^64 - 1 (profile)
abbrev pub largest_change : ℕ
largest_change = 18446744073709551615
