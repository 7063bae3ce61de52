-- Where the tree of a filesystem of theirs changes, and nothing goes: the world that a call leaves, and its part.
use Rattle.std.proofs.Common.{arith, ◌≡◌, refl, ap, ℕ, nat_eq, eqb-true, Bool, true, false, true≢false, List, [], ◌∷◌, filter, map}
use Rattle.vt_spec.proofs.Common.{Among, FileTree, Filesystem, Task, TaskName, World, common_steps, is_among, is_member_task, locations_of, map_twice, numbers_raised, part_of, raised, raised_if_changed, raised_task, replaced_if_numbered, settled, used_filesystems, with_files}
use Rattle.vt_laws_members.proofs.Common.{AllInUse, nothing_goes, with_filesystems}
use Rattle.vt_laws_members.proofs.changes.files.FilesChanged.{part_with_files}
use Rattle.vt_laws_members.proofs.changes.tasks.RaisedTasks.{tasks_raised}
use Rattle.vt_laws_members.proofs.changes.tasks.Retasked.{retasked}
use Rattle.vt_laws_members.proofs.changes.tasks.Rights.{raised_is, sees_alike}

module _ (old : Filesystem ℕ) (files : FileTree ℕ) where
  abbrev pub swap : Filesystem ℕ → Filesystem ℕ
  swap = replaced_if_numbered nat_eq (with_files old files)

  -- with its change number raised
  abbrev pub both : Filesystem ℕ → Filesystem ℕ
  both x = raised_if_changed nat_eq (old.number ∷ []) (swap x)

  raised_numbered : (x : Filesystem ℕ) → (raised_if_changed nat_eq (old.number ∷ []) x).number ≡ x.number
  raised_numbered x = grind (arith, common_steps)

  raised_overlaid : (x : Filesystem ℕ) → (raised_if_changed nat_eq (old.number ∷ []) x).overlay ≡ x.overlay
  raised_overlaid x = grind (arith, common_steps)

  pub both_numbered : (x : Filesystem ℕ) → (both x).number ≡ x.number
  both_numbered x = grind (arith, common_steps, raised_numbered, eqb-true)

  pub both_overlaid : (x : Filesystem ℕ) → (nat_eq old.number x.number ≡ true → x ≡ old) → (both x).overlay ≡ x.overlay
  both_overlaid x one = grind (arith, common_steps, raised_overlaid)

  pub both_kept : (x : Filesystem ℕ) → nat_eq old.number x.number ≡ false → both x ≡ x
  both_kept x e = cc

  module _ (world : World ℕ) (name : TaskName) where
    -- what the call leaves
    abbrev pub left : World ℕ
    left = record world {
      filesystems = map both world.filesystems;
      tasks = map (raised_task name) world.tasks;
      change = raised world.change;
    }

    pub left_so : AllInUse (with_filesystems world swap)
        → numbers_raised nat_eq world name (old.number ∷ []) (settled nat_eq (with_filesystems world swap)) ≡ left
    left_so in_use = cc (nothing_goes (with_filesystems world swap) in_use, numbers_so)
      where
        numbers_so : numbers_raised nat_eq world name (old.number ∷ []) (with_filesystems world swap) ≡ left
        numbers_so i = record {
          mounts = world.mounts;
          master = world.master;
          filesystems = map_twice (raised_if_changed nat_eq (old.number ∷ [])) swap world.filesystems i;
          namespaces = ap (λ (w : World ℕ). w.namespaces) (tasks_raised world name world.tasks) i;
          tasks = map (raised_task name) world.tasks;
          change = raised world.change;
        }

    pub part_left : (names : List TaskName) → is_among nat_eq old.number (used_filesystems nat_eq world names) ≡ true
        → ((x : Filesystem ℕ) → Among x world.filesystems → nat_eq old.number x.number ≡ true → x ≡ old)
        → part_of nat_eq left names ≡ record (with_filesystems (part_of nat_eq world names) both) {
          tasks = filter (is_member_task names) (map (raised_task name) world.tasks);
        }
    part_left names used one = cc (
      retasked later names names (map (raised_task name) world.tasks) (raised world.change) (sees_alike later
          names (raised_task name) (raised_is name (λ (t : Task ℕ). t.name) (λ t. refl)) (λ t m. raised_is name (λ
          (t : Task ℕ). t.namespace) (λ t. refl) t) (λ t m. raised_is name (λ (t : Task ℕ). t.root ∷ t.directory ∷
          []) (λ t. refl) t) (raised world.change) (λ t m. raised_is name locations_of (λ t. refl) t)),
      part_with_files world names both both_numbered (λ x m. both_overlaid x (one x m)) kept,
    )
      where
        later : World ℕ
        later = with_filesystems world both

        other : (x : Filesystem ℕ) → is_among nat_eq x.number (used_filesystems nat_eq world names) ≡ false → (b : Bool)
            → nat_eq old.number x.number ≡ b → both x ≡ x
        other x unused b e = grind (arith, common_steps, true≢false, eqb-true, both_kept)

        kept : (x : Filesystem ℕ) → is_among nat_eq x.number (used_filesystems nat_eq world names) ≡ false → both x ≡ x
        kept x unused = other x unused (nat_eq old.number x.number) refl
