-- What settling and raising leave of inodes: each is as it was, or gone.
use Rattle.std.proofs.Common.{arith, ◌≡◌, refl, sym, subst, true≢false, ℕ, nat_eq, eqb-true, Bool, true, false, cond, ◌||◌, List, [], ◌∷◌, map, filter, find, Option, Some, None, unwrap_or, Ok, Err, ok_or}
use Rattle.vt_spec.proofs.Common.{Call, Filesystem, Fresh, Judgement, Node, Permit, Task, TaskName, World, after, apply, common_steps, denial, denied, filesystem_lives, filesystems_changed_by, filesystems_raised, finished, finished_unless, is_overlay, judge_in, no_filesystem, number-only_used, only_looks, only_used, only_used_by, policy, settled, task_called, used_in, without_dead_filesystems, without_dead_in, without_dead_mounts}
use Rattle.vt_laws_rules.proofs.judged.CallsJudged.{policy_judges_then_applies}
use Rattle.vt_spec.specs.declared.errors.Rule.TheVariants.{S2}
use Rattle.vt_laws_trees.proofs.trees.TreesOfWorlds.{numbered}

abbrev pub Inode : Type 0
Inode = Option (Node ℕ)

module _ (Q : Inode → Type 0) (number inode : ℕ) where
  -- what holds of an inode in a list of filesystems
  abbrev pub HoldsIn : List (Filesystem ℕ) → Type 0
  HoldsIn list = Q ((numbered number list).files.tree.node inode)

  -- a change of each filesystem that keeps its number, and its inodes where it keeps any
  mapped : (change : Filesystem ℕ → Filesystem ℕ) → ((filesystem : Filesystem ℕ)
      → (change filesystem).number ≡ filesystem.number)
      → ((filesystem : Filesystem ℕ) → Q (filesystem.files.tree.node inode)
      → Q ((change filesystem).files.tree.node inode))
      → (list : List (Filesystem ℕ)) → HoldsIn list → HoldsIn (map change list)
  mapped change keeps holds [] h = h
  mapped change keeps holds (first ∷ rest) h = grind (arith, common_steps, mapped change keeps holds rest)

  -- raising
  pub raised_holds : (changed : List ℕ) (world : World ℕ) → HoldsIn world.filesystems
      → HoldsIn (filesystems_raised nat_eq changed world).filesystems
  raised_holds changed world h = grind (arith, common_steps, mapped)

  -- what holds where it is gone
  module _ (gone : Q None) where
    -- filesystems that go: whether one does goes by its number
    filtered : (lives : ℕ → Bool) (list : List (Filesystem ℕ)) → HoldsIn list
        → HoldsIn (filter (λ filesystem. lives filesystem.number) list)
    filtered lives [] h = h
    filtered lives (first ∷ rest) h = by (lives first.number) refl _ refl h (filtered lives rest)
      where
        stay : List (Filesystem ℕ)
        stay = filter (λ filesystem. lives filesystem.number) rest

        found : (b : Bool) → Filesystem ℕ → List (Filesystem ℕ) → Filesystem ℕ
        found b one others = unwrap_or (cond b (Some one) (find (λ filesystem. nat_eq number filesystem.number) others))
            (no_filesystem number)

        by : (b : Bool) → lives first.number ≡ b → (c : Bool) → nat_eq number first.number ≡ c
            → Q ((found c first rest).files.tree.node inode) → (HoldsIn rest → HoldsIn stay)
            → HoldsIn (cond b (first ∷ stay) stay)
        by true e true f h later = subst (λ c. Q ((found c first stay).files.tree.node inode)) (sym f) h
        by true e false f h later = subst (λ c. Q ((found c first stay).files.tree.node inode)) (sym f) (later h)
        by false e false f h later = later h
        by false e true f h later = none rest
          where
            dead : lives number ≡ false
            dead = cc (eqb-true number first.number f)

            none : (list : List (Filesystem ℕ)) → HoldsIn (filter (λ filesystem. lives filesystem.number) list)
            none [] = gone
            none (one ∷ others) = grind (arith, common_steps, true≢false, eqb-true, dead, none others)

    used_by_holds : (whole : Bool) (used : List ℕ) (filesystem : Filesystem ℕ) → Q (filesystem.files.tree.node inode)
        → Q ((only_used_by nat_eq whole used filesystem).files.tree.node inode)
    used_by_holds whole used filesystem h = grind (arith, common_steps)

    used_holds : (world : World ℕ) (chosen : Bool) (filesystem : Filesystem ℕ) → Q (filesystem.files.tree.node inode)
        → Q ((only_used nat_eq world chosen filesystem).files.tree.node inode)
    used_holds world true filesystem h = used_by_holds _ (used_in nat_eq world filesystem) filesystem h
    used_holds world false filesystem h = h

    dead_in_holds : (chosen : Filesystem ℕ → Bool) (world : World ℕ) → HoldsIn world.filesystems
        → HoldsIn (without_dead_in nat_eq chosen world).filesystems
    dead_in_holds chosen world h = mapped (λ filesystem. only_used nat_eq world (chosen filesystem) filesystem)
        (λ filesystem. number-only_used world (chosen filesystem) filesystem)
        (λ filesystem. used_holds world (chosen filesystem) filesystem) world.filesystems h

    -- settling
    pub settled_holds : (world : World ℕ) → HoldsIn world.filesystems → HoldsIn (settled nat_eq world).filesystems
    settled_holds world h = dead_in_holds _ (without_dead_in nat_eq is_overlay living) (dead_in_holds is_overlay
        living (filtered (λ n. filesystem_lives nat_eq mounted (no_filesystem n)) world.filesystems h))
      where
        mounted : World ℕ
        mounted = without_dead_mounts nat_eq world

        living : World ℕ
        living = without_dead_filesystems nat_eq mounted

    module _ (fresh : Fresh ℕ) (world : World ℕ) (name : TaskName) (call : Call) where
      -- What holds of the inode where nothing happens, and of what each granted permit leaves of it, holds of what the
      -- call leaves.
      pub inode_after_call : HoldsIn world.filesystems
          → ((task : Task ℕ) (permit : Permit ℕ) → task_called world name ≡ Some task
          → judge_in nat_eq fresh world task call ≡ Ok permit
          → HoldsIn (apply nat_eq fresh world task permit).world.filesystems)
          → HoldsIn (policy nat_eq fresh world name call).world.filesystems
      inode_after_call same done =
          subst (λ outcome. HoldsIn outcome.world.filesystems) (sym (policy_judges_then_applies fresh world name call))
          (by_task (task_called world name) refl)
        where
          by_permit : (changed : List ℕ) (task : Task ℕ) → task_called world name ≡ Some task
              → (judgement : Judgement ℕ) → judge_in nat_eq fresh world task call ≡ judgement
              → HoldsIn (finished nat_eq world name call changed
              (after world judgement (apply nat_eq fresh world task))).world.filesystems
          by_permit changed task is (Ok permit) judged = by_looks _
            where
              left : HoldsIn (apply nat_eq fresh world task permit).world.filesystems
              left = done task permit is judged

              by_looks : (b : Bool) → HoldsIn (finished_unless nat_eq b world name changed
                  (apply nat_eq fresh world task permit)).world.filesystems
              by_looks true = left
              by_looks false = raised_holds changed (settled nat_eq (apply nat_eq fresh world task permit).world)
                  (settled_holds (apply nat_eq fresh world task permit).world left)
          by_permit changed task is (Err deny) judged = by_looks (only_looks call)
            where
              by_looks : (b : Bool)
                  → HoldsIn (finished_unless nat_eq (b || true) world name changed (denied world deny)).world.filesystems
              by_looks true = same
              by_looks false = same

          by_task : (o : Option (Task ℕ)) → task_called world name ≡ o
              → HoldsIn (after world (ok_or o (denial S2)) (λ task.
              finished nat_eq world name call
              (filesystems_changed_by nat_eq world (judge_in nat_eq fresh world task call))
              (after world (judge_in nat_eq fresh world task call) (apply nat_eq fresh world task)))).world.filesystems
          by_task None is = same
          by_task (Some task) is = by_permit _ task is (judge_in nat_eq fresh world task call) refl
