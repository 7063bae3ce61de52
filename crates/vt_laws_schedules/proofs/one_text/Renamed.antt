-- States that are the same stay the same when their numbers are renamed, and a renamed state has its turns renamed.
use Rattle.std.proofs.Common.{◌≡◌, refl, sym, ap, ◌∙◌, ⊎_elim, ℕ, nat_eq, true, List, [], ◌∷◌, ◌||◌, Some, map, true≢false}
use Rattle.vt_spec.proofs.Common.{Among, Filesystem, IsWorld, Mount, Sched, Task, Turned, World, among-from_filter, among-map, any_among, any_from_among, holds_of, is_among, list_any, mount_numbered, mounts_of, eqb_tells, or_cases, renamed, renamed_filesystem, renamed_mount, renamed_namespace, renamed_task, task_called, turn}
use Rattle.vt_laws_rules.proofs.numbers.Commuting.{commutes_nat, stay_apart}
use Rattle.vt_laws_rules.proofs.numbers.Renamings.{HandedTurn, named_turn, named_turned}
use Rattle.vt_laws_rules.specs.Numbers.{TurnsDoNotSeeNumbers, renamed_progress, renamed_sched}
use Rattle.vt_laws_rules.specs.Renaming.{Renaming}
use Rattle.vt_laws_trees.proofs.runs.answered.AlikeRenamed.{same_renamed}
use Rattle.vt_laws_turns.proofs.Common.{found_there, own_directory_found, root_found}
use Rattle.vt_laws_turns.specs.Dated.{SameDated}
use Rattle.vt_laws_turns.specs.Holds.Held.{is_seen_by}
use Rattle.vt_laws_turns.specs.SameStates.{SameSched}

pub turns_renamed : TurnsDoNotSeeNumbers
turns_renamed renaming fresh sched who = commutes_nat HandedTurn Turned named_turn named_turned
    (λ A eq handed. turn eq handed.1 who handed.0) renaming (fresh, sched)

module _ (renaming : Renaming ℕ ℕ) where
  changes_renamed : (list : List (Filesystem ℕ))
      → map (λ (f : Filesystem ℕ). f.change) (map (renamed_filesystem renaming.there renaming.back) list)
      ≡ map (λ (f : Filesystem ℕ). f.change) list
  changes_renamed [] = refl
  changes_renamed (f ∷ rest) = λ i. f.change ∷ changes_renamed rest i

  pub dated_renamed : (one other : World ℕ) → SameDated one other
      → SameDated (renamed renaming.there renaming.back one) (renamed renaming.there renaming.back other)
  dated_renamed one other same = record {
    same = same_renamed renaming one other same.same;
    tasks = ap (map (renamed_task renaming.there renaming.back)) same.tasks;
    namespaces = ap (map (renamed_namespace renaming.there renaming.back)) same.namespaces;
    filesystems = changes_renamed one.filesystems ∙ same.filesystems ∙ sym (changes_renamed other.filesystems);
    change = same.change;
  }

  pub sched_renamed : (one other : Sched ℕ) → SameSched one other
      → SameSched (renamed_sched renaming.there renaming.back one) (renamed_sched renaming.there renaming.back other)
  sched_renamed one other same = record {
    world = dated_renamed one.world other.world same.world;
    queues = same.queues;
    under_way = ap (map (renamed_progress renaming.there renaming.back)) same.under_way;
  }

-- What a task sees is shown by a mount.

abbrev pub shown_by : World ℕ → List ℕ
shown_by world = map (λ (m : Mount ℕ). m.filesystem) world.mounts

module _ (world : World ℕ) (is : IsWorld nat_eq world) where
  of_mount : (m : Mount ℕ) → Among m world.mounts → (f : ℕ) → nat_eq f m.filesystem ≡ true
      → is_among nat_eq f (shown_by world) ≡ true
  of_mount m among f e = any_from_among (nat_eq f) (shown_by world) m.filesystem
      (among-map (λ (one : Mount ℕ). one.filesystem) world.mounts m among) e

  pub seen_is_shown : (task : Task ℕ) → task_called world task.name ≡ Some task → (f : ℕ)
      → is_seen_by world task f ≡ true → is_among nat_eq f (shown_by world) ≡ true
  seen_is_shown task called f seen = ⊎_elim (λ first. ⊎_elim of_namespace of_root (or_cases _ _ first)) of_directory
      (or_cases _ _ seen)
    where
      of_namespace : list_any (λ mount. nat_eq f mount.filesystem) (mounts_of nat_eq world task.namespace) ≡ true
          → is_among nat_eq f (shown_by world) ≡ true
      of_namespace some =
          let found = any_among (λ (m : Mount ℕ). nat_eq f m.filesystem) (mounts_of nat_eq world task.namespace) some in
          of_mount found.0 (among-from_filter (λ (m : Mount ℕ). holds_of (nat_eq task.namespace) m.namespace) world.mounts
          found.0 found.1).0 f found.2

      of_root : nat_eq f (mount_numbered nat_eq world task.root.mount).filesystem ≡ true
          → is_among nat_eq f (shown_by world) ≡ true
      of_root e = of_mount (mount_numbered nat_eq world task.root.mount)
          (found_there world.mounts task.root.mount (root_found world is task called).0.0) f e

      of_directory : nat_eq f (mount_numbered nat_eq world task.directory.mount).filesystem ≡ true
          → is_among nat_eq f (shown_by world) ≡ true
      of_directory e = of_mount (mount_numbered nat_eq world task.directory.mount)
          (found_there world.mounts task.directory.mount (own_directory_found world is task called).0.0) f e

-- the filesystems that a renamed world shows
pub shown_renamed : (renaming : Renaming ℕ ℕ) (mounts : List (Mount ℕ))
    → map (λ (m : Mount ℕ). m.filesystem) (map (renamed_mount renaming.there renaming.back) mounts)
    ≡ map (λ (m : Mount ℕ). renaming.there m.filesystem) mounts
shown_renamed renaming [] = refl
shown_renamed renaming (m ∷ rest) = λ i. renaming.there m.filesystem ∷ shown_renamed renaming rest i

-- Two renamings that rename a list alike rename alike what is renamed into the list.
pub alike_in : {A : Type 0} (one other : Renaming ℕ ℕ) (number_of : A → ℕ) (list : List A)
    → map (λ a. one.there (number_of a)) list ≡ map (λ a. other.there (number_of a)) list
    → (k : ℕ) → is_among nat_eq (other.there k) (map (λ a. other.there (number_of a)) list) ≡ true
    → one.there k ≡ other.there k
alike_in one other number_of [] same k among = absurd (true≢false (sym among))
alike_in one other number_of (a ∷ rest) same k among =
    let here : one.there (number_of a) ≡ other.there (number_of a) = cc in
    let later : map (λ a. one.there (number_of a)) rest ≡ map (λ a. other.there (number_of a)) rest = cc in
    ⊎_elim (λ t. let it : k ≡ number_of a = stay_apart other k (number_of a) t.1 in cc)
    (λ t. alike_in one other number_of rest later k
    (sym (ap (λ b. b || is_among nat_eq (other.there k) (map (λ a. other.there (number_of a)) rest)) t.0) ∙ among))
    (eqb_tells (other.there k) (other.there (number_of a)))
