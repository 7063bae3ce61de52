-- The namespaces after a permit are those before it, or new.
use Rattle.std.proofs.Common.{◌≡◌, refl, sym, ap, subst, ◌∙◌, ◌⊎◌, inl, inr, ⊎_elim, ℕ, nat_eq, Bool, true, false, List, [], ◌∷◌, ◌++◌, ◌*◌, ◌+◌, ◌≤◌, length, length-append, Option, Some, None, filter, find, arith}
use Rattle.vt_spec.proofs.Common.{Among, Fresh, Location, Make, Move, Namespace, Permit, Remove, Task, ToChange, ToEnterNamespace, ToExit, ToMake, ToOpen, ToOpenNew, ToRemoveDirectory, ToRename, ToSetType, ToUnmount, ToUnmountLazily, ToUnshare, ToWritePart, World, among-append, among-from_filter, any_pair, apply, common_steps, evens, has_tasks, is_copied_up, odds, unshared, without_mounts_on, without_replaced, without_task}
use Rattle.vt_laws_turns.proofs.Common.{change_of_files, copy_of_files, lazy_is_of_mounts, length-filter_le, types_are_of_mounts, writing_of_files}
use Rattle.vt_laws_mounts.proofs.ends.Unmounting.{all_but_mounts, unmount_is_of_mounts}
use Rattle.vt_laws_turns.proofs.frames.Found.{found_one}

-- a namespace that is among those whose numbers are apart is found by its number
pub namespace_found : (list : List (Namespace ℕ))
    → any_pair (λ (a b : Namespace ℕ). nat_eq a.number b.number) list ≡ false → (namespace : Namespace ℕ)
    → Among namespace list → (number : ℕ) → nat_eq number namespace.number ≡ true
    → find (λ (n : Namespace ℕ). nat_eq number n.number) list ≡ Some namespace
namespace_found = found_one (λ (n : Namespace ℕ). n.number)

module _ (world : World ℕ) (fresh : Fresh ℕ) (task : Task ℕ) where
  abbrev after : Permit ℕ → World ℕ
  after permit = (apply nat_eq fresh world task permit).world

  -- a new namespace
  abbrev new_one : Namespace ℕ
  new_one = record { number = evens fresh 0; change = 0 }

  removed : (location : Location ℕ) → (without_mounts_on nat_eq world location).namespaces ≡ world.namespaces
  removed location = grind (arith, common_steps, all_but_mounts)

  replaced_same : (object : Option (Location ℕ)) → (without_replaced nat_eq world object).namespaces ≡ world.namespaces
  replaced_same None = refl
  replaced_same (Some object) = removed object

  module _ (P : List (Namespace ℕ) → Type 0) (whole : P world.namespaces)
      (some : (keeps : Namespace ℕ → Bool) → P (filter keeps world.namespaces))
      (more : (keeps : Namespace ℕ → Bool) → P (filter keeps (world.namespaces ++ (new_one ∷ [])))) where
    same : (later : List (Namespace ℕ)) → later ≡ world.namespaces → P later
    same later e = subst P (sym e) whole

    -- What holds of the namespaces, of some of them, and of some of them with a new one, holds of what a permit leaves.
    namespaces_after : (permit : Permit ℕ) → P (after permit).namespaces
    namespaces_after (ToChange location change) =
        same (after (ToChange location change)).namespaces (change_of_files fresh world location change).namespaces
    namespaces_after (ToMake directory name node) = same (after (ToMake directory name node)).namespaces
        (change_of_files (odds fresh) world directory (Make directory.node name (evens fresh 0) node)).namespaces
    namespaces_after (ToRemoveDirectory parent name directory) =
        same (after (ToRemoveDirectory parent name directory)).namespaces
        ((change_of_files fresh (without_mounts_on nat_eq world directory) parent
        (Remove parent.node name directory.node)).namespaces ∙ removed directory)
    namespaces_after (ToRename from old to new object replaced) =
        same (after (ToRename from old to new object replaced)).namespaces
        ((change_of_files fresh (without_replaced nat_eq world replaced) from
        (Move from.node old to.node new object.node)).namespaces ∙ replaced_same replaced)
    namespaces_after (ToOpen file access) = same (after (ToOpen file access)).namespaces
        (copy_of_files fresh world (is_copied_up nat_eq world file access) file).namespaces
    namespaces_after (ToOpenNew directory name node access) =
        same (after (ToOpenNew directory name node access)).namespaces
        (change_of_files (odds fresh) world directory (Make directory.node name (evens fresh 0) node)).namespaces
    namespaces_after (ToWritePart file offset bytes) = same (after (ToWritePart file offset bytes)).namespaces
        (writing_of_files fresh world file offset bytes).namespaces
    namespaces_after ToExit = some (has_tasks nat_eq (without_task world task.name))
    namespaces_after ToUnshare = more (has_tasks nat_eq (unshared nat_eq world fresh task))
    namespaces_after (ToEnterNamespace namespace) = some _
    namespaces_after (ToUnmount mount) =
        same (after (ToUnmount mount)).namespaces (unmount_is_of_mounts world mount).namespaces
    namespaces_after (ToUnmountLazily mount) =
        same (after (ToUnmountLazily mount)).namespaces (lazy_is_of_mounts world mount).namespaces
    namespaces_after (ToSetType mount word recursive) = same (after (ToSetType mount word recursive)).namespaces
        (types_are_of_mounts world fresh mount word recursive).namespaces
    namespaces_after permit = same world.namespaces refl

  -- it is one of these, or has a number that was handed in, and the change number 0
  abbrev pub IsOldOrNew : Namespace ℕ → Type 0
  IsOldOrNew namespace =
      Among namespace world.namespaces ⊎ ((namespace.number ≡ fresh (2 * 0)) × (namespace.change ≡ 0))

  abbrev pub GoOn : List (Namespace ℕ) → Type 0
  GoOn later = (namespace : Namespace ℕ) → Among namespace later → IsOldOrNew namespace

  pub namespaces_go_on : (permit : Permit ℕ) → GoOn (after permit).namespaces
  namespaces_go_on = namespaces_after GoOn (λ namespace m. inl m)
      (λ keeps namespace m. inl (among-from_filter keeps world.namespaces namespace m).0)
      (λ keeps namespace m. ⊎_elim (λ old. inl old)
      (λ last. ⊎_elim (λ e. inr (ap (λ (n : Namespace ℕ). n.number) e, ap (λ (n : Namespace ℕ). n.change) e))
      (λ none. absurd none) last)
      (among-append world.namespaces (new_one ∷ []) namespace
      (among-from_filter keeps (world.namespaces ++ (new_one ∷ [])) namespace m).0))

  -- one at most is new
  pub namespaces_few : (permit : Permit ℕ) → length (after permit).namespaces ≤ length world.namespaces + 1
  namespaces_few = namespaces_after (λ later. length later ≤ length world.namespaces + 1) (omega arith)
      (λ keeps. let fewer = length-filter_le keeps world.namespaces in omega (arith, fewer))
      (λ keeps. let fewer = length-filter_le keeps (world.namespaces ++ (new_one ∷ [])) in
      let all = length-append world.namespaces (new_one ∷ []) in omega (arith, fewer, all))
