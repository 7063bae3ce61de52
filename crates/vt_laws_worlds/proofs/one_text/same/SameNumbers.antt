-- Worlds that are the same keep to the same numbers.
use Rattle.std.proofs.Common.{◌≡◌, refl, sym, ap, ◌∙◌, ℕ, nat_eq, List, [], ◌∷◌, map, option_map, ⊎_elim}
use Rattle.vt_spec.proofs.Common.{Filesystem, Namespace, SameFilesystem, Task, World, cons-rest, list_any-IsPermutation, renamed, renamed_filesystem, renamed_mount, renamed_namespace, renamed_node, renamed_overlay, renamed_task}
use Rattle.vt_laws_mounts.proofs.letting_go.Lists.{Among, among_numbers, is_among_numbers, map_same}
use Rattle.vt_laws_rules.specs.Renaming.{Renaming}
use Rattle.vt_laws_worlds.specs.OneText.Same.{AnySameWorldsKeepToNumbers}
use Rattle.vt_laws_rules.proofs.judged.NumbersRaised.{bare_task}
use Rattle.vt_laws_trees.proofs.runs.answered.AlikeWorlds.{Alike, alike_from_same, SameNamespace, SameTask}
use Rattle.vt_laws_trees.proofs.runs.Each.{Each}
use Rattle.vt_spec.proofs.Options.{cons-first}

-- what stands in a list that a change leaves is left by it
each_left : {A : Type 0} (f : A → A) (list : List A) → map f list ≡ list → (a : A) → Among a list → f a ≡ a
each_left f [] same a among = absurd among
each_left f (first ∷ rest) same a among = ⊎_elim (λ e. cc (cons-first (f first) first (map f rest) rest same))
    (λ later. each_left f rest (cons-rest _ first _ rest same) a later) among

-- a change that leaves each of one list leaves each of the other
module _ {A : Type 0} (R : A → A → Type 0) (f : A → A) (goes : (a b : A) → R a b → f a ≡ a → f b ≡ b) where
  each_left_alike : (ones others : List A) → Each R ones others → map f ones ≡ ones → map f others ≡ others
  each_left_alike [] [] each same = refl
  each_left_alike [] (b ∷ others) each same = absurd each
  each_left_alike (a ∷ ones) [] each same = absurd each
  each_left_alike (a ∷ ones) (b ∷ others) each same = λ i. goes a b each.0 (cons-first _ a _ ones same) i
      ∷ each_left_alike ones others each.1 (cons-rest _ a _ ones same) i

module _ (renaming : Renaming ℕ ℕ) where
  abbrev there : ℕ → ℕ
  there = renaming.there

  abbrev back : ℕ → ℕ
  back = renaming.back

  filesystem_left : (a b : Filesystem ℕ) → SameFilesystem a b → renamed_filesystem there back a ≡ a
      → renamed_filesystem there back b ≡ b
  filesystem_left a b alike same = λ i. record {
    number = (ap there (sym alike.number) ∙ (λ j. (same j).number) ∙ alike.number) i;
    files = record {
      tree = ((λ j. record {
        root = there (sym alike.files.tree j).root;
        node = λ number. option_map (renamed_node there back) ((sym alike.files.tree j).node (back number));
      }) ∙ (λ j. (same j).files.tree) ∙ alike.files.tree) i;
      numbers = map_same there b.files.numbers (λ number among.
          each_left there a.files.numbers (λ j. (same j).files.numbers) number (among_numbers number a.files.numbers
          (list_any-IsPermutation (nat_eq number) a.files.numbers b.files.numbers alike.files.numbers
          ∙ is_among_numbers number b.files.numbers among))) i;
    };
    overlay =
        (ap (option_map (renamed_overlay there back)) (sym alike.overlay) ∙ (λ j. (same j).overlay) ∙ alike.overlay) i;
    change = b.change;
  }

  namespace_left : (a b : Namespace ℕ) → SameNamespace a b → renamed_namespace there back a ≡ a
      → renamed_namespace there back b ≡ b
  namespace_left a b alike same = λ i. record {
    number = ((λ j. there (sym alike j).number) ∙ (λ j. (same j).number) ∙ (λ j. (alike j).number)) i;
    change = b.change;
  }

  task_left : (a b : Task ℕ) → SameTask a b → renamed_task there back a ≡ a → renamed_task there back b ≡ b
  task_left a b alike same =
      let bare : renamed_task there back (bare_task b) ≡ bare_task b =
      ap (renamed_task there back) (sym alike) ∙ ap bare_task same ∙ alike in
      λ i. record (bare i) { change = b.change }

  left_alike : (one other : World ℕ) → Alike one other → renamed there back one ≡ one → renamed there back other ≡ other
  left_alike one other same left = λ i. record {
    mounts = (ap (map (renamed_mount there back)) (sym same.mounts) ∙ (λ j. (left j).mounts) ∙ same.mounts) i;
    master = ((λ j group. option_map there (sym same.master j (back group))) ∙ (λ j. (left j).master) ∙ same.master) i;
    filesystems = each_left_alike SameFilesystem
        (renamed_filesystem there back) filesystem_left one.filesystems other.filesystems
        same.filesystems (λ j. (left j).filesystems) i;
    namespaces =
        each_left_alike SameNamespace (renamed_namespace there back) namespace_left one.namespaces other.namespaces
        same.namespaces (λ j. (left j).namespaces) i;
    tasks = each_left_alike SameTask (renamed_task there back) task_left one.tasks other.tasks same.tasks
        (λ j. (left j).tasks) i;
    change = other.change;
  }

pub any_same_worlds_keep_to_numbers : AnySameWorldsKeepToNumbers
any_same_worlds_keep_to_numbers named one other same keeps renaming leaves =
    left_alike renaming one other (alike_from_same one other same) (keeps renaming leaves)
