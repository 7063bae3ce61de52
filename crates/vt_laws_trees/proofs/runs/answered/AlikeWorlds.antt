-- Worlds that are the same but for change numbers and the order of numbers beside trees, list by list.
use Rattle.std.proofs.Common.{arith, ◌≡◌, refl, sym, subst, ◌∙◌, ℕ, false, List, [], ◌∷◌}
use Rattle.vt_spec.proofs.Common.{FileTree, Filesystem, IsPermutation-refl, IsPermutation-sym, IsPermutation-trans, Namespace, SameFiles, SameFilesystem, SameFilesystems, SameWorlds, Task, World, common_steps, is_overlay}
use Rattle.vt_laws_rules.proofs.judged.NumbersRaised.{bare_namespace, bare_task}
use Rattle.vt_laws_rules.proofs.same.SameMany.{same_filesystem_itself}
use Rattle.vt_laws_trees.proofs.runs.Each.{Each, each_back, each_onward, each_to_one, each_told}
use Rattle.vt_laws_trees.proofs.runs.EachHas.{each_holds}
use Rattle.vt_laws_trees.specs.Runs.Answered.{SameWorldsArePlainAlike, SamenessIsAnEquivalence}

abbrev pub SameTask : Task ℕ → Task ℕ → Type 0
SameTask one other = bare_task one ≡ bare_task other

abbrev pub SameNamespace : Namespace ℕ → Namespace ℕ → Type 0
SameNamespace one other = bare_namespace one ≡ bare_namespace other

pub record Alike (one other : World ℕ) : Type 0 where
  pub mounts : one.mounts ≡ other.mounts
  pub master : one.master ≡ other.master
  pub filesystems : Each SameFilesystem one.filesystems other.filesystems
  pub namespaces : Each SameNamespace one.namespaces other.namespaces
  pub tasks : Each SameTask one.tasks other.tasks

-- the other world with the very mounts and masters of the one
abbrev pub with_mounts_of : World ℕ → World ℕ → World ℕ
with_mounts_of one other = record other { mounts = one.mounts; master = one.master }

pub mounts_of_one : (P : World ℕ → Type 0) (one other : World ℕ) → Alike one other → P (with_mounts_of one other)
    → P other
mounts_of_one P one other same holds =
    subst P (λ i. record other { mounts = same.mounts i; master = same.master i }) holds

pub files_itself : (files : FileTree ℕ) → SameFiles files files
files_itself files = record { tree = refl; numbers = IsPermutation-refl files.numbers }

pub files_back : (one other : FileTree ℕ) → SameFiles one other → SameFiles other one
files_back one other same =
    record { tree = sym same.tree; numbers = IsPermutation-sym one.numbers other.numbers same.numbers }

pub files_onward : (one other last : FileTree ℕ) → SameFiles one other → SameFiles other last → SameFiles one last
files_onward one other last same next = record {
  tree = same.tree ∙ next.tree;
  numbers = IsPermutation-trans one.numbers other.numbers last.numbers same.numbers next.numbers;
}

each_filesystem : (ones others : List (Filesystem ℕ)) → SameFilesystems ones others → Each SameFilesystem ones others
each_filesystem [] [] same = tt
each_filesystem [] (other ∷ others) same = absurd same
each_filesystem (one ∷ ones) [] same = absurd same
each_filesystem (one ∷ ones) (other ∷ others) same = (same.0, each_filesystem ones others same.1)

all_filesystems : (ones others : List (Filesystem ℕ)) → Each SameFilesystem ones others → SameFilesystems ones others
all_filesystems [] [] each = tt
all_filesystems [] (other ∷ others) each = absurd each
all_filesystems (one ∷ ones) [] each = absurd each
all_filesystems (one ∷ ones) (other ∷ others) each = (each.0, all_filesystems ones others each.1)

pub alike_from_same : (one other : World ℕ) → SameWorlds one other → Alike one other
alike_from_same one other same = record {
  mounts = same.mounts;
  master = same.master;
  filesystems = each_filesystem one.filesystems other.filesystems same.filesystems;
  namespaces = each_told bare_namespace bare_namespace one.namespaces other.namespaces same.namespaces;
  tasks = each_told bare_task bare_task one.tasks other.tasks same.tasks;
}

pub same_from_alike : (one other : World ℕ) → Alike one other → SameWorlds one other
same_from_alike one other same = grind (arith, common_steps, all_filesystems, each_to_one, bare_namespace, bare_task)

pub filesystem_back : (a b : Filesystem ℕ) → SameFilesystem a b → SameFilesystem b a
filesystem_back a b same = grind (arith, common_steps, files_back)

pub alike_back : (one other : World ℕ) → Alike one other → Alike other one
alike_back one other same = grind (arith, common_steps, each_back, filesystem_back)

pub alike_onward : (one other last : World ℕ) → Alike one other → Alike other last → Alike one last
alike_onward one other last same next = record {
  mounts = same.mounts ∙ next.mounts;
  master = same.master ∙ next.master;
  filesystems = each_onward SameFilesystem (λ a b c first second. record {
    number = first.number ∙ second.number;
    files = files_onward a.files b.files c.files first.files second.files;
    overlay = first.overlay ∙ second.overlay;
  }) one.filesystems other.filesystems last.filesystems same.filesystems next.filesystems;
  namespaces = each_onward SameNamespace (λ a b c first second. cc) one.namespaces _ _ same.namespaces next.namespaces;
  tasks = each_onward SameTask (λ a b c first second. cc) one.tasks other.tasks last.tasks same.tasks
      next.tasks;
}

filesystems_itself : (list : List (Filesystem ℕ)) → SameFilesystems list list
filesystems_itself [] = tt
filesystems_itself (filesystem ∷ rest) = (same_filesystem_itself filesystem, filesystems_itself rest)

pub sameness_is_an_equivalence : SamenessIsAnEquivalence
sameness_is_an_equivalence = record {
  itself = λ world. record {
    mounts = refl;
    master = refl;
    filesystems = filesystems_itself world.filesystems;
    namespaces = refl;
    tasks = refl;
  };
  back = λ one other same. same_from_alike other one (alike_back one other (alike_from_same one other same));
  onward = λ one other last same next. same_from_alike one last
      (alike_onward one other last (alike_from_same one other same) (alike_from_same other last next));
}

-- What is the same as a plain world is plain.
pub same_worlds_are_plain_alike : SameWorldsArePlainAlike
same_worlds_are_plain_alike one other same =
    each_holds SameFilesystem (λ f. is_overlay f ≡ false) (λ f. is_overlay f ≡ false)
    (λ a b alike plain. cc (alike.overlay)) one.filesystems other.filesystems
    (alike_from_same one other same).filesystems
