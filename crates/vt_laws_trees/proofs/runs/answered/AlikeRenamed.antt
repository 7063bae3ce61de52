-- Worlds that are the same stay the same when their numbers are renamed.
use Rattle.std.proofs.Common.{ap, ℕ, List, [], ◌∷◌, map, option_map}
use Rattle.vt_spec.proofs.Common.{Filesystem, IsPermutation-map, SameFilesystems, SameWorlds, World, renamed, renamed_filesystem, renamed_mount, renamed_namespace, renamed_node, renamed_overlay, renamed_task}
use Rattle.vt_laws_rules.proofs.judged.NumbersRaised.{bare_namespace, bare_task}
use Rattle.vt_laws_rules.specs.Renaming.{Renaming}
use Rattle.vt_laws_trees.proofs.runs.answered.AlikeWorlds.{SameNamespace, SameTask}
use Rattle.vt_laws_trees.proofs.runs.Each.{each_map, each_to_one, each_told}

module _ (renaming : Renaming ℕ ℕ) where
  filesystems_renamed : (ones others : List (Filesystem ℕ)) → SameFilesystems ones others
      → SameFilesystems (map (renamed_filesystem renaming.there renaming.back) ones)
      (map (renamed_filesystem renaming.there renaming.back) others)
  filesystems_renamed [] [] same = tt
  filesystems_renamed [] (other ∷ others) same = absurd same
  filesystems_renamed (one ∷ ones) [] same = absurd same
  filesystems_renamed (one ∷ ones) (other ∷ others) same = (
    record {
      number = ap renaming.there same.0.number;
      files = record {
        tree = λ i. record {
          root = renaming.there (same.0.files.tree i).root;
          node = λ number. option_map (renamed_node renaming.there renaming.back)
              ((same.0.files.tree i).node (renaming.back number));
        };
        numbers = IsPermutation-map renaming.there one.files.numbers other.files.numbers same.0.files.numbers;
      };
      overlay = ap (option_map (renamed_overlay renaming.there renaming.back)) same.0.overlay;
    },
    filesystems_renamed ones others same.1,
  )

  pub same_renamed : (one other : World ℕ) → SameWorlds one other
      → SameWorlds (renamed renaming.there renaming.back one) (renamed renaming.there renaming.back other)
  same_renamed one other same = record {
    mounts = ap (map (renamed_mount renaming.there renaming.back)) same.mounts;
    master = λ i group. option_map renaming.there (same.master i (renaming.back group));
    filesystems = filesystems_renamed one.filesystems other.filesystems same.filesystems;
    namespaces = each_to_one SameNamespace bare_namespace _ (λ a b e. e) _ _ (each_map SameNamespace SameNamespace _ _
        (λ a b e. ap (renamed_namespace renaming.there renaming.back) e) _ _ (each_told _ _ _ _ same.namespaces));
    tasks = each_to_one SameTask bare_task bare_task (λ a b e. e) _ _ (each_map SameTask SameTask _ _
        (λ a b e. ap (renamed_task _ renaming.back) e) one.tasks _ (each_told bare_task bare_task _ _ same.tasks));
  }
