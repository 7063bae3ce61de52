-- What lists of mounts and of peer groups find in a world.
use Rattle.std.proofs.Common.{◌≡◌, refl, sym, ap, subst, true, true≢false, ⊎_elim, ℕ, nat_eq, List, [], ◌∷◌, is_some, map}
use Rattle.vt_spec.proofs.Common.{Filesystem, IsTree, Namespace, TaskName, ToList, Tree, keys_of, node_at}
use Rattle.vt_spec.specs.Machine.Mounts as meant
use Rattle.vt_ns.proofs.Common.{IsHeld, Permits, StoreValue, WorldValue, counted, directory_is_there, entries_of, files_shown, given_permits_are_seen_to, namespace_of, numbered_all, supply_of, with_store, world_of}
use Rattle.vt_location.specs.declared.numbers.NamespaceId.{NamespaceId}
use Rattle.vt_fs.specs.Trees.Paths.{NamesDirectoriesOnce}
use Rattle.vt_world.specs.declared.namespaces.Namespace.{Namespace as Kept}
use Rattle.vt_listing.specs.Shown.{NameDirectoriesOnce}

-- in each tree a directory has one name
pub named_once : (base : WorldValue) (store : StoreValue) → IsHeld (with_store store base) → NameDirectoriesOnce store
named_once base store held count =
    subst (λ (tree : Tree ℕ). NamesDirectoriesOnce tree) (sym (files_shown base store held count))
    (⊎_elim (λ tree. tree.one_name)
    (λ none. subst (λ (f : Filesystem ℕ). NamesDirectoriesOnce f.files.tree) (sym none.0)
    (λ directory name other object first second is. absurd (true≢false (sym (ap is_some first)))))
    (numbered_all (λ (f : Filesystem ℕ). IsTree f.files.tree) (counted count)
    (world_of (with_store store base)).filesystems held.in_world.files.trees))

-- a directory that may be listed is there
pub listed_there : (value : WorldValue) → IsHeld value → (name : TaskName) (directory : meant.Location ℕ)
    → Permits value name (ToList directory) → is_some (node_at nat_eq (world_of value) directory) ≡ true
listed_there value held name directory permits = directory_is_there (node_at nat_eq (world_of value) directory)
    (given_permits_are_seen_to (world_of value) (supply_of value (ToList directory)) permits.task (ToList directory)
    held.in_world permits.given)

-- namespaces as they are kept
pub namespaces_kept : (kept : List (NamespaceId × Kept)) → map (λ (id : NamespaceId). counted id.count) (keys_of kept)
    ≡ map (λ (namespace : Namespace ℕ). namespace.number) (map namespace_of (entries_of kept))
namespaces_kept [] = refl
namespaces_kept (one ∷ rest) = ap (λ numbers. counted one.0.count ∷ numbers) (namespaces_kept rest)
