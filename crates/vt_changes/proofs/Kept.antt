-- The numbers that are kept follow a call.
use Rattle.std.proofs.Common.{◌≡◌, refl, sym, ap, ◌∙◌, ℕ, nat_eq, Bool, true, false, cond, List, [], ◌∷◌, map, option_map, option_to_list, Option, Some, unwrap_or}
use Rattle.std.specs.List.{list_any}
use Rattle.std.specs.Map.{lookup}
use Rattle.std.specs.declared.vec.Vec.{Vec}
use Rattle.vt_spec.proofs.Common.{TaskName, World, raised, same_name}
use Rattle.vt_location.specs.declared.numbers.FilesystemId.{FilesystemId}
use Rattle.vt_location.specs.declared.numbers.NamespaceId.{NamespaceId}
use Rattle.vt_location.specs.Numbers.{filesystem_number, namespace_number}
use Rattle.vt_changes.specs.Following.{Follows, has_filesystem, has_namespace, has_task, if_there, raised_if}
use Rattle.vt_changes.specs.Kept.{dates_kept, is_filesystem, is_named, is_namespace, named_entries, number_by, numbered_entries}
use Rattle.vt_changes.specs.SeenMounts.{SeenMount, mounts_seen, same_all}

-- a number under another name for the key
number_mapped : {K L : Type 0} (test : L → Bool) (name_of : K → L) (entries : List (K × ℕ))
    → number_by test (map (λ (entry : K × ℕ). (name_of entry.0, entry.1)) entries)
    ≡ number_by (λ key. test (name_of key)) entries
number_mapped test name_of [] = refl
number_mapped {K = K} test name_of (entry ∷ rest) = by (test (name_of entry.0)) (number_mapped test name_of rest)
  where
    by : (b : Bool) → unwrap_or (lookup test (map (λ (e : K × ℕ). (name_of e.0, e.1)) rest)) 0
        ≡ unwrap_or (lookup (λ key. test (name_of key)) rest) 0
        → unwrap_or (cond b (Some entry.1) (lookup test (map (λ (e : K × ℕ). (name_of e.0, e.1)) rest))) 0
        ≡ unwrap_or (cond b (Some entry.1) (lookup (λ key. test (name_of key)) rest)) 0
    by true next = refl
    by false next = next

pub named_by : {A : Type 0} (name : TaskName) (entries : List (Vec ℕ A × ℕ))
    → number_by (same_name name) (named_entries entries) ≡ number_by (is_named name) entries
named_by name entries = number_mapped (same_name name) (λ key. key.items) entries

pub namespaces_by : (number : ℕ) (entries : List (NamespaceId × ℕ))
    → number_by (nat_eq number) (numbered_entries namespace_number entries) ≡ number_by (is_namespace number) entries
namespaces_by number entries = number_mapped (nat_eq number) namespace_number entries

pub filesystems_by : (number : ℕ) (entries : List (FilesystemId × ℕ))
    → number_by (nat_eq number) (numbered_entries filesystem_number entries)
    ≡ number_by (is_filesystem number) entries
filesystems_by number entries = number_mapped (nat_eq number) filesystem_number entries

module _ {A : Type 0} (was later : World ℕ) (name : TaskName) where
  -- each of the three, by what room was made for before
  pub followed : (changed : List ℕ) (filesystem : Option FilesystemId)
      → option_to_list (option_map filesystem_number filesystem) ≡ changed
      → (seen : ℕ → List SeenMount) → ((number : ℕ) → seen number ≡ mounts_seen was number)
      → (tasks reserved after : List (Vec ℕ A × ℕ)) → reserved ≡ tasks
      → ((other : TaskName) → number_by (is_named other) after ≡ cond (same_name name other)
      (if_there (has_task later name) (raised (number_by (is_named other) reserved)))
      (number_by (is_named other) reserved))
      → (namespaces reserved_namespaces after_namespaces : List (NamespaceId × ℕ)) → reserved_namespaces ≡ namespaces
      → ((number : ℕ) → number_by (is_namespace number) after_namespaces ≡ if_there (has_namespace later number)
      (cond (same_all (seen number) (mounts_seen later number)) (number_by (is_namespace number) reserved_namespaces)
      (raised (number_by (is_namespace number) reserved_namespaces))))
      → (filesystems reserved_filesystems after_filesystems : List (FilesystemId × ℕ))
      → reserved_filesystems ≡ filesystems
      → ((number : ℕ) → number_by (is_filesystem number) after_filesystems ≡ if_there (has_filesystem later number)
      (raised_if (list_any (λ one. nat_eq one number) (option_to_list (option_map filesystem_number filesystem)))
      (number_by (is_filesystem number) reserved_filesystems)))
      → Follows was later name changed
      (dates_kept (named_entries tasks) (numbered_entries namespace_number namespaces)
      (numbered_entries filesystem_number filesystems))
      (dates_kept (named_entries after) (numbered_entries namespace_number after_namespaces)
      (numbered_entries filesystem_number after_filesystems))
  followed changed filesystem told seen were tasks reserved after t task namespaces reserved_namespaces after_namespaces
      n namespace filesystems reserved_filesystems after_filesystems f file = record {
        tasks = λ other. named_by other after ∙ task other ∙ ap (λ number. cond (same_name name other)
            (if_there (has_task later name) (raised number)) number)
            (ap (number_by (is_named other)) t ∙ sym (named_by other tasks));
        namespaces = λ number. namespaces_by number after_namespaces ∙ namespace number
            ∙ ap (λ mounts. if_there (has_namespace later number) (cond (same_all mounts (mounts_seen later number))
            (number_by (is_namespace number) reserved_namespaces)
            (raised (number_by (is_namespace number) reserved_namespaces)))) (were number)
            ∙ ap (λ one. if_there (has_namespace later number)
            (cond (same_all (mounts_seen was number) (mounts_seen later number)) one (raised one)))
            (ap (number_by (is_namespace number)) n ∙ sym (namespaces_by number namespaces));
        filesystems = λ number. filesystems_by number after_filesystems ∙ file number
            ∙ ap (λ list. if_there (has_filesystem later number)
            (raised_if (list_any (λ one. nat_eq one number) list)
            (number_by (is_filesystem number) reserved_filesystems))) told
            ∙ ap (λ one. if_there (has_filesystem later number)
            (raised_if (list_any (λ n. nat_eq n number) changed) one))
            (ap (number_by (is_filesystem number)) f ∙ sym (filesystems_by number filesystems));
      }
