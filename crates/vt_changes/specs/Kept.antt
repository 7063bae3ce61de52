-- Change numbers as they are kept: what is not kept has 0.
use Rattle.std.specs.Prelude.{Bool, List, map, nat_eq, unwrap_or, ℕ}
use Rattle.std.specs.Cmp.Lexicographic.{pointwise}
use Rattle.std.specs.Map.{lookup}
use Rattle.std.specs.declared.vec.Vec.{Vec}
use Rattle.vt_spec.specs.Language.Calls.{TaskName, same_name}
use Rattle.vt_location.specs.declared.numbers.FilesystemId.{FilesystemId}
use Rattle.vt_location.specs.declared.numbers.NamespaceId.{NamespaceId}
use Rattle.vt_location.specs.Numbers.{filesystem_number, namespace_number}
use Rattle.vt_laws_turns.specs.Dated.{Dates}

-- the number of what passes a test
abbrev pub number_by : {K : Type 0} → (K → Bool) → List (K × ℕ) → ℕ
number_by test entries = unwrap_or (lookup test entries) 0

-- what has a name or a number
abbrev pub is_named : {A : Type 0} → TaskName → Vec ℕ A → Bool
is_named name key = pointwise nat_eq name key.items

abbrev pub is_namespace : ℕ → NamespaceId → Bool
is_namespace number id = nat_eq number (namespace_number id)

abbrev pub is_filesystem : ℕ → FilesystemId → Bool
is_filesystem number id = nat_eq number (filesystem_number id)

-- what is kept, by names and by numbers
abbrev pub named_entries : {A : Type 0} → List (Vec ℕ A × ℕ) → List (TaskName × ℕ)
named_entries entries = map (λ entry. (entry.0.items, entry.1)) entries

abbrev pub numbered_entries : {K : Type 0} → (K → ℕ) → List (K × ℕ) → List (ℕ × ℕ)
numbered_entries number_of entries = map (λ entry. (number_of entry.0, entry.1)) entries

-- all change numbers of what is kept
abbrev pub dates_kept : List (TaskName × ℕ) → List (ℕ × ℕ) → List (ℕ × ℕ) → Dates
dates_kept tasks namespaces filesystems = record {
  tasks = λ name. number_by (same_name name) tasks;
  namespaces = λ number. number_by (nat_eq number) namespaces;
  filesystems = λ number. number_by (nat_eq number) filesystems;
}
