-- What is kept by hash.
use Rattle.std.specs.Prelude.{Contains, List, None, Option, Some, [], if◌then◌else◌, map, ℕ, ◌≡◌}
use Rattle.std.specs.Str.{bytes_eq}
use Rattle.lru.specs.LruCache.{LruCache}
use Rattle.vt_location.specs.declared.locations.NodeRef.{NodeRef}
use Rattle.vt_names.specs.declared.kept.Kept.{Kept}
use Rattle.vt_names.specs.declared.kept.KeptName.{KeptName}
use Rattle.vt_names.specs.declared.kept.NameKey.{NameKey}
use Rattle.vt_names.specs.NamesValue.{KeptEntry, NamesValue, digest}

abbrev pub Pairs : Type 0
Pairs = List (NameKey × KeptName)

-- where a name of a directory is kept
abbrev pub key_of : NodeRef → List ℕ → NameKey
key_of directory name = record { directory = directory; digest = digest name }

-- each pair is kept under the digest of its name
abbrev pub AreByDigest : Pairs → Type 0
AreByDigest pairs = (pair : NameKey × KeptName) → Contains pairs pair → pair.0.digest ≡ digest pair.1.name.items

-- what contracts see of pairs
abbrev pub entry_of : NameKey × KeptName → KeptEntry
entry_of pair = record { directory = pair.0.directory; name = pair.1.name.items; node = pair.1.node }

abbrev pub entries_of : Pairs → List KeptEntry
entries_of pairs = map entry_of pairs

-- what is said of a name by what is kept in its place
abbrev pub said_by : List ℕ → KeptName → Option (Option NodeRef)
said_by name kept = if bytes_eq name kept.name.items then Some kept.node else None

-- without a cache nothing is kept
abbrev pub pairs_in : Option (LruCache NameKey KeptName) → Pairs
pairs_in None = []
pairs_in (Some cache) = cache.entries

abbrev pub capacity_of : Option (LruCache NameKey KeptName) → ℕ
capacity_of None = 0
capacity_of (Some cache) = cache.cap

abbrev pub names_kept : Kept → Option (LruCache NameKey KeptName) → ℕ → NamesValue
names_kept kept cache hits =
    record { entries = entries_of (pairs_in cache); capacity = capacity_of cache; kept = kept; hits = hits }
