-- A cache of names: what names of directories lead to, as far as it is kept.
use Rattle.std.specs.Prelude.{Bool, List, Option, [], filter, find, if◌then◌else◌, min, nat_eq, not, option_map, take, true, ℕ, ◌%◌, ◌&&◌, ◌*◌, ◌+◌, ◌++◌, ◌∷◌}
use Rattle.std.specs.Str.{bytes_eq}
use Rattle.vt_location.specs.SameNodes.{same_node}
use Rattle.vt_location.specs.declared.locations.NodeRef.{NodeRef}
use Rattle.vt_names.specs.declared.kept.Kept.{Kept}
use Rattle.vt_names.specs.declared.kept.Kept.TheVariants.{All, Merged}

-- what is kept of a name of a directory: the node that it leads to, or that nothing has this name
pub record KeptEntry : Type 0 where
  pub directory : NodeRef
  pub name : List ℕ
  pub node : Option NodeRef

-- what is kept of names, those that were asked for last first; of how many at most, and of which directories; how many
-- looks were answered
pub record NamesValue : Type 0 where
  pub entries : List KeptEntry
  pub capacity : ℕ
  pub kept : Kept
  pub hits : ℕ

-- nothing yet
abbrev pub no_names : Kept → ℕ → NamesValue
no_names kept capacity = record { entries = []; capacity = capacity; kept = kept; hits = 0 }

-- a directory's names are kept, as it is merged or not
abbrev pub keeps : Kept → Bool → Bool
keeps All is_merged = true
keeps Merged is_merged = is_merged

-- an entry is of this name of this directory
abbrev pub is_of : NodeRef → List ℕ → KeptEntry → Bool
is_of directory name entry = same_node directory entry.directory && bytes_eq name entry.name

-- what is kept of a name, if anything is
abbrev pub said : List KeptEntry → NodeRef → List ℕ → Option (Option NodeRef)
said entries directory name = option_map (λ entry. entry.node) (find (is_of directory name) entries)

-- one answer more, if there was one; 64 bits count them
abbrev pub hits_after : Bool → ℕ → ℕ
hits_after answered hits = if answered then min (hits + 1) 18446744073709551615 else hits

-- Places: of the names of a directory that have one digest, one is kept

-- 64 bits of the bytes of a name, as digits of base 263
abbrev pub digest_from : ℕ → List ℕ → ℕ
digest_from sum [] = sum
digest_from sum (byte ∷ rest) = digest_from ((sum * 263 + byte) % 18446744073709551616) rest

abbrev pub digest : List ℕ → ℕ
digest name = digest_from 0 name

-- an entry is kept where this name would be
abbrev pub is_in_place_of : NodeRef → List ℕ → KeptEntry → Bool
is_in_place_of directory name entry =
    same_node directory entry.directory && nat_eq (digest name) (digest entry.name)

-- all entries but the one in the place of a name
abbrev pub others_than : NodeRef → List ℕ → List KeptEntry → List KeptEntry
others_than directory name entries = filter (λ entry. not (is_in_place_of directory name entry)) entries

-- that one first
abbrev pub first_in_place : NodeRef → List ℕ → List KeptEntry → List KeptEntry
first_in_place directory name entries =
    filter (is_in_place_of directory name) entries ++ others_than directory name entries

-- an entry first, in its place, then as many as there is room for
abbrev pub kept_first : ℕ → KeptEntry → List KeptEntry → List KeptEntry
kept_first capacity entry entries = take capacity (entry ∷ others_than entry.directory entry.name entries)
