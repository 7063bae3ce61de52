-- What the mounter of an overlay is asked for a change, beside the rights that the caller is asked for.
use Rattle.std.specs.Prelude.{List, [], ℕ, ◌∷◌}
use Rattle.vt_spec.specs.Language.Changes.{Change}
use Rattle.vt_spec.specs.Machine.Filesystems.{directories_changed, object_copied}
use Rattle.vt_location.specs.declared.locations.Location.{Location}
use Rattle.vt_location.specs.Locations.{number_of}
use Rattle.vt_looks.specs.declared.asked.Asked.{Asked}
use Rattle.vt_looks.specs.declared.asked.Asked.TheVariants.{Entry, Name, Object, Rename}

-- the objects that are copied up, and the directories in which names are made, removed or renamed
pub record Asks : Type 0 where
  pub copied : List ℕ
  pub directories : List ℕ

-- by a change
abbrev pub asked_by : Change ℕ → Asks
asked_by change = record { copied = object_copied change; directories = directories_changed change }

-- at a location, by code
abbrev pub asked_at : Location → Asked → Asks
asked_at at Entry = record { copied = []; directories = number_of at.node ∷ [] }
asked_at at (Name object) = record { copied = number_of object ∷ []; directories = number_of at.node ∷ [] }
asked_at at (Rename object to) =
    record { copied = number_of object ∷ []; directories = number_of at.node ∷ number_of to ∷ [] }
asked_at at Object = record { copied = number_of at.node ∷ []; directories = [] }
