-- What the layers of an overlay show at a path, said of whole paths: the kernel's overlayfs document, "upper and
-- lower", "whiteouts and opaque directories" and "multiple lower layers". That a middle layer cuts what is below it is
-- the profile's. Layers are counted from the top, which is layer 0.
use Rattle.std.specs.Prelude.{Contains, List, None, Some, [], slice_get, true, ℕ, ◌++◌, ◌<◌, ◌≡◌, ◌≢◌, ◌↔◌, ◌∷◌}
use Rattle.vt_spec.specs.Machine.Layers.{OpenLayer, Shown, at_path, names_shown, node_at_path, shown}
use Rattle.vt_spec.specs.Tree.{Content, Entries, Node}
use Rattle.vt_spec.specs.Tree.Content.{Directory, Regular, Symlink, Whiteout}

-- names lead from a layer's directory to an object, through entries alone
abbrev pub HasAt : List (OpenLayer ℕ) → ℕ → List (List ℕ) → ℕ → Type 0
HasAt layers depth path object =
    (layer : OpenLayer ℕ) × (slice_get layers depth ≡ Some layer) × (at_path layer path ≡ Some object)

-- and this is the inode there
abbrev pub HasInodeAt : List (OpenLayer ℕ) → ℕ → List (List ℕ) → Node ℕ → Type 0
HasInodeAt layers depth path inode =
    (layer : OpenLayer ℕ) × (slice_get layers depth ≡ Some layer) × (node_at_path layer path ≡ Some inode)

-- a whiteout, an object that is no directory, or an opaque directory
pub data HidesLower : Content ℕ → Type 0 where
  a_whiteout : HidesLower Whiteout
  a_file : (bytes : List ℕ) → HidesLower (Regular bytes)
  a_link : (text : List ℕ) → HidesLower (Symlink text)
  an_opaque_directory : (parent : ℕ) (entries : Entries ℕ) → HidesLower (Directory parent entries true)

-- a non-empty prefix of a path, or the path itself
abbrev pub IsFrontOf : List (List ℕ) → List (List ℕ) → Type 0
IsFrontOf prefix path = (rest : List (List ℕ)) × (prefix ++ rest ≡ path) × (prefix ≢ [])

-- A layer is cut at a path if a higher layer has, at a non-empty prefix of the path or at the path itself, a whiteout,
-- an object that is no directory, or an opaque directory.
pub record IsCut (layers : List (OpenLayer ℕ)) (depth : ℕ) (path : List (List ℕ)) : Type 0 where
  pub higher : ℕ
  pub is_higher : higher < depth
  pub prefix : List (List ℕ)
  pub is_prefix : IsFrontOf prefix path
  pub inode : Node ℕ
  pub stands : HasInodeAt layers higher prefix inode
  pub hides : HidesLower inode.content

-- a layer has an object at a path, and is not cut there
abbrev pub HasUncut : List (OpenLayer ℕ) → ℕ → List (List ℕ) → ℕ → Type 0
HasUncut layers depth path object = HasAt layers depth path object × ¬ (IsCut layers depth path)

-- Shown at a path is the object of the highest layer that has one there and is not cut there, unless it is a whiteout.
pub record IsShown (layers : List (OpenLayer ℕ)) (path : List (List ℕ)) (seen : Shown ℕ) : Type 0 where
  pub has_uncut : HasUncut layers seen.layer path seen.object
  pub highest : (higher object : ℕ) → higher < seen.layer → ¬ (HasUncut layers higher path object)
  pub no_whiteout : (inode : Node ℕ) → HasInodeAt layers seen.layer path inode → inode.content ≢ Whiteout

-- at a path at most one object of one layer is shown
abbrev pub OneObjectIsShown : Type 0
OneObjectIsShown =
    (layers : List (OpenLayer ℕ)) (path : List (List ℕ)) (one other : Shown ℕ)
    → IsShown layers path one → IsShown layers path other → one ≡ other

-- it is the one that is computed
abbrev pub ShownIsComputed : Type 0
ShownIsComputed =
    (layers : List (OpenLayer ℕ)) (path : List (List ℕ)) (seen : Shown ℕ)
    → (shown layers path ≡ Some seen) ↔ IsShown layers path seen

-- and where none is computed, none is shown
abbrev pub NothingIsShown : Type 0
NothingIsShown =
    (layers : List (OpenLayer ℕ)) (path : List (List ℕ))
    → (shown layers path ≡ None) ↔ ((seen : Shown ℕ) → ¬ (IsShown layers path seen))

-- a directory shows just the names for which something is shown
abbrev pub NamesAreThoseShown : Type 0
NamesAreThoseShown =
    (layers : List (OpenLayer ℕ)) (path : List (List ℕ)) (name : List ℕ)
    → Contains (names_shown layers path) name ↔ (seen : Shown ℕ) × IsShown layers (path ++ name ∷ []) seen
