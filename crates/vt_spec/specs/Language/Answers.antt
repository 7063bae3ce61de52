-- What a call returns, and how mounts and groups are listed (profile).
use Rattle.std.specs.Prelude.{Bool, List, Option, ℕ}
use Rattle.vt_spec.specs.declared.attributes.Attr.{Attr}
use Rattle.vt_spec.specs.declared.attributes.Kind.{Kind}
use Rattle.vt_spec.specs.Language.Calls.{MountFlags, TaskName}

-- what stat(2) returns for an object: its size where it has one, and the mark of a directory of a plain tree
pub record StatLine : Type 0 where
  pub kind : Kind
  pub attr : Attr
  pub size : ℕ
  pub opaque : Bool

-- where a mount stands or begins: the names that lead there, or nowhere any more
pub data Spot : Type 0 where
  Gone : Spot
  Reached : (path : List (List ℕ)) → Spot

-- groups by the numbers that they are printed with
pub data TypeLine : Type 0 where
  SharedLine : (group : ℕ) → (master : Option ℕ) → TypeLine
  SlaveLine : (master : ℕ) → TypeLine
  PrivateLine : TypeLine
  UnbindableLine : TypeLine

-- a line of the list of mounts: mountinfo of proc(5), in the profile's form
pub record MountLine : Type 0 where
  pub mount_point : Option (ℕ × Spot)
  pub overlay : Bool
  pub filesystem : ℕ
  pub root : Spot
  pub flags : MountFlags
  pub kind : TypeLine

-- a line of the list of groups: peers and slaves by the index of their namespace and of the mount in it
pub record PeerLine : Type 0 where
  pub group : ℕ
  pub master : Option ℕ
  pub peers : List (ℕ × ℕ)
  pub slaves : List (ℕ × ℕ)

-- what a call that is not refused returns
pub data Answer : Type 0 where
  Done : Answer
  Bytes : (bytes : List ℕ) → Answer
  Names : (names : List (List ℕ)) → Answer
  Told : (line : StatLine) → Answer
  Opened : (descriptor : ℕ) → Answer
  Child : (name : TaskName) → Answer
  MountList : (lines : List MountLine) → Answer
  PeerList : (lines : List PeerLine) → Answer
  YesNo : (yes_or_no : Bool) → Answer
