-- What calls that write and that set attributes are granted: an edit of a file on a mount of theirs.
use Rattle.std.proofs.Common.{arith, ◌≡◌, ℕ, nat_eq, eqb-true, Bool, true, List, Option, flat_map, IfOk}
use Rattle.vt_spec.proofs.Common.{Change, Chmod, Chown, FileTree, Here, Location, Looks, Node, Opaque, Permit, Place, SetAttr, SetBytes, SetMark, Task, TaskName, ToChange, World, Write, changed, changed_node, common_steps, entries-node_with_attr, entries-node_with_bytes, entries-node_with_mark, entries_in, is_among, judge, judging, looks_of, named_in, part_of, targets_in, used_filesystems, ⊤}
use Rattle.vt_laws_members.proofs.judging.Common.{FoundAt, HereAt, IsMember, JudgesAlike, PlaceAt, directory_agrees, file_agrees, judges, leads_alike, object_agrees}
use Rattle.vt_laws_members.specs.Judging.{is_theirs}
use Rattle.vt_laws_members.proofs.changes.looks.Granted.{ends_so, judged_so}

-- a change of bytes, attributes or the mark of an inode
abbrev pub IsEdit : Change ℕ → Type 0
IsEdit (SetBytes file bytes) = ⊤
IsEdit (SetAttr object attr) = ⊤
IsEdit (SetMark directory opaque) = ⊤
IsEdit change = ⊥

-- an inode is edited, and its entries stay
module _ (files : FileTree ℕ) (number : ℕ) (f : Option (Node ℕ) → Option (Node ℕ))
    (same : (o : Option (Node ℕ)) → entries_in (f o) ≡ entries_in o) where
  targets_stay : (d : ℕ) → targets_in ((changed_node nat_eq files number f).tree.node d)
      ≡ targets_in (files.tree.node d)
  targets_stay d = grind (arith, common_steps, eqb-true)

  names_stay : named_in (changed_node nat_eq files number f) ≡ named_in files
  names_stay i = flat_map (λ d. targets_stay d i) files.numbers

-- so root, numbers and names stay
pub edits_keep : (files : FileTree ℕ) (change : Change ℕ) → IsEdit change
    → ((changed nat_eq files change).tree.root ≡ files.tree.root)
    × ((changed nat_eq files change).numbers ≡ files.numbers)
    × (named_in (changed nat_eq files change) ≡ named_in files)
edits_keep files change is =
    grind (arith, common_steps, names_stay, entries-node_with_bytes, entries-node_with_attr, entries-node_with_mark)

-- an edit at a location on a mount of theirs, if it is a change of one
abbrev pub Edits : (own : ℕ → Bool) → Permit ℕ → Type 0
Edits own (ToChange location change) = (own location.mount ≡ true) × IsEdit change
Edits own permit = ⊤

module _ {world : World ℕ} {names : List TaskName} {task : Task ℕ} (member : IsMember world names task) where
  abbrev one : Looks ℕ
  one = looks_of nat_eq world

  abbrev other : Looks ℕ
  other = looks_of nat_eq (part_of nat_eq world names)

  abbrev On : ℕ → Type 0
  On number = is_theirs world names number ≡ true

  abbrev Edited : Permit ℕ → Type 0
  Edited = Edits (is_theirs world names)

  alike : JudgesAlike one other task (is_theirs world names)
      (λ number. is_among nat_eq number (used_filesystems nat_eq world names))
  alike = judges member

  abbrev StandsHere : Here ℕ → Type 0
  StandsHere = HereAt (leads_alike alike)

  abbrev IsPlaced : Place ℕ → Type 0
  IsPlaced = PlaceAt (leads_alike alike)

  abbrev IsFound : Option (Location ℕ) → Type 0
  IsFound = FoundAt (leads_alike alike)

  pub writes_edit : (full : Permit ℕ → Bool) (path bytes : List ℕ) → IfOk (judge nat_eq one full task (Write path bytes)) Edited
  unfolding judging
  writes_edit full path bytes = judged_so one full task Edited (Write path bytes) (λ place end. (
    λ file there passed. ((ends_so IsPlaced (file_agrees (leads_alike alike) path).1 end).1 file there, tt),
    λ missing passed. tt,
  ))

  pub chmods_edit : (full : Permit ℕ → Bool) (path : List ℕ) (mode : ℕ) → IfOk (judge nat_eq one full task (Chmod path mode)) Edited
  unfolding judging
  chmods_edit full path mode = judged_so one full task Edited (Chmod path mode) (λ here end passed.
      (ends_so StandsHere (object_agrees (leads_alike alike) path).1 end, tt))

  pub chowns_edit : (full : Permit ℕ → Bool) (path : List ℕ) (uid gid : Option ℕ) → IfOk (judge nat_eq one full task (Chown path uid gid)) Edited
  unfolding judging
  chowns_edit full path uid gid = judged_so one full task Edited (Chown path uid gid) (λ here end passed.
      (ends_so StandsHere (object_agrees (leads_alike alike) path).1 end, tt))

  pub opaques_edit : (full : Permit ℕ → Bool) (path : List ℕ) (mark : Bool) → IfOk (judge nat_eq one full task (Opaque path mark)) Edited
  unfolding judging
  opaques_edit full path mark = judged_so one full task Edited (Opaque path mark) (λ admin here end passed.
      (ends_so StandsHere (directory_agrees (leads_alike alike) path).1 end, tt))
