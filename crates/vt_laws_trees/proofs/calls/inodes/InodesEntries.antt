-- In a directory that stays, a call changes no entry but those that its permit names.
use Rattle.std.proofs.Common.{arith, ◌≡◌, refl, sym, ap, ◌∙◌, true≢false, ℕ, nat_eq, eq-eqb, Bool, false, cond, ◌&&◌, List, [], ◌∷◌, Option, Some, None, bytes_eq}
use Rattle.vt_spec.proofs.Common.{AddName, Call, Change, Content, CopyUp, Directory, FileTree, Fresh, Location, Make, Move, Node, Permit, Regular, Remove, SetAttr, SetBytes, SetMark, Symlink, Task, ToChange, ToMake, ToMountOverlay, ToMountPlain, ToOpenNew, ToWritePart, Whiteout, World, bytes_decides, changed, common_steps, content_with_mark, content_with_parent, entries_of, entry_named, entry_named-with_entry, entry_named-without_entry, eq_by_cmp, evens, holds_of, is_among, judge_in, looks_of, mount_at, name_cmp, node_with_attr, node_with_bytes, node_with_entry, node_with_mark, node_without_entry, or_parts, with_bytes, with_entries, with_entry, with_name, without_entry, without_name}
use Rattle.vt_laws_rules.proofs.given.GivenPermits.{permits_are_for_their_calls}
use Rattle.vt_laws_trees.proofs.calls.inodes.InodesLeft.{LeftBy, MadeBy, inode_left}
use Rattle.vt_laws_trees.proofs.calls.inodes.InodesParts.{KeptByParents, KeptIn, Stays, at_node, change_holds_if_kept, itself, kept_at, made_kept, moved_kept, removed_kept}
use Rattle.vt_laws_trees.proofs.calls.inodes.InodesSettled.{inode_after_call}
use Rattle.vt_laws_rules.specs.Given.{IsFor}
use Rattle.vt_laws_trees.specs.Calls.Inodes.{IsNotHanded, OtherEntriesStay, change_of, entries_named_by, is_own_entry, same_entry}
use Rattle.vt_spec.specs.declared.attributes.Attr.{Attr}
use Rattle.vt_spec.proofs.Nodes.{same_name}
use Rattle.vt_laws_trees.specs.Trees.Calls.{mounts_overlay}
use Rattle.vt_laws_rules.specs.Plain.{IsPlain}
use Rattle.vt_laws_trees.specs.Trees.Settling.{inode_in}

module _ (entry : List ℕ) where
  -- the number that the name leads to
  abbrev led_of : Content ℕ → Option ℕ
  led_of content = entry_named entry (entries_of content)

  abbrev Led : Node ℕ → Option ℕ
  Led node = led_of node.content

  -- names are not the same by either test
  other_tie : (name : List ℕ) → bytes_eq entry name ≡ false → eq_by_cmp name_cmp entry name ≡ false
  other_tie name apart = grind (arith, common_steps, eq_by_cmp, name_cmp, true≢false, bytes_decides, same_name)

  -- another name leads where it led
  entered : (content : Content ℕ) (name : List ℕ) (object : ℕ) → bytes_eq entry name ≡ false
      → led_of (with_entries content (with_entry name object (entries_of content))) ≡ led_of content
  entered (Directory parent entries opaque) name object apart = entry_named-with_entry entry name object entries
      ∙ ap (λ b. cond b (Some object) (entry_named entry entries)) (other_tie name apart)
  entered (Regular bytes) name object apart = refl
  entered (Symlink text) name object apart = refl
  entered Whiteout name object apart = refl

  taken : (content : Content ℕ) (name : List ℕ) → bytes_eq entry name ≡ false
      → led_of (with_entries content (without_entry name (entries_of content))) ≡ led_of content
  taken (Directory parent entries opaque) name apart = grind (arith, common_steps, entry_named-without_entry)
  taken (Regular bytes) name apart = refl
  taken (Symlink text) name apart = refl
  taken Whiteout name apart = refl

  below : (content : Content ℕ) (parent : ℕ) → led_of (content_with_parent parent content) ≡ led_of content
  below (Directory old entries opaque) parent = refl
  below (Regular bytes) parent = refl
  below (Symlink text) parent = refl
  below Whiteout parent = refl

  rewritten : (content : Content ℕ) (bytes : List ℕ) → led_of (with_bytes content bytes) ≡ led_of content
  rewritten (Directory parent entries opaque) bytes = refl
  rewritten (Regular old) bytes = refl
  rewritten (Symlink text) bytes = refl
  rewritten Whiteout bytes = refl

  marked : (content : Content ℕ) (mark : Bool) → led_of (content_with_mark mark content) ≡ led_of content
  marked (Directory parent entries opaque) mark = refl
  marked (Regular bytes) mark = refl
  marked (Symlink text) mark = refl
  marked Whiteout mark = refl

  -- so in each node
  node_entered : (name : List ℕ) (object : ℕ) → bytes_eq entry name ≡ false → (o : Option (Node ℕ))
      → Stays Led o (node_with_entry name object o)
  node_entered name object apart None = tt
  node_entered name object apart (Some node) = entered node.content name object apart

  node_taken : (name : List ℕ) → bytes_eq entry name ≡ false → (o : Option (Node ℕ))
      → Stays Led o (node_without_entry name o)
  node_taken name apart None = tt
  node_taken name apart (Some node) = taken node.content name apart

  parents : KeptByParents Led
  parents parent None = tt
  parents parent (Some node) = below node.content parent

  node_rewritten : (bytes : List ℕ) (o : Option (Node ℕ)) → Stays Led o (node_with_bytes bytes o)
  node_rewritten bytes None = tt
  node_rewritten bytes (Some node) = rewritten node.content bytes

  node_marked : (mark : Bool) (o : Option (Node ℕ)) → Stays Led o (node_with_mark mark o)
  node_marked mark None = tt
  node_marked mark (Some node) = marked node.content mark

  node_attr : (attr : Attr) (o : Option (Node ℕ)) → Stays Led o (node_with_attr attr o)
  node_attr attr None = tt
  node_attr attr (Some node) = refl

  module _ (other : ℕ) where
    abbrev Kept : FileTree ℕ → FileTree ℕ → Type 0
    Kept = KeptIn Led other

    abbrev Apart : ℕ → List ℕ → Type 0
    Apart directory name = same_entry (other, entry) (directory, name) ≡ false

    -- in the directory itself the names are others
    other_name : (directory : ℕ) (name : List ℕ) → Apart directory name → other ≡ directory
        → bytes_eq entry name ≡ false
    other_name directory name apart same = cc (eq-eqb other directory same, apart)

    named : (directory : ℕ) (name : List ℕ) (object : ℕ) → Apart directory name → (files : FileTree ℕ)
        → Kept files (with_name nat_eq files directory name object)
    named directory name object apart files = at_node Led other files directory (node_with_entry name object) (λ same.
        node_entered name object (other_name directory name apart same) (files.tree.node directory))

    unnamed : (directory : ℕ) (name : List ℕ) → Apart directory name → (files : FileTree ℕ)
        → Kept files (without_name nat_eq files directory name)
    unnamed directory name apart files = at_node Led other files directory (node_without_entry name) (λ same.
        node_taken name (other_name directory name apart same) (files.tree.node directory))

    -- a new inode is another one
    abbrev NewApart : Change ℕ → Type 0
    NewApart (Make directory name number node) = nat_eq other number ≡ false
    NewApart change = Unit {0}

    first : (directory : ℕ) (name : List ℕ) (rest : List (ℕ × List ℕ))
        → is_among same_entry (other, entry) ((directory, name) ∷ rest) ≡ false
        → Apart directory name × (is_among same_entry (other, entry) rest ≡ false)
    first directory name rest e = or_parts _ (is_among same_entry (other, entry) rest) e

    kept : (files : FileTree ℕ) (change : Change ℕ) → NewApart change
        → is_among same_entry (other, entry) (entries_named_by change) ≡ false
        → Kept files (changed nat_eq files change)
    kept files (Make directory name number node) new apart = made_kept Led other files directory name number node new
        (named directory name number (first directory name [] apart).0)
    kept files (AddName directory name object) new apart =
        named directory name object (first directory name [] apart).0 files
    kept files (Remove directory name object) new apart = removed_kept Led other parents files directory name object
        (unnamed directory name (first directory name [] apart).0 files)
    kept files (Move from old to later object) new apart =
        let both = first from old ((to, later) ∷ []) apart in
        moved_kept Led other parents files from old to later object (unnamed from old both.0)
        (named to later object (first to later [] both.1).0)
    kept files (SetBytes file bytes) new apart =
        kept_at Led other files file (node_with_bytes bytes) (node_rewritten bytes)
    kept files (SetAttr object attr) new apart = kept_at Led other files object (node_with_attr attr) (node_attr attr)
    kept files (SetMark directory mark) new apart =
        kept_at Led other files directory (node_with_mark mark) (node_marked mark)
    kept files (CopyUp object) new apart = itself Led (files.tree.node other)

    module _ (fresh : Fresh ℕ) (world : World ℕ) (plain : IsPlain world) (filesystem : ℕ)
        (handed : IsNotHanded fresh other) where
      abbrev Was : Option (Node ℕ)
      Was = inode_in world filesystem other

      abbrev NewApartIn : Option (Location ℕ × Change ℕ) → Type 0
      NewApartIn None = Unit {0}
      NewApartIn (Some made) = NewApart made.1

      abbrev IsOther : Option (Location ℕ × Change ℕ) → Type 0
      IsOther made = holds_of (λ made.
          nat_eq filesystem (mount_at nat_eq world made.0).filesystem
          && is_among same_entry (other, entry) (entries_named_by made.1)) made ≡ false

      made_kept_by : (made : Option (Location ℕ × Change ℕ)) → NewApartIn made → IsOther made
          → MadeBy (Stays Led Was) filesystem other fresh world plain (itself Led Was) made
      made_kept_by None new apart = tt
      made_kept_by (Some made) new apart = grind (arith, common_steps, change_holds_if_kept, kept, eq-eqb)

      written_apart : (file : Location ℕ) (offset : ℕ) (bytes : List ℕ)
          → NewApartIn (change_of fresh world (ToWritePart file offset bytes))
      written_apart file offset [] = tt
      written_apart file offset (byte ∷ bytes) = tt

      new_apart : (task : Task ℕ) (call : Call) (permit : Permit ℕ) → IsFor (looks_of nat_eq world) task call permit
          → NewApartIn (change_of fresh world permit)
      new_apart task call (ToChange location (Make directory name number node)) for = absurd for
      new_apart task call (ToMake directory name node) for = handed 0
      new_apart task call (ToOpenNew directory name node access) for = handed 0
      new_apart task call (ToWritePart file offset bytes) for = written_apart file offset bytes
      new_apart task call permit for = tt

      left_kept : (task : Task ℕ) (call : Call) → mounts_overlay call ≡ false → (permit : Permit ℕ)
          → IsFor (looks_of nat_eq world) task call permit → IsOther (change_of fresh world permit)
          → LeftBy (Stays Led Was) filesystem other fresh world plain (itself Led Was) permit
      left_kept task call no_overlay (ToMountPlain place flags) for apart =
          λ same is. absurd (true≢false (sym (eq-eqb other (evens fresh 1) is) ∙ handed 2))
      left_kept task call no_overlay (ToMountOverlay place overlay flags) for apart =
          absurd (true≢false (sym (ap mounts_overlay for.2) ∙ no_overlay))
      left_kept task call no_overlay permit for apart =
          made_kept_by (change_of fresh world permit) (new_apart task call permit for) apart

pub other_entries_stay : OtherEntriesStay
other_entries_stay entry fresh world name call task permit filesystem other plain no_overlay is judged apart handed =
    inode_after_call (Stays (Led entry) was) filesystem other tt fresh world name call (itself (Led entry) was)
    (λ one given is_one judged_one.
    inode_left (Stays (Led entry) was) filesystem other fresh world plain (itself (Led entry) was) one given
    (left_kept entry other fresh world plain filesystem handed one call no_overlay given
    (permits_are_for_their_calls fresh world one call given judged_one) (let same : one ≡ task = cc in
    let same_permit : given ≡ permit =
    let both = sym judged_one ∙ ap (λ t. judge_in nat_eq fresh world t call) same ∙ judged in cc in
    ap (λ p. is_own_entry fresh world p filesystem other entry) same_permit ∙ apart)))
  where
    was : Option (Node ℕ)
    was = inode_in world filesystem other
