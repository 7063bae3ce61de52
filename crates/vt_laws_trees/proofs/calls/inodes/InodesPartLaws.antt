-- Each part of an inode is changed by its own calls alone.
use Rattle.std.proofs.Common.{arith, ◌≡◌, refl, ℕ, Bool, true, false, List, Option, Some, None}
use Rattle.vt_spec.proofs.Common.{Content, Directory, Entries, Node, Regular, Symlink, Whiteout, bytes_of, common_steps, content_with_mark, content_with_parent, entries_of, is_kind, kind_of, opaque_of, when, with_bytes, with_entries}
use Rattle.vt_laws_trees.proofs.calls.inodes.InodesParts.{KeptByBytes, KeptByMark, KeptByMode, KeptByNames, KeptByOwner, only_these}
use Rattle.vt_laws_trees.specs.Calls.Inodes.{KindsStay, LinkTextsStay, OnlyChmodChangesModes, OnlyChownChangesOwners, OnlyNamingChangesEntries, OnlyOpaqueChangesMarks, OnlyTheseChange, OnlyWritesChangeBytes, owner_of}
use Rattle.vt_spec.specs.declared.attributes.Attr.{Attr}
use Rattle.vt_spec.specs.declared.attributes.Kind.TheVariants.{Symlink as SymlinkKind}

-- what cannot be so
no_such : {P : Type 0} {b : Bool} → b ≡ false → b ≡ true → P
no_such isnt e = cc

-- a part of the content, and what keeps it
module _ {A : Type 0} (part : Content ℕ → A) where
  abbrev OfContent : Node ℕ → A
  OfContent node = part node.content

  abbrev EntriesKeep : Type 0
  EntriesKeep = (content : Content ℕ) (entries : Entries ℕ) → part (with_entries content entries) ≡ part content

  abbrev ParentsKeep : Type 0
  ParentsKeep = (content : Content ℕ) (parent : ℕ) → part (content_with_parent parent content) ≡ part content

  abbrev BytesKeep : Type 0
  BytesKeep = (content : Content ℕ) (bytes : List ℕ) → part (with_bytes content bytes) ≡ part content

  abbrev MarksKeep : Type 0
  MarksKeep = (content : Content ℕ) (mark : Bool) → part (content_with_mark mark content) ≡ part content

  names_kept : EntriesKeep → ParentsKeep → KeptByNames OfContent
  names_kept entries parents = grind (arith, common_steps)

  bytes_kept : BytesKeep → KeptByBytes OfContent
  bytes_kept same bytes None = tt
  bytes_kept same bytes (Some node) = same node.content bytes

  marks_kept : MarksKeep → KeptByMark OfContent
  marks_kept same mark None = tt
  marks_kept same mark (Some node) = same node.content mark

  mode_kept : KeptByMode OfContent
  mode_kept mode None = tt
  mode_kept mode (Some node) = refl

  owner_kept : KeptByOwner OfContent
  owner_kept uid gid None = tt
  owner_kept uid gid (Some node) = refl

-- a part of the attributes
module _ {A : Type 0} (part : Attr → A) where
  abbrev OfAttr : Node ℕ → A
  OfAttr node = part node.attr

  attr_names_kept : KeptByNames OfAttr
  attr_names_kept = grind (arith, common_steps)

  attr_bytes_kept : KeptByBytes OfAttr
  attr_bytes_kept bytes None = tt
  attr_bytes_kept bytes (Some node) = refl

  attr_marks_kept : KeptByMark OfAttr
  attr_marks_kept mark None = tt
  attr_marks_kept mark (Some node) = refl

-- The laws

bytes_without : EntriesKeep bytes_of
bytes_without (Directory parent old opaque) entries = refl
bytes_without (Regular bytes) entries = refl
bytes_without (Symlink text) entries = refl
bytes_without Whiteout entries = refl

bytes_below : ParentsKeep bytes_of
bytes_below (Directory old entries opaque) parent = refl
bytes_below (Regular bytes) parent = refl
bytes_below (Symlink text) parent = refl
bytes_below Whiteout parent = refl

bytes_marked : MarksKeep bytes_of
bytes_marked (Directory parent entries opaque) mark = refl
bytes_marked (Regular bytes) mark = refl
bytes_marked (Symlink text) mark = refl
bytes_marked Whiteout mark = refl

pub only_writes_change_bytes : OnlyWritesChangeBytes
only_writes_change_bytes fresh world name call filesystem number plain no_overlay isnt handed = only_these _
    fresh world name call filesystem number plain no_overlay handed (λ e. names_kept bytes_of bytes_without bytes_below)
    (no_such isnt) (λ e. mode_kept bytes_of) (λ e. owner_kept bytes_of) (λ e. marks_kept bytes_of bytes_marked)

pub only_chmod_changes_modes : OnlyChmodChangesModes
only_chmod_changes_modes fresh world name call filesystem number plain no_overlay isnt handed = only_these _
    fresh world name call filesystem number plain no_overlay handed (λ e. attr_names_kept (λ attr. attr.mode))
    (λ e. attr_bytes_kept (λ attr. attr.mode)) (no_such isnt) (λ e. owner) (λ e. attr_marks_kept (λ attr. attr.mode))
  where
    owner : KeptByOwner (OfAttr (λ attr. attr.mode))
    owner uid gid None = tt
    owner uid gid (Some node) = refl

pub only_chown_changes_owners : OnlyChownChangesOwners
only_chown_changes_owners fresh world name call filesystem number plain no_overlay isnt handed =
    only_these owner_of fresh world name call filesystem number plain no_overlay handed
    (λ e. attr_names_kept (λ attr. (attr.uid, attr.gid))) (λ e. attr_bytes_kept (λ attr. (attr.uid, attr.gid)))
    (λ e. mode) (no_such isnt) (λ e. attr_marks_kept (λ attr. (attr.uid, attr.gid)))
  where
    mode : KeptByMode owner_of
    mode bits None = tt
    mode bits (Some node) = refl

entries_written : BytesKeep entries_of
entries_written (Directory parent entries opaque) bytes = refl
entries_written (Regular old) bytes = refl
entries_written (Symlink text) bytes = refl
entries_written Whiteout bytes = refl

entries_marked : MarksKeep entries_of
entries_marked (Directory parent entries opaque) mark = refl
entries_marked (Regular bytes) mark = refl
entries_marked (Symlink text) mark = refl
entries_marked Whiteout mark = refl

pub only_naming_changes_entries : OnlyNamingChangesEntries
only_naming_changes_entries fresh world name call filesystem number plain no_overlay isnt handed = only_these _
    fresh world name call filesystem number plain no_overlay handed (no_such isnt) (λ e. bytes_kept _ entries_written)
    (λ e. mode_kept entries_of) (λ e. owner_kept entries_of) (λ e. marks_kept entries_of entries_marked)

mark_without : EntriesKeep opaque_of
mark_without (Directory parent old opaque) entries = refl
mark_without (Regular bytes) entries = refl
mark_without (Symlink text) entries = refl
mark_without Whiteout entries = refl

mark_below : ParentsKeep opaque_of
mark_below (Directory old entries opaque) parent = refl
mark_below (Regular bytes) parent = refl
mark_below (Symlink text) parent = refl
mark_below Whiteout parent = refl

mark_written : BytesKeep opaque_of
mark_written (Directory parent entries opaque) bytes = refl
mark_written (Regular old) bytes = refl
mark_written (Symlink text) bytes = refl
mark_written Whiteout bytes = refl

pub only_opaque_changes_marks : OnlyOpaqueChangesMarks
only_opaque_changes_marks fresh world name call filesystem number plain no_overlay isnt handed = only_these _
    fresh world name call filesystem number plain no_overlay handed (λ e. names_kept opaque_of mark_without mark_below)
    (λ e. bytes_kept opaque_of mark_written) (λ e. mode_kept opaque_of) (λ e. owner_kept opaque_of) (no_such isnt)

-- what no change of content changes
module _ {A : Type 0} (part : Content ℕ → A) (entries : EntriesKeep part) (parents : ParentsKeep part)
    (bytes : BytesKeep part) (marks : MarksKeep part) where
  never_changes : OnlyTheseChange (λ call. false) (OfContent part)
  never_changes fresh world name call filesystem number plain no_overlay isnt handed =
      only_these (OfContent part) fresh world name call filesystem number plain no_overlay handed
      (λ e. names_kept part entries parents) (λ e. bytes_kept part bytes) (λ e. mode_kept part) (λ e. owner_kept part)
      (λ e. marks_kept part marks)

kind_without : EntriesKeep kind_of
kind_without (Directory parent old opaque) entries = refl
kind_without (Regular bytes) entries = refl
kind_without (Symlink text) entries = refl
kind_without Whiteout entries = refl

kind_below : ParentsKeep kind_of
kind_below (Directory old entries opaque) parent = refl
kind_below (Regular bytes) parent = refl
kind_below (Symlink text) parent = refl
kind_below Whiteout parent = refl

kind_written : BytesKeep kind_of
kind_written (Directory parent entries opaque) bytes = refl
kind_written (Regular old) bytes = refl
kind_written (Symlink text) bytes = refl
kind_written Whiteout bytes = refl

kind_marked : MarksKeep kind_of
kind_marked (Directory parent entries opaque) mark = refl
kind_marked (Regular bytes) mark = refl
kind_marked (Symlink text) mark = refl
kind_marked Whiteout mark = refl

pub kinds_stay : KindsStay
kinds_stay = never_changes kind_of kind_without kind_below kind_written kind_marked

-- a link's text
abbrev text_of : Content ℕ → Option (List ℕ)
text_of content = when (is_kind SymlinkKind (kind_of content)) (bytes_of content)

text_without : EntriesKeep text_of
text_without (Directory parent old opaque) entries = refl
text_without (Regular bytes) entries = refl
text_without (Symlink text) entries = refl
text_without Whiteout entries = refl

text_below : ParentsKeep text_of
text_below (Directory old entries opaque) parent = refl
text_below (Regular bytes) parent = refl
text_below (Symlink text) parent = refl
text_below Whiteout parent = refl

text_written : BytesKeep text_of
text_written (Directory parent entries opaque) bytes = refl
text_written (Regular old) bytes = refl
text_written (Symlink text) bytes = refl
text_written Whiteout bytes = refl

text_marked : MarksKeep text_of
text_marked (Directory parent entries opaque) mark = refl
text_marked (Regular bytes) mark = refl
text_marked (Symlink text) mark = refl
text_marked Whiteout mark = refl

pub link_texts_stay : LinkTextsStay
link_texts_stay = never_changes text_of text_without text_below text_written text_marked
