-- The rules of calls that make a name, and write.
use Rattle.std.specs.Prelude.{Bool, List, [], is_some, length, nat_lt, not, ℕ, ◌||◌, ◌∷◌}
use Rattle.vt_spec.specs.Errors.{Rules}
use Rattle.vt_spec.specs.Language.Changes.{Change}
use Rattle.vt_spec.specs.Language.Changes.Change.{SetBytes}
use Rattle.vt_spec.specs.Machine.Looks.{Looks, is_directory_at}
use Rattle.vt_spec.specs.Machine.Mounts.{Location}
use Rattle.vt_spec.specs.Machine.Rules.Conditions.{has_no_upper, is_overlay_at, is_read_only, kind_at, may_not, mounter_may_not}
use Rattle.vt_spec.specs.Machine.Walking.{Place, is_special}
use Rattle.vt_spec.specs.Machine.World.{Task}
use Rattle.vt_spec.specs.PathText.{is_empty}
use Rattle.vt_spec.specs.Language.Limits.{largest_file, longest_path}
use Rattle.vt_spec.specs.Rights.{write_right}
use Rattle.vt_spec.specs.declared.attributes.Kind.TheVariants.{White}
use Rattle.vt_spec.specs.declared.errors.Rule.TheVariants.{B1, C1, E1, E2, E6, E7, E9, F1, F2, L1, O4, P2, W1, W2}

-- W1 and W2 of a symlink's text as a whole: symlink(2), ENOENT and ENAMETOOLONG
abbrev pub symlink_text_rules : List ℕ → Rules
symlink_text_rules text =
    (is_empty text, W1)
    ∷ (nat_lt longest_path (length text), W2)
    ∷ []

module _ {N : Type 0} where
  -- a last word that names nothing new: mkdir(2), EEXIST
  abbrev pub new_word_rules : Place N → Rules
  new_word_rules place =
      (is_special place.last, E1)
      ∷ (is_some place.object, E1)
      ∷ []

  -- a last word that names no file, open(2): EISDIR
  abbrev pub file_word_rules : Place N → Rules
  file_word_rules place = (is_special place.last || place.slash, E2) ∷ []

  -- a name is made in a directory, after the rules on the name itself: mkdir(2), symlink(2), open(2) with O_CREAT:
  -- EROFS, EACCES
  abbrev pub make_rules : Looks N → Task N → Place N → Change N → Rules
  make_rules looks task place change =
      (is_read_only looks place.parent, F1)
      ∷ (has_no_upper looks place.parent, F2)
      ∷ (looks.is_locked place.parent, L1)
      ∷ (may_not looks task place.parent write_right, C1)
      ∷ (mounter_may_not looks place.parent write_right, B1)
      ∷ looks.mounter_rules place.parent change

  -- mknod(2) of the character device 0/0; not through an overlay (profile)
  abbrev pub whiteout_rules : Looks N → Task N → Place N → Rules
  whiteout_rules looks task place =
      (is_special place.last, E1)
      ∷ (is_some place.object, E1)
      ∷ (is_read_only looks place.parent, F1)
      ∷ (has_no_upper looks place.parent, F2)
      ∷ (looks.is_locked place.parent, L1)
      ∷ (may_not looks task place.parent write_right, C1)
      ∷ (is_overlay_at looks place.parent, O4)
      ∷ []

  -- write(2) after open(2) with O_TRUNC of a file that exists: EISDIR, EFBIG, ENXIO, EROFS, EACCES
  abbrev pub rewrite_rules : Looks N → Task N → Location N → List ℕ → Rules
  rewrite_rules looks task file bytes =
      (is_directory_at looks file, E2)
      ∷ (nat_lt largest_file (length bytes), E6)
      ∷ (kind_at looks file White, E9)
      ∷ (is_read_only looks file, F1)
      ∷ (has_no_upper looks file, F2)
      ∷ (looks.is_locked file, L1)
      ∷ (may_not looks task file write_right, C1)
      ∷ (mounter_may_not looks file write_right, B1)
      ∷ looks.mounter_rules file (SetBytes file.node bytes)

module _ {N : Type 0} (eq : N → N → Bool) where
  -- link(2): EEXIST, EPERM, EROFS, EXDEV, EACCES
  abbrev pub hard_link_rules : Looks N → Task N → Location N → Place N → Change N → Rules
  hard_link_rules looks task old place change =
      (is_some place.object, E1)
      ∷ (is_directory_at looks old, E7)
      ∷ (is_read_only looks place.parent, F1)
      ∷ (has_no_upper looks place.parent, F2)
      ∷ (looks.is_locked old || looks.is_locked place.parent, L1)
      ∷ (not (eq old.mount place.parent.mount), P2)
      ∷ (may_not looks task place.parent write_right, C1)
      ∷ (mounter_may_not looks place.parent write_right, B1)
      ∷ looks.mounter_rules place.parent change
