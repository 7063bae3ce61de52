-- The rules of calls that change owner, mode and mark.
use Rattle.std.specs.Prelude.{Bool, [], not, ◌∷◌}
use Rattle.vt_spec.specs.Errors.{Rules}
use Rattle.vt_spec.specs.Language.Changes.Change.{SetAttr}
use Rattle.vt_spec.specs.FileTree.{attr_in}
use Rattle.vt_spec.specs.Machine.Looks.{Looks}
use Rattle.vt_spec.specs.Machine.Mounts.{Location}
use Rattle.vt_spec.specs.Machine.Rules.Conditions.{has_no_upper, is_overlay_at, is_read_only}
use Rattle.vt_spec.specs.declared.attributes.Attr.{Attr}
use Rattle.vt_spec.specs.declared.errors.Rule.TheVariants.{C2, F1, F2, L1, O4}

module _ {N : Type 0} where
  -- owner, group and mode of the object: inode(7)
  abbrev pub attr_at : Looks N → Location N → Attr
  attr_at looks object = attr_in (looks.node object)

  -- an attribute is changed, by one who may: EROFS, EPERM of chmod(2), chown(2)
  abbrev pub attr_rules : Looks N → Location N → (permitted : Bool) → Attr → Rules
  attr_rules looks object allowed attr =
      (is_read_only looks object, F1)
      ∷ (has_no_upper looks object, F2)
      ∷ (looks.is_locked object, L1)
      ∷ (not allowed, C2)
      ∷ looks.mounter_rules object (SetAttr object.node attr)

  -- the opaque mark: setxattr(2) of trusted.overlay.opaque, which needs CAP_SYS_ADMIN; not through an overlay (profile)
  abbrev pub opaque_rules : Looks N → Location N → Rules
  opaque_rules looks directory =
      (is_read_only looks directory, F1)
      ∷ (has_no_upper looks directory, F2)
      ∷ (looks.is_locked directory, L1)
      ∷ (is_overlay_at looks directory, O4)
      ∷ []
