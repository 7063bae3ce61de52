-- Owner, group and mode as chmod(2) and chown(2) set them.
use Rattle.std.specs.Prelude.{Bool, Option, unwrap_or, ℕ, ◌&&◌, ◌==◌, ◌||◌}
use Rattle.vt_spec.specs.declared.attributes.Attr.{Attr}
use Rattle.vt_spec.specs.Rights.{Credentials, cap_chown, has_all, is_member}

-- chmod(2)
abbrev pub attr_with_mode : Attr → ℕ → Attr
attr_with_mode attr mode = record { uid = attr.uid; gid = attr.gid; mode = mode }

-- other owner and group, where they are given: chown(2)
abbrev pub attr_with_owner : Attr → Option ℕ → Option ℕ → Attr
attr_with_owner attr uid gid = record { uid = unwrap_or uid attr.uid; gid = unwrap_or gid attr.gid; mode = attr.mode }

-- the owner alone, to one of his own groups, without CAP_CHOWN: chown(2), capabilities(7)
abbrev pub may_chown : Credentials → Attr → Attr → Bool
may_chown who old new =
    has_all who.capabilities cap_chown
    || (who.uid == old.uid && new.uid == old.uid && (new.gid == old.gid || is_member who new.gid))
