-- What is asked of the mount of each number is asked of each mount.
use Rattle.std.proofs.Common.{◌≡◌, ℕ, Bool, List, map, find, nat_eq, sym, ap, ◌∙◌}
use Rattle.vt_spec.proofs.Common.{holds_of, keys_of, list_any, lookup}
use Rattle.std.specs.List.{IsDistinct}
use Rattle.vt_spec.specs.Machine.Mounts as meant
use Rattle.vt_location.specs.declared.numbers.MountId.{MountId}
use Rattle.vt_location.specs.Numbers.{counted, same_id}
use Rattle.vt_location.proofs.AskedLemmas.{any_mapped, any_same, asked-in_order, holds_mapped}
use Rattle.vt_mount.specs.declared.mounted.Mounted.{Mounted}
use Rattle.vt_mount.specs.Named.{NameEach}
use Rattle.vt_mount.specs.MountsValue.{MountEntry, entries_of, entry_of, in_order, mounts_in}
use Rattle.vt_mount.proofs.EntryLemmas.{kept-mount, mount_under}
use Rattle.vt_mount.proofs.OrderLemmas.{count_of, in_order-is}

module _ (test : meant.Mount ℕ → Bool) where
  abbrev passes : MountId × Mounted → Bool
  passes one = test (mount_under one.0 one.1)

  listed : (kept : List (MountId × Mounted)) → list_any passes kept ≡ list_any test (mounts_in (map entry_of kept))
  listed kept = sym (any_mapped test (λ (entry : MountEntry). entry.mount) (map entry_of kept)
      ∙ any_mapped (λ (entry : MountEntry). test entry.mount) entry_of kept)

  asked : (es : List (MountId × Mounted)) (id : MountId)
      → holds_of test (find (λ mount. nat_eq (counted id.count) mount.number) (mounts_in (entries_of es)))
      ≡ holds_of (λ one. passes (id, one)) (lookup (same_id id) es)
  asked es id = ap (holds_of test) (kept-mount id es) ∙ holds_mapped test (mount_under id) (lookup (same_id id) es)

pub name-each : (es : List (MountId × Mounted)) → IsDistinct same_id (keys_of es) → NameEach (keys_of es) (entries_of es)
name-each es distinct test = any_same _ _ (asked test es) (keys_of es)
    ∙ asked-in_order count_of (passes test) es distinct
    ∙ ap (list_any (passes test)) (sym (in_order-is es)) ∙ listed test (in_order es)
