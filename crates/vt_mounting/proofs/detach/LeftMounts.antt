-- A mount that leaves its namespace, and goes at once if nothing uses it.
use Rattle.std.proofs.Common.{◌≡◌, refl, sym, ap, ◌∙◌, ℕ, nat_eq, Bool, true≢false, cond, List, [], ◌∷◌, IfSome, Option, Some, None, option_map, is_some, arith}
use Rattle.vt_spec.proofs.Common.{common_steps, holds_of}
use Rattle.vt_location.specs.declared.locations.Location.{Location}
use Rattle.vt_location.specs.declared.locations.NodeRef.{NodeRef}
use Rattle.vt_mounting.proofs.Common.{MountEntry, StoreValue, changed, counted, entry_numbered, number_of, without}
use Rattle.vt_mounting.specs.Detach.Stored.{kept}
use Rattle.vt_mounting.specs.Detach.Uses.{Kept, detached_entry, detached_use, let_go_entry, let_go_mount, leave_filesystem, root_left, unpinned_at, unpinned_in, without_attachment, without_mount}

found_detached : (number : ℕ) (all : List MountEntry)
    → entry_numbered (changed number detached_entry all) number
    ≡ option_map detached_entry (entry_numbered all number)
found_detached number [] = refl
found_detached number (entry ∷ rest) = grind (arith, common_steps, found_detached number rest)

without_detached : (number : ℕ) (all : List MountEntry)
    → without number (changed number detached_entry all) ≡ without number all
without_detached number [] = refl
without_detached number (entry ∷ rest) = grind (arith, common_steps, without_detached number rest)

-- whatever the mounts are, a root is left in the same way
pub left_beside : (mounts : List MountEntry) (root : Option NodeRef) (old new : StoreValue)
    → kept [] new ≡ root_left root (kept [] old) → kept mounts new ≡ root_left root (kept mounts old)
left_beside mounts None old new is = λ i.
    record { mounts = mounts; filesystems = (is i).filesystems; overlays = (is i).overlays }
left_beside mounts (Some root) old new is = λ i.
    record { mounts = mounts; filesystems = (is i).filesystems; overlays = (is i).overlays }

module _ (number : ℕ) (k : Kept) (point : Option Location) where
  -- what is left beside its root
  abbrev pub left_of : Bool → Kept
  left_of gone = record {
    mounts = cond gone (without number k.mounts) (changed number detached_entry k.mounts);
    filesystems = unpinned_at point k.filesystems;
    overlays = k.overlays;
  }

  abbrev there : Kept
  there = detached_use number point k

  abbrev is_idle : MountEntry → Bool
  is_idle entry = nat_eq entry.uses 0

  looked : (o : Option MountEntry) → entry_numbered k.mounts number ≡ o
      → let_go_mount number there ≡ let_go_entry number there (option_map detached_entry o)
  looked o is = ap (let_go_entry number there) (found_detached number k.mounts ∙ ap (option_map detached_entry) is)

  pub leaves : (root : Option NodeRef)
      → IfSome root (λ root. option_map (λ (entry : MountEntry). entry.mount.filesystem) (entry_numbered k.mounts number)
      ≡ Some (counted root.filesystem.count))
      → IfSome root (λ root. option_map (λ (entry : MountEntry). entry.mount.root) (entry_numbered k.mounts number)
      ≡ Some (number_of root))
      → is_some root ≡ holds_of is_idle (entry_numbered k.mounts number)
      → root_left root (left_of (is_some root)) ≡ without_attachment number point k
  leaves root filesystem node idle = by root (entry_numbered k.mounts number) refl filesystem node idle
    where
      by : (root : Option NodeRef) (o : Option MountEntry) → entry_numbered k.mounts number ≡ o
          → IfSome root (λ root. option_map (λ (entry : MountEntry). entry.mount.filesystem) o
          ≡ Some (counted root.filesystem.count))
          → IfSome root (λ root. option_map (λ (entry : MountEntry). entry.mount.root) o ≡ Some (number_of root))
          → is_some root ≡ holds_of is_idle o
          → root_left root (left_of (is_some root)) ≡ let_go_mount number there
      by None None is filesystem node idle = sym (looked None is)
      by None (Some entry) is filesystem node idle = sym (looked (Some entry) is
          ∙ ap (λ b. cond b (without_mount number (detached_entry entry).mount there) there) (sym idle))
      by (Some root) None is filesystem node idle = absurd (true≢false idle)
      by (Some root) (Some entry) is filesystem node idle =
          let f : entry.mount.filesystem ≡ counted root.filesystem.count = cc in
          let n : entry.mount.root ≡ number_of root = cc in
          sym (looked (Some entry) is
          ∙ ap (λ b. cond b (without_mount number (detached_entry entry).mount there) there) (sym idle)
          ∙ (λ i. leave_filesystem (f i) (record {
            mounts = without_detached number k.mounts i;
            filesystems = unpinned_in (f i, n i) (unpinned_at point k.filesystems);
            overlays = k.overlays;
          })))
