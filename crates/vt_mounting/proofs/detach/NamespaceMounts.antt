-- The mounts of a namespace, while tasks leave uses: a mount that goes with its last use is in no namespace.
use Rattle.std.proofs.Common.{◌≡◌, refl, sym, ap, subst, ◌∙◌, ℕ, nat_eq, eqb-true, Bool, true, false, cond, not, List, [], ◌∷◌, filter, Option, Some, None, is_some}
use Rattle.vt_spec.proofs.Common.{Mount, World, folded, not-false, same_Some}
use Rattle.vt_mounting.proofs.Common.{Inode, MountEntry, OneNumberAMount, WorldValue, among-from_map, entry_numbered, filter_less, mounts_in, released, world_of}
use Rattle.vt_mounting.specs.Detach.Uses.{Kept, is_unused, let_go_entry, let_go_mount, without_mount}
use Rattle.vt_mounting.proofs.detach.Going.{map_filtered}
use Rattle.vt_mounting.proofs.detach.LostUses.{entry_itself, mounts_unchanged}
use Rattle.vt_mounting.proofs.detach.Midway.{MayLeave, Reached, one_number_kept, unused_parts}
use Rattle.vt_mounting.proofs.detach.MidwayDone.{leave_use, leaves_one}
use Rattle.vt_mounting.proofs.detach.Moving.{Use, lose}

module _ (p : Mount ℕ → Bool) (nowhere : (mount : Mount ℕ) → is_some mount.namespace ≡ false → p mount ≡ false) where
  -- one mount is looked at
  inside_kept : (number : ℕ) (k : Kept) → OneNumberAMount (mounts_in k.mounts)
      → filter p (mounts_in (let_go_mount number k).mounts) ≡ filter p (mounts_in k.mounts)
  inside_kept number k one = by (entry_numbered k.mounts number) refl
    where
      by : (o : Option MountEntry) → entry_numbered k.mounts number ≡ o
          → filter p (mounts_in (let_go_entry number k o).mounts) ≡ filter p (mounts_in k.mounts)
      by None e = refl
      by (Some entry) e = chosen (is_unused entry) refl
        where
          chosen : (b : Bool) → is_unused entry ≡ b
              → filter p (mounts_in (cond b (without_mount number entry.mount k) k).mounts)
              ≡ filter p (mounts_in k.mounts)
          chosen false unused = refl
          chosen true unused = ap (filter p) (map_filtered (λ (x : MountEntry). x.mount)
              (λ (x : MountEntry). not (nat_eq number x.mount.number))
              (λ (x : Mount ℕ). not (nat_eq number x.number)) (λ x. refl) k.mounts)
              ∙ filter_less p (λ (x : Mount ℕ). not (nat_eq number x.number)) (mounts_in k.mounts) (λ x m its.
              let from = among-from_map (λ (y : MountEntry). y.mount) k.mounts x m in
              let same : from.0 ≡ entry = same_Some from.0 entry (sym (entry_itself k.mounts one from.0 from.1)
              ∙ ap (λ (y : Mount ℕ). entry_numbered k.mounts y.number) (sym from.2)
              ∙ ap (entry_numbered k.mounts) (sym (eqb-true number x.number (not-false (nat_eq number x.number) its)))
              ∙ e) in
              ap p (from.2 ∙ ap (λ (y : MountEntry). y.mount) same) ∙ nowhere entry.mount (unused_parts entry unused).0)

  module _ {value : WorldValue} {start : World ℕ} {gained : List Inode} {goes : Mount ℕ → Bool}
      (may : MayLeave value goes) where
    -- all uses are left
    pub inside_stays : (left : List Use) (k : Kept) → Reached value start gained goes left k
        → filter p (mounts_in (folded (leave_use (world_of value)) k left).mounts) ≡ filter p (mounts_in k.mounts)
    inside_stays [] k at = refl
    inside_stays (u ∷ left) k at =
        let same : mounts_in (lose (world_of value) k u).mounts ≡ mounts_in k.mounts =
        mounts_unchanged u.location.mount (released u.writes) k.mounts (λ entry. refl) in
        cc (
          inside_stays left (leave_use (world_of value) k u) (leaves_one may at),
          inside_kept u.location.mount (lose (world_of value) k u) (subst OneNumberAMount (sym same)
              (one_number_kept goes (mounts_in k.mounts) (subst OneNumberAMount at.midway.mounts
              at.midway.stand.one_number))),
        )
