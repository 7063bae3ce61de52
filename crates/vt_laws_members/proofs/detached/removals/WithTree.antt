-- A filesystem that a sealed set uses alone gets another tree: its layers stay, and the others are as they were.
use Rattle.std.proofs.Common.{arith, ◌≡◌, refl, ap, ◌⊎◌, inl, inr, ℕ, nat_eq, eqb-true, Bool, true, false, true≢false, List, is_some}
use Rattle.vt_spec.proofs.Common.{Among, FileTree, Filesystem, TaskName, World, common_steps, false_from_ne_true, is_among}
use Rattle.vt_laws_members.proofs.changes.files.FilesRaised.{swap}
use Rattle.vt_laws_members.proofs.changes.letting_go.Ready.{Alone}
use Rattle.vt_laws_members.proofs.overlay_names.names.SteppedReady.{ChangesTheirs}

swap_numbered : (old : Filesystem ℕ) (files : FileTree ℕ) (x : Filesystem ℕ) → (swap old files x).number ≡ x.number
swap_numbered old files x = grind (arith, common_steps, eqb-true)

swap_overlaid : (old : Filesystem ℕ) (files : FileTree ℕ) (x : Filesystem ℕ)
    → (nat_eq old.number x.number ≡ true → x ≡ old) → (swap old files x).overlay ≡ x.overlay
swap_overlaid old files x one = grind (arith, common_steps)

swap_kept : (old : Filesystem ℕ) (files : FileTree ℕ) (x : Filesystem ℕ) → nat_eq old.number x.number ≡ false
    → swap old files x ≡ x
swap_kept old files x e = cc

module _ {a : World ℕ} {set : List TaskName} (used : List ℕ) (old : Filesystem ℕ) (files : FileTree ℕ)
    (one : (x : Filesystem ℕ) → Among x a.filesystems → nat_eq old.number x.number ≡ true → x ≡ old)
    (alone : Alone a set old.number) (in_use : is_among nat_eq old.number used ≡ true) where
  layered_as : (x : Filesystem ℕ) → Among x a.filesystems → (swap old files x).overlay ≡ x.overlay
  layered_as x m = swap_overlaid old files x (one x m)

  apart : (x : Filesystem ℕ) → is_among nat_eq x.number used ≡ false → nat_eq old.number x.number ≡ false
  apart x unused = false_from_ne_true _ (λ e. true≢false (cc (eqb-true old.number x.number e)))

  moved_or_kept : (x : Filesystem ℕ) (b : Bool) → nat_eq old.number x.number ≡ b
      → (swap old files x ≡ x) ⊎ Alone a set x.number
  moved_or_kept x true e = inr (rw (← eqb-true old.number x.number e) alone)
  moved_or_kept x false e = inl (swap_kept old files x e)

  pub changes_theirs : ChangesTheirs a set used (swap old files)
  changes_theirs = record {
    numbered = swap_numbered old files;
    layers = λ x m. cc (layered_as x m);
    changing = λ x m. cc (layered_as x m);
    lowering = λ x m. cc (layered_as x m);
    overlaid = λ x m. ap is_some (layered_as x m);
    kept = λ x unused. swap_kept old files x (apart x unused);
    moved = λ x m. moved_or_kept x (nat_eq old.number x.number) refl;
  }
