-- The sweep leaves a filesystem what it was, but for inodes that nothing uses.
use Rattle.std.proofs.Common.{arith, ◌≡◌, refl, ◌∙◌, inl, inr, ⊎_elim, ℕ, nat_eq, Bool, true, false, cond, List, Option, Some, None, sym, subst, option_map}
use Rattle.vt_spec.proofs.Common.{Among, Filesystem, Overlay, World, among-from_filter, among-from_map, common_steps, filesystem_lives, is_among, is_overlay, only_used, only_used_by, real_among, settled, without_dead_filesystems, without_dead_in, without_dead_mounts}
use Rattle.vt_laws_turns.specs.Frames.Unraised.{IsLeftOrGone, KeepsFilesystem, KeepsOverlay}

-- it is what it was, and has its number and its change number
pub record Stays (before later : Filesystem ℕ) : Type 0 where
  pub number : later.number ≡ before.number
  pub change : later.change ≡ before.change
  pub kept : KeepsFilesystem before later

same_overlay : (o : Option (Overlay ℕ)) → KeepsOverlay o o
same_overlay None = tt
same_overlay (Some overlay) = (refl, λ inode. inr refl)

pub same_kept : (f : Filesystem ℕ) → KeepsFilesystem f f
same_kept f = record { root = refl; overlay = same_overlay f.overlay; inodes = λ inode. inr refl }

left_on : {A : Type 0} (a b c : Option A) → IsLeftOrGone a b → IsLeftOrGone b c → IsLeftOrGone a c
left_on a b c r s = ⊎_elim inl (λ same. ⊎_elim (λ gone. inl (cc)) (λ e. inr (same ∙ e)) r) s

overlay_on : (a b c : Option (Overlay ℕ)) → KeepsOverlay a b → KeepsOverlay b c → KeepsOverlay a c
overlay_on a b c r s = grind (arith, common_steps, left_on)

pub kept_on : (a b c : Filesystem ℕ) → KeepsFilesystem a b → KeepsFilesystem b c → KeepsFilesystem a c
kept_on a b c r s = grind (arith, common_steps, overlay_on, left_on)

stays_on : (a b c : Filesystem ℕ) → Stays a b → Stays b c → Stays a c
stays_on a b c r s = grind (arith, common_steps, kept_on)

same_stays : (f : Filesystem ℕ) → Stays f f
same_stays f = record { number = refl; change = refl; kept = same_kept f }

-- what is used is left
chosen : {A : Type 0} (b : Bool) (o : Option A) → IsLeftOrGone o (cond b o None)
chosen true o = inr refl
chosen false o = inl refl

among_overlay : (used : List ℕ) (o : Option (Overlay ℕ)) → KeepsOverlay o (option_map (real_among nat_eq used) o)
among_overlay used None = tt
among_overlay used (Some overlay) = (refl, λ inode. chosen (is_among nat_eq inode used) (overlay.real inode))

used_stays : (all : Bool) (used : List ℕ) (f : Filesystem ℕ) → Stays f (only_used_by nat_eq all used f)
used_stays all used f = grind (arith, common_steps, same_stays, among_overlay, chosen)

only_used_stays : (world : World ℕ) (b : Bool) (f : Filesystem ℕ) → Stays f (only_used nat_eq world b f)
only_used_stays world b f = grind (arith, common_steps, used_stays, same_stays)

-- each filesystem that is left was there, and stays
pub swept_stays : (world : World ℕ) (f : Filesystem ℕ) → Among f (settled nat_eq world).filesystems
    → (before : Filesystem ℕ) × Among before world.filesystems × Stays before f
swept_stays world f m =
    let lives : World ℕ = without_dead_filesystems nat_eq (without_dead_mounts nat_eq world) in
    let merged : World ℕ = without_dead_in nat_eq is_overlay lives in
    let last = among-from_map _ merged.filesystems f m in
    let first = among-from_map _ lives.filesystems last.0 last.1 in
    let was = among-from_filter (filesystem_lives nat_eq (without_dead_mounts nat_eq world)) world.filesystems first.0
    first.1 in (
      first.0,
      was.0,
      stays_on first.0 last.0 f (subst (Stays first.0) (sym first.2) (only_used_stays lives (is_overlay first.0)
          first.0)) (subst (Stays last.0) (sym last.2) (only_used_stays merged _ last.0)),
    )
