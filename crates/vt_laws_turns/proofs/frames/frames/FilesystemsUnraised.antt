-- A filesystem whose change number is what it was is what it was, but for what nothing uses.
use Rattle.std.proofs.Common.{◌≡◌, ◌≢◌, refl, sym, ap, subst, ◌∙◌, inl, ℕ, nat_eq, true≢false, cond, List, ◌*◌, Option, Some, None, find, eqb-true, eq-eqb, arith, option_map, unwrap_or}
use Rattle.vt_spec.proofs.Common.{Among, Filesystem, Fresh, Permit, Task, TaskName, World, apply, common_steps, filesystem_change_of, filesystem_numbered, filesystems_changed, found_among, found_passes, last_number, list_any, no_filesystem, numbers_raised, raised, raised_if_changed, settled}
use Rattle.vt_laws_turns.proofs.Common.{found_by, named_leaves, unused_by_filesystem}
use Rattle.vt_laws_turns.specs.Frames.Unraised.{IsCallIn, IsFilesystemUnraised, KeepsFilesystem, UnraisedFilesystemsStay}
use Rattle.vt_laws_turns.proofs.frames.frames.FilesystemsGoOn.{GoesOn, filesystems_go_on}
use Rattle.vt_laws_turns.proofs.frames.frames.FilesystemsGoOn.GoesOn.{Changed, New, Old}
use Rattle.vt_laws_turns.proofs.frames.frames.SameMounts.{rises}
use Rattle.vt_laws_turns.proofs.frames.frames.SweptFilesystems.{Stays, kept_on, same_kept, swept_stays}
use Rattle.vt_laws_turns.proofs.frames.frames.Unraised.{not_stale}
use Rattle.vt_laws_turns.proofs.frames.Found.{found_map}

-- the change number of a filesystem that was found, or of none
abbrev pub change_in : Option (Filesystem ℕ) → ℕ
change_in found = unwrap_or (option_map (λ (f : Filesystem ℕ). f.change) found) last_number

module _ {world : World ℕ} {fresh : Fresh ℕ} (given : IsCallIn world fresh) (number : ℕ) (name : TaskName)
    (task : Task ℕ) (permit : Permit ℕ) where
  abbrev found_in : List (Filesystem ℕ) → Option (Filesystem ℕ)
  found_in list = find (λ (f : Filesystem ℕ). nat_eq number f.number) list

  abbrev applied : World ℕ
  applied = (apply nat_eq fresh world task permit).world

  abbrev changed : List ℕ
  changed = filesystems_changed nat_eq world permit

  abbrev later : World ℕ
  later = numbers_raised nat_eq world name changed (settled nat_eq applied)

  abbrev raise : Filesystem ℕ → Filesystem ℕ
  raise = raised_if_changed nat_eq changed

  raise_number : (f : Filesystem ℕ) → (raise f).number ≡ f.number
  raise_number f = grind (arith, common_steps)

  raise_keeps : (f : Filesystem ℕ) → KeepsFilesystem f (raise f)
  raise_keeps f = grind (arith, common_steps, same_kept)

  module _ (unraised : IsFilesystemUnraised world later number) where
    abbrev held : ℕ
    held = filesystem_change_of nat_eq world number

    same_now : (held ≡ filesystem_change_of nat_eq later number)
        × (filesystem_change_of nat_eq later number ≢ last_number)
    same_now = not_stale held (filesystem_change_of nat_eq later number) unraised

    held_below : held ≢ last_number
    held_below e = same_now.1 (sym same_now.0 ∙ e)

    -- it was there before
    was_there : (o : Option (Filesystem ℕ)) → found_in world.filesystems ≡ o
        → (f : Filesystem ℕ) × (found_in world.filesystems ≡ Some f)
    was_there None e = absurd (held_below (ap change_in e))
    was_there (Some f) e = (f, e)

    was : (f : Filesystem ℕ) × (found_in world.filesystems ≡ Some f)
    was = was_there (found_in world.filesystems) refl

    numbered : filesystem_numbered nat_eq world number ≡ was.0
    numbered = ap (λ o. unwrap_or o (no_filesystem number)) was.1

    now_is : found_in later.filesystems ≡ option_map raise (found_in (settled nat_eq applied).filesystems)
    now_is = found_map (λ (f : Filesystem ℕ). f.number) raise number (settled nat_eq applied).filesystems raise_number

    -- what is left of it
    module _ (left : Filesystem ℕ) (found : found_in (settled nat_eq applied).filesystems ≡ Some left) where
      abbrev swept : (before : Filesystem ℕ) × Among before applied.filesystems × Stays before left
      swept = swept_stays applied left
          (found_among (λ (f : Filesystem ℕ). nat_eq number f.number) (settled nat_eq applied).filesystems left found)

      abbrev before : Filesystem ℕ
      before = swept.0

      number_is : before.number ≡ number
      number_is = grind (arith, common_steps, found_passes)

      later_is : filesystem_numbered nat_eq later number ≡ raise left
      later_is = ap (λ o. unwrap_or o (no_filesystem number)) (now_is ∙ ap (option_map raise) found)

      change_now : filesystem_change_of nat_eq later number ≡ (raise left).change
      change_now = ap change_in (now_is ∙ ap (option_map raise) found)

      goal_by : before ≡ filesystem_numbered nat_eq world number
          → KeepsFilesystem (filesystem_numbered nat_eq world number) (filesystem_numbered nat_eq later number)
      goal_by e = subst (KeepsFilesystem (filesystem_numbered nat_eq world number)) (sym later_is)
          (kept_on (filesystem_numbered nat_eq world number) left (raise left)
          (subst (λ f. KeepsFilesystem f left) e swept.2.kept) (raise_keeps left))

      keeps : GoesOn world changed (fresh (2 * 0)) before
          → KeepsFilesystem (filesystem_numbered nat_eq world number) (filesystem_numbered nat_eq later number)
      keeps (Old m) = goal_by (sym (sym (ap (filesystem_numbered nat_eq world) number_is)
          ∙ found_by (λ (f : Filesystem ℕ). f.number) (no_filesystem before.number) world.filesystems
          given.is.files.one_filesystem before m))
      keeps (Changed raises was_in same) = absurd (rises left.change (λ most. held_below (sym left_is ∙ most))
          (cc (raised_now, change_now, same_now.0, left_is)))
        where
          left_is : left.change ≡ held
          left_is = grind (arith, common_steps, number_is, numbered)

          raised_now : (raise left).change ≡ raised left.change
          raised_now = ap (λ b. (cond b (record left { change = raised left.change }) left).change)
              (ap (λ n. list_any (λ k. nat_eq k n) changed) swept.2.number ∙ raises)
      keeps (New new zero) = absurd (true≢false (sym (eq-eqb (fresh (2 * 0)) was.0.number
          (sym new ∙ number_is ∙ eqb-true number was.0.number
          (found_passes (λ (f : Filesystem ℕ). nat_eq number f.number) world.filesystems was.0 was.1)))
          ∙ unused_by_filesystem world fresh given.serves (2 * 0) was.0
          (found_among (λ (f : Filesystem ℕ). nat_eq number f.number) world.filesystems was.0 was.1)
          was.0.number (inl refl)))

    granted_stays : KeepsFilesystem (filesystem_numbered nat_eq world number) (filesystem_numbered nat_eq later number)
    granted_stays = by (found_in (settled nat_eq applied).filesystems) refl
      where
        by : (o : Option (Filesystem ℕ)) → found_in (settled nat_eq applied).filesystems ≡ o
            → KeepsFilesystem (filesystem_numbered nat_eq world number) (filesystem_numbered nat_eq later number)
        by None e = absurd (same_now.1 (ap change_in (now_is ∙ ap (option_map raise) e)))
        by (Some left) e = keeps left e (filesystems_go_on world fresh task permit (before left e) (swept left e).1)

pub unraised_filesystems_stay : UnraisedFilesystemsStay
unraised_filesystems_stay world fresh name call number given = named_leaves
    (λ later. IsFilesystemUnraised world later number
    → KeepsFilesystem (filesystem_numbered nat_eq world number) (filesystem_numbered nat_eq later number))
    world fresh name call (λ same. same_kept (filesystem_numbered nat_eq world number))
    (λ task found permit granted. granted_stays given number name task permit)
