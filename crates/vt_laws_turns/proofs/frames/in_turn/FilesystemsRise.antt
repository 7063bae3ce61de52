-- The change number of a filesystem stays, rises by one, or is the largest one for good.
use Rattle.std.proofs.Common.{◌≡◌, ◌≢◌, refl, sym, ap, ◌∙◌, inl, inr, ℕ, nat_eq, Bool, true, false, cond, List, [], ◌∷◌, ◌*◌, Option, Some, None, find, eqb-true, eq-eqb, arith, option_map, unwrap_or}
use Rattle.vt_spec.proofs.Common.{Filesystem, Fresh, IsWorld, Permit, Task, TaskName, World, apply, common_steps, filesystem_change_of, filesystem_numbered, filesystems_changed, found_among, found_passes, list_any, no_filesystem, numbers_raised, raised, raised_if_changed, settled}
use Rattle.vt_laws_turns.proofs.Common.{named_leaves}
use Rattle.vt_laws_turns.specs.Frames.InTurn.{AreBeside, CallBetween, IsBeside, UnraisedFilesystemsStayInTurn, after_call, after_calls}
use Rattle.vt_laws_turns.specs.Frames.Unraised.{IsCallIn, IsFilesystemUnraised, KeepsFilesystem}
use Rattle.vt_laws_turns.proofs.frames.Found.{found_map, found_one}
use Rattle.vt_laws_turns.proofs.frames.frames.FilesystemsGoOn.{GoesOn, filesystems_go_on}
use Rattle.vt_laws_turns.proofs.frames.frames.FilesystemsGoOn.GoesOn.{Changed, New, Old}
use Rattle.vt_laws_turns.proofs.frames.frames.FilesystemsUnraised.{change_in, unraised_filesystems_stay}
use Rattle.vt_laws_turns.proofs.frames.frames.SweptFilesystems.{kept_on, same_kept, swept_stays}
use Rattle.vt_laws_turns.proofs.frames.in_turn.NumbersRise.{Rises, first_unraised, given_in, next_is}

-- One call
module _ {world : World ℕ} {fresh : Fresh ℕ} (given : IsCallIn world fresh) {number : ℕ}
    (other : fresh (2 * 0) ≢ number) (name : TaskName) (task : Task ℕ) (permit : Permit ℕ) where
  abbrev found_in : List (Filesystem ℕ) → Option (Filesystem ℕ)
  found_in list = find (λ (f : Filesystem ℕ). nat_eq number f.number) list

  abbrev applied : World ℕ
  applied = (apply nat_eq fresh world task permit).world

  abbrev changed : List ℕ
  changed = filesystems_changed nat_eq world permit

  abbrev later : World ℕ
  later = numbers_raised nat_eq world name changed (settled nat_eq applied)

  abbrev raise : Filesystem ℕ → Filesystem ℕ
  raise = raised_if_changed nat_eq changed

  raise_number : (f : Filesystem ℕ) → (raise f).number ≡ f.number
  raise_number f = grind (arith, common_steps)

  raised_or_same : (f : Filesystem ℕ) (was now : ℕ) → f.change ≡ was → (b : Bool)
      → now ≡ (cond b (record f { change = raised f.change }) f).change → Rises was now
  raised_or_same f was now e true n = inr (inl (cc))
  raised_or_same f was now e false n = inl (n ∙ e)

  now_is : found_in later.filesystems ≡ option_map raise (found_in (settled nat_eq applied).filesystems)
  now_is = found_map (λ (f : Filesystem ℕ). f.number) raise number (settled nat_eq applied).filesystems raise_number

  -- one that is there has the change number that it had
  was_change : (before : Filesystem ℕ) → before.number ≡ number → GoesOn world changed (fresh (2 * 0)) before
      → before.change ≡ filesystem_change_of nat_eq world number
  was_change before is (Old m) =
      cc (found_one (λ (f : Filesystem ℕ). f.number) world.filesystems given.is.files.one_filesystem before m number
      (eq-eqb number before.number (sym is)))
  was_change before is (Changed raises has same) =
      let found = found_one (λ (f : Filesystem ℕ). f.number) world.filesystems given.is.files.one_filesystem has.0 has.1
      number (eq-eqb number has.0.number (sym (has.2 ∙ is))) in
      same ∙ ap (λ n. (filesystem_numbered nat_eq world n).change) is
      ∙ ap (λ o. (unwrap_or o (no_filesystem number)).change) found ∙ sym (ap change_in found)
  was_change before is (New new zero) = absurd (other (cc))

  granted_rises : Rises (filesystem_change_of nat_eq world number) (filesystem_change_of nat_eq later number)
  granted_rises = by (found_in (settled nat_eq applied).filesystems) refl
    where
      by : (o : Option (Filesystem ℕ)) → found_in (settled nat_eq applied).filesystems ≡ o
          → Rises (filesystem_change_of nat_eq world number) (filesystem_change_of nat_eq later number)
      by None e = inr (inr (ap change_in (now_is ∙ ap (option_map raise) e)))
      by (Some left) e =
          let swept = swept_stays applied left
          (found_among (λ (f : Filesystem ℕ). nat_eq number f.number) (settled nat_eq applied).filesystems left e) in
          let is : swept.0.number ≡ number = sym swept.2.number ∙ sym (eqb-true number left.number
          (found_passes (λ (f : Filesystem ℕ). nat_eq number f.number) (settled nat_eq applied).filesystems left e)) in
          raised_or_same left (filesystem_change_of nat_eq world number) (filesystem_change_of nat_eq later number)
          (swept.2.change ∙ was_change swept.0 is (filesystems_go_on world fresh task permit swept.0 swept.1))
          (list_any (λ n. nat_eq n left.number) changed) (ap change_in (now_is ∙ ap (option_map raise) e))

-- Several calls
abbrev filesystem_change : ℕ → World ℕ → ℕ
filesystem_change number world = filesystem_change_of nat_eq world number

filesystem_step : (number : ℕ) (world : World ℕ) (one : CallBetween) → IsWorld nat_eq world → IsBeside number world one
    → Rises (filesystem_change number world) (filesystem_change number (after_call world one))
filesystem_step number world one is beside = named_leaves
    (λ later. Rises (filesystem_change number world) (filesystem_change number later)) world one.fresh one.name one.call
    (inl refl) (λ task found permit granted. granted_rises (given_in number world one is beside)
    (beside.not_held (2 * 0)) one.name task permit)

filesystem_stays : (calls : List CallBetween) (world : World ℕ) (number : ℕ) → IsWorld nat_eq world
    → AreBeside number world calls → IsFilesystemUnraised world (after_calls world calls) number
    → KeepsFilesystem (filesystem_numbered nat_eq world number)
    (filesystem_numbered nat_eq (after_calls world calls) number)
filesystem_stays [] world number is beside unraised = same_kept (filesystem_numbered nat_eq world number)
filesystem_stays (one ∷ rest) world number is beside unraised =
    let parts = first_unraised number (filesystem_change number) (filesystem_step number) world one rest is beside
    unraised in
    kept_on (filesystem_numbered nat_eq world number) (filesystem_numbered nat_eq (after_call world one) number)
    (filesystem_numbered nat_eq (after_calls world (one ∷ rest)) number)
    (unraised_filesystems_stay world one.fresh one.name one.call number (given_in number world one is beside.0) parts.0)
    (filesystem_stays rest (after_call world one) number (next_is number world one is beside.0) beside.1 parts.1)

pub filesystems_stay_in_turn : UnraisedFilesystemsStayInTurn
filesystems_stay_in_turn world calls number is beside unraised = filesystem_stays calls world number is beside unraised
