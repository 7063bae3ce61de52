-- The next word of a call, by its words.
use Rattle.std.proofs.Common.{◌≡◌, sym, ap, subst, ◌∙◌, ℕ, ◌+◌, nat_eq, nat_le, Bool, true, false, cond, if◌then◌else◌, List, Option, Some, None, Result, IfOk, option_map, slice_get}
use Rattle.std.specs.Global.{Vec}
use Rattle.vt_spec.proofs.Common.{Call, Progress, TaskName, World, most_restarts, one_further, slice_get-map}
use Rattle.vt_spec.specs.Lists.{then_some}
use Rattle.vt_location.specs.declared.numbers.FilesystemId.{FilesystemId}
use Rattle.vt_turns.specs.Going.{AreWords, again_in, begun, call_begins, first_in, further_in, gone_on_in, numbers_in, overtaken_in, walked_by}
use Rattle.vt_turns.specs.Kept.{GoesOn, IsOf, progress_of}
use Rattle.vt_turns.specs.ProgressValue.{met_meant, progress_meant, words_meant}
use Rattle.vt_turns.specs.declared.progress.Numbers.{Numbers}
use Rattle.vt_turns.specs.declared.progress.Progress.{Progress as ProgressCode}
use Rattle.vt_turns.specs.declared.progress.UnderWay.{UnderWay}

module _ (world : World ℕ) (call : Call) where
  -- of a call of so many words the next one is walked
  module _ (progress : ProgressCode) (words : Vec (Vec FilesystemId))
      (are : AreWords world progress.task call (words_meant words)) where
    abbrev with_met : Option (List ℕ) → Option (Progress ℕ)
    with_met met = option_map (λ (m : List ℕ). one_further nat_eq world m (progress_meant progress)) met

    next : (at : Option (Vec FilesystemId)) → slice_get words.items progress.walked ≡ at
        → with_met (option_map met_meant at) ≡ further_in world call (progress_meant progress)
    next at e = ap (λ (o : Option (Vec FilesystemId)). with_met (option_map met_meant o)) (sym e)
        ∙ ap with_met (sym (slice_get-map met_meant words.items progress.walked))
        ∙ ap with_met (are progress.walked)

    pub none_left : slice_get words.items progress.walked ≡ None
        → GoesOn world progress.task call (further_in world call (progress_meant progress)) None
    none_left e = (next None e, tt)

    pub one_left : (met : Vec FilesystemId) → slice_get words.items progress.walked ≡ Some met → (made : ProgressCode)
        → progress_meant made ≡ one_further nat_eq world (met_meant met) (progress_meant progress)
        → GoesOn world progress.task call (further_in world call (progress_meant progress))
        (Some (record { progress = made; words = Some words }))
    one_left met e made is = (
      ap Some is ∙ next (Some met) e,
      record { task = ap (λ (p : Progress ℕ). p.task) is; words = are },
    )

  -- Turns of a call

  module _ (name : TaskName) (numbers : Numbers) where
    -- a first turn in which a rule refuses the call,
    pub refused_first : (restarts : ℕ) → call_begins world name call ≡ false
        → GoesOn world name call (first_in world call name numbers restarts) None
    refused_first restarts refused = (
      sym (ap (λ b. cond b (further_in world call (begun name numbers restarts)) None) refused),
      tt,
    )

    -- and one that walks a word
    pub first_walks : (restarts : ℕ) → call_begins world name call ≡ true → (progress : ProgressCode)
        → progress_meant progress ≡ begun name numbers restarts → {E : Type 0} (result : Result (Option UnderWay) E)
        → (progress.task ≡ name
        → IfOk result (GoesOn world progress.task call (further_in world call (progress_meant progress))))
        → IfOk result (GoesOn world name call (first_in world call name numbers restarts))
    first_walks restarts begins progress is result told =
        let task : progress.task ≡ name = ap (λ (p : Progress ℕ). p.task) is in
        subst (λ next. IfOk result (GoesOn world name call next))
        (ap (further_in world call) is
        ∙ sym (ap (λ b. cond b (further_in world call (begun name numbers restarts)) None) begins))
        (subst (λ n. IfOk result (GoesOn world n call (further_in world call (progress_meant progress)))) task (told task))

    -- Turns after it
    module _ (held : UnderWay) where
      abbrev later : Bool → Option (Progress ℕ)
      later overtaken = if overtaken then again_in world call name numbers (progress_of held)
          else further_in world call (progress_of held)

      pub goes_further : overtaken_in world numbers (progress_of held) ≡ false → IsOf world name call held
          → {E : Type 0} (result : Result (Option UnderWay) E)
          → (IsOf world held.progress.task call held
          → IfOk result (GoesOn world held.progress.task call (further_in world call (progress_of held))))
          → IfOk result (GoesOn world name call (later (overtaken_in world numbers (progress_of held))))
      goes_further current of result told =
          subst (λ b. IfOk result (GoesOn world name call (later b))) (sym current)
          (subst (λ n. IfOk result (GoesOn world n call (further_in world call (progress_of held)))) of.task
          (told (subst (λ n. IsOf world n call held) (sym of.task) of)))

      pub runs_whole : overtaken_in world numbers (progress_of held) ≡ true
          → nat_le most_restarts held.progress.restarts ≡ true
          → GoesOn world name call (later (overtaken_in world numbers (progress_of held))) None
      runs_whole overtaken most = (
        sym (ap later overtaken
            ∙ ap (λ b. cond b None (first_in world call name numbers (held.progress.restarts + 1))) most),
        tt,
      )

      pub restarts_so : overtaken_in world numbers (progress_of held) ≡ true
          → nat_le most_restarts held.progress.restarts ≡ false → {E : Type 0} (result : Result (Option UnderWay) E)
          → IfOk result (GoesOn world name call (first_in world call name numbers (held.progress.restarts + 1)))
          → IfOk result (GoesOn world name call (later (overtaken_in world numbers (progress_of held))))
      restarts_so overtaken most result told = subst (λ next. IfOk result (GoesOn world name call next))
          (sym (ap later overtaken
          ∙ ap (λ b. cond b None (first_in world call name numbers (held.progress.restarts + 1))) most)) told

  -- by what is held of the call
  pub by_numbers : (name : TaskName) (numbers : Option Numbers) → numbers ≡ numbers_in world name
      → (held : Option (Progress ℕ))
      → then_some numbers (λ (n : Numbers). gone_on_in world call name n held) ≡ walked_by world name call held
  by_numbers name numbers is held =
      ap (λ (o : Option Numbers). then_some o (λ (n : Numbers). gone_on_in world call name n held)) is
