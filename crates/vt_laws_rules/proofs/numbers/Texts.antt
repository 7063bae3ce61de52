-- A script has one text, whatever unused numbers are handed in.
use Rattle.std.proofs.Common.{◌≡◌, refl, sym, ap, ◌∙◌, true≢false, ℕ, suc, nat_eq, ◌+◌, ◌≤◌, Bool, true, false, List, [], ◌∷◌, ◌++◌, length, Some, None, arith, ltb-true, subst, eqb-true}
use Rattle.vt_spec.proofs.Common.{Fresh, Grammar, Step, World, first_world, is_among, line_step, lines_of, numbers_for, numbers_in_use, policy, renamed, step_text, step_world, text_from, common_steps}
use Rattle.vt_spec.specs.Machine.Renaming.{SameWorld}
use Rattle.vt_spec.specs.Machine.Run.{text_of, Tells}
use Rattle.vt_laws_rules.specs.Renaming.{Renaming}
use Rattle.vt_laws_rules.specs.Numbers.{KeepsTo, ServesWithRoom, Lot, Allotment, TellsWithRoom, WorldsKeepToHand, is_in_hand, is_in_hand_lot, is_kept, is_kept_lot, renamed_step, first_four, AnyTwoTextsAreOne, SomeTextIsThere, SuppliesDoNotMatter, MayBeText, WholeMachineHasOneText, RoomServes, TextsAreTold, LeavesOutTwo}
use Rattle.vt_laws_rules.specs.Numbers.Lot.{Kept, LeftOver, New}
use Rattle.vt_laws_rules.proofs.numbers.Renamings.{lines_renamed, renamed_itself, same_worlds_answer_alike}
use Rattle.vt_laws_rules.proofs.numbers.Rows.{row, row-spread, row_first, spread, spread_for}
use Rattle.vt_laws_rules.proofs.numbers.Allotments.{agree, joined, kept_lot, allotted_kept, allotted_new}
use Rattle.vt_laws_rules.proofs.numbers.Stages.{stage, stage_keeps, stage_new, stage_rows}
use Rattle.vt_laws_rules.proofs.numbers.Supports.{used_numbers_are_named, lines_keep_to_numbers, step_world-renamed, opening_keeps_to_four}

-- who keeps to some numbers keeps to more
more : (named others : ℕ → Bool) (world : World ℕ) → ((number : ℕ) → named number ≡ true → others number ≡ true)
    → KeepsTo named world → KeepsTo others world
more named others world among keeps renaming leaves = keeps renaming (λ number is. leaves number (among number is))

kept_in_hand : (lot : Lot) → is_kept_lot lot ≡ true → is_in_hand_lot lot ≡ true
kept_in_hand lot e = grind (arith, common_steps)

-- the world after a line keeps to the numbers in hand
pub worlds_keep_to_hand : WorldsKeepToHand
worlds_keep_to_hand grammar in_hand world allotment line serves =
    lines_keep_to_numbers (is_in_hand allotment) grammar allotment.new world line
    (more (is_kept allotment) (is_in_hand allotment) world
    (λ number is. kept_in_hand (allotment.lot number) is) serves.keeps) (λ k. ap is_in_hand_lot (allotment.new_lot k))

step_text-renamed : (renaming : Renaming ℕ ℕ) (number : ℕ) (step : Step ℕ)
    → step_text number (renamed_step renaming.there renaming.back step) ≡ step_text number step
step_text-renamed renaming number step = grind (arith, common_steps)

-- a line in a renamed world writes the same text, and leads to the renamed world
module _ (renaming : Renaming ℕ ℕ) (grammar : Grammar) (world other : World ℕ)
    (same : renamed renaming.there renaming.back world ≡ other) (line : List ℕ) where
  pub refused_alike : (number : ℕ) → step_text number (line_step nat_eq grammar world line None)
      ≡ step_text number (line_step nat_eq grammar other line None)
  refused_alike number = grind (arith, common_steps)

  pub refused_leads : renamed renaming.there renaming.back (step_world world (line_step nat_eq grammar world line None))
      ≡ step_world other (line_step nat_eq grammar other line None)
  refused_leads = grind (arith, common_steps)

  module _ (fresh new : Fresh ℕ) (supplied : (k : ℕ) → renaming.there (fresh k) ≡ new k) where
    pub line_alike : (number : ℕ) → step_text number (line_step nat_eq grammar world line (Some fresh))
        ≡ step_text number (line_step nat_eq grammar other line (Some new))
    line_alike number = sym (step_text-renamed renaming number (line_step nat_eq grammar world line (Some fresh)))
        ∙ ap (step_text number) (sym (lines_renamed renaming grammar (Some fresh) world line))
        ∙ (λ i. step_text number (line_step nat_eq grammar (same i) line (Some (λ k. supplied k i))))

    pub line_leads : renamed renaming.there renaming.back
        (step_world world (line_step nat_eq grammar world line (Some fresh)))
        ≡ step_world other (line_step nat_eq grammar other line (Some new))
    line_leads = sym (step_world-renamed renaming world (line_step nat_eq grammar world line (Some fresh)))
        ∙ ap (step_world (renamed renaming.there renaming.back world))
        (sym (lines_renamed renaming grammar (Some fresh) world line))
        ∙ (λ i. step_world (same i) (line_step nat_eq grammar (same i) line (Some (λ k. supplied k i))))

-- Two supplies with room are joined by a renaming, which leaves the worlds the same.
pub supplies_do_not_matter : SuppliesDoNotMatter
unfolding joined
supplies_do_not_matter world other same first second name call keeps kept =
    let before : Renaming ℕ ℕ =
    record { there = same.there; back = same.back; there_back = same.there_back; back_there = same.back_there } in
    let joint : Renaming ℕ ℕ = joined first second before kept in
    let agrees : renamed joint.there joint.back world ≡ other = agree (is_kept first) world before joint keeps
    (λ number is. allotted_kept first second same.there number (kept_lot (first.lot number) is)) ∙ same.same in
    let again : SameWorld world other =
    record {
      there = joint.there;
      back = joint.back;
      there_back = joint.there_back;
      back_there = joint.back_there;
      same = agrees;
    } in
    let supplied : (k : ℕ) → joint.there (first.new k) ≡ second.new k =
    λ k. allotted_new first second same.there (first.new k) k (first.new_lot k) in
    let P : Fresh ℕ → Type 0 = λ new.
    ((policy nat_eq new other name call).answer ≡ (policy nat_eq first.new world name call).answer)
    × SameWorld (policy nat_eq first.new world name call).world (policy nat_eq new other name call).world in
    subst P (λ i k. supplied k i) (same_worlds_answer_alike world other again first.new name call)

module _ (grammar : Grammar) where
  -- the text where each line is handed the next row
  rows_text : ℕ → World ℕ → ℕ → List (List ℕ) → List Bool → List ℕ
  rows_text m world number [] refused = []
  rows_text m world number (line ∷ lines) [] = []
  rows_text m world number (line ∷ lines) (true ∷ refused) = step_text number (line_step nat_eq grammar world line None)
      ++ rows_text (suc m) (step_world world (line_step nat_eq grammar world line None)) (number + 1) lines refused
  rows_text m world number (line ∷ lines) (false ∷ refused) =
      step_text number (line_step nat_eq grammar world line (Some (spread (suc m))))
      ++ rows_text (suc m) (step_world world (line_step nat_eq grammar world line (Some (spread (suc m)))))
      (number + 1) lines refused

  -- A line that is handed some supply, and the same line in the renamed world that is handed the next row
  module _ (m : ℕ) (renaming : Renaming ℕ ℕ) (in_hand : ℕ → Bool) (world other : World ℕ)
      (same : renamed renaming.there renaming.back world ≡ other)
      (early : (number : ℕ) → in_hand number ≡ true → row (renaming.there number) ≤ m) (allotment : Allotment)
      (serves : ServesWithRoom in_hand world allotment) where
    is_kept_there : ℕ → Bool
    is_kept_there number = is_kept allotment (renaming.back number)

    keeps_early : (number : ℕ) → is_kept_there number ≡ true → row number ≤ m
    unfolding is_kept_there
    keeps_early number is = grind (arith, common_steps)

    joined_row : Allotment
    joined_row = stage m is_kept_there keeps_early

    -- the renaming that takes what the supply hands out to the next row
    pub joined_with_row : Renaming ℕ ℕ
    unfolding is_kept_there joined_row
    joined_with_row = joined allotment joined_row renaming (λ number. stage_keeps m is_kept_there keeps_early number)

    -- it leaves what the line has in hand where it was
    joined-kept : (number : ℕ) → is_kept allotment number ≡ true → joined_with_row.there number ≡ renaming.there number
    unfolding joined_with_row joined
    joined-kept number is = grind (arith, common_steps, allotted_kept, joined_row, kept_lot)

    -- takes each new number to one of the row
    pub joined-new : (number k : ℕ) → allotment.lot number ≡ New k → joined_with_row.there number ≡ spread (suc m) k
    unfolding joined_with_row joined_row joined
    joined-new number k e = allotted_new allotment joined_row renaming.there number k e
        ∙ stage_new m is_kept_there keeps_early k

    -- renames the world as before
    pub joined-same : renamed joined_with_row.there joined_with_row.back world ≡ other
    joined-same = agree (is_kept allotment) world renaming joined_with_row serves.keeps joined-kept ∙ same

    -- and keeps what is in hand within the rows so far
    pub joined-early : (number : ℕ) → is_in_hand allotment number ≡ true → row (joined_with_row.there number) ≤ suc m
    joined-early number = by (allotment.lot number) refl
      where
        by : (lot : Lot) → allotment.lot number ≡ lot → is_in_hand_lot lot ≡ true
            → row (joined_with_row.there number) ≤ suc m
        by Kept e is = grind (arith, common_steps, joined-kept)
        by (New k) e is =
            let there : row (joined_with_row.there number) ≡ suc m = ap (row) (joined-new number k e)
            ∙ row-spread (suc m) k in
            omega arith
        by (LeftOver k) e is = absurd (true≢false (sym is))

  texts_alike : (lines : List (List ℕ)) (refused : List Bool) (m number : ℕ) (renaming : Renaming ℕ ℕ)
      (in_hand : ℕ → Bool) (world other : World ℕ) → renamed renaming.there renaming.back world ≡ other
      → ((number : ℕ) → in_hand number ≡ true → row (renaming.there number) ≤ m)
      → (text : List ℕ) → TellsWithRoom grammar in_hand world number lines refused text
      → text ≡ rows_text m other number lines refused
  unfolding rows_text
  texts_alike [] refused m number renaming in_hand world other same early text tells = tells
  texts_alike (line ∷ lines) [] m number renaming in_hand world other same early text tells = absurd tells
  texts_alike (line ∷ lines) (true ∷ refused) m number renaming in_hand world other same early text tells =
      let rest = texts_alike lines refused (suc m) (number + 1) renaming in_hand _ _ (refused_leads renaming grammar
      world other same line) (λ number is. let low = early number is in omega arith) tells.0 tells.2 in
      grind (arith, common_steps, tells.1)
  texts_alike (line ∷ lines) (false ∷ refused) m number renaming in_hand world other same early text tells =
      let allotment = tells.0 in
      let joint = joined_with_row m renaming in_hand world other same early allotment tells.1 in
      let joint_same = joined-same m renaming in_hand world other same early allotment tells.1 in
      let supplied =
      λ (k : ℕ). joined-new m renaming in_hand world other same early allotment tells.1 (allotment.new k) k
      (allotment.new_lot k) in
      let rest = texts_alike lines refused (suc m) (number + 1) joint (is_in_hand allotment) _ _
      (line_leads joint grammar world other joint_same line allotment.new (spread (suc m)) supplied)
      (joined-early m renaming in_hand world other same early allotment tells.1) tells.2 tells.4 in
      tells.3 ∙ (λ i. line_alike joint grammar world other joint_same line allotment.new
      (spread (suc m)) supplied number i ++ rest i)

  -- a line that was refused memory changes nothing
  pub refused_keeps : (in_hand : ℕ → Bool) (world : World ℕ) (line : List ℕ) → KeepsTo in_hand world
      → KeepsTo in_hand (step_world world (line_step nat_eq grammar world line None))
  refused_keeps in_hand world line keeps renaming leaves = grind (arith, common_steps)

  -- the next row serves a line
  pub stage_serves : (m : ℕ) (in_hand : ℕ → Bool) (world : World ℕ) → KeepsTo in_hand world
      → (early : (number : ℕ) → in_hand number ≡ true → row number ≤ m)
      → ServesWithRoom in_hand world (stage m in_hand early)
  stage_serves m in_hand world keeps early = record {
    from_hand = λ number is. sym (stage_keeps m in_hand early number) ∙ is;
    keeps = more in_hand (is_kept (stage m in_hand early)) world
        (λ number is. stage_keeps m in_hand early number ∙ is) keeps;
  }

  -- and that text may be told
  rows_told : (lines : List (List ℕ)) (refused : List Bool) (m number : ℕ) (in_hand : ℕ → Bool) (world : World ℕ)
      → KeepsTo in_hand world → ((number : ℕ) → in_hand number ≡ true → row number ≤ m) → length refused ≡ length lines
      → TellsWithRoom grammar in_hand world number lines refused (rows_text m world number lines refused)
  unfolding rows_text stage
  rows_told [] refused m number in_hand world keeps early long = refl
  rows_told (line ∷ lines) [] m number in_hand world keeps early long = cc
  rows_told (line ∷ lines) (true ∷ refused) m number in_hand world keeps early long = (
    _,
    refl,
    rows_told lines refused (suc m) (number + 1) in_hand _ (refused_keeps in_hand world line keeps)
        (λ number is. let low = early number is in omega arith) cc,
  )
  rows_told (line ∷ lines) (false ∷ refused) m number in_hand world keeps early long =
      let serves = stage_serves m in_hand world keeps early in (
        stage m in_hand early,
        serves,
        _,
        refl,
        rows_told lines refused (suc m) (number + 1) (is_in_hand (stage m in_hand early)) _
            (worlds_keep_to_hand grammar in_hand world (stage m in_hand early) line serves)
            (stage_rows m in_hand early) cc,
      )

-- nothing renamed
abbrev pub nothing_renamed : Renaming ℕ ℕ
nothing_renamed = record { there = λ n. n; back = λ n. n; there_back = λ n. refl; back_there = λ n. refl }

-- the opening world keeps to the first four numbers, which stand in the first row
pub first_early : (number : ℕ) → first_four number ≡ true → row number ≤ 0
first_early number is = grind (arith, common_steps, row_first, ltb-true)

first_keeps : KeepsTo first_four first_world
first_keeps = opening_keeps_to_four first_four (λ place. place) refl refl refl refl

the_text : (grammar : Grammar) (refused : List Bool) (script text : List ℕ)
    → MayBeText grammar refused script text → text ≡ rows_text grammar 0 first_world 1 (lines_of script) refused
the_text grammar refused script text tells =
    texts_alike grammar (lines_of script) refused 0 1 nothing_renamed first_four first_world first_world
    (renamed_itself first_world) first_early text tells

pub any_two_texts_are_one : AnyTwoTextsAreOne
any_two_texts_are_one grammar refused script text other tells tells_other = grind (arith, common_steps, the_text)

-- what the next line is handed is the next row
numbers_for_next : (m number : ℕ) → number ≡ suc m → numbers_for number ≡ spread (suc m)
numbers_for_next m number here = ap numbers_for here ∙ (λ i place. spread_for m place i)

-- The text as it is computed is that of the rows, where it is said of each line whether it was refused memory.
text_alike : (grammar : Grammar) (lines : List (List ℕ)) (refused : List Bool) (m number : ℕ) (world : World ℕ)
    → number ≡ suc m → length lines ≤ length refused
    → text_from grammar world number lines refused ≡ rows_text grammar m world number lines refused
unfolding rows_text
text_alike grammar [] refused m number world here long = refl
text_alike grammar (line ∷ lines) [] m number world here long = absurd (omega arith)
text_alike grammar (line ∷ lines) (true ∷ refused) m number world here long =
    cc (text_alike grammar lines refused (suc m) (number + 1) _ (omega arith) (omega arith))
text_alike grammar (line ∷ lines) (false ∷ refused) m number world here long =
    let row_here = numbers_for_next m number here in
    cc (text_alike grammar lines refused (suc m) (number + 1) _ (omega arith) (omega arith))

text_of_rows : (grammar : Grammar) (refused : List Bool) (script : List ℕ) → length (lines_of script) ≤ length refused
    → text_of grammar refused script ≡ rows_text grammar 0 first_world 1 (lines_of script) refused
text_of_rows grammar refused script long = grind (arith, common_steps, text_alike)

pub some_text_is_there : SomeTextIsThere
some_text_is_there grammar refused script long =
    grind (arith, common_steps, text_of_rows, rows_told, first_keeps, first_early)

-- a text that may be told has a chance for each line
told_long : (grammar : Grammar) (lines : List (List ℕ)) (refused : List Bool) (in_hand : ℕ → Bool) (world : World ℕ)
    (number : ℕ) (text : List ℕ)
    → TellsWithRoom grammar in_hand world number lines refused text → length lines ≤ length refused
told_long grammar [] refused in_hand world number text tells = omega arith
told_long grammar (line ∷ lines) [] in_hand world number text tells = absurd tells
told_long grammar (line ∷ lines) (true ∷ refused) in_hand world number text tells =
    let h = told_long grammar lines refused in_hand _ (number + 1) _ tells.2 in omega arith
told_long grammar (line ∷ lines) (false ∷ refused) in_hand world number text tells =
    let h = told_long grammar lines refused _ _ (number + 1) _ tells.4 in omega arith

pub whole_machine_has_one_text : WholeMachineHasOneText
whole_machine_has_one_text grammar refused script text tells =
    grind (arith, common_steps, the_text, text_of_rows, told_long)

-- Supplies with room serve, so each text that is told with them is told.
pub room_serves : RoomServes
room_serves in_hand world allotment serves = record {
  unused = λ k. unused k (is_among nat_eq (allotment.new k) (numbers_in_use world)) refl;
  apart = λ j k e. place_of (allotment.new_lot j) (allotment.new_lot k)
      (eqb-true (allotment.new j) (allotment.new k) e);
}
  where
    named : (k : ℕ) → is_kept allotment (allotment.new k) ≡ false
    named k = ap is_kept_lot (allotment.new_lot k)

    left : (k : ℕ) → is_kept allotment (allotment.left_over k) ≡ false
    left k = ap is_kept_lot (allotment.left_over_lot k)

    place_of : {j k a b : ℕ} → allotment.lot a ≡ New j → allotment.lot b ≡ New k → a ≡ b → j ≡ k
    place_of e h same = cc

    two : LeavesOutTwo (is_kept allotment)
    two = grind (arith, common_steps, allotment.left_over 0, allotment.left_over 1, left 0, left 1)

    unused : (k : ℕ) (b : Bool) → is_among nat_eq (allotment.new k) (numbers_in_use world) ≡ b
        → is_among nat_eq (allotment.new k) (numbers_in_use world) ≡ false
    unused k true e =
        cc (used_numbers_are_named (is_kept allotment) world serves.keeps two (allotment.new k) e, named k)
    unused k false e = e

told_with_room : (grammar : Grammar) (lines : List (List ℕ)) (refused : List Bool) (in_hand : ℕ → Bool)
    (world : World ℕ) (number : ℕ) (text : List ℕ) → TellsWithRoom grammar in_hand world number lines refused text
    → Tells nat_eq grammar world number lines refused text
told_with_room grammar [] refused in_hand world number text tells = tells
told_with_room grammar (line ∷ lines) [] in_hand world number text tells = tells
told_with_room grammar (line ∷ lines) (true ∷ refused) in_hand world number text tells =
    (tells.0, tells.1, told_with_room grammar lines refused in_hand _ (number + 1) tells.0 tells.2)
told_with_room grammar (line ∷ lines) (false ∷ refused) in_hand world number text tells = (
  tells.0.new,
  room_serves in_hand world tells.0 tells.1,
  tells.2,
  tells.3,
  told_with_room grammar lines refused (is_in_hand tells.0) _ (number + 1) tells.2 tells.4,
)

pub texts_are_told : TextsAreTold
texts_are_told grammar refused script text tells = grind (arith, common_steps, told_with_room)
