-- A run that goes on from worlds that are the same writes a text that may be written, and so the one text.
use Rattle.std.proofs.Common.{◌≡◌, refl, sym, ◌∙◌, subst, ℕ, suc, nat_eq, ◌+◌, ◌≤◌, Bool, true, false, List, [], ◌∷◌, Option, Some, None, arith, All}
use Rattle.vt_spec.proofs.Common.{All-cons, All-head, All-tail, Asking, Calling, Filesystem, Fresh, Grammar, LowerObjectsHaveOneName, Request, SameWorlds, Serves, World, first_world, is_overlay, is_silent, line_step, line_step_by, lines_of, new_plain, opening, renamed, request_of, requested, step_world}
use Rattle.vt_laws_rules.proofs.denials.Unchanged.{directive_changes_nothing, refused_memory_changes_nothing}
use Rattle.vt_laws_rules.proofs.numbers.Commuting.{commutes_nat}
use Rattle.vt_laws_rules.proofs.numbers.Renamings.{named_world}
use Rattle.vt_laws_rules.proofs.numbers.Rows.{row, spread}
use Rattle.vt_laws_rules.proofs.numbers.Stages.{stage, stage_rows}
use Rattle.vt_laws_rules.proofs.numbers.Supports.{named_supply, opening_alike, opening_keeps_to_four}
use Rattle.vt_laws_rules.proofs.numbers.Texts.{first_early, joined-early, joined-new, joined-same, joined_with_row, line_alike, line_leads, refused_alike, refused_keeps, refused_leads, room_serves, stage_serves, whole_machine_has_one_text, worlds_keep_to_hand}
use Rattle.vt_laws_rules.proofs.same.SameJudged.{plain_has_one_name}
use Rattle.vt_laws_rules.specs.Numbers.{KeepsTo, TellsWithRoom, first_four, is_in_hand}
use Rattle.vt_laws_rules.specs.Plain.{IsPlain}
use Rattle.vt_laws_rules.specs.Renaming.{Renaming}
use Rattle.vt_laws_trees.proofs.runs.answered.AlikeAnswered.{plain_copies, policy_plain}
use Rattle.vt_laws_trees.proofs.runs.answered.AlikeChanges.{CopiesAlike}
use Rattle.vt_laws_trees.proofs.runs.answered.AlikeLines.{line_step_alike}
use Rattle.vt_laws_trees.proofs.runs.answered.AlikeRenamed.{same_renamed}
use Rattle.vt_laws_trees.proofs.runs.answered.AlikeWorlds.{Alike, alike_from_same, alike_onward, sameness_is_an_equivalence}
use Rattle.vt_laws_trees.proofs.runs.runs.Seats.{Start, started}
use Rattle.vt_laws_trees.specs.Runs.Runs.{LeavesEndless, OpensInHand, RunsHaveOneText, TellsAlike}
use Rattle.vt_laws_trees.specs.Trees.Calls.{asks_for_overlay}
use Rattle.vt_spec.specs.Machine.Run.{text_of}

-- The policy's world, and that of the run, renamed: what they lead to
goes_on_alike : (renaming : Renaming ℕ ℕ) (left next reached there : World ℕ) → SameWorlds left next
    → renamed renaming.there renaming.back left ≡ reached → Alike there reached
    → Alike there (renamed renaming.there renaming.back next)
goes_on_alike renaming left next reached there same leads alike = alike_onward there reached _
    alike (alike_from_same reached _ (subst (λ world. SameWorlds world (renamed renaming.there renaming.back next))
    leads (same_renamed renaming left next same)))

-- the opening world
opening_renamed : (renaming : Renaming ℕ ℕ) (fresh : Fresh ℕ)
    → opening nat_eq (λ k. renaming.there (fresh k)) ≡ renamed renaming.there renaming.back (opening nat_eq fresh)
unfolding named_supply
opening_renamed renaming fresh =
    commutes_nat Fresh World named_supply named_world (λ A eq supply. opening eq supply) renaming fresh

-- what of the policy's worlds is left by each line that is asked, and has what is copied up alike in worlds that are
-- alike
pub record StaysOverLines (grammar : Grammar) (Asks : List ℕ → Type 0) (Is : World ℕ → Type 0) : Type 0 where
  pub first : Is first_world
  pub named : (world : World ℕ) → Is world → LowerObjectsHaveOneName nat_eq world
  pub copies : (one other : World ℕ) → Alike one other → Is one → CopiesAlike one other
  pub stays : (world : World ℕ) (line : List ℕ) (fresh : Fresh ℕ) → Asks line → Is world → Serves nat_eq world fresh
      → Is (step_world world (line_step nat_eq grammar world line (Some fresh)))

module _ (grammar : Grammar) (in_hand : ℕ → Bool) (Asks : List ℕ → Type 0) (Is : World ℕ → Type 0)
    (over : StaysOverLines grammar Asks Is) where
  -- `other` is the policy's world, of which each line keeps this; `world`, renamed, is like it.
  told_alike : (lines : List (List ℕ)) (refused : List Bool) (m number : ℕ) (renaming : Renaming ℕ ℕ)
      (world other : World ℕ) (mine : ℕ → Bool) → Alike other (renamed renaming.there renaming.back world) → Is other
      → ((k : ℕ) → in_hand k ≡ true → row (renaming.there k) ≤ m)
      → KeepsTo mine other → ((k : ℕ) → mine k ≡ true → row k ≤ m) → All Asks lines
      → (text : List ℕ) → TellsAlike grammar in_hand world number lines refused text
      → TellsWithRoom grammar mine other number lines refused text
  unfolding stage
  told_alike [] refused m number renaming world other mine alike is early keeps mine_early asks text tells = tells
  told_alike (line ∷ lines) [] m number renaming world other mine alike is early keeps mine_early asks text tells =
      absurd tells
  told_alike (line ∷ lines) (true ∷ refused) m number renaming world other mine alike is early keeps mine_early asks
      text
      tells =
      let here : World ℕ = renamed renaming.there renaming.back world in
      let steps = line_step_alike other here alike (over.named other is)
      (over.copies other here alike is) grammar line None in
      let written = refused_alike renaming grammar world here refl line number ∙ sym (steps.text number) in (
        tells.2,
        cc (tells.3, written),
        told_alike lines refused (suc m) (number + 1) renaming tells.0 _ mine
            (goes_on_alike renaming _ tells.0 _ _ tells.1
            (refused_leads renaming grammar world here refl line) steps.worlds)
            (subst Is (sym (refused_memory_changes_nothing grammar other line)) is)
            (λ k is. let low = early k is in omega arith) (refused_keeps grammar mine other line keeps)
            (λ k is. let low = mine_early k is in omega arith) (All-tail Asks line lines asks) tells.2 tells.4,
      )
  told_alike (line ∷ lines) (false ∷ refused) m number renaming world other mine alike is early keeps mine_early asks
      text
      tells =
      let allotment = tells.0 in
      let joint = joined_with_row grammar m renaming in_hand world (renamed renaming.there renaming.back world) refl
      early allotment tells.1.serves in
      let here : World ℕ = renamed joint.there joint.back world in
      let supplied = λ (k : ℕ).
      joined-new grammar m renaming in_hand world (renamed renaming.there renaming.back world) refl early allotment
      tells.1.serves (allotment.new k) k (allotment.new_lot k) in
      let again : Alike other here = subst (Alike other)
      (sym (joined-same grammar m renaming in_hand world (renamed renaming.there renaming.back world) refl early
      allotment tells.1.serves)) alike in
      let steps = line_step_alike other here again (over.named other is) (over.copies other here again is) grammar
      line (Some (spread (suc m))) in
      let written = line_alike joint grammar world here refl line allotment.new (spread (suc m)) supplied number
      ∙ sym (steps.text number) in
      let serves = stage_serves grammar m mine other keeps mine_early in (
        stage m mine mine_early,
        serves,
        tells.4,
        cc (tells.5, written),
        told_alike lines refused (suc m) (number + 1) joint tells.2 _ (is_in_hand (stage m mine _)) (goes_on_alike joint
            _ tells.2 _ _ tells.3 (line_leads joint grammar world here refl line allotment.new (spread _) supplied)
            steps.worlds) (over.stays other line (spread (suc m)) (All-head Asks line lines asks)
            is (room_serves mine other (stage m mine mine_early) serves)) (λ k is. joined-early grammar
            m renaming in_hand world (renamed renaming.there renaming.back world) refl early allotment tells.1.serves
            k (tells.1.stays k is)) (worlds_keep_to_hand grammar mine other (stage m mine mine_early) line serves)
            (stage_rows m mine mine_early) (All-tail Asks line lines asks) tells.4 tells.6,
      )

  pub kept_runs_have_one_text : (refused : List Bool) (script text : List ℕ) (fresh : Fresh ℕ) → LeavesEndless in_hand
      → OpensInHand in_hand fresh → All Asks (lines_of script)
      → TellsAlike grammar in_hand (opening nat_eq fresh) 1 (lines_of script) refused text
      → text ≡ text_of grammar refused script
  kept_runs_have_one_text refused script text fresh leaves opens asks tells =
      whole_machine_has_one_text grammar refused script text (told_alike (lines_of script) refused 0 1 start.renaming
      (opening nat_eq fresh) first_world first_four (subst (Alike first_world) (sym opened)
      (alike_from_same first_world first_world (sameness_is_an_equivalence.itself first_world))) over.first
      (λ k is. let first : row (start.renaming.there k) ≡ 0 = start.early k is in omega arith)
      (opening_keeps_to_four first_four (λ place. place) refl refl refl refl) first_early asks text tells)
    where
      start : Start in_hand leaves fresh 4
      start = started in_hand leaves fresh opens

      opened : renamed start.renaming.there start.renaming.back (opening nat_eq fresh) ≡ first_world
      opened = sym (opening_renamed start.renaming fresh)
          ∙ opening_alike (λ k. start.renaming.there (fresh k)) (λ place. place) (start.fixed 0 (omega arith))
          (start.fixed 1 (omega arith)) (start.fixed 2 (omega arith)) (start.fixed 3 (omega arith))

-- Runs without overlays
request_plain : (world : World ℕ) (fresh : Fresh ℕ) → IsPlain world → (request : Option Request)
    → asks_for_overlay request ≡ false → IsPlain (requested nat_eq world request fresh).world
request_plain world fresh plain None other = plain
request_plain world fresh plain (Some (Calling name call)) other = policy_plain fresh world plain name call other
request_plain world fresh plain (Some (Asking directive)) other =
    subst IsPlain (sym (directive_changes_nothing world directive)) plain

line_plain : (long silent : Bool) (grammar : Grammar) (world : World ℕ) (line : List ℕ) (fresh : Fresh ℕ)
    → asks_for_overlay (request_of grammar line) ≡ false → IsPlain world
    → IsPlain (step_world world (line_step_by nat_eq long silent grammar world line (Some fresh)))
line_plain true silent grammar world line fresh other plain = plain
line_plain false true grammar world line fresh other plain = plain
line_plain false false grammar world line fresh other plain = request_plain world fresh plain _ other

pub runs_have_one_text : RunsHaveOneText
runs_have_one_text grammar refused script text in_hand fresh leaves opens asks tells =
    kept_runs_have_one_text grammar in_hand (λ line. asks_for_overlay (request_of grammar line) ≡ false) IsPlain
    (record {
      first = All-cons (λ (filesystem : Filesystem ℕ). is_overlay filesystem ≡ false) (new_plain nat_eq 2 3) [] refl
          (λ k d below. absurd (omega arith));
      named = plain_has_one_name;
      copies = λ one other alike. plain_copies one other;
      stays = λ world line fresh other plain serves. line_plain _ (is_silent line) grammar world line fresh other plain;
    }) refused script text fresh leaves opens asks tells
