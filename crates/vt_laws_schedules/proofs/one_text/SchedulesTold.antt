-- A schedule that goes on from states that are the same has the text of the definitions' own run, turn by turn: there each
-- turn is handed its row of numbers.
use Rattle.std.proofs.Common.{arith, ◌≡◌, refl, sym, ap, subst, ◌∙◌, ◌⊎◌, inl, inr, ⊎_elim, ℕ, suc, nat_eq, ◌+◌, ◌<◌, ◌≤◌, Bool, true, false, List, [], ◌∷◌, ◌++◌, Option, Some, None, map}
use Rattle.vt_spec.proofs.Common.{Among, Fresh, Grammar, IsWorld, Item, Mount, Progress, Sched, Serves, Task, Turned, Who, World, among-map, contains_from_among, first_of_list, first_world, holds_of, is_among, is_stale, lines_of, namespace_change_of, numbers_for, opening, or_parts, queue_of, renamed, some_from_is_some, task_called, turn}
use Rattle.vt_laws_rules.proofs.numbers.Commuting.{commutes_nat}
use Rattle.vt_laws_rules.proofs.numbers.Renamings.{named_world}
use Rattle.vt_laws_rules.proofs.numbers.Rows.{row, row_first, spread, spread_for}
use Rattle.vt_laws_rules.proofs.numbers.Supports.{named_supply, opening_alike, opening_keeps_to_four}
use Rattle.vt_laws_rules.specs.Numbers.{Allotment, KeepsTo, renamed_held, renamed_progress, renamed_sched, renamed_turned}
use Rattle.vt_laws_rules.specs.Renaming.{Renaming}
use Rattle.vt_laws_trees.proofs.runs.Each.{Each}
use Rattle.vt_laws_trees.proofs.runs.handed.Counts.{endless}
use Rattle.vt_laws_trees.proofs.runs.runs.Seats.{Start, started}
use Rattle.vt_laws_trees.specs.Runs.Handed.{may_be_given}
use Rattle.vt_laws_turns.proofs.Common.{first_sched, name_found, played, queues_of, reply_text, schedule_who, turn_of_line, turns_text}
use Rattle.vt_laws_turns.proofs.dated.AnsweredAlike.{dated_sameness_is_an_equivalence}
use Rattle.vt_laws_turns.proofs.holds.Holding.{schedulers_begin_so, turns_hold_what_is_seen}
use Rattle.vt_laws_turns.proofs.same_states.TurnsAlike.{same_state_is_an_equivalence, same_states_turn_alike}
use Rattle.vt_laws_turns.specs.Dated.{SameDated}
use Rattle.vt_laws_turns.specs.Holds.Held.{HoldsWhatIsSeen, IsFitTurn}
use Rattle.vt_laws_turns.specs.SameStates.{AreTurnedAlike, SameSched}
use Rattle.vt_laws_worlds.proofs.opening.OpeningWorld.{opening_is_a_world}
use Rattle.vt_laws_schedules.proofs.one_text.Behind.{AlikeUnderWay, alike_later, is_behind, is_behind_by}
use Rattle.vt_laws_schedules.proofs.one_text.FewGroups.{HaveFew, few_later, first_few, scripts_few}
use Rattle.vt_laws_schedules.proofs.one_text.Joints.{Joint, Serve, handed_by, is_early, is_early_first, is_row, joint, keeps_later, keeps_on, row_for, row_serves}
use Rattle.vt_laws_schedules.proofs.one_text.Renamed.{alike_in, dated_renamed, sched_renamed, seen_is_shown, shown_by, shown_renamed, turns_renamed}
use Rattle.vt_laws_schedules.proofs.one_text.TurnsApart.{TurnedApart, turned_apart}
use Rattle.vt_laws_schedules.specs.OneText.{AllocationsMayFail, EveryProgramsScheduleHasOneText, EveryScheduleHasOneText, TellsTurns, WholeSchedulesAreTold, opening_sched, turn_may_fail}

map_among : {A B : Type 0} (f g : A → B) (list : List A) → ((a : A) → Among a list → f a ≡ g a)
    → map f list ≡ map g list
map_among f g [] same = refl
map_among f g (a ∷ rest) same = λ i. same a (inl refl) i ∷ map_among f g rest (λ b m. same b (inr m)) i

-- a relation to what is mapped, which follows for what is among the one list
each_mapped : {A B C : Type 0} (R : A → C → Type 0) (f g : B → C) (ones : List A) (list : List B)
    → ((a : A) (b : B) → Among a ones → R a (f b) → R a (g b)) → Each R ones (map f list) → Each R ones (map g list)
each_mapped R f g [] [] follows each = tt
each_mapped R f g [] (b ∷ list) follows each = absurd each
each_mapped R f g (a ∷ ones) [] follows each = absurd each
each_mapped R f g (a ∷ ones) (b ∷ list) follows each = (
  follows a b (inl refl) each.0,
  each_mapped R f g ones list (λ c d m. follows c d (inr m)) each.1,
)

module _ (grammar : Grammar) (in_hand : ℕ → Bool) where
  -- `other` is the state of the definitions' own run, `own` is renamed into it.
  pub record IsTold (m : ℕ) (renaming : Renaming ℕ ℕ) (own other : Sched ℕ) : Type 0 where
    pub world : SameDated other.world (renamed renaming.there renaming.back own.world)
    pub queues : other.queues ≡ own.queues
    pub under_way : Each (AlikeUnderWay other.world) other.under_way
        (map (renamed_progress renaming.there renaming.back) own.under_way)
    pub early : (k : ℕ) → in_hand k ≡ true → row (renaming.there k) ≤ m
    pub is : IsWorld nat_eq other.world
    pub holds : HoldsWhatIsSeen other
    pub keeps : KeepsTo (is_early m) other.world
    pub few : HaveFew other.queues

  module _ (m : ℕ) (renaming : Renaming ℕ ℕ) (own other : Sched ℕ) (at : IsTold m renaming own other) where
    -- One turn
    module _ (who : Who) (given : Option Allotment) (serves : Serve in_hand own.world given) where
      joint_here : Joint in_hand m renaming own.world given
      joint_here = joint grammar in_hand m renaming own.world at.early given serves

      abbrev to : Renaming ℕ ℕ
      to = joint_here.to

      shown_alike : map (λ (mount : Mount ℕ). to.there mount.filesystem) own.world.mounts
          ≡ map (λ (mount : Mount ℕ). renaming.there mount.filesystem) own.world.mounts
      shown_alike = sym (shown_renamed to own.world.mounts) ∙ ap shown_by joint_here.same
          ∙ shown_renamed renaming own.world.mounts

      shown_other : shown_by other.world
          ≡ map (λ (mount : Mount ℕ). renaming.there mount.filesystem) own.world.mounts
      shown_other = ap (map (λ (mount : Mount ℕ). mount.filesystem)) at.world.same.mounts
          ∙ shown_renamed renaming own.world.mounts

      -- what is held by a call that is not behind is renamed as before
      held_alike : (one : Progress ℕ) (held : List (ℕ × ℕ)) → Among one other.under_way
          → is_behind other.world one ≡ false → one.filesystems ≡ map (renamed_held renaming.there renaming.back) held
          → one.filesystems ≡ map (renamed_held to.there to.back) held
      held_alike one held among current same = same ∙ sym (map_among _ _ held (λ h n. λ i. (
        alike_in to renaming (λ (mount : Mount ℕ). mount.filesystem) own.world.mounts shown_alike h.0
            (subst (λ list. is_among nat_eq (renaming.there h.0) list ≡ true) shown_other (shown h n)) i,
        h.1,
      )))
        where
          under : (task : Task ℕ) × (task_called other.world one.task ≡ Some task)
          under = some_from_is_some (task_called other.world one.task)
              (at.holds.there one (contains_from_among other.under_way one among))

          parts : (is_stale one.task_change under.0.change ≡ false)
              × (is_stale one.namespace_change (namespace_change_of nat_eq other.world under.0.namespace) ≡ false)
          parts = or_parts (is_stale one.task_change under.0.change)
              (is_stale one.namespace_change (namespace_change_of nat_eq other.world under.0.namespace))
              (sym (ap (holds_of (is_behind_by other.world one)) under.1) ∙ current)

          shown : (h : ℕ × ℕ) → Among h held → is_among nat_eq (renaming.there h.0) (shown_by other.world) ≡ true
          shown h n = seen_is_shown other.world at.is under.0
              (ap (task_called other.world) (sym (name_found other.world one.task under.0 under.1)) ∙ under.1)
              (renaming.there h.0) (at.holds.seen under.0 one (record {
                under_way = contains_from_among other.under_way one among;
                called = under.1;
              }) (record { task_change = parts.0; namespace_change = parts.1 })
              (renaming.there h.0, h.1) (contains_from_among one.filesystems (renaming.there h.0, h.1)
              (subst (Among (renaming.there h.0, h.1)) (sym same)
              (among-map (renamed_held renaming.there renaming.back) held h n))))

      progress_alike : (one progress : Progress ℕ) → Among one other.under_way
          → AlikeUnderWay other.world one (renamed_progress renaming.there renaming.back progress)
          → AlikeUnderWay other.world one (renamed_progress to.there to.back progress)
      progress_alike one progress among alike = record {
        bare = alike.bare;
        held = ⊎_elim inl (λ same. by (is_behind other.world one) refl same) alike.held;
      }
        where
          by : (b : Bool) → is_behind other.world one ≡ b
              → one.filesystems ≡ map (renamed_held renaming.there renaming.back) progress.filesystems
              → (is_behind other.world one ≡ true)
              ⊎ (one.filesystems ≡ map (renamed_held to.there to.back) progress.filesystems)
          by true behind same = inl behind
          by false current same = inr (held_alike one progress.filesystems among current same)

      -- the definitions' state with what the own one holds
      abbrev mid : Sched ℕ
      mid = record other { under_way = map (renamed_progress to.there to.back) own.under_way }

      abbrev here : Sched ℕ
      here = renamed_sched to.there to.back own

      mid_is_here : SameSched mid here
      mid_is_here = record {
        world = subst (SameDated other.world) (sym joint_here.same) at.world;
        queues = at.queues;
        under_way = refl;
      }

      abbrev turned : Turned ℕ
      turned = turn nat_eq other who (row_for m given)

      fit : IsFitTurn other (who, row_for m given)
      fit = record {
        serves = λ fresh e. subst (Serves nat_eq other.world) (is_row m given fresh e)
            (row_serves grammar m other.world at.keeps);
        few_groups = λ line call first. first_few other.queues who at.few line call first;
      }

      apart : TurnedApart other.world turned (turn nat_eq mid who (row_for m given))
      apart = turned_apart other.world other.queues other.under_way mid.under_way
          (each_mapped (AlikeUnderWay other.world) _ _ other.under_way own.under_way progress_alike at.under_way)
          (row_for m given) who

      alike : AreTurnedAlike (turn nat_eq mid who (row_for m given)) (turn nat_eq here who (row_for m given))
      alike = same_states_turn_alike mid here (who, row_for m given) mid_is_here at.is fit.serves

      abbrev left : Turned ℕ
      left = turn nat_eq own who (handed_by given)

      is_renamed : turn nat_eq here who (row_for m given) ≡ renamed_turned to.there to.back left
      is_renamed = ap (turn nat_eq here who) (sym joint_here.supplied) ∙ turns_renamed to (handed_by given) own who

      turn_replies : left.reply ≡ turned.reply
      turn_replies = sym (apart.reply ∙ alike.reply ∙ ap (λ (t : Turned ℕ). t.reply) is_renamed)

      turn_told : (next : Sched ℕ) → SameSched left.sched next → IsTold (suc m) to next turned.sched
      turn_told next same =
          let reached : SameSched (turn nat_eq mid who (row_for m given)).sched (renamed_sched to.there to.back next) =
          same_state_is_an_equivalence.onward _ _ _
          (subst (λ (t : Turned ℕ). SameSched (turn nat_eq mid who (row_for m given)).sched t.sched) is_renamed
          alike.sched) (sched_renamed to left.sched next same) in
          let kept = turns_hold_what_is_seen other (who, row_for m given) at.is at.holds fit in
          record {
            world = subst (λ world. SameDated world (renamed to.there to.back next.world)) (sym apart.world)
                reached.world;
            queues = apart.queues ∙ reached.queues;
            under_way = alike_later other at.is at.holds (who, row_for m given) fit _
                (subst (Each (AlikeUnderWay other.world) turned.sched.under_way) reached.under_way apart.under_way);
            early = joint_here.early;
            is = kept.0;
            holds = kept.1;
            keeps = keeps_later m other who given at.keeps;
            few = few_later other (who, row_for m given) at.few;
          }

    -- The turn that a line gives, if it gives one
    pub record LineTold (given : Option Who) (handed : Option Allotment) (next : Sched ℕ) : Type 0 where
      pub replies : reply_text (turn_of_line own given (handed_by handed)).reply
          ≡ reply_text (turn_of_line other given (row_for m handed)).reply
      pub to : Renaming ℕ ℕ
      pub told : IsTold (suc m) to next (turn_of_line other given (row_for m handed)).sched

    line_told : (given : Option Who) (handed : Option Allotment) → Serve in_hand own.world handed → (next : Sched ℕ)
        → SameSched (turn_of_line own given (handed_by handed)).sched next → LineTold given handed next
    line_told None handed serves next same = record {
      replies = refl;
      to = renaming;
      told = record {
        world = dated_sameness_is_an_equivalence.onward _ _ _ at.world
            (dated_renamed renaming own.world next.world same.world);
        queues = at.queues ∙ same.queues;
        under_way = subst (Each (AlikeUnderWay other.world) other.under_way)
            (ap (map (renamed_progress renaming.there renaming.back)) same.under_way) at.under_way;
        early = λ k is. let low = at.early k is in omega arith;
        is = at.is;
        holds = at.holds;
        keeps = keeps_on m other.world at.keeps;
        few = at.few;
      };
    }
    line_told (Some who) handed serves next same = record {
      replies = ap reply_text (turn_replies who handed serves);
      to = to who handed serves;
      told = turn_told who handed serves next same;
    }

  -- what the next line is handed is the next row
  next_row : (m number : ℕ) → number ≡ suc m → numbers_for number ≡ spread (suc m)
  next_row m number next = ap numbers_for next ∙ (λ i place. spread_for m place i)

  module _ (may : Who → Item → Bool) where
    may_fail_alike : (own other : Sched ℕ) (given : Option Who) → other.queues ≡ own.queues
        → turn_may_fail may own given ≡ true → turn_may_fail may other given ≡ true
    may_fail_alike own other given same is = ap (λ queues. holds_of
        (λ who. holds_of (λ first. may who first.item) (first_of_list (queue_of queues who))) given) same ∙ is

    abbrev Told : ℕ → Sched ℕ → List (List ℕ) → List Bool → List ℕ → Type 0
    Told number other lines refused text =
        (text ≡ played number other lines refused) × AllocationsMayFail may number other lines refused

    lines_told : (lines : List (List ℕ)) (refused : List Bool) (m number : ℕ) → number ≡ suc m
        → (renaming : Renaming ℕ ℕ) (own other : Sched ℕ) → IsTold m renaming own other → (text : List ℕ)
        → TellsTurns may in_hand own lines refused text → Told number other lines refused text
    lines_told [] refused m number next renaming own other at text tells = (tells, tt)
    lines_told (line ∷ lines) [] m number next renaming own other at text tells = absurd tells
    lines_told (line ∷ lines) (true ∷ refused) m number next renaming own other at text tells =
        let step = line_told m renaming own other at (schedule_who line) None tt tells.1 tells.2 in
        let rest = lines_told lines refused (suc m) (number + 1) (omega (arith, next)) step.to tells.1 _ step.told tells.3
        tells.5 in (
          tells.4 ∙ (λ i. step.replies i ++ rest.0 i),
          (may_fail_alike own other (schedule_who line) at.queues tells.0, rest.1),
        )
    lines_told (line ∷ lines) (false ∷ refused) m number next renaming own other at text tells =
        let step = line_told m renaming own other at (schedule_who line) (Some tells.0) tells.1 tells.2 tells.3 in
        let rest = lines_told lines refused (suc m) (number + 1) (omega (arith, next)) step.to tells.2 _ step.told tells.4
        tells.6 in
        subst (λ (fresh : Fresh ℕ). (text ≡ reply_text (turn_of_line other (schedule_who line) (Some fresh)).reply
        ++ played (number + 1) (turn_of_line other (schedule_who line) (Some fresh)).sched lines refused)
        × AllocationsMayFail may (number + 1) (turn_of_line other (schedule_who line) (Some fresh)).sched lines refused)
        (sym (next_row m number next)) (tells.5 ∙ (λ i. step.replies i ++ rest.0 i), rest.1)

-- the opening world
opening_renamed : (renaming : Renaming ℕ ℕ) (fresh : Fresh ℕ)
    → opening nat_eq (λ k. renaming.there (fresh k)) ≡ renamed renaming.there renaming.back (opening nat_eq fresh)
unfolding named_supply
opening_renamed renaming fresh =
    commutes_nat Fresh World named_supply named_world (λ A eq supply. opening eq supply) renaming fresh

pub every_schedule_has_one_text : EveryScheduleHasOneText
every_schedule_has_one_text grammar may refused script schedule text in_hand fresh leaves opens tells =
    record { may_fail = told.1; told = told.0 }
  where
    start : Start in_hand leaves fresh 4
    start = started in_hand leaves fresh opens

    opened : renamed start.renaming.there start.renaming.back (opening nat_eq fresh) ≡ first_world
    opened = sym (opening_renamed start.renaming fresh)
        ∙ opening_alike (λ k. start.renaming.there (fresh k)) (λ place. place) (start.fixed 0 (omega arith))
        (start.fixed 1 (omega arith)) (start.fixed 2 (omega arith)) (start.fixed 3 (omega arith))

    first : (number : ℕ) → number < 4 → is_early 0 number ≡ true
    first number low = is_early_first 0 number (let stands = row_first number low in omega arith)

    begins : IsTold grammar in_hand 0 start.renaming (opening_sched grammar fresh script) (first_sched grammar script)
    begins = record {
      world = subst (SameDated first_world) (sym opened) (dated_sameness_is_an_equivalence.itself first_world);
      queues = refl;
      under_way = tt;
      early = λ k is. let stands = start.early k is in omega arith;
      is = (opening_is_a_world (λ place. place) (λ j k e. e)).0;
      holds = schedulers_begin_so first_world (queues_of grammar script);
      keeps = opening_keeps_to_four (is_early 0) (λ place. place) (first 0 (omega arith)) (first 1 (omega arith))
          (first 2 (omega arith)) (first 3 (omega arith));
      few = scripts_few grammar script;
    }

    told : (text ≡ played 1 (first_sched grammar script) (lines_of schedule) refused)
        × AllocationsMayFail may 1 (first_sched grammar script) (lines_of schedule) refused
    told = lines_told grammar in_hand may (lines_of schedule) refused 0 1 refl start.renaming
        (opening_sched grammar fresh script) (first_sched grammar script) begins text tells

pub every_programs_schedule_has_one_text : EveryProgramsScheduleHasOneText
every_programs_schedule_has_one_text grammar may refused script schedule text fresh opens tells =
    every_schedule_has_one_text grammar may refused script schedule text may_be_given fresh endless opens tells

pub whole_schedules_are_told : WholeSchedulesAreTold
unfolding turns_text
whole_schedules_are_told version refused script schedule = refl
