-- Turns of theirs reply in the schedule of a script as they do without the turns of others.
use Rattle.std.proofs.Common.{arith, ◌≡◌, refl, sym, subst, ◌∙◌, ℕ, nat_eq, Bool, true, false, true≢false, cond, List, [], ◌∷◌, ◌++◌, ◌+◌, ◌≤◌, Option, Some, None, length, option_to_list}
use Rattle.vt_spec.proofs.Common.{Call, Calls, Fresh, IsWorld, Nobody, Sched, Serves, Someone, TaskName, Who, first_world, handed, is_among, later, numbers_for, same_name, turn, whole, none_is_some, policy}
use Rattle.vt_laws_containers.proofs.Common.{HoldsWhatIsSeen, Turn, left_by, names_few_groups, turns_hold_what_is_seen}
use Rattle.vt_laws_containers.proofs.members_turns.InRounds.{Abreast, IsTheirs, after_others, after_theirs, alike, begun, fewer_kin, sets}
use Rattle.vt_laws_containers.proofs.members_turns.OthersOut.{is_among-left, is_among-right}
use Rattle.vt_laws_containers.proofs.members_turns.ScriptQueues.{first_stands, no_directive_stands, queues_of_scripts, queues_of_scripts_stay}
use Rattle.vt_laws_containers.proofs.scripts.LineNumbers.{numbers_left, numbers_passed, serves_line}
use Rattle.vt_laws_containers.proofs.scripts.Standing.{first_numbers}
use Rattle.vt_laws_containers.specs.MembersTurns.Schedules.{AlongTurns, AreOfAScript, AreOfNoLaterTask, KeepsToItsSide, LeavesThemSealed, SealedSetsReplyAsIfAlone, SealedSetsStandSoInTurn, Slot, TurnStand, moved_by, next_stand, own_replies, reply_by, sets_from}
use Rattle.vt_laws_containers.specs.MembersTurns.TheirTurns.{set_left}
use Rattle.vt_laws_containers.specs.Scripts.{HasEarlierNumbers}
use Rattle.vt_laws_containers.specs.SealedTurns.OutsidersTurns.{IsFirst, is_of_theirs}
use Rattle.vt_laws_turns.proofs.holds.Holding.{schedulers_begin_so}
use Rattle.vt_laws_turns.proofs.played.Leaving.{Leaves, turn_leaves}
use Rattle.vt_laws_turns.proofs.played.Leaving.Leaves.{After, Same}
use Rattle.vt_laws_turns.specs.Commits.{turn_given, turns_given}
use Rattle.vt_laws_turns.specs.Holds.Held.{IsFitTurn}
use Rattle.vt_laws_worlds.proofs.opening.OpeningWorld.{opening_is_a_world}
use Rattle.vt_spec.specs.Machine.Turns.{first_sched, queues_of, schedule_who}

-- One run

-- a state before the line of this number of a schedule of a script
record IsReady (number : ℕ) (sched : Sched ℕ) : Type 0 where
  is : IsWorld nat_eq sched.world
  holds : HoldsWhatIsSeen sched
  queues : AreOfAScript sched.queues
  counted : 1 ≤ number
  numbers : HasEarlierNumbers number sched.world

passed_ready : (number : ℕ) (sched : Sched ℕ) → IsReady number sched → IsReady (number + 1) sched
passed_ready number sched ready = record {
  is = ready.is;
  holds = ready.holds;
  queues = ready.queues;
  counted = (let least = ready.counted in omega (arith, least));
  numbers = numbers_passed number sched.world ready.numbers;
}

-- what a line is handed is its row
abbrev handed_by : ℕ → Bool → Option (Fresh ℕ)
handed_by number failed = cond failed None (Some (numbers_for number))

is_row : (number : ℕ) (failed : Bool) (fresh : Fresh ℕ) → handed_by number failed ≡ Some fresh
    → numbers_for number ≡ fresh
is_row number true fresh e = none_is_some fresh e
is_row number false fresh e = cc

module _ {number : ℕ} {sched : Sched ℕ} (ready : IsReady number sched) (who : Who) (failed : Bool) where
  abbrev given : Turn
  given = (who, handed_by number failed)

  row_serves : (fresh : Fresh ℕ) → handed_by number failed ≡ Some fresh → Serves nat_eq sched.world fresh
  row_serves fresh e = subst (Serves nat_eq sched.world) (is_row number failed fresh e)
      (serves_line number sched.world ready.counted ready.numbers)

  first_names_few : (call : Call) → IsFirst sched who call → names_few_groups call ≡ true
  first_names_few call first =
      first_stands sched.queues ready.queues who (record { line = first.0; item = Calls call }) first.1

  fit : IsFitTurn sched given
  fit = record { serves = row_serves; few_groups = λ line call first. first_names_few call (line, first) }

  abbrev now : Sched ℕ
  now = (turn nat_eq sched given.0 given.1).sched

  numbers_now : HasEarlierNumbers (number + 1) now.world
  numbers_now = by (turn_leaves sched given)
    where
      by : Leaves sched given now → HasEarlierNumbers (number + 1) now.world
      by (Same same) =
          subst (HasEarlierNumbers (number + 1)) (sym same) (numbers_passed number sched.world ready.numbers)
      by (After name call fresh commits) = subst (HasEarlierNumbers (number + 1)) (sym commits.world)
          (subst (λ row. HasEarlierNumbers (number + 1) (policy nat_eq row sched.world name call).world)
          (is_row number failed fresh commits.handed)
          (numbers_left number sched.world name call ready.counted ready.numbers))

  turned_ready : IsReady (number + 1) now
  turned_ready =
      let kept = turns_hold_what_is_seen sched given ready.is ready.holds fit in
      record {
        is = kept.0;
        holds = kept.1;
        queues = queues_of_scripts_stay sched given ready.queues;
        counted = (let least = ready.counted in omega (arith, least));
        numbers = numbers_now;
      }

-- Both runs

abbrev stand : ℕ → Sched ℕ → List TaskName → TurnStand
stand number sched names = record { number = number; sched = sched; names = names }

-- a set is among those that it is from here on
sets_from_has : (at : TurnStand) (rest : List Slot) (member : TaskName) → is_among same_name member at.names ≡ true
    → is_among same_name member (sets_from at rest) ≡ true
sets_from_has at [] member theirs = theirs
sets_from_has at (slot ∷ rest) member theirs =
    is_among-left member at.names (sets_from (next_stand true at slot) rest) theirs

-- what both runs keep, and what is given of the lines that are left
record Both (rest : List Slot) (number : ℕ) (full lone : Sched ℕ) (names : List TaskName) : Type 0 where
  abreast : Abreast (sets_from (stand number full names) rest) lone full names
  of_full : IsReady number full
  of_lone : IsReady number lone
  alone : AlongTurns LeavesThemSealed false (stand number lone names) rest
  sides : AlongTurns KeepsToItsSide true (stand number full names) rest
  born : AreOfNoLaterTask (stand number full names) rest

-- what is given after a turn, which is theirs or not
record Given (at at_alone : TurnStand) (given : Turn) (rest : List Slot) (theirs : Bool) : Type 0 where
  abreast : Abreast (at.names ++ sets_from (moved_by true theirs at given) rest) at_alone.sched at.sched at.names
  alone : AlongTurns LeavesThemSealed false (moved_by false theirs at_alone given) rest
  sides : AlongTurns KeepsToItsSide true (moved_by true theirs at given) rest
  born : AreOfNoLaterTask (moved_by true theirs at given) rest
  unborn : is_of_theirs at.names given.0 ≡ false
      → is_of_theirs (sets_from (moved_by true theirs at given) rest) given.0 ≡ false

-- so the lines that are left are replied alike
abbrev RepliedAlike : List Slot → Type 0
RepliedAlike rest = (number : ℕ) (full lone : Sched ℕ) (names : List TaskName) → Both rest number full lone names
    → own_replies true (stand number full names) rest ≡ own_replies false (stand number lone names) rest

module _ (rest : List Slot) (others_alike : RepliedAlike rest) (names : List TaskName) {number : ℕ}
    {full lone : Sched ℕ} (of_full : IsReady number full) (of_lone : IsReady number lone) (failed : Bool) where
  abbrev at : TurnStand
  at = stand number full names

  abbrev at_alone : TurnStand
  at_alone = stand number lone names

  -- a turn of others
  others_turn : (who : Who) → is_of_theirs names who ≡ false
      → KeepsToItsSide at (who, handed_by number failed)
      → Given at at_alone (who, handed_by number failed) rest false
      → own_replies true (moved_by true false at (who, handed_by number failed)) rest
      ≡ own_replies false (moved_by false false at_alone (who, handed_by number failed)) rest
  others_turn who outside side left =
      others_alike (number + 1) (now of_full who failed) lone names (record {
        abreast = after_others (fewer_kin left.abreast
            (λ member theirs. is_among-right member names
            (sets_from (stand (number + 1) (now of_full who failed) names) rest) theirs)
            (sets_from_has (stand (number + 1) (now of_full who failed) names) rest))
            (who, handed_by number failed) (record {
              outside = outside;
              apart = λ member first. side member first ∙ outside;
              few_groups = first_names_few of_full who failed;
              serves = row_serves of_full who failed;
            }) (left.unborn outside);
        of_full = turned_ready of_full who failed;
        of_lone = passed_ready number lone of_lone;
        alone = left.alone;
        sides = left.sides;
        born = left.born;
      })

  -- a turn of theirs
  module _ (name : TaskName) (theirs : is_among same_name name names ≡ true)
      (side : KeepsToItsSide at (Someone name, handed_by number failed))
      (seals : LeavesThemSealed at_alone (Someone name, handed_by number failed))
      (left : Given at at_alone (Someone name, handed_by number failed) rest true) where
    abbrev fresh : Option (Fresh ℕ)
    fresh = handed_by number failed

    their_turn : IsTheirs lone full names name fresh
    their_turn = record {
      theirs = theirs;
      among_them = λ member first. side member first ∙ theirs;
      no_directive = λ first e. no_directive_stands name first.item
          (first_stands full.queues of_full.queues (Someone name) first e);
      few_groups = first_names_few of_full (Someone name) failed;
      serves = row_serves of_full (Someone name) failed;
      serves_alone = row_serves of_lone (Someone name) failed;
      stays_sealed = seals theirs;
    }

    abbrev set : List TaskName
    set = set_left lone names name fresh

    same_sets : set_left full names name fresh ≡ set
    same_sets = sets left.abreast their_turn

    abbrev full_now : List TaskName → TurnStand
    full_now names_now = stand (number + 1) (now of_full (Someone name) failed) names_now

    then_alike : own_replies true (full_now set) rest
        ≡ own_replies false (stand (number + 1) (now of_lone (Someone name) failed) set) rest
    then_alike = others_alike (number + 1) (now of_full (Someone name) failed) (now of_lone (Someone name) failed) set
        (record {
          abreast = after_theirs left.abreast their_turn (sets_from (full_now set) rest)
              (λ member its. is_among-right member names
              (sets_from (full_now (set_left full names name fresh)) rest)
              (subst (λ names_now. is_among same_name member (sets_from (full_now names_now) rest) ≡ true)
              (sym same_sets) its)) (sets_from_has (full_now set) rest);
          of_full = turned_ready of_full (Someone name) failed;
          of_lone = turned_ready of_lone (Someone name) failed;
          alone = left.alone;
          sides = subst (λ names_now. AlongTurns KeepsToItsSide true (full_now names_now) rest) same_sets left.sides;
          born = subst (λ names_now. AreOfNoLaterTask (full_now names_now) rest) same_sets left.born;
        })

    their_turn_alike : reply_by true (turn nat_eq full (Someone name) fresh).reply
        ++ own_replies true (full_now (set_left full names name fresh)) rest
        ≡ reply_by true (turn nat_eq lone (Someone name) fresh).reply
        ++ own_replies false (stand (number + 1) (now of_lone (Someone name) failed) set) rest
    their_turn_alike = λ i. option_to_list ((alike left.abreast their_turn).reply i)
        ++ subst (λ names_now. own_replies true (full_now names_now) rest
        ≡ own_replies false (stand (number + 1) (now of_lone (Someone name) failed) set) rest) (sym same_sets)
        then_alike i

  by_side : (who : Who) (theirs : Bool) → is_of_theirs names who ≡ theirs
      → KeepsToItsSide at (who, handed_by number failed)
      → LeavesThemSealed at_alone (who, handed_by number failed)
      → Given at at_alone (who, handed_by number failed) rest theirs
      → reply_by theirs (turn nat_eq full who (handed_by number failed)).reply
      ++ own_replies true (moved_by true theirs at (who, handed_by number failed)) rest
      ≡ reply_by theirs (turn nat_eq lone who (handed_by number failed)).reply
      ++ own_replies false (moved_by false theirs at_alone (who, handed_by number failed)) rest
  by_side who false outside side seals left = others_turn who outside side left
  by_side Nobody true theirs side seals left = absurd (true≢false (sym theirs))
  by_side (Someone name) true theirs side seals left = their_turn_alike name theirs side seals left

replied_alike : (rest : List Slot) → RepliedAlike rest
replied_alike [] number full lone names both = refl
replied_alike ((None, failed) ∷ rest) number full lone names both =
    replied_alike rest (number + 1) full lone names (record {
      abreast = fewer_kin both.abreast
          (λ member theirs. is_among-right member names (sets_from (stand (number + 1) full names) rest) theirs)
          (sets_from_has (stand (number + 1) full names) rest);
      of_full = passed_ready number full both.of_full;
      of_lone = passed_ready number lone both.of_lone;
      alone = both.alone.1;
      sides = both.sides.1;
      born = both.born.1;
    })
replied_alike ((Some who, failed) ∷ rest) number full lone names both =
    by_side rest (replied_alike rest) names both.of_full both.of_lone failed who (is_of_theirs names who) refl
    both.sides.0 both.alone.0 (record {
      abreast = both.abreast;
      alone = both.alone.1;
      sides = both.sides.1;
      born = both.born.1;
      unborn = both.born.0;
    })

pub sealed_sets_reply_as_if_alone : SealedSetsReplyAsIfAlone
sealed_sets_reply_as_if_alone at rest off stays =
    let ready : IsReady at.number at.sched = record {
      is = off.sealed_in.is;
      holds = off.holds;
      queues = off.queues;
      counted = off.counted;
      numbers = off.numbers;
    } in
    replied_alike rest at.number at.sched at.sched at.names (record {
      abreast = begun (sets_from at rest) at.sched at.names off.sealed_in off.holds (sets_from_has at rest);
      of_full = ready;
      of_lone = ready;
      alone = stays.alone;
      sides = stays.sides;
      born = stays.born;
    })

-- From the opening world on

lines_lead : (lines : List (List ℕ)) (refused : List Bool) (number : ℕ) (sched : Sched ℕ) → IsReady number sched
    → IsReady (number + length lines) (left_by sched (turns_given number lines refused))
lines_lead [] refused number sched ready = subst (λ n. IsReady n sched) (omega arith) ready
lines_lead (line ∷ lines) refused number sched ready =
    subst (λ n. IsReady n (left_by sched (turns_given number (line ∷ lines) refused))) (omega arith)
    (by (schedule_who line) refused (λ more next so. lines_lead lines more (number + 1) next so))
  where
    by : (who : Option Who) (list : List Bool)
        → ((more : List Bool) (next : Sched ℕ) → IsReady (number + 1) next
        → IsReady (number + 1 + length lines) (left_by next (turns_given (number + 1) lines more)))
        → IsReady (number + 1 + length lines)
        (left_by sched (turn_given who (handed number list) ++ turns_given (number + 1) lines (later list)))
    by None list rest = rest (later list) sched (passed_ready number sched ready)
    by (Some who) [] rest = rest [] (now ready who false) (turned_ready ready who false)
    by (Some who) (true ∷ list) rest = rest list (now ready who true) (turned_ready ready who true)
    by (Some who) (false ∷ list) rest = rest list (now ready who false) (turned_ready ready who false)

pub sealed_sets_stand_so_in_turn : SealedSetsStandSoInTurn
sealed_sets_stand_so_in_turn version script lines refused names there sealed_off =
    let ready = lines_lead lines refused 1 (first_sched (whole version) script) (record {
      is = (opening_is_a_world (λ place. place) (λ j k e. e)).0;
      holds = schedulers_begin_so first_world (queues_of (whole version) script);
      queues = queues_of_scripts (whole version) script;
      counted = omega arith;
      numbers = first_numbers;
    }) in
    record {
      sealed_in = record { is = ready.is; sealed_off = sealed_off; there = there };
      holds = ready.holds;
      queues = ready.queues;
      counted = ready.counted;
      numbers = ready.numbers;
    }
