-- A turn of a task of a sealed set gives others no foothold.
use Rattle.std.proofs.Common.{arith, ◌≡◌, refl, sym, ap, subst, ◌∙◌, ⊎_elim, ℕ, nat_eq, true, true≢false, List, [], ◌∷◌, ◌++◌, Option, Some, None}
use Rattle.vt_spec.proofs.Common.{Asks, Call, Calls, Fresh, Item, Queued, Refused, Sched, Someone, TaskName, Turned, among_from_contains, common_steps, first_of_list, is_among, is_among_numbers, list_any-append, queue_of, same_name, turn, used_filesystems}
use Rattle.vt_laws_containers.proofs.Common.{Answers, GoesOn, IsApart, Turns, apart_if_sealed, names_few_groups, run_item, turn_is}
use Rattle.vt_laws_containers.proofs.members_turns.EachTurn.{stays}
use Rattle.vt_laws_containers.proofs.sealed_scripts.footholds.Footholds.{no_call_gives_a_foothold}
use Rattle.vt_laws_containers.specs.Footholds.{LeavesOthersOut}
use Rattle.vt_laws_containers.specs.MembersTurns.Rounds.{Round, set_after, sets_in, turn_of_theirs}
use Rattle.vt_laws_containers.specs.MembersTurns.TheirTurns.{IsTurnOfTheirs, grown_after, grown_by, set_left}
use Rattle.vt_laws_containers.specs.SealedTurns.OutsidersTurns.{IsFirst}

-- names of one of two lists are names of both
pub is_among-left : (member : TaskName) (ones others : List TaskName) → is_among same_name member ones ≡ true
    → is_among same_name member (ones ++ others) ≡ true
is_among-left member ones others theirs = grind (arith, common_steps, list_any-append)

pub is_among-right : (member : TaskName) (ones others : List TaskName) → is_among same_name member others ≡ true
    → is_among same_name member (ones ++ others) ≡ true
is_among-right member ones others theirs = grind (arith, common_steps, list_any-append)

-- the set that is there before rounds is one of theirs
pub sets_in_has : (sched : Sched ℕ) (names : List TaskName) (rounds : List Round) (member : TaskName)
    → is_among same_name member names ≡ true → is_among same_name member (sets_in sched names rounds) ≡ true
sets_in_has sched names [] member theirs = theirs
sets_in_has sched names (round ∷ rest) member theirs = is_among-left member names
    (sets_in (turn_of_theirs sched round).sched (set_after sched names round) rest) theirs

module _ (sched : Sched ℕ) (names : List TaskName) (name : TaskName) (fresh : Option (Fresh ℕ))
    (it : IsTurnOfTheirs sched names name fresh)
    (few : (call : Call) → IsFirst sched (Someone name) call → names_few_groups call ≡ true) where
  apart : IsApart sched.world names
  apart = apart_if_sealed (record { is = it.has.is; sealed_off = it.sealed_off })

  -- the world and the set as they were
  unchanged : LeavesOthersOut sched.world sched.world names names
  unchanged = record {
    tasks = apart.tasks;
    events = apart.events;
    locations = apart.locations;
    as_before = λ filesystem used was. refl;
    none_on_new = λ filesystem used new.
        absurd (true≢false (sym (is_among_numbers (used_filesystems nat_eq sched.world names) filesystem
        (among_from_contains (used_filesystems nat_eq sched.world names) filesystem used)) ∙ new));
  }

  -- an item that is run whole
  by_item : (line : ℕ) (item : Item) (given : Option (Fresh ℕ)) → fresh ≡ given
      → first_of_list (queue_of sched.queues (Someone name)) ≡ Some (record { line = line; item = item })
      → LeavesOthersOut sched.world (run_item sched.world (Someone name) item given).world names
      (grown_by names name item (run_item sched.world (Someone name) item given).answer)
  by_item line (Calls call) None e first = unchanged
  by_item line (Calls call) (Some given) e first = no_call_gives_a_foothold sched.world names name call (record {
    is = it.has.is;
    sealed_off = it.sealed_off;
    theirs = it.theirs;
    among_them = λ member same. it.among_them member (subst (IsFirst sched (Someone name)) same (line, first));
  }) (few call (line, first)) given (it.serves given e)
  by_item line (Asks directive) given e first = absurd (true≢false (it.no_directive _ first))
  by_item line (Refused deny) given e first = unchanged

  goes_on : (first : Option Queued) (turned : Turned ℕ) → GoesOn sched turned
      → LeavesOthersOut sched.world turned.sched.world names (grown_after names name first turned.reply)
  goes_on first turned goes = subst (λ world. LeavesOthersOut sched.world world names
      (grown_after names name first turned.reply)) (sym goes.world)
      (subst (LeavesOthersOut sched.world sched.world names)
      (sym (ap (grown_after names name first) goes.reply ∙ stays names name first)) unchanged)

  answers : (first : Queued) (turned : Turned ℕ)
      → first_of_list (queue_of sched.queues (Someone name)) ≡ Some first
      → Answers sched (Someone name) first fresh turned
      → LeavesOthersOut sched.world turned.sched.world names (grown_after names name (Some first) turned.reply)
  answers first turned e done = subst (λ world. LeavesOthersOut sched.world world names
      (grown_after names name (Some first) turned.reply)) (sym done.world)
      (subst (LeavesOthersOut sched.world (run_item sched.world (Someone name) first.item fresh).world names)
      (sym (ap (grown_after names name (Some first)) done.reply)) (by_item first.line first.item fresh refl e))

  by_queue : (items : List Queued) (turned : Turned ℕ) → queue_of sched.queues (Someone name) ≡ items
      → Turns sched (Someone name) fresh items turned
      → LeavesOthersOut sched.world turned.sched.world names (grown_after names name (first_of_list items) turned.reply)
  by_queue [] turned e goes = goes_on None turned goes
  by_queue (first ∷ rest) turned e is =
      ⊎_elim (goes_on (Some first) turned) (answers first turned (ap first_of_list e)) is

  pub turn_of_theirs_leaves_others_out : LeavesOthersOut sched.world
      (turn nat_eq sched (Someone name) fresh).sched.world names (set_left sched names name fresh)
  turn_of_theirs_leaves_others_out = by_queue (queue_of sched.queues (Someone name))
      (turn nat_eq sched (Someone name) fresh) refl (turn_is sched (Someone name) fresh)
