-- The set that a turn of theirs leaves has names of tasks alone.
use Rattle.std.proofs.Common.{◌≡◌, refl, ⊎_elim, ℕ, nat_eq, false, true, true≢false, List, [], ◌∷◌, Option, Some, None}
use Rattle.vt_spec.proofs.Common.{Asks, Calls, Fresh, Item, Queued, Refused, Sched, Someone, TaskName, Turned, first_of_list, queue_of, turn}
use Rattle.vt_laws_containers.proofs.Common.{Answers, GoesOn, Turns, are_all_called, run_item, turn_is}
use Rattle.vt_laws_containers.proofs.scripts.Called.{members_stay_called}
use Rattle.vt_laws_containers.specs.MembersTurns.TheirTurns.{grown_after, grown_by, is_directive, set_left}
use Rattle.vt_laws_containers.proofs.members_turns.EachTurn.{stays}

module _ (sched : Sched ℕ) (names : List TaskName) (name : TaskName) (fresh : Option (Fresh ℕ))
    (there : are_all_called sched.world names ≡ true) where
  -- an item that is run whole leaves them so
  by_item : (item : Item) (given : Option (Fresh ℕ)) → is_directive item ≡ false
      → are_all_called (run_item sched.world (Someone name) item given).world
      (grown_by names name item (run_item sched.world (Someone name) item given).answer) ≡ true
  by_item (Calls call) None e = there
  by_item (Calls call) (Some given) e = members_stay_called sched.world given names name call there
  by_item (Asks directive) given e = absurd (true≢false e)
  by_item (Refused deny) given e = there

  goes_on : (first : Option Queued) (turned : Turned ℕ) → GoesOn sched turned
      → are_all_called turned.sched.world (grown_after names name first turned.reply) ≡ true
  goes_on first turned goes =
      cc (goes.reply, stays names name first, goes.world)

  answers : (first : Queued) (turned : Turned ℕ) → is_directive first.item ≡ false
      → Answers sched (Someone name) first fresh turned
      → are_all_called turned.sched.world (grown_after names name (Some first) turned.reply) ≡ true
  answers first turned e done =
      cc (done.reply, done.world, by_item first.item fresh e)

  by_queue : (items : List Queued) (turned : Turned ℕ) → ((first : Queued) → first_of_list items ≡ Some first
      → is_directive first.item ≡ false) → Turns sched (Someone name) fresh items turned
      → are_all_called turned.sched.world (grown_after names name (first_of_list items) turned.reply) ≡ true
  by_queue [] turned plain goes = goes_on None turned goes
  by_queue (first ∷ rest) turned plain is = ⊎_elim (goes_on (Some first) _) (answers first _ (plain first refl)) is

  pub still_called_after : ((first : Queued) → first_of_list (queue_of sched.queues (Someone name)) ≡ Some first
      → is_directive first.item ≡ false)
      → are_all_called (turn nat_eq sched (Someone name) fresh).sched.world (set_left sched names name fresh) ≡ true
  still_called_after plain =
      by_queue _ (turn nat_eq sched (Someone name) fresh) plain (turn_is sched (Someone name) fresh)
