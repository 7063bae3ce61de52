-- Turns of theirs reply as they do without the turns of others.
use Rattle.std.proofs.Common.{◌≡◌, refl, sym, ap, subst, ◌∙◌, inl, inr, ℕ, nat_eq, false, true, List, [], ◌∷◌, Contains, Option, Some, map}
use Rattle.vt_spec.proofs.Common.{Call, Calls, Fresh, IsWorld, Queued, Reply, Sched, Serves, Someone, TaskName, World, among_from_contains, contains_from_among, first_of_list, is_among, part_of, queue_of, same_name, same_who, sealed, turn, used_alone, used_filesystems}
use Rattle.vt_spec.specs.Language.Calls.Call.{Setns}
use Rattle.vt_laws_containers.proofs.Common.{HasNoMoreFootholds, HoldsWhatIsSeen, Turn, are_all_called, fewer_footholds_seal_too, left_by, names_few_groups, still_called, turns_hold_what_is_seen}
use Rattle.vt_laws_containers.proofs.members_turns.Beside.{same_set, still_theirs, turns_alike_in}
use Rattle.vt_laws_containers.proofs.members_turns.Called.{still_called_after}
use Rattle.vt_laws_containers.proofs.members_turns.OtherQueues.{queue_after, queue_stays, shortened_by}
use Rattle.vt_laws_containers.proofs.members_turns.OthersOut.{is_among-right, sets_in_has, turn_of_theirs_leaves_others_out}
use Rattle.vt_laws_containers.proofs.scripts.AnsweredAlike.{no_more_left, used_by_parts}
use Rattle.vt_laws_containers.proofs.scripts.UsedThere.{used_is_there}
use Rattle.vt_laws_containers.proofs.sealed_turns.outsiders.Turned.{LeavesAWorld, turn_leaves_a_world, turn_leaves_calls}
use Rattle.vt_laws_containers.specs.Footholds.{LeavesOthersOut}
use Rattle.vt_laws_containers.specs.MembersTurns.Rounds.{AreRounds, GoAlone, OthersLeaveThemSealed, Round, TheirTurnsLeaveAsAlone, TheirTurnsReplyAsAlone, alone, set_after, set_after_all, sets_in, state_after, their_replies, turn_of_theirs}
use Rattle.vt_laws_containers.specs.MembersTurns.TheirTurns.{HaveOnePart, IsTurnOfTheirs, TurnsAlikeIn, is_directive, set_left}
use Rattle.vt_laws_containers.specs.SealedTurns.OutsidersTurns.{AreOutsidersTurns, HasItSealed, IsFirst, IsOutsidersTurn, is_of_theirs, their_calls}

-- the set is sealed off in a state that a run leads to
pub record IsAt (sched : Sched ℕ) (names : List TaskName) : Type 0 where
  pub sealed_in : HasItSealed sched names
  pub holds : HoldsWhatIsSeen sched

-- Two runs are abreast: of the first only the turns of theirs are taken, of the other those of others, too. In the
-- other run others have no more footholds. The queues of kin, which the set has now or later, are the same.
pub record Abreast (kin : List TaskName) (one other : Sched ℕ) (names : List TaskName) : Type 0 where
  pub here : IsAt one names
  pub there : IsAt other names
  pub part : part_of nat_eq other.world names ≡ part_of nat_eq one.world names
  pub no_more : HasNoMoreFootholds other.world one.world names
  pub calls : their_calls names other.under_way ≡ their_calls names one.under_way
  pub queues : (member : TaskName) → is_among same_name member kin ≡ true
      → queue_of other.queues (Someone member) ≡ queue_of one.queues (Someone member)
  pub within : (member : TaskName) → is_among same_name member names ≡ true → is_among same_name member kin ≡ true

-- with fewer kin
pub fewer_kin : {kin less : List TaskName} {one other : Sched ℕ} {names : List TaskName} → Abreast kin one other names
    → ((member : TaskName) → is_among same_name member less ≡ true → is_among same_name member kin ≡ true)
    → ((member : TaskName) → is_among same_name member names ≡ true → is_among same_name member less ≡ true)
    → Abreast less one other names
fewer_kin at fewer within = record {
  here = at.here;
  there = at.there;
  part = at.part;
  no_more = at.no_more;
  calls = at.calls;
  queues = λ member theirs. at.queues member (fewer member theirs);
  within = within;
}

-- A turn of others
module _ {kin : List TaskName} {one other : Sched ℕ} {names : List TaskName} (at : Abreast kin one other names)
    (given : Turn) (outsider : IsOutsidersTurn other names given) (unborn : is_of_theirs kin given.0 ≡ false) where
  abbrev later : Sched ℕ
  later = (turn nat_eq other given.0 given.1).sched

  world_left : LeavesAWorld other names given at.there.sealed_in outsider later.world
  world_left = turn_leaves_a_world other names given at.there.sealed_in outsider

  not_more : HasNoMoreFootholds later.world one.world names
  not_more filesystem used free =
      let was : Contains (used_filesystems nat_eq other.world names) filesystem =
      subst (λ list. Contains list filesystem) (used_by_parts later.world other.world names world_left.leaves.part)
      used in
      let found = used_is_there other.world names at.there.sealed_in.is filesystem was in
      subst (λ n. used_alone nat_eq later.world names n ≡ true) found.2 (world_left.leaves.no_more found.0 found.1
      (subst (λ n. used_alone nat_eq other.world names n ≡ true) (sym found.2) (at.no_more filesystem was free)))

  pub after_others : Abreast kin one later names
  after_others = record {
    here = at.here;
    there = record {
      sealed_in = record {
        is = world_left.is;
        sealed_off = world_left.leaves.sealed_off;
        there = still_called other.world later.world names (ap (λ (part : World ℕ). part.tasks) world_left.leaves.part)
            at.there.sealed_in.there;
      };
      holds = (turns_hold_what_is_seen other given at.there.sealed_in.is at.there.holds (record {
        serves = outsider.serves;
        few_groups = λ line call first. outsider.few_groups call (line, first);
      })).1;
    };
    part = world_left.leaves.part ∙ at.part;
    no_more = not_more;
    calls = (turn_leaves_calls other names given at.there.sealed_in outsider).calls ∙ at.calls;
    queues = λ member theirs. queue_stays kin other given unborn member theirs ∙ at.queues member theirs;
    within = at.within;
  }

-- turns of others, however many
pub after_all_others : {kin : List TaskName} {one : Sched ℕ} {names : List TaskName} (schedule : List Turn)
    (other : Sched ℕ) → Abreast kin one other names → AreOutsidersTurns other names schedule
    → ((given : Turn) → Contains schedule given → is_of_theirs kin given.0 ≡ false)
    → Abreast kin one (left_by other schedule) names
after_all_others [] other at of unborn = at
after_all_others (given ∷ rest) other at of unborn =
    after_all_others rest (turn nat_eq other given.0 given.1).sched
    (after_others at given of.0 (unborn given (contains_from_among (given ∷ rest) given (inl refl)))) of.1
    (λ next c. unborn next (contains_from_among (given ∷ rest) next (inr (among_from_contains rest next c))))

-- a turn of theirs, by numbers that are not in use in either run, after which the set is sealed off in the first
pub record IsTheirs (one other : Sched ℕ) (names : List TaskName) (name : TaskName) (fresh : Option (Fresh ℕ))
    : Type 0 where
  pub theirs : is_among same_name name names ≡ true
  pub among_them : (member : TaskName) → IsFirst other (Someone name) (Setns member)
      → is_among same_name member names ≡ true
  pub no_directive : (first : Queued) → first_of_list (queue_of other.queues (Someone name)) ≡ Some first
      → is_directive first.item ≡ false
  pub few_groups : (call : Call) → IsFirst other (Someone name) call → names_few_groups call ≡ true
  pub serves : (given : Fresh ℕ) → fresh ≡ Some given → Serves nat_eq other.world given
  pub serves_alone : (given : Fresh ℕ) → fresh ≡ Some given → Serves nat_eq one.world given
  pub stays_sealed : sealed nat_eq (turn nat_eq one (Someone name) fresh).sched.world (set_left one names name fresh)
      ≡ true

module _ {kin : List TaskName} {one other : Sched ℕ} {names : List TaskName} (at : Abreast kin one other names)
    {name : TaskName} {fresh : Option (Fresh ℕ)} (it : IsTheirs one other names name fresh) where
  abbrev lone_left : Sched ℕ
  lone_left = (turn nat_eq one (Someone name) fresh).sched

  abbrev left : Sched ℕ
  left = (turn nat_eq other (Someone name) fresh).sched

  same : HaveOnePart one other names
  same = record {
    part = at.part;
    calls = at.calls;
    queues = λ member theirs. at.queues member (at.within member theirs);
  }

  same_back : HaveOnePart other one names
  same_back = record {
    part = sym at.part;
    calls = sym at.calls;
    queues = λ member theirs. sym (at.queues member (at.within member theirs));
  }

  there_turn : IsTurnOfTheirs other names name fresh
  there_turn = record {
    has = record { is = at.there.sealed_in.is; holds = at.there.holds };
    sealed_off = at.there.sealed_in.sealed_off;
    theirs = it.theirs;
    among_them = it.among_them;
    no_directive = it.no_directive;
    serves = it.serves;
  }

  lone_turn : IsTurnOfTheirs one names name fresh
  lone_turn = still_theirs same_back there_turn at.here.sealed_in at.here.holds it.serves_alone

  pub alike : TurnsAlikeIn one other names (set_left one names name fresh) name fresh
  alike = turns_alike_in same lone_turn there_turn

  abbrev pub set : List TaskName
  set = set_left one names name fresh

  pub sets : set_left other names name fresh ≡ set
  sets = same_set same lone_turn alike.reply

  first_same : (line : ℕ) (call : Call)
      → first_of_list (queue_of one.queues (Someone name)) ≡ Some (record { line = line; item = Calls call })
      → IsFirst other (Someone name) call
  first_same line call first = (line, ap first_of_list (same.queues name it.theirs) ∙ first)

  lone_out : LeavesOthersOut one.world lone_left.world names set
  lone_out = turn_of_theirs_leaves_others_out one names name fresh lone_turn
      (λ call first. it.few_groups call (first_same first.0 call first.1))

  others_out : LeavesOthersOut other.world left.world names set
  others_out = subst (LeavesOthersOut other.world left.world names) sets
      (turn_of_theirs_leaves_others_out other names name fresh there_turn it.few_groups)

  lone_now : IsWorld nat_eq lone_left.world × HoldsWhatIsSeen lone_left
  lone_now = turns_hold_what_is_seen one (Someone name, fresh) at.here.sealed_in.is at.here.holds (record {
    serves = it.serves_alone;
    few_groups = λ line call first. it.few_groups call (first_same line call first);
  })

  now : IsWorld nat_eq left.world × HoldsWhatIsSeen left
  now = turns_hold_what_is_seen other (Someone name, fresh) at.there.sealed_in.is at.there.holds
      (record { serves = it.serves; few_groups = λ line call first. it.few_groups call (line, first) })

  still_no_more : HasNoMoreFootholds left.world lone_left.world set
  still_no_more = no_more_left others_out lone_out at.part alike.part at.no_more

  -- kin that the set has from here on
  pub after_theirs : (less : List TaskName)
      → ((member : TaskName) → is_among same_name member less ≡ true → is_among same_name member kin ≡ true)
      → ((member : TaskName) → is_among same_name member set ≡ true → is_among same_name member less ≡ true)
      → Abreast less lone_left left set
  after_theirs less fewer within = record {
    here = record {
      sealed_in = record {
        is = lone_now.0;
        sealed_off = it.stays_sealed;
        there = still_called_after one names name fresh at.here.sealed_in.there lone_turn.no_directive;
      };
      holds = lone_now.1;
    };
    there = record {
      sealed_in = record {
        is = now.0;
        sealed_off = fewer_footholds_seal_too left.world lone_left.world set (record {
          is = now.0;
          tasks = others_out.tasks;
          events = others_out.events;
          locations = others_out.locations;
        }) lone_now.0 alike.part still_no_more it.stays_sealed;
        there = subst (λ s. are_all_called left.world s ≡ true) sets
            (still_called_after other names name fresh at.there.sealed_in.there it.no_directive);
      };
      holds = now.1;
    };
    part = alike.part;
    no_more = still_no_more;
    calls = alike.calls;
    queues = λ member theirs. queue_after other (Someone name) fresh (Someone member)
        ∙ ap (λ (r : Option Reply). shortened_by r (same_who (Someone member) (Someone name))
        (queue_of other.queues (Someone member))) alike.reply
        ∙ ap (shortened_by (turn nat_eq one (Someone name) fresh).reply (same_who (Someone member) (Someone name)))
        (at.queues member (fewer member theirs)) ∙ sym (queue_after one (Someone name) fresh (Someone member));
    within = within;
  }

-- Rounds
module _ (round : Round) (rest : List Round) {one other : Sched ℕ} {names : List TaskName}
    (at : Abreast (sets_in other names (round ∷ rest)) one other names)
    (are : AreRounds other names (round ∷ rest)) (lone : GoAlone one names (round ∷ rest)) where
  abbrev others_taken : Sched ℕ
  others_taken = left_by other round.others

  at_later : Abreast (sets_in other names (round ∷ rest)) one others_taken names
  at_later = after_all_others round.others other at are.0.outside are.0.unborn

  their_turn : IsTheirs one others_taken names round.name round.fresh
  their_turn = record {
    theirs = are.0.theirs;
    among_them = are.0.among_them;
    no_directive = are.0.no_directive;
    few_groups = are.0.few_groups;
    serves = are.0.serves;
    serves_alone = lone.0.serves;
    stays_sealed = lone.0.sealed_off;
  }

  round_reply : (turn_of_theirs other round).reply ≡ (turn_of_theirs one (alone round)).reply
  round_reply = (alike at_later their_turn).reply

  abbrev round_set : List TaskName
  round_set = set_left one names round.name round.fresh

  round_sets : set_after other names round ≡ round_set
  round_sets = sets at_later their_turn

  abbrev kin_left : List TaskName → List TaskName
  kin_left names_now = sets_in (turn_of_theirs other round).sched names_now rest

  round_done : Abreast (kin_left round_set) (turn_of_theirs one (alone round)).sched (turn_of_theirs other round).sched
      round_set
  round_done = after_theirs at_later their_turn (kin_left round_set)
      (λ member theirs. is_among-right member names (kin_left (set_after other names round))
      (subst (λ names_now. is_among same_name member (kin_left names_now) ≡ true) (sym round_sets) theirs))
      (sets_in_has (turn_of_theirs other round).sched round_set rest)

  are_left : AreRounds (turn_of_theirs other round).sched round_set rest
  are_left = subst (λ names_now. AreRounds (turn_of_theirs other round).sched names_now rest) round_sets are.1

in_rounds : (rounds : List Round) (one other : Sched ℕ) (names : List TaskName)
    → Abreast (sets_in other names rounds) one other names → AreRounds other names rounds → GoAlone one names rounds
    → their_replies other rounds ≡ their_replies one (map alone rounds)
in_rounds [] one other names at are lone = refl
in_rounds (round ∷ rest) one other names at are lone =
    let then = in_rounds rest (turn_of_theirs one (alone round)).sched (turn_of_theirs other round).sched
    (round_set round rest at are lone) (round_done round rest at are lone) (are_left round rest at are lone) lone.1 in
    λ i. round_reply round rest at are lone i ∷ then i

after_rounds : (rounds : List Round) (one other : Sched ℕ) (names : List TaskName)
    → Abreast (sets_in other names rounds) one other names → AreRounds other names rounds → GoAlone one names rounds
    → (set_after_all other names rounds ≡ set_after_all one names (map alone rounds))
    × Abreast (set_after_all one names (map alone rounds)) (state_after one (map alone rounds))
    (state_after other rounds) (set_after_all one names (map alone rounds))
after_rounds [] one other names at are lone = (refl, at)
after_rounds (round ∷ rest) one other names at are lone =
    let then = after_rounds rest (turn_of_theirs one (alone round)).sched (turn_of_theirs other round).sched
    (round_set round rest at are lone) (round_done round rest at are lone) (are_left round rest at are lone) lone.1 in (
      ap (λ names_now. set_after_all (turn_of_theirs other round).sched names_now rest)
          (round_sets round rest at are lone) ∙ then.0,
      then.1,
    )

-- both runs begin in one state
pub begun : (kin : List TaskName) (sched : Sched ℕ) (names : List TaskName) → HasItSealed sched names
    → HoldsWhatIsSeen sched
    → ((member : TaskName) → is_among same_name member names ≡ true → is_among same_name member kin ≡ true)
    → Abreast kin sched sched names
begun kin sched names has holds within =
    let at : IsAt sched names = record { sealed_in = has; holds = holds } in
    record {
      here = at;
      there = at;
      part = refl;
      no_more = λ filesystem used free. free;
      calls = refl;
      queues = λ member theirs. refl;
      within = within;
    }

pub their_turns_reply_as_alone : TheirTurnsReplyAsAlone
their_turns_reply_as_alone sched names rounds has holds are lone = in_rounds rounds sched sched names
    (begun (sets_in sched names rounds) sched names has holds (sets_in_has sched names rounds)) are lone

module _ (sched : Sched ℕ) (names : List TaskName) (rounds : List Round) (has : HasItSealed sched names)
    (holds : HoldsWhatIsSeen sched) (are : AreRounds sched names rounds) (lone : GoAlone sched names rounds) where
  abbrev lone_set : List TaskName
  lone_set = set_after_all sched names (map alone rounds)

  end : (set_after_all sched names rounds ≡ lone_set)
      × Abreast lone_set (state_after sched (map alone rounds)) (state_after sched rounds) lone_set
  end = after_rounds rounds sched sched names
      (begun (sets_in sched names rounds) sched names has holds (sets_in_has sched names rounds)) are lone

  leave_as_alone : (set_after_all sched names rounds ≡ lone_set)
      × HaveOnePart (state_after sched (map alone rounds)) (state_after sched rounds) lone_set
  leave_as_alone = (end.0, record { part = end.1.part; calls = end.1.calls; queues = end.1.queues })

  leave_sealed : HasItSealed (state_after sched rounds) (set_after_all sched names rounds)
  leave_sealed = subst (HasItSealed (state_after sched rounds)) (sym end.0) end.1.there.sealed_in

pub their_turns_leave_as_alone : TheirTurnsLeaveAsAlone
their_turns_leave_as_alone sched names rounds has holds are lone =
    leave_as_alone sched names rounds has holds are lone

pub others_leave_them_sealed : OthersLeaveThemSealed
others_leave_them_sealed sched names rounds has holds are lone = leave_sealed sched names rounds has holds are lone
