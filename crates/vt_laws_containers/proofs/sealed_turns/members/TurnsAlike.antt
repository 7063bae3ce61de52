-- A turn of a task of theirs goes in their part as it goes in the world, as long as it answers nothing.
use Rattle.std.proofs.Common.{arith, ◌≡◌, refl, sym, ap, subst, ◌∙◌, ◌⊎◌, inl, inr, ⊎_elim, ℕ, nat_eq, Bool, true, false, true≢false, cond, not, List, [], ◌∷◌, ◌++◌, ◌+◌, Option, Some, None, Ok, Err, Result, find, is_some, nat_le, slice_get}
use Rattle.vt_spec.proofs.Common.{Among, Asks, Call, Calls, Filesystem, Fresh, Item, Progress, Queued, Refused, Route, Sched, Someone, Task, TaskName, Turned, World, among-filter, call_turn, call_turn_of, common_steps, contains_from_among, entry_rules, first_progress, first_turn, first_turn_by, folded, found_among, found_passes, further, is_among, is_member_task, is_overtaken, is_removed, item_turn, later_turn, list_any, looks_of, members, most_restarts, next_word, one_further, queue_of, queue_turn, restarted, routes, same_name, same_task_name, task_called, turn, turn_under_way, unless, used_filesystems, without_progress, word_walked_by, words_of}
use Rattle.vt_laws_containers.proofs.Common.{Deny, called_alike, directory_theirs, each_from, filesystem_alike, filters_swapped, find-filter, hold_one, is_theirs, members_see_alike, name_found, nth_among, theirs_from, theirs_test, went_on, word_seen}
use Rattle.vt_laws_sealed.proofs.part.walks.WalksAgree.{Alike}
use Rattle.vt_laws_containers.specs.SealedTurns.MembersTurns.{HasCallsUnderWay, TheirTurnsAnswerAlike, TheirWordsAreOfTheirPart, part_of_sched}
use Rattle.vt_laws_containers.specs.SealedTurns.OutsidersTurns.{their_calls}
use Rattle.vt_laws_containers.proofs.sealed_turns.members.Numbers.{filesystem_same, namespace_same, overtaken_alike, seen_used}
use Rattle.vt_laws_containers.proofs.sealed_turns.members.RoutesAlike.{entry_same, routes_alike}

module _ (sched : Sched ℕ) (names : List TaskName) (has : HasCallsUnderWay sched) where
  abbrev world : World ℕ
  world = sched.world

  abbrev part : Sched ℕ
  part = part_of_sched names sched

  -- both answer something, or both nothing: then the part of what is left is what is left in the part
  abbrev pub AlikeTurned : Turned ℕ → Turned ℕ → Type 0
  AlikeTurned turned in_part = ((is_some turned.reply ≡ true) × (is_some in_part.reply ≡ true))
      ⊎ ((turned.reply ≡ None) × (in_part ≡ record { sched = part_of_sched names turned.sched; reply = None }))

  -- the call of a task of theirs
  module _ {task : Task ℕ} (called : task_called world task.name ≡ Some task)
      (theirs : is_among same_name task.name names ≡ true) (line : ℕ) (call : Call) (fresh : Fresh ℕ) where
    member : Among task (members world names)
    member = among-filter (is_member_task names) world.tasks task (found_among _ world.tasks task called) theirs

    abbrev ways : List (Route ℕ)
    ways = routes nat_eq (looks_of nat_eq world) task call

    -- a walk of theirs sees the same in the part
    walks_alike : Alike (looks_of nat_eq world) (looks_of nat_eq part.world) task
        (λ number. is_theirs world names number ≡ true)
    walks_alike =
        let alike = members_see_alike world names task has.is (contains_from_among (members world names) task member) in
        record {
          root = alike.root;
          node = alike.node;
          mount = alike.mount;
          overlay = alike.overlay;
          over = alike.over;
          entered = λ here e. each_from (is_theirs world names) _ (alike.entered here e);
          hops_alike = alike.hops_alike;
          hopped = λ here e. each_from (is_theirs world names) _ (alike.hopped here e);
          lost = alike.lost;
        }

    same_ways : ways ≡ routes nat_eq (looks_of nat_eq part.world) task call
    same_ways = routes_alike (record {
      walks = walks_alike;
      directory = theirs_test world names has.is.mounts task.directory.mount
          (directory_theirs world names has.is task member);
      removed = λ here own. ap (λ (f : Filesystem ℕ). is_removed nat_eq f.files.tree here.node)
          (filesystem_alike world names has.is here (theirs_from world names has.is.mounts here.mount own));
    }) call

    held_same : (met : List ℕ) (list : List (ℕ × ℕ))
        → ((f : ℕ) → Among f met → is_among nat_eq f (used_filesystems nat_eq world names) ≡ true)
        → folded (hold_one nat_eq part.world) list met ≡ folded (hold_one nat_eq world) list met
    held_same [] list used = refl
    held_same (f ∷ met) list used = ap (λ n. folded (hold_one nat_eq part.world)
        (cond (list_any (λ (other : ℕ × ℕ). nat_eq f other.0) list) list (list ++ ((f, n) ∷ []))) met)
        (filesystem_same world names has.is task member f (used f (inl refl))) ∙ held_same met _ (λ g m. used g (inr m))

    word : (fails : Bool) (before : Progress ℕ) (met : List ℕ) → before.task ≡ task.name
        → ((f : ℕ) → Among f met → is_among nat_eq f (used_filesystems nat_eq world names) ≡ true)
        → AlikeTurned (word_walked_by nat_eq fails sched line call fresh before met)
        (word_walked_by nat_eq fails part line call fresh before met)
    word true before met its used = inl (refl, refl)
    word false before met its used = inr (
      refl,
      ap (λ (held : List (ℕ × ℕ)). went_on part (record before { walked = before.walked + 1; filesystems = held }))
          (held_same met before.filesystems used) ∙ ap goes (sym calls),
    )
      where
        goes : List (Progress ℕ) → Turned ℕ
        goes list = record { sched = record part { under_way = list }; reply = None }

        next : Progress ℕ
        next = one_further nat_eq world met before

        its_own : is_among same_name next.task names ≡ true
        its_own = ap (λ n. is_among same_name n names) its ∙ theirs

        calls : their_calls names (next ∷ without_progress next.task sched.under_way)
            ≡ next ∷ without_progress next.task (their_calls names sched.under_way)
        calls = ap (λ b. cond b (next ∷ their_calls names (without_progress next.task sched.under_way))
            (their_calls names (without_progress next.task sched.under_way))) its_own
            ∙ ap (λ l. next ∷ l) (filters_swapped (λ (p : Progress ℕ). is_among same_name p.task names)
            (λ (p : Progress ℕ). not (same_name next.task p.task)) sched.under_way)

    next_alike : (before : Progress ℕ) (o : Option (List ℕ)) → before.task ≡ task.name
        → slice_get (words_of ways) before.walked ≡ o
        → AlikeTurned (next_word nat_eq sched line call fresh before ways o)
        (next_word nat_eq part line call fresh before ways o)
    next_alike before None its e = inl (refl, refl)
    next_alike before (Some met) its e = word _ _ met its (λ f m. seen_used world names has.is task member f
        (word_seen world has.is task called call met (nth_among _ _ met e) f m))

    further_alike : (before : Progress ℕ) → before.task ≡ task.name
        → AlikeTurned (further nat_eq sched task line call fresh before)
        (further nat_eq part task line call fresh before)
    further_alike before its =
        subst (λ (list : List (Route ℕ)). AlikeTurned (further nat_eq sched task line call fresh before)
        (next_word nat_eq part line call fresh before list (slice_get (words_of list) before.walked))) same_ways
        (next_alike before (slice_get (words_of ways) before.walked) its refl)

    entry_alike : (rules : Result Call Deny) (restarts : ℕ)
        → AlikeTurned (first_turn_by nat_eq rules sched task line call fresh restarts)
        (first_turn_by nat_eq rules part task line call fresh restarts)
    entry_alike (Err deny) restarts = inl (refl, refl)
    entry_alike (Ok same) restarts = subst (λ (before : Progress ℕ). AlikeTurned
        (further nat_eq sched task line call fresh (first_progress nat_eq world task restarts))
        (further nat_eq part task line call fresh before))
        (ap (λ n. record (first_progress nat_eq world task restarts) { namespace_change = n })
        (sym (namespace_same world names has.is task member)))
        (further_alike (first_progress nat_eq world task restarts) refl)

    first_alike : (restarts : ℕ) → AlikeTurned (first_turn nat_eq sched task line call fresh restarts)
        (first_turn nat_eq part task line call fresh restarts)
    first_alike restarts = subst (λ rules. AlikeTurned (first_turn nat_eq sched task line call fresh restarts)
        (first_turn_by nat_eq (unless rules (Ok call)) part task line call fresh restarts))
        (entry_same (looks_of nat_eq world) (looks_of nat_eq part.world) task call)
        (entry_alike (unless (entry_rules nat_eq (looks_of nat_eq world) task call) (Ok call)) restarts)

    restart_alike : (most : Bool) (progress : Progress ℕ)
        → AlikeTurned (restarted nat_eq most sched task line call fresh progress)
        (restarted nat_eq most part task line call fresh progress)
    restart_alike true progress = inl (refl, refl)
    restart_alike false progress = first_alike (progress.restarts + 1)

    later_alike : (stale : Bool) (progress : Progress ℕ) → progress.task ≡ task.name
        → AlikeTurned (later_turn nat_eq stale sched task line call fresh progress)
        (later_turn nat_eq stale part task line call fresh progress)
    later_alike true progress its = restart_alike (nat_le most_restarts progress.restarts) progress
    later_alike false progress its = further_alike progress its

    pub under_way_alike : (o : Option (Progress ℕ))
        → find (λ (p : Progress ℕ). same_name task.name p.task) sched.under_way ≡ o
        → AlikeTurned (turn_under_way nat_eq sched task line call fresh o)
        (turn_under_way nat_eq part task line call fresh o)
    under_way_alike None e = first_alike 0
    under_way_alike (Some progress) e =
        let its : task.name ≡ progress.task = same_task_name _ _
        (found_passes (λ (p : Progress ℕ). same_name task.name p.task) sched.under_way _ e) in
        subst (λ stale. AlikeTurned (turn_under_way nat_eq sched task line call fresh (Some progress))
        (later_turn nat_eq stale part task line call fresh progress))
        (sym (overtaken_alike world names has.is task member _ (λ current held m. has.holds.seen task progress (record {
          under_way = contains_from_among _ _ (found_among _ _ _ e);
          called = ap (task_called world) (sym its) ∙ called;
        }) current held (contains_from_among _ held m))))
        (later_alike (is_overtaken nat_eq world task progress) progress (sym its))

  module _ (name : TaskName) (theirs : is_among same_name name names ≡ true) where
    -- what is under way of one of theirs
    same_found : find (λ (p : Progress ℕ). same_name name p.task) (their_calls names sched.under_way)
        ≡ find (λ (p : Progress ℕ). same_name name p.task) sched.under_way
    same_found = find-filter (λ (p : Progress ℕ). same_name name p.task)
        (λ (p : Progress ℕ). is_among same_name p.task names) sched.under_way
        (λ p e. ap (λ n. is_among same_name n names) (sym (same_task_name name p.task e)) ∙ theirs)

    by_task : (line : ℕ) (call : Call) (fresh : Fresh ℕ) (o : Option (Task ℕ)) → task_called world name ≡ o
        → AlikeTurned (call_turn_of nat_eq sched name line call fresh o)
        (call_turn_of nat_eq part name line call fresh o)
    by_task line call fresh None e = inl (refl, refl)
    by_task line call fresh (Some task) e =
        let its : task.name ≡ name = sym (name_found world name task e) in
        subst (λ o. AlikeTurned (call_turn_of nat_eq sched name line call fresh (Some task))
        (turn_under_way nat_eq part task line call fresh o)) (sym same_found)
        (subst (λ n. AlikeTurned (turn_under_way nat_eq sched task line call fresh
        (find (λ (p : Progress ℕ). same_name n p.task) sched.under_way))
        (turn_under_way nat_eq part task line call fresh
        (find (λ (p : Progress ℕ). same_name n p.task) sched.under_way))) its (under_way_alike
        (ap (task_called world) its ∙ e) (ap (λ n. is_among same_name n names) its ∙ theirs) line call fresh _ refl))

    by_call : (line : ℕ) (call : Call) (fresh : Option (Fresh ℕ))
        → AlikeTurned (call_turn nat_eq sched name line call fresh) (call_turn nat_eq part name line call fresh)
    by_call line call None = inl (refl, refl)
    by_call line call (Some fresh) = grind (arith, common_steps, called_alike, by_task)

    by_item : (line : ℕ) (item : Item) (fresh : Option (Fresh ℕ))
        → AlikeTurned (item_turn nat_eq sched (Someone name) line item fresh)
        (item_turn nat_eq part (Someone name) line item fresh)
    by_item line (Calls call) fresh = by_call line call fresh
    by_item line (Asks directive) None = inl (refl, refl)
    by_item line (Asks directive) (Some fresh) = inl (refl, refl)
    by_item line (Refused deny) fresh = inl (refl, refl)

    by_queue : (items : List Queued) (fresh : Option (Fresh ℕ))
        → AlikeTurned (queue_turn nat_eq sched (Someone name) items fresh)
        (queue_turn nat_eq part (Someone name) items fresh)
    by_queue [] fresh = inr (refl, refl)
    by_queue (first ∷ rest) fresh = by_item first.line first.item fresh

    pub turns_alike : (fresh : Option (Fresh ℕ))
        → AlikeTurned (turn nat_eq sched (Someone name) fresh) (turn nat_eq part (Someone name) fresh)
    unfolding turn
    turns_alike fresh = by_queue (queue_of sched.queues (Someone name)) fresh

pub their_turns_answer_alike : TheirTurnsAnswerAlike
their_turns_answer_alike sched names name fresh has theirs = ⊎_elim (λ both. both.1 ∙ sym both.0)
    (λ none. ap (λ (t : Turned ℕ). is_some t.reply) none.1 ∙ sym (ap is_some none.0))
    (turns_alike sched names has name theirs fresh)

pub their_words_are_of_their_part : TheirWordsAreOfTheirPart
their_words_are_of_their_part sched names name fresh has theirs none =
    ⊎_elim (λ both. absurd (true≢false (sym both.0 ∙ ap is_some none)))
    (λ alike. ap (λ (t : Turned ℕ). t.sched) alike.1) (turns_alike sched names has name theirs fresh)
