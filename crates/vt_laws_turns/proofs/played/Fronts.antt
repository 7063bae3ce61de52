-- Commits are fronts of queues.
use Rattle.std.proofs.Common.{◌≡◌, refl, sym, ap, subst, ◌∙◌, ⊎_elim, ℕ, nat_eq, Bool, true, false, cond, List, [], ◌∷◌, ◌++◌, Option, Some, find, map, arith, append_assoc, option_map, option_to_list, unwrap_or}
use Rattle.vt_spec.proofs.Common.{Nobody, Queue, Queued, Sched, Someone, Turned, Who, common_steps, first_of_list, queue_of, rest_of, same_name_itself, same_task_name, same_who, shortened, turn}
use Rattle.vt_laws_turns.specs.Commits.{Commit, CommitsAreFronts, Turn, commit_by, commit_of, commits, items_of, left_by}
use Rattle.vt_laws_turns.proofs.played.Turning.{Turns, turn_is}

pub same_whos : (a b : Who) → same_who a b ≡ true → a ≡ b
same_whos (Someone a) (Someone b) e = ap Someone (same_task_name a b e)
same_whos (Someone a) Nobody e = cc
same_whos Nobody (Someone b) e = cc
same_whos Nobody Nobody e = refl

pub itself : (who : Who) → same_who who who ≡ true
itself (Someone name) = same_name_itself name
itself Nobody = refl

-- a queue's items, by the queue that was found
abbrev items : Option Queue → List Queued
items o = unwrap_or (option_map (λ (q : Queue). q.items) o) []

-- a queue's items once another, or it, is shortened
pub shorter : (who other : Who) (queues : List Queue) → queue_of (map (shortened who) queues) other
    ≡ cond (same_who other who) (rest_of (queue_of queues other)) (queue_of queues other)
shorter who other [] = grind (arith, common_steps)
shorter who other (queue ∷ queues) = first (same_who who queue.who) refl _ refl (shorter who other queues)
  where
    first : (a : Bool) → same_who who queue.who ≡ a → (b : Bool) → same_who other queue.who ≡ b
        → queue_of (map (shortened who) queues) other
        ≡ cond (same_who other who) (rest_of (queue_of queues other)) (queue_of queues other)
        → items (find (λ (q : Queue). same_who other q.who) (shortened who queue ∷ map (shortened who) queues))
        ≡ cond (same_who other who)
        (rest_of (items (cond b (Some queue) (find (λ (q : Queue). same_who other q.who) queues))))
        (items (cond b (Some queue) (find (λ (q : Queue). same_who other q.who) queues)))
    first true e true f later =
        let one : other ≡ who = same_whos other queue.who f ∙ sym (same_whos who queue.who e) in
        cc (one, itself other)
    first true e false f later = cc
    first false e true f later = cc (differ (same_who other who) refl)
      where
        differ : (b : Bool) → same_who other who ≡ b → same_who other who ≡ false
        differ true g =
            cc (subst (λ w. same_who w queue.who ≡ true) (same_whos other who g) f, e)
        differ false g = g
    first false e false f later = cc

-- what a turn commits of a queue, and what it leaves of it
step : (sched : Sched ℕ) (given : Turn) (other : Who) (list : List Queued) → queue_of sched.queues given.0 ≡ list
    → (turned : Turned ℕ) → Turns sched given.0 given.1 list turned
    → items_of other (option_to_list (commit_by given.0 given.1 (first_of_list list) turned.reply))
    ++ queue_of turned.sched.queues other ≡ queue_of sched.queues other
step sched given other [] e turned goes = ap (λ q. queue_of q other) goes.queues
step sched given other (first ∷ rest) e turned is = ⊎_elim (λ goes.
    cc (goes.reply, goes.queues)) (λ done.
    cc (done.reply, done.queues, shorter given.0 other sched.queues, by (same_who other given.0) refl)) is
  where
    by : (b : Bool) → same_who other given.0 ≡ b
        → cond b (first ∷ []) [] ++ cond b (rest_of (queue_of sched.queues other)) (queue_of sched.queues other)
        ≡ queue_of sched.queues other
    by true f =
        let here : queue_of sched.queues other ≡ first ∷ rest =
        cc (same_whos other given.0 f, e) in
        cc (here)
    by false f = refl

pub more_items : (who : Who) (ones others : List Commit)
    → items_of who (ones ++ others) ≡ items_of who ones ++ items_of who others
more_items who [] others = refl
more_items who (commit ∷ ones) others = grind (arith, common_steps, more_items who ones others)

pub commits_are_fronts : CommitsAreFronts
commits_are_fronts sched [] who = refl
commits_are_fronts sched (given ∷ schedule) who =
    let turned : Turned ℕ = turn nat_eq sched given.0 given.1 in
    let made : List Commit = option_to_list (commit_of sched given) in
    cc (
      more_items who made (commits turned.sched schedule),
      append_assoc (items_of who made) (items_of who (commits turned.sched schedule)) (queue_of (left_by
          turned.sched schedule).queues who),
      commits_are_fronts turned.sched schedule who,
      step sched given who (queue_of sched.queues given.0) refl turned (turn_is sched given.0 given.1),
    )
