-- An attachment without room is refused by M9, and one with room is granted, where no other rule refuses it.
use Rattle.std.proofs.Common.{arith, ◌≡◌, refl, ap, subst, ◌∙◌, ℕ, nat_eq, Bool, true, false, [], ◌∷◌, ◌++◌, Some, Result, Ok, Err, length, drop, take}
use Rattle.vt_spec.proofs.Common.{Bind, Call, Done, Fresh, Here, Judgement, MountPlain, MoveMount, Permit, Rules, Task, TaskName, ToBind, ToMountPlain, ToMove, World, and_then, answer-finished_unless, apply, bind_rules, bind_tree, common_steps, denial, judge_in, judging, looks_of, move_rules, new_mount_rules, only_looks, overfills, policy, task_called, unless, walk_end}
use Rattle.vt_laws_later_calls.proofs.Common.{Deny, Ends, HereDirectory, K1, M9, destination_walk, is_mount, source_walk, source_walk_end}
use Rattle.vt_laws_later_calls.specs.Limits.Room.{BindNeedsRoom, MoveNeedsRoom, NeedsRoom, NewMountNeedsRoom, lacks_room, lacks_room_for_moved, none_fails, tree_of}
use Rattle.vt_laws_later_calls.proofs.limits.Outcomes.{policy_by_judgement, refused_call}
use Rattle.vt_laws_later_calls.proofs.limits.room.Counted.{binds_ask_for_room, moves_ask_for_room, new_mounts_ask_for_room}
use Rattle.vt_laws_later_calls.proofs.Readers.{own_name}

-- a table of rules with M9 in it, in which no other rule fails
module _ {A : Type 0} (answer : Result A Deny) (behind : Rules) where
  -- refuses by M9 where that fails
  m9_refuses : (before : Rules) → none_fails (before ++ (false, M9) ∷ behind) ≡ true
      → unless (before ++ (true, M9) ∷ behind) answer ≡ Err (denial M9)
  m9_refuses [] none = refl
  m9_refuses ((true, rule) ∷ before) none = cc
  m9_refuses ((false, rule) ∷ before) none = m9_refuses before none

  -- and refuses nothing where M9 does not fail
  none_refuses : (rules : Rules) → none_fails rules ≡ true → unless rules answer ≡ answer
  none_refuses [] none = refl
  none_refuses ((true, rule) ∷ rules) none = cc
  none_refuses ((false, rule) ∷ rules) none = none_refuses rules none

module _ {world : World ℕ} (fresh : Fresh ℕ) (name : TaskName) {task : Task ℕ} (call : Call)
    (called : task_called world name ≡ Some task) (changes : only_looks call ≡ false) where
  -- a call that attaches is answered by its table of rules, with M9 among them
  answered_by_table : (permit : Permit ℕ) (before behind : Rules) (lacking : Bool)
      → judge_in nat_eq fresh world task call ≡ unless (before ++ (lacking, M9) ∷ behind) (Ok permit)
      → none_fails (before ++ (false, M9) ∷ behind) ≡ true → (apply nat_eq fresh world task permit).answer ≡ Ok Done
      → NeedsRoom world (policy nat_eq fresh world name call) lacking
  answered_by_table permit before behind lacking judged none done =
      grind (arith, common_steps, refused_call, m9_refuses, policy_by_judgement, none_refuses, answer-finished_unless)

-- a new mount
pub new_mount_needs_room : NewMountNeedsRoom
unfolding judging
new_mount_needs_room world fresh name task path flags here is called admin walk none =
    answered_by_table fresh name (MountPlain path flags) called refl (ToMountPlain here.location flags)
    (take 1 (new_mount_rules nat_eq (looks_of nat_eq world) task here.location false)) []
    (lacks_room world here.location 1)
    (ap (λ b. unless ((b, K1) ∷ []) (and_then (walk_end (destination_walk nat_eq world task path)) judged_at)) admin
    ∙ ap (λ walked. and_then (walk_end walked) judged_at) walk
    ∙ ap (λ b. unless (new_mount_rules nat_eq (looks_of nat_eq world) task here.location b)
    (Ok (ToMountPlain here.location flags))) (new_mounts_ask_for_room world fresh task here.location flags is))
    none refl
  where
    judged_at : Here ℕ → Judgement ℕ
    judged_at place = unless (new_mount_rules nat_eq (looks_of nat_eq world) task place.location
        (overfills nat_eq fresh world task (ToMountPlain place.location flags))) (Ok (ToMountPlain place.location flags))

-- a bind
pub bind_needs_room : BindNeedsRoom
unfolding judging
bind_needs_room world fresh name task source path recursive from here called admin from_walk walk none =
    answered_by_table fresh name (Bind source path recursive) called refl (ToBind from.location here.location recursive)
    (take 2 (bind_rules nat_eq (looks_of nat_eq world) task from.location here.location false)) []
    (lacks_room world here.location (length (bind_tree nat_eq world from.location recursive)))
    (ap (λ b. unless ((b, K1) ∷ []) (and_then (walk_end (source_walk nat_eq world task source)) judged_from)) admin
    ∙ ap (λ walked. and_then (walk_end walked) judged_from) from_walk
    ∙ ap (λ walked. and_then (walk_end walked) (judged_at from)) walk
    ∙ ap (λ b. unless (bind_rules nat_eq (looks_of nat_eq world) task from.location here.location b)
    (Ok (ToBind from.location here.location recursive)))
    (binds_ask_for_room world fresh task from.location here.location recursive)) none refl
  where
    judged_at : Here ℕ → Here ℕ → Judgement ℕ
    judged_at origin place =
        unless (bind_rules nat_eq (looks_of nat_eq world) task origin.location place.location
        (overfills nat_eq fresh world task (ToBind origin.location place.location recursive))) (Ok (ToBind origin.location place.location recursive))

    judged_from : Here ℕ → Judgement ℕ
    judged_from origin = and_then (walk_end (destination_walk nat_eq world task path)) (judged_at origin)

-- a move
pub move_needs_room : MoveNeedsRoom
unfolding judging
move_needs_room world fresh name task source path from here is called admin from_walk walk none =
    answered_by_table fresh name (MoveMount source path) called refl (ToMove from.location.mount here.location)
    (take 5 (move_rules nat_eq (looks_of nat_eq world) task from.location here.location false))
    (drop 6 (move_rules nat_eq (looks_of nat_eq world) task from.location here.location false))
    (lacks_room_for_moved world here.location (tree_of world from.location.mount))
    (ap (λ b. unless ((b, K1) ∷ []) (and_then (walk_end (source_walk nat_eq world task source)) judged_from)) admin
    ∙ ap (λ walked. and_then (walk_end walked) judged_from) from_walk
    ∙ ap (λ walked. and_then (walk_end walked) (judged_at from)) walk
    ∙ ap (λ b. unless (move_rules nat_eq (looks_of nat_eq world) task from.location here.location b)
    (Ok (ToMove from.location.mount here.location)))
    (moves_ask_for_room world fresh task from.location.mount here.location is there)) none refl
  where
    judged_at : Here ℕ → Here ℕ → Judgement ℕ
    judged_at origin place =
        unless (move_rules nat_eq (looks_of nat_eq world) task origin.location place.location
        (overfills nat_eq fresh world task (ToMove origin.location.mount place.location))) (Ok (ToMove origin.location.mount place.location))

    judged_from : Here ℕ → Judgement ℕ
    judged_from origin = and_then (walk_end (destination_walk nat_eq world task path)) (judged_at origin)

    there : is_mount world from.location.mount ≡ true
    there = (subst (Ends (HereDirectory world is task (own_name world name task called))) from_walk
        (source_walk_end world is task (own_name world name task called) source)).0.0
