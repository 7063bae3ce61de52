-- The text of a schedule is that of its commits.
use Rattle.std.proofs.Common.{◌≡◌, refl, ℕ, Bool, List, [], ◌∷◌, ◌++◌, Option, Some, None, ◌+◌, arith, append_assoc, option_to_list}
use Rattle.vt_spec.proofs.Common.{Fresh, Reply, Sched, Who, common_steps, later}
use Rattle.vt_laws_turns.proofs.Common.{played, reply_text, turn_of_line, turns_text}
use Rattle.vt_laws_turns.specs.Commits.{TextsAreOfCommits, replies, text_of_replies, turn_given, turns_given}
use Rattle.vt_laws_turns.proofs.played.Turning.{replies_are_of_commits}

more_texts : (ones others : List Reply)
    → text_of_replies (ones ++ others) ≡ text_of_replies ones ++ text_of_replies others
more_texts [] others = refl
more_texts (reply ∷ ones) others = grind (arith, common_steps, append_assoc, more_texts ones others)

text_of_one : (reply : Option Reply) → reply_text reply ≡ text_of_replies (option_to_list reply)
text_of_one None = refl
text_of_one (Some reply) = grind (arith, common_steps)

-- what is played is the text of the replies
plays : (number : ℕ) (sched : Sched ℕ) (lines : List (List ℕ)) (refused : List Bool)
    → played number sched lines refused ≡ text_of_replies (replies sched (turns_given number lines refused))
plays number sched [] refused = refl
plays number sched (line ∷ lines) refused = by _ _ (λ next. plays (number + 1) next lines (later refused))
  where
    by : (who : Option Who) (fresh : Option (Fresh ℕ))
        → ((next : Sched ℕ) → played (number + 1) next lines (later refused)
        ≡ text_of_replies (replies next (turns_given (number + 1) lines (later refused))))
        → reply_text (turn_of_line sched who fresh).reply
        ++ played (number + 1) (turn_of_line sched who fresh).sched lines (later refused)
        ≡ text_of_replies (replies sched (turn_given who fresh ++ turns_given (number + 1) lines (later refused)))
    by who fresh rest = grind (arith, common_steps, text_of_one, more_texts)

pub texts_are_of_commits : TextsAreOfCommits
unfolding turns_text
texts_are_of_commits version refused script schedule = grind (arith, common_steps, plays, replies_are_of_commits)
