-- Each line is answered alike in two worlds that are alike, where what is copied up is.
use Rattle.std.proofs.Common.{◌≡◌, refl, ap, ℕ, nat_eq, nat_lt, Bool, true, false, List, length, Option, Some, None}
use Rattle.vt_spec.proofs.Common.{Answered, Asking, Calling, Fresh, Grammar, LowerObjectsHaveOneName, Outcome, Request, Step, World, is_silent, line_step, line_step_by, longest_line, reply_line, request_of, requested, spoken_step, step_text, step_world}
use Rattle.vt_laws_trees.proofs.runs.answered.AlikeAnswered.{policy_alike}
use Rattle.vt_laws_trees.proofs.runs.answered.AlikeApplied.{OutcomesAlike}
use Rattle.vt_laws_trees.proofs.runs.answered.AlikeChanges.{CopiesAlike}
use Rattle.vt_laws_trees.proofs.runs.answered.AlikeDirected.{directed_alike}
use Rattle.vt_laws_trees.proofs.runs.answered.AlikeWorlds.{Alike}

-- the two steps write the same, and lead to worlds that are alike
pub record StepsAlike (one other : World ℕ) (step again : Step ℕ) : Type 0 where
  pub text : (number : ℕ) → step_text number step ≡ step_text number again
  pub worlds : Alike (step_world one step) (step_world other again)

module _ (one other : World ℕ) (same : Alike one other) (named : LowerObjectsHaveOneName nat_eq one)
    (copies : CopiesAlike one other) where
  answered : (outcome again : Outcome ℕ) → OutcomesAlike outcome again
      → StepsAlike one other (Answered outcome) (Answered again)
  answered outcome again alike = record { text = λ number. ap (reply_line number) alike.answer; worlds = alike.worlds }

  requested_alike : (request : Option Request) (fresh : Fresh ℕ)
      → OutcomesAlike (requested nat_eq one request fresh) (requested nat_eq other request fresh)
  requested_alike None fresh = record { answer = refl; worlds = same }
  requested_alike (Some (Calling task call)) fresh = policy_alike fresh one other same named copies call task
  requested_alike (Some (Asking directive)) fresh = directed_alike one other same directive

  spoken_alike : (grammar : Grammar) (line : List ℕ) (fresh : Option (Fresh ℕ))
      → StepsAlike one other (spoken_step nat_eq grammar one line fresh) (spoken_step nat_eq grammar other line fresh)
  spoken_alike grammar line None = answered _ _ (record { answer = refl; worlds = same })
  spoken_alike grammar line (Some fresh) = answered _ _ (requested_alike (request_of grammar line) fresh)

  pub line_step_alike : (grammar : Grammar) (line : List ℕ) (fresh : Option (Fresh ℕ))
      → StepsAlike one other (line_step nat_eq grammar one line fresh) (line_step nat_eq grammar other line fresh)
  line_step_alike grammar line fresh = by (nat_lt longest_line (length line)) (is_silent line)
    where
      by : (long silent : Bool) → StepsAlike one other (line_step_by nat_eq long silent grammar one line fresh)
          (line_step_by nat_eq long silent grammar other line fresh)
      by true silent = answered _ _ (record { answer = refl; worlds = same })
      by false true = record { text = λ number. refl; worlds = same }
      by false false = spoken_alike grammar line fresh
