-- Every world that a script without overlays leads to has the invariants.
use Rattle.std.proofs.Common.{◌≡◌, sym, subst, ℕ, nat_eq, Bool, true, false, List, [], ◌∷◌, Option, Some, None, length, nat_lt}
use Rattle.vt_spec.proofs.Common.{All-head, All-tail, Asking, Calling, Fresh, Grammar, Request, Serves, World, is_silent, line_step, line_step_by, longest_line, opening, request_of, requested, step_world}
use Rattle.vt_laws_rules.proofs.denials.Unchanged.{directive_changes_nothing, refused_memory_changes_nothing}
use Rattle.vt_laws_trees.specs.Trees.Calls.{HasNoOverlays, asks_for_overlay}
use Rattle.vt_laws_worlds.specs.Worlds.Calls.{LeadsTo, ScriptsLeadToWorlds}
use Rattle.vt_laws_worlds.proofs.worlds.CallsKept.{Kept, calls_keep_worlds}
use Rattle.vt_laws_worlds.proofs.opening.OpeningWorld.{opening_is_a_world}
use Rattle.vt_laws_worlds.proofs.worlds.WordsFew.{lines_name_few, request_names_few}

request_keeps : (world : World ℕ) (fresh : Fresh ℕ) → Kept world → Serves nat_eq world fresh
    → (request : Option Request) → asks_for_overlay request ≡ false → request_names_few request ≡ true
    → Kept (requested nat_eq world request fresh).world
request_keeps world fresh kept serves None plain few = kept
request_keeps world fresh kept serves (Some (Calling name call)) plain few =
    calls_keep_worlds world fresh name call kept.0 kept.1 serves plain few
request_keeps world fresh kept serves (Some (Asking directive)) plain few =
    subst Kept (sym (directive_changes_nothing world directive)) kept

line_keeps : (long silent : Bool) (grammar : Grammar) (world : World ℕ) (line : List ℕ) (fresh : Fresh ℕ) → Kept world
    → Serves nat_eq world fresh → asks_for_overlay (request_of grammar line) ≡ false
    → Kept (step_world world (line_step_by nat_eq long silent grammar world line (Some fresh)))
line_keeps true silent grammar world line fresh kept serves plain = kept
line_keeps false true grammar world line fresh kept serves plain = kept
line_keeps false false grammar world line fresh kept serves plain =
    request_keeps world fresh kept serves (request_of grammar line) plain (lines_name_few grammar line)

lines_keep : (grammar : Grammar) (world : World ℕ) (lines : List (List ℕ)) (refused : List Bool) (left : World ℕ)
    → Kept world → HasNoOverlays grammar lines → LeadsTo grammar world lines refused left → Kept left
lines_keep grammar world [] refused left kept plain leads = subst Kept (sym leads) kept
lines_keep grammar world (line ∷ lines) [] left kept plain leads = absurd leads
lines_keep grammar world (line ∷ lines) (true ∷ refused) left kept plain leads =
    lines_keep grammar (step_world world (line_step nat_eq grammar world line None)) lines refused left
    (subst Kept (sym (refused_memory_changes_nothing grammar world line)) kept)
    (All-tail (λ l. asks_for_overlay (request_of grammar l) ≡ false) line lines plain) leads
lines_keep grammar world (line ∷ lines) (false ∷ refused) left kept plain leads =
    lines_keep grammar (step_world world (line_step nat_eq grammar world line (Some leads.0))) lines refused left
    (line_keeps (nat_lt longest_line (length line)) (is_silent line) grammar world line leads.0 kept leads.1
    (All-head (λ l. asks_for_overlay (request_of grammar l) ≡ false) line lines plain))
    (All-tail (λ l. asks_for_overlay (request_of grammar l) ≡ false) line lines plain) leads.2

pub scripts_lead_to_worlds : ScriptsLeadToWorlds
scripts_lead_to_worlds grammar lines refused fresh left apart plain leads =
    lines_keep grammar (opening nat_eq fresh) lines refused left (opening_is_a_world fresh apart) plain leads
