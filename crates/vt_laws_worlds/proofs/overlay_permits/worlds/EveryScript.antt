-- Every world that a script leads to has the invariants, with overlays too.
use Rattle.std.proofs.Common.{◌≡◌, sym, subst, ℕ, nat_eq, Bool, true, false, List, [], ◌∷◌, Option, Some, None, length, nat_lt}
use Rattle.vt_spec.proofs.Common.{Asking, Calling, Fresh, Grammar, IsWorld, Request, Serves, World, is_silent, line_step, line_step_by, longest_line, opening, request_of, requested, step_world}
use Rattle.vt_laws_rules.proofs.denials.Unchanged.{directive_changes_nothing, refused_memory_changes_nothing}
use Rattle.vt_laws_worlds.specs.Worlds.Calls.{LeadsTo}
use Rattle.vt_laws_worlds.proofs.opening.OpeningWorld.{opening_is_a_world}
use Rattle.vt_laws_worlds.proofs.worlds.WordsFew.{lines_name_few, request_names_few}
use Rattle.vt_laws_worlds.specs.OverlayPermits.EveryWorld.{EveryScriptLeadsToWorlds}
use Rattle.vt_laws_worlds.proofs.overlay_permits.worlds.EveryCall.{every_call_keeps_worlds}

request_keeps : (world : World ℕ) (fresh : Fresh ℕ) → IsWorld nat_eq world → Serves nat_eq world fresh
    → (request : Option Request) → request_names_few request ≡ true
    → IsWorld nat_eq (requested nat_eq world request fresh).world
request_keeps world fresh is serves None few = is
request_keeps world fresh is serves
    (Some (Calling name call)) few = every_call_keeps_worlds world fresh name call is serves few
request_keeps world fresh is serves (Some (Asking directive)) few =
    subst (IsWorld nat_eq) (sym (directive_changes_nothing world directive)) is

pub line_keeps : (long silent : Bool) (grammar : Grammar) (world : World ℕ) (line : List ℕ) (fresh : Fresh ℕ)
    → IsWorld nat_eq world → Serves nat_eq world fresh
    → IsWorld nat_eq (step_world world (line_step_by nat_eq long silent grammar world line (Some fresh)))
line_keeps true silent grammar world line fresh is serves = is
line_keeps false true grammar world line fresh is serves = is
line_keeps false false grammar world line fresh is serves =
    request_keeps world fresh is serves (request_of grammar line) (lines_name_few grammar line)

pub lines_keep : (grammar : Grammar) (world : World ℕ) (lines : List (List ℕ)) (refused : List Bool) (left : World ℕ)
    → IsWorld nat_eq world → LeadsTo grammar world lines refused left → IsWorld nat_eq left
lines_keep grammar world [] refused left is leads = subst (IsWorld nat_eq) (sym leads) is
lines_keep grammar world (line ∷ lines) [] left is leads = absurd leads
lines_keep grammar world (line ∷ lines) (true ∷ refused) left is leads =
    lines_keep grammar (step_world world (line_step nat_eq grammar world line None)) lines refused left
    (subst (IsWorld nat_eq) (sym (refused_memory_changes_nothing grammar world line)) is) leads
lines_keep grammar world (line ∷ lines) (false ∷ refused) left is leads =
    lines_keep grammar (step_world world (line_step nat_eq grammar world line (Some leads.0))) lines refused left
    (line_keeps (nat_lt longest_line (length line)) (is_silent line) grammar world line leads.0 is leads.1) leads.2

pub every_script_leads_to_worlds : EveryScriptLeadsToWorlds
every_script_leads_to_worlds grammar lines refused fresh left apart leads =
    lines_keep grammar (opening nat_eq fresh) lines refused left (opening_is_a_world fresh apart).0 leads
