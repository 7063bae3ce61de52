-- In every world that a script leads to, who writes has a layer to write to.
use Rattle.std.proofs.Common.{Bool, List, None, Option, Some, [], false, nat_eq, refl, subst, sym, true, ℕ, ◌∷◌, ◌≡◌, length, nat_lt}
use Rattle.vt_spec.proofs.Common.{Asking, Calling, Fresh, Grammar, IsWorld, Request, Serves, World, is_silent, line_step, line_step_by, longest_line, opening, request_of, requested, step_world}
use Rattle.vt_laws_worlds.proofs.overlay_permits.worlds.EveryCall.{every_call_keeps_worlds}
use Rattle.vt_laws_worlds.proofs.overlays_read.Changes.{changes_have_layers}
use Rattle.vt_laws_worlds.proofs.overlays_read.Kept.{every_call_keeps_writers}
use Rattle.vt_laws_worlds.specs.OverlaysRead.Writers.{ScriptsChangeNone, ScriptsKeepWriters, WritersHaveLayers}
use Rattle.vt_laws_rules.proofs.denials.Unchanged.{directive_changes_nothing, refused_memory_changes_nothing}
use Rattle.vt_laws_worlds.proofs.opening.OpeningWorld.{opening_is_a_world}
use Rattle.vt_laws_worlds.proofs.worlds.WordsFew.{lines_name_few, request_names_few}
use Rattle.vt_laws_worlds.specs.Worlds.Calls.{LeadsTo}

-- a world with all invariants in which writers have layers
abbrev Holds : World ℕ → Type 0
Holds world = IsWorld nat_eq world × WritersHaveLayers world

request_keeps : (world : World ℕ) (fresh : Fresh ℕ) → Holds world → Serves nat_eq world fresh
    → (request : Option Request) → request_names_few request ≡ true → Holds (requested nat_eq world request fresh).world
request_keeps world fresh is serves None few = is
request_keeps world fresh is serves (Some (Calling name call)) few = (
  every_call_keeps_worlds world fresh name call is.0 serves few,
  every_call_keeps_writers world fresh name call is.0 serves few is.1,
)
request_keeps world fresh is serves (Some (Asking directive)) few =
    subst Holds (sym (directive_changes_nothing world directive)) is

line_keeps : (long silent : Bool) (grammar : Grammar) (world : World ℕ) (line : List ℕ) (fresh : Fresh ℕ)
    → Holds world → Serves nat_eq world fresh
    → Holds (step_world world (line_step_by nat_eq long silent grammar world line (Some fresh)))
line_keeps true silent grammar world line fresh is serves = is
line_keeps false true grammar world line fresh is serves = is
line_keeps false false grammar world line fresh is serves =
    request_keeps world fresh is serves (request_of grammar line) (lines_name_few grammar line)

lines_keep : (grammar : Grammar) (world : World ℕ) (lines : List (List ℕ)) (refused : List Bool) (left : World ℕ)
    → Holds world → LeadsTo grammar world lines refused left → Holds left
lines_keep grammar world [] refused left is leads = subst Holds (sym leads) is
lines_keep grammar world (line ∷ lines) [] left is leads = absurd leads
lines_keep grammar world (line ∷ lines) (true ∷ refused) left is leads =
    lines_keep grammar (step_world world (line_step nat_eq grammar world line None)) lines refused left
    (subst Holds (sym (refused_memory_changes_nothing grammar world line)) is) leads
lines_keep grammar world (line ∷ lines) (false ∷ refused) left is leads =
    lines_keep grammar (step_world world (line_step nat_eq grammar world line (Some leads.0))) lines refused left
    (line_keeps (nat_lt longest_line (length line)) (is_silent line) grammar world line leads.0 is leads.1) leads.2

pub scripts_keep_writers : ScriptsKeepWriters
scripts_keep_writers grammar lines refused supply world apart leads =
    (lines_keep grammar (opening nat_eq supply) lines refused world ((opening_is_a_world supply apart).0, refl) leads).1

pub scripts_change_none : ScriptsChangeNone
scripts_change_none grammar lines refused supply world fresh task permit location change apart leads given asks =
    changes_have_layers world fresh task permit location change
    (scripts_keep_writers grammar lines refused supply world apart leads) given asks
