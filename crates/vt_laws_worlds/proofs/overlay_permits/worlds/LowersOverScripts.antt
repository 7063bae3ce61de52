-- Over whole scripts lower layers stay as they were while their overlay is live.
use Rattle.std.proofs.Common.{arith, ◌≡◌, sym, subst, ℕ, nat_eq, Bool, true, false, List, [], ◌∷◌, Option, Some, length, nat_lt}
use Rattle.vt_spec.proofs.Common.{Fresh, Grammar, IsWorld, Overlay, Request, Serves, World, common_steps, filesystem_numbered, is_silent, line_step, line_step_by, longest_line, opening, request_of, requested, step_world}
use Rattle.vt_laws_rules.proofs.denials.Unchanged.{directive_changes_nothing, refused_memory_changes_nothing}
use Rattle.vt_laws_trees.proofs.layers.layers.LowersKept.{kept_both}
use Rattle.vt_laws_worlds.proofs.opening.OpeningWorld.{opening_is_a_world}
use Rattle.vt_laws_worlds.proofs.worlds.WordsFew.{lines_name_few, request_names_few}
use Rattle.vt_laws_worlds.specs.OverlayPermits.LockedOverScripts.{LeadsLive, LowersStay, LowersStayOverScripts, is_live}
use Rattle.vt_laws_worlds.proofs.overlay_permits.worlds.EveryScript.{line_keeps, lines_keep}
use Rattle.vt_laws_worlds.proofs.overlay_permits.worlds.LowersAfterCalls.{every_call_leaves_lowers, lowers_stay}
use Rattle.vt_laws_worlds.proofs.overlay_permits.worlds.LowersGoOn.{stays_itself}

stay_there : (world : World ℕ) → IsWorld nat_eq world → (number : ℕ) (overlay : Overlay ℕ)
    → (filesystem_numbered nat_eq world number).overlay ≡ Some overlay → LowersStay world world number overlay
stay_there world is number overlay was = lowers_stay world is number overlay was world is
    (stays_itself world number overlay was)

stay_both : (a b c : World ℕ) (number : ℕ) (overlay : Overlay ℕ) (first : LowersStay a b number overlay)
    → LowersStay b c number first.after → LowersStay a c number overlay
stay_both a b c number overlay first second = grind (arith, common_steps, kept_both)

-- A line that leaves the overlay live
module _ (world : World ℕ) (is : IsWorld nat_eq world) (number : ℕ) (overlay : Overlay ℕ)
    (was : (filesystem_numbered nat_eq world number).overlay ≡ Some overlay) where
  request_stays : (fresh : Fresh ℕ) → Serves nat_eq world fresh → (request : Option Request)
      → request_names_few request ≡ true → is_live (requested nat_eq world request fresh).world number ≡ true
      → LowersStay world (requested nat_eq world request fresh).world number overlay
  request_stays fresh serves request few live =
      grind (arith, common_steps, stay_there, every_call_leaves_lowers, directive_changes_nothing)

  pub line_stays : (long silent : Bool) (grammar : Grammar) (line : List ℕ) (fresh : Fresh ℕ)
      → Serves nat_eq world fresh
      → is_live (step_world world (line_step_by nat_eq long silent grammar world line (Some fresh))) number ≡ true
      → LowersStay world (step_world world
      (line_step_by nat_eq long silent grammar world line (Some fresh))) number overlay
  line_stays true silent grammar line fresh serves live = stay_there world is number overlay was
  line_stays false true grammar line fresh serves live = stay_there world is number overlay was
  line_stays false false grammar line fresh serves live =
      request_stays fresh serves (request_of grammar line) (lines_name_few grammar line) live

lines_stay : (grammar : Grammar) (number : ℕ) (world : World ℕ) (lines : List (List ℕ)) (refused : List Bool)
    (left : World ℕ)
    (overlay : Overlay ℕ) → IsWorld nat_eq world → (filesystem_numbered nat_eq world number).overlay ≡ Some overlay
    → LeadsLive grammar number world lines refused left → LowersStay world left number overlay
lines_stay grammar number world [] refused left overlay is was leads =
    subst (λ w. LowersStay world w number overlay) (sym leads) (stay_there world is number overlay was)
lines_stay grammar number world (line ∷ lines) [] left overlay is was leads = absurd leads
lines_stay grammar number world (line ∷ lines) (true ∷ refused) left overlay is was leads =
    let same = refused_memory_changes_nothing grammar world line in
    lines_stay grammar number world lines refused left overlay is was
    (subst (λ w. LeadsLive grammar number w lines refused left) same leads.1)
lines_stay grammar number world (line ∷ lines) (false ∷ refused) left overlay is was leads =
    let next = step_world world (line_step nat_eq grammar world line (Some leads.0)) in
    let first : LowersStay world next number overlay =
    line_stays world is number overlay was (nat_lt longest_line (length line))
    (is_silent line) grammar line leads.0 leads.1 leads.2 in
    stay_both world next left number overlay first (lines_stay grammar number next lines refused left first.after
    (line_keeps (nat_lt longest_line (length line))
    (is_silent line) grammar world line leads.0 is leads.1) first.is leads.3)

pub lowers_stay_over_scripts : LowersStayOverScripts
lowers_stay_over_scripts grammar first next refused refused_next fresh mounted left number overlay apart leads was
    live = lines_stay grammar number mounted next refused_next left overlay
    (lines_keep grammar (opening nat_eq fresh) first refused mounted (opening_is_a_world fresh apart).0 leads) was live
