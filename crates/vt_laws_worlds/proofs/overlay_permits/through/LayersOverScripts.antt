-- Over whole scripts each layer of an overlay stays as it was while nothing is changed through the overlay, and it is
-- live.
use Rattle.std.proofs.Common.{arith, ◌≡◌, refl, sym, subst, ℕ, nat_eq, Bool, true, false, List, [], ◌∷◌, Option, Some, None, length, nat_lt}
use Rattle.vt_spec.proofs.Common.{Asking, Call, Calling, Fresh, Grammar, IsWorld, Overlay, Request, Serves, TaskName, World, common_steps, filesystem_numbered, is_silent, line_step, line_step_by, longest_line, opening, request_of, requested, step_world}
use Rattle.vt_laws_rules.proofs.denials.Unchanged.{directive_changes_nothing, refused_memory_changes_nothing}
use Rattle.vt_laws_worlds.proofs.opening.OpeningWorld.{opening_is_a_world}
use Rattle.vt_laws_worlds.proofs.worlds.WordsFew.{lines_name_few, request_names_few}
use Rattle.vt_laws_worlds.specs.OverlayPermits.LockedOverScripts.{is_live}
use Rattle.vt_laws_worlds.specs.OverlayPermits.Through.{ChangesNothingThrough, LayersStay, LayersStayOverScripts, LeadsApart}
use Rattle.vt_laws_worlds.proofs.overlay_permits.worlds.EveryScript.{line_keeps, lines_keep}
use Rattle.vt_laws_worlds.proofs.overlay_permits.through.LayersLater.{every_call_leaves_other_layers}
use Rattle.vt_laws_worlds.proofs.overlay_permits.worlds.LowersGoOn.{leads_both, leads_by_files}

layers_there : (world : World ℕ) (number : ℕ) (overlay : Overlay ℕ)
    → (filesystem_numbered nat_eq world number).overlay ≡ Some overlay → LayersStay world world number overlay
layers_there world number overlay was = grind (arith, common_steps, leads_by_files)

layers_both : (a b c : World ℕ) (number : ℕ) (overlay : Overlay ℕ) (first : LayersStay a b number overlay)
    → LayersStay b c number first.after → LayersStay a c number overlay
layers_both a b c number overlay first second = grind (arith, common_steps, leads_both)

-- A line that changes nothing through the overlay, and leaves it live
module _ {world : World ℕ} (is : IsWorld nat_eq world) (number : ℕ) {overlay : Overlay ℕ}
    (was : (filesystem_numbered nat_eq world number).overlay ≡ Some overlay) {fresh : Fresh ℕ}
    (serves : Serves nat_eq world fresh) where
  abbrev IsApart : Option Request → Type 0
  IsApart request = (name : TaskName) (call : Call) → request ≡ Some (Calling name call)
      → ChangesNothingThrough world fresh name call number

  request_leaves : (request : Option Request) → request_names_few request ≡ true → IsApart request
      → is_live (requested nat_eq world request fresh).world number ≡ true
      → LayersStay world (requested nat_eq world request fresh).world number overlay
  request_leaves None few alone live = layers_there world number overlay was
  request_leaves (Some (Calling name call)) few alone live =
      every_call_leaves_other_layers world fresh name call number overlay is serves few was (alone name call refl) live
  request_leaves (Some (Asking directive)) few alone live =
      subst (λ w. LayersStay world w number overlay) (sym (directive_changes_nothing world directive))
      (layers_there world number overlay was)

  line_leaves : (long silent : Bool) (grammar : Grammar) (line : List ℕ) → IsApart (request_of grammar line)
      → is_live (step_world world (line_step_by nat_eq long silent grammar world line (Some fresh))) number ≡ true
      → LayersStay world (step_world world
      (line_step_by nat_eq long silent grammar world line (Some fresh))) number overlay
  line_leaves true silent grammar line alone live = layers_there world number overlay was
  line_leaves false true grammar line alone live = layers_there world number overlay was
  line_leaves false false grammar line alone live =
      request_leaves (request_of grammar line) (lines_name_few grammar line) alone live

lines_leave : (grammar : Grammar) (number : ℕ) (world : World ℕ) (lines : List (List ℕ)) (refused : List Bool)
    (left : World ℕ)
    (overlay : Overlay ℕ) → IsWorld nat_eq world → (filesystem_numbered nat_eq world number).overlay ≡ Some overlay
    → LeadsApart grammar number world lines refused left → LayersStay world left number overlay
lines_leave grammar number world [] refused left overlay is was leads =
    subst (λ w. LayersStay world w number overlay) (sym leads) (layers_there world number overlay was)
lines_leave grammar number world (line ∷ lines) [] left overlay is was leads = absurd leads
lines_leave grammar number world (line ∷ lines) (true ∷ refused) left overlay is was leads =
    let same = refused_memory_changes_nothing grammar world line in
    lines_leave grammar number world lines refused left overlay is was
    (subst (λ w. LeadsApart grammar number w lines refused left) same leads.1)
lines_leave grammar number world (line ∷ lines) (false ∷ refused) left overlay is was leads =
    let next = step_world world (line_step nat_eq grammar world line (Some leads.0)) in
    let first : LayersStay world next number overlay =
    line_leaves is number was leads.1 (nat_lt longest_line (length line))
    (is_silent line) grammar line leads.2 leads.3 in
    layers_both world next left number overlay first (lines_leave grammar number next lines refused left first.after
    (line_keeps (nat_lt longest_line (length line))
    (is_silent line) grammar world line leads.0 is leads.1) first.is leads.4)

pub layers_stay_over_scripts : LayersStayOverScripts
layers_stay_over_scripts grammar first next refused refused_next fresh mounted left number overlay apart leads was
    alone = lines_leave grammar number mounted next refused_next left overlay
    (lines_keep grammar (opening nat_eq fresh) first refused mounted (opening_is_a_world fresh apart).0 leads) was alone
