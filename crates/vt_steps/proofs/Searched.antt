-- Where a word leads from a directory that is searched.
use Rattle.std.proofs.Common.{◌≡◌, ℕ, Ok, Err, Option, Result, sym, ◌∙◌}
use Rattle.std.specs.Result.{result_and}
use Rattle.vt_spec.proofs.Common.{Location, Rules, unless, unless-let_through, unless-refused}
use Rattle.vt_spec.specs.declared.errors.Deny.{Deny}
use Rattle.vt_location.specs.declared.locations.Location.{Location as CodeLocation}
use Rattle.vt_walk.specs.WalkValue.{location_result, named_result}

pub searched-led : (rules : Rules) (searched : Result (Unit {0}) Deny) (reached : Result CodeLocation Deny)
    (led : Result (Location ℕ) Deny) → searched ≡ unless rules (Ok tt) → location_result reached ≡ led
    → location_result (result_and searched reached) ≡ unless rules led
searched-led rules (Ok done) reached led s r = r ∙ sym (unless-let_through rules led s)
searched-led rules (Err deny) reached led s r = sym (unless-refused rules tt led deny (sym s))

pub searched-named : (rules : Rules) (searched : Result (Unit {0}) Deny) (object : Result (Option CodeLocation) Deny)
    (named : Result (Option (Location ℕ)) Deny) → searched ≡ unless rules (Ok tt) → named_result object ≡ named
    → named_result (result_and searched object) ≡ unless rules named
searched-named rules (Ok done) object named s r = r ∙ sym (unless-let_through rules named s)
searched-named rules (Err deny) object named s r = sym (unless-refused rules tt named deny (sym s))
