-- The rules of a rename are four tables: what has the new name, where the names are, the caller's rights, and what the
-- layers and the mounter of an overlay ask.
use Rattle.std.proofs.Common.{◌≡◌, ◌++◌, ℕ, Result, Ok, Err, nat_eq, ◌∙◌}
use Rattle.vt_spec.proofs.Common.{Location, Looks, Place, Rules, Task, rename_rules, unless, unless-let_through}
use Rattle.vt_spec.specs.declared.errors.Deny.{Deny}
use Rattle.vt_rules.specs.Tables.{kind_rules, layer_rules, right_rules, way_rules}
use Rattle.vt_rules.proofs.Refusals.{unless-stopped}
use Rattle.vt_rules.proofs.Rows.{one_by_one}

-- no rule of a table fails
abbrev pub Passes : Rules → Type 0
Passes rules = Ok tt ≡ unless {A = Unit {0}} rules (Ok tt)

-- a rule of it fails
abbrev pub Stops : Rules → Deny → Type 0
Stops rules deny = Err deny ≡ unless {A = Unit {0}} rules (Ok tt)

module _ (looks : Looks ℕ) (task : Task ℕ) (from to : Place ℕ) (old : Location ℕ) where
  abbrev judged : Result (Unit {0}) Deny
  judged = unless (rename_rules nat_eq looks task from to old) (Ok tt)

  abbrev kinds : Rules
  kinds = kind_rules nat_eq looks to old

  abbrev ways : Rules
  ways = way_rules nat_eq looks task from to old

  abbrev rights : Rules
  rights = right_rules nat_eq looks task from to old

  abbrev layers : Rules
  layers = layer_rules nat_eq looks from to old

  -- each table in turn
  pub kind_refused : (deny : Deny) → Stops kinds deny → judged ≡ Err deny
  kind_refused deny stops = one_by_one kinds (ways ++ (rights ++ layers)) (Ok tt) ∙ unless-stopped kinds _ deny stops

  way_left : Passes kinds → judged ≡ unless ways (unless (rights ++ layers) (Ok tt))
  way_left kind = one_by_one kinds (ways ++ (rights ++ layers)) (Ok tt) ∙ unless-let_through kinds _ kind
      ∙ one_by_one ways (rights ++ layers) (Ok tt)

  pub way_refused : (deny : Deny) → Passes kinds → Stops ways deny → judged ≡ Err deny
  way_refused deny kind stops = way_left kind ∙ unless-stopped ways _ deny stops

  rights_left : Passes kinds → Passes ways → judged ≡ unless rights (unless layers (Ok tt))
  rights_left kind way = way_left kind ∙ unless-let_through ways _ way ∙ one_by_one rights layers (Ok tt)

  pub rights_refused : (deny : Deny) → Passes kinds → Passes ways → Stops rights deny → judged ≡ Err deny
  rights_refused deny kind way stops = rights_left kind way ∙ unless-stopped rights _ deny stops

  pub layers_left : Passes kinds → Passes ways → Passes rights → judged ≡ unless layers (Ok tt)
  layers_left kind way right = rights_left kind way ∙ unless-let_through rights _ right
