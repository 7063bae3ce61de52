-- A move of a mount that has passed its walks: the rules before the receivers are asked for, and those after.
use Rattle.std.proofs.Common.{◌≡◌, ℕ, Bool, false, List, [], ◌∷◌, Ok, Err, is_some, nat_eq, not, ◌∙◌}
use Rattle.vt_spec.proofs.Common.{Location, Looks, MoveMount, Permit, Rules, Task, ToMove, cap_sys_admin, destination_walk, judge, lacks, source_walk, unless, unless-let_through, walk_end}
use Rattle.vt_spec.specs.declared.errors.Deny.{Deny}
use Rattle.vt_spec.specs.declared.errors.Rule.TheVariants.{M10, M9}
use Rattle.vt_spec.specs.Machine.Looks.{mount_at}
use Rattle.vt_rules.specs.Tables.{move_table}
use Rattle.vt_policy.proofs.MountLemmas.{Reaches, move_asked}
use Rattle.vt_rules.proofs.Refusals.{unless-stopped}
use Rattle.vt_rules.proofs.Rows.{one_by_one}

-- the rules after the receivers are asked for
abbrev pub last_rows : Looks ℕ → Location ℕ → Bool → Rules
last_rows looks source overfull = (overfull, M9) ∷ (not (is_some (mount_at looks source).mount_point), M10) ∷ []

pub move_refused : (looks : Looks ℕ) (overfills : Permit ℕ → Bool) (task : Task ℕ) (old new : List ℕ)
    (source place : Location ℕ) → lacks task cap_sys_admin ≡ false
    → Reaches (walk_end (source_walk nat_eq looks task old)) source
    → Reaches (walk_end (destination_walk nat_eq looks task new)) place
    → (deny : Deny) → Err deny ≡ unless {A = Unit {0}} (move_table looks task source place) (Ok tt)
    → judge nat_eq looks overfills task (MoveMount old new) ≡ Err deny
move_refused looks overfills task old new source place admin from there deny refused =
    let permit = ToMove source.mount place in
    move_asked looks overfills task old new source place admin from there
    ∙ one_by_one (move_table looks task source place) (last_rows looks source (overfills permit)) (Ok permit)
    ∙ unless-stopped (move_table looks task source place)
    (unless (last_rows looks source (overfills permit)) (Ok permit)) deny refused

pub move_left : (looks : Looks ℕ) (overfills : Permit ℕ → Bool) (task : Task ℕ) (old new : List ℕ)
    (source place : Location ℕ) → lacks task cap_sys_admin ≡ false
    → Reaches (walk_end (source_walk nat_eq looks task old)) source
    → Reaches (walk_end (destination_walk nat_eq looks task new)) place
    → Ok tt ≡ unless {A = Unit {0}} (move_table looks task source place) (Ok tt)
    → judge nat_eq looks overfills task (MoveMount old new)
    ≡ unless (last_rows looks source (overfills (ToMove source.mount place))) (Ok (ToMove source.mount place))
move_left looks overfills task old new source place admin from there passed =
    let permit = ToMove source.mount place in
    move_asked looks overfills task old new source place admin from there
    ∙ one_by_one (move_table looks task source place) (last_rows looks source (overfills permit)) (Ok permit)
    ∙ unless-let_through (move_table looks task source place)
    (unless (last_rows looks source (overfills permit)) (Ok permit)) passed
