-- Mount calls that have passed their walks are left to their tables of rules.
use Rattle.std.proofs.Common.{◌≡◌, ℕ, Bool, true, false, List, [], ◌∷◌, Result, Ok, Err, nat_eq, ap, ◌∙◌}
use Rattle.vt_spec.proofs.Common.{Bind, Here, Location, Looks, MountFlags, MountPlain, MoveMount, Permit, PivotRoot, Rules, Task, ToBind, ToMountPlain, ToMove, ToPivot, and_then, bind_rules, cap_sys_admin, destination_walk, directory_walk, is_elsewhere, is_no_root, judge, judging, lacks, move_rules, new_mount_rules, pivot_rules, source_walk, unless, walk_end}
use Rattle.vt_spec.specs.declared.errors.Deny.{Deny}
use Rattle.vt_spec.specs.declared.errors.Rule.TheVariants.{K1, M2, M7}
use Rattle.vt_policy.specs.Ends.{root_walk}
use Rattle.vt_rules.proofs.Rows.{skipped}
use Rattle.vt_policy.specs.Judged.{judge_by_looks}

-- where a walk ends
abbrev pub Reaches : Result (Here ℕ) Deny → Location ℕ → Type 0
Reaches end at = (here : Here ℕ) × (end ≡ Ok here) × (here.location ≡ at)

-- what comes after a walk is asked of where it ends
pub reached : {A : Type 0} (end : Result (Here ℕ) Deny) (at : Location ℕ) (next : Location ℕ → Result A Deny)
    → Reaches end at → and_then end (λ here. next here.location) ≡ next at
reached end at next r = ap (λ e. and_then e (λ here. next here.location)) r.1 ∙ ap next r.2

pub mount_plain_asked : (looks : Looks ℕ) (overfills : Permit ℕ → Bool) (task : Task ℕ) (path : List ℕ)
    (flags : MountFlags) (place : Location ℕ) → lacks task cap_sys_admin ≡ false
    → Reaches (walk_end (destination_walk nat_eq looks task path)) place
    → judge nat_eq looks overfills task (MountPlain path flags)
    ≡ unless (new_mount_rules nat_eq looks task place (overfills (ToMountPlain place flags)))
    (Ok (ToMountPlain place flags))
unfolding judging
mount_plain_asked looks overfills task path flags place admin there = skipped _ K1 [] _ admin
    ∙ reached (walk_end (destination_walk nat_eq looks task path)) place
    (λ at. unless (new_mount_rules nat_eq looks task at (overfills (ToMountPlain at flags)))
    (Ok (ToMountPlain at flags))) there

pub bind_asked : (looks : Looks ℕ) (overfills : Permit ℕ → Bool) (task : Task ℕ) (old new : List ℕ) (recursive : Bool)
    (source place : Location ℕ) → lacks task cap_sys_admin ≡ false
    → Reaches (walk_end (source_walk nat_eq looks task old)) source
    → Reaches (walk_end (destination_walk nat_eq looks task new)) place
    → judge nat_eq looks overfills task (Bind old new recursive)
    ≡ unless (bind_rules nat_eq looks task source place (overfills (ToBind source place recursive)))
    (Ok (ToBind source place recursive))
unfolding judging
bind_asked looks overfills task old new recursive source place admin from there =
    let asked : Location ℕ → Location ℕ → Result (Permit ℕ) Deny = λ from. λ at.
    unless (bind_rules nat_eq looks task from at (overfills (ToBind from at recursive)))
    (Ok (ToBind from at recursive)) in
    skipped _ K1 [] _ admin ∙ reached (walk_end (source_walk nat_eq looks task old)) source
    (λ from. and_then (walk_end (destination_walk nat_eq looks task new)) (λ here. asked from here.location)) from
    ∙ reached (walk_end (destination_walk nat_eq looks task new)) place (asked source) there

pub move_asked : (looks : Looks ℕ) (overfills : Permit ℕ → Bool) (task : Task ℕ) (old new : List ℕ)
    (source place : Location ℕ) → lacks task cap_sys_admin ≡ false
    → Reaches (walk_end (source_walk nat_eq looks task old)) source
    → Reaches (walk_end (destination_walk nat_eq looks task new)) place
    → judge nat_eq looks overfills task (MoveMount old new)
    ≡ unless (move_rules nat_eq looks task source place (overfills (ToMove source.mount place)))
    (Ok (ToMove source.mount place))
unfolding judging
move_asked looks overfills task old new source place admin from there =
    let asked : Location ℕ → Location ℕ → Result (Permit ℕ) Deny = λ from. λ at.
    unless (move_rules nat_eq looks task from at (overfills (ToMove from.mount at))) (Ok (ToMove from.mount at)) in
    skipped _ K1 [] _ admin ∙ reached (walk_end (source_walk nat_eq looks task old)) source
    (λ from. and_then (walk_end (destination_walk nat_eq looks task new)) (λ here. asked from here.location)) from
    ∙ reached (walk_end (destination_walk nat_eq looks task new)) place (asked source) there

pub pivot_asked : (looks : Looks ℕ) (task : Task ℕ) (new put : List ℕ) (root place : Location ℕ)
    → lacks task cap_sys_admin ≡ false → Reaches (walk_end (source_walk nat_eq looks task new)) root
    → Reaches (walk_end (destination_walk nat_eq looks task put)) place → judge_by_looks looks task (PivotRoot new put)
    ≡ unless (pivot_rules nat_eq looks task root place) (Ok (ToPivot root.mount place))
unfolding judging
pivot_asked looks task new put root place admin from there =
    let asked : Location ℕ → Location ℕ → Result (Permit ℕ) Deny = λ from. λ at.
    unless (pivot_rules nat_eq looks task from at) (Ok (ToPivot from.mount at)) in
    skipped _ K1 [] _ admin ∙ reached (walk_end (source_walk nat_eq looks task new)) root
    (λ from. and_then (walk_end (destination_walk nat_eq looks task put)) (λ here. asked from here.location)) from
    ∙ reached (walk_end (destination_walk nat_eq looks task put)) place (asked root) there

rows_refused : {A B : Type 0} (elsewhere no_root : Bool) (more : Rules) (here : A) (answer : Result B Deny)
    (deny : Deny) → unless ((elsewhere, M2) ∷ (no_root, M7) ∷ []) (Ok here) ≡ Err deny
    → unless ((elsewhere, M2) ∷ (no_root, M7) ∷ more) answer ≡ Err deny
rows_refused true no_root more here answer deny e = cc
rows_refused false true more here answer deny e = cc
rows_refused false false more here answer deny e = absurd cc

walk_refused : {B : Type 0} (lacking : Bool) (end : Result (Here ℕ) Deny) (elsewhere no_root : Location ℕ → Bool)
    (more : Location ℕ → Rules) (answer : Location ℕ → Result B Deny) (deny : Deny)
    → unless ((lacking, K1) ∷ []) (and_then end
    (λ here. unless ((elsewhere here.location, M2) ∷ (no_root here.location, M7) ∷ []) (Ok here))) ≡ Err deny
    → unless ((lacking, K1) ∷ []) (and_then end
    (λ here. unless ((elsewhere here.location, M2) ∷ (no_root here.location, M7) ∷ more here.location)
    (answer here.location))) ≡ Err deny
walk_refused true end elsewhere no_root more answer deny e = cc
walk_refused false (Err refusal) elsewhere no_root more answer deny e = cc
walk_refused false (Ok here) elsewhere no_root more answer deny e =
    rows_refused (elsewhere here.location) (no_root here.location) (more here.location) here
    (answer here.location) deny e

-- a walk to the root of a mount that is refused refuses the call
pub root_refused : {B : Type 0} (looks : Looks ℕ) (task : Task ℕ) (path : List ℕ) (more : Location ℕ → Rules)
    (answer : Location ℕ → Result B Deny) (deny : Deny) → root_walk looks task path ≡ Err deny
    → unless ((lacks task cap_sys_admin, K1) ∷ []) (and_then (walk_end (directory_walk nat_eq looks task path)) (λ here.
    unless ((is_elsewhere nat_eq looks task here.location, M2) ∷ (is_no_root nat_eq looks here.location, M7)
    ∷ more here.location) (answer here.location))) ≡ Err deny
root_refused looks task path more answer deny e =
    walk_refused (lacks task cap_sys_admin) (walk_end (directory_walk nat_eq looks task path))
    (is_elsewhere nat_eq looks task) (is_no_root nat_eq looks) more answer deny e
