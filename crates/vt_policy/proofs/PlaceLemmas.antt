-- Calls that have passed their walks are left to their tables of rules.
use Rattle.std.proofs.Common.{◌≡◌, ℕ, Bool, false, List, [], Result, Ok, Option, Some, None, is_some, option_map, nat_eq, refl, ap, cond, ◌∙◌}
use Rattle.vt_spec.proofs.Common.{Allowed, Here, Judgement, LinkTo, Looks, Named, Node, Place, Rename, Rmdir, Task, ToChange, ToRemoveDirectory, ToRename, Unlink, and_then, hard_link_rules, is_directory_there, is_no_word, is_one_object, is_special, judging, linking, make_permit, make_rules, name_of, new_leaf_walk, object_there, old_leaf_walk, old_walk, old_word_rules, removing, rename_new_walk, rename_rules, rmdir_rules, same_object_rules, symlink_walk, unless, unlink_rules, unnumbered, walk_end}
use Rattle.vt_spec.specs.declared.errors.Deny.{Deny}
use Rattle.vt_spec.specs.declared.errors.Rule.TheVariants.{E1, E2, E4, E5, P1}
use Rattle.vt_spec.specs.Machine.Judging.{makes_at}
use Rattle.vt_spec.specs.Machine.Looks.{is_directory_at}
use Rattle.vt_spec.specs.Machine.Mounts as meant
use Rattle.vt_spec.specs.Machine.Walking.{is_dot, is_dot_dot}
use Rattle.vt_location.specs.declared.locations.Location.{Location}
use Rattle.vt_location.specs.Locations.{location_of}
use Rattle.vt_rules.proofs.Rows.{skipped}
use Rattle.vt_policy.specs.Judged.{judge_by_looks, run_by_looks}

-- what comes after a walk that has ended
pub went : {A B : Type 0} (end : Result A Deny) (a : A) (next : A → Result B Deny) → end ≡ Ok a
    → and_then end next ≡ next a
went end a next e = ap (λ walked. and_then walked next) e

pub is_some_mapped : (object : Option Location) → is_some (option_map location_of object) ≡ is_some object
is_some_mapped None = refl
is_some_mapped (Some object) = refl

-- mkdir(2), symlink(2)
pub made_asked : (looks : Looks ℕ) (task : Task ℕ) (end : Result (Place ℕ) Deny) (seen : Place ℕ)
    (node : Place ℕ → Node ℕ) → end ≡ Ok seen → is_special seen.last ≡ false → is_some seen.object ≡ false
    → and_then end (λ place. run_by_looks looks task (makes_at nat_eq looks task place (node place)))
    ≡ unless (make_rules looks task seen (unnumbered seen (node seen))) (Ok (make_permit seen (node seen)))
made_asked looks task end seen node walked named missing =
    went end seen (λ place. run_by_looks looks task (makes_at nat_eq looks task place (node place))) walked
    ∙ skipped (is_special seen.last) E1 _ _ named ∙ skipped (is_some seen.object) E1 _ _ missing

-- unlink(2)
pub unlink_asked : (looks : Looks ℕ) (task : Task ℕ) (path : List ℕ) (seen : Place ℕ) (object : meant.Location ℕ)
    → walk_end (old_leaf_walk nat_eq looks task path) ≡ Ok seen → is_special seen.last ≡ false
    → object_there seen ≡ object → judge_by_looks looks task (Unlink path)
    ≡ unless (unlink_rules looks task seen object) (Ok (ToChange seen.parent (removing seen object)))
unfolding judging
unlink_asked looks task path seen object walked named there =
    went (walk_end (old_leaf_walk nat_eq looks task path)) seen _ walked ∙ skipped (is_special seen.last) E2 _ _ named
    ∙ (λ i. unless (unlink_rules looks task seen (there i)) (Ok (ToChange seen.parent (removing seen (there i)))))

-- rmdir(2)
pub rmdir_asked : (looks : Looks ℕ) (task : Task ℕ) (path : List ℕ) (seen : Place ℕ) (object : meant.Location ℕ)
    (name : List ℕ)
    → walk_end (old_walk nat_eq looks task path) ≡ Ok seen → seen.last ≡ Named name → object_there seen ≡ object
    → judge_by_looks looks task (Rmdir path) ≡ unless (rmdir_rules nat_eq looks task seen object)
    (Ok (ToRemoveDirectory seen.parent (name_of seen.last) object))
unfolding judging
rmdir_asked looks task path seen object name walked named there =
    went (walk_end (old_walk nat_eq looks task path)) seen _ walked
    ∙ skipped (is_dot_dot seen.last) E4 _ _ (ap is_dot_dot named) ∙ skipped (is_dot seen.last) E5 _ _ (ap is_dot named)
    ∙ skipped (is_no_word seen.last) P1 [] _ (ap is_no_word named)
    ∙ (λ i. unless (rmdir_rules nat_eq looks task seen (there i))
    (Ok (ToRemoveDirectory seen.parent (name_of seen.last) (there i))))

-- link(2)
pub link_asked : (looks : Looks ℕ) (task : Task ℕ) (old new : List ℕ) (from : Here ℕ) (seen : Place ℕ)
    (object : meant.Location ℕ) → walk_end (symlink_walk nat_eq looks task old) ≡ Ok from → from.location ≡ object
    → walk_end (new_leaf_walk nat_eq looks task new) ≡ Ok seen → is_special seen.last ≡ false
    → judge_by_looks looks task (LinkTo old new)
    ≡ unless (hard_link_rules nat_eq looks task object seen (linking object seen))
    (Ok (ToChange seen.parent (linking object seen)))
unfolding judging
link_asked looks task old new from seen object walked_old there walked_new named =
    went (walk_end (symlink_walk nat_eq looks task old)) from _ walked_old
    ∙ went (walk_end (new_leaf_walk nat_eq looks task new)) seen _ walked_new
    ∙ skipped (is_special seen.last) E1 _ _ named
    ∙ (λ i. unless (hard_link_rules nat_eq looks task (there i) seen (linking (there i) seen))
    (Ok (ToChange seen.parent (linking (there i) seen))))

-- rename(2), once both names are found, by whether they lead to one object
abbrev pub renamed : (is_one : Bool) → Looks ℕ → Task ℕ → Place ℕ → Place ℕ → meant.Location ℕ → Judgement ℕ
renamed is_one looks task from to old =
    cond is_one (unless (same_object_rules nat_eq looks from to) (Ok Allowed))
    (unless (rename_rules nat_eq looks task from to old)
    (Ok (ToRename from.parent (name_of from.last) to.parent (name_of to.last) old to.object)))

-- rename(2)
pub rename_asked : (looks : Looks ℕ) (task : Task ℕ) (old new : List ℕ) (from to : Place ℕ) (object : meant.Location ℕ)
    (same : Bool) → walk_end (old_leaf_walk nat_eq looks task old) ≡ Ok from → is_special from.last ≡ false
    → object_there from ≡ object → is_directory_there nat_eq looks from ≡ is_directory_at looks object
    → walk_end (rename_new_walk nat_eq looks task new (is_directory_at looks object)) ≡ Ok to
    → is_special to.last ≡ false → is_one_object nat_eq looks object to.object ≡ same
    → judge_by_looks looks task (Rename old new) ≡ renamed same looks task from to object
unfolding judging
rename_asked looks task old new from to object same walked_old old_named there kind walked_new new_named is_same =
    let next : Place ℕ → Judgement ℕ = λ place. unless (old_word_rules place)
    (renamed (is_one_object nat_eq looks (object_there from) place.object) looks task from place
    (object_there from)) in
    went (walk_end (old_leaf_walk nat_eq looks task old)) from _ walked_old
    ∙ skipped (is_special from.last) P1 [] _ old_named
    ∙ ap (λ directory. and_then (walk_end (rename_new_walk nat_eq looks task new directory)) next) kind
    ∙ went (walk_end (rename_new_walk nat_eq looks task new (is_directory_at looks object))) to next walked_new
    ∙ skipped (is_special to.last) P1 [] _ new_named
    ∙ (λ i. renamed (is_one_object nat_eq looks (there i) to.object) looks task from to (there i))
    ∙ ap (λ one. renamed one looks task from to object) is_same
