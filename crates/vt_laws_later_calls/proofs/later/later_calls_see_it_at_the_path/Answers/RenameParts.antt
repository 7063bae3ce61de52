-- What a granted rename was permitted.
use Rattle.std.proofs.Common.{◌≡◌, refl, sym, ap, ◌∙◌, inl, ℕ, nat_eq, Bool, true, false, not, cond, ◌&&◌, List, [], ◌∷◌, Some, is_some, Ok}
use Rattle.vt_spec.proofs.Common.{Allowed, IsWorld, Judgement, Looks, Permit, Place, Rename, Task, ToRename, World, and_then-Ok, is_directory_there, is_mount_point_anywhere, is_one_object, is_special, judge, judging, looks_of, mount_at, name_of, new_walk, object_there, old_leaf_walk, old_walk, old_word_rules, or_parts, passing, place_walk, rename_new_walk, rename_rules, same_object_rules, same_ok, task_called, unless, walk_end}
use Rattle.vt_laws_later_calls.proofs.Common.{IsFound, IsPlain, W3, Deny, directory_found, own_directory_found, plain_numbered, root_found, step_found}
use Rattle.vt_laws_later_calls.proofs.MadeSeen.{new_parts}
use Rattle.vt_laws_later_calls.proofs.Opened.{walk_ended}
use Rattle.vt_laws_later_calls.proofs.Readers.{uncovered}
use Rattle.vt_laws_later_calls.proofs.later.later_calls_see_it_at_the_path.Answers.Unlinked.{old_parts}
use Rattle.vt_laws_later_calls.proofs.Ways.{both_walked, same_end, walk_passing, LeadsToo}

-- what a granted rename of two names of two objects was permitted
pub record NamesParts (looks : Looks ℕ) (task : Task ℕ) (old new : List ℕ) (from to : Place ℕ)
    (permit : Permit ℕ) : Type 0 where
  pub from_walked : place_walk nat_eq looks task old ≡ Ok from
  pub from_named : is_special from.last ≡ false
  pub from_slash : from.slash ≡ true → is_directory_there nat_eq looks from ≡ true
  pub from_there : not (is_some from.object) ≡ false
  pub to_walked : place_walk nat_eq looks task new ≡ Ok to
  pub to_named : is_special to.last ≡ false
  pub to_slash : to.slash ≡ true → is_directory_there nat_eq looks from ≡ true
  pub uncovered : is_mount_point_anywhere looks (object_there from) ≡ false
  pub permit_is : permit ≡ ToRename from.parent (name_of from.last) to.parent (name_of to.last)
      (object_there from) to.object

asked : (slash some : Bool) → (slash && not some) ≡ false → slash ≡ true → some ≡ true
asked true true e f = refl
asked true false e f = cc
asked false some e f = cc

pub names_parts : (looks : Looks ℕ) (full : Permit ℕ → Bool) (task : Task ℕ) (old new : List ℕ) (from to : Place ℕ)
    (permit : Permit ℕ)
    → old_leaf_walk nat_eq looks task old ≡ Ok from → new_walk nat_eq looks task new ≡ Ok to
    → is_one_object nat_eq looks (object_there from) to.object ≡ false
    → judge nat_eq looks full task (Rename old new) ≡ Ok permit → NamesParts looks task old new from to permit
unfolding judging
names_parts looks full task old new from to permit from_is to_is two e =
    let olds = and_then-Ok (walk_end (old_leaf_walk nat_eq looks task old)) _ permit e in
    let same_from : olds.0 ≡ from = same_ok olds.0 from (sym olds.1 ∙ ap walk_end from_is) in
    let first = passing (old_word_rules olds.0) _ permit olds.2 in
    let news = and_then-Ok (walk_end
    (rename_new_walk nat_eq looks task new (is_directory_there nat_eq looks olds.0))) _ permit first.1 in
    let named = passing (old_word_rules news.0) _ permit news.2 in
    let inside = both_walked (new_walk nat_eq looks task new) _ news.0
    (walk_ended (rename_new_walk nat_eq looks task new (is_directory_there nat_eq looks olds.0)) news.0 news.1) in
    let slash = walk_passing inside.0.steps ((inside.0.slash && not (is_directory_there nat_eq looks olds.0), W3)
    ∷ []) inside.0 news.0 inside.2 in
    let to_same : inside.0 ≡ to = same_end inside.0 to (sym inside.1 ∙ to_is) in
    let same_to : news.0 ≡ to = sym slash.1 ∙ to_same in
    let leaf = both_walked (old_walk nat_eq looks task old) _ from from_is in
    let leaf_slash = walk_passing leaf.0.steps ((leaf.0.slash && not (is_directory_there nat_eq looks leaf.0), W3)
    ∷ []) leaf.0 from leaf.2 in
    let there = old_parts looks task old from (leaf.1 ∙ ap Ok leaf_slash.1) in
    let other : is_one_object nat_eq looks (object_there olds.0) news.0.object ≡ false =
    (λ i. is_one_object nat_eq looks (object_there (same_from i)) (same_to i).object) ∙ two in
    let moved : Judgement ℕ = unless (rename_rules nat_eq looks task olds.0 news.0 (object_there olds.0)) (Ok
    (ToRename olds.0.parent (name_of olds.0.last) news.0.parent (name_of news.0.last) (object_there olds.0)
    news.0.object)) in
    let last = passing (rename_rules nat_eq looks task olds.0 news.0 (object_there olds.0)) _ permit
    (sym (ap (λ b. cond b (unless (same_object_rules nat_eq looks olds.0 news.0) (Ok Allowed)) moved) other)
    ∙ named.1) in
    record {
      from_walked = there.0;
      from_named = ap (λ (p : Place ℕ). is_special p.last) (sym same_from) ∙ first.0.0;
      from_slash = asked from.slash (is_directory_there nat_eq looks from)
          (ap (λ (p : Place ℕ). p.slash && not (is_directory_there nat_eq looks p)) (sym leaf_slash.1)
          ∙ leaf_slash.0.0);
      from_there = there.1;
      to_walked = new_parts looks task new to to_is;
      to_named = ap (λ (p : Place ℕ). is_special p.last) (sym same_to) ∙ named.0.0;
      to_slash = asked to.slash (is_directory_there nat_eq looks from) (cc (same_from, to_same, slash.0.0));
      uncovered = ap (λ (p : Place ℕ). is_mount_point_anywhere looks (object_there p)) (sym same_from)
          ∙ (or_parts (is_mount_point_anywhere looks (object_there olds.0)) _ last.0.1.1.1.1.1.1.1.0).0;
      permit_is = sym (same_ok _ permit last.1)
          ∙ (λ i. ToRename (same_from i).parent (name_of (same_from i).last) (same_to i).parent
          (name_of (same_to i).last) (object_there (same_from i)) (same_to i).object);
    }

-- walks of a world lead where they lead
pub itself_leads : (Refused : Deny → Type 0) (world : World ℕ) (is : IsWorld nat_eq world) → IsPlain world
    → (task : Task ℕ) → task_called world task.name ≡ Some task
    → LeadsToo (looks_of nat_eq world) (looks_of nat_eq world) task task Refused (IsFound world is task)
itself_leads Refused world is plain task called = record {
  root = refl;
  working = refl;
  root_known = directory_found world is task task.root (root_found world is task called);
  working_known = directory_found world is task task.directory (own_directory_found world is task called);
  directory = λ here known e. e;
  search = λ here known directory e. inl e;
  mounter = λ here. cc (plain_numbered world plain (mount_at nat_eq world here).filesystem);
  step = λ here word next known directory e. inl (e, step_found world is task here word next (known.0, directory) e);
  nosymfollow = λ here known. refl;
  link = λ here known. refl;
}
