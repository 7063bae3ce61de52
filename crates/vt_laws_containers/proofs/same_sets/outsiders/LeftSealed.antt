-- Calls of others leave a sealed set sealed and its part the same, in all worlds that are the same as the policy's.
use Rattle.std.proofs.Common.{◌≡◌, refl, sym, ap, subst, ◌∙◌, ℕ, nat_eq, true, List, [], ◌∷◌, Option, Some, None, is_some}
use Rattle.vt_spec.proofs.Common.{IsWorld, SameFilesystem, SameWorlds, Task, TaskName, World, among_from_contains, among_from_list_all, any_from_among, contains_from_among, list_all_from_among, part_of, policy, same_name, same_name_itself, sealed, used_alone}
use Rattle.vt_laws_containers.proofs.Common.{IfAny, IsOutsidersCall, OneCall, SameTask, alike_from_same, are_all_called, called_alike, every_call_keeps_worlds, outsiders_leave_a_sealed_set, sameness_is_an_equivalence, task_alike}
use Rattle.vt_laws_worlds.proofs.one_text.same.SameWhole.{any_same_worlds_are_worlds}
use Rattle.vt_laws_trees.proofs.runs.EachHas.{each_among}
use Rattle.vt_laws_containers.proofs.same_sets.sets.PartsAlike.{same_worlds_have_same_parts}
use Rattle.vt_laws_containers.proofs.same_sets.sets.SealedAlike.{same_worlds_are_sealed_alike, same_worlds_give_footholds_alike}
use Rattle.vt_laws_containers.specs.SameSets.Outsiders.{OutsidersLeadTo, OutsidersLeadToSealedWorlds, OutsidersLeaveSameWorldsSealed}

pub outsiders_leave_same_worlds_sealed : OutsidersLeaveSameWorldsSealed
outsiders_leave_same_worlds_sealed world other same fresh names name call outsider later left =
    let after = (policy nat_eq fresh world name call).world in
    let leaves = outsiders_leave_a_sealed_set world fresh names name call outsider in record {
      sealed_off = sym (same_worlds_are_sealed_alike after later left names) ∙ leaves.sealed_off;
      part = sameness_is_an_equivalence.onward (part_of nat_eq later names) (part_of nat_eq after names)
          (part_of nat_eq other names) (sameness_is_an_equivalence.back (part_of nat_eq after names)
          (part_of nat_eq later names) (same_worlds_have_same_parts after later left names))
          (subst (λ part. SameWorlds part (part_of nat_eq other names)) (sym leaves.part)
          (same_worlds_have_same_parts world other same names));
      no_more = λ filesystem has alone.
          let its = each_among SameFilesystem world.filesystems other.filesystems
          (alike_from_same world other same).filesystems filesystem (among_from_contains _ _ has) in
          sym (same_worlds_give_footholds_alike after later left names filesystem.number)
          ∙ subst (λ number. used_alone nat_eq after names number ≡ true) its.2.number (leaves.no_more its.0
          (contains_from_among _ its.0 its.1) (subst (λ number. used_alone nat_eq world names number ≡ true)
          (sym its.2.number) (same_worlds_give_footholds_alike world other same names filesystem.number ∙ alone)));
    }

some_alike : (one other : Option (Task ℕ)) → IfAny SameTask one other → is_some one ≡ is_some other
some_alike None None alike = refl
some_alike None (Some b) alike = absurd alike
some_alike (Some a) None alike = absurd alike
some_alike (Some a) (Some b) alike = refl

-- names of the set stay names of tasks where the part is the same
still_called : (world later : World ℕ) (names : List TaskName)
    → SameWorlds (part_of nat_eq later names) (part_of nat_eq world names)
    → are_all_called world names ≡ true → are_all_called later names ≡ true
still_called world later names same there = list_all_from_among (λ member. is_some _) names (λ member m.
    let theirs = any_from_among (same_name member) names _ m (same_name_itself member) in
    sym (ap is_some (called_alike names _ theirs _)) ∙ some_alike _ _ (task_alike _ _ (alike_from_same _ _ same) _)
    ∙ ap is_some (called_alike names _ theirs _) ∙ among_from_list_all (λ n. is_some _) names there _ m)

in_turn : (calls : List OneCall) (world last : World ℕ) (names : List TaskName) → IsWorld nat_eq world
    → sealed nat_eq world names ≡ true → are_all_called world names ≡ true → OutsidersLeadTo world names calls last
    → (sealed nat_eq last names ≡ true) × SameWorlds (part_of nat_eq last names) (part_of nat_eq world names)
in_turn [] world last names is sealed_off there same = (
  sym (same_worlds_are_sealed_alike world last same names) ∙ sealed_off,
  sameness_is_an_equivalence.back (part_of nat_eq world names) (part_of nat_eq last names)
      (same_worlds_have_same_parts world last same names),
)
in_turn (one ∷ rest) world last names is sealed_off there leads =
    let outsider : IsOutsidersCall world one.fresh names one.name one.call = record {
      is = is;
      sealed_off = sealed_off;
      there = there;
      outside = leads.0.outside;
      apart = leads.0.apart;
      serves = leads.0.serves;
      few_groups = leads.0.few_groups;
    } in
    let next = leads.1 in
    let leaves = outsiders_leave_same_worlds_sealed world world (sameness_is_an_equivalence.itself world) one.fresh
    names one.name one.call outsider next leads.2 in
    let after = in_turn rest next last names
    (any_same_worlds_are_worlds (policy nat_eq one.fresh world one.name one.call).world next leads.2
    (every_call_keeps_worlds world one.fresh one.name one.call is leads.0.serves leads.0.few_groups))
    leaves.sealed_off (still_called world next names leaves.part there) leads.3 in (
      after.0,
      sameness_is_an_equivalence.onward (part_of nat_eq last names) (part_of nat_eq next names)
          (part_of nat_eq world names) after.1 leaves.part,
    )

pub outsiders_lead_to_sealed_worlds : OutsidersLeadToSealedWorlds
outsiders_lead_to_sealed_worlds world last names calls is sealed_off there leads =
    in_turn calls world last names is sealed_off there leads
