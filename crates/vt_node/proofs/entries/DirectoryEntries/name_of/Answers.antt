use Rattle.std.proofs.Common.{rules, ◌≡◌, sym, ap, ◌∙◌, ℕ, List, nat_eq, Some, None, option_copied, option_map, position, find}
use Rattle.vt_spec.proofs.Common.{YieldsList-from_slice, entry_named, is_sorted, name_cmp, passes, position_from_yields_List, values_of}
use Rattle.vt_node.proofs.ListedLemmas.{find-listed, is_sorted-listed}
use Rattle.vt_node.proofs.Named.{first_name, leads, leads_there, unlisted}
use Rattle.vt_node.proofs.entries.DirectoryEntries.name_of.Goals as goal

pub returns-in_err-place : goal.returns-in_err-place
returns-in_err-place c =
    let entries = c.self.inside.by_name.entries in
    let numbers = c.as_slice-numbers.ensures ∙ c.values.ensures.rest in
    let first = position_from_yields_List (λ (number : ℕ). nat_eq number c.args.id) _ _ _ c.position.ensures.ran
    (YieldsList-from_slice c.as_slice-numbers.result.now cc) (λ x b q k. search rules) in
    let none : c.position.result ≡ None = search rules in
    let nothing : c.from_residual.result ≡ None = search rules in
    let at : position (λ number. nat_eq number c.args.id) (values_of entries) ≡ None =
    ap (position (λ number. nat_eq number c.args.id)) (sym numbers) ∙ sym first ∙ none in
    ap option_copied nothing ∙ sym (ap (option_map (λ (entry : List ℕ × ℕ). entry.0))
    (ap (find (leads c.args.id)) (sym c.self.view_is) ∙ unlisted c.args.id entries at))

pub returns : goal.returns
returns c =
    let entries = c.self.inside.by_name.entries in
    let numbers = c.as_slice-numbers.ensures ∙ c.values.ensures.rest in
    let first = position_from_yields_List (λ (number : ℕ). nat_eq number c.args.id) _ _ _ c.position.ensures.ran
    (YieldsList-from_slice c.as_slice-numbers.result.now cc) (λ x b q k. search rules) in
    let some : c.position.result ≡ Some c.in_ok-place.place = search rules in
    let at : position (λ number. nat_eq number c.args.id) (values_of entries) ≡ Some c.in_ok-place.place =
    ap (position (λ number. nat_eq number c.args.id)) (sym numbers) ∙ sym first ∙ some in
    let leads_to = leads_there c.args.id c.in_ok-place.place entries at
    (c.in_ok-name.name.now, c.in_ok-name.field-0-1.now) (sym c.in_ok-name.ensures.entry) in
    ap Some c.as_slice.ensures.value ∙ first_name c.args.id c.in_ok-name.name.now.items c.args.self.now
    (ap (is_sorted name_cmp) (sym c.self.view_is) ∙ passes _ (is_sorted-listed entries)) c.requires
    (ap (entry_named c.in_ok-name.name.now.items) (sym c.self.view_is) ∙ find-listed c.in_ok-name.name.now.items entries
    ∙ c.in_ok-name.ensures.value ∙ ap Some leads_to)
