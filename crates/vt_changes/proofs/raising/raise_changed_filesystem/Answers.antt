use Rattle.std.proofs.Common.{[], ap, nat_eq, refl, option_map, option_to_list, sym, ◌≡◌, ◌∙◌, ◌∷◌}
use Rattle.std.proofs.Math.Bool.{or-false}
use Rattle.std.specs.List.{list_any}
use Rattle.vt_spec.proofs.Common.{nat_eq-swapped}
use Rattle.vt_location.specs.Numbers.{filesystem_number}
use Rattle.vt_location.specs.declared.numbers.FilesystemId.{FilesystemId}
use Rattle.vt_changes.specs.Following.{raised_if}
use Rattle.vt_changes.specs.Kept.{is_filesystem, number_by}
use Rattle.vt_changes.proofs.Numbered.{filesystem_test, raise_by}
use Rattle.vt_changes.proofs.raising.raise_changed_filesystem.Goals as goal

pub returns-in-Some : goal.returns-in-Some
returns-in-Some c = λ number.
    let start = number_by (is_filesystem number) c.args.numbers.now.entries in
    let one : is_filesystem number c.in-Some.filesystem
    ≡ list_any (λ n. nat_eq n number) (filesystem_number c.in-Some.filesystem ∷ []) =
    nat_eq-swapped (filesystem_number c.in-Some.filesystem) number _ refl
    ∙ sym (or-false (nat_eq (filesystem_number c.in-Some.filesystem) number)) in
    ap (number_by (is_filesystem number)) c.raise.ensures.entries
    ∙ raise_by (λ (a b : FilesystemId). nat_eq a.count b.count) (λ a b. nat_eq-swapped b.count a.count _ refl)
    (is_filesystem number) (filesystem_test number) c.in-Some.filesystem c.args.numbers.now.entries
    ∙ ap (λ b. raised_if b start) one ∙ ap (λ changed. raised_if (list_any (λ n. nat_eq n number)
    (option_to_list (option_map filesystem_number changed))) start) (sym c.in-Some.is)
