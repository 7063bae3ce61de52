-- An overlay is named by births and by what is kept.
use Rattle.std.proofs.Common.{◌≡◌, refl, sym, ap, ◌∙◌, ℕ, Option, Some, None, is_some}
use Rattle.vt_spec.proofs.Common.{Real}
use Rattle.vt_spec.specs.Lists.{when}
use Rattle.vt_laws_upper_layers.specs.Births.{object_by}
use Rattle.vt_laws_upper_layers.specs.Naming.{BirthsName}
use Rattle.vt_laws_upper_layers.proofs.births.Found.{inodes_find_their_objects}

pub births_name : BirthsName
births_name origin born births copies kept filesystem overlay are turned origins keeps = record {
  numbered = are.numbered;
  unnamed = λ number unnamed no_root. by number (overlay.real number) refl (keeps number unnamed no_root);
}
  where
    by : (number : ℕ) (o : Option (Real ℕ)) → overlay.real number ≡ o → is_some (overlay.real number) ≡ kept number
        → overlay.real number ≡ when (kept number) (object_by origin copies number)
    by number None e is = e ∙ ap (λ b. when b (object_by origin copies number)) (sym (ap is_some e) ∙ is)
    by number (Some object) e is =
        e ∙ ap Some (sym (inodes_find_their_objects origin born births copies overlay.real number object are turned
        origins e))
        ∙ ap (λ b. when b (object_by origin copies number)) (sym (ap is_some e) ∙ is)
