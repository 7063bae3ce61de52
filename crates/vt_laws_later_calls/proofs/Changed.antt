-- What a change of a plain filesystem leaves of it, and of the others.
use Rattle.std.proofs.Common.{arith, ◌≡◌, refl, sym, ap, ◌∙◌, true≢false, ⊎_elim, ℕ, nat_eq, eqb-true, Bool, true, false, cond, List, [], ◌∷◌, Some, find, map, is_some, unwrap_or}
use Rattle.vt_spec.proofs.Common.{Change, Filesystem, Fresh, Location, World, changed, common_steps, files_at, filesystem_numbered, mount_at, nat_eq_false_turned, no_filesystem, node_at, replaced_if_numbered, with_change, with_filesystem}
use Rattle.vt_laws_later_calls.proofs.Common.{IsPlain, change_of_plain, changed_one, found_new, numbered, old_number}

-- a filesystem of another number than the one that is replaced
abbrev found_among : ℕ → Bool → Filesystem ℕ → List (Filesystem ℕ) → Filesystem ℕ
found_among number b first rest =
    unwrap_or (cond b (Some first) (find (λ (f : Filesystem ℕ). nat_eq number f.number) rest)) (no_filesystem number)

abbrev replaced_by : Filesystem ℕ → List (Filesystem ℕ) → List (Filesystem ℕ)
replaced_by new list = map (replaced_if_numbered nat_eq new) list

found_other : (new : Filesystem ℕ) (list : List (Filesystem ℕ)) (number : ℕ) → nat_eq new.number number ≡ false
    → numbered number (replaced_by new list) ≡ numbered number list
found_other new [] number other = refl
found_other new (first ∷ rest) number other =
    grind (arith, common_steps, nat_eq_false_turned, eqb-true, found_other new rest number other)

module _ (fresh : Fresh ℕ) (world : World ℕ) (plain : IsPlain world) (at : Location ℕ) (change : Change ℕ) where
  abbrev pub shown : ℕ
  shown = (mount_at nat_eq world at).filesystem

  abbrev pub changed_world : World ℕ
  changed_world = with_change nat_eq fresh world at change

  abbrev new : Filesystem ℕ
  new = changed_one fresh world plain at change

  new_number : new.number ≡ shown
  new_number = old_number fresh world plain at change

  -- the filesystem of the location, where something is there
  pub files_changed : is_some (node_at nat_eq world at) ≡ true
      → (filesystem_numbered nat_eq changed_world shown).files ≡ changed nat_eq (files_at nat_eq world at) change
  files_changed there =
      ap (λ w. (filesystem_numbered nat_eq w shown).files) (change_of_plain fresh world plain at change)
      ∙ ap (λ n. (numbered n (with_filesystem nat_eq world new).filesystems).files) (sym new_number)
      ∙ ap (λ (f : Filesystem ℕ). f.files) found
    where
      found : numbered new.number (with_filesystem nat_eq world new).filesystems ≡ new
      found = ⊎_elim (λ is. is) (λ none. absurd (true≢false (sym there
          ∙ ap (λ n. is_some ((numbered n world.filesystems).files.tree.node at.node)) (sym new_number)
          ∙ ap (λ (f : Filesystem ℕ). is_some (f.files.tree.node at.node)) none.1))) (found_new new world.filesystems)

  -- another filesystem
  pub files_other : (number : ℕ) → nat_eq shown number ≡ false
      → (filesystem_numbered nat_eq changed_world number).files ≡ (filesystem_numbered nat_eq world number).files
  files_other number other = cc (
    change_of_plain fresh world plain at change,
    found_other new world.filesystems number (ap (λ n. nat_eq n number) new_number ∙ other),
  )
