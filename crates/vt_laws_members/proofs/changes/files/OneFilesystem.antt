-- A filesystem that a set uses, by its number: it is one in the world, and the same one in the part.
use Rattle.std.proofs.Common.{arith, ◌≡◌, refl, sym, ap, ◌∙◌, ⊎_elim, ℕ, nat_eq, eqb-true, true, true≢false, List, [], ◌∷◌, find, unwrap_or}
use Rattle.vt_spec.proofs.Common.{Among, Filesystem, IsWorld, TaskName, World, among-filter_map, among-from_filter_map, common_steps, filesystem_numbered, is_among, no_filesystem, part_of, part_of_filesystem, used_filesystems}
use Rattle.vt_laws_members.proofs.Common.{found_filesystem, shown_how}

-- what is found by a number has it
pub found_numbered : (k : ℕ) (list : List (Filesystem ℕ))
    → (unwrap_or (find (λ (f : Filesystem ℕ). nat_eq k f.number) list) (no_filesystem k)).number ≡ k
found_numbered k [] = refl
found_numbered k (x ∷ rest) = grind (arith, common_steps, eqb-true, found_numbered k rest)

module _ (world : World ℕ) (names : List TaskName) (is : IsWorld nat_eq world) (number : ℕ)
    (used : is_among nat_eq number (used_filesystems nat_eq world names) ≡ true) where
  abbrev part : World ℕ
  part = part_of nat_eq world names

  abbrev old : Filesystem ℕ
  old = filesystem_numbered nat_eq world number

  pub old_number : old.number ≡ number
  old_number = found_numbered number world.filesystems

  pub old_used : is_among nat_eq old.number (used_filesystems nat_eq world names) ≡ true
  old_used = cc old_number

  pub one_in_world : (x : Filesystem ℕ) → Among x world.filesystems → nat_eq old.number x.number ≡ true → x ≡ old
  one_in_world x m e = sym (found_filesystem world.filesystems is.files.one_filesystem x m)
      ∙ ap (filesystem_numbered nat_eq world) (sym (eqb-true old.number x.number e) ∙ old_number)

  pub one_in_part : (x : Filesystem ℕ) → Among x part.filesystems → nat_eq old.number x.number ≡ true → x ≡ old
  one_in_part x m e =
      let from = among-from_filter_map (part_of_filesystem nat_eq world names) world.filesystems x m in
      ⊎_elim (λ same. sym same.0 ∙ one_in_world from.0 from.1
      (ap (λ (f : Filesystem ℕ). nat_eq old.number f.number) same.0 ∙ e)) (λ low. absurd (true≢false (sym old_used
      ∙ ap (λ n. is_among nat_eq n (used_filesystems nat_eq world names)) (eqb-true old.number x.number e)
      ∙ ap (λ (f : Filesystem ℕ). is_among nat_eq f.number (used_filesystems nat_eq world names)) (sym low.0) ∙ low.1)))
      (shown_how world names from.0 x from.2)

  pub there_in_part : Among old world.filesystems → Among old part.filesystems
  there_in_part there = among-filter_map _ world.filesystems old old there (cc old_used)
