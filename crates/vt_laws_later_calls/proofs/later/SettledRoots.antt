-- A filesystem that something is in when what nothing uses is gone has the root that it had.
use Rattle.std.proofs.Common.{arith, ◌≡◌, refl, sym, ap, ◌∙◌, inl, inr, true≢false, ℕ, nat_eq, eqb-true, Bool, true, false, not, List, [], ◌∷◌, find, map, Option, Some, None, is_some, option_map, unwrap_or}
use Rattle.vt_spec.proofs.Common.{Among, Filesystem, World, among-from_filter, any_pair, common_steps, filesystem_lives, filesystem_numbered, is_overlay, no_filesystem, only_used, same_Some, settled, without_dead_filesystems, without_dead_in, without_dead_mounts}
use Rattle.vt_laws_later_calls.proofs.Common.{cases_Option, found_filesystem}

abbrev looked_up : ℕ → List (Filesystem ℕ) → Option (Filesystem ℕ)
looked_up number list = find (λ (f : Filesystem ℕ). nat_eq number f.number) list

-- what is looked up in a list that was changed one by one
looked_up-map : (change : Filesystem ℕ → Filesystem ℕ) → ((f : Filesystem ℕ) → (change f).number ≡ f.number)
    → (number : ℕ)
    (list : List (Filesystem ℕ)) → looked_up number (map change list) ≡ option_map change (looked_up number list)
looked_up-map change same number [] = refl
looked_up-map change same number (first ∷ rest) =
    grind (arith, common_steps, same, looked_up-map change same number rest)

-- what is found has the number, and is one of the list
looked_up_is : (number : ℕ) (list : List (Filesystem ℕ)) (f : Filesystem ℕ) → looked_up number list ≡ Some f
    → Among f list × (number ≡ f.number)
looked_up_is number [] f e = cc
looked_up_is number (first ∷ rest) f e = grind (arith, common_steps, eqb-true, same_Some, looked_up_is number rest f)

module _ (world : World ℕ) (one : any_pair (λ (a b : Filesystem ℕ). nat_eq a.number b.number) world.filesystems
    ≡ false) where
  abbrev living : World ℕ
  living = without_dead_filesystems nat_eq (without_dead_mounts nat_eq world)

  abbrev first : World ℕ
  first = without_dead_in nat_eq is_overlay living

  swept : (w : World ℕ) (chosen : Bool) (f : Filesystem ℕ) → ((only_used nat_eq w chosen f).number ≡ f.number)
      × ((only_used nat_eq w chosen f).files.tree.root ≡ f.files.tree.root)
  swept w chosen f = grind (arith, common_steps)

  abbrev once : Filesystem ℕ → Filesystem ℕ
  once f = only_used nat_eq living (is_overlay f) f

  abbrev twice : Filesystem ℕ → Filesystem ℕ
  twice f = only_used nat_eq first (not (is_overlay f)) f

  looked_up_settled : (number : ℕ) → looked_up number (settled nat_eq world).filesystems
      ≡ option_map twice (option_map once (looked_up number living.filesystems))
  looked_up_settled number = looked_up-map twice (λ f. (swept first (not (is_overlay f)) f).0) number first.filesystems
      ∙ ap (option_map twice) (looked_up-map once (λ f. (swept living (is_overlay f) f).0) number living.filesystems)

  pub root_settled : (number inode : ℕ)
      → is_some ((filesystem_numbered nat_eq (settled nat_eq world) number).files.tree.node inode) ≡ true
      → (filesystem_numbered nat_eq (settled nat_eq world) number).files.tree.root
      ≡ (filesystem_numbered nat_eq world number).files.tree.root
  root_settled number inode there = elim (cases_Option (looked_up number living.filesystems)) [
    | inl e ↦ absurd (true≢false
        (sym there ∙ ap (λ (f : Filesystem ℕ). is_some (f.files.tree.node inode)) (left None e)))
    | inr its ↦ let found = looked_up_is number living.filesystems its.0 its.1 in
        let among = (among-from_filter
        (filesystem_lives nat_eq (without_dead_mounts nat_eq world)) world.filesystems its.0 found.0).0 in
        ap (λ (x : Filesystem ℕ). x.files.tree.root) (left (Some its.0) its.1)
        ∙ (swept first (not (is_overlay (once its.0))) (once its.0)).1 ∙ (swept living (is_overlay its.0) its.0).1
        ∙ ap (λ (x : Filesystem ℕ). x.files.tree.root)
        (sym (found_filesystem world.filesystems one its.0 among) ∙ ap (filesystem_numbered nat_eq world) (sym found.1))
  ]
    where
      left : (o : Option (Filesystem ℕ)) → looked_up number living.filesystems ≡ o
          → filesystem_numbered nat_eq (settled nat_eq world) number
          ≡ unwrap_or (option_map twice (option_map once o)) (no_filesystem number)
      left o e = cc (looked_up_settled number)
