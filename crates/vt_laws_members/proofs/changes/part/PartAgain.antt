-- The part of the part is the part, with the trees that it has by lower layers alone.
use Rattle.std.proofs.Common.{arith, ◌≡◌, refl, sym, ap, subst, ◌∙◌, inl, inr, ⊎_elim, ℕ, nat_eq, Bool, true, false, cond, true≢false, List, [], ◌∷◌, Option, Some, None, filter, find, is_some, eq-eqb, eqb-true, unwrap_or, filter_map}
use Rattle.vt_spec.proofs.Common.{cases_Bool, Among, FileTree, Filesystem, IsTree, IsWorld, Layer, ListsNumbers, Mount, Namespace, Node, Task, TaskName, World, among-filter, among-from_filter, among_from_all, among_numbers, and_from, and_parts, any_among, any_from_among, common_steps, cons_option, filesystem_numbered, is_among, is_among_numbers, is_at, is_under, lies_in_layer, lies_in_own_lower, list_any, locations, members, no_filesystem, only_among, own_lowers, part_of, part_of_filesystem, part_of_lower, part_of_master, part_of_mount, seen_by_descriptor, used_filesystems, when}
use Rattle.vt_laws_members.proofs.Common.{filter_again, found_filesystem, keep, kept_again, kept_how, same_lowers, same_members, same_own, same_used, shown_how, shown_number}
use Rattle.vt_laws_members.specs.Changes.Parts.{PartOfAPart}
use Rattle.vt_laws_members.proofs.changes.part.CutTrees.{under_in_cut}

-- all of a list pass
pub filter_all : (p : ℕ → Bool) (xs : List ℕ) → ((x : ℕ) → Among x xs → p x ≡ true) → filter p xs ≡ xs
filter_all p [] all = refl
filter_all p (x ∷ xs) all = cc (all x (inl refl), filter_all p xs (λ y m. all y (inr m)))

none_kept : (b : Bool) (o : Option (Node ℕ)) → o ≡ None → cond b o None ≡ o
none_kept true o e = refl
none_kept false o e = sym e

-- a tree cut to the inodes that it has
module _ (chosen : List ℕ) (files : FileTree ℕ) (there : (n : ℕ) → is_among nat_eq n chosen ≡ true
    → Among n files.numbers)
  where
    abbrev cut : FileTree ℕ
    cut = only_among nat_eq chosen files

    pub cut_again : only_among nat_eq cut.numbers cut ≡ cut
    cut_again = λ i. record {
      tree = record { root = files.tree.root; node = λ n. same n (is_among nat_eq n chosen) refl i };
      numbers = filter_all (λ n. is_among nat_eq n cut.numbers) cut.numbers (is_among_numbers cut.numbers) i;
    }
      where
        same : (n : ℕ) (b : Bool) → is_among nat_eq n chosen ≡ b
            → cond (is_among nat_eq n cut.numbers) (cond (is_among nat_eq n chosen) (files.tree.node n) None) None
            ≡ cond (is_among nat_eq n chosen) (files.tree.node n) None
        same n true e =
            cc (is_among_numbers cut.numbers n (among-filter (λ k. is_among nat_eq k chosen) files.numbers n (there n
            e) e))
        same n false e = none_kept (is_among nat_eq n cut.numbers) _ (cc)

module _ (world : World ℕ) (names : List TaskName) (is : IsWorld nat_eq world) where
  abbrev part : World ℕ
  part = part_of nat_eq world names

  abbrev theirs : List (Task ℕ)
  theirs = members world names

  abbrev used : List ℕ
  used = used_filesystems nat_eq world names

  abbrev lowers : List (Layer ℕ)
  lowers = own_lowers nat_eq world names

  abbrev shown : Filesystem ℕ → Option (Filesystem ℕ)
  shown = part_of_filesystem nat_eq world names

  abbrev has_lower : ℕ → Bool
  has_lower number = list_any (λ (layer : Layer ℕ). nat_eq number layer.filesystem) lowers

  -- what the part has of a filesystem is found there
  pub found_in_part : (x y : Filesystem ℕ) → Among x world.filesystems → shown x ≡ Some y
      → filesystem_numbered nat_eq part x.number ≡ y
  found_in_part x y m e = ap (λ o. unwrap_or o (no_filesystem x.number)) (search world.filesystems (λ z n. n) m)
    where
      itself : (z : Filesystem ℕ) → Among z world.filesystems → nat_eq x.number z.number ≡ true → z ≡ x
      itself z n h = sym (found_filesystem world.filesystems is.files.one_filesystem z n)
          ∙ ap (filesystem_numbered nat_eq world) (sym (eqb-true x.number z.number h))
          ∙ found_filesystem world.filesystems is.files.one_filesystem x m

      search : (list : List (Filesystem ℕ)) → ((z : Filesystem ℕ) → Among z list → Among z world.filesystems)
          → Among x list → find (λ (f : Filesystem ℕ). nat_eq x.number f.number) (filter_map shown list) ≡ Some y
      search [] all there = absurd there
      search (z ∷ rest) all there = elim (cases_Bool (nat_eq x.number z.number)) [
        | inl h ↦ ap (λ o. find (λ (f : Filesystem ℕ). nat_eq x.number f.number) (cons_option o
            (filter_map shown rest)))
            (ap shown (itself z (all z (inl refl)) h) ∙ e)
            ∙ ap (λ b. cond b (Some y) (find (λ (f : Filesystem ℕ). nat_eq x.number f.number)
            (filter_map shown rest)))
            (ap (nat_eq x.number) (shown_number world names x y e) ∙ eq-eqb x.number x.number refl)
        | inr h ↦ cc (
          skip (shown z) refl h,
          (search rest (λ w n. all w (inr n))) (⊎_elim (λ same. absurd (true≢false (sym (eq-eqb x.number z.number
              (ap (λ (f : Filesystem ℕ).
              f.number) same)) ∙ h))) (λ n. n) there),
        )
      ]
        where
          skip : (o : Option (Filesystem ℕ)) → shown z ≡ o → nat_eq x.number z.number ≡ false
              → find (λ (f : Filesystem ℕ). nat_eq x.number f.number) (cons_option o (filter_map shown rest))
              ≡ find (λ (f : Filesystem ℕ). nat_eq x.number f.number) (filter_map shown rest)
          skip None f h = refl
          skip (Some w) f h = cc (shown_number world names z w f)

  -- a tree that the part has by lower layers alone
  module _ (x : Filesystem ℕ) (m : Among x world.filesystems) (unused : is_among nat_eq x.number used ≡ false)
      (low : has_lower x.number ≡ true) where
    abbrev y : Filesystem ℕ
    y = part_of_lower nat_eq world names x

    pub tree : IsTree x.files.tree
    tree = among_from_all (λ (f : Filesystem ℕ). IsTree f.files.tree) world.filesystems is.files.trees x m

    pub listed : ListsNumbers nat_eq x.files
    listed = among_from_all (λ (f : Filesystem ℕ). ListsNumbers nat_eq f.files) world.filesystems is.files.numbers x m

    pub itself : filesystem_numbered nat_eq world x.number ≡ x
    itself = found_filesystem world.filesystems is.files.one_filesystem x m

    shown_so : shown x ≡ Some y
    shown_so = ap (λ b. cond b (Some x) (when (has_lower x.number) y)) unused ∙ ap (λ b. when b y) low

    abbrev chosen : List ℕ
    chosen = filter (lies_in_own_lower nat_eq world names x.number) x.files.numbers

    pub in_chosen : (layer : Layer ℕ) → Among layer lowers → nat_eq x.number layer.filesystem ≡ true → (object : ℕ)
        → is_some (x.files.tree.node object) ≡ true → is_under nat_eq x.files layer.directory object ≡ true
        → is_among nat_eq object chosen ≡ true
    in_chosen layer at on object there under = is_among_numbers chosen object (among-filter _ x.files.numbers object
        (among_numbers x.files.numbers object (listed object ∙ there))
        (any_from_among _ lowers layer at (and_from (nat_eq x.number layer.filesystem) _ on (cc itself))))

    -- each inode lies in a lower layer of theirs in the part, too
    lies_again : (object : ℕ) → Among object chosen → lies_in_own_lower nat_eq part names x.number object ≡ true
    lies_again object n =
        let from = among-from_filter (lies_in_own_lower nat_eq world names x.number) x.files.numbers object n in
        let at = any_among (lies_in_layer nat_eq world x.number object) lowers from.1 in
        let both = and_parts (nat_eq x.number at.0.filesystem)
        (is_under nat_eq (filesystem_numbered nat_eq world x.number).files at.0.directory object) at.2 in
        let there : is_some (x.files.tree.node object) ≡ true =
        sym (listed object) ∙ is_among_numbers x.files.numbers object from.0 in
        cc (
          same_lowers world names,
          any_from_among (lies_in_layer nat_eq part x.number object) lowers at.0 at.1 (and_from (nat_eq x.number
              at.0.filesystem) (is_under nat_eq (filesystem_numbered nat_eq part x.number).files at.0.directory object)
              both.0 (ap (λ (f : Filesystem ℕ). is_under nat_eq f.files at.0.directory object) (found_in_part x y m
              shown_so) ∙ under_in_cut x.files chosen tree listed at.0.directory (in_chosen at.0 at.1 both.0) object
              there (sym (ap (λ (f : Filesystem ℕ). is_under nat_eq f.files at.0.directory object) itself) ∙ both.1))),
        )

    lower_again : part_of_lower nat_eq part names y ≡ y
    lower_again = cc (
      filter_all (lies_in_own_lower nat_eq part names x.number) y.files.numbers (λ object n. lies_again object
          (among_numbers chosen object (among-from_filter (λ k. is_among nat_eq k chosen) x.files.numbers object n).1)),
      cut_again chosen x.files (λ n e. (among-from_filter (lies_in_own_lower nat_eq world names x.number)
          x.files.numbers n (among_numbers chosen n e)).0),
    )

  shown_again : (x y : Filesystem ℕ) → Among x world.filesystems → shown x ≡ Some y
      → part_of_filesystem nat_eq part names y ≡ Some y
  shown_again x y m e = cc (
    same_used world names,
    same_lowers world names,
    ⊎_elim (λ same. ap (λ b. cond b (Some y) (when (has_lower y.number) (part_of_lower nat_eq part names y)))
        (ap (λ (f : Filesystem ℕ). is_among nat_eq f.number used) (sym same.0) ∙ same.1))
        (λ low. ap (λ b. cond b (Some y) (when (has_lower y.number) (part_of_lower nat_eq part names y)))
        (ap (λ (f : Filesystem ℕ). is_among nat_eq f.number used) (sym low.0) ∙ low.1) ∙
        ap (λ b. when b (part_of_lower nat_eq part names y)) (ap (λ (f : Filesystem ℕ). has_lower f.number) (sym low.0)
        ∙ low.2) ∙ ap Some (subst (λ (f : Filesystem ℕ). part_of_lower nat_eq part names f ≡ f) low.0
        (lower_again x m low.1 low.2))) (shown_how world names x y e),
  )

  pub same_shown : filter_map (part_of_filesystem nat_eq part names) part.filesystems ≡ part.filesystems
  same_shown = search world.filesystems (λ x m. m)
    where
      search : (list : List (Filesystem ℕ)) → ((x : Filesystem ℕ) → Among x list → Among x world.filesystems)
          → filter_map (part_of_filesystem nat_eq part names) (filter_map shown list) ≡ filter_map shown list
      search [] all = refl
      search (x ∷ rest) all = by (shown x) refl (search rest (λ z m. all z (inr m)))
        where
          by : (o : Option (Filesystem ℕ)) → shown x ≡ o
              → filter_map (part_of_filesystem nat_eq part names) (filter_map shown rest) ≡ filter_map shown rest
              → filter_map (part_of_filesystem nat_eq part names) (cons_option o (filter_map shown rest))
              ≡ cons_option o (filter_map shown rest)
          by None e later = later
          by (Some y) e later = cc (shown_again x y (all x (inl refl)) e)

  pub same_mounts : filter_map (part_of_mount nat_eq part names) part.mounts ≡ part.mounts
  same_mounts = ap (λ tasks. filter_map (keep world names tasks) (filter_map (keep world names theirs) world.mounts))
      (same_members world names) ∙ kept_again (keep world names theirs) keeps_again world.mounts
    where
      keeps_again : (x y : Mount ℕ) → keep world names theirs x ≡ Some y → keep world names theirs y ≡ Some y
      keeps_again x y e = ⊎_elim (λ same. ap (keep world names theirs) (sym same) ∙ e)
          (λ stub. subst (λ z. keep world names theirs z ≡ Some z) stub.0 (ap (λ b. cond b (Some (seen_by_descriptor x))
          (when (is_at nat_eq (locations theirs) x) (seen_by_descriptor x))) stub.2
          ∙ ap (λ b. when b (seen_by_descriptor x)) stub.3)) (kept_how world names theirs x y e)

  same_masters : part_of_master nat_eq part names ≡ part_of_master nat_eq world names
  same_masters = grind (arith, common_steps, same_own)

  abbrev kept_namespaces : List (Task ℕ) → List (Namespace ℕ) → List (Namespace ℕ)
  kept_namespaces tasks list =
      filter (λ (n : Namespace ℕ). list_any (λ (task : Task ℕ). nat_eq n.number task.namespace) tasks) list

  pub same_namespaces : kept_namespaces (members part names) part.namespaces ≡ part.namespaces
  same_namespaces = ap (λ tasks. kept_namespaces tasks part.namespaces) (same_members world names)
      ∙ filter_again (λ (n : Namespace ℕ). list_any (λ (task : Task ℕ). nat_eq n.number task.namespace) theirs)
      world.namespaces

  pub part_again : part_of nat_eq part names ≡ part
  part_again = cc (same_mounts, same_masters, same_shown, same_namespaces, same_members world names)

pub part_of_the_part : PartOfAPart
part_of_the_part world names is = part_again world names is
