-- What is made in the place of what leaves, in trees whose inodes count their uses and in trees.
use Rattle.std.proofs.Common.{All, ◌≡◌, ◌≢◌, ◌∙◌, ◌++◌, ◌∷◌, ◌||◌, [], ap, Bool, false, List, map, nat_eq, None, Option, refl, Some, true, ℕ}
use Rattle.vt_spec.proofs.Common.{AddName, All-cons, All-head, All-nil, All-push, All-tail, Change, Entries, FileTree, Inodes, Make, Node, Remove, changed, is_among, nat_eq_itself, or_right, pinned, tree_of, unpinned}
use Rattle.vt_spec.specs.Inodes as counting
use Rattle.vt_spec.specs.Lists.{folded}
use Rattle.vt_upper.specs.Leaving.{freed, freed_once, going, gone_from, let_go, made_over}
use Rattle.vt_upper.specs.Linking.{linked_over}
use Rattle.vt_upper.proofs.RowsAlike.{AreAlike, change_alike, less_alike, used_alike}
use Rattle.vt_upper.proofs.RowsEmptied.{removing}

pub folded-both : {A B : Type 0} (add : B → A → B) (xs ys : List A) (b : B)
    → folded add (folded add b xs) ys ≡ folded add b (xs ++ ys)
folded-both add [] ys b = refl
folded-both add (x ∷ xs) ys b = folded-both add xs ys (add b x)

-- what leaves, and what is in it
abbrev pub goes_with : Option ℕ → Entries ℕ → ℕ → Bool
goes_with None within m = false
goes_with (Some had) within m = nat_eq m had || is_among nat_eq m (map (λ entry. entry.1) within)

-- the row of their names
abbrev pub freeing_row : ℕ → List ℕ → Option ℕ → Entries ℕ → List (Change ℕ)
freeing_row d name None within = []
freeing_row d name (Some had) within = removing had within ++ (Remove d name had ∷ [])

abbrev pub Gone : (ℕ → Bool) → ℕ → Type 0
Gone gone n = gone n ≡ true

module _ (gone : ℕ → Bool) where
  once_alike : (d : ℕ) (entry : List ℕ × ℕ) (inodes : Inodes ℕ) (files : FileTree ℕ) → gone entry.1 ≡ true
      → AreAlike gone (tree_of inodes) files.tree
      → AreAlike gone (tree_of (freed_once d inodes entry)) (changed nat_eq files (Remove d entry.0 entry.1)).tree
  once_alike d entry inodes files goes same =
      change_alike gone (pinned nat_eq inodes entry.1) files (Remove d entry.0 entry.1) goes
      (used_alike gone inodes files same entry.1)

  each_alike : (d : ℕ) (es : Entries ℕ) (inodes : Inodes ℕ) (files : FileTree ℕ)
      → ((k : ℕ) → is_among nat_eq k (map (λ entry. entry.1) es) ≡ true → gone k ≡ true)
      → AreAlike gone (tree_of inodes) files.tree
      → AreAlike gone (tree_of (folded (freed_once d) inodes es)) (folded (changed nat_eq) files (removing d es)).tree
  each_alike d [] inodes files goes same = same
  each_alike d (e ∷ es) inodes files goes same =
      each_alike d es (freed_once d inodes e) (changed nat_eq files (Remove d e.0 e.1))
      (λ k f. goes k (or_right (nat_eq k e.1) (is_among nat_eq k (map (λ entry. entry.1) es)) f))
      (once_alike d e inodes files
      (goes e.1 (ap (λ b. b || is_among nat_eq e.1 (map (λ entry. entry.1) es)) (nat_eq_itself e.1))) same)

  pub let_go_alike : (held : List ℕ) (inodes : Inodes ℕ) (files : FileTree ℕ) → All (Gone gone) held
      → AreAlike gone (tree_of inodes) files.tree → AreAlike gone (tree_of (let_go held inodes)) files.tree
  let_go_alike [] inodes files goes same = same
  let_go_alike (n ∷ rest) inodes files goes same = let_go_alike rest (unpinned nat_eq inodes n) files
      (All-tail (Gone gone) n rest goes) (less_alike gone inodes files same n (All-head (Gone gone) n rest goes))

module _ (d : ℕ) (name : List ℕ) (had : Option ℕ) (within : Entries ℕ) (inodes : Inodes ℕ) (files : FileTree ℕ)
    (same : AreAlike (goes_with had within) (tree_of inodes) files.tree) where
  abbrev gone : ℕ → Bool
  gone = goes_with had within

  abbrev row : List (Change ℕ)
  row = freeing_row d name had within

  pub freed_alike : AreAlike gone (tree_of (freed d name had within inodes)) (folded (changed nat_eq) files row).tree
  freed_alike = by had same
    where
      by : (had : Option ℕ) → AreAlike (goes_with had within) (tree_of inodes) files.tree
          → AreAlike (goes_with had within) (tree_of (freed d name had within inodes))
          (folded (changed nat_eq) files (freeing_row d name had within)).tree
      by None same = same
      by (Some h) same = λ m stays.
          once_alike (goes_with (Some h) within) d (name, h) (folded (freed_once h) inodes within)
          (folded (changed nat_eq) files (removing h within))
          (ap (λ b. b || is_among nat_eq h (map (λ entry. entry.1) within)) (nat_eq_itself h))
          (each_alike (goes_with (Some h) within) h within inodes files
          (λ k f. or_right (nat_eq k h) (is_among nat_eq k (map (λ entry. entry.1) within)) f) same) m stays
          ∙ ap (λ (f : FileTree ℕ). f.tree.node m)
          (folded-both (changed nat_eq) (removing h within) (Remove d name h ∷ []) files)

  pub all_gone : (kept : Bool) → All (Gone gone) (going kept had within)
  all_gone kept = by had
    where
      among : (h : ℕ) (es : Entries ℕ)
          → ((k : ℕ) → is_among nat_eq k (map (λ entry. entry.1) es) ≡ true → goes_with (Some h) within k ≡ true)
          → All (Gone (goes_with (Some h) within)) (map (λ entry. entry.1) es)
      among h [] goes = All-nil (Gone (goes_with (Some h) within))
      among h (e ∷ es) goes = All-cons (Gone (goes_with (Some h) within)) e.1 (map (λ entry. entry.1) es)
          (goes e.1 (ap (λ b. b || is_among nat_eq e.1 (map (λ entry. entry.1) es)) (nat_eq_itself e.1)))
          (among h es (λ k f. goes k (or_right (nat_eq k e.1) (is_among nat_eq k (map (λ entry. entry.1) es)) f)))

      all_in : (h : ℕ) → All (Gone (goes_with (Some h) within)) (map (λ entry. entry.1) within)
      all_in h = among h within (λ k f. or_right (nat_eq k h) (is_among nat_eq k (map (λ entry. entry.1) within)) f)

      each : (h : ℕ) (b : Bool) → All (Gone (goes_with (Some h) within)) (going b (Some h) within)
      each h true = all_in h
      each h false = All-push (Gone (goes_with (Some h) within)) (map (λ entry. entry.1) within) h (all_in h)
          (ap (λ b. b || is_among nat_eq h (map (λ entry. entry.1) within)) (nat_eq_itself h))

      by : (had : Option ℕ) → All (Gone (goes_with had within)) (going kept had within)
      by None = All-nil (Gone (goes_with None within))
      by (Some h) = each h kept

  -- nothing is made
  pub gone_alike_all : (kept : Bool)
      → AreAlike gone (tree_of (gone_from kept name had within d inodes)) (folded (changed nat_eq) files row).tree
  gone_alike_all kept = let_go_alike gone (going kept had within) (freed d name had within inodes)
      (folded (changed nat_eq) files row) (all_gone kept) freed_alike

  -- an inode is made
  pub made_alike_all : (kept : Bool) (number : ℕ) (node : Node ℕ) → d ≢ number
      → AreAlike gone (tree_of (made_over kept name node had within d number inodes))
      (folded (changed nat_eq) files (row ++ (Make d name number node ∷ []))).tree
  made_alike_all kept number node apart m stays =
      let_go_alike gone (going kept had within)
      (counting.changed nat_eq (freed d name had within inodes) (Make d name number node))
      (changed nat_eq (folded (changed nat_eq) files row) (Make d name number node)) (all_gone kept)
      (change_alike gone (freed d name had within inodes) (folded (changed nat_eq) files row) (Make d name number node) apart
      freed_alike) m stays
      ∙ ap (λ (f : FileTree ℕ). f.tree.node m) (folded-both (changed nat_eq) row (Make d name number node ∷ []) files)

  -- an inode that is there gets the name
  pub linked_alike_all : (kept : Bool) (number : ℕ)
      → AreAlike gone (tree_of (linked_over kept name had within d number inodes))
      (folded (changed nat_eq) files (row ++ (AddName d name number ∷ []))).tree
  linked_alike_all kept number m stays =
      let_go_alike gone (going kept had within)
      (counting.changed nat_eq (freed d name had within inodes) (AddName d name number))
      (changed nat_eq (folded (changed nat_eq) files row) (AddName d name number)) (all_gone kept)
      (change_alike gone (freed d name had within inodes) (folded (changed nat_eq) files row) (AddName d name number) tt
      freed_alike) m stays
      ∙ ap (λ (f : FileTree ℕ). f.tree.node m) (folded-both (changed nat_eq) row (AddName d name number ∷ []) files)
