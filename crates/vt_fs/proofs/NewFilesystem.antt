-- What the definitions see of a new filesystem.
use Rattle.std.proofs.Common.{◌≡◌, refl, sym, ap, ◌∙◌, true≢false, ℕ, nat_eq, eq-eqb, eqb-true, Bool, true, false, ◌||◌, List, [], ◌∷◌, length, Some, None, is_some, if◌then◌else◌}
use Rattle.vt_spec.proofs.Common.{Inodes, is_among, new_directory, node_in, one_directory, tree_of}
use Rattle.vt_spec.specs.declared.attributes.Attr.{Attr}
use Rattle.vt_spec.specs.Tree.{tree_of_root}
use Rattle.vt_location.specs.Numbers.{counted, inode_number}
use Rattle.vt_fs.specs.FilesystemsValue.{FilesystemEntry, filesystem_seen, inodes_seen, new_filesystem, numbers_seen}
use Rattle.vt_fs.proofs.Numbers.{numbers_counted, numbers_listed}

-- a list of one number that has this one
pub only_one : (n : ℕ) (list : List ℕ) → length list ≡ 1 → is_among nat_eq n list ≡ true → list ≡ n ∷ []
only_one n [] one among = absurd (true≢false (sym among))
only_one n (a ∷ []) one among = by (nat_eq n a) refl among
  where
    by : (b : Bool) → nat_eq n a ≡ b → (b || false) ≡ true → a ∷ [] ≡ n ∷ []
    by true e among = λ i. sym (eqb-true n a e) i ∷ []
    by false e among = absurd (true≢false (sym among))
only_one n (a ∷ b ∷ rest) one among = absurd cc

module _ (root : ℕ) (attr : Attr) where
  node_of_root : (b : Bool)
      → node_in (if b then Some (record { node = record { attr = attr; content = new_directory root }; uses = 1 })
      else None) ≡ (if b then Some (record { attr = attr; content = new_directory root }) else None)
  node_of_root true = refl
  node_of_root false = refl

  tree_of_one : tree_of (one_directory nat_eq root attr) ≡ tree_of_root nat_eq root attr
  tree_of_one = λ i. record { root = root; node = λ other. node_of_root (nat_eq other root) i }

pub new_seen : (entry : FilesystemEntry) (count : ℕ) (attr : Attr) → entry.count ≡ count
    → inodes_seen entry ≡ one_directory nat_eq (inode_number count 0) attr
    → filesystem_seen entry ≡ new_filesystem count attr
new_seen entry count attr counts inodes =
    let root = inode_number count 0 in
    let there : is_among nat_eq root (numbers_seen entry) ≡ true =
    numbers_listed entry root ∙ ap (λ (all : Inodes ℕ). is_some ((tree_of all).node root)) inodes
    ∙ ap (λ b. is_some (node_in (if b
    then Some (record { node = record { attr = attr; content = new_directory root }; uses = 1 }) else None)))
    (eq-eqb root root refl) in
    let numbers = only_one root (numbers_seen entry)
    (numbers_counted entry ∙ ap (λ (all : Inodes ℕ). all.count) inodes) there in
    let tree = ap tree_of inodes ∙ tree_of_one root attr in
    λ i. record {
      number = counted (counts i);
      files = record { tree = tree i; numbers = numbers i };
      overlay = None;
      change = 0;
    }
