-- How answers change.
use Rattle.std.proofs.Common.{Bool, List, None, Option, Some, [], ap, cond, false, filter, inl, inr, nat_eq, not, refl, suc, sym, take, true, zero, ℕ, ◌&&◌, ◌∙◌, ◌∷◌, ◌≡◌, ◌⊎◌}
use Rattle.std.specs.Cmp.Lexicographic.{same_text}
use Rattle.std.specs.List.{find}
use Rattle.std.specs.Option.{option_map, option_or}
use Rattle.std.proofs.lemmas.List.Folds.{find-append}
use Rattle.std.proofs.lemmas.Option.{same_Some}
use Rattle.vt_spec.proofs.Common.{and_true_left, and_true_right, nat_eq_itself}
use Rattle.vt_location.specs.SameNodes.{same_node}
use Rattle.vt_location.specs.declared.locations.NodeRef.{NodeRef}
use Rattle.vt_location.proofs.NodeLemmas.{same_node-itself}
use Rattle.vt_names.specs.Answers.{AnswersLeftWereThere, ForgottenNamesAreNotAnswered, LooksChangeNoAnswer, OtherAnswersWereThere}
use Rattle.vt_names.specs.NamesValue.{KeptEntry, digest, is_in_place_of, is_of, others_than, said}
use Rattle.vt_names.proofs.Filtered.{find-filter}
use Rattle.vt_names.proofs.Nodes.{one_node}

-- an entry of a name has its directory and its text
pub directory_of-name : (directory : NodeRef) (name : List ℕ) (entry : KeptEntry) → is_of directory name entry ≡ true
    → directory ≡ entry.directory
directory_of-name directory name entry is =
    one_node directory entry.directory (and_true_left (same_node directory entry.directory) _ is)

pub text_of-name : (directory : NodeRef) (name : List ℕ) (entry : KeptEntry) → is_of directory name entry ≡ true
    → name ≡ entry.name
text_of-name directory name entry is =
    same_text name entry.name (sym (and_true_right (same_node directory entry.directory) _ is))

-- so it is in the place of another name, or it is not
abbrev shares_place : NodeRef → List ℕ → NodeRef → List ℕ → Bool
shares_place directory name other word = same_node directory other && nat_eq (digest name) (digest word)

place-of : (directory : NodeRef) (name : List ℕ) (other : NodeRef) (word : List ℕ) (entry : KeptEntry)
    → is_of other word entry ≡ true → is_in_place_of directory name entry ≡ shares_place directory name other word
place-of directory name other word entry is = (λ i. same_node directory (sym (directory_of-name other word entry is) i)
    && nat_eq (digest name) (digest (sym (text_of-name other word entry is) i)))

pub own_place : (directory : NodeRef) (name : List ℕ) → shares_place directory name directory name ≡ true
own_place directory name = (λ i. same_node-itself directory i && nat_eq_itself (digest name) i)

-- what is found among those in a place, and among the others
module _ (entries : List KeptEntry) (directory : NodeRef) (name : List ℕ) (other : NodeRef) (word : List ℕ) where
  abbrev shares : Bool
  shares = shares_place directory name other word

  find_in_place : find (is_of other word) (filter (is_in_place_of directory name) entries)
      ≡ cond shares (find (is_of other word) entries) None
  find_in_place = find-filter (is_of other word) (is_in_place_of directory name) shares entries
      (place-of directory name other word)

  find_among_others : find (is_of other word) (others_than directory name entries)
      ≡ cond (not shares) (find (is_of other word) entries) None
  find_among_others = find-filter (is_of other word) (λ entry. not (is_in_place_of directory name entry))
      (not shares) entries (λ entry is. ap not (place-of directory name other word entry is))

or_none : {A : Type 0} (found : Option A) → option_or found None ≡ found
or_none None = refl
or_none (Some a) = refl

both : {A : Type 0} (b : Bool) (found : Option A) → option_or (cond b found None) (cond (not b) found None) ≡ found
both true found = or_none found
both false found = refl

pub no_answer_changes : LooksChangeNoAnswer
no_answer_changes entries directory name other word = ap (option_map (λ entry. entry.node))
    (find-append (is_of other word) (filter (is_in_place_of directory name) entries)
    (others_than directory name entries)
    ∙ (λ i. option_or (find_in_place entries directory name other word i)
    (find_among_others entries directory name other word i))
    ∙ both (shares_place directory name other word) (find (is_of other word) entries))

pub not_answered : ForgottenNamesAreNotAnswered
not_answered entries directory name = ap (option_map (λ entry. entry.node))
    (find_among_others entries directory name directory name
    ∙ ap (λ b. cond (not b) (find (is_of directory name) entries) None) (own_place directory name))

pub left_were_there : AnswersLeftWereThere
left_were_there entries directory name other word node is =
    by (not (shares_place directory name other word))
    (sym (ap (option_map (λ entry. entry.node)) (find_among_others entries directory name other word)) ∙ is)
  where
    by : (b : Bool) → option_map (λ entry. entry.node) (cond b (find (is_of other word) entries) None) ≡ Some node
        → said entries other word ≡ Some node
    by true was = was
    by false none = cc

-- what is answered by the first so many
said_take : (n : ℕ) (entries : List KeptEntry) (other : NodeRef) (word : List ℕ) (node : Option NodeRef)
    → said (take n entries) other word ≡ Some node → said entries other word ≡ Some node
said_take zero entries other word led is = cc
said_take (suc n) [] other word led is = is
said_take (suc n) (entry ∷ entries) other word node is =
    by (is_of other word entry) is (said_take n entries other word node)
  where
    by : (b : Bool)
        → option_map (λ entry. entry.node) (cond b (Some entry) (find (is_of other word) (take n entries))) ≡ Some node
        → (said (take n entries) other word ≡ Some node → said entries other word ≡ Some node)
        → option_map (λ entry. entry.node) (cond b (Some entry) (find (is_of other word) entries)) ≡ Some node
    by true was rest = was
    by false was rest = rest was

pub others_were_there : OtherAnswersWereThere
others_were_there entries zero entry other word led is = cc
others_were_there entries (suc n) entry other word node is = by (is_of other word entry) refl is
  where
    by : (b : Bool) → is_of other word entry ≡ b → option_map (λ entry. entry.node)
        (cond b (Some entry) (find (is_of other word) (take n (others_than entry.directory entry.name entries))))
        ≡ Some node
        → (record { directory = other; name = word; node = node } ≡ entry) ⊎ (said entries other word ≡ Some node)
    by true of was = inl (λ i. record {
      directory = directory_of-name other word entry of i;
      name = text_of-name other word entry of i;
      node = sym (same_Some entry.node node was) i;
    })
    by false of was = inr (left_were_there entries entry.directory entry.name other word node
        (said_take n (others_than entry.directory entry.name entries) other word node was))
