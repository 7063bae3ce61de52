-- How answers change: a cache says only what it was told.
use Rattle.std.specs.Prelude.{List, None, Option, Some, ℕ, ◌<◌, ◌≡◌, ◌⊎◌}
use Rattle.vt_location.specs.declared.locations.NodeRef.{NodeRef}
use Rattle.vt_names.specs.NamesValue.{KeptEntry, first_in_place, kept_first, others_than, said}

-- a look changes no answer
abbrev pub LooksChangeNoAnswer : Type 0
LooksChangeNoAnswer =
    (entries : List KeptEntry) (directory : NodeRef) (name : List ℕ) (other : NodeRef) (word : List ℕ)
    → said (first_in_place directory name entries) other word ≡ said entries other word

-- what was kept is answered, if anything may be kept
abbrev pub KeptNamesAreAnswered : Type 0
KeptNamesAreAnswered =
    (entries : List KeptEntry) (capacity : ℕ) (entry : KeptEntry) → 0 < capacity
    → said (kept_first capacity entry entries) entry.directory entry.name ≡ Some entry.node

-- each other answer is one of before
abbrev pub OtherAnswersWereThere : Type 0
OtherAnswersWereThere =
    (entries : List KeptEntry) (capacity : ℕ) (entry : KeptEntry) (other : NodeRef) (word : List ℕ)
    (node : Option NodeRef) → said (kept_first capacity entry entries) other word ≡ Some node
    → (record { directory = other; name = word; node = node } ≡ entry) ⊎ (said entries other word ≡ Some node)

-- what is forgotten is not answered
abbrev pub ForgottenNamesAreNotAnswered : Type 0
ForgottenNamesAreNotAnswered =
    (entries : List KeptEntry) (directory : NodeRef) (name : List ℕ)
    → said (others_than directory name entries) directory name ≡ None

-- then each answer is one of before
abbrev pub AnswersLeftWereThere : Type 0
AnswersLeftWereThere =
    (entries : List KeptEntry) (directory : NodeRef) (name : List ℕ) (other : NodeRef) (word : List ℕ)
    (node : Option NodeRef) → said (others_than directory name entries) other word ≡ Some node
    → said entries other word ≡ Some node
