-- Words on lists and options that the definitions share.
use Rattle.std.specs.Prelude.{Bool, List, None, Option, Some, [], false, filter, if◌then◌else◌, map, not, suc, take_while, true, zero, ℕ, ◌&&◌, ◌*◌, ◌+◌, ◌||◌, ◌∷◌}
use Rattle.std.specs.List.{list_any}

-- what comes after a value, if it exists
abbrev pub then_some : {A B : Type 0} → Option A → (A → Option B) → Option B
then_some None next = None
then_some (Some a) next = next a

-- the first value that exists
abbrev pub or_else : {A : Type 0} → Option A → Option A → Option A
or_else (Some a) other = Some a
or_else None other = other

-- a value, if the condition holds
abbrev pub when : {A : Type 0} → Bool → A → Option A
when true a = Some a
when false a = None

-- a value exists and passes
abbrev pub holds_of : {A : Type 0} → (A → Bool) → Option A → Bool
holds_of test None = false
holds_of test (Some a) = test a

-- an element of the list equals this one
abbrev pub is_among : {A : Type 0} → (A → A → Bool) → A → List A → Bool
is_among eq a list = list_any (eq a) list

-- the list without its last
abbrev pub without_last : {A : Type 0} → List A → List A
without_last [] = []
without_last (a ∷ []) = []
without_last (a ∷ b ∷ rest) = a ∷ without_last (b ∷ rest)

-- the last element, or a given one where there is none
abbrev pub last_or : {A : Type 0} → A → List A → A
last_or default [] = default
last_or default (a ∷ rest) = last_or a rest

-- the first element, if there is one
abbrev pub first_of_list : {A : Type 0} → List A → Option A
first_of_list [] = None
first_of_list (a ∷ rest) = Some a

-- the list without its first
abbrev pub rest_of : {A : Type 0} → List A → List A
rest_of [] = []
rest_of (a ∷ rest) = rest

-- the non-empty prefixes of a list, the shortest first
abbrev pub prefixes : {A : Type 0} → List A → List (List A)
prefixes [] = []
prefixes (a ∷ rest) = (a ∷ []) ∷ map (λ prefix. a ∷ prefix) (prefixes rest)

-- each with its place in the list, from a number on
abbrev pub counted_from : {A : Type 0} → ℕ → List A → List (ℕ × A)
counted_from k [] = []
counted_from k (a ∷ rest) = (k, a) ∷ counted_from (k + 1) rest

-- the index of the first that passes, counted from a number on
abbrev pub index_from : {A : Type 0} → (A → Bool) → ℕ → List A → Option ℕ
index_from test k [] = None
index_from test k (a ∷ rest) = if test a then Some k else index_from test (k + 1) rest

-- some two of the list pass
abbrev pub any_pair : {A : Type 0} → (A → A → Bool) → List A → Bool
any_pair test [] = false
any_pair test (a ∷ rest) = list_any (test a) rest || any_pair test rest

-- the list without repetitions
abbrev pub each_once : {A : Type 0} → (A → A → Bool) → List A → List A
each_once eq [] = []
each_once eq (a ∷ rest) = a ∷ filter (λ b. not (eq a b)) (each_once eq rest)

-- the elements before the first that passes
abbrev pub before_first : {A : Type 0} → (A → Bool) → List A → List A
before_first test list = take_while (λ a. not (test a)) list

-- the elements added one by one, from the first on
abbrev pub folded : {A B : Type 0} → (B → A → B) → B → List A → B
folded add b [] = b
folded add b (a ∷ rest) = folded add (add b a) rest

-- a start and what follows it step by step, at most so many steps
abbrev pub chain : {A : Type 0} → ℕ → (A → Option A) → A → List A
chain zero next a = a ∷ []
chain (suc most) next a = elim (next a) [ None ↦ a ∷ [] | Some b ↦ a ∷ chain most next b ]

-- no element
abbrev pub is_empty_list : {A : Type 0} → List A → Bool
is_empty_list [] = true
is_empty_list (a ∷ rest) = false

-- both exist and are equal, or neither exists
abbrev pub same_option : {A : Type 0} → (A → A → Bool) → Option A → Option A → Bool
same_option eq None None = true
same_option eq None (Some b) = false
same_option eq (Some a) None = false
same_option eq (Some a) (Some b) = eq a b

-- equal elements in the same order
abbrev pub same_list : {A : Type 0} → (A → A → Bool) → List A → List A → Bool
same_list eq [] [] = true
same_list eq [] (b ∷ bs) = false
same_list eq (a ∷ as_list) [] = false
same_list eq (a ∷ as_list) (b ∷ bs) = eq a b && same_list eq as_list bs

-- a supply of new numbers, of which each call takes as many as it needs
abbrev pub Fresh : Type 0 → Type 0
Fresh N = ℕ → N

-- two supplies out of one

-- the numbers at even places
abbrev pub evens : {N : Type 0} → Fresh N → Fresh N
evens fresh k = fresh (2 * k)

-- the numbers at odd places
abbrev pub odds : {N : Type 0} → Fresh N → Fresh N
odds fresh k = fresh (2 * k + 1)
