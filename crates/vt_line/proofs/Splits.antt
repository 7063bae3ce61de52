-- Loops over a split, and what is read of each part.
use Rattle.std.proofs.Common.{◌≡◌, ℕ, suc, eqb, ◌+◌, ◌≤◌, ◌<◌, get_or, List, [], ◌∷◌, length, drop, Option, None, Some, Result, Ok, Err, IfSome, OnErr, is_some, true, refl, subst, sym, ap, ◌∙◌, arith}
use Rattle.vt_spec.proofs.Common.{at_drop_all, at_drop_more, each_of, parts, with_first}
use Rattle.std.proofs.lemmas.Iterator.{YieldsList}
use Rattle.std.proofs.lemmas.Iterator.Adapters.{YieldsList-from_skip}
use Rattle.std.specs.Iterator.Adapters.{skip_source, skip_count, skip_steps}
use Rattle.std.specs.declared.iter.Skip.{Skip}
use Rattle.std.specs.List.{slice_split}
use Rattle.vt_line.proofs.TokenLemmas.{parts-split}

-- a split yields the parts
pub YieldsList-parts :
    {S A : Type 0} {steps : S → Option A → S → Type 0} {v : A → List ℕ} {s : S} (separator : ℕ) (text : List ℕ)
    → YieldsList steps v s (slice_split (λ byte. eqb byte separator) text) → YieldsList steps v s (parts separator text)
YieldsList-parts separator text road = rw parts-split road

-- after its first item, an iterator yields the others
pub YieldsList-others :
    {S A B : Type 0} {steps : S → Option A → S → Type 0} {v : A → B} {s : S} (all : List B) → YieldsList steps v s all
    → (r : Option A) (t : S) (x : A) → r ≡ Some x → steps s r t
    → (all ≡ v x ∷ drop 1 all) × YieldsList steps v t (drop 1 all)
YieldsList-others {steps = steps} {s = s} [] road r t x e step =
    let given : steps s (Some x) t = rw e at step in
    absurd (road.runs x t given)
YieldsList-others {steps = steps} {s = s} (y ∷ ys) road r t x e step =
    let given : steps s (Some x) t = rw e at step in
    let after = road.runs.1 x t given in
    (ap (λ first. first ∷ ys) (sym after.0), record { runs = after.1 })

-- an iterator that skips its first item yields the others
pub YieldsList-skipped :
    {S A B : Type 0} {steps : S → Option A → S → Type 0} {v : A → B} {s : Skip S} (inner : S) (all : List B)
    → YieldsList steps v inner all
    → skip_source s ≡ inner → skip_count s ≡ 1 → YieldsList (skip_steps steps) v s (drop 1 all)
YieldsList-skipped {steps = steps} {v = v} inner all road e count =
    YieldsList-from_skip 1 (subst (λ inner. YieldsList steps v inner all) (sym e) road) count

-- one part more, and the end
pub each_of-more :
    {A B : Type 0} (read : A → Option B) (xs : List A) (n : ℕ) (x : A) → (n < length xs) × (x ≡ get_or xs n x)
    → each_of read (drop n xs) ≡ with_first (read x) (each_of read (drop (n + 1) xs))
each_of-more read xs n x h = at_drop_more (each_of read) xs n x h.0
    ∙ ap (λ first. with_first (read first) (each_of read (drop (n + 1) xs))) (sym h.1)

pub each_of-end : {A B : Type 0} (read : A → Option B) (xs : List A) (n : ℕ) → length xs ≤ n
    → each_of read (drop n xs) ≡ Some []
each_of-end read xs n h = at_drop_all (each_of read) xs n h

pub each_of-none : {A B : Type 0} (read : A → Option B) (xs : List A) (n : ℕ) (x : A)
    → (n < length xs) × (x ≡ get_or xs n x) → read x ≡ None → each_of read (drop n xs) ≡ None
each_of-none read xs n x h e = each_of-more read xs n x h
    ∙ ap (λ first. with_first first (each_of read (drop (n + 1) xs))) e

-- whether all can be read, by one that can
some_first : {A : Type 0} (a : Option A) (rest : Option (List A)) → is_some a ≡ true
    → is_some (with_first a rest) ≡ is_some rest
some_first None rest e = cc
some_first (Some a) None e = refl
some_first (Some a) (Some rest) e = refl

pub each_of-goes : {A B : Type 0} (read : A → Option B) (xs : List A) (n : ℕ) (x : A)
    → (n < length xs) × (x ≡ get_or xs n x) → is_some (read x) ≡ true
    → is_some (each_of read (drop n xs)) ≡ is_some (each_of read (drop (n + 1) xs))
each_of-goes read xs n x h e =
    ap is_some (each_of-more read xs n x h) ∙ some_first (read x) (each_of read (drop (n + 1) xs)) e

-- all that were read are as many
first-length : {A : Type 0} (a : Option A) (rest : Option (List A)) (all : List A) → with_first a rest ≡ Some all
    → (one : A) × (others : List A) × (rest ≡ Some others) × (all ≡ one ∷ others)
first-length None rest all e = cc
first-length (Some a) None all e = cc
first-length (Some a) (Some others) all e = (a, others, refl, cc)

pub each_of-length : {A B : Type 0} (read : A → Option B) (xs : List A) (ys : List B) → each_of read xs ≡ Some ys
    → length ys ≡ length xs
each_of-length read [] [] e = refl
each_of-length read [] (y ∷ ys) e = cc
each_of-length read (x ∷ xs) ys e =
    let parts = first-length (read x) (each_of read xs) ys e in
    ap length parts.3 ∙ ap suc (each_of-length read xs parts.1 parts.2)

pub long_enough : {A B : Type 0} (read : A → Option B) (xs : List A) (most : ℕ) (all : Option (List B))
    → all ≡ each_of read xs → most < length xs → IfSome all (λ all. most < length all)
long_enough read xs most None e h = tt
long_enough read xs most (Some all) e h = let same = each_of-length read xs all (sym e) in omega arith

pub on_err : {A E : Type 0} {P : Type 0} (r : Result A E) → P → OnErr r P
on_err (Ok a) h = tt
on_err (Err e) h = h
