-- Pieces of plans, and of the fork of both: how many there are, and what is said of the last one.
use Rattle.std.proofs.Common.{◌≡◌, ◌∙◌, ◌<◌, ◌≤◌, ◌∷◌, ◌++◌, [], arith, ap, false, length, List, None, Option, refl, reverse, true, ℕ}
use Rattle.std.proofs.lemmas.List.{length-append}
use Rattle.vt_spec.proofs.Common.{Inodes, IsDirectory, Node, length-reverse, tree_of}
use Rattle.vt_copyup.specs.declared.forks.Fork.{Fork}
use Rattle.vt_copyup.specs.declared.plans.Piece.{Piece}
use Rattle.vt_copyup.specs.declared.plans.Plan.{Plan}
use Rattle.vt_copyup.specs.Forks.{IsForkOf, all_in, pieces_in}
use Rattle.vt_copyup.specs.Planned.{names_of}
use Rattle.vt_copyup.specs.Plans.{AreNested, many}
use Rattle.vt_fs.specs.FilesystemsValue.{Filesystems}
use Rattle.vt_laws_worlds.specs.Seen.CopySteps.{Copy}
use Rattle.vt_upper.specs.Copies.{IsLastOf}
use Rattle.vt_upper.proofs.CopiesBeside.{Opens}
use Rattle.vt_upper.proofs.LinksFound.{IsADirectory}

pub both_nil : (xs ys : List Piece) → xs ++ ys ≡ [] → (xs ≡ []) × (ys ≡ [])
both_nil [] ys none = (refl, none)
both_nil (x ∷ xs) ys none = absurd cc

pub names_nil : (xs : List Piece) → names_of xs ≡ [] → xs ≡ []
names_nil [] none = refl
names_nil (x ∷ xs) none = absurd cc

pub items_nil : (xs : List Piece) → reverse xs ≡ [] → length xs ≡ 0
items_nil xs none =
    let long = length-reverse xs in let zero = ap length none in omega (arith, long, zero)

pub same_long : (xs ys : List Piece) → names_of xs ≡ names_of ys → length xs ≡ length ys
same_long [] [] same = refl
same_long [] (y ∷ ys) same = absurd cc
same_long (x ∷ xs) [] same = absurd cc
same_long (x ∷ xs) (y ∷ ys) same =
    let rest : names_of xs ≡ names_of ys = cc in
    let more = same_long xs ys rest in omega (arith, more)

-- what is said of the last of some copies is said of it where they end
any_last : (IsCopied IsThere : Option (Node ℕ) → Type 0) (ys : List Piece) (n m : Option (Node ℕ)) → 0 < length ys
    → IsLastOf IsCopied IsThere ys n → IsLastOf IsCopied IsThere ys m
any_last IsCopied IsThere [] n m some is = absurd (let no : ⊥ = omega (arith, some) in no)
any_last IsCopied IsThere (y ∷ []) n m some is = is
any_last IsCopied IsThere (y ∷ next ∷ ys) n m some is = any_last IsCopied IsThere (next ∷ ys) n m (omega arith) is

pub last_back : (IsCopied IsThere : Option (Node ℕ) → Type 0) (xs ys : List Piece) (n m : Option (Node ℕ)) → 0 < length ys
    → IsLastOf IsCopied IsThere (xs ++ ys) n → IsLastOf IsCopied IsThere ys m
last_back IsCopied IsThere [] ys n m some is = any_last IsCopied IsThere ys n m some is
last_back IsCopied IsThere (x ∷ []) [] n m some is = absurd (let no : ⊥ = omega (arith, some) in no)
last_back IsCopied IsThere (x ∷ []) (y ∷ ys) n m some is = any_last IsCopied IsThere (y ∷ ys) n m some is
last_back IsCopied IsThere (x ∷ next ∷ xs) ys n m some is =
    last_back IsCopied IsThere (next ∷ xs) ys n m some is

-- nested copies before others end in a directory
pub last_front : (xs ys : List Piece) → 0 < length xs → 0 < length ys → AreNested (xs ++ ys)
    → IsLastOf IsADirectory (λ node. false ≡ true) xs None
last_front [] ys some more nested = absurd (let no : ⊥ = omega (arith, some) in no)
last_front (x ∷ []) [] some more nested = absurd (let no : ⊥ = omega (arith, more) in no)
last_front (x ∷ []) (y ∷ ys) some more nested = nested.0
last_front (x ∷ next ∷ xs) ys some more nested = last_front (next ∷ xs) ys (omega arith) more nested.2

pub open_there : (inodes : Inodes ℕ) (d : ℕ) (copies : List Copy) → 0 < length copies → Opens inodes d copies
    → IsDirectory (tree_of inodes) d
open_there inodes d [] some opens = absurd (let no : ⊥ = omega (arith, some) in no)
open_there inodes d (copy ∷ copies) some opens = opens.0

-- each plan has no more copies than the fork
pub few_of : (trees : Filesystems) (first second : Plan) (fork : Fork) → IsForkOf trees first second fork
    → (many first ≤ all_in fork) × (many second ≤ all_in fork)
few_of trees first second fork forked =
    let a = length-reverse fork.shared.pieces.items in
    let b = length-reverse fork.first.pieces.items in
    let c = length-reverse fork.second.pieces.items in
    let one = length-reverse first.pieces.items in
    let two = length-reverse second.pieces.items in
    let first_is = ap length forked.first_is ∙ length-append (pieces_in fork.shared) (pieces_in fork.first) in
    let second_is = ap length forked.second_is ∙ length-append forked.twice (pieces_in fork.second) in
    let same = same_long forked.twice (pieces_in fork.shared) forked.same in
    (omega (arith, a, b, one, first_is), omega (arith, a, c, two, second_is, same))
