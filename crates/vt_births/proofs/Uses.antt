-- The uses of nodes where one is put in, is counted, or goes.
use Rattle.std.proofs.Common.{◌≡◌, ◌<◌, ℕ, Bool, true, false, cond, List, Option, None, Some, ap, is_some, lt-ltb, nat_lt, refl, sym, true≢false, unwrap_or, ◌∙◌}
use Rattle.std.specs.List.{list_any}
use Rattle.std.specs.Map.{keys_of, lookup}
use Rattle.std.proofs.lemmas.Map.Made.{is_some-lookup}
use Rattle.vt_location.specs.declared.locations.NodeRef.{NodeRef}
use Rattle.vt_location.specs.SameNodes.{same_node}
use Rattle.vt_births.proofs.Nodes.{same_node-is}

abbrev pub Uses : Type 0
Uses = List (NodeRef × ℕ)

-- what a node has, and how many uses that is
abbrev pub found : Uses → NodeRef → Option ℕ
found uses node = lookup (same_node node) uses

abbrev pub count : Uses → NodeRef → ℕ
count uses node = unwrap_or (found uses node) 0

-- what is there has uses
abbrev pub AreUsed : Uses → Type 0
AreUsed uses = (node : NodeRef) (n : ℕ) → found uses node ≡ Some n → 0 < n

-- one node has something else, and all others what they had
abbrev pub IsUpdated : NodeRef → Option ℕ → Uses → Uses → Type 0
IsUpdated node w old new = (q : NodeRef) → found new q ≡ cond (same_node node q) w (found old q)

-- the same node has the same
same_found : (uses : Uses) (node q : NodeRef) (r : Option ℕ) → same_node node q ≡ true → found uses node ≡ r
    → found uses q ≡ r
same_found uses node q r same is = ap (found uses) (sym (same_node-is node q same)) ∙ is

-- the counts after a change of one by a function, of which its old count and its new one are an instance
pub count-updated : (node : NodeRef) (o w : Option ℕ) (change : ℕ → ℕ) (old new : Uses) → found old node ≡ o
    → unwrap_or w 0 ≡ change (unwrap_or o 0) → IsUpdated node w old new → (q : NodeRef)
    → count new q ≡ cond (same_node node q) (change (count old q)) (count old q)
count-updated node o w change old new there is updated q =
    ap (λ r. unwrap_or r 0) (updated q) ∙ by (same_node node q) refl
  where
    by : (test : Bool) → same_node node q ≡ test
        → unwrap_or (cond test w (found old q)) 0 ≡ cond test (change (count old q)) (count old q)
    by true e = is ∙ ap (λ r. change (unwrap_or r 0)) (sym (same_found old node q o e there))
    by false e = refl

-- two updates of one node are the second
pub updated-twice : (node : NodeRef) (v w : Option ℕ) (old mid new : Uses) → IsUpdated node v old mid
    → IsUpdated node w mid new → IsUpdated node w old new
updated-twice node v w old mid new first second q =
    second q ∙ ap (λ r. cond (same_node node q) w r) (first q) ∙ by (same_node node q)
  where
    by : (test : Bool) → cond test w (cond test v (found old q)) ≡ cond test w (found old q)
    by true = refl
    by false = refl

-- a node is there just if it has uses
pub any-used : (uses : Uses) → AreUsed uses → (node : NodeRef)
    → list_any (same_node node) (keys_of uses) ≡ nat_lt 0 (count uses node)
any-used uses used node = sym (is_some-lookup (same_node node) uses) ∙ by (found uses node) refl
  where
    by : (r : Option ℕ) → found uses node ≡ r → is_some r ≡ nat_lt 0 (unwrap_or r 0)
    by None e = refl
    by (Some n) e = sym (lt-ltb 0 n (used node n e))

-- a node is there after an update of one just if it was, or if more than its last use is left
pub kept-updated : (node : NodeRef) (o w : Option ℕ) (old new : Uses) → found old node ≡ o
    → is_some w ≡ nat_lt 1 (unwrap_or o 0) → IsUpdated node w old new → (q : NodeRef)
    → list_any (same_node q) (keys_of new)
    ≡ cond (same_node node q) (nat_lt 1 (count old q)) (list_any (same_node q) (keys_of old))
kept-updated node o w old new there is updated q =
    sym (is_some-lookup (same_node q) new) ∙ ap is_some (updated q) ∙ by (same_node node q) refl
  where
    by : (test : Bool) → same_node node q ≡ test → is_some (cond test w (found old q))
        ≡ cond test (nat_lt 1 (count old q)) (list_any (same_node q) (keys_of old))
    by true e = is ∙ ap (λ r. nat_lt 1 (unwrap_or r 0)) (sym (same_found old node q o e there))
    by false e = is_some-lookup (same_node q) old

-- what is not there is as if it were taken out
pub updated-absent : (node : NodeRef) (old : Uses) → found old node ≡ None → IsUpdated node None old old
updated-absent node old absent q = by (same_node node q) refl
  where
    by : (test : Bool) → same_node node q ≡ test → found old q ≡ cond test None (found old q)
    by true e = same_found old node q None e absent
    by false e = refl

-- what is left where one goes is used
pub used-without : (node : NodeRef) (old new : Uses) → AreUsed old → IsUpdated node None old new → AreUsed new
used-without node old new used updated q n there = by (same_node node q) (sym (updated q) ∙ there)
  where
    by : (test : Bool) → cond test None (found old q) ≡ Some n → 0 < n
    by true e = absurd (true≢false (sym (ap is_some e)))
    by false e = used q n e
