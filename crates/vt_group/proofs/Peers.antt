-- The mounts of a world that are shared or slaves, in order of attachment.
use Rattle.std.proofs.Common.{◌≡◌, ℕ, Bool, true, false, cond, ◌||◌, List, [], ◌∷◌, map, nat_eq, nat_lt, Option, Some, None, option_map, is_some, refl, sym, ap, ◌∙◌, true≢false, arith, eq-eqb, ne_eqb, le-ltb, inl, inr, ⊎_elim, eqb-true, ltb-true, if◌then◌else◌, nat_cmp, Less, Equal, Greater}
use Rattle.vt_spec.proofs.Common.{Among, Mount, Private, Propagation, Shared, Slave, Unbindable, among-map, among_from_list_all, among_numbers, and_parts, cons_option, eqb-false, group_of, has_members, holds_of, insert_entry, is_among, list_all, list_any, lookup, map_same, match_ordering, remove_entry, same_Some, source_of}
use Rattle.vt_group.specs.Grouping.{are_rising, peer_of, peers_of, retyped_if}
use Rattle.vt_group.specs.Steps.{is_member}
use Rattle.vt_laws_mounts.specs.Mounts.Attaching.{numbers_of}

-- a number below those of all mounts is that of none
pub above_first : (number : ℕ) (mounts : List (Mount ℕ)) → list_all (nat_lt number) (numbers_of mounts) ≡ true
    → (mount : Mount ℕ) → Among mount mounts → nat_eq number mount.number ≡ false
above_first number mounts all mount m =
    let less = among_from_list_all (nat_lt number) (numbers_of mounts) all mount.number
    (among-map (λ x. x.number) mounts mount m) in
    ne_eqb number mount.number (λ same. omega (arith, ltb-true number mount.number less, same))

-- a number below all others of a list is none of its keys
lookup-below : (number : ℕ) (mounts : List (Mount ℕ))
    → ((mount : Mount ℕ) → Among mount mounts → nat_eq number mount.number ≡ false)
    → lookup (nat_eq number) (peers_of mounts) ≡ None
lookup-below number [] none = refl
lookup-below number (mount ∷ rest) none = by (source_of mount.propagation)
    (lookup-below number rest (λ x m. none x (inr m)))
  where
    by : (source : Option ℕ) → lookup (nat_eq number) (peers_of rest) ≡ None
        → lookup (nat_eq number) (cons_option (option_map (λ s. (mount.number, mount.propagation)) source)
        (peers_of rest)) ≡ None
    by None later = later
    by (Some s) later = ap (λ b. cond b (Some mount.propagation) (lookup (nat_eq number) (peers_of rest)))
        (none mount (inl refl)) ∙ later

-- a mount with the number and the type is there
abbrev pub FoundIn : List (Mount ℕ) → ℕ → Propagation ℕ → Type 0
FoundIn mounts number kind = (mount : Mount ℕ) × Among mount mounts × (mount.number ≡ number)
    × (mount.propagation ≡ kind)

-- what is found is the type of a mount
pub lookup-among : (number : ℕ) (kind : Propagation ℕ) (mounts : List (Mount ℕ))
    → lookup (nat_eq number) (peers_of mounts) ≡ Some kind → FoundIn mounts number kind
lookup-among number kind [] e = absurd (true≢false (sym (ap is_some e)))
lookup-among number kind (mount ∷ rest) e =
    by (λ f. let t = lookup-among number kind rest f in (t.0, inr t.1, t.2, t.3)) (source_of mount.propagation) e
  where
    here : (lookup (nat_eq number) (peers_of rest) ≡ Some kind → FoundIn (mount ∷ rest) number kind) → (b : Bool)
        → nat_eq number mount.number ≡ b
        → cond b (Some mount.propagation) (lookup (nat_eq number) (peers_of rest)) ≡ Some kind
        → FoundIn (mount ∷ rest) number kind
    here further true same f = (
      mount,
      inl refl,
      sym (eqb-true number mount.number same),
      same_Some mount.propagation kind f,
    )
    here further false differ f = further f

    by : (lookup (nat_eq number) (peers_of rest) ≡ Some kind → FoundIn (mount ∷ rest) number kind) → (source : Option ℕ)
        → lookup (nat_eq number) (cons_option (option_map (λ s. (mount.number, mount.propagation)) source)
        (peers_of rest)) ≡ Some kind → FoundIn (mount ∷ rest) number kind
    by further None f = further f
    by further (Some s) f = here further (nat_eq number mount.number) refl f

-- the type of a mount that is shared or a slave is found
pub lookup-peer : (source : ℕ) (mount : Mount ℕ) (mounts : List (Mount ℕ)) → are_rising (numbers_of mounts) ≡ true
    → Among mount mounts → source_of mount.propagation ≡ Some source
    → lookup (nat_eq mount.number) (peers_of mounts) ≡ Some mount.propagation
lookup-peer source mount [] rising m e = absurd m
lookup-peer source mount (first ∷ rest) rising m e = ⊎_elim head
    (λ n. tail (lookup-peer source mount rest parts.1 n e) n) m
  where
    parts : (list_all (nat_lt first.number) (numbers_of rest) ≡ true) × (are_rising (numbers_of rest) ≡ true)
    parts = and_parts _ _ rising

    head : mount ≡ first → lookup (nat_eq mount.number) (peers_of (first ∷ rest)) ≡ Some mount.propagation
    head same = ap (λ o. lookup (nat_eq mount.number)
        (cons_option (option_map (λ s. (first.number, first.propagation)) o) (peers_of rest)))
        (ap (λ x. source_of x.propagation) (sym same) ∙ e)
        ∙ ap (λ b. cond b (Some first.propagation) (lookup (nat_eq mount.number) (peers_of rest)))
        (eq-eqb mount.number first.number (ap (λ x. x.number) same)) ∙ ap (λ x. Some x.propagation) (sym same)

    later : (found : Option ℕ) → lookup (nat_eq mount.number) (peers_of rest) ≡ Some mount.propagation
        → nat_eq mount.number first.number ≡ false → lookup (nat_eq mount.number)
        (cons_option (option_map (λ s. (first.number, first.propagation)) found) (peers_of rest))
        ≡ Some mount.propagation
    later None found differ = found
    later (Some s) found differ = ap
        (λ b. cond b (Some first.propagation) (lookup (nat_eq mount.number) (peers_of rest))) differ ∙ found

    tail : lookup (nat_eq mount.number) (peers_of rest) ≡ Some mount.propagation → Among mount rest
        → lookup (nat_eq mount.number) (peers_of (first ∷ rest)) ≡ Some mount.propagation
    tail found n = later (source_of first.propagation) found (ne_eqb mount.number first.number
        (λ same. eqb-false first.number mount.number (above_first first.number rest parts.0 mount n) (sym same)))

-- and any other is not
pub lookup-absent : (mount : Mount ℕ) (mounts : List (Mount ℕ)) → are_rising (numbers_of mounts) ≡ true
    → Among mount mounts → source_of mount.propagation ≡ None → lookup (nat_eq mount.number) (peers_of mounts) ≡ None
lookup-absent mount [] rising m e = refl
lookup-absent mount (first ∷ rest) rising m e = ⊎_elim head (λ n. tail (lookup-absent mount rest parts.1 n e) n) m
  where
    parts : (list_all (nat_lt first.number) (numbers_of rest) ≡ true) × (are_rising (numbers_of rest) ≡ true)
    parts = and_parts _ _ rising

    head : mount ≡ first → lookup (nat_eq mount.number) (peers_of (first ∷ rest)) ≡ None
    head same = ap (λ o. lookup (nat_eq mount.number)
        (cons_option (option_map (λ s. (first.number, first.propagation)) o) (peers_of rest)))
        (ap (λ x. source_of x.propagation) (sym same) ∙ e) ∙ lookup-below mount.number rest
        (λ x m. ap (λ n. nat_eq n x.number) (ap (λ x. x.number) same) ∙ above_first first.number rest parts.0 x m)

    later : (found : Option ℕ) → lookup (nat_eq mount.number) (peers_of rest) ≡ None
        → nat_eq mount.number first.number ≡ false → lookup (nat_eq mount.number)
        (cons_option (option_map (λ s. (first.number, first.propagation)) found) (peers_of rest)) ≡ None
    later None found differ = found
    later (Some s) found differ = ap
        (λ b. cond b (Some first.propagation) (lookup (nat_eq mount.number) (peers_of rest))) differ ∙ found

    tail : lookup (nat_eq mount.number) (peers_of rest) ≡ None → Among mount rest
        → lookup (nat_eq mount.number) (peers_of (first ∷ rest)) ≡ None
    tail found n = later (source_of first.propagation) found (ne_eqb mount.number first.number
        (λ same. eqb-false first.number mount.number (above_first first.number rest parts.0 mount n) (sym same)))

-- members, told by the peers
pub members-peers : (group : ℕ) (mounts : List (Mount ℕ))
    → list_any (is_member group) (peers_of mounts) ≡ has_members nat_eq mounts group
members-peers group [] = refl
members-peers group (mount ∷ rest) = by mount.propagation refl (members-peers group rest)
  where
    by : (kind : Propagation ℕ) → mount.propagation ≡ kind
        → list_any (is_member group) (peers_of rest) ≡ has_members nat_eq rest group
        → list_any (is_member group) (cons_option
        (option_map (λ s. (mount.number, mount.propagation)) (source_of mount.propagation)) (peers_of rest))
        ≡ (holds_of (nat_eq group) (group_of mount.propagation) || has_members nat_eq rest group)
    by (Shared own) e later = rw e (ap (λ b. nat_eq group own || b) later)
    by (Slave above) e later = rw e later
    by Private e later = rw e later
    by Unbindable e later = rw e later

-- One mount changes its type

-- a mount with another number keeps its type
pub retyped_other : (number : ℕ) (kind : Propagation ℕ) (mount : Mount ℕ) → nat_eq number mount.number ≡ false
    → retyped_if number kind mount ≡ mount
retyped_other number kind mount differ = ap (λ b. if b then record mount { propagation = kind } else mount) differ

-- the mount with the number gets the type
pub retyped_same : (number : ℕ) (kind : Propagation ℕ) (mount : Mount ℕ) → nat_eq number mount.number ≡ true
    → retyped_if number kind mount ≡ record mount { propagation = kind }
retyped_same number kind mount same = ap (λ b. if b then record mount { propagation = kind } else mount) same

retyped_above : (number : ℕ) (kind : Propagation ℕ) (mounts : List (Mount ℕ))
    → list_all (nat_lt number) (numbers_of mounts) ≡ true → map (retyped_if number kind) mounts ≡ mounts
retyped_above number kind mounts all = map_same (retyped_if number kind) mounts
    (λ mount m. retyped_other number kind mount (above_first number mounts all mount m))

-- mounts keep their numbers where one gets a type
pub numbers-retyped : (number : ℕ) (kind : Propagation ℕ) (mounts : List (Mount ℕ))
    → numbers_of (map (retyped_if number kind) mounts) ≡ numbers_of mounts
numbers-retyped number kind [] = refl
numbers-retyped number kind (mount ∷ rest) = λ i. same (nat_eq number mount.number) i
    ∷ numbers-retyped number kind rest i
  where
    same : (b : Bool) → (if b then record mount { propagation = kind } else mount).number ≡ mount.number
    same true = refl
    same false = refl

-- entries stay where none has the number that is removed
pub remove-absent : (number : ℕ) (peers : List (ℕ × Propagation ℕ)) → lookup (nat_eq number) peers ≡ None
    → remove_entry (nat_eq number) peers ≡ peers
remove-absent number [] e = refl
remove-absent number (peer ∷ rest) e = by (nat_eq number peer.0) e (remove-absent number rest)
  where
    by : (b : Bool) → cond b (Some peer.1) (lookup (nat_eq number) rest) ≡ None
        → (lookup (nat_eq number) rest ≡ None → remove_entry (nat_eq number) rest ≡ rest)
        → cond b rest (peer ∷ remove_entry (nat_eq number) rest) ≡ peer ∷ rest
    by true f later = absurd (true≢false (ap is_some f))
    by false f later = ap (λ l. peer ∷ l) (later f)

-- one that becomes private is taken out
pub peers-left : (number : ℕ) (mounts : List (Mount ℕ)) → are_rising (numbers_of mounts) ≡ true
    → peers_of (map (retyped_if number Private) mounts) ≡ remove_entry (nat_eq number) (peers_of mounts)
peers-left number [] rising = refl
peers-left number (mount ∷ rest) rising = by (peers-left number rest parts.1) (nat_eq number mount.number) refl
  where
    parts : (list_all (nat_lt mount.number) (numbers_of rest) ≡ true) × (are_rising (numbers_of rest) ≡ true)
    parts = and_parts _ _ rising

    gone : nat_eq number mount.number ≡ true → (source : Option ℕ) → list_all (nat_lt number) (numbers_of rest) ≡ true
        → peers_of rest ≡ remove_entry (nat_eq number)
        (cons_option (option_map (λ s. (mount.number, mount.propagation)) source) (peers_of rest))
    gone e None all = sym (remove-absent number (peers_of rest)
        (lookup-below number rest (above_first number rest all)))
    gone e (Some s) all = ap (λ b.
        cond b (peers_of rest) ((mount.number, mount.propagation) ∷ remove_entry (nat_eq number) (peers_of rest)))
        (sym e)

    kept : nat_eq number mount.number ≡ false → (source : Option ℕ)
        → cons_option (option_map (λ s. (mount.number, mount.propagation)) source)
        (remove_entry (nat_eq number) (peers_of rest)) ≡ remove_entry (nat_eq number)
        (cons_option (option_map (λ s. (mount.number, mount.propagation)) source) (peers_of rest))
    kept e None = refl
    kept e (Some s) = ap (λ b. cond b (peers_of rest)
        ((mount.number, mount.propagation) ∷ remove_entry (nat_eq number) (peers_of rest))) (sym e)

    by : peers_of (map (retyped_if number Private) rest) ≡ remove_entry (nat_eq number) (peers_of rest) → (b : Bool)
        → nat_eq number mount.number ≡ b → peers_of (map (retyped_if number Private) (mount ∷ rest))
        ≡ remove_entry (nat_eq number) (peers_of (mount ∷ rest))
    by later true e =
        let all : list_all (nat_lt number) (numbers_of rest)
        ≡ true = ap (λ n. list_all (nat_lt n) (numbers_of rest)) (eqb-true number mount.number e) ∙ parts.0 in
        (λ i. cons_option (peer_of (retyped_same number Private mount e i))
        (peers_of (retyped_above number Private rest all i))) ∙ gone e (source_of mount.propagation) all
    by later false e = (λ i. cons_option (peer_of (retyped_other number Private mount e i)) (later i))
        ∙ kept e (source_of mount.propagation)

below_peers : (number : ℕ) (kind : Propagation ℕ) (mounts : List (Mount ℕ))
    → list_all (nat_lt number) (numbers_of mounts) ≡ true
    → insert_entry nat_cmp (peers_of mounts) number kind ≡ (number, kind) ∷ peers_of mounts
below_peers number kind [] all = refl
below_peers number kind (mount ∷ rest) all = by (source_of mount.propagation)
    (below_peers number kind rest (and_parts _ _ all).1)
  where
    by : (source : Option ℕ) → insert_entry nat_cmp (peers_of rest) number kind ≡ (number, kind) ∷ peers_of rest
        → insert_entry nat_cmp (cons_option (option_map (λ s. (mount.number, mount.propagation)) source)
        (peers_of rest)) number kind
        ≡ (number, kind) ∷ cons_option (option_map (λ s. (mount.number, mount.propagation)) source) (peers_of rest)
    by None later = later
    by (Some s) later = ap (λ b. match_ordering (cond b Less (cond (nat_eq number mount.number) Equal Greater))
        ((number, kind) ∷ (mount.number, mount.propagation) ∷ peers_of rest) ((mount.number, kind) ∷ peers_of rest)
        ((mount.number, mount.propagation) ∷ insert_entry nat_cmp (peers_of rest) number kind)) (and_parts _ _ all).0

-- a number is found equal to itself
pub cmp_same : (a b : ℕ) → nat_eq a b ≡ true → nat_cmp a b ≡ Equal
cmp_same a b e = (λ i. cond (le-ltb a b (omega (arith, eqb-true a b e)) i) Less (cond (e i) Equal Greater))

-- and greater than one below it
pub cmp_greater : (a b : ℕ) → nat_lt b a ≡ true → nat_cmp a b ≡ Greater
cmp_greater a b l =
    let less = ltb-true b a l in
    (λ i. cond (le-ltb a b (omega (arith, less)) i) Less
    (cond (ne_eqb a b (λ same. omega (arith, less, same)) i) Equal Greater))

-- one that becomes shared or a slave has its new type in its place
pub peers-set : (number : ℕ) (kind : Propagation ℕ) (source : ℕ) → source_of kind ≡ Some source
    → (mounts : List (Mount ℕ)) → are_rising (numbers_of mounts) ≡ true
    → is_among nat_eq number (numbers_of mounts) ≡ true
    → peers_of (map (retyped_if number kind) mounts) ≡ insert_entry nat_cmp (peers_of mounts) number kind
peers-set number kind source peer [] rising there = absurd (true≢false (sym there))
peers-set number kind source peer (mount ∷ rest) rising there = by (peers-set number kind source peer rest parts.1)
    (nat_eq number mount.number) refl there
  where
    parts : (list_all (nat_lt mount.number) (numbers_of rest) ≡ true) × (are_rising (numbers_of rest) ≡ true)
    parts = and_parts _ _ rising

    found : nat_eq number mount.number ≡ true → list_all (nat_lt number) (numbers_of rest) ≡ true → (old : Option ℕ)
        → (mount.number, kind) ∷ peers_of rest
        ≡ insert_entry nat_cmp (cons_option (option_map (λ s. (mount.number, mount.propagation)) old)
        (peers_of rest)) number kind
    found e all None = (λ i. (sym (eqb-true number mount.number e) i, kind) ∷ peers_of rest)
        ∙ sym (below_peers number kind rest all)
    found e all (Some s) =
        ap (λ o. match_ordering o ((number, kind) ∷ (mount.number, mount.propagation) ∷ peers_of rest)
        ((mount.number, kind) ∷ peers_of rest)
        ((mount.number, mount.propagation) ∷ insert_entry nat_cmp (peers_of rest) number kind))
        (sym (cmp_same number mount.number e))

    further : nat_lt mount.number number ≡ true → (old : Option ℕ)
        → cons_option (option_map (λ s. (mount.number, mount.propagation)) old)
        (insert_entry nat_cmp (peers_of rest) number kind)
        ≡ insert_entry nat_cmp (cons_option (option_map (λ s. (mount.number, mount.propagation)) old)
        (peers_of rest)) number kind
    further less None = refl
    further less (Some s) =
        ap (λ o. match_ordering o ((number, kind) ∷ (mount.number, mount.propagation) ∷ peers_of rest)
        ((mount.number, kind) ∷ peers_of rest)
        ((mount.number, mount.propagation) ∷ insert_entry nat_cmp (peers_of rest) number kind))
        (sym (cmp_greater number mount.number less))

    by : (is_among nat_eq number (numbers_of rest) ≡ true
        → peers_of (map (retyped_if number kind) rest) ≡ insert_entry nat_cmp (peers_of rest) number kind)
        → (b : Bool) → nat_eq number mount.number ≡ b → (b || is_among nat_eq number (numbers_of rest)) ≡ true
        → peers_of (map (retyped_if number kind) (mount ∷ rest))
        ≡ insert_entry nat_cmp (peers_of (mount ∷ rest)) number kind
    by later true e t =
        let all : list_all (nat_lt number) (numbers_of rest)
        ≡ true = ap (λ n. list_all (nat_lt n) (numbers_of rest)) (eqb-true number mount.number e) ∙ parts.0 in
        (λ i. cons_option (peer_of (retyped_same number kind mount e i))
        (peers_of (retyped_above number kind rest all i)))
        ∙ ap (λ o. cons_option (option_map (λ s. (mount.number, kind)) o) (peers_of rest)) peer
        ∙ found e all (source_of mount.propagation)
    by later false e t = (λ i. cons_option (peer_of (retyped_other number kind mount e i)) (later t i))
        ∙ further (among_from_list_all (nat_lt mount.number) (numbers_of rest) parts.0 number
        (among_numbers (numbers_of rest) number t)) (source_of mount.propagation)
