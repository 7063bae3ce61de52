-- Mounts that come after all others.
use Rattle.std.proofs.Common.{◌≡◌, sym, subst, inl, inr, refl, ℕ, ◌<◌, true, ◌&&◌, List, [], ◌∷◌, ◌++◌, ◌+◌, length, take, drop, get_or, nat_lt, lt-ltb, ltb-true, arith}
use Rattle.vt_spec.proofs.Common.{and_parts, common_steps, list_all}
use Rattle.vt_mounting.proofs.Common.{Among, among-append_right, among_from_list_all, are_ascending, list_all_from_among}
use Rattle.vt_location.specs.declared.mounts.Mount.{Mount}
use Rattle.vt_mount.proofs.EnteringLemmas.{at_index}
use Rattle.vt_spec.specs.Machine.Mounts as meant

pub among_at : (new : List Mount) (i : ℕ) (d : Mount) → i < length new → Among (get_or new i d) new
among_at new i d less = subst (Among (get_or new i d)) (sym (at_index new i d less))
    (among-append_right (take i new) (get_or new i d ∷ drop (i + 1) new) (get_or new i d) (inl refl))

-- Mounts of two lists, one after the other

pub apart : (front back : List (meant.Mount ℕ)) → are_ascending (front ++ back) ≡ true
    → (a b : meant.Mount ℕ) → Among a front → Among b back → a.number < b.number
apart [] back is a b m n = absurd m
apart (first ∷ front) back is a b m n = grind (arith, common_steps, apart front, and_parts, among_from_list_all, ltb-true)

pub ascending_joined : (front back : List (meant.Mount ℕ)) → are_ascending front ≡ true → are_ascending back ≡ true
    → ((a b : meant.Mount ℕ) → Among a front → Among b back → a.number < b.number)
    → are_ascending (front ++ back) ≡ true
ascending_joined [] back front_is back_is less = back_is
ascending_joined (first ∷ front) back front_is back_is less =
    let parts = and_parts (list_all (λ later. nat_lt first.number later.number) front) _ front_is in
    λ i. all_joined front parts.0 (λ b n. less first b (inl refl) n) i
    && ascending_joined front back parts.1 back_is (λ a b m n. less a b (inr m) n) i
  where
    all_joined : (some : List (meant.Mount ℕ)) → list_all (λ later. nat_lt first.number later.number) some ≡ true
        → ((b : meant.Mount ℕ) → Among b back → first.number < b.number)
        → list_all (λ later. nat_lt first.number later.number) (some ++ back) ≡ true
    all_joined [] is less_back = list_all_from_among (λ (later : meant.Mount ℕ). nat_lt first.number later.number) back
        (λ b n. lt-ltb first.number b.number (less_back b n))
    all_joined (one ∷ some) is less_back =
        let both = and_parts (nat_lt first.number one.number)
        (list_all (λ later. nat_lt first.number later.number) some) is in
        λ i. both.0 i && all_joined some both.1 less_back i
