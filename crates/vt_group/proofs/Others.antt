-- The mounts of a world have one type each.
use Rattle.std.proofs.Common.{◌≡◌, nat_lt, option_map, Some, refl, ap, ◌∙◌, ℕ, true, List, [], ◌∷◌, Option, None}
use Rattle.vt_spec.proofs.Common.{Mount, World, and_from, and_parts, cons_option, list_all, source_of}
use Rattle.vt_group.specs.Grouping.{Grouping, Has, are_rising, peers_of}
use Rattle.vt_group.specs.Together.{is_ordered}
use Rattle.vt_group.proofs.Regrouping.{keys}
use Rattle.vt_laws_mounts.specs.Mounts.Attaching.{numbers_of}

low_peers : (number : ℕ) (mounts : List (Mount ℕ)) → list_all (nat_lt number) (numbers_of mounts) ≡ true
    → list_all (nat_lt number) (keys (peers_of mounts)) ≡ true
low_peers number [] all = refl
low_peers number (mount ∷ rest) all =
    let parts = and_parts _ _ all in by (source_of mount.propagation) parts.0 (low_peers number rest parts.1)
  where
    by : (o : Option ℕ) → nat_lt number mount.number ≡ true → list_all (nat_lt number) (keys (peers_of rest)) ≡ true
        → list_all (nat_lt number) (keys
        (cons_option (option_map (λ source. (mount.number, mount.propagation)) o) (peers_of rest))) ≡ true
    by None first later = later
    by (Some source) first later = and_from _ _ first later

rising_peers : (mounts : List (Mount ℕ)) → are_rising (numbers_of mounts) ≡ true
    → are_rising (keys (peers_of mounts)) ≡ true
rising_peers [] rising = refl
rising_peers (mount ∷ rest) rising =
    let parts = and_parts _ _ rising in
    by (source_of mount.propagation) (low_peers mount.number rest parts.0) (rising_peers rest parts.1)
  where
    by : (o : Option ℕ) → list_all (nat_lt mount.number) (keys (peers_of rest)) ≡ true
        → are_rising (keys (peers_of rest)) ≡ true
        → are_rising (keys (cons_option (option_map (λ source. (mount.number, mount.propagation)) o) (peers_of rest)))
        ≡ true
    by None low later = later
    by (Some source) low later = and_from _ _ low later

-- the groups of a world are in order
pub has_ordered : (world : World ℕ) (groups : Grouping) → Has world groups → is_ordered groups ≡ true
has_ordered world groups has = ap (λ peers. are_rising (keys peers)) has.peers ∙ rising_peers world.mounts has.order
