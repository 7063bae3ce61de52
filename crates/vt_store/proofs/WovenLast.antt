-- An overlay whose number is above all others comes after them.
use Rattle.std.proofs.Common.{◌≡◌, ◌++◌, ◌∷◌, [], ap, arith, cond, false, List, ltb-true, nat_lt, refl, true, ℕ, le-ltb, lt-ltb}
use Rattle.vt_spec.proofs.Common.{Filesystem, and_parts, list_all, common_steps}
use Rattle.vt_laws_trees.specs.Overlays.InOrder.{put_in}
use Rattle.vt_location.specs.Numbers.{counted}
use Rattle.vt_fs.specs.FilesystemsValue.{FilesystemEntry, Filesystems, filesystems_seen}
use Rattle.vt_store.specs.Laws.{NewOverlaysAreLast}
use Rattle.vt_store.specs.OverlaysValue.{OverlayEntry}
use Rattle.vt_store.specs.StoreValue.{overlay_filesystem, woven}

-- numbers stand as counts do
below : (a b : ℕ) → nat_lt a b ≡ true → nat_lt (counted a) (counted b) ≡ true
below a b less = let is = ltb-true a b less in lt-ltb (counted a) (counted b) (omega (arith, is))

not_below : (a b : ℕ) → nat_lt a b ≡ true → nat_lt (counted b) (counted a) ≡ false
not_below a b less = let is = ltb-true a b less in le-ltb (counted b) (counted a) (omega (arith, is))

-- behind all plain ones,
put_in-last : (last : Filesystem ℕ) (entry : OverlayEntry) → last.number ≡ counted entry.count → (plain : Filesystems)
    → list_all (λ (other : FilesystemEntry). nat_lt other.count entry.count) plain ≡ true
    → put_in last (filesystems_seen plain) ≡ filesystems_seen plain ++ last ∷ []
put_in-last last entry is [] above = refl
put_in-last last entry is (first ∷ plain) above =
    let parts = and_parts (nat_lt first.count entry.count) (list_all (λ (other : FilesystemEntry). nat_lt
    other.count entry.count) plain) above in
    cc (below first.count entry.count parts.0, put_in-last last entry is plain parts.1)

-- and what is put in below it leaves it the last
put_in-before : (one last : Filesystem ℕ) → nat_lt last.number one.number ≡ false → (list : List (Filesystem ℕ))
    → put_in one (list ++ last ∷ []) ≡ put_in one list ++ last ∷ []
put_in-before one last above [] = ap (λ b. cond b (last ∷ one ∷ []) (one ∷ last ∷ [])) above
put_in-before one last above (first ∷ list) = grind (arith, common_steps, put_in-before one last above list, cond)

pub new_overlays_are_last : NewOverlaysAreLast
new_overlays_are_last plain [] entry above over = put_in-last (overlay_filesystem plain entry) entry refl plain above
new_overlays_are_last plain (first ∷ overlays) entry above over =
    let parts = and_parts (nat_lt first.count entry.count) (list_all (λ (other : OverlayEntry). nat_lt other.count
    entry.count) overlays) over in
    cc (
      new_overlays_are_last plain overlays entry above parts.1,
      put_in-before (overlay_filesystem plain first)
          (overlay_filesystem plain entry) (not_below first.count entry.count parts.0) (woven plain overlays),
    )
