-- Whether a world has a filesystem or a namespace of a number.
use Rattle.std.proofs.Common.{arith, ◌≡◌, refl, sym, ap, ◌∙◌, ℕ, nat_eq, nat_lt, Bool, true, false, ◌||◌, List, [], ◌∷◌, map, find, is_some, option_copied, option_map, Bor, Option, Some, None}
use Rattle.vt_spec.proofs.Common.{Filesystem, Namespace, common_steps, list_any}
use Rattle.std.specs.Map.{lookup}
use Rattle.vt_ns.proofs.Common.{Filesystems, StoreValue, counted, counted_test, entries_of, entry_of, namespace_of}
use Rattle.vt_fs.specs.FilesystemsValue.{filesystems_seen}
use Rattle.vt_laws_trees.specs.Overlays.InOrder.{put_in}
use Rattle.vt_laws_worlds.specs.OverlaysStay.Woven.{woven}
use Rattle.vt_location.specs.declared.numbers.NamespaceId.{NamespaceId}
use Rattle.vt_store.proofs.KeptObjects.{layered_entry}
use Rattle.vt_store.specs.OverlaysValue.{OverlayEntry}
use Rattle.vt_store.specs.StoreValue.{entry_in, layered_in}
use Rattle.vt_world.specs.StoredWorld.{overlay_of_store, overlays_of_store}
use Rattle.vt_world.specs.WorldValue.{overlays_seen}
use Rattle.vt_world.specs.declared.namespaces.Namespace.{Namespace as Kept}

abbrev there : ℕ → List (Filesystem ℕ) → Bool
there number list = is_some (find (λ (one : Filesystem ℕ). nat_eq number one.number) list)

put_there : (number : ℕ) (filesystem : Filesystem ℕ) (others : List (Filesystem ℕ))
    → there number (put_in filesystem others) ≡ (nat_eq number filesystem.number || there number others)
put_there number filesystem [] = grind (arith, common_steps)
put_there number filesystem (first ∷ rest) =
    grind (arith, common_steps, put_there number filesystem rest, nat_lt first.number filesystem.number)

woven_there : (number : ℕ) (plain overlays : List (Filesystem ℕ)) → there number (woven plain overlays)
    ≡ (list_any (λ (one : Filesystem ℕ). nat_eq number one.number) overlays || there number plain)
woven_there number plain [] = refl
woven_there number plain (overlay ∷ rest) =
    grind (arith, common_steps, put_there number overlay (woven plain rest), woven_there number plain rest)

plain_there : (plain : Filesystems) (count : ℕ)
    → there (counted count) (filesystems_seen plain) ≡ is_some (entry_of plain count)
plain_there [] count = refl
plain_there (entry ∷ plain) count =
    grind (arith, common_steps, plain_there plain count, counted_test count entry.count, nat_eq count entry.count)

overlays_there : (plain : Filesystems) (count : ℕ) (overlays : List OverlayEntry)
    → list_any (λ (one : Filesystem ℕ). nat_eq (counted count) one.number)
    (overlays_seen (map (overlay_of_store plain) overlays))
    ≡ is_some (find (λ (entry : OverlayEntry). nat_eq count entry.count) overlays)
overlays_there plain count [] = refl
overlays_there plain count (entry ∷ rest) =
    grind (arith, common_steps, overlays_there plain count rest, counted_test count entry.count, nat_eq count entry.count)

pub mapped_there : {A B : Type 0} (f : A → B) (o : Option A) → is_some (option_map f o) ≡ is_some o
mapped_there f None = refl
mapped_there f (Some a) = refl

-- an overlay, or a plain one
pub filesystem_there : (store : StoreValue) (count : ℕ)
    → there (counted count) (woven (filesystems_seen store.plain) (overlays_seen (overlays_of_store store)))
    ≡ (is_some (layered_in store count) || is_some (entry_of store.plain count))
filesystem_there store count =
    woven_there (counted count) (filesystems_seen store.plain) (overlays_seen (overlays_of_store store))
    ∙ ap (λ b. b || there (counted count) (filesystems_seen store.plain))
    (overlays_there store.plain count store.overlays
    ∙ sym (mapped_there layered_entry (entry_in store count)))
    ∙ ap (λ b. is_some (layered_in store count) || b) (plain_there store.plain count)

-- a namespace
pub namespace_there : (kept : List (NamespaceId × Kept)) (count : ℕ)
    → is_some (find (λ (one : Namespace ℕ). nat_eq (counted count) one.number) (map namespace_of (entries_of kept)))
    ≡ is_some (lookup (λ (id : NamespaceId). nat_eq count id.count) kept)
namespace_there [] count = refl
namespace_there (one ∷ rest) count =
    grind (arith, common_steps, namespace_there rest count, counted_test count one.0.count, nat_eq count one.0.count)

-- what is lent is there as what it is lent of
pub lent_there : {A : Type 0} (lent : Option (Bor A)) → is_some (option_copied lent) ≡ is_some lent
lent_there None = refl
lent_there (Some a) = refl

pub first_of_two : (b c : Bool) → b ≡ true → b ≡ (b || c)
first_of_two true c e = refl
first_of_two false c e = absurd cc

pub second_of_two : (b c : Bool) → b ≡ false → c ≡ (b || c)
second_of_two true c e = absurd cc
second_of_two false c e = refl
