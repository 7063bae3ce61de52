-- The lists stay right where a mount is attached, detached or taken out.
use Rattle.std.proofs.Common.{◌≡◌, ℕ, Bool, true, false, cond, ◌&&◌, T, List, [], ◌∷◌, ◌++◌, map, not, nat_lt, None, Some, Result, Ok, Err, OnErr, OnOk, refl, sym, ap, ◌∙◌, true≢false, arith, eq-eqb, ne_eqb, IsOk, is_err, ltb-true}
use Rattle.vt_spec.proofs.Common.{and_true_left, and_true_right, list_all}
use Rattle.vt_location.specs.Numbers.{same_id}
use Rattle.vt_location.specs.declared.locations.Location.{Location}
use Rattle.vt_location.specs.declared.mounts.Mount.{Mount}
use Rattle.vt_location.specs.declared.mounts.Propagation.TheVariants.{Private}
use Rattle.vt_location.specs.declared.numbers.MountId.{MountId}
use Rattle.vt_location.specs.declared.numbers.NamespaceId.{NamespaceId}
use Rattle.vt_mount.specs.declared.indexes.Indexes.{Indexes}
use Rattle.vt_mount.specs.declared.mounted.Mounted.{Mounted}
use Rattle.vt_mount.specs.Indexed.{IsIndexed, is_kept_small, numbers_where}
use Rattle.vt_mount.specs.Indexes.{count_at, count_left, count_put, is_at, is_in, is_on, listed_in, listed_on, pushed, put_in_place, taken}
use Rattle.vt_mount.specs.Listed.{count_of}
use Rattle.vt_mount.specs.MountsValue.{MountEntry, mount_kept, without}
use Rattle.vt_mount.proofs.ListLemmas.{others}
use Rattle.vt_mount.specs.Rising.{comes_last, precedes}
use Rattle.vt_mount.proofs.CountLemmas.{count-pushed, count-taken}
use Rattle.vt_mount.proofs.RisingLemmas.{put_in_place-last, taken-last}
use Rattle.vt_mount.proofs.IndexLemmas.{last-above, numbers-last, numbers-left, numbers-without, others-taken}
use Rattle.vt_mount.proofs.OrderLemmas.{change_kept, found, is_above, rises, without_kept}

-- what is kept of a mount that is detached
abbrev pub detached_kept : Mounted → Mounted
detached_kept one = record one { namespace = None; mount_point = None; propagation = Private }

-- a test that no detached mount passes
abbrev pub IsOfPlaces : (Mount → Bool) → Type 0
IsOfPlaces test = (n : MountId) (one : Mounted) → test (mount_kept n (detached_kept one)) ≡ false

-- each list of mounts that are somewhere loses one mount
abbrev pub LosesOne : MountId → List (MountId × Mounted) → List (MountId × Mounted) → Type 0
LosesOne id kept left = (test : Mount → Bool) → IsOfPlaces test
    → numbers_where test left ≡ others id (numbers_where test kept)

pub loses-without : (id : MountId) (kept : List (MountId × Mounted)) → LosesOne id kept (without_kept id kept)
loses-without id kept = λ test fails. numbers-without test id kept

pub loses-detached : (id : MountId) (kept : List (MountId × Mounted))
    → LosesOne id kept (map (change_kept id detached_kept) kept)
loses-detached id kept = λ test fails. numbers-left test id detached_kept fails kept

pub slots-detached : (id : MountId) (kept : List (MountId × Mounted)) → list_all is_kept_small kept ≡ true
    → list_all is_kept_small (map (change_kept id detached_kept) kept) ≡ true
slots-detached id [] slots = refl
slots-detached id (one ∷ kept) slots =
    ap (λ b. b && list_all is_kept_small (map (change_kept id detached_kept) kept)) (by (same_id id one.0))
    ∙ slots-detached id kept (and_true_right _ _ slots)
  where
    by : (b : Bool) → is_kept_small (one.0, cond b (detached_kept one.1) one.1) ≡ true
    by true = refl
    by false = and_true_left _ _ slots

pub slots-without : (id : MountId) (kept : List (MountId × Mounted)) → list_all is_kept_small kept ≡ true
    → list_all is_kept_small (without_kept id kept) ≡ true
slots-without id [] slots = refl
slots-without id (one ∷ kept) slots = by (same_id id one.0) (slots-without id kept (and_true_right _ _ slots))
  where
    by : (b : Bool) → list_all is_kept_small (without_kept id kept) ≡ true
        → list_all is_kept_small (cond (not b) (one ∷ without_kept id kept) (without_kept id kept)) ≡ true
    by true rest = rest
    by false rest = ap (λ b. b && list_all is_kept_small (without_kept id kept)) (and_true_left _ _ slots) ∙ rest

slots-last : (one : MountId × Mounted) (kept : List (MountId × Mounted)) → is_kept_small one ≡ true
    → list_all is_kept_small kept ≡ true → list_all is_kept_small (kept ++ one ∷ []) ≡ true
slots-last one [] slot slots = ap (λ b. b && true) slot
slots-last one (other ∷ kept) slot slots =
    ap (λ b. b && list_all is_kept_small (kept ++ one ∷ [])) (and_true_left _ _ slots)
    ∙ slots-last one kept slot (and_true_right _ _ slots)

-- Lists that one mount left

module _ (id : MountId) (x : Mounted) (mount : Mount) (kept left : List (MountId × Mounted)) (rising : T (rises kept))
    (there : found id kept ≡ Some x) (is : mount ≡ mount_kept id x) (loses : LosesOne id kept left) where
  left_one : (test : Mount → Bool) (old new : List MountId) → IsOfPlaces test → old ≡ numbers_where test kept
      → new ≡ taken (test mount) mount.number old → new ≡ numbers_where test left
  left_one test old new fails was taken_out = taken_out ∙ (λ i. taken (test (is i)) (is i).number (was i))
      ∙ others-taken test id x kept rising there ∙ sym (loses test fails)

  pub indexed-left : (old new : Indexes) → list_all is_kept_small left ≡ true
      → ((q : NamespaceId) → listed_in new q ≡ taken (is_in q mount) mount.number (listed_in old q))
      → ((q : MountId) → listed_on new q ≡ taken (is_on q mount) mount.number (listed_on old q))
      → ((q : Location) (one : MountId) → count_at new q one
      ≡ count_left (is_at q mount && same_id one mount.number) (count_at old q one))
      → IsIndexed old kept → IsIndexed new left
  indexed-left old new slots namespace parent place indexed = record {
    namespace = λ q. left_one (is_in q) _ _ (λ n one. refl) (indexed.namespace q) (namespace q);
    parent = λ q. left_one (is_on q) _ _ (λ n one. refl) (indexed.parent q) (parent q);
    place = λ q one. place q one
        ∙ ap (count_left (is_at q mount && same_id one mount.number)) (indexed.place q one)
        ∙ sym (count-taken (is_at q mount) mount.number one (numbers_where (is_at q) kept))
        ∙ ap (count_of (same_id one)) (left_one (is_at q) _ _ (λ n one. refl) refl refl);
    slots = slots;
  }

-- Lists that one mount was put in

module _ (mount : Mount) (one : Mounted) (kept : List (MountId × Mounted))
    (is : mount_kept mount.number one ≡ mount) where
  put_one : (test : Mount → Bool) (old new : List MountId) → old ≡ numbers_where test kept
      → new ≡ pushed (test mount) mount.number old → new ≡ numbers_where test (kept ++ (mount.number, one) ∷ [])
  put_one test old new was put_in = put_in ∙ (λ i. pushed (test (sym is i)) mount.number (was i))
      ∙ sym (numbers-last test (mount.number, one) kept)

  pub indexed-entered : (old new : Indexes) → is_kept_small (mount.number, one) ≡ true
      → ((q : NamespaceId) → listed_in new q ≡ pushed (is_in q mount) mount.number (listed_in old q))
      → ((q : MountId) → listed_on new q ≡ pushed (is_on q mount) mount.number (listed_on old q))
      → ((q : Location) (id : MountId) → count_at new q id
      ≡ count_put (is_at q mount && same_id id mount.number) (count_at old q id))
      → IsIndexed old kept → IsIndexed new (kept ++ (mount.number, one) ∷ [])
  indexed-entered old new slot namespace parent place indexed = record {
    namespace = λ q. put_one (is_in q) _ _ (indexed.namespace q) (namespace q);
    parent = λ q. put_one (is_on q) _ _ (indexed.parent q) (parent q);
    place = λ q id. place q id
        ∙ ap (count_put (is_at q mount && same_id id mount.number)) (indexed.place q id)
        ∙ sym (count-pushed (is_at q mount) mount.number id (numbers_where (is_at q) kept))
        ∙ ap (count_of (same_id id)) (put_one (is_at q) _ _ refl refl);
    slots = slots-last (mount.number, one) kept slot indexed.slots;
  }

-- Lists that a mount whose number is above all others is put in, and leaves again

module _ (mount : Mount) (kept : List (MountId × Mounted)) (above : is_above mount.number kept ≡ true) where
  -- in the lists it comes last
  pub put_behind : (test : Mount → Bool) (here : Bool) (list : List MountId) → list ≡ numbers_where test kept
      → put_in_place here mount.number list ≡ pushed here mount.number list
  put_behind test here list is = put_in_place-last here mount.number list
      (ap (comes_last precedes mount.number) is ∙ last-above test mount.number kept above)

  restored_one : (test : Mount → Bool) (old now left : List MountId) → old ≡ numbers_where test kept
      → taken (test mount) mount.number now ≡ taken (test mount) mount.number old
      → left ≡ taken (test mount) mount.number now → left ≡ numbers_where test kept
  restored_one test old now left was rest taken_out = taken_out ∙ rest ∙ taken-last (test mount) mount.number old
      (ap (comes_last precedes mount.number) was ∙ last-above test mount.number kept above) ∙ was

  pub indexed-restored : (old now left : Indexes)
      → ((q : NamespaceId) → taken (is_in q mount) mount.number (listed_in now q)
      ≡ taken (is_in q mount) mount.number (listed_in old q))
      → ((q : MountId) → taken (is_on q mount) mount.number (listed_on now q)
      ≡ taken (is_on q mount) mount.number (listed_on old q))
      → ((q : Location) (id : MountId) → count_left (is_at q mount && same_id id mount.number) (count_at now q id)
      ≡ count_left (is_at q mount && same_id id mount.number) (count_at old q id))
      → ((q : NamespaceId) → listed_in left q ≡ taken (is_in q mount) mount.number (listed_in now q))
      → ((q : MountId) → listed_on left q ≡ taken (is_on q mount) mount.number (listed_on now q))
      → ((q : Location) (id : MountId) → count_at left q id
      ≡ count_left (is_at q mount && same_id id mount.number) (count_at now q id))
      → IsIndexed old kept → IsIndexed left kept
  indexed-restored old now left in_rest on_rest at_rest in_left on_left at_left indexed = record {
    namespace = λ q. restored_one (is_in q) _ _ _ (indexed.namespace q) (in_rest q) (in_left q);
    parent = λ q. restored_one (is_on q) _ _ _ (indexed.parent q) (on_rest q) (on_left q);
    place = λ q id. at_left q id ∙ at_rest q id
        ∙ ap (count_left (is_at q mount && same_id id mount.number)) (indexed.place q id)
        ∙ sym (count-taken (is_at q mount) mount.number id (numbers_where (is_at q) kept))
        ∙ ap (count_of (same_id id)) (taken-last (is_at q mount) mount.number (numbers_where (is_at q) kept)
        (last-above (is_at q) mount.number kept above));
    slots = indexed.slots;
  }

-- What is attached and taken out again

without-above : (number : ℕ) (entries : List MountEntry)
    → list_all (λ entry. nat_lt entry.mount.number number) entries ≡ true → without number entries ≡ entries
without-above number [] above = refl
without-above number (entry ∷ entries) above =
    ap (λ b. cond (not b) (entry ∷ without number entries) (without number entries)) (ne_eqb number entry.mount.number
    (λ is. omega (arith, is, ltb-true entry.mount.number number (and_true_left _ _ above))))
    ∙ ap (λ rest. entry ∷ rest) (without-above number entries (and_true_right _ _ above))

pub without-last : (number : ℕ) (last : MountEntry) (entries : List MountEntry)
    → list_all (λ entry. nat_lt entry.mount.number number) entries ≡ true
    → last.mount.number ≡ number → without number (entries ++ last ∷ []) ≡ entries
without-last number last [] above is = ap (λ b. cond (not b) (last ∷ []) []) (eq-eqb number last.mount.number (sym is))
without-last number last (entry ∷ entries) above is =
    ap (λ b. cond (not b) (entry ∷ without number (entries ++ last ∷ [])) (without number (entries ++ last ∷ [])))
    (ne_eqb number entry.mount.number
    (λ is. omega (arith, is, ltb-true entry.mount.number number (and_true_left _ _ above))))
    ∙ ap (λ rest. entry ∷ rest) (without-last number last entries (and_true_right _ _ above) is)

pub of-ok : {A E P : Type 0} (r : Result A E) → IsOk r → OnOk r P → P
of-ok (Ok a) ok p = p
of-ok (Err e) ok p = absurd (true≢false (sym ok))

pub not-err : {A E P : Type 0} (r : Result A E) → false ≡ is_err r → OnOk r P → P
not-err (Ok a) fine p = p
not-err (Err e) fine p = absurd (true≢false (sym fine))

pub is-refused : {A E P : Type 0} (r : Result A E) → true ≡ is_err r → OnErr r P → P
is-refused (Ok a) refused p = absurd (true≢false refused)
is-refused (Err e) refused p = p

pub on-ok : {A E P Q : Type 0} (r : Result A E) → OnOk r P → (P → Q) → OnOk r Q
on-ok (Ok a) p more = more p
on-ok (Err e) p more = tt

pub on-err : {A E P Q : Type 0} (r : Result A E) → OnErr r P → (P → Q) → OnErr r Q
on-err (Ok a) p more = tt
on-err (Err e) p more = more p

pub either-way : {A E P Q R : Type 0} (r : Result A E) → OnOk r P → OnErr r Q → (P → R) → (Q → R) → R
either-way (Ok a) p q fine refused = fine p
either-way (Err e) p q fine refused = refused q
