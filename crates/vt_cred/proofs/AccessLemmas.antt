-- Each test of the rules of access against its words.
use Rattle.std.proofs.Common.{◌≡◌, ℕ, ◌==◌, Bool, true, false, not, ◌&&◌, ◌||◌, ◌⊎◌, if◌then◌else◌, refl, inl, inr, ⊎_elim, Decides}
use Rattle.vt_spec.proofs.Common.{Credentials, Decides-at, allows, execute_right, false≢true, has_all, is_directory, list_any, owns}
use Rattle.std.proofs.lemmas.Bool.Decides.{Decides-eqb, Decides-and, Decides-or, Decides-not, Decides-like, Decides-by_or}
use Rattle.std.proofs.lemmas.List.Elements.{Decides-contains}
use Rattle.vt_spec.specs.declared.attributes.Kind.{Kind}
use Rattle.vt_spec.specs.declared.attributes.Kind.TheVariants.{Dir, File, Symlink, White}
use Rattle.vt_spec.specs.declared.attributes.Attr.{Attr}
use Rattle.vt_spec.specs.Rights.{cap_dac_override, cap_dac_read_search, cap_fowner, owner_bits, group_bits, other_bits, is_sticky, is_member, class_bits, has_execute_bit, override_grants, read_search_grants, may_delete_sticky}
use Rattle.vt_cred.specs.Access.{Includes, IsInGroup, ClassGrants, HasExecuteBit, OverrideGrants, ReadSearchGrants, Allows, Owns, MayDeleteSticky}
use Rattle.vt_cred.proofs.BitLemmas.{Decides-has_all, Decides-IsBitSet}

regroup : {A B C : Type 0} → (A ⊎ B) ⊎ C → A ⊎ B ⊎ C
regroup = ⊎_elim (⊎_elim inl (λ b. inr (inl b))) (λ c. inr (inr c))

regroup_back : {A B C : Type 0} → A ⊎ B ⊎ C → (A ⊎ B) ⊎ C
regroup_back = ⊎_elim (λ a. inl (inl a)) (⊎_elim (λ b. inl (inr b)) inr)

regroup_four : {A B C D : Type 0} → (A ⊎ B ⊎ C) ⊎ D → A ⊎ B ⊎ C ⊎ D
regroup_four = ⊎_elim (⊎_elim inl (⊎_elim (λ b. inr (inl b)) (λ c. inr (inr (inl c))))) (λ d. inr (inr (inr d)))

regroup_four_back : {A B C D : Type 0} → A ⊎ B ⊎ C ⊎ D → (A ⊎ B ⊎ C) ⊎ D
regroup_four_back = ⊎_elim (λ a. inl (inl a)) (⊎_elim (λ b. inl (inr (inl b))) (⊎_elim (λ c. inl (inr (inr c))) inr))

Decides-or_of_three : {A B C : Type 0} (a b c : Bool) → Decides a A → Decides b B → Decides c C
    → Decides (a || b || c) (A ⊎ B ⊎ C)
Decides-or_of_three a b c by_a by_b by_c =
    Decides-like (a || b || c) regroup regroup_back (Decides-or (a || b) c (Decides-or a b by_a by_b) by_c)

pub Decides-is_member : (who : Credentials) (gid : ℕ) → Decides (is_member who gid) (IsInGroup who gid)
Decides-is_member who gid =
    let is_gid : ℕ → Bool = λ g. g == gid in
    let further = Decides-contains who.groups gid (list_any is_gid who.groups)
    (Decides-by_or is_gid (λ g. g ≡ gid) (list_any is_gid) (λ g. Decides-eqb g gid) refl (λ _ _. refl) who.groups) in
    Decides-or (who.gid == gid) (list_any is_gid who.groups) (Decides-eqb who.gid gid) further

-- the one class that counts, by whether the caller owns the object and whether he is in its group
Decides-class : {O G A B C : Type 0} (owner group a b c : Bool) → Decides owner O → Decides group G → Decides a A
    → Decides b B → Decides c C → Decides (if owner then a else if group then b else c)
    ((O × A) ⊎ ((¬ O) × G × B) ⊎ ((¬ O) × (¬ G) × C))
Decides-class true group a b c by_owner by_group by_a by_b by_c =
    let is_owner = by_owner.0 refl in (
      (λ held. inl (is_owner, by_a.0 held)),
      ⊎_elim (λ p. by_a.1 p.1) (⊎_elim (λ p. absurd (p.0 is_owner)) (λ p. absurd (p.0 is_owner))),
    )
Decides-class false true a b c by_owner by_group by_a by_b by_c =
    let in_group = by_group.0 refl in (
      (λ held. inr (inl ((λ o. false≢true (by_owner.1 o)), in_group, by_b.0 held))),
      ⊎_elim (λ p. absurd (false≢true (by_owner.1 p.0))) (⊎_elim (λ p. by_b.1 p.2) (λ p. absurd (p.1 in_group))),
    )
Decides-class false false a b c by_owner by_group by_a by_b by_c = (
  (λ held. inr (inr ((λ o. false≢true (by_owner.1 o)), (λ g. false≢true (by_group.1 g)), by_c.0 held))),
  ⊎_elim (λ p. absurd (false≢true (by_owner.1 p.0)))
      (⊎_elim (λ p. absurd (false≢true (by_group.1 p.1))) (λ p. by_c.1 p.2)),
)

has_all-class : (owner group : Bool) (a b c wanted : ℕ) → has_all (if owner then a else if group then b else c) wanted
    ≡ (if owner then has_all a wanted else if group then has_all b wanted else has_all c wanted)
has_all-class true group a b c wanted = refl
has_all-class false true a b c wanted = refl
has_all-class false false a b c wanted = refl

Decides-class_bits : (who : Credentials) (attr : Attr) (wanted : ℕ)
    → Decides (has_all (class_bits who attr) wanted) (ClassGrants who attr wanted)
Decides-class_bits who attr wanted =
    let owner = who.uid == attr.uid in
    let group = is_member who attr.gid in
    let a = has_all (owner_bits attr.mode) wanted in
    let b = has_all (group_bits attr.mode) wanted in
    let c = has_all (other_bits attr.mode) wanted in
    let by_class = Decides-class owner group a b c (Decides-eqb who.uid attr.uid) (Decides-is_member who attr.gid)
    (Decides-has_all (owner_bits attr.mode) wanted) (Decides-has_all (group_bits attr.mode) wanted)
    (Decides-has_all (other_bits attr.mode) wanted) in
    Decides-at (has_all (class_bits who attr) wanted) (if owner then a else if group then b else c)
    (has_all-class owner group (owner_bits attr.mode) (group_bits attr.mode) (other_bits attr.mode) wanted) by_class

Decides-is_directory : (kind : Kind) → Decides (is_directory kind) (kind ≡ Dir)
Decides-is_directory Dir = ((λ _. refl), (λ _. refl))
Decides-is_directory File = ((λ e. absurd (false≢true e)), (λ e. cc))
Decides-is_directory Symlink = ((λ e. absurd (false≢true e)), (λ e. cc))
Decides-is_directory White = ((λ e. absurd (false≢true e)), (λ e. cc))

Decides-has_execute_bit : (mode : ℕ) → Decides (has_execute_bit mode) (HasExecuteBit mode)
Decides-has_execute_bit mode =
    Decides-or_of_three (has_all (owner_bits mode) execute_right) (has_all (group_bits mode) execute_right)
    (has_all (other_bits mode) execute_right) (Decides-has_all (owner_bits mode) execute_right)
    (Decides-has_all (group_bits mode) execute_right) (Decides-has_all (other_bits mode) execute_right)

Decides-override : (who : Credentials) (attr : Attr) (kind : Kind) (wanted : ℕ)
    → Decides (has_all who.capabilities cap_dac_override && override_grants attr kind wanted)
    (OverrideGrants who attr kind wanted)
Decides-override who attr kind wanted =
    let executes = has_all wanted execute_right in
    let granted = Decides-or_of_three (is_directory kind) (not executes) (has_execute_bit attr.mode)
    (Decides-is_directory kind) (Decides-not executes (Decides-has_all wanted execute_right))
    (Decides-has_execute_bit attr.mode) in
    Decides-and (has_all who.capabilities cap_dac_override) (override_grants attr kind wanted)
    (Decides-has_all who.capabilities cap_dac_override) granted

-- a directory's search goes with read, and read alone is granted of everything
Decides-by_kind : (directory : Bool) (kind : Kind) (wanted : ℕ) → Decides directory (kind ≡ Dir)
    → Decides (if directory then has_all 5 wanted else has_all 4 wanted)
    (Includes 4 wanted ⊎ ((kind ≡ Dir) × Includes 5 wanted))
Decides-by_kind true kind wanted by_kind =
    let read_of_both = (Decides-has_all 5 4).0 refl in
    let both = Decides-has_all 5 wanted in (
      (λ held. inr (by_kind.0 refl, both.0 held)),
      ⊎_elim (λ reads. both.1 (λ place is_wanted. read_of_both place (reads place is_wanted))) (λ p. both.1 p.1),
    )
Decides-by_kind false kind wanted by_kind =
    let read = Decides-has_all 4 wanted in
    ((λ held. inl (read.0 held)), ⊎_elim read.1 (λ p. absurd (false≢true (by_kind.1 p.0))))

Decides-read_search : (who : Credentials) (kind : Kind) (wanted : ℕ)
    → Decides (has_all who.capabilities cap_dac_read_search && read_search_grants kind wanted)
    (ReadSearchGrants who kind wanted)
Decides-read_search who kind wanted =
    Decides-and (has_all who.capabilities cap_dac_read_search) (read_search_grants kind wanted)
    (Decides-has_all who.capabilities cap_dac_read_search)
    (Decides-by_kind (is_directory kind) kind wanted (Decides-is_directory kind))

pub Decides-allows : (who : Credentials) (attr : Attr) (kind : Kind) (wanted : ℕ)
    → Decides (allows who attr kind wanted) (Allows who attr kind wanted)
Decides-allows who attr kind wanted = Decides-or_of_three (has_all (class_bits who attr) wanted)
    (has_all who.capabilities cap_dac_override && override_grants attr kind wanted)
    (has_all who.capabilities cap_dac_read_search && read_search_grants kind wanted)
    (Decides-class_bits who attr wanted) (Decides-override who attr kind wanted) (Decides-read_search who kind wanted)

pub Decides-owns : (who : Credentials) (attr : Attr) → Decides (owns who attr) (Owns who attr)
Decides-owns who attr =
    Decides-or (who.uid == attr.uid) (has_all who.capabilities cap_fowner) (Decides-eqb who.uid attr.uid)
    (Decides-has_all who.capabilities cap_fowner)

pub Decides-may_delete_sticky : (who : Credentials) (directory object : Attr)
    → Decides (may_delete_sticky who directory object) (MayDeleteSticky who directory object)
Decides-may_delete_sticky who directory object =
    let sticky = is_sticky directory.mode in
    let of_object = who.uid == object.uid in
    let of_directory = who.uid == directory.uid in
    let has_fowner = has_all who.capabilities cap_fowner in
    let by_owner = Decides-or_of_three (not sticky) of_object of_directory
    (Decides-not sticky (Decides-IsBitSet directory.mode 9)) (Decides-eqb who.uid object.uid)
    (Decides-eqb who.uid directory.uid) in
    Decides-like (not sticky || of_object || of_directory || has_fowner) regroup_four regroup_four_back
    (Decides-or (not sticky || of_object || of_directory) has_fowner by_owner
    (Decides-has_all who.capabilities cap_fowner))
