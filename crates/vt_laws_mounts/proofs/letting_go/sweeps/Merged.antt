-- Inodes of one kind of filesystem go one by one, overlays among them.
use Rattle.std.proofs.Common.{arith, ◌≡◌, refl, sym, ap, ◌∙◌, ℕ, nat_eq, Bool, true, false, cond, not, ◌||◌, ◌&&◌, List, [], filter, true≢false, Option, Some, None, option_map}
use Rattle.vt_spec.proofs.Common.{Filesystem, ListsNumbers, Overlay, cases_Bool, common_steps, filter_alike, filter_all, is_among, list_all, named_in, only_used_by, only_used_of, real_among, targets_in}
use Rattle.vt_laws_mounts.specs.LettingGo.Overlays.{real_in}
use Rattle.vt_laws_mounts.proofs.letting_go.Lists.{Among, filter_twice, flat_map-filter, flat_map_alike, among_numbers, is_among_numbers, among_from_list_all}
use Rattle.std.proofs.Math.Bool.{not-not}

-- without the real objects of the inodes that a test names
abbrev pub reals_without : (ℕ → Bool) → Overlay ℕ → Overlay ℕ
reals_without gone overlay = record overlay { real = λ number. cond (gone number) None (overlay.real number) }

-- a filesystem without the inodes that a test names, and their real objects
abbrev pub without_all : (ℕ → Bool) → Filesystem ℕ → Filesystem ℕ
without_all gone filesystem = record filesystem {
  files = record {
    tree = record {
      root = filesystem.files.tree.root;
      node = λ number. cond (gone number) None (filesystem.files.tree.node number);
    };
    numbers = filter (λ number. not (gone number)) filesystem.files.numbers;
  };
  overlay = option_map (reals_without gone) filesystem.overlay;
}

pub without_nothing : (filesystem : Filesystem ℕ) → without_all (λ number. false) filesystem ≡ filesystem
without_nothing filesystem = grind (arith, common_steps, filter_all)

-- without some, and then without others
pub without_both : (some others both : ℕ → Bool) → ((number : ℕ) → both number ≡ (some number || others number))
    → (filesystem : Filesystem ℕ) → without_all others (without_all some filesystem) ≡ without_all both filesystem
without_both some others both h filesystem = λ i. record filesystem {
  files = record {
    tree = record {
      root = filesystem.files.tree.root;
      node = λ number. twice (filesystem.files.tree.node number) number i;
    };
    numbers = filter_twice (λ number. not (others number)) (λ number. not (some number)) (λ number. not (both number))
        (λ number. ap not (h number) ∙ nots (some number) (others number)) filesystem.files.numbers i;
  };
  overlay = reals filesystem.overlay i;
}
  where
    nots : (a b : Bool) → not (a || b) ≡ (not a && not b)
    nots true b = refl
    nots false b = refl

    twice : {A : Type 0} (o : Option A) (number : ℕ)
        → cond (others number) None (cond (some number) None o) ≡ cond (both number) None o
    twice o number = grind (arith, common_steps)

    reals : (o : Option (Overlay ℕ)) → option_map (reals_without others) (option_map (reals_without some) o)
        ≡ option_map (reals_without both) o
    reals None = refl
    reals (Some overlay) = λ i. Some (record overlay { real = λ number. twice (overlay.real number) number i })

-- What goes has no entries, so all names stay.
pub named_without : (gone : ℕ → Bool) (filesystem : Filesystem ℕ)
    → ((number : ℕ) → gone number ≡ true → targets_in (filesystem.files.tree.node number) ≡ [])
    → named_in (without_all gone filesystem).files ≡ named_in filesystem.files
named_without gone filesystem empty = grind (arith, common_steps, flat_map_alike, flat_map-filter, true≢false)

-- an inode that is not there has no real object
abbrev pub HasReals : Filesystem ℕ → Type 0
HasReals filesystem = (number : ℕ) → filesystem.files.tree.node number ≡ None → real_in filesystem number ≡ None

-- What is not there may be named, or not.
pub same_without : (a b : ℕ → Bool) (filesystem : Filesystem ℕ) → ListsNumbers nat_eq filesystem.files
    → HasReals filesystem
    → ((number : ℕ) → is_among nat_eq number filesystem.files.numbers ≡ true → a number ≡ b number)
    → without_all a filesystem ≡ without_all b filesystem
same_without a b filesystem numbers has h =
    grind (arith, common_steps, cases_Bool, filter_alike, is_among_numbers, true≢false)

-- What the sweep leaves is what is used.
pub left_of : (used : List ℕ) (filesystem : Filesystem ℕ) → ListsNumbers nat_eq filesystem.files → HasReals filesystem
    → only_used_of nat_eq used filesystem ≡ without_all (λ number. not (is_among nat_eq number used)) filesystem
left_of used filesystem numbers has = by _ refl
  where
    flipped : {A : Type 0} (o : Option A) (u : Bool) → cond u o None ≡ cond (not u) None o
    flipped o true = refl
    flipped o false = refl

    reals : (o : Option (Overlay ℕ)) → option_map (real_among nat_eq used) o
        ≡ option_map (reals_without (λ number. not (is_among nat_eq number used))) o
    reals None = refl
    reals (Some overlay) = λ i. Some
        (record overlay { real = λ number. flipped (overlay.real number) (is_among nat_eq number used) i })

    by : (all : Bool) → list_all (λ number. is_among nat_eq number used) filesystem.files.numbers ≡ all
        → only_used_by nat_eq all used filesystem ≡ without_all (λ number. not (is_among nat_eq number used)) filesystem
    by true e = sym (without_nothing _) ∙ same_without _ _ _ numbers has
        (λ number there. ap not (sym (among_from_list_all _ _ e number (among_it number there))))
      where
        among_it : (number : ℕ) → is_among nat_eq number filesystem.files.numbers ≡ true
            → Among number filesystem.files.numbers
        among_it number there = among_numbers number _ there
    by false e = λ i. record filesystem {
      files = record {
        tree = record {
          root = filesystem.files.tree.root;
          node = λ number. flipped (filesystem.files.tree.node number) (is_among nat_eq number used) i;
        };
        numbers = filter_alike (λ number. is_among nat_eq number used)
            (λ number. not (not (is_among nat_eq number used))) filesystem.files.numbers
            (λ number m. sym (not-not (is_among nat_eq number used))) i;
      };
      overlay = reals filesystem.overlay i;
    }
