-- Places in which what has the name is kept, or is not.
use Rattle.std.proofs.Common.{◌≡◌, ◌∙◌, ◌+◌, ◌-◌, ap, arith, Bool, false, List, refl, true, ℕ}
use Rattle.vt_births.specs.Births.{BirthsValue}
use Rattle.vt_births.specs.Kept.{KeptValue}
use Rattle.vt_fs.specs.FilesystemsValue.{Filesystems}
use Rattle.vt_location.specs.declared.locations.NodeRef.{NodeRef}
use Rattle.vt_upper.specs.declared.making.Place.{Place}
use Rattle.vt_upper.specs.declared.making.Place.TheVariants.{Copied, There}
use Rattle.vt_upper.specs.declared.making.Spot.{Spot}
use Rattle.vt_upper.specs.declared.losing.Losing.{Losing}
use Rattle.vt_upper.specs.declared.losing.Losing.TheVariants.{Last, Named}
use Rattle.vt_upper.specs.Losing.{IsKeeping, IsNotKept}
use Rattle.vt_upper.specs.New.{HasName, IsNameReady, IsPlaceOf, IsPlaceReady, IsRemovalReady, keeping, many_in}
use Rattle.vt_upper_overlay.specs.UpperValue.{UpperOverlayValue}

module _ (keeps : Bool) where
  pub keeping_so : (place : Place) → IsKeeping keeps (keeping keeps place)
  keeping_so (There spot) = refl
  keeping_so (Copied copies room) = tt

  pub many_keeping : (place : Place) → many_in (keeping keeps place) ≡ many_in place
  many_keeping (There spot) = refl
  many_keeping (Copied copies room) = refl

  pub place_keeping : (trees : Filesystems) (overlay : UpperOverlayValue) (node : NodeRef) (place : Place)
      → IsPlaceOf trees overlay node place → IsPlaceOf trees overlay node (keeping keeps place)
  place_keeping trees overlay node (There spot) is = is
  place_keeping trees overlay node (Copied copies room) is = is

  name_keeping : (trees : Filesystems) (spot : Spot) (name : List ℕ) → HasName trees spot name
      → HasName trees (record spot { keeps = keeps }) name
  name_keeping trees spot name has = record {
    directory_there = has.directory_there;
    leads = has.leads;
    leaves = has.leaves;
    used = has.used;
  }

  module _ (name : List ℕ) (trees : Filesystems) (births : BirthsValue) (room : ℕ) where
    put_keeping : (place : Place) → IsPlaceReady place name trees births room
        → IsPlaceReady (keeping keeps place) name trees births room
    put_keeping (There spot) ready = (name_keeping trees spot name ready.0, ready.1, ready.2)
    put_keeping (Copied copies own) ready = ready

    named_keeping : (place : Place) → IsNameReady place name trees births room
        → IsNameReady (keeping keeps place) name trees births room
    named_keeping (There spot) ready = name_keeping trees spot name ready
    named_keeping (Copied copies own) ready = ready

    pub ready_keeping : (hidden : Bool) (place : Place) → IsRemovalReady hidden place name trees births room
        → IsRemovalReady hidden (keeping keeps place) name trees births room
    ready_keeping true place ready = put_keeping place ready
    ready_keeping false place ready = named_keeping place ready

-- promises keep nothing
pub not_kept_still : (losing : Losing) (kept : KeptValue) (nodes : ℕ) → IsNotKept losing kept
    → IsNotKept losing (record kept { promised = nodes })
not_kept_still Named kept nodes none = tt
not_kept_still (Last node uses) kept nodes none = none

-- an overlay in which births were promised, and a node that is kept
module _ (old new : UpperOverlayValue) (many : ℕ)
    (others : new ≡ record old { nodes = record old.nodes { births = new.nodes.births } })
    (births : new.nodes.births ≡ record old.nodes.births { promised = old.nodes.births.promised + many }) where
  pub kept_is : new.nodes.kept ≡ old.nodes.kept
  kept_is = ap (λ (overlay : UpperOverlayValue). overlay.nodes.kept) others

  pub promised_kept : (kept : KeptValue) (more : ℕ)
      → kept ≡ record new.nodes.kept { promised = new.nodes.kept.promised + more }
      → record new { nodes = record new.nodes { kept = kept } }
      ≡ record old {
        nodes = record {
          births = record old.nodes.births { promised = old.nodes.births.promised + many };
          kept = record old.nodes.kept { promised = old.nodes.kept.promised + more };
        };
      }
  promised_kept kept more is = λ i. record (others i) {
    nodes = record {
      births = births i;
      kept = (is ∙ ap (λ (k : KeptValue). record k { promised = k.promised + more }) kept_is) i;
    };
  }

  -- or the promise failed, and they are given back
  pub given_up : (kept : KeptValue) → kept ≡ new.nodes.kept
      → record new {
        nodes = record {
          births = record new.nodes.births { promised = new.nodes.births.promised - many };
          kept = kept;
        };
      } ≡ old
  given_up kept is =
      (λ i. record (others i) {
        nodes = record {
          births = record (births i) { promised = (births i).promised - many };
          kept = (is ∙ kept_is) i;
        };
      })
      ∙ (λ i. record old {
        nodes = record { births = record old.nodes.births { promised = same i }; kept = old.nodes.kept };
      })
    where
      same : old.nodes.births.promised + many - many ≡ old.nodes.births.promised
      same = omega arith
