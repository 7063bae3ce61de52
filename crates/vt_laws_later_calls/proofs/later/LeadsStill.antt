-- Where walks lead for who may search what the caller searched, or everything.
use Rattle.std.proofs.Common.{◌≡◌, ap, ◌∙◌, inl, inr, ◌⊎◌, ℕ, nat_eq, true, false, is_some}
use Rattle.vt_spec.proofs.Common.{IsWorld, Location, Task, World, denial, execute_right, is_directory_at, looks_of, may, mount_at, node_allows, node_at}
use Rattle.vt_laws_later_calls.proofs.Common.{Deny, IsPlain, W4}
use Rattle.vt_laws_later_calls.proofs.Looked.{search_all}
use Rattle.vt_laws_later_calls.proofs.Readers.{MayLook, RightsLeft}
use Rattle.vt_laws_later_calls.proofs.Ways.{LeadsToo}
use Rattle.vt_laws_later_calls.proofs.later.WaysLeft.{Known, SeesStill, node_here, there_later, ways_lead}
use Rattle.vt_laws_later_calls.proofs.WaysStay.{node_in}

module _ {world later : World ℕ} {is : IsWorld nat_eq world} {left : IsWorld nat_eq later × IsPlain later}
    {task reader : Task ℕ} {Refused : Deny → Type 0} {Fits : Location ℕ → Type 0}
    (still : SeesStill is left task reader Refused Fits) (looks : MayLook task reader)
    (rights : RightsLeft world later) where
  searched : (here : Location ℕ) → Known is left task reader still here → is_directory_at nat_eq world here ≡ true
      → may (looks_of nat_eq world) task here execute_right ≡ true
      → (may (looks_of nat_eq later) reader here execute_right ≡ true)
      ⊎ ((may (looks_of nat_eq later) reader here execute_right ≡ false) × Refused (denial W4))
  searched here known directory e = inl (by looks)
    where
      here_is : node_at nat_eq later here ≡ node_in later (mount_at nat_eq world here).filesystem here.node
      here_is = node_here is left task reader still here known.0

      there : is_some (node_in later (mount_at nat_eq world here).filesystem here.node) ≡ true
      there = there_later is left task reader still here known.0

      by : MayLook task reader → may (looks_of nat_eq later) reader here execute_right ≡ true
      by (inr all) = search_all reader.credentials all (node_at nat_eq later here)
          (cc (here_is, still.stay.directory (mount_at nat_eq world here).filesystem here.node known.0.0.1 there))
      by (inl same) = ap (λ who. node_allows who execute_right (node_at nat_eq later here)) same
          ∙ ap (node_allows task.credentials execute_right) here_is
          ∙ rights (mount_at nat_eq world here).filesystem here.node there known.0.0.1 task.credentials execute_right
          ∙ e

  pub leads_still : Fits task.root → Fits task.directory
      → LeadsToo (looks_of nat_eq world) (looks_of nat_eq later) task reader Refused (Known is left task reader still)
  leads_still = ways_lead is left task reader still searched
