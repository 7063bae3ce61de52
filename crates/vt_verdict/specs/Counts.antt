-- How scripts are counted that pass or fail.
use Rattle.std.specs.Prelude.{if◌then◌else◌, min, ℕ, ◌+◌, ◌-◌, ◌==◌, ◌^◌}
use Rattle.vt_verdict.specs.declared.counts.Totals.{Totals}

-- one more; the largest number stays
abbrev pub one_more : ℕ → ℕ
one_more count = min (count + 1) (2 ^ 64 - 1)

-- with one script more, of which so many lines are answered otherwise than is wanted: it passes just if there is none
abbrev pub counted : ℕ → Totals → Totals
counted differences totals =
    if differences == 0 then record totals { passed = one_more totals.passed }
    else record totals { failed = one_more totals.failed }
