-- A reading, by whether it is refused before the entries.
-- Assumes nothing.
use mathlib.Core.Path.{◌≡◌, ap}
use mathlib.Core.List.{List, [], flatten}
use Prim.Native.Nat.{ℕ}
use borrow.Author.Tests.{eq-eqb, ne_eqb}
use lib.ListN.{length}
use Rattle.bits.specs.Front.{onto}
use Rattle.entry.specs.Adapters.{kind_in}
use Rattle.drom.specs.Report.{refusal_of, refused_report, walked_report, walk_in, report_of, records_of, leaves_of}

module _ (list drom : List ℕ) (room : ℕ) where
  pub report_walked : refusal_of list drom room ≡ 0 → report_of list drom room ≡ walked_report drom (walk_in (kind_in list) drom)
  unfolding report_of
  report_walked h = rw (eq-eqb (refusal_of list drom room) 0 h)

  pub report_refused : (refusal_of list drom room ≡ 0 → ⊥) → report_of list drom room ≡ refused_report (refusal_of list drom room)
  unfolding report_of
  report_refused h = rw (ne_eqb (refusal_of list drom room) 0 h)

  pub records_walked : refusal_of list drom room ≡ 0 → records_of list drom room ≡ flatten (walk_in (kind_in list) drom).records
  unfolding records_of
  records_walked h = rw (eq-eqb (refusal_of list drom room) 0 h)

  pub records_refused : (refusal_of list drom room ≡ 0 → ⊥) → records_of list drom room ≡ []
  unfolding records_of
  records_refused h = rw (ne_eqb (refusal_of list drom room) 0 h)

module _ (list drom buffer : List ℕ) where
  pub leaves_walked : refusal_of list drom (length buffer) ≡ 0 → leaves_of list drom buffer ≡ onto (flatten (walk_in (kind_in list) drom).records) buffer
  leaves_walked h = ap (λ (records : List ℕ). onto records buffer) (records_walked list drom (length buffer) h)

  pub leaves_refused : (refusal_of list drom (length buffer) ≡ 0 → ⊥) → leaves_of list drom buffer ≡ buffer
  leaves_refused h = ap (λ (records : List ℕ). onto records buffer) (records_refused list drom (length buffer) h)
