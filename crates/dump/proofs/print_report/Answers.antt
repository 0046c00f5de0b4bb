-- The records' lines follow the verdict's.
use Rattle.std.proofs.Common.{ℕ, List, ◌++◌, OnOk, Result, Ok, Err}
use Rattle.std.specs.declared.option.Option.{Option}
use Rattle.std.specs.Io.KnownBytes.{Appends}
use Rattle.std.proofs.KnownBytes.{Appends-trans}
use Rattle.dump.proofs.print_report.Goals as goal

-- what was appended before a call that appends
also_before : {T E : Type 0} (r : Result T E) (a b c : Option (List ℕ)) (xs ys : List ℕ) → Appends a b xs → OnOk r (Appends b c ys) → OnOk r (Appends a c (xs ++ ys))
also_before (Ok x) a b c xs ys first second = Appends-trans a b c xs ys first second
also_before (Err e) a b c xs ys first second = tt

pub returns : goal.returns
returns g c = also_before c.print_records.result _ _ _ _ _ c.in_ok-print_verdict.ensures c.print_records.ensures
