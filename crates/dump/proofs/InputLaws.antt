-- The bytes that are read are the front of the input, so the lines of these bytes are the input's.
use Rattle.std.proofs.Common.{◌≡◌, inl, inr, ℕ, ◌<◌, ◌≤◌, List, [], ◌++◌, length, take, replicate, OnOk, IfSome, Result, Ok, Err, None, Some, sym, ap, subst, ◌∙◌, arith, take_all, append-nil}
use Rattle.std.proofs.lemmas.Bool.{cases_lt}
use Rattle.std.proofs.Math.Seq.{take-append_seam}
use Rattle.std.specs.declared.option.Option.{Option}
use Rattle.std.specs.Io.KnownBytes.{Appends, Consumes, IsAtEnd}
use Rattle.drom.specs.Report.{report_of, leaves_of}
use Rattle.drom.specs.declared.reader.Report.{Report}
use Rattle.dump.specs.Lines.{report_lines, drom_lines, input_lines}

-- What was taken for a buffer of m bytes is the front of what there was: it fills the buffer, or nothing is left.
front_taken : (m : ℕ) (xs bs ys : List ℕ) → length bs ≤ m → xs ≡ bs ++ ys → (length bs < m → ys ≡ []) → bs ≡ take m xs
front_taken m xs bs ys fits taken end =
    elim (cases_lt (length bs) m) [
      | inl short ↦
          let all : xs ≡ bs = taken ∙ ap (λ l. bs ++ l) (end short) ∙ append-nil bs in
          sym (ap (take m) all ∙ take_all m bs fits)
      | inr full ↦
          let same : m ≡ length bs = omega arith in
          sym (ap (λ k. take k xs) same ∙ ap (take (length bs)) taken ∙ take-append_seam bs ys)
    ]

-- where the bytes of the input are known
pub input_told : {T E : Type 0} (r : Result T E) (p q a b : Option (List ℕ)) (bs : List ℕ) → length bs ≤ 4109 → Consumes p q bs → (length bs < 4109 → IsAtEnd q)
    → OnOk r (Appends a b (drom_lines bs)) → OnOk r (IfSome p (λ xs. Appends a b (input_lines xs)))
input_told (Err e) p q a b bs fits taken end told = tt
input_told (Ok x) None q a b bs fits taken end told = tt
input_told (Ok x) (Some xs) None a b bs fits taken end told = absurd taken
input_told (Ok x) (Some xs) (Some ys) a b bs fits taken end told =
    subst (λ l. Appends a b (drom_lines l)) (front_taken 4109 xs bs ys fits taken end) told

-- a report's lines, where the report and the records are a DROM's
pub drom_told : {T E : Type 0} (r : Result T E) (a b : Option (List ℕ)) (bs : List ℕ) (report : Report) (records : List ℕ)
    → report ≡ report_of [] bs 16368 → records ≡ leaves_of [] bs (replicate 16368 0)
    → OnOk r (Appends a b (report_lines report records)) → OnOk r (Appends a b (drom_lines bs))
drom_told r a b bs report records is left told =
    subst (λ x. OnOk r (Appends a b (report_lines x (leaves_of [] bs (replicate 16368 0))))) is
    (subst (λ ys. OnOk r (Appends a b (report_lines report ys))) left told)
