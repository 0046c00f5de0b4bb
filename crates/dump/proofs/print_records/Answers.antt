-- The line that was written and the lines of the records that are left are the lines of the records from this one on.
use Rattle.std.proofs.Common.{◌≡◌, ℕ, suc, ◌+◌, ◌-◌, List, ◌++◌, arith, drop, sym, ap, subst, ◌∙◌}
use Rattle.std.specs.Io.KnownBytes.{Appends}
use Rattle.std.proofs.KnownBytes.{Appends-trans}
use Rattle.record.specs.Step.{head_in, record_size}
use Rattle.dump.specs.Lines.{head_line, head_lines}
use Rattle.dump.proofs.print_records.Goals as goal

-- one line more
one_more : (n m : ℕ) (bs rest : List ℕ) → n ≡ suc m → rest ≡ drop (record_size bs) bs → head_lines n bs ≡ head_line (head_in bs) ++ head_lines m rest
one_more n m bs rest e behind = ap (λ k. head_lines k bs) e ∙ ap (λ ys. head_line (head_in bs) ++ head_lines m ys) (sym behind)

pub loop-preserved : goal.loop-preserved
loop-preserved g c =
    λ told later.
    let left : c.args.count - c.loop.counter ≡ suc (c.args.count - (c.loop.counter + 1)) = omega arith in
    c.loop.invariant told
    (subst (Appends _ _) (sym (one_more _ _ c.loop.rest.now c.after_record-rest.result.now left c.after_record-rest.ensures))
    (Appends-trans _ _ _ _ _ c.in_ok-print_head.ensures later))
