-- What is written stands behind what was there, as far as there is room.
use Rattle.std.proofs.Common.{rules, ◌≡◌, ◌≤◌, ℕ, List, ◌++◌, length, take, min, ◌+◌, ◌-◌, ◌∙◌, ap, arith, sym, append-nil, length-take-le, drop_of_length-le}
use Rattle.std.proofs.lemmas.Slice.{take-put_mid}
use Rattle.std.proofs.lemmas.List.{take_min}
use Rattle.std.proofs.Math.Seq.{take-append-add}
use borrow.Rule.Slice.PartMut.{put_mid}
use Rattle.bits.specs.Front.{Put}
use Rattle.bits.proofs.LawsFront.{fitted}
use Rattle.lines.proofs.text.TextWrite.write_str.Goals as goal

fits : (N len n k : ℕ) (bytes s y : List ℕ) → len ≤ N → N ≡ length bytes → n ≡ min (length s) (N - len) → y ≡ take n s
    → take (len + n) (put_mid len k bytes y) ≡ take N (take len bytes ++ s)
fits N len n k bytes s y within room least copied =
    let front : length (take len bytes) ≡ len = length-take-le len bytes (omega arith) in
    let whole : length (take len bytes) + (N - len) ≡ N = omega arith in
    let long : length y ≡ n = ap length copied ∙ length-take-le n s (omega arith) in
    let least_other : min (N - len) (length s) ≡ n = omega arith in
    let cut : take (N - len) s ≡ take n s = sym (take_min (N - len) s) ∙ ap (λ k. take k s) least_other in
    take-put_mid len k bytes y (len + n) (omega arith) (omega arith) ∙ ap (λ l. take len bytes ++ l) (copied ∙ sym cut)
    ∙ sym (take-append-add (take len bytes) s (N - len)) ∙ ap (λ k. take k (take len bytes ++ s)) whole

-- what is put into a part of just its length is all of the part
filled : (xs part part' : List ℕ) (k : ℕ) → length part ≡ length xs → Put xs part part' k → part' ≡ xs
filled xs part part' k same put =
    (fitted put (omega arith)).holds ∙ ap (λ t. xs ++ t) (drop_of_length-le part (omega arith)) ∙ append-nil xs

pub returns : goal.returns
returns g c = record { ok = λ _. fits g.row.N c.self.inside.len c.min-n.result _ c.self.inside.bytes c.args.s.now c.put_all.new.out (search rules) (search rules) (search rules) (filled _ _ _ _ (search rules) c.put_all.ensures ∙ ap (take c.min-n.result) c.as_bytes-bytes.ensures.value) ∙ ap (λ l. take g.row.N (l ++ c.args.s.now)) c.self.view_is }
