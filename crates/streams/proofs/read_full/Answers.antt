-- A read lays its bytes behind those that stand at the buffer's front, and together these are what was taken so far.
use Rattle.std.proofs.Common.{◌≡◌, ℕ, ◌+◌, ◌≤◌, List, ◌++◌, rules, length, take, sym, ap, ◌∙◌, subst, le_refl, drop_at, length-take-le, drop}
use Rattle.std.proofs.lemmas.Slice.{take-put_mid_below}
use Rattle.std.proofs.KnownBytes.{Consumes-trans}
use Rattle.std.specs.Io.KnownBytes.{Consumes}
use borrow.Rule.Slice.PartMut.{put_mid, post_of}
use lib.Seq.{take-add, take-append-le}
use Rattle.streams.proofs.read_full.Goals as goal

-- with the first n bytes of ys laid behind the first a of xs
front_grown : (a k n : ℕ) (xs ys : List ℕ) → a ≤ length xs → n ≤ length ys → take a xs ++ take n ys ≡ take (a + n) (put_mid a k xs ys)
front_grown a k n xs ys within fits =
    let after = post_of a k xs in
    let behind : take n (drop a (put_mid a k xs ys)) ≡ take n ys =
    ap (take n) (drop_at (take a xs) (ys ++ after) a (length-take-le a xs within)) ∙ take-append-le n ys after fits in
    let front : take a (put_mid a k xs ys) ≡ take a xs = take-put_mid_below _ _ _ _ _ (le_refl _) within in
    ap (λ l. l ++ take n ys) (sym front) ∙ ap (λ l. take a (put_mid a k xs ys) ++ l) (sym behind) ∙ sym (take-add a n (put_mid a k xs ys))

pub loop-done-preserved : goal.loop-done-preserved
loop-done-preserved g c =
    let before = c.loop-done.invariant in
    let bytes = c.in_ok-n.ensures in
    record {
      same_length = search rules;
      within = search rules;
      taken = subst (Consumes _ _)
          (front_grown c.loop-done.done _ c.in_ok-n.n c.loop-done.buf c.read.new.buf before.within bytes.bound.0)
          (Consumes-trans _ _ _ _ _ before.taken bytes.bytes.0);
    }
