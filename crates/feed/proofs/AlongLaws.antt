-- Whole entries of a piece, one after the other: what holds in the loop that takes them at once. Then bytes in the middle of an entry.
-- Assumes nothing.
use Prim.Native.Nat.{ℕ, zero, suc, ◌+◌, ◌-◌, ◌*◌, ◌≤◌, ◌<◌}
use mathlib.Core.Path.{◌≡◌, refl, sym, ap, subst, ◌∙◌}
use mathlib.Core.List.{List, [], ◌∷◌, ◌++◌}
use native.Mathlib.Omega.{arith}
use native.Mathlib.Numerals.{add-one}
use lib.ListN.{length, get_or, take, drop, length-append, length-drop}
use lib.Seq.{sets, take_all, take-add, drop-cons, length-take-le, length-sets}
use Rattle.bits.specs.Bits.{Bytes}
use Rattle.bits.specs.Front.{onto, Put}
use Rattle.bits.proofs.LawsFront.{fitted, put_once, puts_sets}
use Rattle.std.specs.Prelude.{Result, Ok, Err}
use Rattle.entry.specs.declared.parse.DromEntry.{DromEntry}
use Rattle.entry.specs.declared.refusal.Refusal.{Refusal}
use Rattle.entry.specs.Decode.{number_of, decode_of}
use Rattle.record.specs.Write.{record_bytes, write_answer, write_leaves}
use Rattle.record.proofs.WriteLaws.{room_answer, room_leaves, answer_refused}
use Rattle.drom.specs.Header.{body_start}
use Rattle.feed.specs.declared.feeding.Core.{Core}
use Rattle.feed.specs.Run.{Run, run, step_of, steps}
use Rattle.feed.specs.Loop.{Good, Through}
use Rattle.feed.proofs.BoundsLaws.{start_small}
use Rattle.feed.proofs.StepLaws.{steps_nil, steps_cons, steps_append}
use Rattle.feed.proofs.EndLaws.{part_of, with_part, part_long, part_front}
use Rattle.feed.proofs.EntryBytes.{placed, passes, holds, Between, at_once}
use Rattle.feed.proofs.FeedLaws.{Held, held_turn}

part_same : (b part : List ℕ) (w : ℕ) → w ≤ length b → length part ≡ length (part_of b w) → length (with_part b w part) ≡ length b
part_same b part w h e =
    let rest : List ℕ = drop (length b - w) (drop w b) in
    omega (arith, length-append (take w b) (part ++ rest), length-append part rest, length-take-le w b h, e, part_long b w, length-drop (length b - w) (drop w b), length-drop w b)

-- i bytes of the piece lead from r₀ to r, which is between two entries and within the bounds
pub record Along (r₀ : Run) (xs : List ℕ) (r : Run) (i : ℕ) : Type 0 where
  pub same : r ≡ steps r₀ (take i xs)
  pub taken : r.core.taken ≡ r₀.core.taken + i
  pub up : i ≤ length xs
  pub left : length xs ≤ i + (r.core.announced - r.core.taken)
  pub between : Between r
  pub small : r.core.announced ≤ 4108
  pub fewer : r.core.count ≤ r.core.taken
  pub room : r.core.written ≤ 4 * (r.core.taken - 16)
  pub lent : 16368 ≤ length r.buffer
  pub long : length r.buffer ≡ length r₀.buffer

-- an entry of length l stands whole at i, and these are its bytes
pub record Whole (xs : List ℕ) (i l : ℕ) (bytes : List ℕ) : Type 0 where
  pub here : l ≡ get_or xs i 0
  pub some : 0 < l
  pub byte : l < 256
  pub whole : i + l ≤ length xs
  pub cut : bytes ≡ take l (drop i xs)

pub along_through : (r₀ : Run) (xs : List ℕ) (r : Run) (i : ℕ) → Along r₀ xs r i → Through r₀ xs i r
along_through r₀ xs r i a = record { same = a.same; within = a.up }

-- nothing was taken
pub through_still : (r : Run) (xs : List ℕ) (k : ℕ) (r' : Run) → Through r xs k r' → k ≡ 0 → r' ≡ r
through_still r xs k r' t z = t.same ∙ ap (λ (j : ℕ). steps r (take j xs)) z ∙ steps_nil r

pub through_none : (r : Run) (xs : List ℕ) → Through r xs 0 r
through_none r xs = record { same = sym (steps_nil r); within = omega arith }

pub along_start : (r : Run) (xs : List ℕ) → Good r → r.core.refusal ≡ 0 → r.core.fill ≡ 0 → 16 ≤ r.core.taken → body_start r.header ≤ r.core.taken
    → length xs ≤ r.core.announced - r.core.taken → Along r xs r 0
along_start r xs g z f t s l =
    let v = g.live z in
    let m = v.small t in
    record {
      same = sym (steps_nil r);
      taken = omega arith;
      up = omega arith;
      left = omega arith;
      between = record { going = z; empty = f; late = omega arith; past = omega arith; long = g.long };
      small = m;
      fewer = omega (arith, v.fewer);
      room = omega (arith, v.room, f);
      lent = g.lent;
      long = refl;
    }

-- a whole entry of l bytes was taken at once, and its record has n bytes
abbrev pub passed : Core → ℕ → ℕ → Core
passed c l n =
    record {
      announced = c.announced;
      taken = c.taken + l;
      refusal = c.refusal;
      offset = c.offset;
      register = c.register;
      fill = c.fill;
      count = c.count + 1;
      written = c.written + n;
    }

module _ (r₀ : Run) (xs : List ℕ) (r : Run) (i : ℕ) (a : Along r₀ xs r i) (l kind : ℕ) (bytes : List ℕ) (e : Whole xs i l bytes) where
  abbrev w : ℕ
  w = r.core.written

  abbrev b : List ℕ
  b = r.buffer

  size : length bytes ≡ l
  size = ap length e.cut ∙ length-take-le l (drop i xs) (omega (arith, length-drop i xs, e.whole))

  pub enough : r.core.written + 4 * l ≤ length r.buffer
  enough = omega (arith, a.lent, a.room, a.small, a.taken, a.left, a.between.late, e.whole)

  roomy : 4 * length bytes ≤ length (part_of b w)
  roomy = omega (arith, part_long b w, enough, size)

  -- nothing is written of an entry that has no record
  pub unwritten : (n : Refusal) (part : List ℕ) → part ≡ write_leaves bytes kind r.core.taken (part_of b w)
      → write_answer bytes kind r.core.taken (length (part_of b w)) ≡ Err n → with_part b w part ≡ b
  unwritten n part leaves answer =
      let is : decode_of kind bytes ≡ _ = answer_refused r.core.taken bytes (decode_of kind bytes) n (sym (room_answer bytes kind r.core.taken _ roomy) ∙ answer) in
      let none : part ≡ onto [] (part_of b w) =
      leaves ∙ room_leaves bytes kind r.core.taken (part_of b w) roomy ∙ ap (λ (d : Result DromEntry Refusal). onto (record_bytes r.core.taken bytes d) (part_of b w)) is
      in
      ap (with_part b w) none ∙ part_front b [] w (omega (arith, enough))

  -- a turn: an entry is recorded, and its bytes stand at the front of the pending ones
  pub turned : (n count-put : ℕ) (part p' : List ℕ) → kind ≡ get_or r.kinds (number_of bytes) 0 → length part ≡ length (part_of b w) → part ≡ write_leaves bytes kind r.core.taken (part_of b w)
      → write_answer bytes kind r.core.taken (length (part_of b w)) ≡ Ok n → Put bytes r.pending p' count-put
      → (n ≤ 4 * l) × Along r₀ xs (run (passed r.core l n) r.header p' r.kinds (with_part b w part)) (i + l)
  turned n count-put part p' listed lent leaves answer put =
      let t : List ℕ = drop (suc i) xs in
      let form : drop i xs ≡ l ∷ t = drop-cons xs i 0 (omega (arith, e.whole, e.some)) ∙ ap (λ (x : ℕ). x ∷ t) (sym e.here) in
      let is : bytes ≡ take l (l ∷ t) = e.cut ∙ ap (take l) form in
      let long : l ≤ length (l ∷ t) = omega (arith, ap length form, length-drop i xs, e.whole) in
      let told = at_once r l t a.between e.some e.byte (omega (arith, a.left, e.whole)) long kind n part (rw is at listed) enough (rw is at leaves) (rw is at answer) in
      let kept : p' ≡ sets r.pending 0 (take l (l ∷ t)) = (put_once put (puts_sets bytes r.pending (omega (arith, size, e.byte, a.between.long)))).0 ∙ ap (sets r.pending 0) is in
      let after : Run = run (passed r.core l n) r.header p' r.kinds (with_part b w part) in
      let led : after ≡ steps r (take l (l ∷ t)) =
      ap (λ (y : ℕ). run (record { announced = r.core.announced; taken = r.core.taken + l; refusal = r.core.refusal; offset = r.core.offset; register = r.core.register; fill = y; count = r.core.count + 1; written = w + n }) r.header p' r.kinds (with_part b w part)) a.between.empty
      ∙ ap (λ (v : List ℕ). run (record { announced = r.core.announced; taken = r.core.taken + l; refusal = r.core.refusal; offset = r.core.offset; register = r.core.register; fill = 0; count = r.core.count + 1; written = w + n }) r.header v r.kinds (with_part b w part)) kept
      ∙ sym told.1
      in
      let size' : length (with_part b w part) ≡ length b = part_same b part w (omega (arith, enough)) lent in (
        told.0,
        record {
          same = led ∙ ap (λ (v : Run). steps v (take l (l ∷ t))) a.same ∙ sym (steps_append r₀ (take i xs) (take l (l ∷ t)))
              ∙ ap (λ (v : List ℕ). steps r₀ (take i xs ++ v)) (sym (ap (take l) form)) ∙ ap (steps r₀) (sym (take-add i l xs));
          taken = omega (arith, a.taken);
          up = e.whole;
          left = omega (arith, a.left, e.whole);
          between = record { going = a.between.going; empty = a.between.empty; late = omega (arith, a.between.late); past = omega (arith, a.between.past); long = ap length kept ∙ length-sets r.pending 0 (take l (l ∷ t)) ∙ a.between.long };
          small = a.small;
          fewer = omega (arith, a.fewer);
          room = omega (arith, a.room, told.0, a.between.late);
          lent = omega (arith, a.lent, size');
          long = size' ∙ a.long;
        },
      )

-- ---- bytes in the middle of an entry

-- k bytes of the piece went behind those that are pending, where `size` bytes can be, and the entry is not whole with them
pub middle_through : (r : Run) (xs : List ℕ) (size k l n : ℕ) (part : List ℕ) → r.core.refusal ≡ 0 → 22 ≤ r.core.taken → 0 < r.core.fill → l ≡ get_or r.pending 0 0
    → r.core.fill + k < l → k ≤ length xs → length r.pending ≡ size → l ≤ size → Put (take k xs) (take (size - r.core.fill) (drop r.core.fill r.pending)) part n
    → Through r xs k (placed r (r.core.taken + k) (r.core.fill + k) (take r.core.fill r.pending ++ (part ++ drop (size - r.core.fill) (drop r.core.fill r.pending))))
middle_through r xs size k l n part z t f e m w long s put =
    let p : List ℕ = r.pending in
    let i : ℕ = r.core.fill in
    let ys : List ℕ = take k xs in
    let here : length ys ≡ k = length-take-le k xs w in
    let lent : Put ys (part_of p i) part n = subst (λ (j : ℕ). Put ys (take (j - i) (drop i p)) part n) (sym long) put in
    let stored : with_part p i part ≡ sets p i ys =
    ap (with_part p i) (fitted lent (omega (arith, here, part_long p i))).holds ∙ part_front p ys i (omega (arith, here))
    in
    record {
      same = sym (holds r ys l z (omega arith) (omega (arith, start_small r.header)) f e (omega (arith, here))
          ∙ ap (λ (j : ℕ). placed r (r.core.taken + j) (i + j) (sets p i ys)) here ∙ ap (placed r (r.core.taken + k) (i + k)) (sym stored)
          ∙ ap (λ (j : ℕ). placed r (r.core.taken + k) (i + k) (take i p ++ (part ++ drop (j - i) (drop i p)))) long);
      within = w;
    }

-- ---- the loop over a piece

-- k bytes at once
held_many : (k : ℕ) (r₀ : Run) (xs : List ℕ) (r : Run) (i : ℕ) → Bytes xs → Held r₀ xs r i → i + k ≤ length xs → Held r₀ xs (steps r (take k (drop i xs))) (i + k)
held_many zero r₀ xs r i b h l = let z : i ≡ i + 0 = omega arith in subst (λ (n : ℕ). Held r₀ xs (steps r []) n) z (rw steps_nil h)
held_many (suc k) r₀ xs r i b h l =
    let x : ℕ = get_or xs i 0 in
    let form : drop i xs ≡ x ∷ drop (i + 1) xs = rw add-one (drop-cons xs i 0 (omega arith)) in
    let next : Held r₀ xs (step_of r x) (i + 1) = held_turn r₀ xs r i h (omega arith) (b i) in
    let z : i + 1 + k ≡ i + suc k = omega arith in
    rw (form, steps_cons) (subst (λ (n : ℕ). Held r₀ xs (steps (step_of r x) (take k (drop (i + 1) xs))) n) z (held_many k r₀ xs (step_of r x) (i + 1) b next (omega arith)))

pub held_through : (r₀ : Run) (xs : List ℕ) (r : Run) (i : ℕ) (ys : List ℕ) (k : ℕ) (r' : Run) → Bytes xs → Held r₀ xs r i → ys ≡ drop i xs → Through r ys k r'
    → Held r₀ xs r' (i + k)
held_through r₀ xs r i ys k r' b h e t =
    let size : length ys ≡ length xs - i = ap length e ∙ length-drop i xs in
    let led : steps r (take k (drop i xs)) ≡ r' = sym (t.same ∙ ap (λ (v : List ℕ). steps r (take k v)) e) in
    subst (λ (s : Run). Held r₀ xs s (i + k)) led (held_many k r₀ xs r i b h (omega (arith, t.within, size, h.up)))

-- after a refusal the rest is only counted
pub held_passes : (r₀ : Run) (xs : List ℕ) (r : Run) (i : ℕ) → Bytes xs → Held r₀ xs r i → (r.core.refusal ≡ 0 → ⊥)
    → Held r₀ xs (placed r (r.core.taken + (length xs - i)) r.core.fill r.pending) (length xs)
held_passes r₀ xs r i b h z =
    let all : take (length xs - i) (drop i xs) ≡ drop i xs = take_all (length xs - i) (drop i xs) (omega (arith, length-drop i xs)) in
    let led : steps r (take (length xs - i) (drop i xs)) ≡ placed r (r.core.taken + (length xs - i)) r.core.fill r.pending =
    ap (steps r) all ∙ passes r (drop i xs) z ∙ ap (λ (n : ℕ). placed r (r.core.taken + n) r.core.fill r.pending) (length-drop i xs)
    in
    let to : i + (length xs - i) ≡ length xs = omega (arith, h.up) in
    subst (λ (n : ℕ). Held r₀ xs (placed r (r.core.taken + (length xs - i)) r.core.fill r.pending) n) to
    (subst (λ (s : Run). Held r₀ xs s (i + (length xs - i))) led (held_many (length xs - i) r₀ xs r i b h (omega (arith, h.up))))
