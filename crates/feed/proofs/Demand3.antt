-- Demand 3: "If the pieces join to the announced size, the final report and every byte of that buffer are demand 2's answer for the
-- joined bytes" (`fed_as_whole`), for every list, announced size and buffer, and however the bytes are cut. After a refused opening a
-- finish gives the report of every DROM of the size asked (`closed_as_whole`). "After each piece, the records are those of the entries
-- complete so far": proofs/Pieces.antt. No second state, number, report or buffer meets the promises of feeding (`open_one`, `feed_one`, `feed_in_place_one`,
-- `feed_parts_one`, `finish_one`).
-- Assumes nothing.
use Prim.Native.Nat.{ℕ, ◌+◌, ◌%◌, ◌^◌, ◌≤◌, ◌<◌}
use mathlib.Core.Path.{◌≡◌, refl, sym, ap, subst, ◌∙◌}
use mathlib.Core.List.{List, [], ◌∷◌, flatten}
use mathlib.Core.Logic.{◌⊎◌}
use mathlib.Core.Bool.{Bool, true, false, not, ◌&&◌}
use native.Mathlib.Omega.{arith}
use lib.ListN.{length, replicate}
use lib.Dec.{ltb, eqb}
use borrow.Author.Tests.{eqb-true, eqb-false}
use Rattle.bits.specs.Bits.{Bytes}
use Rattle.bits.specs.Front.{onto}
use Rattle.bits.proofs.OneAnswer.{one_answer}
use Rattle.entry.specs.Adapters.{kind_in}
use Rattle.drom.specs.declared.reader.Report.{Report}
use Rattle.drom.specs.Numbers.{first_of}
use Rattle.drom.specs.Header.{length_in, is_tbt3, open_tests, header_tests, header_number}
use Rattle.drom.specs.Walk.{Walked, stop}
use Rattle.drom.specs.Report.{refusal_of, refused_report, walk_in, report_of, leaves_of}
use Rattle.drom.proofs.ReportLaws.{report_walked, report_refused, leaves_walked, leaves_refused}
use Rattle.std.specs.Prelude.{Result, ⊤}
use Rattle.entry.specs.declared.refusal.Refusal.{Refusal}
use Rattle.entry.specs.Refusals.{answer_number}
use Rattle.entry.proofs.FitLaws.{same_answer}
use Rattle.feed.specs.declared.feeding.Core.{Core}
use Rattle.feed.specs.declared.feeding.State.{State}
use Rattle.feed.specs.declared.feeding.Fed.{Fed}
use Rattle.feed.specs.Bounds.{in_bounds}
use Rattle.feed.specs.Feed.{fresh, open_of, Answer, answer, both, state_of, feed_of, told, finish_of}
use Rattle.feed.specs.Prefix.{prefix_of}
use Rattle.feed.specs.Pieces.{feed_many, Told}
use Rattle.feed.specs.Pieces.Left.{opened}
use Rattle.feed.proofs.Never.{open_in, left_bounds}
use Rattle.feed.proofs.PrefixLaws.{prefix_refused, prefix_walked, prefix_whole, so_number}
use Rattle.feed.proofs.Pieces.{many_left, open_refused, open_passed, open_number, closed, pieces}
use Rattle.feed.proofs.FinishLaws.{finish_refused, finish_told, told_walked}

-- ---- the number before the entries

module _ (list drom : List ℕ) (room : ℕ) where
  refusal_closed : (first_of (open_tests list (length drom) room) ≡ 0 → ⊥) → refusal_of list drom room ≡ first_of (open_tests list (length drom) room)
  refusal_closed = go (eqb (length list % 2) 1) (ltb room 16368) (ltb (length drom) 16)
    where
      go : (o s f : Bool) → (first_of ((o, 5) ∷ (s, 4) ∷ (f, 1) ∷ []) ≡ 0 → ⊥)
          → first_of ((o, 5) ∷ (s, 4) ∷ (f, 1) ∷ header_tests (length drom) drom) ≡ first_of ((o, 5) ∷ (s, 4) ∷ (f, 1) ∷ [])
      go true s f h = refl
      go false true f h = refl
      go false false true h = refl
      go false false false h = absurd (h refl)

  refusal_open : first_of (open_tests list (length drom) room) ≡ 0 → refusal_of list drom room ≡ header_number (length drom) drom
  refusal_open = go (eqb (length list % 2) 1) (ltb room 16368) (ltb (length drom) 16)
    where
      go : (o s f : Bool) → first_of ((o, 5) ∷ (s, 4) ∷ (f, 1) ∷ []) ≡ 0
          → first_of ((o, 5) ∷ (s, 4) ∷ (f, 1) ∷ header_tests (length drom) drom) ≡ header_number (length drom) drom
      go true s f h = absurd (omega arith)
      go false true f h = absurd (omega arith)
      go false false true h = absurd (omega arith)
      go false false false h = refl

header_number_lem : (size : ℕ) (drom : List ℕ) → (header_number size drom ≡ 0 → ⊥) → (1 ≤ header_number size drom) × (header_number size drom ≤ 5)
header_number_lem size drom = go (eqb (length_in drom + 13) size) (is_tbt3 drom && ltb size 22)
  where
    go : (p q : Bool) → (first_of ((not p, 2) ∷ (q, 3) ∷ []) ≡ 0 → ⊥) → (1 ≤ first_of ((not p, 2) ∷ (q, 3) ∷ [])) × (first_of ((not p, 2) ∷ (q, 3) ∷ []) ≤ 5)
    go false q h = (omega arith, omega arith)
    go true true h = (omega arith, omega arith)
    go true false h = absurd (h refl)

-- ---- a refused opening

pub closed_as_whole : (list drom : List ℕ) (room : ℕ) → (first_of (open_tests list (length drom) room) ≡ 0 → ⊥)
    → finish_of (open_of list (length drom) room) ≡ report_of list drom room
closed_as_whole list drom room h =
    let n : ℕ = first_of (open_tests list (length drom) room) in
    let kinds : List ℕ = replicate 64 0 in
    let s : State = fresh 0 n kinds in
    let e : in_bounds s.core s.header s.pending ≡ true =
    subst (λ (x : State). in_bounds x.core x.header x.pending ≡ true) (open_refused list (length drom) room h) (open_in list (length drom) room)
    in
    let m = open_number list (length drom) room h in
    let q = refusal_closed list drom room h in
    ap finish_of (open_refused list (length drom) room h)
    ∙ finish_refused s e (omega arith) m.0 m.1
    ∙ ap refused_report (sym q)
    ∙ sym (report_refused list drom room (λ z. h (sym q ∙ z)))

-- ---- the whole

abbrev Answers : List ℕ → List ℕ → List ℕ → Answer → Type 0
Answers list drom b a = (finish_of a.fed.state ≡ report_of list drom (length b)) × (a.buffer ≡ leaves_of list drom b)

module _ (list drom b : List ℕ) (a : Answer) (o : first_of (open_tests list (length drom) (length b)) ≡ 0) (t : Told list (length drom) drom b a) (e : in_bounds a.fed.state.core a.fed.state.header a.fed.state.pending ≡ true) where
  long : 16 ≤ length drom
  long = (open_passed list (length drom) (length b) o).1

  all : a.fed.state.core.announced ≤ a.fed.state.core.taken
  all = omega (arith, t.announced, t.taken)

  same : refusal_of list drom (length b) ≡ header_number (length drom) drom
  same = refusal_open list drom (length b) o

  header_refused_lem : (header_number (length drom) drom ≡ 0 → ⊥) → Answers list drom b a
  unfolding flatten
  header_refused_lem z =
      let n : ℕ = header_number (length drom) drom in
      let p : prefix_of (kind_in list) (length drom) drom ≡ stop n 0 = prefix_refused (length drom) (kind_in list) drom long z in
      let m = header_number_lem (length drom) drom z in
      let is : a.fed.state.core.refusal ≡ n = t.refusal ∙ ap (λ (w : Walked). w.number) p in
      let not_zero : refusal_of list drom (length b) ≡ 0 → ⊥ = λ q. z (sym same ∙ q) in (
        finish_refused a.fed.state e all (omega (arith, m.0, is)) (omega (arith, m.1, is))
            ∙ ap refused_report (is ∙ sym same)
            ∙ sym (report_refused list drom (length b) not_zero),
        t.records ∙ ap (λ (w : Walked). onto (flatten w.records) b) p ∙ sym (leaves_refused list drom b not_zero),
      )

  header_taken : header_number (length drom) drom ≡ 0 → Answers list drom b a
  header_taken z =
      let w : Walked = walk_in (kind_in list) drom in
      let p : prefix_of (kind_in list) (length drom) drom ≡ w = prefix_whole (kind_in list) drom long z in
      let r : refusal_of list drom (length b) ≡ 0 = same ∙ z in
      let late : ((prefix_of (kind_in list) (length drom) drom).number ≡ 0) ⊎ (6 ≤ (prefix_of (kind_in list) (length drom) drom).number) =
      subst (λ (v : Walked). (v.number ≡ 0) ⊎ (6 ≤ v.number)) (sym (prefix_walked (length drom) (kind_in list) drom long z)) (so_number (kind_in list) _ _ _ _)
      in
      let not_early : (a.fed.state.core.refusal ≡ 0) ⊎ (6 ≤ a.fed.state.core.refusal) =
      subst (λ (n : ℕ). (n ≡ 0) ⊎ (6 ≤ n)) (sym t.refusal) late
      in (
        finish_told a.fed.state e all not_early
            ∙ ap (told a.fed.state.core) (t.header long)
            ∙ told_walked a.fed.state.core drom w
            (t.refusal ∙ ap (λ (v : Walked). v.number) p)
            (t.offset ∙ ap (λ (v : Walked). v.offset) p)
            t.register
            (t.count ∙ ap (λ (v : Walked). length v.records) p)
            (t.written ∙ ap (λ (v : Walked). length (flatten v.records)) p)
            ∙ sym (report_walked list drom (length b) r),
        t.records ∙ ap (λ (v : Walked). onto (flatten v.records) b) p ∙ sym (leaves_walked list drom b r),
      )

  answers : Answers list drom b a
  answers = go (eqb (header_number (length drom) drom) 0) refl
    where
      go : (u : Bool) → eqb (header_number (length drom) drom) 0 ≡ u → Answers list drom b a
      go true q = header_taken (eqb-true (header_number (length drom) drom) 0 q)
      go false q = header_refused_lem (eqb-false (header_number (length drom) drom) 0 q)

module _ (list : List ℕ) (ps : List (List ℕ)) (b : List ℕ) (h : length (flatten ps) < 2 ^ 64) (k : Bytes (flatten ps)) where
  last : Answer
  last = feed_many (answer 0 (open_of list (length (flatten ps)) (length b)) b) ps

  whole_closed : (first_of (open_tests list (length (flatten ps)) (length b)) ≡ 0 → ⊥) → Answers list (flatten ps) b last
  unfolding last
  whole_closed o =
      let m = closed list (length (flatten ps)) (length b) ps b o in
      let q = refusal_closed list (flatten ps) (length b) o in (
        ap finish_of m.0 ∙ closed_as_whole list (flatten ps) (length b) o,
        m.1 ∙ sym (leaves_refused list (flatten ps) b (λ z. o (sym q ∙ z))),
      )

  whole_open : first_of (open_tests list (length (flatten ps)) (length b)) ≡ 0 → Answers list (flatten ps) b last
  unfolding last
  whole_open o =
      answers list (flatten ps) b last o (pieces list (length (flatten ps)) ps b h o k (omega arith))
      (left_bounds (many_left (answer 0 (open_of list (length (flatten ps)) (length b)) b) ps (opened list (length (flatten ps)) (length b) h) k))

  whole : Answers list (flatten ps) b last
  whole = go (eqb (first_of (open_tests list (length (flatten ps)) (length b))) 0) refl
    where
      go : (u : Bool) → eqb (first_of (open_tests list (length (flatten ps)) (length b))) 0 ≡ u → Answers list (flatten ps) b last
      go true q = whole_open (eqb-true (first_of (open_tests list (length (flatten ps)) (length b))) 0 q)
      go false q = whole_closed (eqb-false (first_of (open_tests list (length (flatten ps)) (length b))) 0 q)

-- the report and the buffer after all pieces are those of the joined bytes
pub fed_as_whole : (list : List ℕ) (size : ℕ) (ps : List (List ℕ)) (b : List ℕ) → size < 2 ^ 64 → Bytes (flatten ps) → length (flatten ps) ≡ size
    → (finish_of (feed_many (answer 0 (open_of list size (length b)) b) ps).fed.state ≡ report_of list (flatten ps) (length b))
    × ((feed_many (answer 0 (open_of list size (length b)) b) ps).buffer ≡ leaves_of list (flatten ps) b)
unfolding last
fed_as_whole list size ps b h k n =
    subst (λ (m : ℕ). (finish_of (feed_many (answer 0 (open_of list m (length b)) b) ps).fed.state ≡ report_of list (flatten ps) (length b))
    × ((feed_many (answer 0 (open_of list m (length b)) b) ps).buffer ≡ leaves_of list (flatten ps) b)) n
    (whole list ps b (omega arith) k)

-- ---- one answer: what meets the promise of `open`, of `feed` or of `finish` is the same

pub open_one : (list : List ℕ) (size room : ℕ) {s t : State} → s ≡ open_of list size room → t ≡ open_of list size room → s ≡ t
open_one list size room = one_answer

pub feed_one : (s : State) (piece before : List ℕ) {r t : Fed} {after other : List ℕ}
    → both r after ≡ feed_of s piece before → both t other ≡ feed_of s piece before → (r ≡ t) × (after ≡ other)
feed_one s piece before p q = let e = one_answer p q in (ap (λ (a : Answer). a.fed) e, ap (λ (a : Answer). a.buffer) e)

-- the same for a state that is lent: what it answers, a refusal or nothing, is known by the number
pub feed_in_place_one : (s : State) (piece before : List ℕ) {x y : Result ⊤ Refusal} {t u : State} {after other : List ℕ}
    → answer (answer_number x) t after ≡ feed_of s piece before → answer (answer_number y) u other ≡ feed_of s piece before
    → (x ≡ y) × (t ≡ u) × (after ≡ other)
feed_in_place_one s piece before {x} {y} p q =
    let e = feed_one s piece before p q in
    (same_answer x y (ap (λ (f : Fed). f.number) e.0), ap (λ (f : Fed). f.state) e.0, e.1)

-- and for a state whose parts lie apart: its kinds are only read
pub feed_parts_one : (kinds : List ℕ) (s : State) (piece before : List ℕ) {m n : ℕ} {c d : Core} {h i p q after other : List ℕ}
    → answer m (state_of c h p kinds) after ≡ feed_of s piece before → answer n (state_of d i q kinds) other ≡ feed_of s piece before
    → (m ≡ n) × (c ≡ d) × (h ≡ i) × (p ≡ q) × (after ≡ other)
feed_parts_one kinds s piece before a b =
    let e = feed_one s piece before a b in (
      ap (λ (f : Fed). f.number) e.0,
      ap (λ (f : Fed). f.state.core) e.0,
      ap (λ (f : Fed). f.state.header) e.0,
      ap (λ (f : Fed). f.state.pending) e.0,
      e.1,
    )

pub finish_one : (s : State) {r t : Report} → r ≡ finish_of s → t ≡ finish_of s → r ≡ t
finish_one s = one_answer
