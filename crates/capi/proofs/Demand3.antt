-- Demand 3 for a caller in C, over the bytes that are lent. After each piece: if drom_open answers 0 and the pieces do not exceed the
-- announced size, every drom_feed answers 0, and records, count and state are those of the bytes so far (`pieces_seen`); if drom_open
-- answers anything else, there are no records (`open_none`), and no drom_feed changes a byte (`closed_stays`). If the pieces join to the
-- announced size, drom_finish and the records say what drom_read says of the joined bytes, refused openings too (`fed_as_read`).
-- Assumes nothing.
use mathlib.Core.Bool.{Bool, true, false, cond}
use mathlib.Core.List.{List, [], ◌∷◌, ◌++◌, flatten, append_assoc}
use mathlib.Core.Path.{◌≡◌, refl, sym, ap, ap₂, subst, ◌∙◌}
use Prim.Native.Nat.{ℕ, ◌^◌, ◌≤◌, ◌<◌}
use native.Mathlib.Omega.{arith}
use borrow.Author.Tests.{ltb-false, le-ltb, eqb-true, eqb-false}
use lib.Dec.{eqb}
use lib.ListN.{length, replicate, drop, length-append}
use lib.Seq.{drop-append_seam}
use Rattle.bits.specs.Bits.{Bytes}
use Rattle.bits.specs.Front.{onto}
use Rattle.drom.specs.declared.reader.Report.{Report}
use Rattle.drom.specs.Numbers.{first_of}
use Rattle.drom.specs.Header.{open_tests}
use Rattle.drom.specs.Report.{report_of}
use Rattle.drom.proofs.Joined.{flatten_append, flatten_snoc}
use Rattle.feed.specs.declared.feeding.State.{State}
use Rattle.feed.specs.Kinds.{table_of}
use Rattle.feed.specs.Feed.{fresh, Answer, answer, open_of, feed_of, finish_of}
use Rattle.feed.specs.Pieces.{feed_many, Left, Told}
use Rattle.feed.specs.Pieces.Left.{opened, fed}
use Rattle.feed.proofs.Pieces.{bytes_left, bytes_right, open_is, open_refused, closed, pieces}
use Rattle.feed.proofs.Demand3.{fed_as_whole}
use Rattle.capi.specs.Report.{report_size, report_bytes}
use Rattle.capi.specs.State.{state_size, state_bytes, state_in}
use Rattle.capi.specs.Calls.{no_room, no_state, open_answer, open_state, feed_in, feed_answer, finish_answer, finish_report, count_answer, bytes_answer}
use Rattle.capi.specs.Feeding.{Lent, lending, open_lent, feed_lent, feed_each, answers_each, Seen}
use Rattle.capi.specs.Listing.{Reads}
use Rattle.capi.proofs.StateLaws.{state_length, read_back}
use Rattle.capi.proofs.Never.{left_typed}

-- ---- the bytes lent, and the state and buffer that they stand for

record Holds (lent : Lent) (a : Answer) : Type 0 where
  long : state_size ≤ length lent.state
  left : Left (state_in lent.state)
  state : state_in lent.state ≡ a.fed.state
  records : lent.records ≡ a.buffer

holds_written : (s : State) (state records : List ℕ) (n : ℕ) → Left s → Holds (lending (onto (state_bytes s) state) records) (answer n s records)
holds_written s state records n h =
    let t = left_typed h in
    let rest : List ℕ = drop (length (state_bytes s)) state in
    let back = read_back s rest t in
    record { long = omega (arith, state_length s t, length-append (state_bytes s) rest); left = subst Left (sym back) h; state = back; records = refl }

-- what an opening comes to
abbrev opens : List ℕ → ℕ → List ℕ → Answer
opens list size records = answer 0 (open_of list size (length records)) records

open_holds : (list : List ℕ) (size : ℕ) (records state : List ℕ) → size < 2 ^ 64 → state_size ≤ length state
    → Holds (open_lent list size records state) (opens list size records)
open_holds list size records state w long =
    rw (le-ltb (length state) state_size long)
    (holds_written (open_of list size (length records)) state records 0 (opened list size (length records) w))

module _ (lent : Lent) (a : Answer) (h : Holds lent a) (piece : List ℕ) where
  feed_same : feed_in lent.state piece lent.records ≡ feed_of a.fed.state piece a.buffer
  feed_same = ap₂ (λ (s : State) (b : List ℕ). feed_of s piece b) h.state h.records

  feed_answers : feed_answer lent.state piece lent.records ≡ (feed_of a.fed.state piece a.buffer).fed.number
  feed_answers = rw (le-ltb (length lent.state) state_size h.long) (ap (λ (x : Answer). x.fed.number) feed_same)

  feed_holds : Bytes piece → Holds (feed_lent lent piece) (feed_of a.fed.state piece a.buffer)
  feed_holds k =
      let x : Answer = feed_in lent.state piece lent.records in
      subst (Holds (feed_lent lent piece)) feed_same
      (rw (le-ltb (length lent.state) state_size h.long)
      (holds_written x.fed.state lent.state x.buffer x.fed.number (fed h.left piece lent.records k)))

each_holds : (lent : Lent) (a : Answer) (ps : List (List ℕ)) → Holds lent a → Bytes (flatten ps) → Holds (feed_each lent ps) (feed_many a ps)
unfolding feed_each feed_many flatten
each_holds lent a [] h k = h
each_holds lent a (p ∷ ps) h k =
    each_holds (feed_lent lent p) (feed_of a.fed.state p a.buffer) ps (feed_holds lent a h p (bytes_left p (flatten ps) k)) (bytes_right p (flatten ps) k)

-- ---- after each piece

many_snoc : (a : Answer) (ps : List (List ℕ)) (p : List ℕ) → feed_many a (ps ++ p ∷ []) ≡ feed_of (feed_many a ps).fed.state p (feed_many a ps).buffer
unfolding feed_many
many_snoc a [] p = refl
many_snoc a (q ∷ ps) p = many_snoc (feed_of a.fed.state q a.buffer) ps p

module _ (list : List ℕ) (size : ℕ) (records : List ℕ) (w : size < 2 ^ 64) (o : first_of (open_tests list size (length records)) ≡ 0) where
  all_taken : (lent : Lent) (before ps : List (List ℕ)) → Holds lent (feed_many (opens list size records) before) → Bytes (flatten (before ++ ps)) → length (flatten (before ++ ps)) ≤ size
      → answers_each lent ps ≡ replicate (length ps) 0
  unfolding answers_each
  all_taken lent before [] h k n = refl
  all_taken lent before (p ∷ ps) h k n =
      let a : Answer = feed_many (opens list size records) before in
      let now : List (List ℕ) = before ++ p ∷ [] in
      let on : before ++ p ∷ ps ≡ now ++ ps = sym (append_assoc before (p ∷ []) ps) in
      let joined : flatten (before ++ p ∷ ps) ≡ flatten now ++ flatten ps = ap flatten on ∙ flatten_append now ps in
      let k' : Bytes (flatten now) = bytes_left (flatten now) (flatten ps) (subst Bytes joined k) in
      let last : feed_many (opens list size records) now ≡ feed_of a.fed.state p a.buffer = many_snoc (opens list size records) before p in
      let t = pieces list size now records w o k' (omega (arith, ap length joined, length-append (flatten now) (flatten ps))) in
      let h' = feed_holds lent a h p (bytes_right (flatten before) p (subst Bytes (flatten_snoc before p) k')) in
      ap₂ (λ (x : ℕ) (xs : List ℕ). x ∷ xs) (feed_answers lent a h p ∙ ap (λ (x : Answer). x.fed.number) (sym last) ∙ t.number)
      (all_taken (feed_lent lent p) now ps (subst (Holds (feed_lent lent p)) (sym last) h') (subst (λ (l : List (List ℕ)). Bytes (flatten l)) on k) (omega (arith, ap (λ (l : List (List ℕ)). length (flatten l)) on)))

-- what a caller sees of bytes that hold an answer
told_seen : (list : List ℕ) (size : ℕ) (xs records : List ℕ) (lent : Lent) (a : Answer) → Holds lent a → Told list size xs records a → Seen list size xs records lent
told_seen list size xs records lent a h t =
    let same : a ≡ answer 0 (state_in lent.state) lent.records =
    ap (λ (n : ℕ). answer n a.fed.state a.buffer) t.number ∙ ap₂ (answer 0) (sym h.state) (sym h.records)
    in
    let u = subst (Told list size xs records) same t in
    let long = le-ltb (length lent.state) state_size h.long in
    record { count = rw long u.count; bytes = rw long u.written; buffer = u.records; told = u }

-- what an opening that answers 0 says
open_taken : (list : List ℕ) (size : ℕ) (records state : List ℕ) → open_answer list size records state ≡ 0
    → (state_size ≤ length state) × (first_of (open_tests list size (length records)) ≡ 0)
open_taken list size records state = go (no_state state) refl
  where
    n : ℕ
    n = first_of (open_tests list size (length records))

    passed : (t : Bool) → eqb n 0 ≡ t → (open_of list size (length records)).core.refusal ≡ 0 → n ≡ 0
    passed true e h = eqb-true n 0 e
    passed false e h =
        let z = eqb-false n 0 e in
        absurd (z (sym (ap (λ (s : State). s.core.refusal) (open_refused list size (length records) z)) ∙ h))

    go : (short : Bool) → no_state state ≡ short → cond short no_room (open_of list size (length records)).core.refusal ≡ 0 → (state_size ≤ length state) × (n ≡ 0)
    go true e h = absurd (omega arith)
    go false e h = (ltb-false (length state) state_size e, passed (eqb n 0) refl h)

pub pieces_seen : (list : List ℕ) (size : ℕ) (ps : List (List ℕ)) (records state : List ℕ) → size < 2 ^ 64 → open_answer list size records state ≡ 0
    → Bytes (flatten ps) → length (flatten ps) ≤ size
    → (answers_each (open_lent list size records state) ps ≡ replicate (length ps) 0)
    × Seen list size (flatten ps) records (feed_each (open_lent list size records state) ps)
unfolding feed_many
pieces_seen list size ps records state w z k n =
    let o = open_taken list size records state z in
    let h = open_holds list size records state w o.0 in (
      all_taken list size records w o.1 (open_lent list size records state) [] ps h k n,
      told_seen list size (flatten ps) records _ _ (each_holds _ _ ps h k) (pieces list size ps records w o.1 k n),
    )

-- ---- after a refused opening

module _ (list : List ℕ) (size : ℕ) (records state : List ℕ) (w : size < 2 ^ 64) where
  -- where there is room for a state, and where there is not
  open_cases : (P : Lent → Type 0) → (no_state state ≡ true → P (lending state records))
      → (state_size ≤ length state → Holds (lending (onto (state_bytes (open_of list size (length records))) state) records) (opens list size records) → P (lending (onto (state_bytes (open_of list size (length records))) state) records))
      → P (open_lent list size records state)
  open_cases P short long = go (no_state state) refl
    where
      go : (t : Bool) → no_state state ≡ t → P (lending (cond t state (onto (state_bytes (open_of list size (length records))) state)) records)
      go true e = short e
      go false e = long (ltb-false (length state) state_size e) (holds_written (open_of list size (length records)) state records 0 (opened list size (length records) w))

  -- an opening leaves no records
  pub open_none : (count_answer (open_state list size records state) ≡ 0) × (bytes_answer (open_state list size records state) ≡ 0)
  unfolding open_of
  open_none =
      open_cases (λ (lent : Lent). (count_answer lent.state ≡ 0) × (bytes_answer lent.state ≡ 0))
      (λ e. (rw e, rw e))
      (λ long h.
      let held = le-ltb (length (onto (state_bytes (open_of list size (length records))) state)) state_size h.long in
      let none = go (first_of (open_tests list size (length records))) (eqb (first_of (open_tests list size (length records))) 0) in
      (rw held (ap (λ (s : State). s.core.count) h.state ∙ none.0), rw held (ap (λ (s : State). s.core.written) h.state ∙ none.1)))
    where
      go : (n : ℕ) (t : Bool)
          → ((cond t (fresh size 0 (table_of list)) (fresh 0 n (replicate 64 0))).core.count ≡ 0)
          × ((cond t (fresh size 0 (table_of list)) (fresh 0 n (replicate 64 0))).core.written ≡ 0)
      go n true = (refl, refl)
      go n false = (refl, refl)

  closed_feed : (open_answer list size records state ≡ 0 → ⊥) → (piece : List ℕ) → feed_lent (open_lent list size records state) piece ≡ open_lent list size records state
  unfolding feed_many
  closed_feed refused piece =
      open_cases (λ (lent : Lent). feed_lent lent piece ≡ lent)
      (λ e. rw e)
      (λ long h.
      let bytes : List ℕ = onto (state_bytes (open_of list size (length records))) state in
      let closes : first_of (open_tests list size (length records)) ≡ 0 → ⊥ =
      λ z. refused (rw (le-ltb (length state) state_size long) (ap (λ (s : State). s.core.refusal) (open_is list size (length records) z)))
      in
      let m = closed list size (length records) (piece ∷ []) records closes in
      rw (le-ltb (length bytes) state_size h.long)
      (ap (λ (x : Answer). lending (onto (state_bytes x.fed.state) bytes) x.buffer) (feed_same (lending bytes records) (opens list size records) h piece)
      ∙ ap₂ (λ (s : State) (b : List ℕ). lending (onto (state_bytes s) bytes) b) m.0 m.1
      ∙ ap (λ (l : List ℕ). lending (state_bytes (open_of list size (length records)) ++ l) records) (drop-append_seam (state_bytes (open_of list size (length records))) (drop (length (state_bytes (open_of list size (length records)))) state))))

  pub closed_stays : (ps : List (List ℕ)) → (open_answer list size records state ≡ 0 → ⊥) → feed_each (open_lent list size records state) ps ≡ open_lent list size records state
  unfolding feed_each
  closed_stays [] refused = refl
  closed_stays (p ∷ ps) refused = ap (λ (lent : Lent). feed_each lent ps) (closed_feed refused p) ∙ closed_stays ps refused

-- ---- the whole

pub fed_as_read : (list : List ℕ) (size : ℕ) (ps : List (List ℕ)) (records state report : List ℕ) → size < 2 ^ 64
    → state_size ≤ length state → report_size ≤ length report → Bytes (flatten ps) → length (flatten ps) ≡ size
    → Reads list (flatten ps) records report
    (finish_answer (feed_each (open_lent list size records state) ps).state report)
    (feed_each (open_lent list size records state) ps).records
    (finish_report (feed_each (open_lent list size records state) ps).state report)
fed_as_read list size ps records state report w long room k n =
    let lent : Lent = feed_each (open_lent list size records state) ps in
    let h = each_holds _ _ ps (open_holds list size records state w long) k in
    let whole = fed_as_whole list size ps records w k n in
    let same : finish_of (state_in lent.state) ≡ report_of list (flatten ps) (length records) = ap finish_of h.state ∙ whole.0 in
    let held = le-ltb (length lent.state) state_size h.long in
    let fits = le-ltb (length report) report_size room in
    record {
      answers = rw (held, fits) (ap (λ (r : Report). r.number) same);
      writes = rw fits (h.records ∙ whole.1);
      tells = rw (held, fits) (ap (λ (r : Report). onto (report_bytes r) report) same);
    }
