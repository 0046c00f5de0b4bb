-- From an opening on: whatever bytes come, count, written, refusal, offset and every byte of the buffer are what the definition of a
-- prefix says of those bytes (`all_agree`); and the header that is kept is their first 16 (`header_is`).
-- Assumes nothing.
use Prim.Native.Nat.{ℕ, zero, suc, ◌+◌, ◌-◌, ◌≤◌, ◌<◌}
use mathlib.Core.Path.{◌≡◌, refl, sym, ap, ap₂, subst, subst₂, ◌∙◌}
use mathlib.Core.List.{List, [], ◌∷◌, ◌++◌, flatten}
use mathlib.Core.Bool.{Bool, true, false, cond, not, ◌&&◌}
use native.Mathlib.Omega.{arith}
use native.Mathlib.Numerals.{add-one}
use lib.ListN.{length, get_or, set, take, drop, take-append-drop, length-drop, drop_of_length-le}
use lib.Seq.{sets, take-suc, take_all, length-take-le, length-sets, get_or-drop, drop-drop}
use lib.Dec.{ltb, eqb}
use borrow.Author.Tests.{ltb-true, ltb-false, eqb-true, eqb-false}
use Rattle.bits.specs.Bits.{Bytes}
use Rattle.drom.specs.Numbers.{first_of}
use Rattle.drom.specs.declared.header.HeaderValues.{HeaderValues}
use Rattle.drom.specs.Header.{is_tbt3, body_start, header_number}
use Rattle.drom.specs.Walk.{Walked, end, stop}
use Rattle.feed.specs.declared.feeding.Core.{Core}
use Rattle.feed.specs.Run.{Run, run, with_pending, counted, refused, judged, ended, kept, step_of, steps}
use Rattle.feed.specs.Prefix.{so_far_by, prefix_of}
use Rattle.drom.proofs.HeaderLaws.{first_16}
use Rattle.feed.proofs.StepLaws.{next, ended_cases, kept_cases, step_cases, step_header, step_judge, step_skip, judged_is, steps_nil, steps_cons, steps_append}
use Rattle.feed.proofs.MoveLaws.{step_moves}
use Rattle.feed.proofs.EntryBytes.{sets_append, take_sets}
use Rattle.feed.proofs.PrefixEntries.{stays, Rest, kinds_in, Agrees, plain, agree}

-- ---- before the body

-- all but the header and the count of bytes is as it was
abbrev Alike : Run → ℕ → Run → Type 0
Alike r n s =
    (s.core.refusal ≡ r.core.refusal) × (s.core.offset ≡ r.core.offset) × (s.core.count ≡ r.core.count)
    × (s.core.written ≡ r.core.written) × (s.buffer ≡ r.buffer) × (s.core.announced ≡ r.core.announced)
    × (s.core.taken ≡ r.core.taken + n) × (s.core.fill ≡ r.core.fill) × (s.pending ≡ r.pending) × (s.kinds ≡ r.kinds)

heading : (r : Run) (ys : List ℕ) → r.core.refusal ≡ 0 → r.core.taken + length ys ≤ 15
    → Alike r (length ys) (steps r ys) × ((steps r ys).header ≡ sets r.header r.core.taken ys)
heading r [] h k = rw steps_nil ((refl, refl, refl, refl, refl, refl, omega arith, refl, refl, refl), refl)
heading r (y ∷ ys) h k =
    let r' : Run = run (counted r.core) (set r.header r.core.taken y) r.pending r.kinds r.buffer in
    let g = heading r' ys h (omega arith) in
    let m = g.0 in
    rw (steps_cons, step_header r y h (omega arith)) (
      (m.0, m.1, m.2, m.3, m.4, m.5, omega (arith, m.6), m.7, m.8, m.9),
      g.1 ∙ ap (λ (j : ℕ). sets (set r.header r.core.taken y) j ys) (add-one r.core.taken),
    )

skipping : (r : Run) (ys : List ℕ) → r.core.refusal ≡ 0 → 16 ≤ r.core.taken → r.core.taken + length ys ≤ body_start r.header
    → Alike r (length ys) (steps r ys) × ((steps r ys).header ≡ r.header)
skipping r [] h u k = rw steps_nil ((refl, refl, refl, refl, refl, refl, omega arith, refl, refl, refl), refl)
skipping r (y ∷ ys) h u k =
    let g = skipping (next r) ys h (omega arith) (omega arith) in
    let m = g.0 in
    rw (steps_cons, step_skip r y h u (omega arith))
    ((m.0, m.1, m.2, m.3, m.4, m.5, omega (arith, m.6), m.7, m.8, m.9), g.1)

-- ---- the first 16 bytes

-- bytes stored over all of a list
sets_whole : (p e : List ℕ) → length e ≡ length p → sets p 0 e ≡ e
sets_whole p e h = sym (take_all (length e) (sets p 0 e) (omega (arith, length-sets p 0 e))) ∙ take_sets p e (omega arith)

number_of : (size : ℕ) (xs : List ℕ) → header_number size (take 16 xs) ≡ header_number size xs
number_of size xs =
    ap (λ (h : HeaderValues). first_of ((not (eqb (h.length + 13) size), 2) ∷ (ltb h.version 3 && ltb size 22, 3) ∷ [])) (first_16 xs)

pub start_least : (xs : List ℕ) → 16 ≤ body_start xs
start_least xs = go (is_tbt3 xs)
  where
    go : (t : Bool) → 16 ≤ cond t 22 16
    go true = omega arith
    go false = omega arith

-- a run that has taken a header, whatever it said
pub record Judged (r : Run) (xs : List ℕ) (s : Run) : Type 0 where
  pub core : Core
  pub is : s ≡ run (refused core (header_number r.core.announced xs) 0) (take 16 xs) r.pending r.kinds r.buffer
  pub count : core.count ≡ r.core.count
  pub written : core.written ≡ r.core.written
  pub announced : core.announced ≡ r.core.announced
  pub taken : core.taken ≡ 16
  pub fill : core.fill ≡ r.core.fill

judging : (r : Run) (xs : List ℕ) → r.core.refusal ≡ 0 → r.core.taken ≡ 0 → length r.header ≡ 16 → 16 ≤ length xs → Judged r xs (steps r (take 16 xs))
judging r xs h z l n =
    let ys : List ℕ = take 15 xs in
    let y : ℕ = get_or xs 15 0 in
    let yl : length ys ≡ 15 = length-take-le 15 xs (omega arith) in
    let g = heading r ys h (omega arith) in
    let m = g.0 in
    let s : Run = steps r ys in
    let c : Core = counted s.core in
    let p : List ℕ = set s.header s.core.taken y in
    let snoc : take 16 xs ≡ ys ++ (y ∷ []) = take-suc xs 15 0 (omega arith) in
    let pe : p ≡ take 16 xs =
    ap (λ (k : ℕ). set s.header k y) m.6
    ∙ ap (λ (v : List ℕ). set v (r.core.taken + length ys) y) g.1
    ∙ sym (sets_append r.header r.core.taken ys (y ∷ []))
    ∙ ap (λ (v : List ℕ). sets r.header r.core.taken v) (sym snoc)
    ∙ ap (λ (k : ℕ). sets r.header k (take 16 xs)) z
    ∙ sets_whole r.header (take 16 xs) (length-take-le 16 xs n ∙ sym l)
    in
    let t15 : s.core.taken ≡ 15 = omega (arith, m.6) in
    record {
      core = c;
      is =
          ap (steps r) snoc ∙ steps_append r ys (y ∷ []) ∙ steps_cons s y [] ∙ steps_nil (step_of s y)
          ∙ step_judge s y (m.0 ∙ h) t15
          ∙ ap (λ (v : List ℕ). run (judged c v) v s.pending s.kinds s.buffer) pe
          ∙ ap (λ (d : Core). run d (take 16 xs) s.pending s.kinds s.buffer) (judged_is c (take 16 xs))
          ∙ ap (λ (k : ℕ). run (refused c k 0) (take 16 xs) s.pending s.kinds s.buffer)
          (number_of c.announced xs ∙ ap (λ (k : ℕ). header_number k xs) m.5)
          ∙ ap (λ (v : List ℕ). run (refused c (header_number r.core.announced xs) 0) (take 16 xs) v s.kinds s.buffer) m.8
          ∙ ap₂ (λ (k v : List ℕ). run (refused c (header_number r.core.announced xs) 0) (take 16 xs) r.pending k v) m.9 m.4;
      count = m.2;
      written = m.3;
      announced = m.5;
      taken = omega arith;
      fill = m.7;
    }

-- ---- after 16 bytes the header stays

ended_header : (r : Run) → (ended r).header ≡ r.header
ended_header r = ended_cases r (λ (s : Run). s.header ≡ r.header) (λ e q. refl) (λ n q. refl)

kept_header : (r : Run) (b : ℕ) → (kept r b).header ≡ r.header
kept_header r b =
    kept_cases r b (λ (s : Run). s.header ≡ r.header) (λ m. refl) (λ m. ended_header (with_pending r r.core (set r.pending r.core.fill b)))

header_step : (r : Run) (b : ℕ) → 16 ≤ r.core.taken → (step_of r b).header ≡ r.header
header_step r b h =
    step_cases (λ (s : Run). s.header ≡ r.header) r b
    (λ x. refl)
    (λ x k. absurd (omega arith))
    (λ x k. absurd (omega arith))
    (λ x k s. refl)
    (λ x k. refl)
    (λ x k. refl)
    (λ x k. kept_header (next r) b)

header_stays : (r : Run) (xs : List ℕ) → 16 ≤ r.core.taken → (steps r xs).header ≡ r.header
header_stays r [] h = rw steps_nil refl
header_stays r (x ∷ xs) h = rw steps_cons (header_stays (step_of r x) xs (omega (arith, (step_moves r x).0)) ∙ header_step r x h)

-- ---- the whole: header and entries

pub so_nil : (kinds : ℕ → ℕ) (k at left : ℕ) → so_far_by k kinds at left [] ≡ end
unfolding so_far_by
so_nil kinds zero at left = refl
so_nil kinds (suc k) at left = refl

-- a run between, in which nothing was recorded, changes nothing of what is said
through : (r r' : Run) (w : Walked) (s : Run) → r'.core.count ≡ r.core.count → r'.core.written ≡ r.core.written → r'.buffer ≡ r.buffer → Agrees r' w s → Agrees r w s
through r r' w s c n b g =
    record {
      number = g.number;
      offset = g.offset;
      count = g.count ∙ ap (λ (k : ℕ). k + length w.records) c;
      written = g.written ∙ ap (λ (k : ℕ). k + length (flatten w.records)) n;
      buffer = g.buffer ∙ ap (λ (v : List ℕ). sets v r'.core.written (flatten w.records)) b ∙ ap (λ (k : ℕ). sets r.buffer k (flatten w.records)) n;
    }

module _ (r : Run) (xs : List ℕ) (h : r.core.refusal ≡ 0) (o : r.core.offset ≡ 0) (z : r.core.taken ≡ 0) (f : r.core.fill ≡ 0)
    (hl : length r.header ≡ 16) (l : length r.pending ≡ 255) (b : Bytes xs) (w : length xs ≤ r.core.announced) where
  short : length xs < 16 → Agrees r end (steps r xs)
  short k =
      let m = (heading r xs h (omega arith)).0 in
      plain r (steps r xs) 0 0 (m.0 ∙ h) (m.1 ∙ o) m.2 m.3 m.4

  module _ (n : 16 ≤ length xs) where
    j : Judged r xs (steps r (take 16 xs))
    j = judging r xs h z hl n

    number : ℕ
    number = header_number r.core.announced xs

    -- the run as the header is in
    seen : Run
    seen = run (refused j.core number 0) (take 16 xs) r.pending r.kinds r.buffer

    split : steps r xs ≡ steps seen (drop 16 xs)
    unfolding seen number
    split = ap (steps r) (sym (take-append-drop 16 xs)) ∙ steps_append r (take 16 xs) (drop 16 xs) ∙ ap (λ (u : Run). steps u (drop 16 xs)) j.is

    pub header_is : (steps r xs).header ≡ take 16 xs
    unfolding seen
    header_is = ap (λ (u : Run). u.header) split ∙ header_stays seen (drop 16 xs) (omega (arith, j.taken))

    -- the header is refused
    head_refused : (header_number r.core.announced xs ≡ 0 → ⊥) → Agrees r (stop (header_number r.core.announced xs) 0) (steps r xs)
    unfolding seen number
    head_refused c =
        let m = stays seen (drop 16 xs) c in
        rw split (plain r (steps seen (drop 16 xs)) (header_number r.core.announced xs) 0 m.0 m.1 (m.2 ∙ j.count) (m.3 ∙ j.written) m.4)

    -- the header is taken, and the entries start at st
    module _ (e : header_number r.core.announced xs ≡ 0) (st : ℕ) (is : body_start (take 16 xs) ≡ st) (least : 16 ≤ st) where
      Goal : Type 0
      Goal = Agrees r (so_far_by (length xs) (kinds_in r.kinds) st (r.core.announced - st) (drop st xs)) (steps r xs)

      early : length xs ≤ st → Goal
      unfolding Goal seen number
      early k =
          let d = length-drop 16 xs in
          let m = (skipping seen (drop 16 xs) e (omega (arith, j.taken)) (omega (arith, j.taken, is))).0 in
          rw (split, drop_of_length-le xs {i = st} k, so_nil (kinds_in r.kinds) (length xs) st (r.core.announced - st))
          (plain r (steps seen (drop 16 xs)) 0 0 (m.0 ∙ e) m.1 (m.2 ∙ j.count) (m.3 ∙ j.written) m.4)

      late : st ≤ length xs → Goal
      unfolding Goal seen number
      late k =
          let ys : List ℕ = take (st - 16) (drop 16 xs) in
          let d = length-drop 16 xs in
          let yl : length ys ≡ st - 16 = length-take-le (st - 16) (drop 16 xs) (omega arith) in
          let s : Run = steps seen ys in
          let gg = skipping seen ys e (omega (arith, j.taken)) (omega (arith, j.taken, is)) in
          let m = gg.0 in
          let there : 16 + (st - 16) ≡ st = omega arith in
          let dst = length-drop st xs in
          let cut : steps r xs ≡ steps s (drop st xs) =
          split ∙ ap (steps seen) (sym (take-append-drop (st - 16) (drop 16 xs))) ∙ steps_append seen ys (drop (st - 16) (drop 16 xs))
          ∙ ap (steps s) (drop-drop (st - 16) 16 xs ∙ ap (λ (k : ℕ). drop k xs) there)
          in
          let far : s.core.taken ≡ st = omega (arith, m.6, j.taken) in
          let past : body_start s.header ≤ s.core.taken =
          subst (λ (v : List ℕ). body_start v ≤ s.core.taken) (sym gg.1) (omega (arith, is, far))
          in
          let i : Rest s =
          record { going = m.0 ∙ e; nowhere = m.1; empty = m.7 ∙ j.fill ∙ f; late = omega arith; past = past; long = ap length m.8 ∙ l }
          in
          let lf : s.core.announced - s.core.taken ≡ r.core.announced - st = omega (arith, m.5, j.announced) in
          let u = agree (length xs) s (drop st xs) i (λ i. rw get_or-drop (b (st + i))) (omega arith) (omega arith) in
          let u' =
          subst (λ (K : List ℕ). Agrees s (so_far_by (length xs) (kinds_in K) st (r.core.announced - st) (drop st xs)) (steps s (drop st xs))) m.9
          (subst₂ (λ (x y : ℕ). Agrees s (so_far_by (length xs) (kinds_in s.kinds) x y (drop st xs)) (steps s (drop st xs))) far lf u)
          in
          rw cut (through r s _ _ (m.2 ∙ j.count) (m.3 ∙ j.written) m.4 u')

      body : Goal
      body = go (ltb (length xs) st) refl
        where
          go : (x : Bool) → ltb (length xs) st ≡ x → Goal
          go true y = let k = ltb-true (length xs) st y in early (omega arith)
          go false y = late (ltb-false (length xs) st y)

    judged_agree : (t : Bool) → eqb (header_number r.core.announced xs) 0 ≡ t
        → Agrees r
        (cond t (so_far_by (length xs) (kinds_in r.kinds) (body_start xs) (r.core.announced - body_start xs) (drop (body_start xs) xs))
        (stop (header_number r.core.announced xs) 0)) (steps r xs)
    unfolding Goal
    judged_agree true e = body (eqb-true (header_number r.core.announced xs) 0 e) (body_start xs) (ap (λ (h : HeaderValues). h.start) (first_16 xs)) (start_least xs)
    judged_agree false e = head_refused (eqb-false (header_number r.core.announced xs) 0 e)

  -- for a run from an opening: what the definition of a prefix says of the bytes that are there
  pub all_agree : Agrees r (prefix_of (kinds_in r.kinds) r.core.announced xs) (steps r xs)
  unfolding prefix_of
  all_agree = go (ltb (length xs) 16) refl
    where
      go : (t : Bool) → ltb (length xs) 16 ≡ t
          → Agrees r
          (cond t end
          (cond (eqb (header_number r.core.announced xs) 0)
          (so_far_by (length xs) (kinds_in r.kinds) (body_start xs) (r.core.announced - body_start xs) (drop (body_start xs) xs))
          (stop (header_number r.core.announced xs) 0))) (steps r xs)
      go true y = short (ltb-true (length xs) 16 y)
      go false y = judged_agree (ltb-false (length xs) 16 y) (eqb (header_number r.core.announced xs) 0) refl
