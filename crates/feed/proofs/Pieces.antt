-- Demand 3, after each piece: after an opening that is not refused, and any pieces of at most the announced size in all, the last feed
-- was taken, and count, written, refusal, offset, header, register and every byte of the buffer are what the joined bytes come to
-- (`pieces`). Each beginning of a list of pieces is itself such a list. After a refused opening nothing ever changes (`closed`).
-- Pieces that fit, fed one after the other, are the joined bytes fed at once (`many`).
-- Assumes nothing.
use Prim.Native.Nat.{ℕ, zero, suc, ◌+◌, ◌-◌, ◌%◌, ◌^◌, ◌≤◌, ◌<◌}
use mathlib.Core.Path.{◌≡◌, refl, sym, ap, subst, ◌∙◌}
use mathlib.Core.List.{List, [], ◌∷◌, ◌++◌, flatten}
use mathlib.Core.Bool.{Bool, true, false}
use native.Mathlib.Nat.{zero-add}
use native.Mathlib.Omega.{arith}
use lib.ListN.{length, replicate, length-append}
use lib.Seq.{sets, sets-eq, drop-nil, get_or-append-add}
use lib.Dec.{ltb, eqb}
use borrow.Author.Tests.{ltb-false, eqb-true, eqb-false, eq-eqb, ne_eqb}
use Rattle.bits.specs.Bits.{Bytes}
use Rattle.bits.specs.Front.{onto}
use Rattle.entry.specs.Adapters.{kind_in}
use Rattle.drom.specs.Numbers.{first_of}
use Rattle.drom.specs.Header.{open_tests}
use Rattle.drom.specs.Walk.{Walked}
use Rattle.feed.specs.declared.feeding.State.{State}
use Rattle.feed.specs.Kinds.{table_of}
use Rattle.feed.specs.Run.{Run, steps}
use Rattle.feed.specs.Bounds.{in_bounds}
use Rattle.feed.specs.Feed.{fresh, opened_by, open_of, register_after, run_in, state_after, Answer, answer, feed_of}
use Rattle.feed.specs.Prefix.{prefix_of}
use Rattle.feed.specs.Pieces.{feed_many, Left, Told}
use Rattle.feed.specs.Pieces.Left.{fed}
use Rattle.feed.proofs.StepLaws.{steps_nil}
use Rattle.feed.proofs.BoundsLaws.{beside_register}
use Rattle.feed.proofs.WithinLaws.{steps_in}
use Rattle.feed.proofs.KindLaws.{table_at}
use Rattle.feed.proofs.MoveLaws.{steps_move}
use Rattle.feed.proofs.Cutting.{Taken, taken_is, accepted, feed_refused, take_both}
use Rattle.feed.proofs.Never.{fresh_in}
use Rattle.feed.proofs.PrefixEntries.{kinds_in, Agrees}
use Rattle.feed.proofs.PrefixHeader.{all_agree, header_is}
use Rattle.feed.proofs.PrefixLaws.{prefix_same, prefix_room}

-- ---- pieces joined

pub bytes_left : (xs ys : List ℕ) → Bytes (xs ++ ys) → Bytes xs
bytes_left [] ys k i = omega arith
bytes_left (x ∷ xs) ys k zero = k 0
bytes_left (x ∷ xs) ys k (suc i) = bytes_left xs ys (λ j. k (suc j)) i

pub bytes_right : (xs ys : List ℕ) → Bytes (xs ++ ys) → Bytes ys
bytes_right xs ys k i = rw get_or-append-add at (k (length xs + i))

feed_none : (s : State) (b : List ℕ) → Taken s [] b → feed_of s [] b ≡ answer 0 s b
feed_none s b t = taken_is s [] b t ∙ rw (steps_nil, drop-nil)

pub many : (s : State) (ps : List (List ℕ)) (b : List ℕ) → in_bounds s.core s.header s.pending ≡ true → 16368 ≤ length b → length (flatten ps) ≤ s.core.announced - s.core.taken
    → feed_many (answer 0 s b) ps ≡ feed_of s (flatten ps) b
unfolding flatten feed_many
many s [] b e l h = sym (feed_none s b (record { bounds = e; room = l; within = h }))
many s (p ∷ ps) b e l h =
    let r : Run = run_in s b in
    let m = steps_move r p in
    let n = length-append p (flatten ps) in
    let e' = steps_in r p e (omega arith) in
    let t : Taken s p b = record { bounds = e; room = l; within = omega arith } in
    let q = taken_is s p b t in
    let c : ℕ = register_after s.core.register s.core.taken p in
    let s' : State = state_after (steps r p) c in
    let b' : List ℕ = (steps r p).buffer in
    ap (λ (a : Answer). feed_many a ps) q
    ∙ many s' ps b' (beside_register (steps r p) c s'.header s'.pending ∙ e') (omega (arith, m.2)) (omega (arith, m.0, m.1))
    ∙ ap (λ (a : Answer). feed_of a.fed.state (flatten ps) a.buffer) (sym q)
    ∙ take_both s p (flatten ps) b t (omega arith) e'

-- a state that feeds left is one that is left
pub many_left : (a : Answer) (ps : List (List ℕ)) → Left a.fed.state → Bytes (flatten ps) → Left (feed_many a ps).fed.state
unfolding flatten feed_many
many_left a [] h k = h
many_left a (p ∷ ps) h k =
    many_left (feed_of a.fed.state p a.buffer) ps (fed h p a.buffer (bytes_left p (flatten ps) k)) (bytes_right p (flatten ps) k)

-- ---- an opening

module _ (list : List ℕ) (size room : ℕ) where
  pub open_is : first_of (open_tests list size room) ≡ 0 → open_of list size room ≡ fresh size 0 (table_of list)
  unfolding open_of
  open_is e = is_open (first_of (open_tests list size room)) e
    where
      is_open : (n : ℕ) → n ≡ 0 → opened_by n list size ≡ fresh size 0 (table_of list)
      is_open n z = rw (eq-eqb n 0 z)

  pub open_refused : (first_of (open_tests list size room) ≡ 0 → ⊥) → open_of list size room ≡ fresh 0 (first_of (open_tests list size room)) (replicate 64 0)
  unfolding open_of
  open_refused e = is_refused (first_of (open_tests list size room)) e
    where
      is_refused : (n : ℕ) → (n ≡ 0 → ⊥) → opened_by n list size ≡ fresh 0 n (replicate 64 0)
      is_refused n z = rw (ne_eqb n 0 z)

  -- what an accepted opening says
  pub open_passed : first_of (open_tests list size room) ≡ 0 → (16368 ≤ room) × (16 ≤ size)
  open_passed = go (eqb (length list % 2) 1) (ltb room 16368) (ltb size 16) refl refl
    where
      go : (o s f : Bool) → ltb room 16368 ≡ s → ltb size 16 ≡ f → first_of ((o, 5) ∷ (s, 4) ∷ (f, 1) ∷ []) ≡ 0 → (16368 ≤ room) × (16 ≤ size)
      go true s f p q h = absurd (omega arith)
      go false true f p q h = absurd (omega arith)
      go false false true p q h = absurd (omega arith)
      go false false false p q h = (ltb-false room 16368 p, ltb-false size 16 q)

  -- the numbers of a refused one
  pub open_number : (first_of (open_tests list size room) ≡ 0 → ⊥) → (1 ≤ first_of (open_tests list size room)) × (first_of (open_tests list size room) ≤ 5)
  open_number = go (eqb (length list % 2) 1) (ltb room 16368) (ltb size 16)
    where
      go : (o s f : Bool) → (first_of ((o, 5) ∷ (s, 4) ∷ (f, 1) ∷ []) ≡ 0 → ⊥)
          → (1 ≤ first_of ((o, 5) ∷ (s, 4) ∷ (f, 1) ∷ [])) × (first_of ((o, 5) ∷ (s, 4) ∷ (f, 1) ∷ []) ≤ 5)
      go true s f h = (omega arith, omega arith)
      go false true f h = (omega arith, omega arith)
      go false false true h = (omega arith, omega arith)
      go false false false h = absurd (h refl)

-- ---- after a refused opening

-- a state that announces nothing takes nothing
closed_feed : (n : ℕ) (kinds xs b : List ℕ) → ((feed_of (fresh 0 n kinds) xs b).fed.state ≡ fresh 0 n kinds) × ((feed_of (fresh 0 n kinds) xs b).buffer ≡ b)
closed_feed n kinds xs b = go xs (eqb (feed_of s xs b).fed.number 0) refl
  where
    s : State
    s = fresh 0 n kinds

    go : (ys : List ℕ) (t : Bool) → eqb (feed_of s ys b).fed.number 0 ≡ t → ((feed_of s ys b).fed.state ≡ s) × ((feed_of s ys b).buffer ≡ b)
    go ys false e =
        let q = feed_refused s ys b (eqb-false (feed_of s ys b).fed.number 0 e) in
        (ap (λ (a : Answer). a.fed.state) q, ap (λ (a : Answer). a.buffer) q)
    go [] true e =
        let q = feed_none s b (accepted s [] b (eqb-true (feed_of s [] b).fed.number 0 e)) in
        (ap (λ (a : Answer). a.fed.state) q, ap (λ (a : Answer). a.buffer) q)
    go (y ∷ ys) true e = let t = accepted s (y ∷ ys) b (eqb-true (feed_of s (y ∷ ys) b).fed.number 0 e) in absurd (omega (arith, t.within))

closed_many : (n : ℕ) (kinds : List ℕ) (a : Answer) (ps : List (List ℕ)) → a.fed.state ≡ fresh 0 n kinds
    → ((feed_many a ps).fed.state ≡ fresh 0 n kinds) × ((feed_many a ps).buffer ≡ a.buffer)
unfolding feed_many
closed_many n kinds a [] h = (h, refl)
closed_many n kinds a (p ∷ ps) h =
    let q = closed_feed n kinds p a.buffer in
    let a' : Answer = feed_of a.fed.state p a.buffer in
    let at : a'.fed.state ≡ fresh 0 n kinds = ap (λ (s : State). (feed_of s p a.buffer).fed.state) h ∙ q.0 in
    let m = closed_many n kinds a' ps at in
    (m.0, m.1 ∙ ap (λ (s : State). (feed_of s p a.buffer).buffer) h ∙ q.1)

pub closed : (list : List ℕ) (size room : ℕ) (ps : List (List ℕ)) (b : List ℕ) → (first_of (open_tests list size room) ≡ 0 → ⊥)
    → ((feed_many (answer 0 (open_of list size room) b) ps).fed.state ≡ open_of list size room) × ((feed_many (answer 0 (open_of list size room) b) ps).buffer ≡ b)
closed list size room ps b h =
    let n : ℕ = first_of (open_tests list size room) in
    let m = closed_many n (replicate 64 0) (answer 0 (open_of list size room) b) ps (open_refused list size room h) in
    (m.0 ∙ sym (open_refused list size room h), m.1)

-- ---- after an opening that is not refused

front : (bytes b : List ℕ) → length bytes ≤ length b → sets b 0 bytes ≡ onto bytes b
front bytes b h = sets-eq bytes b 0 (omega arith) ∙ rw zero-add

told_at_once : (list : List ℕ) (size : ℕ) (xs b : List ℕ) → 16 ≤ size → 16368 ≤ length b → Bytes xs → length xs ≤ size
    → Told list size xs b (feed_of (fresh size 0 (table_of list)) xs b)
told_at_once list size xs b f l k w =
    let s : State = fresh size 0 (table_of list) in
    let e = fresh_in size (table_of list) f in
    let r : Run = run_in s b in
    let m = steps_move r xs in
    let p : Walked = prefix_of (kind_in list) size xs in
    let same : prefix_of (kinds_in (table_of list)) size xs ≡ p = prefix_same (kinds_in (table_of list)) (kind_in list) (table_at list) size xs in
    let v : Agrees r p (steps r xs) = subst (λ (u : Walked). Agrees r u (steps r xs)) same (all_agree r xs refl refl refl refl refl refl k w) in
    let fits : length (flatten p.records) ≤ 16368 = prefix_room (kind_in list) size xs w in
    subst (Told list size xs b)
    (sym (taken_is s xs b (record { bounds = e; room = l; within = omega arith })))
    record {
      number = refl;
      announced = m.1;
      taken = omega (arith, m.0);
      refusal = v.number;
      offset = v.offset;
      count = omega (arith, v.count);
      written = omega (arith, v.written);
      records = v.buffer ∙ front (flatten p.records) b (omega arith);
      register = refl;
      header = λ n. header_is r xs refl refl refl refl refl refl k w n;
    }

pub pieces : (list : List ℕ) (size : ℕ) (ps : List (List ℕ)) (b : List ℕ) → size < 2 ^ 64 → first_of (open_tests list size (length b)) ≡ 0 → Bytes (flatten ps)
    → length (flatten ps) ≤ size → Told list size (flatten ps) b (feed_many (answer 0 (open_of list size (length b)) b) ps)
pieces list size ps b h o k w =
    let l : 16368 ≤ length b = (open_passed list size (length b) o).0 in
    let f : 16 ≤ size = (open_passed list size (length b) o).1 in
    let s : State = fresh size 0 (table_of list) in
    subst (Told list size (flatten ps) b)
    (sym (ap (λ (x : State). feed_many (answer 0 x b) ps) (open_is list size (length b) o) ∙ many s ps b (fresh_in size (table_of list) f) l (omega arith)))
    (told_at_once list size (flatten ps) b f l k w)
